-- Which blocks could still be accepted. In a finished part none, since no call takes a mark back.
-- In every other the block that has a held entry's index alone.
use mathlib.Core.Path.{◌≡◌, refl, sym, ap, ◌∙◌}
use Prim.Native.Nat.{ℕ, ◌<◌}
use native.Mathlib.Omega.{arith}
use mathlib.Core.Bool.{true, false}
use mathlib.Core.Option.{Option, some}
use mathlib.Core.List.{List, [], ◌∷◌}
use lib.ListN.{length}
use lib.Dec.{ltb, leb}
use borrow.Author.Tests.{eqb-false, lt-ltb, le-leb}
use Rattle.memory.proofs.Order.{need-both, need-true, not-both}
use Rattle.statics.specs.Table.{Entry}
use Rattle.fields.specs.Form.{Field, list_form}
use Rattle.instructions.specs.Instruction.{insert, delete, acknowledge}
use Rattle.blocks.specs.Representation.{Representation, indexed, AllFine}
use Rattle.blocks.specs.Meaning.{Slot, holds, list, block_meaning, field_meaning, on_slot, after_field}
use Rattle.model.specs.Parts.{Part, nontrailer, trailer, part_number, Marks, block_marks, Closing, in_turn, streams}
use Rattle.model.specs.Outcome.{fields, Outcome, refuse, finish}
use Rattle.model.specs.Decoder.{Decoder, lookup, with_finished, give_fields, decode_part, decode_block, close_parts, without}
use Rattle.model.specs.DecoderCalls.{DecoderCall, read, block, close, collect, hold, unread, decoder_call, after_decoder}
use Rattle.model_laws.specs.Ready.{AbstractCouldStill}
use Rattle.model_laws.proofs.DecoderWays.{insert-ways, delete-ways, acknowledge-ways, block-ways, close-ways, collect-ways, hold-ways}
use Rattle.model_laws.proofs.Marks.{part-back, Closes, closed-keeps, block-keeps, closing-marks, trailer-marks, marked-late, open_turn}

-- ---- finished parts stay finished

abbrev Stays : ℕ → Part → Outcome Decoder → Type 0
Stays s p o = o.state.finished s p ≡ true

module _ (D : Decoder) (s : ℕ) (p : Part) (h : D.finished s p ≡ true) where
  pub call_stays : (c : DecoderCall) → (decoder_call D c).state.finished s p ≡ true
  unfolding decoder_call without
  call_stays (read (insert i name value) taken) = insert-ways (Stays s p) D (λ a z. h) i name value taken (λ xs e free fits. h)
  call_stays (read (delete i first last) taken) = delete-ways (Stays s p) D (λ a z. h) i first last taken (λ x e free. h)
  call_stays (read (acknowledge i) taken) = acknowledge-ways (Stays s p) D (λ a z. h) i taken
  call_stays (block t part rs room) =
      block-ways (Stays s p) D (λ a z. h) t part rs room (λ q fs e low turn m fits. block-keeps q t D.finished s p h)
  call_stays (close k t) = close-ways (Stays s p) D (λ a z. h) k t (λ low. closed-keeps k t D.finished s p h)
  call_stays (collect room) = collect-ways (Stays s p) D (λ a z. h) room (λ e. h) (λ x e fits. h)
  call_stays (hold i) = hold-ways (Stays s p) D (λ a z. h) i (λ d e. h)
  call_stays (unread number) = h

pub calls-stay : (D : Decoder) (s : ℕ) (p : Part) (cs : List DecoderCall) → D.finished s p ≡ true → (after_decoder D cs).finished s p ≡ true
unfolding after_decoder
calls-stay D s p [] h = h
calls-stay D s p (c ∷ cs) h = calls-stay (decoder_call D c).state s p cs (call_stays D s p h c)

-- ---- a block that is done

-- it was in turn, and marked what it marks
record Done (D : Decoder) (s : ℕ) (p : Part) (o : Outcome Decoder) : Type 0 where
  turn : in_turn D.finished s p ≡ true
  after : o.state.finished ≡ block_marks p s D.finished

block-done : (D : Decoder) (s : ℕ) (p : Part) (rs : List Representation) (room : ℕ)
    → (decoder_call D (block s (part_number p) rs room)).answer.number ≡ 0 → Done D s p (decoder_call D (block s (part_number p) rs room))
unfolding decoder_call
block-done D s p rs room =
    block-ways (λ (o : Outcome Decoder). o.answer.number ≡ 0 → Done D s p o) D (λ a z e. absurd (eqb-false a.number 0 z e)) s (part_number p) rs room
    (λ q fs e low turn m fits zero.
    let f : some p ≡ some q = sym (part-back p) ∙ e in
    let same : q ≡ p = cc in
    record { turn = rw same at turn; after = ap (λ (r : Part). block_marks r s D.finished) same })

pub finished-refuses : (D : Decoder) (s : ℕ) (p : Part) (rs : List Representation) → D.finished s p ≡ true → AbstractCouldStill D s p rs → ⊥
finished-refuses D s p rs h c =
    let E = after_decoder D c.first in
    not-both (in_turn E.finished s p) (block-done E s p rs c.room c.accepted).turn
    (marked-late E.finished s p (calls-stay D s p c.first h))

-- ---- what finishes a part

-- "a non-trailer block does not finish its part"
pub nontrailer_leaves : (D : Decoder) (s : ℕ) (rs : List Representation) (room : ℕ) → (decoder_call D (block s (part_number nontrailer) rs room)).state ≡ D
unfolding decoder_call block_marks
nontrailer_leaves D s rs room =
    block-ways (λ (o : Outcome Decoder). o.state ≡ D) D (λ a z. refl) s (part_number nontrailer) rs room
    (λ q fs e low turn m fits.
    let f : some nontrailer ≡ some q = sym (part-back nontrailer) ∙ e in
    let same : q ≡ nontrailer = cc in
    ap (λ (r : Part). with_finished D (block_marks r s D.finished)) same)

-- "a trailer block is answered "done", which finishes both": no block of either part is accepted any more
pub trailer_finishes : (D : Decoder) (s : ℕ) (p : Part) (rs : List Representation) (room : ℕ)
    → (decoder_call D (block s (part_number trailer) rs room)).answer.number ≡ 0
    → (qs : List Representation) → AbstractCouldStill (decoder_call D (block s (part_number trailer) rs room)).state s p qs → ⊥
trailer_finishes D s p rs room e qs =
    finished-refuses (decoder_call D (block s (part_number trailer) rs room)).state s p qs
    (ap (λ (f : Marks). f s p) (block-done D s trailer rs room e).after ∙ trailer-marks s D.finished p)

-- a part closed takes no block any more
pub close-finishes : (k : Closing) (D : Decoder) (s : ℕ) (p : Part) → Closes k p → s < streams → (rs : List Representation)
    → AbstractCouldStill (decoder_call D (close k s)).state s p rs → ⊥
unfolding decoder_call close_parts
close-finishes k D s p c low rs =
    finished-refuses (close_parts D k s).state s p rs
    (need-both (λ (o : Outcome Decoder). o.state.finished s p ≡ true) (ltb s streams) (refuse D 11) _
    (λ t. not-both (ltb s streams) (lt-ltb s streams low) t) (λ t. closing-marks k s D.finished p c))

-- ---- an unfinished part

-- the block is answered as its part is
part-call : (D : Decoder) (s : ℕ) (p : Part) (rs : List Representation) (room : ℕ)
    → decoder_call D (block s (part_number p) rs room) ≡ decode_part D s (some p) rs room
unfolding decoder_call decode_block
part-call D s p rs room = ap (λ (o : Option Part). decode_part D s o rs room) (part-back p)

-- a block in turn, whose indexes are all held, is done; its fields want this room
pub takes : (D : Decoder) (s : ℕ) (p : Part) (rs : List Representation) (fs : List Field) → s < streams → in_turn D.finished s p ≡ true
    → block_meaning (lookup D) rs ≡ list fs
    → decoder_call D (block s (part_number p) rs (length (list_form fs)))
    ≡ finish (with_finished D (block_marks p s D.finished)) (length (list_form fs)) 0 (fields fs)
unfolding decode_part give_fields
takes D s p rs fs low turn means =
    part-call D s p rs (length (list_form fs))
    ∙ need-true (ltb s streams) (refuse D 11) _ (lt-ltb s streams low)
    ∙ need-true (in_turn D.finished s p) (refuse D 11) _ turn
    ∙ ap (give_fields D s p (length (list_form fs))) means
    ∙ need-true (leb (length (list_form fs)) (length (list_form fs))) (refuse D 12) _ (le-leb (length (list_form fs)) (length (list_form fs)) (omega arith))

-- the block that has one index alone
index-means : (look_up : ℕ → Slot) (i : ℕ) (e : Entry) → look_up i ≡ holds e
    → block_meaning look_up (indexed i ∷ []) ≡ list (record { flag = 0; name = e.name; value = e.value } ∷ [])
unfolding block_meaning field_meaning
index-means look_up i e h =
    ap (λ (s : Slot). after_field (on_slot i s (λ x. record { flag = 0; name = x.name; value = x.value })) (list [])) h

-- an unfinished part can still take a block that refers to a held entry
pub open-takes : (D : Decoder) (i : ℕ) (e : Entry) (s : ℕ) (p : Part) → s < streams → AllFine (indexed i ∷ []) → lookup D i ≡ holds e
    → D.finished s p ≡ false → AbstractCouldStill D s p (indexed i ∷ [])
unfolding after_decoder
open-takes D i e s p low f h k = record {
  says = f;
  first = [];
  calls = tt;
  room = _;
  accepted = ap (λ (o : Outcome Decoder). o.answer.number)
      (takes D s p (indexed i ∷ []) _ low (open_turn D.finished s p k) (index-means (lookup D) i e h));
}
