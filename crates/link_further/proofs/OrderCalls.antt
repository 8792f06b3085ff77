-- A block or a closing, as the order of reports needs it: what it answers and writes is a matter of the entries and of the marks of its own stream, a closing's
-- not even of these; and it changes marks alone, to those that its answer says. Of the output lent a block takes the length alone.
-- By the tests of each call: none looks at the marks of another stream.
use mathlib.Core.Path.{◌≡◌, refl, sym, ap, ◌∙◌}
use Prim.Native.Nat.{ℕ}
use mathlib.Core.Bool.{Bool, true, false, not, ◌&&◌}
use mathlib.Core.Option.{Option, none, some}
use mathlib.Core.List.{List}
use lib.ListN.{length}
use lib.Dec.{ltb, leb}
use Rattle.memory.specs.Choice.{pick, need}
use Rattle.memory.proofs.Order.{not-both}
use Rattle.integers.specs.Answers.{Answer, out_of_turn, no_room}
use Rattle.fields.specs.Form.{list_form}
use Rattle.blocks.specs.Representation.{Representation}
use Rattle.blocks.specs.Reading.{BlockRead, read_block}
use Rattle.blocks.specs.Reading as blocks
use Rattle.blocks.specs.Meaning.{BlockMeaning, list, block_meaning}
use Rattle.blocks.specs.Meaning as meaning
use Rattle.model.specs.Parts.{Part, part_of, Marks, in_turn, streams}
use Rattle.model.specs.Outcome.{Outcome, Output, refuse}
use Rattle.model.specs.Decoder.{Decoder, with_finished, lookup, give_fields, decode_part, decode_block, close_parts}
use Rattle.model.specs.DecoderCalls.{decoder_call}
use Rattle.model.specs.DecoderCalls as at-decoder
use Rattle.model_laws.proofs.DecoderWays as ways
use Rattle.parts.specs.Turn.{part_turn}
use Rattle.reply.specs.Result.{Result}
use Rattle.link.specs.Calls.{DecoderCall}
use Rattle.link.specs.Calls as calls
use Rattle.link.specs.Histories.{finished_by}
use Rattle.link_further.specs.Order.{apart_from_block, apart_from_closing, apart}
use Rattle.link.proofs.Lifted.{read_block_call, decoder_call_of}
use Rattle.link.proofs.FinishedParts.{finished-call}
use Rattle.link_further.proofs.ApartFacts.{other-not, other-sym}
use Rattle.link_further.proofs.OrderMarks.{block-other, close_other}

-- the model's call
abbrev pub outcome : Decoder → DecoderCall → Outcome Decoder
outcome D c = decoder_call D (decoder_call_of D c)

-- the call is a block or a closing
abbrev pub Marking : DecoderCall → Type 0
Marking (calls.DecoderCall.read s) = ⊥
Marking (calls.DecoderCall.block s part b out) = Unit {0}
Marking (calls.DecoderCall.close k s) = Unit {0}
Marking (calls.DecoderCall.collect out) = ⊥
Marking (calls.DecoderCall.hold index) = ⊥

-- the marks that a block looks at are the same in f and in g; a closing looks at none; other calls are left out
abbrev pub SameFor : DecoderCall → Marks → Marks → Type 0
SameFor (calls.DecoderCall.read s) f g = ⊥
SameFor (calls.DecoderCall.block s part b out) f g = (p : Part) → f s p ≡ g s p
SameFor (calls.DecoderCall.close k s) f g = Unit {0}
SameFor (calls.DecoderCall.collect out) f g = ⊥
SameFor (calls.DecoderCall.hold index) f g = ⊥

-- ---- calls that are apart
pub apart-sym : (c d : DecoderCall) → apart c d ≡ true → apart d c ≡ true
unfolding apart apart_from_block apart_from_closing
apart-sym (calls.DecoderCall.read s) d h = not-both false h refl
apart-sym (calls.DecoderCall.block s part b out) (calls.DecoderCall.read x) h = not-both false h refl
apart-sym (calls.DecoderCall.block s part b out) (calls.DecoderCall.block t q x y) h = other-sym s t h
apart-sym (calls.DecoderCall.block s part b out) (calls.DecoderCall.close k t) h = other-sym s t h
apart-sym (calls.DecoderCall.block s part b out) (calls.DecoderCall.collect x) h = not-both false h refl
apart-sym (calls.DecoderCall.block s part b out) (calls.DecoderCall.hold i) h = not-both false h refl
apart-sym (calls.DecoderCall.close k s) (calls.DecoderCall.read x) h = not-both false h refl
apart-sym (calls.DecoderCall.close k s) (calls.DecoderCall.block t part x y) h = other-sym s t h
apart-sym (calls.DecoderCall.close k s) (calls.DecoderCall.close j t) h = refl
apart-sym (calls.DecoderCall.close k s) (calls.DecoderCall.collect x) h = not-both false h refl
apart-sym (calls.DecoderCall.close k s) (calls.DecoderCall.hold i) h = not-both false h refl
apart-sym (calls.DecoderCall.collect out) d h = not-both false h refl
apart-sym (calls.DecoderCall.hold i) d h = not-both false h refl

pub apart-marking : (c d : DecoderCall) → apart c d ≡ true → Marking c
unfolding apart
apart-marking (calls.DecoderCall.read s) d h = not-both false h refl
apart-marking (calls.DecoderCall.block s part b out) d h = tt
apart-marking (calls.DecoderCall.close k s) d h = tt
apart-marking (calls.DecoderCall.collect out) d h = not-both false h refl
apart-marking (calls.DecoderCall.hold i) d h = not-both false h refl

-- the other leaves the marks that the first looks at
pub apart-same : (c d : DecoderCall) → apart c d ≡ true → (f : Marks) (q : Result) → SameFor c (finished_by f d q) f
unfolding apart apart_from_block apart_from_closing
apart-same (calls.DecoderCall.read s) d h f q = not-both false h refl
apart-same (calls.DecoderCall.block s part b out) (calls.DecoderCall.read x) h f q = not-both false h refl
apart-same (calls.DecoderCall.block s part b out) (calls.DecoderCall.block t n x y) h f q = λ p. block-other f t s (λ e. other-not s t h (sym e)) p n x y q
apart-same (calls.DecoderCall.block s part b out) (calls.DecoderCall.close k t) h f q = λ p. close_other f t s (λ e. other-not s t h (sym e)) p k q
apart-same (calls.DecoderCall.block s part b out) (calls.DecoderCall.collect x) h f q = not-both false h refl
apart-same (calls.DecoderCall.block s part b out) (calls.DecoderCall.hold i) h f q = not-both false h refl
apart-same (calls.DecoderCall.close k s) d h f q = tt
apart-same (calls.DecoderCall.collect out) d h f q = not-both false h refl
apart-same (calls.DecoderCall.hold i) d h f q = not-both false h refl

-- ---- what it answers and writes
pub record Told : Type 0 where
  pub answer : Answer
  pub output : Output

abbrev pub told : Outcome Decoder → Told
told o = record { answer = o.answer; output = o.output }

module _ (D : Decoder) (f g : Marks) where
  abbrev F : Decoder
  F = with_finished D f

  abbrev G : Decoder
  G = with_finished D g

  -- a refusal is the same in both
  needs : (number : ℕ) (b : Bool) (x y : Outcome Decoder) → told x ≡ told y → told (need b (refuse F number) x) ≡ told (need b (refuse G number) y)
  needs number true x y e = e
  needs number false x y e = refl

  module _ (s room : ℕ) (same : (p : Part) → f s p ≡ g s p) where
    gives : (p : Part) (m : BlockMeaning) → told (give_fields F s p room m) ≡ told (give_fields G s p room m)
    unfolding give_fields
    gives p (meaning.BlockMeaning.waits i) = refl
    gives p (list fs) = needs no_room (leb (length (list_form fs)) room) _ _ refl

    decodes : (o : Option Part) (rs : List Representation) → told (decode_part F s o rs room) ≡ told (decode_part G s o rs room)
    unfolding decode_part in_turn lookup
    decodes none rs = refl
    decodes (some p) rs =
        needs out_of_turn (ltb s streams) _ _
        (needs out_of_turn (not (f s p)) _ _ (gives p (block_meaning (lookup F) rs))
        ∙ ap (λ (b : Bool). told (need (not b) (refuse G out_of_turn) (give_fields G s p room (block_meaning (lookup G) rs)))) (same p))

    turns : (o : Option Part) → part_turn f s o ≡ part_turn g s o
    unfolding part_turn in_turn
    turns none = refl
    turns (some p) = ap (λ (b : Bool). ltb s streams && not b) (same p)

    reads : (part : ℕ) (turn : Bool) (r : BlockRead)
        → told (decoder_call F (pick turn (read_block_call s part room r) (at-decoder.unread out_of_turn)))
        ≡ told (decoder_call G (pick turn (read_block_call s part room r) (at-decoder.unread out_of_turn)))
    unfolding decoder_call decode_block
    reads part true (blocks.BlockRead.block rs) = decodes (part_of part) rs
    reads part true (blocks.BlockRead.refused why) = refl
    reads part false r = refl

  pub same-told : (c : DecoderCall) → SameFor c f g → told (outcome F c) ≡ told (outcome G c)
  unfolding decoder_call_of decoder_call close_parts
  same-told (calls.DecoderCall.read s) same = absurd same
  same-told (calls.DecoderCall.block s part b out) same =
      reads s (length out) same part (part_turn f s (part_of part)) (read_block b)
      ∙ ap (λ (t : Bool). told (decoder_call G (pick t (read_block_call s part (length out) (read_block b)) (at-decoder.unread out_of_turn))))
      (turns s (length out) same (part_of part))
  same-told (calls.DecoderCall.close k s) same = needs out_of_turn (ltb s streams) _ _ refl
  same-told (calls.DecoderCall.collect out) same = absurd same
  same-told (calls.DecoderCall.hold index) same = absurd same

-- ---- what it changes
abbrev OnlyMarks : Decoder → Outcome Decoder → Type 0
OnlyMarks D o = o.state ≡ with_finished D o.state.finished

module _ (D : Decoder) where
  block-marks : (s part room : ℕ) (turn : Bool) (q : BlockRead)
      → OnlyMarks D (decoder_call D (pick turn (read_block_call s part room q) (at-decoder.unread out_of_turn)))
  unfolding decoder_call
  block-marks s part room true (blocks.BlockRead.block rs) =
      ways.block-ways (OnlyMarks D) D (λ a z. refl) s part rs room (λ p fs e low turn m fits. refl)
  block-marks s part room true (blocks.BlockRead.refused why) = refl
  block-marks s part room false q = refl

  only-marks : (c : DecoderCall) → Marking c → OnlyMarks D (outcome D c)
  unfolding decoder_call_of decoder_call
  only-marks (calls.DecoderCall.read s) k = absurd k
  only-marks (calls.DecoderCall.block s part b out) k =
      block-marks s part (length out) (part_turn D.finished s (part_of part)) (read_block b)
  only-marks (calls.DecoderCall.close j s) k = ways.close-ways (OnlyMarks D) D (λ a z. refl) j s (λ low. refl)
  only-marks (calls.DecoderCall.collect out) k = absurd k
  only-marks (calls.DecoderCall.hold index) k = absurd k

  pub next_marks : (c : DecoderCall) → Marking c → (r : Result) → r.answer ≡ (outcome D c).answer
      → (outcome D c).state ≡ with_finished D (finished_by D.finished c r)
  next_marks c k r e = only-marks c k ∙ ap (with_finished D) (sym (finished-call D c r e))

  -- ---- of the output lent: its length
  pub room-outcome : (s part : ℕ) (b out lent : List ℕ) → length out ≡ length lent
      → outcome D (calls.DecoderCall.block s part b out) ≡ outcome D (calls.DecoderCall.block s part b lent)
  unfolding decoder_call_of
  room-outcome s part b out lent =
      ap (λ (room : ℕ).
      decoder_call D (pick (part_turn D.finished s (part_of part)) (read_block_call s part room (read_block b)) (at-decoder.unread out_of_turn)))
