-- A block offered under the rules: its answer is as the demand says, and the invariant of the link is kept. The four conclusions for
-- one block, of the slots that it names, read as answers of the decoder.
use mathlib.Core.Path.{◌≡◌, refl, sym, ap, ◌∙◌, subst}
use mathlib.Core.Logic.{◌⊎◌, inl, inr}
use Prim.Native.Nat.{ℕ, ◌≤◌, ◌<◌}
use native.Mathlib.Omega.{arith}
use mathlib.Core.Bool.{false}
use mathlib.Core.Option.{some}
use mathlib.Core.List.{List, [], ◌∷◌, ◌++◌}
use lib.ListN.{length}
use Rattle.fields.specs.Form.{list_form}
use Rattle.blocks.specs.Representation.{Representation}
use Rattle.blocks.specs.Meaning.{Refers}
use Rattle.model.specs.Table.{look}
use Rattle.model.specs.Parts.{Part, part_number, block_marks, streams}
use Rattle.model.specs.Outcome.{fields, Outcome}
use Rattle.model.specs.Decoder.{Decoder, held_index, is_some, with_finished, decode_block}
use Rattle.model.specs.Encoder.{Encoder}
use Rattle.model.specs.Events.{at, Event, offered}
use Rattle.model_laws.specs.Link.{said_in, heard_in, Written, written_in, held_after, AbstractRules, AbstractServedBlock}
use Rattle.model_laws.proofs.DecoderWays as decoder
use Rattle.model_laws.proofs.LinkHistory.{accept-history}
use Rattle.model_laws.proofs.Marks.{part-number, number_same, part-back, block-keeps}
use Rattle.model_laws.proofs.LinkRules.{unfinished}
use Rattle.model_laws.proofs.LinkState.{link_of, Meant, management-above}
use Rattle.model_laws.proofs.LinkWrites.{Tied, now, still-tied, quiet-tied}
use Rattle.model_laws.proofs.View.{tables_of, slots_of}
use Rattle.model_laws.proofs.TableView.{vacant-there, vacant-back}
use Rattle.model_laws.proofs.BlockView.{BlockAgrees, block-agrees, refers-items, refers-back}
use Rattle.model_laws.proofs.Slots.Machine.{BlockAnswer, gives, waits_for, out_of_turn, Item}
use Rattle.model_laws.proofs.Slots.Machine as machine
use Rattle.model_laws.proofs.Slots.Invariant.{as_items, fields_of, WrittenBlock}
use Rattle.model_laws.proofs.Slots.Freeing.{marks-invariant}
use Rattle.model_laws.proofs.Slots.Serving.{block-conclusions}
use Rattle.model_laws.proofs.Slots.Serving as serving

-- what a block does to the decoder
pub data Decoded (D : Decoder) (s : ℕ) (p : Part) (o : Outcome Decoder) : Type 0 where
  accepted : o.answer.number ≡ 0 → o.state ≡ with_finished D (block_marks p s D.finished) → Decoded D s p o
  left : o.state ≡ D → Decoded D s p o

pub decoded : (D : Decoder) (s : ℕ) (p : Part) (rs : List Representation) (room : ℕ) → Decoded D s p (decode_block D s (part_number p) rs room)
decoded D s p rs room =
    decoder.block-ways (Decoded D s p) D (λ a e. left refl) s (part_number p) rs room
    (λ q fs e f g h k.
    let z : p ≡ q = number_same p q (part-number (part_number p) q e) in
    accepted refl (ap (λ (t : Part). with_finished D (block_marks t s D.finished)) (sym z)))

module _ (es : List Event) (R : AbstractRules es) (xs ys : List Event) (E : Encoder) (D : Decoder) (T : Tied xs E D)
    (vacancies : (i : ℕ) → held_after xs i ≡ is_some (look held_index i D.entries)) (n : ℕ) (w : Written) (found : at n (written_in xs) ≡ some w)
    (M : Meant w T.blocks) (room : ℕ) (enough : length (list_form w.fields) ≤ room) where
  abbrev b : WrittenBlock
  b = M.blk

  abbrev o : Outcome Decoder
  o = decode_block D b.place.stream (part_number b.place.part) w.says room

  module _ (e : es ≡ xs ++ (offered n b.place.stream (part_number b.place.part) w.says room o.answer o.output ∷ ys)) where
    open-part : D.finished b.place.stream b.place.part ≡ false
    open-part =
        unfinished es R xs ys n b.place.stream b.place.part w.says room o.answer o.output e w found (sym M.stream) (sym M.part)
        D.finished E.written T.history

    conclusions : serving.Conclusions (now xs E D T) b
    unfolding link_of tables_of
    conclusions = block-conclusions (now xs E D T) T.invariant b M.there open-part

    low : b.place.stream < streams
    low = rw M.stream (T.history.marked n w found).low

    agrees : BlockAgrees o (machine.offer (tables_of D) b.place.stream b.place.part (as_items b.items))
    unfolding link_of
    agrees =
        rw M.says
        (block-agrees D b.place.stream (part_number b.place.part) b.place.part w.says room (part-back b.place.part) low
        (λ fs h.
        let g = conclusions.right fs (ap (machine.offer (tables_of D) b.place.stream b.place.part) M.says ∙ h) in
        rw (g ∙ M.gives) enough))

    abbrev answer : BlockAnswer
    answer = machine.offer (tables_of D) b.place.stream b.place.part (as_items b.items)

    -- by the answer of the tables as functions
    no_fault : (a : BlockAnswer) → answer ≡ a → (o.answer.number ≡ 0) ⊎ (o.answer.number ≡ 1)
    unfolding link_of
    no_fault (gives fs) h = inl (agrees.done fs h).0
    no_fault (waits_for i) h = inr (agrees.wait i h)
    no_fault out_of_turn h = absurd (conclusions.no_fault h)

    right : (a : BlockAnswer) → answer ≡ a → o.answer.number ≡ 0 → o.output ≡ fields w.fields
    unfolding link_of
    right (gives fs) h z = (agrees.done fs h).1 ∙ ap fields (conclusions.right fs h ∙ M.gives)
    right (waits_for i) h z = let y = agrees.wait i h in absurd (omega (arith, y, z))
    right out_of_turn h z = absurd (conclusions.no_fault h)

    abbrev Empty : Type 0
    Empty = (i : ℕ) × (61 < i) × Refers w.says i × (held_after xs i ≡ false)

    waits-then : (a : BlockAnswer) → answer ≡ a → o.answer.number ≡ 1 → Empty
    unfolding link_of tables_of
    waits-then (gives fs) h z = let y = (agrees.done fs h).0 in absurd (omega (arith, y, z))
    waits-then (waits_for i) h z =
        let x = conclusions.waits.0 (record { slot = i; equal = h }) in
        let r = refers-back w.says M.fine x.0 (subst (λ (l : List Item). machine.NamesSlot x.0 l) M.says x.1.refers) in
        (x.0, r.0, r.1, vacancies x.0 ∙ vacant-back D x.0 x.1.empty)
    waits-then out_of_turn h z = absurd (conclusions.no_fault h)

    waits_if : Empty → o.answer.number ≡ 1
    unfolding link_of tables_of
    waits_if x =
        let r = subst (λ (l : List Item). machine.NamesSlot x.0 l) (sym M.says) (refers-items w.says x.0 x.2 x.1) in
        let v = vacant-there D x.0 (sym (vacancies x.0) ∙ x.3) in
        let y = conclusions.waits.1 (x.0, record { refers = r; empty = v }) in
        agrees.wait y.slot y.equal

    pub served : AbstractServedBlock xs w o.answer o.output
    unfolding link_of
    served = record {
      no_fault = no_fault answer refl;
      right = right answer refl;
      waits = (waits-then answer refl, waits_if);
      prompt = λ h.
          let a = management-above (said_in xs) (heard_in xs) T.unread b.before (rw M.before h) T.management in
          (agrees.done (fields_of b.items) (conclusions.prompt a)).0;
    }

  -- the invariant after it
  pub offered-tied : Tied (xs ++ (offered n b.place.stream (part_number b.place.part) w.says room o.answer o.output ∷ [])) E o.state
  unfolding link_of tables_of slots_of
  offered-tied = go (decoded D b.place.stream b.place.part w.says room)
    where
      go : Decoded D b.place.stream b.place.part o
          → Tied (xs ++ (offered n b.place.stream (part_number b.place.part) w.says room o.answer o.output ∷ [])) E o.state
      go (accepted z s) =
          subst (λ (D' : Decoder). Tied (xs
          ++ (offered n b.place.stream (part_number b.place.part) w.says room o.answer o.output ∷ [])) E D') (sym s)
          (still-tied xs E D T _ tt (with_finished D (block_marks b.place.part b.place.stream D.finished))
          (accept-history xs n b.place.stream b.place.part w.says room o.answer o.output
          D.finished E.written w found (sym M.stream) (sym M.part) z T.history)
          (marks-invariant (now xs E D T) (block_marks b.place.part b.place.stream D.finished)
          (λ q h. block-keeps b.place.part b.place.stream D.finished q.stream q.part h) T.invariant))
      go (left s) =
          subst (λ (D' : Decoder). Tied (xs
          ++ (offered n b.place.stream (part_number b.place.part) w.says room o.answer o.output ∷ [])) E D') (sym s)
          (quiet-tied xs E D T _ tt tt)
