-- Demand 3, what stands before "Hence", of one state that forms one. Ready: every named part is finished, so no call accepts a block there.
-- Not ready: some named part is unfinished, and the block with the entry's index alone can be accepted there.
use mathlib.Core.Path.{◌≡◌, refl, sym, ap, ◌∙◌}
use mathlib.Core.Logic.{◌↔◌, ◌⊎◌, inl, inr, ⊎_elim}
use Prim.Native.Nat.{ℕ, ◌<◌}
use native.Mathlib.Omega.{arith}
use mathlib.Core.Bool.{true}
use mathlib.Core.Option.{some}
use mathlib.Core.List.Memᴰ
use mathlib.Core.List.{List, [], ◌∷◌}
use Rattle.blocks.specs.Representation.{Representation, indexed}
use Rattle.blocks.specs.Meaning.{Refers, block_references}
use Rattle.model.specs.Parts.{Part, Delete, names_part, is_ready, streams}
use Rattle.model.specs.Decoder.{Decoder, delete_of, ready_delete, ready, FormsDecoder}
use Rattle.model_laws.specs.Ready.{AbstractCouldStill, AbstractReadyHalf}
use Rattle.model_laws.proofs.Marks.{OpenPart, part_low, ready_marked, ready-or}
use Rattle.model_laws.proofs.CouldStill.{finished-refuses, open-takes}
use Rattle.model_laws.proofs.Forms.{delete-held}
use Rattle.model_laws.proofs.Collecting.{held-index, held-slot, none_ready, one_ready}

refers-itself : (i : ℕ) → Refers (indexed i ∷ []) i
unfolding block_references
refers-itself i = Memᴰ.head refl

module _ (D : Decoder) (F : FormsDecoder D) (i : ℕ) (d : Delete) (e : delete_of D i ≡ some d) where
  -- no block that could still be accepted in a named part refers to the entry
  abbrev Unreachable : Type 0
  Unreachable = (s : ℕ) (p : Part) (rs : List Representation) → names_part d s p ≡ true → Refers rs i → AbstractCouldStill D s p rs → ⊥

  ready-is : ready D i ≡ is_ready D.finished d
  unfolding ready ready_delete
  ready-is = ap (ready_delete D.finished) e

  low : (s : ℕ) (p : Part) → names_part d s p ≡ true → s < streams
  unfolding delete_of
  low s p = part_low d s p (F.deletes i d e).nontrailer (F.deletes i d e).trailer

  ready-unreachable : ready D i ≡ true → Unreachable
  ready-unreachable r s p rs n refers c =
      finished-refuses D s p rs (ready_marked D.finished d s p (sym ready-is ∙ r) (low s p n) n) c

  -- a block in a named part that refers to the entry and could still be accepted
  pub record Reaches : Type 0 where
    pub stream : ℕ
    pub part : Part
    pub named : names_part d stream part ≡ true
    pub still : AbstractCouldStill D stream part (indexed i ∷ [])

  open-reaches : OpenPart D.finished d streams → Reaches
  open-reaches o =
      let h = delete-held D F i d e in
      let f = held-index D F i h.0 h.1 in
      let from = f.0 in
      record {
        stream = o.stream;
        part = o.part;
        named = o.named;
        still = open-takes D i h.0.entry o.stream o.part o.low ((omega arith, f.1), tt) (held-slot D F i h.0 h.1) o.unmarked;
      }

  pub ready-or-reaches : (ready D i ≡ true) ⊎ Reaches
  ready-or-reaches = ⊎_elim (λ r. inl (ready-is ∙ r)) (λ o. inr (open-reaches o)) (ready-or D.finished d)

  unreachable-ready : Unreachable → ready D i ≡ true
  unreachable-ready n =
      ⊎_elim (λ r. r) (λ (o : Reaches). absurd (n o.stream o.part (indexed i ∷ []) o.named (refers-itself i) o.still)) ready-or-reaches

  pub exactly : (ready D i ≡ true) ↔ Unreachable
  exactly = (ready-unreachable, unreachable-ready)

pub ready-half : (D : Decoder) → FormsDecoder D → AbstractReadyHalf D
ready-half D F = record { exactly = exactly D F; none_ready = none_ready D F; one_ready = one_ready D F }
