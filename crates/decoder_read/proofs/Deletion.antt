-- A delete: what the search and the row's status say is what the model answers.
-- By the tests in their order; a list that was read is one that a delete can have.
use mathlib.Core.Path.{◌≡◌, ap, ◌∙◌}
use Prim.Native.Nat.{ℕ, suc, ◌-◌}
use native.Mathlib.Omega.{arith}
use mathlib.Core.Bool.{not}
use mathlib.Core.Option.{Option}
use mathlib.Core.List.{List}
use Rattle.memory.proofs.Order.{need-true, need-false}
use Rattle.integers.specs.Answers.{done, refusal, vacant, under_deletion}
use Rattle.stream_lists.specs.StreamList.{InList, list_of}
use Rattle.stream_lists.specs.declared.stream_list.ListPlace.{ListPlace}
use Rattle.stream_lists.proofs.ListBounds.{deltas-good}
use Rattle.instructions.specs.Instruction.{FineList}
use Rattle.model.specs.Parts.{Delete}
use Rattle.model.specs.Decoder.{Held, is_some, delete_entry}
use Rattle.state.specs.Layout.{status_at}
use Rattle.deletes.specs.Deletes.{appended}
use Rattle.table_laws.specs.DecoderChanges.{found, missing}
use Rattle.decoder.proofs.Standing.{Stands, Leaves, steps, changes, stays}
use Rattle.decoder_read.specs.Steps.{kept_delete}

pub list-fine : (s : List ℕ) (p : ListPlace) → InList s p → FineList (list_of s p)
list-fine s p l =
    let g = deltas-good s p.count p.deltas p.horizon l.end l.deltas in
    (l.near, omega (arith, g.counted, l.few), g.fits)

module _ (m : List ℕ) (st : Stands m) (d : Delete) (taken place : ℕ) where
  pub delete-vacant : missing m d.index place → Leaves (kept_delete m d taken) (refusal vacant) m
  unfolding delete_entry
  delete-vacant e =
      stays m st _ vacant (need-false _ _ _ (ap (λ (o : Option Held). is_some o) ((changes m st).nowhere d.index place e)))

  module _ (e : found m d.index place) where
    pub delete-again : (status_at m place ≡ 0 → ⊥) → Leaves (kept_delete m d taken) (refusal under_deletion) m
    unfolding delete_entry
    delete-again n =
        let C = changes m st in
        let s : status_at m place ≡ suc (status_at m place - 1) = omega arith in
        stays m st _ under_deletion
        (need-true _ _ _ (ap (λ (o : Option Held). is_some o) (C.here d.index place e).1)
        ∙ need-false _ _ _ (ap (λ (o : Option Delete). not (is_some o)) (C.deleted d.index place _ e s).0))

    pub delete-kept : status_at m place ≡ 0 → FineList d.nontrailer → FineList d.trailer
        → Leaves (kept_delete m d taken) (done taken 0) (appended m place d)
    unfolding delete_entry
    delete-kept z nontrailer trailer =
        let C = changes m st in
        steps m _ _ taken 0 _
        (need-true _ _ _ (ap (λ (o : Option Held). is_some o) (C.here d.index place e).1)
        ∙ need-true _ _ _ (ap (λ (o : Option Delete). not (is_some o)) (C.live d.index place e z)))
        (C.keep d place e z nontrailer trailer)
