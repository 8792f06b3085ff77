use mathlib.Core.Path.{ap, ◌∙◌}
use Prim.Native.Nat.{ℕ, ◌-◌}
use Rattle.table_rows.specs.Account.{released}
use Rattle.table_rows.specs.declared.account.Account.{Account}
use Rattle.table_rows.proofs.Stores.{record-stored}
use Rattle.table_rows.proofs.record_removal.Goals as goal

pub returns : goal.returns
unfolding released
returns c =
    let a = c.args in
    record-stored a.m.now _ _ _ _ _ _ c.put_held.ensures c.put_count.ensures
    (ap (λ (x : Account). x.held) c.after_removal-account.ensures ∙ ap (λ (k : ℕ). k - a.size) c.held_of.ensures)
    (ap (λ (x : Account). x.count) c.after_removal-account.ensures ∙ ap (λ (k : ℕ). k - 1) c.count_of.ensures)
