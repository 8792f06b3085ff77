use mathlib.Core.Path.{◌≡◌, ◌∙◌}
use Prim.Native.Nat.{ℕ}
use mathlib.Core.List.{List}
use lib.ListN.{length, set, length-set}
use Rattle.state.specs.Layout.{february}
use Rattle.table.proofs.Fresh.{head-stored}
use Rattle.table.proofs.start.put_head.Goals as goal

-- `table::start::put_head` meets its contract: the stores stand one behind the other.
-- the first two stores keep the length
two-set : (m : List ℕ) (role : ℕ) → length (set (set m 0 role) 1 february) ≡ length m
two-set m role = length-set (set m 0 role) 1 february ∙ length-set m 0 role

pub returns : goal.returns
returns c =
    let a = c.args in
    head-stored a.m.now _ _ _ _ _ a.role a.limit c.put_limit.ensures c.put_held.ensures c.put_count.ensures
    c.put_delete_count.ensures c.put_zeros.ensures
