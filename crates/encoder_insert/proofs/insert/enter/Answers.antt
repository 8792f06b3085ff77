use Prim.Native.Nat.{ℕ, ◌+◌, ◌≤◌}
use mathlib.Core.Path.{◌≡◌, sym, subst, ◌∙◌}
use mathlib.Core.Bool.{true}
use mathlib.Core.List.{List}
use native.Mathlib.Omega.{arith}
use lib.ListN.{length}
use Rattle.memory.specs.Bytes.{Small}
use Rattle.state.specs.Layout.{count_of, held_of}
use Rattle.state.specs.Forms.{forms_encoder}
use Rattle.table_search.specs.Search.{vacant_row}
use Rattle.table.specs.Changes.{Opening}
use Rattle.horizons.specs.Horizons.{horizons_opened}
use Rattle.table_laws.proofs.Room.{room-claim}
use Rattle.encoder.proofs.Standing.{changes, long}
use Rattle.encoder_insert.proofs.insert.enter.Goals as goal

-- the place is vacant, and there is room
opening_at : (m : List ℕ) (place name value : ℕ) → Small m → forms_encoder m ≡ true → place ≡ vacant_row m (count_of m) 0
    → held_of m + (name + value + 32) ≤ 4096 → name ≤ 255 → Opening m place name value
opening_at m place name value small forms vacant held short =
    subst (λ (p : ℕ). Opening m p name value) (sym vacant)
    ((changes m small forms).opening name value held (room-claim.encoder m forms _ held) short)

pub count_of-count-requires : goal.count_of-count-requires
count_of-count-requires c =
    let p = c.requires in
    let small : Small c.args.m.now = λ k. grind arith in
    let opening : Opening c.args.m.now c.args.place (length c.args.name.now) (length c.args.value.now) =
    opening_at _ _ _ _ small p.place_value.2 p.place_value.0 p.value_bound.0 p.value_bound.1 in
    omega (arith, opening.long)

pub insert-requires : goal.insert-requires
insert-requires c =
    let p = c.requires in
    let small : Small c.args.m.now = λ k. grind arith in
    let opening : Opening c.args.m.now c.args.place (length c.args.name.now) (length c.args.value.now) =
    opening_at _ _ _ _ small p.place_value.2 p.place_value.0 p.value_bound.0 p.value_bound.1 in
    opening

pub open_horizons-requires : goal.open_horizons-requires
open_horizons-requires c =
    let p = c.requires in
    let small : Small c.args.m.now = λ k. grind arith in
    let opening : Opening c.args.m.now c.args.place (length c.args.name.now) (length c.args.value.now) =
    opening_at _ _ _ _ small p.place_value.2 p.place_value.0 p.value_bound.0 p.value_bound.1 in
    (omega (arith, opening.below), omega (arith, opening.few), omega (arith, long _ small p.place_value.2))

pub returns : goal.returns
returns c =
    let n = c.count_of-count.ensures in
    let e = c.insert.ensures in
    c.open_horizons.ensures ∙ (λ k. horizons_opened (e k) c.args.place (n k))
