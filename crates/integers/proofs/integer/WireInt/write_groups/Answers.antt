use Prim.Native.Nat.{◌-◌}
use mathlib.Core.Path.{refl, sym, ap, ◌∙◌}
use native.Mathlib.Omega.{arith}
use lib.ListN.{length, length-set}
use Rattle.memory.specs.Bytes.{overlay}
use Rattle.integers.proofs.Writing.{last-group, next-group, groups-remain, rest-fits, groups-pos}
use Rattle.integers.proofs.integer.WireInt.write_groups.Goals as goal

pub loop-left-init : goal.loop-left-init
loop-left-init c = (3, c.requires.rest_bound, refl, refl, refl)

pub bounds-out-next : goal.bounds-out-next
bounds-out-next c = let l = c.loop-left in omega (arith, groups-pos l.invariant.0 l.left)

pub loop-left-preserved : goal.loop-left-preserved
loop-left-preserved c =
    let l = c.loop-left in
    let f = l.invariant.0 in
    let more = next-group f l.left (groups-remain f _ c.loop-left-test.true l.invariant.1) c.loop-left-test.true in (
      f - 1,
      rest-fits f _ c.loop-left-test.true l.invariant.1,
      l.invariant.2 ∙ ap (overlay l.out l.next) more,
      omega (arith, ap length more),
      simp length-set l.invariant.4,
    )

pub bounds-out-next-2 : goal.bounds-out-next-2
bounds-out-next-2 c = let l = c.loop-left in omega (arith, groups-pos l.invariant.0 l.left)

pub returns : goal.returns
returns c =
    let l = c.loop-left in
    let last = last-group l.invariant.0 l.left c.loop-left-test.false in
    record { value = omega (arith, ap length last); out_after = sym (l.invariant.2 ∙ ap (overlay l.out l.next) last) }
