use Prim.Native.Nat.{◌-◌}
use mathlib.Core.Path.{sym, ap, ◌∙◌}
use native.Mathlib.Omega.{arith}
use lib.ListN.{length, length-set}
use Rattle.memory.specs.Bytes.{overlay}
use Rattle.integers.proofs.Writing.{int-in-prefix, int-past-prefix, groups-pos}
use Rattle.integers.proofs.integer.WireInt.write.Goals as goal

pub bounds-out-at : goal.bounds-out-at
bounds-out-at c =
    let a = c.args in
    let e = int-in-prefix a.width a.top a.self.value _ c.power-full.ensures.0 c.if-value-full.true in
    omega (arith, ap length e)

pub returns-then-value-full : goal.returns-then-value-full
returns-then-value-full c =
    let a = c.args in
    let e = int-in-prefix a.width a.top a.self.value _ c.power-full.ensures.0 c.if-value-full.true in
    record { value = omega (arith, ap length e); out_after = sym (ap (overlay a.out.now a.at) e) }

pub bounds-out-at-2 : goal.bounds-out-at-2
bounds-out-at-2 c =
    let a = c.args in
    let e = int-past-prefix a.width a.top a.self.value _ c.power-full.ensures.0 c.if-value-full.false in
    omega (arith, ap length e, groups-pos 3 (a.self.value - (c.power-full.result - 1)))

pub write_groups-requires : goal.write_groups-requires
write_groups-requires c =
    let a = c.args in
    let e = int-past-prefix a.width a.top a.self.value _ c.power-full.ensures.0 c.if-value-full.false in
    record { rest_bound = omega arith; rest_in_bounds = simp length-set (omega (arith, ap length e)) }

pub returns : goal.returns
returns c =
    let d = c in
    let a = d.args in
    let w = c.write_groups.ensures in
    let e = int-past-prefix a.width a.top a.self.value _ d.power-full.ensures.0 d.if-value-full.false in
    record { value = omega (arith, w.value, ap length e); out_after = w.out_after ∙ sym (ap (overlay a.out.now a.at) e) }
