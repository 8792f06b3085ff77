use mathlib.Core.Path.{sym, ap, ◌∙◌}
use Prim.Native.Nat.{ℕ, ◌+◌, ◌%◌, ◌<◌}
use native.Mathlib.Omega.{arith}
use native.Mathlib.Nat.{mod-lt}
use Rattle.integers.proofs.Short.{short-int-none, short-int-one, short-int-cut, short-int-long, short-int-two}
use Rattle.integers.proofs.integer.WireInt.short.Goals as goal
use Rattle.integers.proofs.integer.WireInt.short.Goals.{Else-group-ge-GROUP}
use Rattle.std.specs.Prelude.{Some}

-- `WireInt::short` gives what `short_int_at` says: one equation of it for each way through the function.
first_small : (c : Else-group-ge-GROUP) → c.wide.result % c.power-full.result < 256
first_small c = omega (arith, c.power-full.ensures, mod-lt c.wide.result {m = c.power-full.result} (omega (arith, c.power-full.ensures)))

pub returns-then-s-at : goal.returns-then-s-at
returns-then-s-at c = sym (short-int-none _ _ _ c.if-s-at.true)

pub returns-then-first-full : goal.returns-then-first-full
returns-then-first-full c =
    ap (λ (v : ℕ). Some (record { value = v }, c.args.at + 1)) c.new.ensures
    ∙ sym (short-int-one _ _ _ c.if-s-at.false _ _ c.wide.ensures.0 c.power-full.ensures.0 c.if-first-full.true)

pub returns-then-s-next : goal.returns-then-s-next
returns-then-s-next c = sym (short-int-cut _ _ _ c.if-s-at.false _ _ c.wide.ensures.0 c.power-full.ensures.0 c.if-first-full.false c.if-s-next.true)

pub returns-then-group-ge-GROUP : goal.returns-then-group-ge-GROUP
returns-then-group-ge-GROUP c =
    sym (short-int-long _ _ _ c.if-s-at.false _ _ c.wide.ensures.0 c.power-full.ensures.0 c.if-first-full.false c.if-s-next.false _ c.wide-group.ensures.0
    c.if-group-ge-GROUP.true)

pub overflow_add-first : goal.overflow_add-first
overflow_add-first c = omega (arith, first_small c, c.if-group-ge-GROUP.false)

pub new-requires-2 : goal.new-requires-2
new-requires-2 c = omega (arith, first_small c, c.if-group-ge-GROUP.false)

pub returns : goal.returns
returns c =
    ap (λ (v : ℕ). Some (record { value = v }, c.args.at + 1 + 1)) c.new-2.ensures
    ∙ sym (short-int-two _ _ _ c.if-s-at.false _ _ c.wide.ensures.0 c.power-full.ensures.0 c.if-first-full.false c.if-s-next.false _ c.wide-group.ensures.0
    c.if-group-ge-GROUP.false)
