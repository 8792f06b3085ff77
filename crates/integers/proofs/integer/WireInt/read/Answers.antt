use Prim.Native.Nat.{ℕ, ◌+◌}
use mathlib.Core.Path.{ap, sym, ◌∙◌}
use native.Mathlib.Omega.{arith}
use native.Mathlib.Nat.{mod-lt}
use Rattle.integers.proofs.Groups.{read_int-short, read_int-small, read_int-groups}
use Rattle.integers.proofs.integer.WireInt.read.Goals as goal
use Rattle.std.specs.Prelude.{Ok}

-- `WireInt::read` gives what `read_int` says: one equation of it for each way through the function.
pub returns-then-s-at : goal.returns-then-s-at
returns-then-s-at c = sym (read_int-short _ _ _ c.if-s-at.true)

pub returns-then-first-full : goal.returns-then-first-full
returns-then-first-full c =
    let d = c in
    ap (λ (v : ℕ). Ok (record { value = v }, d.args.at + 1)) c.new.ensures
    ∙ sym (read_int-small _ _ _ (omega arith) _ _ d.wide.ensures.0 d.power-full.ensures.0 c.if-first-full.true)

pub read_groups-requires : goal.read_groups-requires
read_groups-requires c = omega (arith, mod-lt c.wide.result {m = c.power-full.result} (omega arith))

pub returns : goal.returns
returns c =
    let d = c in
    c.read_groups.ensures
    ∙ sym (read_int-groups _ _ _ (omega arith) _ _ d.wide.ensures.0 d.power-full.ensures.0 c.if-first-full.false)
