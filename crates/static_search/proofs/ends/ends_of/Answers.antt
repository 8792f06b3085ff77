use native.Mathlib.Omega.{arith}
use Rattle.static_search.proofs.Words.{width-eight, width_four, width_two, ends-are, ends-one, ends-none}
use Rattle.static_search.proofs.ends.ends_of.Goals as goal

pub returns-then-n-ge8 : goal.returns-then-n-ge8
returns-then-n-ge8 c = ends-are _ 8 (width-eight _ c.if-n-ge8.true) c.u64_at.ensures c.u64_at-then-n-ge8.ensures

pub returns-then-n-ge4 : goal.returns-then-n-ge4
returns-then-n-ge4 c = ends-are _ 4 (width_four _ c.if-n-ge8.false c.if-n-ge4.true) c.u32_at.ensures c.u32_at-then-n-ge4.ensures

pub returns-then-n-ge2 : goal.returns-then-n-ge2
returns-then-n-ge2 c = ends-are _ 2 (width_two _ c.if-n-ge4.false c.if-n-ge2.true) c.u16_at.ensures c.u16_at-then-n-ge2.ensures

pub returns-then-n-eq1 : goal.returns-then-n-eq1
returns-then-n-eq1 c = ends-one _ c.if-n-eq1.true

pub returns : goal.returns
returns c = ends-none c.args.b.now (omega arith)
