use Prim.Native.Nat.{◌-◌}
use mathlib.Core.Path.{◌≡◌, refl, sym, ap, ◌∙◌}
use native.Mathlib.Omega.{arith}
use mathlib.Core.List.{[], ◌∷◌, ◌++◌}
use lib.ListN.{length}
use Rattle.std.proofs.lemmas.Result.{err_from_is_err_and}
use Rattle.integers.specs.Answers.{checked_number}
use Rattle.blocks.specs.Reading.{BlockRead, representation_of, read_block, block_answer, block_checked}
use Rattle.blocks.specs.Reading.BlockRead.{block, refused}
use Rattle.blocks.proofs.Turns.{block-done, block_refused, block_more, block-long, block-whole}
use Rattle.blocks.proofs.Bounds.{representation-good}
use Rattle.blocks.proofs.read.check_block.Goals as goal

-- a check's number is the block's
block-number : (r : BlockRead) → checked_number (block_checked r) ≡ (block_answer r).number
block-number (block rs) = refl
block-number (refused why) = refl

-- The invariant: what is left to read gives the answer of the whole.
pub returns-then-s-gt-BLOCK_LIMIT : goal.returns-then-s-gt-BLOCK_LIMIT
returns-then-s-gt-BLOCK_LIMIT c =
    let d = sym (ap block_checked (block-long _ c.if-s-gt-BLOCK_LIMIT.true)) in
    record { checked = d; number = ap checked_number d ∙ block-number (read_block c.args.s.now) }

pub loop-at-init : goal.loop-at-init
loop-at-init c = (length c.args.s.now, [], omega arith, block-whole _ c.if-s-gt-BLOCK_LIMIT.false)

pub returns-in_err-at : goal.returns-in_err-at
returns-in_err-at c =
    let p = err_from_is_err_and c.from_residual.result c.from_residual.ensures.1 in
    let l = c.loop-at.invariant in
    let d : c.from_residual.result ≡ block_checked (read_block c.args.s.now) =
    rw (p.1, p.2)
    (sym (ap block_checked (l.3 ∙ block_refused _ _ _ c.loop-at-test.true _ c.read_representation.ensures l.0 (omega arith) _ c.in_err-at.was)))
    in
    record { checked = d; number = ap checked_number d ∙ block-number (read_block c.args.s.now) }

pub loop-at-smaller : goal.loop-at-smaller
loop-at-smaller c =
    let g = representation-good _ _ _ _ (sym c.read_representation.ensures ∙ c.in_ok-at.was) in
    omega (arith, g.past, g.inside)

pub loop-at-preserved : goal.loop-at-preserved
loop-at-preserved c =
    let l = c.loop-at.invariant in
    let e = c.in_ok-at.was in
    let g = representation-good _ _ _ _ (sym c.read_representation.ensures ∙ e) in (
      l.0 - 1,
      l.1 ++ (representation_of c.args.s.now _ ∷ []),
      omega (arith, g.past),
      l.3 ∙ block_more _ _ _ c.loop-at-test.true _ c.read_representation.ensures l.0 (omega arith) _ _ e,
    )

pub returns : goal.returns
returns c =
    let l = c.loop-at.invariant in
    let d = sym (ap block_checked (l.3 ∙ block-done _ _ _ l.0 c.loop-at-test.false)) in
    record { checked = d; number = ap checked_number d ∙ block-number (read_block c.args.s.now) }
