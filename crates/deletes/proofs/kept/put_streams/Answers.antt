use mathlib.Core.Path.{sym, ap, ◌∙◌}
use native.Mathlib.Omega.{arith}
use lib.ListN.{length}
use Rattle.memory.proofs.Overlay.{length-overlay}
use Rattle.deletes.proofs.Listing.{left-none, never-refused, left_less}
use Rattle.deletes.proofs.kept.put_streams.Goals as goal

pub returns-in_default : goal.returns-in_default
returns-in_default c = absurd (never-refused _ _ _ _ _ _ _ _ c.loop-i.invariant.1 (omega arith) _ c.read_delta.ensures _ c.in_default.is)

pub loop-i-preserved : goal.loop-i-preserved
loop-i-preserved c = (
  ap length c.put_listed.ensures ∙ simp length-overlay c.loop-i.invariant.0,
  left_less _ _ _ _ _ _ _ _ c.loop-i.invariant.1 (omega arith) _ c.read_delta.ensures _ _ c.in-Ok.is _ c.put_listed.ensures,
)

pub returns : goal.returns
returns c = sym (left-none _ _ _ _ _ _ _ _ c.loop-i.invariant.1 (omega arith))
