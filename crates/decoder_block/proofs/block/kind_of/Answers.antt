use mathlib.Core.Path.{◌≡◌}
use native.Mathlib.Omega.{arith}
use Rattle.model.specs.Parts.{nontrailer, trailer}
use Rattle.model_laws.proofs.Marks.{part-back}
use Rattle.decoder_block.proofs.block.kind_of.Goals as goal

-- `kind_of` meets its contract: 0 is the non-trailer part, and 1 the trailer.
pub returns-then-part-eq0 : goal.returns-then-part-eq0
returns-then-part-eq0 c = let e : c.args.part ≡ 0 = omega arith in rw e (part-back nontrailer)

pub returns : goal.returns
returns c = let e : c.args.part ≡ 1 = omega arith in rw e (part-back trailer)
