use mathlib.Core.Path.{ap, ◌∙◌}
use native.Mathlib.Omega.{arith}
use Rattle.huffman.specs.Bits.{bits_of}
use Rattle.unpacking.proofs.Refills.{word_next}
use Rattle.unpacking.proofs.bits.word.Goals as goal

pub returns : goal.returns
returns c = (ap (bits_of 32) c.from_be_bytes.ensures ∙ word_next c.args.four.now c.told-four c.fits-four, omega arith)
