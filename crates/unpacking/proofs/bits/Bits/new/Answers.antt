use Rattle.huffman.specs.Bits.{bits_of}
use Rattle.unpacking.specs.Waiting.{highest, bits_then}
use Rattle.unpacking.proofs.bits.Bits.new.Goals as goal

pub returns : goal.returns
unfolding bits_then highest bits_of
returns c = c.refill.ensures.same
