use Rattle.std.proofs.Common.{arith}
use Rattle.memory.proofs.Overlay.{overlay-append}
use Rattle.instructions.specs.Instruction.{instruction_wire}
use Rattle.instruction_writing.proofs.write.write_delete.Goals as goal

pub returns-clause-out_after : goal.returns-clause-out_after
unfolding instruction_wire
returns-clause-out_after c = grind (arith, overlay-append)
