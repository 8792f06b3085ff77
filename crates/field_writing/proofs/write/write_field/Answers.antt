use Rattle.std.proofs.Common.{arith}
use Rattle.memory.proofs.Overlay.{overlay-append}
use Rattle.fields.specs.Form.{field_form}
use Rattle.field_writing.proofs.write.write_field.Goals as goal

pub returns-clause-out_after : goal.returns-clause-out_after
unfolding field_form
returns-clause-out_after c = grind (arith, overlay-append)
