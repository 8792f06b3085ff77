use Rattle.text_io.proofs.Printing.{prints-text}
use Rattle.text_io.proofs.print.Printer.write_fmt.Goals as goal

pub returns-in-Ok : goal.returns-in-Ok
returns-in-Ok g c lost = prints-text _ _ _ c.in-Ok.ensures.writes
