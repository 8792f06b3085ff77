use Rattle.std.proofs.Common.{◌∷◌, [], subst}
use Rattle.text_io.specs.Print.{Prints}
use Rattle.text_io.proofs.Printing.{prints-then}
use Rattle.text_io.proofs.print.Printer.pair.Goals as goal

pub returns : goal.returns
returns c = prints-then _ _ _ _ _
    (subst (λ d. Prints c.args.self.now (d ∷ []) c.byte.new.self) c.digit.ensures c.byte.ensures)
    (subst (λ d. Prints c.byte.new.self (d ∷ []) c.byte-2.new.self) c.digit-2.ensures c.byte-2.ensures)
