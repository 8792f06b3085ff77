use Rattle.std.proofs.Common.{◌∙◌, sym}
use native.Mathlib.Omega.{arith}
use Rattle.text_io.specs.Print.{held, room}
use Rattle.text_io.proofs.Printing.{held-length, gathered-fits, prints-none, next-byte}
use Rattle.text_io.proofs.print.Printer.bytes.Goals as goal

pub returns-then-s-self : goal.returns-then-s-self
returns-then-s-self c = let p = c.args.self.now in
    record {
      same_room = c.push_all.ensures.room;
      gathers = c.push_all.ensures.held ∙ sym (gathered-fits (room p) (held p) c.args.s.now (omega (arith, held-length p, c.if-s-self.true, p.inside)));
      stays_lost = λ l. c.push_all.ensures.lost ∙ l;
    }

pub loop-c-init : goal.loop-c-init
loop-c-init c = prints-none c.args.self.now

pub loop-c-preserved : goal.loop-c-preserved
loop-c-preserved c = next-byte c.args.s.now c.loop-c.c-index _ _ _ c.loop-c-test.true c.loop-c.invariant c.byte.ensures
