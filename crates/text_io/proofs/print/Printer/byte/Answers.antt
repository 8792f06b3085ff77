use Rattle.std.proofs.Common.{◌∙◌, refl}
use native.Mathlib.Omega.{arith}
use Rattle.text_io.specs.Print.{held, room}
use Rattle.text_io.proofs.Printing.{held-length, with-room, with-none}
use Rattle.text_io.proofs.print.Printer.byte.Goals as goal

pub returns-then-self : goal.returns-then-self
returns-then-self c = let p = c.args.self.now in
    let m = c.make_room.new.self in
    record {
      same_room = c.push.ensures.room ∙ c.make_room.ensures.room;
      gathers = c.push.ensures.held ∙ with-room (room p) c.args.c (held p) (held m) c.make_room.ensures.held (omega (arith, held-length m, c.if-self.true, c.make_room.ensures.room));
      stays_lost = λ l. c.push.ensures.lost ∙ c.make_room.ensures.lost l;
    }

pub returns-else-self : goal.returns-else-self
returns-else-self c = let p = c.args.self.now in
    let m = c.make_room.new.self in
    record {
      same_room = c.make_room.ensures.room;
      gathers = with-none (room p) c.args.c (held p) (held m) c.make_room.ensures.held (omega (arith, held-length m, c.if-self.false, c.make_room.ensures.room));
      stays_lost = λ l. refl;
    }
