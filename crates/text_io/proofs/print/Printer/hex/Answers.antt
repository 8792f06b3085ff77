use Rattle.std.proofs.Common.{◌+◌, ◌≤◌, length}
use native.Mathlib.Omega.{arith}
use Rattle.text_io.proofs.Printing.{next-piece, next-digits}
use Rattle.text_io.proofs.print.Printer.hex.Goals as goal

pub loop-at-preserved : goal.loop-at-preserved
loop-at-preserved c =
    let l = c.loop-at in
    let p = c.push_hex.ensures in
    let inside : l.at + c.min-n.result ≤ length c.args.s.now = omega (arith, c.min-n.ensures, l.invariant.0) in (
      inside,
      next-piece _ l.at c.min-n.result _ _ l.self _ (omega arith) inside (omega (arith, c.min-n.ensures, l.self.inside)) p.room p.held p.lost l.invariant.1,
    )

pub loop-at-preserved-then-at-s : goal.loop-at-preserved-then-at-s
loop-at-preserved-then-at-s c =
    let l = c.loop-at in
    let p = c.push_hex.ensures in
    let inside : l.at + c.min-n.result ≤ length c.args.s.now = omega (arith, c.min-n.ensures, l.invariant.0) in (
      omega (arith, c.if-at-s.true),
      next-digits _ _ _ _ _ c.if-at-s.true
          (next-piece _ l.at c.min-n.result _ _ l.self _ (omega arith) inside (omega (arith, c.min-n.ensures, l.self.inside)) p.room p.held p.lost l.invariant.1)
          c.pair.ensures,
    )
