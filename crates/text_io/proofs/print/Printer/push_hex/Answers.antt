use Rattle.std.proofs.Common.{◌+◌, ◌/◌, [], ◌∷◌, ◌++◌, ◌∙◌, ap, false, get_or, take}
use native.Mathlib.Omega.{arith}
use Rattle.std.proofs.Math.ListN.{set, length-set}
use Rattle.std.specs.Fmt.{digit_glyph}
use Rattle.text_io.specs.Print.{held, hex}
use Rattle.text_io.proofs.Printing.{two-more, digits-more}
use Rattle.text_io.proofs.print.Printer.push_hex.Goals as goal

pub loop-c-preserved : goal.loop-c-preserved
loop-c-preserved c =
    let l = c.loop-c in
    let b = l.out in
    let i = l.invariant in
    let front = held c.args.self.now ++ hex (take l.c-index c.args.s.now) in
    let x = c.digit.result in
    let y = c.digit-in-loop-c.result in (
      length-set (set b l.end x) (l.end + 1) y ∙ length-set b l.end x ∙ i.0,
      omega arith,
      two-more b l.end x y (omega arith)
          ∙ ap (λ h. h ++ (x ∷ y ∷ [])) i.2
          ∙ ap (λ d. front ++ (d ∷ y ∷ [])) c.digit.ensures
          ∙ ap (λ d. front ++ (digit_glyph false (get_or c.args.s.now l.c-index 0 / 16) ∷ d ∷ [])) c.digit-in-loop-c.ensures
          ∙ digits-more (held c.args.self.now) c.args.s.now l.c-index c.loop-c-test.true,
    )
