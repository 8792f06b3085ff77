use Rattle.std.proofs.Common.{sym, ap, ◌∙◌, arith}
use Rattle.memory.proofs.Order.{not-both}
use borrow.Author.Tests.{eq-eqb, eqb-true}
use Rattle.tokens.specs.Numbers.{digits_from}
use Rattle.tokens.proofs.Digits.{number-none, number-some, digits-done, digits-other, digits-over, digits_more}
use Rattle.tokens.proofs.number.Goals as goal

pub returns-then-is_empty : goal.returns-then-is_empty
returns-then-is_empty c = sym (number-none _ (eqb-true _ _ (sym c.if-is_empty.ensures)))

pub loop-c-init : goal.loop-c-init
loop-c-init c = number-some _ (λ e. not-both _ (eq-eqb _ _ e) (sym c.if-is_empty.ensures))

pub returns-in_err-d : goal.returns-in_err-d
returns-in_err-d c =
    rw c.from_residual.ensures
    (sym (c.loop-c.invariant ∙ digits-other c.args.word.now c.loop-c.c-index c.loop-c.n (omega arith) c.in_err-d.ensures))

pub returns-in_err-checked_mul : goal.returns-in_err-checked_mul
returns-in_err-checked_mul c =
    rw c.from_residual-in_err-checked_mul.ensures
    (sym (c.loop-c.invariant ∙ digits-over c.args.word.now c.loop-c.c-index c.loop-c.n (omega arith) c.in_ok-d.d c.in_ok-d.ensures.0 (omega (arith, c.in_ok-d.ensures)) (omega (arith, c.in_err-checked_mul.ensures))))

pub returns-in_err-n : goal.returns-in_err-n
returns-in_err-n c =
    rw c.from_residual-in_err-n.ensures
    (sym (c.loop-c.invariant ∙ digits-over c.args.word.now c.loop-c.c-index c.loop-c.n (omega arith) c.in_ok-d.d c.in_ok-d.ensures.0 (omega (arith, c.in_ok-d.ensures)) (omega (arith, c.in_err-n.ensures, c.in_ok-checked_mul.ensures, c.from.ensures))))

pub loop-c-preserved : goal.loop-c-preserved
loop-c-preserved c =
    c.loop-c.invariant ∙ digits_more c.args.word.now c.loop-c.c-index c.loop-c.n (omega arith) c.in_ok-d.d c.in_ok-d.ensures.0 (omega (arith, c.in_ok-d.ensures)) (omega (arith, c.in_ok-n.ensures, c.in_ok-checked_mul.ensures))
    ∙ ap (digits_from _) (omega (arith, c.in_ok-n.ensures, c.in_ok-checked_mul.ensures))

pub returns : goal.returns
returns c = sym (c.loop-c.invariant ∙ digits-done c.args.word.now c.loop-c.c-index c.loop-c.n (omega arith))
