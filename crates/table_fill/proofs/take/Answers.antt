use borrow.Author.Rules.{rules}
use mathlib.Core.Path.{sym, ◌∙◌}
use Rattle.table_fill.proofs.Standing.{Standing, standing}
use Rattle.table_fill.proofs.take.Goals as goal

pub find-f-requires : goal.find-f-requires
find-f-requires c =
    let known : Standing c.args.m.now = standing _ (λ k. search rules) (sym c.forms_decoder.ensures ∙ c.if-not-forms_decoder.false) in
    (c.requires, known.ordered)

pub remove-requires : goal.remove-requires
remove-requires c =
    let known : Standing c.args.m.now = standing _ (λ k. search rules) (sym c.forms_decoder.ensures ∙ c.if-not-forms_decoder.false) in
    let f = c in
    known.removing _ _ (sym f.find-f.ensures ∙ f.in-Ok.is)
