use mathlib.Core.Path.{sym, ◌∙◌}
use native.Mathlib.Omega.{arith}
use lib.Seq.{length-take-le}
use Rattle.table_fill.proofs.Standing.{Within, within}
use Rattle.table_fill.proofs.dump.Goals as goal

pub count_of-count-requires : goal.count_of-count-requires
count_of-count-requires c =
    let known : Within c.args.m.now = within _ (sym c.forms_decoder.ensures ∙ c.if-not-forms_decoder.false) in
    let w = known in omega (arith, w.long)

pub columns-requires : goal.columns-requires
columns-requires c =
    let known : Within c.args.m.now = within _ (sym c.forms_decoder.ensures ∙ c.if-not-forms_decoder.false) in
    let w = known in (omega (arith, w.count, c.count_of-count.ensures), w.long)

pub held_of-requires : goal.held_of-requires
held_of-requires c =
    let known : Within c.args.m.now = within _ (sym c.forms_decoder.ensures ∙ c.if-not-forms_decoder.false) in
    let w = known in omega (arith, w.long)

pub overflow_sub-end : goal.overflow_sub-end
overflow_sub-end c =
    let known : Within c.args.m.now = within _ (sym c.forms_decoder.ensures ∙ c.if-not-forms_decoder.false) in
    let w = known in omega (arith, w.heads, c.held_of.ensures, c.count_of-count.ensures)

pub slice_bounds-line_of-count : goal.slice_bounds-line_of-count
slice_bounds-line_of-count c =
    let known : Within c.args.m.now = within _ (sym c.forms_decoder.ensures ∙ c.if-not-forms_decoder.false) in
    let w = known in
    omega (arith, w.heads, c.held_of.ensures, c.count_of-count.ensures)

pub slice_bounds-line_of-start : goal.slice_bounds-line_of-start
slice_bounds-line_of-start c =
    let known : Within c.args.m.now = within _ (sym c.forms_decoder.ensures ∙ c.if-not-forms_decoder.false) in
    let w = known in omega (arith, w.long)

pub slice_bounds-line_of-end-4 : goal.slice_bounds-line_of-end-4
slice_bounds-line_of-end-4 c =
    let known : Within c.args.m.now = within _ (sym c.forms_decoder.ensures ∙ c.if-not-forms_decoder.false) in
    let w = known in omega (arith, w.long, w.held, c.held_of.ensures)

pub slice_bounds-line_of-end-2 : goal.slice_bounds-line_of-end-2
slice_bounds-line_of-end-2 c =
    let known : Within c.args.m.now = within _ (sym c.forms_decoder.ensures ∙ c.if-not-forms_decoder.false) in
    let w = known in sym (length-take-le 64 c.args.m.now (omega (arith, w.long)))
