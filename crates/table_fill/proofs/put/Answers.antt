use borrow.Author.Rules.{rules}
use mathlib.Core.Path.{◌≡◌, sym, ◌∙◌}
use Prim.Native.Nat.{◌+◌}
use mathlib.Core.Bool.{true}
use native.Mathlib.Omega.{arith}
use lib.ListN.{length}
use borrow.Author.Tests.{leb-true}
use Rattle.state.specs.Layout.{limit_of, held_of}
use Rattle.state.specs.Forms.{forms_decoder}
use Rattle.table_fill.proofs.Standing.{Standing, standing, within}
use Rattle.table_fill.proofs.put.Goals as goal

pub find-f-requires : goal.find-f-requires
find-f-requires c =
    let forms : forms_decoder c.args.m.now ≡ true = sym c.forms_decoder.ensures ∙ c.if-not-forms_decoder.false in
    let known : Standing c.args.m.now = standing _ (λ k. search rules) forms in
    (c.requires.0, known.ordered)

pub fits-requires : goal.fits-requires
fits-requires c =
    let forms : forms_decoder c.args.m.now ≡ true = sym c.forms_decoder.ensures ∙ c.if-not-forms_decoder.false in
    let known : Standing c.args.m.now = standing _ (λ k. search rules) forms in
    let o = known.ordered in omega (arith, o.long)

pub insert-requires : goal.insert-requires
insert-requires c =
    let forms : forms_decoder c.args.m.now ≡ true = sym c.forms_decoder.ensures ∙ c.if-not-forms_decoder.false in
    let known : Standing c.args.m.now = standing _ (λ k. search rules) forms in
    let u = c in
    let k = u in
    let a = k.args in
    let e = sym u.find-f.ensures ∙ u.in-Err.is in
    let w = within _ forms in
    let room = leb-true (held_of a.m.now + (length a.name.now + length a.value.now + 32)) (limit_of a.m.now)
    (sym u.fits.ensures ∙ c.if-not-fits.false) in
    known.opening _ _ _ _ e (omega (arith, w.limit, room)) (omega (arith, w.limit, w.heads, room))
    (omega (arith, k.requires.1))
