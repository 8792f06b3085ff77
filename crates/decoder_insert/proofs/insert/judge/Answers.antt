use mathlib.Core.Path.{sym, ◌∙◌}
use native.Mathlib.Omega.{arith}
use Rattle.table_search.specs.Search.{Ordered}
use Rattle.decoder.proofs.Standing.{changes}
use Rattle.decoder_insert.proofs.Insertion.{judged-held, judged-over, judged-room}
use Rattle.decoder_insert.proofs.insert.judge.Goals as goal

pub find-f-requires : goal.find-f-requires
find-f-requires c =
    let ordered : Ordered c.args.m.now = (changes _ (record { small = λ k. omega (arith, c.type_inv.m k); forms = c.requires.2 })).ordered in
    (c.requires.0, ordered)

pub returns-in_default : goal.returns-in_default
returns-in_default c = sym (judged-held _ _ _ _ (sym c.find-f.ensures ∙ c.in_default.is))

pub fits-requires : goal.fits-requires
fits-requires c =
    let ordered : Ordered c.args.m.now = (changes _ (record { small = λ k. omega (arith, c.type_inv.m k); forms = c.requires.2 })).ordered in
    (omega (arith, ordered.long), omega arith)

pub returns-then-not-fits : goal.returns-then-not-fits
returns-then-not-fits c =
    sym (judged-over _ _ _ _ (sym c.find-f.ensures ∙ c.in-Err.is) (sym c.fits.ensures ∙ c.if-not-fits.true))

pub returns : goal.returns
returns c =
    sym (judged-room _ _ _ _ (sym c.find-f.ensures ∙ c.in-Err.is) (sym c.fits.ensures ∙ c.if-not-fits.false))
