use mathlib.Core.Path.{sym, ◌∙◌}
use native.Mathlib.Omega.{arith}
use Rattle.memory.specs.Bytes.{Small}
use Rattle.parts.specs.Turn.{part_in}
use Rattle.table_laws.specs.DecoderChanges.{found}
use Rattle.state_laws.proofs.EncoderForms.{forms-holds-encoder}
use Rattle.encoder_references.proofs.Entering.{entered-static, entered-found, entering-ordered, entering-place}
use Rattle.encoder_references.proofs.refer.enter.Goals as goal

pub returns-then-index-lt-FIRST : goal.returns-then-index-lt-FIRST
returns-then-index-lt-FIRST c = entered-static _ _ _ _ c.if-index-lt-FIRST.true

pub find-f-requires : goal.find-f-requires
find-f-requires c =
    let small : Small c.args.m.now = λ k. grind arith in
    let p = c.requires in
    (c.if-index-lt-FIRST.false, entering-ordered _ small p.1 _ p.0 (part_in c.args.part))

pub returns-in_default : goal.returns-in_default
returns-in_default c = entered-found _ _ _ _ c.if-index-lt-FIRST.false _ (sym c.find-f.ensures ∙ c.in_default.is)

pub refer-requires : goal.refer-requires
refer-requires c =
    let small : Small c.args.m.now = λ k. grind arith in
    let p = c.requires in
    let at : found c.args.m.now c.args.index.value c.in-Ok.place = sym c.find-f.ensures ∙ c.in-Ok.is in
    (entering-place _ small p.1 _ p.0 (part_in c.args.part) _ _ at, (forms-holds-encoder _ small p.1).long, p.0)

pub returns : goal.returns
returns c = c.refer.ensures ∙ entered-found _ _ _ _ c.if-index-lt-FIRST.false _ (sym c.find-f.ensures ∙ c.in-Ok.is)
