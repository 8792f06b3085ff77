use mathlib.Core.Path.{subst}
use native.Mathlib.Omega.{arith}
use Rattle.blocks.proofs.Bounds.{representation-good}
use Rattle.decoder_literals.specs.Taking.{Took, FieldTaken}
use Rattle.decoder_short.specs.Pass.{TookAll}
use Rattle.decoder_short.proofs.Turns.{all-forward, all_none, all-kept, all-turn}
use Rattle.decoder_short.proofs.entry.run.Goals as goal

pub loop-at-init : goal.loop-at-init
loop-at-init c = let p = c.requires in all_none _ _ _ _ _ (omega (arith, p.1)) p.2

pub take_entry-l-requires : goal.take_entry-l-requires
take_entry-l-requires c = (c.static_text-text.ensures, c.requires.0, c.loop-at-test.true, c.loop-at.invariant.fits)

pub shape_of-out-then-at-from : goal.shape_of-out-then-at-from
shape_of-out-then-at-from c =
    let kept : let l = c.loop-at in TookAll c.args.m.now c.args.s.now c.args.from c.args.out.now c.take_entry-l.new.out c.args.start l.at l.to = let l = c.loop-at in
    let t = c.take_entry-l in
    let e = subst (FieldTaken c.args.m.now c.args.s.now l.at l.out t.new.out l.to) c.in_default.is t.ensures in
    all-kept _ _ _ _ _ _ _ _ l.invariant t.new.out (omega (arith, t)) e in
    kept.same

pub returns-then-at-from : goal.returns-then-at-from
returns-then-at-from c = tt

pub shape_of-out-in_default : goal.shape_of-out-in_default
shape_of-out-in_default c =
    let kept : let l = c.loop-at in TookAll c.args.m.now c.args.s.now c.args.from c.args.out.now c.take_entry-l.new.out c.args.start l.at l.to = let l = c.loop-at in
    let t = c.take_entry-l in
    let e = subst (FieldTaken c.args.m.now c.args.s.now l.at l.out t.new.out l.to) c.in_default.is t.ensures in
    all-kept _ _ _ _ _ _ _ _ l.invariant t.new.out (omega (arith, t)) e in
    kept.same

pub returns-in_default : goal.returns-in_default
returns-in_default c =
    let kept : let l = c.loop-at in TookAll c.args.m.now c.args.s.now c.args.from c.args.out.now c.take_entry-l.new.out c.args.start l.at l.to = let l = c.loop-at in
    let t = c.take_entry-l in
    let e = subst (FieldTaken c.args.m.now c.args.s.now l.at l.out t.new.out l.to) c.in_default.is t.ensures in
    all-kept _ _ _ _ _ _ _ _ l.invariant t.new.out (omega (arith, t)) e in
    let k = kept in (omega (arith, all-forward _ _ _ _ _ _ _ _ k, c.if-at-from.false), k)

pub loop-at-smaller : goal.loop-at-smaller
loop-at-smaller c =
    let field : let l = c.loop-at in Took c.args.m.now c.args.s.now l.at l.out c.take_entry-l.new.out l.to c.in-Some.next c.in-Some.after = let l = c.loop-at in
    let t = c.take_entry-l in
    subst (FieldTaken c.args.m.now c.args.s.now l.at l.out t.new.out l.to) c.in-Some.is t.ensures in
    let g = representation-good _ _ _ _ field.reads in omega (arith, g.past, g.inside)

pub loop-at-preserved : goal.loop-at-preserved
loop-at-preserved c =
    let field : let l = c.loop-at in Took c.args.m.now c.args.s.now l.at l.out c.take_entry-l.new.out l.to c.in-Some.next c.in-Some.after = let l = c.loop-at in
    let t = c.take_entry-l in
    subst (FieldTaken c.args.m.now c.args.s.now l.at l.out t.new.out l.to) c.in-Some.is t.ensures in
    all-turn _ _ _ _ _ _ _ _ c.loop-at.invariant _ _ _ field

pub shape_of-out : goal.shape_of-out
shape_of-out c = c.loop-at.invariant.same

pub returns : goal.returns
returns c = (omega (arith, c.loop-at-test.false, c.requires.1), c.loop-at.invariant)
