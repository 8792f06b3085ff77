use Prim.Native.Nat.{◌<◌}
use mathlib.Core.Path.{subst}
use native.Mathlib.Omega.{arith}
use Rattle.blocks.proofs.Bounds.{representation-good}
use Rattle.decoder_literals.specs.Taking.{Took, FieldTaken}
use Rattle.decoder_short.specs.Pass.{TookAll, FieldsTaken}
use Rattle.decoder_short.proofs.Turns.{all_none, all_more, all-kept, all-turn}
use Rattle.decoder_short.proofs.Whole.{all_whole}
use Rattle.decoder_short.proofs.block.decode.Goals as goal

pub loop-at-init : goal.loop-at-init
loop-at-init c = all_none _ _ _ _ _ (omega arith) (omega arith)

pub take-l-requires : goal.take-l-requires
take-l-requires c = (c.requires.0, c.loop-at-test.true, c.loop-at.invariant.fits)

pub loop-at-smaller-in-Some : goal.loop-at-smaller-in-Some
loop-at-smaller-in-Some c =
    let field : let l = c.loop-at in Took c.args.m.now c.args.s.now l.at l.out c.take-l.new.out l.to c.in-Some.next c.in-Some.after = let l = c.loop-at in
    let t = c.take-l in
    subst (FieldTaken c.args.m.now c.args.s.now l.at l.out t.new.out l.to) c.in-Some.is t.ensures in
    let g = representation-good _ _ _ _ field.reads in omega (arith, g.past, g.inside)

pub loop-at-preserved-in-Some : goal.loop-at-preserved-in-Some
loop-at-preserved-in-Some c =
    let field : let l = c.loop-at in Took c.args.m.now c.args.s.now l.at l.out c.take-l.new.out l.to c.in-Some.next c.in-Some.after = let l = c.loop-at in
    let t = c.take-l in
    subst (FieldTaken c.args.m.now c.args.s.now l.at l.out t.new.out l.to) c.in-Some.is t.ensures in
    all-turn _ _ _ _ _ _ _ _ c.loop-at.invariant _ _ _ field

pub run-r-requires : goal.run-r-requires
run-r-requires c =
    let kept : let l = c.loop-at in TookAll c.args.m.now c.args.s.now 0 c.args.out.now c.take-l.new.out 0 l.at l.to = let l = c.loop-at in
    let t = c.take-l in
    let e = subst (FieldTaken c.args.m.now c.args.s.now l.at l.out t.new.out l.to) c.in_default.is t.ensures in
    all-kept _ _ _ _ _ _ _ _ l.invariant t.new.out (omega (arith, t)) e in
    (c.requires.0, c.loop-at-test.true, kept.fits)

pub shape_of-out-in_default-r : goal.shape_of-out-in_default-r
shape_of-out-in_default-r c =
    let kept : let l = c.loop-at in TookAll c.args.m.now c.args.s.now 0 c.args.out.now c.take-l.new.out 0 l.at l.to = let l = c.loop-at in
    let t = c.take-l in
    let e = subst (FieldTaken c.args.m.now c.args.s.now l.at l.out t.new.out l.to) c.in_default.is t.ensures in
    all-kept _ _ _ _ _ _ _ _ l.invariant t.new.out (omega (arith, t)) e in
    omega (arith, c.run-r, kept.same)

pub returns-in_default-r : goal.returns-in_default-r
returns-in_default-r c = tt

pub loop-at-smaller : goal.loop-at-smaller
loop-at-smaller c =
    let fields : let l = c.loop-at in (l.at < c.in-Some-r.next) × TookAll c.args.m.now c.args.s.now l.at c.take-l.new.out c.run-r.new.out l.to c.in-Some-r.next c.in-Some-r.after = let l = c.loop-at in
    let t = c.run-r in
    subst (FieldsTaken c.args.m.now c.args.s.now l.at c.take-l.new.out t.new.out l.to) c.in-Some-r.is t.ensures in
    let f = fields in omega (arith, f.0, f.1.inside)

pub loop-at-preserved : goal.loop-at-preserved
loop-at-preserved c =
    let kept : let l = c.loop-at in TookAll c.args.m.now c.args.s.now 0 c.args.out.now c.take-l.new.out 0 l.at l.to = let l = c.loop-at in
    let t = c.take-l in
    let e = subst (FieldTaken c.args.m.now c.args.s.now l.at l.out t.new.out l.to) c.in_default.is t.ensures in
    all-kept _ _ _ _ _ _ _ _ l.invariant t.new.out (omega (arith, t)) e in
    let fields : let l = c.loop-at in (l.at < c.in-Some-r.next) × TookAll c.args.m.now c.args.s.now l.at c.take-l.new.out c.run-r.new.out l.to c.in-Some-r.next c.in-Some-r.after = let l = c.loop-at in
    let t = c.run-r in
    subst (FieldsTaken c.args.m.now c.args.s.now l.at c.take-l.new.out t.new.out l.to) c.in-Some-r.is t.ensures in
    all_more _ _ _ _ _ _ _ _ kept _ _ _ fields.1

pub shape_of-out : goal.shape_of-out
shape_of-out c = c.loop-at.invariant.same

pub returns : goal.returns
returns c = all_whole _ _ _ _ _ _ c.requires.1 c.loop-at.invariant c.loop-at-test.false
