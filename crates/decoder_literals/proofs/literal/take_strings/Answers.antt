use Prim.Native.Nat.{ℕ, ◌+◌}
use mathlib.Core.Path.{subst, ◌∙◌}
use native.Mathlib.Omega.{arith}
use mathlib.Core.List.{List}
use lib.Seq.{take-set-le}
use lib.ListN.{get_or, set, length-set}
use Rattle.blocks.specs.Reading.{flag_of}
use Rattle.decoder_literals.specs.Taking.{TookString, StringTaken}
use Rattle.decoder_literals.proofs.Texts.{below}
use Rattle.decoder_literals.proofs.Literals.{strings-taken}
use Rattle.decoder_literals.proofs.literal.take_strings.Goals as goal

pub take_string-n-requires : goal.take_string-n-requires
take_string-n-requires c = simp length-set (omega (arith, c.if-out-to.false))

pub shape_of-out-in_default : goal.shape_of-out-in_default
shape_of-out-in_default c = let a = c.args in omega (arith, c.take_string-n, length-set a.out.now a.to c.flag_of.result)

pub returns-in_default : goal.returns-in_default
returns-in_default c =
    let flagged : List ℕ = let a = c.args in set a.out.now a.to c.flag_of.result in
    let a = c.args in
    let flag = c.flag_of.result in
    let k = subst (StringTaken a.s.now (a.at + 1) flagged c.take_string-n.new.out (a.to + 1)) c.in_default.is c.take_string-n.ensures in
    λ m. below c.take_string-n.new.out flagged (a.to + 1) a.to (omega arith) k ∙ take-set-le a.to a.out.now a.to flag (omega arith)

pub take_string-requires : goal.take_string-requires
take_string-requires c =
    let flagged : List ℕ = let a = c.args in set a.out.now a.to c.flag_of.result in
    let name : let a = c.args in TookString a.s.now (a.at + 1) (set a.out.now a.to (flag_of (get_or a.s.now a.at 0))) c.take_string-n.new.out (a.to + 1) c.in-Some.next c.in-Some.after = let a = c.args in
    let T = subst (StringTaken a.s.now (a.at + 1) flagged c.take_string-n.new.out (a.to + 1)) c.in-Some.is c.take_string-n.ensures in
    subst (λ (b : ℕ). TookString a.s.now (a.at + 1) (set a.out.now a.to b) c.take_string-n.new.out (a.to + 1) c.in-Some.next c.in-Some.after) c.flag_of.ensures T in
    let a = c.args in
    omega (arith, name.fits, c.take_string-n, length-set a.out.now a.to (flag_of (get_or a.s.now a.at 0)), length-set a.out.now a.to c.flag_of.result)

pub shape_of-out : goal.shape_of-out
shape_of-out c = let a = c.args in omega (arith, c.take_string, c.take_string-n, length-set a.out.now a.to c.flag_of.result)

pub returns : goal.returns
returns c =
    let flagged : List ℕ = let a = c.args in set a.out.now a.to c.flag_of.result in
    let name : let a = c.args in TookString a.s.now (a.at + 1) (set a.out.now a.to (flag_of (get_or a.s.now a.at 0))) c.take_string-n.new.out (a.to + 1) c.in-Some.next c.in-Some.after = let a = c.args in
    let T = subst (StringTaken a.s.now (a.at + 1) flagged c.take_string-n.new.out (a.to + 1)) c.in-Some.is c.take_string-n.ensures in
    subst (λ (b : ℕ). TookString a.s.now (a.at + 1) (set a.out.now a.to b) c.take_string-n.new.out (a.to + 1) c.in-Some.next c.in-Some.after) c.flag_of.ensures T in
    let start = c in
    let t = c.take_string in
    λ m. strings-taken m _ _ start.requires.0 start.requires.1 (omega (arith, c.if-s-at-ne0.false)) start.args.out.now _ _ _ _ name t.new.out t.result t.ensures
