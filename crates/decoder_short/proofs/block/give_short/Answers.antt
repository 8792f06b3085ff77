use mathlib.Core.Path.{◌≡◌, refl, ap, subst, ◌∙◌}
use native.Mathlib.Omega.{arith}
use Prim.Native.Nat.{ℕ, ◌-◌}
use lib.ListN.{length, take}
use Rattle.std.specs.Prelude.{Option, Some}
use Rattle.memory.specs.Bytes.{overlay}
use Rattle.decoder_short.specs.Pass.{BlockDecoded}
use Rattle.decoder_short.proofs.block.give_short.Goals as goal

pub returns-in_default : goal.returns-in_default
returns-in_default c = refl

pub returns-then-out-n : goal.returns-then-out-n
returns-then-out-n c =
    let decoded : BlockDecoded c.args.m.now c.args.s.now c.decode.new.out (Some c.in-Some.n) = subst (λ (r : Option ℕ). BlockDecoded c.args.m.now c.args.s.now c.decode.new.out r) c.in-Some.is c.decode.ensures in
    (refl, (_, decoded.0, c.if-out-n.true), refl)

pub slice_bounds-copy-end : goal.slice_bounds-copy-end
slice_bounds-copy-end c =
    let decoded : BlockDecoded c.args.m.now c.args.s.now c.decode.new.out (Some c.in-Some.n) = subst (λ (r : Option ℕ). BlockDecoded c.args.m.now c.args.s.now c.decode.new.out r) c.in-Some.is c.decode.ensures in
    decoded.1

pub returns : goal.returns
returns c =
    let decoded : BlockDecoded c.args.m.now c.args.s.now c.decode.new.out (Some c.in-Some.n) = subst (λ (r : Option ℕ). BlockDecoded c.args.m.now c.args.s.now c.decode.new.out r) c.in-Some.is c.decode.ensures in
    let room : length c.decode.new.out ≡ 1024 = omega (arith, c.decode) in
    let d = decoded in
    let a = c.args in
    let n = c.in-Some.n in
    let z : n - 0 ≡ n = omega arith in
    let e = ap (λ (k : ℕ). overlay a.out.now 0 (take k c.decode.new.out)) z in
    (d.0, c.if-out-n.false, omega (arith, d.1, room), c.copy.ensures.out_after ∙ e ∙ ap (overlay a.out.now 0) d.2)
