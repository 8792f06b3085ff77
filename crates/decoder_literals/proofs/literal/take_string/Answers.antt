use Prim.Native.Nat.{ℕ, ◌+◌, ◌-◌, ◌%◌, ◌<◌}
use mathlib.Core.Path.{◌≡◌, ap, ◌∙◌}
use native.Mathlib.Omega.{arith}
use lib.ListN.{length, get_or, length-set}
use Rattle.memory.specs.Bytes.{part}
use Rattle.memory.proofs.Places.{length_part}
use Rattle.memory.proofs.Overlay.{length-overlay}
use Rattle.wire.proofs.Strings.{slice-part}
use Rattle.decoder_literals.proofs.Texts.{plain-string}
use Rattle.decoder_literals.proofs.literal.take_string.Goals as goal

pub copy-requires : goal.copy-requires
copy-requires c =
    let a = c.args in
    let n = c.wide_size-first.result in
    let k = length_part a.s.now (a.at + 1) (a.at + 1 + n % 128 - (a.at + 1)) (omega (arith, c.if-s-start.false, c.if-s-at.false)) in
    simp length-set (omega (arith, k, c.if-out-to-lt-LENGTH_ONES.false, c.if-first-gt-LENGTH_ONES.false, c.requires))

pub shape_of-out : goal.shape_of-out
shape_of-out c = ap length c.copy.ensures.out_after ∙ simp (length-overlay, length-set)

pub returns : goal.returns
returns c =
    let a = c.args in
    let n = c.wide_size-first.result in
    let v : n ≡ get_or a.s.now a.at 0 = c.wide_size-first.ensures.0 in
    let low : n < 127 = omega (arith, c.if-first-gt-LENGTH_ONES.false, c.if-first-eq-LENGTH_ONES.false) in
    let z : n % 128 ≡ get_or a.s.now a.at 0 = omega (arith, v, low) in
    let w = c.copy.ensures in
    plain-string a.s.now a.at a.out.now a.to c.if-s-at.false (omega (arith, v, low)) (omega (arith, z, c.if-s-start.false))
    (omega (arith, c.if-out-to-lt-LENGTH_ONES.false, c.requires)) _ (slice-part a.s.now (a.at + 1) (n % 128) ∙ ap (part a.s.now (a.at + 1)) z)
    _ _ _ (ap (λ (k : ℕ). a.at + 1 + k) z) w.value w.out_after
