use mathlib.Core.Path.{refl, sym, ap, ap₂, ◌∙◌}
use mathlib.Core.Bool.{Bool}
use Prim.Native.Nat.{ℕ, ◌-◌}
use native.Mathlib.Omega.{arith}
use native.Mathlib.Nat.{add-zero}
use mathlib.Core.List.{List, [], ◌∷◌, ◌++◌}
use lib.ListN.{length, set}
use Rattle.memory.specs.Bytes.{part, overlay}
use Rattle.memory.proofs.Overlay.{length-overlay}
use Rattle.huffman.specs.Packing.{Unpacked}
use Rattle.unpacking.specs.Waiting.{end_of}
use Rattle.unpacking.proofs.Progress.{start, took-length, done-most, turn, stopped, more, more-written}
use Rattle.unpacking.proofs.unpack.unpack.Goals as goal

pub loop-x-init : goal.loop-x-init
loop-x-init c =
    let a = c.args in
    ([], start (part a.s.now a.from (a.to - a.from)) c.new-b.result c.new-b.ensures, sym (add-zero a.at), refl)

pub bounds-out-next : goal.bounds-out-next
bounds-out-next c =
    let i = c.loop-x.invariant in
    let a = c.args in
    let x = c.in-Some.x in
    omega (
      arith,
      i.2,
      ap length i.3,
      length-overlay a.out.now a.at i.0,
      done-most (turn i.1 c.in-Some.ensures),
      more i.0 x,
      c.requires.from_in_bounds,
    )

pub loop-x-smaller : goal.loop-x-smaller
loop-x-smaller c = omega (arith, took-length c.in-Some.ensures)

pub loop-x-preserved : goal.loop-x-preserved
loop-x-preserved c =
    let i = c.loop-x.invariant in
    let a = c.args in
    let x = c.in-Some.x in (
      i.0 ++ (x ∷ []),
      turn i.1 c.in-Some.ensures,
      omega (arith, i.2, more i.0 x),
      ap₂ (λ (m : List ℕ) (k : ℕ). set m k x) i.3 i.2 ∙ more-written a.out.now a.at i.0 x,
    )

pub returns : goal.returns
returns c =
    let a = c.args in
    let i = c.loop-x.invariant in
    let e = stopped i.1 c.in_default.ensures in
    record {
      value = ap₂ (λ (n : ℕ) (b : Bool). record { next = n; whole = b }) i.2 c.is_padding.ensures ∙ sym (ap (end_of a.at) e);
      out_after = i.3 ∙ sym (ap (λ (u : Unpacked). overlay a.out.now a.at u.bytes) e);
    }
