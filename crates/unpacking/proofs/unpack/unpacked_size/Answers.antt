use mathlib.Core.Path.{refl, sym, ap, ap₂, ◌∙◌}
use mathlib.Core.Bool.{Bool}
use Prim.Native.Nat.{ℕ, ◌+◌, ◌-◌}
use native.Mathlib.Omega.{arith}
use mathlib.Core.List.{[], ◌∷◌, ◌++◌}
use Rattle.memory.specs.Bytes.{part}
use Rattle.memory.proofs.Places.{length_part}
use Rattle.unpacking.specs.Waiting.{size_of}
use Rattle.unpacking.proofs.Progress.{start, unpack-length, took-length, done-most, turn, stopped, more}
use Rattle.unpacking.proofs.unpack.unpacked_size.Goals as goal

pub loop-count-init : goal.loop-count-init
loop-count-init c = let a = c.args in ([], start (part a.s.now a.from (a.to - a.from)) c.new-b.result c.new-b.ensures, refl)

pub overflow_add-count : goal.overflow_add-count
overflow_add-count c =
    let a = c.args in
    let i = c.loop-count.invariant in
    let s = part a.s.now a.from (a.to - a.from) in
    record { fits = omega (arith, i.2, done-most i.1, unpack-length s, length_part a.s.now a.from (a.to - a.from) (omega arith)) }

pub loop-count-smaller : goal.loop-count-smaller
loop-count-smaller c = omega (arith, took-length c.in-Some.ensures)

pub loop-count-preserved : goal.loop-count-preserved
loop-count-preserved c =
    let i = c.loop-count.invariant in
    let x = c.in-Some.field-0 in
    (i.0 ++ (x ∷ []), turn i.1 c.in-Some.ensures, ap (λ (n : ℕ). n + 1) i.2 ∙ sym (more i.0 x))

pub returns : goal.returns
returns c =
    let i = c.loop-count.invariant in
    ap₂ (λ (n : ℕ) (b : Bool). record { count = n; whole = b }) i.2 c.is_padding.ensures ∙ sym (ap size_of (stopped i.1 c.in_default.ensures))
