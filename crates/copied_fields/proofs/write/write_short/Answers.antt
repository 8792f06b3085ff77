use Prim.Native.Nat.{ℕ, ◌+◌, ◌-◌, ◌≤◌, ◌<◌}
use mathlib.Core.Path.{ap, ◌∙◌}
use native.Mathlib.Omega.{arith}
use lib.ListN.{length, set, length-set}
use Rattle.memory.specs.Bytes.{part, overlay}
use Rattle.memory.proofs.Places.{length_part}
use Rattle.memory.proofs.Overlay.{length-overlay}
use Rattle.decoder_survey.proofs.ShortForms.{short-ends}
use Rattle.copied_fields.proofs.write.write_short.Goals as goal

pub bounds-out-to : goal.bounds-out-to
bounds-out-to c =
    let ends : (c.args.at < c.args.next) × (c.args.next ≤ length c.args.s.now) = short-ends _ _ _ c.requires.at_in_bounds.0 c.requires.at_in_bounds.1 c.requires.at_in_bounds.2 in
    let e = ends in omega (arith, e.0, c.requires.at_in_bounds_2)

pub overflow_add-from : goal.overflow_add-from
overflow_add-from c =
    let ends : (c.args.at < c.args.next) × (c.args.next ≤ length c.args.s.now) = short-ends _ _ _ c.requires.at_in_bounds.0 c.requires.at_in_bounds.1 c.requires.at_in_bounds.2 in
    let e = ends in omega (arith, e.0, e.1)

pub slice_bounds-copy-count : goal.slice_bounds-copy-count
slice_bounds-copy-count c =
    let ends : (c.args.at < c.args.next) × (c.args.next ≤ length c.args.s.now) = short-ends _ _ _ c.requires.at_in_bounds.0 c.requires.at_in_bounds.1 c.requires.at_in_bounds.2 in
    let e = ends in omega (arith, e.0)

pub slice_bounds-copy-start : goal.slice_bounds-copy-start
slice_bounds-copy-start c =
    let ends : (c.args.at < c.args.next) × (c.args.next ≤ length c.args.s.now) = short-ends _ _ _ c.requires.at_in_bounds.0 c.requires.at_in_bounds.1 c.requires.at_in_bounds.2 in
    let e = ends in omega (arith, e.0)

pub slice_bounds-copy-end : goal.slice_bounds-copy-end
slice_bounds-copy-end c =
    let ends : (c.args.at < c.args.next) × (c.args.next ≤ length c.args.s.now) = short-ends _ _ _ c.requires.at_in_bounds.0 c.requires.at_in_bounds.1 c.requires.at_in_bounds.2 in
    ends.1

pub overflow_add-to : goal.overflow_add-to
overflow_add-to c =
    let ends : (c.args.at < c.args.next) × (c.args.next ≤ length c.args.s.now) = short-ends _ _ _ c.requires.at_in_bounds.0 c.requires.at_in_bounds.1 c.requires.at_in_bounds.2 in
    let e = ends in omega (arith, e.0, c.requires.at_in_bounds_2)

pub copy-requires : goal.copy-requires
copy-requires c =
    let ends : (c.args.at < c.args.next) × (c.args.next ≤ length c.args.s.now) = short-ends _ _ _ c.requires.at_in_bounds.0 c.requires.at_in_bounds.1 c.requires.at_in_bounds.2 in
    let a = c.args in
    let e = ends in
    let n = length_part a.s.now (a.at + 1) (a.next - (a.at + 1)) (omega (arith, e.0, e.1)) in
    simp length-set (omega (arith, n, e.0, c.requires.at_in_bounds_2))

pub shape_of-out : goal.shape_of-out
shape_of-out c = ap length c.copy.ensures.out_after ∙ simp (length-overlay, length-set)

pub returns : goal.returns
returns c =
    let a = c.args in
    let s = a.s.now in
    let rest = part s (a.at + 1) (a.next - (a.at + 1)) in
    let w = c.copy.ensures in
    record { value = omega (arith, w.value); out_after = w.out_after ∙ ap (λ (b : ℕ). overlay (set a.out.now a.to b) (a.to + 1) rest) c.flag_of-flag.ensures }
