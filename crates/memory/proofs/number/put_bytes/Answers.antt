use Prim.Native.Nat.{ℕ, ◌+◌, ◌-◌}
use mathlib.Core.Path.{◌≡◌, sym, ap, ◌∙◌}
use native.Mathlib.Omega.{arith}
use lib.ListN.{length}
use borrow.Rule.Slice.PartMut.{put_mid}
use Rattle.memory.specs.Bytes.{part}
use Rattle.memory.proofs.Overlay.{mid-overlay}
use Rattle.memory.proofs.Places.{length_part}
use Rattle.memory.proofs.number.put_bytes.Goals as goal

pub returns : goal.returns
returns g c =
    let a = c.args in
    let n = g.row.N in
    let e = c.copy_from_slice.ensures in
    let d : length a.bytes ≡ n =
    sym (ap length e.after) ∙ e.len ∙ ap (λ (k : ℕ). length (part a.m.now a.at k)) (omega arith) ∙ length_part a.m.now a.at n c.requires
    in
    ap (put_mid a.at (a.at + n - a.at) a.m.now) e.after ∙ mid-overlay a.m.now a.bytes a.at n c.requires d
