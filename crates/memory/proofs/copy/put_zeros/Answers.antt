use Prim.Native.Nat.{ℕ, ◌+◌, ◌-◌}
use mathlib.Core.Path.{◌≡◌, ap, ◌∙◌}
use native.Mathlib.Omega.{arith}
use lib.ListN.{length, replicate, length-replicate}
use borrow.Rule.Slice.PartMut.{put_mid}
use Rattle.memory.specs.Bytes.{part}
use Rattle.memory.proofs.Overlay.{mid-overlay}
use Rattle.memory.proofs.Places.{length_part}
use Rattle.memory.proofs.copy.put_zeros.Goals as goal

pub returns : goal.returns
returns c =
    let a = c.args in
    let d : length (part a.m.now a.at (a.at + a.n - a.at)) ≡ a.n =
    ap (λ (k : ℕ). length (part a.m.now a.at k)) (omega arith) ∙ length_part a.m.now a.at a.n c.requires
    in
    ap (put_mid a.at (a.at + a.n - a.at) a.m.now) (c.fill.ensures.after (λ y e. e) ∙ ap (λ (k : ℕ). replicate k 0) d)
    ∙ mid-overlay a.m.now (replicate a.n 0) a.at a.n c.requires (length-replicate a.n 0)
