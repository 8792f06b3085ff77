use Prim.Native.Nat.{◌+◌, ◌-◌}
use mathlib.Core.Path.{◌≡◌, ap}
use native.Mathlib.Omega.{arith}
use Rattle.memory.specs.Bytes.{part}
use Rattle.encoder_fields.proofs.choice.text_at.Goals as goal

pub returns : goal.returns
returns c =
    let a = c.args in
    let n : a.place.start + a.place.length - a.place.start ≡ a.place.length = omega arith in
    ap (part a.s.now a.place.start) n
