use native.Mathlib.Omega.{arith}
use mathlib.Core.Path.{sym, ap, ◌∙◌}
use Prim.Native.Nat.{◌+◌}
use Rattle.memory.specs.Bytes.{overlay}
use Rattle.memory.specs.Numbers.{number_bytes}
use Rattle.memory.proofs.Numbers.{number-part}
use Rattle.copying.proofs.copy.copy_four.Goals as goal

pub returns : goal.returns
returns c =
    let a = c.args in
    let word = ap (number_bytes 4) c.u32_at.ensures in
    let bytes = number-part 4 a.src.now a.i (λ k. omega (arith, c.type_inv.src k)) c.requires.0 in
    c.put_u32.ensures ∙ ap (overlay a.out.now (a.at + a.i)) (word ∙ sym bytes)
