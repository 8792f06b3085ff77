use native.Mathlib.Omega.{arith}
use mathlib.Core.Path.{sym, ap, ◌∙◌}
use Prim.Native.Nat.{◌+◌}
use Rattle.memory.specs.Bytes.{overlay}
use Rattle.memory.specs.Numbers.{number_bytes}
use Rattle.memory.proofs.Numbers.{number-part}
use Rattle.copying.proofs.copy.copy_eight.Goals as goal

pub returns : goal.returns
returns c =
    let a = c.args in
    let word = ap (number_bytes 8) c.u64_at.ensures in
    let bytes = number-part 8 a.src.now a.i (λ k. omega (arith, c.type_inv.src k)) c.requires.0 in
    c.put_u64.ensures ∙ ap (overlay a.out.now (a.at + a.i)) (word ∙ sym bytes)
