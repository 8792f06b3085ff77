use mathlib.Core.Path.{◌≡◌, refl}
use Prim.Native.Nat.{ℕ}
use native.Mathlib.Omega.{arith}
use Rattle.std.proofs.Common.{rules, sum_by}
use Rattle.std.proofs.lemmas.List.Recursion.{is_sum_by}
use Rattle.huffman.specs.Codes.{code_of}
use Rattle.huffman.specs.Packing.{codes_size, packed_size}
use Rattle.huffman.proofs.Packs.{codes_size-most}
use Rattle.packing.proofs.pack.packed_size.Goals as goal

summed : (c : goal.After-sum-bits) → c.sum-bits.result ≡ sum_by (λ (x : ℕ). (code_of x).size) c.args.s.now
summed c = search rules

counted : (c : goal.After-sum-bits) → c.sum-bits.result ≡ codes_size c.args.s.now
unfolding codes_size
counted c = let e = is_sum_by codes_size (λ (x : ℕ). (code_of x).size) refl (λ x xs. refl) c.args.s.now in omega (arith, summed c)

pub overflow_add-result : goal.overflow_add-result
overflow_add-result c = omega (arith, counted c, codes_size-most c.args.s.now)

pub returns : goal.returns
unfolding packed_size
returns c = omega (arith, counted c)
