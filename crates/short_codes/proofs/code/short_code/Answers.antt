use mathlib.Core.Path.{refl}
use Prim.Native.Nat.{ℕ, ◌/◌, ◌%◌}
use native.Mathlib.Omega.{arith}
use lib.ListN.{get_or}
use Rattle.huffman.specs.Codes.{codes}
use Rattle.huffman.proofs.Tables.{table-at}
use Rattle.short_codes.specs.Short.{short_of, short_in, is_short}
use Rattle.short_codes.specs.declared.code.TheConstants.{SHORT}
use Rattle.short_codes.proofs.code.short_code.Goals as goal

pub returns-clause-byte : goal.returns-clause-byte
unfolding short_of short_in is_short codes
returns-clause-byte c = table-at (λ (k : ℕ). (get_or SHORT k (0, 0)).0) (λ (k : ℕ). short_of k / 256) 256 refl c.args.x (omega arith)

pub returns-clause-size : goal.returns-clause-size
unfolding short_of short_in is_short codes
returns-clause-size c = table-at (λ (k : ℕ). (get_or SHORT k (0, 0)).1) (λ (k : ℕ). short_of k % 256) 256 refl c.args.x (omega arith)
