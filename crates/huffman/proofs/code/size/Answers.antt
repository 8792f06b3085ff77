use mathlib.Core.Path.{refl}
use Prim.Native.Nat.{ℕ}
use native.Mathlib.Omega.{arith}
use lib.ListN.{get_or}
use Rattle.huffman.specs.Codes.{codes, code_of}
use Rattle.huffman.specs.declared.code.TheConstants.{CODES}
use Rattle.huffman.proofs.Tables.{table-at}
use Rattle.huffman.proofs.code.size.Goals as goal

pub returns : goal.returns
unfolding code_of codes
returns c = table-at (λ (k : ℕ). (get_or CODES k (0, 0)).1) (λ (k : ℕ). (code_of k).size) 256 refl c.args.x (omega arith)
