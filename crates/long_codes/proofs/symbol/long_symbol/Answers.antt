use mathlib.Core.Path.{◌≡◌, refl, sym, ap, ◌∙◌}
use Prim.Native.Nat.{ℕ, min}
use native.Mathlib.Omega.{arith}
use lib.ListN.{get_or}
use Rattle.memory.proofs.Order.{split}
use Rattle.huffman.proofs.Tables.{table-at}
use Rattle.long_codes.specs.Fronts.{by_rank, long_bytes}
use Rattle.long_codes.specs.declared.symbol.TheConstants.{BYTES}
use Rattle.long_codes.proofs.Longs.{last_byte}
use Rattle.long_codes.proofs.symbol.long_symbol.Goals as goal

-- the ranks behind the last one's place say its byte
clipped : (rank k : ℕ) → k ≡ min rank 181 → by_rank k ≡ by_rank rank
clipped rank k e =
    split rank 182 (λ h. let d : k ≡ rank = omega arith in ap by_rank d)
    (λ h. last_byte k (omega arith) ∙ sym (last_byte rank (omega arith)))

pub returns : goal.returns
unfolding by_rank long_bytes
returns c =
    table-at (λ (k : ℕ). get_or BYTES k 0) by_rank 182 refl c.min.result (omega arith) ∙ clipped c.args.rank c.min.result c.min.ensures
