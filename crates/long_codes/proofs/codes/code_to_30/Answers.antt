use mathlib.Core.Path.{refl}
use native.Mathlib.Omega.{arith}
use Rattle.huffman.specs.Codes.{codes, code_of}
use Rattle.long_codes.specs.Fronts.{long_bytes, by_rank}
use Rattle.long_codes.proofs.Longs.{right, row, long-front}
use Rattle.long_codes.proofs.codes.code_to_30.Goals as goal

-- `long_codes::codes::code_to_30` meets its contract. Each arm has the codes of one length; the last leaves out the end mark.
pub returns-then-x-lt4294965248 : goal.returns-then-x-lt4294965248
unfolding right row by_rank long_bytes code_of codes
returns-then-x-lt4294965248 c = long-front 25 4 33554412 112 33554300 c.args.x _ _ refl refl (omega arith) (omega arith) c.code_at.ensures

pub returns-then-x-lt4294966208 : goal.returns-then-x-lt4294966208
unfolding right row by_rank long_bytes code_of codes
returns-then-x-lt4294966208 c = long-front 26 15 67108832 116 67108716 c.args.x _ _ refl refl (omega arith) (omega arith) c.code_at-then-x-lt4294966208.ensures

pub returns-then-x-lt4294966816 : goal.returns-then-x-lt4294966816
unfolding right row by_rank long_bytes code_of codes
returns-then-x-lt4294966816 c = long-front 27 19 134217694 131 134217563 c.args.x _ _ refl refl (omega arith) (omega arith) c.code_at-then-x-lt4294966816.ensures

pub returns-then-x-lt4294967280 : goal.returns-then-x-lt4294967280
unfolding right row by_rank long_bytes code_of codes
returns-then-x-lt4294967280 c = long-front 28 29 268435426 150 268435276 c.args.x _ _ refl refl (omega arith) (omega arith) c.code_at-then-x-lt4294967280.ensures

pub returns : goal.returns
unfolding right row by_rank long_bytes code_of codes
returns c = long-front 30 3 1073741820 179 1073741641 c.args.x _ _ refl refl (omega arith) (omega arith) c.code_at-2.ensures
