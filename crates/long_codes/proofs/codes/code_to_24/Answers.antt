use mathlib.Core.Path.{refl}
use native.Mathlib.Omega.{arith}
use Rattle.huffman.specs.Codes.{codes, code_of}
use Rattle.long_codes.specs.Fronts.{long_bytes, by_rank}
use Rattle.long_codes.proofs.Longs.{right, row, long-front}
use Rattle.long_codes.proofs.codes.code_to_24.Goals as goal

-- `long_codes::codes::code_to_24` meets its contract. Each arm has the codes of one length.
pub returns-then-x-lt4294860800 : goal.returns-then-x-lt4294860800
unfolding right row by_rank long_bytes code_of codes
returns-then-x-lt4294860800 c = long-front 19 3 524272 21 524251 c.args.x _ _ refl refl (omega arith) (omega arith) c.code_at.ensures

pub returns-then-x-lt4294893568 : goal.returns-then-x-lt4294893568
unfolding right row by_rank long_bytes code_of codes
returns-then-x-lt4294893568 c = long-front 20 8 1048550 24 1048526 c.args.x _ _ refl refl (omega arith) (omega arith) c.code_at-then-x-lt4294893568.ensures

pub returns-then-x-lt4294920192 : goal.returns-then-x-lt4294920192
unfolding right row by_rank long_bytes code_of codes
returns-then-x-lt4294920192 c = long-front 21 13 2097116 32 2097084 c.args.x _ _ refl refl (omega arith) (omega arith) c.code_at-then-x-lt4294920192.ensures

pub returns-then-x-lt4294946816 : goal.returns-then-x-lt4294946816
unfolding right row by_rank long_bytes code_of codes
returns-then-x-lt4294946816 c = long-front 22 26 4194258 45 4194213 c.args.x _ _ refl refl (omega arith) (omega arith) c.code_at-then-x-lt4294946816.ensures

pub returns-then-x-lt4294961664 : goal.returns-then-x-lt4294961664
unfolding right row by_rank long_bytes code_of codes
returns-then-x-lt4294961664 c = long-front 23 29 8388568 71 8388497 c.args.x _ _ refl refl (omega arith) (omega arith) c.code_at-then-x-lt4294961664.ensures

pub returns : goal.returns
unfolding right row by_rank long_bytes code_of codes
returns c = long-front 24 12 16777194 100 16777094 c.args.x _ _ refl refl (omega arith) (omega arith) c.code_at-2.ensures
