use mathlib.Core.Path.{refl}
use native.Mathlib.Omega.{arith}
use Rattle.huffman.specs.Codes.{codes, code_of}
use Rattle.long_codes.specs.Fronts.{long_bytes, by_rank}
use Rattle.long_codes.proofs.Longs.{right, row, long-front}
use Rattle.long_codes.proofs.codes.code_to_15.Goals as goal

-- `long_codes::codes::code_to_15` meets its contract. Each arm has the codes of one length.
pub returns-then-x-lt4282384384 : goal.returns-then-x-lt4282384384
unfolding right row by_rank long_bytes code_of codes
returns-then-x-lt4282384384 c = long-front 10 5 1016 0 1016 c.args.x _ _ refl refl (omega arith) (omega arith) c.code_at.ensures

pub returns-then-x-lt4288675840 : goal.returns-then-x-lt4288675840
unfolding right row by_rank long_bytes code_of codes
returns-then-x-lt4288675840 c = long-front 11 3 2042 5 2037 c.args.x _ _ refl refl (omega arith) (omega arith) c.code_at-then-x-lt4288675840.ensures

pub returns-then-x-lt4290772992 : goal.returns-then-x-lt4290772992
unfolding right row by_rank long_bytes code_of codes
returns-then-x-lt4290772992 c = long-front 12 2 4090 8 4082 c.args.x _ _ refl refl (omega arith) (omega arith) c.code_at-then-x-lt4290772992.ensures

pub returns-then-x-lt4293918720 : goal.returns-then-x-lt4293918720
unfolding right row by_rank long_bytes code_of codes
returns-then-x-lt4293918720 c = long-front 13 6 8184 10 8174 c.args.x _ _ refl refl (omega arith) (omega arith) c.code_at-then-x-lt4293918720.ensures

pub returns-then-x-lt4294443008 : goal.returns-then-x-lt4294443008
unfolding right row by_rank long_bytes code_of codes
returns-then-x-lt4294443008 c = long-front 14 2 16380 16 16364 c.args.x _ _ refl refl (omega arith) (omega arith) c.code_at-then-x-lt4294443008.ensures

pub returns : goal.returns
unfolding right row by_rank long_bytes code_of codes
returns c = long-front 15 3 32764 18 32746 c.args.x _ _ refl refl (omega arith) (omega arith) c.code_at-2.ensures
