use Rattle.std.proofs.Common.{◌-◌, length}
use Rattle.vectors.proofs.answers.representations.Given as goal

-- The measure falls, because each representation takes a byte at least.
abbrev pub decreases-loop-place : goal.decreases-loop-place
decreases-loop-place l = length l.s - l.at
