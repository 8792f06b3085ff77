use mathlib.Core.Path.{sym, ◌∙◌}
use Rattle.blocks.proofs.Equations.{representation-truncated, representation-literal, representation-indexed}
use Rattle.blocks.proofs.read.read_representation.Goals as goal

-- `read_representation` gives what `read_representation` says, by the first byte.
pub returns-then-s-at : goal.returns-then-s-at
returns-then-s-at c = sym (representation-truncated _ _ c.if-s-at.true)

pub returns-then-s-at-lt-INDEXED : goal.returns-then-s-at-lt-INDEXED
returns-then-s-at-lt-INDEXED c = c.read_literal.ensures ∙ sym (representation-literal _ _ c.if-s-at.false c.if-s-at-lt-INDEXED.true)

pub returns : goal.returns
returns c = c.read_indexed.ensures ∙ sym (representation-indexed _ _ c.if-s-at.false c.if-s-at-lt-INDEXED.false)
