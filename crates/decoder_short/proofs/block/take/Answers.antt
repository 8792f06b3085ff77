use Rattle.decoder_short.proofs.block.take.Goals as goal

pub returns-then-s-at-lt-INDEXED : goal.returns-then-s-at-lt-INDEXED
returns-then-s-at-lt-INDEXED c = c.take_literal.ensures _
