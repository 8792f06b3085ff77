use Rattle.decoder_short.proofs.entry.take_entry.Goals as goal

pub returns-then-s-at-ge-INDEXED : goal.returns-then-s-at-ge-INDEXED
returns-then-s-at-ge-INDEXED c = let p = c.requires in c.take_static.ensures _ p.1
