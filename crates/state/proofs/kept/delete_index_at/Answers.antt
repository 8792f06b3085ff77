use Rattle.state.proofs.kept.delete_index_at.Goals as goal

pub returns : goal.returns
returns c = rw (c.u32_at.ensures, c.delete_place.ensures)
