use Rattle.state.proofs.kept.put_delete_index.Goals as goal

pub returns : goal.returns
returns c = rw (c.put_u32.ensures, c.delete_place.ensures)
