use mathlib.Core.Path.{◌≡◌}
use Rattle.blocks.specs.Representation.{representation_wire}
use Rattle.block_writing.proofs.write.write_indexed.Goals as goal

pub write-requires-clause-value_in_bounds : goal.write-requires-clause-value_in_bounds
unfolding representation_wire
write-requires-clause-value_in_bounds c =
    let e : c.new-i.result.value ≡ c.args.index.value = c.new-i.ensures in
    rw e c.requires.value_in_bounds

pub returns : goal.returns
unfolding representation_wire
returns c =
    let e : c.new-i.result.value ≡ c.args.index.value = c.new-i.ensures in
    record { value = rw e at c.write.ensures.value; out_after = rw e at c.write.ensures.out_after }
