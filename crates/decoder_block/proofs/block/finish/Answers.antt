use mathlib.Core.Path.{sym, ap, ◌∙◌}
use mathlib.Core.Option.{Option}
use Rattle.integers.specs.declared.number.StreamNumber.{StreamNumber}
use Rattle.model.specs.Parts.{Part}
use Rattle.parts.specs.Turn.{part_in}
use Rattle.parts.specs.Close.{closed_by, closed_of}
use Rattle.decoder_block.proofs.block.finish.Goals as goal

pub close_after-requires : goal.close_after-requires
close_after-requires c = let p = c.requires in rw c.new.ensures (p.0, p.2)

pub returns : goal.returns
unfolding closed_of
returns c =
    let a = c.args in
    let kind = c.kind_of in
    c.close_after.ensures
    ∙ ap (λ (x : StreamNumber). closed_by (part_in kind.result) a.m.now x.value) c.new.ensures
    ∙ sym (ap (λ (o : Option Part). closed_of o a.m.now a.stream) kind.ensures)
