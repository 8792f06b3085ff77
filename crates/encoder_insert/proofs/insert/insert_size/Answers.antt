use mathlib.Core.Path.{sym, ap, ap₂, ◌∙◌}
use native.Mathlib.Omega.{arith}
use lib.ListN.{length}
use Rattle.std.specs.Prelude.{Option}
use Rattle.integers.specs.declared.number.TableIndex.{TableIndex}
use Rattle.instructions.specs.Instruction.{insert, instruction_wire}
use Rattle.wire.proofs.TextWriting.{size-within}
use Rattle.sizes.specs.Sizes.{insert_index_size, insert_text_size}
use Rattle.sizes.proofs.Lengths.{insert-index-size, insert-text-size}
use Rattle.encoder_fields.specs.Naming.{chosen_name}
use Rattle.encoder_insert.proofs.insert.insert_size.Goals as goal

pub insert_text_size-requires : goal.insert_text_size-requires
insert_text_size-requires c =
    let start = c in
    (omega (arith, c.wire_size-in-None.ensures.0, size-within start.args.name.now, start.requires.0), omega (arith, c.wire_size-in-None-2.ensures.1))

pub returns-in-Some : goal.returns-in-Some
returns-in-Some c =
    let a = c.args in (
      c.insert_index_size.ensures.0 ∙ ap (insert_index_size _ _) c.wire_size.ensures.0
          ∙ sym (ap (λ (by : Option TableIndex). length (instruction_wire (insert a.index.value (chosen_name a.name.now by) a.value.now))) c.in-Some.is
          ∙ insert-index-size _ _ a.value.now),
      omega (arith, c.insert_index_size.ensures.1),
    )

pub returns-in-None : goal.returns-in-None
returns-in-None c =
    let a = c.args in (
      c.insert_text_size.ensures.0 ∙ ap₂ (insert_text_size _) c.wire_size-in-None.ensures.0 c.wire_size-in-None-2.ensures.0
          ∙ sym (ap (λ (by : Option TableIndex). length (instruction_wire (insert a.index.value (chosen_name a.name.now by) a.value.now))) c.in-None.is
          ∙ insert-text-size _ a.name.now a.value.now),
      omega (arith, c.insert_text_size.ensures.1),
    )
