-- What a management instruction that was read is: its index, strings and lists are such as the table's steps ask for.
-- From what the decoder's reader can find, along the cases of the instruction and of its name.
use mathlib.Core.Path.{◌≡◌, sym, subst, ◌∙◌}
use Prim.Native.Nat.{ℕ, ◌≤◌}
use mathlib.Core.List.{List}
use Rattle.integers.specs.declared.number.TableIndex.{TableIndex}
use Rattle.wire.specs.Text.{InString, string_length}
use Rattle.wire.specs.Name.{GoodName}
use Rattle.stream_lists.specs.StreamList.{InList}
use Rattle.wire.specs.declared.text.StringPlace.{StringPlace}
use Rattle.wire.specs.declared.name.NamePlace.{NamePlace}
use Rattle.wire.specs.declared.name.NamePlace.TheVariants.{Index, Text}
use Rattle.stream_lists.specs.declared.stream_list.ListPlace.{ListPlace}
use Rattle.instructions.specs.Instruction.{FineIndex, FineInstruction}
use Rattle.instructions.specs.Reading.{read_for_decoder, instruction_of, InBytes}
use Rattle.instructions.specs.declared.read.InstructionPlace.{InstructionPlace}
use Rattle.instructions.specs.declared.read.InstructionPlace.TheVariants.{Insert, Delete}
use Rattle.instructions.proofs.Bounds.{decoder-good}
use Rattle.std.specs.Prelude.{Ok}
use Rattle.integers.specs.Answers.{Read}

module _ (s : List ℕ) (r : Read InstructionPlace) (told : r ≡ read_for_decoder s) (p : InstructionPlace) (taken : ℕ) (found : r ≡ Ok (p, taken)) where
  pub taken-fits : taken ≤ 9228
  taken-fits = (decoder-good s p taken (sym told ∙ found)).short

  good : (q : InstructionPlace) → p ≡ q → FineInstruction (instruction_of s q) × InBytes s q
  good q e =
      let g = decoder-good s p taken (sym told ∙ found) in
      subst (λ (t : InstructionPlace). FineInstruction (instruction_of s t) × InBytes s t) e (g.fine, g.bytes)

  module _ (i : TableIndex) (name : NamePlace) (value : StringPlace) (e : p ≡ Insert i name value) where
    pub insert-index : FineIndex i.value
    insert-index = (good (Insert i name value) e).0.0

    pub insert-value : InString s value × (string_length s value ≤ 2047)
    insert-value = let g = (good (Insert i name value) e).1 in (g.1, g.2)

    pub insert_named_lem : (named : TableIndex) → name ≡ Index named → 1 ≤ named.value
    insert_named_lem named d = (subst (GoodName s) d (good (Insert i name value) e).1.0).0

    pub insert-text : (text : StringPlace) → name ≡ Text text → InString s text × (string_length s text ≤ 255)
    insert-text text d = subst (GoodName s) d (good (Insert i name value) e).1.0

  module _ (i : TableIndex) (nontrailer later : ListPlace) (e : p ≡ Delete i nontrailer later) where
    pub delete-index : FineIndex i.value
    delete-index = (good (Delete i nontrailer later) e).0.0

    pub delete-lists : InList s nontrailer × InList s later
    delete-lists = (good (Delete i nontrailer later) e).1
