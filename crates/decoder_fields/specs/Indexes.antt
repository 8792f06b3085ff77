-- What is read at a place of a block, told apart: an entry's index, or anything else.
use Rattle.std.specs.Prelude.{ℕ, leb, Option, Some, None, Ok, Err}
use Rattle.memory.specs.Choice.{pick}
use Rattle.blocks.specs.declared.read.RepresentationPlace.{RepresentationPlace}
use Rattle.blocks.specs.declared.read.RepresentationPlace.TheVariants.{Indexed, Literal}
use Rattle.integers.specs.Answers.{Read}
use Rattle.integers.specs.declared.number.TableIndex.{TableIndex}

-- the index that was read and the place after it
abbrev pub index_in : Read RepresentationPlace → Option (TableIndex × ℕ)
index_in (Ok (Indexed i, next)) = Some (i, next)
index_in (Ok (Literal flag name value, next)) = None
index_in (Err why) = None

abbrev pub IsLiteral : RepresentationPlace → Type 0
IsLiteral (Indexed i) = ⊥
IsLiteral (Literal flag name value) = Unit {0}

-- a short index, unless it is static
abbrev pub row_index : Option (TableIndex × ℕ) → Option (TableIndex × ℕ)
row_index (Some (i, next)) = pick (leb i.value 61) None (Some (i, next))
row_index None = None
