-- The names that choices stand for.
use Rattle.std.specs.Prelude.{ℕ, List}
use Rattle.wire.specs.Name.{Name, indexed, literal}
use Rattle.encoder_fields.specs.declared.choice.Choice.{Choice}
use Rattle.encoder_fields.specs.declared.choice.Choice.TheVariants.{Named, Literal}
use Rattle.std.specs.Prelude.{Option, Some, None}
use Rattle.integers.specs.declared.number.TableIndex.{TableIndex}

-- the name that a choice stands for: by an index, or by its bytes
abbrev pub chosen_name : List ℕ → Option TableIndex → Name
chosen_name name (Some i) = indexed i.value
chosen_name name None = literal name

-- the static entry that was found, else the other choice
abbrev pub static_first : Option TableIndex → Option TableIndex → Option TableIndex
static_first (Some i) dynamic = Some i
static_first None dynamic = dynamic

-- a literal with this name
abbrev pub literal_with : Option TableIndex → Choice
literal_with (Some i) = Named i
literal_with None = Literal
