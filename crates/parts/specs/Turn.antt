-- Which part of which stream is in turn, by the marks.
use Rattle.std.specs.Prelude.{ℕ, Bool, false, ◌&&◌, ltb}
use Rattle.std.proofs.Math.Option.{Option, none, some}
use Rattle.memory.specs.Choice.{pick}
use Rattle.model.specs.Parts.{Part, nontrailer, trailer, part_number, Marks, in_turn, streams}
use Rattle.parts.specs.declared.turn.Part.{Part as PartCase}
use Rattle.parts.specs.declared.turn.Part.TheVariants.{Nontrailer, Trailer}
use Rattle.std.specs.Prelude.{Some, None}
use Rattle.integers.specs.declared.number.StreamNumber.{StreamNumber}
use Rattle.std.specs.Prelude as prelude

-- 11 is given for "stream above 4,095, part number not 0 (non-trailer) or 1 (trailer), or part out of turn"
unfoldable pub part_turn : Marks → ℕ → Option Part → Bool
part_turn marks stream none = false
part_turn marks stream (some p) = ltb stream streams && in_turn marks stream p

-- the part that each case stands for, the case that stands for each part, and the number of each case: "0 (non-trailer) or 1 (trailer)"
abbrev pub part_in : PartCase → Part
part_in Nontrailer = nontrailer
part_in Trailer = trailer

abbrev pub case_of : Part → PartCase
case_of nontrailer = Nontrailer
case_of trailer = Trailer

abbrev pub case_number : PartCase → ℕ
case_number c = part_number (part_in c)

-- the stream and the part where the part is in turn
unfoldable pub turn_of : Marks → ℕ → Option Part → prelude.Option (StreamNumber × PartCase)
turn_of marks stream none = None
turn_of marks stream (some p) = pick (part_turn marks stream (some p)) (Some (record { value = stream }, case_of p)) None
