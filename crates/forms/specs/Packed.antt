-- Which strings of what was read are packed: those whose H bit is set. No string, none packed. And what an accepted form is.
use Rattle.std.specs.Prelude.{◌≡◌, ℕ, zero, suc, Bool, false, List, [], ◌∷◌, length, ltb, Ok}
use Rattle.memory.specs.Choice.{pick}
use Rattle.memory.specs.Bytes.{Small}
use Rattle.wire.specs.Text.{packs}
use Rattle.wire.specs.Name.{Name, indexed as by_index, literal as by_bytes}
use Rattle.wire.specs.declared.name.NamePlace.{NamePlace}
use Rattle.wire.specs.declared.name.NamePlace.TheVariants.{Index, Text}
use Rattle.instructions.specs.declared.read.InstructionPlace.{InstructionPlace}
use Rattle.instructions.specs.declared.read.InstructionPlace.TheVariants.{Insert, Delete, Acknowledge}
use Rattle.instructions.specs.Instruction.{Instruction, insert, delete, acknowledge}
use Rattle.instructions.specs.Reading.{instruction_of}
use Rattle.blocks.specs.Representation.{Representation, indexed, literal, FineRepresentation}
use Rattle.blocks.specs.Reading.{read_representation, block, read_block}
use Rattle.blocks.specs.declared.read.RepresentationPlace.{RepresentationPlace}
use Rattle.blocks.specs.declared.read.RepresentationPlace.TheVariants.{Indexed, Literal}
use Rattle.forms.specs.Forms.{Packed}
use Rattle.integers.specs.Answers.{Read, on_read}

abbrev pub none : Packed
none = record { name = false; value = false }

abbrev pub packed_name : NamePlace → Bool
packed_name (Index i) = false
packed_name (Text p) = p.packed

abbrev pub packed_instruction : InstructionPlace → Packed
packed_instruction (Insert i name value) = record { name = packed_name name; value = value.packed }
packed_instruction (Delete i nontrailer trailer) = none
packed_instruction (Acknowledge i) = none

abbrev pub packed_representation : RepresentationPlace → Packed
packed_representation (Indexed i) = none
packed_representation (Literal flag name value) = record { name = packed_name name; value = value.packed }

-- of the representations from the place at on, at most f
unfoldable pub packed_from : ℕ → List ℕ → ℕ → List Packed
packed_from zero s at = []
packed_from (suc f) s at =
    pick (ltb at (length s))
    (on_read (λ why. []) (read_representation s at) (λ p next. packed_representation p ∷ packed_from f s next))
    []

-- of a block's representations
unfoldable pub packed_block : List ℕ → List Packed
packed_block s = packed_from (length s) s 0

-- ---- which strings our writer packs: those that are strictly shorter so

abbrev pub our_name : Name → Bool
our_name (by_index i) = false
our_name (by_bytes xs) = packs xs

abbrev pub our_instruction : Instruction → Packed
our_instruction (insert i name value) = record { name = our_name name; value = packs value }
our_instruction (delete i nontrailer trailer) = none
our_instruction (acknowledge i) = none

abbrev pub our_representation : Representation → Packed
our_representation (indexed i) = none
our_representation (literal flag name value) = record { name = our_name name; value = packs value }

abbrev pub our_block : List Representation → List Packed
our_block [] = []
our_block (r ∷ rs) = our_representation r ∷ our_block rs

-- ---- accepted forms

-- s is a form of the instruction i with these strings packed: bytes that the end's reader takes, all of them
pub record AcceptedInstruction (reader : List ℕ → Read InstructionPlace) (packed : Packed) (i : Instruction) (s : List ℕ) : Type 0 where
  pub bytes : Small s
  pub place : InstructionPlace
  pub reads : reader s ≡ Ok (place, length s)
  pub says : instruction_of s place ≡ i
  pub packs : packed_instruction place ≡ packed

-- s is a form of the block rs with these strings packed
pub record AcceptedBlock (packed : List Packed) (rs : List Representation) (s : List ℕ) : Type 0 where
  pub bytes : Small s
  pub reads : read_block s ≡ block rs
  pub packs : packed_block s ≡ packed

-- ---- what can be said with these strings packed: a string is of bytes, and only a string can be packed

abbrev pub FitName : Bool → Name → Type 0
FitName packed (by_index i) = packed ≡ false
FitName packed (by_bytes xs) = Small xs

abbrev pub FitInstruction : Packed → Instruction → Type 0
FitInstruction p (insert i name value) = FitName p.name name × Small value
FitInstruction p (delete i nontrailer trailer) = p ≡ none
FitInstruction p (acknowledge i) = p ≡ none

abbrev pub FitRepresentation : Packed → Representation → Type 0
FitRepresentation p (indexed i) = p ≡ none
FitRepresentation p (literal flag name value) = FitName p.name name × Small value

abbrev pub FitBlock : List Packed → List Representation → Type 0
FitBlock [] [] = Unit {0}
FitBlock [] (r ∷ rs) = ⊥
FitBlock (p ∷ ps) [] = ⊥
FitBlock (p ∷ ps) (r ∷ rs) = FineRepresentation r × FitRepresentation p r × FitBlock ps rs
