-- What our writer writes is the form with the strings packed that it packs. By cases along the definitions.
use mathlib.Core.Path.{◌≡◌, refl, ap, ap₂}
use mathlib.Core.Bool.{Bool, true, false}
use Prim.Native.Nat.{ℕ, ◌*◌}
use mathlib.Core.List.{List, [], ◌∷◌, ◌++◌}
use lib.ListN.{length}
use Rattle.memory.specs.Choice.{pick}
use Rattle.integers.specs.Integer.{int_wire}
use Rattle.huffman.specs.Packing.{pack, packed_size}
use Rattle.wire.specs.Text.{packs, string_wire}
use Rattle.wire.specs.Name.{Name, name_wire}
use Rattle.instructions.specs.Instruction.{Instruction, insert, delete, acknowledge, instruction_wire}
use Rattle.blocks.specs.Representation.{Representation, indexed, literal, representation_wire, block_wire}
use Rattle.forms.specs.Forms.{string_form, name_form, instruction_form, representation_form, block_form}
use Rattle.forms.specs.Packed.{our_name, our_instruction, our_representation, our_block}

chosen : (packed : Bool) (xs : List ℕ) → pick packed (int_wire 7 128 (packed_size xs) ++ pack xs) (int_wire 7 0 (length xs) ++ xs) ≡ string_form packed xs
unfolding string_form
chosen true xs = refl
chosen false xs = refl

pub our-string : (xs : List ℕ) → string_wire xs ≡ string_form (packs xs) xs
unfolding string_wire
our-string xs = chosen (packs xs) xs

pub our-name : (k top : ℕ) (n : Name) → name_wire k top n ≡ name_form k top (our_name n) n
unfolding name_wire name_form
our-name k top (Name.indexed i) = refl
our-name k top (Name.literal xs) = ap (λ (ys : List ℕ). int_wire k top 0 ++ ys) (our-string xs)

pub our_instruction_lem : (i : Instruction) → instruction_wire i ≡ instruction_form (our_instruction i) i
unfolding instruction_wire instruction_form
our_instruction_lem (insert i name value) =
    ap₂ (λ (xs ys : List ℕ). int_wire 7 128 i ++ (xs ++ ys)) (our-name 8 0 name) (our-string value)
our_instruction_lem (delete i nontrailer trailer) = refl
our_instruction_lem (acknowledge i) = refl

our-representation : (r : Representation) → representation_wire r ≡ representation_form (our_representation r) r
unfolding representation_wire representation_form
our-representation (indexed i) = refl
our-representation (literal flag name value) = ap₂ (λ (xs ys : List ℕ). xs ++ ys) (our-name 6 (flag * 64) name) (our-string value)

pub our_block_lem : (rs : List Representation) → block_wire rs ≡ block_form (our_block rs) rs
unfolding block_wire block_form
our_block_lem [] = refl
our_block_lem (r ∷ rs) = ap₂ (λ (xs ys : List ℕ). xs ++ ys) (our-representation r) (our_block_lem rs)
