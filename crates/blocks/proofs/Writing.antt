-- The bytes of a representation: those of its index, or of its name and then of its value; how many, and laid over a list.
-- By the definition and `write_then`.
use mathlib.Core.Path.{◌≡◌, refl, sym, ap, ◌∙◌}
use Prim.Native.Nat.{ℕ, ◌+◌, ◌*◌}
use mathlib.Core.List.{List, [], ◌∷◌, ◌++◌, append_assoc}
use lib.ListN.{length, length-append}
use Rattle.memory.specs.Bytes.{overlay}
use Rattle.integers.specs.Integer.{int_wire}
use Rattle.wire.specs.Text.{string_wire}
use Rattle.wire.specs.Name.{Name, name_wire}
use Rattle.wire.proofs.TextWriting.{write_then}
use Rattle.blocks.specs.Representation.{Representation, indexed, literal, representation_wire, block_wire}

pub indexed-wire : (i : ℕ) → representation_wire (indexed i) ≡ int_wire 7 128 i
unfolding representation_wire
indexed-wire i = refl

pub block-wire-nil : block_wire [] ≡ []
unfolding block_wire
block-wire-nil = refl

pub block-wire-cons : (r : Representation) (rs : List Representation) → block_wire (r ∷ rs) ≡ representation_wire r ++ block_wire rs
unfolding block_wire
block-wire-cons r rs = refl

pub block-wire-append : (rs qs : List Representation) → block_wire (rs ++ qs) ≡ block_wire rs ++ block_wire qs
unfolding block_wire
block-wire-append [] qs = refl
block-wire-append (r ∷ rs) qs =
    ap (λ (w : List ℕ). representation_wire r ++ w) (block-wire-append rs qs) ∙ sym (append_assoc (representation_wire r) (block_wire rs) (block_wire qs))

module _ (flag : ℕ) (name : Name) (value : List ℕ) where
  pub literal-wire : representation_wire (literal flag name value) ≡ name_wire 6 (flag * 64) name ++ string_wire value
  unfolding representation_wire
  literal-wire = refl

  pub literal-length : length (representation_wire (literal flag name value)) ≡ length (name_wire 6 (flag * 64) name) + length (string_wire value)
  unfolding representation_wire
  literal-length = length-append (name_wire 6 (flag * 64) name) (string_wire value)

  -- the name written at a place, then the value after it
  pub literal-written : (out : List ℕ) (at : ℕ) (mid last : List ℕ) (next end : ℕ)
      → next ≡ at + length (name_wire 6 (flag * 64) name) → mid ≡ overlay out at (name_wire 6 (flag * 64) name)
      → end ≡ next + length (string_wire value) → last ≡ overlay mid next (string_wire value)
      → (end ≡ at + length (representation_wire (literal flag name value))) × (last ≡ overlay out at (representation_wire (literal flag name value)))
  unfolding representation_wire
  literal-written out at mid last next end = write_then out at (name_wire 6 (flag * 64) name) (string_wire value) mid last next end
