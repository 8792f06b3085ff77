-- What was read is what would be written, byte for byte: a length is in its shortest form, so its bytes are those of `length_form`.
-- By the two forms of a length, and then part by part.
use mathlib.Core.Path.{◌≡◌, refl, sym, ap, subst}
use Prim.Native.Nat.{ℕ, ◌+◌, ◌*◌, ◌/◌, ◌%◌}
use native.Mathlib.Omega.{arith}
use mathlib.Core.List.{List}
use lib.ListN.{length, get_or}
use Rattle.memory.specs.Bytes.{Has, Small}
use Rattle.memory.proofs.Places.{has_join, part-has, length_part}
use Rattle.fields.specs.Form.{FineField, length_form, text_form, field_form}
use Rattle.fields.specs.Reading.{read_length, read_text, read_field, text_of, field_of}
use Rattle.fields.specs.declared.read.TextPlace.{TextPlace}
use Rattle.fields.specs.declared.read.FieldPlace.{FieldPlace}
use Rattle.fields.proofs.Inverse.{length-each, text-inverse, Parts, field-inverse}
use Rattle.fields.proofs.Bounds.{text-bounds, FieldBounds, field-bounds}
use Rattle.fields.proofs.Sizes.{form-one, form-two, text_form-split, field_form-split}
use Rattle.std.specs.Prelude.{Ok}

-- the form's bytes stand at a place and end at another
abbrev pub Stands : List ℕ → ℕ → ℕ → List ℕ → Type 0
Stands s at next form = Has s at form × (next ≡ at + length form)

module _ (s : List ℕ) (small : Small s) where
  pub length-forth : (at limit n next : ℕ) → read_length s at limit ≡ Ok (n, next) → Stands s at next (length_form n)
  length-forth at limit n next e =
      length-each s at limit (λ n next. Stands s at next (length_form n))
      (λ h k l. rw (form-one (get_or s at 0) k) ((h, refl, tt), refl))
      (λ h k l m q.
      let n : ℕ = get_or s at 0 % 128 + 128 * get_or s (at + 1) 0 in
      let b = small at in
      let x : get_or s at 0 ≡ n % 128 + 128 = omega arith in
      let y : get_or s (at + 1) 0 ≡ n / 128 = omega arith in
      rw (form-two n (omega arith) (omega arith)) ((omega arith, x, (h, y, tt)), refl)) n next e

  pub text-forth : (at limit : ℕ) (p : TextPlace) (next : ℕ) → read_text s at limit ≡ Ok (p, next) → Stands s at next (text_form (text_of s p))
  unfolding text_form
  text-forth at limit p next e =
      let i = text-inverse s at limit p next e in
      let b = text-bounds s at limit p next e in
      let l = length-forth at limit p.length p.start i.0 in
      let x : length (text_of s p) ≡ p.length = length_part s p.start p.length (omega arith) in
      let y : Has s p.start (text_of s p) = part-has s p.start p.length (omega arith) in
      let z : Has s (at + length (length_form p.length)) (text_of s p) = subst (λ (k : ℕ). Has s k (text_of s p)) l.1 y in
      (rw x (has_join s at (length_form p.length) (text_of s p) l.0 z), omega (arith, text_form-split (text_of s p), ap (λ (k : ℕ). length (length_form k)) x))

  pub field-forth : (at : ℕ) (p : FieldPlace) (next : ℕ) → read_field s at ≡ Ok (p, next)
      → Has s at (field_form (field_of s p)) × (next ≡ at + length (field_form (field_of s p))) × FineField (field_of s p)
  unfolding field_form
  field-forth at p next e =
      let i : Parts s at p next = field-inverse s at p next e in
      let b : FieldBounds s at p next = field-bounds s at p next e in
      let n = text-forth (at + 1) 255 p.name i.middle i.name-read in
      let v = text-forth i.middle 2047 p.value next i.value_read in
      let name : List ℕ = text_form (text_of s p.name) in
      let value : List ℕ = text_form (text_of s p.value) in
      let w : Has s (at + 1 + length name) value = subst (λ (k : ℕ). Has s k value) n.1 v.0 in (
        (i.inside, sym i.flag-there, has_join s (at + 1) name value n.0 w),
        omega (arith, field_form-split (field_of s p)),
        record {
          flag_bit = b.flag_bit;
          name_short = rw (length_part s p.name.start p.name.length b.name-inside) b.name_short;
          value_short = rw (length_part s p.value.start p.value.length b.value-inside) b.value_short;
        },
      )
