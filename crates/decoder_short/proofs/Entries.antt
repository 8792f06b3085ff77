-- The field of an index, and of a literal whose name is an entry's, by the place where the entry stands.
use Prim.Native.Nat.{ℕ, ◌+◌, ◌-◌, ◌≤◌, ◌<◌}
use mathlib.Core.Path.{◌≡◌, sym, ap, ap₂, subst, ◌∙◌}
use native.Mathlib.Omega.{arith}
use mathlib.Core.List.{List}
use lib.ListN.{length, get_or, set}
use Rattle.memory.specs.Bytes.{overlay}
use Rattle.integers.specs.declared.number.TableIndex.{TableIndex}
use Rattle.wire.specs.Text.{string_bytes}
use Rattle.wire.specs.Name.{read_name}
use Rattle.wire.specs.declared.name.NamePlace.TheVariants.{Index}
use Rattle.fields.specs.Form.{Field, text_form, field_form}
use Rattle.fields.proofs.Sizes.{text_form-length, text_size-bound, field_form-split}
use Rattle.blocks.specs.Reading.{flag_of, read_representation}
use Rattle.blocks.specs.Meaning.{field}
use Rattle.blocks.specs.declared.read.RepresentationPlace.TheVariants.{Indexed}
use Rattle.entry_places.specs.Place.{place_name, place_value}
use Rattle.entry_places.specs.declared.place.EntryPlace.{EntryPlace}
use Rattle.decoder_survey.specs.Measure.{field_at, IsField}
use Rattle.decoder_survey.proofs.Entries.{Located}
use Rattle.decoder_survey.proofs.Fields.{names-entry, names-name, found, meant-written}
use Rattle.decoder_literals.specs.Taking.{Took, StringTaken, FieldTaken}
use Rattle.decoder_literals.proofs.Literals.{value_taken}
use Rattle.std.specs.Prelude.{Ok, Option}

-- ---- room

-- a name or a value takes at most two bytes more with its length
pub text-room : (xs : List ℕ) → length xs ≤ 2047 → length (text_form xs) ≤ length xs + 2
text-room xs h = omega (arith, text_form-length xs (omega arith), text_size-bound (length xs))

pub field_room : (f : Field) → length f.name ≤ 255 → length f.value ≤ 2047 → length (field_form f) ≤ length f.name + length f.value + 5
field_room f h k = omega (arith, field_form-split f, text-room f.name (omega arith), text-room f.value k)

-- ---- entries

module _ (m s : List ℕ) (at : ℕ) (index : TableIndex) (place : EntryPlace) (stands : Located m index.value place)
    (lent : List ℕ) (to : ℕ) where
  -- by the index
  pub index-field : (next : ℕ) → read_representation s at ≡ Ok (Indexed index, next)
      → (name value : List ℕ) → name ≡ place_name m place → value ≡ place_value m place
      → to ≤ length lent → length name + length value + 5 ≤ length lent - to
      → (after : ℕ) (out : List ℕ)
      → (after ≡ to + length (field_form (record { flag = 0; name = name; value = value }))) × (out ≡ overlay lent to (field_form (record { flag = 0; name = name; value = value })))
      → Took m s at lent out to next after
  index-field next e name value n v h room after out w =
      let f : Field = record { flag = 0; name = name; value = value } in
      let d : field_at m s (Indexed index) ≡ field f =
      found m index.value _ (names-entry m index.value) place stands
      ∙ sym (ap₂ (λ (x y : List ℕ). field (record { flag = 0; name = x; value = y })) n v)
      in
      let x = meant-written f d to lent w in
      record {
        place = Indexed index;
        reads = e;
        meant = subst IsField (sym d) tt;
        ends = x.0;
        fits = omega (arith, w.0, field_room f (omega (arith, stands.name, ap length n)) (omega (arith, stands.value, ap length v)));
        written = x.1;
      }

  -- for its name: the flag and the name stand in the list, and then the value is taken
  pub named-taken : at < length s → get_or s at 0 < 128 → (middle : ℕ) → read_name 6 s at ≡ Ok (Index index, middle)
      → (name : List ℕ) → name ≡ place_name m place → (list : List ℕ) (between : ℕ)
      → between ≡ to + 1 + length (text_form name) → list ≡ overlay (set lent to (flag_of (get_or s at 0))) (to + 1) (text_form name)
      → (out : List ℕ) (r : Option (ℕ × ℕ)) → StringTaken s middle list out between r → FieldTaken m s at lent out to r
  named-taken h low middle e name n list between ends written out r L =
      let flag : ℕ = flag_of (get_or s at 0) in
      value_taken m s at h low (Index index) middle e name
      (λ value. found m index.value _ (names-name m index.value flag (string_bytes s value)) place stands
      ∙ sym (ap (λ (x : List ℕ). field (record { flag = flag; name = x; value = string_bytes s value })) n))
      lent to list between ends written out r L
