-- What a representation means, by the place where its index was found, and how many bytes its field takes. By the cases of the place.
use Prim.Native.Nat.{ℕ, ◌+◌, ◌≤◌, ◌<◌}
use mathlib.Core.Path.{◌≡◌, refl, sym, ap, subst, ◌∙◌}
use native.Mathlib.Omega.{arith}
use mathlib.Core.List.{List}
use lib.ListN.{length}
use Rattle.memory.specs.Bytes.{overlay}
use Rattle.statics.specs.Table.{Entry}
use Rattle.wire.specs.Text.{string_bytes}
use Rattle.wire.specs.Name.{indexed as indexed_name, literal as by_bytes}
use Rattle.wire.proofs.TextBounds.{string-size}
use Rattle.wire.specs.declared.name.NamePlace.{NamePlace}
use Rattle.wire.specs.declared.name.NamePlace.TheVariants.{Index, Text}
use Rattle.wire.specs.declared.text.StringPlace.{StringPlace}
use Rattle.fields.specs.Form.{Field, text_form, field_form, field_size}
use Rattle.fields.proofs.Sizes.{text_form-length, text_size-bound, field_form-split, field_form-positive}
use Rattle.blocks.specs.Representation.{indexed, literal}
use Rattle.blocks.specs.Reading.{InBytes}
use Rattle.blocks.specs.Meaning.{Slot, vacant, FieldMeaning, field, field_meaning, on_slot}
use Rattle.blocks.specs.declared.read.RepresentationPlace.{RepresentationPlace}
use Rattle.blocks.specs.declared.read.RepresentationPlace.TheVariants.{Indexed, Literal}
use Rattle.model.specs.Decoder.{lookup}
use Rattle.state.specs.DecoderState.{decoder_of}
use Rattle.entry_places.specs.Place.{locate}
use Rattle.entry_places.specs.declared.place.EntryPlace.{EntryPlace}
use Rattle.std.specs.Prelude.{Option, Some, None}
use Rattle.decoder_survey.specs.declared.measure.Survey.TheVariants.{Bytes}
use Rattle.decoder_survey.specs.Measure.{Stands, field_meant, field_at, IsField, field_bytes, field_measured}
use Rattle.decoder_survey.proofs.Entries.{entry_of, Located, Looked, looked}

-- ---- the bytes of a field

abbrev Short : Field → Type 0
Short f = (length f.name ≤ 255) × (length f.value ≤ 2047)

field-length : (f : Field) → Short f → length (field_form f) ≡ field_size (length f.name) (length f.value)
unfolding field_size
field-length f h = omega (arith, field_form-split f, text_form-length f.name (omega arith), text_form-length f.value (omega arith))

field-most : (f : Field) → Short f → length (field_form f) ≤ 2307
unfolding field_size
field-most f h = omega (arith, field-length f h, text_size-bound (length f.name), text_size-bound (length f.value))

module _ {F : FieldMeaning} (f : Field) (e : F ≡ field f) where
  pub measured : {n : ℕ} → Short f → n ≡ field_size (length f.name) (length f.value) → Bytes n ≡ field_measured F
  measured h d = ap Bytes (d ∙ sym (field-length f h)) ∙ sym (ap field_measured e)

  most : Short f → length (field_bytes F) ≤ 2307
  most h = rw e (field-most f h)

-- ---- a field that is meant, written

pub meant-positive : (F : FieldMeaning) → IsField F → 0 < length (field_bytes F)
meant-positive (field f) h = field_form-positive f
meant-positive (FieldMeaning.waits i) h = absurd h

module _ {F : FieldMeaning} (f : Field) (e : F ≡ field f) where
  pub meant-length : length (field_bytes F) ≡ 1 + length (text_form f.name) + length (text_form f.value)
  meant-length = ap (λ (G : FieldMeaning). length (field_bytes G)) e ∙ field_form-split f

  pub meant-written : (at : ℕ) (lent : List ℕ) {n : ℕ} {out : List ℕ} → (n ≡ at + length (field_form f)) × (out ≡ overlay lent at (field_form f))
      → (n ≡ at + length (field_bytes F)) × (out ≡ overlay lent at (field_bytes F))
  meant-written at lent w = rw e w

-- ---- a literal by what its name is

pub literal-by : {r : RepresentationPlace} {flag : ℕ} {name kind : NamePlace} {value : StringPlace} → r ≡ Literal flag name value → name ≡ kind
    → r ≡ Literal flag kind value
literal-by {flag = flag} {value = value} e d = e ∙ ap (λ (n : NamePlace). Literal flag n value) d

-- ---- what names an index means the field of the entry found there, or waits for it

abbrev Names : List ℕ → ℕ → (Entry → Field) → FieldMeaning → Type 0
Names m i f F = F ≡ on_slot i (lookup (decoder_of m) i) f

module _ (m : List ℕ) (i : ℕ) where
  pub names-entry : Names m i (λ e. record { flag = 0; name = e.name; value = e.value }) (field_meant m (indexed i))
  unfolding field_meant field_meaning
  names-entry = refl

  pub names-name : (flag : ℕ) (value : List ℕ)
      → Names m i (λ e. record { flag = flag; name = e.name; value = value }) (field_meant m (literal flag (indexed_name i) value))
  unfolding field_meant field_meaning
  names-name flag value = refl

pub means-literal : (m : List ℕ) (flag : ℕ) (name value : List ℕ)
    → field_meant m (literal flag (by_bytes name) value) ≡ field (record { flag = flag; name = name; value = value })
unfolding field_meant field_meaning
means-literal m flag name value = refl

module _ (m : List ℕ) (i : ℕ) (f : Entry → Field) {F : FieldMeaning} (N : Names m i f F) where
  by-slot : {slot : Slot} → lookup (decoder_of m) i ≡ slot → F ≡ on_slot i slot f
  by-slot e = N ∙ ap (λ (s : Slot). on_slot i s f) e

  pub found : (p : EntryPlace) → Located m i p → F ≡ field (f (entry_of m p))
  found p L = by-slot L.means

  pub waiting : lookup (decoder_of m) i ≡ vacant → F ≡ FieldMeaning.waits i
  waiting e = by-slot e

  -- an entry stands where a field is meant
  pub standing : IsField F → lookup (decoder_of m) i ≡ vacant → ⊥
  standing h e = subst IsField (waiting e) h

  named-most : (o : Option EntryPlace) → Looked m i o → ((p : EntryPlace) → Located m i p → Short (f (entry_of m p))) → length (field_bytes F) ≤ 2307
  named-most (Some p) L h = most (f (entry_of m p)) (found p L) (h p L)
  named-most None L h = rw (waiting L) (omega arith)

pub field_bound : (m : List ℕ) → Stands m → (s : List ℕ) (r : RepresentationPlace) → InBytes s r
    → length (field_bytes (field_at m s r)) ≤ 2307
field_bound m S s (Indexed index) h =
    named-most m index.value _ (names-entry m index.value) (locate m index.value) (looked m S index.value refl) (λ p L. (L.name, L.value))
field_bound m S s (Literal flag (Index index) value) h =
    named-most m index.value _ (names-name m index.value flag (string_bytes s value)) (locate m index.value) (looked m S index.value refl)
    (λ p L. (L.name, omega (arith, string-size s value h.2, h.3)))
field_bound m S s (Literal flag (Text name) value) h =
    most _ (means-literal m flag (string_bytes s name) (string_bytes s value))
    (omega (arith, string-size s name h.1.0, h.1.1), omega (arith, string-size s value h.2, h.3))
