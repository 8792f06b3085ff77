-- The field of a literal: from its name and its value, or from the whole where it is short.
use Prim.Native.Nat.{ℕ, ◌+◌, ◌-◌, ◌%◌, ◌≤◌, ◌<◌}
use mathlib.Core.Path.{◌≡◌, refl, sym, ap, subst, ◌∙◌}
use native.Mathlib.Omega.{arith}
use mathlib.Core.List.{List}
use lib.ListN.{length, get_or, set, take, length-set}
use lib.Seq.{take-set-le}
use Rattle.memory.specs.Bytes.{overlay}
use Rattle.memory.proofs.Overlay.{length-overlay, take-overlay}
use Rattle.integers.specs.Integer.{read_int}
use Rattle.integers.proofs.Groups.{read_int-small}
use Rattle.wire.specs.Text.{string_bytes}
use Rattle.wire.specs.Name.{read_name}
use Rattle.wire.specs.declared.text.StringPlace.{StringPlace}
use Rattle.wire.specs.declared.name.NamePlace.{NamePlace}
use Rattle.wire.specs.declared.name.NamePlace.TheVariants.{Text}
use Rattle.wire.proofs.Strings.{name-text}
use Rattle.fields.specs.Form.{Field, text_form}
use Rattle.fields.proofs.Sizes.{field-written}
use Rattle.blocks.specs.Reading.{flag_of}
use Rattle.blocks.specs.Meaning.{field}
use Rattle.blocks.specs.declared.read.RepresentationPlace.TheVariants.{Literal}
use Rattle.blocks.proofs.Equations.{literal-found, representation-literal}
use Rattle.decoder_survey.specs.Measure.{field_at, IsField}
use Rattle.decoder_survey.specs.Passes.{short_form}
use Rattle.decoder_survey.proofs.Fields.{means-literal, meant-written}
use Rattle.decoder_survey.proofs.ShortForms.{ShortReads, short-length}
use Rattle.decoder_literals.specs.Taking.{TookString, Took, StringTaken, FieldTaken}
use Rattle.decoder_literals.proofs.Texts.{below}
use Rattle.std.specs.Prelude.{Ok, Option, Some, None}

pub short-field : (m s : List ℕ) (at next : ℕ) (lent : List ℕ) (to : ℕ) → ShortReads m s at next → next - at ≤ length lent - to → to ≤ length lent
    → (after : ℕ) (out : List ℕ) → after ≡ to + length (short_form s at next) → out ≡ overlay lent to (short_form s at next)
    → Took m s at lent out to next after
short-field m s at next lent to R room h after out d w = record {
  place = R.place;
  reads = R.reads;
  meant = R.meant;
  ends = d ∙ ap (λ (b : List ℕ). to + length b) (sym R.bytes);
  fits = omega (arith, d, short-length s at next R.past R.inside);
  written = w ∙ ap (overlay lent to) (sym R.bytes);
}

-- a literal, its name as it was read and what it means: the flag and the name stand in the list, and then its value is taken
module _ (m s : List ℕ) (at : ℕ) (h : at < length s) (low : get_or s at 0 < 128) (name : NamePlace) (middle : ℕ) (e : read_name 6 s at ≡ Ok (name, middle))
    (text : List ℕ) (means : (value : StringPlace) → field_at m s (Literal (flag_of (get_or s at 0)) name value) ≡ field (record { flag = flag_of (get_or s at 0); name = text; value = string_bytes s value }))
    (lent : List ℕ) (to : ℕ) (list : List ℕ) (between : ℕ)
    (ends : between ≡ to + 1 + length (text_form text)) (written : list ≡ overlay (set lent to (flag_of (get_or s at 0))) (to + 1) (text_form text)) where
  value-field : (out : List ℕ) (next after : ℕ) → TookString s middle list out between next after → Took m s at lent out to next after
  value-field out next after L =
      let flag : ℕ = flag_of (get_or s at 0) in
      let f : Field = record { flag = flag; name = text; value = string_bytes s L.place } in
      let d : field_at m s (Literal flag name L.place) ≡ field f = means L.place in
      let w = meant-written f d to lent (field-written lent to f list between out after ends written L.ends L.written) in
      record {
        place = Literal flag name L.place;
        reads = representation-literal s at h low ∙ literal-found s at _ refl name middle e _ refl L.place next (L.reads 2047 (omega arith));
        meant = subst IsField (sym d) tt;
        ends = w.0;
        fits = omega (arith, L.fits, ap length written, length-overlay (set lent to flag) (to + 1) (text_form text), length-set lent to flag);
        written = w.1;
      }

  pub value_taken : (out : List ℕ) (r : Option (ℕ × ℕ)) → StringTaken s middle list out between r → FieldTaken m s at lent out to r
  value_taken out (Some (next, after)) L = value-field out next after L
  value_taken out None k =
      let flag : ℕ = flag_of (get_or s at 0) in
      below out list between to (omega (arith, ends)) k
      ∙ ap (take to) written ∙ take-overlay (set lent to flag) (to + 1) (text_form text) to (omega arith) ∙ take-set-le to lent to flag (omega arith)

-- its name is a string
pub strings-taken : (m s : List ℕ) (at : ℕ) → at < length s → get_or s at 0 < 128 → get_or s at 0 % 64 ≡ 0 → (lent : List ℕ) (to : ℕ) (list : List ℕ) (middle between : ℕ)
    → TookString s (at + 1) (set lent to (flag_of (get_or s at 0))) list (to + 1) middle between
    → (out : List ℕ) (r : Option (ℕ × ℕ)) → StringTaken s middle list out between r → FieldTaken m s at lent out to r
strings-taken m s at h low z lent to list middle between N out r L =
    let i : read_int 6 s at ≡ Ok (record { value = 0 }, at + 1) =
    read_int-small 6 s at h (get_or s at 0) 64 refl refl (omega arith) ∙ ap (λ (x : ℕ). Ok (record { value = x }, at + 1)) z
    in
    value_taken m s at h low (Text N.place) middle
    (name-text 6 s at _ refl (record { value = 0 }) (at + 1) i refl _ refl N.place middle (N.reads 255 (omega arith)))
    (string_bytes s N.place) (λ value. means-literal m (flag_of (get_or s at 0)) (string_bytes s N.place) (string_bytes s value))
    lent to list between N.ends N.written out r L
