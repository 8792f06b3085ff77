-- A short literal stands in the block as its field does in the list, so its measure is known where it ends.
-- By its two strings, one behind the other.
use Prim.Native.Nat.{ℕ, suc, ◌+◌, ◌-◌, ◌≤◌, ◌<◌}
use mathlib.Core.Path.{◌≡◌, ap, ap₂, sym, subst, ◌∙◌}
use native.Mathlib.Omega.{arith}
use mathlib.Core.List.{List, ◌∷◌, ◌++◌}
use lib.ListN.{length, get_or}
use Rattle.memory.specs.Bytes.{part}
use Rattle.memory.proofs.Places.{length_part, part-cons, part-split}
use Rattle.integers.specs.Integer.{group_wire}
use Rattle.wire.specs.Text.{string_bytes}
use Rattle.wire.specs.declared.text.StringPlace.{StringPlace}
use Rattle.wire.specs.declared.name.NamePlace.TheVariants.{Text}
use Rattle.wire.proofs.TextBounds.{plain-bytes}
use Rattle.short_strings.proofs.ShortStrings.{GoodShort}
use Rattle.fields.specs.Form.{text_form, field_form}
use Rattle.fields.proofs.Sizes.{form-one}
use Rattle.blocks.specs.Reading.{flag_of, read_representation}
use Rattle.short_forms.specs.Short.{short_literal_at}
use Rattle.blocks.specs.declared.read.RepresentationPlace.{RepresentationPlace}
use Rattle.blocks.specs.declared.read.RepresentationPlace.TheVariants.{Literal}
use Rattle.short_forms.proofs.ShortReads.{ShortRead, short-literal-reads}
use Rattle.decoder_survey.specs.declared.measure.Survey.TheVariants.{Bytes}
use Rattle.decoder_survey.specs.Measure.{field_at, literal_at, IsField, field_bytes, field_measured}
use Rattle.decoder_survey.specs.Passes.{short_form}
use Rattle.decoder_survey.proofs.Fields.{means-literal}
use Rattle.std.specs.Prelude.{Ok, Some}

-- a string whose length takes one byte has the same bytes in the list, length and all
pub short-text : (s : List ℕ) (at : ℕ) (p : StringPlace) (next : ℕ) → GoodShort s at p next → text_form (string_bytes s p) ≡ part s at (suc p.size)
unfolding text_form
short-text s at p next G =
    rw (plain-bytes s p G.plain)
    (let l : length (part s p.start p.size) ≡ p.size = length_part s p.start p.size (omega (arith, G.size, G.start, G.ends, G.inside)) in
    ap (λ (i : ℕ). group_wire 3 i ++ part s p.start p.size) l
    ∙ ap (λ (f : List ℕ). f ++ part s p.start p.size) (form-one p.size (omega (arith, G.size, G.low)))
    ∙ ap₂ (λ (i : ℕ) (q : ℕ). i ∷ part s q p.size) G.size G.start
    ∙ sym (part-cons s at p.size (omega (arith, G.ends, G.inside))))

pub short-length : (s : List ℕ) (at next : ℕ) → at < next → next ≤ length s → length (short_form s at next) ≡ next - at
short-length s at next h k = omega (arith, length_part s (at + 1) (next - (at + 1)) (omega arith))

-- where one ends
pub short-ends : (s : List ℕ) (at next : ℕ) → at < length s → get_or s at 0 < 128 → short_literal_at s at ≡ Some next → (at < next) × (next ≤ length s)
short-ends s at next h low e =
    let R = short-literal-reads s at h low next e in
    (omega (arith, R.front.ends, R.back.ends), R.back.inside)

pub record ShortReads (m s : List ℕ) (at next : ℕ) : Type 0 where
  pub place : RepresentationPlace
  pub reads : read_representation s at ≡ Ok (place, next)
  pub past : at < next
  pub inside : next ≤ length s
  pub meant : IsField (field_at m s place)
  pub bytes : field_bytes (field_at m s place) ≡ short_form s at next
  pub measure : field_measured (field_at m s place) ≡ Bytes (next - at)

same-form : (s : List ℕ) (at next : ℕ) (R : ShortRead s at next)
    → field_form (literal_at s (flag_of (get_or s at 0)) R.name R.value) ≡ short_form s at next
unfolding field_form
same-form s at next R =
    let n : ℕ = R.name.size in
    let v : ℕ = R.value.size in
    let j : at + 1 + suc n ≡ R.middle = omega (arith, R.front.size, R.front.ends) in
    let k : next - (at + 1) ≡ suc n + suc v = omega (arith, R.front.size, R.front.ends, R.back.size, R.back.ends) in
    ap (λ (r : List ℕ). flag_of (get_or s at 0) ∷ r)
    (ap₂ (λ (x y : List ℕ). x ++ y) (short-text s (at + 1) R.name R.middle R.front) (short-text s R.middle R.value next R.back)
    ∙ ap (λ (p : ℕ). part s (at + 1) (suc n) ++ part s p (suc v)) (sym j)
    ∙ sym (part-split s (at + 1) (suc n) (suc v))
    ∙ ap (part s (at + 1)) (sym k))

pub short-reads : (m s : List ℕ) (at next : ℕ) → at < length s → get_or s at 0 < 128 → short_literal_at s at ≡ Some next → ShortReads m s at next
short-reads m s at next h low e =
    let R = short-literal-reads s at h low next e in
    let k = short-ends s at next h low e in
    let d = means-literal m (flag_of (get_or s at 0)) (string_bytes s R.name) (string_bytes s R.value) in
    let form = same-form s at next R in
    record {
      place = Literal (flag_of (get_or s at 0)) (Text R.name) R.value;
      reads = R.reads;
      past = k.0;
      inside = k.1;
      meant = subst IsField (sym d) tt;
      bytes = ap field_bytes d ∙ form;
      measure = ap field_measured d ∙ ap Bytes (ap length form ∙ short-length s at next k.0 k.1);
    }
