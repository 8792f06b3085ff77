-- What was written is read: where the form of a length, a text or a field stands, the reader finds it, and the place after it.
-- By the two forms of a length, and then part by part.
use mathlib.Core.Path.{◌≡◌, refl, sym, ap, ap₂, ◌∙◌}
use Prim.Native.Nat.{ℕ, ◌+◌, ◌*◌, ◌/◌, ◌%◌, ◌≤◌, ◌<◌}
use native.Mathlib.Omega.{arith}
use mathlib.Core.List.{List, [], ◌∷◌}
use lib.ListN.{length, get_or}
use Rattle.memory.specs.Bytes.{Has}
use Rattle.memory.proofs.Order.{split}
use Rattle.memory.proofs.Places.{has_left, has_right, has_end, has_part}
use Rattle.fields.specs.Form.{Field, FineField, length_form, text_form, field_form}
use Rattle.fields.specs.Reading.{read_length, read_text, read_field, text_of, field_of}
use Rattle.fields.specs.declared.read.TextPlace.{TextPlace}
use Rattle.fields.specs.declared.read.FieldPlace.{FieldPlace}
use Rattle.fields.proofs.Lengths.{length-one, length_two}
use Rattle.fields.proofs.Texts.{text-found, field_found}
use Rattle.fields.proofs.Bounds.{length-bounds}
use Rattle.fields.proofs.Sizes.{form-one, form-two, text_form-split, field_form-split}
use Rattle.std.specs.Prelude.{Ok}

module _ (s : List ℕ) (at limit n : ℕ) (h : n ≤ limit) (p : Has s at (length_form n)) where
  back_one : n < 128 → read_length s at limit ≡ Ok (n, at + length (length_form n))
  back_one k =
      let e = form-one n k in
      let q : Has s at (n ∷ []) = rw e at p in
      length-one s at limit q.0 n (sym q.1) k h ∙ ap (λ (next : ℕ). Ok (n, next)) (omega (arith, ap length e))

  back-two : 128 ≤ n → n < 16384 → read_length s at limit ≡ Ok (n, at + length (length_form n))
  back-two k l =
      let e = form-two n k l in
      let q : Has s at ((n % 128 + 128) ∷ n / 128 ∷ []) = rw e at p in
      let x : (n % 128 + 128) % 128 + 128 * (n / 128) ≡ n = omega arith in
      length_two s at limit q.0 (n % 128 + 128) (sym q.1) (omega arith) q.2.0 (n / 128) (sym q.2.1) (omega arith) (omega arith) (omega arith)
      ∙ ap₂ (λ (m next : ℕ). Ok (m, next)) x (omega (arith, ap length e))

  pub length_back : n < 16384 → read_length s at limit ≡ Ok (n, at + length (length_form n))
  length_back l = split n 128 back_one (λ k. back-two k l)

-- where the bytes of a text stand whose form begins at a place
abbrev pub place_of : ℕ → List ℕ → TextPlace
place_of at xs = record { start = at + length (length_form (length xs)); length = length xs }

module _ (s : List ℕ) (at : ℕ) (xs : List ℕ) (p : Has s at (text_form xs)) where
  pub text-back : (limit : ℕ) → length xs ≤ limit → length xs < 16384 → read_text s at limit ≡ Ok (place_of at xs, at + length (text_form xs))
  unfolding text_form
  text-back limit h k =
      let n : ℕ = length xs in
      let start : ℕ = at + length (length_form n) in
      let e = length_back s at limit n h (has_left s at (length_form n) xs p) k in
      let b = length-bounds s at limit n start e in
      let r = has_end s start xs b.1 (has_right s at (length_form n) xs p) in
      text-found s at limit _ refl n start e (omega arith) ∙ ap (λ (next : ℕ). Ok (place_of at xs, next)) (omega (arith, text_form-split xs))

  pub text_same : text_of s (place_of at xs) ≡ xs
  unfolding text_form
  text_same = has_part s (at + length (length_form (length xs))) xs (has_right s at (length_form (length xs)) xs p)

pub field_back : (s : List ℕ) (at : ℕ) (f : Field) → FineField f → Has s at (field_form f)
    → (p : FieldPlace) × (read_field s at ≡ Ok (p, at + length (field_form f))) × (field_of s p ≡ f)
unfolding field_form
field_back s at f h p =
    let name : List ℕ = f.name in
    let value : List ℕ = f.value in
    let middle : ℕ = at + 1 + length (text_form name) in
    let q : Has s (at + 1) (text_form name) = has_left s (at + 1) (text_form name) (text_form value) p.2 in
    let r : Has s middle (text_form value) = has_right s (at + 1) (text_form name) (text_form value) p.2 in
    let a = text-back s (at + 1) name q 255 h.name_short (omega arith) in
    let b = text-back s middle value r 2047 h.value_short (omega arith) in
    let place : FieldPlace = record { flag = get_or s at 0; name = place_of (at + 1) name; value = place_of middle value } in
    let n = text_same s (at + 1) name q in
    let v = text_same s middle value r in (
      place,
      field_found s at p.0 (omega (arith, p.1, h.flag_bit)) _ refl (place_of (at + 1) name) middle a _ refl (place_of middle value) _ b
          ∙ ap (λ (next : ℕ). Ok (place, next)) (omega (arith, field_form-split f)),
      λ i. record { flag = p.1 i; name = n i; value = v i },
    )
