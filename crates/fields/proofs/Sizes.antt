-- How many bytes each form takes, and that the forms are laid over memory part by part. From the equations of `group_wire`.
use mathlib.Core.Path.{◌≡◌, sym, ap, ap₂, ◌∙◌}
use Prim.Native.Nat.{ℕ, ◌+◌, ◌*◌, ◌/◌, ◌%◌, ◌≤◌, ◌<◌}
use native.Mathlib.Omega.{arith}
use mathlib.Core.List.{List, [], ◌∷◌}
use lib.ListN.{length, set, length-append}
use lib.Dec.{ltb}
use borrow.Author.Tests.{lt-ltb, le-ltb}
use Rattle.memory.specs.Choice.{pick}
use Rattle.memory.specs.Bytes.{overlay}
use Rattle.memory.proofs.Order.{split, pick-both}
use Rattle.memory.proofs.Overlay.{overlay-append}
use Rattle.integers.proofs.Writing.{last-group, next-group}
use Rattle.fields.specs.Form.{Field, FineField, AllFine, length_form, text_form, field_form, list_form, text_size, field_size}

-- a length in one group, and in two
pub form-one : (n : ℕ) → n < 128 → length_form n ≡ n ∷ []
form-one n h = last-group 3 n h

pub form-two : (n : ℕ) → 128 ≤ n → n < 16384 → length_form n ≡ (n % 128 + 128) ∷ n / 128 ∷ []
form-two n h k = next-group 3 n (omega arith) h ∙ ap (λ (xs : List ℕ). (n % 128 + 128) ∷ xs) (last-group 2 (n / 128) (omega arith))

pub length_form-length : (n : ℕ) → n < 16384 → length (length_form n) ≡ pick (ltb n 128) 1 2
length_form-length n h =
    split n 128
    (λ k. rw (form-one n k, lt-ltb n 128 k))
    (λ k. rw (form-two n k h, le-ltb n 128 k))

pub text_size-bound : (n : ℕ) → text_size n ≤ n + 2
text_size-bound n = pick-both (λ k. k + n ≤ n + 2) (ltb n 128) 1 2 (λ e. omega arith) (λ e. omega arith)

pub text_form-split : (xs : List ℕ) → length (text_form xs) ≡ length (length_form (length xs)) + length xs
unfolding text_form
text_form-split xs = length-append (length_form (length xs)) xs

pub text_form-length : (xs : List ℕ) → length xs < 16384 → length (text_form xs) ≡ text_size (length xs)
text_form-length xs h = text_form-split xs ∙ ap (λ (n : ℕ). n + length xs) (length_form-length (length xs) h)

pub field_form-split : (f : Field) → length (field_form f) ≡ 1 + length (text_form f.name) + length (text_form f.value)
unfolding field_form
field_form-split f = omega (arith, length-append (text_form f.name) (text_form f.value))

pub field_form-length : (f : Field) → FineField f → length (field_form f) ≡ field_size (length f.name) (length f.value)
unfolding field_size
field_form-length f h =
    omega (arith, field_form-split f, text_form-length f.name (omega arith), text_form-length f.value (omega arith))

-- and at most 2,307, so that a list has not more for each field
field_form-most : (f : Field) → FineField f → length (field_form f) ≤ 2307
unfolding field_size
field_form-most f h =
    omega (arith, field_form-length f h, text_size-bound (length f.name), text_size-bound (length f.value), h.name_short, h.value_short)

pub list_form-most : (fs : List Field) → AllFine fs → length (list_form fs) ≤ 2307 * length fs
unfolding list_form
list_form-most [] h = omega arith
list_form-most (f ∷ fs) h =
    omega (arith, length-append (field_form f) (list_form fs), field_form-most f h.0, list_form-most fs h.1)

-- every field has a byte
pub field_form-positive : (f : Field) → 0 < length (field_form f)
field_form-positive f = omega (arith, field_form-split f)

-- ---- the forms, written part by part

module _ (l : List ℕ) (at : ℕ) (xs : List ℕ) where
  pub text-overlay : overlay l at (text_form xs) ≡ overlay (overlay l at (length_form (length xs))) (at + length (length_form (length xs))) xs
  unfolding text_form
  text-overlay = overlay-append l at (length_form (length xs)) xs

  -- the length written, and then the bytes
  pub text-written : (m : List ℕ) (middle : ℕ) (out : List ℕ) (next : ℕ)
      → middle ≡ at + length (length_form (length xs)) → m ≡ overlay l at (length_form (length xs))
      → next ≡ middle + length xs → out ≡ overlay m middle xs
      → (next ≡ at + length (text_form xs)) × (out ≡ overlay l at (text_form xs))
  text-written m middle out next d e f g =
      (omega (arith, text_form-split xs), g ∙ ap₂ (λ (y : List ℕ) (k : ℕ). overlay y k xs) e d ∙ sym text-overlay)

module _ (l : List ℕ) (at : ℕ) (f : Field) where
  pub field-overlay : overlay l at (field_form f)
      ≡ overlay (overlay (set l at f.flag) (at + 1) (text_form f.name)) (at + 1 + length (text_form f.name)) (text_form f.value)
  unfolding field_form
  field-overlay = overlay-append (set l at f.flag) (at + 1) (text_form f.name) (text_form f.value)

  -- the flag written, then the name and then the value
  pub field-written : (m : List ℕ) (middle : ℕ) (out : List ℕ) (next : ℕ)
      → middle ≡ at + 1 + length (text_form f.name) → m ≡ overlay (set l at f.flag) (at + 1) (text_form f.name)
      → next ≡ middle + length (text_form f.value) → out ≡ overlay m middle (text_form f.value)
      → (next ≡ at + length (field_form f)) × (out ≡ overlay l at (field_form f))
  field-written m middle out next d e g h =
      (omega (arith, field_form-split f), h ∙ ap₂ (λ (y : List ℕ) (k : ℕ). overlay y k (text_form f.value)) e d ∙ sym field-overlay)
