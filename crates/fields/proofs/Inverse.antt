-- What a success of each reader says of the bytes, and so how it came about. By cases along the readers' equations.
use mathlib.Core.Path.{◌≡◌, refl, sym, subst}
use Prim.Native.Nat.{ℕ, ◌+◌, ◌-◌, ◌*◌, ◌%◌, ◌≤◌, ◌<◌}
use native.Mathlib.Omega.{arith}
use mathlib.Core.Logic.{◌⊎◌, inl, inr}
use mathlib.Core.List.{List}
use lib.ListN.{length, get_or}
use Rattle.memory.proofs.Order.{split}
use Rattle.fields.specs.Reading.{read_length, read_text, read_field}
use Rattle.fields.specs.declared.read.TextPlace.{TextPlace}
use Rattle.fields.specs.declared.read.FieldPlace.{FieldPlace}
use Rattle.fields.proofs.Lengths.{length_none, length-one, length-one-long, length_cut, length-third, length-padded, length_two, length-two-long}
use Rattle.fields.proofs.Texts.{text-refused, text-cut, text-found, field-none, flag-refused, name-refused, value-refused, field_found}
use Rattle.std.specs.Prelude.{Ok, Err}
use Rattle.integers.specs.Answers.{Read, number_of}
use Rattle.integers.specs.declared.answer.Refusal.TheVariants.{BadFieldList, TooLong}
use Rattle.integers.specs.declared.answer.Refusal.{Refusal}

-- the numbers of a refusal: 13, too long, and 16, not in the form
abbrev pub RefusalNumber : Refusal → Type 0
RefusalNumber why = (number_of why ≡ 13) ⊎ (number_of why ≡ 16)

-- ---- a length: what holds of both its forms holds of every length that is read

module _ (s : List ℕ) (at limit : ℕ) (P : Read ℕ → Type 0) where
  -- every way through, by what it answers
  pub length-cases : ((why : Refusal) → RefusalNumber why → P (Err why))
      → (at < length s → get_or s at 0 < 128 → get_or s at 0 ≤ limit → P (Ok (get_or s at 0, at + 1)))
      → (at + 1 < length s → 128 ≤ get_or s at 0 → 0 < get_or s (at + 1) 0 → get_or s (at + 1) 0 < 128
      → get_or s at 0 % 128 + 128 * get_or s (at + 1) 0 ≤ limit → P (Ok (get_or s at 0 % 128 + 128 * get_or s (at + 1) 0, at + 2)))
      → P (read_length s at limit)
  length-cases bad one two =
      let long : P (Err TooLong) = bad TooLong (inl refl) in
      let form : P (Err BadFieldList) = bad BadFieldList (inr refl) in
      split at (length s)
      (λ h. split (get_or s at 0) 128
      (λ k. split limit (get_or s at 0)
      (λ l. rw (length-one-long s at limit h (get_or s at 0) refl k l) long)
      (λ l. rw (length-one s at limit h (get_or s at 0) refl k l) (one h k l)))
      (λ k. split (at + 1) (length s)
      (λ l. split (get_or s (at + 1) 0) 128
      (λ m. split 0 (get_or s (at + 1) 0)
      (λ p. split limit (get_or s at 0 % 128 + 128 * get_or s (at + 1) 0)
      (λ q. rw (length-two-long s at limit h (get_or s at 0) refl k l (get_or s (at + 1) 0) refl m p q) long)
      (λ q. rw (length_two s at limit h (get_or s at 0) refl k l (get_or s (at + 1) 0) refl m p q) (two l k p m q)))
      (λ p. rw (length-padded s at limit h (get_or s at 0) refl k l (get_or s (at + 1) 0) refl (omega arith)) form))
      (λ m. rw (length-third s at limit h (get_or s at 0) refl k l (get_or s (at + 1) 0) refl m) long))
      (λ l. rw (length_cut s at limit h (get_or s at 0) refl k l) form)))
      (λ h. rw (length_none s at limit h) form)

abbrev IfLength : (ℕ → ℕ → Type 0) → Read ℕ → Type 0
IfLength P (Ok (n, next)) = P n next
IfLength P (Err why) = RefusalNumber why

module _ (s : List ℕ) (at limit : ℕ) where
  pub length-each : (P : ℕ → ℕ → Type 0) → (at < length s → get_or s at 0 < 128 → get_or s at 0 ≤ limit → P (get_or s at 0) (at + 1))
      → (at + 1 < length s → 128 ≤ get_or s at 0 → 0 < get_or s (at + 1) 0 → get_or s (at + 1) 0 < 128
      → get_or s at 0 % 128 + 128 * get_or s (at + 1) 0 ≤ limit → P (get_or s at 0 % 128 + 128 * get_or s (at + 1) 0) (at + 2))
      → (n next : ℕ) → read_length s at limit ≡ Ok (n, next) → P n next
  length-each P one two n next e = subst (IfLength P) e (length-cases s at limit (IfLength P) (λ why r. r) one two)

  pub length-number : (why : Refusal) → read_length s at limit ≡ Err why → RefusalNumber why
  length-number why e =
      subst (IfLength (λ n next. Unit {0})) e
      (length-cases s at limit (IfLength (λ n next. Unit {0})) (λ why r. r) (λ h k l. tt) (λ h k l m p. tt))

-- ---- a text: its length was read before it, and its bytes are there

abbrev IfText : List ℕ → ℕ → ℕ → Read TextPlace → Type 0
IfText s at limit (Ok (p, next)) =
    (read_length s at limit ≡ Ok (p.length, p.start)) × (p.length ≤ length s - p.start) × (next ≡ p.start + p.length)
IfText s at limit (Err why) = RefusalNumber why

if-text : (s : List ℕ) (at limit : ℕ) → (r : Read ℕ) → r ≡ read_length s at limit → IfText s at limit (read_text s at limit)
if-text s at limit (Err why) e = rw (text-refused s at limit _ e why refl) (length-number s at limit why (sym e))
if-text s at limit (Ok (n, start)) e =
    split (length s - start) n
    (λ h. rw (text-cut s at limit _ e n start refl h) (inr refl))
    (λ h. rw (text-found s at limit _ e n start refl h) (sym e, h, refl))

pub text-inverse : (s : List ℕ) (at limit : ℕ) (p : TextPlace) (next : ℕ) → read_text s at limit ≡ Ok (p, next)
    → (read_length s at limit ≡ Ok (p.length, p.start)) × (p.length ≤ length s - p.start) × (next ≡ p.start + p.length)
text-inverse s at limit p next e = subst (IfText s at limit) e (if-text s at limit _ refl)

pub text-number : (s : List ℕ) (at limit : ℕ) (why : Refusal) → read_text s at limit ≡ Err why → RefusalNumber why
text-number s at limit why e = subst (IfText s at limit) e (if-text s at limit _ refl)

-- ---- a field: its flag, its name and its value were read one after another

-- the parts of a field that was read, with the place between its name and its value
pub record Parts (s : List ℕ) (at : ℕ) (p : FieldPlace) (next : ℕ) : Type 0 where
  pub inside : at < length s
  pub flag-there : p.flag ≡ get_or s at 0
  pub flag_bit : p.flag ≤ 1
  pub middle : ℕ
  pub name-read : read_text s (at + 1) 255 ≡ Ok (p.name, middle)
  pub value_read : read_text s middle 2047 ≡ Ok (p.value, next)

abbrev IfField : List ℕ → ℕ → Read FieldPlace → Type 0
IfField s at (Ok (p, next)) = Parts s at p next
IfField s at (Err why) = RefusalNumber why

module _ (s : List ℕ) (at : ℕ) (h : at < length s) (k : get_or s at 0 ≤ 1) where
  if-value : (name : TextPlace) (middle : ℕ) → read_text s (at + 1) 255 ≡ Ok (name, middle)
      → (v : Read TextPlace) → v ≡ read_text s middle 2047 → IfField s at (read_field s at)
  if-value name middle e (Err why) f =
      rw (value-refused s at h k _ refl name middle e _ f why refl) (text-number s middle 2047 why (sym f))
  if-value name middle e (Ok (value, next)) f =
      rw (field_found s at h k _ refl name middle e _ f value next refl)
      (record { inside = h; flag-there = refl; flag_bit = k; middle = middle; name-read = e; value_read = sym f })

  if-name : (n : Read TextPlace) → n ≡ read_text s (at + 1) 255 → IfField s at (read_field s at)
  if-name (Err why) e = rw (name-refused s at h k _ e why refl) (text-number s (at + 1) 255 why (sym e))
  if-name (Ok (name, middle)) e = if-value name middle (sym e) _ refl

if-field : (s : List ℕ) (at : ℕ) → IfField s at (read_field s at)
if-field s at =
    split at (length s)
    (λ h. split 1 (get_or s at 0)
    (λ k. rw (flag-refused s at h k) (inr refl))
    (λ k. if-name s at h k _ refl))
    (λ h. rw (field-none s at h) (inr refl))

pub field-inverse : (s : List ℕ) (at : ℕ) (p : FieldPlace) (next : ℕ) → read_field s at ≡ Ok (p, next) → Parts s at p next
field-inverse s at p next e = subst (IfField s at) e (if-field s at)

pub field-number : (s : List ℕ) (at : ℕ) (why : Refusal) → read_field s at ≡ Err why → RefusalNumber why
field-number s at why e = subst (IfField s at) e (if-field s at)
