-- Reading once more where a text or a field reads well: its place is the one that `text_start` tells. From the inverse laws.
use mathlib.Core.Path.{◌≡◌, refl, sym, ap, subst, ◌∙◌}
use Prim.Native.Nat.{ℕ, ◌+◌, ◌*◌, ◌%◌, ◌≤◌, ◌<◌}
use native.Mathlib.Omega.{arith}
use mathlib.Core.Logic.{⊎_elim}
use mathlib.Core.List.{List}
use lib.ListN.{length, get_or}
use borrow.Author.Tests.{lt-ltb, le-ltb}
use Rattle.fields.specs.Reading.{text_answer, field_answer, read_text, text_start, read_field, InText}
use Rattle.fields.specs.declared.read.TextPlace.{TextPlace}
use Rattle.fields.specs.declared.read.FieldPlace.{FieldPlace}
use Rattle.fields.proofs.Texts.{field_found}
use Rattle.fields.proofs.Inverse.{length-each, text-inverse, Parts, field-inverse, field-number}
use Rattle.fields.proofs.Bounds.{text-bounds}
use Rattle.std.specs.Prelude.{Ok, Err}
use Rattle.integers.specs.Answers.{Read}

-- ---- the two forms of a length

module _ (s : List ℕ) (at b : ℕ) (e : b ≡ get_or s at 0) where
  pub start-one : b < 128 → text_start s at ≡ record { start = at + 1; length = b }
  unfolding text_start
  start-one h = simp (← e, lt-ltb b 128 h)

  module _ (h : 128 ≤ b) where
    pub start-two : (d : ℕ) → d ≡ get_or s (at + 1) 0 → text_start s at ≡ record { start = at + 2; length = b % 128 + 128 * d }
    unfolding text_start
    start-two d f = simp (← e, ← f, le-ltb b 128 h)

-- ---- a text that reads well

module _ (s : List ℕ) (at limit : ℕ) (p : TextPlace) (next : ℕ) (e : read_text s at limit ≡ Ok (p, next)) where
  text-place : p ≡ text_start s at
  text-place =
      length-each s at limit (λ n next. record { start = next; length = n } ≡ text_start s at)
      (λ h k l. sym (start-one s at _ refl k))
      (λ h k l m q. sym (start-two s at _ refl k _ refl))
      p.length p.start (text-inverse s at limit p next e).0

  text-again : (q : TextPlace) → q ≡ text_start s at → read_text s at limit ≡ Ok (q, q.start + q.length)
  text-again q d =
      subst (λ (q : TextPlace). read_text s at limit ≡ Ok (q, q.start + q.length)) (text-place ∙ sym d)
      (e ∙ ap (λ (n : ℕ). Ok (p, n)) (text-inverse s at limit p next e).2)

-- ---- a field that reads well

zero-parts : (s : List ℕ) (at : ℕ) (r : Read FieldPlace) → r ≡ read_field s at → (field_answer r).number ≡ 0 → (p : FieldPlace) × (next : ℕ) × Parts s at p next
zero-parts s at (Ok (p, next)) e z = (p, next, field-inverse s at p next (sym e))
zero-parts s at (Err why) e z = ⊎_elim (λ d. absurd (omega arith)) (λ d. absurd (omega arith)) (field-number s at why (sym e))

module _ (s : List ℕ) (at : ℕ) (z : (field_answer (read_field s at)).number ≡ 0) where
  parts : (p : FieldPlace) × (next : ℕ) × Parts s at p next
  parts = zero-parts s at _ refl z

  pub flag-inside : at < length s
  flag-inside = parts.2.inside

  module _ (name : TextPlace) (e : name ≡ text_start s (at + 1)) where
    name-again : read_text s (at + 1) 255 ≡ Ok (name, name.start + name.length)
    name-again = text-again s (at + 1) 255 _ _ parts.2.name-read name e

    pub name-inside : InText s name
    name-inside = (text-bounds s (at + 1) 255 _ _ name-again).inside

    module _ (value : TextPlace) (f : value ≡ text_start s (name.start + name.length)) where
      value-again : read_text s (name.start + name.length) 2047 ≡ Ok (value, value.start + value.length)
      value-again =
          let here : parts.2.middle ≡ name.start + name.length =
          ap (λ (r : Read TextPlace). (text_answer r).second) (sym parts.2.name-read ∙ name-again)
          in
          text-again s _ 2047 parts.0.value parts.1 (rw here at parts.2.value_read) value f

      pub value-inside : InText s value
      value-inside = (text-bounds s _ 2047 _ _ value-again).inside

      pub field-again : read_field s at ≡ Ok (record { flag = get_or s at 0; name = name; value = value }, value.start + value.length)
      field-again =
          field_found s at parts.2.inside (omega (arith, parts.2.flag-there, parts.2.flag_bit)) _ refl name _ name-again _ refl value _ value-again
