-- Which lengths and places a success can have: every part is in the list, after the place where reading began, and within its limit.
-- From the inverse laws.
use mathlib.Core.Path.{◌≡◌, sym, ◌∙◌}
use Prim.Native.Nat.{ℕ, ◌+◌, ◌≤◌, ◌<◌}
use native.Mathlib.Omega.{arith}
use mathlib.Core.List.{List}
use lib.ListN.{length}
use Rattle.fields.specs.Reading.{read_length, read_text, read_field, InText}
use Rattle.fields.specs.declared.read.TextPlace.{TextPlace}
use Rattle.fields.specs.declared.read.FieldPlace.{FieldPlace}
use Rattle.fields.proofs.Inverse.{length-each, text-inverse, Parts, field-inverse}
use Rattle.std.specs.Prelude.{Ok}
use Rattle.integers.specs.Answers.{Read}

pub length-bounds : (s : List ℕ) (at limit n next : ℕ) → read_length s at limit ≡ Ok (n, next)
    → (at < next) × (next ≤ length s) × (n ≤ limit)
length-bounds s at limit n next e =
    length-each s at limit (λ n next. (at < next) × (next ≤ length s) × (n ≤ limit))
    (λ h k l. (omega arith, omega arith, l))
    (λ h k l m p. (omega arith, omega arith, p)) n next e

pub record TextBounds (s : List ℕ) (at limit : ℕ) (p : TextPlace) (next : ℕ) : Type 0 where
  pub start-after : at < p.start
  pub ends : p.start + p.length ≡ next
  pub inside : next ≤ length s
  pub short : p.length ≤ limit

pub text-bounds : (s : List ℕ) (at limit : ℕ) (p : TextPlace) (next : ℕ) → read_text s at limit ≡ Ok (p, next) → TextBounds s at limit p next
text-bounds s at limit p next e =
    let i = text-inverse s at limit p next e in
    let b = length-bounds s at limit p.length p.start i.0 in
    record { start-after = b.0; ends = sym i.2; inside = omega arith; short = b.2 }

pub record FieldBounds (s : List ℕ) (at : ℕ) (p : FieldPlace) (next : ℕ) : Type 0 where
  pub next-after : at < next
  pub inside : next ≤ length s
  pub name-inside : InText s p.name
  pub value-inside : InText s p.value
  pub flag_bit : p.flag < 2
  pub name_short : p.name.length ≤ 255
  pub value_short : p.value.length ≤ 2047

pub field-bounds : (s : List ℕ) (at : ℕ) (p : FieldPlace) (next : ℕ) → read_field s at ≡ Ok (p, next) → FieldBounds s at p next
field-bounds s at p next e =
    let i : Parts s at p next = field-inverse s at p next e in
    let n = text-bounds s (at + 1) 255 p.name i.middle i.name-read in
    let v = text-bounds s i.middle 2047 p.value next i.value_read in
    record {
      next-after = omega arith;
      inside = v.inside;
      name-inside = omega arith;
      value-inside = omega arith;
      flag_bit = omega arith;
      name_short = n.short;
      value_short = v.short;
    }

-- the same of an answer that is that reading, as a function's proof has it
pub length-good : (s : List ℕ) (at limit : ℕ) (r : Read ℕ) → r ≡ read_length s at limit → (n next : ℕ) → r ≡ Ok (n, next)
    → (at < next) × (next ≤ length s) × (n ≤ limit)
length-good s at limit r e n next d = length-bounds s at limit n next (sym e ∙ d)

pub field-good : (s : List ℕ) (at : ℕ) (r : Read FieldPlace) → r ≡ read_field s at → (p : FieldPlace) (next : ℕ) → r ≡ Ok (p, next)
    → FieldBounds s at p next
field-good s at r e p next d = field-bounds s at p next (sym e ∙ d)
