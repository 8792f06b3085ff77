-- The equations of `read_text` and `read_field`, one for each way through them.
use mathlib.Core.Path.{◌≡◌}
use Prim.Native.Nat.{ℕ, ◌+◌, ◌-◌, ◌≤◌, ◌<◌}
use mathlib.Core.List.{List}
use lib.ListN.{length, get_or}
use borrow.Author.Tests.{lt-ltb, le-ltb, le-leb, lt-leb}
use Rattle.fields.specs.Reading.{read_length, read_text, read_field}
use Rattle.fields.specs.declared.read.TextPlace.{TextPlace}
use Rattle.std.specs.Prelude.{Ok, Err}
use Rattle.integers.specs.Answers.{Read}
use Rattle.integers.specs.declared.answer.Refusal.TheVariants.{BadFieldList}
use Rattle.integers.specs.declared.answer.Refusal.{Refusal}

module _ (s : List ℕ) (at limit : ℕ) (r : Read ℕ) (e : r ≡ read_length s at limit) where
  pub text-refused : (why : Refusal) → r ≡ Err why → read_text s at limit ≡ Err why
  unfolding read_text
  text-refused why d = simp (← e, d)

  module _ (n start : ℕ) (d : r ≡ Ok (n, start)) where
    pub text-cut : length s - start < n → read_text s at limit ≡ Err BadFieldList
    unfolding read_text
    text-cut h = simp (← e, d, lt-leb n (length s - start) h)

    pub text-found : n ≤ length s - start → read_text s at limit ≡ Ok (record { start = start; length = n }, start + n)
    unfolding read_text
    text-found h = simp (← e, d, le-leb n (length s - start) h)

module _ (s : List ℕ) (at : ℕ) where
  pub field-none : length s ≤ at → read_field s at ≡ Err BadFieldList
  unfolding read_field
  field-none h = simp (le-ltb at (length s) h)

  module _ (h : at < length s) where
    pub flag-refused : 1 < get_or s at 0 → read_field s at ≡ Err BadFieldList
    unfolding read_field
    flag-refused k = simp (lt-ltb at (length s) h, lt-leb (get_or s at 0) 1 k)

    module _ (k : get_or s at 0 ≤ 1) (n : Read TextPlace) (e : n ≡ read_text s (at + 1) 255) where
      pub name-refused : (why : Refusal) → n ≡ Err why → read_field s at ≡ Err why
      unfolding read_field
      name-refused why d = simp (lt-ltb at (length s) h, le-leb (get_or s at 0) 1 k, ← e, d)

      module _ (name : TextPlace) (next : ℕ) (d : n ≡ Ok (name, next)) (v : Read TextPlace) (f : v ≡ read_text s next 2047) where
        pub value-refused : (why : Refusal) → v ≡ Err why → read_field s at ≡ Err why
        unfolding read_field
        value-refused why g = simp (lt-ltb at (length s) h, le-leb (get_or s at 0) 1 k, ← e, d, ← f, g)

        pub field_found : (value : TextPlace) (after : ℕ) → v ≡ Ok (value, after)
            → read_field s at ≡ Ok (record { flag = get_or s at 0; name = name; value = value }, after)
        unfolding read_field
        field_found value after g = simp (lt-ltb at (length s) h, le-leb (get_or s at 0) 1 k, ← e, d, ← f, g)
