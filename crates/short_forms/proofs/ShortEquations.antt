-- The equations of `short_length`, `short_index_at`, `short_literal_at` and `short_named_at`, one for each way through them.
-- By the tests along that way; only these laws unfold the definitions.
use mathlib.Core.Path.{◌≡◌}
use Prim.Native.Nat.{ℕ, ◌+◌, ◌-◌, ◌%◌, ◌≤◌, ◌<◌}
use native.Mathlib.Omega.{arith}
use mathlib.Core.List.{List}
use lib.ListN.{length, get_or}
use borrow.Author.Tests.{lt-ltb, le-ltb, le-leb, lt-leb, eq-eqb, ne_eqb}
use Rattle.integers.specs.Integer.{short_int_at}
use Rattle.integers.specs.declared.integer.WireInt.{WireInt}
use Rattle.wire.specs.declared.text.StringPlace.{StringPlace}
use Rattle.short_strings.specs.Short.{short_string_at}
use Rattle.short_forms.specs.Short.{short_length, short_index_at, short_literal_at, short_named_at}
use Rattle.std.specs.Prelude.{Option, Some, None}

pub length-short : (b : ℕ) → b < 127 → short_length b ≡ Some b
unfolding short_length
length-short b h = simp (lt-ltb b 127 h)

pub length-long : (b : ℕ) → 127 ≤ b → short_length b ≡ None
unfolding short_length
length-long b h = simp (le-ltb b 127 h)

module _ (s : List ℕ) (at b : ℕ) (e : get_or s at 0 ≡ b) where
  pub index-zero : b ≤ 128 → short_index_at s at ≡ None
  unfolding short_index_at
  index-zero h = simp (e, le-ltb 128 b h)

  pub index-ones : 255 ≤ b → short_index_at s at ≡ None
  unfolding short_index_at
  index-ones h = simp (e, lt-ltb 128 b (omega arith), le-ltb b 255 h)

  pub index_short : 128 < b → b < 255 → short_index_at s at ≡ Some (record { value = b - 128 }, at + 1)
  unfolding short_index_at
  index_short h k = simp (e, lt-ltb 128 b h, lt-ltb b 255 k)

module _ (s : List ℕ) (at : ℕ) where
  pub literal-named : (get_or s at 0 % 64 ≡ 0 → ⊥) → short_literal_at s at ≡ None
  unfolding short_literal_at
  literal-named h = simp (ne_eqb _ _ h)

  module _ (z : get_or s at 0 % 64 ≡ 0) where
    pub literal-cut : length s - at < 3 → short_literal_at s at ≡ None
    unfolding short_literal_at
    literal-cut h = simp (eq-eqb _ _ z, lt-leb _ _ h)

    module _ (l : 3 ≤ length s - at) (t : Option ℕ) (f : t ≡ short_length (get_or s (at + 1) 0)) where
      pub literal-name-long : t ≡ None → short_literal_at s at ≡ None
      unfolding short_literal_at
      literal-name-long g = simp (eq-eqb _ _ z, le-leb _ _ l, ← f, g)

      module _ (n : ℕ) (g : t ≡ Some n) where
        pub literal-name-cut : length s - at - 3 < n → short_literal_at s at ≡ None
        unfolding short_literal_at
        literal-name-cut h = simp (eq-eqb _ _ z, le-leb _ _ l, ← f, g, lt-leb _ _ h)

        module _ (h : n ≤ length s - at - 3) (u : Option ℕ) (i : u ≡ short_length (get_or s (at + 2 + n) 0)) where
          pub literal-value-long : u ≡ None → short_literal_at s at ≡ None
          unfolding short_literal_at
          literal-value-long j = simp (eq-eqb _ _ z, le-leb _ _ l, ← f, g, le-leb _ _ h, ← i, j)

          module _ (v : ℕ) (j : u ≡ Some v) where
            pub literal-value-cut : length s - at - 3 - n < v → short_literal_at s at ≡ None
            unfolding short_literal_at
            literal-value-cut k = simp (eq-eqb _ _ z, le-leb _ _ l, ← f, g, le-leb _ _ h, ← i, j, lt-leb _ _ k)

            pub literal-short : v ≤ length s - at - 3 - n → short_literal_at s at ≡ Some (at + 3 + n + v)
            unfolding short_literal_at
            literal-short k = simp (eq-eqb _ _ z, le-leb _ _ l, ← f, g, le-leb _ _ h, ← i, j, le-leb _ _ k)

module _ (s : List ℕ) (at : ℕ) (r : Option (WireInt × ℕ)) (e : r ≡ short_int_at 6 s at) where
  pub named-long : r ≡ None → short_named_at s at ≡ None
  unfolding short_named_at
  named-long d = simp (← e, d)

  module _ (n : WireInt) (after : ℕ) (d : r ≡ Some (n, after)) where
    pub named-zero : n.value ≡ 0 → short_named_at s at ≡ None
    unfolding short_named_at
    named-zero z = simp (← e, d, le-ltb 0 n.value (omega arith))

    module _ (h : n.value ≡ 0 → ⊥) (v : Option (StringPlace × ℕ)) (i : v ≡ short_string_at s after) where
      pub named-value-long : v ≡ None → short_named_at s at ≡ None
      unfolding short_named_at
      named-value-long j = simp (← e, d, lt-ltb 0 n.value (omega arith), ← i, j)

      pub named-short : (value : StringPlace) (next : ℕ) → v ≡ Some (value, next) → short_named_at s at ≡ Some (record { value = n.value }, value, next)
      unfolding short_named_at
      named-short value next j = simp (← e, d, lt-ltb 0 n.value (omega arith), ← i, j)
