-- The equations of `read_indexed`, `read_literal` and `read_representation`, one for each way through them.
-- By the tests along that way; only these laws and those of `RepresentationKept` unfold the definitions.
use mathlib.Core.Path.{◌≡◌}
use Prim.Native.Nat.{ℕ, ◌≤◌, ◌<◌}
use native.Mathlib.Omega.{arith}
use mathlib.Core.List.{List}
use lib.ListN.{length, get_or}
use borrow.Author.Tests.{lt-ltb, le-ltb}
use Rattle.integers.specs.Integer.{read_int}
use Rattle.wire.specs.Text.{read_string}
use Rattle.wire.specs.Name.{read_name}
use Rattle.blocks.specs.Reading.{flag_of, read_indexed, read_literal, read_representation}
use Rattle.integers.specs.declared.integer.WireInt.{WireInt}
use Rattle.wire.specs.declared.text.StringPlace.{StringPlace}
use Rattle.wire.specs.declared.name.NamePlace.{NamePlace}
use Rattle.blocks.specs.declared.read.RepresentationPlace.TheVariants.{Indexed, Literal}
use Rattle.std.specs.Prelude.{Ok, Err}
use Rattle.integers.specs.Answers.{Read}
use Rattle.integers.specs.declared.answer.Refusal.TheVariants.{NotAllowed, Truncated}
use Rattle.integers.specs.declared.answer.Refusal.{Refusal}

-- the N bit, below and from 64 on
pub flag-low : (b : ℕ) → b < 64 → flag_of b ≡ 0
flag-low b h = simp (lt-ltb b 64 h)

pub flag-high : (b : ℕ) → 64 ≤ b → flag_of b ≡ 1
flag-high b h = simp (le-ltb b 64 h)

module _ (s : List ℕ) (at : ℕ) (r : Read WireInt) (e : r ≡ read_int 7 s at) where
  pub indexed-refused : (why : Refusal) → r ≡ Err why → read_indexed s at ≡ Err why
  unfolding read_indexed
  indexed-refused why d = simp (← e, d)

  module _ (n : WireInt) (next : ℕ) (d : r ≡ Ok (n, next)) where
    pub indexed-zero : n.value ≡ 0 → read_indexed s at ≡ Err NotAllowed
    unfolding read_indexed
    indexed-zero z = simp (← e, d, le-ltb 0 n.value (omega arith))

    pub indexed-found : (n.value ≡ 0 → ⊥) → read_indexed s at ≡ Ok (Indexed (record { value = n.value }), next)
    unfolding read_indexed
    indexed-found h = simp (← e, d, lt-ltb 0 n.value (omega arith))

module _ (s : List ℕ) (at : ℕ) (r : Read NamePlace) (e : r ≡ read_name 6 s at) where
  pub literal-name-refused : (why : Refusal) → r ≡ Err why → read_literal s at ≡ Err why
  unfolding read_literal
  literal-name-refused why d = simp (← e, d)

  module _ (name : NamePlace) (next : ℕ) (d : r ≡ Ok (name, next)) (t : Read StringPlace) (f : t ≡ read_string s next 2047) where
    pub literal-value-refused : (why : Refusal) → t ≡ Err why → read_literal s at ≡ Err why
    unfolding read_literal
    literal-value-refused why g = simp (← e, d, ← f, g)

    pub literal-found : (value : StringPlace) (after : ℕ) → t ≡ Ok (value, after)
        → read_literal s at ≡ Ok (Literal (flag_of (get_or s at 0)) name value, after)
    unfolding read_literal
    literal-found value after g = simp (← e, d, ← f, g)

module _ (s : List ℕ) (at : ℕ) where
  pub representation-truncated : length s ≤ at → read_representation s at ≡ Err Truncated
  unfolding read_representation
  representation-truncated h = simp (le-ltb _ _ h)

  module _ (h : at < length s) where
    pub representation-literal : get_or s at 0 < 128 → read_representation s at ≡ read_literal s at
    unfolding read_representation
    representation-literal k = simp (lt-ltb _ _ h, lt-ltb _ _ k)

    pub representation-indexed : 128 ≤ get_or s at 0 → read_representation s at ≡ read_indexed s at
    unfolding read_representation
    representation-indexed k = simp (lt-ltb _ _ h, le-ltb _ _ k)
