-- Where a representation was read: the place after it is past it and in the input, its places lie in the input, and it can be said on the wire.
-- By cases along the equations of `read_representation`.
use mathlib.Core.Path.{◌≡◌, refl, sym, ap₂, subst}
use mathlib.Core.Bool.{Bool, true, false}
use Prim.Native.Nat.{ℕ, ◌≤◌, ◌<◌}
use native.Mathlib.Omega.{arith}
use mathlib.Core.List.{List, ◌++◌}
use lib.ListN.{length, get_or}
use lib.Dec.{ltb, lit≤}
use Rattle.memory.specs.Choice.{pick}
use Rattle.memory.proofs.Order.{split}
use Rattle.integers.specs.Integer.{read_int}
use Rattle.integers.proofs.Bounds.{int-good}
use Rattle.wire.specs.Text.{read_string}
use Rattle.wire.specs.Name.{FineName, name_of, read_name, GoodName}
use Rattle.wire.proofs.TextBounds.{string-good, string-size, string-bytes-kept, name-good, name-of-kept}
use Rattle.blocks.specs.Representation.{literal, FineRepresentation}
use Rattle.blocks.specs.Reading.{flag_of, representation_of, read_indexed, read_literal, read_representation, InBytes}
use Rattle.wire.specs.declared.name.NamePlace.{NamePlace}
use Rattle.wire.specs.declared.name.NamePlace.TheVariants.{Index, Text}
use Rattle.blocks.specs.declared.read.RepresentationPlace.{RepresentationPlace}
use Rattle.blocks.specs.declared.read.RepresentationPlace.TheVariants.{Indexed, Literal}
use Rattle.blocks.proofs.Equations.{indexed-refused, indexed-zero, indexed-found, literal-name-refused, literal-value-refused, literal-found, representation-truncated, representation-literal, representation-indexed}
use Rattle.std.specs.Prelude.{Ok, Err}
use Rattle.integers.specs.Answers.{Read}
use Rattle.integers.specs.declared.integer.WireInt.{WireInt}
use Rattle.wire.specs.declared.text.StringPlace.{StringPlace}

pub flag_small : (b : ℕ) → flag_of b < 2
flag_small b = go (ltb b 64)
  where
    go : (t : Bool) → pick t 0 1 < 2
    go true = lit≤ tt
    go false = lit≤ tt

-- what stands there can be said on the wire, and does not change when bytes are added behind
module _ (s : List ℕ) where
  pub name-fine : (p : NamePlace) → GoodName s p → FineName (name_of s p)
  name-fine (Index i) g = g
  name-fine (Text p) g = omega (arith, string-size s p g.0, g.1)

  pub representation-fine : (p : RepresentationPlace) → InBytes s p → FineRepresentation (representation_of s p)
  representation-fine (Indexed i) g = g
  representation-fine (Literal flag name value) g =
      (g.0, name-fine name g.1, omega (arith, string-size s value g.2, g.3))

  pub representation-of-kept : (t : List ℕ) (p : RepresentationPlace) → InBytes s p → representation_of (s ++ t) p ≡ representation_of s p
  representation-of-kept t (Indexed i) g = refl
  representation-of-kept t (Literal flag name value) g =
      ap₂ (literal flag) (name-of-kept s t name g.1) (string-bytes-kept s value t g.2)

pub record GoodRepresentation (s : List ℕ) (at : ℕ) (p : RepresentationPlace) (next : ℕ) : Type 0 where
  pub past : at < next
  pub inside : next ≤ length s
  pub places : InBytes s p
  pub fine : FineRepresentation (representation_of s p)

abbrev GoodRead : List ℕ → ℕ → Read RepresentationPlace → Type 0
GoodRead s at (Ok (p, next)) = GoodRepresentation s at p next
GoodRead s at (Err why) = Unit {0}

module _ (s : List ℕ) (at : ℕ) where
  good : (p : RepresentationPlace) (next : ℕ) → at < next → next ≤ length s → InBytes s p → GoodRepresentation s at p next
  good p next h k g = record { past = h; inside = k; places = g; fine = representation-fine s p g }

  good-indexed : (r : Read WireInt) → r ≡ read_int 7 s at → GoodRead s at (read_indexed s at)
  good-indexed (Err why) e = rw (indexed-refused s at _ e why refl) tt
  good-indexed (Ok (n, next)) e =
      let g = int-good 7 s at (omega arith) _ e n next refl in
      split 0 n.value
      (λ l. rw (indexed-found s at _ e n next refl (λ z. omega arith)) (good (Indexed (record { value = n.value })) next g.0 g.1 (l, g.2)))
      (λ l. rw (indexed-zero s at _ e n next refl (omega arith)) tt)

  good-value : (name : NamePlace) (next : ℕ) → Ok (name, next) ≡ read_name 6 s at → (t : Read StringPlace) → t ≡ read_string s next 2047
      → GoodRead s at (read_literal s at)
  good-value name next e (Err why) f = rw (literal-value-refused s at _ e name next refl _ f why refl) tt
  good-value name next e (Ok (value, after)) f =
      let g = name-good 6 s at (omega arith) name next (sym e) in
      let t = string-good s next 2047 value after (sym f) in
      rw (literal-found s at _ e name next refl _ f value after refl)
      (good (Literal (flag_of (get_or s at 0)) name value) after (omega (arith, g.0, t.after, t.ends)) t.inside
      (flag_small (get_or s at 0), g.3, t.text, t.short))

  good-literal : (r : Read NamePlace) → r ≡ read_name 6 s at → GoodRead s at (read_literal s at)
  good-literal (Err why) e = rw (literal-name-refused s at _ e why refl) tt
  good-literal (Ok (name, next)) e = good-value name next e (read_string s next 2047) refl

  good-read : GoodRead s at (read_representation s at)
  good-read =
      split at (length s)
      (λ l. split (get_or s at 0) 128
      (λ k. rw (representation-literal s at l k) (good-literal (read_name 6 s at) refl))
      (λ k. rw (representation-indexed s at l k) (good-indexed (read_int 7 s at) refl)))
      (λ l. rw (representation-truncated s at l) tt)

  pub representation-good : (p : RepresentationPlace) (next : ℕ) → read_representation s at ≡ Ok (p, next) → GoodRepresentation s at p next
  representation-good p next e = subst (GoodRead s at) e good-read
