-- A short representation is the one that is read. By the equations of both along the way that the short one took.
use mathlib.Core.Path.{◌≡◌, refl, sym, ap, subst, ◌∙◌}
use Prim.Native.Nat.{ℕ, ◌+◌, ◌-◌, ◌%◌, ◌≤◌, ◌<◌}
use native.Mathlib.Omega.{arith}
use mathlib.Core.List.{List}
use lib.ListN.{length, get_or}
use Rattle.memory.proofs.Order.{split}
use Rattle.integers.specs.Integer.{read_int, short_int_at}
use Rattle.integers.specs.declared.number.TableIndex.{TableIndex}
use Rattle.integers.proofs.Groups.{read_int-small}
use Rattle.integers.proofs.Short.{short-int-reads}
use Rattle.wire.specs.Text.{plain_place}
use Rattle.wire.specs.declared.text.StringPlace.{StringPlace}
use Rattle.wire.specs.declared.name.NamePlace.TheVariants.{Index, Text}
use Rattle.wire.proofs.Strings.{name_index, name-text}
use Rattle.short_strings.specs.Short.{short_string_at}
use Rattle.short_strings.proofs.ShortStrings.{GoodShort, short-string-good, short-string-found}
use Rattle.blocks.specs.Reading.{flag_of, read_representation}
use Rattle.short_forms.specs.Short.{short_index_at, short_literal_at, short_named_at}
use Rattle.blocks.specs.declared.read.RepresentationPlace.TheVariants.{Indexed, Literal}
use Rattle.blocks.proofs.Equations.{indexed-found, literal-found, representation-literal, representation-indexed}
use Rattle.short_forms.proofs.ShortEquations.{length-short, length-long, index-zero, index-ones, index_short, literal-named, literal-cut, literal-name-long, literal-name-cut, literal-value-long, literal-value-cut, literal-short, named-long, named-zero, named-value-long, named-short}
use Rattle.std.specs.Prelude.{Ok, Option, Some, None}
use Rattle.integers.specs.declared.integer.WireInt.{WireInt}

-- ---- an index

module _ (s : List ℕ) (at : ℕ) (h : at < length s) (top : 128 ≤ get_or s at 0) where
  abbrev GoodIndex : Option (TableIndex × ℕ) → Type 0
  GoodIndex (Some (i, next)) = read_representation s at ≡ Ok (Indexed i, next)
  GoodIndex None = Unit {0}

  good-index : GoodIndex (short_index_at s at)
  good-index =
      let b : ℕ = get_or s at 0 in
      split 128 b
      (λ lo. split b 255
      (λ hi. let v : b % 128 ≡ b - 128 = omega arith in
      let i : read_int 7 s at ≡ Ok (record { value = b - 128 }, at + 1) =
      read_int-small 7 s at h b 128 refl refl (omega arith) ∙ ap (λ (n : ℕ). Ok (record { value = n }, at + 1)) v
      in
      rw (index_short s at b refl lo hi)
      (representation-indexed s at h top ∙ indexed-found s at _ refl (record { value = b - 128 }) (at + 1) i (λ d. omega arith)))
      (λ hi. rw (index-ones s at b refl hi) tt))
      (λ lo. rw (index-zero s at b refl lo) tt)

  pub short-index-reads : (i : TableIndex) (next : ℕ) → short_index_at s at ≡ Some (i, next) → read_representation s at ≡ Ok (Indexed i, next)
  short-index-reads i next e = subst GoodIndex e good-index

-- ---- literals

-- a short literal whose name is a string: what is read there, and both strings, one behind the other
pub record ShortRead (s : List ℕ) (at next : ℕ) : Type 0 where
  pub name : StringPlace
  pub value : StringPlace
  pub middle : ℕ
  pub reads : read_representation s at ≡ Ok (Literal (flag_of (get_or s at 0)) (Text name) value, next)
  pub front : GoodShort s (at + 1) name middle
  pub back : GoodShort s middle value next

module _ (s : List ℕ) (at : ℕ) (h : at < length s) (low : get_or s at 0 < 128) where
  abbrev GoodLiteral : Option ℕ → Type 0
  GoodLiteral (Some next) = ShortRead s at next
  GoodLiteral None = Unit {0}

  found : get_or s at 0 % 64 ≡ 0 → 3 ≤ length s - at → (n : ℕ) → n ≡ get_or s (at + 1) 0 → n < 127 → n ≤ length s - at - 3
      → (v : ℕ) → v ≡ get_or s (at + 2 + n) 0 → v < 127 → v ≤ length s - at - 3 - n → ShortRead s at (at + 3 + n + v)
  found z l n e k c v d j a =
      let p : at + 1 + 1 + n ≡ at + 2 + n = omega arith in
      let q : at + 2 + n + 1 + v ≡ at + 3 + n + v = omega arith in
      let i : read_int 6 s at ≡ Ok (record { value = 0 }, at + 1) =
      read_int-small 6 s at h (get_or s at 0) 64 refl refl (omega arith) ∙ ap (λ (x : ℕ). Ok (record { value = x }, at + 1)) z
      in
      let front : GoodShort s (at + 1) (plain_place (at + 1 + 1) n) (at + 2 + n) =
      subst (GoodShort s (at + 1) (plain_place (at + 1 + 1) n)) p
      (short-string-good s (at + 1) (plain_place (at + 1 + 1) n) (at + 1 + 1 + n) (short-string-found s (at + 1) (omega arith) n e k (omega arith)))
      in
      let back : GoodShort s (at + 2 + n) (plain_place (at + 2 + n + 1) v) (at + 3 + n + v) =
      subst (GoodShort s (at + 2 + n) (plain_place (at + 2 + n + 1) v)) q
      (short-string-good s (at + 2 + n) (plain_place (at + 2 + n + 1) v) (at + 2 + n + 1 + v) (short-string-found s (at + 2 + n) (omega arith) v d j (omega arith)))
      in
      record {
        name = plain_place (at + 1 + 1) n;
        value = plain_place (at + 2 + n + 1) v;
        middle = at + 2 + n;
        reads =
            representation-literal s at h low
            ∙ literal-found s at _ refl (Text (plain_place (at + 1 + 1) n)) (at + 2 + n)
            (name-text 6 s at _ refl (record { value = 0 }) (at + 1) i refl _ refl (plain_place (at + 1 + 1) n) (at + 2 + n) (front.reads 255 (omega arith))) _ refl
            (plain_place (at + 2 + n + 1) v) (at + 3 + n + v) (back.reads 2047 (omega arith));
        front = front;
        back = back;
      }

  good-literal : GoodLiteral (short_literal_at s at)
  good-literal =
      let b : ℕ = get_or s at 0 in
      let n : ℕ = get_or s (at + 1) 0 in
      let v : ℕ = get_or s (at + 2 + n) 0 in
      split 0 (b % 64)
      (λ z. rw (literal-named s at (λ d. omega arith)) tt)
      (λ y. let z : b % 64 ≡ 0 = omega arith in
      split (length s - at) 3
      (λ l. rw (literal-cut s at z l) tt)
      (λ l. split n 127
      (λ k. split (length s - at - 3) n
      (λ c. rw (literal-name-cut s at z l (Some n) (sym (length-short n k)) n refl c) tt)
      (λ c. split v 127
      (λ j. split (length s - at - 3 - n) v
      (λ a. rw (literal-value-cut s at z l (Some n) (sym (length-short n k)) n refl c (Some v) (sym (length-short v j)) v refl a) tt)
      (λ a. rw (literal-short s at z l (Some n) (sym (length-short n k)) n refl c (Some v) (sym (length-short v j)) v refl a) (found z l n refl k c v refl j a)))
      (λ j. rw (literal-value-long s at z l (Some n) (sym (length-short n k)) n refl c None (sym (length-long v j)) refl) tt)))
      (λ k. rw (literal-name-long s at z l None (sym (length-long n k)) refl) tt)))

  pub short-literal-reads : (next : ℕ) → short_literal_at s at ≡ Some next → ShortRead s at next
  short-literal-reads next e = subst GoodLiteral e good-literal

  abbrev GoodNamed : Option (TableIndex × StringPlace × ℕ) → Type 0
  GoodNamed (Some (i, value, next)) = read_representation s at ≡ Ok (Literal (flag_of (get_or s at 0)) (Index i) value, next)
  GoodNamed None = Unit {0}

  good-named : (r : Option (WireInt × ℕ)) → r ≡ short_int_at 6 s at → GoodNamed (short_named_at s at)
  good-named None e = rw (named-long s at None e refl) tt
  good-named (Some (n, after)) e =
      split 0 n.value
      (λ z. values (λ d. omega arith) (short_string_at s after) refl)
      (λ z. rw (named-zero s at (Some (n, after)) e n after refl (omega arith)) tt)
    where
      i : read_int 6 s at ≡ Ok (n, after)
      i = (short-int-reads 6 s at (omega arith) (omega arith) n after (sym e)).0

      values : (z : n.value ≡ 0 → ⊥) (v : Option (StringPlace × ℕ)) → v ≡ short_string_at s after → GoodNamed (short_named_at s at)
      values z None g = rw (named-value-long s at (Some (n, after)) e n after refl z None g refl) tt
      values z (Some (value, next)) g =
          let back = short-string-good s after value next (sym g) in
          rw (named-short s at (Some (n, after)) e n after refl z (Some (value, next)) g value next refl)
          (representation-literal s at h low
          ∙ literal-found s at _ refl (Index (record { value = n.value })) after (name_index 6 s at _ refl n after i z) _ refl value next (back.reads 2047 (omega arith)))

  pub short-named-reads : (i : TableIndex) (value : StringPlace) (next : ℕ) → short_named_at s at ≡ Some (i, value, next)
      → read_representation s at ≡ Ok (Literal (flag_of (get_or s at 0)) (Index i) value, next)
  short-named-reads i value next e = subst GoodNamed e (good-named (short_int_at 6 s at) refl)
