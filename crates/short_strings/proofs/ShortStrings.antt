-- Short strings: the equations of `short_string_at`, one for each way through it, and that a short string is the one that is read, within every limit.
use mathlib.Core.Path.{◌≡◌, refl, ap, subst, ◌∙◌}
use Prim.Native.Nat.{ℕ, ◌+◌, ◌-◌, ◌%◌, ◌≤◌, ◌<◌}
use native.Mathlib.Omega.{arith}
use mathlib.Core.Bool.{false}
use mathlib.Core.List.{List}
use lib.ListN.{length, get_or}
use borrow.Author.Tests.{lt-ltb, le-ltb, le-leb, lt-leb}
use Rattle.memory.proofs.Order.{split}
use Rattle.integers.specs.Integer.{read_int}
use Rattle.integers.proofs.Groups.{read_int-small}
use Rattle.wire.specs.Text.{plain_place, read_string}
use Rattle.wire.specs.declared.text.StringPlace.{StringPlace}
use Rattle.wire.proofs.Strings.{string-plain, plain-found}
use Rattle.short_strings.specs.Short.{short_string_at}
use Rattle.std.specs.Prelude.{Ok, Option, Some, None}

module _ (s : List ℕ) (at : ℕ) where
  pub short-string-none : length s ≤ at → short_string_at s at ≡ None
  unfolding short_string_at
  short-string-none h = simp (le-ltb at (length s) h)

  module _ (h : at < length s) (n : ℕ) (e : n ≡ get_or s at 0) where
    pub short-string-long : 127 ≤ n → short_string_at s at ≡ None
    unfolding short_string_at
    short-string-long k = simp (lt-ltb at (length s) h, ← e, le-ltb n 127 k)

    module _ (k : n < 127) where
      pub short-string-cut : length s - (at + 1) < n → short_string_at s at ≡ None
      unfolding short_string_at
      short-string-cut l = simp (lt-ltb at (length s) h, ← e, lt-ltb n 127 k, lt-leb n (length s - (at + 1)) l)

      pub short-string-found : n ≤ length s - (at + 1) → short_string_at s at ≡ Some (plain_place (at + 1) n, at + 1 + n)
      unfolding short_string_at
      short-string-found l = simp (lt-ltb at (length s) h, ← e, lt-ltb n 127 k, le-leb n (length s - (at + 1)) l)

-- what a short string at the place at is
pub record GoodShort (s : List ℕ) (at : ℕ) (p : StringPlace) (next : ℕ) : Type 0 where
  pub size : p.size ≡ get_or s at 0
  pub plain : p.packed ≡ false
  pub told : p.length ≡ get_or s at 0
  pub start : p.start ≡ at + 1
  pub low : get_or s at 0 < 127
  pub ends : next ≡ at + 1 + get_or s at 0
  pub inside : next ≤ length s
  pub reads : (limit : ℕ) → 126 ≤ limit → read_string s at limit ≡ Ok (p, next)

module _ (s : List ℕ) (at : ℕ) where
  abbrev Good : Option (StringPlace × ℕ) → Type 0
  Good (Some (p, next)) = GoodShort s at p next
  Good None = Unit {0}

  found-reads : at < length s → get_or s at 0 < 127 → get_or s at 0 ≤ length s - (at + 1) → (limit : ℕ) → 126 ≤ limit
      → read_string s at limit ≡ Ok (plain_place (at + 1) (get_or s at 0), at + 1 + get_or s at 0)
  found-reads h k l limit m =
      let v : get_or s at 0 % 128 ≡ get_or s at 0 = omega arith in
      let r : read_int 7 s at ≡ Ok (record { value = get_or s at 0 }, at + 1) =
      read_int-small 7 s at h (get_or s at 0) 128 refl refl (omega arith) ∙ ap (λ (i : ℕ). Ok (record { value = i }, at + 1)) v
      in
      string-plain s at limit h _ refl (record { value = get_or s at 0 }) (at + 1) r (omega arith) ∙ plain-found s limit (get_or s at 0) (at + 1) (omega arith) l

  good : Good (short_string_at s at)
  good =
      split at (length s)
      (λ h. split (get_or s at 0) 127
      (λ k. split (length s - (at + 1)) (get_or s at 0)
      (λ l. rw (short-string-cut s at h (get_or s at 0) refl k l) tt)
      (λ l. rw (short-string-found s at h (get_or s at 0) refl k l)
      (record { size = refl; plain = refl; told = refl; start = refl; low = k; ends = refl; inside = omega arith; reads = found-reads h k l })))
      (λ k. rw (short-string-long s at h (get_or s at 0) refl k) tt))
      (λ h. rw (short-string-none s at h) tt)

  pub short-string-good : (p : StringPlace) (next : ℕ) → short_string_at s at ≡ Some (p, next) → GoodShort s at p next
  short-string-good p next e = subst Good e good
