-- Which places a string or a name that was read can have: inside the input, after their own place and near it, and not too long.
-- By cases along the equations of `read_string` and `read_name`.
use mathlib.Core.Path.{◌≡◌, refl, sym, ap, subst, ◌∙◌}
use mathlib.Core.Bool.{Bool, true, false}
use Prim.Native.Nat.{ℕ, ◌+◌, ◌*◌, ◌-◌, ◌≤◌, ◌<◌}
use native.Mathlib.Omega.{arith}
use mathlib.Core.List.{List, ◌++◌}
use lib.ListN.{length, take, drop, length-append}
use Rattle.memory.specs.Bytes.{part, Small}
use Rattle.memory.proofs.Overlay.{small-part}
use Rattle.memory.proofs.Order.{split, either}
use Rattle.memory.proofs.Places.{part-append}
use Rattle.integers.specs.Integer.{read_int}
use Rattle.huffman.specs.Packing.{Unpacked, whole, unpack}
use Rattle.huffman.proofs.Unpacks.{small-unpack}
use Rattle.wire.specs.Text.{InString, text_at, size_limit, is_packed, read_string, string_after, string_end, string_length, string_bytes}
use Rattle.wire.specs.Name.{GoodName, Name, name_of, read_name}
use Rattle.integers.specs.declared.integer.WireInt.{WireInt}
use Rattle.wire.specs.declared.text.StringPlace.{StringPlace}
use Rattle.wire.specs.declared.name.NamePlace.{NamePlace}
use Rattle.wire.specs.declared.name.NamePlace.TheVariants.{Index, Text}
use Rattle.integers.proofs.Bounds.{int-good}
use Rattle.wire.proofs.Strings.{slice-part, slice-unpacked, string-short, string-refused, string-value, after-long, after-cut, after-end, end-long, end-bad, end-found, name-refused, name_index, name-text-refused, name-text}
use Rattle.std.specs.Prelude.{Ok, Err}
use Rattle.integers.specs.Answers.{Read}

pub record GoodString (s : List ℕ) (at limit : ℕ) (p : StringPlace) (next : ℕ) : Type 0 where
  pub after : at < p.start
  pub ends : p.start + p.size ≡ next
  pub inside : next ≤ length s
  pub near : next ≤ at + 5 + 4 * limit
  pub text : InString s p
  pub short : string_length s p ≤ limit

abbrev pub GoodStringRead : List ℕ → ℕ → ℕ → Read StringPlace → Type 0
GoodStringRead s at limit (Ok (p, next)) = GoodString s at limit p next
GoodStringRead s at limit (Err why) = Unit {0}

-- neither kind of string takes more than four times the limit
size-most : (packed : Bool) (limit : ℕ) → size_limit packed limit ≤ 4 * limit
size-most true limit = omega arith
size-most false limit = omega arith

module _ (s : List ℕ) (at limit : ℕ) where
  module _ (packed : Bool) (size start : ℕ) (h : at < start) (near : start ≤ at + 5) (k : start ≤ length s) (l : size ≤ size_limit packed limit) (m : size ≤ length s - start) where
    good-place : length (text_at packed s start size).bytes ≤ limit → (text_at packed s start size).whole ≡ true
        → GoodString s at limit (record { start = start; size = size; packed = packed; length = length (text_at packed s start size).bytes }) (start + size)
    unfolding string_length
    good-place n w =
        record {
          after = h;
          ends = refl;
          inside = omega arith;
          near = omega (arith, size-most packed limit);
          text = record { inside = omega arith; whole = w; told = refl };
          short = n;
        }

    good-end : GoodStringRead s at limit (string_end packed limit size start (text_at packed s start size))
    good-end =
        let u : Unpacked = text_at packed s start size in
        split limit (length u.bytes)
        (λ n. rw (end-long packed limit size start u n) tt)
        (λ n. either u.whole
        (λ w. rw (end-found packed limit size start u n w) (good-place n w))
        (λ w. rw (end-bad packed limit size start u n w) tt))

  good-after : (packed : Bool) (size start : ℕ) → at < start → start ≤ at + 5 → start ≤ length s
      → GoodStringRead s at limit (string_after packed s limit size start)
  good-after packed size start h near k =
      split (size_limit packed limit) size
      (λ l. rw (after-long packed s limit size start l) tt)
      (λ l. split (length s - start) size
      (λ m. rw (after-cut packed s limit size start l m) tt)
      (λ m. rw (after-end packed s limit size start l m) (good-end packed size start h near k l m)))

  good-value : at < length s → (r : Read WireInt) → r ≡ read_int 7 s at → GoodStringRead s at limit (read_string s at limit)
  good-value h (Err why) e = rw (string-refused s at limit h _ e why refl) tt
  good-value h (Ok (n, start)) e =
      let g = int-good 7 s at (omega arith) _ e n start refl in
      rw (string-value s at limit h _ e n start refl) (good-after (is_packed s at) n.value start g.0 g.3 g.1)

  pub good-string : GoodStringRead s at limit (read_string s at limit)
  good-string =
      split at (length s)
      (λ l. good-value l (read_int 7 s at) refl)
      (λ l. rw (string-short s at limit l) tt)

  pub string-good : (p : StringPlace) (next : ℕ) → read_string s at limit ≡ Ok (p, next) → GoodString s at limit p next
  string-good p next e = subst (GoodStringRead s at limit) e good-string

-- the bytes of a string do not change when bytes are added behind
pub text-kept : (packed : Bool) (s t : List ℕ) (start size : ℕ) → start + size ≤ length s → text_at packed (s ++ t) start size ≡ text_at packed s start size
unfolding text_at
text-kept true s t start size h = ap unpack (part-append s t start size h)
text-kept false s t start size h = ap whole (part-append s t start size h)

text-small : (packed : Bool) (s : List ℕ) (start size : ℕ) → Small s → Small (text_at packed s start size).bytes
unfolding text_at
text-small true s start size b = small-unpack (part s start size)
text-small false s start size b = small-part s start size b

-- the string at a place has as many bytes as its length says, and does not change when bytes are added behind
module _ (s : List ℕ) (p : StringPlace) where
  pub string-size : InString s p → length (string_bytes s p) ≡ string_length s p
  unfolding string_bytes string_length
  string-size h = h.told

  -- the bytes on the wire as a slice from the string's start to its end, of a plain and of a packed string
  pub string-part : p.packed ≡ false → take (p.start + p.size - p.start) (drop p.start s) ≡ string_bytes s p
  unfolding string_bytes text_at
  string-part e = rw e (slice-part s p.start p.size)

  pub plain-bytes : p.packed ≡ false → string_bytes s p ≡ part s p.start p.size
  unfolding string_bytes text_at
  plain-bytes e = rw e refl

  -- a string of bytes has bytes
  pub string-bytes-small : Small s → Small (string_bytes s p)
  unfolding string_bytes
  string-bytes-small b = text-small p.packed s p.start p.size b

  -- a packed string, unpacked from that slice
  module _ (e : p.packed ≡ true) where
    string-unpacked : unpack (take (p.start + p.size - p.start) (drop p.start s)) ≡ text_at p.packed s p.start p.size
    string-unpacked = rw e (slice-unpacked s p.start p.size)

    pub unpacked-bytes : (unpack (take (p.start + p.size - p.start) (drop p.start s))).bytes ≡ string_bytes s p
    unfolding string_bytes
    unpacked-bytes = ap (λ (u : Unpacked). u.bytes) string-unpacked

    pub unpacked-length : InString s p → length (unpack (take (p.start + p.size - p.start) (drop p.start s))).bytes ≡ string_length s p
    unpacked-length h = ap length unpacked-bytes ∙ string-size h

  pub string-length-kept : (t : List ℕ) → string_length (s ++ t) p ≡ string_length s p
  unfolding string_length
  string-length-kept t = refl

  pub string-bytes-kept : (t : List ℕ) → InString s p → string_bytes (s ++ t) p ≡ string_bytes s p
  unfolding string_bytes
  string-bytes-kept t h = ap (λ (u : Unpacked). u.bytes) (text-kept p.packed s t p.start p.size h.inside)

  pub in-text-kept : (t : List ℕ) → InString s p → InString (s ++ t) p
  in-text-kept t h =
      let e = text-kept p.packed s t p.start p.size h.inside in
      record {
        inside = omega (arith, h.inside, length-append s t);
        whole = ap (λ (u : Unpacked). u.whole) e ∙ h.whole;
        told = ap (λ (u : Unpacked). length u.bytes) e ∙ h.told;
      }

abbrev pub GoodNameRead : List ℕ → ℕ → Read NamePlace → Type 0
GoodNameRead s at (Ok (p, next)) = (at < next) × (next ≤ length s) × (next ≤ at + 1030) × GoodName s p
GoodNameRead s at (Err why) = Unit {0}

module _ (k : ℕ) (s : List ℕ) (at : ℕ) (h : k ≤ 8) where
  good-text : (n : WireInt) (next : ℕ) → Ok (n, next) ≡ read_int k s at → n.value ≡ 0 → (t : Read StringPlace) → t ≡ read_string s next 255
      → GoodNameRead s at (read_name k s at)
  good-text n next e z (Err why) f = rw (name-text-refused k s at _ e n next refl z _ f why refl) tt
  good-text n next e z (Ok (p, after)) f =
      let g = int-good k s at h _ e n next refl in
      let t = string-good s next 255 p after (sym f) in
      rw (name-text k s at _ e n next refl z _ f p after refl)
      (omega (arith, g.0, t.after, t.ends), t.inside, omega (arith, g.3, t.near), (t.text, t.short))

  good-head : (r : Read WireInt) → r ≡ read_int k s at → GoodNameRead s at (read_name k s at)
  good-head (Err why) e = rw (name-refused k s at _ e why refl) tt
  good-head (Ok (n, next)) e =
      let g = int-good k s at h _ e n next refl in
      split 0 n.value
      (λ l. rw (name_index k s at _ e n next refl (λ z. omega arith)) (g.0, g.1, omega (arith, g.3), (l, g.2)))
      (λ l. good-text n next e (omega arith) (read_string s next 255) refl)

  pub name-good : (p : NamePlace) (next : ℕ) → read_name k s at ≡ Ok (p, next)
      → (at < next) × (next ≤ length s) × (next ≤ at + 1030) × GoodName s p
  name-good p next e = subst (GoodNameRead s at) e (good-head (read_int k s at) refl)

pub name-of-kept : (s t : List ℕ) (p : NamePlace) → GoodName s p → name_of (s ++ t) p ≡ name_of s p
name-of-kept s t (Index i) g = refl
name-of-kept s t (Text p) g = ap Name.literal (string-bytes-kept s p t g.0)
