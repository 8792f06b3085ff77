-- The equations of `read_string` and `read_name`, one for each way through them.
-- By the tests along that way; only these laws unfold the definitions.
use mathlib.Core.Path.{◌≡◌, refl, sym, ap, ◌∙◌}
use mathlib.Core.Bool.{Bool, true, false}
use Prim.Native.Nat.{ℕ, ◌+◌, ◌*◌, ◌-◌, ◌≤◌, ◌<◌}
use native.Mathlib.Nat.{add-sub_cancel_left}
use native.Mathlib.Omega.{arith}
use mathlib.Core.List.{List}
use lib.ListN.{length, get_or, take, drop, length-drop}
use lib.Seq.{length-take-le}
use borrow.Author.Tests.{lt-ltb, le-ltb, le-leb, lt-leb, eq-eqb, ne_eqb}
use Rattle.integers.specs.Integer.{read_int}
use Rattle.memory.specs.Bytes.{part}
use Rattle.huffman.specs.Packing.{Unpacked, unpack}
use Rattle.wire.specs.Text.{plain_place, text_at, size_limit, is_packed, read_string, string_after, string_end}
use Rattle.wire.specs.Name.{read_name}
use Rattle.integers.specs.declared.integer.WireInt.{WireInt}
use Rattle.wire.specs.declared.text.StringPlace.{StringPlace}
use Rattle.wire.specs.declared.name.NamePlace.TheVariants.{Index, Text}
use Rattle.std.specs.Prelude.{Ok, Err}
use Rattle.integers.specs.Answers.{Read}
use Rattle.integers.specs.declared.answer.Refusal.TheVariants.{BadPacking, TooLong, Truncated}
use Rattle.integers.specs.declared.answer.Refusal.{Refusal}

module _ (s : List ℕ) (at limit : ℕ) where
  pub string-short : length s ≤ at → read_string s at limit ≡ Err Truncated
  unfolding read_string
  string-short h = simp (le-ltb _ _ h)

  module _ (h : at < length s) (r : Read WireInt) (e : r ≡ read_int 7 s at) where
    pub string-refused : (why : Refusal) → r ≡ Err why → read_string s at limit ≡ Err why
    unfolding read_string
    string-refused number d = simp (lt-ltb _ _ h, ← e, d)

    pub string-value : (n : WireInt) (start : ℕ) → r ≡ Ok (n, start) → read_string s at limit ≡ string_after (is_packed s at) s limit n.value start
    unfolding read_string
    string-value n start d = simp (lt-ltb _ _ h, ← e, d)

    pub string-plain : (n : WireInt) (start : ℕ) → r ≡ Ok (n, start) → get_or s at 0 < 128 → read_string s at limit ≡ string_after false s limit n.value start
    string-plain n start d k = rw (← lt-leb 128 (get_or s at 0) k) (string-value n start d)

    pub string-packed : (n : WireInt) (start : ℕ) → r ≡ Ok (n, start) → 128 ≤ get_or s at 0 → read_string s at limit ≡ string_after true s limit n.value start
    string-packed n start d k = rw (← le-leb 128 (get_or s at 0) k) (string-value n start d)

module _ (packed : Bool) (s : List ℕ) (limit size start : ℕ) where
  pub after-long : size_limit packed limit < size → string_after packed s limit size start ≡ Err TooLong
  unfolding string_after
  after-long h = simp (lt-leb _ _ h)

  module _ (h : size ≤ size_limit packed limit) where
    pub after-cut : length s - start < size → string_after packed s limit size start ≡ Err Truncated
    unfolding string_after
    after-cut k = simp (le-leb _ _ h, lt-leb _ _ k)

    pub after-end : size ≤ length s - start → string_after packed s limit size start ≡ string_end packed limit size start (text_at packed s start size)
    unfolding string_after
    after-end k = simp (le-leb _ _ h, le-leb _ _ k)

module _ (packed : Bool) (limit size start : ℕ) (u : Unpacked) where
  pub end-long : limit < length u.bytes → string_end packed limit size start u ≡ Err TooLong
  unfolding string_end
  end-long h = simp (lt-leb _ _ h)

  module _ (h : length u.bytes ≤ limit) where
    pub end-bad : u.whole ≡ false → string_end packed limit size start u ≡ Err BadPacking
    unfolding string_end
    end-bad w = simp (le-leb _ _ h, w)

    pub end-found : u.whole ≡ true
        → string_end packed limit size start u ≡ Ok (record { start = start; size = size; packed = packed; length = length u.bytes }, start + size)
    unfolding string_end
    end-found w = simp (le-leb _ _ h, w)

-- a plain string is whole, and as long as its length says
pub plain-length : (s : List ℕ) (start size : ℕ) → size ≤ length s - start → length (text_at false s start size).bytes ≡ size
unfolding text_at
plain-length s start size h = length-take-le size (drop start s) (omega (arith, length-drop start s))

pub plain-found : (s : List ℕ) (limit size start : ℕ) → size ≤ limit → size ≤ length s - start
    → string_after false s limit size start ≡ Ok (plain_place start size, start + size)
unfolding text_at
plain-found s limit size start h k =
    let e = plain-length s start size k in
    after-end false s limit size start h k
    ∙ end-found false limit size start (text_at false s start size) (omega (arith, e)) refl
    ∙ ap (λ (n : ℕ). Ok (record { start = start; size = size; packed = false; length = n }, start + size)) e

-- the bytes of a string as a slice from its start to its end
pub slice-part : (s : List ℕ) (start size : ℕ) → take (start + size - start) (drop start s) ≡ part s start size
slice-part s start size = ap (λ (n : ℕ). take n (drop start s)) (add-sub_cancel_left start size)

pub slice-unpacked : (s : List ℕ) (start size : ℕ) → unpack (take (start + size - start) (drop start s)) ≡ text_at true s start size
unfolding text_at
slice-unpacked s start size = ap unpack (slice-part s start size)

-- a packed string that lies in s, measured: its unpacked bytes counted, and whether it is whole
module _ (s : List ℕ) (limit size start : ℕ) (h : size ≤ 4 * limit) (k : size ≤ length s - start) (count : ℕ) (good : Bool)
    (n : count ≡ length (unpack (take (start + size - start) (drop start s))).bytes)
    (w : good ≡ (unpack (take (start + size - start) (drop start s))).whole) where
  counted : count ≡ length (text_at true s start size).bytes
  counted = n ∙ ap (λ (u : Unpacked). length u.bytes) (slice-unpacked s start size)

  wholly : good ≡ (text_at true s start size).whole
  wholly = w ∙ ap (λ (u : Unpacked). u.whole) (slice-unpacked s start size)

  pub measured-long : limit < count → string_after true s limit size start ≡ Err TooLong
  measured-long l =
      after-end true s limit size start h k ∙ end-long true limit size start (text_at true s start size) (omega (arith, counted))

  module _ (l : count ≤ limit) where
    pub measured-bad : good ≡ false → string_after true s limit size start ≡ Err BadPacking
    measured-bad g =
        after-end true s limit size start h k ∙ end-bad true limit size start (text_at true s start size) (omega (arith, counted)) (sym wholly ∙ g)

    pub measured-found : good ≡ true
        → string_after true s limit size start ≡ Ok (record { start = start; size = size; packed = true; length = count }, start + size)
    measured-found g =
        after-end true s limit size start h k
        ∙ end-found true limit size start (text_at true s start size) (omega (arith, counted)) (sym wholly ∙ g)
        ∙ ap (λ (i : ℕ). Ok (record { start = start; size = size; packed = true; length = i }, start + size)) (sym counted)

module _ (k : ℕ) (s : List ℕ) (at : ℕ) (r : Read WireInt) (e : r ≡ read_int k s at) where
  pub name-refused : (why : Refusal) → r ≡ Err why → read_name k s at ≡ Err why
  unfolding read_name
  name-refused number d = simp (← e, d)

  module _ (n : WireInt) (next : ℕ) (d : r ≡ Ok (n, next)) where
    pub name_index : (n.value ≡ 0 → ⊥) → read_name k s at ≡ Ok (Index (record { value = n.value }), next)
    unfolding read_name
    name_index h = simp (← e, d, ne_eqb _ _ h)

    module _ (z : n.value ≡ 0) (t : Read StringPlace) (f : t ≡ read_string s next 255) where
      pub name-text-refused : (why : Refusal) → t ≡ Err why → read_name k s at ≡ Err why
      unfolding read_name
      name-text-refused number g = simp (← e, d, eq-eqb _ _ z, ← f, g)

      pub name-text : (p : StringPlace) (after : ℕ) → t ≡ Ok (p, after) → read_name k s at ≡ Ok (Text p, after)
      unfolding read_name
      name-text p after g = simp (← e, d, eq-eqb _ _ z, ← f, g)
