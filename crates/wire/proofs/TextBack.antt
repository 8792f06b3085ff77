-- Reading gives back the strings and names that were written, and a name's first byte keeps the bits above its prefix.
-- By `int-back` at the length or the index, and the place of the bytes after it.
use mathlib.Core.Path.{◌≡◌, refl, sym, ap, subst, ◌∙◌}
use mathlib.Core.Bool.{Bool, true, false}
use Prim.Native.Nat.{ℕ, ◌+◌, ◌*◌, ◌^◌, ◌≤◌, ◌<◌}
use native.Mathlib.Omega.{arith}
use mathlib.Core.List.{List, ◌++◌}
use lib.ListN.{length, get_or, length-append}
use Rattle.memory.specs.Bytes.{Has, Small, part}
use Rattle.memory.proofs.Order.{either}
use Rattle.memory.proofs.Places.{has_left, has_right, has_end, has_part}
use Rattle.integers.specs.Integer.{int_wire}
use Rattle.huffman.specs.Packing.{Unpacked, whole, unpack, pack, packed_size}
use Rattle.huffman.proofs.Packs.{packed-length, packed_size-most}
use Rattle.huffman.proofs.RoundTrip.{pack-unpack}
use Rattle.wire.specs.Text.{plain_place, text_at, string_end, packs, read_string, string_wire, string_length, string_bytes}
use Rattle.wire.specs.Name.{Name, FineName, name_of, read_name, name_wire}
use Rattle.wire.specs.declared.text.StringPlace.{StringPlace}
use Rattle.wire.specs.declared.name.NamePlace.{NamePlace}
use Rattle.wire.specs.declared.name.NamePlace.TheVariants.{Index, Text}
use Rattle.integers.proofs.Back.{int-back}
use Rattle.integers.proofs.Lengths.{first_byte}
use Rattle.wire.proofs.Strings.{string-plain, string-packed, after-end, end-found, plain-found, name_index, name-text}
use Rattle.wire.proofs.TextWriting.{plain-wire, packed-wire, packs_bytes, literal-length-wire}
use Rattle.std.specs.Prelude.{Ok}

-- where the bytes of a string stand, a place with that string is read
module _ (s : List ℕ) (at limit : ℕ) (xs : List ℕ) (h : length xs ≤ limit) (k : length xs ≤ 2047) where
  abbrev Back : Bool → List ℕ → Type 0
  Back packed bytes = (p : StringPlace) × (read_string s at limit ≡ Ok (p, at + length bytes)) × (string_bytes s p ≡ xs) × (string_length s p ≡ length xs) × (p.packed ≡ packed)

  pub plain_back : Has s at (int_wire 7 0 (length xs) ++ xs) → Back false (int_wire 7 0 (length xs) ++ xs)
  unfolding string_bytes string_length text_at
  plain_back p =
      let n = length xs in
      let bytes = int_wire 7 0 n in
      let q : Has s at bytes = has_left s at bytes xs p in
      let low = first_byte s 7 at 0 n q in
      let start : ℕ = at + length bytes in
      let rest : Has s start xs = has_right s at bytes xs p in
      let first = has_end s at bytes (omega (arith, low.0)) q in
      let fits : start + n ≤ length s = has_end s start xs (omega arith) rest in (
        plain_place start n,
        string-plain s at limit low.0 _ refl (record { value = n }) start (int-back s 7 at 0 n (omega arith) q) (omega (arith, low.2))
            ∙ plain-found s limit n start h (omega arith)
            ∙ ap (λ (next : ℕ). Ok (plain_place start n, next)) (omega (arith, length-append bytes xs)),
        has_part s start xs rest,
        refl,
        refl,
      )

  pub packed-back : Small xs → Has s at (int_wire 7 128 (packed_size xs) ++ pack xs) → Back true (int_wire 7 128 (packed_size xs) ++ pack xs)
  unfolding string_bytes string_length text_at
  packed-back b p =
      let n = packed_size xs in
      let few = packed_size-most xs in
      let bytes = int_wire 7 128 n in
      let q : Has s at bytes = has_left s at bytes (pack xs) p in
      let low = first_byte s 7 at 128 n q in
      let start : ℕ = at + length bytes in
      let rest : Has s start (pack xs) = has_right s at bytes (pack xs) p in
      let l = packed-length xs in
      let first = has_end s at bytes (omega (arith, low.0)) q in
      let fits : start + n ≤ length s = omega (arith, has_end s start (pack xs) (omega arith) rest, l) in
      let there : part s start n ≡ pack xs = ap (part s start) (sym l) ∙ has_part s start (pack xs) rest in
      let text : text_at true s start n ≡ whole xs = ap unpack there ∙ pack-unpack xs b in
      let u : Unpacked = text_at true s start n in (
        record { start = start; size = n; packed = true; length = length xs },
        string-packed s at limit low.0 _ refl (record { value = n }) start (int-back s 7 at 1 n (omega (arith, few)) q) low.1
            ∙ after-end true s limit n start (omega (arith, few)) (omega (arith, fits))
            ∙ ap (string_end true limit n start) text
            ∙ end-found true limit n start (whole xs) h refl
            ∙ ap (λ (next : ℕ). Ok (record { start = start; size = n; packed = true; length = length xs }, next)) (omega (arith, length-append bytes (pack xs), l)),
        ap (λ (u : Unpacked). u.bytes) text,
        refl,
        refl,
      )

  pub string-back : Has s at (string_wire xs)
      → (p : StringPlace) × (read_string s at limit ≡ Ok (p, at + length (string_wire xs))) × (string_bytes s p ≡ xs) × (string_length s p ≡ length xs)
  string-back p =
      let r =
      either (packs xs)
      (λ e. subst (Back (packs xs)) (sym (packed-wire xs e)) (rw e (packed-back (packs_bytes xs e) (subst (Has s at) (packed-wire xs e) p))))
      (λ e. subst (Back (packs xs)) (sym (plain-wire xs e)) (rw e (plain_back (subst (Has s at) (plain-wire xs e) p))))
      in (r.0, r.1, r.2, r.3)

-- where the bytes of a name stand, a place with that name is read
pub name_back : (s : List ℕ) (k at t : ℕ) (n : Name) → FineName n → Has s at (name_wire k (t * 2 ^ k) n)
    → (p : NamePlace) × (read_name k s at ≡ Ok (p, at + length (name_wire k (t * 2 ^ k) n))) × (name_of s p ≡ n)
unfolding name_wire
name_back s k at t (Name.indexed i) h p = (
  Index (record { value = i }),
  name_index k s at _ refl (record { value = i }) _ (int-back s k at t i h.1 p) (λ z. omega (arith, h.0)),
  refl,
)
name_back s k at t (Name.literal xs) h p =
    let head = int_wire k (t * 2 ^ k) 0 in
    let e = int-back s k at t 0 (omega arith) (has_left s at head (string_wire xs) p) in
    let b = string-back s (at + length head) 255 xs h (omega arith) (has_right s at head (string_wire xs) p) in (
      Text b.0,
      name-text k s at _ refl (record { value = 0 }) _ e refl _ refl b.0 _ b.1
          ∙ ap (λ (next : ℕ). Ok (Text b.0, next)) (omega (arith, literal-length-wire k (t * 2 ^ k) xs)),
      ap Name.literal b.2,
    )

pub name-first : (s : List ℕ) (k at top : ℕ) (n : Name) → Has s at (name_wire k top n)
    → (at < length s) × (top ≤ get_or s at 0) × (get_or s at 0 < top + 2 ^ k)
unfolding name_wire
name-first s k at top (Name.indexed i) p = first_byte s k at top i p
name-first s k at top (Name.literal xs) p = first_byte s k at top 0 (has_left s at (int_wire k top 0) (string_wire xs) p)
