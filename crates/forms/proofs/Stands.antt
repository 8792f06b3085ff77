-- A string and a name that were read stand in the bytes as the writer that is told which strings to pack writes them.
-- By `int-stands` at the length or the index, and `unpack-pack` at the bytes of a packed string.
use mathlib.Core.Path.{◌≡◌, refl, sym, ap, subst}
use mathlib.Core.Bool.{Bool, true, false}
use Prim.Native.Nat.{ℕ, ◌+◌, ◌-◌, ◌*◌, ◌/◌, ◌^◌, ◌≤◌, ◌<◌}
use native.Mathlib.Omega.{arith}
use mathlib.Core.List.{List, ◌++◌}
use lib.ListN.{length, get_or, length-append}
use lib.Dec.{ltb, leb, eqb}
use borrow.Author.Tests.{le-leb, lt-leb, leb-true, eqb-true}
use Rattle.memory.specs.Choice.{pick}
use Rattle.memory.specs.Bytes.{part, Has, Small}
use Rattle.memory.proofs.Order.{split, pick-both, need-both}
use Rattle.memory.proofs.Overlay.{small-part}
use Rattle.memory.proofs.Places.{has_join, has_part, part-has, length_part}
use Rattle.integers.specs.Integer.{read_int, int_wire}
use Rattle.integers.proofs.Bounds.{int-good}
use Rattle.integers.proofs.OneForm.{int-stands}
use Rattle.huffman.specs.Packing.{Unpacked, whole, unpack, pack, packed_size}
use Rattle.huffman.proofs.Packs.{packed-length}
use Rattle.huffman.proofs.RoundTrip.{unpack-pack}
use Rattle.wire.specs.Text.{text_at, size_limit, is_packed, read_string, string_after, string_end, string_bytes}
use Rattle.wire.specs.Name.{read_name, name_of}
use Rattle.wire.proofs.TextBounds.{string-bytes-small}
use Rattle.integers.specs.declared.integer.WireInt.{WireInt}
use Rattle.wire.specs.declared.text.StringPlace.{StringPlace}
use Rattle.wire.specs.declared.name.NamePlace.{NamePlace}
use Rattle.wire.specs.declared.name.NamePlace.TheVariants.{Index, Text}
use Rattle.integers.proofs.Told.{Told}
use Rattle.integers.specs.declared.answer.Refusal.TheVariants.{BadPacking, TooLong, Truncated}
use Rattle.forms.proofs.Found.{Found, found-each, found-on-read, found-on-int}
use Rattle.forms.specs.Forms.{string_form, name_form}
use Rattle.forms.specs.Packed.{packed_name, FitName}
use Rattle.std.specs.Prelude.{Ok, Err}

-- these bytes stand at the place at, and end at the place next
pub record Stands (s : List ℕ) (at : ℕ) (bytes : List ℕ) (next : ℕ) : Type 0 where
  pub there : Has s at bytes
  pub ends : next ≡ at + length bytes

pub stands-join : {s : List ℕ} {at mid next : ℕ} {xs ys : List ℕ} → Stands s at xs mid → Stands s mid ys next → Stands s at (xs ++ ys) next
stands-join {s} {at} {mid} {next} {xs} {ys} p q =
    record {
      there = has_join s at xs ys p.there (subst (λ (i : ℕ). Has s i ys) p.ends q.there);
      ends = omega (arith, p.ends, q.ends, length-append xs ys);
    }

-- as a part of the bytes
pub stands-part : {s : List ℕ} {at next : ℕ} {xs : List ℕ} → Stands s at xs next → part s at (next - at) ≡ xs
stands-part {s} {at} {next} {xs} p =
    let n : next - at ≡ length xs = omega (arith, p.ends) in
    rw n (has_part s at xs p.there)

module _ (s : List ℕ) (small : Small s) where
  -- a number, below the bits that stand above its prefix
  pub int-there : (k at top : ℕ) → get_or s at 0 / 2 ^ k * 2 ^ k ≡ top → (n : WireInt) (next : ℕ) → Ok (n, next) ≡ read_int k s at
      → Stands s at (int_wire k top n.value) next
  int-there k at top t n next e =
      let h = rw t at (int-stands s small k at n.value next (sym e)) in
      record { there = h.0; ends = h.1 }

  -- the form of a string whose size stands before its bytes
  form-there : (packed : Bool) (start n : ℕ) → start + n ≤ length s → (text_at packed s start n).whole ≡ true
      → string_form packed (text_at packed s start n).bytes ≡ int_wire 7 (pick packed 128 0) n ++ part s start n
  unfolding string_form text_at
  form-there true start n h w =
      let b : List ℕ = part s start n in
      let xs : List ℕ = (unpack b).bytes in
      let e : unpack b ≡ whole xs = ap (λ (t : Bool). record { bytes = xs; whole = t }) w in
      let d : pack xs ≡ b = unpack-pack b xs (small-part s start n small) e in
      let l : packed_size xs ≡ n = omega (arith, packed-length xs, ap length d, length_part s start n h) in
      rw (l, d) refl
  form-there false start n h w = rw (length_part s start n h) refl

  module _ (at limit : ℕ) where
    abbrev StringStands : StringPlace → ℕ → Type 0
    StringStands p next = Stands s at (string_form p.packed (string_bytes s p)) next

    module _ (packed : Bool) (n start : ℕ) (i : Stands s at (int_wire 7 (pick packed 128 0) n) start) where
      bytes-stand : start + n ≤ length s → (text_at packed s start n).whole ≡ true
          → Stands s at (string_form packed (text_at packed s start n).bytes) (start + n)
      bytes-stand h w =
          rw (form-there packed start n h w)
          (stands-join i (record { there = part-has s start n h; ends = omega (arith, length_part s start n h) }))

      end-stands : start + n ≤ length s → Told (Found StringStands) (string_end packed limit n start (text_at packed s start n))
      unfolding string_end string_bytes
      end-stands h =
          let u : Unpacked = text_at packed s start n in
          need-both (Told (Found StringStands)) (leb (length u.bytes) limit) (Err TooLong) _ (λ e. record { told = tt })
          (λ e. need-both (Told (Found StringStands)) u.whole (Err BadPacking) _ (λ w. record { told = tt }) (λ w. record { told = bytes-stand h w }))

      after-stands : start ≤ length s → Told (Found StringStands) (string_after packed s limit n start)
      unfolding string_after
      after-stands k =
          need-both (Told (Found StringStands)) (leb n (size_limit packed limit)) (Err TooLong) _ (λ e. record { told = tt })
          (λ e. need-both (Told (Found StringStands)) (leb n (length s - start)) (Err Truncated) _ (λ d. record { told = tt })
          (λ d. end-stands (omega (arith, leb-true _ _ d))))

    -- the H bit is what stands above the length
    high_bit : (x : ℕ) → x < 256 → x / 2 ^ 7 * 2 ^ 7 ≡ pick (leb 128 x) 128 0
    high_bit x h =
        split x 128
        (λ l. rw (lt-leb 128 x l) (omega arith))
        (λ l. rw (le-leb 128 x l) (omega arith))

    string-read : Told (Found StringStands) (read_string s at limit)
    unfolding read_string
    string-read =
        need-both (Told (Found StringStands)) (ltb at (length s)) (Err Truncated) _ (λ e. record { told = tt })
        (λ e. found-on-int StringStands (read_int 7 s at) (λ v start d.
        let n : WireInt = record { value = v } in
        let g = int-good 7 s at (omega arith) _ refl n start d in
        after-stands (is_packed s at) v start (int-there 7 at (pick (is_packed s at) 128 0) (high_bit (get_or s at 0) (small at)) n start (sym d)) g.1))

    pub string-stands : (p : StringPlace) (next : ℕ) → read_string s at limit ≡ Ok (p, next) → Stands s at (string_form p.packed (string_bytes s p)) next
    string-stands = found-each StringStands (read_string s at limit) string-read

  module _ (k at top : ℕ) (t : get_or s at 0 / 2 ^ k * 2 ^ k ≡ top) where
    abbrev NameStands : NamePlace → ℕ → Type 0
    NameStands p next = Stands s at (name_form k top (packed_name p) (name_of s p)) next

    name-read : Told (Found NameStands) (read_name k s at)
    unfolding read_name name_form
    name-read =
        found-on-int NameStands (read_int k s at) (λ v next e.
        let i : Stands s at (int_wire k top v) next = int-there k at top t (record { value = v }) next (sym e) in
        pick-both (Told (Found NameStands)) (eqb v 0) _ _
        (λ z. found-on-read NameStands (read_string s next 255) (λ p after f.
        record { told = stands-join (rw (eqb-true v 0 z) at i) (string-stands next 255 p after f) }))
        (λ z. record { told = i }))

    pub name-stands : (p : NamePlace) (next : ℕ) → read_name k s at ≡ Ok (p, next) → Stands s at (name_form k top (packed_name p) (name_of s p)) next
    name-stands = found-each NameStands (read_name k s at) name-read

  -- a string that was read is of bytes, and only a string is packed
  pub name-fits : (p : NamePlace) → FitName (packed_name p) (name_of s p)
  name-fits (Index i) = refl
  name-fits (Text p) = string-bytes-small s p small
