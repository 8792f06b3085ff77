-- A string whose length takes one byte on the wire and in the list: by its short form where it is plain, and by its unpacked bytes where it is not.
use Prim.Native.Nat.{ℕ, ◌+◌, ◌-◌, ◌%◌, ◌≤◌, ◌<◌}
use mathlib.Core.Path.{◌≡◌, refl, sym, ap, ap₂, ◌∙◌}
use native.Mathlib.Omega.{arith}
use mathlib.Core.Bool.{true}
use mathlib.Core.List.{List, ◌∷◌, ◌++◌}
use lib.ListN.{length, get_or, set, take}
use lib.Seq.{take-take}
use Rattle.memory.specs.Bytes.{part, overlay}
use Rattle.memory.proofs.Places.{length_part, part-cons}
use Rattle.memory.proofs.Overlay.{set-overlay}
use Rattle.integers.specs.Integer.{read_int}
use Rattle.integers.proofs.Groups.{read_int-small}
use Rattle.huffman.specs.Packing.{Unpacked, unpack}
use Rattle.unpacking.specs.Waiting.{end_of}
use Rattle.unpacking.specs.declared.unpack.UnpackedEnd.{UnpackedEnd}
use Rattle.unpacking.proofs.Progress.{unpack-length}
use Rattle.wire.specs.Text.{plain_place, string_bytes}
use Rattle.wire.specs.declared.text.StringPlace.{StringPlace}
use Rattle.wire.proofs.Strings.{string-packed, measured-found}
use Rattle.wire.proofs.TextBounds.{unpacked-bytes}
use Rattle.short_strings.proofs.ShortStrings.{GoodShort, short-string-found, short-string-good}
use Rattle.fields.specs.Form.{text_form}
use Rattle.fields.proofs.Sizes.{form-one}
use Rattle.decoder_survey.proofs.ShortForms.{short-text}
use Rattle.decoder_literals.specs.Taking.{TookString}
use Rattle.std.specs.Prelude.{Ok}

-- two lists with the same bytes before a place have the same before any place below
pub below : (x y : List ℕ) (n k : ℕ) → k ≤ n → take n x ≡ take n y → take k x ≡ take k y
below x y n k h e = sym (take-take k n x h) ∙ ap (take k) e ∙ take-take k n y h

-- a length of one byte, and the bytes
text-one : (xs : List ℕ) → length xs < 128 → text_form xs ≡ length xs ∷ xs
unfolding text_form
text-one xs h = ap (λ (f : List ℕ). f ++ xs) (form-one (length xs) h)

module _ (s : List ℕ) (at : ℕ) (lent : List ℕ) (to : ℕ) where
  -- the length's byte, and the bytes behind it
  pub plain-string : at < length s → get_or s at 0 < 127 → get_or s at 0 ≤ length s - (at + 1) → to + 127 ≤ length lent
      → (bytes : List ℕ) → bytes ≡ part s (at + 1) (get_or s at 0)
      → (next after : ℕ) (out : List ℕ) → next ≡ at + 1 + get_or s at 0 → after ≡ to + 1 + length bytes → out ≡ overlay (set lent to (get_or s at 0)) (to + 1) bytes
      → TookString s at lent out to next after
  plain-string h low l room bytes b next after out d e w =
      let n : ℕ = get_or s at 0 in
      let p : StringPlace = plain_place (at + 1) n in
      let G : GoodShort s at p (at + 1 + n) = short-string-good s at p (at + 1 + n) (short-string-found s at h n refl low l) in
      let text : text_form (string_bytes s p) ≡ n ∷ bytes = short-text s at p (at + 1 + n) G ∙ part-cons s at n h ∙ ap (λ (x : List ℕ). n ∷ x) (sym b) in
      let size : length bytes ≡ n = ap length b ∙ length_part s (at + 1) n (omega arith) in
      record {
        place = p;
        reads = λ limit k. G.reads limit k ∙ ap (λ (k : ℕ). Ok (p, k)) (sym d);
        ends = omega (arith, e, ap length text);
        fits = omega (arith, e, size);
        written = w ∙ ap (overlay lent to) (sym text);
      }

  -- no code is shorter than five bits
  pub packed-most : (size : ℕ) → size < 80 → at + 1 + size ≤ length s → length (unpack (part s (at + 1) (at + 1 + size - (at + 1)))).bytes ≤ 126
  packed-most size few inside =
      omega (arith, unpack-length (part s (at + 1) (at + 1 + size - (at + 1))), length_part s (at + 1) (at + 1 + size - (at + 1)) (omega arith))

  -- the length's byte, written once the bytes behind it are there
  pub packed-string : (size : ℕ) → get_or s at 0 ≡ 128 + size → size < 80 → at + 1 + size ≤ length s → to + 127 ≤ length lent
      → (r : UnpackedEnd) → r ≡ end_of (to + 1) (unpack (part s (at + 1) (at + 1 + size - (at + 1)))) → r.whole ≡ true
      → (mid : List ℕ) → mid ≡ overlay lent (to + 1) (unpack (part s (at + 1) (at + 1 + size - (at + 1)))).bytes
      → TookString s at lent (set mid to (r.next - (to + 1))) to (at + 1 + size) r.next
  packed-string size top few inside room r e whole mid w =
      let u : Unpacked = unpack (part s (at + 1) (at + 1 + size - (at + 1))) in
      let k : ℕ = length u.bytes in
      let n : r.next ≡ to + 1 + k = ap (λ (x : UnpackedEnd). x.next) e in
      let h : at < length s = omega arith in
      let most : k ≤ 126 = packed-most size few inside in
      let p : StringPlace = record { start = at + 1; size = size; packed = true; length = k } in
      let z : get_or s at 0 % 128 ≡ size = omega arith in
      let i : read_int 7 s at ≡ Ok (record { value = size }, at + 1) =
      read_int-small 7 s at h (get_or s at 0) 128 refl refl (omega arith) ∙ ap (λ (x : ℕ). Ok (record { value = x }, at + 1)) z
      in
      let bytes : string_bytes s p ≡ u.bytes = sym (unpacked-bytes s p refl) in
      let text : text_form (string_bytes s p) ≡ k ∷ u.bytes = ap text_form bytes ∙ text-one u.bytes (omega arith) in
      record {
        place = p;
        reads = λ limit l.
            string-packed s at limit h _ refl (record { value = size }) (at + 1) i (omega arith)
            ∙ measured-found s limit size (at + 1) (omega arith) (omega arith) k u.whole refl refl (omega arith)
            (sym (ap (λ (x : UnpackedEnd). x.whole) e) ∙ whole);
        ends = n ∙ omega (arith, ap length text);
        fits = omega (arith, n);
        written = ap₂ (λ (l : List ℕ) (x : ℕ). set l to x) w (omega (arith, n))
            ∙ sym (set-overlay lent (to + 1) u.bytes to k (omega arith)) ∙ ap (overlay lent to) (sym text);
      }
