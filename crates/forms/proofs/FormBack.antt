-- The form of a string and of a name, with it told which are packed, is of bytes and reads back, packed as told.
use mathlib.Core.Path.{◌≡◌, refl, sym, ap, ◌∙◌}
use mathlib.Core.Bool.{Bool, true, false}
use Prim.Native.Nat.{ℕ, ◌+◌, ◌*◌, ◌^◌, ◌≤◌, ◌<◌}
use native.Mathlib.Omega.{arith}
use mathlib.Core.List.{List}
use lib.ListN.{length, get_or, length-append}
use Rattle.memory.specs.Bytes.{Has, Small}
use Rattle.memory.proofs.Overlay.{small-append}
use Rattle.memory.proofs.Places.{has_left, has_right}
use Rattle.integers.specs.Integer.{int_wire}
use Rattle.integers.proofs.Back.{int-back}
use Rattle.integers.proofs.Lengths.{first_byte, int-bytes-small}
use Rattle.huffman.specs.Packing.{pack, packed_size}
use Rattle.huffman.proofs.Packs.{packed_size-most, small-pack}
use Rattle.wire.specs.Text.{read_string, string_bytes}
use Rattle.wire.specs.Name.{Name, FineName, name_of, read_name}
use Rattle.wire.specs.declared.text.StringPlace.{StringPlace}
use Rattle.wire.specs.declared.name.NamePlace.{NamePlace}
use Rattle.wire.specs.declared.name.NamePlace.TheVariants.{Index, Text}
use Rattle.wire.proofs.Strings.{name_index, name-text}
use Rattle.wire.proofs.TextBack.{plain_back, packed-back}
use Rattle.forms.specs.Forms.{string_form, name_form}
use Rattle.forms.specs.Packed.{packed_name, FitName}
use Rattle.std.specs.Prelude.{Ok}

pub string-small : (packed : Bool) (xs : List ℕ) → length xs ≤ 2047 → Small xs → Small (string_form packed xs)
unfolding string_form
string-small true xs h b =
    small-append (int_wire 7 128 (packed_size xs)) (pack xs)
    (int-bytes-small 7 128 (packed_size xs) (omega arith) (omega (arith, packed_size-most xs))) (small-pack xs)
string-small false xs h b = small-append (int_wire 7 0 (length xs)) xs (int-bytes-small 7 0 (length xs) (omega arith) (omega arith)) b

pub name-small : (k top : ℕ) (packed : Bool) (n : Name) → top + 2 ^ k ≤ 256 → FineName n → FitName packed n → Small (name_form k top packed n)
unfolding name_form
name-small k top packed (Name.indexed i) h f b = int-bytes-small k top i h f.1
name-small k top packed (Name.literal xs) h f b =
    small-append (int_wire k top 0) (string_form packed xs) (int-bytes-small k top 0 h (omega arith)) (string-small packed xs (omega (arith, f)) b)

module _ (s : List ℕ) where
  pub string-back : (packed : Bool) (at limit : ℕ) (xs : List ℕ) → length xs ≤ limit → length xs ≤ 2047 → Small xs → Has s at (string_form packed xs)
      → (p : StringPlace) × (read_string s at limit ≡ Ok (p, at + length (string_form packed xs))) × (string_bytes s p ≡ xs) × (p.packed ≡ packed)
  unfolding string_form
  string-back true at limit xs h k b p = let r = packed-back s at limit xs h k b p in (r.0, r.1, r.2, r.4)
  string-back false at limit xs h k b p = let r = plain_back s at limit xs h k p in (r.0, r.1, r.2, r.4)

  pub name_back : (packed : Bool) (k at t : ℕ) (n : Name) → FineName n → FitName packed n → Has s at (name_form k (t * 2 ^ k) packed n)
      → (p : NamePlace) × (read_name k s at ≡ Ok (p, at + length (name_form k (t * 2 ^ k) packed n))) × (name_of s p ≡ n) × (packed_name p ≡ packed)
  unfolding name_form
  name_back packed k at t (Name.indexed i) f b p = (
    Index (record { value = i }),
    name_index k s at _ refl (record { value = i }) _ (int-back s k at t i f.1 p) (λ z. omega (arith, f.0)),
    refl,
    sym b,
  )
  name_back packed k at t (Name.literal xs) f b p =
      let head = int_wire k (t * 2 ^ k) 0 in
      let rest = string_form packed xs in
      let e = int-back s k at t 0 (omega arith) (has_left s at head rest p) in
      let r = string-back packed (at + length head) 255 xs f (omega (arith, f)) b (has_right s at head rest p) in (
        Text r.0,
        name-text k s at _ refl (record { value = 0 }) _ e refl _ refl r.0 _ r.1 ∙ ap (λ (next : ℕ). Ok (Text r.0, next)) (omega (arith, length-append head rest)),
        ap Name.literal r.2,
        r.3,
      )

  pub name-first : (packed : Bool) (k at top : ℕ) (n : Name) → Has s at (name_form k top packed n)
      → (at < length s) × (top ≤ get_or s at 0) × (get_or s at 0 < top + 2 ^ k)
  unfolding name_form
  name-first packed k at top (Name.indexed i) p = first_byte s k at top i p
  name-first packed k at top (Name.literal xs) p = first_byte s k at top 0 (has_left s at (int_wire k top 0) (string_form packed xs) p)
