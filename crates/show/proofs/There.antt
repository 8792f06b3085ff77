-- A string is there where its bytes lie in the input, are whole, and are as many as its place tells: a plain one, and a packed one that was measured.
use mathlib.Core.Path.{◌≡◌, refl, sym, ap, ◌∙◌}
use mathlib.Core.Bool.{true, false}
use Prim.Native.Nat.{ℕ, ◌+◌, ◌-◌, ◌≤◌}
use native.Mathlib.Omega.{arith}
use mathlib.Core.List.{List}
use lib.ListN.{length, take, drop}
use Rattle.huffman.specs.Packing.{Unpacked, unpack}
use Rattle.unpacking.specs.Waiting.{size_of}
use Rattle.unpacking.specs.declared.unpack.UnpackedSize.{UnpackedSize}
use Rattle.wire.specs.Text.{InString, text_at}
use Rattle.wire.specs.declared.text.StringPlace.{StringPlace}
use Rattle.wire.proofs.Strings.{plain-length, slice-unpacked}

plain-whole : (s : List ℕ) (start size : ℕ) → (text_at false s start size).whole ≡ true
unfolding text_at
plain-whole s start size = refl

module _ (s : List ℕ) (p : StringPlace) (h : p.start ≤ length s) (k : p.size ≤ length s - p.start) where
  pub plain-there : p.packed ≡ false → p.size ≡ p.length → InString s p
  plain-there e n =
      record {
        inside = omega arith;
        whole = rw e (plain-whole s p.start p.size);
        told = rw e (plain-length s p.start p.size k ∙ n);
      }

  pub packed-there : p.packed ≡ true → (u : UnpackedSize) → u ≡ size_of (unpack (take (p.start + p.size - p.start) (drop p.start s)))
      → u.whole ≡ true → u.count ≡ p.length → InString s p
  packed-there e u d w n =
      let t = slice-unpacked s p.start p.size in
      record {
        inside = omega arith;
        whole = rw e (sym (ap (λ (v : UnpackedSize). v.whole) d ∙ ap (λ (v : Unpacked). v.whole) t) ∙ w);
        told = rw e (sym (ap (λ (v : UnpackedSize). v.count) d ∙ ap (λ (v : Unpacked). length v.bytes) t) ∙ n);
      }
