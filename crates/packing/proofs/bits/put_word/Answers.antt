use mathlib.Core.Path.{◌≡◌, sym, ap, ◌∙◌}
use mathlib.Core.List.{[], ◌∷◌}
use Prim.Native.Nat.{ℕ, ◌+◌, ◌-◌, ◌/◌, ◌%◌}
use lib.ListN.{length}
use borrow.Rule.Slice.PartMut.{put_mid}
use Rattle.memory.proofs.Overlay.{mid-overlay}
use native.Mathlib.Omega.{arith}
use Rattle.std.specs.Int.{to_be_bytes, w32}
use Rattle.memory.specs.Bytes.{overlay}
use Rattle.huffman.specs.Bits.{bits_of, bytes_of}
use Rattle.huffman.proofs.Pushing.{word_bytes}
use Rattle.packing.proofs.bits.put_word.Goals as goal

word : (v : ℕ) → to_be_bytes w32 (v % 4294967296) ≡ bytes_of 4 (bits_of 32 v)
word v =
    let a : v % 4294967296 / 16777216 % 256 ≡ v / 16777216 % 256 = omega arith in
    let b : v % 4294967296 / 65536 % 256 ≡ v / 65536 % 256 = omega arith in
    let c : v % 4294967296 / 256 % 256 ≡ v / 256 % 256 = omega arith in
    let d : v % 4294967296 % 256 ≡ v % 256 = omega arith in
    let e : v % 4294967296 / 16777216 % 256 ∷ v % 4294967296 / 65536 % 256 ∷ v % 4294967296 / 256 % 256 ∷ v % 4294967296 % 256 ∷ [] ≡ v / 16777216 % 256 ∷ v / 65536 % 256 ∷ v / 256 % 256 ∷ v % 256 ∷ [] = cc in
    e ∙ sym (word_bytes v)

pub returns : goal.returns
returns c =
    let a = c.args in
    let e : c.to_be_bytes-bytes.result ≡ bytes_of 4 (bits_of 32 a.v) = c.to_be_bytes-bytes.ensures ∙ word a.v in
    ap (put_mid a.at (a.at + 4 - a.at) a.m.now) c.copy_from_slice.ensures.after
    ∙ mid-overlay a.m.now c.to_be_bytes-bytes.result a.at 4 c.requires (ap length c.to_be_bytes-bytes.ensures)
    ∙ ap (overlay a.m.now a.at) e
