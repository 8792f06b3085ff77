-- Reading gives back what was written: each representation, and a whole block.
-- By `int-back`, `name_back` and `string-back` at the parts, and the turns of `block_from`.
use mathlib.Core.Path.{◌≡◌, refl, sym, ap, ap₂, ◌∙◌}
use Prim.Native.Nat.{ℕ, ◌+◌, ◌-◌, ◌*◌, ◌≤◌, ◌<◌}
use native.Mathlib.Omega.{arith}
use mathlib.Core.List.{List, [], ◌∷◌, ◌++◌, append-nil}
use lib.ListN.{length, get_or, length-append}
use lib.Seq.{append_snoc}
use Rattle.memory.specs.Bytes.{Has}
use Rattle.memory.proofs.Order.{split}
use Rattle.memory.proofs.Places.{has_left, has_right, has_all}
use Rattle.integers.specs.Integer.{int_wire}
use Rattle.integers.proofs.Back.{int-back}
use Rattle.integers.proofs.Lengths.{first_byte}
use Rattle.wire.specs.Text.{string_wire, string_bytes}
use Rattle.wire.specs.Name.{name_of, name_wire}
use Rattle.wire.proofs.TextBack.{string-back, name_back, name-first}
use Rattle.blocks.specs.Representation.{Representation, indexed, literal, FineRepresentation, AllFine, representation_wire, block_wire}
use Rattle.blocks.specs.Reading.{flag_of, representation_of, read_representation, block, block_from, read_block}
use Rattle.blocks.specs.declared.read.RepresentationPlace.{RepresentationPlace}
use Rattle.blocks.specs.declared.read.RepresentationPlace.TheVariants.{Indexed, Literal}
use Rattle.blocks.proofs.Equations.{flag-low, flag-high, indexed-found, literal-found, representation-literal, representation-indexed}
use Rattle.blocks.proofs.Turns.{block-done, block_more, block-whole}
use Rattle.blocks.proofs.Writing.{indexed-wire, literal-wire, literal-length, block-wire-nil, block-wire-cons}
use Rattle.blocks.proofs.Bounds.{representation-good}
use Rattle.std.specs.Prelude.{Ok}

flag-back : (flag b : ℕ) → flag < 2 → flag * 64 ≤ b → b < flag * 64 + 64 → flag_of b ≡ flag
flag-back flag b h k l =
    split b 64
    (λ m. flag-low b m ∙ (let e : 0 ≡ flag = omega arith in e))
    (λ m. flag-high b m ∙ (let e : 1 ≡ flag = omega arith in e))

-- where the bytes of a representation stand, a place with that representation is read
pub representation-back : (s : List ℕ) (at : ℕ) (r : Representation) → FineRepresentation r → Has s at (representation_wire r)
    → (p : RepresentationPlace) × (read_representation s at ≡ Ok (p, at + length (representation_wire r))) × (representation_of s p ≡ r)
representation-back s at (indexed i) h p =
    let q : Has s at (int_wire 7 128 i) = rw (indexed-wire i) at p in
    let f = first_byte s 7 at 128 i q in (
      Indexed (record { value = i }),
      representation-indexed s at f.0 f.1
          ∙ indexed-found s at _ refl (record { value = i }) _ (int-back s 7 at 1 i h.1 q) (λ z. omega (arith, h.0))
          ∙ ap (λ (bytes : List ℕ). Ok (Indexed (record { value = i }), at + length bytes)) (sym (indexed-wire i)),
      refl,
    )
representation-back s at (literal flag name value) h p =
    let front = name_wire 6 (flag * 64) name in
    let q : Has s at (front ++ string_wire value) = rw (literal-wire flag name value) at p in
    let q₁ : Has s at front = has_left s at front (string_wire value) q in
    let q₂ : Has s (at + length front) (string_wire value) = has_right s at front (string_wire value) q in
    let f = name-first s 6 at (flag * 64) name q₁ in
    let n = name_back s 6 at flag name h.1 q₁ in
    let v = string-back s (at + length front) 2047 value h.2 h.2 q₂ in
    let place = Literal (flag_of (get_or s at 0)) n.0 v.0 in (
      place,
      representation-literal s at f.0 (omega (arith, h.0, f.2))
          ∙ literal-found s at _ refl n.0 _ n.1 _ refl v.0 _ v.1
          ∙ ap (λ (next : ℕ). Ok (place, next)) (omega (arith, literal-length flag name value)),
      ap (λ (g : ℕ). literal g (name_of s n.0) (string_bytes s v.0)) (flag-back flag (get_or s at 0) h.0 f.1 f.2)
          ∙ ap₂ (literal flag) n.2 v.2,
    )

module _ (s : List ℕ) where
  from_back : (at : ℕ) (before rs : List Representation) → AllFine rs → Has s at (block_wire rs) → at + length (block_wire rs) ≡ length s
      → (f : ℕ) → length s ≤ at + f → block_from f s at before ≡ block (before ++ rs)
  from_back at before [] h p e f k =
      block-done s at before f (omega (arith, ap length block-wire-nil)) ∙ ap block (sym (append-nil before))
  from_back at before (r ∷ rs) h p e f k =
      let w = representation_wire r in
      let q : Has s at (w ++ block_wire rs) = rw (block-wire-cons r rs) at p in
      let x = length-append w (block_wire rs) in
      let y = ap length (block-wire-cons r rs) in
      let b = representation-back s at r h.0 (has_left s at w (block_wire rs) q) in
      let g = representation-good s at b.0 (at + length w) b.1 in
      let past : at < at + length w = g.past in
      let within : at + length w ≤ length s = g.inside in
      block_more s at before (omega arith) _ refl f (omega arith) b.0 _ b.1
      ∙ ap (λ (t : Representation). block_from (f - 1) s (at + length w) (before ++ (t ∷ []))) b.2
      ∙ from_back (at + length w) (before ++ (r ∷ [])) rs h.1 (has_right s at w (block_wire rs) q) (omega arith) (f - 1) (omega arith)
      ∙ ap block (append_snoc before r rs)

pub block_back : (rs : List Representation) → AllFine rs → length (block_wire rs) ≤ 16384 → read_block (block_wire rs) ≡ block rs
block_back rs h k =
    let s = block_wire rs in
    block-whole s k ∙ from_back s 0 [] rs h (has_all s) (omega arith) (length s) (omega arith)
