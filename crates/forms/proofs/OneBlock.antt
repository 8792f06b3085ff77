-- A block has exactly one accepted form, given which of its strings are packed. That its form is accepted: by the round trips of its parts.
use mathlib.Core.Path.{◌≡◌, refl, sym, ap, ap₂, ◌∙◌}
use mathlib.Core.Bool.{Bool}
use Prim.Native.Nat.{ℕ, suc, ◌+◌, ◌-◌, ◌*◌, ◌≤◌, ◌<◌}
use native.Mathlib.Omega.{arith}
use native.Mathlib.Nat.{sub-zero}
use mathlib.Core.List.{List, [], ◌∷◌, ◌++◌, append-nil}
use lib.ListN.{length, get_or, length-append}
use lib.Seq.{append_snoc}
use Rattle.memory.specs.Bytes.{Has, Small}
use Rattle.memory.proofs.Overlay.{small-append}
use Rattle.memory.proofs.Places.{has_left, has_right, has_all, part-all}
use Rattle.integers.proofs.Back.{int-back}
use Rattle.integers.proofs.Lengths.{first_byte, int-bytes-small}
use Rattle.wire.specs.Text.{string_bytes}
use Rattle.wire.specs.Name.{name_of}
use Rattle.blocks.specs.Representation.{Representation, indexed, literal, FineRepresentation}
use Rattle.blocks.specs.Reading.{flag_of, representation_of, read_representation, block, block_limit, block_from, read_block}
use Rattle.blocks.specs.declared.read.RepresentationPlace.{RepresentationPlace}
use Rattle.blocks.specs.declared.read.RepresentationPlace.TheVariants.{Indexed, Literal}
use Rattle.blocks.proofs.Equations.{indexed-found, literal-found, representation-literal, representation-indexed}
use Rattle.blocks.proofs.Bounds.{representation-good}
use Rattle.blocks.proofs.Turns.{block-done, block_more, block-whole}
use Rattle.forms.specs.Forms.{Packed, string_form, name_form, representation_form, block_form}
use Rattle.forms.specs.Packed.{packed_representation, packed_from, packed_block, AcceptedBlock, FitRepresentation, FitBlock}
use Rattle.forms.proofs.Stands.{stands-part}
use Rattle.forms.proofs.BlockStands.{flag-top, packed-end, packed-next, block-stands}
use Rattle.forms.proofs.FormBack.{string-small, string-back, name-small, name_back, name-first}
use Rattle.std.specs.Prelude.{Ok}

representation-small : (q : Packed) (r : Representation) → FineRepresentation r → FitRepresentation q r → Small (representation_form q r)
unfolding representation_form
representation-small q (indexed i) h b = int-bytes-small 7 128 i (omega arith) h.1
representation-small q (literal flag name value) h b =
    small-append (name_form 6 (flag * 64) q.name name) (string_form q.value value)
    (name-small 6 (flag * 64) q.name name (omega (arith, h.0)) h.1 b.0) (string-small q.value value h.2 b.1)

block-small : (qs : List Packed) (rs : List Representation) → FitBlock qs rs → Small (block_form qs rs)
unfolding block_form
block-small [] rs b = λ k. omega arith
block-small (q ∷ qs) [] b = absurd b
block-small (q ∷ qs) (r ∷ rs) b =
    small-append (representation_form q r) (block_form qs rs) (representation-small q r b.0 b.1) (block-small qs rs b.2)

module _ (s : List ℕ) where
  -- where the form of a representation stands, it is read, with these strings packed
  representation-back : (at : ℕ) (q : Packed) (r : Representation) → FineRepresentation r → FitRepresentation q r → Has s at (representation_form q r)
      → (p : RepresentationPlace) × (read_representation s at ≡ Ok (p, at + length (representation_form q r)))
      × (representation_of s p ≡ r) × (packed_representation p ≡ q)
  unfolding representation_form
  representation-back at q (indexed i) h b p =
      let f = first_byte s 7 at 128 i p in (
        Indexed (record { value = i }),
        representation-indexed s at f.0 f.1
            ∙ indexed-found s at _ refl (record { value = i }) _ (int-back s 7 at 1 i h.1 p) (λ z. omega (arith, h.0)),
        refl,
        sym b,
      )
  representation-back at q (literal flag name value) h b p =
      let xs : List ℕ = name_form 6 (flag * 64) q.name name in
      let ys : List ℕ = string_form q.value value in
      let u : Has s at xs = has_left s at xs ys p in
      let f = name-first s q.name 6 at (flag * 64) name u in
      let n = name_back s q.name 6 at flag name h.1 b.0 u in
      let v = string-back s q.value (at + length xs) 2047 value h.2 h.2 b.1 (has_right s at xs ys p) in
      let low : get_or s at 0 < 128 = omega (arith, h.0, f.2) in
      let l : at + length xs + length ys ≡ at + length (xs ++ ys) = omega (arith, length-append xs ys) in
      let g : flag_of (get_or s at 0) ≡ flag = omega (arith, flag-top (get_or s at 0) low, f.1, f.2) in (
        Literal (flag_of (get_or s at 0)) n.0 v.0,
        representation-literal s at f.0 low ∙ rw l at (literal-found s at _ refl n.0 _ n.1 _ refl v.0 _ v.1),
        ap (λ (x : ℕ). literal x (name_of s n.0) (string_bytes s v.0)) g ∙ ap₂ (literal flag) n.2 v.2,
        ap₂ (λ (x y : Bool). record { name = x; value = y }) n.3 v.3,
      )

  from_back : (at : ℕ) (before : List Representation) (qs : List Packed) (rs : List Representation) → FitBlock qs rs
      → Has s at (block_form qs rs) → at + length (block_form qs rs) ≡ length s → (f : ℕ) → length s ≤ at + f
      → (block_from f s at before ≡ block (before ++ rs)) × (packed_from f s at ≡ qs)
  unfolding block_form
  from_back at before [] [] b p e f k =
      (block-done s at before f (omega arith) ∙ ap block (sym (append-nil before)), packed-end s at f (omega arith))
  from_back at before [] (r ∷ rs) b p e f k = absurd b
  from_back at before (q ∷ qs) [] b p e f k = absurd b
  from_back at before (q ∷ qs) (r ∷ rs) b p e f k =
      let w : List ℕ = representation_form q r in
      let ws : List ℕ = block_form qs rs in
      let x = length-append w ws in
      let c = representation-back at q r b.0 b.1 (has_left s at w ws p) in
      let g = representation-good s at c.0 (at + length w) c.1 in
      let i : at < length s = omega (arith, g.past, g.inside) in
      let t = from_back (at + length w) (before ++ (r ∷ [])) qs rs b.2 (has_right s at w ws p) (omega arith) (f - 1) (omega (arith, g.past)) in
      let n : f ≡ suc (f - 1) = omega arith in (
        block_more s at before i _ refl f (omega arith) c.0 _ c.1
            ∙ ap (λ (y : Representation). block_from (f - 1) s (at + length w) (before ++ (y ∷ []))) c.2
            ∙ t.0
            ∙ ap block (append_snoc before r rs),
        ap (λ (m : ℕ). packed_from m s at) n
            ∙ packed-next s at (f - 1) i c.0 (at + length w) c.1
            ∙ ap₂ (λ (y : Packed) (ys : List Packed). y ∷ ys) c.3 t.1,
      )

-- a block that was read can be said with the strings packed that are, and is its form
pub block-fits : (s : List ℕ) → Small s → (rs : List Representation) → read_block s ≡ block rs → FitBlock (packed_block s) rs
unfolding packed_block
block-fits s small rs e = (block-stands s small rs e).0

pub block-form : (s : List ℕ) → Small s → (rs : List Representation) → read_block s ≡ block rs → s ≡ block_form (packed_block s) rs
unfolding packed_block
block-form s small rs e = sym (part-all s) ∙ rw sub-zero at (stands-part (block-stands s small rs e).1)

-- "given what it says and which of its strings are packed, .. a block has exactly one accepted form"
pub one_block : (packed : List Packed) (rs : List Representation) → FitBlock packed rs → length (block_form packed rs) ≤ block_limit
    → AcceptedBlock packed rs (block_form packed rs) × ((s : List ℕ) → AcceptedBlock packed rs s → s ≡ block_form packed rs)
unfolding packed_block
one_block packed rs b h =
    let w : List ℕ = block_form packed rs in
    let t = from_back w 0 [] packed rs b (has_all w) (omega arith) (length w) (omega arith) in (
      record { bytes = block-small packed rs b; reads = block-whole w h ∙ t.0; packs = t.1 },
      λ s a. block-form s a.bytes rs a.reads ∙ ap (λ (qs : List Packed). block_form qs rs) a.packs,
    )

-- so two blocks that are read as the same representations with the same strings packed are the same bytes
pub blocks_alike : (s t : List ℕ) → Small s → Small t → (rs : List Representation) → read_block s ≡ block rs → read_block t ≡ block rs
    → packed_block s ≡ packed_block t → s ≡ t
blocks_alike s t a b rs e d packs = block-form s a rs e ∙ ap (λ (qs : List Packed). block_form qs rs) packs ∙ sym (block-form t b rs d)
