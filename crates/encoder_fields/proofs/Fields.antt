-- A field list walked again, to measure and to write its block: what is left of the list from a place on, and the bytes of one representation more.
use Prim.Native.Nat.{ℕ, ◌+◌, ◌-◌, ◌≤◌, ◌<◌}
use mathlib.Core.Path.{◌≡◌, refl, sym, ap, ◌∙◌}
use native.Mathlib.Omega.{arith}
use mathlib.Core.List.{List, [], ◌∷◌, map}
use lib.ListN.{length, length-append}
use borrow.Author.Tests.{le-ltb, lt-ltb}
use Rattle.memory.specs.Bytes.{overlay}
use Rattle.memory.proofs.Order.{split}
use Rattle.memory.proofs.Places.{length_part}
use Rattle.fields.specs.Form.{Field, FineField}
use Rattle.fields.specs.Reading.{read_field, field_answer, field_of, fields_from, read_field_list, FieldListRead.list}
use Rattle.fields.specs.declared.read.FieldPlace.{FieldPlace}
use Rattle.encoder_fields.specs.declared.field.ListField.{ListField}
use Rattle.fields.proofs.Bounds.{FieldBounds, field-good}
use Rattle.fields.proofs.Walk.{walk-done, walk_refused, walk_more}
use Rattle.blocks.specs.Representation.{Representation, representation_wire, block_wire, FineRepresentation as Says}
use Rattle.blocks.proofs.Writing.{block-wire-nil, block-wire-cons}
use Rattle.model.specs.Encoder.{Sent, choose}
use Rattle.encoder_fields.specs.Measure.{InField, as_field, capped}
use Rattle.std.specs.Prelude.{Ok, Err}
use Rattle.integers.specs.Answers.{Read}
use Rattle.integers.specs.declared.answer.Refusal.{Refusal}

-- ---- what is left of a list

pub record Left (s : List ℕ) (at : ℕ) (rest : List Field) : Type 0 where
  pub turns : ℕ
  pub enough : length s ≤ at + turns
  pub reads : fields_from turns s at [] ≡ list rest

pub left-all : (s : List ℕ) (fs : List Field) → read_field_list s ≡ list fs → Left s 0 fs
left-all s fs e = record { turns = length s; enough = omega arith; reads = e }

module _ (s : List ℕ) (at : ℕ) (rest : List Field) (L : Left s at rest) where
  pub left-none : length s ≤ at → rest ≡ []
  left-none h = walk-done s L.turns at rest L.reads h

  module _ (h : at < length s) (r : Read FieldPlace) (e : r ≡ read_field s at) where
    pub left-refused : (why : Refusal) → r ≡ Err why → ⊥
    left-refused why d = walk_refused s L.turns at rest L.reads h L.enough r e why d

    -- one field more
    pub left-more : (p : FieldPlace) (next : ℕ) → r ≡ Ok (p, next) → (fs : List Field) × (rest ≡ field_of s p ∷ fs) × Left s next fs
    left-more p next d =
        let w = walk_more s L.turns at rest L.reads h L.enough r e p next d in
        let b = field-good s at r e p next d in
        (w.0, w.1, record { turns = L.turns - 1; enough = omega (arith, L.enough, b.next-after); reads = w.2 })

  -- so one reads well there
  pub left-reads : at < length s → (field_answer (read_field s at)).number ≡ 0
  left-reads h = go (read_field s at) refl where
    go : (r : Read FieldPlace) → r ≡ read_field s at → (field_answer r).number ≡ 0
    go (Ok (p, next)) e = refl
    go (Err why) e = absurd (left-refused h (Err why) e why refl)

-- ---- a field that was read

pub in_field : (s : List ℕ) (at : ℕ) (p : FieldPlace) (next : ℕ) → FieldBounds s at p next → InField s p
in_field s at p next b = record {
  flag = b.flag_bit;
  name = b.name-inside;
  value = b.value-inside;
  name_short = b.name_short;
  value_short = b.value_short;
}

pub field-fine : (s : List ℕ) (p : FieldPlace) → InField s p → FineField (field_of s p)
field-fine s p i = record {
  flag_bit = i.flag;
  name_short = omega (arith, length_part s p.name.start p.name.length i.name, i.name_short);
  value_short = omega (arith, length_part s p.value.start p.value.length i.value, i.value_short);
}

-- one of a list keeps the limits
pub listed-fine : (f : ListField) → FineField (as_field f)
listed-fine f = record { flag_bit = f.bit; name_short = f.name_short; value_short = f.value_short }

-- ---- bytes

pub length_more : (r : Representation) (rs : List Representation) → length (block_wire (r ∷ rs)) ≡ length (representation_wire r) + length (block_wire rs)
length_more r rs = ap length (block-wire-cons r rs) ∙ length-append (representation_wire r) (block_wire rs)

-- what can be written at the place `to` of as much room
abbrev pub Writable : ℕ → ℕ → Representation → Type 0
Writable to room r = Says r × (to + length (representation_wire r) ≤ room)

-- what was written there, and the place after it
abbrev pub Wrote : List ℕ → ℕ → ℕ → List ℕ → Representation → Type 0
Wrote out to end new r = (end ≡ to + length (representation_wire r)) × (new ≡ overlay out to (representation_wire r))

-- ---- the fields that are left, as representations; `all` is how many bytes the whole list takes

module _ (l : List Sent) (all so_far : ℕ) (rest : List Field) (left : all ≡ so_far + length (block_wire (map (choose l) rest))) where
  pub counted-all : rest ≡ [] → so_far ≡ all
  counted-all e =
      let none : length (block_wire (map (choose l) rest)) ≡ 0 = ap (λ (t : List Field). length (block_wire (map (choose l) t))) e ∙ ap length block-wire-nil in
      omega arith

  module _ (f : Field) (fs : List Field) (first : rest ≡ f ∷ fs) (r : Representation) (chose : r ≡ choose l f) where
    wire-first : block_wire (map (choose l) rest) ≡ block_wire (r ∷ map (choose l) fs)
    wire-first =
        ap (λ (t : List Field). block_wire (map (choose l) t)) first ∙ ap (λ (t : Representation). block_wire (t ∷ map (choose l) fs)) (sym chose)

    pub counted-more : (size : ℕ) → size ≡ length (representation_wire r) → all ≡ so_far + size + length (block_wire (map (choose l) fs))
    counted-more size e = omega (arith, ap length wire-first, length_more r (map (choose l) fs))

    -- there is room for the first where there is room for all
    pub room-more : (room : ℕ) → all ≤ room → so_far + length (representation_wire r) ≤ room
    room-more room h = omega (arith, ap length wire-first, length_more r (map (choose l) fs))

-- ---- the count is cut off

pub capped-low : (n : ℕ) → n ≤ 16384 → n ≡ capped n
unfolding capped
capped-low n h = simp (le-ltb 16384 n h)

pub capped-high : (n : ℕ) → 16384 < n → 16385 ≡ capped n
unfolding capped
capped-high n h = simp (lt-ltb 16384 n h)

-- what a count that is not cut off says, and one that is
module _ (n w : ℕ) (e : n ≡ capped w) where
  pub counted_is : n ≤ 16384 → n ≡ w
  counted_is h = split 16384 w (λ k. absurd (omega (arith, capped-high w k))) (λ k. e ∙ sym (capped-low w k))

  pub counted-above : 16384 < n → 16384 < w
  counted-above h = split 16384 w (λ k. k) (λ k. absurd (omega (arith, capped-low w k)))
