-- What a block means: over blocks put together, and over two lookups that agree where the block looks.
-- By induction over the representations.
use mathlib.Core.Path.{◌≡◌, refl, ap, ap₂, ◌∙◌}
use Prim.Native.Nat.{ℕ}
use mathlib.Core.List.Memᴰ
use mathlib.Core.List.{List, [], ◌∷◌, ◌++◌, Memᴰ}
use Rattle.wire.specs.Name.{indexed as indexed_name, literal as by_bytes}
use Rattle.fields.specs.Form.{Field}
use Rattle.blocks.specs.Representation.{Representation, indexed, literal}
use Rattle.blocks.specs.Meaning.{
  Slot,
  FieldMeaning,
  field,
  on_slot,
  field_meaning,
  BlockMeaning,
  list,
  after_field,
  block_meaning,
  references,
  block_references,
  Refers,
}

-- ---- blocks put together

-- the first that waits decides; else the fields of both
abbrev pub joined : BlockMeaning → BlockMeaning → BlockMeaning
joined (BlockMeaning.waits i) rest = BlockMeaning.waits i
joined (list fs) (BlockMeaning.waits i) = BlockMeaning.waits i
joined (list fs) (list gs) = list (fs ++ gs)

joined-none : (m : BlockMeaning) → m ≡ joined (list []) m
joined-none (BlockMeaning.waits i) = refl
joined-none (list fs) = refl

after-joined : (f : FieldMeaning) (m n : BlockMeaning) → after_field f (joined m n) ≡ joined (after_field f m) n
after-joined (FieldMeaning.waits i) m n = refl
after-joined (field f) (BlockMeaning.waits i) n = refl
after-joined (field f) (list fs) (BlockMeaning.waits i) = refl
after-joined (field f) (list fs) (list gs) = refl

module _ (lookup : ℕ → Slot) where
  pub meaning-nil : block_meaning lookup [] ≡ list []
  unfolding block_meaning
  meaning-nil = refl

  pub meaning-cons : (r : Representation) (rs : List Representation)
      → block_meaning lookup (r ∷ rs) ≡ after_field (field_meaning lookup r) (block_meaning lookup rs)
  unfolding block_meaning
  meaning-cons r rs = refl

  pub meaning-append : (rs qs : List Representation) → block_meaning lookup (rs ++ qs) ≡ joined (block_meaning lookup rs) (block_meaning lookup qs)
  meaning-append [] qs = rw meaning-nil (joined-none (block_meaning lookup qs))
  meaning-append (r ∷ rs) qs =
      rw (meaning-cons r (rs ++ qs), meaning-cons r rs)
      (ap (after_field (field_meaning lookup r)) (meaning-append rs qs)
      ∙ after-joined (field_meaning lookup r) (block_meaning lookup rs) (block_meaning lookup qs))

  module _ (rs qs : List Representation) where
    pub waits-append : (i : ℕ) → block_meaning lookup rs ≡ BlockMeaning.waits i → block_meaning lookup (rs ++ qs) ≡ BlockMeaning.waits i
    waits-append i e = meaning-append rs qs ∙ ap (λ (m : BlockMeaning). joined m (block_meaning lookup qs)) e

    pub list-waits : (fs : List Field) (i : ℕ) → block_meaning lookup rs ≡ list fs → block_meaning lookup qs ≡ BlockMeaning.waits i
        → block_meaning lookup (rs ++ qs) ≡ BlockMeaning.waits i
    list-waits fs i e d = meaning-append rs qs ∙ ap₂ joined e d

    pub list-append : (fs gs : List Field) → block_meaning lookup rs ≡ list fs → block_meaning lookup qs ≡ list gs
        → block_meaning lookup (rs ++ qs) ≡ list (fs ++ gs)
    list-append fs gs e d = meaning-append rs qs ∙ ap₂ joined e d

-- ---- two lookups that agree where the block looks

field-agrees : (lookup lookup' : ℕ → Slot) (r : Representation) → ((i : ℕ) → Memᴰ i (references r) → lookup i ≡ lookup' i)
    → field_meaning lookup r ≡ field_meaning lookup' r
unfolding field_meaning
field-agrees lookup lookup' (indexed i) h =
    ap (λ (s : Slot). on_slot i s (λ e. record { flag = 0; name = e.name; value = e.value })) (h i (Memᴰ.head refl))
field-agrees lookup lookup' (literal flag (indexed_name i) value) h =
    ap (λ (s : Slot). on_slot i s (λ e. record { flag = flag; name = e.name; value = value })) (h i (Memᴰ.head refl))
field-agrees lookup lookup' (literal flag (by_bytes name) value) h = refl

pub meaning-agrees : (lookup lookup' : ℕ → Slot) (rs : List Representation) → ((i : ℕ) → Refers rs i → lookup i ≡ lookup' i)
    → block_meaning lookup rs ≡ block_meaning lookup' rs
unfolding block_meaning block_references
meaning-agrees lookup lookup' [] h = refl
meaning-agrees lookup lookup' (r ∷ rs) h =
    ap₂ after_field
    (field-agrees lookup lookup' r (λ i m. h i (Memᴰ.append_left (block_references rs) m)))
    (meaning-agrees lookup lookup' rs (λ i m. h i (Memᴰ.append_right (references r) m)))
