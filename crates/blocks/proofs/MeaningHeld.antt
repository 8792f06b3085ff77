-- A block's meaning is a list of fields exactly where every index that it names is held; else it waits for the first that is vacant.
-- By induction over the representations.
use mathlib.Core.Path.{◌≡◌, refl, sym, ap, ap₂, subst, ◌∙◌}
use Prim.Native.Nat.{ℕ, ◌≤◌, ◌<◌}
use native.Mathlib.Omega.{arith}
use mathlib.Core.Logic.{◌⊎◌, inl, inr, ⊎_elim}
use mathlib.Core.Bool.{Bool, true, false}
use mathlib.Core.List.Memᴰ
use mathlib.Core.List.{
  List,
  [],
  ◌∷◌,
  ◌++◌,
  append_assoc,
  Memᴰ,
}
use lib.ListN.{length}
use lib.Dec.{leb}
use borrow.Author.Tests.{le-leb, lt-leb, leb-true}
use Rattle.memory.proofs.Order.{split, either, not-both, pick-both, pick_true, pick-false}
use Rattle.integers.specs.Integer.{largest}
use Rattle.wire.specs.Name.{indexed as indexed_name, literal as by_bytes}
use Rattle.statics.specs.Table.{Entry, entry_at}
use Rattle.fields.specs.Form.{Field, FineField, AllFine as AllFineFields}
use Rattle.blocks.specs.Representation.{Representation, indexed, literal, FineRepresentation, AllFine}
use Rattle.blocks.specs.Meaning.{
  Slot,
  vacant,
  holds,
  is_static,
  with_statics,
  FieldMeaning,
  field,
  on_slot,
  field_meaning,
  BlockMeaning,
  list,
  after_field,
  block_meaning,
  references,
  block_references,
  Refers,
}
use Rattle.blocks.proofs.MeaningLaws.{meaning-nil, meaning-cons}

-- ---- the lookup with the static table

-- 0 is not static, 1 to 61 are, and none above
pub static-zero : is_static 0 ≡ false
unfolding is_static
static-zero = refl

pub static-within : (i : ℕ) → 1 ≤ i → i ≤ 61 → is_static i ≡ true
unfolding is_static
static-within i low high = pick_true (leb 1 i) (leb i 61) false (le-leb 1 i low) ∙ le-leb i 61 high

pub static-above : (i : ℕ) → 61 < i → is_static i ≡ false
unfolding is_static
static-above i high = pick_true (leb 1 i) (leb i 61) false (le-leb 1 i (omega arith)) ∙ lt-leb i 61 high

-- and back
pub within-static : (i : ℕ) → is_static i ≡ true → (1 ≤ i) × (i ≤ 61)
unfolding is_static
within-static i =
    pick-both (λ (b : Bool). b ≡ true → (1 ≤ i) × (i ≤ 61)) (leb 1 i) (leb i 61) false
    (λ low high. (leb-true 1 i low, leb-true i 61 high))
    (λ low e. not-both false e refl)

pub above-static : (i : ℕ) → 1 ≤ i → is_static i ≡ false → 61 < i
above-static i low e = split 61 i (λ h. h) (λ h. not-both (is_static i) (static-within i low h) e)

pub static-slot : (dynamic : ℕ → Slot) (i : ℕ) → is_static i ≡ true → with_statics dynamic i ≡ holds (entry_at i)
unfolding with_statics
static-slot dynamic i h = pick_true (is_static i) (holds (entry_at i)) (dynamic i) h

pub dynamic-slot : (dynamic : ℕ → Slot) (i : ℕ) → is_static i ≡ false → with_statics dynamic i ≡ dynamic i
unfolding with_statics
dynamic-slot dynamic i h = pick-false (is_static i) (holds (entry_at i)) (dynamic i) h

-- only an index that is not static is vacant
pub vacant-dynamic : (dynamic : ℕ → Slot) (i : ℕ) → with_statics dynamic i ≡ vacant → (is_static i ≡ false) × (dynamic i ≡ vacant)
vacant-dynamic dynamic i e =
    either (is_static i)
    (λ h. let d = static-slot dynamic i h in let z : ◌≡◌ {A = ℕ} 0 1 = cc in absurd (omega arith))
    (λ h. (h, sym (dynamic-slot dynamic i h) ∙ e))

-- ---- a slot, a field, a block

abbrev pub Held : Slot → Type 0
Held vacant = ⊥
Held (holds e) = Unit {0}

slot_held : (i : ℕ) (s : Slot) (g : Entry → Field) (f : Field) → on_slot i s g ≡ field f → Held s
slot_held i vacant g f e = let z : ◌≡◌ {A = ℕ} 0 1 = cc in absurd (omega arith)
slot_held i (holds x) g f e = tt

slot-field : (i : ℕ) (s : Slot) (g : Entry → Field) → Held s → (f : Field) × (on_slot i s g ≡ field f)
slot-field i vacant g h = absurd h
slot-field i (holds x) g h = (g x, refl)

slot-waits : (j : ℕ) (s : Slot) (g : Entry → Field) (i : ℕ) → on_slot j s g ≡ FieldMeaning.waits i → (j ≡ i) × (s ≡ vacant)
slot-waits j vacant g i e = ((cc), refl)
slot-waits j (holds x) g i e = let z : ◌≡◌ {A = ℕ} 0 1 = cc in absurd (omega arith)

after_list : (m : FieldMeaning) (n : BlockMeaning) (fs : List Field) → after_field m n ≡ list fs
    → (f : Field) × (gs : List Field) × (m ≡ field f) × (n ≡ list gs) × (fs ≡ f ∷ gs)
after_list (FieldMeaning.waits i) n fs e = let z : ◌≡◌ {A = ℕ} 0 1 = cc in absurd (omega arith)
after_list (field f) (BlockMeaning.waits i) fs e = let z : ◌≡◌ {A = ℕ} 0 1 = cc in absurd (omega arith)
after_list (field f) (list gs) fs e = (f, gs, refl, refl, (cc))

after-waits : (m : FieldMeaning) (n : BlockMeaning) (i : ℕ) → after_field m n ≡ BlockMeaning.waits i
    → (m ≡ FieldMeaning.waits i) ⊎ ((f : Field) × (m ≡ field f) × (n ≡ BlockMeaning.waits i))
after-waits (FieldMeaning.waits j) n i e = inl (cc)
after-waits (field f) (BlockMeaning.waits j) i e = inr (f, refl, e)
after-waits (field f) (list gs) i e = let z : ◌≡◌ {A = ℕ} 0 1 = cc in absurd (omega arith)

module _ (lookup : ℕ → Slot) where
  at_one : (j : ℕ) → Held (lookup j) → (i : ℕ) → Memᴰ i (j ∷ []) → Held (lookup i)
  at_one j h i m = subst (λ (k : ℕ). Held (lookup k)) (sym (Memᴰ.eq_of_singleton m)) h

  field-held : (r : Representation) (f : Field) → field_meaning lookup r ≡ field f → (i : ℕ) → Memᴰ i (references r) → Held (lookup i)
  unfolding field_meaning
  field-held (indexed j) f e = at_one j (slot_held j (lookup j) _ f e)
  field-held (literal flag (indexed_name j) value) f e = at_one j (slot_held j (lookup j) _ f e)
  field-held (literal flag (by_bytes name) value) f e = λ i m. absurd (Memᴰ.not-nil m)

  held-field : (r : Representation) → ((i : ℕ) → Memᴰ i (references r) → Held (lookup i)) → (f : Field) × (field_meaning lookup r ≡ field f)
  unfolding field_meaning
  held-field (indexed j) h = slot-field j (lookup j) _ (h j (Memᴰ.head refl))
  held-field (literal flag (indexed_name j) value) h = slot-field j (lookup j) _ (h j (Memᴰ.head refl))
  held-field (literal flag (by_bytes name) value) h = (record { flag = flag; name = name; value = value }, refl)

  field-waits : (r : Representation) (i : ℕ) → field_meaning lookup r ≡ FieldMeaning.waits i → (references r ≡ i ∷ []) × (lookup i ≡ vacant)
  unfolding field_meaning
  field-waits (indexed j) i e =
      let w = slot-waits j (lookup j) _ i e in (ap (λ (k : ℕ). k ∷ []) w.0, sym (ap lookup w.0) ∙ w.1)
  field-waits (literal flag (indexed_name j) value) i e =
      let w = slot-waits j (lookup j) _ i e in (ap (λ (k : ℕ). k ∷ []) w.0, sym (ap lookup w.0) ∙ w.1)
  field-waits (literal flag (by_bytes name) value) i e = let z : ◌≡◌ {A = ℕ} 0 1 = cc in absurd (omega arith)

  pub list_held : (rs : List Representation) (fs : List Field) → block_meaning lookup rs ≡ list fs → (i : ℕ) → Refers rs i → Held (lookup i)
  unfolding block_references
  list_held [] fs e i m = absurd (Memᴰ.not-nil m)
  list_held (r ∷ rs) fs e i m =
      let a = after_list (field_meaning lookup r) (block_meaning lookup rs) fs (sym (meaning-cons lookup r rs) ∙ e) in
      ⊎_elim (field-held r a.0 a.2 i) (list_held rs a.1 a.3 i) (Memᴰ.append_cases (references r) m)

  pub held-list : (rs : List Representation) → ((i : ℕ) → Refers rs i → Held (lookup i)) → (fs : List Field) × (block_meaning lookup rs ≡ list fs)
  unfolding block_references
  held-list [] h = ([], meaning-nil lookup)
  held-list (r ∷ rs) h =
      let a = held-field r (λ i m. h i (Memᴰ.append_left (block_references rs) m)) in
      let b = held-list rs (λ i m. h i (Memᴰ.append_right (references r) m)) in
      (a.0 ∷ b.0, meaning-cons lookup r rs ∙ ap₂ after_field a.1 b.1)

  -- the index that a block waits for is vacant, and those that it names before are held
  pub waits-first : (rs : List Representation) (i : ℕ) → block_meaning lookup rs ≡ BlockMeaning.waits i
      → (xs ys : List ℕ) × (block_references rs ≡ xs ++ (i ∷ ys)) × ((j : ℕ) → Memᴰ j xs → Held (lookup j)) × (lookup i ≡ vacant)
  unfolding block_references
  waits-first [] i e =
      let d : list [] ≡ BlockMeaning.waits i = sym (meaning-nil lookup) ∙ e in let z : ◌≡◌ {A = ℕ} 0 1 = cc in absurd (omega arith)
  waits-first (r ∷ rs) i e =
      ⊎_elim
      (λ w. let v = field-waits r i w in
      ([], block_references rs, ap (λ (l : List ℕ). l ++ block_references rs) v.0, (λ j m. absurd (Memᴰ.not-nil m)), v.1))
      (λ w. let v = waits-first rs i w.2 in (
        references r ++ v.0,
        v.1,
        ap (λ (l : List ℕ). references r ++ l) v.2 ∙ sym (append_assoc (references r) v.0 (i ∷ v.1)),
        (λ j m. ⊎_elim (field-held r w.0 w.1 j) (v.3 j) (Memᴰ.append_cases (references r) m)),
        v.4,
      ))
      (after-waits (field_meaning lookup r) (block_meaning lookup rs) i (sym (meaning-cons lookup r rs) ∙ e))

  -- and it is an index of the wire
  field-low : (r : Representation) → FineRepresentation r → (i : ℕ) → field_meaning lookup r ≡ FieldMeaning.waits i → i ≤ largest
  unfolding field_meaning
  field-low (indexed j) h i e = omega (arith, (slot-waits j (lookup j) _ i e).0, h.1)
  field-low (literal flag (indexed_name j) value) h i e = omega (arith, (slot-waits j (lookup j) _ i e).0, h.1.1)
  field-low (literal flag (by_bytes name) value) h i e = let z : ◌≡◌ {A = ℕ} 0 1 = cc in absurd (omega arith)

  pub waits-low : (rs : List Representation) → AllFine rs → (i : ℕ) → block_meaning lookup rs ≡ BlockMeaning.waits i → i ≤ largest
  waits-low [] h i e =
      let d : list [] ≡ BlockMeaning.waits i = sym (meaning-nil lookup) ∙ e in let z : ◌≡◌ {A = ℕ} 0 1 = cc in absurd (omega arith)
  waits-low (r ∷ rs) h i e =
      ⊎_elim (field-low r h.0 i) (λ w. waits-low rs h.1 i w.2)
      (after-waits (field_meaning lookup r) (block_meaning lookup rs) i (sym (meaning-cons lookup r rs) ∙ e))

  -- one field for each representation
  pub list_length : (rs : List Representation) (fs : List Field) → block_meaning lookup rs ≡ list fs → length fs ≡ length rs
  list_length [] fs e = let d : list [] ≡ list fs = sym (meaning-nil lookup) ∙ e in let z : fs ≡ [] = cc in ap length z
  list_length (r ∷ rs) fs e =
      let a = after_list (field_meaning lookup r) (block_meaning lookup rs) fs (sym (meaning-cons lookup r rs) ∙ e) in
      omega (arith, ap length a.4, list_length rs a.1 a.3)

  -- the fields can be given in the host's form, if the entries are as short as fields are
  module _ (short : (i : ℕ) (e : Entry) → lookup i ≡ holds e → (length e.name ≤ 255) × (length e.value ≤ 2047)) where
    slot-fine : (i : ℕ) (s : Slot) → lookup i ≡ s → (g : Entry → Field)
        → ((e : Entry) → length e.name ≤ 255 → length e.value ≤ 2047 → FineField (g e))
        → (f : Field) → on_slot i s g ≡ field f → FineField f
    slot-fine i vacant d g k f e = let z : ◌≡◌ {A = ℕ} 0 1 = cc in absurd (omega arith)
    slot-fine i (holds x) d g k f e =
        let z : g x ≡ f = cc in
        let h = short i x d in
        subst FineField z (k x h.0 h.1)

    field-fine : (r : Representation) → FineRepresentation r → (f : Field) → field_meaning lookup r ≡ field f → FineField f
    unfolding field_meaning
    field-fine (indexed i) h f e =
        slot-fine i (lookup i) refl _ (λ x a b. record { flag_bit = omega arith; name_short = a; value_short = b }) f e
    field-fine (literal flag (indexed_name i) value) h f e =
        slot-fine i (lookup i) refl _ (λ x a b. record { flag_bit = h.0; name_short = a; value_short = h.2 }) f e
    field-fine (literal flag (by_bytes name) value) h f e =
        let d : record { flag = flag; name = name; value = value } ≡ f = cc in
        subst FineField d (record { flag_bit = h.0; name_short = h.1; value_short = h.2 })

    pub list-fine : (rs : List Representation) → AllFine rs → (fs : List Field) → block_meaning lookup rs ≡ list fs → AllFineFields fs
    list-fine [] h fs e = let d : list [] ≡ list fs = sym (meaning-nil lookup) ∙ e in let z : [] ≡ fs = cc in subst AllFineFields z tt
    list-fine (r ∷ rs) h fs e =
        let a = after_list (field_meaning lookup r) (block_meaning lookup rs) fs (sym (meaning-cons lookup r rs) ∙ e) in
        subst AllFineFields (sym a.4) (field-fine r h.0 a.0 a.2, list-fine rs h.1 a.1 a.3)
