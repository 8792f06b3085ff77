-- A block that the encoder writes, with the entries that it means: read back it gives the fields put in, and each entry that it names is held
-- and not under deletion. By the cases of the choice of representation.
use mathlib.Core.Path.{◌≡◌, refl, sym, ap, ◌∙◌, subst}
use Prim.Native.Nat.{ℕ, ◌<◌}
use native.Mathlib.Omega.{arith}
use mathlib.Core.Bool.{Bool, true, false, not}
use mathlib.Core.Option.{Option, none, some}
use mathlib.Core.List.{List, [], ◌∷◌, map}
use lib.Dec.{eqb}
use borrow.Author.Tests.{not-true, eqb-true, eqb-false}
use Rattle.memory.specs.Choice.{pick}
use Rattle.memory.specs.Compare.{same}
use Rattle.memory.proofs.Order.{split, pick-both, pick_true, pick-false}
use Rattle.memory.proofs.Sameness.{same-eq}
use Rattle.wire.specs.Name.{Name, indexed as indexed_name, literal as by_bytes}
use Rattle.statics.specs.Table.{Entry, entry_at}
use Rattle.static_search.specs.Search.{find_name, find_both}
use Rattle.static_search.proofs.Finding.{name-found, both_found}
use Rattle.fields.specs.Form.{Field, AllFine}
use Rattle.blocks.specs.Representation.{Representation, indexed, literal}
use Rattle.blocks.specs.Meaning.{is_static}
use Rattle.blocks.proofs.MeaningHeld.{static-within, static-above}
use Rattle.model.specs.Table.{Ascending, look, first}
use Rattle.model.specs.Encoder.{Sent, sent_index, serves, serves_both, dynamic_name, static_name, choose_name, dynamic_field, static_field, choose}
use Rattle.model_laws.proofs.Tables.{nope, look-below, first-sound}
use Rattle.model_laws.proofs.Slots.Machine.{Item, given, by_index, by_name, entry_field, field_named}
use Rattle.model_laws.proofs.Slots.Invariant.{MeantItem, meant_given, meant_index, meant_name, as_items, fields_of, EachReference}
use Rattle.model_laws.proofs.View.{slot_item, slot_items}
use Rattle.model_laws.proofs.Marks.{and_both}
use Rattle.std.specs.Prelude.{Some, None}
use Rattle.integers.specs.declared.number.TableIndex.{TableIndex}
use Rattle.std.specs.Prelude as prelude

-- ---- a block with the entries that its indexes mean

unfoldable pub entry_of : Option Sent → Entry
entry_of none = record { name = []; value = [] }
entry_of (some e) = e.entry

unfoldable pub meant : List Sent → Representation → MeantItem
unfolding entry_of
meant l (indexed i) = pick (is_static i) (meant_given (entry_field (entry_at i))) (meant_index i (entry_of (look sent_index i l)))
meant l (literal flag (indexed_name i) value) =
    pick (is_static i) (meant_given (field_named flag value (entry_at i))) (meant_name i (entry_of (look sent_index i l)) flag value)
meant l (literal flag (by_bytes name) value) = meant_given (record { flag = flag; name = name; value = value })

unfoldable pub meant_by : List Sent → List Representation → List MeantItem
unfolding meant
meant_by l [] = []
meant_by l (r ∷ rs) = meant l r ∷ meant_by l rs

abbrev pub meant_items : List Sent → List Field → List MeantItem
meant_items l fs = meant_by l (map (choose l) fs)

-- without them it is what is written
nontrailer-pick : (b : Bool) (x y : MeantItem) (u v : Item) (m : List MeantItem) → as_items (x ∷ m) ≡ u ∷ as_items m → as_items (y ∷ m) ≡ v ∷ as_items m
    → as_items (pick b x y ∷ m) ≡ pick b u v ∷ as_items m
nontrailer-pick true x y u v m h k = h
nontrailer-pick false x y u v m h k = k

pub meant-nontrailer : (l : List Sent) (rs : List Representation) → as_items (meant_by l rs) ≡ slot_items rs
unfolding meant_by meant as_items slot_items slot_item
meant-nontrailer l [] = refl
meant-nontrailer l (indexed i ∷ rs) =
    nontrailer-pick (is_static i) (meant_given (entry_field (entry_at i))) (meant_index i (entry_of (look sent_index i l))) (given (entry_field (entry_at i))) (by_index i)
    (meant_by l rs) refl refl
    ∙ ap (λ (t : List Item). slot_item (indexed i) ∷ t) (meant-nontrailer l rs)
meant-nontrailer l (literal flag (indexed_name i) value ∷ rs) =
    nontrailer-pick (is_static i) (meant_given (field_named flag value (entry_at i))) (meant_name i (entry_of (look sent_index i l)) flag value)
    (given (field_named flag value (entry_at i))) (by_name i flag value) (meant_by l rs) refl refl
    ∙ ap (λ (t : List Item). slot_item (literal flag (indexed_name i) value) ∷ t) (meant-nontrailer l rs)
meant-nontrailer l (literal flag (by_bytes name) value ∷ rs) =
    ap (λ (t : List Item). given (record { flag = flag; name = name; value = value }) ∷ t) (meant-nontrailer l rs)

-- ---- which entry serves: not under deletion, with the name, or with name and value

pub serves-is : (name : List ℕ) (e : Sent) → serves name e ≡ true → (e.entry.name ≡ name) × (e.deleted ≡ false)
unfolding serves
serves-is name e h =
    let r = and_both (not e.deleted) (same e.entry.name name) h in (same-eq e.entry.name name r.1, not-true e.deleted r.0)

pub both_is : (name value : List ℕ) (e : Sent) → serves_both name value e ≡ true
    → (e.entry.name ≡ name) × (e.entry.value ≡ value) × (e.deleted ≡ false)
unfolding serves_both
both_is name value e h =
    let r = and_both (serves name e) (same e.entry.value value) h in
    let s = serves-is name e r.0 in
    (s.0, same-eq e.entry.value value r.1, s.1)

-- an entry that serves, at index i with content c
pub record Serving (l : List Sent) (i : ℕ) (c : Entry) : Type 0 where
  pub sent : Sent
  pub found : look sent_index i l ≡ some sent
  pub holds : sent.entry ≡ c
  pub lives : sent.deleted ≡ false

module _ (l : List Sent) (a : Ascending sent_index 62 l) where
  pub found-high : (i : ℕ) (e : Sent) → look sent_index i l ≡ some e → 61 < i
  found-high i e h = split i 62 (λ k. let z = look-below sent_index i 62 l k a in nope (cc)) (λ k. omega arith)

  -- how a name was chosen
  pub data Chosen (name : List ℕ) (n : Name) : Type 0 where
    by-string : n ≡ by_bytes name → Chosen name n
    by-static : (j : ℕ) → is_static j ≡ true → (entry_at j).name ≡ name → n ≡ indexed_name j → Chosen name n
    by-entry : (e : Sent) → look sent_index e.index l ≡ some e → e.entry.name ≡ name → e.deleted ≡ false → n ≡ indexed_name e.index → Chosen name n

  pub name-chosen : (name : List ℕ) → Chosen name (choose_name l name)
  unfolding choose_name static_name dynamic_name
  name-chosen name = go (find_name name) refl
    where
      dynamic : (o : Option Sent) → first (serves name) l ≡ o → Chosen name (dynamic_name name o)
      dynamic none h = by-string refl
      dynamic (some e) h =
          let s = first-sound sent_index (serves name) 62 l e a h in
          let r = serves-is name e s.1 in
          by-entry e s.0 r.0 r.1 refl

      go : (o : prelude.Option TableIndex) → find_name name ≡ o → Chosen name (static_name l name o)
      go (Some j) h = let w = name-found name 61 1 j h in by-static j.value (static-within j.value w.low (omega (arith, w.high))) w.holds refl
      go None h = dynamic (first (serves name) l) refl

  -- what a representation is worth: it means the field, and an entry that it names is held and not under deletion
  abbrev Sound : Field → MeantItem → Type 0
  Sound f x = (f.flag < 2 → fields_of (x ∷ []) ≡ f ∷ []) × EachReference (Serving l) (x ∷ [])

  module _ (e : Sent) (found : look sent_index e.index l ≡ some e) where
    pub index-meant : meant l (indexed e.index) ≡ meant_index e.index e.entry
    unfolding meant entry_of
    index-meant =
        pick-false (is_static e.index) _ _ (static-above e.index (found-high e.index e found))
        ∙ ap (λ (o : Option Sent). meant_index e.index (entry_of o)) found

    pub name-meant : (flag : ℕ) (value : List ℕ) → meant l (literal flag (indexed_name e.index) value) ≡ meant_name e.index e.entry flag value
    unfolding meant entry_of
    name-meant flag value =
        pick-false (is_static e.index) _ _ (static-above e.index (found-high e.index e found))
        ∙ ap (λ (o : Option Sent). meant_name e.index (entry_of o) flag value) found

  module _ (f : Field) where
    name-sound : (flag : ℕ) → (f.flag < 2 → flag ≡ f.flag) → Sound f (meant l (literal flag (choose_name l f.name) f.value))
    unfolding fields_of meant
    name-sound flag n = go (choose_name l f.name) (name-chosen f.name)
      where
        go : (m : Name) → Chosen f.name m → Sound f (meant l (literal flag m f.value))
        go m (by-string q) = rw q ((λ w k. record { flag = n w k; name = f.name; value = f.value } ∷ []), tt)
        go m (by-static j static same q) =
            rw q
            (subst (Sound f) (sym (pick_true (is_static j) _ _ static))
            ((λ t k. record { flag = n t k; name = same k; value = f.value } ∷ []), tt))
        go m (by-entry e found same lives q) =
            rw q
            (subst (Sound f) (sym (name-meant e found flag f.value)) (
              (λ w k. record { flag = n w k; name = same k; value = f.value } ∷ []),
              (record { sent = e; found = found; holds = refl; lives = lives }, tt),
            ))

    both-dynamic : (f.flag < 2 → 0 ≡ f.flag) → (o : Option Sent) → first (serves_both f.name f.value) l ≡ o
        → Sound f (meant l (dynamic_field l f o))
    unfolding dynamic_field fields_of
    both-dynamic n none h = name-sound 0 n
    both-dynamic n (some e) h =
        let s = first-sound sent_index (serves_both f.name f.value) 62 l e a h in
        let r = both_is f.name f.value e s.1 in
        subst (Sound f) (sym (index-meant e s.0))
        ((λ w k. record { flag = n w k; name = r.0 k; value = r.1 k } ∷ []), (record { sent = e; found = s.0; holds = refl; lives = r.2 }, tt))

    both-sound : (f.flag < 2 → 0 ≡ f.flag) → Sound f (meant l (static_field l f (find_both f.name f.value)))
    unfolding static_field fields_of meant
    both-sound n = go (find_both f.name f.value) refl
      where
        go : (o : prelude.Option TableIndex) → find_both f.name f.value ≡ o → Sound f (meant l (static_field l f o))
        go (Some j) h =
            let w = both_found f.name f.value 61 1 j h in
            let static = static-within j.value w.low (omega (arith, w.high)) in
            let same : (entry_at j.value).name ≡ f.name = w.holds.0 in
            let same' : (entry_at j.value).value ≡ f.value = w.holds.1 in
            subst (Sound f) (sym (pick_true (is_static j.value) _ _ static))
            ((λ t k. record { flag = n t k; name = same k; value = same' k } ∷ []), tt)
        go None h = both-dynamic n (first (serves_both f.name f.value) l) refl

    choose-sound : Sound f (meant l (choose l f))
    unfolding choose
    choose-sound =
        pick-both (λ (r : Representation). Sound f (meant l r)) (eqb f.flag 1) _ _
        (λ t. name-sound 1 (λ w. sym (eqb-true f.flag 1 t)))
        (λ t. both-sound (λ w. let z : f.flag ≡ 1 → ⊥ = eqb-false f.flag 1 t in zero_flag f.flag w z))
      where
        zero_flag : (n : ℕ) → n < 2 → (n ≡ 1 → ⊥) → 0 ≡ n
        zero_flag n w z = split 0 n (λ k. absurd (z (omega arith))) (λ k. omega arith)

-- ---- whole blocks

cons-fields : (x : MeantItem) (b : List MeantItem) (f : Field) → fields_of (x ∷ []) ≡ f ∷ [] → fields_of (x ∷ b) ≡ f ∷ fields_of b
unfolding fields_of
cons-fields (meant_given g) b f h = let z : g ≡ f = cc in rw z
cons-fields (meant_index i c) b f h = let z : entry_field c ≡ f = cc in rw z
cons-fields (meant_name i c n v) b f h = let z : field_named n v c ≡ f = cc in rw z

cons-refs : (P : ℕ → Entry → Type 0) (x : MeantItem) (b : List MeantItem) → EachReference P (x ∷ []) → EachReference P b → EachReference P (x ∷ b)
cons-refs P (meant_given g) b h r = r
cons-refs P (meant_index i c) b h r = (h.0, r)
cons-refs P (meant_name i c n v) b h r = (h.0, r)

module _ (l : List Sent) (a : Ascending sent_index 62 l) where
  pub meant-fields : (fs : List Field) → AllFine fs → fields_of (meant_items l fs) ≡ fs
  unfolding meant_by fields_of
  meant-fields [] h = refl
  meant-fields (f ∷ fs) h =
      cons-fields (meant l (choose l f)) (meant_items l fs) f ((choose-sound l a f).0 h.0.flag_bit)
      ∙ ap (λ (t : List Field). f ∷ t) (meant-fields fs h.1)

  pub meant-served : (fs : List Field) → EachReference (Serving l) (meant_items l fs)
  unfolding meant_by
  meant-served [] = tt
  meant-served (f ∷ fs) = cons-refs (Serving l) (meant l (choose l f)) (meant_items l fs) (choose-sound l a f).1 (meant-served fs)
