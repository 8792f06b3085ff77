-- What the encoder chooses can be said on the wire, and an index that it names is static or one of the table's entries. By the ways of the choice.
use Prim.Native.Nat.{ℕ, ◌≤◌, ◌<◌}
use mathlib.Core.Path.{◌≡◌, refl, sym, ap, subst}
use native.Mathlib.Omega.{arith}
use mathlib.Core.Bool.{true}
use mathlib.Core.Logic.{⊎_elim}
use mathlib.Core.Option.{Option, none, some}
use mathlib.Core.List.Memᴰ
use mathlib.Core.List.{List, [], ◌∷◌, map, Memᴰ}
use lib.Dec.{eqb, lit≤}
use lib.ListN.{length}
use Rattle.memory.proofs.Order.{pick-both}
use Rattle.wire.specs.Name.{Name, FineName, indexed as indexed_name, literal as by_bytes}
use Rattle.static_search.specs.Search.{find_name, find_both}
use Rattle.static_search.proofs.Finding.{name-found, both_found}
use Rattle.fields.specs.Form.{Field, FineField, AllFine as AllFineFields}
use Rattle.blocks.specs.Representation.{Representation, indexed, literal, FineRepresentation, AllFine}
use Rattle.blocks.specs.Meaning.{references, block_references}
use Rattle.model.specs.Table.{look, first}
use Rattle.model.specs.Decoder.{is_some}
use Rattle.model.specs.Encoder.{Sent, sent_index, Encoder, serves, serves_both, dynamic_name, static_name, choose_name, dynamic_field, static_field, choose, FormsEncoder}
use Rattle.model_laws.proofs.Tables.{first-sound}
use Rattle.encoder_fields.specs.Refer.{AllHeld}
use Rattle.std.specs.Prelude.{Some, None}
use Rattle.integers.specs.declared.number.TableIndex.{TableIndex}
use Rattle.std.specs.Prelude as prelude

module _ (E : Encoder) (F : FormsEncoder E) where
  abbrev l : List Sent
  l = E.entries

  -- a static index, or that of an entry
  record Known (i : ℕ) : Type 0 where
    low : 0 < i
    high : i ≤ 189
    held : 62 ≤ i → is_some (look sent_index i l) ≡ true

  static-known : (i : ℕ) → 0 < i → i < 62 → Known i
  static-known i low high = record { low = low; high = omega arith; held = λ h. absurd (omega arith) }

  entry_known : (test : Sent → _) (e : Sent) → first test l ≡ some e → Known e.index
  entry_known test e h =
      let there = (first-sound sent_index test 62 l e F.order h).0 in
      let fine = F.entries e.index e there in
      record { low = omega (arith, fine.low); high = fine.high; held = λ k. ap is_some there }

  -- ---- names

  abbrev NameKnown : Name → Type 0
  NameKnown (indexed_name i) = Known i
  NameKnown (by_bytes name) = length name ≤ 255

  name-known : (name : List ℕ) → length name ≤ 255 → NameKnown (choose_name l name)
  unfolding choose_name static_name dynamic_name
  name-known name short = go (find_name name) refl
    where
      dynamic : (o : Option Sent) → first (serves name) l ≡ o → NameKnown (dynamic_name name o)
      dynamic none h = short
      dynamic (some e) h = entry_known (serves name) e h

      go : (o : prelude.Option TableIndex) → find_name name ≡ o → NameKnown (static_name l name o)
      go (Some j) h = let w = name-found name 61 1 j h in static-known j.value (omega (arith, w.low)) (omega (arith, w.high))
      go None h = dynamic (first (serves name) l) refl

  known-fine-name : (n : Name) → NameKnown n → FineName n
  known-fine-name (indexed_name i) k = (k.low, omega (arith, k.high))
  known-fine-name (by_bytes name) k = k

  pub name-fine : (name : List ℕ) → length name ≤ 255 → FineName (choose_name l name)
  name-fine name short = known-fine-name (choose_name l name) (name-known name short)

  -- ---- representations

  abbrev AllKnown : Representation → Type 0
  AllKnown (indexed i) = Known i
  AllKnown (literal flag name value) = (flag < 2) × NameKnown name × (length value ≤ 2047)

  choose-known : (f : Field) → FineField f → AllKnown (choose l f)
  unfolding choose static_field dynamic_field
  choose-known f fine =
      pick-both AllKnown (eqb f.flag 1) (literal 1 (choose_name l f.name) f.value) (static_field l f (find_both f.name f.value))
      (λ t. as-literal 1 (lit≤ tt))
      (λ t. go (find_both f.name f.value) refl)
    where
      as-literal : (flag : ℕ) → flag < 2 → AllKnown (literal flag (choose_name l f.name) f.value)
      as-literal flag h = (h, name-known f.name fine.name_short, fine.value_short)

      dynamic : (o : Option Sent) → first (serves_both f.name f.value) l ≡ o → AllKnown (dynamic_field l f o)
      dynamic none h = as-literal 0 (lit≤ tt)
      dynamic (some e) h = entry_known (serves_both f.name f.value) e h

      go : (o : prelude.Option TableIndex) → find_both f.name f.value ≡ o → AllKnown (static_field l f o)
      go (Some j) h = let w = both_found f.name f.value 61 1 j h in static-known j.value (omega (arith, w.low)) (omega (arith, w.high))
      go None h = dynamic (first (serves_both f.name f.value) l) refl

  known-fine : (r : Representation) → AllKnown r → FineRepresentation r
  known-fine (indexed i) k = (k.low, omega (arith, k.high))
  known-fine (literal flag name value) k = (k.0, known-fine-name name k.1, k.2)

  known-held : (r : Representation) → AllKnown r → (i : ℕ) → Memᴰ i (references r) → 62 ≤ i → is_some (look sent_index i l) ≡ true
  known-held (indexed j) k i m h = let e = Memᴰ.eq_of_singleton m in subst (λ (n : ℕ). 62 ≤ n → is_some (look sent_index n l) ≡ true) (sym e) k.held h
  known-held (literal flag (indexed_name j) value) k i m h =
      let e = Memᴰ.eq_of_singleton m in subst (λ (n : ℕ). 62 ≤ n → is_some (look sent_index n l) ≡ true) (sym e) k.1.held h
  known-held (literal flag (by_bytes name) value) k i m h = absurd (Memᴰ.not-nil m)

  pub choose-fine : (f : Field) → FineField f → FineRepresentation (choose l f)
  choose-fine f fine = known-fine (choose l f) (choose-known f fine)

  -- ---- whole lists

  pub all-fine : (fs : List Field) → AllFineFields fs → AllFine (map (choose l) fs)
  all-fine [] fine = tt
  all-fine (f ∷ fs) fine = (choose-fine f fine.0, all-fine fs fine.1)

  pub all_held : (fs : List Field) → AllFineFields fs → AllHeld l (map (choose l) fs)
  unfolding block_references
  all_held [] fine i m h = absurd (Memᴰ.not-nil m)
  all_held (f ∷ fs) fine i m h =
      ⊎_elim (λ k. known-held (choose l f) (choose-known f fine.0) i k h) (λ k. all_held fs fine.1 i k h)
      (Memᴰ.append_cases (references (choose l f)) m)
