-- A field takes at most two bytes more in the block than in the list: a string takes at most one more, and an index that our encoder can have at most two in
-- all. By the ways of the choice.
use mathlib.Core.Path.{◌≡◌, refl, ap, subst}
use mathlib.Core.Bool.{Bool}
use Prim.Native.Nat.{ℕ, ◌+◌, ◌*◌, ◌≤◌}
use native.Mathlib.Omega.{arith}
use mathlib.Core.Option.{Option, none, some}
use mathlib.Core.List.{List, [], ◌∷◌}
use lib.ListN.{length}
use lib.Dec.{eqb, ltb}
use borrow.Author.Tests.{le-ltb}
use Rattle.memory.proofs.Order.{split, pick-both, pick-false}
use Rattle.integers.proofs.Lengths.{int-one, int-within}
use Rattle.wire.specs.Text.{string_wire}
use Rattle.wire.specs.Name.{indexed as indexed_name, literal as by_bytes}
use Rattle.wire.proofs.TextWriting.{string-within, index-wire, literal-length-wire}
use Rattle.static_search.specs.Search.{find_name, find_both}
use Rattle.static_search.proofs.Finding.{name-found, both_found}
use Rattle.fields.specs.Form.{Field, FineField, text_form, text_size, field_form}
use Rattle.fields.proofs.Sizes.{text_form-length, field_form-split}
use Rattle.blocks.specs.Representation.{Representation, indexed, literal, representation_wire}
use Rattle.blocks.proofs.Writing.{indexed-wire, literal-length}
use Rattle.model.specs.Table.{first}
use Rattle.model.specs.Encoder.{Sent, sent_index, serves, serves_both, dynamic_name, static_name, choose_name, dynamic_field, static_field, choose}
use Rattle.model.specs.Encoder.{Encoder, FormsEncoder}
use Rattle.model_laws.proofs.Tables.{nope}
use Rattle.state_laws.proofs.Each.{Each, found-each}
use Rattle.std.specs.Prelude.{Some, None}
use Rattle.integers.specs.declared.number.TableIndex.{TableIndex}
use Rattle.std.specs.Prelude as prelude

-- ---- the table

-- every index in it is at most 16,446, which takes three bytes in a prefix of six bits; with a byte more an empty name would take too much
abbrev Low : Sent → Type 0
Low e = e.index ≤ 16446

abbrev pub LowTable : List Sent → Type 0
LowTable = Each Low

-- as in that of a well formed state
pub forms-low : (E : Encoder) → FormsEncoder E → LowTable E.entries
forms-low E F = found-each Low sent_index 62 E.entries F.order (λ i e q. omega (arith, (F.entries i e q).high))

-- and so is one that is found
found-low : (test : Sent → Bool) (l : List Sent) → LowTable l → (e : Sent) → first test l ≡ some e → Low e
unfolding first
found-low test [] low e = λ q. nope (cc)
found-low test (x ∷ l) low e =
    pick-both (λ (o : Option Sent). o ≡ some e → Low e) (test x) (some x) (first test l)
    (λ t q. let same : x ≡ e = cc in subst Low same low.0)
    (λ t q. found-low test l low.1 e q)

-- ---- strings

text-least : (n : ℕ) → 1 + n ≤ text_size n
text-least n = pick-both (λ (k : ℕ). 1 + n ≤ k + n) (ltb n 128) 1 2 (λ t. omega arith) (λ t. omega arith)

text-two : (n : ℕ) → 128 ≤ n → text_size n ≡ 2 + n
text-two n h = ap (λ (k : ℕ). k + n) (pick-false (ltb n 128) 1 2 (le-ltb n 128 h))

-- 127 and from 255 on one byte more, plain or packed
string-more : (xs : List ℕ) → length xs ≤ 2047 → length (string_wire xs) ≤ length (text_form xs) + 1
string-more xs h =
    let t = text_form-length xs (omega arith) in
    split (length xs) 128
    (λ k. omega (arith, t, text-least (length xs), string-within xs 0 (omega arith)))
    (λ k. omega (arith, t, text-two (length xs) k, string-within xs 1 (omega arith)))

-- ---- representations of a field

module _ (f : Field) (fine : FineField f) where
  form-least : 3 ≤ length (field_form f)
  form-least =
      omega (
        arith,
        field_form-split f,
        text_form-length f.name (omega (arith, fine.name_short)),
        text_form-length f.value (omega (arith, fine.value_short)),
        text-least (length f.name),
        text-least (length f.value),
      )

  abbrev Within : Representation → Type 0
  Within r = length (representation_wire r) ≤ length (field_form f) + 2

  indexed-within : (i : ℕ) → i ≤ 16446 → Within (indexed i)
  indexed-within i h = omega (arith, form-least, ap length (indexed-wire i), int-within 7 128 i 1 (omega arith))

  module _ (flag : ℕ) where
    named-within : (i : ℕ) → i ≤ 16446 → Within (literal flag (indexed_name i) f.value)
    named-within i h =
        omega (
          arith,
          field_form-split f,
          literal-length flag (indexed_name i) f.value,
          ap length (index-wire 6 (flag * 64) i),
          int-within 6 (flag * 64) i 1 (omega arith),
          text_form-length f.name (omega (arith, fine.name_short)),
          text-least (length f.name),
          string-more f.value fine.value_short,
        )

    text-within : Within (literal flag (by_bytes f.name) f.value)
    text-within =
        omega (
          arith,
          field_form-split f,
          literal-length flag (by_bytes f.name) f.value,
          literal-length-wire 6 (flag * 64) f.name,
          int-one 6 (flag * 64) 0 (omega arith),
          string-more f.name (omega (arith, fine.name_short)),
          string-more f.value fine.value_short,
        )

  -- ---- the choice

  module _ (l : List Sent) (low : LowTable l) where
    literal-within : (flag : ℕ) → Within (literal flag (choose_name l f.name) f.value)
    unfolding choose_name static_name dynamic_name
    literal-within flag = go (find_name f.name) refl
      where
        dynamic : (o : Option Sent) → first (serves f.name) l ≡ o → Within (literal flag (dynamic_name f.name o) f.value)
        dynamic none q = text-within flag
        dynamic (some e) q = named-within flag e.index (found-low (serves f.name) l low e q)

        go : (o : prelude.Option TableIndex) → find_name f.name ≡ o → Within (literal flag (static_name l f.name o) f.value)
        go (Some j) q = named-within flag j.value (omega (arith, (name-found f.name 61 1 j q).high))
        go None q = dynamic (first (serves f.name) l) refl

    pub choice-within : Within (choose l f)
    unfolding choose static_field dynamic_field
    choice-within =
        pick-both Within (eqb f.flag 1) (literal 1 (choose_name l f.name) f.value) (static_field l f (find_both f.name f.value))
        (λ t. literal-within 1)
        (λ t. go (find_both f.name f.value) refl)
      where
        dynamic : (o : Option Sent) → first (serves_both f.name f.value) l ≡ o → Within (dynamic_field l f o)
        dynamic none q = literal-within 0
        dynamic (some e) q = indexed-within e.index (found-low (serves_both f.name f.value) l low e q)

        go : (o : prelude.Option TableIndex) → find_both f.name f.value ≡ o → Within (static_field l f o)
        go (Some j) q = indexed-within j.value (omega (arith, (both_found f.name f.value 61 1 j q).high))
        go None q = dynamic (first (serves_both f.name f.value) l) refl
