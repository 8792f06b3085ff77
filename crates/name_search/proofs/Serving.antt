-- Does a row serve? The tests that the code makes are those of the definitions: the lengths, the end of the text, the status, then the bytes.
use mathlib.Core.Path.{◌≡◌, sym, ap, ap₂, ◌∙◌}
use Prim.Native.Nat.{ℕ, ◌+◌, ◌-◌, ◌≤◌, ◌<◌}
use native.Mathlib.Omega.{arith}
use mathlib.Core.Bool.{Bool, true, false, ◌&&◌, and-false}
use mathlib.Core.List.{List}
use lib.ListN.{length}
use lib.Dec.{eqb, leb}
use borrow.Author.Tests.{eq-eqb, ne_eqb, eqb-false, le-leb, lt-leb}
use Rattle.memory.specs.Bytes.{part}
use Rattle.memory.specs.Numbers.{number}
use Rattle.memory.specs.Compare.{same, same_at}
use Rattle.memory.proofs.Ends.{ends_last}
use Rattle.memory.proofs.Order.{not-both}
use Rattle.memory.proofs.Places.{part-all}
use Rattle.memory.proofs.Sameness.{eq-same, differ_same, same_at-same, length-same}
use Rattle.state.specs.Layout.{text_place, count_of, offset_at, name_length_at, value_length_at, status_at}
use Rattle.state.specs.Rows.{name_at, value_at}
use Rattle.table_search.specs.Search.{Ordered}
use Rattle.name_search.specs.Names.{ends_with, serves_at, has_value_at, serves_both_at}
use Rattle.table_search.proofs.Fields.{name-end, value-stop, value-end, length-name, length-value}

-- ---- two tests, the first settled

and_left : (a b : Bool) → a ≡ true → (a && b) ≡ b
and_left a b e = ap (λ (t : Bool). t && b) e

and-fails : (a b : Bool) → a ≡ false → (a && b) ≡ false
and-fails a b e = ap (λ (t : Bool). t && b) e

and-fails-right : (a b : Bool) → b ≡ false → (a && b) ≡ false
and-fails-right a b e = ap (λ (t : Bool). a && t) e ∙ and-false a

-- a part compared with the whole of another list
same-all : (m : List ℕ) (at : ℕ) (b : List ℕ) → at + length b ≤ length m → same_at (length b) m at b 0 ≡ same (part m at (length b)) b
same-all m at b h = same_at-same (length b) m at b 0 h (omega arith) ∙ ap (same (part m at (length b))) (part-all b)

-- ---- by name

module _ (m : List ℕ) (o : Ordered m) (i : ℕ) (h : i < count_of m) (name : List ℕ) where
  pub under_deletion : (status_at m i ≡ 0 → ⊥) → serves_at m name i ≡ false
  unfolding serves_at
  under_deletion f = and-fails (eqb (status_at m i) 0) (same (name_at m i) name) (ne_eqb (status_at m i) 0 f)

  pub other_length : (name_length_at m i ≡ length name → ⊥) → serves_at m name i ≡ false
  unfolding serves_at
  other_length f =
      and-fails-right (eqb (status_at m i) 0) (same (name_at m i) name) (length-same (name_at m i) name (λ e. f (sym (length-name m o i h) ∙ e)))

  -- t and r: where the text stands, as it was read, and what the comparison answered
  pub name_compared : {t : ℕ} {r : Bool} → t ≡ text_place + offset_at m i → name_length_at m i ≡ length name → status_at m i ≡ 0
      → r ≡ same_at (length name) m t name 0 → r ≡ serves_at m name i
  unfolding serves_at
  name_compared {t} d e z a =
      a
      ∙ same-all m t name (omega (arith, name-end m o i h))
      ∙ ap₂ (λ (j u : ℕ). same (part m u j) name) (sym e) d
      ∙ sym (and_left (eqb (status_at m i) 0) (same (name_at m i) name) (eq-eqb (status_at m i) 0 z))

-- ---- by name and value

module _ (m name value : List ℕ) (i : ℕ) where
  pub not_named : serves_at m name i ≡ false → serves_both_at m name value i ≡ false
  unfolding serves_both_at
  not_named e = and-fails (serves_at m name i) (same (value_at m i) value) e

  -- a row that serves for the name serves for both where it has the value
  pub both-by-value : {r : Bool} → serves_at m name i ≡ true → r ≡ has_value_at m value i → r ≡ serves_both_at m name value i
  unfolding serves_both_at has_value_at
  both-by-value s e = e ∙ sym (and_left (serves_at m name i) (same (value_at m i) value) s)

module _ (m : List ℕ) (o : Ordered m) (i : ℕ) (h : i < count_of m) (value : List ℕ) where
  abbrev value_place : ℕ
  value_place = text_place + offset_at m i + name_length_at m i

  pub other-value : (value_length_at m i ≡ length value → ⊥) → has_value_at m value i ≡ false
  unfolding has_value_at
  other-value f = length-same (value_at m i) value (λ e. f (sym (length-value m o i h) ∙ e))

  -- t and r: where the value stands, as it was read, and what the comparison answered
  pub value-compared : {t : ℕ} {r : Bool} → t ≡ value_place → value_length_at m i ≡ length value
      → r ≡ same_at (length value) m t value 0 → r ≡ has_value_at m value i
  unfolding has_value_at
  value-compared {t} d e a =
      a
      ∙ same-all m t value (omega (arith, value-end m o i h))
      ∙ ap₂ (λ (j u : ℕ). same (part m u j) value) (sym e) d

  -- the four bytes in front of the text's end are the value's last, where the row has the value
  pub other-end : (name : List ℕ) → 4 ≤ length value → ends_with m i (number 4 value (length value - 4)) ≡ false → serves_both_at m name value i ≡ false
  unfolding serves_both_at ends_with
  other-end name l f = and-fails-right (serves_at m name i) (same (value_at m i) value) (differ_same (value_at m i) value wrong)
    where
      wrong : value_at m i ≡ value → ⊥
      wrong e =
          let v : value_length_at m i ≡ length value = sym (length-value m o i h) ∙ ap length e in
          let at : ℕ = text_place + offset_at m (i + 1) - 4 in
          let long : leb 4 (offset_at m (i + 1)) ≡ true = le-leb 4 (offset_at m (i + 1)) (omega (arith, value-stop m o i h)) in
          let other : number 4 m at ≡ number 4 value (length value - 4) → ⊥ =
          eqb-false (number 4 m at) (number 4 value (length value - 4)) (sym (and_left (leb 4 (offset_at m (i + 1))) _ long) ∙ f) in
          let p : value_place + (length value - 4) ≡ at = omega (arith, value-stop m o i h) in
          let differ : same_at (length value) m value_place value 0 ≡ false =
          ends_last (length value) 4 m value_place value l (λ q. other (ap (number 4 m) (sym p) ∙ q)) in
          let stands : same_at (length value) m value_place value 0 ≡ true =
          same-all m value_place value (omega (arith, value-end m o i h))
          ∙ ap (λ (j : ℕ). same (part m value_place j) value) (sym v)
          ∙ eq-same (value_at m i) value e in
          not-both (same_at (length value) m value_place value 0) stands differ

-- ---- the end of a row's text

module _ (m : List ℕ) (i key : ℕ) where
  pub ends-short : offset_at m (i + 1) < 4 → ends_with m i key ≡ false
  unfolding ends_with
  ends-short h = and-fails (leb 4 (offset_at m (i + 1))) _ (lt-leb 4 (offset_at m (i + 1)) h)

  -- e and w: where the text ends and the four bytes there, as they were read
  pub ends-compared : {e w : ℕ} → 4 ≤ offset_at m (i + 1) → e ≡ text_place + offset_at m (i + 1) → w ≡ number 4 m (e - 4) → eqb w key ≡ ends_with m i key
  unfolding ends_with
  ends-compared h d a =
      ap (λ (x : ℕ). eqb x key) (a ∙ ap (λ (x : ℕ). number 4 m (x - 4)) d)
      ∙ sym (and_left (leb 4 (offset_at m (i + 1))) _ (le-leb 4 (offset_at m (i + 1)) h))
