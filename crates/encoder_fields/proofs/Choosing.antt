-- The choice of a representation, one equation for each way that the searches of both tables can go. By the definition of the choice; what a search of memory
-- finds is what the model finds.
use Prim.Native.Nat.{ℕ, zero, suc, ◌+◌, ◌≤◌, ◌<◌}
use mathlib.Core.Path.{◌≡◌, refl, sym, ap, subst, ◌∙◌}
use native.Mathlib.Omega.{arith}
use mathlib.Core.Bool.{true}
use mathlib.Core.Option.{Option, none}
use mathlib.Core.List.{List}
use lib.Dec.{eqb}
use Rattle.memory.specs.Bytes.{Small}
use Rattle.memory.proofs.Order.{split}
use Rattle.wire.specs.Name.{indexed as indexed_name, literal as by_bytes}
use Rattle.static_search.specs.Search.{find_name, find_both}
use Rattle.integers.specs.declared.number.TableIndex.{TableIndex}
use Rattle.fields.specs.Form.{Field}
use Rattle.blocks.specs.Representation.{indexed, literal}
use Rattle.model.specs.Table.{first}
use Rattle.model.specs.Encoder.{Sent, serves, serves_both, dynamic_name, static_name, choose_name, dynamic_field, static_field, choose}
use Rattle.model_laws.proofs.Marks.{and_both}
use Rattle.model_laws.proofs.Tables.{pick_yes, pick_no}
use Rattle.state.specs.Layout.{encoder_length, encoder_role, count_of, delete_count, index_at}
use Rattle.state.specs.Rows.{rows_of}
use Rattle.state.specs.EncoderState.{sent_at, encoder_of}
use Rattle.state.specs.Forms.{head_ok, rows_ok, forms_encoder}
use Rattle.state_laws.proofs.RowsTest.{GoodRows, rows-each}
use Rattle.table_search.specs.Search.{Ordered}
use Rattle.name_search.specs.Names.{serves_at, serves_both_at, lowest_row}
use Rattle.table_laws.specs.EncoderChanges.{EncoderChanges}
use Rattle.table_laws.proofs.EncoderClaim.{encoder-claim}
use Rattle.encoder_fields.specs.Naming.{chosen_name, static_first, literal_with}
use Rattle.encoder_fields.specs.Measure.{chosen, field_with, Chooses}
use Rattle.encoder_fields.specs.declared.choice.Choice.{Choice}
use Rattle.std.specs.Prelude.{Some, None}
use Rattle.std.specs.Prelude as prelude

-- ---- a name

module _ (l : List Sent) (name : List ℕ) where
  pub name-static : (j : TableIndex) → find_name name ≡ Some j → indexed_name j.value ≡ choose_name l name
  unfolding choose_name static_name
  name-static j e = sym (ap (static_name l name) e)

  -- the static entry, else what the header table has
  pub name-first : (o : prelude.Option TableIndex) → find_name name ≡ o → (dynamic : prelude.Option TableIndex)
      → chosen_name name dynamic ≡ dynamic_name name (first (serves name) l) → chosen_name name (static_first o dynamic) ≡ choose_name l name
  unfolding choose_name static_name
  name-first (Some j) e dynamic d = name-static j e
  name-first None e dynamic d = d ∙ sym (ap (static_name l name) e)

-- ---- a field's representation

literal-with : (f : Field) (c : prelude.Option TableIndex) → chosen f (literal_with c) ≡ literal f.flag (chosen_name f.name c) f.value
literal-with f (Some i) = refl
literal-with f None = refl

module _ (l : List Sent) (f : Field) where
  -- a literal with the flag, and with the name that is chosen
  named-literal : (flag : ℕ) → f.flag ≡ flag → (c : prelude.Option TableIndex) → chosen_name f.name c ≡ choose_name l f.name
      → chosen f (literal_with c) ≡ literal flag (choose_name l f.name) f.value
  named-literal flag e c d = literal-with f c ∙ (λ k. literal (e k) (d k) f.value)

  pub choose-literal : f.flag ≡ 1 → (c : prelude.Option TableIndex) → chosen_name f.name c ≡ choose_name l f.name → chosen f (literal_with c) ≡ choose l f
  unfolding choose
  choose-literal e c d = named-literal 1 e c d ∙ sym (pick_yes f.flag 1 _ _ e)

  module _ (n : f.flag ≡ 1 → ⊥) where
    static-field : (o : prelude.Option TableIndex) → find_both f.name f.value ≡ o → choose l f ≡ static_field l f o
    unfolding choose
    static-field o e = pick_no f.flag 1 _ _ n ∙ ap (static_field l f) e

    pub choose-static : (j : TableIndex) → find_both f.name f.value ≡ Some j → indexed j.value ≡ choose l f
    unfolding static_field
    choose-static j e = sym (static-field (Some j) e)

    dynamic-field : find_both f.name f.value ≡ None → (o : Option Sent) → first (serves_both f.name f.value) l ≡ o
        → choose l f ≡ dynamic_field l f o
    unfolding static_field
    dynamic-field gone o e = static-field None gone ∙ ap (dynamic_field l f) e

-- ---- with the searches of memory

module _ (m : List ℕ) (small : Small m) (forms : forms_encoder m ≡ true) where
  C : EncoderChanges m (encoder_of m)
  C = encoder-claim.changes m (encoder_of m) (record { small = small; forms = forms; state = refl })

  pub ordered : Ordered m
  ordered = C.ordered

  rows-below : (top low k i : ℕ) → GoodRows top low (rows_of m i k) → (j : ℕ) → i ≤ j → j < i + k → index_at m j ≤ top
  unfolding rows_of
  rows-below top low zero i g j a b = absurd (omega arith)
  rows-below top low (suc k) i g j a b =
      split i j
      (λ l. rows-below top (suc (index_at m i)) k (i + 1) g.1 j (omega arith) (omega arith))
      (λ l. let e : i ≡ j = omega arith in subst (λ (x : ℕ). index_at m x ≤ top) e g.0.below)

  -- a row of the table has a place, and an index that an encoder gives
  pub row-index : (place : ℕ) → place < count_of m → (place < 128) × (62 ≤ index_at m place) × (index_at m place ≤ 189)
  unfolding forms_encoder
  row-index place h =
      let rows = (and_both (rows_ok m 189 (count_of m)) _ (and_both (eqb (delete_count m) 0) _ (and_both (head_ok encoder_role encoder_length m) _ forms).1).1).0 in (
        omega (arith, ordered.few),
        omega (arith, ordered.low place h),
        rows-below 189 62 (count_of m) 0 (rows-each m 189 (count_of m) rows small) place (omega arith) (omega arith),
      )

  module _ (name : List ℕ) where
    pub serving-row : (place : ℕ) → lowest_row (serves_at m name) (count_of m) 0 ≡ Some place → place < count_of m
    serving-row place e = (C.serving name place e).0

    pub dynamic-row : (place : ℕ) → lowest_row (serves_at m name) (count_of m) 0 ≡ Some place → (i : TableIndex) → i ≡ record { value = index_at m place }
        → indexed_name i.value ≡ dynamic_name name (first (serves name) (encoder_of m).entries)
    unfolding dynamic_name sent_at
    dynamic-row place e i d = ap (λ (i : TableIndex). indexed_name i.value) d ∙ sym (ap (dynamic_name name) (C.serving name place e).1)

    pub dynamic-none : lowest_row (serves_at m name) (count_of m) 0 ≡ None
        → by_bytes name ≡ dynamic_name name (first (serves name) (encoder_of m).entries)
    unfolding dynamic_name
    dynamic-none e = sym (ap (dynamic_name name) (C.unserved name e))

  pub both-row : (name value : List ℕ) (place : ℕ) → lowest_row (serves_both_at m name value) (count_of m) 0 ≡ Some place → place < count_of m
  both-row name value place e = (C.serving_both name value place e).0

  module _ (f : Field) (n : f.flag ≡ 1 → ⊥) (gone : find_both f.name f.value ≡ None) where
    pub choose-row : (place : ℕ) → lowest_row (serves_both_at m f.name f.value) (count_of m) 0 ≡ Some place
        → (i : TableIndex) → i ≡ record { value = index_at m place } → indexed i.value ≡ choose (encoder_of m).entries f
    unfolding dynamic_field sent_at
    choose-row place e i d =
        ap (λ (i : TableIndex). indexed i.value) d
        ∙ sym (dynamic-field (encoder_of m).entries f n gone _ (C.serving_both f.name f.value place e).1)

    -- no row has both: a literal, its name by the static table, else by what the header table has
    pub choose-else : lowest_row (serves_both_at m f.name f.value) (count_of m) 0 ≡ None → f.flag < 2 → (dynamic : prelude.Option TableIndex)
        → chosen_name f.name dynamic ≡ dynamic_name f.name (first (serves f.name) (encoder_of m).entries)
        → (choice : Choice) → choice ≡ literal_with (static_first (find_name f.name) dynamic) → Chooses m f choice
    unfolding dynamic_field
    choose-else e low dynamic d choice t =
        let l = (encoder_of m).entries in
        ap (chosen f) t
        ∙ named-literal l f 0 (omega arith) (static_first (find_name f.name) dynamic) (name-first l f.name (find_name f.name) refl dynamic d)
        ∙ sym (dynamic-field l f n gone none (C.unserved_both f.name f.value e))

-- ---- a field whose name and value stand elsewhere

pub same-field : (m : List ℕ) (choice : Choice) {flag flag' : ℕ} {name name' value value' : List ℕ} → flag ≡ flag' → name ≡ name' → value ≡ value'
    → Chooses m (field_with flag name value) choice → Chooses m (field_with flag' name' value') choice
same-field m choice c e d h = rw (← c, ← e, ← d) h
