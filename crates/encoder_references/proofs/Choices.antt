-- References change no choice: it looks at indexes, names, values and deletions alone. So a block's fields are chosen while its references are entered.
use Prim.Native.Nat.{ℕ, ◌<◌}
use mathlib.Core.Path.{◌≡◌, refl, ap, ap₂, ◌∙◌}
use mathlib.Core.Bool.{Bool, true, ◌&&◌}
use mathlib.Core.Option
use mathlib.Core.Option.{Option, none, some}
use mathlib.Core.List.{List, [], ◌∷◌, map}
use lib.Dec.{eqb}
use Rattle.memory.specs.Choice.{pick}
use Rattle.memory.specs.Bytes.{Small}
use Rattle.memory.specs.Compare.{same}
use Rattle.memory.proofs.Order.{pick-both, pick_true, pick-false}
use Rattle.wire.specs.Name.{Name, indexed as indexed_name}
use Rattle.statics.specs.Table.{Entry}
use Rattle.static_search.specs.Search.{find_name, find_both}
use Rattle.fields.specs.Form.{Field}
use Rattle.blocks.specs.Representation.{Representation, indexed, literal}
use Rattle.blocks.specs.Meaning.{block_references}
use Rattle.model.specs.Table.{first}
use Rattle.model.specs.Parts.{Part, nontrailer, trailer, streams}
use Rattle.model.specs.Encoder.{Sent, Encoder, mentions, referred, refer, serves, serves_both}
use Rattle.model.specs.Encoder.{dynamic_name, static_name, choose_name, dynamic_field, static_field, choose}
use Rattle.model_laws.proofs.Order.{refer-index}
use Rattle.model_laws.proofs.SentChanges.{refer-entry}
use Rattle.state.specs.EncoderState.{encoder_of}
use Rattle.state.specs.Forms.{forms_encoder}
use Rattle.state_laws.proofs.EncoderLaws.{encoder-laws}
use Rattle.state_laws.proofs.EncoderForms.{forms-holds-encoder}
use Rattle.encoder_fields.specs.Refer.{entered}
use Rattle.encoder_references.proofs.Entering.{fits-entered}
use Rattle.std.specs.Prelude.{Some, None}
use Rattle.integers.specs.declared.number.TableIndex.{TableIndex}
use Rattle.std.specs.Prelude as prelude

-- ---- entries that differ in their horizons alone

module _ (g : Sent → Sent) (index : (e : Sent) → (g e).index ≡ e.index) (entry : (e : Sent) → (g e).entry ≡ e.entry)
    (deleted : (e : Sent) → (g e).deleted ≡ e.deleted) where
  serves-same : (name : List ℕ) (e : Sent) → serves name (g e) ≡ serves name e
  unfolding serves
  serves-same name e = rw (entry e, deleted e) refl

  both-same : (name value : List ℕ) (e : Sent) → serves_both name value (g e) ≡ serves_both name value e
  unfolding serves_both
  both-same name value e = ap₂ ◌&&◌ (serves-same name e) (ap (λ (x : Entry). same x.value value) (entry e))

  first-same : (test : Sent → Bool) → ((e : Sent) → test (g e) ≡ test e) → (l : List Sent)
      → first test (map g l) ≡ Option.map g (first test l)
  unfolding first
  first-same test same [] = refl
  first-same test same (e ∷ l) =
      rw (same e)
      (pick-both (λ (o : Option Sent). pick (test e) (some (g e)) (first test (map g l)) ≡ Option.map g o) (test e) (some e)
      (first test l)
      (λ t. pick_true (test e) _ _ t) (λ t. pick-false (test e) _ _ t ∙ first-same test same l))

  module _ (l : List Sent) where
    name-same : (name : List ℕ) → choose_name (map g l) name ≡ choose_name l name
    unfolding choose_name static_name dynamic_name
    name-same name = go (find_name name)
      where
        dynamic : (o : Option Sent) → dynamic_name name (Option.map g o) ≡ dynamic_name name o
        dynamic none = refl
        dynamic (some e) = ap indexed_name (index e)

        go : (o : prelude.Option TableIndex) → static_name (map g l) name o ≡ static_name l name o
        go (Some j) = refl
        go None = ap (dynamic_name name) (first-same (serves name) (serves-same name) l) ∙ dynamic (first (serves name) l)

    choose-same : (f : Field) → choose (map g l) f ≡ choose l f
    unfolding choose static_field dynamic_field
    choose-same f =
        ap₂ (λ (a b : Representation). pick (eqb f.flag 1) a b) (as-literal 1) (go (find_both f.name f.value))
      where
        as-literal : (flag : ℕ) → literal flag (choose_name (map g l) f.name) f.value ≡ literal flag (choose_name l f.name) f.value
        as-literal flag = ap (λ (name : Name). literal flag name f.value) (name-same f.name)

        dynamic : (o : Option Sent) → dynamic_field (map g l) f (Option.map g o) ≡ dynamic_field l f o
        dynamic none = as-literal 0
        dynamic (some e) = ap indexed (index e)

        go : (o : prelude.Option TableIndex) → static_field (map g l) f o ≡ static_field l f o
        go (Some j) = refl
        go None =
            ap (dynamic_field (map g l) f) (first-same (serves_both f.name f.value) (both-same f.name f.value) l)
            ∙ dynamic (first (serves_both f.name f.value) l)

referred-deleted : (s : ℕ) (p : Part) (e : Sent) → (referred s p e).deleted ≡ e.deleted
unfolding referred
referred-deleted s nontrailer e = refl
referred-deleted s trailer e = refl

refer-deleted : (s : ℕ) (p : Part) (rs : List Representation) (e : Sent) → (refer s p rs e).deleted ≡ e.deleted
unfolding refer
refer-deleted s p rs e =
    pick-both (λ (x : Sent). x.deleted ≡ e.deleted) (mentions (block_references rs) e.index) (referred s p e) e (λ t. referred-deleted s p e) (λ t. refl)

-- ---- memory with references entered

module _ (m : List ℕ) (small : Small m) (forms : forms_encoder m ≡ true) (stream : ℕ) (below : stream < streams) (part : Part) (rs : List Representation) where
  pub entered-forms : forms_encoder (entered m stream part rs) ≡ true
  unfolding entered
  entered-forms = encoder-laws.forms _ m (forms-holds-encoder m small forms).long (fits-entered m small forms stream below part rs)

  pub entered-chooses : (f : Field) → choose (encoder_of (entered m stream part rs)).entries f ≡ choose (encoder_of m).entries f
  unfolding entered
  entered-chooses f =
      ap (λ (E : Encoder). choose E.entries f)
      (encoder-laws.back _ m (forms-holds-encoder m small forms).long (fits-entered m small forms stream below part rs))
      ∙ choose-same (refer stream part rs) (refer-index stream part rs) (refer-entry stream part rs)
      (refer-deleted stream part rs) (encoder_of m).entries f
