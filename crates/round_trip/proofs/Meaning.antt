-- Against the encoder's own table the representations chosen for fields mean these fields: each means what the model's choice takes it to mean,
-- since every entry that it names is held.
use mathlib.Core.Path.{◌≡◌, refl, sym, ap, ◌∙◌}
use Prim.Native.Nat.{ℕ}
use mathlib.Core.Bool.{Bool, true, false}
use mathlib.Core.List.{List, [], ◌∷◌, map}
use Rattle.memory.specs.Choice.{pick}
use Rattle.wire.specs.Name.{indexed as indexed_name, literal as by_bytes}
use Rattle.statics.specs.Table.{Entry, entry_at}
use Rattle.fields.specs.Form.{Field, AllFine}
use Rattle.blocks.specs.Representation.{Representation, indexed, literal}
use Rattle.blocks.specs.Meaning.{Slot, holds, is_static, with_statics, on_slot, field_meaning, BlockMeaning, list, after_field, block_meaning}
use Rattle.model.specs.Table.{Ascending, look}
use Rattle.model.specs.Encoder.{Sent, sent_index, choose}
use Rattle.model_laws.proofs.Slots.Machine.{entry_field, field_named}
use Rattle.model_laws.proofs.Slots.Invariant.{MeantItem, meant_given, meant_index, meant_name, fields_of, EachReference}
use Rattle.model_laws.proofs.EncoderItems.{entry_of, meant, meant_by, Serving, meant-fields, meant-served}
use Rattle.round_trip.specs.Written.{slot_of}

module _ (l : List Sent) where
  -- what an index names at the encoder
  abbrev slots : ℕ → Slot
  slots = with_statics (λ i. slot_of (look sent_index i l))

  served-slot : (i : ℕ) (c : Entry) → Serving l i c → slot_of (look sent_index i l) ≡ holds (entry_of (look sent_index i l))
  unfolding entry_of
  served-slot i c s = rw s.found refl

  -- a representation that names an index, whose entry gives the field: the static entry, or one that is held
  module _ (i : ℕ) (gives : Entry → Field) (item : Entry → MeantItem) (rest : List MeantItem)
      (field : (c : Entry) → fields_of (item c ∷ rest) ≡ gives c ∷ fields_of rest)
      (names : (c : Entry) → EachReference (Serving l) (item c ∷ rest) → Serving l i c × EachReference (Serving l) rest) where
    named : (static : Bool) (m : BlockMeaning) → (EachReference (Serving l) rest → m ≡ list (fields_of rest))
        → EachReference (Serving l) (pick static (meant_given (gives (entry_at i))) (item (entry_of (look sent_index i l))) ∷ rest)
        → after_field (on_slot i (pick static (holds (entry_at i)) (slot_of (look sent_index i l))) gives) m
        ≡ list (fields_of (pick static (meant_given (gives (entry_at i))) (item (entry_of (look sent_index i l))) ∷ rest))
    unfolding fields_of
    named true m h r = rw (h r) refl
    named false m h r =
        let c : Entry = entry_of (look sent_index i l) in
        let n = names c r in
        rw (served-slot i c n.0, h n.1) (ap list (sym (field c)))

  means-meant : (rs : List Representation) → EachReference (Serving l) (meant_by l rs) → block_meaning slots rs ≡ list (fields_of (meant_by l rs))
  unfolding block_meaning field_meaning with_statics meant_by meant fields_of
  means-meant [] r = refl
  means-meant (indexed i ∷ rs) r =
      named i entry_field (meant_index i) (meant_by l rs) (λ c. refl) (λ c s. s) (is_static i) (block_meaning slots rs) (means-meant rs) r
  means-meant (literal flag (indexed_name i) value ∷ rs) r =
      named i (field_named flag value) (λ c. meant_name i c flag value) (meant_by l rs) (λ c. refl) (λ c s. s) (is_static i) (block_meaning slots rs)
      (means-meant rs) r
  means-meant (literal flag (by_bytes name) value ∷ rs) r = rw (means-meant rs r) refl

  pub choices-mean : Ascending sent_index 62 l → (fs : List Field) → AllFine fs → block_meaning slots (map (choose l) fs) ≡ list fs
  choices-mean order fs fine = means-meant (map (choose l) fs) (meant-served l order fs) ∙ ap list (meant-fields l order fs fine)
