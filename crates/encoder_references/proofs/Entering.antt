-- The references of a block entered one after another: memory is the state with the references of what was written so far over the old memory. Each is one
-- change of that state, by the law of changes, and one state over another leaves the second.
use Prim.Native.Nat.{ℕ, ◌≤◌, ◌<◌}
use mathlib.Core.Path.{◌≡◌, refl, sym, ap, ap₂, subst, ◌∙◌}
use native.Mathlib.Omega.{arith}
use mathlib.Core.Bool.{true}
use mathlib.Core.Option
use mathlib.Core.Option.{some}
use mathlib.Core.List.{List, [], ◌∷◌, ◌++◌, map, map-map, map-id, Memᴰ}
use lib.Dec.{ltb}
use lib.ListN.{length}
use borrow.Author.Tests.{lt-ltb, le-ltb}
use Rattle.memory.specs.Choice.{pick}
use Rattle.memory.specs.Bytes.{Small}
use Rattle.memory.proofs.Order.{pick_true, pick-false}
use Rattle.wire.specs.Name.{indexed as indexed_name, literal as by_bytes}
use Rattle.fields.specs.Form.{Field}
use Rattle.blocks.specs.Representation.{Representation, indexed, literal}
use Rattle.blocks.specs.Meaning.{references, block_references}
use Rattle.model.specs.Table.{look}
use Rattle.model.specs.Parts.{Part, block_marks, streams}
use Rattle.model.specs.Encoder.{Sent, sent_index, Encoder, with_sent, with_written, FineSent, refer}
use Rattle.model_laws.proofs.Tables.{nope, pick-lt, look-map}
use Rattle.model_laws.proofs.DecoderWays.{some-found}
use Rattle.model_laws.proofs.Order.{refer-index}
use Rattle.model_laws.proofs.SentChanges.{refer-entry, refer-fine, sent-map}
use Rattle.state.specs.Layout.{count_of}
use Rattle.state.specs.Rows.{Row}
use Rattle.state.specs.EncoderState.{row_of_sent, encoder_of, encoder_front, overlay_encoder}
use Rattle.state.specs.Forms.{forms_encoder}
use Rattle.state_laws.specs.Laws.{FitsEncoder}
use Rattle.state_laws.proofs.Each.{Each}
use Rattle.state_laws.proofs.EncoderHolds.{HoldsEncoder, fits_each}
use Rattle.state_laws.proofs.EncoderForms.{forms-holds-encoder}
use Rattle.state_laws.proofs.EncoderOverlay.{encoder-fine, length-overlay_encoder, overlay-holds-encoder, overlay-self-encoder}
use Rattle.parts.specs.Close.{closed_by}
use Rattle.table_search.specs.Search.{Ordered, find_from}
use Rattle.table_laws.specs.DecoderChanges.{found}
use Rattle.table_laws.specs.EncoderChanges.{referred_at, EncoderChanges}
use Rattle.table_laws.proofs.FrontFits.{marks-fit}
use Rattle.table_laws.proofs.EncoderUpdates.{writes}
use Rattle.table_laws.proofs.EncoderClaim.{holds-changes}
use Rattle.encoder_fields.specs.Measure.{chosen}
use Rattle.encoder_fields.specs.Refer.{AllHeld, entered, entered_at, entered_one, entered_by, entered_choice}
use Rattle.encoder_fields.specs.declared.choice.Choice.{Choice}
use Rattle.encoder_fields.specs.declared.choice.Choice.TheVariants.{Indexed, Named, Literal}
use Rattle.encoder_references.proofs.Twice.{overlay-twice}
use Rattle.encoder_references.proofs.Mentions.{refer-row, refer-nothing, refer-text, refer-other, refer-one}
use Rattle.std.specs.Prelude.{Result, Ok, Err}

map_same : (f g : Sent → Sent) (P : Sent → Type 0) → ((e : Sent) → P e → f e ≡ g e) → (l : List Sent) → Each P l → map f l ≡ map g l
map_same f g P h [] each = refl
map_same f g P h (e ∷ l) each = ap₂ (λ (d : Sent) (r : List Sent). d ∷ r) (h e each.0) (map_same f g P h l each.1)

-- ---- states with references entered

module _ (E : Encoder) (m : List ℕ) (H : HoldsEncoder E m) (s : ℕ) (p : Part) (below : s < streams) where
  abbrev state : List Representation → Encoder
  state rs = with_sent E (map (refer s p rs) E.entries)

  abbrev after : List Representation → List ℕ
  after rs = overlay_encoder (state rs) m

  rows-kept : (rs : List Representation) (l : List Sent) → map row_of_sent (map (refer s p rs) l) ≡ map row_of_sent l
  rows-kept rs [] = refl
  rows-kept rs (e ∷ l) = ap₂ (λ (r : Row) (t : List Row). r ∷ t) (refer-row s p rs e) (rows-kept rs l)

  fits : (rs : List Representation) → FitsEncoder (state rs)
  fits rs = record {
    forms = sent-map E H.fits.forms (refer s p rs) (refer-index s p rs) (refer-entry s p rs) (refer-fine s p rs below) E.written;
    marks = H.fits.marks;
  }

  holds : (rs : List Representation) → HoldsEncoder (state rs) (after rs)
  holds rs = overlay-holds-encoder (state rs) m H.long (fits rs)

  after_none : after [] ≡ m
  after_none =
      ap (λ (l : List Sent). overlay_encoder (with_sent E l) m)
      (map_same (refer s p []) (λ e. e) FineSent (λ e h. refer-nothing s p e) E.entries (fits_each E H.fits) ∙ map-id E.entries)
      ∙ overlay-self-encoder E m H

  -- one representation more
  module _ (ps : List Representation) (r : Representation) where
    abbrev more : List Representation
    more = ps ++ (r ∷ [])

    after_same : ((e : Sent) → FineSent e → refer s p ps e ≡ refer s p more e) → after ps ≡ after more
    after_same h =
        ap (λ (l : List Sent). overlay_encoder (with_sent E l) m)
        (map_same (refer s p ps) (refer s p more) FineSent h E.entries (fits_each E H.fits))

    after_text : references r ≡ [] → after ps ≡ after more
    after_text none = after_same (λ e h. sym (refer-text s p ps r none e))

    module _ (i : ℕ) (named : references r ≡ i ∷ []) where
      after-static : i < 62 → after ps ≡ after more
      after-static low = after_same (λ e h. sym (refer-other s p ps r i named e (λ z. omega (arith, h.low))))

      -- an index that is held: the row that is found has its entry
      after_one : (x : Sent) → look sent_index i E.entries ≡ some x
          → entered_at (after ps) s p (find_from (after ps) i (count_of (after ps)) 0) ≡ after more
      after_one x there = go (find_from (after ps) i (count_of (after ps)) 0) refl
        where
          now : Encoder
          now = state ps

          next : map (referred_at s p i) now.entries ≡ map (refer s p more) E.entries
          next =
              map-map (referred_at s p i) (refer s p ps) E.entries
              ∙ map_same (λ e. referred_at s p i (refer s p ps e)) (refer s p more) FineSent (λ e h. sym (refer-one s p ps r i named e)) E.entries
              (fits_each E H.fits)

          held : look sent_index i now.entries ≡ some (refer s p ps x)
          held = look-map sent_index (refer s p ps) (refer-index s p ps) i E.entries ∙ ap (Option.map (refer s p ps)) there

          go : (f : Result ℕ ℕ) → find_from (after ps) i (count_of (after ps)) 0 ≡ f → entered_at (after ps) s p f ≡ after more
          go (Ok place) f =
              (holds-changes now (after ps) (holds ps)).refer i place s p f below
              ∙ ap (λ (l : List Sent). overlay_encoder (with_sent E l) (after ps)) next
              ∙ overlay-twice now (state more) m (encoder-fine (state more) (fits more))
              (rows-kept more E.entries ∙ sym (rows-kept ps E.entries))
          go (Err place) f =
              let gone = (holds-changes now (after ps) (holds ps)).nowhere i place f in
              let there' = held in
              nope (cc)

      after-index : AllHeld E.entries (r ∷ [])
          → pick (ltb i 62) (after ps) (entered_at (after ps) s p (find_from (after ps) i (count_of (after ps)) 0)) ≡ after more
      unfolding block_references
      after-index held =
          pick-lt (λ (l : List ℕ). l ≡ after more) i 62 (after ps) (entered_at (after ps) s p (find_from (after ps) i (count_of (after ps)) 0)) after-static
          (λ high. let e = some-found (look sent_index i E.entries) (held i (subst (λ (is : List ℕ). Memᴰ i (is ++ [])) (sym named) (Memᴰ.head refl)) high) in
          after_one e.0 e.1)

  -- what the block closes besides
  after-written : (rs : List Representation)
      → closed_by p (after rs) s ≡ overlay_encoder (with_written (with_sent E (map (refer s p rs) E.entries)) (block_marks p s E.written)) m
  unfolding encoder_front
  after-written rs =
      let now : Encoder = state rs in
      let next : Encoder = with_written now (block_marks p s E.written) in
      writes now (after rs) (holds rs) s p below
      ∙ overlay-twice now next m (marks-fit (encoder_front now) (encoder-fine now (fits rs)) (block_marks p s E.written)) refl

-- ---- one choice, and one index, by its kind

pub entered-choice : (m : List ℕ) (stream : ℕ) (part : Part) (f : Field) (choice : Choice) → entered_choice m stream part choice ≡ entered_by m stream part (chosen f choice)
entered-choice m stream part f (Indexed i) = refl
entered-choice m stream part f (Named i) = refl
entered-choice m stream part f Literal = refl

module _ (m : List ℕ) (stream : ℕ) (part : Part) (index : ℕ) where
  pub entered-static : index < 62 → m ≡ entered_one m stream part index
  unfolding entered_one
  entered-static h = sym (pick_true (ltb index 62) m _ (lt-ltb index 62 h))

  module _ (high : 62 ≤ index) (f : Result ℕ ℕ) (e : find_from m index (count_of m) 0 ≡ f) where
    pub entered-found : entered_at m stream part f ≡ entered_one m stream part index
    unfolding entered_one
    entered-found = sym (pick-false (ltb index 62) m _ (le-ltb index 62 high) ∙ ap (entered_at m stream part) e)

-- ---- the same of memory that forms a state

module _ (m : List ℕ) (small : Small m) (forms : forms_encoder m ≡ true) (stream : ℕ) (below : stream < streams) (part : Part) where
  abbrev E : Encoder
  E = encoder_of m

  H : HoldsEncoder E m
  H = forms-holds-encoder m small forms

  -- what finding the row of an index relies on, and the row's place
  stands : EncoderChanges m E
  stands = holds-changes E m H

  pub entering-ordered : Ordered m
  entering-ordered = stands.ordered

  pub entering-place : (index place : ℕ) → found m index place → place < 128
  entering-place index place f = omega (arith, (stands.here index place f).0, stands.ordered.few)

  pub fits-entered : (rs : List Representation) → FitsEncoder (with_sent E (map (refer stream part rs) E.entries))
  fits-entered rs = fits E m H stream part below rs

  pub entered-none : entered m stream part [] ≡ m
  unfolding entered
  entered-none = after_none E m H stream part below

  pub entered-length : (rs : List Representation) → length (entered m stream part rs) ≡ length m
  unfolding entered
  entered-length rs = length-overlay_encoder (state E m H stream part below rs) m

  pub entered-more : (ps : List Representation) (r : Representation) → AllHeld E.entries (r ∷ [])
      → entered_by (entered m stream part ps) stream part r ≡ entered m stream part (ps ++ (r ∷ []))
  unfolding entered entered_one
  entered-more ps (indexed i) held = after-index E m H stream part below ps (indexed i) i refl held
  entered-more ps (literal flag (indexed_name i) value) held = after-index E m H stream part below ps (literal flag (indexed_name i) value) i refl held
  entered-more ps (literal flag (by_bytes name) value) held = after_text E m H stream part below ps (literal flag (by_bytes name) value) refl

  pub entered-written : (rs : List Representation)
      → closed_by part (entered m stream part rs) stream
      ≡ overlay_encoder (with_written (with_sent E (map (refer stream part rs) E.entries)) (block_marks part stream E.written)) m
  unfolding entered
  entered-written rs = after-written E m H stream part below rs
