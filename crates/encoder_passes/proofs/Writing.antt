-- A list passed field by field: what was written and entered so far, and what is left. One field more is one representation more of both.
use Prim.Native.Nat.{ℕ, ◌+◌, ◌≤◌, ◌<◌}
use mathlib.Core.Path.{◌≡◌, refl, sym, ap, ap₂, subst, ◌∙◌}
use native.Mathlib.Omega.{arith}
use mathlib.Core.Bool.{Bool, true, false}
use mathlib.Core.List.{List, [], ◌∷◌, ◌++◌, map, append-nil}
use lib.ListN.{length}
use lib.Seq.{append_snoc}
use Rattle.memory.specs.Choice.{pick}
use Rattle.memory.specs.Bytes.{Small, overlay}
use Rattle.memory.proofs.Order.{either, pick-false}
use Rattle.memory.proofs.Overlay.{length-overlay, overlay-append}
use Rattle.fields.specs.Form.{Field, FineField}
use Rattle.fields.specs.Reading.{FieldListRead, list, read_field_list}
use Rattle.blocks.specs.Representation.{Representation, FineRepresentation, representation_wire, block_wire}
use Rattle.blocks.proofs.Writing.{block-wire-nil, block-wire-cons}
use Rattle.model.specs.Parts.{Part, streams}
use Rattle.model.specs.Encoder.{Sent, FormsEncoder, choose}
use Rattle.state.specs.EncoderState.{encoder_of}
use Rattle.state.specs.Forms.{forms_encoder}
use Rattle.state_laws.proofs.EncoderLaws.{encoder-laws}
use Rattle.encoder_fields.specs.Measure.{fields_in, representations_of, chosen, Chooses, capped}
use Rattle.encoder_fields.specs.Refer.{AllHeld, entered, entered_by}
use Rattle.encoder_fields.specs.declared.choice.Choice.{Choice}
use Rattle.encoder_fields.proofs.Chosen.{choose-fine, all_held}
use Rattle.encoder_fields.proofs.Fields.{Left, left-all, left-none, counted-all, counted-more, room-more, capped-low, capped-high}
use Rattle.encoder_references.proofs.Entering.{entered-none, entered-length, entered-more}
use Rattle.encoder_references.proofs.Choices.{entered-forms, entered-chooses}

-- ---- with the mode: memory and output are changed only where `write` says so

module _ (m₀ : List ℕ) (small : Small m₀) (forms : forms_encoder m₀ ≡ true) (stream : ℕ) (below : stream < streams) (part : Part) where
  abbrev pub after : Bool → List Representation → List ℕ
  after write rs = pick write (entered m₀ stream part rs) m₀

  after_none : (write : Bool) → after write [] ≡ m₀
  after_none true = entered-none m₀ small forms stream below part
  after_none false = refl

  after-forms : (write : Bool) (rs : List Representation) → forms_encoder (after write rs) ≡ true
  after-forms true rs = entered-forms m₀ small forms stream below part rs
  after-forms false rs = forms

  after-length : (write : Bool) (rs : List Representation) → length (after write rs) ≡ length m₀
  after-length true rs = entered-length m₀ small forms stream below part rs
  after-length false rs = refl

  after-chooses : (write : Bool) (rs : List Representation) (f : Field) → choose (encoder_of (after write rs)).entries f ≡ choose (encoder_of m₀).entries f
  after-chooses true rs f = entered-chooses m₀ small forms stream below part rs f
  after-chooses false rs f = refl

  after_more : (write : Bool) (rs : List Representation) (r : Representation) → AllHeld (encoder_of m₀).entries (r ∷ [])
      → pick write (entered_by (after write rs) stream part r) (after write rs) ≡ after write (rs ++ (r ∷ []))
  after_more true rs r held = entered-more m₀ small forms stream below part rs r held
  after_more false rs r held = refl

-- the output with these bytes at a place
abbrev pub over : Bool → List ℕ → ℕ → List ℕ → List ℕ
over write out to bytes = pick write (overlay out to bytes) out

over-length : (write : Bool) (out : List ℕ) (to : ℕ) (bytes : List ℕ) → length (over write out to bytes) ≡ length out
over-length true out to bytes = length-overlay out to bytes
over-length false out to bytes = refl

over_none : (write : Bool) (out : List ℕ) (to : ℕ) → over write out to (block_wire []) ≡ out
over_none true out to = ap (overlay out to) block-wire-nil
over_none false out to = refl

over-more : (write : Bool) (out : List ℕ) (to : ℕ) (r : Representation) (rs : List Representation)
    → over write out to (block_wire (r ∷ rs)) ≡ over write (over write out to (representation_wire r)) (to + length (representation_wire r)) (block_wire rs)
over-more true out to r rs = ap (overlay out to) (block-wire-cons r rs) ∙ overlay-append out to (representation_wire r) (block_wire rs)
over-more false out to r rs = refl

-- ---- how far the pass is: memory m and output out, the place `to` after what was passed, the list read up to `at`

pub record Progress (m₀ : List ℕ) (stream : ℕ) (part : Part) (s out₀ : List ℕ) (write : Bool) (m out : List ℕ) (to at : ℕ) : Type 0 where
  pub done : List Representation
  pub rest : List Field
  pub left : Left s at rest
  pub whole : representations_of m₀ s ≡ done ++ map (choose (encoder_of m₀).entries) rest
  pub short : to ≤ 16384
  pub memory : m ≡ pick write (entered m₀ stream part done) m₀
  pub same : length out ≡ length out₀
  pub size : length (block_wire (representations_of m₀ s)) ≡ to + length (block_wire (map (choose (encoder_of m₀).entries) rest))
  pub bytes : over write out₀ 0 (block_wire (representations_of m₀ s)) ≡ over write out to (block_wire (map (choose (encoder_of m₀).entries) rest))

-- what the pass leaves
abbrev pub Passed : List ℕ → ℕ → Part → List ℕ → List ℕ → Bool → ℕ → List ℕ → List ℕ → Type 0
Passed m₀ stream part s out₀ write n m out =
    (n ≡ capped (length (block_wire (representations_of m₀ s))))
    × ((m ≡ pick write (entered m₀ stream part (representations_of m₀ s)) m₀) × (out ≡ pick write (overlay out₀ 0 (block_wire (representations_of m₀ s))) out₀))

module _ (m₀ : List ℕ) (small : Small m₀) (forms : forms_encoder m₀ ≡ true) (stream : ℕ) (below : stream < streams) (part : Part) (s out₀ : List ℕ) (write : Bool) where
  abbrev l : List Sent
  l = (encoder_of m₀).entries

  abbrev all : ℕ
  all = length (block_wire (representations_of m₀ s))

  pub progress-none : (fs : List Field) → read_field_list s ≡ list fs → Progress m₀ stream part s out₀ write m₀ out₀ 0 0
  progress-none fs e =
      let is : representations_of m₀ s ≡ map (choose l) fs = ap (λ (r : FieldListRead). map (choose l) (fields_in r)) e in
      record {
        done = [];
        rest = fs;
        left = left-all s fs e;
        whole = is;
        short = omega arith;
        memory = sym (after_none m₀ small forms stream below part write);
        same = refl;
        size = omega (arith, ap (λ (rs : List Representation). length (block_wire rs)) is);
        bytes = ap (λ (rs : List Representation). over write out₀ 0 (block_wire rs)) is;
      }

  module _ (m out : List ℕ) (to at : ℕ) (P : Progress m₀ stream part s out₀ write m out to at) where
    pub progress-forms : forms_encoder m ≡ true
    progress-forms = ap forms_encoder P.memory ∙ after-forms m₀ small forms stream below part write P.done

    pub progress-length : length m ≡ length m₀
    progress-length = ap length P.memory ∙ after-length m₀ small forms stream below part write P.done

    pub progress-all : length s ≤ at → Passed m₀ stream part s out₀ write to m out
    progress-all h =
        let none : P.rest ≡ [] = left-none s at P.rest P.left h in
        let is : representations_of m₀ s ≡ P.done =
        P.whole ∙ ap (λ (fs : List Field). P.done ++ map (choose l) fs) none ∙ append-nil P.done in
        let size : to ≡ all = counted-all l all to P.rest P.size none in (
          capped-low to P.short ∙ ap capped size,
          (
            P.memory ∙ ap (λ (rs : List Representation). pick write (entered m₀ stream part rs) m₀) (sym is),
            sym (P.bytes ∙ ap (λ (fs : List Field). over write out to (block_wire (map (choose l) fs))) none ∙ over_none write out to),
          ),
        )

    -- one field more
    module _ (f : Field) (fs : List Field) (first : P.rest ≡ f ∷ fs) (fine : FineField f) where
      chosen-same : choose (encoder_of m).entries f ≡ choose l f
      chosen-same =
          ap (λ (t : List ℕ). choose (encoder_of t).entries f) P.memory ∙ after-chooses m₀ small forms stream below part write P.done f

      pub progress-room : (write ≡ true → (all ≤ 16384) × (all ≤ length out₀)) → write ≡ true
          → to + length (representation_wire (choose (encoder_of m).entries f)) ≤ length out
      progress-room room e =
          room-more l all to P.rest P.size f fs first (choose (encoder_of m).entries f) chosen-same (length out) (omega (arith, P.same, (room e).1))

      module _ (end : ℕ) (memory output : List ℕ) (e : end ≡ to + length (representation_wire (choose (encoder_of m).entries f)))
          (d : memory ≡ pick write (entered_by m stream part (choose (encoder_of m).entries f)) m)
          (o : output ≡ over write out to (representation_wire (choose (encoder_of m).entries f))) where
        abbrev r : Representation
        r = choose (encoder_of m).entries f

        more-size : all ≡ end + length (block_wire (map (choose l) fs))
        more-size = omega (arith, e, counted-more l all to P.rest P.size f fs first r chosen-same (length (representation_wire r)) refl)

        pub progress-more : (next : ℕ) → Left s next fs → end ≤ 16384 → Progress m₀ stream part s out₀ write memory output end next
        progress-more next rests short =
            let held : AllHeld l (choose l f ∷ []) = all_held (encoder_of m₀) (encoder-laws.fits m₀ small forms).forms (f ∷ []) (fine, tt) in
            record {
              done = P.done ++ (choose l f ∷ []);
              rest = fs;
              left = rests;
              whole = P.whole ∙ ap (λ (t : List Field). P.done ++ map (choose l) t) first ∙ sym (append_snoc P.done (choose l f) (map (choose l) fs));
              short = short;
              memory =
                  d
                  ∙ ap (λ (t : Representation). pick write (entered_by m stream part t) m) chosen-same
                  ∙ ap (λ (t : List ℕ). pick write (entered_by t stream part (choose l f)) t) P.memory
                  ∙ after_more m₀ small forms stream below part write P.done (choose l f) held;
              same = ap length o ∙ over-length write out to (representation_wire r) ∙ P.same;
              size = more-size;
              bytes =
                  P.bytes
                  ∙ ap (λ (t : List Field). over write out to (block_wire (map (choose l) t))) first
                  ∙ ap (λ (t : Representation). over write out to (block_wire (t ∷ map (choose l) fs))) (sym chosen-same)
                  ∙ over-more write out to r (map (choose l) fs)
                  ∙ ap₂ (λ (t : List ℕ) (k : ℕ). over write t k (block_wire (map (choose l) fs))) (sym o) (sym e);
            }

        -- the block is too long, so that nothing is written
        pub progress-long : (write ≡ true → (all ≤ 16384) × (all ≤ length out₀)) → 16384 < end → Passed m₀ stream part s out₀ write 16385 memory output
        progress-long room h =
            let long : 16384 < all = omega (arith, more-size) in
            let unwritten : write ≡ false = either write (λ t. absurd (omega (arith, (room t).0))) (λ t. t) in (
              capped-high all long,
              (
                d ∙ pick-false write _ m unwritten ∙ P.memory ∙ pick-false write _ m₀ unwritten ∙ sym (pick-false write _ m₀ unwritten),
                o
                    ∙ pick-false write _ out unwritten
                    ∙ sym (sym (pick-false write _ out₀ unwritten) ∙ P.bytes ∙ pick-false write _ out unwritten)
                    ∙ sym (pick-false write _ out₀ unwritten),
              ),
            )

-- what is said of a field that was taken from the list is said of the one that stands there
abbrev its : List ℕ → Field → Representation
its m f = choose (encoder_of m).entries f

module _ (m out : List ℕ) (to : ℕ) (write : Bool) {f p : Field} (same : f ≡ p) where
  pub room-of : (write ≡ true → to + length (representation_wire (its m p)) ≤ length out) → write ≡ true → to + length (representation_wire (its m f)) ≤ length out
  room-of h = rw same h

  pub passed-field : (stream : ℕ) (part : Part) {n : ℕ} {m' out' : List ℕ} → n ≡ to + length (representation_wire (its m f))
      → m' ≡ pick write (entered_by m stream part (its m f)) m → out' ≡ over write out to (representation_wire (its m f))
      → (n ≡ to + length (representation_wire (its m p)))
      × (m' ≡ pick write (entered_by m stream part (its m p)) m) × (out' ≡ over write out to (representation_wire (its m p)))
  passed-field stream part a b c = (rw same at a, rw same at b, rw same at c)

-- a pass keeps lengths
module _ (m₀ : List ℕ) (small : Small m₀) (forms : forms_encoder m₀ ≡ true) (stream : ℕ) (below : stream < streams) (part : Part) (s out₀ : List ℕ) (write : Bool)
    (n : ℕ) (m out : List ℕ) (p : Passed m₀ stream part s out₀ write n m out) where
  pub passed-memory : length m ≡ length m₀
  passed-memory = ap length p.1.0 ∙ after-length m₀ small forms stream below part write (representations_of m₀ s)

  pub passed-output : length out ≡ length out₀
  passed-output = ap length p.1.1 ∙ over-length write out₀ 0 (block_wire (representations_of m₀ s))

-- ---- what a choice can be

module _ (m : List ℕ) (small : Small m) (forms : forms_encoder m ≡ true) (f : Field) (fine : FineField f) (choice : Choice) (e : Chooses m f choice) where
  state : FormsEncoder (encoder_of m)
  state = (encoder-laws.fits m small forms).forms

  pub choice-fine : FineRepresentation (chosen f choice)
  choice-fine = subst FineRepresentation (sym e) (choose-fine (encoder_of m) state f fine)
