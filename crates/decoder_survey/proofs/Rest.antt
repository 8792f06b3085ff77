-- A block from a place on: what it means, and one turn of reading after the other. From the equations of `block_at`.
use Prim.Native.Nat.{ℕ, ◌≤◌, ◌<◌}
use mathlib.Core.Path.{◌≡◌, refl, sym, ap, ◌∙◌}
use native.Mathlib.Omega.{arith}
use mathlib.Core.List.{List, [], ◌∷◌}
use lib.ListN.{length}
use Rattle.blocks.specs.Reading.{BlockRead, block, refused, read_block, representation_of, read_representation}
use Rattle.blocks.specs.Meaning.{list, after_field, block_meaning}
use Rattle.blocks.specs.declared.read.RepresentationPlace.{RepresentationPlace}
use Rattle.blocks.proofs.Whole.{block-short}
use Rattle.blocks.proofs.Fuel.{prefixed, block_at, read_at, at-end, at-refused, at_more}
use Rattle.blocks.proofs.MeaningLaws.{meaning-nil, meaning-cons}
use Rattle.model.specs.Decoder.{lookup}
use Rattle.state.specs.DecoderState.{decoder_of}
use Rattle.decoder_survey.specs.Measure.{field_meant, field_at, ReadsWell, representations, meaning_of}
use Rattle.decoder_survey.specs.Passes.{ReadsOn, meaning_from}
use Rattle.std.specs.Prelude.{Ok, Err}
use Rattle.integers.specs.declared.answer.Refusal.{Refusal}

-- ---- all of it

pub record Whole (m s : List ℕ) : Type 0 where
  pub short : length s ≤ 16384
  pub reads : ReadsOn s 0
  pub means : meaning_of m s ≡ meaning_from m s 0

pub whole : (m s : List ℕ) → ReadsWell s → Whole m s
unfolding meaning_of meaning_from
whole m s (rs, e) =
    let h : length s ≤ 16384 = block-short s rs e in
    let d : read_block s ≡ block_at s 0 = read_at s h in
    record { short = h; reads = (rs, sym d ∙ e); means = ap (λ (b : BlockRead). block_meaning (lookup (decoder_of m)) (representations b)) d }

-- ---- nothing

pub rest-none : (m s : List ℕ) (at : ℕ) → length s ≤ at → meaning_from m s at ≡ list []
unfolding meaning_from
rest-none m s at h =
    ap (λ (b : BlockRead). block_meaning (lookup (decoder_of m)) (representations b)) (at-end s at h) ∙ meaning-nil (lookup (decoder_of m))

-- ---- a turn

pub no-refusal : {X : Type 0} (s : List ℕ) (at : ℕ) → ReadsOn s at → at < length s → (why : Refusal) → read_representation s at ≡ Err why → X
no-refusal s at (rs, e) h why d =
    let f : refused why ≡ block rs = sym (at-refused s at h why d) ∙ e in
    let z : ◌≡◌ {A = ℕ} 0 1 = cc in
    absurd (omega arith)

pub record Turn (m s : List ℕ) (at : ℕ) (p : RepresentationPlace) (next : ℕ) : Type 0 where
  pub reads : ReadsOn s next
  pub means : meaning_from m s at ≡ after_field (field_at m s p) (meaning_from m s next)

pub turn : (m s : List ℕ) (at : ℕ) → ReadsOn s at → at < length s → (p : RepresentationPlace) (next : ℕ) → read_representation s at ≡ Ok (p, next)
    → Turn m s at p next
unfolding meaning_from field_meant
turn m s at (rs, e) h p next d = go (block_at s next) refl
  where
    more : block_at s at ≡ prefixed (representation_of s p ∷ []) (block_at s next)
    more = at_more s at h p next d

    go : (b : BlockRead) → block_at s next ≡ b → Turn m s at p next
    go (refused why) g =
        let f : refused why ≡ block rs = sym (more ∙ ap (prefixed (representation_of s p ∷ [])) g) ∙ e in
        let z : ◌≡◌ {A = ℕ} 0 1 = cc in
        absurd (omega arith)
    go (block qs) g =
        let f : block_at s at ≡ block (representation_of s p ∷ qs) = more ∙ ap (prefixed (representation_of s p ∷ [])) g in
        record {
          reads = (qs, g);
          means =
              ap (λ (b : BlockRead). block_meaning (lookup (decoder_of m)) (representations b)) f
              ∙ meaning-cons (lookup (decoder_of m)) (representation_of s p) qs
              ∙ ap (λ (b : BlockRead). after_field (field_at m s p) (block_meaning (lookup (decoder_of m)) (representations b))) (sym g);
        }
