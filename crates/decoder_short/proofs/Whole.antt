-- A block that was taken whole: its survey, and its list. By induction over the representations, from the equations of `block_at`.
use Prim.Native.Nat.{ℕ, ◌<◌, ◌≤◌}
use mathlib.Core.Path.{◌≡◌, refl, sym, ap, ◌∙◌}
use native.Mathlib.Omega.{arith}
use mathlib.Core.List.{List, [], ◌∷◌, ◌++◌}
use lib.ListN.{length, take}
use Rattle.fields.specs.Form.{Field, field_form, list_form}
use Rattle.blocks.specs.Representation.{Representation}
use Rattle.blocks.specs.Reading.{BlockRead, block, representation_of, read_representation}
use Rattle.blocks.specs.Meaning.{FieldMeaning, field, BlockMeaning, list, after_field, block_meaning}
use Rattle.blocks.specs.declared.read.RepresentationPlace.{RepresentationPlace}
use Rattle.blocks.proofs.Fuel.{prefixed, block_at, read_at, at-end, at_more}
use Rattle.blocks.proofs.Bounds.{representation-good}
use Rattle.blocks.proofs.MeaningLaws.{meaning-nil, meaning-cons}
use Rattle.model.specs.Decoder.{lookup}
use Rattle.state.specs.DecoderState.{decoder_of}
use Rattle.decoder_survey.specs.Measure.{field_meant, field_at, IsField, field_bytes, representations, meaning_of, list_bytes, block_measured}
use Rattle.decoder_survey.specs.Passes.{survey_of, block_survey}
use Rattle.decoder_survey.specs.declared.measure.Survey.{Survey}
use Rattle.decoder_survey.specs.declared.measure.Survey.TheVariants.{Bytes}
use Rattle.decoder_short.specs.Pass.{FieldsTo, fields_bytes, TookAll}
use Rattle.std.specs.Prelude.{Result, Ok}
use Rattle.integers.specs.declared.answer.Refusal.{Refusal}

-- from a place on: what is read, and the fields that it means
record Rest (m s : List ℕ) (at : ℕ) (bytes : List ℕ) : Type 0 where
  representations : List Representation
  reads : block_at s at ≡ block representations
  fields : List Field
  means : block_meaning (lookup (decoder_of m)) representations ≡ list fields
  bytes-are : list_form fields ≡ bytes

module _ (m s : List ℕ) where
  more : (p : RepresentationPlace) (at next : ℕ) (bytes : List ℕ) → at < length s → read_representation s at ≡ Ok (p, next)
      → (F : FieldMeaning) → field_at m s p ≡ F → IsField F → Rest m s next bytes → Rest m s at (field_bytes F ++ bytes)
  unfolding list_form field_meant
  more p at next bytes h e (field f) d t R = record {
    representations = representation_of s p ∷ R.representations;
    reads = at_more s at h p next e ∙ ap (prefixed (representation_of s p ∷ [])) R.reads;
    fields = f ∷ R.fields;
    means =
        meaning-cons (lookup (decoder_of m)) (representation_of s p) R.representations
        ∙ ap (λ (G : FieldMeaning). after_field G (block_meaning (lookup (decoder_of m)) R.representations)) d
        ∙ ap (after_field (field f)) R.means;
    bytes-are = ap (λ (b : List ℕ). field_form f ++ b) R.bytes-are;
  }
  more p at next bytes h e (FieldMeaning.waits i) d t R = absurd t

  rest : (at : ℕ) (ps : List RepresentationPlace) (next : ℕ) → FieldsTo m s at ps next → length s ≤ next → Rest m s at (fields_bytes m s ps)
  unfolding fields_bytes list_form
  rest at [] next e h = record {
    representations = [];
    reads = at-end s at (omega (arith, e));
    fields = [];
    means = meaning-nil (lookup (decoder_of m));
    bytes-are = refl;
  }
  rest at (p ∷ ps) next e h =
      let g = representation-good s at p e.0 e.1 in
      more p at e.0 (fields_bytes m s ps) (omega (arith, g.past, g.inside)) e.1 (field_at m s p) refl e.2 (rest e.0 ps next e.3 h)

  pub all_whole : (lent out : List ℕ) (at n : ℕ) → length s ≤ 16384 → TookAll m s 0 lent out 0 at n → length s ≤ at
      → (block_survey m s ≡ Ok (Bytes n)) × (n ≤ length out) × (take n out ≡ list_bytes (meaning_of m s))
  unfolding block_survey meaning_of
  all_whole lent out at n k T h =
      let R = rest 0 T.places at T.fields h in
      let read = read_at s k ∙ R.reads in
      let told : Survey → Result Survey Refusal = λ n. Ok n in
      let e : block_meaning (lookup (decoder_of m)) R.representations ≡ list R.fields = R.means in (
        ap (survey_of m) read ∙ ap (λ (M : BlockMeaning). told (block_measured M)) e ∙ ap (λ (b : List ℕ). told (Bytes (length b))) R.bytes-are
            ∙ ap (λ (k : ℕ). told (Bytes k)) (omega (arith, T.ends)),
        T.fits,
        T.written ∙ sym R.bytes-are ∙ sym (ap (λ (M : BlockMeaning). list_bytes M) (ap (λ (b : BlockRead). block_meaning (lookup (decoder_of m)) (representations b)) read ∙ e)),
      )
