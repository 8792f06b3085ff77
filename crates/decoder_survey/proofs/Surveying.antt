-- The survey of a block, turn by turn: the bytes so far and the survey of the rest are the survey of the whole.
-- By the cases of what the next representation and the rest mean.
use Prim.Native.Nat.{ℕ, ◌+◌, ◌*◌, ◌≤◌, ◌<◌}
use mathlib.Core.Path.{◌≡◌, refl, sym, ap, subst, ◌∙◌}
use native.Mathlib.Omega.{arith}
use mathlib.Core.List.{List, [], ◌∷◌}
use lib.ListN.{length, length-append}
use Rattle.integers.specs.declared.number.TableIndex.{TableIndex}
use Rattle.fields.specs.Form.{Field, field_form, list_form}
use Rattle.blocks.specs.Representation.{Representation}
use Rattle.blocks.specs.Reading.{BlockRead, block, refused, read_block, representation_of, read_representation}
use Rattle.blocks.specs.Meaning.{FieldMeaning, field, BlockMeaning, list, after_field, block_meaning}
use Rattle.blocks.specs.declared.read.RepresentationPlace.{RepresentationPlace}
use Rattle.blocks.proofs.Turns.{block-long}
use Rattle.blocks.proofs.Fuel.{prefixed, read_at, at-end, at-refused, at_more}
use Rattle.blocks.proofs.Bounds.{representation-good}
use Rattle.blocks.proofs.MeaningLaws.{meaning-nil, meaning-cons}
use Rattle.model.specs.Decoder.{lookup}
use Rattle.model_laws.proofs.Tables.{nope}
use Rattle.state.specs.DecoderState.{decoder_of}
use Rattle.decoder_survey.specs.declared.measure.Survey.{Survey}
use Rattle.decoder_survey.specs.declared.measure.Survey.TheVariants.{Bytes, Waits}
use Rattle.decoder_survey.specs.Measure.{Stands, field_meant, field_at, field_bytes, field_measured, ReadsWell, meaning_of, block_measured}
use Rattle.decoder_survey.specs.Passes.{step_at, rest_at, waits_unless, survey_of, block_survey, ToldSurvey}
use Rattle.decoder_survey.proofs.Fields.{field_bound}
use Rattle.std.specs.Prelude.{Result, Ok, Err}
use Rattle.integers.specs.Answers.{Read, on_read}
use Rattle.integers.specs.declared.answer.Refusal.{Refusal}
use Rattle.integers.specs.declared.answer.Refusal.TheVariants.{TooLong}

-- ---- one representation

-- what was read and measured, by the step that it gave
pub record Measures (m s : List ℕ) (at : ℕ) (n : Survey) (next : ℕ) : Type 0 where
  pub place : RepresentationPlace
  pub reads : read_representation s at ≡ Ok (place, next)
  pub measure : field_measured (field_at m s place) ≡ n

module _ (m s : List ℕ) (at : ℕ) where
  pub step-found : (n : Survey) (next : ℕ) → step_at m s at ≡ Ok (n, next) → Measures m s at n next
  step-found n next e = go (read_representation s at) refl
    where
      go : (r : Read RepresentationPlace) → read_representation s at ≡ r → Measures m s at n next
      go (Ok (p, after)) d =
          let f : ◌≡◌ {A = Read Survey} (Ok (field_measured (field_at m s p), after)) (Ok (n, next)) = rw d at e in
          let a : after ≡ next = ap (λ (r : Read Survey). on_read (λ why. after) r (λ k x. x)) f in
          let b : field_measured (field_at m s p) ≡ n = ap (λ (r : Read Survey). on_read (λ why. n) r (λ k x. k)) f in
          record { place = p; reads = d ∙ ap (λ (x : ℕ). Ok (p, x)) a; measure = b }
      go (Err why) d = let f : ◌≡◌ {A = Read Survey} (Err why) (Ok (n, next)) = rw d at e in nope (cc)

  pub step-refused : (why : Refusal) → step_at m s at ≡ Err why → read_representation s at ≡ Err why
  step-refused why e = go (read_representation s at) refl
    where
      go : (r : Read RepresentationPlace) → read_representation s at ≡ r → read_representation s at ≡ Err why
      go (Ok (p, after)) d = let f : ◌≡◌ {A = Read Survey} (Ok (field_measured (field_at m s p), after)) (Err why) = rw d at e in nope (cc)
      go (Err k) d = let f : ◌≡◌ {A = Read Survey} (Err k) (Err why) = rw d at e in let b : k ≡ why = cc in d ∙ ap Err b

-- ---- one field, and what follows it

-- a block of so many bytes, and one that waits
abbrev told : Survey → Result Survey Refusal
told n = Ok n

-- with the bytes before it
abbrev plus : ℕ → Result Survey Refusal → Result Survey Refusal
plus n (Ok (Bytes k)) = Ok (Bytes (n + k))
plus n (Ok (Waits index)) = Ok (Waits index)
plus n (Err why) = Err why

plus_none : (b : Result Survey Refusal) → b ≡ plus 0 b
plus_none (Ok (Bytes n)) = ap (λ (k : ℕ). told (Bytes k)) (omega arith)
plus_none (Ok (Waits index)) = refl
plus_none (Err why) = refl

plus-plus : (a b : ℕ) (x : Result Survey Refusal) → plus a (plus b x) ≡ plus (a + b) x
plus-plus a b (Ok (Bytes n)) = ap (λ (k : ℕ). told (Bytes k)) (omega arith)
plus-plus a b (Ok (Waits index)) = refl
plus-plus a b (Err why) = refl

plus-waiting : (a : ℕ) (index : TableIndex) (b : BlockRead) → plus a (waits_unless index b) ≡ waits_unless index b
plus-waiting a index (block rs) = refl
plus-waiting a index (refused why) = refl

bytes-are : (F : FieldMeaning) (n : ℕ) → field_measured F ≡ Bytes n → n ≡ length (field_bytes F)
bytes-are (field f) n e = cc
bytes-are (FieldMeaning.waits i) n e = nope (cc)

plus-field : (F : FieldMeaning) (M : BlockMeaning) (n : ℕ) → field_measured F ≡ Bytes n
    → told (block_measured (after_field F M)) ≡ plus n (told (block_measured M))
unfolding list_form
plus-field (field f) (list fs) n e =
    let k : length (field_form f) ≡ n = cc in
    ap (λ (j : ℕ). told (Bytes j)) (omega (arith, length-append (field_form f) (list_form fs)))
plus-field (field f) (BlockMeaning.waits i) n e = refl
plus-field (FieldMeaning.waits i) M n e = nope (cc)

waits-field : (F : FieldMeaning) (M : BlockMeaning) (index : TableIndex) → field_measured F ≡ Waits index
    → told (block_measured (after_field F M)) ≡ told (Waits index)
waits-field (field f) M index e = nope (cc)
waits-field (FieldMeaning.waits i) M index e = ap told e

module _ (m : List ℕ) (r : Representation) where
  prefixed-field : (b : BlockRead) (n : ℕ) → field_measured (field_meant m r) ≡ Bytes n → survey_of m (prefixed (r ∷ []) b) ≡ plus n (survey_of m b)
  unfolding field_meant
  prefixed-field (block rs) n e =
      ap (λ (M : BlockMeaning). told (block_measured M)) (meaning-cons (lookup (decoder_of m)) r rs)
      ∙ plus-field (field_meant m r) (block_meaning (lookup (decoder_of m)) rs) n e
  prefixed-field (refused why) n e = refl

  prefixed-waits : (b : BlockRead) (index : TableIndex) → field_measured (field_meant m r) ≡ Waits index
      → survey_of m (prefixed (r ∷ []) b) ≡ waits_unless index b
  unfolding field_meant
  prefixed-waits (block rs) index e =
      ap (λ (M : BlockMeaning). told (block_measured M)) (meaning-cons (lookup (decoder_of m)) r rs)
      ∙ waits-field (field_meant m r) (block_meaning (lookup (decoder_of m)) rs) index e
  prefixed-waits (refused why) index e = refl

-- ---- a block that waits

prefixed-waiting : (index : TableIndex) (r : Representation) (b : BlockRead) → waits_unless index (prefixed (r ∷ []) b) ≡ waits_unless index b
prefixed-waiting index r (block rs) = refl
prefixed-waiting index r (refused why) = refl

module _ (s : List ℕ) (at : ℕ) (index : TableIndex) where
  pub waiting-turn : at < length s → (p : RepresentationPlace) (next : ℕ) → read_representation s at ≡ Ok (p, next)
      → waits_unless index (rest_at s at) ≡ waits_unless index (rest_at s next)
  waiting-turn h p next e = ap (waits_unless index) (at_more s at h p next e) ∙ prefixed-waiting index (representation_of s p) (rest_at s next)

  pub waiting-refused : at < length s → (why : Refusal) → read_representation s at ≡ Err why → waits_unless index (rest_at s at) ≡ Err why
  waiting-refused h why e = ap (waits_unless index) (at-refused s at h why e)

  pub waiting-ends : length s ≤ at → waits_unless index (rest_at s at) ≡ Ok (Waits index)
  waiting-ends h = ap (waits_unless index) (at-end s at h)

pub waiting-told : (index : TableIndex) (b : BlockRead) → ToldSurvey (waits_unless index b)
waiting-told index (block rs) = λ e. absurd (omega arith)
waiting-told index (refused why) = λ e. omega arith

-- ---- a block

pub survey-long : (m s : List ℕ) → 16384 < length s → Err TooLong ≡ block_survey m s
unfolding block_survey
survey-long m s h = sym (ap (survey_of m) (block-long s h))

-- before the turn at a place, with the bytes so far: 2,307 at most for each byte of the block
pub record Surveying (m s : List ℕ) (bytes at : ℕ) : Type 0 where
  pub short : length s ≤ 16384
  pub inside : at ≤ length s
  pub few : bytes ≤ 2307 * at
  pub so_far : block_survey m s ≡ plus bytes (survey_of m (rest_at s at))

pub surveying-starts : (m s : List ℕ) → length s ≤ 16384 → Surveying m s 0 0
unfolding block_survey
surveying-starts m s h = record {
  short = h;
  inside = omega arith;
  few = omega arith;
  so_far = ap (survey_of m) (read_at s h) ∙ plus_none (survey_of m (rest_at s 0));
}

module _ (m s : List ℕ) (bytes at : ℕ) (T : Surveying m s bytes at) where
  module _ (h : at < length s) where
    pub surveying-turn : Stands m → (n next : ℕ) → Measures m s at (Bytes n) next → (at < next) × Surveying m s (bytes + n) next
    surveying-turn S n next M =
        let p = M.place in
        let g = representation-good s at p next M.reads in (
          g.past,
          record {
            short = T.short;
            inside = g.inside;
            few = omega (arith, T.few, g.past, bytes-are (field_at m s p) n M.measure, field_bound m S s p g.places);
            so_far =
                T.so_far
                ∙ ap (λ (b : BlockRead). plus bytes (survey_of m b)) (at_more s at h p next M.reads)
                ∙ ap (plus bytes) (prefixed-field m (representation_of s p) (rest_at s next) n M.measure)
                ∙ plus-plus bytes n (survey_of m (rest_at s next));
          },
        )

    pub surveying-waits : (index : TableIndex) (next : ℕ) → Measures m s at (Waits index) next → waits_unless index (rest_at s next) ≡ block_survey m s
    surveying-waits index next M =
        let p = M.place in
        sym
        (T.so_far
        ∙ ap (λ (b : BlockRead). plus bytes (survey_of m b)) (at_more s at h p next M.reads)
        ∙ ap (plus bytes) (prefixed-waits m (representation_of s p) (rest_at s next) index M.measure)
        ∙ plus-waiting bytes index (rest_at s next))

    pub surveying-refused : (why : Refusal) → read_representation s at ≡ Err why → Err why ≡ block_survey m s
    surveying-refused why e = sym (T.so_far ∙ ap (λ (b : BlockRead). plus bytes (survey_of m b)) (at-refused s at h why e))

  pub surveying-ends : length s ≤ at → (Ok (Bytes bytes) ≡ block_survey m s) × (bytes ≤ 37797888)
  unfolding list_form
  surveying-ends h =
      let e : survey_of m (rest_at s at) ≡ Ok (Bytes 0) =
      ap (survey_of m) (at-end s at h) ∙ ap (λ (M : BlockMeaning). told (block_measured M)) (meaning-nil (lookup (decoder_of m)))
      in
      (sym (T.so_far ∙ ap (plus bytes) e ∙ ap (λ (k : ℕ). told (Bytes k)) (omega arith)), omega (arith, T.few, T.inside, T.short))

-- ---- what a block surveyed so is

pub record Gives (m s : List ℕ) (n : ℕ) : Type 0 where
  pub reads : ReadsWell s
  pub fields : List Field
  pub means : meaning_of m s ≡ list fields
  pub long : length (list_form fields) ≡ n

abbrev pub Surveyed : List ℕ → List ℕ → Result Survey Refusal → Type 0
Surveyed m s (Ok (Bytes n)) = Gives m s n
Surveyed m s (Ok (Waits index)) = ReadsWell s × (meaning_of m s ≡ BlockMeaning.waits index.value)
Surveyed m s (Err why) = read_block s ≡ refused why

module _ (m s : List ℕ) where
  by-meaning : (rs : List Representation) → read_block s ≡ block rs → (M : BlockMeaning) → block_meaning (lookup (decoder_of m)) rs ≡ M
      → Surveyed m s (Ok (block_measured M))
  unfolding meaning_of
  by-meaning rs e (list fs) d = record { reads = (rs, e); fields = fs; means = rw e d; long = refl }
  by-meaning rs e (BlockMeaning.waits i) d = ((rs, e), rw e d)

  by-reading : (b : BlockRead) → read_block s ≡ b → Surveyed m s (survey_of m b)
  by-reading (block rs) e = by-meaning rs e (block_meaning (lookup (decoder_of m)) rs) refl
  by-reading (refused why) e = e

  surveyed : Surveyed m s (block_survey m s)
  unfolding block_survey
  surveyed = by-reading (read_block s) refl

  pub survey-is : (r : Result Survey Refusal) → r ≡ block_survey m s → Surveyed m s r
  survey-is r e = subst (Surveyed m s) (sym e) surveyed
