-- A block takes at most its list's bytes plus two for each field, and a list has three bytes for each at least: field by field, and along its reading. So a
-- short list in a long output need not be measured.
use Prim.Native.Nat.{ℕ, zero, suc, ◌+◌, ◌*◌, ◌/◌, ◌≤◌, ◌<◌}
use mathlib.Core.Path.{◌≡◌, refl, sym, ap, subst, ◌∙◌}
use native.Mathlib.Omega.{arith}
use native.Mathlib.Numerals.{sub-one}
use mathlib.Core.Bool.{true}
use mathlib.Core.List.{List, [], ◌∷◌, map}
use lib.Dec.{leb}
use lib.ListN.{length, length-append}
use borrow.Author.Tests.{le-leb, lt-leb}
use Rattle.memory.specs.Bytes.{Small}
use Rattle.memory.proofs.Order.{split, need-true, need-false}
use Rattle.fields.specs.Form.{Field, AllFine, field_form, list_form}
use Rattle.fields.specs.Reading.{FieldListRead, list, read_field, fields_from, read_field_list}
use Rattle.fields.specs.declared.read.FieldPlace.{FieldPlace}
use Rattle.fields.proofs.Inverse.{field-inverse}
use Rattle.fields.proofs.Bounds.{text-bounds}
use Rattle.fields.proofs.Walk.{walk-done, walk_refused, walk_more}
use Rattle.fields.proofs.Lists.{list_form-cons, list-forth}
use Rattle.blocks.specs.Representation.{block_wire}
use Rattle.blocks.proofs.Writing.{block-wire-nil}
use Rattle.model.specs.Encoder.{Sent, choose}
use Rattle.state.specs.EncoderState.{encoder_of}
use Rattle.state.specs.Forms.{forms_encoder}
use Rattle.state_laws.proofs.EncoderLaws.{encoder-laws}
use Rattle.encoder_fields.specs.Measure.{fields_in, representations_of, room_answer}
use Rattle.encoder_fields.proofs.Fields.{length_more}
use Rattle.encoder_fields.proofs.Within.{LowTable, forms-low, choice-within}
use Rattle.std.specs.Prelude.{Result, Ok, Err}
use Rattle.integers.specs.Answers.{Read}
use Rattle.integers.specs.declared.answer.Refusal.{Refusal}
use Rattle.integers.specs.declared.answer.Refusal.TheVariants.{TooLong, NoRoom}

-- ---- the block

-- the bytes of the block that is chosen for a list
abbrev pub block_length : List Sent → List Field → ℕ
block_length l fs = length (block_wire (map (choose l) fs))

pub form-more : (f : Field) (fs : List Field) → length (list_form (f ∷ fs)) ≡ length (field_form f) + length (list_form fs)
form-more f fs = ap length (list_form-cons f fs) ∙ length-append (field_form f) (list_form fs)

block_within : (l : List Sent) → LowTable l → (fs : List Field) → AllFine fs → block_length l fs ≤ length (list_form fs) + 2 * length fs
block_within l low [] fine = omega (arith, ap length block-wire-nil)
block_within l low (f ∷ fs) fine =
    omega (
      arith,
      length_more (choose l f) (map (choose l) fs),
      form-more f fs,
      choice-within f fine.0 l low,
      block_within l low fs fine.1,
    )

-- ---- three bytes for a field: its flag, and a length for each of its two strings

module _ (s : List ℕ) where
  field-three : (at : ℕ) (p : FieldPlace) (next : ℕ) → read_field s at ≡ Ok (p, next) → (at + 3 ≤ next) × (next ≤ length s)
  field-three at p next e =
      let i = field-inverse s at p next e in
      let n = text-bounds s (at + 1) 255 p.name i.middle i.name-read in
      let v = text-bounds s i.middle 2047 p.value next i.value_read in
      (omega (arith, n.start-after, n.ends, v.start-after, v.ends), v.inside)

  -- the fields from a place on
  step-three : (f at : ℕ) (rest : List Field) → at < length s → length s ≤ at + suc f → fields_from (suc f) s at [] ≡ list rest
      → ((at : ℕ) (rest : List Field) → at ≤ length s → length s ≤ at + f → fields_from f s at [] ≡ list rest → at + 3 * length rest ≤ length s)
      → (r : Read FieldPlace) → r ≡ read_field s at → at + 3 * length rest ≤ length s
  step-three f at rest h k e later (Err why) d = absurd (walk_refused s (suc f) at rest e h k _ d why refl)
  step-three f at rest h k e later (Ok (p, next)) d =
      let w = walk_more s (suc f) at rest e h k _ d p next refl in
      let b = field-three at p next (sym d) in
      omega (arith, ap length w.1, b.0, later next w.0 b.1 (omega (arith, b.0)) (rw sub-one at w.2))

  from-three : (f at : ℕ) (rest : List Field) → at ≤ length s → length s ≤ at + f → fields_from f s at [] ≡ list rest → at + 3 * length rest ≤ length s
  from-three zero at rest h k e = omega (arith, ap length (walk-done s zero at rest e (omega arith)))
  from-three (suc f) at rest h k e =
      split at (length s)
      (λ l. step-three f at rest l k e (λ next fs. from-three f next fs) (read_field s at) refl)
      (λ l. omega (arith, ap length (walk-done s (suc f) at rest e l)))

  pub three : (fs : List Field) → read_field_list s ≡ list fs → 3 * length fs ≤ length s
  three fs e = omega (arith, from-three (length s) 0 fs (omega arith) (omega arith) e)

-- ---- of a list that was read

pub read-within : (l : List Sent) → LowTable l → (s : List ℕ) → Small s → (fs : List Field) → read_field_list s ≡ list fs
    → block_length l fs ≤ length s + 2 * length fs
read-within l low s small fs e =
    let w = list-forth s small fs e in
    omega (arith, block_within l low fs w.1, ap length w.0)

-- against memory that forms a state, the fields not counted
pub list-within : (m s : List ℕ) → Small m → forms_encoder m ≡ true → Small s → (fs : List Field) → read_field_list s ≡ list fs
    → length (block_wire (representations_of m s)) ≤ length s + 2 * (length s / 3)
list-within m s small forms bytes fs e =
    let low = forms-low (encoder_of m) (encoder-laws.fits m small forms).forms in
    omega (
      arith,
      ap (λ (r : FieldListRead). block_length (encoder_of m).entries (fields_in r)) e,
      read-within (encoder_of m).entries low s bytes fs e,
      three s fs e,
    )

-- ---- the room's answer

module _ (n room : ℕ) where
  pub room-enough : n ≤ 16384 → n ≤ room → Ok tt ≡ room_answer n room
  unfolding room_answer
  room-enough short h = sym (need-true (leb n 16384) _ _ (le-leb n 16384 short) ∙ need-true (leb n room) _ _ (le-leb n room h))

  pub room-long : 16384 < n → Err TooLong ≡ room_answer n room
  unfolding room_answer
  room-long h = sym (need-false (leb n 16384) _ _ (lt-leb n 16384 h))

  pub room-none : n ≤ 16384 → room < n → Err NoRoom ≡ room_answer n room
  unfolding room_answer
  room-none short h = sym (need-true (leb n 16384) _ _ (le-leb n 16384 short) ∙ need-false (leb n room) _ _ (lt-leb n room h))

  -- and what it says
  pub room-ways : (P : Result (Unit {0}) Refusal → Type 0) → (n ≤ 16384 → n ≤ room → P (Ok tt)) → (16384 < n → P (Err TooLong))
      → (n ≤ 16384 → room < n → P (Err NoRoom)) → P (room_answer n room)
  room-ways P enough long lacks =
      split 16384 n (λ h. subst P (room-long h) (long h))
      (λ h. split room n (λ k. subst P (room-none h k) (lacks h k)) (λ k. subst P (room-enough h k) (enough h k)))
