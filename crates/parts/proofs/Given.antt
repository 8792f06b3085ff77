-- What a caller learns from the answer that a part is in turn, or that none is. By the part that the number names.
use mathlib.Core.Path.{◌≡◌, refl, sym, ap, ◌∙◌}
use Prim.Native.Nat.{ℕ, ◌<◌}
use mathlib.Core.Bool.{Bool, true, false, ◌&&◌}
use mathlib.Core.Option.{Option, none, some}
use lib.Dec.{ltb}
use borrow.Author.Tests.{ltb-true}
use Rattle.memory.proofs.Order.{either, not-both, pick_true, pick-false}
use Rattle.integers.specs.declared.number.StreamNumber.{StreamNumber}
use Rattle.model.specs.Parts.{Part, nontrailer, trailer, part_of, Marks, in_turn, streams}
use Rattle.model_laws.proofs.Marks.{part-number}
use Rattle.model_laws.proofs.Tables.{nope}
use Rattle.parts.specs.Turn.{part_turn, part_in, case_of, case_number, turn_of}
use Rattle.parts.specs.declared.turn.Part.{Part as PartCase}
use Rattle.std.specs.Prelude.{Some, None}
use Rattle.std.specs.Prelude as prelude

-- a part in turn, of a stream that there is
pub in-turn : (marks : Marks) (s : ℕ) (p : Part) → part_turn marks s (some p) ≡ true → (s < streams) × (in_turn marks s p ≡ true)
unfolding part_turn
in-turn marks s p t = let b = both (ltb s streams) (in_turn marks s p) t in (ltb-true s streams b.0, b.1)
  where
    both : (a b : Bool) → (a && b) ≡ true → (a ≡ true) × (b ≡ true)
    both true b e = (refl, e)
    both false b e = not-both false e refl

case-back : (p : Part) → part_in (case_of p) ≡ p
case-back nontrailer = refl
case-back trailer = refl

-- the stream and the part that the call's numbers name
pub record Given (marks : Marks) (x n : ℕ) (s : StreamNumber) (c : PartCase) : Type 0 where
  pub stream : x ≡ s.value
  pub number : n ≡ case_number c
  pub turn : part_turn marks s.value (some (part_in c)) ≡ true

module _ (marks : Marks) (stream n : ℕ) where
  pub given : (s : StreamNumber) (c : PartCase) → turn_of marks stream (part_of n) ≡ Some (s, c) → Given marks stream n s c
  unfolding turn_of
  given s c e = go (part_of n) refl
    where
      of : (p : Part) → part_of n ≡ some p → ◌≡◌ {A = prelude.Option (StreamNumber × PartCase)} (Some (record { value = stream }, case_of p)) (Some (s, c)) → part_turn marks stream (some p) ≡ true → Given marks stream n s c
      of p d f t =
          let both : ◌≡◌ {A = StreamNumber × PartCase} (record { value = stream }, case_of p) (s, c) = cc in
          let x : ◌≡◌ {A = StreamNumber} (record { value = stream }) s = ap (λ (r : StreamNumber × PartCase). r.0) both in
          let y : case_of p ≡ c = ap (λ (r : StreamNumber × PartCase). r.1) both in
          let v : stream ≡ s.value = ap (λ (k : StreamNumber). k.value) x in
          let q : p ≡ part_in c = sym (case-back p) ∙ ap part_in y in
          record { stream = v; number = part-number n (part_in c) (d ∙ ap some q); turn = rw (v, q) at t }

      go : (o : Option Part) → part_of n ≡ o → Given marks stream n s c
      go none d = let f : ◌≡◌ {A = prelude.Option (StreamNumber × PartCase)} None (Some (s, c)) = rw d at e in nope (cc)
      go (some p) d =
          let f : turn_of marks stream (some p) ≡ Some (s, c) = rw d at e in
          either (part_turn marks stream (some p))
          (λ t. of p d (sym (pick_true _ _ _ t) ∙ f) t)
          (λ t. let g : ◌≡◌ {A = prelude.Option (StreamNumber × PartCase)} None (Some (s, c)) = sym (pick-false _ _ _ t) ∙ f in nope (cc))

  pub none-given : turn_of marks stream (part_of n) ≡ None → part_turn marks stream (part_of n) ≡ false
  unfolding turn_of part_turn
  none-given e = go (part_of n) refl
    where
      go : (o : Option Part) → part_of n ≡ o → part_turn marks stream (part_of n) ≡ false
      go none d = ap (part_turn marks stream) d
      go (some p) d =
          let f : turn_of marks stream (some p) ≡ None = rw d at e in
          either (part_turn marks stream (some p))
          (λ t. let g : Some (record { value = stream }, case_of p) ≡ None = sym (pick_true _ _ _ t) ∙ f in nope (cc))
          (λ t. ap (part_turn marks stream) d ∙ t)
