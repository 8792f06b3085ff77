-- Which part is in turn, by the marks in memory: one law for each way through the test.
-- By the tests of stream and part number: a set bit is a part that is not finished.
use mathlib.Core.Path.{◌≡◌, refl, sym, ap, ◌∙◌}
use Prim.Native.Nat.{ℕ, ◌≤◌, ◌<◌}
use mathlib.Core.Bool.{Bool, true, false, not, ◌&&◌}
use mathlib.Core.Option.{Option, none, some}
use mathlib.Core.List.{List}
use borrow.Author.Tests.{lt-ltb, le-ltb, eq-eqb, ne_eqb}
use Rattle.memory.specs.Choice.{pick}
use Rattle.memory.proofs.Order.{pick_true, pick-false}
use Rattle.integers.specs.declared.number.StreamNumber.{StreamNumber}
use Rattle.marks.specs.Marks.{is_set}
use Rattle.model.specs.Parts.{Part, nontrailer, trailer, Marks, part_of, in_turn, streams}
use Rattle.state.specs.Layout.{marks_place}
use Rattle.state.specs.Front.{marks_of}
use Rattle.parts.specs.Turn.{part_turn, case_of, turn_of}
use Rattle.std.specs.Prelude.{Some, None}
use Rattle.std.specs.Prelude as prelude
use Rattle.parts.specs.declared.turn.Part.{Part as PartCase}

-- ---- part numbers

nontrailer-part : (n : ℕ) → n ≡ 0 → part_of n ≡ some nontrailer
unfolding part_of
nontrailer-part n e = pick_true _ _ _ (eq-eqb n 0 e)

trailer-part : (n : ℕ) → n ≡ 1 → part_of n ≡ some trailer
unfolding part_of
trailer-part n e = ap part_of e

no_part : (n : ℕ) → (n ≡ 0 → ⊥) → (n ≡ 1 → ⊥) → part_of n ≡ none
unfolding part_of
no_part n z o = pick-false _ _ _ (ne_eqb n 0 z) ∙ pick-false _ _ _ (ne_eqb n 1 o)

-- ---- the marks in memory

twice : (b : Bool) → not (not b) ≡ b
twice true = refl
twice false = refl

-- "Message streams are numbered 0 to 4,095"
above : (marks : Marks) (s : ℕ) (p : Option Part) → streams ≤ s → part_turn marks s p ≡ false
unfolding part_turn
above marks s none h = refl
above marks s (some p) h = ap (λ (b : Bool). b && in_turn marks s p) (le-ltb s streams h)

below : (marks : Marks) (s : ℕ) (p : Part) → s < streams → part_turn marks s (some p) ≡ in_turn marks s p
unfolding part_turn
below marks s p h = ap (λ (b : Bool). b && in_turn marks s p) (lt-ltb s streams h)

module _ (m : List ℕ) (s : ℕ) (fits : s < streams) where
  pub marked : (p : Part) → marks_of m s p ≡ not (is_set m (marks_place p) s)
  unfolding marks_of
  marked p = pick_true _ _ _ (lt-ltb s streams fits)

  -- a part is in turn where its mark is set
  marked_turn : (p : Part) → in_turn (marks_of m) s p ≡ is_set m (marks_place p) s
  unfolding in_turn
  marked_turn p = ap not (marked p) ∙ twice _

-- ---- each way through the test

module _ (m : List ℕ) (s n : ℕ) where
  abbrev Test : Bool
  Test = part_turn (marks_of m) s (part_of n)

  pub turn-above : streams ≤ s → Test ≡ false
  turn-above h = above (marks_of m) s (part_of n) h

  pub turn-no-part : (n ≡ 0 → ⊥) → (n ≡ 1 → ⊥) → Test ≡ false
  unfolding part_turn
  turn-no-part z o = ap (part_turn (marks_of m) s) (no_part n z o)

  pub turn-part : (p : Part) → part_of n ≡ some p → s < streams → Test ≡ is_set m (marks_place p) s
  turn-part p e fits = ap (part_turn (marks_of m) s) e ∙ below (marks_of m) s p fits ∙ marked_turn m s fits p

-- ---- the answer, by the test

module _ (m : List ℕ) (s n : ℕ) where
  abbrev Answer : prelude.Option (StreamNumber × PartCase)
  Answer = turn_of (marks_of m) s (part_of n)

  out : (q : Option Part) → part_turn (marks_of m) s q ≡ false → turn_of (marks_of m) s q ≡ None
  unfolding turn_of
  out none e = refl
  out (some p) e = pick-false _ _ _ e

  pub above-out : streams ≤ s → Answer ≡ None
  above-out h = out (part_of n) (turn-above m s n h)

  pub no-part-out : (n ≡ 0 → ⊥) → (n ≡ 1 → ⊥) → Answer ≡ None
  no-part-out z o = out (part_of n) (turn-no-part m s n z o)

  -- the stream as a type, and what was found of the part's mark
  module _ (x : StreamNumber) (new : x ≡ record { value = s }) (fits : s < streams) (b : Bool) where
    of : (p : Part) → part_of n ≡ some p → b ≡ is_set m (marks_place p) x.value → Answer ≡ pick b (Some (x, case_of p)) None
    unfolding turn_of
    of p e found =
        let here : is_set m (marks_place p) s ≡ b = sym (found ∙ ap (λ (y : StreamNumber). is_set m (marks_place p) y.value) new) in
        let turn : part_turn (marks_of m) s (some p) ≡ b = sym (ap (part_turn (marks_of m) s) e) ∙ turn-part m s n p e fits ∙ here in
        rw new (ap (turn_of (marks_of m) s) e ∙ ap (λ (t : Bool). pick t (Some (record { value = s }, case_of p)) None) turn)

    pub nontrailer-answer : n ≡ 0 → b ≡ is_set m (marks_place nontrailer) x.value → Answer ≡ pick b (Some (x, case_of nontrailer)) None
    nontrailer-answer e = of nontrailer (nontrailer-part n e)

    pub trailer-answer : n ≡ 1 → b ≡ is_set m (marks_place trailer) x.value → Answer ≡ pick b (Some (x, case_of trailer)) None
    trailer-answer e = of trailer (trailer-part n e)
