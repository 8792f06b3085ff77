-- A part marked in memory that holds a front is the front with that mark over it: the words of its kind are stored, those of the other kind stand already.
-- So are both parts, and what a block closes.
use Prim.Native.Nat.{ℕ, ◌+◌, ◌<◌}
use mathlib.Core.Path.{◌≡◌, refl, sym, ap, ◌∙◌}
use native.Mathlib.Omega.{arith}
use mathlib.Core.Bool.{Bool, true, false, not, ◌||◌}
use mathlib.Core.List.{List, ◌++◌}
use lib.Dec.{eqb}
use lib.ListN.{length}
use Rattle.memory.specs.Choice.{pick}
use Rattle.memory.specs.Bytes.{overlay, Has}
use Rattle.memory.proofs.Places.{has_left, has_right}
use Rattle.columns.proofs.Within.{store-start, store-end}
use Rattle.marks.specs.Marks.{cleared, words_bytes}
use Rattle.marks.proofs.Clearing.{cleared-words}
use Rattle.marks.proofs.Words.{words-length, words_same}
use Rattle.model.specs.Parts.{Part, nontrailer, trailer, same_part, Marks, mark, mark_both, block_marks}
use Rattle.state.specs.Layout.{marks_place}
use Rattle.state.specs.Front.{Front, with_marks, marks_bytes, overlay_front}
use Rattle.state_laws.proofs.FrontHolds.{HoldsFront}
use Rattle.state_laws.proofs.FrontOverlay.{overlay-self}
use Rattle.parts.specs.Close.{closed_both, closed_by}
use Rattle.table_laws.proofs.Fronts.{kept-front, then-front}
use Rattle.table_laws.proofs.FrontFits.{marks-fit}
use Rattle.table_laws.proofs.FrontStores.{marks-stored}

-- ---- one mark more, as a choice

set-one : (p : Part) (b x : Bool) → pick b false (not x) ≡ not (pick b (same_part p p || x) x)
set-one nontrailer true x = refl
set-one trailer true x = refl
set-one p false x = refl

set-none : (b x : Bool) → not (pick b x x) ≡ not x
set-none true x = refl
set-none false x = refl

set_both : (q : Part) (b x : Bool)
    → pick b (same_part trailer q || pick b (same_part nontrailer q || x) x) (pick b (same_part nontrailer q || x) x) ≡ pick b true x
set_both nontrailer true x = refl
set_both trailer true x = refl
set_both q false x = refl

-- ---- the words of each kind

abbrev words_of : Marks → Part → List ℕ
words_of k p = words_bytes (λ t. not (k t p)) 0 64

module _ (s : ℕ) (k : Marks) where
  words-marked : (p : Part) → words_bytes (λ t. pick (eqb s t) false (not (k t p))) 0 64 ≡ words_of (mark s p k) p
  unfolding mark
  words-marked p = words_same (λ t. pick (eqb s t) false (not (k t p))) (λ t. not (mark s p k t p)) (λ t h. set-one p (eqb s t) (k t p))

  trailer-kept : words_of (mark s nontrailer k) trailer ≡ words_of k trailer
  unfolding mark
  trailer-kept = words_same (λ t. not (mark s nontrailer k t trailer)) (λ t. not (k t trailer)) (λ t h. set-none (eqb s t) (k t trailer))

  nontrailer-kept : words_of (mark s trailer k) nontrailer ≡ words_of k nontrailer
  unfolding mark
  nontrailer-kept = words_same (λ t. not (mark s trailer k t nontrailer)) (λ t. not (k t nontrailer)) (λ t h. set-none (eqb s t) (k t nontrailer))

  mark-twice : mark s trailer (mark s nontrailer k) ≡ mark_both s k
  unfolding mark mark_both
  mark-twice i t q = set_both q (eqb s t) (k t q) i

-- ---- in memory

module _ (f : Front) (m : List ℕ) (H : HoldsFront f m) (s : ℕ) (h : s < 4096) where
  abbrev k : Marks
  k = f.marks

  stand : Has m 64 (words_of k nontrailer ++ words_of k trailer)
  unfolding marks_bytes
  stand = H.marks

  stored : (p : Part) → Has m (marks_place p) (words_of k p) → cleared m (marks_place p) s ≡ overlay m (marks_place p) (words_of (mark s p k) p)
  stored p w = cleared-words m (marks_place p) (λ t. not (k t p)) w s h ∙ ap (overlay m (marks_place p)) (words-marked s k p)

  marks-words : (p : Part) → cleared m (marks_place p) s ≡ overlay m 64 (marks_bytes (mark s p k))
  unfolding marks_bytes
  marks-words nontrailer =
      let new : List ℕ = words_of (mark s nontrailer k) nontrailer in
      let e : length (words_of k nontrailer) ≡ length new =
      words-length (λ t. not (k t nontrailer)) 0 64 ∙ sym (words-length (λ t. not (mark s nontrailer k t nontrailer)) 0 64) in
      stored nontrailer (has_left m 64 (words_of k nontrailer) (words_of k trailer) stand)
      ∙ store-start m 64 (words_of k nontrailer) new (words_of k trailer) e stand
      ∙ ap (λ (l : List ℕ). overlay m 64 (new ++ l)) (sym (trailer-kept s k))
  marks-words trailer =
      let new : List ℕ = words_of (mark s trailer k) trailer in
      let e : 64 + length (words_of k nontrailer) ≡ 576 = omega (arith, words-length (λ t. not (k t nontrailer)) 0 64) in
      stored trailer (rw e at (has_right m 64 (words_of k nontrailer) (words_of k trailer) stand))
      ∙ ap (λ (a : ℕ). overlay m a new) (sym e)
      ∙ store-end m 64 (words_of k nontrailer) new (has_left m 64 (words_of k nontrailer) (words_of k trailer) stand)
      ∙ ap (λ (l : List ℕ). overlay m 64 (l ++ new)) (sym (nontrailer-kept s k))

  pub marks-front : (p : Part) → cleared m (marks_place p) s ≡ overlay_front (with_marks f (mark s p k)) m
  marks-front p = marks-words p ∙ marks-stored f m H (mark s p k)

-- "both parts are finished"
pub both-front : (f : Front) (m : List ℕ) → HoldsFront f m → (s : ℕ) → s < 4096 → closed_both m s ≡ overlay_front (with_marks f (mark_both s f.marks)) m
unfolding closed_both
both-front f m H s h =
    let one : Marks = mark s nontrailer f.marks in
    let two : Marks = mark s trailer one in
    let g : Front = with_marks f one in
    let n : List ℕ = cleared m (marks_place nontrailer) s in
    let d : n ≡ overlay_front g m = marks-front f m H s h nontrailer in
    let e : cleared n (marks_place trailer) s ≡ overlay_front (with_marks f two) n =
    marks-front g n (kept-front f g m n H (marks-fit f H.fine one) d) s h trailer in
    then-front g (with_marks f two) m n (cleared n (marks_place trailer) s) d e (marks-fit f H.fine two) refl refl
    ∙ ap (λ (marks : Marks). overlay_front (with_marks f marks) m) (mark-twice s f.marks)

-- a non-trailer block closes nothing, so its front is over memory already; a trailer closes both
pub block-front : (p : Part) (f : Front) (m : List ℕ) → HoldsFront f m → (s : ℕ) → s < 4096
    → closed_by p m s ≡ overlay_front (with_marks f (block_marks p s f.marks)) m
unfolding closed_by block_marks
block-front nontrailer f m H s h = sym (overlay-self f m H)
block-front trailer f m H s h = both-front f m H s h
