-- The unfinished parts that a delete names are those of its two lists, each kind in its own marks: counted, the sum of both; the lowest, the lower one.
-- By induction over the count of streams.
use mathlib.Core.Path.{◌≡◌, refl, sym, ap, ap₂, ◌∙◌}
use Prim.Native.Nat.{ℕ, zero, suc, ◌+◌, ◌≤◌, ◌<◌, min}
use native.Mathlib.Omega.{arith}
use native.Mathlib.Nat.{zero-add, add-zero}
use mathlib.Core.Bool.{Bool, true, false, not, ◌&&◌, ◌||◌}
use mathlib.Core.List.{List}
use borrow.Author.Tests.{lt-ltb}
use Rattle.memory.specs.Choice.{pick}
use Rattle.marks.specs.Marks.{is_set, count_from, lowest_from}
use Rattle.marks.proofs.Counting.{count-le, count_same, count-split, lowest-same, lowest-word, lowest-le}
use Rattle.model.specs.Parts.{Part, nontrailer, trailer, Marks, Delete, names_part, is_open, open_below, lowest_open, streams}
use Rattle.state.specs.Layout.{marks_place, nontrailer_list, trailer_list}
use Rattle.state.specs.Front.{marks_of}
use Rattle.state.specs.DecoderState.{list_at, delete_at}
use Rattle.holds.specs.Hold.{named_marked, lowest_case, lowest_told}
use Rattle.integers.specs.declared.number.StreamNumber.{StreamNumber}
use Rattle.std.specs.Prelude.{Option}
use Rattle.holds.proofs.Telling.{told_back}

-- ---- both kinds

-- the model counts downwards
count-last : (f : ℕ → Bool) (n : ℕ) → count_from f 0 (suc n) ≡ count_from f 0 n + pick (f n) 1 0
unfolding count_from
count-last f n =
    let e : suc n ≡ n + 1 = omega arith in
    ap (count_from f 0) e ∙ count-split f 0 n 1
    ∙ ap (λ (x : ℕ). count_from f 0 n + x) (add-zero (pick (f (0 + n)) 1 0) ∙ ap (λ (s : ℕ). pick (f s) 1 0) (zero-add n))

-- a count of all streams
pub count-few : (f : ℕ → Bool) (r : ℕ) → r ≡ count_from f 0 streams → r ≤ streams
count-few f r e = omega (arith, count-le f 0 streams)

lowest-ge : (f : ℕ → Bool) (s n : ℕ) → s ≤ lowest_from f s n
lowest-ge f s n = omega (arith, lowest-word f s n)

-- the lower of two lowest, with one stream more below them
lower : (a b : Bool) (s x y r : ℕ) → s ≤ x → s ≤ y → r ≡ min x y → pick (a || b) s r ≡ min (pick a s x) (pick b s y)
lower true true s x y r h k e = omega arith
lower true false s x y r h k e = omega arith
lower false true s x y r h k e = omega arith
lower false false s x y r h k e = e

module _ (marks : Marks) (d : Delete) where
  both-count : (n : ℕ) → open_below marks d n
      ≡ count_from (λ s. is_open marks d s nontrailer) 0 n + count_from (λ s. is_open marks d s trailer) 0 n
  unfolding open_below count_from
  both-count zero = refl
  both-count (suc n) =
      omega (arith, both-count n, count-last (λ s. is_open marks d s nontrailer) n, count-last (λ s. is_open marks d s trailer) n)

  both-lowest : (s n : ℕ) → lowest_open marks d s n
      ≡ min (lowest_from (λ t. is_open marks d t nontrailer) s n) (lowest_from (λ t. is_open marks d t trailer) s n)
  unfolding lowest_open lowest_from
  both-lowest s zero = omega arith
  both-lowest s (suc n) =
      let x = lowest-ge (λ t. is_open marks d t nontrailer) (s + 1) n in
      let y = lowest-ge (λ t. is_open marks d t trailer) (s + 1) n in
      lower (is_open marks d s nontrailer) (is_open marks d s trailer) s _ _ _ (omega arith) (omega arith) (both-lowest (s + 1) n)

-- ---- the marks in memory: a set bit is an unfinished part

module _ (m : List ℕ) (d : Delete) where
  unfinished : (s : ℕ) (p : Part) → s < streams → not (marks_of m s p) ≡ is_set m (marks_place p) s
  unfolding marks_of
  unfinished s p h = ap (λ (b : Bool). not (pick b (not (is_set m (marks_place p) s)) false)) (lt-ltb s streams h) ∙ twice (is_set m (marks_place p) s)
    where
      twice : (b : Bool) → not (not b) ≡ b
      twice true = refl
      twice false = refl

  nontrailer-open : (t : ℕ) → t < streams → is_open (marks_of m) d (0 + t) nontrailer ≡ named_marked (is_set m (marks_place nontrailer)) d.nontrailer (0 + t)
  unfolding is_open names_part named_marked
  nontrailer-open t h = ap (λ (b : Bool). names_part d (0 + t) nontrailer && b) (unfinished (0 + t) nontrailer (omega arith))

  trailer-open : (t : ℕ) → t < streams → is_open (marks_of m) d (0 + t) trailer ≡ named_marked (is_set m (marks_place trailer)) d.trailer (0 + t)
  unfolding is_open names_part named_marked
  trailer-open t h = ap (λ (b : Bool). names_part d (0 + t) trailer && b) (unfinished (0 + t) trailer (omega arith))

  open-count : open_below (marks_of m) d streams
      ≡ count_from (named_marked (is_set m (marks_place nontrailer)) d.nontrailer) 0 streams
      + count_from (named_marked (is_set m (marks_place trailer)) d.trailer) 0 streams
  open-count =
      both-count (marks_of m) d streams
      ∙ ap₂ (λ (x y : ℕ). x + y) (count_same _ _ 0 streams nontrailer-open) (count_same _ _ 0 streams trailer-open)

  open-lowest : lowest_open (marks_of m) d 0 streams
      ≡ min (lowest_from (named_marked (is_set m (marks_place nontrailer)) d.nontrailer) 0 streams)
      (lowest_from (named_marked (is_set m (marks_place trailer)) d.trailer) 0 streams)
  open-lowest =
      both-lowest (marks_of m) d 0 streams
      ∙ ap₂ min (lowest-same _ _ 0 streams nontrailer-open) (lowest-same _ _ 0 streams trailer-open)

-- ---- delete k, whose lists stand at these places

module _ (m : List ℕ) (k at to : ℕ) (e : at ≡ nontrailer_list k) (f : to ≡ trailer_list k) where
  pub delete-count : (x y : ℕ) → x ≡ count_from (named_marked (is_set m (marks_place nontrailer)) (list_at m at)) 0 streams
      → y ≡ count_from (named_marked (is_set m (marks_place trailer)) (list_at m to)) 0 streams
      → x + y ≡ open_below (marks_of m) (delete_at m k) streams
  unfolding delete_at
  delete-count x y n t = rw (n, t, e, f) (sym (open-count m (delete_at m k)))

  abbrev First : ℕ
  First = lowest_from (named_marked (is_set m (marks_place nontrailer)) (list_at m at)) 0 streams

  abbrev Second : ℕ
  Second = lowest_from (named_marked (is_set m (marks_place trailer)) (list_at m to)) 0 streams

  lower-one : lowest_open (marks_of m) (delete_at m k) 0 streams ≡ min First Second
  unfolding delete_at
  lower-one = rw (e, f) (open-lowest m (delete_at m k))

  module _ (x y : Option StreamNumber) (n : x ≡ lowest_case First) (t : y ≡ lowest_case Second) where
    told-first : lowest_told x ≡ First
    told-first = ap lowest_told n ∙ told_back First (omega (arith, lowest-le (named_marked (is_set m (marks_place nontrailer)) (list_at m at)) 0 streams))

    told-second : lowest_told y ≡ Second
    told-second = ap lowest_told t ∙ told_back Second (omega (arith, lowest-le (named_marked (is_set m (marks_place trailer)) (list_at m to)) 0 streams))

    pub first-lower : lowest_told x < lowest_told y → x ≡ lowest_case (lowest_open (marks_of m) (delete_at m k) 0 streams)
    first-lower h = n ∙ ap lowest_case (omega (arith, told-first, told-second, lower-one))

    pub second-lower : lowest_told y ≤ lowest_told x → y ≡ lowest_case (lowest_open (marks_of m) (delete_at m k) 0 streams)
    second-lower h = t ∙ ap lowest_case (omega (arith, told-first, told-second, lower-one))
