-- Rows that differ in their statuses alone have the same numbers in the other columns, and the same text. By induction over the rows.
use Prim.Native.Nat.{ℕ, suc, ◌+◌, ◌-◌}
use mathlib.Core.Path.{◌≡◌, refl, ap}
use mathlib.Core.List.{List, [], ◌∷◌, ◌++◌, map}
use lib.Dec.{ltb}
use lib.ListN.{length}
use Rattle.memory.specs.Choice.{pick}
use Rattle.state.specs.Rows.{Row, row_index, name_length, text_of, offsets_from, text_bytes}

abbrev pub with_status : Row → ℕ → Row
with_status r status = record { index = r.index; entry = r.entry; status = status }

-- a status above that of a delete that goes is one lower
abbrev pub lowered : ℕ → Row → Row
lowered status r = with_status r (pick (ltb status r.status) (r.status - 1) r.status)

-- the same entries at the same indexes
abbrev pub Alike : List Row → List Row → Type 0
Alike [] [] = Unit {0}
Alike [] (q ∷ qs) = ⊥
Alike (r ∷ rs) [] = ⊥
Alike (r ∷ rs) (q ∷ qs) = (r.index ≡ q.index) × (r.entry ≡ q.entry) × Alike rs qs

pub alike_same : (rs : List Row) → Alike rs rs
alike_same [] = tt
alike_same (r ∷ rs) = (refl, refl, alike_same rs)

pub alike-status : (xs : List Row) (r : Row) (ys : List Row) (status : ℕ) → Alike (xs ++ with_status r status ∷ ys) (xs ++ r ∷ ys)
alike-status [] r ys status = (refl, refl, alike_same ys)
alike-status (x ∷ xs) r ys status = (refl, refl, alike-status xs r ys status)

pub alike-lowered : (status : ℕ) (rs : List Row) → Alike (map (lowered status) rs) rs
alike-lowered status [] = tt
alike-lowered status (r ∷ rs) = (refl, refl, alike-lowered status rs)

pub alike-length : (rs qs : List Row) → Alike rs qs → length rs ≡ length qs
alike-length [] [] a = refl
alike-length [] (q ∷ qs) a = absurd a
alike-length (r ∷ rs) [] a = absurd a
alike-length (r ∷ rs) (q ∷ qs) a = ap suc (alike-length rs qs a.2)

pub alike-indexes : (rs qs : List Row) → Alike rs qs → map row_index rs ≡ map row_index qs
alike-indexes [] [] a = refl
alike-indexes [] (q ∷ qs) a = absurd a
alike-indexes (r ∷ rs) [] a = absurd a
alike-indexes (r ∷ rs) (q ∷ qs) a = λ k. a.0 k ∷ alike-indexes rs qs a.2 k

pub alike-names : (rs qs : List Row) → Alike rs qs → map name_length rs ≡ map name_length qs
alike-names [] [] a = refl
alike-names [] (q ∷ qs) a = absurd a
alike-names (r ∷ rs) [] a = absurd a
alike-names (r ∷ rs) (q ∷ qs) a = λ k. length (a.1 k).name ∷ alike-names rs qs a.2 k

pub alike-offsets : (o : ℕ) (rs qs : List Row) → Alike rs qs → offsets_from o rs ≡ offsets_from o qs
unfolding offsets_from
alike-offsets o [] [] a = refl
alike-offsets o [] (q ∷ qs) a = absurd a
alike-offsets o (r ∷ rs) [] a = absurd a
alike-offsets o (r ∷ rs) (q ∷ qs) a = λ k. o ∷ alike-offsets (o + length (text_of (a.1 k))) rs qs a.2 k

pub alike-text : (rs qs : List Row) → Alike rs qs → text_bytes rs ≡ text_bytes qs
unfolding text_bytes
alike-text [] [] a = refl
alike-text [] (q ∷ qs) a = absurd a
alike-text (r ∷ rs) [] a = absurd a
alike-text (r ∷ rs) (q ∷ qs) a = λ k. text_of (a.1 k) ++ alike-text rs qs a.2 k
