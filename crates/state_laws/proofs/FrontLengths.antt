-- How long the parts of a front are, the numbers of its columns, and rows one after the other. By induction over the rows.
use Prim.Native.Nat.{ℕ, suc, ◌+◌, ◌*◌, ◌<◌}
use mathlib.Core.Path.{◌≡◌, refl, sym, ap, ◌∙◌}
use native.Mathlib.Omega.{arith}
use mathlib.Core.List.{List, [], ◌∷◌, ◌++◌, append_assoc, map}
use mathlib.Core.Bool.{Bool, not}
use lib.ListN.{length, length-append}
use Rattle.memory.specs.Numbers.{number_bytes}
use Rattle.columns.proofs.Columns.{Fits}
use Rattle.marks.specs.Marks.{words_bytes}
use Rattle.marks.proofs.Words.{words-length}
use Rattle.model.specs.Parts.{Marks, nontrailer, trailer}
use Rattle.model.specs.Table.{size, total}
use Rattle.state.specs.Rows.{Row, row_index, name_length, row_status, text_of, offsets_from, text_bytes, rows_size}
use Rattle.state.specs.Front.{Front, head_bytes, marks_bytes}
use Rattle.state_laws.proofs.FrontHolds.{FineRows}

-- ---- lengths

pub length-head_bytes : (f : Front) → length (head_bytes f) ≡ 64
unfolding head_bytes number_bytes
length-head_bytes f = refl

pub length-marks_bytes : (k : Marks) → length (marks_bytes k) ≡ 1024
unfolding marks_bytes
length-marks_bytes k =
    let a : ℕ → Bool = λ s. not (k s nontrailer) in
    let b : ℕ → Bool = λ s. not (k s trailer) in
    omega (arith, length-append (words_bytes a 0 64) (words_bytes b 0 64), words-length a 0 64, words-length b 0 64)

pub length-text : (r : Row) → length (text_of r.entry) ≡ length r.entry.name + length r.entry.value
length-text r = length-append r.entry.name r.entry.value

-- the held size: the text, and 32 for each row
pub rows_size-text : (rs : List Row) → rows_size rs ≡ length (text_bytes rs) + 32 * length rs
unfolding rows_size total size text_bytes
rows_size-text [] = refl
rows_size-text (r ∷ rs) = omega (arith, length-append (text_of r.entry) (text_bytes rs), length-text r, rows_size-text rs)

-- ---- rows after rows

pub text_bytes-append : (xs ys : List Row) → text_bytes (xs ++ ys) ≡ text_bytes xs ++ text_bytes ys
unfolding text_bytes
text_bytes-append [] ys = refl
text_bytes-append (x ∷ xs) ys = rw (text_bytes-append xs ys) (sym (append_assoc (text_of x.entry) (text_bytes xs) (text_bytes ys)))

pub rows_size-append : (xs ys : List Row) → rows_size (xs ++ ys) ≡ rows_size xs + rows_size ys
unfolding rows_size total
rows_size-append [] ys = omega arith
rows_size-append (x ∷ xs) ys = omega (arith, rows_size-append xs ys)

pub fine-append : (xs ys : List Row) → FineRows xs → FineRows ys → FineRows (xs ++ ys)
fine-append [] ys p q = q
fine-append (x ∷ xs) ys p q = (p.0, fine-append xs ys p.1 q)

pub fine-left : (xs ys : List Row) → FineRows (xs ++ ys) → FineRows xs
fine-left [] ys p = tt
fine-left (x ∷ xs) ys p = (p.0, fine-left xs ys p.1)

pub fine-right : (xs ys : List Row) → FineRows (xs ++ ys) → FineRows ys
fine-right [] ys p = p
fine-right (x ∷ xs) ys p = fine-right xs ys p.1

-- ---- where the texts of rows start

-- those of the rows alone, without where the last one ends
unfoldable pub starts_from : ℕ → List Row → List ℕ
starts_from o [] = []
starts_from o (r ∷ rs) = o ∷ starts_from (o + length (text_of r.entry)) rs

pub length-starts : (o : ℕ) (rs : List Row) → length (starts_from o rs) ≡ length rs
unfolding starts_from
length-starts o [] = refl
length-starts o (r ∷ rs) = ap suc (length-starts (o + length (text_of r.entry)) rs)

pub length-offsets : (o : ℕ) (rs : List Row) → length (offsets_from o rs) ≡ length rs + 1
unfolding offsets_from
length-offsets o [] = refl
length-offsets o (r ∷ rs) = omega (arith, length-offsets (o + length (text_of r.entry)) rs)

pub offsets-append : (o : ℕ) (xs ys : List Row) → offsets_from o (xs ++ ys) ≡ starts_from o xs ++ offsets_from (o + length (text_bytes xs)) ys
unfolding offsets_from starts_from text_bytes
offsets-append o [] ys = let e : o ≡ o + 0 = omega arith in ap (λ (p : ℕ). offsets_from p ys) e
offsets-append o (x ∷ xs) ys =
    let w : List ℕ = text_of x.entry in
    let e : o + length w + length (text_bytes xs) ≡ o + length (w ++ text_bytes xs) = omega (arith, length-append w (text_bytes xs)) in
    ap (λ (l : List ℕ). o ∷ l) (offsets-append (o + length w) xs ys ∙ ap (λ (p : ℕ). starts_from (o + length w) xs ++ offsets_from p ys) e)

pub offsets-shift : (o t : ℕ) (rs : List Row) → offsets_from (o + t) rs ≡ map (λ (x : ℕ). x + t) (offsets_from o rs)
unfolding offsets_from
offsets-shift o t [] = refl
offsets-shift o t (r ∷ rs) =
    let n : ℕ = length (text_of r.entry) in
    let e : o + t + n ≡ o + n + t = omega arith in
    ap (λ (l : List ℕ). (o + t) ∷ l) (ap (λ (p : ℕ). offsets_from p rs) e ∙ offsets-shift (o + n) t rs)

-- ---- the numbers of the columns fit

pub indexes-fit : (rs : List Row) → FineRows rs → Fits 4 (map row_index rs)
indexes-fit [] F = tt
indexes-fit (r ∷ rs) F = (F.0.index, indexes-fit rs F.1)

pub offsets-fit : (o : ℕ) (rs : List Row) → o + length (text_bytes rs) < 65536 → Fits 2 (offsets_from o rs)
unfolding offsets_from text_bytes
offsets-fit o [] h = (omega arith, tt)
offsets-fit o (r ∷ rs) h =
    let w : List ℕ = text_of r.entry in
    let l = length-append w (text_bytes rs) in
    (omega arith, offsets-fit (o + length w) rs (omega arith))

pub names-fit : (rs : List Row) → FineRows rs → Fits 1 (map name_length rs)
names-fit [] F = tt
names-fit (r ∷ rs) F = (F.0.name, names-fit rs F.1)

pub statuses-fit : (rs : List Row) → FineRows rs → Fits 2 (map row_status rs)
statuses-fit [] F = tt
statuses-fit (r ∷ rs) F = (F.0.status, statuses-fit rs F.1)
