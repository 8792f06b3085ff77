-- The head, the marks and the columns of a fresh state: stores one behind the other are one run of their bytes.
use mathlib.Core.Path.{◌≡◌, refl, sym, ap, ◌∙◌}
use Prim.Native.Nat.{ℕ, ◌+◌}
use mathlib.Core.Bool.{true}
use mathlib.Core.List.{List, ◌++◌}
use lib.ListN.{length, replicate, set}
use Rattle.memory.specs.Bytes.{overlay}
use Rattle.memory.specs.Numbers.{number_bytes}
use Rattle.memory.proofs.Overlay.{overlay-append}
use Rattle.marks.specs.Marks.{words_bytes}
use Rattle.marks.proofs.Words.{words-length}
use Rattle.model.specs.Table.{total}
use Rattle.state.specs.Layout.{february, held_place, count_place, delete_count_place, indexes_place, offsets_place, before_first}
use Rattle.state.specs.Rows.{rows_size}
use Rattle.state.specs.Front.{head_bytes, marks_bytes}
use Rattle.table.specs.Changes.{fresh_front, started}

-- a run, and one right behind it
after : (l : List ℕ) (at n next : ℕ) (xs ys : List ℕ) → length xs ≡ n → at + n ≡ next → overlay l at (xs ++ ys) ≡ overlay (overlay l at xs) next ys
after l at n next xs ys e d = overlay-append l at xs ys ∙ ap (λ (k : ℕ). overlay (overlay l at xs) k ys) (ap (λ (k : ℕ). at + k) e ∙ d)

pub head-stored : (m a b c d e : List ℕ) (role limit : ℕ) → a ≡ overlay (set (set m 0 role) 1 february) 2 (number_bytes 2 limit)
    → b ≡ overlay a held_place (number_bytes 2 0) → c ≡ overlay b count_place (number_bytes 2 0) → d ≡ overlay c delete_count_place (number_bytes 2 0)
    → e ≡ overlay d 10 (replicate 54 0) → e ≡ overlay m 0 (head_bytes (fresh_front role limit))
unfolding head_bytes rows_size total number_bytes
head-stored m a b c d e role limit ea eb ec ed ee =
    ee ∙ ap (λ (l : List ℕ). overlay l 10 (replicate 54 0)) (ed ∙ ap (λ (l : List ℕ). overlay l delete_count_place (number_bytes 2 0)) (ec
    ∙ ap (λ (l : List ℕ). overlay l count_place (number_bytes 2 0)) (eb ∙ ap (λ (l : List ℕ). overlay l held_place (number_bytes 2 0)) ea)))

pub fresh-stored : (m a b c d : List ℕ) (role limit : ℕ) → a ≡ overlay m 0 (head_bytes (fresh_front role limit))
    → b ≡ overlay a 64 (words_bytes (λ s. true) 0 64) → c ≡ overlay b 576 (words_bytes (λ s. true) 0 64)
    → d ≡ overlay (overlay c indexes_place (number_bytes 4 before_first)) offsets_place (number_bytes 2 0) → d ≡ started m role limit
unfolding marks_bytes started
fresh-stored m a b c d role limit ea eb ec ed =
    let words : List ℕ = words_bytes (λ s. true) 0 64 in
    ed ∙ ap (λ (l : List ℕ). overlay (overlay l indexes_place (number_bytes 4 before_first)) offsets_place (number_bytes 2 0)) (ec
    ∙ ap (λ (l : List ℕ). overlay l 576 words) eb ∙ sym (after a 64 512 576 words words (words-length (λ s. true) 0 64) refl)
    ∙ ap (λ (l : List ℕ). overlay l 64 (words ++ words)) ea)
