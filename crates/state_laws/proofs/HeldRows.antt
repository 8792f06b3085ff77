-- Rows and the entries of a decoder: the rows of a well-formed state are good, and each points at the entry's delete; good rows that do are those of
-- the entries that are read from them. By induction over the rows.
use mathlib.Core.Path.{◌≡◌, refl, sym, ap, ap₂, ◌∙◌}
use Prim.Native.Nat.{ℕ, suc, ◌+◌, ◌≤◌, ◌<◌}
use native.Mathlib.Omega.{arith}
use mathlib.Core.Bool.{true}
use mathlib.Core.List.{List, [], ◌∷◌, map}
use lib.ListN.{length, length-map}
use Rattle.integers.specs.Integer.{largest}
use Rattle.model.specs.Table.{size, Ascending, look, total}
use Rattle.model.specs.Parts.{Delete}
use Rattle.model.specs.Decoder.{Held, held_index, delete_index, Decoder, held_size, is_some, FineHeld, FineDelete}
use Rattle.model_laws.proofs.Tables.{look-index}
use Rattle.model_laws.proofs.DecoderWays.{some-found}
use Rattle.state.specs.Rows.{Row, row_index, rows_size}
use Rattle.state.specs.DecoderState.{held_of_row, place_from, row_of_held, decoder_front}
use Rattle.state_laws.specs.Laws.{FitsDecoder}
use Rattle.state_laws.proofs.FrontHolds.{FineRows, FineFront}
use Rattle.state_laws.proofs.RowsTest.{GoodRows}
use Rattle.state_laws.proofs.Each.{Each, each-weak, each-found, found-each}
use Rattle.state_laws.proofs.Look.{distinct-each, found-made, asc-made}
use Rattle.state_laws.proofs.DeletesRead.{FineLists}
use Rattle.state_laws.proofs.Pointing.{Points, pointed-few, points-few, Tied, tied-points, tied-counted}

-- ---- one read from the other

pub held_back : (ds : List Delete) (es : List Held) → map held_of_row (map (row_of_held ds) es) ≡ es
unfolding row_of_held
held_back ds [] = refl
held_back ds (h ∷ es) = ap (λ (l : List Held). h ∷ l) (held_back ds es)

-- rows whose status is the place of their delete
abbrev pub Placed : List Delete → List Row → Type 0
Placed ds rs = Each (λ r. r.status ≡ place_from 0 r.index ds) rs

pub rows_back : (ds : List Delete) (rs : List Row) → Placed ds rs → map (row_of_held ds) (map held_of_row rs) ≡ rs
unfolding row_of_held
rows_back ds [] p = refl
rows_back ds (r ∷ rs) p =
    ap₂ (λ (x : Row) (xs : List Row). x ∷ xs) (λ k. record { index = r.index; entry = r.entry; status = sym p.0 k }) (rows_back ds rs p.1)

placed : (ds : List Delete) (es : List Held) → Placed ds (map (row_of_held ds) es)
unfolding row_of_held
placed ds [] = tt
placed ds (h ∷ es) = (refl, placed ds es)

pub rows-size : (rs : List Row) → held_size (map held_of_row rs) ≡ rows_size rs
unfolding held_size rows_size total
rows-size [] = refl
rows-size (r ∷ rs) = ap (λ (n : ℕ). size r.entry + n) (rows-size rs)

-- ---- good rows

pub good-fine : (low : ℕ) (rs : List Row) → 62 ≤ low → GoodRows largest low rs → Each FineHeld (map held_of_row rs)
good-fine low [] h good = tt
good-fine low (r ∷ rs) h good =
    let g = good.0 in
    let above = g.above in (
      record { index = (omega arith, g.below); name = g.name; value = g.value },
      good-fine (suc r.index) rs (omega arith) good.1,
    )

fine-good : (ds : List Delete) (low : ℕ) (es : List Held) → Ascending held_index low es → Each FineHeld es
    → GoodRows largest low (map (row_of_held ds) es)
unfolding row_of_held
fine-good ds low [] order fine = tt
fine-good ds low (h ∷ es) order fine =
    let f = fine.0 in (
      record { above = order.0; below = f.index.1; name = f.name; value = f.value },
      fine-good ds (suc h.index) es order.1 fine.1,
    )

good-rows-fine : (low : ℕ) (rs : List Row) → GoodRows largest low rs → Each (λ r. r.status < 65536) rs → FineRows rs
good-rows-fine low [] good few = tt
good-rows-fine low (r ∷ rs) good few =
    let g = good.0 in (
      record { index = omega (arith, g.below); name = omega (arith, g.name); status = few.0 },
      good-rows-fine (suc r.index) rs good.1 few.1,
    )

-- ---- the rows of a well-formed state

module _ (D : Decoder) (fits : FitsDecoder D) where
  abbrev rows : List Row
  rows = map (row_of_held D.deletes) D.entries

  fine-entries : Each FineHeld D.entries
  fine-entries = found-each FineHeld held_index 62 D.entries fits.forms.order fits.forms.entries

  fine-deletes : Each (FineDelete D) D.deletes
  fine-deletes = distinct-each delete_index (FineDelete D) D.deletes fits.forms.once fits.forms.deletes

  pub fits-good : GoodRows largest 62 rows
  fits-good = fine-good D.deletes 62 D.entries fits.forms.order fine-entries

  pub fits-order : Ascending row_index 62 rows
  unfolding row_of_held
  fits-order = asc-made row_index (row_of_held D.deletes) 62 D.entries fits.forms.order

  pub fits-tied : Tied D.deletes rows
  unfolding row_of_held
  fits-tied = record {
    places = placed D.deletes D.entries;
    held = each-weak (FineDelete D) (λ d. is_some (look row_index d.index rows) ≡ true)
        (λ d f. found-made row_index (row_of_held D.deletes) d.index D.entries ∙ f.held) D.deletes fine-deletes;
    once = fits.forms.once;
  }

  pub fits-few : length D.deletes ≤ 128
  fits-few =
      omega (
        arith,
        tied-counted D.deletes 62 rows fits-order fits-tied,
        pointed-few rows,
        length-map D.entries (row_of_held D.deletes),
        fits.forms.few,
      )

  pub fits-lists : Each FineLists D.deletes
  fits-lists = each-weak (FineDelete D) FineLists fine D.deletes fine-deletes
    where
      fine : (d : Delete) → FineDelete D d → FineLists d
      fine d f =
          let h = some-found (look held_index d.index D.entries) f.held in
          let e : h.0.index ≡ d.index = look-index held_index d.index D.entries h.0 h.1 in
          let i = (each-found FineHeld held_index D.entries fine-entries d.index h.0 h.1).index.1 in
          record { index = omega arith; nontrailer = f.nontrailer; trailer = f.trailer }

  pub fits-front : FineFront (decoder_front D)
  unfolding decoder_front
  fits-front = record {
    limit = omega (arith, fits.forms.limit);
    few = omega (arith, length-map D.entries (row_of_held D.deletes), fits.forms.few);
    fits = rw (sym (held_back D.deletes D.entries), rows-size rows) at fits.forms.fits;
    deletes = omega (arith, fits-few);
    rows = good-rows-fine 62 rows fits-good
        (each-weak (Points D.deletes) (λ r. r.status < 65536) (λ r p. omega (arith, points-few D.deletes r p, fits-few)) rows
        (tied-points D.deletes 62 rows fits-order fits-tied));
  }
