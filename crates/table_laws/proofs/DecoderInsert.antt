-- An entry put into memory that holds a decoder's state is the next state over it: the front has its row, and the deletes stand already.
use Prim.Native.Nat.{ℕ, ◌+◌, ◌≤◌, ◌<◌}
use mathlib.Core.Path.{◌≡◌, refl, sym, ap, subst, ◌∙◌}
use native.Mathlib.Omega.{arith}
use mathlib.Core.List.{List, ◌∷◌, ◌++◌, map, map-append}
use lib.ListN.{length, length-map}
use Rattle.instructions.specs.Instruction.{FineIndex}
use Rattle.model.specs.Table.{put}
use Rattle.model.specs.Parts.{Delete}
use Rattle.model.specs.Decoder.{Held, held_index, Decoder, with_entries}
use Rattle.state.specs.Layout.{held_of, count_of}
use Rattle.state.specs.Rows.{Row, rows_size}
use Rattle.state.specs.Front.{Front, with_rows}
use Rattle.state.specs.DecoderState.{row_of_held, decoder_front, overlay_decoder}
use Rattle.state_laws.proofs.DecoderHolds.{HoldsDecoder}
use Rattle.table.specs.Changes.{Opening, NamedHere, inserted}
use Rattle.table_laws.proofs.FrontFits.{new_row, insert-fits}
use Rattle.table_laws.proofs.FrontOpening.{opening-front, named-front}
use Rattle.table_laws.proofs.FrontInsert.{insert-front}
use Rattle.table_laws.proofs.Finding.{MissingAt}
use Rattle.table_laws.proofs.DecoderRows.{row_new}
use Rattle.table_laws.proofs.DecoderSearches.{rows_are, length-is, size_is, held-is, count-is, no-delete}
use Rattle.table_laws.proofs.DecoderFronts.{front-only}

module _ (D : Decoder) (m : List ℕ) (H : HoldsDecoder D m) (x p : ℕ) (F : MissingAt held_index x p D.entries) where
  abbrev ds : List Delete
  ds = D.deletes

  abbrev f : Front
  f = decoder_front D

  abbrev xs : List Row
  xs = map (row_of_held ds) F.before

  abbrev ys : List Row
  ys = map (row_of_held ds) F.after

  -- the rows where the entry goes in
  parted-rows : f.rows ≡ xs ++ ys
  parted-rows = rows_are D m H ∙ ap (map (row_of_held ds)) F.is ∙ map-append (row_of_held ds) F.before F.after

  before-is : length xs ≡ p
  before-is = length-map F.before (row_of_held ds) ∙ F.at

  pub opening-decoder : (name value : ℕ) → held_of m + (name + value + 32) ≤ 4096 → count_of m < 128 → name ≤ 255 → Opening m p name value
  opening-decoder name value room few short =
      subst (λ (q : ℕ). Opening m q name value) before-is
      (opening-front f m H.front xs ys parted-rows name value (omega (arith, held-is D m H, size_is D m H)) (omega (arith, count-is D m H, length-is D m H))
      short)

  pub named-decoder : (row : ℕ) → row < count_of m → NamedHere m p row
  named-decoder row h =
      subst (λ (q : ℕ). NamedHere m q row) before-is
      (named-front f m H.front xs ys parted-rows row (omega (arith, count-is D m H, length-is D m H)))

  module _ (name value : List ℕ) (fine : FineIndex x) (room : held_of m + (length name + length value + 32) ≤ 4096) (few : count_of m < 128)
      (short : length name ≤ 255) where
    abbrev new : Held
    new = record { index = x; entry = record { name = name; value = value } }

    abbrev next : Decoder
    next = with_entries D (put held_index new D.entries)

    rows_next : xs ++ new_row x name value ∷ ys ≡ map (row_of_held ds) (put held_index new D.entries)
    rows_next =
        ap (λ (r : Row). xs ++ r ∷ ys) (sym (row_new ds x name value (no-delete D m H x F.looked)))
        ∙ sym (ap (map (row_of_held ds)) (F.into new refl) ∙ map-append (row_of_held ds) F.before (new ∷ F.after))

    front-next : with_rows f (xs ++ new_row x name value ∷ ys) ≡ decoder_front next
    unfolding decoder_front
    front-next = ap (with_rows f) rows_next

    pub insert-decoder : inserted m p x name value ≡ overlay_decoder next m
    insert-decoder =
        let g : Front = with_rows f (xs ++ new_row x name value ∷ ys) in
        let a : rows_size f.rows + (length name + length value + 32) ≤ 4096 = omega (arith, held-is D m H, size_is D m H) in
        let b : length f.rows < 128 = omega (arith, count-is D m H, length-is D m H) in
        ap (λ (q : ℕ). inserted m q x name value) (sym before-is)
        ∙ insert-front f m H.front xs ys parted-rows x name value a b (omega (arith, fine.1)) short
        ∙ front-only D next g m H (insert-fits f H.front.fine xs ys parted-rows x name value a b (omega (arith, fine.1)) short) front-next refl
