-- The rows of a decoder's entries after a change: a new entry's row, and the rows of the others with the places of their deletes. By induction over the entries.
use Prim.Native.Nat.{ℕ, suc, ◌+◌, ◌-◌, ◌<◌}
use mathlib.Core.Path.{◌≡◌, refl, sym, ap, ◌∙◌}
use native.Mathlib.Omega.{arith}
use mathlib.Core.Option.{none, some}
use mathlib.Core.List.{List, [], ◌∷◌, ◌++◌, map}
use lib.Dec.{ltb}
use lib.ListN.{length}
use Rattle.memory.specs.Choice.{pick}
use Rattle.model.specs.Table.{look, cut}
use Rattle.model.specs.Parts.{Delete}
use Rattle.model.specs.Decoder.{Held, held_index, delete_index}
use Rattle.model_laws.proofs.Tables.{pick-eq, pick_yes, pick_no, look_none}
use Rattle.state.specs.Rows.{Row}
use Rattle.state.specs.DecoderState.{place_from, row_of_held}
use Rattle.state_laws.proofs.Pointing.{pointed, pointed-few}
use Rattle.table_laws.proofs.Finding.{FoundAt}
use Rattle.table_laws.proofs.FrontRows.{with_status, lowered}
use Rattle.table_laws.proofs.FrontFits.{new_row}
use Rattle.table_laws.proofs.DecoderPlaces.{place_none, place_other, place-new, place-dropped}

-- what is not found is in neither part
pub none_left : {X : Type 0} (index : X → ℕ) (i : ℕ) (xs ys : List X) → look index i (xs ++ ys) ≡ none → look index i xs ≡ none
unfolding look
none_left index i [] ys e = refl
none_left index i (x ∷ xs) ys e =
    let n = look_none index i x (xs ++ ys) e in
    pick_no (index x) i (some x) (look index i xs) n.0 ∙ none_left index i xs ys n.1

pub none_right : {X : Type 0} (index : X → ℕ) (i : ℕ) (xs ys : List X) → look index i (xs ++ ys) ≡ none → look index i ys ≡ none
none_right index i [] ys e = e
none_right index i (x ∷ xs) ys e = none_right index i xs ys (look_none index i x (xs ++ ys) e).1

-- fewer rows than there are point at a delete, where one points at none
pub pointed-less : (xs : List Row) (r : Row) (ys : List Row) → r.status ≡ 0 → pointed (xs ++ r ∷ ys) < length (xs ++ r ∷ ys)
unfolding pointed
pointed-less [] r ys e = omega (arith, pick_yes {A = ℕ} r.status 0 0 1 e, pointed-few ys)
pointed-less (x ∷ xs) r ys e =
    let w = pointed-less xs r ys e in
    pick-eq (λ (t : ℕ). t + pointed (xs ++ r ∷ ys) < suc (length (xs ++ r ∷ ys))) x.status 0 0 1 (λ h. omega arith) (λ h. omega arith)

module _ (ds : List Delete) where
  -- an entry that is put in
  pub row_new : (x : ℕ) (name value : List ℕ) → look delete_index x ds ≡ none
      → row_of_held ds (record { index = x; entry = record { name = name; value = value } }) ≡ new_row x name value
  unfolding row_of_held
  row_new x name value e = λ k. record { index = x; entry = record { name = name; value = value }; status = place_none x 0 ds e k }

  -- a delete that is kept, with the entry's row and the others
  module _ (d : Delete) where
    pub row_kept : (h : Held) → h.index ≡ d.index → look delete_index d.index ds ≡ none
        → row_of_held (ds ++ d ∷ []) h ≡ with_status (row_of_held ds h) (length ds + 1)
    unfolding row_of_held
    row_kept h e n =
        let s : place_from 0 h.index (ds ++ d ∷ []) ≡ length ds + 1 = omega (arith, place-new h.index 0 ds d (sym e) (rw e n)) in
        λ k. record { index = h.index; entry = h.entry; status = s k }

    pub rows-kept : (es : List Held) → look held_index d.index es ≡ none → map (row_of_held (ds ++ d ∷ [])) es ≡ map (row_of_held ds) es
    unfolding row_of_held
    rows-kept [] e = refl
    rows-kept (h ∷ es) e =
        let n = look_none held_index d.index h es e in
        let s : place_from 0 h.index (ds ++ d ∷ []) ≡ place_from 0 h.index ds = place_other h.index 0 ds d (λ z. n.0 (sym z)) in
        λ k. record { index = h.index; entry = h.entry; status = s k } ∷ rows-kept es n.1 k

  -- a delete that is dropped
  module _ (x p : ℕ) (F : FoundAt delete_index x p ds) where
    place-less : (i : ℕ) → (x ≡ i → ⊥) → place_from 0 i (cut delete_index x ds) ≡ pick (ltb (p + 1) (place_from 0 i ds)) (place_from 0 i ds - 1) (place_from 0 i ds)
    place-less i n =
        ap (place_from 0 i) F.rest
        ∙ place-dropped i (p + 1) 0 F.before F.entry F.after (omega (arith, F.at)) (λ z. n (sym F.has ∙ z))
        ∙ ap (λ (l : List Delete). pick (ltb (p + 1) (place_from 0 i l)) (place_from 0 i l - 1) (place_from 0 i l)) (sym F.is)

    pub rows_dropped : (es : List Held) → look held_index x es ≡ none
        → map (row_of_held (cut delete_index x ds)) es ≡ map (lowered (p + 1)) (map (row_of_held ds) es)
    unfolding row_of_held
    rows_dropped [] e = refl
    rows_dropped (h ∷ es) e =
        let n = look_none held_index x h es e in
        let s = place-less h.index (λ z. n.0 (sym z)) in
        λ k. record { index = h.index; entry = h.entry; status = s k } ∷ rows_dropped es n.1 k
