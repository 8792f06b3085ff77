-- The horizons of entries of which one is new, freed or referred to: opening, closing and raising leave the two columns of the changed entries.
-- By the laws of columns, one column after the other.
use Prim.Native.Nat.{ℕ, suc, ◌+◌, ◌*◌, ◌≤◌, max}
use mathlib.Core.Path.{◌≡◌, refl, sym, ap, subst, ◌∙◌}
use native.Mathlib.Omega.{arith}
use mathlib.Core.List.{List, ◌∷◌, ◌++◌, map, map-append}
use lib.ListN.{length, length-map, length-append}
use Rattle.memory.specs.Bytes.{overlay, Has}
use Rattle.memory.specs.Numbers.{number_bytes}
use Rattle.memory.proofs.Overlay.{overlay-same}
use Rattle.memory.proofs.Places.{has_above}
use Rattle.columns.specs.Columns.{column_bytes, column_opened, column_closed, Reads}
use Rattle.columns.specs.Pieces.{HasAll, overlays}
use Rattle.columns.proofs.Columns.{column-opened, column-closed, column-set, reads_at}
use Rattle.model.specs.Parts.{Part, nontrailer, trailer}
use Rattle.model.specs.Encoder.{Sent, FineSent, referred}
use Rattle.state.specs.Layout.{nontrailer_horizons, trailer_horizons, horizon_at}
use Rattle.state.specs.EncoderState.{row_of_sent, nontrailer_of, trailer_of, horizon_pieces}
use Rattle.state_laws.proofs.Each.{Each}
use Rattle.state_laws.proofs.Horizons.{length-horizons, nontrailers-read, trailers-read}
use Rattle.horizons.specs.Horizons.{raised_at, raised, horizons_opened, horizons_closed}

-- ---- an entry referred to by a block on stream s

module _ (s : ℕ) where
  pub referred-index : (p : Part) (e : Sent) → (referred s p e).index ≡ e.index
  unfolding referred
  referred-index nontrailer e = refl
  referred-index trailer e = refl

  pub referred-row : (p : Part) (e : Sent) → row_of_sent (referred s p e) ≡ row_of_sent e
  unfolding referred row_of_sent
  referred-row nontrailer e = refl
  referred-row trailer e = refl

-- ---- one column, of the numbers that f has of entries

module _ (f : Sent → ℕ) (m : List ℕ) (at : ℕ) (xs : List Sent) (e : Sent) (ys : List Sent) where
  abbrev column : List Sent → List ℕ
  column es = column_bytes 2 (map f es)

  opened : f e ≡ 0 → Has m at (column (xs ++ ys)) → column_opened 2 m at (length xs) (length (xs ++ ys)) 0 ≡ overlay m at (column (xs ++ e ∷ ys))
  opened none has =
      let count : length (map f xs) + length (map f ys) ≡ length (xs ++ ys) = omega (arith, length-map xs f, length-map ys f, length-append xs ys) in
      let stands = subst (λ (l : List ℕ). Has m at (column_bytes 2 l)) (map-append f xs ys) has in
      (λ k. column_opened 2 m at (sym (length-map xs f) k) (sym count k) (sym none k))
      ∙ column-opened 2 m at (map f xs) (map f ys) (f e) stands
      ∙ ap (λ (l : List ℕ). overlay m at (column_bytes 2 l)) (sym (map-append f xs (e ∷ ys)))

  closed : Has m at (column (xs ++ e ∷ ys)) → column_closed 2 m at (length xs) (length (xs ++ e ∷ ys)) ≡ overlay m at (column (xs ++ ys))
  closed has =
      let count : length (map f xs) + (length (map f ys) + 1) ≡ length (xs ++ e ∷ ys) =
      omega (arith, length-map xs f, length-map ys f, length-append xs (e ∷ ys)) in
      let stands = subst (λ (l : List ℕ). Has m at (column_bytes 2 l)) (map-append f xs (e ∷ ys)) has in
      (λ k. column_closed 2 m at (sym (length-map xs f) k) (sym count k))
      ∙ column-closed 2 m at (map f xs) (f e) (map f ys) stands
      ∙ ap (λ (l : List ℕ). overlay m at (column_bytes 2 l)) (sym (map-append f xs ys))

  read : Reads 2 m at (map f (xs ++ e ∷ ys)) → horizon_at m (at + 2 * length xs) ≡ f e
  read reads =
      ap (λ (n : ℕ). horizon_at m (at + 2 * n)) (sym (length-map xs f))
      ∙ reads_at 2 m at (map f xs) (f e) (map f ys) (subst (Reads 2 m at) (map-append f xs (e ∷ ys)) reads)

  -- raised at the entry: d is the entry with what that leaves
  raises : (d : Sent) (s : ℕ) → f d ≡ max (f e) (suc s) → Reads 2 m at (map f (xs ++ e ∷ ys)) → Has m at (column (xs ++ e ∷ ys))
      → raised_at m (at + 2 * length xs) s ≡ overlay m at (column (xs ++ d ∷ ys))
  unfolding raised_at
  raises d s is reads has =
      let stands = subst (λ (l : List ℕ). Has m at (column_bytes 2 l)) (map-append f xs (e ∷ ys)) has in
      ap (λ (n : ℕ). overlay m (at + 2 * length xs) (number_bytes 2 n)) (ap (λ (n : ℕ). max n (suc s)) (read reads) ∙ sym is)
      ∙ ap (λ (n : ℕ). overlay m (at + 2 * n) (number_bytes 2 (f d))) (sym (length-map xs f))
      ∙ column-set 2 m at (map f xs) (f e) (map f ys) (f d) stands
      ∙ ap (λ (l : List ℕ). overlay m at (column_bytes 2 l)) (sym (map-append f xs (d ∷ ys)))

-- ---- the two columns

-- one that stands behind the first stays where the first is stored
behind : (m : List ℕ) (es : List Sent) (bytes : List ℕ) → length es ≤ 128 → Has m trailer_horizons bytes
    → Has (overlay m nontrailer_horizons (column_bytes 2 (map nontrailer_of es))) trailer_horizons bytes
behind m es bytes few has =
    has_above m trailer_horizons bytes nontrailer_horizons (column_bytes 2 (map nontrailer_of es)) (omega (arith, length-horizons nontrailer_of es)) has

module _ (m : List ℕ) (xs : List Sent) (e : Sent) (ys : List Sent) where
  pub opens-horizons : length (xs ++ e ∷ ys) ≤ 128 → e.nontrailer ≡ 0 → e.trailer ≡ 0 → HasAll m (horizon_pieces (xs ++ ys))
      → horizons_opened m (length xs) (length (xs ++ ys)) ≡ overlays m (horizon_pieces (xs ++ e ∷ ys))
  unfolding horizons_opened overlays
  opens-horizons few p t has =
      let once : List ℕ = overlay m nontrailer_horizons (column_bytes 2 (map nontrailer_of (xs ++ e ∷ ys))) in
      ap (λ (l : List ℕ). column_opened 2 l trailer_horizons (length xs) (length (xs ++ ys)) 0) (opened nontrailer_of m nontrailer_horizons xs e ys p has.0)
      ∙ opened trailer_of once trailer_horizons xs e ys t (behind m (xs ++ e ∷ ys) (column_bytes 2 (map trailer_of (xs ++ ys))) few has.1.0)

  module _ (few : length (xs ++ e ∷ ys) ≤ 128) (has : HasAll m (horizon_pieces (xs ++ e ∷ ys))) where
    pub closes-horizons : horizons_closed m (length xs) (length (xs ++ e ∷ ys)) ≡ overlays m (horizon_pieces (xs ++ ys))
    unfolding horizons_closed overlays
    closes-horizons =
        let once : List ℕ = overlay m nontrailer_horizons (column_bytes 2 (map nontrailer_of (xs ++ ys))) in
        let fewer : length (xs ++ ys) ≤ 128 = omega (arith, length-append xs ys, length-append xs (e ∷ ys)) in
        ap (λ (l : List ℕ). column_closed 2 l trailer_horizons (length xs) (length (xs ++ e ∷ ys))) (closed nontrailer_of m nontrailer_horizons xs e ys has.0)
        ∙ closed trailer_of once trailer_horizons xs e ys (behind m (xs ++ ys) (column_bytes 2 (map trailer_of (xs ++ e ∷ ys))) fewer has.1.0)

    module _ (fine : Each FineSent (xs ++ e ∷ ys)) (s : ℕ) where
      -- the other column is that of the entries as they were
      beside : (f : Sent → ℕ) (d : Sent) → f d ≡ f e → column_bytes 2 (map f (xs ++ d ∷ ys)) ≡ column_bytes 2 (map f (xs ++ e ∷ ys))
      beside f d same =
          ap (column_bytes 2) (map-append f xs (d ∷ ys) ∙ ap (λ (n : ℕ). map f xs ++ n ∷ map f ys) same ∙ sym (map-append f xs (e ∷ ys)))

      pub raises-horizon : (p : Part) → raised m (length xs) p s ≡ overlays m (horizon_pieces (xs ++ referred s p e ∷ ys))
      unfolding overlays referred
      raises-horizon nontrailer =
          let d : Sent = referred s nontrailer e in
          let one : List ℕ = column_bytes 2 (map nontrailer_of (xs ++ d ∷ ys)) in
          let other : List ℕ = column_bytes 2 (map trailer_of (xs ++ d ∷ ys)) in
          let same : other ≡ column_bytes 2 (map trailer_of (xs ++ e ∷ ys)) = beside trailer_of d refl in
          let fewer : length (xs ++ d ∷ ys) ≤ 128 = omega (arith, length-append xs (d ∷ ys), length-append xs (e ∷ ys)) in
          raises nontrailer_of m nontrailer_horizons xs e ys d s refl (nontrailers-read m (xs ++ e ∷ ys) fine has) has.0
          ∙ sym (overlay-same (overlay m nontrailer_horizons one) trailer_horizons other
          (behind m (xs ++ d ∷ ys) other fewer (subst (Has m trailer_horizons) (sym same) has.1.0)))
      raises-horizon trailer =
          let d : Sent = referred s trailer e in
          let one : List ℕ = column_bytes 2 (map nontrailer_of (xs ++ d ∷ ys)) in
          let other : List ℕ = column_bytes 2 (map trailer_of (xs ++ d ∷ ys)) in
          let same : one ≡ column_bytes 2 (map nontrailer_of (xs ++ e ∷ ys)) = beside nontrailer_of d refl in
          raises trailer_of m trailer_horizons xs e ys d s refl (trailers-read m (xs ++ e ∷ ys) fine has) has.1.0
          ∙ ap (λ (l : List ℕ). overlay l trailer_horizons other)
          (sym (overlay-same m nontrailer_horizons one (subst (Has m nontrailer_horizons) (sym same) has.0)))
