-- Memory made of pieces: what a store beside them keeps, and which pieces may be left out. By induction over the pieces.
use mathlib.Core.Path.{◌≡◌, refl, sym, ap, subst, ◌∙◌}
use Prim.Native.Nat.{ℕ, ◌+◌, ◌≤◌}
use native.Mathlib.Omega.{arith}
use mathlib.Core.List.{List, [], ◌∷◌, ◌++◌}
use lib.ListN.{length}
use Rattle.memory.specs.Bytes.{overlay, Has}
use Rattle.memory.proofs.Overlay.{length-overlay, overlay-comm, overlay-overlay, overlay-same}
use Rattle.memory.proofs.Places.{has-overlay, has-below, has_above}
use Rattle.columns.specs.Pieces.{Piece, piece, overlays, HasAll, InOrder}

pub length-overlays : (m : List ℕ) (ps : List Piece) → length (overlays m ps) ≡ length m
unfolding overlays
length-overlays m [] = refl
length-overlays m (p ∷ ps) = length-overlays (overlay m p.place p.bytes) ps ∙ length-overlay m p.place p.bytes

pub overlays-append : (m : List ℕ) (ps qs : List Piece) → overlays m (ps ++ qs) ≡ overlays (overlays m ps) qs
unfolding overlays
overlays-append m [] qs = refl
overlays-append m (p ∷ ps) qs = overlays-append (overlay m p.place p.bytes) ps qs

-- storing what stands there changes nothing
pub overlays-same : (m : List ℕ) (ps : List Piece) → HasAll m ps → overlays m ps ≡ m
unfolding overlays
overlays-same m [] h = refl
overlays-same m (p ∷ ps) h =
    ap (λ (l : List ℕ). overlays l ps) (overlay-same m p.place p.bytes h.0) ∙ overlays-same m ps h.1

-- ---- pieces in order

pub order-ends : (from end : ℕ) (ps : List Piece) → InOrder from end ps → from ≤ end
order-ends from end [] o = o
order-ends from end (p ∷ ps) o = omega (arith, o.0, order-ends (p.place + length p.bytes) end ps o.1)

-- the pieces behind one of them
pub order-rest : (from end : ℕ) (ps : List Piece) (q : Piece) (qs : List Piece) → InOrder from end (ps ++ (q ∷ qs))
    → InOrder (q.place + length q.bytes) end qs
order-rest from end [] q qs o = o.1
order-rest from end (p ∷ ps) q qs o = order-rest (p.place + length p.bytes) end ps q qs o.1

-- ---- a store beside pieces

-- one behind them may come first, and keeps them
pub overlays-beyond : (m : List ℕ) (at : ℕ) (xs : List ℕ) (from end : ℕ) (ps : List Piece) → InOrder from end ps → end ≤ at
    → overlays (overlay m at xs) ps ≡ overlay (overlays m ps) at xs
unfolding overlays
overlays-beyond m at xs from end [] o h = refl
overlays-beyond m at xs from end (p ∷ ps) o h =
    let b = order-ends (p.place + length p.bytes) end ps o.1 in
    ap (λ (l : List ℕ). overlays l ps) (sym (overlay-comm m p.place p.bytes at xs (omega arith)))
    ∙ overlays-beyond (overlay m p.place p.bytes) at xs (p.place + length p.bytes) end ps o.1 h

pub all-beyond : (m : List ℕ) (at : ℕ) (xs : List ℕ) (from end : ℕ) (ps : List Piece) → InOrder from end ps → end ≤ at
    → HasAll m ps → HasAll (overlay m at xs) ps
all-beyond m at xs from end [] o h a = tt
all-beyond m at xs from end (p ∷ ps) o h a =
    let b = order-ends (p.place + length p.bytes) end ps o.1 in (
      has-below m p.place p.bytes at xs (omega arith) a.0,
      all-beyond m at xs (p.place + length p.bytes) end ps o.1 h a.1,
    )

-- so does one before them
pub overlays-before : (m : List ℕ) (at : ℕ) (xs : List ℕ) (from end : ℕ) (ps : List Piece) → at + length xs ≤ from → InOrder from end ps
    → overlays (overlay m at xs) ps ≡ overlay (overlays m ps) at xs
unfolding overlays
overlays-before m at xs from end [] h o = refl
overlays-before m at xs from end (p ∷ ps) h o =
    let b = o.0 in
    ap (λ (l : List ℕ). overlays l ps) (overlay-comm m at xs p.place p.bytes (omega arith))
    ∙ overlays-before (overlay m p.place p.bytes) at xs (p.place + length p.bytes) end ps (omega arith) o.1

pub all-before : (m : List ℕ) (at : ℕ) (xs : List ℕ) (from end : ℕ) (ps : List Piece) → at + length xs ≤ from → InOrder from end ps
    → HasAll m ps → HasAll (overlay m at xs) ps
all-before m at xs from end [] h o a = tt
all-before m at xs from end (p ∷ ps) h o a =
    let b = o.0 in (
      has_above m p.place p.bytes at xs (omega arith) a.0,
      all-before m at xs (p.place + length p.bytes) end ps (omega arith) o.1 a.1,
    )

-- ---- what stands beside pieces stays

pub has-behind : (m : List ℕ) (from end : ℕ) (ps : List Piece) → InOrder from end ps → (at : ℕ) (xs : List ℕ) → end ≤ at
    → Has m at xs → Has (overlays m ps) at xs
unfolding overlays
has-behind m from end [] o at xs h a = a
has-behind m from end (p ∷ ps) o at xs h a =
    let b = order-ends (p.place + length p.bytes) end ps o.1 in
    has-behind (overlay m p.place p.bytes) (p.place + length p.bytes) end ps o.1 at xs h
    (has_above m at xs p.place p.bytes (omega arith) a)

pub has-ahead : (m : List ℕ) (from end : ℕ) (ps : List Piece) → InOrder from end ps → (at : ℕ) (xs : List ℕ) → at + length xs ≤ from
    → Has m at xs → Has (overlays m ps) at xs
unfolding overlays
has-ahead m from end [] o at xs h a = a
has-ahead m from end (p ∷ ps) o at xs h a =
    let b = o.0 in
    has-ahead (overlay m p.place p.bytes) (p.place + length p.bytes) end ps o.1 at xs (omega arith)
    (has-below m at xs p.place p.bytes (omega arith) a)

-- ---- all of them, and all but one

-- pieces that were stored stand
pub overlays-has : (m : List ℕ) (from end : ℕ) (ps : List Piece) → InOrder from end ps → end ≤ length m → HasAll (overlays m ps) ps
unfolding overlays
overlays-has m from end [] o h = tt
overlays-has m from end (p ∷ ps) o h =
    let b = order-ends (p.place + length p.bytes) end ps o.1 in
    let next : List ℕ = overlay m p.place p.bytes in (
      has-ahead next (p.place + length p.bytes) end ps o.1 p.place p.bytes (omega arith)
          (has-overlay m p.place p.bytes (omega arith)),
      overlays-has next (p.place + length p.bytes) end ps o.1 (omega (arith, length-overlay m p.place p.bytes)),
    )

-- a piece that stands already may be left out
pub overlays-standing : (m : List ℕ) (from end : ℕ) (ps : List Piece) (at : ℕ) (xs : List ℕ) (qs : List Piece) → InOrder from end ps → end ≤ at
    → Has m at xs → overlays m (ps ++ (piece at xs ∷ qs)) ≡ overlays m (ps ++ qs)
unfolding overlays
overlays-standing m from end ps at xs qs o h a =
    overlays-append m ps (piece at xs ∷ qs)
    ∙ ap (λ (l : List ℕ). overlays l qs) (overlay-same (overlays m ps) at xs (has-behind m from end ps o at xs h a))
    ∙ sym (overlays-append m ps qs)

-- one piece stored where the others stand
pub overlays-one : (m : List ℕ) (from end : ℕ) (ps : List Piece) (at : ℕ) (xs : List ℕ) (qs : List Piece)
    → InOrder from end (ps ++ (piece at xs ∷ qs)) → HasAll m ps → HasAll m qs → overlay m at xs ≡ overlays m (ps ++ (piece at xs ∷ qs))
unfolding overlays
overlays-one m from end ps at xs qs o a b =
    let behind : InOrder (at + length xs) end qs = order-rest from end ps (piece at xs) qs o in
    let kept : HasAll (overlay m at xs) qs = all-before m at xs (at + length xs) end qs (omega arith) behind b in
    sym (overlays-append m ps (piece at xs ∷ qs)
    ∙ ap (λ (l : List ℕ). overlays (overlay l at xs) qs) (overlays-same m ps a)
    ∙ overlays-same (overlay m at xs) qs kept)

-- ---- pieces over pieces

-- the same places and lengths, one by one
abbrev pub SameShape : List Piece → List Piece → Type 0
SameShape [] [] = Unit {0}
SameShape [] (q ∷ qs) = ⊥
SameShape (p ∷ ps) [] = ⊥
SameShape (p ∷ ps) (q ∷ qs) = (p.place ≡ q.place) × (length p.bytes ≡ length q.bytes) × SameShape ps qs

pub order_same : (from end : ℕ) (ps qs : List Piece) → SameShape ps qs → InOrder from end qs → InOrder from end ps
order_same from end [] [] s o = o
order_same from end [] (q ∷ qs) s o = absurd s
order_same from end (p ∷ ps) [] s o = absurd s
order_same from end (p ∷ ps) (q ∷ qs) s o =
    let b = o.0 in
    let d = s.0 in
    let n : q.place + length q.bytes ≡ p.place + length p.bytes = omega (arith, s.1) in
    (omega arith, subst (λ (k : ℕ). InOrder k end ps) n (order_same (q.place + length q.bytes) end ps qs s.2 o.1))

-- what is stored over is gone
pub overlays-over : (m : List ℕ) (from end : ℕ) (ps qs : List Piece) → SameShape ps qs → InOrder from end qs
    → overlays (overlays m ps) qs ≡ overlays m qs
unfolding overlays
overlays-over m from end [] [] s o = refl
overlays-over m from end [] (q ∷ qs) s o = absurd s
overlays-over m from end (p ∷ ps) [] s o = absurd s
overlays-over m from end (p ∷ ps) (q ∷ qs) s o =
    let stop : ℕ = q.place + length q.bytes in
    let first : overlay (overlay m p.place p.bytes) q.place q.bytes ≡ overlay m q.place q.bytes =
    ap (λ (k : ℕ). overlay (overlay m k p.bytes) q.place q.bytes) s.0 ∙ overlay-overlay m q.place p.bytes q.bytes s.1 in
    ap (λ (l : List ℕ). overlays l qs)
    (sym (overlays-before (overlay m p.place p.bytes) q.place q.bytes stop end ps (omega arith) (order_same stop end ps qs s.2 o.1))
    ∙ ap (λ (l : List ℕ). overlays l ps) first)
    ∙ overlays-over (overlay m q.place q.bytes) stop end ps qs s.2 o.1
