-- Runs of stores: what they change and what they keep. By induction over the stored elements; two overlays by their elements.
use mathlib.Core.Path.{◌≡◌, refl, sym, ap, ◌∙◌}
use Prim.Native.Nat.{ℕ, zero, suc, ◌+◌, ◌-◌, ◌≤◌, ◌<◌}
use native.Mathlib.Omega.{arith}
use native.Mathlib.Nat.{add-zero}
use native.Mathlib.Numerals.{add-one}
use mathlib.Core.List.{List, [], ◌∷◌, ◌++◌, append-nil}
use Rattle.std.proofs.Common.{append_assoc}
use lib.ListN.{length, get_or, take, drop, set, length-set, drop_of_length-le}
use lib.Seq.{get_or-set_other, set-get_or, set-set, set_comm, take-set-le, drop-set-lt, set-append_left, get_or-drop, drop-drop, sets, sets-eq}
use borrow.Rule.Slice.PartMut.{put_mid}
use Rattle.memory.specs.Bytes.{part, overlay, Has, Small}

pub length-overlay : (l : List ℕ) (i : ℕ) (vs : List ℕ) → length (overlay l i vs) ≡ length l
length-overlay l i [] = refl
length-overlay l i (v ∷ vs) = length-overlay (set l i v) (i + 1) vs ∙ length-set l i v

-- an overlay leaves what is before it
pub overlay-before : (l : List ℕ) (i : ℕ) (vs : List ℕ) (j : ℕ) → j < i → get_or (overlay l i vs) j 0 ≡ get_or l j 0
overlay-before l i [] j h = refl
overlay-before l i (v ∷ vs) j h =
    overlay-before (set l i v) (i + 1) vs j (omega arith) ∙ get_or-set_other l i j v 0 (λ e. omega arith)

-- and what is after it
pub overlay-after : (l : List ℕ) (i : ℕ) (vs : List ℕ) (j : ℕ) → i + length vs ≤ j → get_or (overlay l i vs) j 0 ≡ get_or l j 0
overlay-after l i [] j h = refl
overlay-after l i (v ∷ vs) j h =
    overlay-after (set l i v) (i + 1) vs j (omega arith) ∙ get_or-set_other l i j v 0 (λ e. omega arith)

pub take-overlay : (l : List ℕ) (i : ℕ) (vs : List ℕ) (n : ℕ) → n ≤ i → take n (overlay l i vs) ≡ take n l
take-overlay l i [] n h = refl
take-overlay l i (v ∷ vs) n h = take-overlay (set l i v) (i + 1) vs n (omega arith) ∙ take-set-le n l i v h

pub drop-overlay : (l : List ℕ) (i : ℕ) (vs : List ℕ) (n : ℕ) → i + length vs ≤ n → drop n (overlay l i vs) ≡ drop n l
drop-overlay l i [] n h = refl
drop-overlay l i (v ∷ vs) n h = drop-overlay (set l i v) (i + 1) vs n (omega arith) ∙ drop-set-lt n l i v (omega arith)

-- one overlay after the other
pub overlay-append : (l : List ℕ) (i : ℕ) (xs ys : List ℕ) → overlay l i (xs ++ ys) ≡ overlay (overlay l i xs) (i + length xs) ys
overlay-append l i [] ys = rw add-zero refl
overlay-append l i (x ∷ xs) ys =
    let e : i + suc (length xs) ≡ i + 1 + length xs = omega arith in
    rw e (overlay-append (set l i x) (i + 1) xs ys)

-- a store before or after an overlay may come first
pub set-overlay : (l : List ℕ) (i : ℕ) (vs : List ℕ) (j v : ℕ) → j < i → overlay (set l j v) i vs ≡ set (overlay l i vs) j v
set-overlay l i [] j v h = refl
set-overlay l i (x ∷ vs) j v h =
    ap (λ (m : List ℕ). overlay m (i + 1) vs) (set_comm l j i v x (λ e. omega arith)) ∙ set-overlay (set l i x) (i + 1) vs j v (omega arith)

-- overlays of parts that are apart commute
pub overlay-comm : (l : List ℕ) (i : ℕ) (xs : List ℕ) (j : ℕ) (ys : List ℕ) → i + length xs ≤ j
    → overlay (overlay l i xs) j ys ≡ overlay (overlay l j ys) i xs
overlay-comm l i [] j ys h = refl
overlay-comm l i (x ∷ xs) j ys h =
    overlay-comm (set l i x) (i + 1) xs j ys (omega arith)
    ∙ ap (λ (m : List ℕ). overlay m (i + 1) xs) (set-overlay l j ys i x (omega arith))

-- what is stored over is gone
pub overlay-overlay : (l : List ℕ) (i : ℕ) (xs ys : List ℕ) → length xs ≡ length ys → overlay (overlay l i xs) i ys ≡ overlay l i ys
overlay-overlay l i [] [] e = refl
overlay-overlay l i [] (y ∷ ys) e = absurd (omega arith)
overlay-overlay l i (x ∷ xs) [] e = absurd (omega arith)
overlay-overlay l i (x ∷ xs) (y ∷ ys) e =
    let first : set (overlay (set l i x) (i + 1) xs) i y ≡ overlay (set l i y) (i + 1) xs =
    sym (set-overlay (set l i x) (i + 1) xs i y (omega arith)) ∙ ap (λ (m : List ℕ). overlay m (i + 1) xs) (set-set l i x y)
    in
    ap (λ (m : List ℕ). overlay m (i + 1) ys) first ∙ overlay-overlay (set l i y) (i + 1) xs ys (omega arith)

-- storing what stands there changes nothing
pub overlay-same : (l : List ℕ) (i : ℕ) (vs : List ℕ) → Has l i vs → overlay l i vs ≡ l
overlay-same l i [] h = refl
overlay-same l i (v ∷ vs) h =
    let e : set l i v ≡ l = ap (set l i) (sym h.1) ∙ set-get_or l i 0 in
    ap (λ (m : List ℕ). overlay m (i + 1) vs) e ∙ overlay-same l (i + 1) vs h.2

-- the library's run of stores
pub overlay-sets : (l : List ℕ) (i : ℕ) (vs : List ℕ) → overlay l i vs ≡ sets l i vs
overlay-sets l i [] = refl
overlay-sets l i (v ∷ vs) = overlay-sets (set l i v) (i + 1) vs ∙ ap (λ (k : ℕ). sets (set l i v) k vs) (add-one i)

-- what is before, what is stored, and what is after
pub overlay-split : (l : List ℕ) (i : ℕ) (vs : List ℕ) → i + length vs ≤ length l
    → overlay l i vs ≡ take i l ++ vs ++ drop (i + length vs) l
overlay-split l i vs h = overlay-sets l i vs ∙ sets-eq vs l i h

-- a part of a lent slice written as a whole
pub mid-overlay : (l vs : List ℕ) (i n : ℕ) → i + n ≤ length l → length vs ≡ n → put_mid i (i + n - i) l vs ≡ overlay l i vs
mid-overlay l vs i n h e =
    let d : i + n - i ≡ length vs = omega arith in
    ap (λ (k : ℕ). take i l ++ (vs ++ drop k (drop i l))) d
    ∙ ap (λ (r : List ℕ). take i l ++ (vs ++ r)) (drop-drop (length vs) i l)
    ∙ sym (append_assoc (take i l) vs (drop (i + length vs) l))
    ∙ sym (overlay-split l i vs (omega arith))

-- an overlay of the whole list
pub overlay-all : (l vs : List ℕ) → length vs ≡ length l → overlay l 0 vs ≡ vs
overlay-all l vs e =
    let d : drop (0 + length vs) l ≡ [] = drop_of_length-le l {i = 0 + length vs} (omega arith) in
    overlay-split l 0 vs (omega arith) ∙ ap (λ (r : List ℕ). vs ++ r) d ∙ append-nil vs

-- an overlay within the first of two lists
pub overlay-left : (s t : List ℕ) (i : ℕ) (vs : List ℕ) → i + length vs ≤ length s → overlay (s ++ t) i vs ≡ overlay s i vs ++ t
overlay-left s t i [] h = refl
overlay-left s t i (v ∷ vs) h =
    ap (λ (m : List ℕ). overlay m (i + 1) vs) (set-append_left s t i v (omega arith))
    ∙ overlay-left (set s i v) t (i + 1) vs (omega (arith, length-set s i v))

-- bytes among bytes
pub small-set : (l : List ℕ) (i v : ℕ) → Small l → v < 256 → Small (set l i v)
small-set [] i v s h k = s k
small-set (x ∷ l) zero v s h zero = h
small-set (x ∷ l) zero v s h (suc k) = s (suc k)
small-set (x ∷ l) (suc i) v s h zero = s 0
small-set (x ∷ l) (suc i) v s h (suc k) = small-set l i v (λ j. s (suc j)) h k

pub small-overlay : (l : List ℕ) (i : ℕ) (vs : List ℕ) → Small l → Small vs → Small (overlay l i vs)
small-overlay l i [] s t = s
small-overlay l i (v ∷ vs) s t = small-overlay (set l i v) (i + 1) vs (small-set l i v s (t 0)) (λ k. t (suc k))

pub small-cons : (v : ℕ) (vs : List ℕ) → v < 256 → Small vs → Small (v ∷ vs)
small-cons v vs h s zero = h
small-cons v vs h s (suc k) = s k

pub small-append : (xs ys : List ℕ) → Small xs → Small ys → Small (xs ++ ys)
small-append [] ys s t = t
small-append (x ∷ xs) ys s t = small-cons x (xs ++ ys) (s 0) (small-append xs ys (λ k. s (suc k)) t)

pub small-take : (n : ℕ) (l : List ℕ) → Small l → Small (take n l)
small-take zero l s k = omega arith
small-take (suc n) [] s k = omega arith
small-take (suc n) (x ∷ l) s zero = s 0
small-take (suc n) (x ∷ l) s (suc k) = small-take n l (λ j. s (suc j)) k

pub small-drop : (n : ℕ) (l : List ℕ) → Small l → Small (drop n l)
small-drop n l s k = rw (get_or-drop n l k 0) (s (n + k))

pub small-part : (l : List ℕ) (i n : ℕ) → Small l → Small (part l i n)
small-part l i n s = small-take n (drop i l) (small-drop i l s)
