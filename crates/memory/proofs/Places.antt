-- What stands at a place of a list: after stores, beside stores, and as a part. By induction over the elements that stand there.
use mathlib.Core.Path.{◌≡◌, refl, sym, ap, subst, ◌∙◌}
use Prim.Native.Nat.{ℕ, zero, suc, ◌+◌, ◌-◌, ◌≤◌, ◌<◌}
use native.Mathlib.Omega.{arith}
use native.Mathlib.Nat.{add-zero}
use native.Mathlib.Numerals.{add-one}
use mathlib.Core.List.{List, [], ◌∷◌, ◌++◌}
use lib.ListN.{length, get_or, take, drop, set, length-set, length-append, length-drop, get_or-append}
use lib.Seq.{
  get_or-set_same,
  drop-cons,
  append_snoc,
  get_or-append_seam,
  length-take-le,
  take-add,
  take-suc,
  drop-drop,
  get_or-drop,
  take-append-le,
  drop-append-le,
  drop-append-add,
  take-length,
  get_or-take,
  take-take,
  drop_at,
}
use Rattle.memory.specs.Bytes.{part, overlay, Has}
use Rattle.memory.proofs.Overlay.{length-overlay, overlay-before, overlay-after}

-- ---- what stands at a place

-- what was stored stands there
pub has-overlay : (l : List ℕ) (i : ℕ) (vs : List ℕ) → i + length vs ≤ length l → Has (overlay l i vs) i vs
has-overlay l i [] h = tt
has-overlay l i (v ∷ vs) h = (
  omega (arith, length-overlay (set l i v) (i + 1) vs, length-set l i v),
  overlay-before (set l i v) (i + 1) vs i (omega arith) ∙ get_or-set_same l i v 0 (omega arith),
  has-overlay (set l i v) (i + 1) vs (omega (arith, length-set l i v)),
)

-- a store beside a place keeps what stands there
pub has-below : (l : List ℕ) (i : ℕ) (xs : List ℕ) (j : ℕ) (ys : List ℕ) → i + length xs ≤ j → Has l i xs → Has (overlay l j ys) i xs
has-below l i [] j ys h p = tt
has-below l i (x ∷ xs) j ys h p = (
  omega (arith, length-overlay l j ys, p.0),
  overlay-before l j ys i (omega arith) ∙ p.1,
  has-below l (i + 1) xs j ys (omega arith) p.2,
)

pub has_above : (l : List ℕ) (i : ℕ) (xs : List ℕ) (j : ℕ) (ys : List ℕ) → j + length ys ≤ i → Has l i xs → Has (overlay l j ys) i xs
has_above l i [] j ys h p = tt
has_above l i (x ∷ xs) j ys h p = (
  omega (arith, length-overlay l j ys, p.0),
  overlay-after l j ys i h ∙ p.1,
  has_above l (i + 1) xs j ys (omega arith) p.2,
)

pub has_left : (l : List ℕ) (i : ℕ) (xs ys : List ℕ) → Has l i (xs ++ ys) → Has l i xs
has_left l i [] ys h = tt
has_left l i (x ∷ xs) ys h = (h.0, h.1, has_left l (i + 1) xs ys h.2)

pub has_right : (l : List ℕ) (i : ℕ) (xs ys : List ℕ) → Has l i (xs ++ ys) → Has l (i + length xs) ys
has_right l i [] ys h = rw add-zero h
has_right l i (x ∷ xs) ys h =
    let e : i + suc (length xs) ≡ i + 1 + length xs = omega arith in
    rw e (has_right l (i + 1) xs ys h.2)

pub has_join : (l : List ℕ) (i : ℕ) (xs ys : List ℕ) → Has l i xs → Has l (i + length xs) ys → Has l i (xs ++ ys)
has_join l i [] ys p q = rw add-zero at q
has_join l i (x ∷ xs) ys p q =
    let e : i + suc (length xs) ≡ i + 1 + length xs = omega arith in
    (p.0, p.1, has_join l (i + 1) xs ys p.2 (rw e at q))

-- the elements that stand at a place end within the list
pub has_end : (l : List ℕ) (i : ℕ) (vs : List ℕ) → i ≤ length l → Has l i vs → i + length vs ≤ length l
has_end l i [] h p = omega arith
has_end l i (v ∷ vs) h p = omega (arith, has_end l (i + 1) vs (omega (arith, p.0)) p.2)

-- one of them
pub has-get : (l : List ℕ) (i : ℕ) (vs : List ℕ) (k : ℕ) → k < length vs → Has l i vs → get_or l (i + k) 0 ≡ get_or vs k 0
has-get l i [] k h p = absurd (omega arith)
has-get l i (v ∷ vs) zero h p = rw add-zero p.1
has-get l i (v ∷ vs) (suc k) h p =
    let e : i + suc k ≡ i + 1 + k = omega arith in
    rw e (has-get l (i + 1) vs k (omega arith) p.2)

-- from the elements, one by one
pub has-each : (l : List ℕ) (i : ℕ) (vs : List ℕ) → i + length vs ≤ length l
    → ((k : ℕ) → k < length vs → get_or l (i + k) 0 ≡ get_or vs k 0) → Has l i vs
has-each l i [] h f = tt
has-each l i (v ∷ vs) h f = (
  omega arith,
  rw add-zero at (f 0 (omega arith)),
  has-each l (i + 1) vs (omega arith) (λ k b. let e : i + suc k ≡ i + 1 + k = omega arith in rw e at (f (suc k) (omega arith))),
)

-- more after the list changes nothing
pub has-append : (s t : List ℕ) (i : ℕ) (vs : List ℕ) → Has s i vs → Has (s ++ t) i vs
has-append s t i [] p = tt
has-append s t i (v ∷ vs) p = (
  omega (arith, length-append s t, p.0),
  get_or-append s t 0 i p.0 ∙ p.1,
  has-append s t (i + 1) vs p.2,
)

-- two lists stand in what they make
pub has-self : (xs ys : List ℕ) → Has (xs ++ ys) (length xs) ys
has-self xs [] = tt
has-self xs (y ∷ ys) =
    let e : length (xs ++ (y ∷ [])) ≡ length xs + 1 = length-append xs (y ∷ []) in (
      omega (arith, length-append xs (y ∷ ys)),
      get_or-append_seam xs y ys 0,
      rw (append_snoc xs y ys, e) at (has-self (xs ++ (y ∷ [])) ys),
    )

pub has_all : (xs : List ℕ) → Has xs 0 xs
has_all xs = has-self [] xs

pub has-front : (xs ys : List ℕ) → Has (xs ++ ys) 0 xs
has-front xs ys = has-append xs ys 0 xs (has_all xs)

-- ---- parts

-- what stands at a place is the part there
pub has_part : (l : List ℕ) (i : ℕ) (vs : List ℕ) → Has l i vs → part l i (length vs) ≡ vs
has_part l i [] p = refl
has_part l i (v ∷ vs) p =
    rw (drop-cons l i 0 p.0, p.1) (ap (λ (xs : List ℕ). v ∷ xs) (rw (add-one i) at (has_part l (i + 1) vs p.2)))

pub length_part : (l : List ℕ) (i n : ℕ) → i + n ≤ length l → length (part l i n) ≡ n
length_part l i n h = length-take-le n (drop i l) (simp length-drop (omega arith))

-- a part, with its first element apart, and with its last
pub part-cons : (l : List ℕ) (i n : ℕ) → i < length l → part l i (suc n) ≡ get_or l i 0 ∷ part l (i + 1) n
part-cons l i n h = rw (drop-cons l i 0, add-one)

pub part-snoc : (l : List ℕ) (i n : ℕ) → i + n < length l → part l i (n + 1) ≡ part l i n ++ (get_or l (i + n) 0 ∷ [])
part-snoc l i n h =
    let b : n < length (drop i l) = simp length-drop (omega arith) in
    rw (add-one n) (take-suc (drop i l) n 0 b ∙ ap (λ (x : ℕ). part l i n ++ (x ∷ [])) (get_or-drop i l n 0))

pub part-has : (l : List ℕ) (i n : ℕ) → i + n ≤ length l → Has l i (part l i n)
part-has l i zero h = tt
part-has l i (suc n) h =
    subst (Has l i) (sym (part-cons l i n (omega arith))) (omega arith, refl, part-has l (i + 1) n (omega arith))

-- the same, by an equation with the part
pub has_of : (l : List ℕ) (i n : ℕ) (vs : List ℕ) → i + n ≤ length l → part l i n ≡ vs → Has l i vs
has_of l i n vs h e = subst (Has l i) e (part-has l i n h)

-- one list of a length stands at a place
pub has_one : (l : List ℕ) (i : ℕ) (xs ys : List ℕ) → length xs ≡ length ys → Has l i xs → Has l i ys → xs ≡ ys
has_one l i xs ys e p q = sym (has_part l i xs p) ∙ ap (part l i) e ∙ has_part l i ys q

pub part_none : (l : List ℕ) (i : ℕ) → part l i 0 ≡ []
part_none l i = refl

pub part-all : (l : List ℕ) → part l 0 (length l) ≡ l
part-all l = take-length l

pub part-split : (l : List ℕ) (i n m : ℕ) → part l i (n + m) ≡ part l i n ++ part l (i + n) m
part-split l i n m = take-add n m (drop i l) ∙ ap (λ (r : List ℕ). part l i n ++ take m r) (drop-drop n i l)

-- a part of two lists that lies in the first, and one in the second
pub part-append : (s t : List ℕ) (i n : ℕ) → i + n ≤ length s → part (s ++ t) i n ≡ part s i n
part-append s t i n h =
    ap (take n) (drop-append-le i s t (omega arith)) ∙ take-append-le n (drop i s) t (simp length-drop (omega arith))

pub part_right : (s t : List ℕ) (i n : ℕ) → part (s ++ t) (length s + i) n ≡ part t i n
part_right s t i n = ap (take n) (drop-append-add s t i)

pub get_d_part : (l : List ℕ) (i n k : ℕ) → k < n → get_or (part l i n) k 0 ≡ get_or l (i + k) 0
get_d_part l i n k h = get_or-take n (drop i l) k 0 h ∙ get_or-drop i l k 0

-- a part of a part
pub part-part : (l : List ℕ) (i n j m : ℕ) → i + n ≤ length l → j + m ≤ n → part (part l i n) j m ≡ part l (i + j) m
part-part l i n j m h b =
    let e : n ≡ j + (n - j) = omega arith in
    ap (take m) (ap (λ (k : ℕ). drop j (part l i k)) e ∙ ap (drop j) (part-split l i j (n - j))
    ∙ drop_at (part l i j) (part l (i + j) (n - j)) j (length_part l i j (omega arith)))
    ∙ take-take m (n - j) (drop (i + j) l) (omega arith)

-- parts after stores
pub part-overlay : (l : List ℕ) (i : ℕ) (vs : List ℕ) → i + length vs ≤ length l → part (overlay l i vs) i (length vs) ≡ vs
part-overlay l i vs h = has_part (overlay l i vs) i vs (has-overlay l i vs h)

module _ (l : List ℕ) (i n j : ℕ) (ys : List ℕ) (h : i + n ≤ length l) where
  pub part-below : i + n ≤ j → part (overlay l j ys) i n ≡ part l i n
  part-below b =
      let e = length_part l i n h in
      ap (part (overlay l j ys) i) (sym e) ∙ has_part (overlay l j ys) i (part l i n) (has-below l i (part l i n) j ys (rw e b) (part-has l i n h))

  pub part-above : j + length ys ≤ i → part (overlay l j ys) i n ≡ part l i n
  part-above b =
      let e = length_part l i n h in
      ap (part (overlay l j ys) i) (sym e) ∙ has_part (overlay l j ys) i (part l i n) (has_above l i (part l i n) j ys b (part-has l i n h))
