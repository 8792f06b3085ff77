-- Laws of a table, a list of entries ascending by index: what is found after an entry is put in, cut out or changed in place, the first
-- entry of a kind, which is the lowest, and the lowest vacant index. By induction over the list.
use mathlib.Core.Path.{◌≡◌, refl, sym, ap, ◌∙◌}
use Prim.Native.Nat.{ℕ, suc, ◌+◌, ◌≤◌, ◌<◌}
use native.Mathlib.Omega.{arith}
use mathlib.Core.Bool.{Bool, true, false}
use mathlib.Core.Option
use mathlib.Core.Option.{Option, none, some}
use mathlib.Core.List.{List, [], ◌∷◌, map}
use lib.ListN.{length}
use lib.Dec.{ltb, eqb}
use borrow.Author.Tests.{eqb-true, eqb-false, ltb-true, ltb-false, eq-eqb, ne_eqb}
use Rattle.memory.specs.Choice.{pick}
use Rattle.memory.proofs.Order.{pick-both, pick_true, pick-false}
use Rattle.model.specs.Table.{Ascending, look, put, cut, first, vacant_from, total}

-- what is refuted, by two constructors that are one
pub nope {κ} : {X : Type κ} → ◌≡◌ {A = ℕ} 0 1 → X
nope e = absurd (omega arith)

-- both ways of a choice by two numbers
pub pick-eq {ℓ κ} : {A : Type ℓ} (R : A → Type κ) (a b : ℕ) (x y : A) → (a ≡ b → R x) → ((a ≡ b → ⊥) → R y) → R (pick (eqb a b) x y)
pick-eq R a b x y f g = pick-both R (eqb a b) x y (λ e. f (eqb-true a b e)) (λ e. g (eqb-false a b e))

pub pick-lt {ℓ κ} : {A : Type ℓ} (R : A → Type κ) (a b : ℕ) (x y : A) → (a < b → R x) → (b ≤ a → R y) → R (pick (ltb a b) x y)
pick-lt R a b x y f g = pick-both R (ltb a b) x y (λ e. f (ltb-true a b e)) (λ e. g (ltb-false a b e))

-- a choice that is known
pub pick_yes {ℓ} : {A : Type ℓ} (a b : ℕ) (x y : A) → a ≡ b → pick (eqb a b) x y ≡ x
pick_yes a b x y e = pick_true (eqb a b) x y (eq-eqb a b e)

pub pick_no {ℓ} : {A : Type ℓ} (a b : ℕ) (x y : A) → (a ≡ b → ⊥) → pick (eqb a b) x y ≡ y
pick_no a b x y e = pick-false (eqb a b) x y (ne_eqb a b e)

-- two choices that exclude each other, in either order
pub pick-swap {ℓ} : {A : Type ℓ} (a b i j : ℕ) (x y z : A) → (a ≡ b → i ≡ j → ⊥)
    → pick (eqb i j) y (pick (eqb a b) x z) ≡ pick (eqb a b) x (pick (eqb i j) y z)
pick-swap a b i j x y z f =
    pick-eq (λ t. pick (eqb i j) y (pick (eqb a b) x z) ≡ t) a b x (pick (eqb i j) y z)
    (λ e. pick_no i j _ _ (f e) ∙ pick_yes a b x z e)
    (λ e. ap (λ t. pick (eqb i j) y t) (pick_no a b x z e))

module _ {X : Type 0} (index : X → ℕ) where
  -- ---- what is found
  pub asc-weak : (lo hi : ℕ) (l : List X) → lo ≤ hi → Ascending index hi l → Ascending index lo l
  asc-weak lo hi [] h a = tt
  asc-weak lo hi (x ∷ l) h a = let k = a.0 in (omega arith, a.1)

  pub look-below : (i lo : ℕ) (l : List X) → i < lo → Ascending index lo l → look index i l ≡ none
  unfolding look
  look-below i lo [] h a = refl
  look-below i lo (x ∷ l) h a =
      let k = a.0 in
      pick_no (index x) i (some x) (look index i l) (λ e. omega arith) ∙ look-below i (suc (index x)) l (omega arith) a.1

  pub look-index : (i : ℕ) (l : List X) (x : X) → look index i l ≡ some x → index x ≡ i
  unfolding look
  look-index i [] x h = nope (cc)
  look-index i (y ∷ l) x h =
      pick-eq (λ (o : Option X). o ≡ some x → index x ≡ i) (index y) i (some y) (look index i l)
      (λ e k. let z : y ≡ x = cc in sym (ap index z) ∙ e) (λ n k. look-index i l x k) h

  pub look_none : (i : ℕ) (y : X) (l : List X) → look index i (y ∷ l) ≡ none → (index y ≡ i → ⊥) × (look index i l ≡ none)
  unfolding look
  look_none i y l h =
      pick-eq (λ (o : Option X). o ≡ none → (index y ≡ i → ⊥) × (look index i l ≡ none)) (index y) i (some y) (look index i l)
      (λ e k. nope (cc)) (λ n k. (n, k)) h

  -- ---- an entry put in
  pub look-put : (j : ℕ) (x : X) (l : List X) → look index (index x) l ≡ none
      → look index j (put index x l) ≡ pick (eqb (index x) j) (some x) (look index j l)
  unfolding look put
  look-put j x [] h = refl
  look-put j x (y ∷ l) h =
      let n = look_none (index x) y l h in
      pick-lt (λ (t : List X). look index j t ≡ pick (eqb (index x) j) (some x) (look index j (y ∷ l))) (index x) (index y) (x ∷ y ∷ l)
      (y ∷ put index x l)
      (λ e. refl)
      (λ e. ap (λ (o : Option X). pick (eqb (index y) j) (some y) o) (look-put j x l n.1)
      ∙ pick-swap (index x) j (index y) j (some x) (some y) (look index j l) (λ p q. n.0 (q ∙ sym p)))

  pub asc-put : (lo : ℕ) (x : X) (l : List X) → lo ≤ index x → look index (index x) l ≡ none → Ascending index lo l
      → Ascending index lo (put index x l)
  unfolding put
  asc-put lo x [] h n a = (h, tt)
  asc-put lo x (y ∷ l) h n a =
      let m = look_none (index x) y l n in
      pick-lt (λ (t : List X). Ascending index lo t) (index x) (index y) (x ∷ y ∷ l) (y ∷ put index x l)
      (λ e. (h, (e, a.1)))
      (λ e. (a.0, asc-put (suc (index y)) x l (let k = m.0 in omega arith) m.1 a.1))

  pub total-put : (w : X → ℕ) (x : X) (l : List X) → total index w (put index x l) ≡ total index w l + w x
  unfolding put total
  total-put w x [] = omega arith
  total-put w x (y ∷ l) =
      let r = total-put w x l in
      pick-lt (λ (t : List X). total index w t ≡ w y + total index w l + w x) (index x) (index y) (x ∷ y ∷ l) (y ∷ put index x l)
      (λ e. omega arith) (λ e. omega arith)

  pub length-put : (x : X) (l : List X) → length (put index x l) ≡ length l + 1
  unfolding put
  length-put x [] = refl
  length-put x (y ∷ l) =
      let r = length-put x l in
      pick-lt (λ (t : List X). length t ≡ suc (length l) + 1) (index x) (index y) (x ∷ y ∷ l) (y ∷ put index x l)
      (λ e. omega arith) (λ e. omega arith)

  -- ---- an entry cut out
  pub look-cut : (i j lo : ℕ) (l : List X) → Ascending index lo l → look index j (cut index i l) ≡ pick (eqb i j) none (look index j l)
  unfolding look cut
  look-cut i j lo [] a = pick-eq (λ (o : Option X). none ≡ o) i j none none (λ e. refl) (λ e. refl)
  look-cut i j lo (x ∷ l) a =
      pick-eq (λ (t : List X). look index j t ≡ pick (eqb i j) none (look index j (x ∷ l))) (index x) i l (x ∷ cut index i l)
      (λ e. pick-eq (λ (o : Option X). look index j l ≡ o) i j none (look index j (x ∷ l))
      (λ f. look-below j (suc (index x)) l (omega arith) a.1)
      (λ f. sym (pick_no (index x) j (some x) (look index j l) (λ p. f (sym e ∙ p)))))
      (λ e. ap (λ (o : Option X). pick (eqb (index x) j) (some x) o) (look-cut i j (suc (index x)) l a.1)
      ∙ pick-swap i j (index x) j none (some x) (look index j l) (λ p q. e (q ∙ sym p)))

  pub asc-cut : (i lo : ℕ) (l : List X) → Ascending index lo l → Ascending index lo (cut index i l)
  unfolding cut
  asc-cut i lo [] a = tt
  asc-cut i lo (x ∷ l) a =
      pick-eq (λ (t : List X). Ascending index lo t) (index x) i l (x ∷ cut index i l)
      (λ e. asc-weak lo (suc (index x)) l (let k = a.0 in omega arith) a.1) (λ e. (a.0, asc-cut i (suc (index x)) l a.1))

  pub total-cut : (w : X → ℕ) (i : ℕ) (l : List X) (x : X) → look index i l ≡ some x → total index w (cut index i l) + w x ≡ total index w l
  unfolding cut total look
  total-cut w i [] x h = nope (cc)
  total-cut w i (y ∷ l) x h = go (eqb (index y) i) h (λ k. total-cut w i l x k)
    where
      go : (b : Bool) → pick b (some y) (look index i l) ≡ some x → (look index i l ≡ some x → total index w (cut index i l) + w x ≡ total index w l)
          → total index w (pick b l (y ∷ cut index i l)) + w x ≡ w y + total index w l
      go true k r = let z : y ≡ x = cc in let v = ap w z in omega arith
      go false k r = let v = r k in omega arith

  pub length_cut : (i : ℕ) (l : List X) (x : X) → look index i l ≡ some x → length (cut index i l) + 1 ≡ length l
  unfolding cut look
  length_cut i [] x h = nope (cc)
  length_cut i (y ∷ l) x h = go (eqb (index y) i) h (λ k. length_cut i l x k)
    where
      go : (b : Bool) → pick b (some y) (look index i l) ≡ some x → (look index i l ≡ some x → length (cut index i l) + 1 ≡ length l)
          → length (pick b l (y ∷ cut index i l)) + 1 ≡ suc (length l)
      go true k r = omega arith
      go false k r = let v = r k in omega arith

  -- ---- a change that keeps the indexes
  module _ (f : X → X) (same : (x : X) → index (f x) ≡ index x) where
    pub look-map : (j : ℕ) (l : List X) → look index j (map f l) ≡ Option.map f (look index j l)
    unfolding look
    look-map j [] = refl
    look-map j (x ∷ l) =
        rw (same x)
        (pick-eq (λ (o : Option X). pick (eqb (index x) j) (some (f x)) (look index j (map f l)) ≡ Option.map f o) (index x) j (some x)
        (look index j l)
        (λ e. pick_yes (index x) j _ _ e) (λ e. pick_no (index x) j _ _ e ∙ look-map j l))

    pub asc-map : (lo : ℕ) (l : List X) → Ascending index lo l → Ascending index lo (map f l)
    asc-map lo [] a = tt
    asc-map lo (x ∷ l) a = rw (same x) (a.0, asc-map (suc (index x)) l a.1)

    pub total-map : (w : X → ℕ) → ((x : X) → w (f x) ≡ w x) → (l : List X) → total index w (map f l) ≡ total index w l
    unfolding total
    total-map w h [] = refl
    total-map w h (x ∷ l) = rw (h x, total-map w h l)

  -- ---- the first entry of a kind
  pub first-sound : (test : X → Bool) (lo : ℕ) (l : List X) (x : X) → Ascending index lo l → first test l ≡ some x
      → (look index (index x) l ≡ some x) × (test x ≡ true)
  unfolding first look
  first-sound test lo [] x a h = nope (cc)
  first-sound test lo (y ∷ l) x a h = go (test y) refl h (λ k. first-sound test (suc (index y)) l x a.1 k)
    where
      go : (b : Bool) → test y ≡ b → pick b (some y) (first test l) ≡ some x
          → (first test l ≡ some x → (look index (index x) l ≡ some x) × (test x ≡ true))
          → (pick (eqb (index y) (index x)) (some y) (look index (index x) l) ≡ some x) × (test x ≡ true)
      go true e k r = let z : y ≡ x = cc in (pick_yes (index y) (index x) _ _ (ap index z) ∙ k, rw z at e)
      go false e k r =
          let q = r k in (
            pick_no (index y) (index x) (some y) (look index (index x) l)
                (λ z. let n = look-below (index x) (suc (index y)) l (omega arith) a.1 in let m = q.0 in nope (cc))
                ∙ q.0,
            q.1,
          )

  pub first-none : (test : X → Bool) (l : List X) (i : ℕ) (x : X) → first test l ≡ none → look index i l ≡ some x → test x ≡ true → ⊥
  unfolding first look
  first-none test [] i x h k t = nope (cc)
  first-none test (y ∷ l) i x h k t = go (test y) refl h (eqb (index y) i) k (λ u v. first-none test l i x u v t)
    where
      go : (b : Bool) → test y ≡ b → pick b (some y) (first test l) ≡ none → (d : Bool) → pick d (some y) (look index i l) ≡ some x
          → (first test l ≡ none → look index i l ≡ some x → ⊥) → ⊥
      go true e u d v r = nope (cc)
      go false e u true v r = let s : y ≡ x = cc in let q = ap test s in nope (cc)
      go false e u false v r = r u v

  pub first-lowest : (test : X → Bool) (lo : ℕ) (l : List X) (x : X) (i : ℕ) (y : X) → Ascending index lo l → first test l ≡ some x
      → look index i l ≡ some y → test y ≡ true → index x ≤ i
  unfolding first look
  first-lowest test lo [] x i y a h k t = nope (cc)
  first-lowest test lo (z ∷ l) x i y a h k t = go (test z) refl h (eqb (index z) i) refl k (λ u v. first-lowest test (suc (index z)) l x i y a.1 u v t)
    where
      go : (b : Bool) → test z ≡ b → pick b (some z) (first test l) ≡ some x → (d : Bool) → eqb (index z) i ≡ d
          → pick d (some z) (look index i l) ≡ some y → (first test l ≡ some x → look index i l ≡ some y → index x ≤ i) → index x ≤ i
      go true e u true f v r = let s : z ≡ x = cc in omega (arith, ap index s, eqb-true (index z) i f)
      go true e u false f v r =
          let s : z ≡ x = cc in
          let g : i < index z → ⊥ = λ below. let n = look-below i (suc (index z)) l (omega arith) a.1 in nope (cc) in
          omega (arith, ap index s, g)
      go false e u true f v r = let s : z ≡ y = cc in let q = ap test s in nope (cc)
      go false e u false f v r = r u v

  pub first_some : (test : X → Bool) (l : List X) (i : ℕ) (x : X) → look index i l ≡ some x → test x ≡ true
      → (y : X) × (first test l ≡ some y)
  first_some test l i x h t = go (first test l) refl
    where
      go : (o : Option X) → first test l ≡ o → (y : X) × (first test l ≡ some y)
      go none e = absurd (first-none test l i x e h t)
      go (some y) e = (y, e)

  -- ---- the lowest vacant index
  pub vacant-low : (n : ℕ) (l : List X) → n ≤ vacant_from index n l
  unfolding vacant_from
  vacant-low n [] = omega arith
  vacant-low n (x ∷ l) =
      let r = vacant-low (suc n) l in
      pick-eq (λ (t : ℕ). n ≤ t) (index x) n (vacant_from index (suc n) l) n (λ e. omega arith) (λ e. omega arith)

  pub vacant-free : (n : ℕ) (l : List X) → Ascending index n l → look index (vacant_from index n l) l ≡ none
  unfolding vacant_from look
  vacant-free n [] a = refl
  vacant-free n (x ∷ l) a =
      pick-eq (λ (t : ℕ). look index t (x ∷ l) ≡ none) (index x) n (vacant_from index (suc n) l) n
      (λ e. let g = vacant-low (suc n) l in
      pick_no (index x) (vacant_from index (suc n) l) _ _ (λ z. omega arith) ∙ vacant-free (suc n) l (rw e at a.1))
      (λ e. pick_no (index x) n _ _ e ∙ look-below n (suc (index x)) l (let k = a.0 in omega arith) a.1)

  pub vacant-high : (n : ℕ) (l : List X) → vacant_from index n l ≤ n + length l
  unfolding vacant_from
  vacant-high n [] = omega arith
  vacant-high n (x ∷ l) =
      let r = vacant-high (suc n) l in
      pick-eq (λ (t : ℕ). t ≤ n + suc (length l)) (index x) n (vacant_from index (suc n) l) n (λ e. omega arith) (λ e. omega arith)

  pub vacant-first : (n : ℕ) (l : List X) (k : ℕ) → n ≤ k → look index k l ≡ none → vacant_from index n l ≤ k
  unfolding vacant_from
  vacant-first n [] k h e = h
  vacant-first n (x ∷ l) k h e =
      let m = look_none k x l e in
      pick-eq (λ (t : ℕ). t ≤ k) (index x) n (vacant_from index (suc n) l) n
      (λ z. vacant-first (suc n) l k (let w = m.0 in omega arith) m.1) (λ z. h)
