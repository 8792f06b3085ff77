-- Laws of a list whose entries stand in another order (the deletes, by arrival), no two with one index: what is found after an entry is
-- added at the end or cut out, what stands before and behind one that is found, and how many there can be. By induction over the list.
use mathlib.Core.Path.{◌≡◌, refl, sym, ap, ◌∙◌, subst}
use mathlib.Core.Logic.{⊎_elim}
use Prim.Native.Nat.{ℕ, suc, ◌≤◌}
use native.Mathlib.Omega.{arith}
use mathlib.Core.Bool.{Bool, true, false}
use mathlib.Core.Option.{Option, none, some}
use mathlib.Core.List.Memᴰ
use mathlib.Core.List.{List, [], ◌∷◌, ◌++◌, Memᴰ}
use lib.ListN.{length}
use lib.Dec.{eqb}
use Rattle.memory.specs.Choice.{pick}
use Rattle.model.specs.Table.{Ascending, Distinct, look, cut, first}
use Rattle.model_laws.proofs.Tables.{nope, pick-eq, pick_yes, pick_no, pick-swap, look_none, look-below, length_cut}

module _ {X : Type 0} (index : X → ℕ) where
  pub look-append : (i : ℕ) (l m : List X) → look index i l ≡ none → look index i (l ++ m) ≡ look index i m
  unfolding look
  look-append i [] m h = refl
  look-append i (x ∷ l) m h =
      let n = look_none index i x l h in
      pick_no (index x) i (some x) (look index i (l ++ m)) n.0 ∙ look-append i l m n.1

  pub look-append-some : (i : ℕ) (l m : List X) (x : X) → look index i l ≡ some x → look index i (l ++ m) ≡ some x
  unfolding look
  look-append-some i [] m x h = nope (cc)
  look-append-some i (y ∷ l) m x h = go (eqb (index y) i) h (λ k. look-append-some i l m x k)
    where
      go : (b : Bool) → pick b (some y) (look index i l) ≡ some x → (look index i l ≡ some x → look index i (l ++ m) ≡ some x)
          → pick b (some y) (look index i (l ++ m)) ≡ some x
      go true k r = k
      go false k r = r k

  pub distinct_append : (x : X) (l : List X) → look index (index x) l ≡ none → Distinct index l → Distinct index (l ++ (x ∷ []))
  unfolding look
  distinct_append x [] h d = (refl, tt)
  distinct_append x (y ∷ l) h d =
      let n = look_none index (index x) y l h in (
        look-append (index y) l (x ∷ []) d.0 ∙ pick_no (index x) (index y) (some x) none (λ e. n.0 (sym e)),
        distinct_append x l n.1 d.1,
      )

  pub look-cut-distinct : (i j : ℕ) (l : List X) → Distinct index l → look index j (cut index i l) ≡ pick (eqb i j) none (look index j l)
  unfolding look cut
  look-cut-distinct i j [] d = pick-eq (λ (o : Option X). none ≡ o) i j none none (λ e. refl) (λ e. refl)
  look-cut-distinct i j (x ∷ l) d =
      pick-eq (λ (t : List X). look index j t ≡ pick (eqb i j) none (look index j (x ∷ l))) (index x) i l (x ∷ cut index i l)
      (λ e. pick-eq (λ (o : Option X). look index j l ≡ o) i j none (look index j (x ∷ l))
      (λ f. rw (e ∙ f) at d.0)
      (λ f. sym (pick_no (index x) j (some x) (look index j l) (λ p. f (sym e ∙ p)))))
      (λ e. ap (λ (o : Option X). pick (eqb (index x) j) (some x) o) (look-cut-distinct i j l d.1)
      ∙ pick-swap i j (index x) j none (some x) (look index j l) (λ p q. e (q ∙ sym p)))

  pub distinct-cut : (i : ℕ) (l : List X) → Distinct index l → Distinct index (cut index i l)
  unfolding cut
  distinct-cut i [] d = tt
  distinct-cut i (x ∷ l) d =
      pick-eq (λ (t : List X). Distinct index t) (index x) i l (x ∷ cut index i l)
      (λ e. d.1)
      (λ e. (
        look-cut-distinct i (index x) l d.1 ∙ pick_no i (index x) none (look index (index x) l) (λ f. e (sym f)) ∙ d.0,
        distinct-cut i l d.1,
      ))

  pub asc-distinct : (lo : ℕ) (l : List X) → Ascending index lo l → Distinct index l
  asc-distinct lo [] a = tt
  asc-distinct lo (x ∷ l) a = (look-below index (index x) (suc (index x)) l (omega arith) a.1, asc-distinct (suc (index x)) l a.1)

  -- ---- an entry that is found has some before it and some behind it
  pub look-splits : (i : ℕ) (l : List X) (x : X) → look index i l ≡ some x → (before : List X) × (behind : List X) × (l ≡ before ++ (x ∷ behind))
  unfolding look
  look-splits i [] x h = nope (cc)
  look-splits i (y ∷ l) x h = go (eqb (index y) i) h (λ k. look-splits i l x k)
    where
      go : (b : Bool) → pick b (some y) (look index i l) ≡ some x
          → (look index i l ≡ some x → (before : List X) × (behind : List X) × (l ≡ before ++ (x ∷ behind)))
          → (before : List X) × (behind : List X) × (y ∷ l ≡ before ++ (x ∷ behind))
      go true k r = let same : y ≡ x = cc in ([], l, ap (λ (z : X). z ∷ l) same)
      go false k r = let s = r k in (y ∷ s.0, s.1, ap (λ (t : List X). y ∷ t) s.2)

  look-split : (before behind : List X) (x : X) → Distinct index (before ++ (x ∷ behind)) → look index (index x) (before ++ (x ∷ behind)) ≡ some x
  unfolding look
  look-split [] behind x d = pick_yes (index x) (index x) (some x) (look index (index x) behind) refl
  look-split (y ∷ l) behind x d =
      let r = look-split l behind x d.1 in
      pick_no (index y) (index x) (some y) (look index (index x) (l ++ (x ∷ behind)))
      (λ e. let n = rw e at d.0 in nope (cc)) ∙ r

  pub look-placed : (l before behind : List X) (x : X) → l ≡ before ++ (x ∷ behind) → Distinct index l → look index (index x) l ≡ some x
  look-placed l before behind x e d = subst (λ (t : List X). look index (index x) t ≡ some x) (sym e) (look-split before behind x (subst (Distinct index) e d))

  -- an entry of the first of two lists, cut out, leaves the second as it is
  pub cut_left : (i : ℕ) (l m : List X) (x : X) → look index i l ≡ some x → cut index i (l ++ m) ≡ cut index i l ++ m
  unfolding look cut
  cut_left i [] m x h = nope (cc)
  cut_left i (y ∷ l) m x h = go (eqb (index y) i) h (λ k. cut_left i l m x k)
    where
      go : (b : Bool) → pick b (some y) (look index i l) ≡ some x → (look index i l ≡ some x → cut index i (l ++ m) ≡ cut index i l ++ m)
          → pick b (l ++ m) (y ∷ cut index i (l ++ m)) ≡ pick b l (y ∷ cut index i l) ++ m
      go true k r = refl
      go false k r = ap (λ (t : List X). y ∷ t) (r k)

  -- ---- the first that passes a test
  module _ (test : X → Bool) where
    -- it passes, and none before it does
    pub record FirstOf (l : List X) (x : X) : Type 0 where
      pub before : List X
      pub behind : List X
      pub split : l ≡ before ++ (x ∷ behind)
      pub passes : test x ≡ true
      pub none_before : (e : X) → Memᴰ e before → test e ≡ false

    pub first_of : (l : List X) (x : X) → first test l ≡ some x → FirstOf l x
    unfolding first
    first_of [] x h = nope (cc)
    first_of (y ∷ l) x h = go (test y) refl h (λ k. first_of l x k)
      where
        go : (b : Bool) → test y ≡ b → pick b (some y) (first test l) ≡ some x → (first test l ≡ some x → FirstOf l x) → FirstOf (y ∷ l) x
        go true e k r =
            let same : y ≡ x = cc in
            record {
              before = [];
              behind = l;
              split = ap (λ (z : X). z ∷ l) same;
              passes = rw same at e;
              none_before = λ z m. absurd (Memᴰ.not-nil m);
            }
        go false e k r =
            let f = r k in
            record {
              before = y ∷ f.before;
              behind = f.behind;
              split = ap (λ (t : List X). y ∷ t) f.split;
              passes = f.passes;
              none_before = λ z m. ⊎_elim (λ (q : z ≡ y). rw q e) (λ n. f.none_before z n) (Memᴰ.cases_cons m);
            }

    -- in two lists: that of the first, or else that of the second
    pub first-left : (l m : List X) (x : X) → first test l ≡ some x → first test (l ++ m) ≡ some x
    unfolding first
    first-left [] m x h = nope (cc)
    first-left (y ∷ l) m x h = go (test y) h (λ k. first-left l m x k)
      where
        go : (b : Bool) → pick b (some y) (first test l) ≡ some x → (first test l ≡ some x → first test (l ++ m) ≡ some x)
            → pick b (some y) (first test (l ++ m)) ≡ some x
        go true k r = k
        go false k r = r k

    pub first-right : (l m : List X) → first test l ≡ none → first test (l ++ m) ≡ first test m
    unfolding first
    first-right [] m h = refl
    first-right (y ∷ l) m h = go (test y) h (λ k. first-right l m k)
      where
        go : (b : Bool) → pick b (some y) (first test l) ≡ none → (first test l ≡ none → first test (l ++ m) ≡ first test m)
            → pick b (some y) (first test (l ++ m)) ≡ first test m
        go true k r = nope (cc)
        go false k r = r k

    -- one with its index is there
    pub first-there : (l : List X) (x : X) → first test l ≡ some x → (y : X) × (look index (index x) l ≡ some y)
    unfolding first look
    first-there [] x h = nope (cc)
    first-there (z ∷ l) x h = go (test z) h (λ k. first-there l x k)
      where
        found : (b : Bool) (o : Option X) → (y : X) × (o ≡ some y) → (y : X) × (pick b (some z) o ≡ some y)
        found true o y = (z, refl)
        found false o y = y

        go : (b : Bool) → pick b (some z) (first test l) ≡ some x → (first test l ≡ some x → (y : X) × (look index (index x) l ≡ some y))
            → (y : X) × (pick (eqb (index z) (index x)) (some z) (look index (index x) l) ≡ some y)
        go true k r = let same : z ≡ x = cc in (z, pick_yes (index z) (index x) _ _ (ap index same))
        go false k r = found (eqb (index z) (index x)) (look index (index x) l) (r k)

-- ---- entries of one list that each have one with their index in another are no more than those
module _ {X Y : Type 0} (index : X → ℕ) (place : Y → ℕ) where
  pub no_more : (l : List X) (m : List Y) → Distinct index l → Distinct place m
      → ((i : ℕ) (x : X) → look index i l ≡ some x → (y : Y) × (look place i m ≡ some y)) → length l ≤ length m
  unfolding look
  no_more [] m d p each = omega arith
  no_more (x ∷ l) m d p each =
      let y = each (index x) x (pick_yes (index x) (index x) (some x) (look index (index x) l) refl) in
      let c = length_cut place (index x) m y.0 y.1 in
      let r =
      no_more l (cut place (index x) m) d.1 (distinct-cut place (index x) m p)
      (λ i z e.
      let other : index x ≡ i → ⊥ = λ q. let n = rw q at d.0 in nope (cc) in
      let w = each i z (pick_no (index x) i (some x) (look index i l) other ∙ e) in
      (w.0, look-cut-distinct place (index x) i m p ∙ pick_no (index x) i none (look place i m) other ∙ w.1)) in
      omega arith
