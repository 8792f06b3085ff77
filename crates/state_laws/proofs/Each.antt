-- A property of every entry of a table is one of every entry that is found in it, and the other way round where indexes ascend. By induction.
use mathlib.Core.Path.{◌≡◌, refl, subst, ◌∙◌}
use Prim.Native.Nat.{ℕ, suc}
use native.Mathlib.Omega.{arith}
use mathlib.Core.Option.{Option, some}
use mathlib.Core.List.{List, [], ◌∷◌, map}
use Rattle.model.specs.Table.{Ascending, look, put, cut}
use Rattle.model_laws.proofs.Tables.{nope, pick-eq, pick-lt, pick_yes, pick_no, look-below}

-- every element has the property
abbrev pub Each : {X : Type 0} → (X → Type 0) → List X → Type 0
Each P [] = Unit {0}
Each P (x ∷ l) = P x × Each P l

pub each-weak : {X : Type 0} (P Q : X → Type 0) → ((x : X) → P x → Q x) → (l : List X) → Each P l → Each Q l
each-weak P Q f [] e = tt
each-weak P Q f (x ∷ l) e = (f x e.0, each-weak P Q f l e.1)

pub each_map : {X Y : Type 0} (P : X → Type 0) (Q : Y → Type 0) (f : X → Y) → ((x : X) → P x → Q (f x)) → (l : List X) → Each P l → Each Q (map f l)
each_map P Q f g [] e = tt
each_map P Q f g (x ∷ l) e = (g x e.0, each_map P Q f g l e.1)

-- what is found among later entries is found among all
pub found-later : {X : Type 0} (index : X → ℕ) (y : X) (l : List X) → Ascending index (suc (index y)) l → (i : ℕ) (x : X) → look index i l ≡ some x
    → look index i (y ∷ l) ≡ some x
unfolding look
found-later index y l a i x e =
    pick_no (index y) i (some y) (look index i l) (λ same. let gone = look-below index i (suc (index y)) l (omega arith) a in nope (cc)) ∙ e

module _ {X : Type 0} (P : X → Type 0) (index : X → ℕ) where
  -- what is found has the property of every element
  pub each-found : (l : List X) → Each P l → (i : ℕ) (x : X) → look index i l ≡ some x → P x
  unfolding look
  each-found [] d i x e = nope (cc)
  each-found (y ∷ l) d i x e =
      pick-eq (λ (o : Option X). o ≡ some x → P x) (index y) i (some y) (look index i l)
      (λ h k. let same : y ≡ x = cc in subst P same d.0) (λ h k. each-found l d.1 i x k) e

  -- every element is found
  pub found-each : (lo : ℕ) (l : List X) → Ascending index lo l → ((i : ℕ) (x : X) → look index i l ≡ some x → P x) → Each P l
  unfolding look
  found-each lo [] a f = tt
  found-each lo (y ∷ l) a f = (
    f (index y) y (pick_yes (index y) (index y) (some y) (look index (index y) l) refl),
    found-each (suc (index y)) l a.1 (λ i x e. f i x (found-later index y l a.1 i x e)),
  )

  -- a table with an entry put in, and with one cut out
  pub each-put : (x : X) (l : List X) → P x → Each P l → Each P (put index x l)
  unfolding put
  each-put x [] p e = (p, tt)
  each-put x (y ∷ l) p e =
      pick-lt (λ (t : List X). Each P t) (index x) (index y) (x ∷ y ∷ l) (y ∷ put index x l)
      (λ h. (p, e)) (λ h. (e.0, each-put x l p e.1))

  pub each-cut : (i : ℕ) (l : List X) → Each P l → Each P (cut index i l)
  unfolding cut
  each-cut i [] e = tt
  each-cut i (x ∷ l) e =
      pick-eq (λ (t : List X). Each P t) (index x) i l (x ∷ cut index i l) (λ h. e.1) (λ h. (e.0, each-cut i l e.1))
