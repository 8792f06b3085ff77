-- Looking in lists: every entry is found where no two have one index; and a list whose entries are made from those of another. By induction.
use mathlib.Core.Path.{◌≡◌, refl, ap, ◌∙◌}
use Prim.Native.Nat.{ℕ, suc}
use mathlib.Core.Option
use mathlib.Core.Option.{Option, none, some}
use mathlib.Core.List.{List, [], ◌∷◌, map}
use Rattle.model.specs.Table.{Ascending, Distinct, look}
use Rattle.model.specs.Decoder.{is_some}
use Rattle.model_laws.proofs.Tables.{nope, pick-eq, pick_yes, pick_no}
use Rattle.state_laws.proofs.Each.{Each}

module _ {X : Type 0} (index : X → ℕ) where
  pub distinct-each : (P : X → Type 0) (l : List X) → Distinct index l → ((i : ℕ) (x : X) → look index i l ≡ some x → P x) → Each P l
  unfolding look
  distinct-each P [] d f = tt
  distinct-each P (y ∷ l) d f = (
    f (index y) y (pick_yes (index y) (index y) (some y) (look index (index y) l) refl),
    distinct-each P l d.1 (λ i x e.
        f i x (pick_no (index y) i (some y) (look index i l) (λ z. let n = d.0 in let k = rw (← z) at e in nope (cc)) ∙ e)),
  )

  module _ {Y : Type 0} (make : Y → X) where
    look-made : (i : ℕ) (l : List Y) → look index i (map make l) ≡ Option.map make (look (λ y. index (make y)) i l)
    unfolding look
    look-made i [] = refl
    look-made i (y ∷ l) =
        pick-eq (λ (o : Option Y). look index i (make y ∷ map make l) ≡ Option.map make o) (index (make y)) i (some y) (look (λ z. index (make z)) i l)
        (λ e. pick_yes (index (make y)) i _ _ e) (λ e. pick_no (index (make y)) i _ _ e ∙ look-made i l)

    pub found-made : (i : ℕ) (l : List Y) → is_some (look index i (map make l)) ≡ is_some (look (λ y. index (make y)) i l)
    found-made i l = ap is_some (look-made i l) ∙ go (look (λ y. index (make y)) i l)
      where
        go : (o : Option Y) → is_some (Option.map make o) ≡ is_some o
        go none = refl
        go (some y) = refl

    pub asc-made : (lo : ℕ) (l : List Y) → Ascending (λ y. index (make y)) lo l → Ascending index lo (map make l)
    asc-made lo [] a = tt
    asc-made lo (y ∷ l) a = (a.0, asc-made (suc (index (make y))) l a.1)
