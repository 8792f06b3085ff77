-- An entry after one representation more of a block: it is referred to if that representation names it, and being referred to twice by one part is the same
-- as once. By cases on whether the index is the entry's.
use Prim.Native.Nat.{ℕ, suc, max}
use mathlib.Core.Path.{◌≡◌, refl, sym, ap, ◌∙◌}
use native.Mathlib.Omega.{arith}
use native.Mathlib.Decide.{ℕ_discrete}
use mathlib.Core.Bool.{Bool, true, false}
use mathlib.Core.List.{List, [], ◌∷◌, ◌++◌, append-nil, append_assoc}
use lib.Dec.{eqb}
use Rattle.memory.specs.Choice.{pick}
use Rattle.memory.proofs.Order.{pick-both, pick_true}
use Rattle.blocks.specs.Representation.{Representation}
use Rattle.blocks.specs.Meaning.{references, block_references}
use Rattle.model.specs.Parts.{Part, nontrailer, trailer}
use Rattle.model.specs.Encoder.{Sent, with_nontrailer, with_trailer, mentions, referred, refer}
use Rattle.model_laws.proofs.Tables.{pick_yes, pick_no}
use Rattle.model_laws.proofs.Order.{refer-index}
use Rattle.state.specs.EncoderState.{row_of_sent}
use Rattle.table_laws.specs.EncoderChanges.{referred_at}
use Rattle.table_laws.proofs.EncoderHorizons.{referred-row}

-- ---- the indexes that a block names

references-snoc : (ps : List Representation) (r : Representation) → block_references (ps ++ (r ∷ [])) ≡ block_references ps ++ references r
unfolding block_references
references-snoc [] r = append-nil (references r)
references-snoc (q ∷ ps) r =
    ap (λ (t : List ℕ). references q ++ t) (references-snoc ps r) ∙ sym (append_assoc (references q) (block_references ps) (references r))

mentions-last : (is : List ℕ) (i j : ℕ) → i ≡ j → mentions (is ++ (i ∷ [])) j ≡ true
unfolding mentions
mentions-last [] i j e = pick_yes i j true false e
mentions-last (k ∷ is) i j e =
    pick-both (λ (t : Bool). t ≡ true) (eqb k j) true (mentions (is ++ (i ∷ [])) j) (λ h. refl) (λ h. mentions-last is i j e)

mentions-other : (is : List ℕ) (i j : ℕ) → (i ≡ j → ⊥) → mentions (is ++ (i ∷ [])) j ≡ mentions is j
unfolding mentions
mentions-other [] i j n = pick_no i j true false n
mentions-other (k ∷ is) i j n = ap (pick (eqb k j) true) (mentions-other is i j n)

-- ---- an entry that it may refer to

module _ (s : ℕ) where
  referred-again : (p : Part) (e : Sent) → referred s p (referred s p e) ≡ referred s p e
  unfolding referred
  referred-again nontrailer e =
      let z : max (max e.nontrailer (suc s)) (suc s) ≡ max e.nontrailer (suc s) = omega arith in
      ap (with_nontrailer e) z
  referred-again trailer e =
      let z : max (max e.trailer (suc s)) (suc s) ≡ max e.trailer (suc s) = omega arith in
      ap (with_trailer e) z

  module _ (p : Part) where
    pub refer-row : (rs : List Representation) (e : Sent) → row_of_sent (refer s p rs e) ≡ row_of_sent e
    unfolding refer
    refer-row rs e =
        pick-both (λ (d : Sent). row_of_sent d ≡ row_of_sent e) (mentions (block_references rs) e.index) (referred s p e) e
        (λ h. referred-row s p e) (λ h. refl)

    pub refer-nothing : (e : Sent) → refer s p [] e ≡ e
    unfolding refer block_references mentions
    refer-nothing e = refl

    module _ (ps : List Representation) (r : Representation) where
      -- a representation that names no index
      pub refer-text : references r ≡ [] → (e : Sent) → refer s p (ps ++ (r ∷ [])) e ≡ refer s p ps e
      unfolding refer
      refer-text none e =
          let same : block_references (ps ++ (r ∷ [])) ≡ block_references ps =
          references-snoc ps r ∙ ap (λ (t : List ℕ). block_references ps ++ t) none ∙ append-nil (block_references ps) in
          ap (λ (is : List ℕ). pick (mentions is e.index) (referred s p e) e) same

      -- one that names i
      module _ (i : ℕ) (named : references r ≡ i ∷ []) where
        all : block_references (ps ++ (r ∷ [])) ≡ block_references ps ++ (i ∷ [])
        all = references-snoc ps r ∙ ap (λ (t : List ℕ). block_references ps ++ t) named

        pub refer-other : (e : Sent) → (e.index ≡ i → ⊥) → refer s p (ps ++ (r ∷ [])) e ≡ refer s p ps e
        unfolding refer
        refer-other e n =
            ap (λ (t : Bool). pick t (referred s p e) e)
            (ap (λ (is : List ℕ). mentions is e.index) all ∙ mentions-other (block_references ps) i e.index (λ z. n (sym z)))

        refer-this : (e : Sent) → e.index ≡ i → refer s p (ps ++ (r ∷ [])) e ≡ referred s p (refer s p ps e)
        unfolding refer
        refer-this e h =
            pick_true (mentions (block_references (ps ++ (r ∷ []))) e.index) (referred s p e) e
            (ap (λ (is : List ℕ). mentions is e.index) all ∙ mentions-last (block_references ps) i e.index (sym h))
            ∙ sym (pick-both (λ (d : Sent). referred s p d ≡ referred s p e) (mentions (block_references ps) e.index) (referred s p e) e
            (λ t. referred-again p e) (λ t. refl))

        pub refer-one : (e : Sent) → refer s p (ps ++ (r ∷ [])) e ≡ referred_at s p i (refer s p ps e)
        unfolding referred_at
        refer-one e = go (ℕ_discrete e.index i)
          where
            d : Sent
            d = refer s p ps e

            go : Dec (e.index ≡ i) → refer s p (ps ++ (r ∷ [])) e ≡ pick (eqb d.index i) (referred s p d) d
            go (yes h) = refer-this e h ∙ sym (pick_yes d.index i (referred s p d) d (refer-index s p ps e ∙ h))
            go (no n) = refer-other e n ∙ sym (pick_no d.index i (referred s p d) d (λ h. n (sym (refer-index s p ps e) ∙ h)))
