-- Where the delete of an entry stands among the deletes, and where it stands after a delete is kept or dropped. By induction over the deletes.
use Prim.Native.Nat.{ℕ, zero, suc, ◌+◌, ◌-◌, ◌≤◌, ◌<◌}
use mathlib.Core.Path.{◌≡◌, refl, sym, ◌∙◌}
use native.Mathlib.Omega.{arith}
use mathlib.Core.Option.{none, some}
use mathlib.Core.List.{List, [], ◌∷◌, ◌++◌}
use lib.Dec.{eqb, ltb}
use lib.ListN.{length, get_or}
use borrow.Author.Tests.{lt-ltb, le-ltb}
use Rattle.memory.specs.Choice.{pick}
use Rattle.memory.proofs.Order.{pick_true, pick-false}
use Rattle.model.specs.Table.{Distinct, look}
use Rattle.model.specs.Parts.{Delete}
use Rattle.model.specs.Decoder.{delete_index}
use Rattle.model_laws.proofs.Tables.{pick-eq, pick_yes, pick_no, look_none}
use Rattle.state.specs.DecoderState.{place_from}
use Rattle.state_laws.proofs.Pointing.{indexes, look-absent}
use Rattle.table_laws.proofs.Finding.{FoundAt, found_here, found-next}

module _ (i : ℕ) where
  -- ---- none, or the place where it is found

  pub place_none : (k : ℕ) (ds : List Delete) → look delete_index i ds ≡ none → place_from k i ds ≡ 0
  unfolding place_from
  place_none k [] e = refl
  place_none k (d ∷ ds) e =
      let n = look_none delete_index i d ds e in
      pick_no d.index i (k + 1) (place_from (k + 1) i ds) n.0 ∙ place_none (k + 1) ds n.1

  pub none-place : (k : ℕ) (ds : List Delete) → place_from k i ds ≡ 0 → look delete_index i ds ≡ none
  unfolding place_from look
  none-place k [] e = refl
  none-place k (d ∷ ds) e =
      pick-eq (λ (s : ℕ). s ≡ 0 → look delete_index i (d ∷ ds) ≡ none) d.index i (k + 1) (place_from (k + 1) i ds)
      (λ h z. absurd (omega arith)) (λ h z. pick_no d.index i (some d) (look delete_index i ds) h ∙ none-place (k + 1) ds z) e

  pub place_found_lem : (k s : ℕ) (ds : List Delete) → place_from k i ds ≡ suc s → (q : ℕ) × (k + q ≡ s) × FoundAt delete_index i q ds
  unfolding place_from
  place_found_lem k s [] e = absurd (omega arith)
  place_found_lem k s (d ∷ ds) e =
      pick-eq (λ (t : ℕ). t ≡ suc s → (q : ℕ) × (k + q ≡ s) × FoundAt delete_index i q (d ∷ ds)) d.index i (k + 1) (place_from (k + 1) i ds)
      (λ h z. (0, omega arith, found_here delete_index i d ds h))
      (λ h z. let w = place_found_lem (k + 1) s ds z in (suc w.0, omega (arith, w.1), found-next delete_index i d ds w.0 h w.2)) e

  -- ---- a delete kept after the others

  pub place_other : (k : ℕ) (ds : List Delete) (d : Delete) → (d.index ≡ i → ⊥) → place_from k i (ds ++ d ∷ []) ≡ place_from k i ds
  unfolding place_from
  place_other k [] d n = pick_no d.index i (k + 1) 0 n
  place_other k (c ∷ ds) d n =
      let w = place_other (k + 1) ds d n in
      rw w

  pub place-new : (k : ℕ) (ds : List Delete) (d : Delete) → d.index ≡ i → look delete_index i ds ≡ none → place_from k i (ds ++ d ∷ []) ≡ k + (length ds + 1)
  unfolding place_from
  place-new k [] d h e = pick_yes d.index i (k + 1) 0 h
  place-new k (c ∷ ds) d h e =
      let n = look_none delete_index i c ds e in
      pick_no c.index i (k + 1) (place_from (k + 1) i (ds ++ d ∷ [])) n.0 ∙ omega (arith, place-new (k + 1) ds d h n.1)

  -- ---- a delete dropped: places behind it are one lower

  abbrev lower : ℕ → ℕ → ℕ
  lower n s = pick (ltb n s) (s - 1) s

  lower-yes : (n s t : ℕ) → n ≤ s → t ≡ s + 1 → s ≡ lower n t
  lower-yes n s t h e = omega (arith, pick_true (ltb n t) (t - 1) t (lt-ltb n t (omega arith)))

  lower-no : (n s : ℕ) → s ≤ n → s ≡ lower n s
  lower-no n s h = sym (pick-false (ltb n s) (s - 1) s (le-ltb n s h))

  place-shift : (n k : ℕ) (ds : List Delete) → n ≤ k + 1 → place_from k i ds ≡ lower n (place_from (k + 1) i ds)
  unfolding place_from
  place-shift n k [] h = lower-no n 0 (omega arith)
  place-shift n k (d ∷ ds) h =
      pick-eq (λ (s : ℕ). pick (eqb d.index i) (k + 1) (place_from (k + 1) i ds) ≡ lower n s) d.index i (k + 1 + 1) (place_from (k + 1 + 1) i ds)
      (λ e. pick_yes d.index i (k + 1) (place_from (k + 1) i ds) e ∙ lower-yes n (k + 1) (k + 1 + 1) h refl)
      (λ e. pick_no d.index i (k + 1) (place_from (k + 1) i ds) e ∙ place-shift n (k + 1) ds (omega arith))

  pub place-dropped : (n k : ℕ) (ds : List Delete) (d : Delete) (es : List Delete) → n ≡ k + (length ds + 1) → (d.index ≡ i → ⊥)
      → place_from k i (ds ++ es) ≡ lower n (place_from k i (ds ++ d ∷ es))
  unfolding place_from
  place-dropped n k [] d es e h = place-shift n k es (omega arith) ∙ sym (λ j. lower n (pick_no d.index i (k + 1) (place_from (k + 1) i es) h j))
  place-dropped n k (c ∷ ds) d es e h =
      pick-eq (λ (s : ℕ). pick (eqb c.index i) (k + 1) (place_from (k + 1) i (ds ++ es)) ≡ lower n s)
      c.index i (k + 1) (place_from (k + 1) i (ds ++ d ∷ es))
      (λ q. pick_yes c.index i (k + 1) (place_from (k + 1) i (ds ++ es)) q ∙ lower-no n (k + 1) (omega arith))
      (λ q. pick_no c.index i (k + 1) (place_from (k + 1) i (ds ++ es)) q ∙ place-dropped n (k + 1) ds d es (omega arith) h)

-- where no two deletes have one index, the place of each delete's index is its own
pub place-index : (k j : ℕ) (ds : List Delete) → Distinct delete_index ds → j < length ds → place_from k (get_or (indexes ds) j 0) ds ≡ k + suc j
unfolding place_from
place-index k j [] o h = absurd (omega arith)
place-index k zero (d ∷ ds) o h = pick_yes d.index d.index (k + 1) (place_from (k + 1) d.index ds) refl
place-index k (suc j) (d ∷ ds) o h =
    pick_no d.index (get_or (indexes ds) j 0) (k + 1) (place_from (k + 1) (get_or (indexes ds) j 0) ds)
    (λ e. look-absent d.index ds o.0 j (omega arith) (sym e))
    ∙ omega (arith, place-index (k + 1) j ds o.1 (omega arith))
