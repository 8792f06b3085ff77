-- The ways in which a call changes the decoder's table, each of which keeps the state well formed: finished parts, an entry put in, a delete kept,
-- an entry freed with its delete.
use mathlib.Core.Path.{◌≡◌, refl, sym, ap, subst, ◌∙◌}
use Prim.Native.Nat.{ℕ, ◌+◌, ◌≤◌}
use native.Mathlib.Omega.{arith}
use mathlib.Core.Bool.{true, false}
use mathlib.Core.Option.{Option, none, some}
use mathlib.Core.List.{[], ◌∷◌, ◌++◌}
use lib.Dec.{eqb}
use Rattle.memory.proofs.Order.{pick-both}
use Rattle.model.specs.Table.{size, look, put, cut}
use Rattle.model.specs.Parts.{Marks, Delete}
use Rattle.model.specs.Decoder.{Held, held_index, delete_index, Decoder, held_size, with_entries, is_some, with_finished, without, FineHeld}
use Rattle.model.specs.Decoder.{FineDelete, FormsDecoder}
use Rattle.model.proofs.Places.{place-left}
use Rattle.model_laws.proofs.Tables.{nope, look-index, look-put, asc-put, total-put, length-put, look-cut, asc-cut, total-cut, length_cut}
use Rattle.model_laws.proofs.DecoderWays.{with_delete}
use Rattle.model_laws.proofs.Deletes.{look-append, look-append-some, distinct_append, distinct-cut, look-cut-distinct}

module _ (D : Decoder) (F : FormsDecoder D) where
  -- finished parts are free
  pub forms-finished : (marks : Marks) → FormsDecoder (with_finished D marks)
  forms-finished marks =
      record {
        limit = F.limit;
        fits = F.fits;
        few = F.few;
        order = F.order;
        entries = F.entries;
        deletes = λ i d e. let x = F.deletes i d e in record { nontrailer = x.nontrailer; trailer = x.trailer; held = x.held };
        once = F.once;
      }

  -- a new entry that fits, at an index that is not held
  module _ (h : Held) (free : look held_index h.index D.entries ≡ none) where
    put_entries : FineHeld h → (j : ℕ) (k : Held) → look held_index j (put held_index h D.entries) ≡ some k → FineHeld k
    put_entries fine j k e =
        pick-both (λ (o : Option Held). o ≡ some k → FineHeld k) (eqb h.index j) (some h) (look held_index j D.entries)
        (λ t q. let same : h ≡ k = cc in subst FineHeld same fine)
        (λ t q. F.entries j k q)
        (sym (look-put held_index j h D.entries free) ∙ e)

    put-held : (j : ℕ) → is_some (look held_index j D.entries) ≡ true → is_some (look held_index j (put held_index h D.entries)) ≡ true
    put-held j e =
        rw (look-put held_index j h D.entries free)
        (pick-both (λ (o : Option Held). is_some o ≡ true) (eqb h.index j) (some h) (look held_index j D.entries) (λ t. refl) (λ t. e))

    pub forms-put : FineHeld h → held_size D.entries + size h.entry ≤ D.limit
        → FormsDecoder (with_entries D (put held_index h D.entries))
    unfolding held_size
    forms-put fine fits =
        record {
          limit = F.limit;
          fits = let t = total-put held_index (λ x. size x.entry) h D.entries in let l = F.limit in omega arith;
          few =
              let t = length-put held_index h D.entries in
              omega (arith, place-left held_index (λ x. x.entry) D.entries h.entry D.limit F.limit fits);
          order = asc-put held_index 62 h D.entries fine.index.0 free F.order;
          entries = put_entries fine;
          deletes =
              λ i d e. let x = F.deletes i d e in record { nontrailer = x.nontrailer; trailer = x.trailer; held = put-held d.index x.held };
          once = F.once;
        }

  -- a delete of an entry that is held and not under deletion
  module _ (d : Delete) (fine : FineDelete D d) (free : look delete_index d.index D.deletes ≡ none) where
    still : (x : Delete) → FineDelete D x → FineDelete (with_delete D d) x
    still x f = record { nontrailer = f.nontrailer; trailer = f.trailer; held = f.held }

    last-delete : (i : ℕ) (x : Delete) → look delete_index i (d ∷ []) ≡ some x → FineDelete (with_delete D d) x
    unfolding look
    last-delete i x e =
        pick-both (λ (o : Option Delete). o ≡ some x → FineDelete (with_delete D d) x) (eqb d.index i) (some d) none
        (λ t q. let same : d ≡ x = cc in subst (λ (y : Delete). FineDelete (with_delete D d) y) same (still d fine))
        (λ t q. nope (cc))
        e

    any-delete : (i : ℕ) (x : Delete) (o : Option Delete) → look delete_index i D.deletes ≡ o
        → look delete_index i (D.deletes ++ (d ∷ [])) ≡ some x → FineDelete (with_delete D d) x
    any-delete i x none q e = last-delete i x (sym (look-append delete_index i D.deletes (d ∷ []) q) ∙ e)
    any-delete i x (some y) q e =
        let same : y ≡ x = cc (look-append-some delete_index i D.deletes (d ∷ []) y q) in
        still x (F.deletes i x (subst (λ (z : Delete). look delete_index i D.deletes ≡ some z) same q))

    pub forms-delete : FormsDecoder (with_delete D d)
    forms-delete =
        record {
          limit = F.limit;
          fits = F.fits;
          few = F.few;
          order = F.order;
          entries = F.entries;
          deletes = λ i x e. any-delete i x (look delete_index i D.deletes) refl e;
          once = distinct_append delete_index d D.deletes free F.once;
        }

  -- an entry freed, with its delete
  module _ (i : ℕ) (h : Held) (there : look held_index i D.entries ≡ some h) where
    cut-entries : (j : ℕ) (k : Held) → look held_index j (cut held_index i D.entries) ≡ some k → FineHeld k
    cut-entries j k e =
        pick-both (λ (o : Option Held). o ≡ some k → FineHeld k) (eqb i j) none (look held_index j D.entries)
        (λ t q. nope (cc))
        (λ t q. F.entries j k q)
        (sym (look-cut held_index i j 62 D.entries F.order) ∙ e)

    -- a delete that stays is another's
    cut-deletes : (j : ℕ) (d : Delete) → look delete_index j (cut delete_index i D.deletes) ≡ some d → FineDelete (without D i) d
    unfolding without
    cut-deletes j d e =
        pick-both (λ (o : Option Delete). o ≡ some d → FineDelete (without D i) d) (eqb i j) none (look delete_index j D.deletes)
        (λ t q. nope (cc))
        (λ t q.
        let x = F.deletes j d q in
        let other : eqb i d.index ≡ false = ap (eqb i) (look-index delete_index j D.deletes d q) ∙ t in
        record {
          nontrailer = x.nontrailer;
          trailer = x.trailer;
          held =
              rw (look-cut held_index i d.index 62 D.entries F.order, other) x.held;
        })
        (sym (look-cut-distinct delete_index i j D.deletes F.once) ∙ e)

    pub forms-free : FormsDecoder (without D i)
    unfolding without held_size
    forms-free =
        record {
          limit = F.limit;
          fits = let t = total-cut held_index (λ x. size x.entry) i D.entries h there in let f = F.fits in omega arith;
          few = let t = length_cut held_index i D.entries h there in let f = F.few in omega arith;
          order = asc-cut held_index i 62 D.entries F.order;
          entries = cut-entries;
          deletes = cut-deletes;
          once = distinct-cut delete_index i D.deletes F.once;
        }
