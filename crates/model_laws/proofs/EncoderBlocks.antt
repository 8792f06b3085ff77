-- A written block is remembered at the slots that it names: horizons grow at slots that are not under deletion, and then name the block's part.
-- By cases on whether the block mentions a slot.
use mathlib.Core.Path.{◌≡◌, refl, sym, ap, ◌∙◌, subst}
use mathlib.Core.Logic.{◌⊎◌, inl, inr}
use Prim.Native.Nat.{ℕ, zero, suc, ◌≤◌, ◌<◌, max}
use native.Mathlib.Decide.{ℕ_discrete}
use native.Mathlib.Omega.{arith}
use mathlib.Core.Bool.{Bool, true, false}
use mathlib.Core.Option
use mathlib.Core.Option.{Option, none, some}
use mathlib.Core.List.Memᴰ
use mathlib.Core.List.{List, [], ◌∷◌, ◌++◌, map, append-nil, Memᴰ}
use lib.Dec.{eqb}
use Rattle.memory.specs.Choice.{pick}
use Rattle.memory.proofs.Order.{pick-both, pick_true, pick-false}
use Rattle.wire.specs.Name.{indexed as indexed_name, literal as by_bytes}
use Rattle.statics.specs.Table.{Entry, entry_at}
use Rattle.fields.specs.Form.{Field}
use Rattle.blocks.specs.Representation.{Representation, indexed, literal}
use Rattle.blocks.specs.Meaning.{is_static, block_references}
use Rattle.blocks.proofs.MeaningHeld.{static-above}
use Rattle.model.specs.Table.{Ascending, look}
use Rattle.model.specs.Parts.{Part, nontrailer, trailer}
use Rattle.model.specs.Encoder.{Sent, sent_index, choose, mentions, referred, refer}
use Rattle.model_laws.proofs.Tables.{nope, pick-eq, pick_yes, look-index, look-map}
use Rattle.model_laws.proofs.Order.{refer-index}
use Rattle.model_laws.proofs.Slots.Machine.{StreamPart, parts_below, parts_among, named_parts, entry_field, field_named}
use Rattle.model_laws.proofs.Slots.Messages.{live_sent}
use Rattle.model_laws.proofs.Slots.Invariant.{MeantItem, meant_given, meant_index, meant_name, EachReference, references-map}
use Rattle.model_laws.proofs.Slots.Referring.{Grows, Grown, NewReference}
use Rattle.model_laws.proofs.View.{lists_sent, slot_sent, slot_of_sent, slots_sent}
use Rattle.model_laws.proofs.EncoderSlots.{slots-live}
use Rattle.model_laws.proofs.EncoderItems.{entry_of, meant, meant_by, meant_items, Serving, found-high, meant-served}

-- ---- the parts below a horizon

below-has : (p : Part) (s n : ℕ) → s < n → Memᴰ (record { stream = s; part = p }) (parts_below p n)
unfolding parts_below
below-has p s zero h = absurd (omega arith)
below-has p s (suc n) h = go (ℕ_discrete s n) (λ k. below-has p s n k)
  where
    go : Dec (s ≡ n) → (s < n → Memᴰ (record { stream = s; part = p }) (parts_below p n))
        → Memᴰ (record { stream = s; part = p }) (record { stream = n; part = p } ∷ parts_below p n)
    go (yes e) r = Memᴰ.head (λ k. record { stream = e k; part = p })
    go (no e) r = Memᴰ.tail (r (omega arith))

below-is : (p : Part) (n : ℕ) (q : StreamPart) → Memᴰ q (parts_below p n) → (q.part ≡ p) × (q.stream < n)
unfolding parts_below
below-is p zero q m = elim m [ ]
below-is p (suc n) q (Memᴰ.head e) = (ap (λ (t : StreamPart). t.part) e, (let z = ap (λ (t : StreamPart). t.stream) e in omega arith))
below-is p (suc n) q (Memᴰ.tail m) = let r = below-is p n q m in (r.0, (let z = r.1 in omega arith))

below_more : (p : Part) (n m : ℕ) (q : StreamPart) → n ≤ m → Memᴰ q (parts_below p n) → Memᴰ q (parts_below p m)
below_more p n m q h k =
    let r = below-is p n q k in
    Memᴰ.cast (λ i. record { stream = q.stream; part = r.0 i }) (below-has p q.stream m (let z = r.1 in omega arith))

parts-of : (e : Sent) → named_parts (lists_sent e) ≡ parts_below nontrailer e.nontrailer ++ parts_below trailer e.trailer
unfolding named_parts parts_among
parts-of e = rw (append-nil (parts_below nontrailer e.nontrailer), append-nil (parts_below trailer e.trailer))

more : (d e : Sent) (q : StreamPart) → d.nontrailer ≤ e.nontrailer → d.trailer ≤ e.trailer → Memᴰ q (named_parts (lists_sent d))
    → Memᴰ q (named_parts (lists_sent e))
more d e q h k m = rw (parts-of e) (go (Memᴰ.append_cases (parts_below nontrailer d.nontrailer) (rw (parts-of d) at m)))
  where
    go : Memᴰ q (parts_below nontrailer d.nontrailer) ⊎ Memᴰ q (parts_below trailer d.trailer)
        → Memᴰ q (parts_below nontrailer e.nontrailer ++ parts_below trailer e.trailer)
    go (inl x) = Memᴰ.append_left (parts_below trailer e.trailer) (below_more nontrailer d.nontrailer e.nontrailer q h x)
    go (inr x) = Memᴰ.append_right (parts_below nontrailer e.nontrailer) (below_more trailer d.trailer e.trailer q k x)

referred-has : (s : ℕ) (p : Part) (e : Sent) → Memᴰ (record { stream = s; part = p }) (named_parts (lists_sent (referred s p e)))
unfolding referred
referred-has s nontrailer e =
    rw (parts-of (referred s nontrailer e)) (Memᴰ.append_left _ (below-has nontrailer s (max e.nontrailer (suc s)) (omega arith)))
referred-has s trailer e =
    rw (parts-of (referred s trailer e)) (Memᴰ.append_right (parts_below nontrailer e.nontrailer) (below-has trailer s (max e.trailer (suc s)) (omega arith)))

referred-more : (s : ℕ) (p : Part) (e : Sent) (q : StreamPart) → Memᴰ q (named_parts (lists_sent e)) → Memᴰ q (named_parts (lists_sent (referred s p e)))
unfolding referred
referred-more s nontrailer e q m = more e (referred s nontrailer e) q (omega arith) (omega arith) m
referred-more s trailer e q m = more e (referred s trailer e) q (omega arith) (omega arith) m

-- the slot of an entry that is not under deletion, after a block that names it
referred-live : (s : ℕ) (p : Part) (e : Sent) → e.deleted ≡ false → slot_of_sent (some (referred s p e)) ≡ live_sent e.entry (lists_sent (referred s p e))
unfolding referred
referred-live s nontrailer e d = ap (λ (b : Bool). slot_sent b e.entry (lists_sent (referred s nontrailer e))) d
referred-live s trailer e d = ap (λ (b : Bool). slot_sent b e.entry (lists_sent (referred s trailer e))) d

-- ---- the indexes that a block mentions

refs-tail : (P : ℕ → Entry → Type 0) (x : MeantItem) (b : List MeantItem) → EachReference P (x ∷ b) → EachReference P b
refs-tail P (meant_given f) b r = r
refs-tail P (meant_index i c) b r = r.1
refs-tail P (meant_name i c n v) b r = r.1

module _ (l : List Sent) (P : ℕ → Entry → Type 0) where
  -- a mentioned dynamic index is one of the references
  dynamic : (i j : ℕ) → 61 < i → (f : Field) (y : MeantItem) (c : Entry) (b : List MeantItem) → (EachReference P (y ∷ b) → P j c)
      → EachReference P (pick (is_static j) (meant_given f) y ∷ b) → j ≡ i → P i c
  dynamic i j h f y c b at r e =
      subst (λ (n : ℕ). P n c) e
      (at (subst (λ (x : MeantItem). EachReference P (x ∷ b)) (pick-false (is_static j) (meant_given f) y (static-above j (omega arith))) r))

  mentioned : (i : ℕ) → 61 < i → (rs : List Representation) → EachReference P (meant_by l rs) → mentions (block_references rs) i ≡ true → (c : Entry) × P i c
  unfolding block_references mentions meant_by meant
  mentioned i h [] r m = nope (cc)
  mentioned i h (indexed j ∷ rs) r m =
      let c : Entry = entry_of (look sent_index j l) in
      pick-eq (λ (t : Bool). t ≡ true → (c : Entry) × P i c) j i true (mentions (block_references rs) i)
      (λ e k. (c, dynamic i j h (entry_field (entry_at j)) (meant_index j c) c (meant_by l rs) (λ u. u.0) r e))
      (λ e k. mentioned i h rs (refs-tail P (meant l (indexed j)) (meant_by l rs) r) k) m
  mentioned i h (literal flag (indexed_name j) v ∷ rs) r m =
      let c : Entry = entry_of (look sent_index j l) in
      pick-eq (λ (t : Bool). t ≡ true → (c : Entry) × P i c) j i true (mentions (block_references rs) i)
      (λ e k. (c, dynamic i j h (field_named flag v (entry_at j)) (meant_name j c flag v) c (meant_by l rs) (λ u. u.0) r e))
      (λ e k. mentioned i h rs (refs-tail P (meant l (literal flag (indexed_name j) v)) (meant_by l rs) r) k) m
  mentioned i h (literal flag (by_bytes n) v ∷ rs) r m = mentioned i h rs r m

  -- each reference is mentioned: in the block, and so behind the index j
  abbrev Mentioned : List Representation → ℕ → Entry → Type 0
  Mentioned rs i c = P i c × (mentions (block_references rs) i ≡ true)

  abbrev Behind : ℕ → List Representation → ℕ → Entry → Type 0
  Behind j rs i c = P i c × (pick (eqb j i) true (mentions (block_references rs) i) ≡ true)

  behind : (j : ℕ) (rs : List Representation) (b : List MeantItem) → EachReference (Mentioned rs) b → EachReference (Behind j rs) b
  behind j rs b r =
      references-map (Mentioned rs) (Behind j rs) b
      (λ i c h. (h.0, pick-both (λ (t : Bool). t ≡ true) (eqb j i) true (mentions (block_references rs) i) (λ e. refl) (λ e. h.1))) r

  mentions-all : (rs : List Representation) → EachReference P (meant_by l rs) → EachReference (Mentioned rs) (meant_by l rs)
  unfolding block_references mentions meant_by meant
  mentions-all [] r = tt
  mentions-all (indexed j ∷ rs) r =
      pick-both (λ (x : MeantItem). EachReference P (x ∷ meant_by l rs) → EachReference (Behind j rs) (x ∷ meant_by l rs)) (is_static j)
      (meant_given (entry_field (entry_at j)))
      (meant_index j (entry_of (look sent_index j l)))
      (λ t u. behind j rs (meant_by l rs) (mentions-all rs u))
      (λ t u. ((u.0, pick_yes j j true (mentions (block_references rs) j) refl), behind j rs (meant_by l rs) (mentions-all rs u.1))) r
  mentions-all (literal flag (indexed_name j) v ∷ rs) r =
      pick-both (λ (x : MeantItem). EachReference P (x ∷ meant_by l rs) → EachReference (Behind j rs) (x ∷ meant_by l rs)) (is_static j)
      (meant_given (field_named flag v (entry_at j)))
      (meant_name j (entry_of (look sent_index j l)) flag v)
      (λ t u. behind j rs (meant_by l rs) (mentions-all rs u))
      (λ t u. ((u.0, pick_yes j j true (mentions (block_references rs) j) refl), behind j rs (meant_by l rs) (mentions-all rs u.1))) r
  mentions-all (literal flag (by_bytes n) v ∷ rs) r = mentions-all rs r

-- ---- the block

module _ (l : List Sent) (a : Ascending sent_index 62 l) (s : ℕ) (p : Part) (fs : List Field) where
  abbrev rs : List Representation
  rs = map (choose l) fs

  found_after : (i : ℕ) (o : Option Sent) → look sent_index i l ≡ o → slots_sent (map (refer s p rs) l) i ≡ slot_of_sent (Option.map (refer s p rs) o)
  unfolding slots_sent
  found_after i o h = ap slot_of_sent (look-map sent_index (refer s p rs) (refer-index s p rs) i l ∙ ap (Option.map (refer s p rs)) h)

  -- an entry that the block mentions is not under deletion
  mentioned-live : (i : ℕ) (e : Sent) → look sent_index i l ≡ some e → mentions (block_references rs) i ≡ true → e.deleted ≡ false
  mentioned-live i e h m =
      let w : Serving l i _ = (mentioned l (Serving l) i (found-high l a i e h) rs (meant-served l a fs) m).1 in
      let f = w.found in
      let z : w.sent ≡ e = cc in
      ap (λ (x : Sent). x.deleted) (sym z) ∙ w.lives

  pub block-grown : Grown (slots_sent l) (slots_sent (map (refer s p rs) l))
  unfolding slots_sent refer
  block-grown i = rw (found_after i (look sent_index i l) refl) (go (look sent_index i l) refl)
    where
      go : (o : Option Sent) → look sent_index i l ≡ o
          → (slot_of_sent (Option.map (refer s p rs) o) ≡ slot_of_sent o) ⊎ Grows (slot_of_sent o) (slot_of_sent (Option.map (refer s p rs) o))
      go none h = inl refl
      go (some e) h =
          let x = look-index sent_index i l e h in
          pick-both (λ (t : Sent). (slot_of_sent (some t) ≡ slot_of_sent (some e)) ⊎ Grows (slot_of_sent (some e)) (slot_of_sent (some t)))
          (mentions (block_references rs) e.index) (referred s p e) e
          (λ m. let d = mentioned-live i e h (ap (mentions (block_references rs)) (sym x) ∙ m) in
          inr (record {
            entry = e.entry;
            older = lists_sent e;
            newer = lists_sent (referred s p e);
            from-live = ap (λ (b : Bool). slot_sent b e.entry (lists_sent e)) d;
            to-live = referred-live s p e d;
            more = referred-more s p e;
          }))
          (λ m. inl refl)

  pub block-fresh : EachReference (NewReference (slots_sent l) (slots_sent (map (refer s p rs) l)) (record { stream = s; part = p })) (meant_items l fs)
  unfolding refer
  block-fresh = references-map _ _ (meant_items l fs) one (mentions-all l (Serving l) rs (meant-served l a fs))
    where
      one : (i : ℕ) (c : Entry) → Serving l i c × (mentions (block_references rs) i ≡ true)
          → NewReference (slots_sent l) (slots_sent (map (refer s p rs) l)) (record { stream = s; part = p }) i c
      one i c h =
          let e : Sent = h.0.sent in
          let x = look-index sent_index i l e h.0.found in
          let w : refer s p rs e ≡ referred s p e
          = pick_true (mentions (block_references rs) e.index) (referred s p e) e (ap (mentions (block_references rs)) x ∙ h.1) in
          record {
            lists = lists_sent e;
            lists' = lists_sent (referred s p e);
            before = slots-live l i e h.0.found h.0.lives ∙ ap (λ (t : Entry). live_sent t (lists_sent e)) h.0.holds;
            behind =
                found_after i (some e) h.0.found ∙ ap (λ (t : Sent). slot_of_sent (some t)) w ∙ referred-live s p e h.0.lives
                ∙ ap (λ (t : Entry). live_sent t (lists_sent (referred s p e))) h.0.holds;
            noted = referred-has s p e;
          }
