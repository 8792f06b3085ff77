-- A collect that frees an entry frees its slot: the entry is under deletion, and all that its lists name is finished. A delete is ready exactly
-- where all its named parts are marked, since fine lists name streams below 4,096 alone.
use mathlib.Core.Path.{◌≡◌, refl, sym, ap, ◌∙◌}
use mathlib.Core.Logic.{⊎_elim}
use Prim.Native.Nat.{ℕ, zero, suc, ◌-◌, ◌≤◌, ◌<◌}
use native.Mathlib.Omega.{arith}
use mathlib.Core.Bool.{Bool, true, false, ◌&&◌}
use mathlib.Core.Option.{Option, none, some}
use mathlib.Core.List.{List, [], ◌∷◌, ◌++◌}
use lib.Dec.{ltb, eqb}
use borrow.Author.Tests.{ltb-true, lt-ltb, eqb-true, eq-eqb}
use Rattle.memory.specs.Choice.{pick}
use Rattle.memory.proofs.Order.{split, either, pick-both, not-both}
use Rattle.stream_lists.specs.StreamList.{StreamList, listed, names}
use Rattle.statics.specs.Table.{Entry}
use Rattle.instructions.specs.Instruction.{FineList}
use Rattle.model.specs.Table.{size, look, cut}
use Rattle.model.specs.Parts.{Part, nontrailer, trailer, Marks, Delete, names_part, streams, is_ready}
use Rattle.model.specs.Decoder.{Held, held_index, delete_index, Decoder, held_size, delete_of, ready_delete, ready, next_freed, without, FormsDecoder}
use Rattle.model_laws.proofs.Tables.{nope, total-cut}
use Rattle.model_laws.proofs.Forms.{freed-ready, freed-held}
use Rattle.model_laws.proofs.Marks.{OpenPart, ready_marked, ready-or, part_low, and_both}
use Rattle.model_laws.proofs.Slots.Machine.{StreamPart, DeleteLists, parts_below, parts_among, named_parts, all_marked, deleted_slot, size_of, free_at}
use Rattle.model_laws.proofs.Slots.Machine.{with_slots, set_slot}
use Rattle.model_laws.proofs.View.{lists_of, slot_at, slots_of, tables_of}
use Rattle.model_laws.proofs.TableView.{slots-cut}

-- ---- all parts that the lists name
module _ (marks : Marks) where
  all_append : (l m : List StreamPart) → all_marked marks l ≡ true → all_marked marks m ≡ true → all_marked marks (l ++ m) ≡ true
  unfolding all_marked
  all_append [] m h k = k
  all_append (q ∷ l) m h k = go (marks q.stream q.part) h (λ e. all_append l m e k)
    where
      go : (b : Bool) → (b && all_marked marks l) ≡ true → (all_marked marks l ≡ true → all_marked marks (l ++ m) ≡ true)
          → (b && all_marked marks (l ++ m)) ≡ true
      go true e f = f e
      go false e f = e

  all-below : (p : Part) (n : ℕ) → ((s : ℕ) → s < n → marks s p ≡ true) → all_marked marks (parts_below p n) ≡ true
  unfolding all_marked parts_below
  all-below p zero h = refl
  all-below p (suc n) h = rw (h n (omega arith)) (all-below p n (λ s l. h s (omega arith)))

  all-each : (p : Part) (l : List ℕ) → ((s : ℕ) → listed l s ≡ true → marks s p ≡ true) → all_marked marks (parts_among p l) ≡ true
  unfolding all_marked parts_among listed
  all-each p [] h = refl
  all-each p (x ∷ l) h =
      rw (h x (ap (λ (b : Bool). pick b true (listed l x)) (eq-eqb x x refl)))
      (all-each p l (λ s e. h s (pick-both (λ (b : Bool). b ≡ true) (eqb s x) true (listed l s) (λ t. refl) (λ t. e))))

  all_list : (p : Part) (l : StreamList) → ((s : ℕ) → names l s ≡ true → marks s p ≡ true)
      → all_marked marks (parts_below p l.horizon ++ parts_among p l.streams) ≡ true
  unfolding names
  all_list p l h =
      all_append (parts_below p l.horizon) (parts_among p l.streams)
      (all-below p l.horizon (λ s k. h s (ap (λ (b : Bool). pick b true (listed l.streams s)) (lt-ltb s l.horizon k))))
      (all-each p l.streams
      (λ s e. h s (pick-both (λ (b : Bool). b ≡ true) (ltb s l.horizon) true (listed l.streams s) (λ t. refl) (λ t. e))))

  pub all_named : (d : Delete) → ((s : ℕ) (p : Part) → names_part d s p ≡ true → marks s p ≡ true) → all_marked marks (named_parts (lists_of d)) ≡ true
  unfolding named_parts names_part
  all_named d h =
      all_append (parts_below nontrailer d.nontrailer.horizon ++ parts_among nontrailer d.nontrailer.streams)
      (parts_below trailer d.trailer.horizon ++ parts_among trailer d.trailer.streams)
      (all_list nontrailer d.nontrailer (λ s e. h s nontrailer e)) (all_list trailer d.trailer (λ s e. h s trailer e))

  pub ready-parts : (d : Delete) → FineList d.nontrailer → FineList d.trailer → is_ready marks d ≡ true → all_marked marks (named_parts (lists_of d)) ≡ true
  ready-parts d p t r = all_named d (λ s q n. ready_marked marks d s q r (part_low d s q p t n) n)

  -- ---- and each of them, where all are finished
  all-parts : (l m : List StreamPart) → all_marked marks (l ++ m) ≡ true → (all_marked marks l ≡ true) × (all_marked marks m ≡ true)
  unfolding all_marked
  all-parts [] m h = (refl, h)
  all-parts (q ∷ l) m h =
      let b = and_both (marks q.stream q.part) (all_marked marks (l ++ m)) h in
      let r = all-parts l m b.1 in
      (rw b.0 r.0, r.1)

  below-marked : (p : Part) (n : ℕ) → all_marked marks (parts_below p n) ≡ true → (s : ℕ) → s < n → marks s p ≡ true
  unfolding all_marked parts_below
  below-marked p zero h s l = absurd (omega arith)
  below-marked p (suc n) h s l =
      let b = and_both (marks n p) (all_marked marks (parts_below p n)) h in
      split s n (below-marked p n b.1 s) (λ k. let e : s ≡ n = omega arith in rw e b.0)

  each-marked : (p : Part) (l : List ℕ) → all_marked marks (parts_among p l) ≡ true → (s : ℕ) → listed l s ≡ true → marks s p ≡ true
  unfolding all_marked parts_among listed
  each-marked p [] h s e = not-both false e refl
  each-marked p (x ∷ l) h s e =
      let b = and_both (marks x p) (all_marked marks (parts_among p l)) h in
      pick-both (λ (t : Bool). t ≡ true → marks s p ≡ true) (eqb s x) true (listed l s)
      (λ t q. rw (eqb-true s x t) b.0) (λ t q. each-marked p l b.1 s q) e

  list-marked : (p : Part) (l : StreamList) → all_marked marks (parts_below p l.horizon ++ parts_among p l.streams) ≡ true
      → (s : ℕ) → names l s ≡ true → marks s p ≡ true
  unfolding names
  list-marked p l h s e =
      let b = all-parts (parts_below p l.horizon) (parts_among p l.streams) h in
      pick-both (λ (t : Bool). t ≡ true → marks s p ≡ true) (ltb s l.horizon) true (listed l.streams s)
      (λ t q. below-marked p l.horizon b.0 s (ltb-true s l.horizon t)) (λ t q. each-marked p l.streams b.1 s q) e

  pub named-marked : (d : Delete) → all_marked marks (named_parts (lists_of d)) ≡ true → (s : ℕ) (p : Part) → names_part d s p ≡ true → marks s p ≡ true
  unfolding named_parts names_part
  named-marked d h s p e = go p e
    where
      both : (all_marked marks (parts_below nontrailer d.nontrailer.horizon ++ parts_among nontrailer d.nontrailer.streams) ≡ true)
          × (all_marked marks (parts_below trailer d.trailer.horizon ++ parts_among trailer d.trailer.streams) ≡ true)
      both =
          all-parts (parts_below nontrailer d.nontrailer.horizon ++ parts_among nontrailer d.nontrailer.streams)
          (parts_below trailer d.trailer.horizon ++ parts_among trailer d.trailer.streams) h

      go : (q : Part) → names_part d s q ≡ true → marks s q ≡ true
      go nontrailer n = list-marked nontrailer d.nontrailer both.0 s n
      go trailer n = list-marked trailer d.trailer both.1 s n

  -- a delete is ready exactly where all that it names is finished
  pub ready-view : (d : Delete) → FineList d.nontrailer → FineList d.trailer → is_ready marks d ≡ all_marked marks (named_parts (lists_of d))
  ready-view d p t =
      ⊎_elim (λ r. r ∙ sym (ready-parts d p t r))
      (λ (o : OpenPart marks d streams).
      either (is_ready marks d) (λ r. r ∙ sym (ready-parts d p t r))
      (λ r. r ∙ either (all_marked marks (named_parts (lists_of d)))
      (λ a. not-both (marks o.stream o.part) (named-marked d a o.stream o.part o.named) o.unmarked)
      (λ a. sym a)))
      (ready-or marks d)

-- ---- a collect
pub record Freed (D : Decoder) (i : ℕ) : Type 0 where
  pub entry : Entry
  pub lists : DeleteLists
  pub was : (tables_of D).slots i ≡ deleted_slot entry lists
  pub all : all_marked (tables_of D).finished (named_parts lists) ≡ true
  pub fits : size entry ≤ (tables_of D).filled
  pub view : tables_of (without D i) ≡ free_at (tables_of D) i

module _ (D : Decoder) (F : FormsDecoder D) (i : ℕ) (h : Held) (there : look held_index i D.entries ≡ some h) where
  freed : (d : Option Delete) → look delete_index i D.deletes ≡ d → ready_delete D.finished d ≡ true → Freed D i
  unfolding tables_of slots_of free_at set_slot without held_size ready_delete
  freed none e r = nope (cc)
  freed (some d) e r =
      let fine = F.deletes i d e in
      let sum = total-cut held_index (λ x. size x.entry) i D.entries h there in
      let slot : slot_at (look held_index i D.entries) (look delete_index i D.deletes) ≡ deleted_slot h.entry (lists_of d) =
      rw (there, e) in
      let t = slots-cut D F i in
      let weight = ap size_of slot in
      let w : held_size (cut held_index i D.entries)
      ≡ held_size D.entries - size_of (slot_at (look held_index i D.entries) (look delete_index i D.deletes)) = omega arith in
      record {
        entry = h.entry;
        lists = lists_of d;
        was = slot;
        all = ready-parts D.finished d fine.nontrailer fine.trailer r;
        fits = omega arith;
        view = λ k. with_slots (tables_of D) (t k) (w k);
      }

pub collect-view : (D : Decoder) → FormsDecoder D → (i : ℕ) → next_freed D ≡ some i → Freed D i
unfolding ready delete_of
collect-view D F i e =
    let h = freed-held D F i e in freed D F i h.0 h.1 (look delete_index i D.deletes) refl (freed-ready D F i e)
