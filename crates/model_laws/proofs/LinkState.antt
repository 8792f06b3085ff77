-- The ends of a link and the link of slots beside them: the instructions and acknowledgements that are written and unread, and the blocks as
-- they were meant. How each list changes by an event. By induction over the lists.
use mathlib.Core.Path.{◌≡◌, refl, sym, ap, ◌∙◌, subst}
use mathlib.Core.Logic.{◌⊎◌, inl, inr}
use Prim.Native.Nat.{ℕ, suc, ◌+◌, ◌≤◌}
use native.Mathlib.Omega.{arith}
use mathlib.Core.Option.{some}
use mathlib.Core.List.{List, [], ◌∷◌, ◌++◌, map, Memᴰ}
use lib.ListN.{length, drop, length-append, length-drop}
use Rattle.instructions.specs.Instruction.{Instruction, Manages, FineInstruction}
use Rattle.blocks.specs.Representation.{AllFine}
use Rattle.model.specs.Parts.{part_number}
use Rattle.model.specs.Decoder.{Decoder}
use Rattle.model.specs.Encoder.{Encoder, sent_size}
use Rattle.model.specs.Events.{at}
use Rattle.model_laws.specs.Link.{Written}
use Rattle.model_laws.proofs.Tables.{nope}
use Rattle.model_laws.proofs.Linking.{at-below, at_last, at_drop, drop-append}
use Rattle.model_laws.proofs.View.{tables_of, slot_instruction, slot_items, slots_sent}
use Rattle.model_laws.proofs.Slots.Messages.{SentNote, Note, on_wire, FreedNote}
use Rattle.model_laws.proofs.Slots.Invariant.{as_items, fields_of, WrittenBlock, Link}
use Rattle.model_laws.proofs.Slots.Serving.{NumbersAbove}

-- ---- the link of slots
unfoldable pub link_of : Encoder → Decoder → ℕ → List SentNote → List FreedNote → List WrittenBlock → Link
link_of E D wr mq aq bs = record {
  encoder_slots = slots_sent E.entries;
  encoder_filled = sent_size E.entries;
  decoder = tables_of D;
  written_count = wr;
  unread = mq;
  unread_acks = aq;
  blocks = bs;
}

-- ---- unread instructions, numbered from k
abbrev pub Unread : ℕ → List Instruction → List SentNote → Type 0
Unread k [] [] = Unit {0}
Unread k [] (x ∷ m) = ⊥
Unread k (i ∷ l) [] = ⊥
Unread k (i ∷ l) (x ∷ m) = (x.number ≡ k) × (slot_instruction i ≡ on_wire x.note) × Unread (suc k) l m

unread-more : (k : ℕ) (l : List Instruction) (m : List SentNote) (i : Instruction) (x : SentNote) → x.number ≡ k + length l
    → slot_instruction i ≡ on_wire x.note
    → Unread k l m → Unread k (l ++ (i ∷ [])) (m ++ (x ∷ []))
unread-more k [] [] i x n w u = (n ∙ omega arith, w, tt)
unread-more k [] (y ∷ m) i x n w u = absurd u
unread-more k (j ∷ l) [] i x n w u = absurd u
unread-more k (j ∷ l) (y ∷ m) i x n w u = (u.0, u.1, unread-more (suc k) l m i x (n ∙ omega arith) w u.2)

unread-above : (b k : ℕ) (l : List Instruction) (m : List SentNote) → b ≤ k → Unread k l m → NumbersAbove b m
unread-above b k [] [] h u = tt
unread-above b k [] (y ∷ m) h u = absurd u
unread-above b k (j ∷ l) [] h u = absurd u
unread-above b k (j ∷ l) (y ∷ m) h u = let z = u.0 in (omega (arith, z, h), unread-above b (suc k) l m (omega (arith, h)) u.2)

-- the instructions written, of which k were read
pub record Management (l : List Instruction) (k : ℕ) (mq : List SentNote) : Type 0 where
  pub fine : (n : ℕ) (i : Instruction) → at n l ≡ some i → Manages i × FineInstruction i
  pub bound : k ≤ length l
  pub unread : Unread k (drop k l) mq

pub management-start : Management [] 0 []
unfolding at
management-start = record { fine = λ n i h. nope (cc); bound = omega arith; unread = tt }

pub management-said : (l : List Instruction) (k : ℕ) (mq : List SentNote) (i : Instruction) (note : Note) → slot_instruction i ≡ on_wire note → Manages i × FineInstruction i
    → Management l k mq → Management (l ++ (i ∷ [])) k (mq ++ (record { number = length l; note = note } ∷ []))
management-said l k mq i note w f M = record {
  fine = λ n j h. good n j (at_last n l i j h);
  bound = let b = M.bound in let z = length-append l (i ∷ []) in omega (arith, b, z);
  unread =
      rw (drop-append k l (i ∷ []) M.bound)
      (unread-more k (drop k l) mq i (record { number = length l; note = note })
      (let b = M.bound in let z = length-drop k l in omega (arith, b, z)) w M.unread);
}
  where
    good : (n : ℕ) (j : Instruction) → (at n l ≡ some j) ⊎ ((n ≡ length l) × (i ≡ j)) → Manages j × FineInstruction j
    good n j (inl h) = M.fine n j h
    good n j (inr h) = subst (λ (t : Instruction). Manages t × FineInstruction t) h.1 f

-- the next one
pub record NextRead (l : List Instruction) (k : ℕ) (mq : List SentNote) (i : Instruction) : Type 0 where
  pub sent : SentNote
  pub rest : List SentNote
  pub split : mq ≡ sent ∷ rest
  pub says : slot_instruction i ≡ on_wire sent.note
  pub after : Management l (suc k) rest

pub management-next : (l : List Instruction) (k : ℕ) (mq : List SentNote) (i : Instruction) → at k l ≡ some i → Management l k mq → NextRead l k mq i
management-next l k mq i h M =
    go mq (subst (λ (t : List Instruction). Unread k t mq) (at_drop k l i h) M.unread)
  where
    go : (m : List SentNote) → Unread k (i ∷ drop (suc k) l) m → NextRead l k m i
    go [] u = absurd u
    go (x ∷ m) u =
        record {
          sent = x;
          rest = m;
          split = refl;
          says = u.1;
          after = record { fine = M.fine; bound = at-below k l i h; unread = u.2 };
        }

pub management-above : (l : List Instruction) (k : ℕ) (mq : List SentNote) (b : ℕ) → b ≤ k → Management l k mq → NumbersAbove b mq
management-above l k mq b h M = unread-above b k (drop k l) mq h M.unread

-- ---- the acknowledgements written, of which k were read
abbrev ack_slot : FreedNote → ℕ
ack_slot a = a.slot

pub record Acknowledgements (l : List ℕ) (k : ℕ) (aq : List FreedNote) : Type 0 where
  pub bound : k ≤ length l
  pub unread : map ack_slot aq ≡ drop k l

pub acknowledgements-start : Acknowledgements [] 0 []
acknowledgements-start = record { bound = omega arith; unread = refl }

map_snoc : (aq : List FreedNote) (a : FreedNote) → map ack_slot (aq ++ (a ∷ [])) ≡ map ack_slot aq ++ (a.slot ∷ [])
map_snoc [] a = refl
map_snoc (b ∷ aq) a = ap (λ (t : List ℕ). b.slot ∷ t) (map_snoc aq a)

pub acknowledgements-freed : (l : List ℕ) (k : ℕ) (aq : List FreedNote) (a : FreedNote) → Acknowledgements l k aq
    → Acknowledgements (l ++ (a.slot ∷ [])) k (aq ++ (a ∷ []))
acknowledgements-freed l k aq a A = record {
  bound = let b = A.bound in let z = length-append l (a.slot ∷ []) in omega (arith, b, z);
  unread = map_snoc aq a ∙ ap (λ (t : List ℕ). t ++ (a.slot ∷ [])) A.unread ∙ sym (drop-append k l (a.slot ∷ []) A.bound);
}

pub record NextAck (l : List ℕ) (k : ℕ) (aq : List FreedNote) (i : ℕ) : Type 0 where
  pub ack : FreedNote
  pub rest : List FreedNote
  pub split : aq ≡ ack ∷ rest
  pub slot : ack.slot ≡ i
  pub after : Acknowledgements l (suc k) rest

pub acknowledgements-next : (l : List ℕ) (k : ℕ) (aq : List FreedNote) (i : ℕ) → at k l ≡ some i → Acknowledgements l k aq → NextAck l k aq i
acknowledgements-next l k aq i h A = go aq (A.unread ∙ at_drop k l i h)
  where
    go : (m : List FreedNote) → map ack_slot m ≡ i ∷ drop (suc k) l → NextAck l k m i
    go [] e = nope (cc)
    go (a ∷ m) e =
        let x : a.slot ≡ i = cc in
        let y : map ack_slot m ≡ drop (suc k) l = cc in
        record { ack = a; rest = m; split = refl; slot = x; after = record { bound = at-below k l i h; unread = y } }

-- ---- a block written, as it was meant
pub record Meant (w : Written) (bs : List WrittenBlock) : Type 0 where
  pub blk : WrittenBlock
  pub there : Memᴰ blk bs
  pub stream : blk.place.stream ≡ w.stream
  pub part : part_number blk.place.part ≡ w.part
  pub fine : AllFine w.says
  pub says : as_items blk.items ≡ slot_items w.says
  pub gives : fields_of blk.items ≡ w.fields
  pub before : blk.before ≡ w.before

abbrev pub AllMeant : List Written → List WrittenBlock → Type 0
AllMeant ws bs = (n : ℕ) (w : Written) → at n ws ≡ some w → Meant w bs

pub meant-wrote : (ws : List Written) (bs : List WrittenBlock) (w : Written) (b : WrittenBlock) → b.place.stream ≡ w.stream
    → part_number b.place.part ≡ w.part → AllFine w.says
    → as_items b.items ≡ slot_items w.says → fields_of b.items ≡ w.fields → b.before ≡ w.before → AllMeant ws bs → AllMeant (ws ++ (w ∷ [])) (b ∷ bs)
meant-wrote ws bs w b s p f y g t A n v h = go (at_last n ws w v h)
  where
    go : (at n ws ≡ some v) ⊎ ((n ≡ length ws) × (w ≡ v)) → Meant v (b ∷ bs)
    go (inl k) =
        let m = A n v k in
        record { blk = m.blk; there = Memᴰ.tail m.there; stream = m.stream; part = m.part; fine = m.fine; says = m.says; gives = m.gives; before = m.before }
    go (inr k) =
        subst (λ (u : Written). Meant u (b ∷ bs)) k.1
        (record { blk = b; there = Memᴰ.head refl; stream = s; part = p; fine = f; says = y; gives = g; before = t })
