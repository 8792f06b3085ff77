-- The horizons of an entry, by the calls since the start: an insert begins with 0, and a block that refers to the entry raises the horizon of
-- its kind. By the ways of each call: where an index has an entry after it, the entry's horizon is the one of before, changed alike.
use mathlib.Core.Path.{◌≡◌, refl, sym, ap, ◌∙◌}
use Prim.Native.Nat.{ℕ, suc, max}
use native.Mathlib.Omega.{arith}
use mathlib.Core.Bool.{Bool, true, false}
use mathlib.Core.Option
use mathlib.Core.Option.{Option, none, some}
use mathlib.Core.List.{List, [], ◌∷◌, map}
use lib.Dec.{eqb}
use borrow.Author.Tests.{eqb-true, ne_eqb}
use Rattle.memory.specs.Choice.{pick}
use Rattle.memory.proofs.Order.{pick-false, pick-both}
use Rattle.blocks.specs.Representation.{Representation}
use Rattle.blocks.specs.Meaning.{block_references}
use Rattle.model.specs.Table.{Ascending, look, put, cut}
use Rattle.model.specs.Parts.{Part, nontrailer, trailer, part_of, part_number, same_part}
use Rattle.model.specs.Outcome.{block}
use Rattle.model.specs.Encoder.{Encoder, Sent, sent_index, start_encoder, new_sent, as_deleted, mark_deleted, mentions, referred, refer}
use Rattle.model.specs.EncoderCalls.{EncoderCall, encoder_call, after_encoder}
use Rattle.model.specs.EncoderCalls as at-encoder
use Rattle.model_laws.specs.History.{raised_by, begun_by, horizon_after, horizon_since, horizon_of}
use Rattle.model_laws.proofs.Tables.{nope, pick-eq, look-put, look-cut, look-map, look-index, vacant-free}
use Rattle.model_laws.proofs.EncoderWays as encoder
use Rattle.model_laws.proofs.Order.{encoder-order, delete-index, refer-index}

-- ---- the number of a part
part_same : (n : ℕ) (p q : Part) → part_of n ≡ some p → eqb n (part_number q) ≡ same_part p q
unfolding part_of
part_same n p q h = go (eqb n 0) refl (eqb n 1) refl p q h
  where
    go : (a : Bool) → eqb n 0 ≡ a → (b : Bool) → eqb n 1 ≡ b → (p q : Part) → pick a (some nontrailer) (pick b (some trailer) none) ≡ some p
        → eqb n (part_number q) ≡ same_part p q
    go true e b f nontrailer nontrailer h = e
    go true e b f nontrailer trailer h = let z = eqb-true n 0 e in ne_eqb n 1 (λ y. omega arith)
    go true e b f trailer q h = nope (cc)
    go false e true f nontrailer q h = nope (cc)
    go false e true f trailer nontrailer h = e
    go false e true f trailer trailer h = f
    go false e false f p q h = nope (cc)

-- ---- one entry
horizon-deleted : (p : Part) (i : ℕ) (e : Sent) → horizon_of p (mark_deleted i e) ≡ horizon_of p e
unfolding mark_deleted
horizon-deleted nontrailer i e = pick-eq (λ t. horizon_of nontrailer t ≡ e.nontrailer) e.index i (as_deleted e) e (λ h. refl) (λ h. refl)
horizon-deleted trailer i e = pick-eq (λ t. horizon_of trailer t ≡ e.trailer) e.index i (as_deleted e) e (λ h. refl) (λ h. refl)

horizon-new : (p : Part) (i : ℕ) (name value : List ℕ) → horizon_of p (new_sent i name value) ≡ 0
horizon-new nontrailer i name value = refl
horizon-new trailer i name value = refl

horizon-referred : (s : ℕ) (p q : Part) (e : Sent)
    → horizon_of q (referred s p e) ≡ pick (same_part p q) (max (horizon_of q e) (suc s)) (horizon_of q e)
unfolding referred
horizon-referred s nontrailer nontrailer e = refl
horizon-referred s nontrailer trailer e = refl
horizon-referred s trailer nontrailer e = refl
horizon-referred s trailer trailer e = refl

-- the horizon h raised to stream s, if the block is of the same part and refers to the entry
abbrev raised : Bool → Bool → ℕ → ℕ → ℕ
raised of_part refers h s = pick of_part (pick refers (max h (suc s)) h) h

horizon-refer : (s : ℕ) (p q : Part) (rs : List Representation) (e : Sent)
    → horizon_of q (refer s p rs e) ≡ raised (same_part p q) (mentions (block_references rs) e.index) (horizon_of q e) s
unfolding refer
horizon-refer s p q rs e = go (mentions (block_references rs) e.index)
  where
    go : (m : Bool) → horizon_of q (pick m (referred s p e) e) ≡ raised (same_part p q) m (horizon_of q e) s
    go true = horizon-referred s p q e
    go false = pick-both (λ t. horizon_of q e ≡ t) (same_part p q) (horizon_of q e) (horizon_of q e) (λ h. refl) (λ h. refl)

horizon-raised : (s part i h : ℕ) (p q : Part) (rs : List Representation) (e : Sent)
    → part_of part ≡ some p → e.index ≡ i → horizon_of q e ≡ h → horizon_of q (refer s p rs e) ≡ raised_by i q s (block rs) part h
unfolding raised_by
horizon-raised s part i h p q rs e t u v =
    horizon-refer s p q rs e
    ∙ ap (λ k. raised (same_part p q) (mentions (block_references rs) k) (horizon_of q e) s) u
    ∙ ap (λ k. raised (same_part p q) (mentions (block_references rs) i) k s) v
    ∙ ap (λ b. raised b (mentions (block_references rs) i) h s) (sym (part_same part p q t))

-- ---- the entry with index i, if there is one, has the horizon h for blocks of part p
abbrev Known : ℕ → Part → ℕ → List Sent → Type 0
Known i p h l = (e : Sent) → look sent_index i l ≡ some e → horizon_of p e ≡ h

known-put : (i : ℕ) (p : Part) (h : ℕ) (j : ℕ) (name value : List ℕ) (l : List Sent) → look sent_index j l ≡ none → Known i p h l
    → Known i p (pick (eqb j i) 0 h) (put sent_index (new_sent j name value) l)
known-put i p h j name value l n known e k = go (eqb j i) (sym (look-put sent_index i (new_sent j name value) l n) ∙ k)
  where
    go : (b : Bool) → pick b (some (new_sent j name value)) (look sent_index i l) ≡ some e → horizon_of p e ≡ pick b 0 h
    go true q = let z : new_sent j name value ≡ e = cc in sym (ap (horizon_of p) z) ∙ horizon-new p j name value
    go false q = known e q

known-cut : (i : ℕ) (p : Part) (h j : ℕ) (l : List Sent) → Ascending sent_index 62 l → Known i p h l → Known i p h (cut sent_index j l)
known-cut i p h j l a known e k = go (eqb j i) (sym (look-cut sent_index j i 62 l a) ∙ k)
  where
    go : (b : Bool) → pick b none (look sent_index i l) ≡ some e → horizon_of p e ≡ h
    go true q = nope (cc)
    go false q = known e q

-- a change in place that keeps the indexes, and takes the horizon h to g
known_map : (i : ℕ) (p : Part) (h g : ℕ) (f : Sent → Sent) (same : (e : Sent) → (f e).index ≡ e.index) (l : List Sent)
    → ((e : Sent) → e.index ≡ i → horizon_of p e ≡ h → horizon_of p (f e) ≡ g) → Known i p h l → Known i p g (map f l)
known_map i p h g f same l change known e k = go (look sent_index i l) refl (sym (look-map sent_index f same i l) ∙ k)
  where
    go : (o : Option Sent) → look sent_index i l ≡ o → Option.map f o ≡ some e → horizon_of p e ≡ g
    go none q r = nope (cc)
    go (some d) q r = let z : f d ≡ e = cc in sym (ap (horizon_of p) z) ∙ change d (look-index sent_index i l d q) (known d q)

-- ---- the calls
horizon-call : (i : ℕ) (p : Part) (h : ℕ) (E : Encoder) (c : EncoderCall) → Ascending sent_index 62 E.entries → Known i p h E.entries
    → Known i p (horizon_after i p h E c) (encoder_call E c).state.entries
unfolding encoder_call horizon_after begun_by raised_by
horizon-call i p h E (at-encoder.insert name value room) a known =
    encoder.insert-ways (λ o. Known i p (begun_by i o h) o.state.entries) E
    (λ n f e k. known e k ∙ sym (pick-false (eqb n.number 0) _ h f)) name value room
    (λ j q f g m o. known-put i p h j name value E.entries (rw q (vacant-free sent_index 62 E.entries a)) known)
horizon-call i p h E (at-encoder.delete j room) a known =
    encoder.delete-ways (λ o. Known i p h o.state.entries) E (λ n f. known) j room
    (λ d f g m. known_map i p h h (mark_deleted d.index) (delete-index d.index) E.entries
    (λ e q r. horizon-deleted p d.index e ∙ r) known)
horizon-call i p h E (at-encoder.block s part fs room) a known =
    encoder.block-ways (λ o. Known i p (raised_by i p s o.output part h) o.state.entries) E (λ n f. known) s part fs room
    (λ q rs d f g m n o. known_map i p h (raised_by i p s (block rs) part h) (refer s q rs) (refer-index s q rs) E.entries
    (λ e u v. horizon-raised s part i h q p rs e f u v) known)
horizon-call i p h E (at-encoder.acknowledged j taken) a known =
    encoder.acknowledged-ways (λ o. Known i p h o.state.entries) E (λ n f. known) j taken
    (λ d f g. known-cut i p h d.index E.entries a known)
horizon-call i p h E (at-encoder.unread number) a known = known

horizon-calls : (i : ℕ) (p : Part) (h : ℕ) (E : Encoder) (cs : List EncoderCall) → Ascending sent_index 62 E.entries → Known i p h E.entries
    → Known i p (horizon_since i p h E cs) (after_encoder E cs).entries
unfolding after_encoder horizon_since
horizon-calls i p h E [] a known = known
horizon-calls i p h E (c ∷ cs) a known =
    horizon-calls i p (horizon_after i p h E c) (encoder_call E c).state cs (encoder-order E c a) (horizon-call i p h E c a known)

pub horizons : (limit : ℕ) (cs : List EncoderCall) (p : Part) (i : ℕ) (e : Sent)
    → look sent_index i (after_encoder (start_encoder limit) cs).entries ≡ some e → horizon_of p e ≡ horizon_since i p 0 (start_encoder limit) cs
unfolding start_encoder look
horizons limit cs p i e k = horizon-calls i p 0 (start_encoder limit) cs tt (λ d q. nope (cc)) e k
