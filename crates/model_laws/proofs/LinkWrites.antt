-- The invariant of the link, `Tied`, and that the encoder's calls keep it: each is a change of the slots
-- and adds its event to the lists.
use mathlib.Core.Path.{◌≡◌, refl, sym, ap, ◌∙◌, subst}
use Prim.Native.Nat.{ℕ, suc, ◌<◌}
use native.Mathlib.Omega.{arith}
use mathlib.Core.Bool.{true}
use mathlib.Core.Option.{some}
use mathlib.Core.List.{List, [], ◌∷◌, ◌++◌, map, append-nil}
use lib.ListN.{length, length-append}
use Rattle.fields.specs.Form.{Field, AllFine}
use Rattle.instructions.specs.Instruction.{Instruction, Manages, FineInstruction}
use Rattle.blocks.specs.Representation.{Representation}
use Rattle.model.specs.Table.{cut}
use Rattle.model.specs.Parts.{Part, part_of, in_turn, streams}
use Rattle.model.specs.Outcome.{Outcome, nothing, finish}
use Rattle.model.specs.Decoder.{Decoder}
use Rattle.model.specs.Encoder.{Encoder, sent_index, with_sent, choose, read_ack, FormsEncoder}
use Rattle.model.specs.Encoder as encoder
use Rattle.model.specs.Events.{at, Event, said, wrote, acknowledged, heard, offered, freed, told, quiet}
use Rattle.model.specs.Events as link
use Rattle.model_laws.specs.Link.{said_in, heard_in, freed_in, acknowledged_in, Written, written_from, written_in}
use Rattle.model_laws.proofs.EncoderWays.{after_block}
use Rattle.model_laws.proofs.Linking.{said-append, heard-append, freed-append, acknowledged-append, written-append}
use Rattle.model_laws.proofs.LinkHistory.{History, Calm, quiet-history, wrote-history}
use Rattle.model_laws.proofs.Marks.{part-number, turn-open}
use Rattle.model_laws.proofs.LinkState.{link_of, Management, management-said, Acknowledgements, acknowledgements-next, AllMeant, meant-wrote}
use Rattle.model_laws.proofs.View.{slot_instruction}
use Rattle.model_laws.proofs.EncoderItems.{meant_items, meant-nontrailer, meant-fields}
use Rattle.model_laws.proofs.Saying.{choices-fine}
use Rattle.model_laws.proofs.EncoderView.{said_to, block-kept, ack-found, ack-done, ack-kept}
use Rattle.model_laws.proofs.Slots.Messages.{SentNote, Note, on_wire, FreedNote}
use Rattle.model_laws.proofs.Slots.Invariant.{WrittenBlock, Link, Invariant}

-- the events so far and the two ends
pub record Tied (xs : List Event) (E : Encoder) (D : Decoder) : Type 0 where
  pub history : History xs D.finished E.written
  pub unread : List SentNote
  pub unread_acks : List FreedNote
  pub blocks : List WrittenBlock
  pub management : Management (said_in xs) (heard_in xs) unread
  pub acknowledgements : Acknowledgements (freed_in xs) (acknowledged_in xs) unread_acks
  pub meant : AllMeant (written_in xs) blocks
  pub invariant : Invariant (link_of E D (length (said_in xs)) unread unread_acks blocks)

-- ---- an event that is no part of these lists
abbrev pub Still : Event → Type 0
Still (said i) = ⊥
Still (wrote s part fs rs) = ⊥
Still (acknowledged i n) = ⊥
Still (heard i n) = ⊥
Still (offered n s part rs room a o) = Unit {0}
Still (freed i) = ⊥
Still (told k s) = Unit {0}
Still (link.Event.reset s) = Unit {0}
Still quiet = Unit {0}

pub record Same (xs : List Event) (e : Event) : Type 0 where
  pub said_same : said_in (xs ++ (e ∷ [])) ≡ said_in xs
  pub heard-same : heard_in (xs ++ (e ∷ [])) ≡ heard_in xs
  pub freed-same : freed_in (xs ++ (e ∷ [])) ≡ freed_in xs
  pub acknowledged-same : acknowledged_in (xs ++ (e ∷ [])) ≡ acknowledged_in xs
  pub written_same : written_in (xs ++ (e ∷ [])) ≡ written_in xs

same_by : (xs : List Event) (e : Event) → said_in (e ∷ []) ≡ [] → heard_in (e ∷ []) ≡ 0 → freed_in (e ∷ []) ≡ [] → acknowledged_in (e ∷ []) ≡ 0
    → written_from (length (said_in xs)) (e ∷ []) ≡ [] → Same xs e
same_by xs e a b c d f = record {
  said_same = said-append xs (e ∷ []) ∙ ap (λ (l : List Instruction). said_in xs ++ l) a ∙ append-nil (said_in xs);
  heard-same = heard-append xs (e ∷ []) ∙ omega (arith, b);
  freed-same = freed-append xs (e ∷ []) ∙ ap (λ (l : List ℕ). freed_in xs ++ l) c ∙ append-nil (freed_in xs);
  acknowledged-same = acknowledged-append xs (e ∷ []) ∙ omega (arith, d);
  written_same = written-append xs (e ∷ []) ∙ ap (λ (l : List Written). written_in xs ++ l) f ∙ append-nil (written_in xs);
}

still-same : (xs : List Event) (e : Event) → Still e → Same xs e
unfolding said_in heard_in freed_in acknowledged_in written_from
still-same xs (said i) s = absurd s
still-same xs (wrote t part fs rs) s = absurd s
still-same xs (acknowledged i n) s = absurd s
still-same xs (heard i n) s = absurd s
still-same xs (offered n t part rs room a o) s = same_by xs (offered n t part rs room a o) refl refl refl refl refl
still-same xs (freed i) s = absurd s
still-same xs (told k t) s = same_by xs (told k t) refl refl refl refl refl
still-same xs (link.Event.reset t) s = same_by xs (link.Event.reset t) refl refl refl refl refl
still-same xs quiet s = same_by xs quiet refl refl refl refl refl

module _ (xs : List Event) (E : Encoder) (D : Decoder) (T : Tied xs E D) where
  -- the link of slots now
  abbrev pub now : Link
  now = link_of E D (length (said_in xs)) T.unread T.unread_acks T.blocks

  pub still-tied : (e : Event) → Still e → (D' : Decoder) → History (xs ++ (e ∷ [])) D'.finished E.written
      → Invariant (link_of E D' (length (said_in xs)) T.unread T.unread_acks T.blocks) → Tied (xs ++ (e ∷ [])) E D'
  still-tied e s D' H I =
      let m = still-same xs e s in
      record {
        history = H;
        unread = T.unread;
        unread_acks = T.unread_acks;
        blocks = T.blocks;
        management = rw (m.said_same, m.heard-same) T.management;
        acknowledgements = rw (m.freed-same, m.acknowledged-same) T.acknowledgements;
        meant = rw m.written_same T.meant;
        invariant = rw m.said_same I;
      }

  -- nothing happened
  pub quiet-tied : (e : Event) → Still e → Calm e → Tied (xs ++ (e ∷ [])) E D
  quiet-tied e s c = still-tied e s D (quiet-history xs e D.finished E.written c T.history) T.invariant

  -- ---- an insert or a delete was written
  pub said-tied : (i : Instruction) (l : List encoder.Sent) (note : Note) → slot_instruction i ≡ on_wire note → Manages i × FineInstruction i
      → Invariant (said_to now l note) → Tied (xs ++ (said i ∷ [])) (with_sent E l) D
  unfolding said_in heard_in freed_in acknowledged_in written_from link_of
  said-tied i l note w f I =
      let es : List Event = xs ++ (said i ∷ []) in
      let a : said_in es ≡ said_in xs ++ (i ∷ []) = said-append xs (said i ∷ []) in
      let b : heard_in es ≡ heard_in xs = heard-append xs (said i ∷ []) ∙ omega arith in
      let c : freed_in es ≡ freed_in xs = freed-append xs (said i ∷ []) ∙ append-nil (freed_in xs) in
      let d : acknowledged_in es ≡ acknowledged_in xs = acknowledged-append xs (said i ∷ []) ∙ omega arith in
      let v : written_in es ≡ written_in xs = written-append xs (said i ∷ []) ∙ append-nil (written_in xs) in
      let k : length (said_in es) ≡ suc (length (said_in xs)) = ap length a ∙ length-append (said_in xs) (i ∷ []) ∙ omega arith in
      record {
        history = quiet-history xs (said i) D.finished E.written tt T.history;
        unread = T.unread ++ (record { number = length (said_in xs); note = note } ∷ []);
        unread_acks = T.unread_acks;
        blocks = T.blocks;
        management = rw (a, b) (management-said (said_in xs) (heard_in xs) T.unread i note w f T.management);
        acknowledgements = rw (c, d) T.acknowledgements;
        meant = rw v T.meant;
        invariant = rw k I;
      }

  -- ---- a block was written
  pub wrote-tied : FormsEncoder E → (s part : ℕ) (p : Part) (fs : List Field) → AllFine fs → part_of part ≡ some p → s < streams
      → in_turn E.written s p ≡ true
      → Tied (xs ++ (wrote s part fs (map (choose E.entries) fs) ∷ [])) (after_block E s p (map (choose E.entries) fs)) D
  unfolding said_in heard_in freed_in acknowledged_in written_from link_of
  wrote-tied F s part p fs fine q low t =
      let rs : List Representation = map (choose E.entries) fs in
      let e : Event = wrote s part fs rs in
      let es : List Event = xs ++ (e ∷ []) in
      let a : said_in es ≡ said_in xs = said-append xs (e ∷ []) ∙ append-nil (said_in xs) in
      let b : heard_in es ≡ heard_in xs = heard-append xs (e ∷ []) ∙ omega arith in
      let c : freed_in es ≡ freed_in xs = freed-append xs (e ∷ []) ∙ append-nil (freed_in xs) in
      let d : acknowledged_in es ≡ acknowledged_in xs = acknowledged-append xs (e ∷ []) ∙ omega arith in
      record {
        history = wrote-history xs s part p fs rs D.finished E.written (turn-open E.written s p t) low (part-number part p q) T.history;
        unread = T.unread;
        unread_acks = T.unread_acks;
        blocks = new ∷ T.blocks;
        management = rw (a, b) T.management;
        acknowledgements = rw (c, d) T.acknowledgements;
        meant =
            rw (written-append xs (e ∷ []))
            (meant-wrote (written_in xs) T.blocks _ new refl (sym (part-number part p q))
            (choices-fine E.entries F.order F.entries fs fine) (meant-nontrailer E.entries rs)
            (meant-fields E.entries F.order fs fine) refl T.meant);
        invariant = rw a (block-kept E F now refl refl s p fs T.invariant);
      }
    where
      new : WrittenBlock
      new = record { place = record { stream = s; part = p }; items = meant_items E.entries fs; before = length (said_in xs) }

  -- ---- an acknowledgement was read: it is taken
  pub acknowledged-tied : FormsEncoder E → (i taken : ℕ) → at (acknowledged_in xs) (freed_in xs) ≡ some i
      → ((read_ack E i taken).answer.number ≡ 0)
      × Tied (xs ++ (acknowledged i (read_ack E i taken).answer.number ∷ [])) (read_ack E i taken).state D
  unfolding said_in heard_in freed_in acknowledged_in written_from link_of
  acknowledged-tied F i taken h =
      let N = acknowledgements-next (freed_in xs) (acknowledged_in xs) T.unread_acks i h T.acknowledgements in
      let G = ack-found E F now refl refl T.invariant N.ack N.rest N.split in
      let x : encoder.Sent = G.sent in
      let o : Outcome Encoder = finish (with_sent E (cut sent_index x.index E.entries)) taken 0 nothing in
      let out : read_ack E i taken ≡ o = ap (λ (j : ℕ). read_ack E j taken) (sym N.slot) ∙ ack-done E N.ack.slot N.ack.entry G taken in
      let e : Event = acknowledged i 0 in
      let es : List Event = xs ++ (e ∷ []) in
      let a : said_in es ≡ said_in xs = said-append xs (e ∷ []) ∙ append-nil (said_in xs) in
      let b : heard_in es ≡ heard_in xs = heard-append xs (e ∷ []) ∙ omega arith in
      let c : freed_in es ≡ freed_in xs = freed-append xs (e ∷ []) ∙ append-nil (freed_in xs) in
      let d : acknowledged_in es ≡ suc (acknowledged_in xs) = acknowledged-append xs (e ∷ []) ∙ omega arith in
      let v : written_in es ≡ written_in xs = written-append xs (e ∷ []) ∙ append-nil (written_in xs) in
      subst (λ (r : Outcome Encoder). (r.answer.number ≡ 0) × Tied (xs ++ (acknowledged i r.answer.number ∷ [])) r.state D) (sym out) (
        refl,
        record {
          history = quiet-history xs e D.finished E.written tt T.history;
          unread = T.unread;
          unread_acks = N.rest;
          blocks = T.blocks;
          management = rw (a, b) T.management;
          acknowledgements = rw (c, d) N.after;
          meant = rw v T.meant;
          invariant = rw a (ack-kept E F now refl refl N.ack N.rest N.split x G.found G.holds T.invariant);
        },
      )
