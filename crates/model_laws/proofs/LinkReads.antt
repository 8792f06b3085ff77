-- The decoder's calls but blocks keep the invariant of the link: the next unread instruction is taken, parts that are closed only add marks,
-- and a collect frees a slot that is ready.
use mathlib.Core.Path.{◌≡◌, sym, ap, ◌∙◌, subst}
use Prim.Native.Nat.{ℕ, suc}
use native.Mathlib.Omega.{arith}
use mathlib.Core.Bool.{Bool}
use mathlib.Core.Option.{some}
use mathlib.Core.List.{List, [], ◌∷◌, ◌++◌, append-nil}
use Rattle.memory.specs.Choice.{pick}
use Rattle.instructions.specs.Instruction.{Instruction, Manages}
use Rattle.model.specs.Parts.{Marks, Closing, closed}
use Rattle.model.specs.Decoder.{Decoder, read_instruction, close_parts, with_finished, next_freed, without, collect_entry, FormsDecoder}
use Rattle.model.specs.Encoder.{Encoder}
use Rattle.model.specs.Events.{at, Event, heard, freed, told, quiet, freed_by, told_by}
use Rattle.model_laws.specs.Link.{said_in, heard_in, freed_in, acknowledged_in, written_from, written_in}
use Rattle.model_laws.proofs.DecoderWays as decoder
use Rattle.model_laws.proofs.Linking.{said-append, heard-append, freed-append, acknowledged-append, written-append}
use Rattle.model_laws.proofs.LinkHistory.{History, quiet-history, told-history}
use Rattle.model_laws.proofs.Marks.{closed-keeps}
use Rattle.model_laws.proofs.LinkState.{link_of, management-next, acknowledgements-freed}
use Rattle.model_laws.proofs.LinkWrites.{Tied, now, still-tied, quiet-tied}
use Rattle.model_laws.proofs.View.{tables_of, slots_of, slot_instruction}
use Rattle.model_laws.proofs.ReadView.{read-agrees}
use Rattle.model_laws.proofs.CollectView.{collect-view}
use Rattle.model_laws.proofs.Slots.Machine.{DecoderTables}
use Rattle.model_laws.proofs.Slots.Machine as machine
use Rattle.model_laws.proofs.Slots.Invariant.{with_decoder, with_acks, Invariant}
use Rattle.model_laws.proofs.Slots.Freeing.{marks-invariant, after_collect, collect-invariant}
use Rattle.model_laws.proofs.Slots.Reading.{after_read, read_next}

module _ (xs : List Event) (E : Encoder) (D : Decoder) (F : FormsDecoder D) (T : Tied xs E D) where
  -- ---- the next unread instruction
  pub heard-tied : (i : Instruction) (taken : ℕ) → at (heard_in xs) (said_in xs) ≡ some i
      → ((read_instruction D i taken).answer.number ≡ 0)
      × Tied (xs ++ (heard i (read_instruction D i taken).answer.number ∷ [])) E (read_instruction D i taken).state
  unfolding said_in heard_in freed_in acknowledged_in written_from link_of after_read tables_of
  heard-tied i taken h =
      let m : Manages i = (T.management.fine (heard_in xs) i h).0 in
      let A = read-agrees D F i taken m in
      let N = management-next (said_in xs) (heard_in xs) T.unread i h T.management in
      let t = read_next (now xs E D T) N.rest N.sent N.split T.invariant in
      let w : machine.read (tables_of D) (slot_instruction i) ≡ some t.tables = rw N.says t.done in
      let z : (read_instruction D i taken).answer.number ≡ 0 = A.done t.tables w in
      let v : tables_of (read_instruction D i taken).state ≡ t.tables = A.view t.tables w in
      let f : (read_instruction D i taken).state.finished ≡ D.finished = ap (λ (d : DecoderTables). d.finished) v ∙ t.same in
      let e : Event = heard i 0 in
      let es : List Event = xs ++ (e ∷ []) in
      let a : said_in es ≡ said_in xs = said-append xs (e ∷ []) ∙ append-nil (said_in xs) in
      let b : heard_in es ≡ suc (heard_in xs) = heard-append xs (e ∷ []) ∙ omega arith in
      let c : freed_in es ≡ freed_in xs = freed-append xs (e ∷ []) ∙ append-nil (freed_in xs) in
      let d : acknowledged_in es ≡ acknowledged_in xs = acknowledged-append xs (e ∷ []) ∙ omega arith in
      let u : written_in es ≡ written_in xs = written-append xs (e ∷ []) ∙ append-nil (written_in xs) in (
        z,
        subst (λ (n : ℕ). Tied (xs ++ (heard i n ∷ [])) E (read_instruction D i taken).state) (sym z)
            (record {
              history =
                  subst (λ (k : Marks). History es k E.written) (sym f) (quiet-history xs e D.finished E.written tt T.history);
              unread = N.rest;
              unread_acks = T.unread_acks;
              blocks = T.blocks;
              management = rw (a, b) N.after;
              acknowledgements = rw (c, d) T.acknowledgements;
              meant = rw u T.meant;
              invariant =
                  rw a
                  (subst (λ (k : DecoderTables). Invariant (after_read (now xs E D T) k N.rest)) (sym v) t.invariant);
            }),
      )

  -- ---- parts of a stream closed, or the call refused
  pub closed-tied : (k : Closing) (s : ℕ) → Tied (xs ++ (told_by k s (close_parts D k s).answer ∷ [])) E (close_parts D k s).state
  unfolding told_by link_of tables_of slots_of
  closed-tied k s =
      decoder.close-ways (λ o. Tied (xs ++ (told_by k s o.answer ∷ [])) E o.state) D
      (λ a e. subst (λ (b : Bool). Tied (xs ++ (pick b (told k s) quiet ∷ [])) E D) (sym e) (quiet-tied xs E D T quiet tt tt)) k s
      (λ low. still-tied xs E D T (told k s) tt (with_finished D (closed k s D.finished))
      (told-history xs k s D.finished E.written T.history)
      (marks-invariant (now xs E D T) (closed k s D.finished) (λ q h. closed-keeps k s D.finished q.stream q.part h) T.invariant))

  -- ---- a collect: an entry was freed, or nothing happened
  free-tied : (i : ℕ) → next_freed D ≡ some i → Tied (xs ++ (freed i ∷ [])) E (without D i)
  unfolding said_in heard_in freed_in acknowledged_in written_from link_of after_collect without
  free-tied i q =
      let C = collect-view D F i q in
      let e : Event = freed i in
      let es : List Event = xs ++ (e ∷ []) in
      let a : said_in es ≡ said_in xs = said-append xs (e ∷ []) ∙ append-nil (said_in xs) in
      let b : heard_in es ≡ heard_in xs = heard-append xs (e ∷ []) ∙ omega arith in
      let c : freed_in es ≡ freed_in xs ++ (i ∷ []) = freed-append xs (e ∷ []) in
      let d : acknowledged_in es ≡ acknowledged_in xs = acknowledged-append xs (e ∷ []) ∙ omega arith in
      let u : written_in es ≡ written_in xs = written-append xs (e ∷ []) ∙ append-nil (written_in xs) in
      record {
        history = quiet-history xs e D.finished E.written tt T.history;
        unread = T.unread;
        unread_acks = T.unread_acks ++ (record { slot = i; entry = C.entry } ∷ []);
        blocks = T.blocks;
        management = rw (a, b) T.management;
        acknowledgements =
            rw (c, d)
            (acknowledgements-freed (freed_in xs) (acknowledged_in xs) T.unread_acks (record { slot = i; entry = C.entry }) T.acknowledgements);
        meant = rw u T.meant;
        invariant =
            rw a
            (subst
            (λ (k : DecoderTables). Invariant (with_acks (with_decoder (now xs E D T) k) (T.unread_acks ++ (record { slot = i; entry = C.entry } ∷ []))))
            (sym C.view) (collect-invariant (now xs E D T) i C.entry C.lists C.was C.all C.fits T.invariant));
      }

  pub collect-tied : (room : ℕ) → Tied (xs ++ (freed_by (collect_entry D room).output ∷ [])) E (collect_entry D room).state
  unfolding freed_by
  collect-tied room =
      decoder.collect-ways (λ o. Tied (xs ++ (freed_by o.output ∷ [])) E o.state) D (λ a e. quiet-tied xs E D T quiet tt tt) room
      (λ e. quiet-tied xs E D T quiet tt tt) (λ i e f. free-tied i e)
