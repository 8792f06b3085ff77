-- What an encoder's calls do after calls from a start, and which blocks are in turn after calls from other memory that forms a state, by calls, bytes
-- and answers alone: the encoder's half of the claim on histories.
-- Memory stands for the model's state, and what happened tells what that holds; so what the model chooses and writes is the lowest by what happened.
use mathlib.Core.Path.{◌≡◌, refl, sym, ap, ap₂, ◌∙◌}
use Prim.Native.Nat.{ℕ, ◌+◌, ◌≤◌}
use mathlib.Core.Bool.{true, false}
use mathlib.Core.Option.{Option, none, some}
use mathlib.Core.List.{List, [], map}
use Rattle.memory.specs.Bytes.{Small}
use Rattle.fields.specs.Reading.{read_field_list}
use Rattle.instructions.specs.Instruction.{delete, instruction_wire}
use Rattle.model.specs.Table.{Ascending, look, vacant_from}
use Rattle.model.specs.Parts.{Part, nontrailer, trailer, part_of, no_marks}
use Rattle.model.specs.Decoder.{is_some}
use Rattle.model.specs.Encoder.{Encoder, Sent, sent_index, start_encoder, choose_name, choose, empty_list}
use Rattle.model.specs.EncoderCalls.{after_encoder}
use Rattle.model.specs.Happened.{Happened, after, held_by, empty, added_by, removed_by, sum_of}
use Rattle.model_laws.specs.History as model
use Rattle.model_laws.proofs.Tables.{nope, look-index, vacant-low, vacant-free, vacant-first}
use Rattle.model_laws.proofs.Histories.{histories}
use Rattle.model_laws.proofs.SentHappened.{ToldAfter, told-start}
use Rattle.state.specs.Layout.{held_of}
use Rattle.state.specs.EncoderState.{encoder_of}
use Rattle.state.specs.Forms.{forms_encoder}
use Rattle.parts.specs.Turn.{part_turn}
use Rattle.encoder.specs.Calls as encoder
use Rattle.link.specs.Calls.{EncoderCall, encoder_result, AllEncoderBytes, encoder_after, done_bytes}
use Rattle.link.specs.Calls as calls
use Rattle.link.specs.Happened.{history_there}
use Rattle.link.specs.Histories.{Lowest, referring_since, horizon_of, TurnBy, EncoderHistory}
use Rattle.link.proofs.Lifted.{StandsEncoder, encoder_call_of}
use Rattle.link.proofs.EncoderLifting.{lift-encoder, start-encoder, stands-self-encoder}
use Rattle.link.proofs.Runs.{encoder_calls_of, after-encoder}
use Rattle.link.proofs.HeldSizes.{held-encoder}
use Rattle.link.proofs.EncoderTables.{stands-forms, told-since, added-since, removed-since}
use Rattle.link.proofs.EncoderChoices.{named_by, all-written}
use Rattle.link.proofs.EncoderDone.{insert-told, delete-told, block-told}
use Rattle.link.proofs.EncoderReferring.{horizon-since}
use Rattle.link.proofs.ClosedParts.{turn-after}

-- ---- the lowest index that is not held, by what happened
module _ (hs : List Happened) (l : List Sent) (order : Ascending sent_index 62 l) (T : ToldAfter empty (λ i. false) (λ i. none) hs l) where
  not-held : (o : Option Sent) → is_some o ≡ false → o ≡ none
  not-held none e = refl
  not-held (some x) e = nope (cc)

  vacant-lowest : Lowest (λ i. (62 ≤ i) × (after (held_by i) false hs ≡ false)) (vacant_from sent_index 62 l)
  vacant-lowest = record {
    there = (vacant-low sent_index 62 l, T.held _ ∙ ap is_some (vacant-free sent_index 62 l order));
    first = λ k v. vacant-first sent_index 62 l k v.0 (not-held (look sent_index k l) (sym (T.held k) ∙ v.1));
  }

-- ---- after calls from the memory of a start
module _ (m : List ℕ) (limit : ℕ) (S : StandsEncoder m (start_encoder limit)) (cs : List EncoderCall) (b : AllEncoderBytes cs) where
  abbrev E : Encoder
  E = start_encoder limit

  abbrev now : Encoder
  now = after_encoder E (encoder_calls_of E cs)

  stands-now : StandsEncoder (encoder_after m cs) now
  stands-now = after-encoder m E S cs b

  told-now : ToldAfter empty (λ i. false) (λ i. none) (history_there m cs) now.entries
  unfolding start_encoder
  told-now = told-since m E S cs b empty (λ i. false) (λ i. none) told-start

  held-now : held_of (encoder_after m cs) + sum_of removed_by empty (history_there m cs) ≡ sum_of added_by empty (history_there m cs)
  unfolding start_encoder
  held-now =
      ap₂ ◌+◌ (held-encoder (encoder_after m cs) now stands-now) (removed-since m E S cs b empty (λ i. false) (λ i. none) told-start)
      ∙ histories.encoder_held limit (encoder_calls_of E cs)
      ∙ sym (added-since m E S cs b empty (λ i. false) (λ i. none) told-start)

  -- the horizon of an entry that is held
  horizon-now : (p : Part) (i : ℕ) (e : Sent) → look sent_index i now.entries ≡ some e
      → model.horizon_of p e ≡ horizon_of (referring_since i p [] m cs)
  unfolding horizon_of
  horizon-now p i e there = histories.horizons limit (encoder_calls_of E cs) p i e there ∙ sym (horizon-since i p [] m E S cs b)

  delete-now : (i : ℕ) (out : List ℕ) → Small out
      → let r = encoder_result (encoder_after m cs) (calls.EncoderCall.delete i out) in r.answer.number ≡ 0
      → done_bytes r ≡ instruction_wire (delete i (empty_list (horizon_of (referring_since i nontrailer [] m cs)))
      (empty_list (horizon_of (referring_since i trailer [] m cs))))
  delete-now i out small z =
      let d = delete-told (encoder_after m cs) now stands-now i out small z in
      let index = look-index sent_index i now.entries d.0 d.1 in
      d.2
      ∙ ap (λ (k : ℕ). instruction_wire (delete k (empty_list d.0.nontrailer) (empty_list d.0.trailer))) index
      ∙ ap₂ (λ (x y : ℕ). instruction_wire (delete i (empty_list x) (empty_list y))) (horizon-now nontrailer i d.0 d.1) (horizon-now trailer i d.0 d.1)

  turn-now : TurnBy no_marks m cs
  unfolding start_encoder
  turn-now = turn-after m E S cs b

  history-now : EncoderHistory m cs
  unfolding encoder_call_of
  history-now =
      let hs = history_there m cs in
      let k = encoder_after m cs in
      let order = (stands-forms k now stands-now).order in
      record {
        held_size_lem = held-now;
        insert_lowest = λ name value out n v o z.
            rw (insert-told k now stands-now name value out (n, v, o) z).0 (vacant-lowest hs now.entries order told-now);
        insert_named_lem = λ name value out n v o z. (
          choose_name now.entries name,
          named_by hs now.entries order told-now name,
          (insert-told k now stands-now name value out (n, v, o) z).1,
        );
        block_lowest = λ stream part s out small o z.
            let L = lift-encoder k now stands-now (calls.EncoderCall.block stream part s out) (small, o) in
            let w = block-told k now stands-now stream part s out small (encoder_result k (calls.EncoderCall.block stream part s out))
            (part_turn now.written stream (part_of part)) (read_field_list s) refl L.answer L.output z in
            (w.0, map (choose now.entries) w.0, w.1, w.3, w.4, all-written hs now.entries order told-now w.0 w.2);
        turn = turn-now;
        delete_says = delete-now;
      }

pub encoder_history : (m : List ℕ) (limit : ℕ) → Small m → (encoder.start_call m limit).answer.number ≡ 0
    → (cs : List EncoderCall) → AllEncoderBytes cs → EncoderHistory (encoder.start_call m limit).memory cs
encoder_history m limit small started = history-now (encoder.start_call m limit).memory limit (start-encoder m limit small started)

pub encoder_turn : (m : List ℕ) → Small m → forms_encoder m ≡ true → (cs : List EncoderCall) → AllEncoderBytes cs → TurnBy (encoder_of m).written m cs
encoder_turn m small forms = turn-after m (encoder_of m) (stands-self-encoder m small forms)
