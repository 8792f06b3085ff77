-- Every call keeps the invariant of the link, and what it answers is as the demand says.
-- Each call's event, by the laws of its end.
use mathlib.Core.Path.{◌≡◌, refl, sym, ap, ◌∙◌, subst}
use Prim.Native.Nat.{ℕ, ◌≤◌}
use native.Mathlib.Omega.{arith}
use mathlib.Core.Bool.{Bool}
use mathlib.Core.Option.{some}
use mathlib.Core.List.{List, [], ◌∷◌, ◌++◌, map}
use lib.Dec.{eqb}
use Rattle.memory.proofs.Order.{pick-both}
use Rattle.integers.specs.Answers.{Answer}
use Rattle.fields.specs.Form.{Field, AllFine}
use Rattle.instructions.specs.Instruction.{Instruction, insert, delete, acknowledge, Manages, FineInstruction}
use Rattle.blocks.specs.Representation.{Representation}
use Rattle.model.specs.Table.{look, put}
use Rattle.model.specs.Parts.{part_number, Closing}
use Rattle.model.specs.Outcome.{Output, nothing, instruction, block, fields, Outcome}
use Rattle.model.specs.Decoder.{Decoder, held_index, is_some, decode_block, close_parts, collect_entry, FormsDecoder}
use Rattle.model.specs.DecoderCalls.{DecoderCall, decoder_call}
use Rattle.model.specs.DecoderCalls as at-decoder
use Rattle.model.specs.Encoder.{Encoder, sent_index, new_sent, mark_deleted, delete_of_sent, FormsEncoder}
use Rattle.model.specs.EncoderCalls.{EncoderCall, encoder_call}
use Rattle.model.specs.EncoderCalls as at-encoder
use Rattle.model_laws.specs.Ready.{FineCall}
use Rattle.model.specs.Events.{at, LinkCall, encoder, decoder, Event, said, wrote, acknowledged, heard, offered}
use Rattle.model.specs.Events.{freed, told, quiet, Ends, Turn, at_decoder, turn, said_by, wrote_by, encoder_event, freed_by, told_by, decoder_event}
use Rattle.model.specs.Events as link
use Rattle.model_laws.specs.Link.{heard_in, Written, written_in, held_from, held_after, AbstractRules, AbstractServedBlock, FineLinkCall}
use Rattle.model_laws.proofs.Tables.{asc-weak}
use Rattle.model_laws.proofs.DecoderWays as at-decoder-ways
use Rattle.model_laws.proofs.EncoderWays as ways
use Rattle.model_laws.proofs.Forms.{forms-call}
use Rattle.model_laws.proofs.FormsSent.{sent-call}
use Rattle.model_laws.proofs.Saying.{said-fine}
use Rattle.model_laws.proofs.View.{tables_of, lists_sent}
use Rattle.model_laws.proofs.EncoderNotes.{note_of, note-wire, delete-wire}
use Rattle.model_laws.proofs.EncoderView.{insert-kept, delete-kept}
use Rattle.model_laws.proofs.Limits.{encoder_limit, decoder_limit}
use Rattle.model_laws.proofs.LinkHeld.{turn_holds}
use Rattle.model_laws.proofs.Linking.{held-append}
use Rattle.model_laws.proofs.LinkState.{link_of}
use Rattle.model_laws.proofs.LinkHistory.{Calm}
use Rattle.model_laws.proofs.LinkWrites.{Tied, Still, now, quiet-tied, said-tied, wrote-tied, acknowledged-tied}
use Rattle.model_laws.proofs.LinkReads.{heard-tied, closed-tied, collect-tied}
use Rattle.model_laws.proofs.LinkOffers.{served, offered-tied}
use Rattle.model_laws.proofs.Slots.Messages.{note_delete}

-- what is to be shown of an event, from those before it
abbrev pub Holds : List Event → Event → Type 0
Holds xs (said i) = Unit {0}
Holds xs (wrote s part fs rs) = Unit {0}
Holds xs (acknowledged i n) = n ≡ 0
Holds xs (heard i n) = n ≡ 0
Holds xs (offered n s part rs room a o) = (w : Written) → at n (written_in xs) ≡ some w → AbstractServedBlock xs w a o
Holds xs (freed i) = Unit {0}
Holds xs (told k s) = Unit {0}
Holds xs (link.Event.reset s) = Unit {0}
Holds xs quiet = Unit {0}

told-holds : (xs : List Event) (k : Closing) (s : ℕ) (a : Answer) → Holds xs (told_by k s a)
unfolding told_by
told-holds xs k s a = pick-both (λ (e : Event). Holds xs e) (eqb a.number 0) (told k s) quiet (λ e. tt) (λ e. tt)

freed-holds : (xs : List Event) (o : Output) → Holds xs (freed_by o)
unfolding freed_by
freed-holds xs nothing = tt
freed-holds xs (instruction (insert i name value)) = tt
freed-holds xs (instruction (delete i first last)) = tt
freed-holds xs (instruction (acknowledge i)) = tt
freed-holds xs (block rs) = tt
freed-holds xs (fields fs) = tt

-- the n-th block written is one
served-only : (xs : List Event) (n : ℕ) (w : Written) → at n (written_in xs) ≡ some w → (a : Answer) (o : Output) → AbstractServedBlock xs w a o
    → (v : Written) → at n (written_in xs) ≡ some v → AbstractServedBlock xs v a o
served-only xs n w g a o b v h = let z : w ≡ v = cc in subst (λ (x : Written). AbstractServedBlock xs x a o) z b

-- ---- the whole invariant
pub record Linked (xs : List Event) (S : Ends) : Type 0 where
  pub encoder-forms : FormsEncoder S.encoder
  pub decoder-forms : FormsDecoder S.decoder
  pub limits : S.encoder.limit ≤ S.decoder.limit
  pub vacancies : (i : ℕ) → held_after xs i ≡ is_some (look held_index i S.decoder.entries)
  pub tied : Tied xs S.encoder S.decoder

-- what a call comes to
pub record Kept (xs : List Event) (t : Turn) : Type 0 where
  pub holds : Holds xs t.event
  pub encoder-forms : FormsEncoder t.ends.encoder
  pub decoder-forms : FormsDecoder t.ends.decoder
  pub limits : t.ends.encoder.limit ≤ t.ends.decoder.limit
  pub tied : Tied (xs ++ (t.event ∷ [])) t.ends.encoder t.ends.decoder

module _ (es : List Event) (R : AbstractRules es) (xs ys : List Event) (S : Ends) (K : Linked xs S) where
  abbrev E : Encoder
  E = S.encoder

  abbrev D : Decoder
  D = S.decoder

  -- ---- the encoder's calls
  abbrev Said : Outcome Encoder → Type 0
  Said o = Holds xs (said_by o.output) × Tied (xs ++ (said_by o.output ∷ [])) o.state D

  abbrev Sayable : Outcome Encoder → Type 0
  Sayable o = (i : Instruction) → o.output ≡ instruction i → Manages i × FineInstruction i

  inserted : (name value : List ℕ) (room : ℕ) → Said (encoder_call E (at-encoder.insert name value room))
  unfolding encoder_call said_by link_of tables_of
  inserted name value room =
      ways.insert-ways (λ o. Sayable o → Said o) E (λ a e g. (tt, quiet-tied xs E D K.tied quiet tt tt)) name value room
      (λ i e f g h m sayable.
      let l = K.limits in (
        tt,
        said-tied xs E D K.tied (ways.insert_of E i name value) (put sent_index (new_sent i name value) E.entries) (note_of E.entries i name value)
            (note-wire E.entries K.encoder-forms.order i name value) (sayable _ refl)
            (insert-kept E K.encoder-forms (now xs E D K.tied) refl refl l i e name value h K.tied.invariant),
      ))
      (said-fine E (at-encoder.insert name value room) K.encoder-forms)

  deleted : (i room : ℕ) → Said (encoder_call E (at-encoder.delete i room))
  unfolding encoder_call said_by link_of
  deleted i room =
      ways.delete-ways (λ o. Sayable o → Said o) E (λ a e g. (tt, quiet-tied xs E D K.tied quiet tt tt)) i room
      (λ x e f g sayable. (
        tt,
        said-tied xs E D K.tied (delete_of_sent x) (map (mark_deleted x.index) E.entries) (note_delete x.index (lists_sent x))
            (delete-wire x) (sayable _ refl) (delete-kept E K.encoder-forms (now xs E D K.tied) refl refl i x e f K.tied.invariant),
      ))
      (said-fine E (at-encoder.delete i room) K.encoder-forms)

  encoded : (s part : ℕ) (fs : List Field) (room : ℕ) → AllFine fs
      → Holds xs (wrote_by s part fs (encoder_call E (at-encoder.block s part fs room)).output)
      × Tied (xs ++ (wrote_by s part fs (encoder_call E (at-encoder.block s part fs room)).output ∷ []))
      (encoder_call E (at-encoder.block s part fs room)).state D
  unfolding encoder_call wrote_by
  encoded s part fs room fine =
      ways.block-ways (λ o. Holds xs (wrote_by s part fs o.output) × Tied (xs ++ (wrote_by s part fs o.output ∷ [])) o.state D) E
      (λ a e. (tt, quiet-tied xs E D K.tied quiet tt tt)) s part fs room
      (λ p rs e q low t h k. (
        tt,
        subst (λ (l : List Representation). Tied (xs ++ (wrote s part fs l ∷ [])) (ways.after_block E s p l) D) (sym e)
            (wrote-tied xs E D K.tied K.encoder-forms s part p fs fine q low t),
      ))

  encoder-kept : (c : EncoderCall) → FineLinkCall (encoder c) → es ≡ xs ++ ((turn S (encoder c)).event ∷ ys)
      → Holds xs (encoder_event c (encoder_call E c)) × Tied (xs ++ (encoder_event c (encoder_call E c) ∷ [])) (encoder_call E c).state D
  unfolding turn encoder_event encoder_call
  encoder-kept (at-encoder.insert name value room) f e = inserted name value room
  encoder-kept (at-encoder.delete i room) f e = deleted i room
  encoder-kept (at-encoder.block s part fs room) f e = encoded s part fs room f
  encoder-kept (at-encoder.acknowledged i taken) f e =
      acknowledged-tied xs E D K.tied K.encoder-forms i taken (R.acknowledgements xs ys i _ e)
  encoder-kept (at-encoder.unread number) f e = (tt, quiet-tied xs E D K.tied quiet tt tt)

  -- ---- a block offered
  abbrev Offered : ℕ → ℕ → ℕ → ℕ → List Representation → Type 0
  Offered n room s part rs =
      let o : Outcome Decoder = decode_block D s part rs room in
      es ≡ xs ++ (offered n s part rs room o.answer o.output ∷ ys)
      → Holds xs (offered n s part rs room o.answer o.output) × Tied (xs ++ (offered n s part rs room o.answer o.output ∷ [])) E o.state

  offer-kept : (n s part : ℕ) (rs : List Representation) (room : ℕ) → Offered n room s part rs
  offer-kept n s part rs room e =
      let U = R.unchanged xs ys n s part rs room _ _ e in
      let w : Written = U.0 in
      let M = K.tied.meant n w U.1 in
      subst (λ (l : List Representation). Offered n room s part l) U.4
      (subst (λ (k : ℕ). Offered n room s k w.says) (M.part ∙ U.3)
      (subst (λ (k : ℕ). Offered n room k (part_number M.blk.place.part) w.says) (M.stream ∙ U.2)
      (λ q. (
        served-only xs n w U.1 _ _ (served es R xs ys E D K.tied K.vacancies n w U.1 M room U.5 q),
        offered-tied es R xs ys E D K.tied K.vacancies n w U.1 M room U.5,
      )))) e

  -- ---- every call
  decoder-kept : (c : DecoderCall) (x : Event) → FineCall c → Holds xs x → Tied (xs ++ (x ∷ [])) E (decoder_call D c).state
      → Kept xs (at_decoder S (decoder_call D c) x)
  decoder-kept c x f h t =
      let l = decoder_limit D c in
      let k = K.limits in
      record {
        holds = h;
        encoder-forms = K.encoder-forms;
        decoder-forms = forms-call D c K.decoder-forms f;
        limits = omega (arith, l, k);
        tied = t;
      }

  -- nothing happened
  unheard : Tied (xs ++ (quiet ∷ [])) E D
  unheard = quiet-tied xs E D K.tied quiet tt tt

  -- neither end is called
  idle-kept : (x : Event) → Holds xs x → Still x → Calm x → Kept xs (record { ends = S; event = x })
  idle-kept x h s c =
      record {
        holds = h;
        encoder-forms = K.encoder-forms;
        decoder-forms = K.decoder-forms;
        limits = K.limits;
        tied = quiet-tied xs E D K.tied x s c;
      }

  pub kept : (c : LinkCall) → FineLinkCall c → es ≡ xs ++ ((turn S c).event ∷ ys) → Kept xs (turn S c)
  unfolding turn decoder_call decoder_event
  kept (encoder c) f e =
      let t = encoder-kept c f e in
      let l = encoder_limit E c in
      let k = K.limits in
      record { holds = t.0; encoder-forms = sent-call E c K.encoder-forms; decoder-forms = K.decoder-forms; limits = omega (arith, l, k); tied = t.1 }
  kept (decoder n (at-decoder.read i taken)) f e =
      let h = R.management xs ys i _ e in
      let t = heard-tied xs E D K.decoder-forms K.tied i taken h in
      decoder-kept (at-decoder.read i taken) (heard i _) (K.tied.management.fine (heard_in xs) i h) t.0 t.1
  kept (decoder n (at-decoder.block s part rs room)) f e =
      let t = offer-kept n s part rs room e in
      decoder-kept (at-decoder.block s part rs room) (offered n s part rs room _ _) tt t.0 t.1
  kept (decoder n (at-decoder.close k s)) f e =
      decoder-kept (at-decoder.close k s) _ tt (told-holds xs k s (close_parts D k s).answer) (closed-tied xs E D K.decoder-forms K.tied k s)
  kept (decoder n (at-decoder.collect room)) f e =
      decoder-kept (at-decoder.collect room) _ tt (freed-holds xs (collect_entry D room).output) (collect-tied xs E D K.decoder-forms K.tied room)
  kept (decoder n (at-decoder.hold i)) f e =
      decoder-kept (at-decoder.hold i) quiet tt tt
      (at-decoder-ways.hold-ways (λ o. Tied (xs ++ (quiet ∷ [])) E o.state) D (λ a z. unheard) i (λ d z. unheard))
  kept (decoder n (at-decoder.unread number)) f e = decoder-kept (at-decoder.unread number) quiet tt tt unheard
  kept (link.LinkCall.reset s) f e = idle-kept (link.Event.reset s) tt tt tt

  pub linked-next : (c : LinkCall) → Kept xs (turn S c) → Linked (xs ++ ((turn S c).event ∷ [])) (turn S c).ends
  linked-next c k = record {
    encoder-forms = k.encoder-forms;
    decoder-forms = k.decoder-forms;
    limits = k.limits;
    vacancies = λ i.
        held-append xs ((turn S c).event ∷ []) i ∙ ap (λ (h : Bool). held_from h ((turn S c).event ∷ []) i) (K.vacancies i)
        ∙ turn_holds S c i (asc-weak held_index 0 62 D.entries (omega arith) K.decoder-forms.order);
    tied = k.tied;
  }
