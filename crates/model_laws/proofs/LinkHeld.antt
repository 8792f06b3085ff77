-- A slot that is empty by the events of a link is vacant in the decoder's table, and the other way round: each call changes both alike, by
-- its ways, from any state.
use mathlib.Core.Path.{◌≡◌, refl, sym, ap, ◌∙◌}
use Prim.Native.Nat.{ℕ}
use mathlib.Core.Bool.{Bool, true, false, ◌&&◌}
use mathlib.Core.Option.{Option, none, some}
use mathlib.Core.List.{List, [], ◌∷◌}
use lib.Dec.{eqb}
use Rattle.memory.specs.Choice.{pick}
use Rattle.memory.proofs.Order.{pick-both}
use Rattle.integers.specs.Answers.{Answer}
use Rattle.instructions.specs.Instruction.{Instruction, insert, delete, acknowledge}
use Rattle.fields.specs.Form.{Field}
use Rattle.model.specs.Table.{Ascending, look, put, cut}
use Rattle.model.specs.Parts.{Closing}
use Rattle.model.specs.Outcome.{Output, nothing, instruction, block, fields, Outcome}
use Rattle.model.specs.Decoder.{Decoder, Held, held_index, is_some, without}
use Rattle.model.specs.Encoder.{Encoder}
use Rattle.model.specs.EncoderCalls.{EncoderCall, encoder_call}
use Rattle.model.specs.EncoderCalls as at-encoder
use Rattle.model.specs.DecoderCalls as at-decoder
use Rattle.model.specs.DecoderCalls.{DecoderCall, decoder_call}
use Rattle.model.specs.Events.{LinkCall, encoder, decoder, Event, said, wrote, acknowledged, heard, offered}
use Rattle.model.specs.Events.{freed, told, quiet, Ends, turn, said_by, wrote_by, encoder_event, freed_by, told_by, decoder_event}
use Rattle.model.specs.Events as link
use Rattle.model_laws.specs.Link.{held_by, held_from}
use Rattle.model_laws.proofs.Tables.{pick-eq, look-put, look-cut}
use Rattle.model_laws.proofs.DecoderWays as ways

-- the events one by one
pub held-step : (h : Bool) (e : Event) (es : List Event) (i : ℕ) → held_from h (e ∷ es) i ≡ held_from (held_from h (e ∷ []) i) es i
unfolding held_from
held-step h (said j) es i = refl
held-step h (wrote s part fs rs) es i = refl
held-step h (acknowledged j n) es i = refl
held-step h (heard j n) es i = refl
held-step h (offered n s part rs room a o) es i = refl
held-step h (freed j) es i = refl
held-step h (told k s) es i = refl
held-step h (link.Event.reset s) es i = refl
held-step h quiet es i = refl

-- ---- events that change no slot
said-keeps : (h : Bool) (o : Output) (i : ℕ) → held_from h (said_by o ∷ []) i ≡ h
unfolding said_by held_from
said-keeps h nothing i = refl
said-keeps h (instruction j) i = refl
said-keeps h (block rs) i = refl
said-keeps h (fields fs) i = refl

wrote-keeps : (h : Bool) (s part : ℕ) (fs : List Field) (o : Output) (i : ℕ) → held_from h (wrote_by s part fs o ∷ []) i ≡ h
unfolding wrote_by held_from
wrote-keeps h s part fs nothing i = refl
wrote-keeps h s part fs (instruction j) i = refl
wrote-keeps h s part fs (block rs) i = refl
wrote-keeps h s part fs (fields gs) i = refl

encoder-keeps : (h : Bool) (c : EncoderCall) (o : Outcome Encoder) (i : ℕ) → held_from h (encoder_event c o ∷ []) i ≡ h
unfolding encoder_event held_from
encoder-keeps h (at-encoder.insert name value room) o i = said-keeps h o.output i
encoder-keeps h (at-encoder.delete j room) o i = said-keeps h o.output i
encoder-keeps h (at-encoder.block s part fs room) o i = wrote-keeps h s part fs o.output i
encoder-keeps h (at-encoder.acknowledged j taken) o i = refl
encoder-keeps h (at-encoder.unread number) o i = refl

told-keeps : (h : Bool) (k : Closing) (s : ℕ) (a : Answer) (i : ℕ) → held_from h (told_by k s a ∷ []) i ≡ h
unfolding told_by held_from
told-keeps h k s a i = pick-both (λ (e : Event). held_from h (e ∷ []) i ≡ h) (eqb a.number 0) (told k s) quiet (λ q. refl) (λ q. refl)

-- ---- a call at the decoder: what it held, what it holds
abbrev holds : ℕ → Decoder → Bool
holds i D = is_some (look held_index i D.entries)

-- an instruction answered other than "done" changes nothing
refused-keeps : (j : Instruction) (n i : ℕ) (h : Bool) → eqb n 0 ≡ false → held_by j n i h ≡ h
refused-keeps (insert j name value) n i h e = ap (λ (t : Bool). pick (t && eqb j i) true h) e
refused-keeps (delete j first last) n i h e = refl
refused-keeps (acknowledge j) n i h e = refl

put_holds : (i : ℕ) (h : Held) (l : List Held) → look held_index h.index l ≡ none
    → pick (eqb h.index i) true (is_some (look held_index i l)) ≡ is_some (look held_index i (put held_index h l))
put_holds i h l n =
    pick-eq (λ (o : Option Held). pick (eqb h.index i) true (is_some (look held_index i l)) ≡ is_some o) h.index i (some h) (look held_index i l)
    (λ e. rw (← e) (known h.index)) (λ e. unlike h.index e) ∙ ap is_some (sym (look-put held_index i h l n))
  where
    known : (j : ℕ) → pick (eqb j j) true (is_some (look held_index j l)) ≡ true
    known j = pick-eq (λ (t : Bool). t ≡ true) j j true (is_some (look held_index j l)) (λ e. refl) (λ e. absurd (e refl))

    unlike : (j : ℕ) → (j ≡ i → ⊥) → pick (eqb j i) true (is_some (look held_index i l)) ≡ is_some (look held_index i l)
    unlike j d = pick-eq (λ (t : Bool). t ≡ is_some (look held_index i l)) j i true (is_some (look held_index i l)) (λ e. absurd (d e)) (λ e. refl)

cut_holds : (i j : ℕ) (l : List Held) → Ascending held_index 0 l
    → pick (eqb j i) false (is_some (look held_index i l)) ≡ is_some (look held_index i (cut held_index j l))
cut_holds i j l a = choose (eqb j i) (look held_index i l) ∙ ap is_some (sym (look-cut held_index j i 0 l a))
  where
    choose : (t : Bool) (o : Option Held) → pick t false (is_some o) ≡ is_some (pick t none o)
    choose true o = refl
    choose false o = refl

read-holds : (D : Decoder) (j : Instruction) (taken i : ℕ)
    → held_by j (decoder_call D (at-decoder.read j taken)).answer.number i (holds i D) ≡ holds i (decoder_call D (at-decoder.read j taken)).state
unfolding decoder_call
read-holds D (insert j name value) taken i =
    ways.insert-ways (λ o. held_by (insert j name value) o.answer.number i (holds i D) ≡ holds i o.state) D
    (λ a e. refused-keeps (insert j name value) a.number i (holds i D) e) j name value taken
    (λ xs e n f. put_holds i (ways.new_held j xs value) D.entries n)
read-holds D (delete j first last) taken i =
    ways.delete-ways (λ o. holds i D ≡ holds i o.state) D (λ a e. refl) j first last taken (λ h e f. refl)
read-holds D (acknowledge j) taken i = ways.acknowledge-ways (λ o. holds i D ≡ holds i o.state) D (λ a e. refl) j taken

-- ---- one call, then all
call-holds : (D : Decoder) (n : ℕ) (c : DecoderCall) (i : ℕ) → Ascending held_index 0 D.entries
    → held_from (holds i D) (decoder_event n c (decoder_call D c) ∷ []) i ≡ holds i (decoder_call D c).state
unfolding held_from decoder_event decoder_call freed_by without
call-holds D n (at-decoder.read j taken) i a = read-holds D j taken i
call-holds D n (at-decoder.block s part rs room) i a =
    ways.block-ways (λ o. holds i D ≡ holds i o.state) D (λ b e. refl) s part rs room (λ p fs e f g h k. refl)
call-holds D n (at-decoder.close k s) i a =
    ways.close-ways (λ o. held_from (holds i D) (told_by k s o.answer ∷ []) i ≡ holds i o.state) D
    (λ b e. told-keeps (holds i D) k s b i) k s (λ e. told-keeps (holds i D) k s _ i)
call-holds D n (at-decoder.collect room) i a =
    ways.collect-ways (λ o. held_from (holds i D) (freed_by o.output ∷ []) i ≡ holds i o.state) D
    (λ b e. refl) room (λ e. refl) (λ j e f. cut_holds i j D.entries a)
call-holds D n (at-decoder.hold j) i a = ways.hold-ways (λ o. holds i D ≡ holds i o.state) D (λ b e. refl) j (λ d e. refl)
call-holds D n (at-decoder.unread number) i a = refl

pub turn_holds : (S : Ends) (c : LinkCall) (i : ℕ) → Ascending held_index 0 S.decoder.entries
    → held_from (holds i S.decoder) ((turn S c).event ∷ []) i ≡ holds i (turn S c).ends.decoder
unfolding turn held_from
turn_holds S (encoder c) i a = encoder-keeps (holds i S.decoder) c (encoder_call S.encoder c) i
turn_holds S (decoder n c) i a = call-holds S.decoder n c i a
turn_holds S (link.LinkCall.reset s) i a = refl
