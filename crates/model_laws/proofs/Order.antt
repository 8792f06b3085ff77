-- Every call keeps the entries ascending by index: a decoder call from the least index that inserts have, an encoder call from 62.
-- By the ways of each call.
use mathlib.Core.Path.{◌≡◌, refl}
use Prim.Native.Nat.{ℕ, ◌≤◌}
use native.Mathlib.Omega.{arith}
use mathlib.Core.List.{List, [], ◌∷◌}
use Rattle.memory.proofs.Order.{pick-both}
use Rattle.instructions.specs.Instruction.{insert, delete, acknowledge}
use Rattle.blocks.specs.Meaning.{block_references}
use Rattle.blocks.specs.Representation.{Representation}
use Rattle.model.specs.Table.{Ascending}
use Rattle.model.specs.Parts.{Part, nontrailer, trailer}
use Rattle.model.specs.Decoder.{Decoder, held_index, without}
use Rattle.model.specs.DecoderCalls.{DecoderCall, read, block, close, collect, hold, unread, decoder_call, after_decoder}
use Rattle.model.specs.Encoder.{Encoder, Sent, sent_index, new_sent, mark_deleted, referred, refer, mentions}
use Rattle.model.specs.EncoderCalls.{EncoderCall, encoder_call, after_encoder}
use Rattle.model.specs.EncoderCalls as at-encoder
use Rattle.model_laws.specs.Ready.{FineCall, FineCalls}
use Rattle.model_laws.proofs.Tables.{pick-eq, asc-put, asc-cut, asc-map, vacant-low, vacant-free}
use Rattle.model_laws.proofs.DecoderWays as decoder
use Rattle.model_laws.proofs.EncoderWays as encoder

-- ---- the decoder

-- an insert has at least the index lo
abbrev pub InsertsFrom : ℕ → DecoderCall → Type 0
InsertsFrom lo (read (insert i name value) taken) = lo ≤ i
InsertsFrom lo (read (delete i first last) taken) = Unit {0}
InsertsFrom lo (read (acknowledge i) taken) = Unit {0}
InsertsFrom lo (block s part rs room) = Unit {0}
InsertsFrom lo (close k s) = Unit {0}
InsertsFrom lo (collect room) = Unit {0}
InsertsFrom lo (hold i) = Unit {0}
InsertsFrom lo (unread number) = Unit {0}

pub inserts-any : (c : DecoderCall) → InsertsFrom 0 c
inserts-any (read (insert i name value) taken) = omega arith
inserts-any (read (delete i first last) taken) = tt
inserts-any (read (acknowledge i) taken) = tt
inserts-any (block s part rs room) = tt
inserts-any (close k s) = tt
inserts-any (collect room) = tt
inserts-any (hold i) = tt
inserts-any (unread number) = tt

pub inserts-fine : (c : DecoderCall) → FineCall c → InsertsFrom 62 c
inserts-fine (read (insert i name value) taken) f = f.1.0.0
inserts-fine (read (delete i first last) taken) f = tt
inserts-fine (read (acknowledge i) taken) f = tt
inserts-fine (block s part rs room) f = tt
inserts-fine (close k s) f = tt
inserts-fine (collect room) f = tt
inserts-fine (hold i) f = tt
inserts-fine (unread number) f = tt

pub decoder-order : (lo : ℕ) (D : Decoder) (c : DecoderCall) → InsertsFrom lo c → Ascending held_index lo D.entries
    → Ascending held_index lo (decoder_call D c).state.entries
unfolding decoder_call without
decoder-order lo D (read (insert i name value) taken) low a =
    decoder.insert-ways (λ o. Ascending held_index lo o.state.entries) D (λ n e. a) i name value taken
    (λ xs e n f. asc-put held_index lo (decoder.new_held i xs value) D.entries low n a)
decoder-order lo D (read (delete i first last) taken) low a =
    decoder.delete-ways (λ o. Ascending held_index lo o.state.entries) D (λ n e. a) i first last taken (λ h e f. a)
decoder-order lo D (read (acknowledge i) taken) low a =
    decoder.acknowledge-ways (λ o. Ascending held_index lo o.state.entries) D (λ n e. a) i taken
decoder-order lo D (block s part rs room) low a =
    decoder.block-ways (λ o. Ascending held_index lo o.state.entries) D (λ n e. a) s part rs room (λ p fs e f g h k. a)
decoder-order lo D (close k s) low a =
    decoder.close-ways (λ o. Ascending held_index lo o.state.entries) D (λ n e. a) k s (λ e. a)
decoder-order lo D (collect room) low a =
    decoder.collect-ways (λ o. Ascending held_index lo o.state.entries) D (λ n e. a) room (λ e. a)
    (λ i e f. asc-cut held_index i lo D.entries a)
decoder-order lo D (hold i) low a = decoder.hold-ways (λ o. Ascending held_index lo o.state.entries) D (λ n e. a) i (λ d e. a)
decoder-order lo D (unread number) low a = a

pub decoder-orders : (D : Decoder) (cs : List DecoderCall) → FineCalls cs → Ascending held_index 62 D.entries
    → Ascending held_index 62 (after_decoder D cs).entries
unfolding after_decoder
decoder-orders D [] f a = a
decoder-orders D (c ∷ cs) f a = decoder-orders (decoder_call D c).state cs f.1 (decoder-order 62 D c (inserts-fine c f.0) a)

-- ---- the encoder: neither a delete nor a block changes an index
pub delete-index : (i : ℕ) (e : Sent) → (mark_deleted i e).index ≡ e.index
unfolding mark_deleted
delete-index i e = pick-eq (λ (t : Sent). t.index ≡ e.index) e.index i _ e (λ h. refl) (λ h. refl)

referred-index : (s : ℕ) (p : Part) (e : Sent) → (referred s p e).index ≡ e.index
unfolding referred
referred-index s nontrailer e = refl
referred-index s trailer e = refl

pub refer-index : (s : ℕ) (p : Part) (rs : List Representation) (e : Sent) → (refer s p rs e).index ≡ e.index
unfolding refer
refer-index s p rs e =
    pick-both (λ (t : Sent). t.index ≡ e.index) (mentions (block_references rs) e.index) (referred s p e) e
    (λ h. referred-index s p e) (λ h. refl)

pub encoder-order : (E : Encoder) (c : EncoderCall) → Ascending sent_index 62 E.entries
    → Ascending sent_index 62 (encoder_call E c).state.entries
unfolding encoder_call
encoder-order E (at-encoder.insert name value room) a =
    encoder.insert-ways (λ o. Ascending sent_index 62 o.state.entries) E (λ n e. a) name value room
    (λ i e f g h m. asc-put sent_index 62 (new_sent i name value) E.entries (rw e (vacant-low sent_index 62 E.entries))
    (rw e (vacant-free sent_index 62 E.entries a)) a)
encoder-order E (at-encoder.delete i room) a =
    encoder.delete-ways (λ o. Ascending sent_index 62 o.state.entries) E (λ n e. a) i room
    (λ e f g h. asc-map sent_index (mark_deleted e.index) (delete-index e.index) 62 E.entries a)
encoder-order E (at-encoder.block s part fs room) a =
    encoder.block-ways (λ o. Ascending sent_index 62 o.state.entries) E (λ n e. a) s part fs room
    (λ p rs e f g h k m. asc-map sent_index (refer s p rs) (refer-index s p rs) 62 E.entries a)
encoder-order E (at-encoder.acknowledged i taken) a =
    encoder.acknowledged-ways (λ o. Ascending sent_index 62 o.state.entries) E (λ n e. a) i taken
    (λ e f g. asc-cut sent_index e.index 62 E.entries a)
encoder-order E (at-encoder.unread number) a = a

pub encoder-orders : (E : Encoder) (cs : List EncoderCall) → Ascending sent_index 62 E.entries
    → Ascending sent_index 62 (after_encoder E cs).entries
unfolding after_encoder
encoder-orders E [] a = a
encoder-orders E (c ∷ cs) a = encoder-orders (encoder_call E c).state cs (encoder-order E c a)
