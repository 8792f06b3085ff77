-- Lemmas on abstract data: what the encoder's table holds, and what a delete's horizons are, by the calls that were done since the start.
-- The claims themselves, on calls, bytes and answers, are link/specs/Histories.antt.
use Rattle.std.specs.Prelude.{◌≡◌, ℕ, suc, ◌+◌, max, List, [], ◌∷◌, eqb}
use Rattle.std.proofs.Math.Option.{Option, none, some}
use Rattle.memory.specs.Choice.{pick}
use Rattle.blocks.specs.Meaning.{block_references}
use Rattle.model.specs.Table.{size, look}
use Rattle.model.specs.Parts.{Part, nontrailer, trailer, part_number}
use Rattle.model.specs.Outcome.{Output, nothing, instruction, block, fields, Outcome}
use Rattle.model.specs.Encoder.{Encoder, Sent, sent_index, sent_size, start_encoder, mentions}
use Rattle.model.specs.EncoderCalls.{EncoderCall, encoder_call, after_encoder}
use Rattle.model.specs.EncoderCalls as at-encoder

-- the size of the entry that was found
unfoldable pub size_sent : Option Sent → ℕ
size_sent none = 0
size_sent (some e) = size e.entry

-- ---- "the sizes of all inserts done less the sizes of all entries freed since the start"
unfoldable pub sent : Encoder → EncoderCall → ℕ
sent E (at-encoder.insert name value room) =
    pick (eqb (encoder_call E (at-encoder.insert name value room)).answer.number 0) (size (record { name = name; value = value })) 0
sent E (at-encoder.delete i room) = 0
sent E (at-encoder.block s part fs room) = 0
sent E (at-encoder.acknowledged i taken) = 0
sent E (at-encoder.unread number) = 0

unfoldable pub acked : Encoder → EncoderCall → ℕ
acked E (at-encoder.insert name value room) = 0
acked E (at-encoder.delete i room) = 0
acked E (at-encoder.block s part fs room) = 0
acked E (at-encoder.acknowledged i taken) =
    pick (eqb (encoder_call E (at-encoder.acknowledged i taken)).answer.number 0) (size_sent (look sent_index i E.entries)) 0
acked E (at-encoder.unread number) = 0

unfoldable pub sent_since : Encoder → List EncoderCall → ℕ
sent_since E [] = 0
sent_since E (c ∷ cs) = sent E c + sent_since (encoder_call E c).state cs

unfoldable pub acked_since : Encoder → List EncoderCall → ℕ
acked_since E [] = 0
acked_since E (c ∷ cs) = acked E c + acked_since (encoder_call E c).state cs

-- ---- horizons: "one more than the highest stream whose block of that kind refers to the entry, by index or for its name, or 0 if none does"

-- the horizon of index i for blocks of part p after one more call, from its horizon h before it: an insert that took i begins anew, a block of that
-- part that was written and refers to i raises it
unfoldable pub raised_by : ℕ → Part → ℕ → Output → ℕ → ℕ → ℕ
raised_by i p stream nothing part h = h
raised_by i p stream (instruction j) part h = h
raised_by i p stream (block rs) part h = pick (eqb part (part_number p)) (pick (mentions (block_references rs) i) (max h (suc stream)) h) h
raised_by i p stream (fields fs) part h = h

unfoldable pub begun_by : ℕ → Outcome Encoder → ℕ → ℕ
begun_by i o h = pick (eqb o.answer.number 0) (pick (eqb o.answer.second i) 0 h) h

unfoldable pub horizon_after : ℕ → Part → ℕ → Encoder → EncoderCall → ℕ
horizon_after i p h E (at-encoder.insert name value room) = begun_by i (encoder_call E (at-encoder.insert name value room)) h
horizon_after i p h E (at-encoder.delete j room) = h
horizon_after i p h E (at-encoder.block s part fs room) = raised_by i p s (encoder_call E (at-encoder.block s part fs room)).output part h
horizon_after i p h E (at-encoder.acknowledged j taken) = h
horizon_after i p h E (at-encoder.unread number) = h

unfoldable pub horizon_since : ℕ → Part → ℕ → Encoder → List EncoderCall → ℕ
horizon_since i p h E [] = h
horizon_since i p h E (c ∷ cs) = horizon_since i p (horizon_after i p h E c) (encoder_call E c).state cs

abbrev pub horizon_of : Part → Sent → ℕ
horizon_of nontrailer e = e.nontrailer
horizon_of trailer e = e.trailer

-- ---- the claims
pub record Histories : Type 0 where
  -- "At every moment it equals the sizes of all inserts done less the sizes of all entries freed since the start."
  pub encoder_held : (limit : ℕ) (cs : List EncoderCall)
      → sent_size (after_encoder (start_encoder limit) cs).entries + acked_since (start_encoder limit) cs ≡ sent_since (start_encoder limit) cs
  pub horizons : (limit : ℕ) (cs : List EncoderCall) (p : Part) (i : ℕ) (e : Sent)
      → look sent_index i (after_encoder (start_encoder limit) cs).entries ≡ some e
      → horizon_of p e ≡ horizon_since i p 0 (start_encoder limit) cs
