-- Links that start anew: tables follow one another on a link, each with a number of its own, and the two ends start a table at different places of one
-- list of calls. Each call says which table it belongs to. Where each end makes only the calls of the table that it started last, every table is served
-- as demand 3 says. To be read after Claims.
use Rattle.std.specs.Prelude.{◌≡◌, ℕ, ◌≤◌, eqb}
use Rattle.std.proofs.Math.Option.{Option, none, some}
use mathlib.Core.List.{List, [], ◌∷◌, ◌++◌, Memᴰ}
use Rattle.memory.specs.Choice.{pick}
use Rattle.memory.specs.Bytes.{Small}
use Rattle.model.specs.Events.{at}
use Rattle.reply.specs.Result.{Result}
use Rattle.decoder.specs.Calls as decoder
use Rattle.encoder.specs.Calls as encoder
use Rattle.link.specs.Calls.{DecoderCall, EncoderCall}
use Rattle.link.specs.Calls as calls
use Rattle.link.specs.Claims.{LinkCall, Ends, Event, by_encoder, by_decoder, turn, Written, written_in, Rules, LinkBytes, ServedBlock, Served}

-- a start of a table at one end: its number, its limit and the memory lent, which may be that of the table before; or a call, or a reset, that belongs
-- to a table
pub data TableCall : Type 0 where
  encoder_start : ℕ → ℕ → List ℕ → TableCall
  decoder_start : ℕ → ℕ → List ℕ → TableCall
  of_table : ℕ → LinkCall → TableCall

-- what happened: a start with its table, its limit and what it left; or an event that belongs to a table
pub data TableEvent : Type 0 where
  encoder_started : ℕ → ℕ → Result → TableEvent
  decoder_started : ℕ → ℕ → Result → TableEvent
  of_table : ℕ → Event → TableEvent

pub record TableTurn : Type 0 where
  pub ends : Ends
  pub event : TableEvent

-- the memory of an end after a start: a refused one leaves it as it was
abbrev pub memory_after : List ℕ → Result → List ℕ
memory_after m r = pick (eqb r.answer.number 0) r.memory m

unfoldable pub table_turn : Ends → TableCall → TableTurn
table_turn S (encoder_start t limit m) =
    let r = encoder.start_call m limit in
    record { ends = record { encoder = memory_after S.encoder r; decoder = S.decoder }; event = encoder_started t limit r }
table_turn S (decoder_start t limit m) =
    let r = decoder.start_call m limit in
    record { ends = record { encoder = S.encoder; decoder = memory_after S.decoder r }; event = decoder_started t limit r }
table_turn S (TableCall.of_table t c) = record { ends = (turn S c).ends; event = TableEvent.of_table t (turn S c).event }

unfoldable pub table_events : Ends → List TableCall → List TableEvent
table_events S [] = []
table_events S (c ∷ cs) = (table_turn S c).event ∷ table_events (table_turn S c).ends cs

-- the events that belong to the table t, in their order
unfoldable pub events_of : ℕ → List TableEvent → List Event
events_of t [] = []
events_of t (encoder_started u limit r ∷ es) = events_of t es
events_of t (decoder_started u limit r ∷ es) = events_of t es
events_of t (TableEvent.of_table u e ∷ es) = pick (eqb u t) (e ∷ events_of t es) (events_of t es)

-- the table that an end has after these events, where it had one before or none: the one of its last start that was done
abbrev pub started : ℕ → Result → Option ℕ → Option ℕ
started t r before = pick (eqb r.answer.number 0) (some t) before

unfoldable pub encoder_table : Option ℕ → List TableEvent → Option ℕ
encoder_table before [] = before
encoder_table before (encoder_started t limit r ∷ es) = encoder_table (started t r before) es
encoder_table before (decoder_started t limit r ∷ es) = encoder_table before es
encoder_table before (TableEvent.of_table t e ∷ es) = encoder_table before es

unfoldable pub decoder_table : Option ℕ → List TableEvent → Option ℕ
decoder_table before [] = before
decoder_table before (encoder_started t limit r ∷ es) = decoder_table before es
decoder_table before (decoder_started t limit r ∷ es) = decoder_table (started t r before) es
decoder_table before (TableEvent.of_table t e ∷ es) = decoder_table before es

-- ---- the rules for a link that starts anew
pub record TableRules (es : List TableEvent) : Type 0 where
  -- at each end only calls of its current table are made: "what belongs to an older table is dropped, what belongs to a newer one is kept until this
  -- end has started it"
  pub encoder_current : (xs ys : List TableEvent) (t : ℕ) (c : EncoderCall) (r : Result) → es ≡ xs ++ (TableEvent.of_table t (by_encoder c r) ∷ ys)
      → encoder_table none xs ≡ some t
  pub decoder_current : (xs ys : List TableEvent) (t n : ℕ) (c : DecoderCall) (r : Result) → es ≡ xs ++ (TableEvent.of_table t (by_decoder n c r) ∷ ys)
      → decoder_table none xs ≡ some t
  -- "numbers never repeat on a link": neither end starts a table twice
  pub encoder_new : (xs ys : List TableEvent) (t a b : ℕ) (q r : Result) → es ≡ xs ++ (encoder_started t b r ∷ ys) → r.answer.number ≡ 0
      → Memᴰ (encoder_started t a q) xs → q.answer.number ≡ 0 → ⊥
  pub decoder_new : (xs ys : List TableEvent) (t a b : ℕ) (q r : Result) → es ≡ xs ++ (decoder_started t b r ∷ ys) → r.answer.number ≡ 0
      → Memᴰ (decoder_started t a q) xs → q.answer.number ≡ 0 → ⊥
  -- "encoder limit not above the decoder's", for each table
  pub limits : (t a b : ℕ) (q r : Result) → Memᴰ (encoder_started t a q) es → q.answer.number ≡ 0 → Memᴰ (decoder_started t b r) es
      → r.answer.number ≡ 0 → a ≤ b
  -- and within each table document 01's rules for the link hold
  pub tables : (t : ℕ) → Rules (events_of t es)

-- ---- what follows
pub record TablesServed (es : List TableEvent) : Type 0 where
  -- each table by itself is served as demand 3 says
  pub tables : (t : ℕ) → Served (events_of t es)
  -- a block that is offered, wherever that is: by the rules it is one that was written for the same table, and it is served by the events of that table alone
  pub blocks : (xs ys : List TableEvent) (t n s part : ℕ) (b out : List ℕ) (r : Result)
      → es ≡ xs ++ (TableEvent.of_table t (by_decoder n (calls.DecoderCall.block s part b out) r) ∷ ys)
      → (w : Written) × (at n (written_in (events_of t xs)) ≡ some w) × ServedBlock (events_of t xs) w r

-- what is given and lent are bytes
abbrev pub TableBytes : TableCall → Type 0
TableBytes (encoder_start t limit m) = Small m
TableBytes (decoder_start t limit m) = Small m
TableBytes (TableCall.of_table t c) = LinkBytes c

abbrev pub AllTableBytes : List TableCall → Type 0
AllTableBytes [] = Unit {0}
AllTableBytes (c ∷ cs) = TableBytes c × AllTableBytes cs

-- whatever both ends hold before their first start
pub record TablesClaim : Type 0 where
  pub served : (S : Ends) (cs : List TableCall) → AllTableBytes cs → TableRules (table_events S cs) → TablesServed (table_events S cs)
