-- What is claimed of each table by the history of its calls: what it holds, what is under deletion, the held size, which blocks are in turn; at the
-- encoder that lowest means lowest, and what a written delete says.
use Rattle.std.specs.Prelude.{◌≡◌, ◌↔◌, ◌⊎◌, ℕ, suc, ◌+◌, ◌≤◌, max, Bool, true, false, ◌&&◌, List, [], ◌∷◌, eqb, leb}
use Rattle.std.proofs.Math.Option.{Option, none, some}
use Rattle.memory.specs.Choice.{pick, need}
use Rattle.memory.specs.Bytes.{Small}
use Rattle.integers.specs.Answers.{Answer, done, refusal, not_allowed, vacant, not_under_deletion}
use Rattle.integers.specs.Integer.{largest}
use Rattle.statics.specs.Table.{Entry, entry_at}
use Rattle.wire.specs.Name.{Name, indexed, literal}
use Rattle.fields.specs.Form.{Field, list_form}
use Rattle.fields.specs.Reading.{read_field_list}
use Rattle.fields.specs.Reading as lists
use Rattle.instructions.specs.Instruction.{insert, delete, instruction_wire}
use Rattle.blocks.specs.Representation.{Representation, block_wire}
use Rattle.blocks.specs.Representation as representation
use Rattle.blocks.specs.Reading.{BlockRead, block, read_block}
use Rattle.blocks.specs.Reading as reading
use Rattle.blocks.specs.Meaning.{holds, with_statics, list, block_meaning, block_references}
use Rattle.blocks.specs.Meaning as meaning
use Rattle.model.specs.Table.{look}
use Rattle.model.specs.Parts.{Part, nontrailer, trailer, part_of, part_number, Marks, no_marks, block_marks, closed, Delete, open_below, lowest_open, streams}
use Rattle.model.specs.Decoder.{held_index, slot_in, delete_of, ready}
use Rattle.model.specs.Encoder.{mentions, empty_list}
use Rattle.model.specs.Happened.{Happened, inserted, deleted, freed, after, held_by, deletion_by, deletes_by, contents_by, Contents, empty, is_held, added_by, removed_by, sum_of}
use Rattle.state.specs.Layout.{held_of}
use Rattle.state.specs.DecoderState.{decoder_of}
use Rattle.state.specs.EncoderState.{encoder_of}
use Rattle.state.specs.Forms.{forms_decoder, forms_encoder}
use Rattle.parts.specs.Turn.{part_turn}
use Rattle.reply.specs.Result.{Result}
use Rattle.decoder.specs.Calls as decoder
use Rattle.encoder.specs.Calls as encoder
use Rattle.link.specs.Calls.{
  DecoderCall,
  decoder_result,
  EncoderCall,
  encoder_result,
  AllDecoderBytes,
  AllEncoderBytes,
  decoder_after,
  encoder_after,
  done_bytes,
}
use Rattle.link.specs.Calls as calls
use Rattle.link.specs.Happened.{managed, history, Ready, history_there}

-- ==== the decoder

-- what memory holds at each index
abbrev pub contents_in : List ℕ → Contents
contents_in m i = slot_in (look held_index i (decoder_of m).entries)

-- what a block call told and wrote is what its bytes mean against these contents: on 0 its fields, whole, on 1 "the first in byte order is told"
pub record BlockMeans (t : Contents) (b : List ℕ) (r : Result) : Type 0 where
  pub given : r.answer.number ≡ 0
      → (rs : List Representation) × (fs : List Field) × (read_block b ≡ block rs) × (block_meaning (with_statics t) rs ≡ list fs) × (done_bytes r ≡ list_form fs)
  pub waits : r.answer.number ≡ 1
      → (rs : List Representation) × (read_block b ≡ block rs) × (block_meaning (with_statics t) rs ≡ meaning.BlockMeaning.waits r.answer.first)

-- ---- finished parts: "a non-trailer block does not finish its part", a trailer block answered "done" finishes both; a closing answered "done" finishes its own
unfoldable pub finishes : Option Part → ℕ → Marks → Marks
finishes none s f = f
finishes (some p) s f = block_marks p s f

unfoldable pub finished_by : Marks → DecoderCall → Result → Marks
finished_by f (calls.DecoderCall.read s) r = f
finished_by f (calls.DecoderCall.block stream part b out) r = pick (eqb r.answer.number 0) (finishes (part_of part) stream f) f
finished_by f (calls.DecoderCall.close k stream) r = pick (eqb r.answer.number 0) (closed k stream f) f
finished_by f (calls.DecoderCall.collect out) r = f
finished_by f (calls.DecoderCall.hold index) r = f

unfoldable pub finished_after : Marks → List ℕ → List DecoderCall → Marks
finished_after f m [] = f
finished_after f m (c ∷ cs) = finished_after (finished_by f c (decoder_result m c)) (decoder_result m c).memory cs

-- ---- the hold enquiry's whole answer: "5, 8, 10"; "how many named parts are unfinished and the lowest stream having one (4,096 if none)"
abbrev pub hold_told : Option Delete → Marks → Answer
hold_told none f = refusal not_under_deletion
hold_told (some d) f = done (open_below f d streams) (lowest_open f d 0 streams)

abbrev pub hold_answer : Bool → Option Delete → Marks → ℕ → Answer
hold_answer held d f i = need (leb 62 i) (refusal not_allowed) (need (leb i largest) (refusal not_allowed) (need held (refusal vacant) (hold_told d f)))

-- what a read may do to slots that are held so, and under these deletions: "insert 8, 6", "delete 8, 9"
abbrev pub Lawful : (ℕ → Bool) → (ℕ → Option Delete) → List Happened → Type 0
Lawful held deletions [] = Unit {0}
Lawful held deletions (inserted i name value ∷ xs) = (held i ≡ false) × Lawful held deletions xs
Lawful held deletions (deleted d ∷ xs) = (held d.index ≡ true) × (deletions d.index ≡ none) × Lawful held deletions xs
Lawful held deletions (freed i ∷ xs) = ⊥

-- history and table agree, after calls from the memory m, of which `contents`, `deletions`, `deletes` and `finished` are what it holds
pub record Agrees (m : List ℕ) (contents : Contents) (deletions : ℕ → Option Delete) (deletes : List Delete) (finished : Marks) (cs : List DecoderCall) : Type 0 where
  -- the entry at each index, name and value
  pub entries : (i : ℕ) → contents_in (decoder_after m cs) i ≡ after contents_by contents (history m cs) i
  -- held or empty
  pub held : (i : ℕ) → is_held (contents_in (decoder_after m cs) i) ≡ after (held_by i) (is_held (contents i)) (history m cs)
  -- the deletion, with its lists
  pub deletion : (i : ℕ) → delete_of (decoder_of (decoder_after m cs)) i ≡ after (deletion_by i) (deletions i) (history m cs)
  -- the deletes of memory are the done deletes in the order read, less the freed
  pub arrived : (decoder_of (decoder_after m cs)).deletes ≡ after deletes_by deletes (history m cs)
  -- the finished parts
  pub parts : (s : ℕ) (p : Part) → (decoder_of (decoder_after m cs)).finished s p ≡ finished_after finished m cs s p
  -- what the enquiry tells, by history
  pub hold : (i : ℕ) → (decoder_result (decoder_after m cs) (calls.DecoderCall.hold i)).answer
      ≡ hold_answer (after (held_by i) (is_held (contents i)) (history m cs)) (after (deletion_by i) (deletions i) (history m cs)) (finished_after finished m cs) i
  pub enquiry : (i : ℕ) → Ready (decoder_after m cs) i ↔ (ready (decoder_of (decoder_after m cs)) i ≡ true)
  -- out of turn is a part already finished; "stream above 4,095, part number not 0 .. or 1": 11 exactly then
  pub turn : (stream part : ℕ) (b out : List ℕ) → Small b → Small out
      → ((decoder_result (decoder_after m cs) (calls.DecoderCall.block stream part b out)).answer.number ≡ 11)
      ↔ (part_turn (finished_after finished m cs) stream (part_of part) ≡ false)
  -- an insert then done found its index empty, a delete found its entry held and not under deletion
  pub lawful : (s : List ℕ) → Small s → (decoder_result (decoder_after m cs) (calls.DecoderCall.read s)).answer.number ≡ 0
      → Lawful (λ i. after (held_by i) (is_held (contents i)) (history m cs)) (λ i. after (deletion_by i) (deletions i) (history m cs)) (managed s)
  -- and what a block then offered means, in whatever part
  pub means : (stream part : ℕ) (b out : List ℕ) → Small b → Small out
      → BlockMeans (after contents_by contents (history m cs)) b (decoder_result (decoder_after m cs) (calls.DecoderCall.block stream part b out))

-- ==== the encoder

-- ---- "the lowest": of the indexes of which P holds
pub record Lowest (P : ℕ → Type 0) (i : ℕ) : Type 0 where
  pub there : P i
  pub first : (k : ℕ) → P k → i ≤ k

-- x is `by i` for the lowest i with P, else what `other` says
abbrev pub ByLowest : {X : Type 0} → (ℕ → Type 0) → (ℕ → X) → (X → Type 0) → X → Type 0
ByLowest P by other x = ((i : ℕ) × Lowest P i × (x ≡ by i)) ⊎ (((i : ℕ) → P i → ⊥) × other x)

-- a static entry
abbrev pub Static : (Entry → Type 0) → ℕ → Type 0
Static P i = (1 ≤ i) × (i ≤ 61) × P (entry_at i)

-- a dynamic one not under deletion, by what happened since the start
abbrev pub Serving : List Happened → (Entry → Type 0) → ℕ → Type 0
Serving hs P i = (e : Entry) × (after contents_by empty hs i ≡ holds e) × (after (deletion_by i) none hs ≡ none) × P e

abbrev pub Named : List ℕ → Entry → Type 0
Named name e = e.name ≡ name

abbrev pub Equal : List ℕ → List ℕ → Entry → Type 0
Equal name value e = (e.name ≡ name) × (e.value ≡ value)

-- "A literal, and an insert, names by the lowest static index with that name, else the lowest dynamic one not under deletion, else by string."
abbrev pub NamedBy : List Happened → List ℕ → Name → Type 0
NamedBy hs name = ByLowest (Static (Named name)) indexed (ByLowest (Serving hs (Named name)) indexed (λ n. n ≡ literal name))

abbrev pub LiteralFor : List Happened → Field → Representation → Type 0
LiteralFor hs f r = (n : Name) × NamedBy hs f.name n × (r ≡ representation.literal f.flag n f.value)

-- "A field with flag 1 is a literal with N. Otherwise use the lowest static index with equal name and value, else the lowest such dynamic
-- index not under deletion, else a literal."
abbrev pub WrittenFor : List Happened → Field → Representation → Type 0
WrittenFor hs f r =
    ((f.flag ≡ 1) × LiteralFor hs f r)
    ⊎ ((f.flag ≡ 0)
    × ByLowest (Static (Equal f.name f.value)) representation.indexed
    (ByLowest (Serving hs (Equal f.name f.value)) representation.indexed (LiteralFor hs f)) r)

abbrev pub AllWrittenFor : List Happened → List Field → List Representation → Type 0
AllWrittenFor hs [] [] = Unit {0}
AllWrittenFor hs [] (r ∷ rs) = ⊥
AllWrittenFor hs (f ∷ fs) [] = ⊥
AllWrittenFor hs (f ∷ fs) (r ∷ rs) = WrittenFor hs f r × AllWrittenFor hs fs rs

-- ---- the streams that refer to an entry
abbrev pub indexes_of : BlockRead → List ℕ
indexes_of (block rs) = block_references rs
indexes_of (reading.BlockRead.refused why) = []

-- the indexes that a block names, in byte order
abbrev pub block_indexes : List ℕ → List ℕ
block_indexes b = indexes_of (read_block b)

-- the streams whose blocks of a part refer to the entry with index i, by index or for its name, the latest first: an insert that took the index begins
-- anew, a written block of that part that refers to it adds its stream
unfoldable pub referring_by : ℕ → Part → List ℕ → List ℕ → EncoderCall → List ℕ
referring_by i p ss m (calls.EncoderCall.insert name value out) =
    let a = (encoder_result m (calls.EncoderCall.insert name value out)).answer in pick (eqb a.number 0 && eqb a.second i) [] ss
referring_by i p ss m (calls.EncoderCall.delete index out) = ss
referring_by i p ss m (calls.EncoderCall.block stream part s out) =
    let r = encoder_result m (calls.EncoderCall.block stream part s out) in
    pick (eqb r.answer.number 0 && (eqb part (part_number p) && mentions (block_indexes (done_bytes r)) i)) (stream ∷ ss) ss
referring_by i p ss m (calls.EncoderCall.acknowledge s) = ss

unfoldable pub referring_since : ℕ → Part → List ℕ → List ℕ → List EncoderCall → List ℕ
referring_since i p ss m [] = ss
referring_since i p ss m (c ∷ cs) = referring_since i p (referring_by i p ss m c) (encoder_result m c).memory cs

-- "Each horizon is one more than the highest stream .., or 0 if none does"
unfoldable pub horizon_of : List ℕ → ℕ
horizon_of [] = 0
horizon_of (s ∷ ss) = max (suc s) (horizon_of ss)

-- ---- closed parts: a non-trailer block closes nothing, a trailer block answered "done" closes its own part and "at the encoder closes" the non-trailer
-- one; no other call closes any
unfoldable pub closed_by : Marks → EncoderCall → Result → Marks
closed_by f (calls.EncoderCall.insert name value out) r = f
closed_by f (calls.EncoderCall.delete index out) r = f
closed_by f (calls.EncoderCall.block stream part s out) r = pick (eqb r.answer.number 0) (finishes (part_of part) stream f) f
closed_by f (calls.EncoderCall.acknowledge s) r = f

unfoldable pub closed_after : Marks → List ℕ → List EncoderCall → Marks
closed_after f m [] = f
closed_after f m (c ∷ cs) = closed_after (closed_by f c (encoder_result m c)) (encoder_result m c).memory cs

-- "A further non-trailer block on an unfinished part is in turn, at both ends; a trailer may come while the non-trailer part is open, even with no block
-- before it, and at the encoder closes it": after calls from the memory m, in which f is closed, 11 exactly where the part is closed there or by them,
-- or for "stream above 4,095, part number not 0 .. or 1"
abbrev pub TurnBy : Marks → List ℕ → List EncoderCall → Type 0
TurnBy f m cs = (stream part : ℕ) (s out : List ℕ) → Small s → Small out
    → ((encoder_result (encoder_after m cs) (calls.EncoderCall.block stream part s out)).answer.number ≡ 11)
    ↔ (part_turn (closed_after f m cs) stream (part_of part) ≡ false)

-- what an encoder's calls do after calls from the memory m, that of a start
pub record EncoderHistory (m : List ℕ) (cs : List EncoderCall) : Type 0 where
  -- "At every moment it equals the sizes of all inserts done less the sizes of all entries freed since the start."
  pub held_size_lem : held_of (encoder_after m cs) + sum_of removed_by empty (history_there m cs) ≡ sum_of added_by empty (history_there m cs)
  -- "the lowest from 62 that is not held"; the insert written names it, and its name by the lowest index
  pub insert_lowest : (name value out : List ℕ) → Small name → Small value → Small out
      → let r = encoder_result (encoder_after m cs) (calls.EncoderCall.insert name value out) in r.answer.number ≡ 0
      → Lowest (λ i. (62 ≤ i) × (after (held_by i) false (history_there m cs) ≡ false)) r.answer.second
  pub insert_named_lem : (name value out : List ℕ) → Small name → Small value → Small out
      → let r = encoder_result (encoder_after m cs) (calls.EncoderCall.insert name value out) in r.answer.number ≡ 0
      → (n : Name) × NamedBy (history_there m cs) name n × (done_bytes r ≡ instruction_wire (insert r.answer.second n value))
  -- each field of a written block
  pub block_lowest : (stream part : ℕ) (s out : List ℕ) → Small s → Small out
      → let r = encoder_result (encoder_after m cs) (calls.EncoderCall.block stream part s out) in r.answer.number ≡ 0
      → (fs : List Field) × (rs : List Representation) × (read_field_list s ≡ lists.FieldListRead.list fs) × (read_block (done_bytes r) ≡ block rs)
      × (done_bytes r ≡ block_wire rs) × AllWrittenFor (history_there m cs) fs rs
  -- which blocks are in turn: nothing is closed at first
  pub turn : TurnBy no_marks m cs
  -- "A delete is written with empty lists", and its horizons
  pub delete_says : (i : ℕ) (out : List ℕ) → Small out
      → let r = encoder_result (encoder_after m cs) (calls.EncoderCall.delete i out) in r.answer.number ≡ 0
      → done_bytes r ≡ instruction_wire (delete i (empty_list (horizon_of (referring_since i nontrailer [] m cs))) (empty_list (horizon_of (referring_since i trailer [] m cs))))

-- ==== the claim
pub record HistoriesClaim : Type 0 where
  -- history and table agree at the decoder, from a start and from other memory that forms a state
  pub agree_start : (m : List ℕ) (limit : ℕ) → Small m → (decoder.start_call m limit).answer.number ≡ 0 → (cs : List DecoderCall) → AllDecoderBytes cs
      → Agrees (decoder.start_call m limit).memory empty (λ i. none) [] no_marks cs
  pub agree_state : (m : List ℕ) → Small m → forms_decoder m ≡ true → (cs : List DecoderCall) → AllDecoderBytes cs
      → Agrees m (contents_in m) (delete_of (decoder_of m)) (decoder_of m).deletes (decoder_of m).finished cs
  -- "At every moment it equals the sizes of all inserts done less the sizes of all entries freed since the start."
  pub decoder_held : (m : List ℕ) (limit : ℕ) → Small m → (decoder.start_call m limit).answer.number ≡ 0 → (cs : List DecoderCall) → AllDecoderBytes cs
      → held_of (decoder_after (decoder.start_call m limit).memory cs) + sum_of removed_by empty (history (decoder.start_call m limit).memory cs)
      ≡ sum_of added_by empty (history (decoder.start_call m limit).memory cs)
  -- "An insert that would pass it is 7": the limit that the start was given is never passed
  pub decoder_within : (m : List ℕ) (limit : ℕ) → Small m → (decoder.start_call m limit).answer.number ≡ 0 → (cs : List DecoderCall) → AllDecoderBytes cs
      → held_of (decoder_after (decoder.start_call m limit).memory cs) ≤ limit
  -- the same at the encoder, and what its calls do
  pub encoder_within : (m : List ℕ) (limit : ℕ) → Small m → (encoder.start_call m limit).answer.number ≡ 0 → (cs : List EncoderCall) → AllEncoderBytes cs
      → held_of (encoder_after (encoder.start_call m limit).memory cs) ≤ limit
  pub encoder_history : (m : List ℕ) (limit : ℕ) → Small m → (encoder.start_call m limit).answer.number ≡ 0 → (cs : List EncoderCall) → AllEncoderBytes cs
      → EncoderHistory (encoder.start_call m limit).memory cs
  -- and from other memory that forms a state, which blocks are in turn
  pub encoder_turn : (m : List ℕ) → Small m → forms_encoder m ≡ true → (cs : List EncoderCall) → AllEncoderBytes cs → TurnBy (encoder_of m).written m cs
