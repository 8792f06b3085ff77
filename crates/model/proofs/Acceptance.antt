-- The papers' rules as computed facts, the sentence over each. A definition that breaks a rule computes to something else here,
-- whatever shape the proofs of the laws have. AcceptanceCalls has the calls, AcceptanceParts the facts on what a part takes and what finishes it.
-- (The laws are in crate model_laws, above this one: so what such a definition meets first stands here, in seconds. A collect or an enquiry looks at all
-- 4,096 streams, and each edit of a definition computes these facts again: further facts of this kind are in model_laws.)
use mathlib.Core.Path.{◌≡◌, refl}
use mathlib.Core.Bool.{true, false}
use mathlib.Core.Option.{none, some}
use mathlib.Core.List.{List, [], ◌∷◌, ◌++◌}
use Rattle.integers.specs.Answers.{done, refusal}
use Rattle.wire.specs.Name.{indexed as indexed_name, literal as by_bytes}
use Rattle.statics.specs.Ascii.{bytes}
use Rattle.fields.specs.Form.{Field}
use Rattle.instructions.specs.Instruction.{Instruction, insert, delete, acknowledge}
use Rattle.blocks.specs.Representation.{Representation, indexed, literal}
use Rattle.blocks.specs.Meaning.{vacant, holds}
use Rattle.model.specs.Outcome.{nothing, instruction, fields}
use Rattle.model.specs.Outcome as outcome
use Rattle.model.specs.DecoderCalls.{read, block, collect, hold}
use Rattle.model.specs.Encoder.{empty_list}
use Rattle.model.specs.EncoderCalls as at-encoder
use Rattle.model.specs.Happened.{added_by, removed_by}
use Rattle.model.proofs.AcceptanceCalls.{
  decoder_answers,
  decoder_outputs,
  freed,
  encoder_answers,
  encoder_outputs,
  held_after,
  deletion_after,
  deletes_after,
  slot_after,
  sum_after,
  field,
  insert-h9,
  list-3-4-7,
  delete_with,
  delete-of,
  delete-nontrailer,
  delete-trailer,
  trailer-block,
  over,
  put-h9,
  delete-62,
  acknowledged-62,
  says-h,
  said-insert,
  said-delete,
  wrote,
}

-- ---- a block carries its fields

-- 5: "After 4, block BE 82 gives the list, whole". The encoder writes that block for these two fields, and the decoder gives them back.
abbrev two_fields : List Field
two_fields = field (bytes "h") (bytes "9") ∷ field (bytes ":method") (bytes "GET") ∷ []

abbrev BE-82 : List Representation
BE-82 = indexed 62 ∷ indexed 2 ∷ []

pub both-written : encoder_outputs 68 (put-h9 ∷ at-encoder.block 0 0 two_fields 16 ∷ []) ≡ said-insert ∷ outcome.Output.block BE-82 ∷ []
unfolding encoder_outputs
both-written = refl

pub both-given :
    (decoder_outputs 68 (insert-h9 62 ∷ block 0 0 BE-82 64 ∷ []) ≡ nothing ∷ fields two_fields ∷ []) ×
    (decoder_answers 68 (insert-h9 62 ∷ block 0 0 BE-82 64 ∷ []) ≡ done 6 0 ∷ done 18 0 ∷ [])
unfolding decoder_outputs decoder_answers
both-given = (refl, refl)

-- an insert is stored whole: a block that names it gives its name and value, and an insert named by its index has its name
abbrev turns-2 : List Field
turns-2 = field (bytes "turns") (bytes "2") ∷ field (bytes "turns") (bytes "0") ∷ []

pub stored-whole :
    decoder_outputs 128 (read (insert 62 (by_bytes (bytes "turns")) (bytes "2")) 10 ∷ read (insert 63 (indexed_name 62) (bytes "0")) 4
    ∷ block 0 0 (indexed 62 ∷ indexed 63 ∷ []) 64 ∷ []) ≡
    nothing ∷ nothing ∷ fields turns-2 ∷ []
unfolding decoder_outputs
stored-whole = refl

-- ---- ready, and freed by a collect

-- 10: "After 4, with streams 0 to 4 past their non-trailer part, the entry is ready as soon as 3E 05 00 00 00 is read." So the list
-- names the streams below its horizon, 5, and not the horizon itself. With stream 4 unfinished it is not ready.
pub ready-below-horizon :
    (freed 68 (insert-h9 62 ∷ over 0 ∷ over 1 ∷ over 2 ∷ over 3 ∷ over 4 ∷ delete-nontrailer 5 ∷ collect 16 ∷ []) ≡ 62 ∷ []) ×
    (freed 68 (insert-h9 62 ∷ over 0 ∷ over 1 ∷ over 2 ∷ over 3 ∷ delete-nontrailer 5 ∷ collect 16 ∷ []) ≡ [])
unfolding freed
ready-below-horizon = (refl, refl)

-- "It is ready when every part its two lists name is finished": the second list's are trailer parts.
pub ready-trailer :
    (freed 68 (insert-h9 62 ∷ delete-trailer 1 ∷ over 0 ∷ collect 16 ∷ []) ≡ []) ×
    (freed 68 (insert-h9 62 ∷ delete-trailer 1 ∷ trailer-block 0 ∷ collect 16 ∷ []) ≡ 62 ∷ [])
unfolding freed
ready-trailer = (refl, refl)

-- "Collect shall now free the ready entry whose delete arrived first": the delete of 63 is read before that of 62
pub freed-by-arrival : freed 68 (insert-h9 62 ∷ insert-h9 63 ∷ delete-of 63 ∷ delete-of 62 ∷ collect 16 ∷ []) ≡ 63 ∷ []
unfolding freed
freed-by-arrival = refl

-- A collect frees each time, also where an index is used again. A delete goes with its entry: the next entry at that index is not freed before a delete of
-- its own, which is taken.
pub deleted-anew :
    decoder_answers 68 (insert-h9 62 ∷ delete-nontrailer 0 ∷ collect 16 ∷ insert-h9 62 ∷ collect 16 ∷ delete-nontrailer 0 ∷ collect 16 ∷ []) ≡
    done 6 0 ∷ done 5 0 ∷ done 1 0 ∷ done 6 0 ∷ done 0 0 ∷ done 5 0 ∷ done 1 0 ∷ []
unfolding decoder_answers
deleted-anew = refl

-- ---- the hold enquiry

-- "A hold enquiry about an entry under deletion tells how many named parts are unfinished and the lowest stream having one".
-- 8: "List 03 02 01 03 names 0, 1, 2, 4 and 7, not 3." Past 0 to 2 the lowest of these is 4.
pub listed-named :
    decoder_answers 68 (insert-h9 62 ∷ delete_with list-3-4-7 (empty_list 0) ∷ over 0 ∷ over 1 ∷ over 2 ∷ hold 62 ∷ []) ≡
    done 6 0 ∷ done 5 0 ∷ done 0 0 ∷ done 0 0 ∷ done 0 0 ∷ done 2 4 ∷ []
unfolding decoder_answers
listed-named = refl

-- ---- the encoder's choice

-- "the lowest such dynamic index not under deletion, else a literal", and for a name "the lowest dynamic one not under deletion, else by string"
pub lowest-chosen :
    encoder_outputs 68 (put-h9 ∷ put-h9 ∷ says-h 0 0 (bytes "9") ∷ says-h 1 0 (bytes "8") ∷ []) ≡
    said-insert ∷ instruction (insert 63 (indexed_name 62) (bytes "9")) ∷ wrote (indexed 62) ∷ wrote (literal 0 (indexed_name 62) (bytes "8")) ∷ []
unfolding encoder_outputs
lowest-chosen = refl

pub deleted-not-chosen :
    encoder_outputs 68 (put-h9 ∷ delete-62 ∷ says-h 0 0 (bytes "9") ∷ says-h 1 0 (bytes "8") ∷ []) ≡
    said-insert ∷ said-delete 0 0 ∷ wrote (literal 0 (by_bytes (bytes "h")) (bytes "9")) ∷ wrote (literal 0 (by_bytes (bytes "h")) (bytes "8")) ∷ []
unfolding encoder_outputs
deleted-not-chosen = refl

-- ---- the encoder's delete

-- "the lowest from 62 that is not held". "The entry is held until its acknowledgement is read": 62 is not given back by the delete.
pub slot_kept :
    encoder_answers 102 (put-h9 ∷ delete-62 ∷ put-h9 ∷ acknowledged-62 ∷ put-h9 ∷ []) ≡ done 6 62 ∷ done 5 0 ∷ done 6 63 ∷ done 1 0 ∷ done 4 62 ∷ []
unfolding encoder_answers
slot_kept = refl

-- "A delete is written with empty lists. Each horizon is one more than the highest stream whose block of that kind refers to the entry,
-- by index or for its name, or 0 if none does."
pub horizon-none : encoder_outputs 68 (put-h9 ∷ delete-62 ∷ []) ≡ said-insert ∷ said-delete 0 0 ∷ []
unfolding encoder_outputs
horizon-none = refl

pub horizon-by-index :
    encoder_outputs 68 (put-h9 ∷ says-h 5 0 (bytes "9") ∷ delete-62 ∷ []) ≡ said-insert ∷ wrote (indexed 62) ∷ said-delete 6 0 ∷ []
unfolding encoder_outputs
horizon-by-index = refl

-- the later block refers to the entry for its name alone
pub horizon-for-name :
    encoder_outputs 68 (put-h9 ∷ says-h 5 0 (bytes "9") ∷ says-h 7 0 (bytes "8") ∷ delete-62 ∷ []) ≡
    said-insert ∷ wrote (indexed 62) ∷ wrote (literal 0 (indexed_name 62) (bytes "8")) ∷ said-delete 8 0 ∷ []
unfolding encoder_outputs
horizon-for-name = refl

-- a trailer counts in the second list, and a lower stream after a higher one changes nothing
pub horizon-trailer :
    encoder_outputs 68 (put-h9 ∷ says-h 5 0 (bytes "9") ∷ says-h 2 0 (bytes "9") ∷ says-h 2 1 (bytes "9") ∷ delete-62 ∷ []) ≡
    said-insert ∷ wrote (indexed 62) ∷ wrote (indexed 62) ∷ wrote (indexed 62) ∷ said-delete 6 3 ∷ []
unfolding encoder_outputs
horizon-trailer = refl

-- ---- the held size

-- 9: "Limit 68 takes two entries like 4, a third gives 7; limit 67 refuses the second."
pub limit-kept :
    (decoder_answers 68 (insert-h9 62 ∷ insert-h9 63 ∷ insert-h9 64 ∷ []) ≡ done 6 0 ∷ done 6 0 ∷ refusal 7 ∷ []) ×
    (decoder_answers 67 (insert-h9 62 ∷ insert-h9 63 ∷ []) ≡ done 6 0 ∷ refusal 7 ∷ []) ×
    (encoder_answers 68 (put-h9 ∷ put-h9 ∷ put-h9 ∷ []) ≡ done 6 62 ∷ done 4 63 ∷ refusal 7 ∷ []) ×
    (encoder_answers 67 (put-h9 ∷ put-h9 ∷ []) ≡ done 6 62 ∷ refusal 7 ∷ [])
unfolding decoder_answers encoder_answers
limit-kept = (refl, refl, refl, refl)

-- "The held size is the sum over all entries held, those under deletion included."
pub deleted-counted-decoder :
    decoder_answers 68 (insert-h9 62 ∷ insert-h9 63 ∷ delete-nontrailer 0 ∷ insert-h9 64 ∷ []) ≡ done 6 0 ∷ done 6 0 ∷ done 5 0 ∷ refusal 7 ∷ []
unfolding decoder_answers
deleted-counted-decoder = refl

-- the same at the encoder, where the acknowledgement frees
pub deleted-counted-encoder :
    encoder_answers 68 (put-h9 ∷ put-h9 ∷ delete-62 ∷ put-h9 ∷ acknowledged-62 ∷ put-h9 ∷ []) ≡
    done 6 62 ∷ done 4 63 ∷ done 5 0 ∷ refusal 7 ∷ done 1 0 ∷ done 4 62 ∷ []
unfolding encoder_answers
deleted-counted-encoder = refl

-- ---- what happened: the two entries of stored-whole, a delete of 62 with both lists, and 62 freed
abbrev three : List Instruction
three = insert 62 (by_bytes (bytes "turns")) (bytes "2") ∷ insert 63 (indexed_name 62) (bytes "0") ∷ delete 62 list-3-4-7 (empty_list 1) ∷ []

abbrev then-freed : List Instruction
then-freed = three ++ (acknowledge 62 ∷ [])

-- "At the decoder a slot is empty except from an insert there answered "done" to the collect that frees it."
pub empty-by-history :
    (held_after three 62 ≡ true) × (held_after three 64 ≡ false) × (held_after then-freed 62 ≡ false) × (held_after then-freed 63 ≡ true)
unfolding held_after
empty-by-history = (refl, refl, refl, refl)

-- an entry has the bytes that were inserted; a name given by index is that of the entry that stood there, and stays when that one is freed
pub entry-by-history :
    (slot_after three 62 ≡ holds (record { name = bytes "turns"; value = bytes "2" })) ×
    (slot_after three 64 ≡ vacant) ×
    (slot_after then-freed 62 ≡ vacant) ×
    (slot_after then-freed 63 ≡ holds (record { name = bytes "turns"; value = bytes "0" }))
unfolding slot_after
entry-by-history = (refl, refl, refl, refl)

-- "A delete is kept with its lists", and goes with its entry
pub deletion-by-history :
    (deletion_after three 62 ≡ some (record { index = 62; nontrailer = list-3-4-7; trailer = empty_list 1 })) ×
    (deletion_after three 63 ≡ none) ×
    (deletion_after then-freed 62 ≡ none)
unfolding deletion_after
deletion-by-history = (refl, refl, refl)

-- the deletes that were read and whose entries are not freed, in the order in which they were read
pub arrival-by-history :
    (deletes_after (three ++ (delete 63 (empty_list 0) (empty_list 0) ∷ [])) ≡
    record { index = 62; nontrailer = list-3-4-7; trailer = empty_list 1 } ∷ record { index = 63; nontrailer = empty_list 0; trailer = empty_list 0 } ∷ []) ×
    (deletes_after (three ++ (delete 63 (empty_list 0) (empty_list 0) ∷ acknowledge 62 ∷ [])) ≡
    record { index = 63; nontrailer = empty_list 0; trailer = empty_list 0 } ∷ [])
unfolding deletes_after
arrival-by-history = (refl, refl)

-- "At every moment it equals the sizes of all inserts done less the sizes of all entries freed since the start."
pub sizes-by-history :
    (sum_after added_by then-freed ≡ 76) × (sum_after removed_by three ≡ 0) × (sum_after removed_by then-freed ≡ 38)
unfolding sum_after
sizes-by-history = (refl, refl, refl)
