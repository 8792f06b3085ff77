-- The parts that an insert at the decoder is made of.
use Rattle.std.specs.Prelude.{ℕ, ◌+◌, List, [], leb, Ok, Err}
use Rattle.std.specs.Prelude as std
use Rattle.std.proofs.Math.Option.{some}
use Rattle.memory.specs.Choice.{need}
use Rattle.integers.specs.Answers.{number_of}
use Rattle.integers.specs.declared.answer.Refusal.{Refusal}
use Rattle.integers.specs.declared.answer.Refusal.TheVariants.{Held, OverLimit}
use Rattle.wire.specs.Name.{indexed}
use Rattle.model.specs.Decoder.{lookup, name_bytes, insert_named}
use Rattle.state.specs.Layout.{limit_of, held_of, count_of}
use Rattle.state.specs.DecoderState.{decoder_of, overlay_decoder}
use Rattle.table_search.specs.Search.{find_from}
use Rattle.reply.specs.Result.{Result, stepped}

-- an insert whose name is known, done on memory that forms a state
abbrev pub named_insert : List ℕ → ℕ → List ℕ → List ℕ → ℕ → Result
named_insert m index name value taken = stepped overlay_decoder m [] (insert_named (decoder_of m) index value taken (some name))

-- an insert whose name is given by index
abbrev pub indexed_insert : List ℕ → ℕ → ℕ → List ℕ → ℕ → Result
indexed_insert m index named value taken =
    stepped overlay_decoder m [] (insert_named (decoder_of m) index value taken (name_bytes (lookup (decoder_of m)) (indexed named)))

-- insert .. 6, 7: where an entry of this size goes, or the refusal
abbrev pub judge_found : List ℕ → ℕ → std.Result ℕ ℕ → std.Result ℕ Refusal
judge_found m size (Ok place) = Err Held
judge_found m size (Err place) = need (leb (held_of m + size) (limit_of m)) (Err OverLimit) (Ok place)

unfoldable pub judged : List ℕ → ℕ → ℕ → std.Result ℕ Refusal
judged m index size = judge_found m size (find_from m index (count_of m) 0)

abbrev pub judged_number : std.Result ℕ Refusal → ℕ
judged_number (Ok place) = 0
judged_number (Err why) = number_of why
