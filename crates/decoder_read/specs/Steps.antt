-- The delete that the read call keeps.
use Rattle.std.specs.Prelude.{ℕ, List, []}
use Rattle.model.specs.Parts.{Delete}
use Rattle.model.specs.Decoder.{delete_entry}
use Rattle.state.specs.DecoderState.{decoder_of, overlay_decoder}
use Rattle.reply.specs.Result.{Result, stepped}

-- done on memory that forms a state
abbrev pub kept_delete : List ℕ → Delete → ℕ → Result
kept_delete m d taken = stepped overlay_decoder m [] (delete_entry (decoder_of m) d taken)
