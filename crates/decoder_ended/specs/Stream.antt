-- The stream of which a host says that a part is over, or all of it.
use Rattle.std.specs.Prelude.{ℕ, List, ltb, Result, Ok, Err}
use Rattle.memory.specs.Choice.{need}
use Rattle.integers.specs.declared.answer.Refusal.{Refusal}
use Rattle.integers.specs.declared.answer.Refusal.TheVariants.{NoState, OutOfTurn}
use Rattle.integers.specs.declared.number.StreamNumber.{StreamNumber}
use Rattle.model.specs.Parts.{streams}
use Rattle.state.specs.Forms.{forms_decoder}

-- 17, and then 11 for a "stream above 4,095"
abbrev pub stream_named : List ℕ → ℕ → Result StreamNumber Refusal
stream_named m stream = need (forms_decoder m) (Err NoState) (need (ltb stream streams) (Err OutOfTurn) (Ok (record { value = stream })))
