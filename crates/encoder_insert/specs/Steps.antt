-- The parts that the insert call is made of.
use Rattle.std.specs.Prelude.{List, ℕ, ◌+◌, ◌≤◌, length}
use Rattle.model.specs.Table.{vacant_from}
use Rattle.model.specs.Encoder.{sent_index, insert_at}
use Rattle.state.specs.Layout.{limit_of, held_of}
use Rattle.state.specs.EncoderState.{encoder_of, overlay_encoder}
use Rattle.reply.specs.Result.{Result, stepped}

-- an entry that fits: its insert written, and the entry put in at the lowest vacant index
abbrev pub fitting_insert : List ℕ → List ℕ → List ℕ → List ℕ → Result
fitting_insert m name value out =
    stepped overlay_encoder m out (insert_at (encoder_of m) (vacant_from sent_index 62 (encoder_of m).entries) name value (length out))

-- it keeps the limit
pub record Fitting (m name value : List ℕ) : Type 0 where
  pub name_short : length name ≤ 255
  pub value_short : length value ≤ 2047
  pub limit : held_of m + (length name + length value + 32) ≤ limit_of m
