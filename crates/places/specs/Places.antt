-- Why no insert needs an answer for a full list of 128 places: an entry has at least size 32 and a limit is at most 4,096, so that 7 comes first. At both
-- ends, on every state: that the held size keeps the limit is not used.
use Rattle.std.specs.Prelude.{◌≡◌, ℕ, ◌+◌, ◌≤◌, ◌<◌, true, List, [], ◌∷◌, length, Ok}
use Rattle.integers.specs.Answers.{among, no_room}
use Rattle.integers.specs.declared.number.TableIndex.{TableIndex}
use Rattle.wire.specs.declared.name.NamePlace.{NamePlace}
use Rattle.wire.specs.declared.text.StringPlace.{StringPlace}
use Rattle.instructions.specs.Reading.{read_for_decoder}
use Rattle.instructions.specs.declared.read.InstructionPlace.TheVariants.{Insert}
use Rattle.statics.specs.Table.{Entry}
use Rattle.model.specs.Table.{size}
use Rattle.model.specs.Decoder.{Decoder, held_size}
use Rattle.model.specs.Encoder.{Encoder, sent_size}
use Rattle.state.specs.Layout.{count_of}
use Rattle.decoder.specs.Calls.{read_call}
use Rattle.encoder.specs.Calls.{insert_call}

pub record PlacesClaim : Type 0 where
  -- on the model: where an entry keeps the limit, fewer than 128 entries are held
  pub held : (D : Decoder) → D.limit ≤ 4096 → (e : Entry) → held_size D.entries + size e ≤ D.limit → length D.entries < 128
  pub sent : (E : Encoder) → E.limit ≤ 4096 → (e : Entry) → sent_size E.entries + size e ≤ E.limit → length E.entries < 128
  -- of the calls, on every memory: an insert that is done at the decoder found fewer than 128 places held
  pub read : (m s : List ℕ) (i : TableIndex) (name : NamePlace) (value : StringPlace) (taken : ℕ)
      → read_for_decoder s ≡ Ok (Insert i name value, taken) → (read_call m s).answer.number ≡ 0 → count_of m < 128
  -- and so did one at the encoder that is done or has too little room: no other answer is judged behind 7
  pub insert : (m name value out : List ℕ) → among (0 ∷ no_room ∷ []) (insert_call m name value out).answer.number ≡ true → count_of m < 128
