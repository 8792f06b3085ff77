-- The references of a written block entered: "Each horizon is one more than the highest stream whose block of that kind refers to the entry".
use Rattle.std.specs.Prelude.{ℕ, ◌≤◌, ◌≡◌, true, List, map, ltb}
use Rattle.memory.specs.Choice.{pick}
use Rattle.wire.specs.Name.{indexed as by_index, literal as by_bytes}
use Rattle.blocks.specs.Representation.{Representation, indexed, literal}
use Rattle.blocks.specs.Meaning.{Refers}
use Rattle.model.specs.Table.{look}
use Rattle.model.specs.Parts.{Part}
use Rattle.model.specs.Decoder.{is_some}
use Rattle.model.specs.Encoder.{Sent, sent_index, with_sent, refer}
use Rattle.state.specs.Layout.{count_of}
use Rattle.state.specs.EncoderState.{encoder_of, overlay_encoder}
use Rattle.table_search.specs.Search.{find_from}
use Rattle.horizons.specs.Horizons.{raised}
use Rattle.encoder_fields.specs.declared.choice.Choice.{Choice}
use Rattle.encoder_fields.specs.declared.choice.Choice.TheVariants.{Indexed, Named, Literal}
use Rattle.std.specs.Prelude.{Result, Ok, Err}

-- every index that the block names is a static one, or held
abbrev pub AllHeld : List Sent → List Representation → Type 0
AllHeld l rs = (i : ℕ) → Refers rs i → 62 ≤ i → is_some (look sent_index i l) ≡ true

-- memory with the block's references entered
unfoldable pub entered : List ℕ → ℕ → Part → List Representation → List ℕ
entered m stream part rs = overlay_encoder (with_sent (encoder_of m) (map (refer stream part rs) (encoder_of m).entries)) m

-- the horizon of the row that was found raised
abbrev pub entered_at : List ℕ → ℕ → Part → Result ℕ ℕ → List ℕ
entered_at m stream part (Ok place) = raised m place part stream
entered_at m stream part (Err place) = m

-- one of them: static entries have no horizon
unfoldable pub entered_one : List ℕ → ℕ → Part → ℕ → List ℕ
entered_one m stream part index = pick (ltb index 62) m (entered_at m stream part (find_from m index (count_of m) 0))

-- that of a representation, if it names an index
abbrev pub entered_by : List ℕ → ℕ → Part → Representation → List ℕ
entered_by m stream part (indexed i) = entered_one m stream part i
entered_by m stream part (literal flag (by_index i) value) = entered_one m stream part i
entered_by m stream part (literal flag (by_bytes name) value) = m

-- that of a choice
abbrev pub entered_choice : List ℕ → ℕ → Part → Choice → List ℕ
entered_choice m stream part (Indexed i) = entered_one m stream part i.value
entered_choice m stream part (Named i) = entered_one m stream part i.value
entered_choice m stream part Literal = m
