-- Whether the hours of a message can be told at all (docs/RECORDINGS.md, "Hours", 1 and 2): the first reason against it.
use Rattle.std.specs.Prelude.{Bool, List, ℕ, Option, Some, None}
use Rattle.memory.specs.Choice.{pick}
use Rattle.link_events.specs.declared.ends.Ends.{Ends}
use Rattle.link_events.specs.Ends.{broken_line}
use Rattle.link_notes.specs.declared.notes.Part.{Part}
use Rattle.link_notes.specs.Notes.{place_of, half_of, as_written}
use Rattle.link_notes.specs.Parts.{is_noted}
use Rattle.link_notes.specs.Sums.{block_of}
use Rattle.link_state.specs.declared.doubt.Doubt.{Doubt}
use Rattle.link_state.specs.declared.doubt.Doubt.TheVariants.{Broken, NotAsWritten}

-- "The link is not broken: else `link broken at line LINE`."
abbrev pub on_link : Option ℕ → Option Doubt → Option Doubt
on_link None rest = rest
on_link (Some line) rest = Some (Broken line)

-- "Then the encoder must have written these bytes, on this stream and part and in its table of the same number as the decoder's, from the very list of
-- fields that the decoder gave": `found` says whether it is noted so
abbrev pub on_table : ℕ → ℕ → Bool → Option Doubt
on_table decoder encoder found = pick (as_written decoder encoder found) None (Some (NotAsWritten decoder))

unfoldable pub doubt_of : Ends → List Part → ℕ → ℕ → List ℕ → List ℕ → Option Doubt
doubt_of ends notes stream part block given =
    on_link (broken_line ends.decoder.broken ends.encoder.broken)
    (on_table ends.decoder.table ends.encoder.table
    (is_noted notes (half_of ends.decoder.table) (place_of stream part) (block_of block given)))
