-- The tables of both ends, and the line at which one broke (docs/RECORDINGS.md, "Hours").
use Rattle.std.specs.Prelude.{ℕ, ◌+◌, eqb, ltb, Option, Some, None}
use Rattle.memory.specs.Choice.{pick}
use Rattle.link_events.specs.declared.events.Side.{Side}
use Rattle.link_events.specs.declared.events.Side.TheVariants.{Decoder, Encoder}
use Rattle.link_events.specs.declared.events.Role.{Role}
use Rattle.link_events.specs.declared.events.Event.{Event}
use Rattle.link_events.specs.declared.events.Event.TheVariants.{Started, LeftOver, CutShort, Refused}
use Rattle.link_events.specs.declared.ends.End.{End}
use Rattle.link_events.specs.declared.ends.Ends.{Ends}
use Rattle.link_events.specs.Events.{refusal_breaks, is_faulty}

-- an end before its first start
abbrev pub fresh : End
fresh = record { table = 0; broken = None }

-- counts stop at the largest number of 64 bits
abbrev pub one_more : ℕ → ℕ
one_more n = pick (ltb n 18446744073709551615) (n + 1) n

-- "The tables of each end are numbered from 1, by its starts that are done." "It stays broken at an end up to the next start of that end that is done."
abbrev pub started_anew : End → End
started_anew e = record { table = one_more e.table; broken = None }

-- "the lines at which each broke first": a link that is broken stays broken where it was. Lines are counted from 1, so none breaks at 0
abbrev pub first_line : Option ℕ → ℕ → Option ℕ
first_line None line = pick (eqb line 0) None (Some line)
first_line (Some first) line = Some first

abbrev pub broken_at : End → ℕ → End
broken_at e line = record { table = e.table; broken = first_line e.broken line }

-- "A refused start, a `decoder read` or `encoder acknowledge` refused with another number than 2, and one with bytes left over break the link"
abbrev pub after_event : End → Role → Option Event → ℕ → End
after_event e role None line = e
after_event e role (Some Started) line = started_anew e
after_event e role (Some (LeftOver left)) line = broken_at e line
after_event e role (Some CutShort) line = e
after_event e role (Some Refused) line = pick (refusal_breaks role) (broken_at e line) e

-- "break the link at their end": the other end stays as it is
abbrev pub after_call : Ends → Side → Role → Option Event → ℕ → Ends
after_call l Decoder role event line = record { decoder = after_event l.decoder role event line; encoder = l.encoder }
after_call l Encoder role event line = record { decoder = l.decoder; encoder = after_event l.encoder role event line }

-- "Where both ends are broken, the lower of the lines at which each broke first is told."
abbrev pub broken_line : Option ℕ → Option ℕ → Option ℕ
broken_line None b = b
broken_line (Some a) None = Some a
broken_line (Some a) (Some b) = Some (pick (ltb a b) a b)

-- "a bad line breaks it at the decoder"
abbrev pub after_bad_line : Ends → ℕ → Ends
after_bad_line l line = record { decoder = broken_at l.decoder line; encoder = l.encoder }

-- "and so does a block offered to it that is refused as faulty"; "A block that is refused with 11, 12 or 17, or told to wait, breaks nothing"
abbrev pub after_block : Ends → ℕ → ℕ → Ends
after_block l answer line = pick (is_faulty answer) (after_bad_line l line) l
