-- Hours that fall (docs/RECORDINGS.md, "Hours"): "Hours fall where a later table, a higher stream of the same table, or a later message of the
-- same stream has fewer hours."
use Rattle.std.specs.Prelude.{Bool, true, false, List, ℕ, zero, suc, ◌+◌, ◌-◌, eqb, ltb, get_or, Option, Some, None}
use Rattle.memory.specs.Choice.{pick}
use Rattle.falling_hours.specs.declared.falls.Report.{Report}
use Rattle.falling_hours.specs.declared.falls.StreamHours.{StreamHours}
use Rattle.falling_hours.specs.declared.falls.Fall.{Fall}
use Rattle.falling_hours.specs.declared.falls.Fall.TheVariants.{BeforeStart, Below, Above}

-- a report of the machine with more tenths, or with fewer
abbrev pub is_apart : ℕ → ℕ → Bool → Report → Bool
is_apart machine tenths more r =
    pick (eqb r.machine machine)
    (pick more (ltb tenths r.tenths) (ltb r.tenths tenths))
    false

-- the report of a stream, if it is one that is looked for; else what the streams behind it have
abbrev pub on_stream : (Report → Bool) → ℕ → Option Report → Option StreamHours → Option StreamHours
on_stream test at None rest = rest
on_stream test at (Some r) rest = pick (test r) (Some (record { stream = at; tenths = r.tenths })) rest

-- the lowest of n streams from a place on with such a report
unfoldable pub lowest_from : List (Option Report) → (Report → Bool) → ℕ → ℕ → Option StreamHours
lowest_from l test zero at = None
lowest_from l test (suc n) at = on_stream test at (get_or l at None) (lowest_from l test n (at + 1))

abbrev pub on_above : Option StreamHours → Option Fall
on_above (Some found) = Some (Above found)
on_above None = None

abbrev pub on_below : Option StreamHours → Option StreamHours → Option Fall
on_below (Some found) above = Some (Below found)
on_below None above = on_above above

-- "The first of these that applies is told": before the start, below, above
abbrev pub fall_of : ℕ → ℕ → Option StreamHours → Option StreamHours → Option Fall
fall_of before tenths below above = pick (ltb tenths before) (Some (BeforeStart before)) (on_below below above)

-- "the lowest stream up to its own that has more hours"; "the lowest stream above the message's that has fewer hours"
unfoldable pub fall_at : List (Option Report) → ℕ → ℕ → ℕ → ℕ → Option Fall
fall_at l machine before stream tenths =
    fall_of before tenths
    (lowest_from l (is_apart machine tenths true) (stream + 1 - 0) 0)
    (lowest_from l (is_apart machine tenths false) (4096 - (stream + 1)) (stream + 1))
