-- Where a machine stands (docs/RECORDINGS.md, "At the end").
use Rattle.std.specs.Prelude.{Bool, ℕ, eqb, ltb, leb, Option, Some, None}
use Rattle.memory.specs.Choice.{pick}
use Rattle.falling_hours.specs.declared.standing.Standing.{Standing}
use Rattle.falling_hours.specs.declared.falls.StreamHours.{StreamHours}
use Rattle.falling_hours.specs.declared.falls.Fall.{Fall}
use Rattle.falling_hours.specs.declared.falls.Fall.TheVariants.{Below, Above}

abbrev pub larger : ℕ → ℕ → ℕ
larger a b = pick (ltb a b) b a

-- a machine's first report
abbrev pub first_report : ℕ → StreamHours → Standing
first_report table report = record { table = table; latest = report; most = report.tenths; before = 0 }

-- "the most hours of the machine in earlier tables of the decoder"
abbrev pub most_before : Standing → ℕ → ℕ
most_before s table = pick (ltb s.table table) (larger s.before s.most) s.before

-- "of the messages whose hours were told, the one of the highest stream in the latest table, and of several on that stream the one with the most hours, whatever
-- the order in which they came"
unfoldable pub is_later : StreamHours → StreamHours → Bool
is_later one other = pick (eqb one.stream other.stream) (ltb one.tenths other.tenths) (ltb one.stream other.stream)

abbrev pub with_report : Standing → ℕ → StreamHours → Standing
with_report s table report =
    pick (ltb s.table table)
    (record { table = table; latest = report; most = report.tenths; before = larger s.before s.most })
    (record { table = s.table; latest = pick (is_later s.latest report) report s.latest; most = larger s.most report.tenths; before = s.before })

-- "one of these two, with the machine's latest report in this table": one up to the message's stream with more hours, or one above it with fewer
abbrev pub latest_fall : StreamHours → StreamHours → Option Fall
latest_fall latest report =
    pick (leb latest.stream report.stream)
    (pick (ltb report.tenths latest.tenths) (Some (Below latest)) None)
    (pick (ltb latest.tenths report.tenths) (Some (Above latest)) None)

unfoldable pub fall_from : Standing → ℕ → StreamHours → Option Fall
fall_from s table report = pick (eqb s.table table) (latest_fall s.latest report) None
