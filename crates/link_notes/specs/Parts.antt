-- What is noted of all parts.
use Rattle.std.specs.Prelude.{Bool, false, not, List, [], ◌∷◌, ℕ, ltb, get_or, set, map, Option, Some, None}
use Rattle.memory.specs.Choice.{pick}
use Rattle.link_notes.specs.declared.sums.Block.{Block}
use Rattle.link_notes.specs.declared.notes.Part.{Part}
use Rattle.link_notes.specs.Sums.{no_block}
use Rattle.link_notes.specs.Notes.{pushed, has_sum, has_other, has, added, dropped, any_sum}

-- four numbers, and four blocks, of which none is noted
abbrev pub none_waiting : List ℕ
none_waiting = 0 ∷ 0 ∷ 0 ∷ 0 ∷ []

abbrev pub none_written : List Block
none_written = no_block ∷ no_block ∷ no_block ∷ no_block ∷ []

-- a part of which nothing is noted
abbrev pub fresh_part : Part
fresh_part = record { written = none_written ∷ none_written ∷ []; waiting = none_waiting }

-- there is no part behind the last one
abbrev pub no_part : Part
no_part = record { written = []; waiting = [] }

abbrev pub with_waiting : List ℕ → Part → Part
with_waiting l p = record { written = p.written; waiting = l }

abbrev pub with_written : ℕ → List Block → Part → Part
with_written half l p = record { written = set p.written half l; waiting = p.waiting }

-- the blocks of a part in one of the two tables
abbrev pub written_in : ℕ → Part → List Block
written_in half p = get_or p.written half []

-- one part is changed
abbrev pub changed : List Part → ℕ → (Part → Part) → List Part
changed l at f = set l at (f (get_or l at no_part))

-- a block is noted for a part; a part without a place changes nothing
abbrev pub noted : List Part → ℕ → Option ℕ → Block → List Part
noted l half (Some at) b = changed l at (λ p. with_written half (pushed (written_in half p) b) p)
noted l half None b = l

-- "the encoder must have written these bytes .. from the very list of fields that the decoder gave", and from no other
abbrev pub as_noted : List Block → Block → Bool
as_noted l b = pick (has_sum l b.sum) (not (has_other l b)) false

abbrev pub is_noted : List Part → ℕ → Option ℕ → Block → Bool
is_noted l half (Some at) b = as_noted (written_in half (get_or l at no_part)) b
is_noted l half None b = false

-- a table of the encoder begins: nothing is written in it yet
unfoldable pub begun : List Part → ℕ → List Part
begun l half = map (with_written half none_written) l

-- a block that waits is noted once; one that is done or refused waits no more, and none of a part that is over
abbrev pub waits : List Part → Option ℕ → ℕ → List Part
waits l (Some at) n = changed l at (λ p. with_waiting (pick (has p.waiting n) p.waiting (added p.waiting n)) p)
waits l None n = l

abbrev pub answered : List Part → Option ℕ → ℕ → List Part
answered l (Some at) n = changed l at (λ p. with_waiting (dropped p.waiting n) p)
answered l None n = l

abbrev pub none_waits : List Part → Option ℕ → List Part
none_waits l (Some at) = changed l at (with_waiting none_waiting)
none_waits l None = l

unfoldable pub forgotten : List Part → List Part
forgotten l = map (with_waiting none_waiting) l

-- does a block of the part at this place wait?
abbrev pub is_waiting : List Part → ℕ → Bool
is_waiting l at = pick (ltb at 8192) (any_sum (get_or l at no_part).waiting) false
