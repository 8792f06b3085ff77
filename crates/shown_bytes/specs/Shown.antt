-- The form in which a byte of a field is printed, so that no byte can be taken for the gateway's own words (docs/RECORDINGS.md), and what that form keeps.
use Rattle.std.specs.Prelude.{ℕ, ◌+◌, ◌/◌, ◌%◌, ◌<◌, ◌≤◌, ◌≡◌, Bool, true, false, List, [], ◌∷◌, ◌++◌, eqb, ltb, length}
use Rattle.memory.specs.Choice.{pick}
use Rattle.shown_bytes.specs.Ascii.{printable}
use Rattle.shown_bytes.specs.declared.shown.Place.{Place}
use Rattle.shown_bytes.specs.declared.shown.Place.TheVariants.{Name, Edge, Inside}
use Rattle.shown_bytes.specs.declared.shown.Shown.{Shown}
use Rattle.shown_bytes.specs.declared.shown.Shown.TheVariants.{Plain, Escaped}

-- is c one of these?
unfoldable pub one_of : List ℕ → ℕ → Bool
one_of [] c = false
one_of (d ∷ ds) c = pick (eqb c d) true (one_of ds c)

-- `\`, `,` and `=`
abbrev pub escaped_always : List ℕ
escaped_always = 92 ∷ 44 ∷ 61 ∷ []

-- `:` and the space
abbrev pub escaped_outside : List ℕ
escaped_outside = 58 ∷ 32 ∷ []

abbrev pub is_inside : Place → Bool
is_inside Name = false
is_inside Edge = false
is_inside Inside = true

-- is the byte shown as it is?
unfoldable pub plain : Place → ℕ → Bool
plain place c = pick (one_of escaped_always c) false (pick (one_of escaped_outside c) (is_inside place) (printable c))

-- a digit of 0 to 15, in lower case
unfoldable pub hex_digit : ℕ → ℕ
hex_digit d = pick (ltb d 10) (48 + d) (87 + d)

-- as it is, or as `\x` and two hexadecimal digits
unfoldable pub shown_byte : Place → ℕ → List ℕ
shown_byte place c = pick (plain place c) (c ∷ []) (92 ∷ 120 ∷ hex_digit (c / 16) ∷ hex_digit (c % 16) ∷ [])

-- the bytes of what the code answers
abbrev pub bytes_of : Shown → List ℕ
bytes_of (Plain c) = c ∷ []
bytes_of (Escaped bytes) = bytes

unfoldable pub shown_name : List ℕ → List ℕ
shown_name [] = []
shown_name (c ∷ cs) = shown_byte Name c ++ shown_name cs

-- the first and the last of n bytes stand at an edge
unfoldable pub place_in : ℕ → ℕ → Place
place_in i n = pick (eqb i 0) Edge (pick (eqb (i + 1) n) Edge Inside)

-- the bytes from the place i on, of n
unfoldable pub shown_from : ℕ → ℕ → List ℕ → List ℕ
shown_from n i [] = []
shown_from n i (c ∷ cs) = shown_byte (place_in i n) c ++ shown_from n (i + 1) cs

abbrev pub shown_value : List ℕ → List ℕ
shown_value s = shown_from (length s) 0 s

-- ---- what is shown of it

-- every byte is one
abbrev pub Bytes : List ℕ → Type 0
Bytes [] = Unit {0}
Bytes (c ∷ cs) = (c < 256) × Bytes cs

-- every byte has this property
abbrev pub Every : (ℕ → Type 0) → List ℕ → Type 0
Every P [] = Unit {0}
Every P (c ∷ cs) = P c × Every P cs

-- printable ASCII, and neither `,` nor `=`
pub record Clear (c : ℕ) : Type 0 where
  pub printed : (32 ≤ c) × (c ≤ 126)
  pub no_comma : c ≡ 44 → ⊥
  pub no_equals : c ≡ 61 → ⊥

-- nor `:`, nor a space
pub record ClearName (c : ℕ) : Type 0 where
  pub clear : Clear c
  pub no_colon : c ≡ 58 → ⊥
  pub no_space : c ≡ 32 → ⊥

pub record Readable : Type 0 where
  pub name_clear : (s : List ℕ) → Bytes s → Every ClearName (shown_name s)
  pub value_clear : (s : List ℕ) → Bytes s → Every Clear (shown_value s)
  pub name_back : (s t : List ℕ) → shown_name s ≡ shown_name t → s ≡ t
  pub value_back : (s t : List ℕ) → shown_value s ≡ shown_value t → s ≡ t
