-- Names in inserts and literals: "name index (k-bit prefix; 0 means a name string follows)".
use Rattle.std.specs.Prelude.{ℕ, ◌<◌, ◌≤◌, List, ◌++◌, length, eqb}
use Rattle.memory.specs.Choice.{pick}
use Rattle.integers.specs.Answers.{Answer, done, Read, read_answer, on_read}
use Rattle.integers.specs.Integer.{largest, read_int, on_int, int_wire}
use Rattle.wire.specs.Text.{InString, string_length, string_bytes, read_string, string_wire, name_limit}
use Rattle.wire.specs.declared.name.NamePlace.{NamePlace}
use Rattle.wire.specs.declared.name.NamePlace.TheVariants.{Index, Text}
use Rattle.std.specs.Prelude.{Ok, Err}

-- a name: by an index of the tables, or by its bytes
pub data Name : Type 0 where
  indexed : ℕ → Name
  literal : List ℕ → Name

-- what can be said on the wire: an index is not 0, a name has at most 255 bytes
abbrev pub FineName : Name → Type 0
FineName (indexed i) = (0 < i) × (i ≤ largest)
FineName (literal xs) = length xs ≤ name_limit

-- the name that stands at a place of s
abbrev pub name_of : List ℕ → NamePlace → Name
name_of s (Index i) = indexed i.value
name_of s (Text p) = literal (string_bytes s p)

-- the place lies in s: an index is not 0, a string is one of a name's
abbrev pub GoodName : List ℕ → NamePlace → Type 0
GoodName s (Index i) = (0 < i.value) × (i.value ≤ largest)
GoodName s (Text p) = InString s p × (string_length s p ≤ name_limit)

-- what is answered: the place after the name is told
abbrev pub name_answer : Read NamePlace → Answer
name_answer r = read_answer (λ p next. done next 0) r

-- the name at the place at, whose index has a prefix of k bits
unfoldable pub read_name : ℕ → List ℕ → ℕ → Read NamePlace
read_name k s at =
    on_int Err (read_int k s at) (λ index next.
    pick (eqb index 0)
    (on_read Err (read_string s next name_limit) (λ p after. Ok (Text p, after)))
    (Ok (Index (record { value = index }), next)))

-- the bytes that say a name, below the bits top of the first byte
unfoldable pub name_wire : ℕ → ℕ → Name → List ℕ
name_wire k top (indexed i) = int_wire k top i
name_wire k top (literal xs) = int_wire k top 0 ++ string_wire xs
