-- Stream lists: "A stream list is horizon, count, deltas, all with 8-bit prefixes. It names every stream below the horizon and each listed one.
-- The first delta counts from the horizon, each other from the stream before it."
use Rattle.std.specs.Prelude.{◌≡◌, ℕ, zero, suc, ◌+◌, ◌-◌, ◌<◌, ◌≤◌, Bool, true, false, List, [], ◌∷◌, ◌++◌, length, ltb, leb, eqb}
use Rattle.memory.specs.Choice.{pick, need}
use Rattle.integers.specs.Answers.{Answer, done, refusal, number_of, Read, read_answer, on_read}
use Rattle.integers.specs.Integer.{last_stream, read_int, on_int, int_wire}
use Rattle.stream_lists.specs.declared.stream_list.ListPlace.{ListPlace}
use Rattle.std.specs.Prelude.{Result, Ok, Err}
use Rattle.integers.specs.declared.answer.Refusal.{Refusal}
use Rattle.integers.specs.declared.answer.Refusal.TheVariants.{BadStreamList}
use Rattle.integers.specs.declared.number.StreamNumber.{StreamNumber}

-- a list: the horizon and the listed streams, ascending
pub record StreamList : Type 0 where
  pub horizon : ℕ
  pub streams : List ℕ

-- is the stream x among those listed?
unfoldable pub listed : List ℕ → ℕ → Bool
listed [] x = false
listed (y ∷ ys) x = pick (eqb x y) true (listed ys x)

-- "It names every stream below the horizon and each listed one."
unfoldable pub names : StreamList → ℕ → Bool
names l x = pick (ltb x l.horizon) true (listed l.streams x)

-- what is answered: the stream, or the end of the deltas, or the horizon, and the place after it are told
abbrev pub delta_answer : Read StreamNumber → Answer
delta_answer r = read_answer (λ x next. done x.value next) r

abbrev pub deltas_answer : Result ℕ Refusal → Answer
deltas_answer (Ok next) = done next 0
deltas_answer (Err why) = refusal (number_of why)

abbrev pub list_answer : Read ListPlace → Answer
list_answer r = read_answer (λ p next. done p.horizon next) r

-- what follows each, or the refusal passed on at once
abbrev pub on_delta {ℓ} : {X : Type ℓ} → (Refusal → X) → Read StreamNumber → (ℕ → ℕ → X) → X
on_delta refused r f = on_read refused r (λ x next. f x.value next)

abbrev pub on_deltas {ℓ} : {X : Type ℓ} → (Refusal → X) → Result ℕ Refusal → (ℕ → X) → X
on_deltas refused (Ok next) f = f next
on_deltas refused (Err why) f = refused why

-- "Horizon at most 4,096, count at most 16"
abbrev pub horizon_limit : ℕ
horizon_limit = 4096

abbrev pub count_limit : ℕ
count_limit = 16

-- the delta at the place at, counted from last: "deltas at least 1, listed streams at most 4,095; else 14"
unfoldable pub read_delta : List ℕ → ℕ → ℕ → Read StreamNumber
read_delta s at last =
    on_int Err (read_int 8 s at) (λ delta next.
    need (ltb 0 delta) (Err BadStreamList)
    (need (leb (last + delta) last_stream) (Err BadStreamList)
    (Ok (record { value = last + delta }, next))))

-- n deltas from the place at on, each from the stream before it
unfoldable pub read_deltas : ℕ → List ℕ → ℕ → ℕ → Result ℕ Refusal
read_deltas zero s at last = Ok at
read_deltas (suc n) s at last = on_delta Err (read_delta s at last) (λ stream next. read_deltas n s next stream)

-- the streams that n deltas from the place at on list
unfoldable pub streams_from : ℕ → List ℕ → ℕ → ℕ → List ℕ
streams_from zero s at last = []
streams_from (suc n) s at last = on_delta (λ why. []) (read_delta s at last) (λ stream next. stream ∷ streams_from n s next stream)

-- the list at a place of s
abbrev pub list_of : List ℕ → ListPlace → StreamList
list_of s p = record { horizon = p.horizon; streams = streams_from p.count s p.deltas p.horizon }

-- the horizon and the count are each judged before what follows it is looked for
unfoldable pub read_list : List ℕ → ℕ → Read ListPlace
read_list s at =
    on_int Err (read_int 8 s at) (λ horizon after.
    need (leb horizon horizon_limit) (Err BadStreamList)
    (on_int Err (read_int 8 s after) (λ count deltas.
    need (leb count count_limit) (Err BadStreamList)
    (on_deltas Err (read_deltas count s deltas horizon) (λ next.
    Ok (record { horizon = horizon; count = count; deltas = deltas }, next))))))

-- the place lies in s, and its deltas can be read there again
pub record InList (s : List ℕ) (p : ListPlace) : Type 0 where
  pub near : p.horizon ≤ horizon_limit
  pub few : p.count ≤ count_limit
  pub end : ℕ
  pub within : end ≤ length s
  pub deltas : read_deltas p.count s p.deltas p.horizon ≡ Ok end

-- streams that can be listed after last: strictly ascending
abbrev pub Fits : ℕ → List ℕ → Type 0
Fits last [] = Unit {0}
Fits last (x ∷ xs) = (last < x) × (x ≤ last_stream) × Fits x xs

-- the bytes that say the deltas, and the list
unfoldable pub deltas_wire : ℕ → List ℕ → List ℕ
deltas_wire last [] = []
deltas_wire last (x ∷ xs) = int_wire 8 0 (x - last) ++ deltas_wire x xs

unfoldable pub list_wire : ℕ → List ℕ → List ℕ
list_wire horizon streams = int_wire 8 0 horizon ++ (int_wire 8 0 (length streams) ++ deltas_wire horizon streams)
