-- Numbers on the wire (RFC 7541, 5.1): "A prefix of all ones is followed by groups of seven bits, low group first, top bit set when
-- another follows. The value is the prefix plus the groups." Stated over the prefix width k, any from 1 to 8.
use Rattle.std.specs.Prelude.{◌≡◌, ℕ, zero, suc, ◌+◌, ◌-◌, ◌*◌, ◌/◌, ◌%◌, ◌^◌, ◌≤◌, ◌<◌, Bool, false, List, [], ◌∷◌, length, get_or, ltb, leb, eqb, Ok, Err, Option, Some, None}
use Rattle.memory.specs.Choice.{pick, need}
use Rattle.memory.specs.Bytes.{Small}
use Rattle.integers.specs.Answers.{Answer, done, Read, read_answer, on_read}
use Rattle.integers.specs.declared.answer.Refusal.{Refusal}
use Rattle.integers.specs.declared.answer.Refusal.TheVariants.{Truncated, TooLarge, Padded}
use Rattle.integers.specs.declared.integer.WireInt.{WireInt}

-- "values up to 134,217,727 (2^27 − 1)"
abbrev pub largest : ℕ
largest = 134217727

-- "A message stream, 0 to 4,095"
abbrev pub last_stream : ℕ
last_stream = 4095

-- what is answered: the value and the place after it are told
abbrev pub int_answer : Read WireInt → Answer
int_answer r = read_answer (λ n next. done n.value next) r

-- what follows a number and the place after it, or the refusal passed on at once
abbrev pub on_int {ℓ} : {X : Type ℓ} → (Refusal → X) → Read WireInt → (ℕ → ℕ → X) → X
on_int refused r f = on_read refused r (λ n next. f n.value next)

-- a number that was read, with the place after it
abbrev pub value : ℕ → ℕ → Read WireInt
value v next = Ok (record { value = v }, next)

-- "A wire integer whose last group is zero, and is not its only group": the group b that weighs w, and the first group weighs 1
abbrev pub is_padded : ℕ → ℕ → Bool
is_padded b w = pick (eqb b 0) (ltb 1 w) false

-- at an integer's end, after its last group b that weighs w: "the finished value is too large" is 3, then padded is 19
abbrev pub finished : ℕ → ℕ → ℕ → ℕ → Read WireInt
finished b w v next =
    need (leb v largest) (Err TooLarge)
    (pick (is_padded b w) (Err Padded)
    (value v next))

-- at most n groups from the place at, above the value v; the group there weighs w.
-- "If the fourth group says another follows .. the answer is 3. If bytes run out earlier, it is 2."
unfoldable pub groups : ℕ → List ℕ → ℕ → ℕ → ℕ → Read WireInt
groups zero s at v w = Err TooLarge
groups (suc n) s at v w =
    pick (ltb at (length s))
    (pick (ltb (get_or s at 0) 128)
    (finished (get_or s at 0) w (v + get_or s at 0 % 128 * w) (at + 1))
    (groups n s (at + 1) (v + get_or s at 0 % 128 * w) (w * 128)))
    (Err Truncated)

-- the integer at the place at whose prefix is the low k bits of the byte there
unfoldable pub read_int : ℕ → List ℕ → ℕ → Read WireInt
read_int k s at =
    pick (ltb at (length s))
    (pick (ltb (get_or s at 0 % 2 ^ k) (2 ^ k - 1))
    (value (get_or s at 0 % 2 ^ k) (at + 1))
    (groups 4 s (at + 1) (get_or s at 0 % 2 ^ k) 1))
    (Err Truncated)

-- "A wire integer whose last group is zero, and is not its only group": at the place at a prefix of all ones, then one to three groups with the top
-- bit set, then a zero byte, all of them in s, whatever stands behind
pub record PaddedInt (k : ℕ) (s : List ℕ) (at : ℕ) : Type 0 where
  pub ones : get_or s at 0 % 2 ^ k ≡ 2 ^ k - 1
  pub before : ℕ
  pub not_only : 1 ≤ before
  pub few : before ≤ 3
  pub follow : (i : ℕ) → i < before → 128 ≤ get_or s (at + 1 + i) 0
  pub last : get_or s (at + 1 + before) 0 ≡ 0
  pub inside : at + 1 + before < length s

-- the integer exactly where it takes one byte or two: the prefix alone, or a prefix of all ones and one group
unfoldable pub short_int_at : ℕ → List ℕ → ℕ → Option (WireInt × ℕ)
short_int_at k s at =
    need (ltb at (length s)) None
    (pick (ltb (get_or s at 0 % 2 ^ k) (2 ^ k - 1))
    (Some (record { value = get_or s at 0 % 2 ^ k }, at + 1))
    (need (ltb (at + 1) (length s)) None
    (need (ltb (get_or s (at + 1) 0) 128) None
    (Some (record { value = get_or s at 0 % 2 ^ k + get_or s (at + 1) 0 }, at + 1 + 1)))))

-- what follows a short number and the place after it, or what is said where none stands there
abbrev pub on_short_int {ℓ} : {X : Type ℓ} → X → Option (WireInt × ℕ) → (ℕ → ℕ → X) → X
on_short_int other (Some found) f = f found.0.value found.1
on_short_int other None f = other

-- r in groups of seven bits, low group first, in at most n + 1 groups
unfoldable pub group_wire : ℕ → ℕ → List ℕ
group_wire zero r = r ∷ []
group_wire (suc n) r = pick (ltb r 128) (r ∷ []) ((r % 128 + 128) ∷ group_wire n (r / 128))

-- "The writer uses the fewest bytes": v with a prefix of k bits, below the bits top of the first byte
unfoldable pub int_wire : ℕ → ℕ → ℕ → List ℕ
int_wire k top v =
    pick (ltb v (2 ^ k - 1)) ((top + v) ∷ []) ((top + (2 ^ k - 1)) ∷ group_wire 3 (v - (2 ^ k - 1)))

-- s is an accepted form of v: bytes with `top` above the prefix of k bits in the first, which are read as v, and no byte is left
pub record IntForm (k top v : ℕ) (s : List ℕ) : Type 0 where
  pub bytes : Small s
  pub above : (top ≤ get_or s 0 0) × (get_or s 0 0 < top + 2 ^ k)
  pub reads : read_int k s 0 ≡ value v (length s)
