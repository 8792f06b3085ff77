-- The places of the static table: each cuts its entry's name and value out of the static text. That is a law of every list of entries. That
-- names and values are short, and of bytes, is a computed test.
use mathlib.Core.Path.{◌≡◌, refl, sym, subst}
use mathlib.Core.Bool.{Bool, true, false}
use Prim.Native.Nat.{ℕ, zero, suc, ◌+◌, ◌-◌, ◌≤◌, ◌<◌}
use native.Mathlib.Nat.{le_of_suc-le-suc, not-suc-le-zero}
use native.Mathlib.Omega.{arith}
use mathlib.Core.List.{List, [], ◌∷◌}
use lib.Dec.{T, leb, ltb, leb→le, ltb→lt}
use lib.ListN.{length, get_or}
use Rattle.memory.specs.Bytes.{part, Small}
use Rattle.memory.proofs.Order.{split}
use Rattle.statics.specs.Table.{Entry, entries, entry_at, text_of, static_text, static_name, static_value, place_of}
use Rattle.statics.specs.declared.table.StaticPlace.{StaticPlace}
use Rattle.statics.proofs.Entries.{Stands, stands}

-- ---- places

pub text-length : length static_text ≡ 684
unfolding static_text text_of entries
text-length = refl

-- the entry with index i stands at its place
pub entry-stands : (i : ℕ) → 1 ≤ i → i ≤ 61 → Stands static_text (place_of i) (entry_at i)
unfolding static_text place_of entry_at entries
entry-stands i lo hi = stands entries [] (i - 1) _ (omega arith)

-- the same, of a text and a place that a function has
pub place-stands : {text : List ℕ} {p : StaticPlace} (i : ℕ) → text ≡ static_text → p ≡ place_of i → (1 ≤ i) × (i ≤ 61)
    → Stands text p (entry_at i)
place-stands {text} {p} i t e h =
    subst (λ (l : List ℕ). Stands l p (entry_at i)) (sym t)
    (subst (λ (q : StaticPlace). Stands static_text q (entry_at i)) (sym e) (entry-stands i h.0 h.1))

module _ (i : ℕ) (lo : 1 ≤ i) (hi : i ≤ 61) where
  pub name-part : part static_text (place_of i).start (place_of i).name ≡ static_name i
  name-part = (entry-stands i lo hi).name

  pub value-part : part static_text ((place_of i).start + (place_of i).name) (place_of i).value ≡ static_value i
  value-part = (entry-stands i lo hi).value

  pub name_length : length (static_name i) ≡ (place_of i).name
  name_length = (entry-stands i lo hi).name_length

  pub value_length : length (static_value i) ≡ (place_of i).value
  value_length = (entry-stands i lo hi).value_length

  pub place_end : (place_of i).start + (place_of i).name + (place_of i).value ≤ 684
  place_end = subst (λ (n : ℕ). (place_of i).start + (place_of i).name + (place_of i).value ≤ n) text-length (entry-stands i lo hi).end

-- ---- sizes

abbrev pub both : Bool → Bool → Bool
both true b = b
both false b = false

pub both_left : (a b : Bool) → T (both a b) → T a
both_left true b t = tt
both_left false b t = t

pub both_right : (a b : Bool) → T (both a b) → T b
both_right true b t = t
both_right false b t = absurd t

abbrev pub every : {A : Type 0} → (A → Bool) → List A → Bool
every f [] = true
every f (x ∷ xs) = both (f x) (every f xs)

every-at : {A : Type 0} (f : A → Bool) (d : A) (xs : List A) → T (f d) → T (every f xs) → (k : ℕ) → T (f (get_or xs k d))
every-at f d [] h t k = h
every-at f d (x ∷ xs) h t zero = both_left (f x) (every f xs) t
every-at f d (x ∷ xs) h t (suc k) = every-at f d xs h (both_right (f x) (every f xs) t) k

-- an element that there is
pub every_in : {A : Type 0} (f : A → Bool) (d : A) (xs : List A) → T (every f xs) → (k : ℕ) → k < length xs → T (f (get_or xs k d))
every_in f d [] t k h = absurd (not-suc-le-zero h)
every_in f d (x ∷ xs) t zero h = both_left (f x) (every f xs) t
every_in f d (x ∷ xs) t (suc k) h = every_in f d xs (both_right (f x) (every f xs) t) k (le_of_suc-le-suc h)

-- numbers below n, tested one by one
abbrev pub below : (ℕ → Bool) → ℕ → Bool
below f zero = true
below f (suc n) = both (f n) (below f n)

pub below_at : (f : ℕ → Bool) (n k : ℕ) → T (below f n) → k < n → T (f k)
below_at f zero k t h = absurd (omega arith)
below_at f (suc n) k t h =
    split k n (λ l. below_at f n k (both_right (f n) (below f n) t) l)
    (λ l. let e : n ≡ k = omega arith in subst (λ (i : ℕ). T (f i)) e (both_left (f n) (below f n) t))

-- a list of at most 255 bytes
abbrev short : List ℕ → Bool
short l = both (leb (length l) 255) (every (λ (b : ℕ). ltb b 256) l)

abbrev short_entry : Entry → Bool
short_entry e = both (short e.name) (short e.value)

short-length : (l : List ℕ) → T (short l) → length l ≤ 255
short-length l t = leb→le (length l) 255 (both_left (leb (length l) 255) (every (λ (b : ℕ). ltb b 256) l) t)

short-small : (l : List ℕ) → T (short l) → Small l
short-small l t k =
    ltb→lt (get_or l k 0) 256
    (every-at (λ (b : ℕ). ltb b 256) 0 l tt (both_right (leb (length l) 255) (every (λ (b : ℕ). ltb b 256) l) t) k)

short-at : (i : ℕ) → T (short_entry (entry_at i))
unfolding entry_at entries
short-at i = every-at short_entry _ entries tt tt (i - 1)

module _ (i : ℕ) where
  name_short : T (short (static_name i))
  name_short = both_left (short (static_name i)) (short (static_value i)) (short-at i)

  value_short : T (short (static_value i))
  value_short = both_right (short (static_name i)) (short (static_value i)) (short-at i)

  pub name-most : length (static_name i) ≤ 255
  name-most = short-length (static_name i) name_short

  pub value-most : length (static_value i) ≤ 255
  value-most = short-length (static_value i) value_short

  pub name-small : Small (static_name i)
  name-small = short-small (static_name i) name_short

  pub value-small : Small (static_value i)
  value-small = short-small (static_value i) value_short

pub text-small : Small static_text
unfolding static_text text_of entries
text-small k = ltb→lt (get_or static_text k 0) 256 (every-at (λ (b : ℕ). ltb b 256) 0 static_text tt tt k)
