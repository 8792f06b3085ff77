-- The shown form can be read back, and no byte of it can be taken for the gateway's own words.
use mathlib.Core.Path.{◌≡◌, refl, sym, ap, subst, ◌∙◌}
use mathlib.Core.Bool.{true, false}
use mathlib.Core.List.{List, [], ◌∷◌, ◌++◌}
use Prim.Native.Nat.{ℕ, ◌+◌, ◌/◌, ◌%◌, ◌≤◌, ◌<◌}
use native.Mathlib.Omega.{arith}
use lib.ListN.{length}
use borrow.Author.Tests.{lt-ltb, le-ltb, lt-leb, le-leb, ne_eqb}
use Rattle.memory.proofs.Order.{either, split, not-both}
use Rattle.shown_bytes.specs.Ascii.{printable}
use Rattle.shown_bytes.specs.Shown.{one_of, plain, hex_digit, shown_byte, shown_name, place_in, shown_from, Bytes, Every, Clear, ClearName, Readable}
use Rattle.shown_bytes.specs.declared.shown.Place.{Place}
use Rattle.shown_bytes.specs.declared.shown.Place.TheVariants.{Name}

-- ---- the two ways of showing a byte

module _ (p : Place) (c : ℕ) where
  as-it-is : plain p c ≡ true → shown_byte p c ≡ c ∷ []
  unfolding shown_byte
  as-it-is t = rw t

  escaped : plain p c ≡ false → shown_byte p c ≡ 92 ∷ 120 ∷ hex_digit (c / 16) ∷ hex_digit (c % 16) ∷ []
  unfolding shown_byte
  escaped t = rw t

  -- a byte that is shown as it is, is none of these
  never-plain : (d : ℕ) → plain p d ≡ false → plain p c ≡ true → c ≡ d → ⊥
  never-plain d f t e = not-both (plain p d) (sym (ap (plain p) e) ∙ t) f

  below : c < 32 → plain p c ≡ false
  unfolding plain one_of printable
  below h =
      simp (
        ne_eqb c 92 (λ e. omega arith),
        ne_eqb c 44 (λ e. omega arith),
        ne_eqb c 61 (λ e. omega arith),
        ne_eqb c 58 (λ e. omega arith),
        ne_eqb c 32 (λ e. omega arith),
        lt-leb 32 c h,
      )

  above : 126 < c → plain p c ≡ false
  unfolding plain one_of printable
  above h =
      simp (
        ne_eqb c 92 (λ e. omega arith),
        ne_eqb c 44 (λ e. omega arith),
        ne_eqb c 61 (λ e. omega arith),
        ne_eqb c 58 (λ e. omega arith),
        ne_eqb c 32 (λ e. omega arith),
        le-leb 32 c (omega arith),
        lt-leb c 126 h,
      )

  plain-printed : plain p c ≡ true → (32 ≤ c) × (c ≤ 126)
  plain-printed t =
      (split c 32 (λ h. not-both (plain p c) t (below h)) (λ h. h), split 126 c (λ h. not-both (plain p c) t (above h)) (λ h. h))

  plain-clear : plain p c ≡ true → Clear c
  unfolding plain one_of
  plain-clear t = record {
    printed = plain-printed t;
    no_comma = never-plain 44 refl t;
    no_equals = never-plain 61 refl t;
  }

name-byte : (c : ℕ) → plain Name c ≡ true → ClearName c
unfolding plain one_of
name-byte c t = record {
  clear = plain-clear Name c t;
  no_colon = never-plain Name c 58 refl t;
  no_space = never-plain Name c 32 refl t;
}

-- ---- no byte of a form is one of the gateway's own

low_clear : (x : ℕ) → 48 ≤ x → x ≤ 57 → ClearName x
low_clear x h k = record {
  clear = record { printed = (omega arith, omega arith); no_comma = λ e. omega arith; no_equals = λ e. omega arith };
  no_colon = λ e. omega arith;
  no_space = λ e. omega arith;
}

high-clear : (x : ℕ) → 62 ≤ x → x ≤ 126 → ClearName x
high-clear x h k = record {
  clear = record { printed = (omega arith, omega arith); no_comma = λ e. omega arith; no_equals = λ e. omega arith };
  no_colon = λ e. omega arith;
  no_space = λ e. omega arith;
}

small-digit : (d : ℕ) → d < 10 → hex_digit d ≡ 48 + d
unfolding hex_digit
small-digit d h = rw (lt-ltb d 10 h)

large-digit : (d : ℕ) → 10 ≤ d → hex_digit d ≡ 87 + d
unfolding hex_digit
large-digit d h = rw (le-ltb d 10 h)

digit_clear : (d : ℕ) → d < 16 → ClearName (hex_digit d)
digit_clear d h =
    split d 10
    (λ k. subst ClearName (sym (small-digit d k)) (low_clear (48 + d) (omega arith) (omega arith)))
    (λ k. subst ClearName (sym (large-digit d k)) (high-clear (87 + d) (omega arith) (omega arith)))

escaped-clear : (c : ℕ) → c < 256 → Every ClearName (92 ∷ 120 ∷ hex_digit (c / 16) ∷ hex_digit (c % 16) ∷ [])
escaped-clear c h = (
  high-clear 92 (omega arith) (omega arith),
  (
    high-clear 120 (omega arith) (omega arith),
    (digit_clear (c / 16) (omega arith), (digit_clear (c % 16) (omega arith), tt)),
  ),
)

clear-too : (s : List ℕ) → Every ClearName s → Every Clear s
clear-too [] h = tt
clear-too (c ∷ cs) (h, hs) = (h.clear, clear-too cs hs)

both : (P : ℕ → Type 0) (s t : List ℕ) → Every P s → Every P t → Every P (s ++ t)
both P [] t h k = k
both P (c ∷ cs) t (h, hs) k = (h, both P cs t hs k)

byte-clear : (p : Place) (c : ℕ) → c < 256 → Every Clear (shown_byte p c)
byte-clear p c h =
    either (plain p c)
    (λ t. subst (Every Clear) (sym (as-it-is p c t)) (plain-clear p c t, tt))
    (λ t. subst (Every Clear) (sym (escaped p c t)) (clear-too (92 ∷ 120 ∷ hex_digit (c / 16) ∷ hex_digit (c % 16) ∷ []) (escaped-clear c h)))

name-byte-clear : (c : ℕ) → c < 256 → Every ClearName (shown_byte Name c)
name-byte-clear c h =
    either (plain Name c)
    (λ t. subst (Every ClearName) (sym (as-it-is Name c t)) (name-byte c t, tt))
    (λ t. subst (Every ClearName) (sym (escaped Name c t)) (escaped-clear c h))

name_clear : (s : List ℕ) → Bytes s → Every ClearName (shown_name s)
unfolding shown_name
name_clear [] h = tt
name_clear (c ∷ cs) (h, hs) = both ClearName (shown_byte Name c) (shown_name cs) (name-byte-clear c h) (name_clear cs hs)

from-clear : (n i : ℕ) (s : List ℕ) → Bytes s → Every Clear (shown_from n i s)
unfolding shown_from
from-clear n i [] h = tt
from-clear n i (c ∷ cs) (h, hs) =
    both Clear (shown_byte (place_in i n) c) (shown_from n (i + 1) cs) (byte-clear (place_in i n) c h) (from-clear n (i + 1) cs hs)

-- ---- the form gives the text back

same-digit : (d e : ℕ) → hex_digit d ≡ hex_digit e → d ≡ e
same-digit d e h =
    split d 10
    (λ k. split e 10
    (λ l. let x : 48 + d ≡ 48 + e = sym (small-digit d k) ∙ h ∙ small-digit e l in omega arith)
    (λ l. let x : 48 + d ≡ 87 + e = sym (small-digit d k) ∙ h ∙ large-digit e l in omega arith))
    (λ k. split e 10
    (λ l. let x : 87 + d ≡ 48 + e = sym (large-digit d k) ∙ h ∙ small-digit e l in omega arith)
    (λ l. let x : 87 + d ≡ 87 + e = sym (large-digit d k) ∙ h ∙ large-digit e l in omega arith))

same_byte : (c d : ℕ) → c / 16 ≡ d / 16 → c % 16 ≡ d % 16 → c ≡ d
same_byte c d h k = omega arith

-- whatever the places of two bytes and whatever follows them
module _ (p q : Place) (c d : ℕ) (xs ys : List ℕ) (e : shown_byte p c ++ xs ≡ shown_byte q d ++ ys) where
  abbrev Back : Type 0
  Back = (c ≡ d) × (xs ≡ ys)

  plain-plain : plain p c ≡ true → plain q d ≡ true → Back
  plain-plain t u =
      let x : c ∷ xs ≡ d ∷ ys = rw (as-it-is p c t, as-it-is q d u) at e in
      (cc, cc)

  plain-escaped : plain p c ≡ true → plain q d ≡ false → Back
  unfolding plain one_of
  plain-escaped t u =
      let x : c ∷ xs ≡ 92 ∷ 120 ∷ hex_digit (d / 16) ∷ hex_digit (d % 16) ∷ ys = rw (as-it-is p c t, escaped q d u) at e in
      absurd (never-plain p c 92 refl t (cc))

  escaped-plain : plain p c ≡ false → plain q d ≡ true → Back
  unfolding plain one_of
  escaped-plain t u =
      let x : 92 ∷ 120 ∷ hex_digit (c / 16) ∷ hex_digit (c % 16) ∷ xs ≡ d ∷ ys = rw (escaped p c t, as-it-is q d u) at e in
      absurd (never-plain q d 92 refl u (cc))

  escaped-escaped : plain p c ≡ false → plain q d ≡ false → Back
  escaped-escaped t u =
      let x : 92 ∷ 120 ∷ hex_digit (c / 16) ∷ hex_digit (c % 16) ∷ xs ≡ 92 ∷ 120 ∷ hex_digit (d / 16) ∷ hex_digit (d % 16) ∷ ys
      = rw (escaped p c t, escaped q d u) at e in
      (same_byte c d (same-digit _ _ (cc)) (same-digit _ _ (cc)), cc)

  byte-back : Back
  byte-back =
      either (plain p c)
      (λ t. either (plain q d) (plain-plain t) (plain-escaped t))
      (λ t. either (plain q d) (escaped-plain t) (escaped-escaped t))

-- a form is not empty
module _ (p : Place) (c : ℕ) (xs : List ℕ) where
  not-empty : shown_byte p c ++ xs ≡ [] → ⊥
  not-empty e =
      either (plain p c)
      (λ t. let x : c ∷ xs ≡ [] = rw (as-it-is p c t) at e in let z : ◌≡◌ {A = ℕ} 0 1 = cc in omega arith)
      (λ t. let x : 92 ∷ 120 ∷ hex_digit (c / 16) ∷ hex_digit (c % 16) ∷ xs ≡ [] = rw (escaped p c t) at e in let z : ◌≡◌ {A = ℕ} 0 1 = cc in omega arith)

name_back : (s t : List ℕ) → shown_name s ≡ shown_name t → s ≡ t
unfolding shown_name
name_back [] [] e = refl
name_back [] (d ∷ ds) e = absurd (not-empty Name d (shown_name ds) (sym e))
name_back (c ∷ cs) [] e = absurd (not-empty Name c (shown_name cs) e)
name_back (c ∷ cs) (d ∷ ds) e =
    let b = byte-back Name Name c d (shown_name cs) (shown_name ds) e in
    let f = name_back cs ds b.1 in
    cc

from_back : (n i m j : ℕ) (s t : List ℕ) → shown_from n i s ≡ shown_from m j t → s ≡ t
unfolding shown_from
from_back n i m j [] [] e = refl
from_back n i m j [] (d ∷ ds) e = absurd (not-empty (place_in j m) d (shown_from m (j + 1) ds) (sym e))
from_back n i m j (c ∷ cs) [] e = absurd (not-empty (place_in i n) c (shown_from n (i + 1) cs) e)
from_back n i m j (c ∷ cs) (d ∷ ds) e =
    let b = byte-back (place_in i n) (place_in j m) c d (shown_from n (i + 1) cs) (shown_from m (j + 1) ds) e in
    let f = from_back n (i + 1) m (j + 1) cs ds b.1 in
    cc

pub readable : Readable
readable = record {
  name_clear = name_clear;
  value_clear = λ s h. from-clear (length s) 0 s h;
  name_back = name_back;
  value_back = λ s t e. from_back (length s) 0 (length t) 0 s t e;
}
