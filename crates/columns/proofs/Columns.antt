-- Columns: what stands and what is read, and what opening, closing and changing one make of the column that stands. By induction over the numbers.
use mathlib.Core.Path.{◌≡◌, refl, sym, ap, ap₂, subst, ◌∙◌}
use Prim.Native.Nat.{ℕ, zero, suc, ◌+◌, ◌*◌, ◌-◌, ◌%◌, ◌^◌, ◌≤◌, ◌<◌}
use native.Mathlib.Omega.{arith}
use mathlib.Core.List.{List, [], ◌∷◌, ◌++◌, append_assoc, map}
use lib.ListN.{length, length-append}
use Rattle.memory.specs.Bytes.{part, overlay, moved, Has, Small}
use Rattle.memory.specs.Numbers.{number, number_bytes}
use Rattle.memory.proofs.Overlay.{length-overlay, overlay-append, overlay-comm}
use Rattle.memory.proofs.Places.{has_left, has_right, has_join, has_above, has_part}
use Rattle.memory.proofs.Numbers.{length-number_bytes, bytes-mod, bytes_back, number_back, number-below}
use Rattle.columns.specs.Columns.{column_bytes, Reads, column_opened, column_closed, changed}
use Rattle.columns.proofs.Within.{store-end, store-within}

-- ---- the bytes of a column

pub length-column_bytes : (w : ℕ) (xs : List ℕ) → length (column_bytes w xs) ≡ w * length xs
unfolding column_bytes
length-column_bytes w [] = omega arith
length-column_bytes w (x ∷ xs) =
    length-append (number_bytes w x) (column_bytes w xs) ∙ omega (arith, length-number_bytes w x, length-column_bytes w xs)

pub column_bytes-append : (w : ℕ) (xs ys : List ℕ) → column_bytes w (xs ++ ys) ≡ column_bytes w xs ++ column_bytes w ys
unfolding column_bytes
column_bytes-append w [] ys = refl
column_bytes-append w (x ∷ xs) ys =
    ap (λ (r : List ℕ). number_bytes w x ++ r) (column_bytes-append w xs ys) ∙ sym (append_assoc (number_bytes w x) (column_bytes w xs) (column_bytes w ys))

-- the bytes about a number
column_bytes-about : (w : ℕ) (xs : List ℕ) (x : ℕ) (ys : List ℕ)
    → column_bytes w (xs ++ (x ∷ ys)) ≡ column_bytes w xs ++ (number_bytes w x ++ column_bytes w ys)
unfolding column_bytes
column_bytes-about w xs x ys = column_bytes-append w xs (x ∷ ys)

-- ---- what stands and what is read

-- every number has w bytes
abbrev pub Fits : ℕ → List ℕ → Type 0
Fits w [] = Unit {0}
Fits w (x ∷ xs) = (x < 256 ^ w) × Fits w xs

module _ (w : ℕ) (m : List ℕ) where
  -- the first number of a column that stands, and the others
  column-rest : (at x : ℕ) (r : List ℕ) → Has m at (number_bytes w x ++ r) → Has m (at + w) r
  column-rest at x r h = subst (λ (k : ℕ). Has m (at + k) r) (length-number_bytes w x) (has_right m at (number_bytes w x) r h)

  pub column-reads : (at : ℕ) (xs : List ℕ) → Fits w xs → Has m at (column_bytes w xs) → Reads w m at xs
  unfolding column_bytes
  column-reads at [] f h = tt
  column-reads at (x ∷ xs) f h = (
    number_back w m at x f.0 (has_left m at (number_bytes w x) (column_bytes w xs) h),
    column-reads (at + w) xs f.1 (column-rest at x (column_bytes w xs) h),
  )

  pub column-has : (at : ℕ) (xs : List ℕ) → Small m → at + w * length xs ≤ length m → Reads w m at xs → Has m at (column_bytes w xs)
  unfolding column_bytes
  column-has at [] s b r = tt
  column-has at (x ∷ xs) s b r =
      let first : Has m at (number_bytes w x) = subst (λ (v : ℕ). Has m at (number_bytes w v)) r.0 (bytes_back w m at s (omega arith)) in
      let others : Has m (at + w) (column_bytes w xs) = column-has (at + w) xs s (omega arith) r.1 in
      has_join m at (number_bytes w x) (column_bytes w xs) first
      (subst (λ (k : ℕ). Has m (at + k) (column_bytes w xs)) (sym (length-number_bytes w x)) others)

  -- one of the numbers
  pub reads_at : (at : ℕ) (xs : List ℕ) (x : ℕ) (ys : List ℕ) → Reads w m at (xs ++ (x ∷ ys)) → number w m (at + w * length xs) ≡ x
  reads_at at [] x ys r = let e : at + w * 0 ≡ at = omega arith in ap (number w m) e ∙ r.0
  reads_at at (v ∷ xs) x ys r =
      let e : at + w * suc (length xs) ≡ at + w + w * length xs = omega arith in
      ap (number w m) e ∙ reads_at (at + w) xs x ys r.1

-- ---- what opening, closing and changing make of a column

module _ (w : ℕ) (m : List ℕ) (at : ℕ) (xs : List ℕ) where
  -- a store from the place of a number on, where those before it stand
  store-from : (r : List ℕ) → Has m at (column_bytes w xs) → overlay m (at + w * length xs) r ≡ overlay m at (column_bytes w xs ++ r)
  store-from r h =
      ap (λ (k : ℕ). overlay m (at + k) r) (sym (length-column_bytes w xs)) ∙ store-end m at (column_bytes w xs) r h

  -- the numbers behind some, where all of them stand
  column-behind : (r : List ℕ) → Has m at (column_bytes w xs ++ r) → Has m (at + w * length xs) r
  column-behind r h = subst (λ (k : ℕ). Has m (at + k) r) (length-column_bytes w xs) (has_right m at (column_bytes w xs) r h)

  -- those that move
  column-moves : (from n : ℕ) (ys : List ℕ) → n ≡ length ys → Has m from (column_bytes w ys) → part m from (w * n) ≡ column_bytes w ys
  column-moves from n ys e h = ap (part m from) (ap (λ (k : ℕ). w * k) e ∙ sym (length-column_bytes w ys)) ∙ has_part m from (column_bytes w ys) h

  pub column-opened : (ys : List ℕ) (x : ℕ) → Has m at (column_bytes w (xs ++ ys))
      → column_opened w m at (length xs) (length xs + length ys) x ≡ overlay m at (column_bytes w (xs ++ (x ∷ ys)))
  unfolding column_opened
  column-opened ys x h =
      let place : ℕ = at + w * length xs in
      let stands : Has m at (column_bytes w xs ++ column_bytes w ys) = subst (Has m at) (column_bytes-append w xs ys) h in
      let moves : part m place (w * (length xs + length ys - length xs)) ≡ column_bytes w ys =
      column-moves place (length xs + length ys - length xs) ys (omega arith) (column-behind (column_bytes w ys) stands) in
      let next : at + w * (length xs + 1) ≡ place + length (number_bytes w x) = omega (arith, length-number_bytes w x) in
      ap₂ (λ (k : ℕ) (r : List ℕ). overlay (overlay m k r) place (number_bytes w x)) next moves
      ∙ sym (overlay-comm m place (number_bytes w x) (place + length (number_bytes w x)) (column_bytes w ys) (omega arith))
      ∙ sym (overlay-append m place (number_bytes w x) (column_bytes w ys))
      ∙ store-from (number_bytes w x ++ column_bytes w ys) (has_left m at (column_bytes w xs) (column_bytes w ys) stands)
      ∙ ap (overlay m at) (sym (column_bytes-about w xs x ys))

  about : (x : ℕ) (ys : List ℕ) → Has m at (column_bytes w (xs ++ (x ∷ ys))) → Has m at (column_bytes w xs ++ (number_bytes w x ++ column_bytes w ys))
  about x ys h = subst (Has m at) (column_bytes-about w xs x ys) h

  pub column-closed : (x : ℕ) (ys : List ℕ) → Has m at (column_bytes w (xs ++ (x ∷ ys)))
      → column_closed w m at (length xs) (length xs + (length ys + 1)) ≡ overlay m at (column_bytes w (xs ++ ys))
  unfolding column_closed
  column-closed x ys h =
      let rest : ℕ = length xs + (length ys + 1) - (length xs + 1) in
      let next : at + w * length xs + w ≡ at + w * (length xs + 1) = omega arith in
      let stands : Has m (at + w * (length xs + 1)) (column_bytes w ys) =
      subst (λ (k : ℕ). Has m k (column_bytes w ys)) next
      (column-rest w m (at + w * length xs) x (column_bytes w ys) (column-behind (number_bytes w x ++ column_bytes w ys) (about x ys h))) in
      ap (overlay m (at + w * length xs)) (column-moves (at + w * (length xs + 1)) rest ys (omega arith) stands)
      ∙ store-from (column_bytes w ys) (has_left m at (column_bytes w xs) (number_bytes w x ++ column_bytes w ys) (about x ys h))
      ∙ ap (overlay m at) (sym (column_bytes-append w xs ys))

  -- one number stored over another
  pub column-set : (x : ℕ) (ys : List ℕ) (y : ℕ) → Has m at (column_bytes w (xs ++ (x ∷ ys)))
      → overlay m (at + w * length xs) (number_bytes w y) ≡ overlay m at (column_bytes w (xs ++ (y ∷ ys)))
  column-set x ys y h =
      let e : length (number_bytes w x) ≡ length (number_bytes w y) = length-number_bytes w x ∙ sym (length-number_bytes w y) in
      ap (λ (k : ℕ). overlay m (at + k) (number_bytes w y)) (sym (length-column_bytes w xs))
      ∙ store-within m at (column_bytes w xs) (number_bytes w x) (number_bytes w y) (column_bytes w ys) e (about x ys h)
      ∙ ap (overlay m at) (sym (column_bytes-about w xs y ys))

module _ (f : ℕ → ℕ) (w : ℕ) where
  -- all numbers of a column changed
  changed-all : (m : List ℕ) (at : ℕ) (ys : List ℕ) → Fits w ys → Has m at (column_bytes w ys)
      → changed f w (length ys) m at ≡ overlay m at (column_bytes w (map f ys))
  unfolding changed column_bytes
  changed-all m at [] b h = refl
  changed-all m at (y ∷ ys) b h =
      let new : List ℕ = number_bytes w (f y) in
      let n : length new ≡ w = length-number_bytes w (f y) in
      let read : number w m at ≡ y = number_back w m at y b.0 (has_left m at (number_bytes w y) (column_bytes w ys) h) in
      let stands : Has (overlay m at new) (at + w) (column_bytes w ys) =
      has_above m (at + w) (column_bytes w ys) at new (omega arith) (column-rest w m at y (column_bytes w ys) h) in
      ap (λ (v : ℕ). changed f w (length ys) (overlay m at (number_bytes w (f v))) (at + w)) read
      ∙ changed-all (overlay m at new) (at + w) ys b.1 stands
      ∙ ap (λ (k : ℕ). overlay (overlay m at new) (at + k) (column_bytes w (map f ys))) (sym n)
      ∙ sym (overlay-append m at new (column_bytes w (map f ys)))

  -- those behind some
  pub column-changed : (m : List ℕ) (at : ℕ) (xs ys : List ℕ) → Fits w ys → Has m at (column_bytes w (xs ++ ys))
      → changed f w (length ys) m (at + w * length xs) ≡ overlay m at (column_bytes w (xs ++ map f ys))
  column-changed m at xs ys b h =
      let stands : Has m at (column_bytes w xs ++ column_bytes w ys) = subst (Has m at) (column_bytes-append w xs ys) h in
      changed-all m (at + w * length xs) ys b (column-behind w m at xs (column_bytes w ys) stands)
      ∙ store-from w m at xs (column_bytes w (map f ys)) (has_left m at (column_bytes w xs) (column_bytes w ys) stands)
      ∙ ap (overlay m at) (sym (column_bytes-append w xs (map f ys)))

  pub length-changed : (k : ℕ) (m : List ℕ) (at : ℕ) → length (changed f w k m at) ≡ length m
  unfolding changed
  length-changed zero m at = refl
  length-changed (suc k) m at =
      let new : List ℕ = number_bytes w (f (number w m at)) in
      length-changed k (overlay m at new) (at + w) ∙ length-overlay m at new

  -- what is before the numbers stays
  pub changed-below : (k : ℕ) (m : List ℕ) (at n j : ℕ) → j + n ≤ at → number n (changed f w k m at) j ≡ number n m j
  unfolding changed
  changed-below zero m at n j h = refl
  changed-below (suc k) m at n j h =
      let new : List ℕ = number_bytes w (f (number w m at)) in
      changed-below k (overlay m at new) (at + w) n j (omega arith) ∙ number-below n m j at new h

-- ---- the length, and what is before the column, stay

module _ (w : ℕ) (m : List ℕ) (at place count : ℕ) where
  pub length-opened : (x : ℕ) → length (column_opened w m at place count x) ≡ length m
  unfolding column_opened
  length-opened x =
      length-overlay (moved m (at + w * (place + 1)) (at + w * place) (w * (count - place))) (at + w * place) (number_bytes w x)
      ∙ length-overlay m (at + w * (place + 1)) (part m (at + w * place) (w * (count - place)))

  pub length-closed : length (column_closed w m at place count) ≡ length m
  unfolding column_closed
  length-closed = length-overlay m (at + w * place) (part m (at + w * (place + 1)) (w * (count - (place + 1))))

  pub opened-below : (x n j : ℕ) → j + n ≤ at → number n (column_opened w m at place count x) j ≡ number n m j
  unfolding column_opened
  opened-below x n j h =
      number-below n (moved m (at + w * (place + 1)) (at + w * place) (w * (count - place))) j (at + w * place) (number_bytes w x) (omega arith)
      ∙ number-below n m j (at + w * (place + 1)) (part m (at + w * place) (w * (count - place))) (omega arith)

  pub closed-below : (n j : ℕ) → j + n ≤ at → number n (column_closed w m at place count) j ≡ number n m j
  unfolding column_closed
  closed-below n j h = number-below n m j (at + w * place) (part m (at + w * (place + 1)) (w * (count - (place + 1)))) (omega arith)

-- ---- numbers of two bytes, raised and lowered again

pub wrapped : (t : ℕ) (ys : List ℕ) → t ≤ 65536
    → column_bytes 2 (map (λ (y : ℕ). y + (65536 - t)) (map (λ (y : ℕ). y + t) ys)) ≡ column_bytes 2 ys
unfolding column_bytes
wrapped t [] h = refl
wrapped t (y ∷ ys) h =
    let e : (y + t + (65536 - t)) % 65536 ≡ y % 65536 = omega arith in
    ap₂ ◌++◌ (sym (bytes-mod 2 (y + t + (65536 - t))) ∙ ap (number_bytes 2) e ∙ bytes-mod 2 y) (wrapped t ys h)
