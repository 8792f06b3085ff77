-- What putting a row into memory that holds a front relies on: where its text starts, that there is room, and where an entry stands whose name is taken.
-- By the lengths of the texts before and after the place.
use Prim.Native.Nat.{ℕ, ◌+◌, ◌-◌, ◌≤◌, ◌<◌}
use mathlib.Core.Path.{◌≡◌, sym, ap, subst, ◌∙◌}
use native.Mathlib.Omega.{arith}
use mathlib.Core.List.{List, [], ◌∷◌, ◌++◌, append_assoc}
use lib.ListN.{length, length-append}
use Rattle.memory.proofs.Order.{split}
use Rattle.state.specs.Layout.{count_of, offset_at}
use Rattle.state.specs.Rows.{Row, text_of, text_bytes, rows_size}
use Rattle.state.specs.Front.{Front}
use Rattle.state_laws.proofs.FrontHolds.{HoldsFront}
use Rattle.state_laws.proofs.FrontLengths.{length-text, rows_size-text}
use Rattle.state_laws.proofs.FrontRead.{read_held, read_count, read-end, read-split}
use Rattle.state_laws.proofs.Splits.{parted}
use Rattle.table.specs.Changes.{Opening, NamedHere}
use Rattle.table_laws.proofs.FrontSplice.{text-two, count-two, length_two}

-- ---- where the text of the new row starts

pub start_is : (f : Front) (m : List ℕ) → HoldsFront f m → (xs ys : List Row) → f.rows ≡ xs ++ ys → offset_at m (length xs) ≡ length (text_bytes xs)
unfolding text_bytes
start_is f m H xs [] e =
    let n = count-two f xs [] e in
    let t = length_two f xs [] e in
    let c : length xs ≡ count_of m = omega (arith, read_count f m H) in
    ap (offset_at m) c ∙ read-end f m H ∙ omega arith
start_is f m H xs (y ∷ ys) e = (read-split f m H xs y ys e).offset

-- the text of rows that are split at one of them
text-parted : (rs us : List Row) (u : Row) (vs : List Row) → rs ≡ us ++ u ∷ vs
    → length (text_bytes rs) ≡ length (text_bytes us) + (length u.entry.name + length u.entry.value + length (text_bytes vs))
unfolding text_bytes
text-parted rs us u vs e =
    omega (arith, ap (λ (l : List Row). length (text_bytes l)) e, text-two us (u ∷ vs), length-append (text_of u.entry) (text_bytes vs), length-text u)

module _ (f : Front) (m : List ℕ) (H : HoldsFront f m) (xs ys : List Row) (e : f.rows ≡ xs ++ ys) where
  -- ---- that there is room

  pub opening-front : (name value : ℕ) → rows_size f.rows + (name + value + 32) ≤ 4096 → length f.rows < 128 → name ≤ 255
      → Opening m (length xs) name value
  opening-front name value room few short =
      let s = start_is f m H xs ys e in
      let t = read-end f m H in
      let c = read_count f m H in
      let z = rows_size-text f.rows in
      record {
        long = H.long;
        few = omega arith;
        below = omega (arith, count-two f xs ys e);
        start = omega (arith, length_two f xs ys e);
        text = omega arith;
        room = omega (arith, read_held f m H);
        short = short;
      }

  -- ---- an entry whose name is taken

  -- it stands before the place
  named-before : (us : List Row) (u : Row) (vs : List Row) → xs ≡ us ++ u ∷ vs → NamedHere m (length xs) (length us)
  named-before us u vs i =
      let d : f.rows ≡ us ++ u ∷ (vs ++ ys) = e ∙ ap (λ (rs : List Row). rs ++ ys) i ∙ append_assoc us (u ∷ vs) ys in
      let R = read-split f m H us u (vs ++ ys) d in
      let n = read_count f m H in
      let a : length us < length xs = omega (arith, ap length i, length-append us (u ∷ vs)) in
      let w = text-parted xs us u vs i in
      record {
        below = omega (arith, count-two f xs ys e);
        before = λ q. omega (arith, R.offset, R.name, start_is f m H xs ys e);
        behind = λ q. absurd (omega arith);
        within = omega (arith, R.offset, R.name, read-end f m H, length_two f xs ys e);
      }

  -- it stands at the place or behind it
  named-behind : (us : List Row) (u : Row) (vs : List Row) → ys ≡ us ++ u ∷ vs → NamedHere m (length xs) (length (xs ++ us))
  named-behind us u vs i =
      let d : f.rows ≡ (xs ++ us) ++ u ∷ vs = e ∙ ap (λ (rs : List Row). xs ++ rs) i ∙ sym (append_assoc xs us (u ∷ vs)) in
      let R = read-split f m H (xs ++ us) u vs d in
      let n = read_count f m H in
      let a : length (xs ++ us) ≡ length xs + length us = length-append xs us in
      let w = text-parted ys us u vs i in
      let t = text-two xs us in
      record {
        below = omega (arith, count-two f xs ys e, ap length i, length-append us (u ∷ vs));
        before = λ q. absurd (omega arith);
        behind = λ q. omega (arith, R.offset, start_is f m H xs ys e);
        within = omega (arith, R.offset, R.name, read-end f m H, length_two f xs ys e);
      }

  pub named-front : (named : ℕ) → named < length f.rows → NamedHere m (length xs) named
  named-front named h =
      split named (length xs)
      (λ l. let P = parted named xs l in subst (NamedHere m (length xs)) P.at (named-before P.xs P.x P.ys P.is))
      (λ l.
      let P = parted (named - length xs) ys (omega (arith, count-two f xs ys e)) in
      let d : length (xs ++ P.xs) ≡ named = omega (arith, length-append xs P.xs, P.at) in
      subst (NamedHere m (length xs)) d (named-behind P.xs P.x P.ys P.is))
