-- The text after a row was put in: before the new entry's it stands where it did, behind it it stands higher. What stores the record and the row leaves text.
use mathlib.Core.Path.{◌≡◌, sym, ap, ◌∙◌}
use Prim.Native.Nat.{ℕ, ◌+◌, ◌-◌, ◌≤◌, ◌<◌}
use native.Mathlib.Omega.{arith}
use mathlib.Core.List.{List}
use lib.ListN.{length}
use Rattle.memory.specs.Bytes.{part, overlay}
use Rattle.memory.proofs.Overlay.{length-overlay}
use Rattle.memory.proofs.Places.{length_part, part-part, part-overlay, part-below}
use Rattle.state.specs.Layout.{text_place, held_of, count_of, offset_at, name_length_at}
use Rattle.state.specs.Rows.{name_at}
use Rattle.table.specs.Changes.{text_opened, opened_at, opened, Opening, NamedHere}
use Rattle.table_rows.specs.Rows.{row_opened, recorded}
use Rattle.table_rows.proofs.Rows.{length-row_opened, row_opened-text, length-recorded, recorded-text}

-- ---- text that moved

-- what was stored, in part
stored-part : (l : List ℕ) (i : ℕ) (vs : List ℕ) (j n : ℕ) → i + length vs ≤ length l → j + n ≤ length vs → part (overlay l i vs) (i + j) n ≡ part vs j n
stored-part l i vs j n h b =
    sym (part-part (overlay l i vs) i (length vs) j n (omega (arith, length-overlay l i vs)) b) ∙ ap (λ (r : List ℕ). part r j n) (part-overlay l i vs h)

pub text-before : (m : List ℕ) (offset text left at n : ℕ) → at + n ≤ length m → at + n ≤ text_place + offset
    → part (text_opened m offset text left) at n ≡ part m at n
unfolding text_opened
text-before m offset text left at n h b = part-below m at n (text_place + (offset + text)) (part m (text_place + offset) left) h (omega arith)

pub text-behind : (m : List ℕ) (offset text left o n : ℕ) → text_place + (offset + text) + left ≤ length m → offset ≤ o → o + n ≤ offset + left
    → part (text_opened m offset text left) (text_place + o + text) n ≡ part m (text_place + o) n
unfolding text_opened
text-behind m offset text left o n h lo hi =
    let vs : List ℕ = part m (text_place + offset) left in
    let e : length vs ≡ left = length_part m (text_place + offset) left (omega arith) in
    let d : text_place + o + text ≡ text_place + (offset + text) + (o - offset) = omega arith in
    let f : text_place + offset + (o - offset) ≡ text_place + o = omega arith in
    ap (λ (k : ℕ). part (overlay m (text_place + (offset + text)) vs) k n) d
    ∙ stored-part m (text_place + (offset + text)) vs (o - offset) n (omega arith) (omega arith)
    ∙ part-part m (text_place + offset) left (o - offset) n (omega arith) (omega arith)
    ∙ ap (λ (k : ℕ). part m k n) f

-- ---- the name of row `named`, after the row was put in: its bytes, where they stand then

module _ (m a : List ℕ) (place index name value named start : ℕ) (o : Opening m place name value) (w : NamedHere m place named)
    (en : name ≡ name_length_at m named) (es : start ≡ text_place + offset_at m named) (ea : a ≡ opened m place index name value) where
  -- the memory before its text moves up, whose text is that of m
  abbrev stored : List ℕ
  stored = recorded m (held_of m + (name + value + 32)) (count_of m + 1)

  abbrev row : List ℕ
  row = row_opened stored place (count_of m) index (offset_at m place) name (name + value)

  length-row : length row ≡ length m
  length-row =
      length-row_opened stored place (count_of m) index (offset_at m place) name (name + value)
      ∙ length-recorded m (held_of m + (name + value + 32)) (count_of m + 1)

  row-text : (at n : ℕ) → text_place ≤ at → at + n ≤ length m → part row at n ≡ part m at n
  row-text at n from h =
      row_opened-text stored place (count_of m) index (offset_at m place) name (name + value) at n o.below o.few from
      (omega (arith, length-recorded m (held_of m + (name + value + 32)) (count_of m + 1)))
      ∙ recorded-text m (held_of m + (name + value + 32)) (count_of m + 1) at n from h

  pub name-before : named < place → part a start name ≡ name_at m named
  unfolding opened opened_at
  name-before h =
      let b : offset_at m named + name_length_at m named ≤ offset_at m place = w.before h in
      ap (λ (l : List ℕ). part l start name) ea
      ∙ text-before row (offset_at m place) (name + value) (offset_at m (count_of m) - offset_at m place) start name (omega (arith, length-row)) (omega arith)
      ∙ row-text start name (omega arith) (omega arith)
      ∙ (λ k. part m (es k) (en k))

  pub name-behind : place ≤ named → part a (start + (name + value)) name ≡ name_at m named
  unfolding opened opened_at
  name-behind h =
      let b : offset_at m place ≤ offset_at m named = w.behind h in
      let left : ℕ = offset_at m (count_of m) - offset_at m place in
      ap (λ (l : List ℕ). part l (start + (name + value)) name) ea
      ∙ (λ k. part (text_opened row (offset_at m place) (name + value) left) (es k + (name + value)) name)
      ∙ text-behind row (offset_at m place) (name + value) left (offset_at m named) name (omega (arith, length-row)) (omega arith) (omega arith)
      ∙ row-text (text_place + offset_at m named) name (omega arith) (omega arith)
      ∙ (λ k. part m (text_place + offset_at m named) (en k))
