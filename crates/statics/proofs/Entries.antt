-- Where the entries of a list stand in its text: each place cuts the entry's name and value out of the text. By induction over the list, with
-- the text before it as a parameter.
use mathlib.Core.Path.{◌≡◌, refl, sym, ap, ◌∙◌}
use Prim.Native.Nat.{ℕ, zero, suc, ◌+◌, ◌-◌, ◌≤◌, ◌<◌}
use native.Mathlib.Nat.{add-zero, le_of_suc-le-suc, not-suc-le-zero}
use native.Mathlib.Omega.{arith}
use mathlib.Core.List.{List, [], ◌∷◌, ◌++◌, append_assoc}
use lib.ListN.{length, get_or, length-append}
use Rattle.memory.specs.Bytes.{part}
use Rattle.memory.proofs.Places.{part-append, part_right, part-all}
use Rattle.statics.specs.Table.{Entry, text_of, place_in}
use Rattle.statics.specs.declared.table.StaticPlace.{StaticPlace}

-- an entry stands in a text at a place
pub record Stands (text : List ℕ) (p : StaticPlace) (e : Entry) : Type 0 where
  pub name : part text p.start p.name ≡ e.name
  pub value : part text (p.start + p.name) p.value ≡ e.value
  pub name_length : length e.name ≡ p.name
  pub value_length : length e.value ≡ p.value
  pub end : p.start + p.name + p.value ≤ length text

-- a list stands after another
part-after : (s t u : List ℕ) → part (s ++ (t ++ u)) (length s) (length t) ≡ t
part-after s t u =
    ap (λ (k : ℕ). part (s ++ (t ++ u)) k (length t)) (sym (add-zero (length s))) ∙ part_right s (t ++ u) 0 (length t)
    ∙ part-append t u 0 (length t) (omega arith) ∙ part-all t

here : (pre : List ℕ) (e : Entry) (rest : List ℕ)
    → Stands (pre ++ (e.name ++ (e.value ++ rest))) (record { start = length pre; name = length e.name; value = length e.value }) e
here pre e rest =
    record {
      name = part-after pre e.name (e.value ++ rest);
      value =
          ap (λ (l : List ℕ). part l (length pre + length e.name) (length e.value)) (sym (append_assoc pre e.name (e.value ++ rest)))
          ∙ ap (λ (k : ℕ). part ((pre ++ e.name) ++ (e.value ++ rest)) k (length e.value)) (sym (length-append pre e.name))
          ∙ part-after (pre ++ e.name) e.value rest;
      name_length = refl;
      value_length = refl;
      end = simp length-append (omega arith);
    }

-- the entry after i others, with the text pre before them all
pub stands : (es : List Entry) (pre : List ℕ) (i : ℕ) (d : Entry) → i < length es → Stands (pre ++ text_of es) (place_in es (length pre) i) (get_or es i d)
unfolding text_of place_in
stands [] pre i d h = absurd (not-suc-le-zero h)
stands (e ∷ es) pre zero d h = here pre e (text_of es)
stands (e ∷ es) pre (suc i) d h =
    let l : length (pre ++ (e.name ++ e.value)) ≡ length pre + (length e.name + length e.value) = simp length-append (omega arith) in
    let t : (pre ++ (e.name ++ e.value)) ++ text_of es ≡ pre ++ (e.name ++ (e.value ++ text_of es)) = simp append_assoc in
    rw (l, t) at (stands es (pre ++ (e.name ++ e.value)) i d (le_of_suc-le-suc h))

-- the same, by the places where the parts start and end
module _ {text : List ℕ} {p : StaticPlace} {e : Entry} (s : Stands text p e) where
  pub name-slice : part text p.start (p.start + p.name - p.start) ≡ e.name
  name-slice = let d : p.start + p.name - p.start ≡ p.name = omega arith in ap (part text p.start) d ∙ s.name

  pub value-slice : part text (p.start + p.name) (p.start + p.name + p.value - (p.start + p.name)) ≡ e.value
  value-slice =
      let d : p.start + p.name + p.value - (p.start + p.name) ≡ p.value = omega arith in
      ap (part text (p.start + p.name)) d ∙ s.value
