-- Laws of marks: a marked part stays marked, and one in turn is one not marked; a delete is ready exactly where every part that it names is marked.
-- By cases on the tests, and by induction over the count of streams.
use mathlib.Core.Path.{◌≡◌, refl, sym, ap, ◌∙◌, subst}
use mathlib.Core.Logic.{◌⊎◌, inl, inr, ⊎_elim}
use Prim.Native.Nat.{ℕ, zero, suc, ◌<◌}
use native.Mathlib.Omega.{arith}
use mathlib.Core.Bool.{Bool, true, false, not, ◌&&◌, ◌||◌, or-true}
use mathlib.Core.Option.{some, Option, none}
use mathlib.Core.List.{List, [], ◌∷◌}
use lib.Dec.{eqb, ltb}
use borrow.Author.Tests.{eqb-true, eq-eqb, ltb-true, not-true, not-false}
use Rattle.memory.specs.Choice.{pick}
use Rattle.memory.proofs.Order.{split, either, pick-both, pick_true, not-both}
use Rattle.stream_lists.specs.StreamList.{StreamList, Fits, listed, names}
use Rattle.instructions.specs.Instruction.{FineList}
use Rattle.model.specs.Parts.{Part, nontrailer, trailer, part_of, part_number, same_part, Marks, mark, mark_both, block_marks, in_turn, Delete, names_part, is_open}
use Rattle.model.specs.Parts.{Closing, over, ended, closed, open_below, streams, is_ready}
use Rattle.model_laws.proofs.Tables.{nope, pick-eq}

pub part-back : (p : Part) → part_of (part_number p) ≡ some p
unfolding part_of
part-back nontrailer = refl
part-back trailer = refl

-- ---- marks are never taken back

mark-keeps : (s : ℕ) (p : Part) (marks : Marks) (t : ℕ) (q : Part) → marks t q ≡ true → mark s p marks t q ≡ true
unfolding mark
mark-keeps s p marks t q h =
    pick-both (λ (b : Bool). b ≡ true) (eqb s t) (same_part p q || marks t q) (marks t q) (λ e. rw h (or-true (same_part p q))) (λ e. h)

both-keeps : (s : ℕ) (marks : Marks) (t : ℕ) (q : Part) → marks t q ≡ true → mark_both s marks t q ≡ true
unfolding mark_both
both-keeps s marks t q h = pick-both (λ (b : Bool). b ≡ true) (eqb s t) true (marks t q) (λ e. refl) (λ e. h)

pub closed-keeps : (k : Closing) (s : ℕ) (marks : Marks) (t : ℕ) (q : Part) → marks t q ≡ true → closed k s marks t q ≡ true
closed-keeps over s marks t q h = mark-keeps s nontrailer marks t q h
closed-keeps ended s marks t q h = both-keeps s marks t q h

pub block-keeps : (p : Part) (s : ℕ) (marks : Marks) (t : ℕ) (q : Part) → marks t q ≡ true → block_marks p s marks t q ≡ true
unfolding block_marks
block-keeps nontrailer s marks t q h = h
block-keeps trailer s marks t q h = both-keeps s marks t q h

-- ---- what is marked

-- the parts that a closing marks
abbrev pub Closes : Closing → Part → Type 0
Closes over nontrailer = Unit {0}
Closes over trailer = ⊥
Closes ended q = Unit {0}

mark-marked : (s : ℕ) (p : Part) (marks : Marks) → mark s p marks s p ≡ true
unfolding mark
mark-marked s nontrailer marks = pick_true (eqb s s) true (marks s nontrailer) (eq-eqb s s refl)
mark-marked s trailer marks = pick_true (eqb s s) true (marks s trailer) (eq-eqb s s refl)

both-marked : (s : ℕ) (marks : Marks) (q : Part) → mark_both s marks s q ≡ true
unfolding mark_both
both-marked s marks q = pick_true (eqb s s) true (marks s q) (eq-eqb s s refl)

pub closing-marks : (k : Closing) (s : ℕ) (marks : Marks) (q : Part) → Closes k q → closed k s marks s q ≡ true
closing-marks over s marks nontrailer c = mark-marked s nontrailer marks
closing-marks over s marks trailer c = absurd c
closing-marks ended s marks q c = both-marked s marks q

pub trailer-marks : (s : ℕ) (marks : Marks) (q : Part) → block_marks trailer s marks s q ≡ true
unfolding block_marks
trailer-marks s marks q = both-marked s marks q

-- ---- a part in turn is one that is not marked

pub marked-late : (marks : Marks) (s : ℕ) (p : Part) → marks s p ≡ true → in_turn marks s p ≡ false
unfolding in_turn
marked-late marks s p h = ap not h

pub open_turn : (marks : Marks) (s : ℕ) (p : Part) → marks s p ≡ false → in_turn marks s p ≡ true
unfolding in_turn
open_turn marks s p h = ap not h

pub turn-open : (marks : Marks) (s : ℕ) (p : Part) → in_turn marks s p ≡ true → marks s p ≡ false
unfolding in_turn
turn-open marks s p h = not-true (marks s p) h

-- ---- a fine list names streams below 4,096 alone

listed-low : (last : ℕ) (xs : List ℕ) (s : ℕ) → Fits last xs → listed xs s ≡ true → s < streams
unfolding listed
listed-low last [] s h e = not-both false e refl
listed-low last (x ∷ xs) s h e =
    let low = h.1 in
    pick-both (λ (b : Bool). b ≡ true → s < streams) (eqb s x) true (listed xs s)
    (λ t d. omega (arith, eqb-true s x t))
    (λ t d. listed-low x xs s h.2 d) e

pub names-low : (l : StreamList) (s : ℕ) → FineList l → names l s ≡ true → s < streams
unfolding names
names-low l s h e =
    let near = h.0 in
    pick-both (λ (b : Bool). b ≡ true → s < streams) (ltb s l.horizon) true (listed l.streams s)
    (λ t d. omega (arith, ltb-true s l.horizon t))
    (λ t d. listed-low l.horizon l.streams s h.2 d) e

pub part_low : (d : Delete) (s : ℕ) (p : Part) → FineList d.nontrailer → FineList d.trailer → names_part d s p ≡ true → s < streams
unfolding names_part
part_low d s nontrailer h k e = names-low d.nontrailer s h e
part_low d s trailer h k e = names-low d.trailer s k e

-- ---- named parts that are not marked

count_none : (b : Bool) → ◌≡◌ {A = ℕ} (pick b 1 0) 0 → b ≡ false
count_none true h = absurd (omega arith)
count_none false h = refl

-- both tests hold
pub and_both : (a b : Bool) → (a && b) ≡ true → (a ≡ true) × (b ≡ true)
and_both true b h = (refl, h)
and_both false b h = (h, not-both false h refl)

module _ (marks : Marks) (d : Delete) where
  pub closed-marked : (s : ℕ) (p : Part) → is_open marks d s p ≡ false → names_part d s p ≡ true → marks s p ≡ true
  unfolding is_open
  closed-marked s p h e = not-false (marks s p) (sym (ap (λ (b : Bool). b && not (marks s p)) e) ∙ h)

  none_open : (n : ℕ) → open_below marks d n ≡ 0 → (s : ℕ) (p : Part) → s < n → is_open marks d s p ≡ false
  unfolding open_below
  none_open zero h s p k = absurd (omega arith)
  none_open (suc n) h s p k =
      split s n (none_open n (omega arith) s p) (λ j. let e : s ≡ n = omega arith in rw e (last p))
    where
      last : (q : Part) → is_open marks d n q ≡ false
      last nontrailer = count_none (is_open marks d n nontrailer) (omega arith)
      last trailer = count_none (is_open marks d n trailer) (omega arith)

  pub record OpenPart (n : ℕ) : Type 0 where
    pub stream : ℕ
    pub part : Part
    pub low : stream < n
    pub named : names_part d stream part ≡ true
    pub unmarked : marks stream part ≡ false

  pub open-both : (s : ℕ) (p : Part) → is_open marks d s p ≡ true → (names_part d s p ≡ true) × (marks s p ≡ false)
  unfolding is_open
  open-both s p e = let b = and_both (names_part d s p) (not (marks s p)) e in (b.0, not-true (marks s p) b.1)

  open-part : (n s : ℕ) (p : Part) → s < n → is_open marks d s p ≡ true → OpenPart n
  open-part n s p h e =
      let b = open-both s p e in record { stream = s; part = p; low = h; named = b.0; unmarked = b.1 }

  open-later : (n : ℕ) → OpenPart n → OpenPart (suc n)
  open-later n o = let k = o.low in record { stream = o.stream; part = o.part; low = omega arith; named = o.named; unmarked = o.unmarked }

  open-or : (n : ℕ) → (open_below marks d n ≡ 0) ⊎ OpenPart n
  unfolding open_below
  open-or zero = inl refl
  open-or (suc n) =
      either (is_open marks d n nontrailer) (λ e. inr (open-part (suc n) n nontrailer (omega arith) e))
      (λ e. either (is_open marks d n trailer) (λ f. inr (open-part (suc n) n trailer (omega arith) f))
      (λ f. ⊎_elim (λ (h : open_below marks d n ≡ 0). inl (rw (e, f) (omega arith))) (λ o. inr (open-later n o)) (open-or n)))

  pub ready_marked : (s : ℕ) (p : Part) → is_ready marks d ≡ true → s < streams → names_part d s p ≡ true → marks s p ≡ true
  unfolding is_ready
  ready_marked s p h k = closed-marked s p (none_open streams (eqb-true (open_below marks d streams) 0 h) s p k)

  pub ready-or : (is_ready marks d ≡ true) ⊎ OpenPart streams
  unfolding is_ready
  ready-or = ⊎_elim (λ h. inl (eq-eqb (open_below marks d streams) 0 h)) inr (open-or streams)

-- what is ready stays so as marks are added
pub ready-keeps : (marks more : Marks) (d : Delete) → ((s : ℕ) (p : Part) → marks s p ≡ true → more s p ≡ true) → is_ready marks d ≡ true
    → is_ready more d ≡ true
ready-keeps marks more d keeps r =
    ⊎_elim (λ h. h)
    (λ (o : OpenPart more d streams).
    not-both (more o.stream o.part) (keeps o.stream o.part (ready_marked marks d o.stream o.part r o.low o.named)) o.unmarked)
    (ready-or more d)

-- ---- part numbers
pub part-number : (n : ℕ) (p : Part) → part_of n ≡ some p → n ≡ part_number p
unfolding part_of
part-number n p h =
    pick-eq (λ (o : Option Part). o ≡ some p → n ≡ part_number p) n 0 (some nontrailer) (pick (eqb n 1) (some trailer) none)
    (λ e k. let z : nontrailer ≡ p = cc in e ∙ ap part_number z)
    (λ d. pick-eq (λ (o : Option Part). o ≡ some p → n ≡ part_number p) n 1 (some trailer) none
    (λ e k. let z : trailer ≡ p = cc in e ∙ ap part_number z) (λ e k. nope (cc))) h

pub number_same : (p q : Part) → part_number p ≡ part_number q → p ≡ q
number_same nontrailer nontrailer h = refl
number_same nontrailer trailer h = absurd (omega (arith, h))
number_same trailer nontrailer h = absurd (omega (arith, h))
number_same trailer trailer h = refl

-- ---- where a mark comes from
same-part : (p q : Part) → same_part p q ≡ true → p ≡ q
same-part nontrailer nontrailer h = refl
same-part nontrailer trailer h = nope (cc)
same-part trailer nontrailer h = nope (cc)
same-part trailer trailer h = refl

-- one of two tests holds
pub or-either : (a b : Bool) → (a || b) ≡ true → (a ≡ true) ⊎ (b ≡ true)
or-either true b h = inl refl
or-either false b h = inr h

mark-from : (s : ℕ) (p : Part) (f : Marks) (t : ℕ) (q : Part) → mark s p f t q ≡ true → (f t q ≡ true) ⊎ ((s ≡ t) × (p ≡ q))
unfolding mark
mark-from s p f t q h =
    pick-eq (λ (b : Bool). b ≡ true → (f t q ≡ true) ⊎ ((s ≡ t) × (p ≡ q))) s t _ _ (λ e k. go e (or-either (same_part p q) (f t q) k)) (λ e k. inl k) h
  where
    go : s ≡ t → (same_part p q ≡ true) ⊎ (f t q ≡ true) → (f t q ≡ true) ⊎ ((s ≡ t) × (p ≡ q))
    go e (inl k) = inr (e, same-part p q k)
    go e (inr k) = inl k

both-from : (s : ℕ) (f : Marks) (t : ℕ) (q : Part) → mark_both s f t q ≡ true → (f t q ≡ true) ⊎ (s ≡ t)
unfolding mark_both
both-from s f t q h = pick-eq (λ (b : Bool). b ≡ true → (f t q ≡ true) ⊎ (s ≡ t)) s t _ _ (λ e k. inr e) (λ e k. inl k) h

pub closed-from : (k : Closing) (s : ℕ) (f : Marks) (t : ℕ) (q : Part) → closed k s f t q ≡ true → (f t q ≡ true) ⊎ ((s ≡ t) × Closes k q)
closed-from over s f t q h = ⊎_elim inl (λ (e : (s ≡ t) × (nontrailer ≡ q)). inr (e.0, subst (Closes over) e.1 tt)) (mark-from s nontrailer f t q h)
closed-from ended s f t q h = ⊎_elim inl (λ e. inr (e, tt)) (both-from s f t q h)

pub block-from : (p : Part) (s : ℕ) (f : Marks) (t : ℕ) (q : Part) → block_marks p s f t q ≡ true → (f t q ≡ true) ⊎ ((s ≡ t) × (p ≡ trailer))
unfolding block_marks
block-from nontrailer s f t q h = inl h
block-from trailer s f t q h = ⊎_elim inl (λ e. inr (e, refl)) (both-from s f t q h)
