-- Laws of lists of events: the element at a place, and what is said, read, freed and written in two lists one after the other.
-- By induction over the first list.
use mathlib.Core.Path.{◌≡◌, refl, sym, ap, ◌∙◌}
use mathlib.Core.Logic.{◌⊎◌, inl, inr}
use Prim.Native.Nat.{ℕ, zero, suc, ◌+◌, ◌≤◌, ◌<◌}
use native.Mathlib.Omega.{arith}
use mathlib.Core.Bool.{Bool, false}
use mathlib.Core.Option.{some}
use mathlib.Core.List.Memᴰ
use mathlib.Core.List.{List, [], ◌∷◌, ◌++◌, append_assoc, Memᴰ}
use lib.ListN.{length, drop, length-append}
use Rattle.instructions.specs.Instruction.{Instruction}
use Rattle.model.specs.Events.{at, Event, said, wrote, acknowledged, heard, offered, freed, told, quiet}
use Rattle.model.specs.Events as link
use Rattle.model_laws.specs.Link.{said_in, heard_in, freed_in, acknowledged_in, Written, written_from, written_in, held_from, held_after, Accepted}
use Rattle.model_laws.proofs.Tables.{nope}
use Rattle.model_laws.proofs.LinkHeld.{held-step}

module _ {X : Type 0} where
  -- ---- places
  pub at_left : (n : ℕ) (l m : List X) (x : X) → at n l ≡ some x → at n (l ++ m) ≡ some x
  unfolding at
  at_left n [] m x e = nope (cc)
  at_left zero (y ∷ l) m x e = e
  at_left (suc n) (y ∷ l) m x e = at_left n l m x e

  pub at-below : (n : ℕ) (l : List X) (x : X) → at n l ≡ some x → n < length l
  unfolding at
  at-below n [] x e = nope (cc)
  at-below zero (y ∷ l) x e = omega arith
  at-below (suc n) (y ∷ l) x e = let h = at-below n l x e in omega (arith, h)

  pub at_last : (n : ℕ) (l : List X) (x y : X) → at n (l ++ (x ∷ [])) ≡ some y → (at n l ≡ some y) ⊎ ((n ≡ length l) × (x ≡ y))
  unfolding at
  at_last zero [] x y e = inr (refl, cc)
  at_last (suc n) [] x y e = nope (cc)
  at_last zero (z ∷ l) x y e = inl e
  at_last (suc n) (z ∷ l) x y e = go (at_last n l x y e)
    where
      go : (at n l ≡ some y) ⊎ ((n ≡ length l) × (x ≡ y)) → (at n l ≡ some y) ⊎ ((suc n ≡ suc (length l)) × (x ≡ y))
      go (inl h) = inl h
      go (inr h) = inr (ap suc h.0, h.1)

  pub at-end : (l : List X) (x : X) → at (length l) (l ++ (x ∷ [])) ≡ some x
  unfolding at
  at-end [] x = refl
  at-end (y ∷ l) x = at-end l x

  -- the elements from a place on
  pub at_drop : (n : ℕ) (l : List X) (x : X) → at n l ≡ some x → drop n l ≡ x ∷ drop (suc n) l
  unfolding at
  at_drop n [] x e = nope (cc)
  at_drop zero (y ∷ l) x e = let h : y ≡ x = cc in ap (λ (t : X). t ∷ l) h
  at_drop (suc n) (y ∷ l) x e = at_drop n l x e

  pub drop-append : (n : ℕ) (l m : List X) → n ≤ length l → drop n (l ++ m) ≡ drop n l ++ m
  drop-append zero l m h = refl
  drop-append (suc n) [] m h = absurd (omega (arith, h))
  drop-append (suc n) (y ∷ l) m h = drop-append n l m (omega (arith, h))

-- ---- one event and those after it
said-cons : (e : Event) (es : List Event) → said_in (e ∷ es) ≡ said_in (e ∷ []) ++ said_in es
unfolding said_in
said-cons (said i) es = refl
said-cons (wrote s part fs rs) es = refl
said-cons (acknowledged i n) es = refl
said-cons (heard i n) es = refl
said-cons (offered n s part rs room a o) es = refl
said-cons (freed i) es = refl
said-cons (told k s) es = refl
said-cons (link.Event.reset s) es = refl
said-cons quiet es = refl

freed-cons : (e : Event) (es : List Event) → freed_in (e ∷ es) ≡ freed_in (e ∷ []) ++ freed_in es
unfolding freed_in
freed-cons (said i) es = refl
freed-cons (wrote s part fs rs) es = refl
freed-cons (acknowledged i n) es = refl
freed-cons (heard i n) es = refl
freed-cons (offered n s part rs room a o) es = refl
freed-cons (freed i) es = refl
freed-cons (told k s) es = refl
freed-cons (link.Event.reset s) es = refl
freed-cons quiet es = refl

heard-cons : (e : Event) (es : List Event) → heard_in (e ∷ es) ≡ heard_in (e ∷ []) + heard_in es
unfolding heard_in
heard-cons (said i) es = omega arith
heard-cons (wrote s part fs rs) es = omega arith
heard-cons (acknowledged i n) es = omega arith
heard-cons (heard i n) es = omega arith
heard-cons (offered n s part rs room a o) es = omega arith
heard-cons (freed i) es = omega arith
heard-cons (told k s) es = omega arith
heard-cons (link.Event.reset s) es = omega arith
heard-cons quiet es = omega arith

acknowledged-cons : (e : Event) (es : List Event) → acknowledged_in (e ∷ es) ≡ acknowledged_in (e ∷ []) + acknowledged_in es
unfolding acknowledged_in
acknowledged-cons (said i) es = omega arith
acknowledged-cons (wrote s part fs rs) es = omega arith
acknowledged-cons (acknowledged i n) es = omega arith
acknowledged-cons (heard i n) es = omega arith
acknowledged-cons (offered n s part rs room a o) es = omega arith
acknowledged-cons (freed i) es = omega arith
acknowledged-cons (told k s) es = omega arith
acknowledged-cons (link.Event.reset s) es = omega arith
acknowledged-cons quiet es = omega arith

written-cons : (k : ℕ) (e : Event) (es : List Event) → written_from k (e ∷ es) ≡ written_from k (e ∷ []) ++ written_from (length (said_in (e ∷ [])) + k) es
unfolding written_from said_in
written-cons k (said i) es = ap (λ (n : ℕ). written_from n es) (omega arith)
written-cons k (wrote s part fs rs) es = ap (λ (n : ℕ). record { stream = s; part = part; says = rs; fields = fs; before = k } ∷ written_from n es) (omega arith)
written-cons k (acknowledged i n) es = ap (λ (n : ℕ). written_from n es) (omega arith)
written-cons k (heard i n) es = ap (λ (n : ℕ). written_from n es) (omega arith)
written-cons k (offered n s part rs room a o) es = ap (λ (n : ℕ). written_from n es) (omega arith)
written-cons k (freed i) es = ap (λ (n : ℕ). written_from n es) (omega arith)
written-cons k (told c s) es = ap (λ (n : ℕ). written_from n es) (omega arith)
written-cons k (link.Event.reset s) es = ap (λ (n : ℕ). written_from n es) (omega arith)
written-cons k quiet es = ap (λ (n : ℕ). written_from n es) (omega arith)

-- ---- two lists of events
pub said-append : (xs ys : List Event) → said_in (xs ++ ys) ≡ said_in xs ++ said_in ys
unfolding said_in
said-append [] ys = refl
said-append (e ∷ xs) ys =
    said-cons e (xs ++ ys) ∙ ap (λ (l : List Instruction). said_in (e ∷ []) ++ l) (said-append xs ys)
    ∙ sym (append_assoc (said_in (e ∷ [])) (said_in xs) (said_in ys)) ∙ ap (λ (l : List Instruction). l ++ said_in ys) (sym (said-cons e xs))

pub freed-append : (xs ys : List Event) → freed_in (xs ++ ys) ≡ freed_in xs ++ freed_in ys
unfolding freed_in
freed-append [] ys = refl
freed-append (e ∷ xs) ys =
    freed-cons e (xs ++ ys) ∙ ap (λ (l : List ℕ). freed_in (e ∷ []) ++ l) (freed-append xs ys)
    ∙ sym (append_assoc (freed_in (e ∷ [])) (freed_in xs) (freed_in ys)) ∙ ap (λ (l : List ℕ). l ++ freed_in ys) (sym (freed-cons e xs))

pub heard-append : (xs ys : List Event) → heard_in (xs ++ ys) ≡ heard_in xs + heard_in ys
unfolding heard_in
heard-append [] ys = omega arith
heard-append (e ∷ xs) ys =
    let a = heard-cons e (xs ++ ys) in let b = heard-cons e xs in let c = heard-append xs ys in omega (arith, a, b, c)

pub acknowledged-append : (xs ys : List Event) → acknowledged_in (xs ++ ys) ≡ acknowledged_in xs + acknowledged_in ys
unfolding acknowledged_in
acknowledged-append [] ys = omega arith
acknowledged-append (e ∷ xs) ys =
    let a = acknowledged-cons e (xs ++ ys) in let b = acknowledged-cons e xs in let c = acknowledged-append xs ys in omega (arith, a, b, c)

written-append-from : (k : ℕ) (xs ys : List Event) → written_from k (xs ++ ys) ≡ written_from k xs ++ written_from (length (said_in xs) + k) ys
unfolding written_from said_in
written-append-from k [] ys = ap (λ (n : ℕ). written_from n ys) (omega arith)
written-append-from k (e ∷ xs) ys =
    written-cons k e (xs ++ ys)
    ∙ ap (λ (l : List Written). written_from k (e ∷ []) ++ l) (written-append-from (length (said_in (e ∷ [])) + k) xs ys)
    ∙ sym (append_assoc (written_from k (e ∷ [])) (written_from (length (said_in (e ∷ [])) + k) xs) _)
    ∙ ap (λ (l : List Written). l ++ written_from (length (said_in xs) + (length (said_in (e ∷ [])) + k)) ys) (sym (written-cons k e xs))
    ∙ ap (λ (n : ℕ). written_from k (e ∷ xs) ++ written_from n ys)
    (let h = ap length (said-cons e xs) in let g = length-append (said_in (e ∷ [])) (said_in xs) in omega (arith, h, g))

pub written-append : (xs ys : List Event) → written_in (xs ++ ys) ≡ written_in xs ++ written_from (length (said_in xs)) ys
written-append xs ys = written-append-from 0 xs ys ∙ ap (λ (n : ℕ). written_in xs ++ written_from n ys) (omega arith)

held-append-from : (h : Bool) (xs ys : List Event) (i : ℕ) → held_from h (xs ++ ys) i ≡ held_from (held_from h xs i) ys i
unfolding held_from
held-append-from h [] ys i = refl
held-append-from h (e ∷ xs) ys i =
    held-step h e (xs ++ ys) i ∙ held-append-from (held_from h (e ∷ []) i) xs ys i ∙ ap (λ (b : Bool). held_from b ys i) (sym (held-step h e xs i))

pub held-append : (xs ys : List Event) (i : ℕ) → held_after (xs ++ ys) i ≡ held_from (held_after xs i) ys i
held-append xs ys i = held-append-from false xs ys i

-- ---- accepted blocks
pub accepted-more : (n : ℕ) (xs ys : List Event) → Accepted n xs → Accepted n (xs ++ ys)
accepted-more n xs ys d =
    record {
      stream = d.stream;
      part = d.part;
      says = d.says;
      room = d.room;
      answer = d.answer;
      output = d.output;
      done = d.done;
      when = Memᴰ.append_left ys d.when;
    }

-- ---- an event's place
pub record Place (x : Event) (xs : List Event) : Type 0 where
  pub pre : List Event
  pub post : List Event
  pub eq : xs ≡ pre ++ (x ∷ post)

pub place : (x : Event) (xs : List Event) → Memᴰ x xs → Place x xs
place x [] e = elim e [ ]
place x (y ∷ ys) (Memᴰ.head e) = record { pre = []; post = ys; eq = rw e }
place x (y ∷ ys) (Memᴰ.tail m) = let p = place x ys m in record { pre = y ∷ p.pre; post = p.post; eq = ap (λ (l : List Event). y ∷ l) p.eq }
