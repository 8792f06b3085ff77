-- Bytes that are instructions one after another, of which some were read: what a beginning of the rest is read as, and where the next one ends.
-- Two splits of one list differ by a beginning of either; no instruction is empty.
use mathlib.Core.Path.{◌≡◌, refl, sym, ap, ap₂, ◌∙◌, subst}
use mathlib.Core.Logic.{◌⊎◌, inl, inr}
use Prim.Native.Nat.{ℕ, zero, suc, ◌+◌, ◌≤◌}
use native.Mathlib.Omega.{arith}
use mathlib.Core.Option.{some}
use mathlib.Core.List.{List, [], ◌∷◌, ◌++◌, append-nil, append_assoc, nil≢cons, head-eq_of_cons-eq, tail-eq_of_cons-eq}
use lib.ListN.{length, take, drop, length-append, take-append-drop}
use lib.Seq.{take-append-le, drop_at}
use Rattle.instructions.specs.Instruction.{Instruction, insert, acknowledge, instruction_wire}
use Rattle.wire.specs.Name.{literal}
use Rattle.instructions.specs.Reading.{read_for_decoder, read_for_encoder, instruction_of}
use Rattle.instructions.specs.declared.read.InstructionPlace.{InstructionPlace}
use Rattle.instructions.proofs.Equations.{decoder-empty, encoder-empty}
use Rattle.instructions.proofs.Back.{decoder-front, encoder-front}
use Rattle.instructions.proofs.Cut.{decoder-cut, encoder-cut}
use Rattle.instructions.proofs.Lengths.{instruction-some}
use Rattle.model.specs.Events.{at}
use Rattle.model_laws.proofs.Tables.{nope}
use Rattle.model_laws.proofs.Linking.{at-below}
use Rattle.state_laws.proofs.Each.{Each}
use Rattle.link.specs.Claims.{Managed, Acknowledges, Cut}
use Rattle.std.specs.Prelude.{Ok, Err}
use Rattle.integers.specs.Answers.{Read}
use Rattle.integers.specs.declared.answer.Refusal.TheVariants.{Truncated}

-- ---- instructions one after another
unfoldable pub wires : List Instruction → List ℕ
wires [] = []
wires (i ∷ is) = instruction_wire i ++ wires is

wires-append : (is js : List Instruction) → wires (is ++ js) ≡ wires is ++ wires js
unfolding wires
wires-append [] js = refl
wires-append (i ∷ is) js =
    ap (λ (l : List ℕ). instruction_wire i ++ l) (wires-append is js) ∙ sym (append_assoc (instruction_wire i) (wires is) (wires js))

wires-one : (i : Instruction) → wires (i ∷ []) ≡ instruction_wire i
unfolding wires
wires-one i = append-nil (instruction_wire i)

each-drop : (P : Instruction → Type 0) (n : ℕ) (is : List Instruction) → Each P is → Each P (drop n is)
each-drop P zero is a = a
each-drop P (suc n) [] a = tt
each-drop P (suc n) (i ∷ is) a = each-drop P n is a.1

-- ---- the first h of them are the first k bytes
pub record Border (is : List Instruction) (h k : ℕ) : Type 0 where
  pub within : h ≤ length is
  pub bytes : k ≡ length (wires (take h is))

pub border-start : Border [] 0 0
unfolding wires
border-start = record { within = omega arith; bytes = refl }

-- more are said
pub border-more : (is js : List Instruction) (h k : ℕ) → Border is h k → Border (is ++ js) h k
border-more is js h k b = record {
  within = omega (arith, length-append is js, b.within);
  bytes = b.bytes ∙ ap (λ (l : List Instruction). length (wires l)) (sym (take-append-le h is js b.within));
}

-- the next one is read
take_next : (is : List Instruction) (h : ℕ) (i : Instruction) → at h is ≡ some i → take (suc h) is ≡ take h is ++ (i ∷ [])
unfolding at
take_next [] h i e = nope (cc)
take_next (j ∷ is) zero i e = let d : j ≡ i = cc in ap (λ (t : Instruction). t ∷ []) d
take_next (j ∷ is) (suc h) i e = ap (λ (l : List Instruction). j ∷ l) (take_next is h i e)

pub border-next : (is : List Instruction) (h k : ℕ) (i : Instruction) → Border is h k → at h is ≡ some i
    → Border is (suc h) (k + length (instruction_wire i))
border-next is h k i b e =
    let l = ap length (ap wires (take_next is h i e) ∙ wires-append (take h is) (i ∷ [])) in
    let m = length-append (wires (take h is)) (wires (i ∷ [])) in
    let n = ap length (wires-one i) in
    record { within = omega (arith, at-below h is i e); bytes = omega (arith, b.bytes) }

-- the bytes from there on are the other instructions
border-rest : (is : List Instruction) (h k : ℕ) → Border is h k → drop k (wires is) ≡ wires (drop h is)
border-rest is h k b =
    ap (drop k) (ap wires (sym (take-append-drop h is)) ∙ wires-append (take h is) (drop h is))
    ∙ drop_at (wires (take h is)) (wires (drop h is)) k (sym b.bytes)

-- fewer bytes are fewer instructions
fewer : (is : List Instruction) (j h : ℕ) → j ≤ length is → length (wires (take j is)) ≤ length (wires (take h is)) → j ≤ h
unfolding wires
fewer is zero h b l = omega arith
fewer [] (suc j) h b l = absurd (omega (arith, b))
fewer (i ∷ is) (suc j) zero b l =
    absurd (omega (arith, l, length-append (instruction_wire i) (wires (take j is)), instruction-some i))
fewer (i ∷ is) (suc j) (suc h) b l =
    let x = length-append (instruction_wire i) (wires (take j is)) in
    let y = length-append (instruction_wire i) (wires (take h is)) in
    let z = fewer is j h (omega (arith, b)) (omega (arith, l)) in
    omega (arith, z)

pub border-order : (is : List Instruction) (j h m k : ℕ) → Border is j m → Border is h k → m ≤ k → j ≤ h
border-order is j h m k a b l = fewer is j h a.within (omega (arith, a.bytes, b.bytes))

-- ---- a beginning

-- of two lists that begin one list, one begins the other
beginnings : (xs ys zs ws : List ℕ) → xs ++ ys ≡ zs ++ ws → ((t : List ℕ) × (zs ≡ xs ++ t)) ⊎ ((x : ℕ) × (t : List ℕ) × (xs ≡ zs ++ (x ∷ t)))
beginnings [] ys zs ws e = inl (zs, refl)
beginnings (x ∷ xs) ys [] ws e = inr (x, xs, refl)
beginnings (x ∷ xs) ys (z ∷ zs) ws e = go (beginnings xs ys zs ws (tail-eq_of_cons-eq e))
  where
    d : x ≡ z
    d = head-eq_of_cons-eq e

    go : ((t : List ℕ) × (zs ≡ xs ++ t)) ⊎ ((y : ℕ) × (t : List ℕ) × (xs ≡ zs ++ (y ∷ t)))
        → ((t : List ℕ) × (z ∷ zs ≡ x ∷ (xs ++ t))) ⊎ ((y : ℕ) × (t : List ℕ) × (x ∷ xs ≡ z ∷ (zs ++ (y ∷ t))))
    go (inl h) = inl (h.0, ap₂ (λ (a : ℕ) (l : List ℕ). a ∷ l) (sym d) h.1)
    go (inr h) = inr (h.0, h.1, ap₂ (λ (a : ℕ) (l : List ℕ). a ∷ l) d h.2)

-- what an end's reader does with what the other end says
pub record Reader (reads : List ℕ → Read InstructionPlace) (Says : Instruction → Type 0) : Type 0 where
  pub front : (i : Instruction) (rest : List ℕ) → Says i
      → (p : InstructionPlace) × (reads (instruction_wire i ++ rest) ≡ Ok (p, length (instruction_wire i)))
      × (instruction_of (instruction_wire i ++ rest) p ≡ i)
  pub cut : (i : Instruction) (xs : List ℕ) (y : ℕ) (ys : List ℕ) → Says i → instruction_wire i ≡ xs ++ (y ∷ ys) → reads xs ≡ Err Truncated
  pub empty : reads [] ≡ Err Truncated
  pub some-said : (i : Instruction) × Says i

-- the whole next instruction is at the front, or the bytes end inside one
pub record Whole (reads : List ℕ → Read InstructionPlace) (is : List Instruction) (h : ℕ) (s : List ℕ) : Type 0 where
  pub next : Instruction
  pub place : InstructionPlace
  pub there : at h is ≡ some next
  pub found : reads s ≡ Ok (place, length (instruction_wire next))
  pub same : instruction_of s place ≡ next

abbrev pub Ends : (List ℕ → Read InstructionPlace) → (Instruction → Type 0) → List ℕ → Type 0
Ends reads Says s = (reads s ≡ Err Truncated) × Cut Says s

at_rest : (is : List Instruction) (h : ℕ) (i : Instruction) (js : List Instruction) → drop h is ≡ i ∷ js → at h is ≡ some i
unfolding at
at_rest [] zero i js e = absurd (nil≢cons e)
at_rest [] (suc h) i js e = absurd (nil≢cons e)
at_rest (j ∷ is) zero i js e = ap some (head-eq_of_cons-eq e)
at_rest (j ∷ is) (suc h) i js e = at_rest is h i js e

-- an empty beginning is one of any instruction
some_first : (xs : List ℕ) → 1 ≤ length xs → (x : ℕ) × (l : List ℕ) × (xs ≡ x ∷ l)
some_first [] h = absurd (omega arith)
some_first (x ∷ l) h = (x, l, refl)

empty-cut : (Says : Instruction → Type 0) (i : Instruction) → Says i → Cut Says []
empty-cut Says i said = let f = some_first (instruction_wire i) (instruction-some i) in (i, said, f.0, f.1, f.2)

pub beginning : (reads : List ℕ → Read InstructionPlace) (Says : Instruction → Type 0) → Reader reads Says → (is : List Instruction) (h k : ℕ)
    → Each Says is → Border is h k → (s rest : List ℕ) → drop k (wires is) ≡ s ++ rest → Whole reads is h s ⊎ Ends reads Says s
unfolding wires
beginning reads Says R is h k a b s rest e = go (drop h is) refl
  where
    nothing_left : (s : List ℕ) → ◌≡◌ {A = List ℕ} [] (s ++ rest) → Ends reads Says s
    nothing_left [] z = (R.empty, empty-cut Says R.some-said.0 R.some-said.1)
    nothing_left (x ∷ s) z = absurd (nil≢cons z)

    -- where the next instruction is i
    next : (i : Instruction) (js : List Instruction) → drop h is ≡ i ∷ js → Says i
        → ((t : List ℕ) × (s ≡ instruction_wire i ++ t)) ⊎ ((x : ℕ) × (t : List ℕ) × (instruction_wire i ≡ s ++ (x ∷ t))) → Whole reads is h s ⊎ Ends reads Says s
    next i js d says (inl w) =
        let f = R.front i w.0 says in
        inl (subst (Whole reads is h) (sym w.1) (record { next = i; place = f.0; there = at_rest is h i js d; found = f.1; same = f.2 }))
    next i js d says (inr w) = inr (R.cut i s w.0 w.1 says w.2, (i, says, w.0, w.1, w.2))

    go : (l : List Instruction) → drop h is ≡ l → Whole reads is h s ⊎ Ends reads Says s
    go [] d = inr (nothing_left s (sym (ap wires d) ∙ sym (border-rest is h k b) ∙ e))
    go (i ∷ js) d =
        next i js d (subst (Each Says) d (each-drop Says h is a)).0
        (beginnings (instruction_wire i) (wires js) s rest (sym (ap wires d) ∙ sym (border-rest is h k b) ∙ e))

-- ---- the two readers

pub for-decoder : Reader read_for_decoder Managed
for-decoder = record {
  front = λ i rest f. decoder-front i rest f.0 f.1;
  cut = λ i xs y ys f e. decoder-cut xs (y ∷ ys) (omega arith) i f.0 f.1 e;
  empty = decoder-empty [] (omega arith);
  some-said = (insert 62 (literal []) [], (tt, ((omega arith, omega arith), omega arith, omega arith)));
}

pub for-encoder : Reader read_for_encoder Acknowledges
for-encoder = record {
  front = λ i rest f. front i rest f;
  cut = λ i xs y ys f e. encoder-cut xs (y ∷ ys) (omega arith) f.0 f.2 (ap instruction_wire (sym f.1) ∙ e);
  empty = encoder-empty [] (omega arith);
  some-said = (acknowledge 62, (62, refl, (omega arith, omega arith)));
}
  where
    front : (i : Instruction) (rest : List ℕ) → Acknowledges i
        → (p : InstructionPlace) × (read_for_encoder (instruction_wire i ++ rest) ≡ Ok (p, length (instruction_wire i)))
        × (instruction_of (instruction_wire i ++ rest) p ≡ i)
    front i rest (k, e, f) =
        subst (λ (j : Instruction). (p : InstructionPlace) × (read_for_encoder (instruction_wire j ++ rest) ≡ Ok (p, length (instruction_wire j)))
        × (instruction_of (instruction_wire j ++ rest) p ≡ j)) (sym e) (encoder-front k rest f)
