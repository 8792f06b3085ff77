-- What is gathered behind some bytes, and what is printed one after another.
use Rattle.std.proofs.Common.{◌≡◌, ℕ, ◌+◌, ◌*◌, ◌≤◌, ◌<◌, List, [], ◌∷◌, ◌++◌, length, take, refl, ap, sym, ◌∙◌, subst, append_assoc, length-append, drop, take-add, Option, None, Some, IfSome, if◌then◌else◌, nat_lt, get_or}
use mathlib.Core.List.{append-nil}
use native.Mathlib.Omega.{arith}
use Rattle.std.specs.List.{FoldsTo, concat}
use Rattle.std.specs.Fmt.{WritesInCalls, WritesText}
use Rattle.std.proofs.lemmas.List.{length-take-le, length-drop, take_all, take_more, take_more_set}
use Rattle.std.proofs.lemmas.Grind.{take-set_at}
use Rattle.std.proofs.Math.ListN.{set, length-set}
use mathlib.Core.Logic.{⊎_elim}
use Rattle.std.proofs.lemmas.Bool.{cond_below, cond_above, cases_lt}
use Rattle.text_io.specs.declared.print.Printer.{Printer}
use Rattle.text_io.specs.Print.{held, room, with_byte, gathered, Prints, hex}

gathered-append : (n : ℕ) (s a b : List ℕ) → gathered n s (a ++ b) ≡ gathered n (gathered n s a) b
gathered-append n s [] b = refl
gathered-append n s (c ∷ a) b = gathered-append n (with_byte n s c) a b

-- bytes that there is room for stand behind what is gathered
pub gathered-fits : (n : ℕ) (s t : List ℕ) → length s + length t ≤ n → gathered n s t ≡ s ++ t
gathered-fits n s [] fits = sym (append-nil s)
gathered-fits n s (c ∷ t) fits =
    let e : with_byte n s c ≡ s ++ (c ∷ []) = sym (cond_below (length s) n (s ++ (c ∷ [])) (take n (c ∷ [])) (omega arith)) in
    ap (λ (x : List ℕ). gathered n x t) e ∙ gathered-fits n (s ++ (c ∷ [])) t (omega (arith, length-append s (c ∷ []))) ∙ append_assoc s (c ∷ []) t

pub prints-none : (p : Printer) → Prints p [] p
prints-none p = record { same_room = refl; gathers = refl; stays_lost = λ l. l }

pub prints-then : (p q r : Printer) (a b : List ℕ) → Prints p a q → Prints q b r → Prints p (a ++ b) r
prints-then p q r a b x y = record {
  same_room = y.same_room ∙ x.same_room;
  gathers = y.gathers ∙ ap (λ (n : ℕ). gathered n (held q) b) x.same_room ∙ ap (λ (s : List ℕ). gathered (room p) s b) x.gathers ∙ sym (gathered-append (room p) (held p) a b);
  stays_lost = λ l. y.stays_lost (x.stays_lost l);
}

prints-calls : (p : Printer) (xs : List (List ℕ)) (q : Printer) → FoldsTo Prints p xs q → Prints p (concat xs) q
prints-calls p [] q f = subst (λ (r : Printer). Prints p [] r) f (prints-none p)
prints-calls p (x ∷ xs) q f = prints-then p f.0 q x (concat xs) f.1 (prints-calls f.0 xs q f.2)

prints-writes : (p : Printer) (s : List ℕ) (q : Printer) → WritesInCalls Prints p s q → Prints p s q
prints-writes p s q w = subst (λ (l : List ℕ). Prints p l q) w.whole (prints-calls p w.parts q w.calls)

pub prints-text : (p q : Printer) (o : Option (List ℕ)) → WritesText Prints p o q → IfSome o (λ s. Prints p s q)
prints-text p q None w = tt
prints-text p q (Some s) w = prints-writes p s q w

pub hex-append : (a b : List ℕ) → hex (a ++ b) ≡ hex a ++ hex b
hex-append [] b = refl
hex-append (c ∷ a) b = ap (λ (l : List ℕ). hex (c ∷ []) ++ l) (hex-append a b)

pub hex-length : (s : List ℕ) → length (hex s) ≡ 2 * length s
hex-length [] = refl
hex-length (c ∷ s) = omega (arith, hex-length s)

-- two bytes more behind those that are gathered
pub two-more : (b : List ℕ) (e x y : ℕ) → e + 2 ≤ length b → take (e + 2) (set (set b e x) (e + 1) y) ≡ take e b ++ (x ∷ y ∷ [])
two-more b e x y inside =
    let long : length (set b e x) ≡ length b = length-set b e x in
    take-set_at (set b e x) (e + 1) (e + 2) y (omega arith) (omega (arith, long))
    ∙ ap (λ (l : List ℕ). l ++ (y ∷ [])) (take_more_set b e x (omega arith))
    ∙ append_assoc (take e b) (x ∷ []) (y ∷ [])

-- one byte's digits more behind those of the bytes before it
pub digits-more : (h s : List ℕ) (i : ℕ) → i < length s → (h ++ hex (take i s)) ++ hex (get_or s i 0 ∷ []) ≡ h ++ hex (take (i + 1) s)
digits-more h s i inside =
    append_assoc h (hex (take i s)) (hex (get_or s i 0 ∷ []))
    ∙ ap (λ (l : List ℕ). h ++ l) (sym (ap hex (take_more s i 0 inside) ∙ hex-append (take i s) (get_or s i 0 ∷ [])))

-- each byte that is gathered lies in the buffer
pub held-length : (p : Printer) → length (held p) ≡ p.used
held-length p = length-take-le p.used p.buffer.now p.inside

-- the digits of n bytes that there was room for, behind those of the bytes before them
pub next-piece : (s : List ℕ) (i n m : ℕ) (p q r : Printer) → m ≡ n → i + n ≤ length s → q.used + 2 * n ≤ room q
    → room r ≡ room q → held r ≡ held q ++ hex (take m (drop i s)) → r.lost ≡ q.lost → Prints p (hex (take i s)) q → Prints p (hex (take (i + n) s)) r
next-piece s i n m p q r e inside fits same behind lost before =
    let piece = take m (drop i s) in
    let long = length-take-le m (drop i s) (omega (arith, length-drop i s)) in
    let once : Prints q (hex piece) r =
    record {
      same_room = same;
      gathers = behind ∙ sym (gathered-fits (room q) (held q) (hex piece) (omega (arith, held-length q, hex-length piece, long)));
      stays_lost = λ l. lost ∙ l;
    } in
    subst (λ (l : List ℕ). Prints p l r)
    (sym (hex-append (take i s) piece) ∙ ap hex (ap (λ (k : ℕ). take i s ++ take k (drop i s)) e ∙ sym (take-add i n s)))
    (prints-then p q r (hex (take i s)) (hex piece) before once)

-- a byte behind what was gathered, once room was made for it
pub with-room : (n c : ℕ) (s m : List ℕ) → m ≡ (if nat_lt (length s) n then s else []) → length m < n → m ++ (c ∷ []) ≡ with_byte n s c
with-room n c s m e small = ⊎_elim
    (λ lt. ap (λ (l : List ℕ). l ++ (c ∷ [])) (e ∙ sym (cond_below (length s) n s [] lt)) ∙ cond_below (length s) n (s ++ (c ∷ [])) (take n (c ∷ [])) lt)
    (λ ge. ap (λ (l : List ℕ). l ++ (c ∷ [])) (e ∙ sym (cond_above (length s) n s [] [] ge refl)) ∙ cond_above (length s) n (s ++ (c ∷ [])) (take n (c ∷ [])) (c ∷ []) ge (sym (take_all n (c ∷ []) (omega arith))))
    (cases_lt (length s) n)

-- and where none could be made
pub with-none : (n c : ℕ) (s m : List ℕ) → m ≡ (if nat_lt (length s) n then s else []) → n ≤ length m → m ≡ with_byte n s c
with-none n c s m e large = ⊎_elim
    (λ lt. let same : m ≡ s = e ∙ sym (cond_below (length s) n s [] lt) in absurd (omega (arith, ap length same)))
    (λ ge. let none : m ≡ [] = e ∙ sym (cond_above (length s) n s [] [] ge refl) in
    let zero : n ≡ 0 = omega (arith, ap length none) in
    none ∙ cond_above (length s) n (s ++ (c ∷ [])) (take n (c ∷ [])) [] ge (sym (ap (λ (k : ℕ). take k (c ∷ [])) zero)))
    (cases_lt (length s) n)

-- one byte more of those that are printed one after another
pub next-byte : (s : List ℕ) (i : ℕ) (p q r : Printer) → i < length s → Prints p (take i s) q → Prints q (get_or s i 0 ∷ []) r → Prints p (take (i + 1) s) r
next-byte s i p q r inside x y = subst (λ (l : List ℕ). Prints p l r) (sym (take_more s i 0 inside)) (prints-then p q r (take i s) (get_or s i 0 ∷ []) x y)

-- the same of their digits
pub next-digits : (s : List ℕ) (i : ℕ) (p q r : Printer) → i < length s → Prints p (hex (take i s)) q → Prints q (hex (get_or s i 0 ∷ [])) r → Prints p (hex (take (i + 1) s)) r
next-digits s i p q r inside x y =
    subst (λ (l : List ℕ). Prints p l r) (sym (ap hex (take_more s i 0 inside) ∙ hex-append (take i s) (get_or s i 0 ∷ []))) (prints-then p q r (hex (take i s)) (hex (get_or s i 0 ∷ [])) x y)
