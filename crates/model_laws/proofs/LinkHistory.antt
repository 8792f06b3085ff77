-- What the finished parts come from, and that no stream has two trailers: a history that each event of the link keeps.
-- By what each event adds to the lists of blocks and of closed parts.
use mathlib.Core.Path.{◌≡◌, refl, sym, ap, ◌∙◌, subst}
use mathlib.Core.Logic.{◌⊎◌, inl, inr, ⊎_elim}
use Prim.Native.Nat.{ℕ, ◌<◌}
use mathlib.Core.Bool.{true, false}
use mathlib.Core.Option.{some}
use mathlib.Core.List.Memᴰ
use mathlib.Core.List.{List, [], ◌∷◌, ◌++◌, append-nil, Memᴰ}
use lib.ListN.{length}
use Rattle.integers.specs.Answers.{Answer}
use Rattle.fields.specs.Form.{Field}
use Rattle.blocks.specs.Representation.{Representation}
use Rattle.model.specs.Parts.{Part, trailer, part_number, Marks, no_marks, block_marks, Closing, closed, streams}
use Rattle.model.specs.Outcome.{Output}
use Rattle.model.specs.Events.{at, Event, said, wrote, acknowledged, heard, offered, freed, told, quiet}
use Rattle.model.specs.Events as link
use Rattle.model_laws.specs.Link.{said_in, Written, written_from, written_in}
use Rattle.model_laws.proofs.Tables.{nope}
use Rattle.model_laws.proofs.Linking.{at_left, at_last, written-append}
use Rattle.model_laws.proofs.Marks.{Closes, block-keeps, trailer-marks, number_same, closed-from, block-from}

-- ---- the history

-- a trailer block of the stream s was answered "done"
pub record TrailerDone (xs : List Event) (s : ℕ) : Type 0 where
  pub place : ℕ
  pub block : Written
  pub found : at place (written_in xs) ≡ some block
  pub stream : block.stream ≡ s
  pub part : block.part ≡ part_number trailer
  pub says : List Representation
  pub room : ℕ
  pub answer : Answer
  pub output : Output
  pub done : answer.number ≡ 0
  pub when : Memᴰ (offered place s (part_number trailer) says room answer output) xs

-- what finished a part: the host closed it, or a trailer block
pub data Cause (xs : List Event) (s : ℕ) (p : Part) : Type 0 where
  by-closing : (k : Closing) → Closes k p → Memᴰ (told k s) xs → Cause xs s p
  by-trailer : TrailerDone xs s → Cause xs s p

-- a block written is of a stream and a part, and a trailer has closed its part
pub record Marked (w : Written) (marks : Marks) : Type 0 where
  pub part : Part
  pub number : w.part ≡ part_number part
  pub low : w.stream < streams
  pub marked : part ≡ trailer → marks w.stream trailer ≡ true

pub record History (xs : List Event) (finished written : Marks) : Type 0 where
  pub why : (s : ℕ) (p : Part) → finished s p ≡ true → Cause xs s p
  pub marked : (n : ℕ) (w : Written) → at n (written_in xs) ≡ some w → Marked w written
  -- a stream has one trailer at most
  pub once : (n m : ℕ) (w v : Written) → at n (written_in xs) ≡ some w → at m (written_in xs) ≡ some v
      → w.stream ≡ v.stream → w.part ≡ part_number trailer → v.part ≡ part_number trailer → n ≡ m

pub start : History [] no_marks no_marks
unfolding at written_from
start = record { why = λ s p h. nope (cc); marked = λ n w h. nope (cc); once = λ n m w v h k s p q. nope (cc) }

-- what is written stays written
pub found-more : (n : ℕ) (xs ys : List Event) (w : Written) → at n (written_in xs) ≡ some w → at n (written_in (xs ++ ys)) ≡ some w
found-more n xs ys w h = ap (at n) (written-append xs ys) ∙ at_left n (written_in xs) _ w h

cause-more : (xs ys : List Event) (s : ℕ) (p : Part) → Cause xs s p → Cause (xs ++ ys) s p
cause-more xs ys s p (by-closing k c m) = by-closing k c (Memᴰ.append_left ys m)
cause-more xs ys s p (by-trailer d) =
    by-trailer (record {
      place = d.place;
      block = d.block;
      found = found-more d.place xs ys d.block d.found;
      stream = d.stream;
      part = d.part;
      says = d.says;
      room = d.room;
      answer = d.answer;
      output = d.output;
      done = d.done;
      when = Memᴰ.append_left ys d.when;
    })

-- ---- an event that is no block written
abbrev pub Calm : Event → Type 0
Calm (said i) = Unit {0}
Calm (wrote s part fs rs) = ⊥
Calm (acknowledged i n) = Unit {0}
Calm (heard i n) = Unit {0}
Calm (offered n s part rs room a o) = Unit {0}
Calm (freed i) = Unit {0}
Calm (told c s) = Unit {0}
Calm (link.Event.reset s) = Unit {0}
Calm quiet = Unit {0}

calm-written : (e : Event) (k : ℕ) → Calm e → written_from k (e ∷ []) ≡ []
unfolding written_from
calm-written (said i) k c = refl
calm-written (wrote s part fs rs) k c = absurd c
calm-written (acknowledged i n) k c = refl
calm-written (heard i n) k c = refl
calm-written (offered n s part rs room a o) k c = refl
calm-written (freed i) k c = refl
calm-written (told x s) k c = refl
calm-written (link.Event.reset s) k c = refl
calm-written quiet k c = refl

pub calm-same : (xs : List Event) (e : Event) → Calm e → written_in (xs ++ (e ∷ [])) ≡ written_in xs
calm-same xs e c =
    written-append xs (e ∷ []) ∙ ap (λ (l : List Written). written_in xs ++ l) (calm-written e (length (said_in xs)) c) ∙ append-nil (written_in xs)

-- each part that is finished now was so before, or has its cause now
pub calm-history : (xs : List Event) (e : Event) (f g w : Marks) → Calm e
    → ((s : ℕ) (p : Part) → g s p ≡ true → (f s p ≡ true) ⊎ Cause (xs ++ (e ∷ [])) s p) → History xs f w → History (xs ++ (e ∷ [])) g w
calm-history xs e f g w c from H = record {
  why = λ s p h. ⊎_elim (λ k. cause-more xs (e ∷ []) s p (H.why s p k)) (λ k. k) (from s p h);
  marked = λ n b h. H.marked n b (same n b h);
  once = λ n m b v h k s p q. H.once n m b v (same n b h) (same m v k) s p q;
}
  where
    same : (n : ℕ) (b : Written) → at n (written_in (xs ++ (e ∷ []))) ≡ some b → at n (written_in xs) ≡ some b
    same n b h = ap (at n) (sym (calm-same xs e c)) ∙ h

pub quiet-history : (xs : List Event) (e : Event) (f w : Marks) → Calm e → History xs f w → History (xs ++ (e ∷ [])) f w
quiet-history xs e f w c H = calm-history xs e f f w c (λ s p h. inl h) H

pub told-history : (xs : List Event) (k : Closing) (s : ℕ) (f w : Marks) → History xs f w → History (xs ++ (told k s ∷ [])) (closed k s f) w
told-history xs k s f w H =
    calm-history xs (told k s) f (closed k s f) w tt
    (λ t p h. ⊎_elim inl
    (λ (e : (s ≡ t) × Closes k p). inr (by-closing k e.1 (Memᴰ.append_right xs (Memᴰ.head (ap (told k) (sym e.0)))))) (closed-from k s f t p h)) H

-- ---- a block answered "done"
pub accept-history : (xs : List Event) (n s : ℕ) (p : Part) (rs : List Representation) (room : ℕ) (a : Answer) (o : Output)
    (f w : Marks) (b : Written) → at n (written_in xs) ≡ some b → b.stream ≡ s → b.part ≡ part_number p → a.number ≡ 0
    → History xs f w → History (xs ++ (offered n s (part_number p) rs room a o ∷ [])) (block_marks p s f) w
accept-history xs n s p rs room a o f w b found st pt zero! H =
    calm-history xs (offered n s (part_number p) rs room a o) f (block_marks p s f) w tt (λ t q h. ⊎_elim inl (λ e. inr (because t q e)) (block-from p s f t q h)) H
  where
    because : (t : ℕ) (q : Part) → (s ≡ t) × (p ≡ trailer) → Cause (xs ++ (offered n s (part_number p) rs room a o ∷ [])) t q
    because t q e =
        by-trailer (record {
          place = n;
          block = b;
          found = found-more n xs _ b found;
          stream = st ∙ e.0;
          part = pt ∙ ap part_number e.1;
          says = rs;
          room = room;
          answer = a;
          output = o;
          done = zero!;
          when =
              Memᴰ.append_right xs
              (Memᴰ.head (ap (λ (k : ℕ). offered n k (part_number trailer) rs room a o) (sym e.0)
              ∙ ap (λ (k : Part). offered n s (part_number k) rs room a o) (sym e.1)));
        })

-- ---- a block written
pub wrote-history : (xs : List Event) (s part : ℕ) (p : Part) (fs : List Field) (rs : List Representation) (f w : Marks)
    → w s p ≡ false → s < streams → part ≡ part_number p → History xs f w → History (xs ++ (wrote s part fs rs ∷ [])) f (block_marks p s w)
unfolding written_from
wrote-history xs s part p fs rs f w clear low pt H = record {
  why = λ t q h. cause-more xs (e ∷ []) t q (H.why t q h);
  marked = λ n v h. noted v (last n v h);
  once = λ n m v u h k x y z. single n m v u (last n v h) (last m u k) x y z;
}
  where
    e : Event
    e = wrote s part fs rs

    new : Written
    new = record { stream = s; part = part; says = rs; fields = fs; before = length (said_in xs) }

    last : (n : ℕ) (v : Written) → at n (written_in (xs ++ (e ∷ []))) ≡ some v
        → (at n (written_in xs) ≡ some v) ⊎ ((n ≡ length (written_in xs)) × (new ≡ v))
    last n v h = at_last n (written_in xs) new v (ap (at n) (sym (written-append xs (e ∷ []))) ∙ h)

    noted : {n : ℕ} (v : Written) → (at n (written_in xs) ≡ some v) ⊎ ((n ≡ length (written_in xs)) × (new ≡ v)) → Marked v (block_marks p s w)
    noted {n} v (inl h) =
        let m = H.marked n v h in
        record { part = m.part; number = m.number; low = m.low; marked = λ t. block-keeps p s w v.stream trailer (m.marked t) }
    noted {n} v (inr h) =
        subst (λ (u : Written). Marked u (block_marks p s w)) h.1
        (record { part = p; number = pt; low = low; marked = λ t. rw t (trailer-marks s w trailer) })

    -- the stream has no older trailer, if this is one
    older : (m : ℕ) (u : Written) → at m (written_in xs) ≡ some u → s ≡ u.stream → part ≡ part_number trailer → u.part ≡ part_number trailer → ⊥
    older m u k x y z =
        let d = H.marked m u k in
        let q : p ≡ trailer = number_same p trailer (sym pt ∙ y) in
        let g : w u.stream trailer ≡ true = d.marked (number_same d.part trailer (sym d.number ∙ z)) in
        let c : w s trailer ≡ false = ap (λ (t : Part). w s t) (sym q) ∙ clear in
        let j : w s trailer ≡ true = ap (λ (t : ℕ). w t trailer) x ∙ g in nope (cc)

    single : (n m : ℕ) (v u : Written) → (at n (written_in xs) ≡ some v) ⊎ ((n ≡ length (written_in xs)) × (new ≡ v))
        → (at m (written_in xs) ≡ some u) ⊎ ((m ≡ length (written_in xs)) × (new ≡ u)) → v.stream ≡ u.stream → v.part ≡ part_number trailer
        → u.part ≡ part_number trailer → n ≡ m
    single n m v u (inl h) (inl k) x y z = H.once n m v u h k x y z
    single n m v u (inl h) (inr k) x y z =
        absurd (older n v h (ap (λ (t : Written). t.stream) k.1 ∙ sym x) (ap (λ (t : Written). t.part) k.1 ∙ z) y)
    single n m v u (inr h) (inl k) x y z =
        absurd (older m u k (ap (λ (t : Written). t.stream) h.1 ∙ x) (ap (λ (t : Written). t.part) h.1 ∙ y) z)
    single n m v u (inr h) (inr k) x y z = h.0 ∙ sym k.0
