-- The rules for the link give that the part of an offered block is unfinished.
-- By what can have finished it in the events before: each cause wants that the block was answered "done" already, or its stream reset.
use mathlib.Core.Path.{◌≡◌, refl, sym, ap, ◌∙◌, subst}
use mathlib.Core.Logic.{◌⊎◌, inl, inr, ⊎_elim}
use Prim.Native.Nat.{ℕ}
use mathlib.Core.Bool.{Bool, true, false}
use mathlib.Core.Option.{some}
use mathlib.Core.List.Memᴰ
use mathlib.Core.List.{List, ◌∷◌, ◌++◌, append_assoc, Memᴰ}
use Rattle.integers.specs.Answers.{Answer}
use Rattle.blocks.specs.Representation.{Representation}
use Rattle.model.specs.Parts.{Closing, over, ended, Part, nontrailer, trailer, part_number, Marks}
use Rattle.model.specs.Outcome.{Output}
use Rattle.model.specs.Events.{at, Event, offered, told}
use Rattle.model.specs.Events as link
use Rattle.model_laws.specs.Link.{Written, written_in, Accepted, AbstractRules}
use Rattle.model_laws.proofs.Linking.{accepted-more, Place, place}
use Rattle.model_laws.proofs.LinkHistory.{History, TrailerDone, Cause, by-closing, by-trailer, found-more}
use Rattle.model_laws.proofs.Marks.{Closes}

module _ (es : List Event) (R : AbstractRules es) (xs ys : List Event) (n s : ℕ) (p : Part) (rs : List Representation) (room : ℕ) (a : Answer) (o : Output)
    (e : es ≡ xs ++ (offered n s (part_number p) rs room a o ∷ ys)) (b : Written) (found : at n (written_in xs) ≡ some b) (st : b.stream ≡ s)
    (pt : b.part ≡ part_number p) (f w : Marks) (H : History xs f w) where
  -- the block is one that was ever written
  ever : at n (written_in es) ≡ some b
  ever = rw e (found-more n xs _ b found)

  -- an event before it, in the whole list
  earlier : (x : Event) (P : Place x xs) → es ≡ P.pre ++ (x ∷ (P.post ++ (offered n s (part_number p) rs room a o ∷ ys)))
  earlier x P = e ∙ ap (λ (l : List Event). l ++ (offered n s (part_number p) rs room a o ∷ ys)) P.eq ∙ append_assoc P.pre _ _

  -- it was not answered "done" before, nor its stream reset
  not-before : (x : Event) (P : Place x xs) → Accepted n P.pre ⊎ Memᴰ (link.Event.reset s) P.pre → ⊥
  not-before x P (inl d) = R.once xs ys n s (part_number p) rs room a o e (rw P.eq (accepted-more n P.pre _ d))
  not-before x P (inr r) = R.resets xs ys n s (part_number p) rs room a o e (rw P.eq (Memᴰ.append_left _ r))

  -- what the rules say of a closing of its part
  closing-rule : (k : Closing) (q : Part) → Closes k q → b.part ≡ part_number q → (P : Place (told k s) xs)
      → Accepted n P.pre ⊎ Memᴰ (link.Event.reset s) P.pre
  closing-rule over nontrailer c y P = ⊎_elim (λ g. inl (g n b ever st y)) inr (R.overs P.pre _ s (earlier (told over s) P))
  closing-rule over trailer c y P = absurd c
  closing-rule ended q c y P = ⊎_elim (λ g. inl (g n b ever st)) inr (R.ends P.pre _ s (earlier (told ended s) P))

  -- where a trailer of its stream was done before, a non-trailer block was done before that one, and a trailer is that one
  trailer-before : (q : Part) → b.part ≡ part_number q → TrailerDone xs s → ⊥
  trailer-before nontrailer y d =
      let x : Event = offered d.place s (part_number trailer) d.says d.room d.answer d.output in
      let P = place x xs d.when in
      not-before x P (inl (R.trailers P.pre _ d.place s d.says d.room d.answer d.output (earlier x P) n b ever st y))
  trailer-before trailer y d =
      let k = H.once d.place n d.block b d.found found (d.stream ∙ sym st) d.part y in
      R.once xs ys n s (part_number p) rs room a o e
      (subst (λ (m : ℕ). Accepted m xs) k
      (record { stream = s; part = 1; says = d.says; room = d.room; answer = d.answer; output = d.output; done = d.done; when = d.when }))

  never : Cause xs s p → ⊥
  never (by-closing k c m) = let P = place (told k s) xs m in not-before (told k s) P (closing-rule k p c pt P)
  never (by-trailer d) = trailer-before p pt d

  pub unfinished : f s p ≡ false
  unfinished = go (f s p) refl
    where
      go : (t : Bool) → f s p ≡ t → f s p ≡ false
      go true h = absurd (never (H.why s p h))
      go false h = h
