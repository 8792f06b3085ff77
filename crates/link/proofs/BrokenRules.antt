-- Lists that break a rule for the link, on closed events: a rule that asks less lets its list pass, and fails here before demand 3 is shown from it.
-- By computing which blocks a list writes; then the rule wants one answered "done" that was not.
use mathlib.Core.Path.{◌≡◌, refl}
use mathlib.Core.Logic.{⊎_elim}
use Prim.Native.Nat.{ℕ}
use native.Mathlib.Omega.{arith}
use mathlib.Core.List.Memᴰ
use mathlib.Core.List.{List, [], ◌∷◌, ◌++◌, Memᴰ}
use Rattle.integers.specs.Answers.{done}
use Rattle.model.specs.Events.{at}
use Rattle.model.specs.Parts.{Closing, over, ended}
use Rattle.model_laws.proofs.Tables.{nope}
use Rattle.reply.specs.Result.{Result}
use Rattle.link.specs.Calls as calls
use Rattle.link.specs.Claims.{Event, by_encoder, by_decoder, Written, written_from, Accepted, Rules}

-- ---- events on stream 0, each answered "done": an empty block written, the n-th block offered, parts closed
abbrev fine : Result
fine = record { answer = done 0 0; memory = []; output = [] }

abbrev wrote : ℕ → Event
wrote part = by_encoder (calls.EncoderCall.block 0 part [] []) fine

abbrev offered : ℕ → ℕ → Event
offered n part = by_decoder n (calls.DecoderCall.block 0 part [] []) fine

abbrev closed : Closing → Event
closed k = by_decoder 0 (calls.DecoderCall.close k 0) fine

abbrev nontrailer : Written
nontrailer = record { stream = 0; part = 0; list = []; bytes = []; before = 0 }

-- an event that is neither of two is not among them
neither : {e x y : Event} → (e ≡ x → ⊥) → (e ≡ y → ⊥) → Memᴰ e (x ∷ y ∷ []) → ⊥
neither f g m = ⊎_elim f (λ n. ⊎_elim g Memᴰ.not-nil (Memᴰ.cases_cons n)) (Memᴰ.cases_cons m)

-- ---- a block is written and not done
abbrev none_done : List Event
none_done = wrote 0 ∷ wrote 1 ∷ []

not_first : Accepted 0 none_done → ⊥
not_first A = neither (λ e. nope (cc)) (λ e. nope (cc)) A.when

never-reset : Memᴰ (Event.reset 0) none_done → ⊥
never-reset = neither (λ e. nope (cc)) (λ e. nope (cc))

-- the trailer is not offered before it
trailer-too-early : Rules (none_done ++ (offered 1 1 ∷ [])) → ⊥
unfolding written_from at
trailer-too-early R = not_first (R.trailers none_done [] 1 0 [] [] fine refl 0 nontrailer refl refl refl)

-- nor is the stream told as ended, nor its non-trailer part as over
ended-too-early : Rules (none_done ++ (closed ended ∷ [])) → ⊥
unfolding written_from at
ended-too-early R = ⊎_elim (λ f. not_first (f 0 nontrailer refl refl)) never-reset (R.ends none_done [] 0 0 fine refl refl)

over-too-early : Rules (none_done ++ (closed over ∷ [])) → ⊥
unfolding written_from at
over-too-early R = ⊎_elim (λ f. not_first (f 0 nontrailer refl refl refl)) never-reset (R.overs none_done [] 0 0 fine refl refl)

-- ---- a block is written and done
abbrev one-done : List Event
one-done = wrote 0 ∷ offered 0 0 ∷ []

-- the next one is not
not-next : Accepted 1 one-done → ⊥
not-next A = neither (λ e. nope (cc)) (λ e. let z : ◌≡◌ {A = ℕ} 1 0 = cc in omega arith) A.when

not-reset : Memᴰ (Event.reset 0) one-done → ⊥
not-reset = neither (λ e. nope (cc)) (λ e. nope (cc))

-- "ever": no non-trailer block comes after "over", though all those written so far are done
late-after-over : Rules (one-done ++ (closed over ∷ wrote 0 ∷ offered 1 0 ∷ [])) → ⊥
unfolding written_from at
late-after-over R =
    ⊎_elim (λ f. not-next (f 1 nontrailer refl refl refl)) not-reset (R.overs one-done (wrote 0 ∷ offered 1 0 ∷ []) 0 0 fine refl refl)

-- nor any block after "ended"
late-after-ended : Rules (one-done ++ (closed ended ∷ wrote 0 ∷ offered 1 0 ∷ [])) → ⊥
unfolding written_from at
late-after-ended R =
    ⊎_elim (λ f. not-next (f 1 nontrailer refl refl)) not-reset (R.ends one-done (wrote 0 ∷ offered 1 0 ∷ []) 0 0 fine refl refl)
