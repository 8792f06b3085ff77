-- Which numbers stream lists are refused by: 2, 3, 19, 14. What follows one is refused by these and by its own.
-- Along the definitions, as for integers.
use Prim.Native.Nat.{ℕ, zero, suc, ◌+◌}
use mathlib.Core.List.{List, [], ◌∷◌}
use lib.Dec.{ltb, leb}
use Rattle.memory.proofs.Order.{need-both}
use Rattle.integers.specs.Answers.{truncated, too_large, padded, bad_stream_list, number_of}
use Rattle.integers.specs.Integer.{read_int}
use Rattle.integers.proofs.Told.{Told, One, RefusedBy, wider-refusals, int_refusals, int-told, told-on-int, told-on-read}
use Rattle.stream_lists.specs.StreamList.{on_deltas, read_delta, read_deltas, read_list}
use Rattle.std.specs.Prelude.{Result, Ok, Err}
use Rattle.integers.specs.declared.answer.Refusal.{Refusal}
use Rattle.integers.specs.declared.answer.Refusal.TheVariants.{BadStreamList}

abbrev pub list_refusals : List ℕ
list_refusals = truncated ∷ too_large ∷ padded ∷ bad_stream_list ∷ []

abbrev pub ListTold : {Y : Type 0} → Result Y Refusal → Type 0
ListTold r = RefusedBy list_refusals r

pub told-on-deltas : {X : Type 0} (Fine : X → Type 0) (refused : Refusal → X) → ((why : Refusal) → One list_refusals (number_of why) → Fine (refused why))
    → (r : Result ℕ Refusal) {f : ℕ → X} → Told ListTold r → ((next : ℕ) → Told Fine (f next)) → Told Fine (on_deltas refused r f)
told-on-deltas Fine refused h (Ok next) k g = g next
told-on-deltas Fine refused h (Err why) k g = record { told = h why k.told }

module _ (s : List ℕ) (at : ℕ) where
  pub delta-told : (last : ℕ) → Told ListTold (read_delta s at last)
  unfolding read_delta
  delta-told last =
      told-on-int ListTold Err (wider-refusals list_refusals int_refusals tt) (read_int 8 s at) (int-told 8 s at)
      (λ delta next. need-both (Told ListTold) (ltb 0 delta) (Err BadStreamList) _ (λ e. record { told = tt })
      (λ e. need-both (Told ListTold) (leb (last + delta) 4095) (Err BadStreamList) _ (λ d. record { told = tt }) (λ d. record { told = tt })))

deltas-told : (n : ℕ) (s : List ℕ) (at last : ℕ) → Told ListTold (read_deltas n s at last)
unfolding read_deltas
deltas-told zero s at last = record { told = tt }
deltas-told (suc n) s at last =
    told-on-read list_refusals ListTold Err (λ why r. r) (read_delta s at last) (delta-told s at last) (λ x next. deltas-told n s next x.value)

pub list-told : (s : List ℕ) (at : ℕ) → Told ListTold (read_list s at)
unfolding read_list
list-told s at =
    told-on-int ListTold Err (wider-refusals list_refusals int_refusals tt) (read_int 8 s at) (int-told 8 s at)
    (λ horizon after. need-both (Told ListTold) (leb horizon 4096) (Err BadStreamList) _ (λ e. record { told = tt })
    (λ e. told-on-int ListTold Err (wider-refusals list_refusals int_refusals tt) (read_int 8 s after) (int-told 8 s after)
    (λ count deltas. need-both (Told ListTold) (leb count 16) (Err BadStreamList) _ (λ d. record { told = tt })
    (λ d. told-on-deltas ListTold Err (λ why r. r) (read_deltas count s deltas horizon) (deltas-told count s deltas horizon)
    (λ next. record { told = tt })))))
