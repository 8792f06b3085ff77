-- An insert of an entry whose name is known: what was judged of it is what the model answers.
-- By the tests in their order, which both sides have; the table's numbers are the model's.
use mathlib.Core.Path.{◌≡◌, refl, sym, ap, ap₂, subst, ◌∙◌}
use Prim.Native.Nat.{ℕ, ◌+◌, ◌≤◌}
use native.Mathlib.Omega.{arith}
use mathlib.Core.Bool.{Bool, true, false, not}
use mathlib.Core.Option.{Option, some}
use mathlib.Core.List.{List}
use lib.ListN.{length}
use lib.Dec.{leb}
use borrow.Author.Tests.{leb-true}
use Rattle.memory.specs.Choice.{need}
use Rattle.memory.proofs.Order.{need-true, need-false}
use Rattle.integers.specs.Answers.{done, refusal, over_limit, number_of}
use Rattle.integers.specs.declared.answer.Refusal.{Refusal}
use Rattle.integers.specs.declared.answer.Refusal.TheVariants.{Held as AlreadyHeld, OverLimit}
use Rattle.instructions.specs.Instruction.{FineIndex}
use Rattle.model.specs.Table.{size, put}
use Rattle.model.specs.Outcome.{nothing, Outcome, refuse, finish}
use Rattle.model.specs.Decoder.{Held, Decoder, held_index, held_size, is_some, with_entries, insert_named}
use Rattle.state.specs.Layout.{limit_of, held_of, count_of}
use Rattle.state.specs.DecoderState.{decoder_of}
use Rattle.table_search.specs.Search.{find_from}
use Rattle.table.specs.Changes.{Opening, inserted}
use Rattle.table_laws.specs.DecoderChanges.{missing}
use Rattle.table_laws.proofs.Room.{room-claim}
use Rattle.decoder.proofs.Standing.{Stands, Leaves, steps, changes, low-limit, stays}
use Rattle.std.specs.Prelude.{Result, Ok, Err}
use Rattle.decoder_insert.specs.Inserts.{named_insert, judge_found, judged}

-- ---- the judge's ways

module _ (m : List ℕ) (x entry place : ℕ) where
  pub judged-held : find_from m x (count_of m) 0 ≡ Ok place → judged m x entry ≡ Err AlreadyHeld
  unfolding judged
  judged-held e = ap (judge_found m entry) e

  module _ (e : find_from m x (count_of m) 0 ≡ Err place) where
    judged-vacant : judged m x entry
        ≡ need (leb (held_of m + entry) (limit_of m)) (Err OverLimit) (Ok place)
    unfolding judged
    judged-vacant = ap (judge_found m entry) e

    pub judged-over : leb (held_of m + entry) (limit_of m) ≡ false → judged m x entry ≡ Err OverLimit
    judged-over h = judged-vacant ∙ need-false _ _ _ h

    pub judged-room : leb (held_of m + entry) (limit_of m) ≡ true → judged m x entry ≡ Ok place
    judged-room h = judged-vacant ∙ need-true _ _ _ h

-- ---- the judge's answer beside the model's

-- what was judged of an entry whose name and value have n and v bytes
pub record Judgement (m : List ℕ) (x : ℕ) (name value : List ℕ) (n v : ℕ) (j : Result ℕ Refusal) : Type 0 where
  pub name-is : length name ≡ n
  pub value-is : length value ≡ v
  pub told : j ≡ judged m x (n + v + 32)
  pub short : n ≤ 255

-- by the lengths that the judge was given
pub sized : {m name value : List ℕ} {x n v a b : ℕ} {j : Result ℕ Refusal} → length name ≡ n → length value ≡ v → n ≤ 255 → a ≡ n → b ≡ v
    → j ≡ judged m x (a + b + 32) → Judgement m x name value n v j
sized {m} {x = x} d e h f g told = record { name-is = d; value-is = e; told = told ∙ ap (judged m x) (ap₂ (λ (c k : ℕ). c + k + 32) f g); short = h }

module _ (m : List ℕ) (st : Stands m) (x : ℕ) (name value : List ℕ) (taken : ℕ) where
  abbrev model : Outcome Decoder
  model = insert_named (decoder_of m) x value taken (some name)

  abbrev grown : Decoder
  grown = with_entries (decoder_of m) (put held_index (record { index = x; entry = record { name = name; value = value } }) (decoder_of m).entries)

  abbrev entry : ℕ
  entry = length name + length value + 32

  -- a place that was found: it is vacant, and there is room
  record Vacancy (place : ℕ) : Type 0 where
    vacant : missing m x place
    room : held_of m + entry ≤ limit_of m

  abbrev Agree : Result ℕ Refusal → Outcome Decoder → Type 0
  Agree (Ok place) o = Vacancy place × (o ≡ finish grown taken 0 nothing)
  Agree (Err why) o = o ≡ refuse (decoder_of m) (number_of why)

  agree-need : (b b' : Bool) (j j' : Result ℕ Refusal) (o o' : Outcome Decoder) → b ≡ b' → Agree j o → (b ≡ true → Agree j' o')
      → Agree (need b j j') (need b' o o')
  agree-need true b' j j' o o' e h f = subst (λ (t : Bool). Agree j' (need t o o')) e (f refl)
  agree-need false b' j j' o o' e h f = subst (λ (t : Bool). Agree j (need t o o')) e h

  agree-found : (f : Result ℕ ℕ) → find_from m x (count_of m) 0 ≡ f → Agree (judge_found m entry f) model
  unfolding insert_named size
  agree-found (Ok place) e = need-false _ _ _ (ap (λ (o : Option Held). not (is_some o)) ((changes m st).here x place e).1)
  agree-found (Err place) e =
      let C = changes m st in
      subst (Agree (judge_found m entry (Err place))) (sym (need-true _ _ _ (ap (λ (o : Option Held). not (is_some o)) (C.nowhere x place e))))
      (agree-need (leb (held_of m + entry) (limit_of m)) (leb (held_size (decoder_of m).entries + entry) (decoder_of m).limit) (Err OverLimit) (Ok place)
      (refuse (decoder_of m) over_limit) (finish grown taken 0 nothing) (ap₂ leb (ap (λ (h : ℕ). h + entry) C.held) C.limit) refl
      (λ room. (record { vacant = e; room = leb-true _ _ room }, refl)))

  module _ (n v : ℕ) (j : Result ℕ Refusal) (J : Judgement m x name value n v j) where
    agree : Agree j model
    unfolding judged
    agree =
        let e : entry ≡ n + v + 32 = omega (arith, J.name-is, J.value-is) in
        subst (λ (t : Result ℕ Refusal). Agree t model) (ap (judged m x) e ∙ sym J.told) (agree-found (find_from m x (count_of m) 0) refl)

    pub insert-refused : (why : Refusal) → j ≡ Err why → Leaves (named_insert m x name value taken) (refusal (number_of why)) m
    insert-refused why e = stays m st model (number_of why) (subst (λ (t : Result ℕ Refusal). Agree t model) e agree)

    module _ (place : ℕ) (e : j ≡ Ok place) where
      admitted : Vacancy place × (model ≡ finish grown taken 0 nothing)
      admitted = subst (λ (t : Result ℕ Refusal). Agree t model) e agree

      fits : held_of m + (n + v + 32) ≤ 4096
      fits = omega (arith, admitted.0.room, low-limit m st, J.name-is, J.value-is)

      pub insert-vacant : missing m x place
      insert-vacant = admitted.0.vacant

      -- "otherwise room is always found"
      pub insert-opening : Opening m place n v
      insert-opening = (changes m st).opening x place n v insert-vacant fits (room-claim.decoder m st.forms (n + v) fits) J.short

      pub insert-done : FineIndex x → Leaves (named_insert m x name value taken) (done taken 0) (inserted m place x name value)
      insert-done fine =
          steps m model grown taken 0 _ admitted.1
          ((changes m st).insert x place name value insert-vacant fine (omega (arith, fits, J.name-is, J.value-is))
          (room-claim.decoder m st.forms (n + v) fits) (omega (arith, J.name-is, J.short)))
