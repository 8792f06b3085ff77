-- The hold enquiry: what the search and the row's status say is what the model answers, and the told numbers are small.
-- By the tests in their order; at most two parts of each stream are counted.
use mathlib.Core.Path.{◌≡◌, sym, ap, ap₂, ◌∙◌}
use Prim.Native.Nat.{ℕ, zero, suc, ◌+◌, ◌*◌, ◌≤◌, ◌<◌}
use native.Mathlib.Omega.{arith}
use mathlib.Core.Bool.{Bool, true, false, ◌||◌}
use mathlib.Core.Option.{Option, none, some}
use mathlib.Core.List.{List}
use borrow.Author.Tests.{le-leb, lt-leb}
use Rattle.std.specs.Prelude as std
use Rattle.memory.specs.Choice.{pick}
use Rattle.memory.proofs.Order.{need-true, need-false}
use Rattle.integers.specs.Answers.{done, refusal, not_allowed, vacant, not_under_deletion, no_state}
use Rattle.integers.specs.Integer.{largest}
use Rattle.model.specs.Parts.{Marks, Delete, nontrailer, trailer, is_open, open_below, lowest_open, streams}
use Rattle.model.specs.Outcome.{nothing, Outcome, refuse, finish}
use Rattle.model.specs.Decoder.{Held, Decoder, is_some, delete_of, enquire_hold, hold_of}
use Rattle.state.specs.Layout.{status_at}
use Rattle.state.specs.Front.{marks_of}
use Rattle.state.specs.DecoderState.{delete_at, decoder_of}
use Rattle.state.specs.Forms.{forms_decoder}
use Rattle.holds.specs.Hold.{GoodDelete, lowest_case, lowest_told}
use Rattle.integers.specs.declared.number.StreamNumber.{StreamNumber}
use Rattle.holds.proofs.Telling.{told_back}
use Rattle.table_laws.specs.DecoderChanges.{found, missing}
use Rattle.reply.specs.Result.{Result, stepped}
use Rattle.decoder.specs.Calls.{hold_call}
use Rattle.decoder.proofs.Standing.{Stands, changes}

-- ---- the told numbers

one-or-none : (b : Bool) → pick b 1 0 ≤ 1
one-or-none true = omega arith
one-or-none false = omega arith

open-few : (marks : Marks) (d : Delete) (n : ℕ) → open_below marks d n ≤ 2 * n
unfolding open_below
open-few marks d zero = omega arith
open-few marks d (suc n) =
    omega (arith, open-few marks d n, one-or-none (is_open marks d n nontrailer), one-or-none (is_open marks d n trailer))

lower_of : (b : Bool) (s x n : ℕ) → s ≤ n → x ≤ n → pick b s x ≤ n
lower_of true s x n h k = h
lower_of false s x n h k = k

lowest-few : (marks : Marks) (d : Delete) (s n : ℕ) → lowest_open marks d s n ≤ s + n
unfolding lowest_open
lowest-few marks d s zero = omega arith
lowest-few marks d s (suc n) =
    lower_of (is_open marks d s nontrailer || is_open marks d s trailer) s (lowest_open marks d (s + 1) n) (s + suc n)
    (omega arith) (omega (arith, lowest-few marks d (s + 1) n))

pub count-few : (marks : Marks) (d : Delete) (count : ℕ) → count ≡ open_below marks d streams → count ≤ 8192
count-few marks d count e = omega (arith, open-few marks d streams)

pub lowest-low : (marks : Marks) (d : Delete) → lowest_open marks d 0 streams ≤ 4096
lowest-low marks d = omega (arith, lowest-few marks d 0 streams)

pub lowest-told : (marks : Marks) (d : Delete) (x : std.Option StreamNumber) → x ≡ lowest_case (lowest_open marks d 0 streams) → lowest_told x ≡ lowest_open marks d 0 streams
lowest-told marks d x e = ap lowest_told e ∙ told_back (lowest_open marks d 0 streams) (lowest-low marks d)

-- ---- each way through the call

module _ (m : List ℕ) (index : ℕ) where
  pub hold-no-state : forms_decoder m ≡ false → refusal no_state ≡ (hold_call m index).answer
  unfolding hold_call
  hold-no-state e = sym (ap (λ (r : Result). r.answer) (need-false _ _ _ e))

  module _ (st : Stands m) where
    hold-says : (o : Outcome Decoder) → enquire_hold (decoder_of m) index ≡ o → o.answer ≡ (hold_call m index).answer
    unfolding hold_call stepped
    hold-says o e = sym (ap (λ (r : Result). r.answer) (need-true _ _ _ st.forms) ∙ ap (λ (x : Outcome Decoder). x.answer) e)

    pub hold-low : index < 62 → refusal not_allowed ≡ (hold_call m index).answer
    unfolding enquire_hold
    hold-low h = hold-says (refuse (decoder_of m) not_allowed) (need-false _ _ _ (lt-leb 62 index h))

    module _ (low : 62 ≤ index) where
      pub hold-high : largest < index → refusal not_allowed ≡ (hold_call m index).answer
      unfolding enquire_hold
      hold-high h =
          hold-says (refuse (decoder_of m) not_allowed) (need-true _ _ _ (le-leb 62 index low) ∙ need-false _ _ _ (lt-leb index largest h))

      module _ (high : index ≤ largest) (place : ℕ) where
        pub hold-vacant : missing m index place → refusal vacant ≡ (hold_call m index).answer
        unfolding enquire_hold
        hold-vacant e =
            hold-says (refuse (decoder_of m) vacant)
            (need-true _ _ _ (le-leb 62 index low) ∙ need-true _ _ _ (le-leb index largest high)
            ∙ need-false _ _ _ (ap (λ (o : Option Held). is_some o) ((changes m st).nowhere index place e)))

        module _ (e : found m index place) where
          held-hold : (o : Option Delete) → delete_of (decoder_of m) index ≡ o → enquire_hold (decoder_of m) index ≡ hold_of (decoder_of m) o
          unfolding enquire_hold
          held-hold o d =
              need-true _ _ _ (le-leb 62 index low) ∙ need-true _ _ _ (le-leb index largest high)
              ∙ need-true _ _ _ (ap (λ (o : Option Held). is_some o) ((changes m st).here index place e).1)
              ∙ ap (hold_of (decoder_of m)) d

          pub hold-live : status_at m place ≡ 0 → refusal not_under_deletion ≡ (hold_call m index).answer
          unfolding hold_of
          hold-live z = hold-says (refuse (decoder_of m) not_under_deletion) (held-hold none ((changes m st).live index place e z))

          module _ (k : ℕ) (status : status_at m place ≡ suc k) where
            pub hold-good : GoodDelete m k
            hold-good = ((changes m st).deleted index place k e status).1

            pub hold-told : (count lowest : ℕ) → count ≡ open_below (marks_of m) (delete_at m k) streams
                → lowest ≡ lowest_open (marks_of m) (delete_at m k) 0 streams → done count lowest ≡ (hold_call m index).answer
            unfolding hold_of decoder_of
            hold-told count lowest a b =
                ap₂ done a b
                ∙ hold-says (finish (decoder_of m) (open_below (marks_of m) (delete_at m k) streams) (lowest_open (marks_of m) (delete_at m k) 0 streams) nothing)
                (held-hold (some (delete_at m k)) ((changes m st).deleted index place k e status).0)
