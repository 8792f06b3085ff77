-- The collect call by its ways: no state, none ready, no room, and the entry of the first ready delete freed. By the tests along that way.
-- Where nothing changes, the state is laid over the memory that it was read from, and an empty output over the lent one.
use mathlib.Core.Path.{◌≡◌, sym, ap, ap₂, ◌∙◌}
use Prim.Native.Nat.{ℕ, suc, ◌≤◌, ◌<◌}
use native.Mathlib.Omega.{arith}
use mathlib.Core.Bool.{false}
use mathlib.Core.Option.{Option, none, some}
use mathlib.Core.List.{List}
use lib.ListN.{length}
use borrow.Author.Tests.{le-leb, lt-leb}
use Rattle.memory.specs.Bytes.{overlay}
use Rattle.memory.proofs.Order.{need-true, need-false}
use Rattle.integers.specs.Answers.{Answer, done}
use Rattle.instructions.specs.Instruction.{acknowledge, instruction_wire}
use Rattle.model.specs.Outcome.{output_bytes}
use Rattle.model.specs.Decoder.{next_freed, free_entry, collect_entry}
use Rattle.state.specs.Layout.{delete_count, delete_index_at, status_at}
use Rattle.state.specs.DecoderState.{decoder_of, overlay_decoder}
use Rattle.state.specs.Forms.{forms_decoder}
use Rattle.state_laws.proofs.DecoderLaws.{decoder-laws}
use Rattle.table.specs.Changes.{removed}
use Rattle.deletes.specs.Deletes.{dropped}
use Rattle.sizes.specs.Sizes.{int_size}
use Rattle.sizes.proofs.Lengths.{acknowledge-size}
use Rattle.table_laws.specs.DecoderChanges.{DecoderStands, found}
use Rattle.reply.specs.Result.{Result, refused, stepped}
use Rattle.decoder.specs.Calls.{collect_call}
use Rattle.decoder_collect.specs.Ready.{next_from}
use Rattle.std.specs.Prelude.{Some, None}
use Rattle.decoder_collect.proofs.ReadyDeletes.{changes, none-next, next-index}

-- what a call answers and leaves, by what it is
pub leaves : {call R : Result} {answer : Answer} {memory output : List ℕ} → call ≡ R → answer ≡ R.answer → memory ≡ R.memory → output ≡ R.output
    → (answer ≡ call.answer) × ((memory ≡ call.memory) × (output ≡ call.output))
leaves e a m o = (a ∙ sym (ap (λ (r : Result). r.answer) e), (m ∙ sym (ap (λ (r : Result). r.memory) e), o ∙ sym (ap (λ (r : Result). r.output) e)))

module _ (m out : List ℕ) where
  pub no_state : forms_decoder m ≡ false → collect_call m out ≡ refused m out 17
  unfolding collect_call
  no_state e = need-false _ _ _ e

  module _ (S : DecoderStands m (decoder_of m)) where
    given : (o : Option ℕ) → next_freed (decoder_of m) ≡ o → collect_call m out ≡ stepped overlay_decoder m out (free_entry (decoder_of m) (length out) o)
    unfolding collect_call collect_entry
    given o e = need-true _ _ _ S.forms ∙ ap (λ (n : Option ℕ). stepped overlay_decoder m out (free_entry (decoder_of m) (length out) n)) e

    pub none_ready : next_from m (delete_count m) 0 ≡ None → collect_call m out ≡ record { answer = done 0 0; memory = m; output = out }
    unfolding stepped free_entry output_bytes
    none_ready e =
        given none (none-next m S e)
        ∙ ap (λ (n : List ℕ). record { answer = done 0 0; memory = n; output = out }) (decoder-laws.self m S.small S.forms)

    module _ (k : ℕ) (e : next_from m (delete_count m) 0 ≡ Some k) where
      abbrev index : ℕ
      index = delete_index_at m k

      freed : collect_call m out ≡ stepped overlay_decoder m out (free_entry (decoder_of m) (length out) (some index))
      freed = given (some index) (next-index m S k e)

      pub no_room : length out < int_size 6 index → collect_call m out ≡ refused m out 12
      unfolding stepped free_entry output_bytes
      no_room h =
          freed
          ∙ ap (stepped overlay_decoder m out)
          (need-false _ _ _ (lt-leb (length (instruction_wire (acknowledge index))) (length out) (omega (arith, acknowledge-size index))))
          ∙ ap (λ (n : List ℕ). refused n out 12) (decoder-laws.self m S.small S.forms)

      pub frees : (place : ℕ) → found m index place → status_at m place ≡ suc k → int_size 6 index ≤ length out
          → collect_call m out
          ≡ record {
            answer = done (int_size 6 index) 0;
            memory = dropped (removed m place) k;
            output = overlay out 0 (instruction_wire (acknowledge index));
          }
      unfolding stepped free_entry output_bytes
      frees place f s h =
          freed
          ∙ ap (stepped overlay_decoder m out)
          (need-true _ _ _ (le-leb (length (instruction_wire (acknowledge index))) (length out) (omega (arith, acknowledge-size index))))
          ∙ ap₂ (λ (n : ℕ) (l : List ℕ). record { answer = done n 0; memory = l; output = overlay out 0 (instruction_wire (acknowledge index)) })
          (acknowledge-size index) (sym ((changes m S).free index place k f s))
