-- "No deletion forgotten" (request 14): an entry which is ready is acknowledged within at most 128 collects that are answered done.
-- Which entry a collect frees is ReadyHalf.first_freed of Claims.
use Rattle.std.specs.Prelude.{◌≡◌, ℕ, suc, ◌≤◌, ◌<◌, true, length, take, eqb}
use mathlib.Core.List.{List, [], ◌∷◌, ◌++◌, Memᴰ}
use Rattle.memory.specs.Choice.{pick}
use Rattle.memory.specs.Bytes.{Small}
use Rattle.instructions.specs.Instruction.{acknowledge, instruction_wire}
use Rattle.model.specs.Parts.{Delete}
use Rattle.state.specs.DecoderState.{decoder_of}
use Rattle.state.specs.Forms.{forms_decoder}
use Rattle.reply.specs.Result.{Result}
use Rattle.link.specs.Calls.{DecoderCall, read, block, close, collect, hold, decoder_result, AllDecoderBytes, done_bytes}
use Rattle.link.specs.Happened.{Ready}

-- what a collect answered "done" wrote: an acknowledgement, or no bytes where none was ready. One answered 12 does not count.
unfoldable pub collected_by : DecoderCall → Result → List (List ℕ)
collected_by (read s) r = []
collected_by (block stream part s out) r = []
collected_by (close k stream) r = []
collected_by (collect out) r = pick (eqb r.answer.number 0) (done_bytes r ∷ []) []
collected_by (hold index) r = []

-- in a list of calls, from this memory on: one for each collect answered "done", in their order
unfoldable pub collected : List ℕ → List DecoderCall → List (List ℕ)
collected m [] = []
collected m (c ∷ cs) = collected_by c (decoder_result m c) ++ collected (decoder_result m c).memory cs

-- "an entry which is ready is acknowledged within at most" so many "collects that are answered done, whatever other calls, a new start apart, come between"
abbrev pub Within : ℕ → Type 0
Within n = (m : List ℕ) → Small m → forms_decoder m ≡ true → (i : ℕ) → Ready m i → (cs : List DecoderCall) → AllDecoderBytes cs → n ≤ length (collected m cs)
    → Memᴰ (instruction_wire (acknowledge i)) (take n (collected m cs))

abbrev pub enough : ℕ
enough = 128

pub record CollectsClaim : Type 0 where
  pub within : Within enough
  -- sooner by its place: with so many deletes before its own in order of arrival, within one collect more
  pub by_place : (m : List ℕ) → Small m → forms_decoder m ≡ true → (before behind : List Delete) (d : Delete)
      → (decoder_of m).deletes ≡ before ++ (d ∷ behind) → Ready m d.index → (cs : List DecoderCall) → AllDecoderBytes cs
      → length before < length (collected m cs)
      → Memᴰ (instruction_wire (acknowledge d.index)) (take (suc (length before)) (collected m cs))
