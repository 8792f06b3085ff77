-- The last of 128. The state after the reads is computed on the model. Collects are not: a delete whose lists name nothing is ready, and where all are ready
-- each collect with room frees the first, by induction over the deletes.
use mathlib.Core.Path.{◌≡◌, refl, sym, ap, ◌∙◌, subst}
use mathlib.Core.Logic.{⊎_elim}
use Prim.Native.Nat.{ℕ, zero, suc, ◌≤◌}
use native.Mathlib.Omega.{arith}
use mathlib.Core.Bool.{Bool, true, false}
use mathlib.Core.Option
use mathlib.Core.Option.{some}
use mathlib.Core.List.{List, [], ◌∷◌, ◌++◌, map, Memᴰ}
use lib.ListN.{length, take, replicate, length-replicate}
use lib.Seq.{take_all}
use lib.Dec.{leb}
use borrow.Author.Tests.{le-leb}
use Rattle.memory.specs.Choice.{pick}
use Rattle.memory.specs.Bytes.{Small}
use Rattle.memory.specs.Compare.{same}
use Rattle.memory.proofs.Order.{need-true, not-both}
use Rattle.integers.specs.Answers.{no_room}
use Rattle.stream_lists.specs.StreamList.{names, listed}
use Rattle.instructions.specs.Instruction.{acknowledge, instruction_wire}
use Rattle.instructions.proofs.Lengths.{acknowledge-length}
use Rattle.model.specs.Table.{look, cut, first}
use Rattle.model.specs.Parts.{Part, nontrailer, trailer, Marks, no_marks, Delete, names_part, streams, is_ready}
use Rattle.model.specs.Outcome.{Outcome, instruction, output_bytes, refuse, finish}
use Rattle.model.specs.Decoder.{Held, delete_index, Decoder, start_decoder, delete_of, ready_delete, ready, next_freed, without, free_entry, collect_entry}
use Rattle.model.specs.DecoderCalls.{decoder_call, after_decoder}
use Rattle.model.specs.DecoderCalls as at-decoder
use Rattle.model.specs.Encoder.{empty_list}
use Rattle.model_laws.proofs.Tables.{pick_yes, pick-lt}
use Rattle.model_laws.proofs.Marks.{OpenPart, ready-or}
use Rattle.model_laws.proofs.Collects.{collected_by, collected_since}
use Rattle.state.specs.Layout.{decoder_length}
use Rattle.decoder.specs.Calls.{start_call}
use Rattle.link.specs.Calls.{DecoderCall, collect, AllDecoderBytes, decoder_after}
use Rattle.link_further.specs.Collects.{collected}
use Rattle.link.proofs.Lifted.{decoder_call_of, StandsDecoder}
use Rattle.link.proofs.DecoderLifting.{start-decoder}
use Rattle.link.proofs.Runs.{decoder_calls_of, after-decoder}
use Rattle.link.proofs.CallTests.{all-decoder-given}
use Rattle.link.proofs.DecoderHistory.{ready-enquiry}
use Rattle.link_further.proofs.CollectsClaim.{collected-since}
use Rattle.link_further.proofs.TableStarts.{decoder-starts, small-zeros}
use Rattle.link_examples.specs.Last.{indexes, inserts, deletes, collects, LastOf128, LastClaim}
use Rattle.link_examples.proofs.ListTests.{any, member-any}
use Rattle.link_examples.proofs.Computing.{computed}

-- ---- the state after the reads
unfoldable state_after : List DecoderCall → Decoder
unfolding computed decoder_calls_of after_decoder
state_after cs = after_decoder (start_decoder 4096) (decoder_calls_of (start_decoder 4096) cs)

abbrev empty-at : ℕ → Held
empty-at i = record { index = i; entry = record { name = []; value = [] } }

abbrev delete-at : ℕ → Delete
delete-at i = record { index = i; nontrailer = empty_list 0; trailer = empty_list 0 }

unfoldable full : Decoder
full = record { limit = 4096; entries = map empty-at (indexes 128 62); deletes = map delete-at (indexes 128 62); finished = no_marks }

is-full : state_after (inserts ++ deletes) ≡ full
unfolding state_after full indexes inserts deletes
is-full = refl

-- ---- a delete whose lists name nothing is ready, whatever is finished
names-nothing : (i s : ℕ) (p : Part) → names_part (delete-at i) s p ≡ false
unfolding names_part names listed
names-nothing i s nontrailer = pick-lt (λ (b : Bool). b ≡ false) s 0 true false (λ h. absurd (omega arith)) (λ h. refl)
names-nothing i s trailer = pick-lt (λ (b : Bool). b ≡ false) s 0 true false (λ h. absurd (omega arith)) (λ h. refl)

ready-at-once : (marks : Marks) (i : ℕ) → is_ready marks (delete-at i) ≡ true
ready-at-once marks i =
    ⊎_elim (λ r. r)
    (λ (o : OpenPart marks (delete-at i) streams). not-both (names_part (delete-at i) o.stream o.part) o.named (names-nothing i o.stream o.part))
    (ready-or marks (delete-at i))

-- ---- collects free such deletes in turn
abbrev acknowledgement : ℕ → List ℕ
acknowledgement i = instruction_wire (acknowledge i)

module _ (D : Decoder) (i : ℕ) (is : List ℕ) (e : D.deletes ≡ map delete-at (i ∷ is)) where
  first-ready : ready D i ≡ true
  unfolding ready ready_delete delete_of look
  first-ready =
      ap (λ (l : List Delete). ready_delete D.finished (look delete_index i l)) e
      ∙ ap (ready_delete D.finished) (pick_yes i i (some (delete-at i)) (look delete_index i (map delete-at is)) refl) ∙ ready-at-once D.finished i

  first_next : next_freed D ≡ some i
  unfolding next_freed first
  first_next =
      let test : Delete → Bool = λ d. ready D d.index in
      ap (λ (l : List Delete). Option.map delete_index (first test l)) e
      ∙ ap (λ (b : Bool). Option.map delete_index (pick b (some (delete-at i)) (first test (map delete-at is)))) first-ready

  first_freed : decoder_call D (at-decoder.collect 5) ≡ finish (without D i) (length (acknowledgement i)) 0 (instruction (acknowledge i))
  unfolding decoder_call collect_entry free_entry
  first_freed =
      ap (free_entry D 5) first_next
      ∙ need-true (leb (length (acknowledgement i)) 5) (refuse D no_room) _ (le-leb (length (acknowledgement i)) 5 (acknowledge-length i).1)

  others-left : (without D i).deletes ≡ map delete-at is
  unfolding without cut
  others-left = ap (cut delete_index i) e ∙ pick_yes i i (map delete-at is) (delete-at i ∷ cut delete_index i (map delete-at is)) refl

in-turn : (D : Decoder) (is : List ℕ) → D.deletes ≡ map delete-at is → (n : ℕ) → n ≤ length is
    → collected_since D (replicate n (at-decoder.collect 5)) ≡ map acknowledgement (take n is)
unfolding collected_since collected_by output_bytes
in-turn D is e zero h = refl
in-turn D [] e (suc n) h = absurd (omega arith)
in-turn D (i ∷ is) e (suc n) h =
    ap (λ (o : Outcome Decoder). collected_by (at-decoder.collect 5) o ++ collected_since o.state (replicate n (at-decoder.collect 5))) (first_freed D i is e)
    ∙ ap (λ (l : List (List ℕ)). acknowledgement i ∷ l) (in-turn (without D i) is (others-left D i is e) n (omega arith))

-- ---- what 127 and 128 of them write, by computing
count : length (indexes 128 62) ≡ 128
unfolding indexes
count = refl

count-127 : length (map acknowledgement (take 127 (indexes 128 62))) ≡ 127
unfolding indexes
count-127 = refl

absent : any (same (acknowledgement 189)) (map acknowledgement (take 127 (indexes 128 62))) ≡ false
unfolding computed indexes
absent = refl

itself : same (acknowledgement 189) (acknowledgement 189) ≡ true
unfolding computed
itself = refl

last-of-all : map acknowledgement (take 128 (indexes 128 62)) ≡ map acknowledgement (take 127 (indexes 128 62)) ++ (acknowledgement 189 ∷ [])
unfolding indexes
last-of-all = refl

-- ---- on memory
calls_are : (n : ℕ) (D : Decoder) → decoder_calls_of D (replicate n (collect (replicate 5 0))) ≡ replicate n (at-decoder.collect 5)
unfolding decoder_calls_of decoder_call_of
calls_are zero D = refl
calls_are (suc n) D = ap (λ (l : List at-decoder.DecoderCall). at-decoder.collect 5 ∷ l) (calls_are n _)

collects-bytes : (n : ℕ) → AllDecoderBytes (replicate n (collect (replicate 5 0)))
collects-bytes zero = tt
collects-bytes (suc n) = (small-zeros 5, collects-bytes n)

reads_bytes : AllDecoderBytes (inserts ++ deletes)
unfolding computed indexes inserts deletes
reads_bytes = all-decoder-given (inserts ++ deletes) refl

module _ (m : List ℕ) (small : Small m) (started : (start_call m 4096).answer.number ≡ 0) where
  abbrev after : List ℕ
  after = decoder_after (start_call m 4096).memory (inserts ++ deletes)

  stands : StandsDecoder after full
  unfolding state_after
  stands = subst (StandsDecoder after) is-full (after-decoder _ (start_decoder 4096) (start-decoder m 4096 small started) (inserts ++ deletes) reads_bytes)

  freed : (n : ℕ) → n ≤ 128 → collected after (collects n) ≡ map acknowledgement (take n (indexes 128 62))
  unfolding collects full
  freed n h =
      collected-since after full stands (collects n) (collects-bytes n) ∙ ap (collected_since full) (calls_are n full) ∙ in-turn full (indexes 128 62) refl n (omega (arith, count))

  last-ready : ready full 189 ≡ true
  unfolding ready ready_delete delete_of look full indexes
  last-ready = ready-at-once no_marks 189

  pub last : LastOf128 after
  last = record {
    ready = ready-enquiry after full stands 189 (ap (λ (C : Decoder). ready C 189) stands.state ∙ last-ready);
    done = ap length (freed 127 (omega arith)) ∙ count-127;
    not_yet = λ there.
        not-both (any (same (acknowledgement 189)) (map acknowledgement (take 127 (indexes 128 62))))
        (member-any (same (acknowledgement 189)) _ (acknowledgement 189) (subst (Memᴰ (acknowledgement 189)) (freed 127 (omega arith)) there) itself) absent;
    then = freed 128 (omega arith) ∙ last-of-all ∙ sym (ap (λ (l : List (List ℕ)). l ++ (acknowledgement 189 ∷ [])) (freed 127 (omega arith)));
  }

-- ---- the claim
zeros : List ℕ
zeros = replicate decoder_length 0

pub last-claim : LastClaim
unfolding zeros collects
last-claim = record {
  last_of_128 = last;
  not_127 = λ claim.
      let small = small-zeros decoder_length in
      let started = decoder-starts zeros 4096 (omega arith) (length-replicate {A = ℕ} decoder_length 0) in
      let stand = stands zeros small started in
      let L = last zeros small started in
      L.not_yet (subst (Memᴰ (acknowledgement 189)) (take_all 127 _ (omega (arith, L.done)))
      (claim (after zeros small started) stand.small stand.forms 189 L.ready (collects 127) (collects-bytes 127) (omega (arith, L.done))));
}
