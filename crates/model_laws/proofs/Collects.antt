-- "No deletion forgotten" (request 14) on the model: an entry that is ready is acknowledged, and the sooner the fewer deletes arrived before its own.
-- The delete waits behind those before it, and marks are never taken back, so it stays ready. A collect that is done frees the first that is ready: this
-- one, or one before it, which then are one fewer. Every other call leaves them, or adds a delete behind.
use mathlib.Core.Path.{◌≡◌, refl, sym, ap, ◌∙◌, subst}
use mathlib.Core.Logic.{◌⊎◌, inl, inr}
use Prim.Native.Nat.{ℕ, suc, ◌≤◌, ◌<◌}
use native.Mathlib.Omega.{arith}
use mathlib.Core.Bool.{Bool, true}
use mathlib.Core.Option.{Option, none, some, map}
use mathlib.Core.List.{List, [], ◌∷◌, ◌++◌, append_assoc, Memᴰ}
use lib.ListN.{length, take}
use lib.Dec.{eqb}
use Rattle.memory.specs.Choice.{pick}
use Rattle.memory.proofs.Order.{pick-false}
use Rattle.instructions.specs.Instruction.{insert, delete, acknowledge, instruction_wire}
use Rattle.model.specs.Table.{look, cut, first}
use Rattle.model.specs.Parts.{Part, Marks, Delete, block_marks, closed, is_ready}
use Rattle.model.specs.Outcome.{Outcome, nothing, instruction, output_bytes, finish}
use Rattle.model.specs.Decoder.{held_index, delete_index, Decoder, delete_of, ready_delete, ready, next_freed, without, FormsDecoder}
use Rattle.model.specs.DecoderCalls.{DecoderCall, read, block, close, collect, hold, unread, decoder_call}
use Rattle.model_laws.specs.Ready.{FineCalls}
use Rattle.model_laws.proofs.Tables.{nope, length_cut}
use Rattle.model_laws.proofs.Deletes.{asc-distinct, look-placed, cut_left, first-left, first-right, first-there, no_more}
use Rattle.model_laws.proofs.Marks.{block-keeps, closed-keeps, ready-keeps}
use Rattle.model_laws.proofs.DecoderWays as ways
use Rattle.model_laws.proofs.Forms.{delete-held, forms-call}

-- ---- what each collect that is done wrote
unfoldable pub collected_by : DecoderCall → Outcome Decoder → List (List ℕ)
collected_by (read i taken) o = []
collected_by (block s part rs room) o = []
collected_by (close k s) o = []
collected_by (collect room) o = pick (eqb o.answer.number 0) (output_bytes o.output ∷ []) []
collected_by (hold i) o = []
collected_by (unread number) o = []

unfoldable pub collected_since : Decoder → List DecoderCall → List (List ℕ)
collected_since D [] = []
collected_since D (c ∷ cs) = collected_by c (decoder_call D c) ++ collected_since (decoder_call D c).state cs

-- ---- a delete that waits behind those that arrived before it, all its named parts finished
pub record Waiting (deletes : List Delete) (finished : Marks) (before : List Delete) (d : Delete) : Type 0 where
  pub behind : List Delete
  pub place : deletes ≡ before ++ (d ∷ behind)
  pub now : is_ready finished d ≡ true

-- what a call leaves: it waits as it did; or it is acknowledged; or one before it is, and it waits behind one fewer
data Next (before : List Delete) (d : Delete) (c : DecoderCall) (o : Outcome Decoder) : Type 0 where
  waits : collected_by c o ≡ [] → Waiting o.state.deletes o.state.finished before d → Next before d c o
  acknowledged : collected_by c o ≡ instruction_wire (acknowledge d.index) ∷ [] → Next before d c o
  nearer : (x : List ℕ) (fewer : List Delete) → collected_by c o ≡ x ∷ [] → suc (length fewer) ≡ length before
      → Waiting o.state.deletes o.state.finished fewer d → Next before d c o

module _ (D : Decoder) (F : FormsDecoder D) (before : List Delete) (d : Delete) (W : Waiting D.deletes D.finished before d) where
  more : (marks : Marks) → ((s : ℕ) (p : Part) → D.finished s p ≡ true → marks s p ≡ true) → Waiting D.deletes marks before d
  more marks keeps = record { behind = W.behind; place = W.place; now = ready-keeps D.finished marks d keeps W.now }

  -- a delete read later stands behind
  added : (e : Delete) → Waiting (D.deletes ++ (e ∷ [])) D.finished before d
  added e = record {
    behind = W.behind ++ (e ∷ []);
    place = ap (λ (l : List Delete). l ++ (e ∷ [])) W.place ∙ append_assoc before (d ∷ W.behind) (e ∷ []);
    now = W.now;
  }

  is-ready : ready D d.index ≡ true
  unfolding ready ready_delete delete_of
  is-ready =
      ap (ready_delete D.finished) (look-placed delete_index D.deletes before W.behind d W.place F.once) ∙ W.now

  -- the entry that is freed next: this one, or one whose delete is among those before it
  Sooner : Type 0
  Sooner = (i : ℕ) × (e : Delete) × (next_freed D ≡ some i) × (look delete_index i before ≡ some e)

  next : (next_freed D ≡ some d.index) ⊎ Sooner
  unfolding next_freed first Sooner
  next = go (first test before) refl
    where
      test : Delete → Bool
      test e = ready D e.index

      freed : (e : Delete) → first test (before ++ (d ∷ W.behind)) ≡ some e
          → map delete_index (first test D.deletes) ≡ some e.index
      freed e q = ap (λ (l : List Delete). map delete_index (first test l)) W.place ∙ ap (map delete_index) q

      own : first test (d ∷ W.behind) ≡ some d
      own = ap (λ (b : Bool). pick b (some d) (first test W.behind)) is-ready

      go : (o : Option Delete) → first test before ≡ o
          → (map delete_index (first test D.deletes) ≡ some d.index) ⊎ Sooner
      go none q = inl (freed d (first-right delete_index test before (d ∷ W.behind) q ∙ own))
      go (some e) q =
          let y = first-there delete_index test before e q in
          inr (e.index, y.0, freed e (first-left delete_index test before (d ∷ W.behind) e q), y.1)

  -- ---- a call
  freeing : (room i : ℕ) → next_freed D ≡ some i → (next_freed D ≡ some d.index) ⊎ Sooner
      → Next before d (collect room) (finish (without D i) (length (instruction_wire (acknowledge i))) 0 (instruction (acknowledge i)))
  unfolding collected_by output_bytes without Sooner
  freeing room i q (inl own) = let same : i ≡ d.index = cc in acknowledged (ap (λ (k : ℕ). instruction_wire (acknowledge k) ∷ []) same)
  freeing room i q (inr s) =
      let same : i ≡ s.0 = cc in
      let there : look delete_index i before ≡ some s.1 = ap (λ (k : ℕ). look delete_index k before) same ∙ s.3 in
      let short = length_cut delete_index i before s.1 there in
      nearer (instruction_wire (acknowledge i)) (cut delete_index i before) refl (omega arith)
      (record {
        behind = W.behind;
        place = ap (cut delete_index i) W.place ∙ cut_left delete_index i before (d ∷ W.behind) s.1 there;
        now = W.now;
      })

  -- while one is ready no collect that is done is idle
  idle : (room : ℕ) → next_freed D ≡ none → (next_freed D ≡ some d.index) ⊎ Sooner → Next before d (collect room) (finish D 0 0 nothing)
  unfolding Sooner
  idle room q (inl own) = nope (cc)
  idle room q (inr s) = let t = s.2 in nope (cc)

  abbrev After : DecoderCall → Outcome Decoder → Type 0
  After c o = Next before d c o

  call_next : (c : DecoderCall) → After c (decoder_call D c)
  unfolding decoder_call collected_by
  call_next (read (insert i name value) taken) =
      ways.insert-ways (After (read (insert i name value) taken)) D (λ a z. waits refl W) i name value taken (λ xs e n f. waits refl W)
  call_next (read (delete i first last) taken) =
      ways.delete-ways (After (read (delete i first last) taken)) D (λ a z. waits refl W) i first last taken
      (λ h e f. waits refl (added (record { index = i; nontrailer = first; trailer = last })))
  call_next (read (acknowledge i) taken) = ways.acknowledge-ways (After (read (acknowledge i) taken)) D (λ a z. waits refl W) i taken
  call_next (block s part rs room) =
      ways.block-ways (After (block s part rs room)) D (λ a z. waits refl W) s part rs room
      (λ p fs e low turn m fits. waits refl (more (block_marks p s D.finished) (λ t q h. block-keeps p s D.finished t q h)))
  call_next (close k s) =
      ways.close-ways (After (close k s)) D (λ a z. waits refl W) k s
      (λ low. waits refl (more (closed k s D.finished) (λ t q h. closed-keeps k s D.finished t q h)))
  call_next (collect room) =
      ways.collect-ways (After (collect room)) D (λ a z. waits (pick-false (eqb a.number 0) _ _ z) W) room (λ q. idle room q next)
      (λ i q fits. freeing room i q next)
  call_next (hold i) = ways.hold-ways (After (hold i)) D (λ a z. waits refl W) i (λ e q. waits refl W)
  call_next (unread number) = waits refl W

-- ---- lists of calls: with so many deletes before it, one collect more is enough
abbrev Found : ℕ → List Delete → List (List ℕ) → Type 0
Found i before xs = length before < length xs → Memᴰ (instruction_wire (acknowledge i)) (take (suc (length before)) xs)

-- by what the first call wrote
found-by : (i : ℕ) (before : List Delete) (xs ys rest : List (List ℕ)) → xs ≡ ys → Found i before (ys ++ rest) → Found i before (xs ++ rest)
found-by i before xs ys rest e = subst (λ (l : List (List ℕ)). Found i before (l ++ rest)) (sym e)

pub by_place : (D : Decoder) → FormsDecoder D → (before : List Delete) (d : Delete) → Waiting D.deletes D.finished before d
    → (cs : List DecoderCall) → FineCalls cs → Found d.index before (collected_since D cs)
unfolding collected_since
by_place D F before d W [] f h = absurd (omega arith)
by_place D F before d W (c ∷ cs) f h =
    go (call_next D F before d W c) (λ fewer w. by_place (decoder_call D c).state (forms-call D c F f.0) fewer d w cs f.1) h
  where
    go : Next before d c (decoder_call D c)
        → ((fewer : List Delete) → Waiting (decoder_call D c).state.deletes (decoder_call D c).state.finished fewer d
        → Found d.index fewer (collected_since (decoder_call D c).state cs))
        → Found d.index before (collected_by c (decoder_call D c) ++ collected_since (decoder_call D c).state cs)
    go (waits e w) r = found-by d.index before _ [] _ e (r before w)
    go (acknowledged e) r = found-by d.index before _ (instruction_wire (acknowledge d.index) ∷ []) _ e (λ k. Memᴰ.head refl)
    go (nearer x fewer e short w) r =
        found-by d.index before _ (x ∷ []) _ e (λ k. rw (← short) (Memᴰ.tail (r fewer w (omega arith))))

-- ---- each delete has an entry of its own, so they are no more than 128
pub few-deletes : (D : Decoder) → FormsDecoder D → length D.deletes ≤ 128
unfolding delete_of
few-deletes D F =
    let n = no_more delete_index held_index D.deletes D.entries F.once (asc-distinct held_index 62 D.entries F.order) (delete-held D F) in
    omega (arith, F.few)
