-- A decoder's state stays well formed: from the start, through every call that the reading can give, and so after every list of them.
-- A refusal keeps the state; what is done is one of the table's changes.
use mathlib.Core.Path.{◌≡◌, refl, sym, ap, subst, ◌∙◌}
use Prim.Native.Nat.{ℕ, ◌≤◌}
use native.Mathlib.Omega.{arith}
use mathlib.Core.Bool.{Bool, true, false}
use mathlib.Core.Option.{Option, none, some, map}
use mathlib.Core.List.{List, [], ◌∷◌}
use lib.ListN.{length}
use Rattle.memory.proofs.Order.{pick-both, not-both}
use Rattle.wire.specs.Name.{Name, indexed, literal, FineName}
use Rattle.statics.specs.Table.{entry_at}
use Rattle.statics.proofs.Places.{name-most}
use Rattle.instructions.specs.Instruction.{Instruction, insert, delete, acknowledge, FineInstruction}
use Rattle.blocks.specs.Meaning.{Slot, holds, is_static, with_statics}
use Rattle.model.specs.Table.{look, first, total}
use Rattle.model.specs.Parts.{block_marks, closed, Delete}
use Rattle.model.specs.Outcome.{Outcome}
use Rattle.model.specs.Decoder.{Held, held_index, delete_index, Decoder, held_size, slot_in, lookup, delete_of, start_decoder, slot_name, name_bytes, is_some}
use Rattle.model.specs.Decoder.{read_instruction, ready_delete, ready, next_freed, FineHeld, FormsDecoder}
use Rattle.model.specs.DecoderCalls.{DecoderCall, read, block, close, collect, hold, unread, decoder_call, after_decoder}
use Rattle.model_laws.specs.Ready.{FineCall, FineCalls}
use Rattle.model_laws.proofs.Tables.{nope, look-index}
use Rattle.model_laws.proofs.Deletes.{first_of}
use Rattle.model_laws.proofs.DecoderWays.{some-found, new_held, insert-ways, delete-ways, acknowledge-ways, block-ways, close-ways, collect-ways, hold-ways}
use Rattle.model_laws.proofs.TableChanges.{forms-finished, forms-put, forms-delete, forms-free}

pub forms-start : (limit : ℕ) → limit ≤ 4096 → FormsDecoder (start_decoder limit)
unfolding start_decoder held_size look total
forms-start limit h =
    record { limit = h; fits = omega arith; few = omega arith; order = tt; entries = λ i x e. nope (cc); deletes = λ i d e. nope (cc); once = tt }

module _ (D : Decoder) (F : FormsDecoder D) where
  -- a name that was found is short
  slot-name : (o : Option Held) → ((h : Held) → o ≡ some h → FineHeld h) → (name : List ℕ) → slot_name (slot_in o) ≡ some name → length name ≤ 255
  unfolding slot_name slot_in
  slot-name none f name e = nope (cc)
  slot-name (some h) f name e = let same : h.entry.name ≡ name = cc in subst (λ (l : List ℕ). length l ≤ 255) same (f h refl).name

  static-name : (i : ℕ) (name : List ℕ) → slot_name (holds (entry_at i)) ≡ some name → length name ≤ 255
  unfolding slot_name
  static-name i name e = let same : (entry_at i).name ≡ name = cc in subst (λ (l : List ℕ). length l ≤ 255) same (name-most i)

  index-name : (i : ℕ) (name : List ℕ) → slot_name (lookup D i) ≡ some name → length name ≤ 255
  unfolding lookup with_statics
  index-name i name e =
      pick-both (λ (s : Slot). slot_name s ≡ some name → length name ≤ 255) (is_static i) (holds (entry_at i)) (slot_in (look held_index i D.entries))
      (λ t q. static-name i name q)
      (λ t q. slot-name (look held_index i D.entries) (F.entries i) name q)
      e

  pub name-fits : (n : Name) → FineName n → (name : List ℕ) → name_bytes (lookup D) n ≡ some name → length name ≤ 255
  unfolding name_bytes
  name-fits (indexed i) f name e = index-name i name e
  name-fits (literal xs) f name e = let same : xs ≡ name = cc in subst (λ (l : List ℕ). length l ≤ 255) same f

  -- the entry under deletion is held
  pub delete-held : (i : ℕ) (d : Delete) → delete_of D i ≡ some d → (h : Held) × (look held_index i D.entries ≡ some h)
  unfolding delete_of
  delete-held i d e =
      let at : d.index ≡ i = look-index delete_index i D.deletes d e in
      some-found (look held_index i D.entries) (ap (λ (k : ℕ). is_some (look held_index k D.entries)) (sym at) ∙ (F.deletes i d e).held)

  -- what is ready is under deletion
  pub ready-delete : (i : ℕ) → ready D i ≡ true → (d : Delete) × (delete_of D i ≡ some d)
  unfolding ready ready_delete
  ready-delete i r = go (delete_of D i) refl r
    where
      go : (o : Option Delete) → delete_of D i ≡ o → ready_delete D.finished o ≡ true → (d : Delete) × (delete_of D i ≡ some d)
      go none e h = not-both false h refl
      go (some d) e h = (d, e)

  -- the entry that a collect frees is ready, so held
  pub freed-ready : (i : ℕ) → next_freed D ≡ some i → ready D i ≡ true
  unfolding next_freed
  freed-ready i e = go (first test D.deletes) refl e
    where
      test : Delete → Bool
      test d = ready D d.index

      go : (o : Option Delete) → first test D.deletes ≡ o → map delete_index o ≡ some i → ready D i ≡ true
      go none q h = nope (cc)
      go (some d) q h = let same : d.index ≡ i = cc in rw same at (first_of delete_index test D.deletes d q).passes

  pub freed-held : (i : ℕ) → next_freed D ≡ some i → (h : Held) × (look held_index i D.entries ≡ some h)
  freed-held i e = let d = ready-delete i (freed-ready i e) in delete-held i d.0 d.1

abbrev Keeps : Outcome Decoder → Type 0
Keeps o = FormsDecoder o.state

pub forms-read : (D : Decoder) (i : Instruction) (taken : ℕ) → FormsDecoder D → FineInstruction i → FormsDecoder (read_instruction D i taken).state
unfolding delete_of
forms-read D (insert i n value) taken F f =
    insert-ways Keeps D (λ a z. F) i n value taken
    (λ name e free fits.
    forms-put D F (new_held i name value) free (record { index = f.0; name = name-fits D F n f.1 name e; value = f.2 }) fits)
forms-read D (delete i nontrailer trailer) taken F f =
    delete-ways Keeps D (λ a z. F) i nontrailer trailer taken
    (λ h there free.
    forms-delete D F (record { index = i; nontrailer = nontrailer; trailer = trailer })
    (record { nontrailer = f.1; trailer = f.2; held = ap (λ (o : Option Held). is_some o) there }) free)
forms-read D (acknowledge i) taken F f = acknowledge-ways Keeps D (λ a z. F) i taken

pub forms-call : (D : Decoder) (c : DecoderCall) → FormsDecoder D → FineCall c → FormsDecoder (decoder_call D c).state
unfolding decoder_call
forms-call D (read i taken) F f = forms-read D i taken F f.1
forms-call D (block s part rs room) F f =
    block-ways Keeps D (λ a z. F) s part rs room (λ p fs e below turn m fits. forms-finished D F (block_marks p s D.finished))
forms-call D (close k s) F f = close-ways Keeps D (λ a z. F) k s (λ below. forms-finished D F (closed k s D.finished))
forms-call D (collect room) F f = collect-ways Keeps D (λ a z. F) room (λ e. F) (λ i e fits. let h = freed-held D F i e in forms-free D F i h.0 h.1)
forms-call D (hold i) F f = hold-ways Keeps D (λ a z. F) i (λ d e. F)
forms-call D (unread number) F f = F

pub forms-after : (D : Decoder) (cs : List DecoderCall) → FormsDecoder D → FineCalls cs → FormsDecoder (after_decoder D cs)
unfolding after_decoder
forms-after D [] F f = F
forms-after D (c ∷ cs) F f = forms-after (decoder_call D c).state cs (forms-call D c F f.0) f.1
