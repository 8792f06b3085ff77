-- What is said is fine: every instruction and every block that an encoder in a well formed state writes can be said on the wire, and a decoder
-- writes Delete-Acks alone. An index that is chosen is static, 1 to 61, or that of an entry, 62 to 189.
use mathlib.Core.Path.{◌≡◌, refl, sym, subst}
use Prim.Native.Nat.{ℕ, ◌≤◌, ◌<◌}
use native.Mathlib.Omega.{arith}
use mathlib.Core.Bool.{Bool}
use mathlib.Core.Option.{Option, none, some}
use mathlib.Core.List.{List, [], ◌∷◌, map}
use lib.ListN.{length}
use lib.Dec.{eqb}
use Rattle.memory.proofs.Order.{pick-both}
use Rattle.integers.specs.Integer.{largest}
use Rattle.wire.specs.Name.{FineName}
use Rattle.static_search.specs.Search.{find_name, find_both}
use Rattle.static_search.proofs.Finding.{name-found, both_found}
use Rattle.fields.specs.Form.{Field}
use Rattle.fields.specs.Form as form
use Rattle.instructions.specs.Instruction.{Instruction, insert, delete, acknowledge, FineIndex, Manages, FineInstruction}
use Rattle.blocks.specs.Representation.{Representation, AllFine}
use Rattle.blocks.specs.Representation as representation
use Rattle.model.specs.Table.{Ascending, look, first}
use Rattle.model.specs.Outcome.{Output, nothing, instruction, block, fields, Outcome}
use Rattle.model.specs.Decoder.{Decoder, read_instruction, FormsDecoder}
use Rattle.model.specs.DecoderCalls.{DecoderCall, decoder_call}
use Rattle.model.specs.DecoderCalls as at-decoder
use Rattle.model.specs.Encoder.{Sent, sent_index, Encoder, serves, serves_both, dynamic_name, static_name, choose_name, dynamic_field, static_field}
use Rattle.model.specs.Encoder.{choose, FineSent, FormsEncoder}
use Rattle.model.specs.EncoderCalls.{EncoderCall, encoder_call}
use Rattle.model.specs.EncoderCalls as at-encoder
use Rattle.model_laws.proofs.Tables.{nope, first-sound}
use Rattle.model_laws.proofs.EncoderWays.{insert-ways, delete-ways, block-ways, acknowledged-ways}
use Rattle.model_laws.proofs.DecoderWays as decoder
use Rattle.model_laws.proofs.Forms.{freed-held}
use Rattle.model_laws.proofs.Collecting.{held-index}
use Rattle.model_laws.proofs.FormsSent.{new-fine}
use Rattle.std.specs.Prelude.{Some, None}
use Rattle.integers.specs.declared.number.TableIndex.{TableIndex}
use Rattle.std.specs.Prelude as prelude

-- ---- the choice

module _ (l : List Sent) (order : Ascending sent_index 62 l) (entries : (i : ℕ) (e : Sent) → look sent_index i l ≡ some e → FineSent e) where
  -- an entry that was found has an index that can be said
  first_fine : (test : Sent → Bool) (e : Sent) → first test l ≡ some e → (0 < e.index) × (e.index ≤ largest)
  first_fine test e q =
      let f : FineSent e = entries e.index e (first-sound sent_index test 62 l e order q).0 in (omega arith, omega arith)

  dynamic-name : (name : List ℕ) → length name ≤ 255 → (o : Option Sent) → first (serves name) l ≡ o → FineName (dynamic_name name o)
  unfolding dynamic_name
  dynamic-name name h none q = h
  dynamic-name name h (some e) q = first_fine (serves name) e q

  static-name : (name : List ℕ) → length name ≤ 255 → (o : prelude.Option TableIndex) → find_name name ≡ o → FineName (static_name l name o)
  unfolding static_name
  static-name name h (Some j) q = let f = name-found name 61 1 j q in (omega arith, omega arith)
  static-name name h None q = dynamic-name name h (first (serves name) l) refl

  pub name-fine : (name : List ℕ) → length name ≤ 255 → FineName (choose_name l name)
  unfolding choose_name
  name-fine name h = static-name name h (find_name name) refl

  module _ (f : Field) (fine : form.FineField f) where
    dynamic-field : (o : Option Sent) → first (serves_both f.name f.value) l ≡ o → representation.FineRepresentation (dynamic_field l f o)
    unfolding dynamic_field
    dynamic-field none q = (omega arith, name-fine f.name fine.name_short, fine.value_short)
    dynamic-field (some e) q = first_fine (serves_both f.name f.value) e q

    static-field : (o : prelude.Option TableIndex) → find_both f.name f.value ≡ o → representation.FineRepresentation (static_field l f o)
    unfolding static_field
    static-field (Some j) q = let g = both_found f.name f.value 61 1 j q in (omega arith, omega arith)
    static-field None q = dynamic-field (first (serves_both f.name f.value) l) refl

    pub choice-fine : representation.FineRepresentation (choose l f)
    unfolding choose
    choice-fine =
        pick-both representation.FineRepresentation (eqb f.flag 1) _ _
        (λ t. (omega arith, name-fine f.name fine.name_short, fine.value_short))
        (λ t. static-field (find_both f.name f.value) refl)

  pub choices-fine : (fs : List Field) → form.AllFine fs → AllFine (map (choose l) fs)
  choices-fine [] a = tt
  choices-fine (f ∷ fs) a = (choice-fine f a.0, choices-fine fs a.1)

-- ---- what the encoder says

-- an instruction that is said is an insert or a delete, and fine
abbrev Said : Output → Type 0
Said nothing = Unit {0}
Said (instruction i) = Manages i × FineInstruction i
Said (block rs) = Unit {0}
Said (fields fs) = Unit {0}

abbrev Says : Outcome Encoder → Type 0
Says o = Said o.output

module _ (E : Encoder) (F : FormsEncoder E) where
  said-call : (c : EncoderCall) → Said (encoder_call E c).output
  unfolding encoder_call
  said-call (at-encoder.insert name value room) =
      insert-ways Says E (λ a z. tt) name value room
      (λ i e n v fits written.
      let f = new-fine E F.limit i name value e n v fits in
      (tt, ((f.low, omega arith), name-fine E.entries F.order F.entries name n, v)))
  said-call (at-encoder.delete i room) =
      delete-ways Says E (λ a z. tt) i room
      (λ e there still fits.
      let f = F.entries i e there in
      (tt, ((f.low, omega arith), (f.nontrailer, omega arith, tt), (f.trailer, omega arith, tt))))
  said-call (at-encoder.block s part fs room) =
      block-ways Says E (λ a z. tt) s part fs room (λ p rs chosen e below turn short fits. tt)
  said-call (at-encoder.acknowledged i taken) =
      acknowledged-ways Says E (λ a z. tt) i taken (λ e there gone. tt)
  said-call (at-encoder.unread number) = tt

pub said-fine : (E : Encoder) (c : EncoderCall) → FormsEncoder E → (i : Instruction) → (encoder_call E c).output ≡ instruction i → Manages i × FineInstruction i
said-fine E c F i e = subst Said e (said-call E F c)

-- the block that is said is the one that was chosen
pub block-chosen : (E : Encoder) (s part : ℕ) (fs : List Field) (room : ℕ) (rs : List Representation)
    → (encoder_call E (at-encoder.block s part fs room)).output ≡ block rs → rs ≡ map (choose E.entries) fs
unfolding encoder_call
block-chosen E s part fs room rs e =
    block-ways (λ o. o.output ≡ block rs → rs ≡ map (choose E.entries) fs) E (λ a z q. nope (cc)) s part fs room
    (λ p qs chosen at below turn short fits q. cc)
    e

pub block-fine : (E : Encoder) (s part : ℕ) (fs : List Field) (room : ℕ) → FormsEncoder E → form.AllFine fs
    → (rs : List Representation) → (encoder_call E (at-encoder.block s part fs room)).output ≡ block rs → AllFine rs
block-fine E s part fs room F a rs e =
    subst AllFine (sym (block-chosen E s part fs room rs e)) (choices-fine E.entries F.order F.entries fs a)

-- ---- what the decoder says

-- an instruction that is said is a Delete-Ack
abbrev Acknowledges : Output → Type 0
Acknowledges nothing = Unit {0}
Acknowledges (instruction i) = (k : ℕ) × (i ≡ acknowledge k) × FineIndex k
Acknowledges (block rs) = Unit {0}
Acknowledges (fields fs) = Unit {0}

abbrev Acks : Outcome Decoder → Type 0
Acks o = Acknowledges o.output

module _ (D : Decoder) (F : FormsDecoder D) where
  ack-read : (i : Instruction) (taken : ℕ) → Acks (read_instruction D i taken)
  ack-read (insert i name value) taken = decoder.insert-ways Acks D (λ a z. tt) i name value taken (λ xs e free fits. tt)
  ack-read (delete i nontrailer trailer) taken = decoder.delete-ways Acks D (λ a z. tt) i nontrailer trailer taken (λ h there free. tt)
  ack-read (acknowledge i) taken = decoder.acknowledge-ways Acks D (λ a z. tt) i taken

  ack-call : (c : DecoderCall) → Acknowledges (decoder_call D c).output
  unfolding decoder_call
  ack-call (at-decoder.read i taken) = ack-read i taken
  ack-call (at-decoder.block s part rs room) =
      decoder.block-ways Acks D (λ a z. tt) s part rs room (λ p fs e below turn m fits. tt)
  ack-call (at-decoder.close k s) = decoder.close-ways Acks D (λ a z. tt) k s (λ below. tt)
  ack-call (at-decoder.collect room) =
      decoder.collect-ways Acks D (λ a z. tt) room
      (λ e. tt)
      (λ i e fits. let h = freed-held D F i e in (i, refl, held-index D F i h.0 h.1))
  ack-call (at-decoder.hold i) = decoder.hold-ways Acks D (λ a z. tt) i (λ d e. tt)
  ack-call (at-decoder.unread number) = tt

pub ack-fine : (D : Decoder) (c : DecoderCall) → FormsDecoder D → (i : Instruction) → (decoder_call D c).output ≡ instruction i
    → (k : ℕ) × (i ≡ acknowledge k) × FineIndex k
ack-fine D c F i e = subst Acknowledges e (ack-call D F c)
