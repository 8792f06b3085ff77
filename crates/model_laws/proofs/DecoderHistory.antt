-- What happened at the decoder, by its calls and their answers, is what changed in its table: the entries, what is held, the deletions, the held size.
-- By the ways of each call, then over the calls, from any state that forms one.
use mathlib.Core.Path.{◌≡◌, refl, sym, ap, ◌∙◌, subst, fun_ext}
use Prim.Native.Nat.{ℕ, ◌+◌}
use native.Mathlib.Omega.{arith}
use mathlib.Core.Bool.{Bool, true, false}
use mathlib.Core.Option.{Option, none, some}
use mathlib.Core.List.{List, [], ◌∷◌, ◌++◌}
use lib.Dec.{eqb}
use Rattle.memory.specs.Choice.{pick}
use Rattle.memory.proofs.Order.{pick-false}
use Rattle.integers.specs.Answers.{Answer}
use Rattle.wire.specs.Name.{Name}
use Rattle.instructions.specs.Instruction.{insert, delete, acknowledge}
use Rattle.blocks.specs.Meaning.{Slot, vacant, holds}
use Rattle.model.specs.Table.{size, look, put}
use Rattle.model.specs.Parts.{Delete}
use Rattle.model.specs.Outcome.{Output, nothing, instruction, block, fields, Outcome}
use Rattle.model.specs.Decoder.{Decoder, Held, held_index, delete_index, held_size, slot_in, lookup, delete_of, with_entries, name_bytes, without, FormsDecoder}
use Rattle.model.specs.DecoderCalls.{DecoderCall, decoder_call, after_decoder}
use Rattle.model.specs.DecoderCalls as at-decoder
use Rattle.model_laws.specs.Ready.{FineCalls}
use Rattle.model.specs.Happened.{
  Happened,
  done_by,
  after,
  held_by,
  deletion_by,
  deletes_by,
  Contents,
  is_held,
  named,
  entry_of,
  contents_by,
  size_in,
  added_by,
  removed_by,
  sum_of,
}
use Rattle.model_laws.proofs.HappenedLists.{after-append, sum-append}
use Rattle.model_laws.proofs.Tables.{pick-eq, pick_yes, pick_no, look-put, look-cut, total-put, total-cut}
use Rattle.model_laws.proofs.Deletes.{look-append, look-append-some, look-cut-distinct}
use Rattle.model_laws.proofs.DecoderWays as ways
use Rattle.model_laws.proofs.Forms.{freed-held, forms-call}

-- ---- what a call did
unfoldable pub wrote_that : Output → List Happened
wrote_that nothing = []
wrote_that (instruction i) = done_by i
wrote_that (block rs) = []
wrote_that (fields fs) = []

unfoldable pub did_by : DecoderCall → Outcome Decoder → List Happened
did_by (at-decoder.read i taken) o = pick (eqb o.answer.number 0) (done_by i) []
did_by (at-decoder.block s part rs room) o = []
did_by (at-decoder.close k s) o = []
did_by (at-decoder.collect room) o = wrote_that o.output
did_by (at-decoder.hold i) o = []
did_by (at-decoder.unread number) o = []

unfoldable pub did_since : Decoder → List DecoderCall → List Happened
did_since D [] = []
did_since D (c ∷ cs) = did_by c (decoder_call D c) ++ did_since (decoder_call D c).state cs

-- ---- what a state holds
abbrev pub contents_of : Decoder → Contents
contents_of D i = slot_in (look held_index i D.entries)

-- an outcome that is as what happened says
pub record Told (D : Decoder) (xs : List Happened) (E : Decoder) : Type 0 where
  pub entries : after contents_by (contents_of D) xs ≡ contents_of E
  pub held : (i : ℕ) → after (held_by i) (is_held (contents_of D i)) xs ≡ is_held (contents_of E i)
  pub deletion : (i : ℕ) → after (deletion_by i) (delete_of D i) xs ≡ delete_of E i
  pub arrived : after deletes_by D.deletes xs ≡ E.deletes
  pub sizes : held_size E.entries + sum_of removed_by (contents_of D) xs ≡ held_size D.entries + sum_of added_by (contents_of D) xs

-- nothing happened, and entries and deletes are the same
still : (D E : Decoder) → D.entries ≡ E.entries → D.deletes ≡ E.deletes → Told D [] E
unfolding after sum_of delete_of
still D E e d = record {
  entries = ap {B = Contents} (λ (l : List Held) (i : ℕ). slot_in (look held_index i l)) e;
  held = λ i. ap (λ (l : List Held). is_held (slot_in (look held_index i l))) e;
  deletion = λ i. ap (look delete_index i) d;
  arrived = d;
  sizes = ap (λ (l : List Held). held_size l + 0) (sym e);
}

-- a choice between two entries is one between what they say
slot-pick : (b : Bool) (h : Held) (o : Option Held) → slot_in (pick b (some h) o) ≡ pick b (holds h.entry) (slot_in o)
unfolding slot_in
slot-pick true h o = refl
slot-pick false h o = refl

held-pick : (b : Bool) (h : Held) (o : Option Held) → is_held (slot_in (pick b (some h) o)) ≡ pick b true (is_held (slot_in o))
unfolding slot_in is_held
held-pick true h o = refl
held-pick false h o = refl

none-pick : (b : Bool) (o : Option Held) → slot_in (pick b none o) ≡ pick b vacant (slot_in o)
unfolding slot_in
none-pick true o = refl
none-pick false o = refl

gone-pick : (b : Bool) (o : Option Held) → is_held (slot_in (pick b none o)) ≡ pick b false (is_held (slot_in o))
unfolding slot_in is_held
gone-pick true o = refl
gone-pick false o = refl

abbrev held_weight : Held → ℕ
held_weight h = size h.entry

module _ (D : Decoder) (F : FormsDecoder D) where
  inserted : (i : ℕ) (name : Name) (xs value : List ℕ) → name_bytes (lookup D) name ≡ some xs → look held_index i D.entries ≡ none
      → Told D (done_by (insert i name value)) (with_entries D (put held_index (ways.new_held i xs value) D.entries))
  unfolding after contents_by held_by deletion_by deletes_by entry_of named lookup delete_of sum_of added_by removed_by size_in held_size
  inserted i name xs value e n =
      let h : Held = ways.new_held i xs value in
      let entry : entry_of (contents_of D) name value ≡ holds h.entry = ap (λ (o : Option (List ℕ)). named o value) e in
      record {
        entries = fun_ext (λ k.
            ap (λ (s : Slot). pick (eqb i k) s (contents_of D k)) entry
            ∙ sym (ap slot_in (look-put held_index k h D.entries n) ∙ slot-pick (eqb i k) h (look held_index k D.entries)));
        held = λ k. sym (ap (λ (o : Option Held). is_held (slot_in o)) (look-put held_index k h D.entries n)
            ∙ held-pick (eqb i k) h (look held_index k D.entries));
        deletion = λ k. refl;
        arrived = refl;
        sizes = let s = ap size_in entry in let t = total-put held_index held_weight h D.entries in omega (arith, s, t);
      }

  deleted : (d : Delete) → delete_of D d.index ≡ none → Told D (done_by (delete d.index d.nontrailer d.trailer)) (ways.with_delete D d)
  unfolding after contents_by held_by deletion_by deletes_by delete_of sum_of added_by removed_by look
  deleted d n = record {
    entries = refl;
    held = λ k. refl;
    deletion = λ k. pick-eq (λ (o : Option Delete). o ≡ look delete_index k (D.deletes ++ (d ∷ []))) d.index k (some d) (look delete_index k D.deletes)
        (λ e. sym (subst (λ (j : ℕ). look delete_index j (D.deletes ++ (d ∷ [])) ≡ some d) e
        (look-append delete_index d.index D.deletes (d ∷ []) n ∙ pick_yes d.index d.index (some d) none refl)))
        (λ e. other k e (look delete_index k D.deletes) refl);
    arrived = refl;
    sizes = refl;
  }
    where
      other : (k : ℕ) → (d.index ≡ k → ⊥) → (o : Option Delete) → look delete_index k D.deletes ≡ o → o ≡ look delete_index k (D.deletes ++ (d ∷ []))
      other k e none f = sym (look-append delete_index k D.deletes (d ∷ []) f ∙ pick_no d.index k (some d) none e)
      other k e (some x) f = sym (look-append-some delete_index k D.deletes (d ∷ []) x f)

  freed : (i : ℕ) (h : Held) → look held_index i D.entries ≡ some h → Told D (done_by (acknowledge i)) (without D i)
  unfolding after contents_by held_by deletion_by deletes_by delete_of sum_of added_by removed_by without size_in slot_in held_size
  freed i h there = record {
    entries = fun_ext (λ k. sym (ap slot_in (look-cut held_index i k 62 D.entries F.order) ∙ none-pick (eqb i k) (look held_index k D.entries)));
    held = λ k. sym (ap (λ (o : Option Held). is_held (slot_in o)) (look-cut held_index i k 62 D.entries F.order)
        ∙ gone-pick (eqb i k) (look held_index k D.entries));
    deletion = λ k. sym (look-cut-distinct delete_index i k D.deletes F.once);
    arrived = refl;
    sizes =
        let s = ap (λ (o : Option Held). size_in (slot_in o)) there in
        let t = total-cut held_index held_weight i D.entries h there in
        omega (arith, s, t);
  }

-- ---- a call
abbrev ToldBy : Decoder → DecoderCall → Outcome Decoder → Type 0
ToldBy D c o = Told D (did_by c o) o.state

-- an instruction answered other than "done" did nothing
unread : (D : Decoder) (xs : List Happened) (a : Answer) → eqb a.number 0 ≡ false → Told D (pick (eqb a.number 0) xs []) D
unread D xs a z = subst (λ (l : List Happened). Told D l D) (sym (pick-false (eqb a.number 0) xs [] z)) (still D D refl refl)

pub told-call : (D : Decoder) → FormsDecoder D → (c : DecoderCall) → ToldBy D c (decoder_call D c)
unfolding decoder_call did_by wrote_that
told-call D F (at-decoder.read (insert i name value) taken) =
    ways.insert-ways (ToldBy D (at-decoder.read (insert i name value) taken)) D (λ a z. unread D (done_by (insert i name value)) a z) i name value taken
    (λ xs e n f. inserted D F i name xs value e n)
told-call D F (at-decoder.read (delete i first last) taken) =
    ways.delete-ways (ToldBy D (at-decoder.read (delete i first last) taken)) D (λ a z. unread D (done_by (delete i first last)) a z) i first last taken
    (λ h e f. deleted D F (record { index = i; nontrailer = first; trailer = last }) f)
told-call D F (at-decoder.read (acknowledge i) taken) =
    ways.acknowledge-ways (ToldBy D (at-decoder.read (acknowledge i) taken)) D (λ a z. unread D (done_by (acknowledge i)) a z) i taken
told-call D F (at-decoder.block s part rs room) =
    ways.block-ways (ToldBy D (at-decoder.block s part rs room)) D (λ a z. still D D refl refl) s part rs room
    (λ p fs e low turn means fits. still D _ refl refl)
told-call D F (at-decoder.close k s) =
    ways.close-ways (ToldBy D (at-decoder.close k s)) D (λ a z. still D D refl refl) k s (λ low. still D _ refl refl)
told-call D F (at-decoder.collect room) =
    ways.collect-ways (ToldBy D (at-decoder.collect room)) D (λ a z. still D D refl refl) room (λ e. still D D refl refl)
    (λ i e fits. let h = freed-held D F i e in freed D F i h.0 h.1)
told-call D F (at-decoder.hold i) = ways.hold-ways (ToldBy D (at-decoder.hold i)) D (λ a z. still D D refl refl) i (λ d e. still D D refl refl)
told-call D F (at-decoder.unread number) = still D D refl refl

-- ---- lists of calls
told_more : (D C E : Decoder) (xs ys : List Happened) → Told D xs C → Told C ys E → Told D (xs ++ ys) E
told_more D C E xs ys a b = record {
  entries = after-append contents_by (contents_of D) xs ys ∙ ap (λ (t : Contents). after contents_by t ys) a.entries ∙ b.entries;
  held = λ i. after-append (held_by i) (is_held (contents_of D i)) xs ys ∙ ap (λ (h : Bool). after (held_by i) h ys) (a.held i) ∙ b.held i;
  deletion = λ i. after-append (deletion_by i) (delete_of D i) xs ys ∙ ap (λ (o : Option Delete). after (deletion_by i) o ys) (a.deletion i) ∙ b.deletion i;
  arrived = after-append deletes_by D.deletes xs ys ∙ ap (λ (ds : List Delete). after deletes_by ds ys) a.arrived ∙ b.arrived;
  sizes =
      let r = sum-append removed_by (contents_of D) xs ys in
      let s = ap (λ (t : Contents). sum_of removed_by t ys) a.entries in
      let u = sum-append added_by (contents_of D) xs ys in
      let v = ap (λ (t : Contents). sum_of added_by t ys) a.entries in
      omega (arith, a.sizes, b.sizes, r, s, u, v);
}

pub told-calls : (D : Decoder) → FormsDecoder D → (cs : List DecoderCall) → FineCalls cs → Told D (did_since D cs) (after_decoder D cs)
unfolding did_since after_decoder
told-calls D F [] f = still D D refl refl
told-calls D F (c ∷ cs) f =
    told_more D (decoder_call D c).state _ (did_by c (decoder_call D c)) _ (told-call D F c)
    (told-calls (decoder_call D c).state (forms-call D c F f.0) cs f.1)
