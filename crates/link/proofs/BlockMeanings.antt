-- What a block call tells and writes is what its bytes mean against what the state holds. By the ways of the model's call: done gives the fields of the
-- meaning, and only a meaning that waits is answered 1.
use mathlib.Core.Path.{◌≡◌, refl, sym, ap, ◌∙◌, subst}
use Prim.Native.Nat.{ℕ}
use native.Mathlib.Omega.{arith}
use mathlib.Core.Bool.{Bool, true, false}
use mathlib.Core.Option.{Option, none, some}
use mathlib.Core.List.{List}
use lib.ListN.{length}
use lib.Dec.{ltb, leb, T}
use Rattle.memory.specs.Choice.{pick}
use Rattle.memory.specs.Bytes.{Small, overlay}
use Rattle.memory.proofs.Order.{need-both}
use Rattle.integers.specs.Answers.{Answer, among, out_of_turn, number_of}
use Rattle.integers.proofs.Told.{One}
use Rattle.fields.specs.Form.{Field, list_form}
use Rattle.blocks.specs.Representation.{Representation}
use Rattle.blocks.specs.Reading.{BlockRead, block, read_block}
use Rattle.blocks.specs.Reading as blocks
use Rattle.blocks.specs.Meaning.{BlockMeaning, list, block_meaning}
use Rattle.blocks.specs.Meaning as meaning
use Rattle.blocks.proofs.Told.{block_refusals, BlockTold, block-told}
use Rattle.model.specs.Parts.{Part, part_of, in_turn, streams}
use Rattle.model.specs.Outcome.{Outcome, output_bytes}
use Rattle.model.specs.Decoder.{Decoder, lookup, give_fields, decode_part, decode_block}
use Rattle.model.specs.DecoderCalls.{decoder_call}
use Rattle.model.specs.DecoderCalls as at-decoder
use Rattle.model_laws.proofs.DecoderHistory.{contents_of}
use Rattle.model_laws.proofs.Answers.{decoder_refused, decoded-told}
use Rattle.parts.specs.Turn.{part_turn}
use Rattle.reply.specs.Result.{Result}
use Rattle.link.specs.Calls.{decoder_result, done_bytes}
use Rattle.link.specs.Calls as calls
use Rattle.link.specs.Histories.{BlockMeans}
use Rattle.link.proofs.Lifted.{StandsDecoder, read_block_call, decoder_call_of, decoder_unread}
use Rattle.link.proofs.DecoderLifting.{lift-decoder}
use Rattle.link.proofs.DoneBytes.{done-bytes}

-- ---- the model's outcome
record Means (D : Decoder) (rs : List Representation) (o : Outcome Decoder) : Type 0 where
  given : o.answer.number ≡ 0 → (fs : List Field) × (block_meaning (lookup D) rs ≡ list fs) × (output_bytes o.output ≡ list_form fs)
  waits : o.answer.number ≡ 1 → block_meaning (lookup D) rs ≡ meaning.BlockMeaning.waits o.answer.first

refused-means : (D : Decoder) (rs : List Representation) (o : Outcome Decoder) → (o.answer.number ≡ 0 → ⊥) → (o.answer.number ≡ 1 → ⊥) → Means D rs o
refused-means D rs o f g = record { given = λ z. absurd (f z); waits = λ z. absurd (g z) }

module _ (D : Decoder) (s room : ℕ) (rs : List Representation) where
  give-means : (p : Part) (m : BlockMeaning) → block_meaning (lookup D) rs ≡ m → Means D rs (give_fields D s p room m)
  unfolding give_fields output_bytes
  give-means p (meaning.BlockMeaning.waits i) e = record { given = λ z. absurd (omega (arith, z)); waits = λ z. e }
  give-means p (list fs) e =
      need-both (Means D rs) (leb (length (list_form fs)) room) _ _
      (λ t. refused-means D rs _ (λ z. omega (arith, z)) (λ z. omega (arith, z)))
      (λ t. record { given = λ z. (fs, e, refl); waits = λ z. absurd (omega (arith, z)) })

  part-means : (o : Option Part) → Means D rs (decode_part D s o rs room)
  unfolding decode_part
  part-means none = refused-means D rs _ (λ z. omega (arith, z)) (λ z. omega (arith, z))
  part-means (some p) =
      need-both (Means D rs) (ltb s streams) _ _ (λ t. refused-means D rs _ (λ z. omega (arith, z)) (λ z. omega (arith, z)))
      (λ t. need-both (Means D rs) (in_turn D.finished s p) _ _ (λ u. refused-means D rs _ (λ z. omega (arith, z)) (λ z. omega (arith, z)))
      (λ u. give-means p (block_meaning (lookup D) rs) refl))

-- ---- the call on memory, by its turn and its reading
among-not : (ns : List ℕ) (k n : ℕ) → among ns k ≡ false → One ns n → n ≡ k → ⊥
among-not ns k n e f z = absurd (subst T (ap (among ns) z ∙ e) f)

module _ (D : Decoder) (stream part : ℕ) (b out : List ℕ) (r : Result) where
  abbrev Left : at-decoder.DecoderCall → Type 0
  Left c = (r.answer ≡ (decoder_call D c).answer) × (r.output ≡ overlay out 0 (output_bytes (decoder_call D c).output))

  number : (c : at-decoder.DecoderCall) → Left c → r.answer.number ≡ (decoder_call D c).answer.number
  number c l = ap (λ (a : Answer). a.number) l.0

  means-call : (turn : Bool) (q : BlockRead) → read_block b ≡ q → BlockTold q
      → Left (pick turn (read_block_call stream part (length out) q) (at-decoder.unread out_of_turn)) → BlockMeans (contents_of D) b r
  unfolding decoder_call decode_block lookup
  means-call true (blocks.BlockRead.block rs) e t l =
      let c : at-decoder.DecoderCall = at-decoder.block stream part rs (length out) in
      let M : Means D rs (decoder_call D c) = part-means D stream (length out) rs (part_of part) in
      let n = number c l in
      let w : done_bytes r ≡ output_bytes (decoder_call D c).output =
      done-bytes D (decoder_call D c) out r l.0 l.1 (decoder_refused D c) (decoded-told D stream part rs (length out)) in
      record {
        given = λ z. let g = M.given (sym n ∙ z) in (rs, g.0, e, g.1, w ∙ g.2);
        waits = λ z. (rs, e, M.waits (sym n ∙ z) ∙ ap (λ (a : Answer). meaning.BlockMeaning.waits a.first) (sym l.0));
      }
  means-call true (blocks.BlockRead.refused why) e t l =
      let n = number (decoder_unread why) l in
      record {
        given = λ z. absurd (among-not block_refusals 0 (number_of why) refl t (sym n ∙ z));
        waits = λ z. absurd (among-not block_refusals 1 (number_of why) refl t (sym n ∙ z));
      }
  means-call false q e t l =
      let n = number (at-decoder.unread out_of_turn) l in
      record { given = λ z. absurd (omega (arith, n, z)); waits = λ z. absurd (omega (arith, n, z)) }

pub block-means : (m : List ℕ) (D : Decoder) → StandsDecoder m D → (stream part : ℕ) (b out : List ℕ) → Small b → Small out
    → BlockMeans (contents_of D) b (decoder_result m (calls.DecoderCall.block stream part b out))
unfolding decoder_call_of
block-means m D h stream part b out small lent =
    let L = lift-decoder m D h (calls.DecoderCall.block stream part b out) (small, lent) in
    means-call D stream part b out (decoder_result m (calls.DecoderCall.block stream part b out)) (part_turn D.finished stream (part_of part)) (read_block b)
    refl (block-told b) (L.answer, L.output)
