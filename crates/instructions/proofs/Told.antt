-- Which numbers the readers of instructions refuse by, along their definitions: the decoder's 2, 3, 19, 5, 13, 14, 18, the encoder's 2, 3, 19, 5.
use Prim.Native.Nat.{ℕ}
use mathlib.Core.List.{List, [], ◌∷◌}
use lib.ListN.{length, get_or}
use lib.Dec.{ltb, leb}
use Rattle.memory.proofs.Order.{pick-both, need-both}
use Rattle.integers.specs.Answers.{truncated, too_large, padded, not_allowed, too_long, bad_stream_list, bad_packing, Read}
use Rattle.integers.specs.Integer.{read_int}
use Rattle.integers.proofs.Told.{Told, RefusedBy, wider-refusals, int_refusals, int-told, told-on-int, told-on-read}
use Rattle.wire.specs.Text.{read_string}
use Rattle.wire.specs.Name.{read_name}
use Rattle.stream_lists.specs.StreamList.{read_list}
use Rattle.wire.proofs.Told.{text_refusals, string-told, name-told}
use Rattle.stream_lists.proofs.Told.{list_refusals, list-told}
use Rattle.instructions.specs.Reading.{read_index, read_insert, read_delete, read_acknowledgement, read_for_decoder, read_for_encoder}
use Rattle.std.specs.Prelude.{Err}
use Rattle.integers.specs.declared.answer.Refusal.TheVariants.{NotAllowed, Truncated}
use Rattle.instructions.specs.declared.read.InstructionPlace.{InstructionPlace}

abbrev pub encoder_refusals : List ℕ
encoder_refusals = truncated ∷ too_large ∷ padded ∷ not_allowed ∷ []

-- "the first of 2, 3, 4, 5, 13, 14 met decides"; packed strings bring 18 in place of 4, and padded integers 19
abbrev pub decoder_refusals : List ℕ
decoder_refusals = truncated ∷ too_large ∷ padded ∷ not_allowed ∷ too_long ∷ bad_stream_list ∷ bad_packing ∷ []

abbrev DecoderTold : Read InstructionPlace → Type 0
DecoderTold r = RefusedBy decoder_refusals r

-- an index is refused as an acknowledgement is, which is no more
abbrev EncoderTold : {Y : Type 0} → Read Y → Type 0
EncoderTold r = RefusedBy encoder_refusals r

module _ (s : List ℕ) where
  index-told : (k : ℕ) → Told EncoderTold (read_index k s)
  unfolding read_index
  index-told k =
      told-on-int EncoderTold Err (wider-refusals encoder_refusals int_refusals tt) (read_int k s 0) (int-told k s 0)
      (λ i next. need-both (Told EncoderTold) (leb 62 i) (Err NotAllowed) _ (λ e. record { told = tt }) (λ e. record { told = tt }))

  insert-told : Told DecoderTold (read_insert s)
  unfolding read_insert
  insert-told =
      told-on-read encoder_refusals DecoderTold Err (wider-refusals decoder_refusals encoder_refusals tt) (read_index 7 s) (index-told 7)
      (λ i next. told-on-read text_refusals DecoderTold Err (wider-refusals decoder_refusals text_refusals tt) (read_name 8 s next) (name-told 8 s next)
      (λ name after. told-on-read text_refusals DecoderTold Err (wider-refusals decoder_refusals text_refusals tt) (read_string s after 2047) (string-told s after 2047)
      (λ value taken. record { told = tt })))

  delete-told : Told DecoderTold (read_delete s)
  unfolding read_delete
  delete-told =
      told-on-read encoder_refusals DecoderTold Err (wider-refusals decoder_refusals encoder_refusals tt) (read_index 6 s) (index-told 6)
      (λ i next. told-on-read list_refusals DecoderTold Err (wider-refusals decoder_refusals list_refusals tt) (read_list s next) (list-told s next)
      (λ nontrailer after. told-on-read list_refusals DecoderTold Err (wider-refusals decoder_refusals list_refusals tt) (read_list s after) (list-told s after)
      (λ trailer taken. record { told = tt })))

  acknowledgement-told : Told EncoderTold (read_acknowledgement s)
  unfolding read_acknowledgement
  acknowledgement-told = told-on-read encoder_refusals EncoderTold Err (λ why r. r) (read_index 6 s) (index-told 6) (λ i taken. record { told = tt })

  pub decoder-told : Told (RefusedBy decoder_refusals) (read_for_decoder s)
  unfolding read_for_decoder
  decoder-told =
      need-both (Told DecoderTold) (ltb 0 (length s)) (Err Truncated) _ (λ e. record { told = tt })
      (λ e. pick-both (Told DecoderTold) (leb 128 (get_or s 0 0)) (read_insert s) _ (λ d. insert-told)
      (λ d. need-both (Told DecoderTold) (ltb (get_or s 0 0) 64) (Err NotAllowed) (read_delete s) (λ f. record { told = tt }) (λ f. delete-told)))

  pub encoder-told : Told (RefusedBy encoder_refusals) (read_for_encoder s)
  unfolding read_for_encoder
  encoder-told =
      need-both (Told EncoderTold) (ltb 0 (length s)) (Err Truncated) _ (λ e. record { told = tt })
      (λ e. need-both (Told EncoderTold) (ltb (get_or s 0 0) 128) (Err NotAllowed) _ (λ d. record { told = tt })
      (λ d. need-both (Told EncoderTold) (leb 64 (get_or s 0 0)) (Err NotAllowed) (read_acknowledgement s) (λ f. record { told = tt })
      (λ f. acknowledgement-told)))
