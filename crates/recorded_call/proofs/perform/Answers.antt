use mathlib.Core.Path.{refl, ap, ◌∙◌}
use Rattle.reply.specs.Result.{Result}
use Rattle.recorded_call.specs.Performed.{performed_as}
use Rattle.recorded_call.proofs.Cases.{cited, split_at}
use Rattle.recorded_call.proofs.perform.Goals as goal

pub returns-in-DecoderStart : goal.returns-in-DecoderStart
unfolding performed_as
returns-in-DecoderStart c =
    let a = c.args in
    let r = c.start in let all = cited a.call a.bytes.now a.decoder.now a.encoder.now a.output.now _ _ c.in-DecoderStart.is c.own-s.ensures (r.ensures.result_value, (r.ensures.m_after, (refl, refl))) in record { result_value = all.0; decoder_after = all.1.0; encoder_after = all.1.1.0; output_after = all.1.1.1 }

pub returns-in-DecoderRead : goal.returns-in-DecoderRead
unfolding performed_as
returns-in-DecoderRead c =
    let a = c.args in
    let r = c.read in let all = cited a.call a.bytes.now a.decoder.now a.encoder.now a.output.now _ _ c.in-DecoderRead.is c.own-s.ensures (r.ensures.result_value, (r.ensures.m_after, (refl, refl))) in record { result_value = all.0; decoder_after = all.1.0; encoder_after = all.1.1.0; output_after = all.1.1.1 }

pub returns-in-DecoderBlock : goal.returns-in-DecoderBlock
unfolding performed_as
returns-in-DecoderBlock c =
    let a = c.args in
    let r = c.block in let all = cited a.call a.bytes.now a.decoder.now a.encoder.now a.output.now _ _ c.in-DecoderBlock.is c.own-s.ensures (r.ensures.result_value, (r.ensures.m_after, (refl, r.ensures.out_after))) in record { result_value = all.0; decoder_after = all.1.0; encoder_after = all.1.1.0; output_after = all.1.1.1 }

pub returns-in-DecoderOver : goal.returns-in-DecoderOver
unfolding performed_as
returns-in-DecoderOver c =
    let a = c.args in
    let r = c.over in let all = cited a.call a.bytes.now a.decoder.now a.encoder.now a.output.now _ _ c.in-DecoderOver.is c.own-s.ensures (r.ensures.result_value, (r.ensures.m_after, (refl, refl))) in record { result_value = all.0; decoder_after = all.1.0; encoder_after = all.1.1.0; output_after = all.1.1.1 }

pub returns-in-DecoderEnded : goal.returns-in-DecoderEnded
unfolding performed_as
returns-in-DecoderEnded c =
    let a = c.args in
    let r = c.ended in let all = cited a.call a.bytes.now a.decoder.now a.encoder.now a.output.now _ _ c.in-DecoderEnded.is c.own-s.ensures (r.ensures.result_value, (r.ensures.m_after, (refl, refl))) in record { result_value = all.0; decoder_after = all.1.0; encoder_after = all.1.1.0; output_after = all.1.1.1 }

pub returns-in-DecoderCollect : goal.returns-in-DecoderCollect
unfolding performed_as
returns-in-DecoderCollect c =
    let a = c.args in
    let r = c.collect in let all = cited a.call a.bytes.now a.decoder.now a.encoder.now a.output.now _ _ c.in-DecoderCollect.is c.own-s.ensures (r.ensures.result_value, (r.ensures.m_after, (refl, r.ensures.out_after))) in record { result_value = all.0; decoder_after = all.1.0; encoder_after = all.1.1.0; output_after = all.1.1.1 }

pub returns-in-DecoderHold : goal.returns-in-DecoderHold
unfolding performed_as
returns-in-DecoderHold c =
    let a = c.args in
    let r = c.enquire in let all = cited a.call a.bytes.now a.decoder.now a.encoder.now a.output.now _ _ c.in-DecoderHold.is c.own-s.ensures (r.ensures, (refl, (refl, refl))) in record { result_value = all.0; decoder_after = all.1.0; encoder_after = all.1.1.0; output_after = all.1.1.1 }

pub returns-in-EncoderStart : goal.returns-in-EncoderStart
unfolding performed_as
returns-in-EncoderStart c =
    let a = c.args in
    let r = c.start-in-EncoderStart in let all = cited a.call a.bytes.now a.decoder.now a.encoder.now a.output.now _ _ c.in-EncoderStart.is c.own-s.ensures (r.ensures.result_value, (refl, (r.ensures.m_after, refl))) in record { result_value = all.0; decoder_after = all.1.0; encoder_after = all.1.1.0; output_after = all.1.1.1 }

pub returns-in-EncoderInsert : goal.returns-in-EncoderInsert
unfolding performed_as
returns-in-EncoderInsert c =
    let a = c.args in
    let r = c.insert in
    let p = split_at a.encoder.now _ _ c.own-s.result.now a.call.split a.output.now c.first.ensures c.behind.ensures in let all = cited a.call a.bytes.now a.decoder.now a.encoder.now a.output.now _ _ c.in-EncoderInsert.is c.own-s.ensures
    (r.ensures.result_value ∙ ap (λ (x : Result). x.answer) p, (refl, (r.ensures.m_after ∙ ap (λ (x : Result). x.memory) p, r.ensures.out_after ∙ ap (λ (x : Result). x.output) p))) in record { result_value = all.0; decoder_after = all.1.0; encoder_after = all.1.1.0; output_after = all.1.1.1 }

pub returns-in-EncoderDelete : goal.returns-in-EncoderDelete
unfolding performed_as
returns-in-EncoderDelete c =
    let a = c.args in
    let r = c.delete in let all = cited a.call a.bytes.now a.decoder.now a.encoder.now a.output.now _ _ c.in-EncoderDelete.is c.own-s.ensures (r.ensures.result_value, (refl, (r.ensures.m_after, r.ensures.out_after))) in record { result_value = all.0; decoder_after = all.1.0; encoder_after = all.1.1.0; output_after = all.1.1.1 }

pub returns-in-EncoderBlock : goal.returns-in-EncoderBlock
unfolding performed_as
returns-in-EncoderBlock c =
    let a = c.args in
    let r = c.block-in-EncoderBlock in let all = cited a.call a.bytes.now a.decoder.now a.encoder.now a.output.now _ _ c.in-EncoderBlock.is c.own-s.ensures (r.ensures.result_value, (refl, (r.ensures.m_after, r.ensures.out_after))) in record { result_value = all.0; decoder_after = all.1.0; encoder_after = all.1.1.0; output_after = all.1.1.1 }

pub returns-in-EncoderAcknowledge : goal.returns-in-EncoderAcknowledge
unfolding performed_as
returns-in-EncoderAcknowledge c =
    let a = c.args in
    let r = c.acknowledge in let all = cited a.call a.bytes.now a.decoder.now a.encoder.now a.output.now _ _ c.in-EncoderAcknowledge.is c.own-s.ensures (r.ensures.result_value, (refl, (r.ensures.m_after, refl))) in record { result_value = all.0; decoder_after = all.1.0; encoder_after = all.1.1.0; output_after = all.1.1.1 }
