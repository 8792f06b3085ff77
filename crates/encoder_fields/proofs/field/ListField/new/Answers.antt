use Rattle.encoder_fields.proofs.field.ListField.new.Goals as goal

pub returns : goal.returns
returns c = λ k. record { flag = c.args.place.flag; name = c.text_at.ensures k; value = c.text_at-2.ensures k }
