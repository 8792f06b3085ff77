use mathlib.Core.Path.{sym, ap, subst}
use lib.ListN.{length}
use Rattle.encoder_fields.specs.Measure.{as_field, chosen}
use Rattle.encoder_fields.proofs.Fields.{Writable, Wrote}
use Rattle.encoder_fields.proofs.write.write_choice.Goals as goal

pub write_indexed-requires : goal.write_indexed-requires
write_indexed-requires c =
    let a = c.args in
    let all =
    subst (Writable a.at (length a.out.now))
    (ap (chosen (as_field a.f)) c.in-Indexed.is)
    (c.requires.fine_representation, c.requires.choice_in_bounds) in
    record { fine_representation = all.0; value_in_bounds = all.1 }

pub write_literal-requires : goal.write_literal-requires
write_literal-requires c =
    let a = c.args in
    let all =
    subst (Writable a.at (length a.out.now))
    (ap (chosen (as_field a.f)) c.in-Named.is)
    (c.requires.fine_representation, c.requires.choice_in_bounds) in
    record { fine_representation = all.0; value_in_bounds = all.1 }

pub write_literal-requires-in-Literal : goal.write_literal-requires-in-Literal
write_literal-requires-in-Literal c =
    let a = c.args in
    let all =
    subst (Writable a.at (length a.out.now))
    (ap (chosen (as_field a.f)) c.in-Literal.is)
    (c.requires.fine_representation, c.requires.choice_in_bounds) in
    record { fine_representation = all.0; value_in_bounds = all.1 }

pub returns-in-Indexed : goal.returns-in-Indexed
returns-in-Indexed c =
    let a = c.args in
    let all =
    subst (Wrote a.out.now a.at _ _)
    (sym (ap (chosen (as_field a.f)) c.in-Indexed.is))
    (c.write_indexed.ensures.value, c.write_indexed.ensures.out_after) in
    record { value = all.0; out_after = all.1 }

pub returns-in-Named : goal.returns-in-Named
returns-in-Named c =
    let a = c.args in
    let all =
    subst (Wrote a.out.now a.at _ _)
    (sym (ap (chosen (as_field a.f)) c.in-Named.is))
    (c.write_literal.ensures.value, c.write_literal.ensures.out_after) in
    record { value = all.0; out_after = all.1 }

pub returns-in-Literal : goal.returns-in-Literal
returns-in-Literal c =
    let a = c.args in
    let all =
    subst (Wrote a.out.now a.at _ _)
    (sym (ap (chosen (as_field a.f)) c.in-Literal.is))
    (c.write_literal-in-Literal.ensures.value, c.write_literal-in-Literal.ensures.out_after) in
    record { value = all.0; out_after = all.1 }
