use Prim.Native.Nat.{ℕ, ◌+◌, ◌≤◌}
use mathlib.Core.Path.{◌≡◌, sym, subst}
use mathlib.Core.List.{List}
use lib.ListN.{length}
use Rattle.memory.specs.Bytes.{overlay}
use Rattle.wire.specs.declared.name.NamePlace.TheVariants.{Index, Text}
use Rattle.blocks.specs.Reading.{InBytes}
use Rattle.blocks.specs.Meaning.{field_meaning}
use Rattle.blocks.specs.declared.read.RepresentationPlace.{RepresentationPlace}
use Rattle.blocks.specs.declared.read.RepresentationPlace.TheVariants.{Literal}
use Rattle.decoder_survey.specs.Measure.{field_meant, field_at, IsField, field_bytes}
use Rattle.decoder_survey.proofs.Fields.{literal-by}
use Rattle.decoder_fields.specs.Indexes.{IsLiteral}
use Rattle.decoder_fields.proofs.write.write_literal_place.Goals as goal

-- `write_literal_place` meets its contract: a literal by the function for its kind of name.
-- what is asked of a representation and what is shown of it
abbrev Asked : List ℕ → List ℕ → ℕ → ℕ → RepresentationPlace → Type 0
Asked m s room at r = InBytes s r × (IsField (field_at m s r) × (at + length (field_bytes (field_at m s r)) ≤ room))

pub write_named-requires : goal.write_named-requires
write_named-requires c =
    let by_index_lem : c.args.r ≡ Literal c.in-Literal.flag (Index c.in-Index.index) c.in-Literal.value = literal-by c.in-Literal.is c.in-Index.is in
    let p = c.requires in
    let a = c.args in
    let q = subst (Asked a.m.now a.s.now (length a.out.now) a.at) by_index_lem (p.in_bytes, (p.field, p.r_in_bounds)) in
    record { text_value = p.text_value; in_bytes = q.0; field = q.1.0; value_in_bounds = q.1.1 }

pub write_literal-requires : goal.write_literal-requires
unfolding field_meant field_meaning
write_literal-requires c =
    let by_bytes : c.args.r ≡ Literal c.in-Literal.flag (Text c.in-Text.bytes) c.in-Literal.value = literal-by c.in-Literal.is c.in-Text.is in
    let p = c.requires in
    let a = c.args in
    let q = subst (Asked a.m.now a.s.now (length a.out.now) a.at) by_bytes (p.in_bytes, (p.field, p.r_in_bounds)) in
    record { in_bytes = q.0; value_in_bounds = q.1.1 }

pub returns-in-Indexed : goal.returns-in-Indexed
returns-in-Indexed c = absurd (subst IsLiteral c.in-Indexed.is c.requires.literal)

pub returns-in-Index : goal.returns-in-Index
returns-in-Index c =
    let Shown : List ℕ → ℕ → RepresentationPlace → Type 0 = λ out next r. let a = c.args in
    let bytes = field_bytes (field_at a.m.now a.s.now r) in
    (next ≡ a.at + length bytes) × (out ≡ overlay a.out.now a.at bytes) in
    let by_index_lem : c.args.r ≡ Literal c.in-Literal.flag (Index c.in-Index.index) c.in-Literal.value = literal-by c.in-Literal.is c.in-Index.is in
    let all = subst (Shown _ _) (sym by_index_lem) (c.write_named.ensures.value, c.write_named.ensures.out_after) in record { value = all.0; out_after = all.1 }

pub returns-in-Text : goal.returns-in-Text
unfolding field_meant field_meaning
returns-in-Text c =
    let Shown : List ℕ → ℕ → RepresentationPlace → Type 0 = λ out next r. let a = c.args in
    let bytes = field_bytes (field_at a.m.now a.s.now r) in
    (next ≡ a.at + length bytes) × (out ≡ overlay a.out.now a.at bytes) in
    let by_bytes : c.args.r ≡ Literal c.in-Literal.flag (Text c.in-Text.bytes) c.in-Literal.value = literal-by c.in-Literal.is c.in-Text.is in
    let all = subst (Shown _ _) (sym by_bytes) (c.write_literal.ensures.value, c.write_literal.ensures.out_after) in record { value = all.0; out_after = all.1 }
