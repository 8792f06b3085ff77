use mathlib.Core.Path.{sym}
use Rattle.short_forms.proofs.ShortEquations.{literal-named, literal-cut, literal-name-long, literal-name-cut, literal-value-long, literal-value-cut, literal-short}
use Rattle.short_forms.proofs.short.short_literal.Goals as goal

pub returns-then-s-at-ne0 : goal.returns-then-s-at-ne0
returns-then-s-at-ne0 c = sym (literal-named _ _ c.if-s-at-ne0.true)

pub returns-then-left-lt-LITERAL_BYTES : goal.returns-then-left-lt-LITERAL_BYTES
returns-then-left-lt-LITERAL_BYTES c = sym (literal-cut _ _ c.if-s-at-ne0.false c.if-left-lt-LITERAL_BYTES.true)

pub returns-in_default : goal.returns-in_default
returns-in_default c = sym (literal-name-long _ _ c.if-s-at-ne0.false c.if-left-lt-LITERAL_BYTES.false _ c.short_length.ensures c.in_default.is)

pub returns-then-left-name : goal.returns-then-left-name
returns-then-left-name c =
    sym (literal-name-cut _ _ c.if-s-at-ne0.false c.if-left-lt-LITERAL_BYTES.false _ c.short_length.ensures _ c.in-Some.is c.if-left-name.true)

pub returns-in_default-short_length : goal.returns-in_default-short_length
returns-in_default-short_length c =
    sym (literal-value-long _ _ c.if-s-at-ne0.false c.if-left-lt-LITERAL_BYTES.false _ c.short_length.ensures _ c.in-Some.is c.if-left-name.false _
    c.short_length-2.ensures c.in_default-short_length.is)

pub returns-then-left-name-2 : goal.returns-then-left-name-2
returns-then-left-name-2 c =
    sym (literal-value-cut _ _ c.if-s-at-ne0.false c.if-left-lt-LITERAL_BYTES.false _ c.short_length.ensures _ c.in-Some.is c.if-left-name.false _
    c.short_length-2.ensures _ c.in-Some-short_length.is c.if-left-name-2.true)

pub returns : goal.returns
returns c =
    sym (literal-short _ _ c.if-s-at-ne0.false c.if-left-lt-LITERAL_BYTES.false _ c.short_length.ensures _ c.in-Some.is c.if-left-name.false _
    c.short_length-2.ensures _ c.in-Some-short_length.is c.if-left-name-2.false)
