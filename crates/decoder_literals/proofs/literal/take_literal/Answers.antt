use Prim.Native.Nat.{ℕ}
use mathlib.Core.Path.{sym, ◌∙◌}
use mathlib.Core.List.{List, []}
use native.Mathlib.Omega.{arith}
use Rattle.decoder_survey.proofs.ShortForms.{ShortReads, short-reads}
use Rattle.decoder_literals.proofs.Literals.{short-field}
use Rattle.decoder_literals.proofs.literal.take_literal.Goals as goal

pub overflow_sub-next : goal.overflow_sub-next
overflow_sub-next c =
    let reads : (m : List ℕ) → let a = c.args in ShortReads m a.s.now a.at c.in-Some.next = λ m. let start = c in
    short-reads _ _ _ _ start.requires.0 start.requires.1 (sym c.short_literal-l.ensures ∙ c.in-Some.is) in
    let z = reads [] in omega (arith, z.past)

pub write_short-requires : goal.write_short-requires
write_short-requires c =
    let reads : (m : List ℕ) → let a = c.args in ShortReads m a.s.now a.at c.in-Some.next = λ m. let start = c in
    short-reads _ _ _ _ start.requires.0 start.requires.1 (sym c.short_literal-l.ensures ∙ c.in-Some.is) in
    let known = c in
    let start = known in
    let z = reads [] in
    record { at_in_bounds = (start.requires.0, start.requires.1, sym known.short_literal-l.ensures ∙ known.in-Some.is); at_in_bounds_2 = omega (arith, c.if-out-to.false, start.requires.2, z.past) }

pub returns : goal.returns
returns c =
    let reads : (m : List ℕ) → let a = c.args in ShortReads m a.s.now a.at c.in-Some.next = λ m. let start = c in
    short-reads _ _ _ _ start.requires.0 start.requires.1 (sym c.short_literal-l.ensures ∙ c.in-Some.is) in
    let known = c in
    let w = c.write_short.ensures in
    λ m. short-field m _ _ _ _ _ (reads m) c.if-out-to.false known.requires.2 _ _ w.value w.out_after
