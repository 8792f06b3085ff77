use native.Mathlib.Omega.{arith}
use borrow.Author.Rules.{rules}
use mathlib.Core.Path.{sym, ◌∙◌}
use Rattle.decoder_collect.proofs.ReadyDeletes.{formed, changes, next_more, next_here, next-done}
use Rattle.decoder_collect.proofs.collect.first_ready.Goals as goal

pub delete_count-count-requires : goal.delete_count-count-requires
delete_count-count-requires c =
    let stands = formed c.args.m.now c.requires (search rules) in
    omega (arith, (changes _ stands).ordered.long)

pub returns-then-is_ready : goal.returns-then-is_ready
returns-then-is_ready c = sym (c.loop-k.invariant ∙ next_here _ _ _ (omega arith) (sym c.is_ready.ensures ∙ c.if-is_ready.true))

pub loop-k-preserved : goal.loop-k-preserved
loop-k-preserved c = c.loop-k.invariant ∙ next_more _ _ _ (omega arith) (sym c.is_ready.ensures ∙ c.if-is_ready.false)

pub returns : goal.returns
returns c = sym (c.loop-k.invariant ∙ next-done _ _ _ (omega arith))
