use Rattle.std.proofs.Common.{◌≡◌, sym, ap, ◌∙◌, arith}
use Rattle.state.specs.Layout.{nontrailer_list, trailer_list}
use Rattle.state.specs.Forms.{list_ok}
use Rattle.state_test.proofs.FormsTurns.{deletes-nontrailer, deletes-trailer, deletes-turn, deletes-end}
use Rattle.state_test.proofs.decoder.deletes_ok.Goals as goal

pub returns-then-not-list_ok : goal.returns-then-not-list_ok
returns-then-not-list_ok c =
    let first : list_ok c.args.m.now (nontrailer_list c.loop-k.k) ≡ c.list_ok.result = sym (c.list_ok.ensures ∙ ap (list_ok _) c.nontrailer_list.ensures) in
    sym (c.loop-k.invariant ∙ deletes-nontrailer _ _ _ (omega arith) (first ∙ c.if-not-list_ok.true))

pub returns-then-not-list_ok-2 : goal.returns-then-not-list_ok-2
returns-then-not-list_ok-2 c =
    let first : list_ok c.args.m.now (nontrailer_list c.loop-k.k) ≡ c.list_ok.result = sym (c.list_ok.ensures ∙ ap (list_ok _) c.nontrailer_list.ensures) in
    let second : list_ok c.args.m.now (trailer_list c.loop-k.k) ≡ c.list_ok-in-loop-k.result = sym (c.list_ok-in-loop-k.ensures ∙ ap (list_ok _) c.trailer_list.ensures) in
    sym (c.loop-k.invariant ∙ deletes-trailer _ _ _ (omega arith) (first ∙ c.if-not-list_ok.false)
    (second ∙ c.if-not-list_ok-2.true))

pub loop-k-preserved : goal.loop-k-preserved
loop-k-preserved c =
    let first : list_ok c.args.m.now (nontrailer_list c.loop-k.k) ≡ c.list_ok.result = sym (c.list_ok.ensures ∙ ap (list_ok _) c.nontrailer_list.ensures) in
    let second : list_ok c.args.m.now (trailer_list c.loop-k.k) ≡ c.list_ok-in-loop-k.result = sym (c.list_ok-in-loop-k.ensures ∙ ap (list_ok _) c.trailer_list.ensures) in
    c.loop-k.invariant ∙ deletes-turn _ _ _ (omega arith) (first ∙ c.if-not-list_ok.false)
    (second ∙ c.if-not-list_ok-2.false)

pub returns : goal.returns
returns c = sym (c.loop-k.invariant ∙ deletes-end _ _ _ (omega arith))
