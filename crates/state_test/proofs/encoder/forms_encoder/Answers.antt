use Rattle.std.proofs.Common.{◌≡◌, true, sym, ◌∙◌, arith}
use Rattle.state.specs.Layout.{encoder_length, encoder_role}
use Rattle.state.specs.Forms.{head_ok, columns_ok}
use Rattle.state_test.proofs.FormsWays.{head-good, columns-good, encoder-head, encoder-count, encoder-columns, encoder-rows}
use Rattle.state_test.proofs.encoder.forms_encoder.Goals as goal

pub returns-then-not-head_ok : goal.returns-then-not-head_ok
returns-then-not-head_ok c = sym (encoder-head _ (sym c.head_ok.ensures ∙ c.if-not-head_ok.true))

pub delete_count-requires : goal.delete_count-requires
delete_count-requires c =
    let headed : head_ok encoder_role encoder_length c.args.m.now ≡ true = sym c.head_ok.ensures ∙ c.if-not-head_ok.false in
    let h = head-good _ _ _ headed in omega arith

pub returns-then-delete_count-ne0 : goal.returns-then-delete_count-ne0
returns-then-delete_count-ne0 c =
    let headed : head_ok encoder_role encoder_length c.args.m.now ≡ true = sym c.head_ok.ensures ∙ c.if-not-head_ok.false in
    sym (encoder-count _ headed (λ e. c.if-delete_count-ne0.true (c.delete_count.ensures ∙ e)))

pub count_of-count-requires : goal.count_of-count-requires
count_of-count-requires c =
    let headed : head_ok encoder_role encoder_length c.args.m.now ≡ true = sym c.head_ok.ensures ∙ c.if-not-head_ok.false in
    let h = head-good _ _ _ headed in omega arith

pub columns_ok-requires : goal.columns_ok-requires
columns_ok-requires c =
    let headed : head_ok encoder_role encoder_length c.args.m.now ≡ true = sym c.head_ok.ensures ∙ c.if-not-head_ok.false in
    let h = head-good _ _ _ headed in (omega arith, omega arith)

pub returns-then-not-columns_ok : goal.returns-then-not-columns_ok
returns-then-not-columns_ok c =
    let headed : head_ok encoder_role encoder_length c.args.m.now ≡ true = sym c.head_ok.ensures ∙ c.if-not-head_ok.false in
    sym (encoder-columns _ headed (omega arith) _ c.count_of-count.ensures
    (sym c.columns_ok.ensures ∙ c.if-not-columns_ok.true))

pub rows_form-requires : goal.rows_form-requires
rows_form-requires c =
    let headed : head_ok encoder_role encoder_length c.args.m.now ≡ true = sym c.head_ok.ensures ∙ c.if-not-head_ok.false in
    let ordered : let n = c in columns_ok n.args.m.now 189 n.count_of-count.result ≡ true = sym c.columns_ok.ensures ∙ c.if-not-columns_ok.false in
    let h = head-good _ _ _ headed in (omega arith, columns-good _ _ _ ordered, omega arith)

pub returns : goal.returns
returns c =
    let headed : head_ok encoder_role encoder_length c.args.m.now ≡ true = sym c.head_ok.ensures ∙ c.if-not-head_ok.false in
    let ordered : let n = c in columns_ok n.args.m.now 189 n.count_of-count.result ≡ true = sym c.columns_ok.ensures ∙ c.if-not-columns_ok.false in
    let n = c in
    c.rows_form.ensures ∙ sym (encoder-rows _ headed (omega arith) _ n.count_of-count.ensures ordered)
