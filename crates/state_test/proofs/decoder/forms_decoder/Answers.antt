use Rattle.std.proofs.Common.{◌≡◌, true, sym, ◌∙◌, arith}
use Rattle.integers.specs.Integer.{largest}
use Rattle.state.specs.Layout.{decoder_length, decoder_role}
use Rattle.state.specs.Forms.{head_ok, columns_ok}
use Rattle.state_test.proofs.FormsWays.{head-good, columns-good, decoder-head, decoder-count, decoder-columns, decoder-rows, decoder-deletes}
use Rattle.state_test.proofs.decoder.forms_decoder.Goals as goal

pub returns-then-not-head_ok : goal.returns-then-not-head_ok
returns-then-not-head_ok c = sym (decoder-head _ (sym c.head_ok.ensures ∙ c.if-not-head_ok.true))

pub delete_count-requires : goal.delete_count-requires
delete_count-requires c =
    let headed : head_ok decoder_role decoder_length c.args.m.now ≡ true = sym c.head_ok.ensures ∙ c.if-not-head_ok.false in
    let h = head-good _ _ _ headed in omega arith

pub returns-then-delete_count-gt-DELETE_PLACES : goal.returns-then-delete_count-gt-DELETE_PLACES
returns-then-delete_count-gt-DELETE_PLACES c =
    let headed : head_ok decoder_role decoder_length c.args.m.now ≡ true = sym c.head_ok.ensures ∙ c.if-not-head_ok.false in
    sym (decoder-count _ headed (omega arith))

pub count_of-count-requires : goal.count_of-count-requires
count_of-count-requires c =
    let headed : head_ok decoder_role decoder_length c.args.m.now ≡ true = sym c.head_ok.ensures ∙ c.if-not-head_ok.false in
    let h = head-good _ _ _ headed in omega arith

pub columns_ok-requires : goal.columns_ok-requires
columns_ok-requires c =
    let headed : head_ok decoder_role decoder_length c.args.m.now ≡ true = sym c.head_ok.ensures ∙ c.if-not-head_ok.false in
    let h = head-good _ _ _ headed in (omega arith, omega arith)

pub returns-then-not-columns_ok : goal.returns-then-not-columns_ok
returns-then-not-columns_ok c =
    let headed : head_ok decoder_role decoder_length c.args.m.now ≡ true = sym c.head_ok.ensures ∙ c.if-not-head_ok.false in
    sym (decoder-columns _ headed (omega arith) _ c.count_of-count.ensures
    (sym c.columns_ok.ensures ∙ c.if-not-columns_ok.true))

pub rows_form-requires : goal.rows_form-requires
rows_form-requires c =
    let headed : head_ok decoder_role decoder_length c.args.m.now ≡ true = sym c.head_ok.ensures ∙ c.if-not-head_ok.false in
    let ordered : let n = c in columns_ok n.args.m.now largest n.count_of-count.result ≡ true = sym c.columns_ok.ensures ∙ c.if-not-columns_ok.false in
    let h = head-good _ _ _ headed in (omega arith, columns-good _ _ _ ordered, omega arith, omega arith)

pub returns-then-not-rows_form : goal.returns-then-not-rows_form
returns-then-not-rows_form c =
    let headed : head_ok decoder_role decoder_length c.args.m.now ≡ true = sym c.head_ok.ensures ∙ c.if-not-head_ok.false in
    let ordered : let n = c in columns_ok n.args.m.now largest n.count_of-count.result ≡ true = sym c.columns_ok.ensures ∙ c.if-not-columns_ok.false in
    let n = c in
    sym (decoder-rows _ headed (omega arith) _ n.count_of-count.ensures ordered
    _ c.rows_form.ensures c.if-not-rows_form.true)

pub deletes_ok-requires : goal.deletes_ok-requires
deletes_ok-requires c =
    let headed : head_ok decoder_role decoder_length c.args.m.now ≡ true = sym c.head_ok.ensures ∙ c.if-not-head_ok.false in
    let h = head-good _ _ _ headed in (omega arith, omega arith)

pub returns : goal.returns
returns c =
    let headed : head_ok decoder_role decoder_length c.args.m.now ≡ true = sym c.head_ok.ensures ∙ c.if-not-head_ok.false in
    let ordered : let n = c in columns_ok n.args.m.now largest n.count_of-count.result ≡ true = sym c.columns_ok.ensures ∙ c.if-not-columns_ok.false in
    let n = c in
    c.deletes_ok.ensures
    ∙ sym (decoder-deletes _ headed (omega arith) _ n.count_of-count.ensures ordered
    _ c.rows_form.ensures c.if-not-rows_form.false)
