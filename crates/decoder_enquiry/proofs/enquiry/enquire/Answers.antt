use mathlib.Core.Path.{◌≡◌, sym, ap, ◌∙◌}
use Prim.Native.Nat.{suc, ◌-◌, ◌<◌}
use native.Mathlib.Omega.{arith}
use borrow.Author.Rules.{rules}
use Rattle.integers.specs.declared.number.TableIndex.{TableIndex}
use Rattle.state.specs.Layout.{count_of, status_at}
use Rattle.table_search.specs.Search.{find_from}
use Rattle.table_laws.specs.DecoderChanges.{found}
use Rattle.decoder.proofs.Standing.{formed, changes, long}
use Rattle.decoder.proofs.Holding.{count-few, lowest-told, hold-no-state, hold-low, hold-high, hold-vacant, hold-live, hold-good, hold-told}
use Rattle.decoder_enquiry.proofs.enquiry.enquire.Goals as goal

pub returns-then-not-forms_decoder : goal.returns-then-not-forms_decoder
returns-then-not-forms_decoder c = c.because.ensures ∙ hold-no-state _ _ (sym c.forms_decoder.ensures ∙ c.if-not-forms_decoder.true)

pub returns-then-index : goal.returns-then-index
returns-then-index c =
    let stands = formed c.args.m.now (sym c.forms_decoder.ensures ∙ c.if-not-forms_decoder.false) (search rules) in
    c.because-then-index.ensures ∙ hold-low _ _ stands (omega arith)

pub returns-then-index-2 : goal.returns-then-index-2
returns-then-index-2 c =
    let stands = formed c.args.m.now (sym c.forms_decoder.ensures ∙ c.if-not-forms_decoder.false) (search rules) in
    c.because-then-index-2.ensures ∙ hold-high _ _ stands (omega arith) (omega arith)

pub find-f-requires : goal.find-f-requires
find-f-requires c =
    let stands = formed c.args.m.now (sym c.forms_decoder.ensures ∙ c.if-not-forms_decoder.false) (search rules) in
    rw c.new.ensures (omega arith, (changes _ stands).ordered)

pub returns-in_default : goal.returns-in_default
returns-in_default c =
    let stands = formed c.args.m.now (sym c.forms_decoder.ensures ∙ c.if-not-forms_decoder.false) (search rules) in
    let sought : let a = c.args in c.find-f.result ≡ find_from a.m.now a.index (count_of a.m.now) 0 = let m = c.args.m.now in
    c.find-f.ensures ∙ ap (λ (i : TableIndex). find_from m i.value (count_of m) 0) c.new.ensures in
    let seek = c in
    c.because-in_default.ensures
    ∙ hold-vacant _ _ stands (omega arith) (omega arith) _ (sym sought ∙ c.in_default.is)

pub status_at-status-requires : goal.status_at-status-requires
status_at-status-requires c =
    let stands = formed c.args.m.now (sym c.forms_decoder.ensures ∙ c.if-not-forms_decoder.false) (search rules) in
    let sought : let a = c.args in c.find-f.result ≡ find_from a.m.now a.index (count_of a.m.now) 0 = let m = c.args.m.now in
    c.find-f.ensures ∙ ap (λ (i : TableIndex). find_from m i.value (count_of m) 0) c.new.ensures in
    let place_found_lem : let a = c.args in found a.m.now a.index c.in-Ok.place = sym sought ∙ c.in-Ok.is in
    let near : c.in-Ok.place < 128 = let C = changes _ stands in
    omega (arith, (C.here _ _ place_found_lem).0, C.ordered.few) in
    (near, omega (arith, long _ stands))

pub returns-then-status-eq0 : goal.returns-then-status-eq0
returns-then-status-eq0 c =
    let stands = formed c.args.m.now (sym c.forms_decoder.ensures ∙ c.if-not-forms_decoder.false) (search rules) in
    let sought : let a = c.args in c.find-f.result ≡ find_from a.m.now a.index (count_of a.m.now) 0 = let m = c.args.m.now in
    c.find-f.ensures ∙ ap (λ (i : TableIndex). find_from m i.value (count_of m) 0) c.new.ensures in
    let place_found_lem : let a = c.args in found a.m.now a.index c.in-Ok.place = sym sought ∙ c.in-Ok.is in
    let row = c in
    c.because-then-status-eq0.ensures
    ∙ hold-live _ _ stands (omega arith) (omega arith) _ place_found_lem (omega (arith, c.status_at-status.ensures, c.if-status-eq0.true))

pub hold_count-count-requires : goal.hold_count-count-requires
hold_count-count-requires c =
    let stands = formed c.args.m.now (sym c.forms_decoder.ensures ∙ c.if-not-forms_decoder.false) (search rules) in
    let sought : let a = c.args in c.find-f.result ≡ find_from a.m.now a.index (count_of a.m.now) 0 = let m = c.args.m.now in
    c.find-f.ensures ∙ ap (λ (i : TableIndex). find_from m i.value (count_of m) 0) c.new.ensures in
    let place_found_lem : let a = c.args in found a.m.now a.index c.in-Ok.place = sym sought ∙ c.in-Ok.is in
    let pointing : let row = c in status_at row.args.m.now row.in-Ok.place ≡ suc (c.status_at-status.result - 1) = omega (arith, c.status_at-status.ensures, c.if-status-eq0.false) in
    let row = c in
    hold-good _ _ stands (omega arith) (omega arith) _ place_found_lem _ pointing

pub overflow_cast-count : goal.overflow_cast-count
overflow_cast-count c = omega (arith, count-few _ _ _ c.hold_count-count.ensures)

pub hold_lowest-requires : goal.hold_lowest-requires
hold_lowest-requires c =
    let stands = formed c.args.m.now (sym c.forms_decoder.ensures ∙ c.if-not-forms_decoder.false) (search rules) in
    let sought : let a = c.args in c.find-f.result ≡ find_from a.m.now a.index (count_of a.m.now) 0 = let m = c.args.m.now in
    c.find-f.ensures ∙ ap (λ (i : TableIndex). find_from m i.value (count_of m) 0) c.new.ensures in
    let place_found_lem : let a = c.args in found a.m.now a.index c.in-Ok.place = sym sought ∙ c.in-Ok.is in
    let pointing : let row = c in status_at row.args.m.now row.in-Ok.place ≡ suc (c.status_at-status.result - 1) = omega (arith, c.status_at-status.ensures, c.if-status-eq0.false) in
    let row = c in
    hold-good _ _ stands (omega arith) (omega arith) _ place_found_lem _ pointing

pub returns : goal.returns
returns c =
    let stands = formed c.args.m.now (sym c.forms_decoder.ensures ∙ c.if-not-forms_decoder.false) (search rules) in
    let sought : let a = c.args in c.find-f.result ≡ find_from a.m.now a.index (count_of a.m.now) 0 = let m = c.args.m.now in
    c.find-f.ensures ∙ ap (λ (i : TableIndex). find_from m i.value (count_of m) 0) c.new.ensures in
    let place_found_lem : let a = c.args in found a.m.now a.index c.in-Ok.place = sym sought ∙ c.in-Ok.is in
    let pointing : let row = c in status_at row.args.m.now row.in-Ok.place ≡ suc (c.status_at-status.result - 1) = omega (arith, c.status_at-status.ensures, c.if-status-eq0.false) in
    let asked = c in
    let row = asked in
    c.done.ensures
    ∙ hold-told _ _ stands (omega arith) (omega arith) _ place_found_lem _ pointing _ _
    c.hold_count-count.ensures (c.told-lowest.ensures ∙ lowest-told _ _ _ c.hold_lowest.ensures)
