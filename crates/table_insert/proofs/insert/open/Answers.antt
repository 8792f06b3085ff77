use mathlib.Core.Path.{◌≡◌, ap, ◌∙◌}
use Prim.Native.Nat.{ℕ, ◌+◌}
use Rattle.state.specs.Layout.{text_place, count_of, offset_at}
use Rattle.table.proofs.Steps.{row_in}
use Rattle.table_insert.proofs.insert.open.Goals as goal

pub returns : goal.returns
returns c =
    let ends : c.offset_at.result ≡ offset_at c.args.m.now (count_of c.args.m.now) = c.offset_at.ensures ∙ ap (offset_at c.args.m.now) c.count_of-count.ensures in
    let a = c.args in record {
      value = ap (λ (k : ℕ). text_place + k) c.offset_at-offset.ensures;
      m_after = row_in a.m.now _ _ _ a.place a.index.value a.name a.value c.count_of-count.result c.offset_at-offset.result
          c.offset_at.result c.record_insert.ensures c.open_row.ensures c.open_text.ensures
          c.count_of-count.ensures c.offset_at-offset.ensures ends;
    }
