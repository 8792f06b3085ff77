use mathlib.Core.Path.{◌≡◌, refl, sym, ap, subst, ◌∙◌}
use Prim.Native.Nat.{ℕ, ◌+◌}
use mathlib.Core.List.{List}
use native.Mathlib.Omega.{arith}
use Rattle.memory.specs.Bytes.{overlay}
use Rattle.memory.proofs.Places.{length_part}
use Rattle.wire.specs.Text.{string_bytes}
use Rattle.wire.proofs.TextBounds.{string-size}
use Rattle.state.specs.Layout.{text_place, offset_at, name_length_at}
use Rattle.state.specs.Rows.{name_at}
use Rattle.table.specs.Changes.{Opening}
use Rattle.table.proofs.Steps.{entry_in_lem}
use Rattle.table_insert.proofs.Names.{name-before, name-behind}
use Rattle.table_insert.proofs.insert.insert_like.Goals as goal
use Rattle.table_insert.proofs.insert.insert_like.Goals.{then-named-place, else-named-place}

-- the opening, by the lengths that were read
opening : (m : List ℕ) (place : ℕ) {n v name text : ℕ} → name ≡ n → text ≡ v → Opening m place n v → Opening m place name text
opening m place {n = n} {text = text} en et o = subst (λ (k : ℕ). Opening m place k text) (sym en) (subst (Opening m place n) (sym et) o)

pub returns : goal.returns
returns c =
    let a = c.args in
    let m = a.m.now in
    let s = a.s.now in
    let name = c.name_length_at-name.ensures.0 in
    let o = opening m a.place name c.length-text.ensures c.requires.opening in
    let copied : c.if-named-place.m ≡ overlay c.open-at.new.m c.open-at.result (name_at m a.named) = elim c.if-named-place.branch [
      | then-named-place w ↦ w.m-is ∙ w.move_up.ensures ∙ ap (overlay c.open-at.new.m c.open-at.result)
          (name-before m _ a.place a.index.value _ _ a.named _ o c.requires.named_here name c.text_at-start.ensures.0 c.open-at.ensures.m_after w.if-named-place.true)
      | else-named-place w ↦ w.m-is ∙ w.move_down.ensures ∙ ap (overlay c.open-at.new.m c.open-at.result)
          (name-behind m _ a.place a.index.value _ _ a.named _ o c.requires.named_here name c.text_at-start.ensures.0 c.open-at.ensures.m_after w.if-named-place.false)
    ] in
    entry_in_lem m _ _ _ (name_at m a.named) (string_bytes s a.value) a.place a.index.value c.open-at.result _
    c.name_length_at-name.result c.length-text.result (name
    ∙ sym (length_part m (text_place + offset_at m a.named) (name_length_at m a.named) (omega (arith, c.requires.opening, c.requires.named_here.within))))
    (c.length-text.ensures ∙ sym (string-size s a.value c.requires.in_string))
    c.open-at.ensures.value c.open-at.ensures.m_after copied refl c.copy.ensures.out_after
