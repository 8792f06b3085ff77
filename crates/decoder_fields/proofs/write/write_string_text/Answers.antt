use Prim.Native.Nat.{ℕ, ◌+◌}
use native.Mathlib.Omega.{arith}
use mathlib.Core.Path.{◌≡◌, sym, ap, ◌∙◌}
use mathlib.Core.List.{List}
use lib.ListN.{length}
use Rattle.memory.specs.Bytes.{overlay}
use Rattle.wire.specs.Text.{string_bytes}
use Rattle.wire.proofs.TextBounds.{string-size}
use Rattle.fields.specs.Form.{length_form}
use Rattle.fields.proofs.Sizes.{text_form-split, text-written}
use Rattle.decoder_fields.proofs.write.write_string_text.Goals as goal

pub write_length-next-requires : goal.write_length-next-requires
write_length-next-requires c =
    let text : List ℕ = string_bytes c.args.s.now c.args.p in
    let size : c.length.result ≡ length text = let start = c in
    c.length.ensures ∙ sym (string-size start.args.s.now start.args.p start.requires.in_string.0) in
    let form : length (length_form c.length.result) ≡ length (length_form (length text)) = ap (λ (n : ℕ). length (length_form n)) size in
    let start = c in record { n_le_value_limit = omega (arith, start.requires, form, c.length.ensures, text_form-split text); n_in_bounds = omega (arith, start.requires, form, c.length.ensures, text_form-split text) }

pub copy-requires : goal.copy-requires
copy-requires c =
    let text : List ℕ = string_bytes c.args.s.now c.args.p in
    let size : c.length.result ≡ length text = let start = c in
    c.length.ensures ∙ sym (string-size start.args.s.now start.args.p start.requires.in_string.0) in
    let form : length (length_form c.length.result) ≡ length (length_form (length text)) = ap (λ (n : ℕ). length (length_form n)) size in
    let l = c in
    let start = l in record { in_string = start.requires.in_string.0; self_in_bounds = omega (arith, start.requires.p_in_bounds, form, size, l.length.ensures, text_form-split text, c.write_length-next.ensures) }

pub returns : goal.returns
returns c =
    let text : List ℕ = string_bytes c.args.s.now c.args.p in
    let size : c.length.result ≡ length text = let start = c in
    c.length.ensures ∙ sym (string-size start.args.s.now start.args.p start.requires.in_string.0) in
    let w = c in
    let start = w in
    let a = start.args in
    let n = size in
    let sized = w.write_length-next.ensures in
    let copied = c.copy.ensures in let all = text-written _ _ text _ _ _ _
    (sized.value ∙ ap (λ (k : ℕ). a.at + length (length_form k)) n) (sized.out_after ∙ ap (λ (k : ℕ). overlay a.out.now a.at (length_form k)) n)
    (copied.value ∙ ap (λ (k : ℕ). w.write_length-next.result + k) (sym (string-size a.s.now a.p start.requires.in_string.0))) copied.out_after in record { value = all.0; out_after = all.1 }
