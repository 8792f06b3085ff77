use Prim.Native.Nat.{ℕ, ◌+◌}
use mathlib.Core.Path.{◌≡◌, sym, ap, ap₂, ◌∙◌}
use mathlib.Core.List.{List}
use native.Mathlib.Omega.{arith}
use lib.ListN.{length, length-set}
use Rattle.memory.specs.Bytes.{overlay}
use Rattle.fields.specs.Form.{Field, field_form}
use Rattle.fields.proofs.Sizes.{field_form-split, field_form-positive, field-written}
use Rattle.decoder_survey.specs.Passes.{row_field}
use Rattle.copied_fields.proofs.write.write_row.Goals as goal

pub bounds-out-to : goal.bounds-out-to
bounds-out-to c =
    let a = c.args in
    omega (arith, field_form-positive (row_field a.m.now a.i))

pub write_text-next-requires : goal.write_text-next-requires
write_text-next-requires c =
    let a = c.args in
    let the_field : Field = record { flag = 0; name = c.row_name-name.result.now; value = c.row_value-value.result.now } in
    let the_row : the_field ≡ row_field a.m.now a.i =
    ap₂ (λ (n v : List ℕ). record { flag = 0; name = n; value = v }) c.row_name-name.ensures c.row_value-value.ensures in
    let size = sym (ap (λ (f : Field). length (field_form f)) the_row) ∙ field_form-split the_field in
    record {
      text_len_bound = omega (arith, ap length c.row_name-name.ensures);
      text_in_bounds = simp length-set (omega (arith, size));
    }

pub write_text-requires : goal.write_text-requires
write_text-requires c =
    let a = c.args in
    let the_field : Field = record { flag = 0; name = c.row_name-name.result.now; value = c.row_value-value.result.now } in
    let the_row : the_field ≡ row_field a.m.now a.i =
    ap₂ (λ (n v : List ℕ). record { flag = 0; name = n; value = v }) c.row_name-name.ensures c.row_value-value.ensures in
    let size = sym (ap (λ (f : Field). length (field_form f)) the_row) ∙ field_form-split the_field in
    let kept = length-set a.out.now a.to 0 in
    record {
      text_len_bound = omega (arith, ap length c.row_value-value.ensures);
      text_in_bounds = omega (arith, size, kept);
    }

pub returns : goal.returns
returns c =
    let a = c.args in
    let the_field : Field = record { flag = 0; name = c.row_name-name.result.now; value = c.row_value-value.result.now } in
    let the_row : the_field ≡ row_field a.m.now a.i =
    ap₂ (λ (n v : List ℕ). record { flag = 0; name = n; value = v }) c.row_name-name.ensures c.row_value-value.ensures in
    let name = c.write_text-next.ensures in
    let value = c.write_text.ensures in
    let w = field-written a.out.now a.to the_field _ _ _ _ name.value name.out_after value.value value.out_after in
    record {
      value = w.0 ∙ ap (λ (f : Field). a.to + length (field_form f)) the_row;
      out_after = w.1 ∙ ap (λ (f : Field). overlay a.out.now a.to (field_form f)) the_row;
    }
