-- Bytes to check the definitions against, by computing.
use mathlib.Core.Path.{◌≡◌, refl}
use mathlib.Core.List.{List, [], ◌∷◌}
use Prim.Native.Nat.{ℕ}
use Rattle.integers.specs.Integer.{group_wire}
use Rattle.fields.specs.Form.{Field, text_form, field_form, list_form}
use Rattle.fields.specs.Reading.{read_length, read_text, read_field, fields_from, read_field_list, FieldListRead.list, FieldListRead.refused}
use Rattle.std.specs.Prelude.{Ok, Err}
use Rattle.integers.specs.Answers.{Read}
use Rattle.integers.specs.declared.answer.Refusal.TheVariants.{BadFieldList, TooLong}

-- the length of a name
abbrev name : List ℕ → Read ℕ
name s = read_length s 0 255

abbrev h_is_9 : Field
h_is_9 = record { flag = 0; name = 0x68 ∷ []; value = 0x39 ∷ [] }

abbrev LengthExamples : Type 0
LengthExamples = (name (0x05 ∷ []) ≡ Ok (5, 1))
    × (name (0xff ∷ 0x01 ∷ []) ≡ Ok (255, 2))
    -- "a longer length is answered 13 before the bytes are looked for"
    × (name (0x80 ∷ 0x02 ∷ []) ≡ Err TooLong)
    × (read_length (0x80 ∷ 0x02 ∷ []) 0 2047 ≡ Ok (256, 2))
    -- "a length whose second group says another follows is 13 at once"
    × (name (0x80 ∷ 0x80 ∷ []) ≡ Err TooLong)
    -- a second group that is missing, and one that was not needed
    × (name (0x80 ∷ []) ≡ Err BadFieldList)
    × (name (0x80 ∷ 0x00 ∷ []) ≡ Err BadFieldList)
    × (name [] ≡ Err BadFieldList)

pub length-examples : LengthExamples
unfolding read_length
length-examples = (refl, refl, refl, refl, refl, refl, refl, refl)

abbrev ListExamples : Type 0
ListExamples = (read_field_list (0x00 ∷ 0x01 ∷ 0x68 ∷ 0x01 ∷ 0x39 ∷ []) ≡ list (h_is_9 ∷ []))
    × (list_form (h_is_9 ∷ []) ≡ 0x00 ∷ 0x01 ∷ 0x68 ∷ 0x01 ∷ 0x39 ∷ [])
    -- "The empty list is no bytes"
    × (read_field_list [] ≡ list [])
    -- a flag of 2, and a value that is cut
    × (read_field_list (0x02 ∷ 0x01 ∷ 0x68 ∷ 0x01 ∷ 0x39 ∷ []) ≡ refused BadFieldList)
    × (read_field_list (0x00 ∷ 0x01 ∷ 0x68 ∷ 0x01 ∷ []) ≡ refused BadFieldList)

pub list-examples : ListExamples
unfolding read_length read_text read_field fields_from group_wire text_form field_form list_form
list-examples = (refl, refl, refl, refl, refl)
