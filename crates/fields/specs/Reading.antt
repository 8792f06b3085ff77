-- The field list read left to right; the first of 16 and 13 met decides.
use Rattle.std.specs.Prelude.{ℕ, zero, suc, ◌+◌, ◌-◌, ◌*◌, ◌%◌, ◌≤◌, List, [], ◌∷◌, ◌++◌, length, get_or, ltb, leb, Result, Ok, Err}
use Rattle.memory.specs.Choice.{pick, need}
use Rattle.memory.specs.Bytes.{part}
use Rattle.integers.specs.Answers.{Answer, done, refusal, number_of, Read, read_answer, on_read}
use Rattle.integers.specs.declared.answer.Refusal.{Refusal}
use Rattle.wire.specs.Text.{name_limit, value_limit}
use Rattle.fields.specs.Form.{Field}
use Rattle.fields.specs.declared.read.TextPlace.{TextPlace}
use Rattle.fields.specs.declared.read.FieldPlace.{FieldPlace}
use Rattle.integers.specs.declared.answer.Refusal.TheVariants.{BadFieldList, TooLong}

-- what is answered: the length or the place, and the place after it are told
abbrev pub length_answer : Read ℕ → Answer
length_answer r = read_answer (λ n next. done n next) r

abbrev pub text_answer : Read TextPlace → Answer
text_answer r = read_answer (λ p next. done p.start next) r

abbrev pub field_answer : Read FieldPlace → Answer
field_answer r = read_answer (λ p next. done next 0) r

-- a length that was read: "a longer length is answered 13 before the bytes are looked for"
abbrev pub within : ℕ → ℕ → ℕ → Read ℕ
within limit n next = need (leb n limit) (Err TooLong) (Ok (n, next))

-- the length at the place at: "shortest form only; a length whose second group says another follows is 13 at once"
unfoldable pub read_length : List ℕ → ℕ → ℕ → Read ℕ
read_length s at limit =
    need (ltb at (length s)) (Err BadFieldList)
    (pick (ltb (get_or s at 0) 128) (within limit (get_or s at 0) (at + 1))
    (need (ltb (at + 1) (length s)) (Err BadFieldList)
    (need (ltb (get_or s (at + 1) 0) 128) (Err TooLong)
    (need (ltb 0 (get_or s (at + 1) 0)) (Err BadFieldList)
    (within limit (get_or s at 0 % 128 + 128 * get_or s (at + 1) 0) (at + 2))))))

-- a length and that many bytes after it
unfoldable pub read_text : List ℕ → ℕ → ℕ → Read TextPlace
read_text s at limit =
    on_read Err (read_length s at limit) (λ n start.
    need (leb n (length s - start)) (Err BadFieldList)
    (Ok (record { start = start; length = n }, start + n)))

-- where the text at the place at stands, as its length's one or two bytes say it: for a list where one reads well, nothing is judged
unfoldable pub text_start : List ℕ → ℕ → TextPlace
text_start s at =
    pick (ltb (get_or s at 0) 128)
    (record { start = at + 1; length = get_or s at 0 })
    (record { start = at + 2; length = get_or s at 0 % 128 + 128 * get_or s (at + 1) 0 })

-- the field at the place at
unfoldable pub read_field : List ℕ → ℕ → Read FieldPlace
read_field s at =
    need (ltb at (length s)) (Err BadFieldList)
    (need (leb (get_or s at 0) 1) (Err BadFieldList)
    (on_read Err (read_text s (at + 1) name_limit) (λ name next.
    on_read Err (read_text s next value_limit) (λ value after.
    Ok (record { flag = get_or s at 0; name = name; value = value }, after)))))

-- the bytes of a text at a place of s, and the field there
abbrev pub text_of : List ℕ → TextPlace → List ℕ
text_of s p = part s p.start p.length

abbrev pub field_of : List ℕ → FieldPlace → Field
field_of s p = record { flag = p.flag; name = text_of s p.name; value = text_of s p.value }

abbrev pub InText : List ℕ → TextPlace → Type 0
InText s p = p.start + p.length ≤ length s

-- a whole list, or its first refusal
pub data FieldListRead : Type 0 where
  list : List Field → FieldListRead
  refused : Refusal → FieldListRead

-- the fields from the place at on, after those before it; each takes a byte at least, so f turns are enough where f bytes are left
unfoldable pub fields_from : ℕ → List ℕ → ℕ → List Field → FieldListRead
fields_from zero s at before = list before
fields_from (suc f) s at before =
    pick (ltb at (length s))
    (on_read refused (read_field s at) (λ p next. fields_from f s next (before ++ (field_of s p ∷ []))))
    (list before)

abbrev pub read_field_list : List ℕ → FieldListRead
read_field_list s = fields_from (length s) s 0 []

abbrev pub field_list_answer : FieldListRead → Answer
field_list_answer (list fs) = done (length fs) 0
field_list_answer (refused why) = refusal (number_of why)

-- whether it is a list, or why not
abbrev pub list_checked : FieldListRead → Result (Unit {0}) Refusal
list_checked (list fs) = Ok tt
list_checked (refused why) = Err why
