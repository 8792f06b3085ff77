-- What a printer gathers for its stream.
use Rattle.std.specs.Prelude.{◌≡◌, ℕ, ◌/◌, ◌%◌, List, [], ◌∷◌, ◌++◌, length, take, true, if◌then◌else◌, nat_lt}
use Rattle.std.specs.Fmt.{digit_glyph}
use Rattle.std.specs.Prelude.{false}
use Rattle.text_io.specs.declared.print.Printer.{Printer}

-- the bytes that are gathered and not written yet
abbrev pub held : Printer → List ℕ
held p = take p.used p.buffer.now

-- how many bytes can be gathered
abbrev pub room : Printer → ℕ
room p = length p.buffer.now

-- what is gathered behind one byte more: where there is no room for it, all that was is written before it
abbrev pub with_byte : ℕ → List ℕ → ℕ → List ℕ
with_byte n s c = if nat_lt (length s) n then s ++ (c ∷ []) else take n (c ∷ [])

-- what is gathered behind more bytes
abbrev pub gathered : ℕ → List ℕ → List ℕ → List ℕ
gathered n s [] = s
gathered n s (c ∷ t) = gathered n (with_byte n s c) t

-- the printer p becomes q as these bytes are printed: it has the room that it had, and what was lost stays lost
pub record Prints (p : Printer) (s : List ℕ) (q : Printer) : Type 0 where
  pub same_room : room q ≡ room p
  pub gathers : held q ≡ gathered (room p) (held p) s
  pub stays_lost : p.lost ≡ true → q.lost ≡ true

-- bytes as hexadecimal digits
abbrev pub hex : List ℕ → List ℕ
hex [] = []
hex (c ∷ s) = digit_glyph false (c / 16) ∷ digit_glyph false (c % 16) ∷ hex s
