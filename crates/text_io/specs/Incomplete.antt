-- Why a run is not complete, in words.
use Rattle.std.specs.Prelude.{ℕ, List}
use lib.Chars.{codes}
use Rattle.text_io.specs.declared.incomplete.Why.{Why}
use Rattle.text_io.specs.declared.incomplete.Why.TheVariants.{NotOpened, NotRead, NotWritten}

abbrev pub why_text : Why → List ℕ
why_text NotOpened = codes "the input cannot be opened"
why_text NotRead = codes "the input cannot be read"
why_text NotWritten = codes "the output cannot be written"
