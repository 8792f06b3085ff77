use mathlib.Core.Path.{sym}
use native.Mathlib.Omega.{arith}
use Rattle.name_search.proofs.Serving.{ends-short, ends-compared}
use Rattle.name_search.proofs.names.ends_with.Goals as goal

pub returns-then-offset_at-lt-KEY : goal.returns-then-offset_at-lt-KEY
returns-then-offset_at-lt-KEY c = sym (ends-short _ _ _ (omega (arith, c.offset_at.ensures, c.if-offset_at-lt-KEY.true)))

pub returns : goal.returns
returns c = ends-compared _ _ _ (omega (arith, c.offset_at.ensures, c.if-offset_at-lt-KEY.false)) c.text_at.ensures.0 c.last_four.ensures
