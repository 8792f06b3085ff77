use Rattle.std.proofs.Common.{ap, ◌∙◌, length}
use Rattle.std.specs.Option.{unwrap_or}
use Rattle.tokens.specs.Words.{separates}
use Rattle.tokens.proofs.Places.{first_or_end}
use Rattle.tokens.proofs.word_end.Goals as goal

pub returns-clause-value : goal.returns-clause-value
returns-clause-value c =
    let s = c.args.text.now in
    c.unwrap_or.ensures ∙ ap (λ o. unwrap_or o (length s)) c.word_break.ensures.value ∙ first_or_end separates s
