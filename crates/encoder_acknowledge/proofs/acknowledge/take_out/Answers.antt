use mathlib.Core.Path.{◌∙◌}
use Rattle.horizons.specs.Horizons.{horizons_closed}
use Rattle.encoder_acknowledge.proofs.acknowledge.take_out.Goals as goal

pub returns : goal.returns
returns c =
    let r = c in
    let n = r.count_of-count.ensures in
    let e = r.remove.ensures in
    c.close_horizons.ensures ∙ (λ k. horizons_closed (e k) c.args.place (n k))
