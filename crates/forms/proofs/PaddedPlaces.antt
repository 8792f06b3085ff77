-- A padded integer gets 19 in every place that one is read: each reader passes an integer's refusal on at once.
use mathlib.Core.Path.{refl, sym}
use native.Mathlib.Omega.{arith}
use Rattle.integers.specs.declared.answer.Refusal.TheVariants.{Padded}
use Rattle.integers.proofs.Padding.{padded-refused}
use Rattle.wire.proofs.Strings.{string-refused, name-refused}
use Rattle.stream_lists.proofs.ListLaws.{delta-refused, list-refused, count-refused}
use Rattle.instructions.proofs.Equations.{index-refused}
use Rattle.blocks.proofs.Equations.{indexed-refused}
use Rattle.forms.specs.Claim.{PaddedPlaces}

pub padded-places : PaddedPlaces
padded-places =
    record {
      index = λ k s l p. index-refused k s _ refl Padded (padded-refused k s 0 l p);
      name_index = λ k s at l p. name-refused k s at _ refl Padded (padded-refused k s at l p);
      string_length_lem = λ s at limit p. string-refused s at limit (omega (arith, p.inside)) _ refl Padded (padded-refused 7 s at (omega arith) p);
      horizon = λ s at p. list-refused s at _ refl Padded (padded-refused 8 s at (omega arith) p);
      count = λ s at h next e l p. count-refused s at _ (sym e) (record { value = h }) next refl l _ refl Padded (padded-refused 8 s next (omega arith) p);
      delta = λ s at last p. delta-refused s at last _ refl Padded (padded-refused 8 s at (omega arith) p);
      indexed = λ s at p. indexed-refused s at _ refl Padded (padded-refused 7 s at (omega arith) p);
    }
