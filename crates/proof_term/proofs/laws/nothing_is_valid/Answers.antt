use Rattle.std.proofs.Common.{refl, inl, arith, length}
use Rattle.std.proofs.lemmas.List.Elements.{All-nil}
use Rattle.proof_term.specs.Partial.{IsFindOf}
use Rattle.proof_term.proofs.laws.nothing_is_valid.Goals as goal

pub returns : goal.returns
returns c = λ system cost portions first outer. record {
  levels = (outer, (record { stand = tt; closed = refl; goes_on = refl }, inl refl));
  rising = λ i j d less within. absurd (omega (arith, within));
  finds_of = All-nil (IsFindOf (length portions));
}
