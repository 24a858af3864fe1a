use Rattle.std.proofs.Common.{◌≡◌, [], ◌∷◌, ◌++◌, inr, rules}
use Rattle.mix_system.specs.FarkasSum.{leaf_steps}
use Rattle.bounded_simplex.specs.Combination.{IsAmong}
use Rattle.bounded_simplex.specs.Refutation.{IsPartOf}
use Rattle.bounded_simplex.proofs.refutation.put_entry.Goals as goal

pub returns-in-Ok-clause-put : goal.returns-in-Ok-clause-put
returns-in-Ok-clause-put c = λ yes.
    let part = c.in-Ok-Some.part in
    let is : IsPartOf c.args.bounds.now c.args.upwards c.args.entry part = search rules in
    let added : c.add.new.self.parts ≡ c.args.combination.now.parts ++ part ∷ [] = search rules in
    record { part = part; of = is; added = added }

pub returns-in-Err-2-clause-step : goal.returns-in-Err-2-clause-step
returns-in-Err-2-clause-step c =
    let part = c.in-Ok-Some.part in
    let is : IsPartOf c.args.bounds.now c.args.upwards c.args.entry part = search rules in
    let among : IsAmong (leaf_steps c.args.bounds.now.system.rows (c.args.combination.now.parts ++ part ∷ [])) c.in-Err-2.excess = search rules in
    inr (record { part = part; of = is; among = among })
