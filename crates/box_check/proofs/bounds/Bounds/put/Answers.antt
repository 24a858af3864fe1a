use Rattle.std.proofs.Common.{◌≡◌, ◌+◌, ℕ, ℤ, List, arith, FitsSigned, to_z, of_z, refl, ap, set, rules}
use Rattle.std.specs.Int.{w128}
use Rattle.std.specs.Vec.{with_item}
use Rattle.std.proofs.lemmas.Bool.{false≢true}
use Rattle.std.proofs.lemmas.Int.{to_z-of_z}
use Rattle.box_check.specs.declared.bounds.Bounds.{Bounds}
use Rattle.box_check.specs.declared.bounds.End.{End}
use Rattle.box_check.proofs.BoundsLaws.{Tightens_here, StaysHere_written, StaysHere_refl, Extends_written}
use Rattle.box_check.proofs.bounds.Bounds.put.Goals as goal

-- what is written, with the literal's bound as a whole number
abbrev written_at : Bounds → ℕ → ℤ → List End
written_at bounds slot bound = set bounds.ends.items slot (record { level = bounds.level; bound = bound })

pub returns-then-says-clause-stays : goal.returns-then-says-clause-stays
returns-then-says-clause-stays c = StaysHere_refl c.args.self.now

pub returns-clause-both : goal.returns-clause-both
returns-clause-both c =
    let fits : FitsSigned w128 c.args.lit.bound = search rules in
    let bound : to_z w128 (of_z w128 c.args.lit.bound) ≡ c.args.lit.bound = simp to_z-of_z in
    let new : Bounds = record {
      vars = c.args.self.now.vars;
      level = c.args.self.now.level;
      ends = with_item c.args.self.now.ends c.slot-slot.result (record { level = c.args.self.now.level; bound = to_z w128 (of_z w128 c.args.lit.bound) });
      changes = c.push.new.self;
    } in
    Tightens_here c.args.self.now new c.args.lit c.slot-slot.result c.slot-slot.ensures c.requires refl refl
    (ap (written_at c.args.self.now c.slot-slot.result) bound) (λ says. false≢true (c.if-says.ensures.1 says))

pub returns-clause-stays : goal.returns-clause-stays
returns-clause-stays c =
    let fits : FitsSigned w128 c.args.lit.bound = search rules in
    let bound : to_z w128 (of_z w128 c.args.lit.bound) ≡ c.args.lit.bound = simp to_z-of_z in
    StaysHere_written c.args.self.now _ c.args.lit c.slot-slot.result c.slot-slot.ensures c.requires refl refl
    (ap (written_at c.args.self.now c.slot-slot.result) bound)

pub returns-clause-extends : goal.returns-clause-extends
returns-clause-extends c =
    let fits : FitsSigned w128 c.args.lit.bound = search rules in
    let bound : to_z w128 (of_z w128 c.args.lit.bound) ≡ c.args.lit.bound = simp to_z-of_z in
    Extends_written c.args.self.now _ c.args.lit 1 c.args.self.now.level c.slot-slot.result (omega arith) c.slot-slot.ensures c.requires refl refl
    (ap (written_at c.args.self.now c.slot-slot.result) bound) _ c.in_ok-push.ensures.items c.index-before.ensures
