use Rattle.std.proofs.Common.{◌≡◌, ℕ, ℤ, List, FitsSigned, to_z, of_z, refl, ap, set, inl, arith, rules}
use Rattle.std.specs.Int.{w128}
use Rattle.std.specs.Vec.{with_item}
use Rattle.std.proofs.lemmas.Bool.{false≢true}
use Rattle.std.proofs.lemmas.Int.{to_z-of_z}
use Rattle.box_check.specs.declared.bounds.Bounds.{Bounds}
use Rattle.box_check.specs.declared.bounds.End.{End}
use Rattle.box_check.proofs.BoundsLaws.{Tightens_said, TightensEverywhere_said, Tightens_everywhere, TightensEverywhere_written, AreUpTo_written, Extends_written}
use Rattle.box_check.proofs.bounds.Bounds.put_everywhere.Goals as goal

-- what is written, with the literal's bound as a whole number
abbrev written_at : Bounds → ℕ → ℤ → List End
written_at bounds slot bound = set bounds.ends.items slot (record { level = 1; bound = bound })

pub returns-then-says_everywhere-clause-both : goal.returns-then-says_everywhere-clause-both
returns-then-says_everywhere-clause-both c = Tightens_said c.args.self.now c.args.lit (inl (c.says_everywhere.ensures.0 c.if-says_everywhere.true))

pub returns-then-says_everywhere-clause-everywhere : goal.returns-then-says_everywhere-clause-everywhere
returns-then-says_everywhere-clause-everywhere c = TightensEverywhere_said c.args.self.now c.args.lit (c.says_everywhere.ensures.0 c.if-says_everywhere.true)

pub returns-clause-both : goal.returns-clause-both
returns-clause-both c =
    let fits : FitsSigned w128 c.args.lit.bound = search rules in
    let bound : to_z w128 (of_z w128 c.args.lit.bound) ≡ c.args.lit.bound = simp to_z-of_z in
    let new : Bounds = record {
      vars = c.args.self.now.vars;
      level = c.args.self.now.level;
      ends = with_item c.args.self.now.ends c.slot-slot.result (record { level = 1; bound = to_z w128 (of_z w128 c.args.lit.bound) });
      changes = c.push.new.self;
    } in
    Tightens_everywhere c.args.self.now new c.args.lit c.slot-slot.result c.slot-slot.ensures c.requires.slot refl refl
    (ap (written_at c.args.self.now c.slot-slot.result) bound) (λ says. false≢true (c.if-says_everywhere.ensures.1 says))

pub returns-clause-everywhere : goal.returns-clause-everywhere
returns-clause-everywhere c =
    let fits : FitsSigned w128 c.args.lit.bound = search rules in
    let bound : to_z w128 (of_z w128 c.args.lit.bound) ≡ c.args.lit.bound = simp to_z-of_z in
    let new : Bounds = record {
      vars = c.args.self.now.vars;
      level = c.args.self.now.level;
      ends = with_item c.args.self.now.ends c.slot-slot.result (record { level = 1; bound = to_z w128 (of_z w128 c.args.lit.bound) });
      changes = c.push.new.self;
    } in
    TightensEverywhere_written c.args.self.now new c.args.lit c.slot-slot.result c.slot-slot.ensures c.requires.slot refl refl
    (ap (written_at c.args.self.now c.slot-slot.result) bound) (λ says. false≢true (c.if-says_everywhere.ensures.1 says))

pub returns-clause-up_to : goal.returns-clause-up_to
returns-clause-up_to c =
    let fits : FitsSigned w128 c.args.lit.bound = search rules in
    let bound : to_z w128 (of_z w128 c.args.lit.bound) ≡ c.args.lit.bound = simp to_z-of_z in
    AreUpTo_written c.args.self.now _ c.args.lit 0 1 c.slot-slot.result (omega arith) c.slot-slot.ensures c.requires.slot refl refl
    (ap (written_at c.args.self.now c.slot-slot.result) bound) c.requires.up_to.counted c.requires.up_to

pub returns-clause-extends : goal.returns-clause-extends
returns-clause-extends c =
    let fits : FitsSigned w128 c.args.lit.bound = search rules in
    let bound : to_z w128 (of_z w128 c.args.lit.bound) ≡ c.args.lit.bound = simp to_z-of_z in
    Extends_written c.args.self.now _ c.args.lit 0 1 c.slot-slot.result (omega arith) c.slot-slot.ensures c.requires.slot refl refl
    (ap (written_at c.args.self.now c.slot-slot.result) bound) _ c.in_ok-push.ensures.items c.index-before.ensures
