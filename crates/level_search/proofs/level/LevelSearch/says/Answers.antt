use Rattle.std.proofs.Common.{refl, sym, subst}
use Rattle.mix_system.specs.Bounds.{IsIn, range_bounds}
use Rattle.level_search.proofs.KeptLaws.{said_by_range, said_by_single}
use Rattle.level_search.proofs.level.LevelSearch.says.Goals as goal

pub returns-then-is_in_range : goal.returns-then-is_in_range
returns-then-is_in_range c = (λ e. said_by_range c.args.self.now c.requires.kept c.args.lit (c.is_in_range.ensures.0 c.if-is_in_range.true), λ said. refl)

pub returns : goal.returns
returns c =
    let it = c.args.self.now in
    let unsaid : ¬ IsIn (range_bounds it.system.now.ranges) c.args.lit = λ said. absurd (cc (c.is_in_range.ensures.1 said, c.if-is_in_range.false)) in
    let both = said_by_single it c.requires.kept c.args.lit unsaid in
    let value = c.deref.ensures.value in
    (λ e. both.0 (subst (λ xs. IsIn xs c.args.lit) value (c.any_entails.ensures.0 e)), λ said. c.any_entails.ensures.1 (subst (λ xs. IsIn xs c.args.lit) (sym value) (both.1 said)))
