use Rattle.std.proofs.Common.{Bool, true, false, ap, subst, sym}
use Rattle.mix_system.specs.declared.literal.Lit.{Lit}
use Rattle.mix_system.specs.declared.tally.Tally.{Tally}
use Rattle.clause_search.specs.Search.{Search}
use Rattle.clause_search.specs.Decided.{Decides}
use Rattle.level_steps.specs.Plain.{IsNamed}
use Rattle.level_search.specs.declared.level.LevelSearch.{LevelSearch}
use Rattle.level_search.specs.Kept.{IsKept}
use Rattle.level_search.proofs.AllowedLaws.{over_decided}
use Rattle.level_search.proofs.KeptLaws.{in_either, kept_with}
use Rattle.level_search.proofs.level.LevelSearch.decide.Goals as goal

kept_decided : (it : LevelSearch) (new : Search) (lit : Lit) (before after : Tally) → IsNamed it.system.now lit → IsKept it → (decided : Bool) → Decides decided lit it.search new before after → IsKept (record it { search = new })
kept_decided it new lit before after named kept true is = kept_with it new (ap (λ (s : Search). s.store) is.level) (over_decided it.system.now it.search new lit before after is named kept.over) kept
kept_decided it new lit before after named kept false is = subst (λ (s : Search). IsKept (record it { search = s })) (sym is.state) kept

pub returns-clause-kept : goal.returns-clause-kept
returns-clause-kept c =
    in_either c.decide.result _ _ _ (kept_decided c.args.self.now c.decide.new.self c.args.lit.now c.args.tally.now c.decide.new.tally c.requires.named c.requires.kept)
    (λ same. subst (λ (s : Search). IsKept (record c.args.self.now { search = s })) (sym same) c.requires.kept) c.decide.ensures.decides c.decide.ensures.err
