-- Rules taken one after the other.
use Rattle.ll_tree.specs.declared.func.Func.{Func}
use Rattle.ll_tree.specs.Formed.{IsFormed}
use Rattle.ll_verifier.specs.Rules.{HasNames, HasEntries, KeepsAll, Rules}

pub names_kept : (func : Func) → HasEntries func → HasNames func
names_kept func entries = entries.0.0.0.0.0.0

pub rules_kept : (func : Func) → IsFormed func → KeepsAll func → Rules func
rules_kept func formed keeps =
    let entries : HasEntries func = keeps.0.0.0 in
    record {
      formed = formed;
      limits = (names_kept func entries).0;
      names = (names_kept func entries).1;
      named = entries.0.0.0.0.0.1;
      typed = entries.0.0.0.0.1;
      cases = entries.0.0.0.1;
      linear = entries.0.0.1;
      divisors = entries.0.1;
      entries = entries.1;
      acyclic = keeps.0.0.1;
      reached = keeps.0.1;
      defined = keeps.1;
    }
