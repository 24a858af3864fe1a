use Rattle.ll_verifier.proofs.RuleLaws.{rules_kept}
use Rattle.ll_verifier.proofs.sound.Sound.new.Goals as goal

pub invariant_of-result : goal.invariant_of-result
invariant_of-result c = record {
  sound = record { rules = rules_kept c.args.func c.requires.formed c.requires.checked.keeps; flow = c.requires.checked.flow; whole = c.requires.checked.whole };
  order = c.requires.checked.order;
  edges = c.requires.checked.edges;
  bits = rw c.items.ensures at c.bits_of-bits.ensures;
}
