-- What is counted in one turn of the search, and how the search ends.
use Rattle.std.proofs.Common.{◌≡◌, ℕ, ◌+◌, ◌<◌, ◌≤◌, List, [], ◌∷◌, length, ℤ, refl, sym, ◌∙◌, subst, arith}
use Rattle.mix_system.specs.declared.tally.Tally.{Tally}
use Rattle.mix_system.specs.declared.tally.Work.TheVariants.{Split as SplitUnit, Check as CheckUnit}
use Rattle.mix_system.specs.Tally.{CountsOne}
use Rattle.proof_term.specs.declared.tree.Node.{Node}
use Rattle.bounded_simplex.specs.InForce.{BoundChanges}
use Rattle.integer_splits.specs.Boxes.{splits_of, IsTreeTo}
use Rattle.integer_splits.specs.Search.{IsSearched, LeavesBoxes, CountsNodes}
use Rattle.integer_splits.specs.Stack.{Stand}
use Rattle.integer_splits.specs.WholePoint.{IsWholePoint}
use Rattle.integer_splits.specs.declared.found.Ended.TheVariants.{Point, Refuted, Spent}
use Rattle.integer_splits.specs.declared.found.Searched.{Searched}
use Rattle.integer_splits.specs.declared.half.Half.{Half}
use Rattle.integer_splits.proofs.StackLaws.{stand_few, stand_left}

-- one check
pub counts_check : (old now next : Tally) (nodes more : List Node) (waiting left : ℕ) → CountsNodes old now nodes waiting → CountsOne CheckUnit now next → splits_of more ≡ splits_of nodes → left + 1 ≤ waiting
    → CountsNodes old next more left
counts_check old now next nodes more waiting left before one same fewer = record {
  splits = omega (arith, before.splits, one.splits, same);
  checks = omega (arith, before.checks, one.checks);
  few_checks = omega (arith, before.few_checks, one.checks, same, fewer);
  decisions = one.decisions ∙ omega (arith, before.decisions);
  propagations = one.propagations ∙ omega (arith, before.propagations);
  conflicts = one.conflicts ∙ omega (arith, before.conflicts);
  budget = one.budget ∙ before.budget;
}

-- one check and one split
pub counts_split : (old now mid next : Tally) (nodes more : List Node) (waiting left : ℕ) → CountsNodes old now nodes waiting → CountsOne CheckUnit now mid → CountsOne SplitUnit mid next
    → splits_of more ≡ splits_of nodes + 1 → left ≡ waiting + 1 → CountsNodes old next more left
counts_split old now mid next nodes more waiting left before one two more_splits more_left = record {
  splits = omega (arith, before.splits, one.splits, two.splits, more_splits);
  checks = omega (arith, before.checks, one.checks, two.checks);
  few_checks = omega (arith, before.few_checks, one.checks, two.checks, more_splits, more_left);
  decisions = omega (arith, two.decisions, one.decisions, before.decisions);
  propagations = omega (arith, two.propagations, one.propagations, before.propagations);
  conflicts = omega (arith, two.conflicts, one.conflicts, before.conflicts);
  budget = two.budget ∙ one.budget ∙ before.budget;
}

pub counts_first : (tally : Tally) → CountsNodes tally tally [] 1
counts_first tally = record {
  splits = omega arith;
  checks = omega arith;
  few_checks = omega arith;
  decisions = refl;
  propagations = refl;
  conflicts = refl;
  budget = refl;
}

-- the ends

module _ (base now : BoundChanges) (nodes : List Node) (halves : List Half) (stand : Stand base now nodes halves) where
  pub searched_point : (point : List ℤ) (left : ℕ) → left ≡ length halves + 1 → IsWholePoint now point → IsSearched base (record { nodes = nodes; left = left; ended = Point point })
  searched_point point left is whole = record {
    left = stand.splits ∷ stand.left;
    tree = stand.tree;
    count = omega (arith, is, stand_left base now nodes halves stand);
    few = omega (arith, stand_few base now nodes halves stand);
    ends = (stand.splits, stand.left, refl, subst (λ b. IsWholePoint b point) stand.is whole);
  }

  pub searched_out : (searched : Searched) → searched.nodes ≡ nodes → searched.left ≡ length halves + 1 → searched.ended ≡ Spent → IsSearched base searched
  searched_out searched same is ended =
      let some : 0 < length (stand.splits ∷ stand.left) = omega arith in
      record {
        left = stand.splits ∷ stand.left;
        tree = subst (λ ns. IsTreeTo base ns (stand.splits ∷ stand.left)) (sym same) stand.tree;
        count = omega (arith, is, stand_left base now nodes halves stand);
        few = omega (arith, stand_few base now nodes halves stand);
        ends = subst (LeavesBoxes base (stand.splits ∷ stand.left)) (sym ended) some;
      }

pub searched_all : (base : BoundChanges) (nodes : List Node) → IsTreeTo base nodes [] → IsSearched base (record { nodes = nodes; left = 0; ended = Refuted })
searched_all base nodes tree = record {
  left = [];
  tree = tree;
  count = refl;
  few = omega arith;
  ends = refl;
}
