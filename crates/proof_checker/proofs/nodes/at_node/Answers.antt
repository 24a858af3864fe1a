use Rattle.std.proofs.Common.{rules, ℤ, FitsSigned, to_z, of_z, IfOk, ◌≡◌, ◌∷◌, List, refl, inl, inr, subst}
use Rattle.proof_text.specs.declared.line.Line.TheVariants.{Split, Leaf}
use Rattle.open_levels.specs.Kept.{stage_of}
use Rattle.proof_checker.specs.Outcome.{SplitGives, LeafGives}
use Rattle.proof_checker.specs.Kept.{IsTheory, Comes}
use Rattle.mix_system.specs.declared.literal.Lit.{Lit}
use Rattle.std.specs.Int.{w128}
use Rattle.std.proofs.lemmas.Int.{to_z-of_z}
use Rattle.proof_checker.proofs.KeptLaws.{node_line}
use Rattle.proof_checker.proofs.ComesLaws.{no_node}
use Rattle.proof_checker.proofs.nodes.at_node.Goals as goal

pub returns-in-Split-clause-gives : goal.returns-in-Split-clause-gives
returns-in-Split-clause-gives c =
    let base = c.args.base.now in
    let theory = c.args.theory in
    let fits : FitsSigned w128 c.in-Split.at = search rules in
    let same : to_z w128 (of_z w128 c.in-Split.at) ≡ c.in-Split.at = simp to_z-of_z in
    let Splits : ℤ → Type 0 = λ at. IfOk c.split.result (λ f. (box : List Lit) (boxes : List (List Lit)) → IsTheory base theory (box ∷ boxes)
    → Comes base (SplitGives base.system.now (stage_of theory.levels) theory.clause box boxes c.in-Split.var at) f) in
    node_line base theory c.args.line (Split c.in-Split.var c.in-Split.at)
    (λ box boxes. SplitGives base.system.now (stage_of theory.levels) theory.clause box boxes c.in-Split.var c.in-Split.at) c.in-Split.is (λ box boxes o gives. inr (refl, gives)) c.split.result
    (subst Splits same c.split.ensures)

pub leaf-requires : goal.leaf-requires
leaf-requires c =
    let once = rw c.in-Leaf.is at c.requires.once in
    record { theory = c.requires.theory; once = rw c.items.ensures once; clear = c.requires.clear }

pub returns-in-Leaf-clause-gives : goal.returns-in-Leaf-clause-gives
returns-in-Leaf-clause-gives c =
    let base = c.args.base.now in
    let theory = c.args.theory in
    let gives = rw c.items.ensures at c.leaf.ensures.gives in
    node_line base theory c.args.line (Leaf c.in-Leaf.parts) (λ box boxes. LeafGives base.system.now (stage_of theory.levels) theory.clause box boxes c.in-Leaf.parts) c.in-Leaf.is
    (λ box boxes o gives. inr (refl, gives)) c.leaf.result gives

pub returns-in_default-clause-gives : goal.returns-in_default-clause-gives
returns-in_default-clause-gives c = λ boxes t. inl (no_node c.args.line c.in_default.not-Split c.in_default.not-Leaf, refl)
