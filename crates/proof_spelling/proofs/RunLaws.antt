-- The lines of a proof lead from the first line to the end exactly where the proof has the form of one.
use Rattle.std.proofs.Common.{◌≡◌, ℕ, zero, suc, ◌+◌, ◌-◌, ◌<◌, List, [], ◌∷◌, ◌++◌, length, map, Bool, true, false, Option, Some, None, refl, sym, ◌∙◌, ap, subst, append_assoc, arith}
use Rattle.std.specs.Prelude.{◌==◌}
use Rattle.std.specs.List.{flat_map}
use Rattle.std.proofs.lemmas.Bool.{cond-false, ne_eqb}
use Rattle.mix_system.specs.declared.farkas.FarkasPart.{FarkasPart}
use Rattle.proof_term.specs.declared.proof.Shape.{Shape}
use Rattle.proof_term.specs.declared.proof.Proof.{Proof}
use Rattle.proof_term.specs.declared.step.Step.{Step}
use Rattle.proof_term.specs.declared.step.Step.TheVariants.{Lemma, Theory, Enter, Leave}
use Rattle.proof_term.specs.declared.tree.Node.{Node}
use Rattle.proof_term.specs.declared.tree.Node.TheVariants.{Leaf, Split}
use Rattle.proof_term.specs.Valid.{is_empty, IsOutermost}
use Rattle.proof_text.specs.declared.line.Version.TheVariants as version
use Rattle.proof_text.specs.declared.line.Line.{Line}
use Rattle.proof_text.specs.declared.line.Line.TheVariants as line
use Rattle.proof_spelling.specs.Lines.{multiple_of, node_line, step_lines, steps_lines, first_lines, goal_number, proof_lines}
use Rattle.proof_spelling.specs.Complete.{AreTrees, AreInOrder, IsComplete}
use Rattle.proof_spelling.specs.Ranges.{LineIsFull}
use Rattle.proof_spelling.specs.Draft.{Spot, AtHeader, AtShape, AtGoal, AtStep, AtNode, AtEnd, after, after_leaf, after_end}

-- lines that lead from a spot to another
abbrev pub Runs : Spot → List Line → Spot → Type 0
Runs spot [] to = to ≡ spot
Runs spot (l ∷ ls) to = LineIsFull l × ((next : Spot) × (after spot l ≡ Some next) × Runs next ls to)

pub runs_more : (spot : Spot) (ls ms : List Line) (mid to : Spot) → Runs spot ls mid → Runs mid ms to → Runs spot (ls ++ ms) to
runs_more spot [] ms mid to is runs = subst (λ (s : Spot). Runs s ms to) is runs
runs_more spot (l ∷ ls) ms mid to first runs = (first.0, (first.1.0, first.1.1, runs_more first.1.0 ls ms mid to first.1.2 runs))

pub record Halfway (spot : Spot) (ls ms : List Line) (to : Spot) : Type 0 where
  pub mid : Spot
  pub front : Runs spot ls mid
  pub back : Runs mid ms to

pub halfway : (spot : Spot) (ls ms : List Line) (to : Spot) → Runs spot (ls ++ ms) to → Halfway spot ls ms to
halfway spot [] ms to runs = record { mid = spot; front = refl; back = runs }
halfway spot (l ∷ ls) ms to runs =
    let rest = halfway runs.1.0 ls ms to runs.1.2 in
    record { mid = rest.mid; front = (runs.0, (runs.1.0, runs.1.1, rest.front)); back = rest.back }

-- one line more
pub runs_one : (spot next : Spot) (l : Line) → LineIsFull l → after spot l ≡ Some next → Runs spot (l ∷ []) next
runs_one spot next l full is = (full, (next, is, refl))

pub no_next : (spot : Spot) (l : Line) (ls : List Line) (to : Spot) → after spot l ≡ None → Runs spot (l ∷ ls) to → ⊥
no_next spot l ls to none runs = let e : None ≡ Some runs.1.0 = sym none ∙ runs.1.1 in absurd (cc e)

-- two runs along the same lines come to the same spot
pub same_spot : (spot : Spot) (ls : List Line) (first second : Spot) → Runs spot ls first → Runs spot ls second → first ≡ second
same_spot spot [] first second one other = one ∙ sym other
same_spot spot (l ∷ ls) first second one other =
    let e : Some one.1.0 ≡ Some other.1.0 = sym one.1.1 ∙ other.1.1 in
    let same : one.1.0 ≡ other.1.0 = cc e in
    same_spot other.1.0 ls first second (subst (λ (s : Spot). Runs s ls first) same one.1.2) other.1.2

-- where boxes are left

pub at_node : (empty : Bool) (around boxes : ℕ) → 0 < boxes → after_leaf empty around boxes ≡ AtNode empty around (boxes - 1)
at_node empty around boxes some =
    cond-false {A = Spot} (boxes == 0) (AtStep empty around) (AtNode empty around (boxes - 1)) (ne_eqb boxes 0 (λ e. omega (arith, some, e)))

more_boxes : (empty : Bool) (around boxes : ℕ) → 0 < boxes → AtNode empty around (boxes - 1 + 1) ≡ after_leaf empty around (boxes + 1)
more_boxes empty around boxes some =
    let same : boxes - 1 + 1 ≡ boxes + 1 - 1 = omega (arith, some) in
    ap (λ (n : ℕ). AtNode empty around n) same ∙ sym (at_node empty around (boxes + 1) (omega arith))

pub run_nodes : (empty : Bool) (around boxes : ℕ) (nodes : List Node) → AreTrees boxes nodes → Runs (after_leaf empty around boxes) (map node_line nodes) (AtStep empty around)
run_nodes empty around boxes [] none = subst (λ (n : ℕ). AtStep empty around ≡ after_leaf empty around n) (sym none) refl
run_nodes empty around boxes (Leaf farkas ∷ nodes) trees =
    let rest = run_nodes empty around (boxes - 1) nodes trees.2 in
    subst (λ (s : Spot). Runs s (map node_line (Leaf farkas ∷ nodes)) (AtStep empty around)) (sym (at_node empty around boxes trees.0))
    (full farkas.parts trees.1, (after_leaf empty around (boxes - 1), refl, rest))
  where
    full : (parts : List FarkasPart) → 0 < length parts → 0 < length (map multiple_of parts)
    full [] some = some
    full (part ∷ parts) some = omega arith
run_nodes empty around boxes (Split var middle ∷ nodes) trees =
    let rest = run_nodes empty around (boxes + 1) nodes trees.1 in
    subst (λ (s : Spot). Runs s (map node_line (Split var middle ∷ nodes)) (AtStep empty around)) (sym (at_node empty around boxes trees.0))
    (tt, (AtNode empty around (boxes - 1 + 1), refl, subst (λ (s : Spot). Runs s (map node_line nodes) (AtStep empty around)) (sym (more_boxes empty around boxes trees.0)) rest))

pub inner_end : (around : ℕ) → 0 < around → after_end around ≡ AtStep false (around - 1)
inner_end around some = cond-false {A = Spot} (around == 0) AtEnd (AtStep false (around - 1)) (ne_eqb around 0 (λ e. omega (arith, some, e)))

pub run_steps : (ended : Bool) (around : ℕ) (steps : List Step) → AreInOrder ended around steps → Runs (AtStep ended around) (steps_lines steps) AtEnd
run_steps ended around [] order =
    subst (λ (b : Bool). Runs (AtStep b around) (line.End ∷ []) AtEnd) (sym order.0)
    (tt, (after_end around, refl, subst (λ (n : ℕ). AtEnd ≡ after_end n) (sym order.1) refl))
run_steps ended around (Lemma clause hints ∷ steps) order =
    subst (λ (b : Bool). Runs (AtStep b around) (steps_lines (Lemma clause hints ∷ steps)) AtEnd) (sym order.0)
    (tt, (AtStep (is_empty clause) around, refl, run_steps (is_empty clause) around steps order.1))
run_steps ended around (Theory clause tree ∷ steps) order =
    let nodes = run_nodes (is_empty clause) around 1 tree.nodes order.1 in
    let rest = run_steps (is_empty clause) around steps order.2 in
    let both = runs_more (AtNode (is_empty clause) around 0) (map node_line tree.nodes) (steps_lines steps) (AtStep (is_empty clause) around) AtEnd nodes rest in
    let joined = subst (λ (ls : List Line). Runs (AtNode (is_empty clause) around 0) ls AtEnd) (sym (append_assoc (map node_line tree.nodes) (flat_map step_lines steps) (line.End ∷ []))) both in
    subst (λ (b : Bool). Runs (AtStep b around) (steps_lines (Theory clause tree ∷ steps)) AtEnd) (sym order.0)
    (tt, (AtNode (is_empty clause) around 0, refl, joined))
run_steps ended around (Enter term bound ∷ steps) order =
    subst (λ (b : Bool). Runs (AtStep b around) (steps_lines (Enter term bound ∷ steps)) AtEnd) (sym order.0)
    (tt, (AtStep false (around + 1), refl, run_steps false (around + 1) steps order.1))
run_steps ended around (Leave ∷ steps) order =
    subst (λ (b : Bool). Runs (AtStep b around) (steps_lines (Leave ∷ steps)) AtEnd) (sym order.0)
    (tt, (after_end around, refl, subst (λ (s : Spot). Runs s (steps_lines steps) AtEnd) (sym (inner_end around order.1)) (run_steps false (around - 1) steps order.2)))

pub run_first : (shape : Option Shape) (most : Option ℕ) (ls : List Line) (to : Spot) → Runs (AtStep false 0) ls to → Runs AtHeader (first_lines shape ++ line.Goal most ∷ ls) to
run_first None most ls to runs = (tt, (AtGoal, refl, (tt, (AtStep false 0, refl, runs))))
run_first (Some shape) most ls to runs = (tt, (AtShape, refl, (tt, (AtGoal, refl, (tt, (AtStep false 0, refl, runs))))))

pub complete_runs : (proof : Proof) → IsComplete proof → Runs AtHeader (proof_lines proof) AtEnd
complete_runs proof complete = run_first proof.shape (goal_number proof.goal) (steps_lines proof.steps) AtEnd (run_steps false 0 proof.steps complete.steps)

-- and back

-- a spot that follows is the one that is said
lead : (spot given : Spot) (l : Line) (ls : List Line) (to : Spot) → after spot l ≡ Some given → Runs spot (l ∷ ls) to → Runs given ls to
lead spot given l ls to is runs =
    let e : Some runs.1.0 ≡ Some given = sym runs.1.1 ∙ is in
    let same : runs.1.0 ≡ given = cc e in
    subst (λ (s : Spot). Runs s ls to) same runs.1.2

no_node : (empty : Bool) (around others : ℕ) (steps : List Step) (to : Spot) → Runs (AtNode empty around others) (steps_lines steps) to → ⊥
no_node empty around others [] to runs = no_next (AtNode empty around others) line.End [] to refl runs
no_node empty around others (Lemma clause hints ∷ steps) to runs = no_next (AtNode empty around others) (line.Lemma clause hints) (steps_lines steps) to refl runs
no_node empty around others (Theory clause tree ∷ steps) to runs =
    no_next (AtNode empty around others) (line.Theory clause) ((map node_line tree.nodes ++ flat_map step_lines steps) ++ line.End ∷ []) to refl runs
no_node empty around others (Enter term bound ∷ steps) to runs = no_next (AtNode empty around others) (line.Cut term bound) (steps_lines steps) to refl runs
no_node empty around others (Leave ∷ steps) to runs = no_next (AtNode empty around others) line.End (steps_lines steps) to refl runs

record Refuted (empty : Bool) (around boxes : ℕ) (nodes : List Node) (steps : List Step) : Type 0 where
  trees : AreTrees boxes nodes
  rest : Runs (AtStep empty around) (steps_lines steps) AtEnd

full_parts : (parts : List FarkasPart) → 0 < length (map multiple_of parts) → 0 < length parts
full_parts [] some = some
full_parts (part ∷ parts) some = omega arith

step_no_node : (empty : Bool) (around : ℕ) (node : Node) → after (AtStep empty around) (node_line node) ≡ None
step_no_node true around (Leaf farkas) = refl
step_no_node true around (Split var middle) = refl
step_no_node false around (Leaf farkas) = refl
step_no_node false around (Split var middle) = refl

one_less : (n : ℕ) → suc n - 1 ≡ n
one_less n = omega arith

nodes_from : (empty : Bool) (around boxes : ℕ) (nodes : List Node) (steps : List Step) → Runs (after_leaf empty around boxes) (map node_line nodes ++ steps_lines steps) AtEnd → Refuted empty around boxes nodes steps
nodes_from empty around zero [] steps runs = record { trees = refl; rest = runs }
nodes_from empty around (suc boxes) [] steps runs =
    absurd (no_node empty around (suc boxes - 1) steps AtEnd (subst (λ (s : Spot). Runs s (steps_lines steps) AtEnd) (at_node empty around (suc boxes) (omega arith)) runs))
nodes_from empty around zero (node ∷ nodes) steps runs = absurd (no_next (AtStep empty around) (node_line node) (map node_line nodes ++ steps_lines steps) AtEnd (step_no_node empty around node) runs)
nodes_from empty around (suc boxes) (Leaf farkas ∷ nodes) steps runs =
    let ls = map node_line nodes ++ steps_lines steps in
    let here = subst (λ (s : Spot). Runs s (node_line (Leaf farkas) ∷ ls) AtEnd) (at_node empty around (suc boxes) (omega arith)) runs in
    let led = lead (AtNode empty around (suc boxes - 1)) (after_leaf empty around (suc boxes - 1)) (node_line (Leaf farkas)) ls AtEnd refl here in
    let rest = nodes_from empty around boxes nodes steps (subst (λ (n : ℕ). Runs (after_leaf empty around n) ls AtEnd) (one_less boxes) led) in
    record { trees = (omega arith, full_parts farkas.parts here.0, subst (λ (n : ℕ). AreTrees n nodes) (sym (one_less boxes)) rest.trees); rest = rest.rest }
nodes_from empty around (suc boxes) (Split var middle ∷ nodes) steps runs =
    let ls = map node_line nodes ++ steps_lines steps in
    let here = subst (λ (s : Spot). Runs s (node_line (Split var middle) ∷ ls) AtEnd) (at_node empty around (suc boxes) (omega arith)) runs in
    let led = lead (AtNode empty around (suc boxes - 1)) (AtNode empty around (suc boxes - 1 + 1)) (node_line (Split var middle)) ls AtEnd refl here in
    let more = subst (λ (s : Spot). Runs s ls AtEnd) (more_boxes empty around (suc boxes) (omega arith)) led in
    let rest = nodes_from empty around (suc boxes + 1) nodes steps more in
    record { trees = (omega arith, rest.trees); rest = rest.rest }

some_lines : (steps : List Step) (to : Spot) → Runs AtEnd (steps_lines steps) to → ⊥
some_lines [] to runs = no_next AtEnd line.End [] to refl runs
some_lines (Lemma clause hints ∷ steps) to runs = no_next AtEnd (line.Lemma clause hints) (steps_lines steps) to refl runs
some_lines (Theory clause tree ∷ steps) to runs = no_next AtEnd (line.Theory clause) ((map node_line tree.nodes ++ flat_map step_lines steps) ++ line.End ∷ []) to refl runs
some_lines (Enter term bound ∷ steps) to runs = no_next AtEnd (line.Cut term bound) (steps_lines steps) to refl runs
some_lines (Leave ∷ steps) to runs = no_next AtEnd line.End (steps_lines steps) to refl runs

no_more : (around : ℕ) → AtEnd ≡ after_end around → around ≡ 0
no_more zero is = refl
no_more (suc around) is = let e : AtEnd ≡ AtStep false (suc around - 1) = is ∙ inner_end (suc around) (omega arith) in absurd (cc e)

steps_from : (ended : Bool) (around : ℕ) (steps : List Step) → Runs (AtStep ended around) (steps_lines steps) AtEnd → AreInOrder ended around steps
steps_from true around [] runs = (refl, no_more around (lead (AtStep true around) (after_end around) line.End [] AtEnd refl runs))
steps_from false around [] runs = absurd (no_next (AtStep false around) line.End [] AtEnd refl runs)
steps_from true around (Lemma clause hints ∷ steps) runs = absurd (no_next (AtStep true around) (line.Lemma clause hints) (steps_lines steps) AtEnd refl runs)
steps_from false around (Lemma clause hints ∷ steps) runs =
    (refl, steps_from (is_empty clause) around steps (lead (AtStep false around) (AtStep (is_empty clause) around) (line.Lemma clause hints) (steps_lines steps) AtEnd refl runs))
steps_from true around (Theory clause tree ∷ steps) runs =
    absurd (no_next (AtStep true around) (line.Theory clause) ((map node_line tree.nodes ++ flat_map step_lines steps) ++ line.End ∷ []) AtEnd refl runs)
steps_from false around (Theory clause tree ∷ steps) runs =
    let ls = (map node_line tree.nodes ++ flat_map step_lines steps) ++ line.End ∷ [] in
    let led = lead (AtStep false around) (AtNode (is_empty clause) around 0) (line.Theory clause) ls AtEnd refl runs in
    let apart = subst (λ (xs : List Line). Runs (AtNode (is_empty clause) around 0) xs AtEnd) (append_assoc (map node_line tree.nodes) (flat_map step_lines steps) (line.End ∷ [])) led in
    let rest = nodes_from (is_empty clause) around 1 tree.nodes steps apart in
    (refl, rest.trees, steps_from (is_empty clause) around steps rest.rest)
steps_from true around (Enter term bound ∷ steps) runs = absurd (no_next (AtStep true around) (line.Cut term bound) (steps_lines steps) AtEnd refl runs)
steps_from false around (Enter term bound ∷ steps) runs =
    (refl, steps_from false (around + 1) steps (lead (AtStep false around) (AtStep false (around + 1)) (line.Cut term bound) (steps_lines steps) AtEnd refl runs))
steps_from false around (Leave ∷ steps) runs = absurd (no_next (AtStep false around) line.End (steps_lines steps) AtEnd refl runs)
steps_from true zero (Leave ∷ steps) runs = absurd (some_lines steps AtEnd (lead (AtStep true 0) AtEnd line.End (steps_lines steps) AtEnd refl runs))
steps_from true (suc around) (Leave ∷ steps) runs =
    let led = lead (AtStep true (suc around)) (AtStep false (suc around - 1)) line.End (steps_lines steps) AtEnd (ap Some (inner_end (suc around) (omega arith))) runs in
    (refl, omega arith, steps_from false (suc around - 1) steps led)

from_first : (shape : Option Shape) (most : Option ℕ) (ls : List Line) (to : Spot) → Runs AtHeader (first_lines shape ++ line.Goal most ∷ ls) to → Runs (AtStep false 0) ls to
from_first None most ls to runs =
    lead AtGoal (AtStep false 0) (line.Goal most) ls to refl (lead AtHeader AtGoal (line.Header version.One) (line.Goal most ∷ ls) to refl runs)
from_first (Some shape) most ls to runs =
    let shaped = lead AtHeader AtShape (line.Header version.Two) (line.Shape shape.vars shape.clauses ∷ line.Goal most ∷ ls) to refl runs in
    lead AtGoal (AtStep false 0) (line.Goal most) ls to refl (lead AtShape AtGoal (line.Shape shape.vars shape.clauses) (line.Goal most ∷ ls) to refl shaped)

pub runs_complete : (proof : Proof) → IsOutermost proof.goal → Runs AtHeader (proof_lines proof) AtEnd → IsComplete proof
runs_complete proof outer runs =
    record { goal = outer; steps = steps_from false 0 proof.steps (from_first proof.shape (goal_number proof.goal) (steps_lines proof.steps) AtEnd runs) }
