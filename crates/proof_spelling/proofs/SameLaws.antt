-- The lines of a proof are those of no other.
use Rattle.std.proofs.Common.{◌≡◌, ℕ, ℤ, pos, ◌≤ℤ◌, List, [], ◌∷◌, ◌++◌, map, Option, Some, None, refl, sym, ◌∙◌, ap, subst, append_assoc}
use Rattle.std.proofs.Math.Dec.{T_prop}
use Rattle.std.specs.List.{flat_map}
use Rattle.mix_system.specs.declared.literal.Lit.{Lit}
use Rattle.mix_system.specs.declared.farkas.FarkasPart.{FarkasPart}
use Rattle.proof_term.specs.declared.proof.Goal.{Goal}
use Rattle.proof_term.specs.declared.proof.Goal.TheVariants.{Nothing, AtMost, Below}
use Rattle.proof_term.specs.declared.proof.Shape.{Shape}
use Rattle.proof_term.specs.declared.proof.Proof.{Proof}
use Rattle.proof_term.specs.declared.step.Step.{Step}
use Rattle.proof_term.specs.declared.step.Step.TheVariants.{Lemma, Theory, Enter, Leave}
use Rattle.proof_term.specs.declared.tree.Node.{Node}
use Rattle.proof_term.specs.declared.tree.Node.TheVariants.{Leaf, Split}
use Rattle.proof_term.specs.declared.tree.Tree.{Tree}
use Rattle.proof_term.specs.Valid.{IsOutermost}
use Rattle.proof_text.specs.declared.line.Multiple.{Multiple}
use Rattle.proof_text.specs.declared.line.Line.{Line}
use Rattle.proof_text.specs.declared.line.Line.TheVariants as line
use Rattle.proof_spelling.specs.Lines.{multiple_of, node_line, step_lines, steps_lines, first_lines, goal_number, proof_lines}

≤ℤ-one : (a b : ℤ) (p q : a ≤ℤ b) → p ≡ q
≤ℤ-one a b p q = ap (λ t. record { le = t }) (T_prop _ p.le q.le)

abbrev part_with : (by : ℤ) (lit : Lit) → pos 1 ≤ℤ by → FarkasPart
part_with by lit once = record { lit = lit; by = by; at_least_once = once }

same_part_with : (lit : Lit) (a b : ℤ) → a ≡ b → (p : pos 1 ≤ℤ a) (q : pos 1 ≤ℤ b) → part_with a lit p ≡ part_with b lit q
same_part_with lit a b e p q =
    subst (λ (n : ℤ). (r : pos 1 ≤ℤ n) → part_with a lit p ≡ part_with n lit r) e (λ r. ap (λ (once : pos 1 ≤ℤ a). part_with a lit once) (≤ℤ-one (pos 1) a p r)) q

same_part : (p q : FarkasPart) → multiple_of p ≡ multiple_of q → p ≡ q
same_part p q e =
    ap (λ (lit : Lit). part_with p.by lit p.at_least_once) (ap (λ (m : Multiple). m.lit) e) ∙ same_part_with q.lit p.by q.by (ap (λ (m : Multiple). m.by) e) p.at_least_once q.at_least_once

same_parts : (ps qs : List FarkasPart) → map multiple_of ps ≡ map multiple_of qs → ps ≡ qs
same_parts [] [] is = refl
same_parts [] (q ∷ qs) is = absurd (cc is)
same_parts (p ∷ ps) [] is = absurd (cc is)
same_parts (p ∷ ps) (q ∷ qs) is =
    let first : multiple_of p ≡ multiple_of q = cc is in
    let rest : map multiple_of ps ≡ map multiple_of qs = cc is in
    ap (λ (x : FarkasPart). x ∷ ps) (same_part p q first) ∙ ap (λ (xs : List FarkasPart). q ∷ xs) (same_parts ps qs rest)

same_node : (n m : Node) → node_line n ≡ node_line m → n ≡ m
same_node (Leaf f) (Leaf g) is =
    let parts : map multiple_of f.parts ≡ map multiple_of g.parts = cc is in
    ap (λ (ps : List FarkasPart). Leaf (record { parts = ps })) (same_parts f.parts g.parts parts)
same_node (Leaf f) (Split var at) is = absurd (cc is)
same_node (Split var at) (Leaf g) is = absurd (cc is)
same_node (Split var at) (Split v a) is =
    let one : var ≡ v = cc is in
    let other : at ≡ a = cc is in
    rw (one, other) refl

-- a line of a step, and none of a node
step_is_no_node : (steps : List Step) (node : Node) (ls : List Line) → steps_lines steps ≡ node_line node ∷ ls → ⊥
step_is_no_node [] (Leaf f) ls is = absurd (cc is)
step_is_no_node [] (Split var at) ls is = absurd (cc is)
step_is_no_node (Lemma clause hints ∷ steps) (Leaf f) ls is = absurd (cc is)
step_is_no_node (Lemma clause hints ∷ steps) (Split var at) ls is = absurd (cc is)
step_is_no_node (Theory clause tree ∷ steps) (Leaf f) ls is = absurd (cc is)
step_is_no_node (Theory clause tree ∷ steps) (Split var at) ls is = absurd (cc is)
step_is_no_node (Enter term bound ∷ steps) (Leaf f) ls is = absurd (cc is)
step_is_no_node (Enter term bound ∷ steps) (Split var at) ls is = absurd (cc is)
step_is_no_node (Leave ∷ steps) (Leaf f) ls is = absurd (cc is)
step_is_no_node (Leave ∷ steps) (Split var at) ls is = absurd (cc is)

record AreSame (ns ms : List Node) (steps others : List Step) : Type 0 where
  nodes : ns ≡ ms
  rest : steps_lines steps ≡ steps_lines others

same_nodes : (ns ms : List Node) (steps others : List Step) → map node_line ns ++ steps_lines steps ≡ map node_line ms ++ steps_lines others → AreSame ns ms steps others
same_nodes [] [] steps others is = record { nodes = refl; rest = is }
same_nodes [] (m ∷ ms) steps others is = absurd (step_is_no_node steps m (map node_line ms ++ steps_lines others) is)
same_nodes (n ∷ ns) [] steps others is = absurd (step_is_no_node others n (map node_line ns ++ steps_lines steps) (sym is))
same_nodes (n ∷ ns) (m ∷ ms) steps others is =
    let first : node_line n ≡ node_line m = cc is in
    let more : map node_line ns ++ steps_lines steps ≡ map node_line ms ++ steps_lines others = cc is in
    let rest = same_nodes ns ms steps others more in
    record { nodes = ap (λ (x : Node). x ∷ ns) (same_node n m first) ∙ ap (λ (xs : List Node). m ∷ xs) rest.nodes; rest = rest.rest }

-- the lines of a theory, taken apart
theory_apart : (clause : List Lit) (tree : Tree) (steps : List Step) → steps_lines (Theory clause tree ∷ steps) ≡ line.Theory clause ∷ (map node_line tree.nodes ++ steps_lines steps)
theory_apart clause tree steps = ap (λ (ls : List Line). line.Theory clause ∷ ls) (append_assoc (map node_line tree.nodes) (flat_map step_lines steps) (line.End ∷ []))

no_lines : (steps : List Step) → [] ≡ steps_lines steps → ⊥
no_lines [] is = absurd (cc is)
no_lines (Lemma clause hints ∷ steps) is = absurd (cc is)
no_lines (Theory clause tree ∷ steps) is = absurd (cc is)
no_lines (Enter term bound ∷ steps) is = absurd (cc is)
no_lines (Leave ∷ steps) is = absurd (cc is)

same_steps : (steps others : List Step) → steps_lines steps ≡ steps_lines others → steps ≡ others
same_steps [] [] is = refl
same_steps [] (Lemma clause hints ∷ others) is = absurd (cc is)
same_steps [] (Theory clause tree ∷ others) is = absurd (cc is)
same_steps [] (Enter term bound ∷ others) is = absurd (cc is)
same_steps [] (Leave ∷ others) is = let rest : [] ≡ steps_lines others = cc is in absurd (no_lines others rest)
same_steps (Lemma clause hints ∷ steps) [] is = absurd (cc is)
same_steps (Lemma clause hints ∷ steps) (Lemma c h ∷ others) is =
    let one : clause ≡ c = cc is in
    let other : hints ≡ h = cc is in
    let rest : steps_lines steps ≡ steps_lines others = cc is in
    rw (one, other) (ap (λ (xs : List Step). Lemma c h ∷ xs) (same_steps steps others rest))
same_steps (Lemma clause hints ∷ steps) (Theory c t ∷ others) is = absurd (cc is)
same_steps (Lemma clause hints ∷ steps) (Enter t b ∷ others) is = absurd (cc is)
same_steps (Lemma clause hints ∷ steps) (Leave ∷ others) is = absurd (cc is)
same_steps (Theory clause tree ∷ steps) [] is = absurd (cc is)
same_steps (Theory clause tree ∷ steps) (Lemma c h ∷ others) is = absurd (cc is)
same_steps (Theory clause tree ∷ steps) (Theory c t ∷ others) is =
    let whole : line.Theory clause ∷ (map node_line tree.nodes ++ steps_lines steps) ≡ line.Theory c ∷ (map node_line t.nodes ++ steps_lines others) =
    sym (theory_apart clause tree steps) ∙ is ∙ theory_apart c t others in
    let one : clause ≡ c = cc whole in
    let more : map node_line tree.nodes ++ steps_lines steps ≡ map node_line t.nodes ++ steps_lines others = cc whole in
    let rest = same_nodes tree.nodes t.nodes steps others more in
    ap (λ (x : List Lit). Theory x tree ∷ steps) one ∙ ap (λ (ns : List Node). Theory c (record { nodes = ns }) ∷ steps) rest.nodes ∙ ap (λ (xs : List Step). Theory c t ∷ xs) (same_steps steps others rest.rest)
same_steps (Theory clause tree ∷ steps) (Enter t b ∷ others) is = absurd (cc is)
same_steps (Theory clause tree ∷ steps) (Leave ∷ others) is = absurd (cc is)
same_steps (Enter term bound ∷ steps) [] is = absurd (cc is)
same_steps (Enter term bound ∷ steps) (Lemma c h ∷ others) is = absurd (cc is)
same_steps (Enter term bound ∷ steps) (Theory c t ∷ others) is = absurd (cc is)
same_steps (Enter term bound ∷ steps) (Enter t b ∷ others) is =
    let one : term ≡ t = cc is in
    let other : bound ≡ b = cc is in
    let rest : steps_lines steps ≡ steps_lines others = cc is in
    rw (one, other) (ap (λ (xs : List Step). Enter t b ∷ xs) (same_steps steps others rest))
same_steps (Enter term bound ∷ steps) (Leave ∷ others) is = absurd (cc is)
same_steps (Leave ∷ steps) [] is = let rest : steps_lines steps ≡ [] = cc is in absurd (no_lines steps (sym rest))
same_steps (Leave ∷ steps) (Lemma c h ∷ others) is = absurd (cc is)
same_steps (Leave ∷ steps) (Theory c t ∷ others) is = absurd (cc is)
same_steps (Leave ∷ steps) (Enter t b ∷ others) is = absurd (cc is)
same_steps (Leave ∷ steps) (Leave ∷ others) is =
    let rest : steps_lines steps ≡ steps_lines others = cc is in
    ap (λ (xs : List Step). Leave ∷ xs) (same_steps steps others rest)

record AreFirst (shape other : Option Shape) (ls ms : List Line) : Type 0 where
  shapes : shape ≡ other
  rest : ls ≡ ms

same_first : (shape other : Option Shape) (most more : Option ℕ) (ls ms : List Line) → first_lines shape ++ line.Goal most ∷ ls ≡ first_lines other ++ line.Goal more ∷ ms
    → AreFirst shape other (line.Goal most ∷ ls) (line.Goal more ∷ ms)
same_first None None most more ls ms is = record { shapes = refl; rest = cc is }
same_first None (Some s) most more ls ms is = absurd (cc is)
same_first (Some s) None most more ls ms is = absurd (cc is)
same_first (Some s) (Some t) most more ls ms is =
    let one : s.vars ≡ t.vars = cc is in
    let other : s.clauses ≡ t.clauses = cc is in
    record { shapes = ap (λ (v : ℕ). Some (record { vars = v; clauses = s.clauses })) one ∙ ap (λ (c : ℕ). Some (record { vars = t.vars; clauses = c })) other; rest = cc is }

same_goal : (g h : Goal) → IsOutermost g → IsOutermost h → goal_number g ≡ goal_number h → g ≡ h
same_goal Nothing Nothing a b is = refl
same_goal Nothing (AtMost n) a b is = absurd (cc is)
same_goal (AtMost n) Nothing a b is = absurd (cc is)
same_goal (AtMost n) (AtMost m) a b is = let same : n ≡ m = cc is in ap AtMost same
same_goal (Below t b) h x y is = absurd x
same_goal Nothing (Below t b) x y is = absurd y
same_goal (AtMost n) (Below t b) x y is = absurd y

pub same_proof : (p q : Proof) → IsOutermost p.goal → IsOutermost q.goal → proof_lines p ≡ proof_lines q → p ≡ q
same_proof p q outer other is =
    let first = same_first p.shape q.shape (goal_number p.goal) (goal_number q.goal) (steps_lines p.steps) (steps_lines q.steps) is in
    let goal : goal_number p.goal ≡ goal_number q.goal = cc first.rest in
    let steps : steps_lines p.steps ≡ steps_lines q.steps = cc first.rest in
    ap (λ (g : Goal). record { goal = g; shape = p.shape; steps = p.steps }) (same_goal p.goal q.goal outer other goal)
    ∙ ap (λ (s : Option Shape). record { goal = q.goal; shape = s; steps = p.steps }) first.shapes
    ∙ ap (λ (xs : List Step). record { goal = q.goal; shape = q.shape; steps = xs }) (same_steps p.steps q.steps steps)
