-- What is kept of a text's lines, behind one line more.
use Rattle.std.proofs.Common.{◌≡◌, ℕ, ℤ, ◌+◌, ◌-◌, ◌<◌, List, [], ◌∷◌, ◌++◌, map, Bool, true, false, Option, Some, None, refl, sym, ◌∙◌, ap, subst, append_assoc}
use Rattle.std.specs.List.{flat_map}
use Rattle.std.proofs.lemmas.List.{append-nil}
use Rattle.mix_system.specs.declared.literal.Term.{Term}
use Rattle.mix_system.specs.declared.literal.Lit.{Lit}
use Rattle.mix_system.specs.declared.farkas.Farkas.{Farkas}
use Rattle.proof_term.specs.declared.proof.Shape.{Shape}
use Rattle.proof_term.specs.declared.step.Step.{Step}
use Rattle.proof_term.specs.declared.step.Step.TheVariants.{Lemma, Theory, Enter, Leave}
use Rattle.proof_term.specs.declared.tree.Node.{Node}
use Rattle.proof_term.specs.declared.tree.Node.TheVariants.{Leaf, Split}
use Rattle.proof_term.specs.Valid.{is_empty}
use Rattle.proof_text.specs.declared.line.Multiple.{Multiple}
use Rattle.proof_text.specs.declared.line.Line.{Line}
use Rattle.proof_text.specs.declared.line.Line.TheVariants as line
use Rattle.proof_spelling.specs.declared.draft.Draft.{Draft}
use Rattle.proof_spelling.specs.declared.draft.Draft.TheVariants as draft
use Rattle.proof_spelling.specs.declared.draft.Opened.{Opened}
use Rattle.proof_spelling.specs.declared.draft.Growing.{Growing}
use Rattle.proof_spelling.specs.Lines.{multiple_of, node_line, step_lines, first_lines}
use Rattle.proof_spelling.specs.Draft.{AtStep, AtNode, AtEnd, after, after_header, after_shape, after_goal, after_step, after_empty, after_node, after_leaf, after_end, opened_lines, Comes, theory_ended}
use Rattle.proof_spelling.proofs.RunLaws.{at_node, inner_end}

flat_step : (steps : List Step) (step : Step) → flat_map step_lines (steps ++ step ∷ []) ≡ flat_map step_lines steps ++ step_lines step
flat_step [] step = append-nil (step_lines step)
flat_step (s ∷ steps) step = ap (λ (ls : List Line). step_lines s ++ ls) (flat_step steps step) ∙ sym (append_assoc (step_lines s) (flat_map step_lines steps) (step_lines step))

-- steps behind one step more
pub more_steps : (shape : Option Shape) (most : Option ℕ) (steps : List Step) (step : Step)
    → first_lines shape ++ line.Goal most ∷ flat_map step_lines (steps ++ step ∷ []) ≡ (first_lines shape ++ line.Goal most ∷ flat_map step_lines steps) ++ step_lines step
more_steps shape most steps step =
    ap (λ (ls : List Line). first_lines shape ++ line.Goal most ∷ ls) (flat_step steps step)
    ∙ sym (append_assoc (first_lines shape) (line.Goal most ∷ flat_map step_lines steps) (step_lines step))

map_node : (nodes : List Node) (node : Node) → map node_line (nodes ++ node ∷ []) ≡ map node_line nodes ++ node_line node ∷ []
map_node [] node = refl
map_node (n ∷ nodes) node = ap (λ (ls : List Line). node_line n ∷ ls) (map_node nodes node)

-- nodes behind one node more
pub more_nodes : (front : List Line) (clause : List Lit) (nodes : List Node) (node : Node)
    → front ++ line.Theory clause ∷ map node_line (nodes ++ node ∷ []) ≡ (front ++ line.Theory clause ∷ map node_line nodes) ++ node_line node ∷ []
more_nodes front clause nodes node =
    ap (λ (ls : List Line). front ++ line.Theory clause ∷ ls) (map_node nodes node)
    ∙ sym (append_assoc front (line.Theory clause ∷ map node_line nodes) (node_line node ∷ []))

-- a leaf whose parts are those of the line
pub leaf_lines : (front : List Line) (clause : List Lit) (nodes : List Node) (farkas : Farkas) (multiples : List Multiple) → map multiple_of farkas.parts ≡ multiples
    → front ++ line.Theory clause ∷ map node_line (nodes ++ Leaf farkas ∷ []) ≡ (front ++ line.Theory clause ∷ map node_line nodes) ++ line.Leaf multiples ∷ []
leaf_lines front clause nodes farkas multiples is =
    more_nodes front clause nodes (Leaf farkas) ∙ ap (λ (ms : List Multiple). (front ++ line.Theory clause ∷ map node_line nodes) ++ line.Leaf ms ∷ []) is

pub last_box : (empty : Bool) (around others : ℕ) → others ≡ 0 → after_leaf empty around others ≡ AtStep empty around
last_box empty around others is = subst (λ (n : ℕ). after_leaf empty around n ≡ AtStep empty around) (sym is) refl

pub outer_end : (around : ℕ) → around ≡ 0 → after_end around ≡ AtEnd
outer_end around is = subst (λ (n : ℕ). after_end n ≡ AtEnd) (sym is) refl

-- lines of other kinds

pub no_header : (l : Line) → ((v : _) → l ≡ line.Header v → ⊥) → after_header l ≡ None
no_header (line.Header v) not_one = absurd (not_one v refl)
no_header (line.Shape vars clauses) not_one = refl
no_header (line.Goal most) not_one = refl
no_header (line.Lemma clause hints) not_one = refl
no_header (line.Theory clause) not_one = refl
no_header (line.Split var at) not_one = refl
no_header (line.Leaf parts) not_one = refl
no_header (line.Cut term bound) not_one = refl
no_header line.End not_one = refl

pub no_shape : (l : Line) → ((vars clauses : _) → l ≡ line.Shape vars clauses → ⊥) → after_shape l ≡ None
no_shape (line.Header v) not_one = refl
no_shape (line.Shape vars clauses) not_one = absurd (not_one vars clauses refl)
no_shape (line.Goal most) not_one = refl
no_shape (line.Lemma clause hints) not_one = refl
no_shape (line.Theory clause) not_one = refl
no_shape (line.Split var at) not_one = refl
no_shape (line.Leaf parts) not_one = refl
no_shape (line.Cut term bound) not_one = refl
no_shape line.End not_one = refl

pub no_goal : (l : Line) → ((most : _) → l ≡ line.Goal most → ⊥) → after_goal l ≡ None
no_goal (line.Header v) not_one = refl
no_goal (line.Shape vars clauses) not_one = refl
no_goal (line.Goal most) not_one = absurd (not_one most refl)
no_goal (line.Lemma clause hints) not_one = refl
no_goal (line.Theory clause) not_one = refl
no_goal (line.Split var at) not_one = refl
no_goal (line.Leaf parts) not_one = refl
no_goal (line.Cut term bound) not_one = refl
no_goal line.End not_one = refl

pub no_step_line : (around : ℕ) (l : Line) → ((clause hints : _) → l ≡ line.Lemma clause hints → ⊥) → ((clause : _) → l ≡ line.Theory clause → ⊥) → ((term bound : _) → l ≡ line.Cut term bound → ⊥) → after_step around l ≡ None
no_step_line around (line.Header v) not_lemma not_theory not_cut = refl
no_step_line around (line.Shape vars clauses) not_lemma not_theory not_cut = refl
no_step_line around (line.Goal most) not_lemma not_theory not_cut = refl
no_step_line around (line.Lemma clause hints) not_lemma not_theory not_cut = absurd (not_lemma clause hints refl)
no_step_line around (line.Theory clause) not_lemma not_theory not_cut = absurd (not_theory clause refl)
no_step_line around (line.Split var at) not_lemma not_theory not_cut = refl
no_step_line around (line.Leaf parts) not_lemma not_theory not_cut = refl
no_step_line around (line.Cut term bound) not_lemma not_theory not_cut = absurd (not_cut term bound refl)
no_step_line around line.End not_lemma not_theory not_cut = refl

pub no_end_line : (around : ℕ) (l : Line) → (l ≡ line.End → ⊥) → after_empty around l ≡ None
no_end_line around (line.Header v) not_end = refl
no_end_line around (line.Shape vars clauses) not_end = refl
no_end_line around (line.Goal most) not_end = refl
no_end_line around (line.Lemma clause hints) not_end = refl
no_end_line around (line.Theory clause) not_end = refl
no_end_line around (line.Split var at) not_end = refl
no_end_line around (line.Leaf parts) not_end = refl
no_end_line around (line.Cut term bound) not_end = refl
no_end_line around line.End not_end = absurd (not_end refl)

pub no_node_line : (empty : Bool) (around others : ℕ) (l : Line) → ((var at : _) → l ≡ line.Split var at → ⊥) → ((parts : _) → l ≡ line.Leaf parts → ⊥) → after_node empty around others l ≡ None
no_node_line empty around others (line.Header v) not_split not_leaf = refl
no_node_line empty around others (line.Shape vars clauses) not_split not_leaf = refl
no_node_line empty around others (line.Goal most) not_split not_leaf = refl
no_node_line empty around others (line.Lemma clause hints) not_split not_leaf = refl
no_node_line empty around others (line.Theory clause) not_split not_leaf = refl
no_node_line empty around others (line.Split var at) not_split not_leaf = absurd (not_split var at refl)
no_node_line empty around others (line.Leaf parts) not_split not_leaf = absurd (not_leaf parts refl)
no_node_line empty around others (line.Cut term bound) not_split not_leaf = refl
no_node_line empty around others line.End not_split not_leaf = refl

-- behind a step that has its own line
pub no_step : (ended : Bool) (around : ℕ) (l : Line) → ended ≡ false → ((clause hints : _) → l ≡ line.Lemma clause hints → ⊥) → ((clause : _) → l ≡ line.Theory clause → ⊥)
    → ((term bound : _) → l ≡ line.Cut term bound → ⊥) → after (AtStep ended around) l ≡ None
no_step ended around l is not_lemma not_theory not_cut =
    subst (λ (b : Bool). after (AtStep b around) l ≡ None) (sym is) (no_step_line around l not_lemma not_theory not_cut)

pub no_end : (ended : Bool) (around : ℕ) (l : Line) → ended ≡ true → (l ≡ line.End → ⊥) → after (AtStep ended around) l ≡ None
no_end ended around l is not_end = subst (λ (b : Bool). after (AtStep b around) l ≡ None) (sym is) (no_end_line around l not_end)

pub no_node : (empty : Bool) (around others : ℕ) (l : Line) → ((var at : _) → l ≡ line.Split var at → ⊥) → ((parts : _) → l ≡ line.Leaf parts → ⊥) → after (AtNode empty around others) l ≡ None
no_node empty around others l not_split not_leaf = no_node_line empty around others l not_split not_leaf

-- what is kept behind a step, an end, a node

pub after_lemma : (opened next : Opened) (clause : List Lit) (hints : List ℕ) → opened.ended ≡ false
    → next ≡ record opened { steps = opened.steps ++ Lemma clause hints ∷ []; ended = is_empty clause } → Comes (draft.Step opened) (line.Lemma clause hints) (Some (draft.Step next))
after_lemma opened next clause hints first is =
    subst (λ (o : Opened). Comes (draft.Step opened) (line.Lemma clause hints) (Some (draft.Step o))) (sym is)
    (subst (λ (b : Bool). after (AtStep b opened.around) (line.Lemma clause hints) ≡ Some (AtStep (is_empty clause) opened.around)) (sym first) refl, more_steps opened.shape opened.most opened.steps (Lemma clause hints))

pub after_cut : (opened next : Opened) (term : Term) (bound : ℤ) → opened.ended ≡ false
    → next ≡ record opened { steps = opened.steps ++ Enter term bound ∷ []; around = opened.around + 1 } → Comes (draft.Step opened) (line.Cut term bound) (Some (draft.Step next))
after_cut opened next term bound first is =
    subst (λ (o : Opened). Comes (draft.Step opened) (line.Cut term bound) (Some (draft.Step o))) (sym is)
    (subst (λ (b : Bool). after (AtStep b opened.around) (line.Cut term bound) ≡ Some (AtStep b (opened.around + 1))) (sym first) refl, more_steps opened.shape opened.most opened.steps (Enter term bound))

pub after_theory : (opened : Opened) (clause : List Lit) (growing : Growing) → opened.ended ≡ false → growing ≡ record { clause = clause; nodes = []; others = 0 }
    → Comes (draft.Step opened) (line.Theory clause) (Some (draft.Node opened growing))
after_theory opened clause growing first is =
    subst (λ (g : Growing). Comes (draft.Step opened) (line.Theory clause) (Some (draft.Node opened g))) (sym is)
    (subst (λ (b : Bool). after (AtStep b opened.around) (line.Theory clause) ≡ Some (AtNode (is_empty clause) opened.around 0)) (sym first) refl, refl)

pub after_leave : (opened next : Opened) → opened.ended ≡ true → 0 < opened.around
    → next ≡ record opened { steps = opened.steps ++ Leave ∷ []; around = opened.around - 1; ended = false } → Comes (draft.Step opened) line.End (Some (draft.Step next))
after_leave opened next last some is =
    subst (λ (o : Opened). Comes (draft.Step opened) line.End (Some (draft.Step o))) (sym is)
    (subst (λ (b : Bool). after (AtStep b opened.around) line.End ≡ Some (AtStep false (opened.around - 1))) (sym last) (ap Some (inner_end opened.around some)), more_steps opened.shape opened.most opened.steps Leave)

pub last_end : (opened : Opened) → opened.ended ≡ true → opened.around ≡ 0 → Comes (draft.Step opened) line.End (Some (draft.End opened))
last_end opened last none =
    (subst (λ (b : Bool). after (AtStep b opened.around) line.End ≡ Some AtEnd) (sym last) (ap Some (outer_end opened.around none)), refl)

pub after_split : (opened : Opened) (growing next : Growing) (var : ℕ) (at : ℤ) → next ≡ record growing { nodes = growing.nodes ++ Split var at ∷ []; others = growing.others + 1 }
    → Comes (draft.Node opened growing) (line.Split var at) (Some (draft.Node opened next))
after_split opened growing next var at is =
    subst (λ (g : Growing). Comes (draft.Node opened growing) (line.Split var at) (Some (draft.Node opened g))) (sym is)
    (refl, more_nodes (opened_lines opened) growing.clause growing.nodes (Split var at))

pub after_leaf_left : (opened : Opened) (growing next : Growing) (farkas : Farkas) (multiples : List Multiple) → map multiple_of farkas.parts ≡ multiples → 0 < growing.others
    → next ≡ record growing { nodes = growing.nodes ++ Leaf farkas ∷ []; others = growing.others - 1 } → Comes (draft.Node opened growing) (line.Leaf multiples) (Some (draft.Node opened next))
after_leaf_left opened growing next farkas multiples parts some is =
    subst (λ (g : Growing). Comes (draft.Node opened growing) (line.Leaf multiples) (Some (draft.Node opened g))) (sym is)
    (ap Some (at_node (is_empty growing.clause) opened.around growing.others some), leaf_lines (opened_lines opened) growing.clause growing.nodes farkas multiples parts)

pub after_last_leaf : (opened : Opened) (growing whole : Growing) (farkas : Farkas) (multiples : List Multiple) (next : Option Draft) → map multiple_of farkas.parts ≡ multiples → growing.others ≡ 0
    → whole ≡ record growing { nodes = growing.nodes ++ Leaf farkas ∷ [] } → next ≡ Some (draft.Step (theory_ended opened whole)) → Comes (draft.Node opened growing) (line.Leaf multiples) next
after_last_leaf opened growing whole farkas multiples next parts none grown is =
    let nodes = growing.nodes ++ Leaf farkas ∷ [] in
    let lines = more_steps opened.shape opened.most opened.steps (Theory growing.clause (record { nodes = nodes })) ∙ leaf_lines (opened_lines opened) growing.clause growing.nodes farkas multiples parts in
    let ended : Comes (draft.Node opened growing) (line.Leaf multiples) (Some (draft.Step (theory_ended opened (record growing { nodes = nodes })))) =
    (ap Some (last_box (is_empty growing.clause) opened.around growing.others none), lines) in
    let same : next ≡ Some (draft.Step (theory_ended opened (record growing { nodes = nodes }))) = is ∙ ap (λ (g : Growing). Some (draft.Step (theory_ended opened g))) grown in
    subst (λ (o : Option Draft). Comes (draft.Node opened growing) (line.Leaf multiples) o) (sym same) ended
