-- From each place from which the lines of a text come to its end, a valid proof goes on.
use Rattle.std.proofs.Common.{◌≡◌, ◌⊎◌, ℕ, ◌+◌, ◌<◌, ℤ, pos, List, [], ◌∷◌, ◌++◌, length, map, Bool, true, false, not, Option, Some, None, refl, sym, ◌∙◌, ap, subst, ⊎_elim, append_assoc, arith, All}
use Rattle.std.specs.List.{flat_map}
use Rattle.std.proofs.lemmas.Bool.{false≢true}
use Rattle.std.proofs.lemmas.List.Elements.{All-nil, All-cons, All-append}
use Rattle.wx_num.specs.declared.excess.NumOp.TheVariants.{Plus}
use Rattle.wx_num.specs.declared.excess.Excess.{Excess}
use Rattle.mix_system.specs.declared.literal.Term.{Term}
use Rattle.mix_system.specs.declared.literal.Lit.{Lit}
use Rattle.mix_system.specs.declared.farkas.FarkasPart.{FarkasPart}
use Rattle.mix_system.specs.declared.farkas.Farkas.{Farkas}
use Rattle.mix_system.specs.Lit.{negation}
use Rattle.mix_system.specs.System.{System, Exists}
use Rattle.mix_system.specs.Fits.{Fits}
use Rattle.mix_system.specs.FarkasSum.{leaf_steps, FarkasRefutes}
use Rattle.mix_system.specs.Follows.{Follows}
use Rattle.proof_term.specs.declared.proof.Goal.{Goal}
use Rattle.proof_term.specs.declared.proof.Goal.TheVariants.{Nothing, AtMost}
use Rattle.proof_term.specs.declared.proof.Proof.{Proof}
use Rattle.proof_term.specs.declared.proof.Shape.{Shape}
use Rattle.proof_term.specs.declared.step.Step.{Step}
use Rattle.proof_term.specs.declared.step.Step.TheVariants.{Lemma, Theory, Enter, Leave}
use Rattle.proof_term.specs.declared.tree.Node.{Node}
use Rattle.proof_term.specs.declared.tree.Node.TheVariants.{Leaf, Split}
use Rattle.proof_term.specs.Laws.{Meets}
use Rattle.proof_term.specs.Levels.{Level, known, box_of}
use Rattle.proof_term.specs.Refutes.{low_half, high_half, RefutesAll}
use Rattle.proof_term.specs.Steps.{negation_step, node_steps, StaysWithin, NamesTerm, NodeNames}
use Rattle.proof_term.specs.Valid.{Stage, at_start, ends_empty, has_ended, with_step, after_clause, after_enter, ValidFrom, IsOutermost, Valid}
use Rattle.proof_term.proofs.ValidLaws.{open_levels_meet, start_sound}
use Rattle.proof_text.specs.declared.line.Version.TheVariants as version
use Rattle.proof_text.specs.declared.line.Line.{Line}
use Rattle.proof_text.specs.declared.line.Multiple.{Multiple}
use Rattle.proof_text.specs.declared.line.Line.TheVariants as line
use Rattle.proof_text.specs.declared.line.LineRead.{LineRead}
use Rattle.proof_text.specs.declared.line.LineRead.TheVariants as give
use Rattle.proof_text.specs.Line.{read}
use Rattle.leaf_check.specs.Steps.{IsFirstExcess}
use Rattle.proof_checker.specs.declared.verdict.Reason.{Reason}
use Rattle.proof_checker.specs.declared.verdict.Reason.TheVariants as reason
use Rattle.proof_checker.specs.declared.verdict.Verdict.TheVariants.{Yes}
use Rattle.proof_checker.specs.Spelled.{node_line, step_lines, steps_lines, first_lines, goal_number, proof_lines, AreRead, IsMadeFor}
use Rattle.proof_checker.specs.Outcome.{Next, Fails, goal_of, multiple_of, IsShapeOf, PartsGive, StepGives, NodeGives, HeaderGives, ShapeGives, GoalGives, LineGives, ReadGives}
use Rattle.proof_checker.specs.Place.{Place, AtHeader, AtShape, AtGoal, AtStep, InTree, AtEnd, closed_place, after_leaf, is_step_kind, may_stand, kind_of}
use Rattle.proof_checker.specs.Verdict.{end_verdict, AreAnswered}

-- a line that passes was asked all and answered well

passed : {F G : Type 0} {why : Reason} (to : Place) → ((F → ⊥) × (Next to ≡ Fails why)) ⊎ (F × G) → F × G
passed to asks = ⊎_elim (λ failed. absurd (cc failed.1)) (λ both. both) asks

stayed : {steps : List Excess} {G : Type 0} (to : Place) → ((excess : Excess) × IsFirstExcess steps excess × (Next to ≡ Fails (reason.TooLarge excess))) ⊎ (All StaysWithin steps × G)
    → All StaysWithin steps × G
stayed to asks = ⊎_elim (λ failed. absurd (cc failed.2)) (λ both. both) asks

not_ended : (b : Bool) → not b ≡ true → b ≡ false
not_ended true e = absurd (false≢true e)
not_ended false e = refl

-- the goal of the outermost of these levels
abbrev goal_below : Level → List Level → Goal
goal_below last [] = last.goal
goal_below last (outer ∷ enclosing) = goal_below outer enclosing

goal_below-step : (number : ℕ) (clause : List Lit) (is_cut : Bool) (last : Level) (enclosing : List Level) → goal_below (with_step number clause is_cut last) enclosing ≡ goal_below last enclosing
goal_below-step number clause is_cut last [] = refl
goal_below-step number clause is_cut last (outer ∷ enclosing) = refl

-- one more line in front of those that are read
read_more : (bytes : List ℕ) (l : Line) (texts : List (List ℕ)) (ls : List Line) → read bytes ≡ give.Fits l → AreRead texts ls → AreRead (bytes ∷ texts) (l ∷ ls)
read_more bytes l [] ls is are = absurd are
read_more bytes l (next ∷ more) ls is are = (is, are)

module _ (system : System) (cost : Term) (goal : Goal) where
  -- valid steps go on from there to the end of a proof with the goal, and the lines are theirs
  record StepsFrom (at : Stage) (texts : List (List ℕ)) : Type 0 where
    steps : List Step
    valid : ValidFrom system cost at steps
    same : goal_below at.levels.last at.levels.enclosing ≡ goal
    are : AreRead texts (steps_lines steps)

  -- nodes refute the boxes that are left, and valid steps go on behind the theory
  record TreeFrom (at : Stage) (clause : List Lit) (boxes : List (List Lit)) (texts : List (List ℕ)) : Type 0 where
    nodes : List Node
    refute : RefutesAll system.rows nodes boxes
    names : All (NodeNames system) nodes
    numbers : All StaysWithin (flat_map (node_steps system.rows) nodes)
    steps : List Step
    valid : ValidFrom system cost (after_clause at clause) steps
    same : goal_below (after_clause at clause).levels.last at.levels.enclosing ≡ goal
    are : AreRead texts (map node_line nodes ++ steps_lines steps)

  record GoalFrom (texts : List (List ℕ)) : Type 0 where
    steps : List Step
    outer : IsOutermost goal
    valid : ValidFrom system cost (at_start system goal) steps
    are : AreRead texts (line.Goal (goal_number goal) ∷ steps_lines steps)

  record ShapeFrom (texts : List (List ℕ)) : Type 0 where
    shape : Shape
    made_for : IsShapeOf system shape.vars shape.clauses
    steps : List Step
    outer : IsOutermost goal
    valid : ValidFrom system cost (at_start system goal) steps
    are : AreRead texts (line.Shape shape.vars shape.clauses ∷ line.Goal (goal_number goal) ∷ steps_lines steps)

  pub record ProofFrom (texts : List (List ℕ)) : Type 0 where
    pub proof : Proof
    pub valid : Valid system cost proof
    pub made_for : IsMadeFor system proof.shape
    pub are : AreRead texts (proof_lines proof)
    pub goal_is : proof.goal ≡ goal

  abbrev From : Place → List (List ℕ) → Type 0
  From AtHeader texts = ProofFrom texts
  From AtShape texts = ShapeFrom texts
  From AtGoal texts = GoalFrom texts
  From (AtStep at) texts = StepsFrom at texts
  From (InTree at clause boxes) texts = TreeFrom at clause boxes texts
  From (AtEnd found) texts = (found ≡ goal) × AreRead texts []

  goes : (to place : Place) (texts : List (List ℕ)) → Next to ≡ Next place → From to texts → From place texts
  goes to place texts e from = subst (λ (p : Place). From p texts) (cc e) from

  -- a line, and the lines behind it
  module _ (bytes : List ℕ) (texts : List (List ℕ)) where
    abbrev Says : Line → Type 0
    Says l = read bytes ≡ give.Fits l

    from_lemma : (at : Stage) (clause : List Lit) (hints : List ℕ) → Says (line.Lemma clause hints) → has_ended at ≡ false → All (NamesTerm system) clause
        → All StaysWithin (map negation_step clause) → Follows clause hints (box_of system cost at.levels) (known system at.levels) → StepsFrom (after_clause at clause) texts
        → StepsFrom at (bytes ∷ texts)
    from_lemma at clause hints is place names numbers follows s = record {
      steps = Lemma clause hints ∷ s.steps;
      valid = (record { place = place; passes = record { names = names; numbers = numbers; shows = follows } }, s.valid);
      same = sym (goal_below-step at.next clause false at.levels.last at.levels.enclosing) ∙ s.same;
      are = read_more bytes (line.Lemma clause hints) texts (steps_lines s.steps) is s.are;
    }

    from_theory : (at : Stage) (clause : List Lit) → Says (line.Theory clause) → has_ended at ≡ false → All (NamesTerm system) clause → All StaysWithin (map negation_step clause)
        → TreeFrom at clause ((map negation clause ++ box_of system cost at.levels) ∷ []) texts → StepsFrom at (bytes ∷ texts)
    from_theory at clause is place names numbers t = record {
      steps = Theory clause (record { nodes = t.nodes }) ∷ t.steps;
      valid = (
        record {
          place = place;
          passes = record {
            names = (names, t.names);
            numbers = All-append StaysWithin (map negation_step clause) (flat_map (node_steps system.rows) t.nodes) numbers t.numbers;
            shows = t.refute;
          };
        },
        t.valid,
      );
      same = sym (goal_below-step at.next clause false at.levels.last at.levels.enclosing) ∙ t.same;
      are = read_more bytes (line.Theory clause) texts ((map node_line t.nodes ++ flat_map step_lines t.steps) ++ line.End ∷ []) is
          (subst (λ (ls : List Line). AreRead texts ls) (sym (append_assoc (map node_line t.nodes) (flat_map step_lines t.steps) (line.End ∷ []))) t.are);
    }

    from_cut : (at : Stage) (term : Term) (bound : ℤ) → Says (line.Cut term bound) → has_ended at ≡ false → Exists (length system.ranges) (length system.rows) term
        → length at.levels.enclosing < 8 → All StaysWithin (record { op = Plus; x = bound; y = pos 1 } ∷ []) → StepsFrom (after_enter at term bound) texts → StepsFrom at (bytes ∷ texts)
    from_cut at term bound is place names few numbers s = record {
      steps = Enter term bound ∷ s.steps;
      valid = (record { place = (place, few); passes = record { names = names; numbers = numbers; shows = tt } }, s.valid);
      same = s.same;
      are = read_more bytes (line.Cut term bound) texts (steps_lines s.steps) is s.are;
    }

    from_end : (next : ℕ) (last : Level) (enclosing : List Level) → Says line.End → ends_empty last.finished ≡ true → From (closed_place next last enclosing) texts
        → StepsFrom (record { next = next; levels = record { last = last; enclosing = enclosing } }) (bytes ∷ texts)
    from_end next last [] is ended from = record {
      steps = [];
      valid = record { ended = ended; outermost = refl };
      same = from.0;
      are = read_more bytes line.End texts [] is from.1;
    }
    from_end next last (outer ∷ enclosing) is ended s = record {
      steps = Leave ∷ s.steps;
      valid = (record { place = (ended, omega arith); passes = record { names = tt; numbers = All-nil StaysWithin; shows = tt } }, s.valid);
      same = sym (goal_below-step next _ true outer enclosing) ∙ s.same;
      are = read_more bytes line.End texts (steps_lines s.steps) is s.are;
    }

    from_split : (at : Stage) (clause box : List Lit) (boxes : List (List Lit)) (var : ℕ) (middle : ℤ) → Says (line.Split var middle) → var < length system.ranges
        → All StaysWithin (record { op = Plus; x = middle; y = pos 1 } ∷ []) → TreeFrom at clause ((low_half var middle ∷ box) ∷ (high_half var middle ∷ box) ∷ boxes) texts
        → TreeFrom at clause (box ∷ boxes) (bytes ∷ texts)
    from_split at clause box boxes var middle is exists numbers t = record {
      nodes = Split var middle ∷ t.nodes;
      refute = t.refute;
      names = All-cons (NodeNames system) (Split var middle) t.nodes exists t.names;
      numbers = All-append StaysWithin (record { op = Plus; x = middle; y = pos 1 } ∷ []) (flat_map (node_steps system.rows) t.nodes) numbers t.numbers;
      steps = t.steps;
      valid = t.valid;
      same = t.same;
      are = read_more bytes (line.Split var middle) texts (map node_line t.nodes ++ steps_lines t.steps) is t.are;
    }

    last_node : (at : Stage) (clause box : List Lit) (boxes : List (List Lit)) (farkas : Farkas) → Says (line.Leaf (map multiple_of farkas.parts))
        → All (λ part. NamesTerm system part.lit) farkas.parts → All StaysWithin (leaf_steps system.rows farkas.parts) → FarkasRefutes system.rows box farkas.parts
        → From (after_leaf at clause boxes) texts → TreeFrom at clause (box ∷ boxes) (bytes ∷ texts)
    last_node at clause box [] farkas is names numbers refutes from = record {
      nodes = Leaf farkas ∷ [];
      refute = (refutes, tt);
      names = All-cons (NodeNames system) (Leaf farkas) [] names (All-nil (NodeNames system));
      numbers = All-append StaysWithin (leaf_steps system.rows farkas.parts) [] numbers (All-nil StaysWithin);
      steps = from.steps;
      valid = from.valid;
      same = from.same;
      are = read_more bytes (line.Leaf (map multiple_of farkas.parts)) texts (steps_lines from.steps) is from.are;
    }
    last_node at clause box (next ∷ boxes) farkas is names numbers refutes t = record {
      nodes = Leaf farkas ∷ t.nodes;
      refute = (refutes, t.refute);
      names = All-cons (NodeNames system) (Leaf farkas) t.nodes names t.names;
      numbers = All-append StaysWithin (leaf_steps system.rows farkas.parts) (flat_map (node_steps system.rows) t.nodes) numbers t.numbers;
      steps = t.steps;
      valid = t.valid;
      same = t.same;
      are = read_more bytes (line.Leaf (map multiple_of farkas.parts)) texts (map node_line t.nodes ++ steps_lines t.steps) is t.are;
    }

    from_leaf : (at : Stage) (clause box : List Lit) (boxes : List (List Lit)) (to : Place) (parts : List FarkasPart) (multiples : List Multiple) → Says (line.Leaf multiples)
        → map multiple_of parts ≡ multiples → PartsGive system at clause box boxes parts (Next to) → From to texts → TreeFrom at clause (box ∷ boxes) (bytes ∷ texts)
    from_leaf at clause box boxes to parts multiples is parts_are gives from =
        let named = passed to gives in
        let inside = passed to named.1 in
        let steps = stayed to inside.1 in
        let vanish = passed to steps.1 in
        let below = passed to vanish.1 in
        last_node at clause box boxes (record { parts = parts }) (is ∙ ap (λ (ms : List Multiple). give.Fits (line.Leaf ms)) (sym parts_are)) named.0 steps.0
        (record { in_box = inside.0; vanishes = vanish.0; contradictory = below.0 }) (goes to (after_leaf at clause boxes) texts below.1 from)

    from_step : (at : Stage) (l : Line) (to : Place) → Says l → is_step_kind (has_ended at) (kind_of l) ≡ true → StepGives system cost at l (Next to) → From to texts
        → StepsFrom at (bytes ∷ texts)
    from_step at (line.Header v) to is stands gives from = absurd gives
    from_step at (line.Shape vars clauses) to is stands gives from = absurd gives
    from_step at (line.Goal most) to is stands gives from = absurd gives
    from_step at (line.Split var middle) to is stands gives from = absurd gives
    from_step at (line.Leaf parts) to is stands gives from = absurd gives
    from_step at (line.Lemma clause hints) to is stands gives from =
        let named = passed to gives in
        let steps = stayed to named.1 in
        let follows = passed to steps.1 in
        from_lemma at clause hints is (not_ended (has_ended at) stands) named.0.0 steps.0 follows.0 (goes to (AtStep (after_clause at clause)) texts follows.1 from)
    from_step at (line.Theory clause) to is stands gives from =
        let named = passed to gives in
        let steps = stayed to named.1 in
        from_theory at clause is (not_ended (has_ended at) stands) named.0 steps.0
        (goes to (InTree at clause ((map negation clause ++ box_of system cost at.levels) ∷ [])) texts steps.1 from)
    from_step at (line.Cut term bound) to is stands gives from =
        let named = passed to gives in
        let few = passed to named.1 in
        let steps = stayed to few.1 in
        from_cut at term bound is (not_ended (has_ended at) stands) named.0 few.0 steps.0 (goes to (AtStep (after_enter at term bound)) texts steps.1 from)
    from_step at line.End to is stands gives from =
        let ended = passed to gives in
        from_end at.next at.levels.last at.levels.enclosing is ended.0 (goes to (closed_place at.next at.levels.last at.levels.enclosing) texts ended.1 from)

    from_node : (at : Stage) (clause : List Lit) (boxes : List (List Lit)) (l : Line) (to : Place) → Says l → NodeGives system at clause boxes l (Next to) → From to texts
        → TreeFrom at clause boxes (bytes ∷ texts)
    from_node at clause [] l to is gives from = absurd gives
    from_node at clause (box ∷ boxes) (line.Header v) to is gives from = absurd gives
    from_node at clause (box ∷ boxes) (line.Shape vars clauses) to is gives from = absurd gives
    from_node at clause (box ∷ boxes) (line.Goal most) to is gives from = absurd gives
    from_node at clause (box ∷ boxes) (line.Lemma lits hints) to is gives from = absurd gives
    from_node at clause (box ∷ boxes) (line.Theory lits) to is gives from = absurd gives
    from_node at clause (box ∷ boxes) (line.Cut term bound) to is gives from = absurd gives
    from_node at clause (box ∷ boxes) line.End to is gives from = absurd gives
    from_node at clause (box ∷ boxes) (line.Split var middle) to is gives from =
        let exists = passed to gives in
        let steps = stayed to exists.1 in
        from_split at clause box boxes var middle is exists.0 steps.0 (goes to (InTree at clause ((low_half var middle ∷ box) ∷ (high_half var middle ∷ box) ∷ boxes)) texts steps.1 from)
    from_node at clause (box ∷ boxes) (line.Leaf multiples) to is gives from = from_leaf at clause box boxes to gives.0 multiples is gives.1 gives.2 from

    -- a first line, where the proof without it was found
    with_version : GoalFrom texts → Says (line.Header version.One) → ProofFrom (bytes ∷ texts)
    with_version g is = record {
      proof = record { goal = goal; shape = None; steps = g.steps };
      valid = record { goal = g.outer; steps = g.valid };
      made_for = tt;
      are = read_more bytes (line.Header version.One) texts (line.Goal (goal_number goal) ∷ steps_lines g.steps) is g.are;
      goal_is = refl;
    }

    with_shape : ShapeFrom texts → Says (line.Header version.Two) → ProofFrom (bytes ∷ texts)
    with_shape g is = record {
      proof = record { goal = goal; shape = Some g.shape; steps = g.steps };
      valid = record { goal = g.outer; steps = g.valid };
      made_for = g.made_for;
      are = read_more bytes (line.Header version.Two) texts (line.Shape g.shape.vars g.shape.clauses ∷ line.Goal (goal_number goal) ∷ steps_lines g.steps) is g.are;
      goal_is = refl;
    }

    from_header : (l : Line) (to : Place) → Says l → HeaderGives l (Next to) → From to texts → ProofFrom (bytes ∷ texts)
    from_header (line.Header version.One) to is gives from = with_version (goes to AtGoal texts gives from) is
    from_header (line.Header version.Two) to is gives from = with_shape (goes to AtShape texts gives from) is
    from_header (line.Shape vars clauses) to is gives from = absurd gives
    from_header (line.Goal most) to is gives from = absurd gives
    from_header (line.Lemma lits hints) to is gives from = absurd gives
    from_header (line.Theory lits) to is gives from = absurd gives
    from_header (line.Split var middle) to is gives from = absurd gives
    from_header (line.Leaf parts) to is gives from = absurd gives
    from_header (line.Cut term bound) to is gives from = absurd gives
    from_header line.End to is gives from = absurd gives

    with_counts : (vars clauses : ℕ) → IsShapeOf system vars clauses → GoalFrom texts → Says (line.Shape vars clauses) → ShapeFrom (bytes ∷ texts)
    with_counts vars clauses made g is = record {
      shape = record { vars = vars; clauses = clauses };
      made_for = made;
      steps = g.steps;
      outer = g.outer;
      valid = g.valid;
      are = read_more bytes (line.Shape vars clauses) texts (line.Goal (goal_number goal) ∷ steps_lines g.steps) is g.are;
    }

    from_shape : (l : Line) (to : Place) → Says l → ShapeGives system l (Next to) → From to texts → ShapeFrom (bytes ∷ texts)
    from_shape (line.Header v) to is gives from = absurd gives
    from_shape (line.Shape vars clauses) to is gives from = let made = passed to gives in with_counts vars clauses made.0 (goes to AtGoal texts made.1 from) is
    from_shape (line.Goal most) to is gives from = absurd gives
    from_shape (line.Lemma lits hints) to is gives from = absurd gives
    from_shape (line.Theory lits) to is gives from = absurd gives
    from_shape (line.Split var middle) to is gives from = absurd gives
    from_shape (line.Leaf parts) to is gives from = absurd gives
    from_shape (line.Cut term bound) to is gives from = absurd gives
    from_shape line.End to is gives from = absurd gives

    outer_goal : (most : Option ℕ) → IsOutermost (goal_of most)
    outer_goal None = tt
    outer_goal (Some most) = tt

    number_of : (most : Option ℕ) → goal_number (goal_of most) ≡ most
    number_of None = refl
    number_of (Some most) = refl

    with_goal : (most : Option ℕ) → StepsFrom (at_start system (goal_of most)) texts → Says (line.Goal most) → GoalFrom (bytes ∷ texts)
    with_goal most s is =
        let same : goal_of most ≡ goal = s.same in
        record {
          steps = s.steps;
          outer = subst IsOutermost same (outer_goal most);
          valid = subst (λ (g : Goal). ValidFrom system cost (at_start system g) s.steps) same s.valid;
          are = subst (λ (g : Goal). AreRead (bytes ∷ texts) (line.Goal (goal_number g) ∷ steps_lines s.steps)) same
              (read_more bytes (line.Goal (goal_number (goal_of most))) texts (steps_lines s.steps) (is ∙ ap (λ (n : Option ℕ). give.Fits (line.Goal n)) (sym (number_of most))) s.are);
        }

    from_goal : (l : Line) (to : Place) → Says l → GoalGives system l (Next to) → From to texts → GoalFrom (bytes ∷ texts)
    from_goal (line.Header v) to is gives from = absurd gives
    from_goal (line.Shape vars clauses) to is gives from = absurd gives
    from_goal (line.Goal most) to is gives from = with_goal most (goes to (AtStep (at_start system (goal_of most))) texts gives from) is
    from_goal (line.Lemma lits hints) to is gives from = absurd gives
    from_goal (line.Theory lits) to is gives from = absurd gives
    from_goal (line.Split var middle) to is gives from = absurd gives
    from_goal (line.Leaf parts) to is gives from = absurd gives
    from_goal (line.Cut term bound) to is gives from = absurd gives
    from_goal line.End to is gives from = absurd gives

    from_line : (place : Place) (l : Line) (to : Place) → Says l → may_stand place (kind_of l) ≡ true → LineGives system cost place l (Next to) → From to texts → From place (bytes ∷ texts)
    from_line AtHeader l to is stands gives from = from_header l to is gives from
    from_line AtShape l to is stands gives from = from_shape l to is gives from
    from_line AtGoal l to is stands gives from = from_goal l to is gives from
    from_line (AtStep at) l to is stands gives from = from_step at l to is stands gives from
    from_line (InTree at clause boxes) l to is stands gives from = from_node at clause boxes l to is gives from
    from_line (AtEnd found) l to is stands gives from = absurd gives

    from_read : (place : Place) (r : LineRead) (to : Place) → read bytes ≡ r → ReadGives system cost place r (Next to) → From to texts → From place (bytes ∷ texts)
    from_read place give.Malformed to is gives from = absurd (cc gives)
    from_read place (give.Unfit k) to is gives from = absurd (cc gives)
    from_read place (give.Fits l) to is gives from = let stands = passed to gives in from_line place l to is stands.0 stands.1 from

  from_rest : (place : Place) (number : ℕ) (rest : List ℕ) → Yes goal ≡ end_verdict place number rest → From place (rest ∷ [])
  from_rest place number (byte ∷ bytes) e = absurd (cc e)
  from_rest AtHeader number [] e = absurd (cc e)
  from_rest AtShape number [] e = absurd (cc e)
  from_rest AtGoal number [] e = absurd (cc e)
  from_rest (AtStep at) number [] e = absurd (cc e)
  from_rest (InTree at clause boxes) number [] e = absurd (cc e)
  from_rest (AtEnd found) number [] e = (cc e, refl)

  from_lines : (place : Place) (number : ℕ) (texts : List (List ℕ)) → AreAnswered system cost place number texts (Yes goal) → From place texts
  from_lines place number [] answered = absurd answered
  from_lines place number (rest ∷ []) answered = from_rest place number rest answered
  from_lines place number (text ∷ next ∷ more) answered =
      ⊎_elim (λ failed. absurd (cc failed.2))
      (λ passes. from_read text (next ∷ more) place (read text) passes.0 refl passes.1 (from_lines passes.0 (number + 1) (next ∷ more) passes.2)) answered

  pub has_proof : (texts : List (List ℕ)) → AreAnswered system cost AtHeader 1 texts (Yes goal) → ProofFrom texts
  has_proof texts answered = from_lines AtHeader 1 texts answered

  pub bounds_points : (point : List ℤ) (texts : List (List ℕ)) → AreAnswered system cost AtHeader 1 texts (Yes goal) → Fits system point → Meets system.rows cost point goal
  bounds_points point texts answered fits =
      let found = has_proof texts answered in
      let meets = (open_levels_meet system cost point found.proof.steps (at_start system found.proof.goal) fits (start_sound system cost point found.proof.goal) found.valid.steps).0 in
      subst (λ (g : Goal). Meets system.rows cost point g) found.goal_is meets
