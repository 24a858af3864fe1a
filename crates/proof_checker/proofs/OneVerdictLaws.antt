-- No text has two verdicts: each question has one answer, and each line one outcome.
use Rattle.std.proofs.Common.{◌≡◌, ℕ, ◌+◌, ℤ, pos, ◌≤ℤ◌, List, [], ◌∷◌, ◌++◌, length, map, true, refl, sym, ◌∙◌, ap, subst, ⊎_elim, All}
use Rattle.std.proofs.Math.Dec.{T_prop}
use Rattle.std.proofs.lemmas.List.Elements.{All-head, All-tail}
use Rattle.wx_num.specs.declared.excess.Excess.{Excess}
use Rattle.mix_system.specs.declared.literal.Term.{Term}
use Rattle.mix_system.specs.declared.literal.Lit.{Lit}
use Rattle.mix_system.specs.declared.farkas.FarkasPart.{FarkasPart}
use Rattle.mix_system.specs.System.{System}
use Rattle.proof_term.specs.Steps.{StaysWithin}
use Rattle.proof_term.specs.Valid.{Stage}
use Rattle.proof_text.specs.declared.line.Multiple.{Multiple}
use Rattle.proof_text.specs.declared.line.Version.TheVariants as version
use Rattle.proof_text.specs.declared.line.Line.{Line}
use Rattle.proof_text.specs.declared.line.Line.TheVariants as line
use Rattle.proof_text.specs.declared.line.LineRead.{LineRead}
use Rattle.proof_text.specs.declared.line.LineRead.TheVariants as give
use Rattle.proof_text.specs.Line.{read}
use Rattle.leaf_check.specs.Steps.{IsFirstExcess}
use Rattle.proof_checker.specs.declared.verdict.Reason.{Reason}
use Rattle.proof_checker.specs.declared.verdict.Reason.TheVariants as reason
use Rattle.proof_checker.specs.declared.verdict.Verdict.{Verdict}
use Rattle.proof_checker.specs.declared.verdict.Verdict.TheVariants.{No}
use Rattle.proof_checker.specs.Outcome.{Outcome, Next, Fails, GoesTo, Asks, AsksSteps, multiple_of, IsShapeOf, LemmaGives, TheoryGives, CutGives, EndGives, SplitGives, PartsGive, LeafGives, StepGives, NodeGives, HeaderGives, ShapeGives, GoalGives, LineGives, ReadGives}
use Rattle.proof_checker.specs.Place.{Place, AtHeader, AtShape, AtGoal, AtStep, InTree, AtEnd, may_stand, kind_of}
use Rattle.proof_checker.specs.Verdict.{AreAnswered}

-- at most one outcome is given
abbrev IsOne : (Outcome → Type 0) → Type 0
IsOne P = (a b : Outcome) → P a → P b → a ≡ b

goes_one : (place : Place) → IsOne (GoesTo place)
goes_one place a b p q = p ∙ sym q

asks_one : (Fact : Type 0) (why : Reason) (Rest : Outcome → Type 0) → IsOne Rest → IsOne (Asks Fact why Rest)
asks_one Fact why Rest one a b p q =
    ⊎_elim (λ fails. ⊎_elim (λ also. fails.1 ∙ sym also.1) (λ holds. absurd (fails.0 holds.0)) q)
    (λ holds. ⊎_elim (λ fails. absurd (fails.0 holds.0)) (λ also. one a b holds.1 also.1) q) p

stays_at : (front : List Excess) (excess : Excess) (after : List Excess) → All StaysWithin (front ++ excess ∷ after) → StaysWithin excess
stays_at [] excess after all = All-head StaysWithin excess after all
stays_at (first ∷ front) excess after all = stays_at front excess after (All-tail StaysWithin first (front ++ excess ∷ after) all)

not_both : (steps : List Excess) (excess : Excess) → IsFirstExcess steps excess → All StaysWithin steps → ⊥
not_both steps excess first all = first.overflows (stays_at first.before excess first.after (subst (λ (xs : List Excess). All StaysWithin xs) first.split all))

same_first : (xs ys us vs : List Excess) (a b : Excess) → xs ++ a ∷ us ≡ ys ++ b ∷ vs → All StaysWithin xs → All StaysWithin ys → (StaysWithin a → ⊥) → (StaysWithin b → ⊥) → a ≡ b
same_first [] [] us vs a b e all_x all_y not_a not_b = cc e
same_first [] (y ∷ ys) us vs a b e all_x all_y not_a not_b =
    let same : y ≡ a = cc e in absurd (not_a (subst StaysWithin same (All-head StaysWithin y ys all_y)))
same_first (x ∷ xs) [] us vs a b e all_x all_y not_a not_b =
    let same : x ≡ b = cc e in absurd (not_b (subst StaysWithin same (All-head StaysWithin x xs all_x)))
same_first (x ∷ xs) (y ∷ ys) us vs a b e all_x all_y not_a not_b =
    let tails : xs ++ a ∷ us ≡ ys ++ b ∷ vs = cc e in
    same_first xs ys us vs a b tails (All-tail StaysWithin x xs all_x) (All-tail StaysWithin y ys all_y) not_a not_b

one_excess : (steps : List Excess) (a b : Excess) → IsFirstExcess steps a → IsFirstExcess steps b → a ≡ b
one_excess steps a b p q = same_first p.before q.before p.after q.after a b (sym p.split ∙ q.split) p.stay q.stay p.overflows q.overflows

steps_one : (steps : List Excess) (Rest : Outcome → Type 0) → IsOne Rest → IsOne (AsksSteps steps Rest)
steps_one steps Rest one a b p q =
    ⊎_elim (λ fails. ⊎_elim (λ also. fails.2 ∙ ap (λ (e : Excess). Fails (reason.TooLarge e)) (one_excess steps fails.0 also.0 fails.1 also.1) ∙ sym also.2)
    (λ holds. absurd (not_both steps fails.0 fails.1 holds.0)) q)
    (λ holds. ⊎_elim (λ fails. absurd (not_both steps fails.0 fails.1 holds.0)) (λ also. one a b holds.1 also.1) q) p

-- a line's parts are those of no other list

≤ℤ-one : (a b : ℤ) (p q : a ≤ℤ b) → p ≡ q
≤ℤ-one a b p q = ap (λ t. record { le = t }) (T_prop _ p.le q.le)

abbrev part_with : (by : ℤ) (lit : Lit) → pos 1 ≤ℤ by → FarkasPart
part_with by lit once = record { lit = lit; by = by; at_least_once = once }

same_part_with : (lit : Lit) (a b : ℤ) → a ≡ b → (p : pos 1 ≤ℤ a) (q : pos 1 ≤ℤ b) → part_with a lit p ≡ part_with b lit q
same_part_with lit a b e p q =
    subst (λ (n : ℤ). (r : pos 1 ≤ℤ n) → part_with a lit p ≡ part_with n lit r) e (λ r. ap (λ (once : pos 1 ≤ℤ a). part_with a lit once) (≤ℤ-one (pos 1) a p r)) q

same_part : (p q : FarkasPart) → multiple_of p ≡ multiple_of q → p ≡ q
same_part p q e =
    ap (λ (lit : Lit). part_with p.by lit p.at_least_once) (ap (λ (m : Multiple). m.lit) e) ∙ same_part_with q.lit p.by q.by (ap (λ (m : Multiple). m.by) e) p.at_least_once q.at_least_once

same_parts : (ps qs : List FarkasPart) → map multiple_of ps ≡ map multiple_of qs → ps ≡ qs
same_parts [] [] e = refl
same_parts [] (q ∷ qs) e = absurd (cc e)
same_parts (p ∷ ps) [] e = absurd (cc e)
same_parts (p ∷ ps) (q ∷ qs) e =
    let heads : multiple_of p ≡ multiple_of q = cc e in
    let tails : map multiple_of ps ≡ map multiple_of qs = cc e in
    ap (λ (x : FarkasPart). x ∷ ps) (same_part p q heads) ∙ ap (λ (xs : List FarkasPart). q ∷ xs) (same_parts ps qs tails)

module _ (system : System) (cost : Term) where
  parts_one : (at : Stage) (clause box : List Lit) (boxes : List (List Lit)) (parts : List FarkasPart) → IsOne (PartsGive system at clause box boxes parts)
  parts_one at clause box boxes parts =
      asks_one _ _ _ (asks_one _ _ _ (steps_one _ _ (asks_one _ _ _ (asks_one _ _ _ (goes_one _)))))

  leaf_one : (at : Stage) (clause box : List Lit) (boxes : List (List Lit)) (multiples : List Multiple) → IsOne (LeafGives system at clause box boxes multiples)
  leaf_one at clause box boxes multiples a b p q =
      let same = same_parts p.0 q.0 (p.1 ∙ sym q.1) in
      parts_one at clause box boxes q.0 a b (subst (λ (parts : List FarkasPart). PartsGive system at clause box boxes parts a) same p.2) q.2

  lemma_one : (at : Stage) (clause : List Lit) (hints : List ℕ) → IsOne (LemmaGives system cost at clause hints)
  lemma_one at clause hints = asks_one _ _ _ (steps_one _ _ (asks_one _ _ _ (goes_one _)))

  theory_one : (at : Stage) (clause : List Lit) → IsOne (TheoryGives system cost at clause)
  theory_one at clause = asks_one _ _ _ (steps_one _ _ (goes_one _))

  cut_one : (at : Stage) (term : Term) (bound : ℤ) → IsOne (CutGives system at term bound)
  cut_one at term bound = asks_one _ _ _ (asks_one _ _ _ (steps_one _ _ (goes_one _)))

  end_one : (at : Stage) → IsOne (EndGives at)
  end_one at = asks_one _ _ _ (goes_one _)

  split_one : (at : Stage) (clause box : List Lit) (boxes : List (List Lit)) (var : ℕ) (middle : ℤ) → IsOne (SplitGives system at clause box boxes var middle)
  split_one at clause box boxes var middle = asks_one _ _ _ (steps_one _ _ (goes_one _))

  shape_of_one : (vars clauses : ℕ) → IsOne (Asks (IsShapeOf system vars clauses) (reason.OtherSystem (length system.ranges) (length system.clauses)) (GoesTo AtGoal))
  shape_of_one vars clauses = asks_one _ _ _ (goes_one _)

  step_one : (at : Stage) (l : Line) → IsOne (StepGives system cost at l)
  step_one at (line.Header v) a b p q = absurd p
  step_one at (line.Shape vars clauses) a b p q = absurd p
  step_one at (line.Goal most) a b p q = absurd p
  step_one at (line.Split var middle) a b p q = absurd p
  step_one at (line.Leaf multiples) a b p q = absurd p
  step_one at (line.Lemma clause hints) a b p q = lemma_one at clause hints a b p q
  step_one at (line.Theory clause) a b p q = theory_one at clause a b p q
  step_one at (line.Cut term bound) a b p q = cut_one at term bound a b p q
  step_one at line.End a b p q = end_one at a b p q

  node_one : (at : Stage) (clause : List Lit) (boxes : List (List Lit)) (l : Line) → IsOne (NodeGives system at clause boxes l)
  node_one at clause [] l a b p q = absurd p
  node_one at clause (box ∷ boxes) (line.Header v) a b p q = absurd p
  node_one at clause (box ∷ boxes) (line.Shape vars clauses) a b p q = absurd p
  node_one at clause (box ∷ boxes) (line.Goal most) a b p q = absurd p
  node_one at clause (box ∷ boxes) (line.Lemma lits hints) a b p q = absurd p
  node_one at clause (box ∷ boxes) (line.Theory lits) a b p q = absurd p
  node_one at clause (box ∷ boxes) (line.Cut term bound) a b p q = absurd p
  node_one at clause (box ∷ boxes) line.End a b p q = absurd p
  node_one at clause (box ∷ boxes) (line.Split var middle) a b p q = split_one at clause box boxes var middle a b p q
  node_one at clause (box ∷ boxes) (line.Leaf multiples) a b p q = leaf_one at clause box boxes multiples a b p q

  header_one : (l : Line) → IsOne (HeaderGives l)
  header_one (line.Header version.One) a b p q = p ∙ sym q
  header_one (line.Header version.Two) a b p q = p ∙ sym q
  header_one (line.Shape vars clauses) a b p q = absurd p
  header_one (line.Goal most) a b p q = absurd p
  header_one (line.Lemma lits hints) a b p q = absurd p
  header_one (line.Theory lits) a b p q = absurd p
  header_one (line.Split var middle) a b p q = absurd p
  header_one (line.Leaf multiples) a b p q = absurd p
  header_one (line.Cut term bound) a b p q = absurd p
  header_one line.End a b p q = absurd p

  shape_one : (l : Line) → IsOne (ShapeGives system l)
  shape_one (line.Shape vars clauses) a b p q = shape_of_one vars clauses a b p q
  shape_one (line.Header v) a b p q = absurd p
  shape_one (line.Goal most) a b p q = absurd p
  shape_one (line.Lemma lits hints) a b p q = absurd p
  shape_one (line.Theory lits) a b p q = absurd p
  shape_one (line.Split var middle) a b p q = absurd p
  shape_one (line.Leaf multiples) a b p q = absurd p
  shape_one (line.Cut term bound) a b p q = absurd p
  shape_one line.End a b p q = absurd p

  goal_one : (l : Line) → IsOne (GoalGives system l)
  goal_one (line.Goal most) a b p q = p ∙ sym q
  goal_one (line.Header v) a b p q = absurd p
  goal_one (line.Shape vars clauses) a b p q = absurd p
  goal_one (line.Lemma lits hints) a b p q = absurd p
  goal_one (line.Theory lits) a b p q = absurd p
  goal_one (line.Split var middle) a b p q = absurd p
  goal_one (line.Leaf multiples) a b p q = absurd p
  goal_one (line.Cut term bound) a b p q = absurd p
  goal_one line.End a b p q = absurd p

  line_one : (place : Place) (l : Line) → IsOne (LineGives system cost place l)
  line_one AtHeader l a b p q = header_one l a b p q
  line_one AtShape l a b p q = shape_one l a b p q
  line_one AtGoal l a b p q = goal_one l a b p q
  line_one (AtStep at) l a b p q = step_one at l a b p q
  line_one (InTree at clause boxes) l a b p q = node_one at clause boxes l a b p q
  line_one (AtEnd found) l a b p q = absurd p

  fits_one : (place : Place) (l : Line) → IsOne (Asks (may_stand place (kind_of l) ≡ true) reason.BadText (LineGives system cost place l))
  fits_one place l = asks_one _ _ _ (line_one place l)

  read_one : (place : Place) (r : LineRead) → IsOne (ReadGives system cost place r)
  read_one place give.Malformed a b p q = p ∙ sym q
  read_one place (give.Unfit k) a b p q = p ∙ sym q
  read_one place (give.Fits l) a b p q = fits_one place l a b p q

  pub one_answer : (place : Place) (number : ℕ) (texts : List (List ℕ)) (a b : Verdict) → AreAnswered system cost place number texts a → AreAnswered system cost place number texts b → a ≡ b
  one_answer place number [] a b p q = absurd p
  one_answer place number (rest ∷ []) a b p q = p ∙ sym q
  one_answer place number (text ∷ next ∷ more) a b p q =
      let one = read_one place (read text) in
      ⊎_elim (λ fails. ⊎_elim (λ also.
      let same : fails.0 ≡ also.0 = cc (one (Fails fails.0) (Fails also.0) fails.1 also.1) in
      fails.2 ∙ ap (λ (why : Reason). No number why) same ∙ sym also.2)
      (λ goes. absurd (cc (one (Fails fails.0) (Next goes.0) fails.1 goes.1))) q)
      (λ goes. ⊎_elim (λ fails. absurd (cc (one (Fails fails.0) (Next goes.0) fails.1 goes.1)))
      (λ also.
      let same : goes.0 ≡ also.0 = cc (one (Next goes.0) (Next also.0) goes.1 also.1) in
      one_answer also.0 (number + 1) (next ∷ more) a b (subst (λ (to : Place). AreAnswered system cost to (number + 1) (next ∷ more) a) same goes.2) also.2) q) p
