-- What a step shows in one box it shows in another that says as much, and no more of the terms that known clauses are about.
use Rattle.std.proofs.Common.{◌≡◌, ◌⊎◌, ℕ, List, [], ◌∷◌, ◌++◌, map, Option, Some, refl, sym, ◌∙◌, subst, ⊎_elim, All}
use Rattle.std.proofs.lemmas.List.Elements.{All-head, All-tail, All-weaker}
use Rattle.mix_system.specs.declared.literal.Term.{Term}
use Rattle.mix_system.specs.declared.literal.Lit.{Lit}
use Rattle.mix_system.specs.declared.row.Part.{Part}
use Rattle.mix_system.specs.declared.farkas.FarkasPart.{FarkasPart}
use Rattle.mix_system.specs.Lit.{negation}
use Rattle.mix_system.specs.System.{System}
use Rattle.mix_system.specs.Bounds.{IsIn, IsFalseIn}
use Rattle.mix_system.specs.Follows.{Known, LeavesOne, Propagates}
use Rattle.mix_system.proofs.BoundLaws.{IsIn-first, IsIn-there, IsIn-cons_cases, IsIn-append_left, IsIn-append_right, IsIn-append_cases}
use Rattle.proof_term.specs.declared.tree.Node.{Node}
use Rattle.proof_term.specs.declared.tree.Node.TheVariants.{Leaf, Split}
use Rattle.proof_term.specs.declared.step.Step.{Step}
use Rattle.proof_term.specs.declared.step.Step.TheVariants.{Lemma, Theory, Enter, Leave}
use Rattle.proof_term.specs.Refutes.{low_half, high_half, RefutesAll}
use Rattle.proof_term.specs.Steps.{Shows, Passes}

-- the second box says all that the first says, and of such terms no more
pub record Alike (Among : Term → Type 0) (box other : List Lit) : Type 0 where
  pub more : (lit : Lit) → IsIn box lit → IsIn other lit
  pub same : (lit : Lit) → Among lit.term → IsIn other lit → IsIn box lit

-- the boxes of the second list say what those of the first say
abbrev pub AllMore : List (List Lit) → List (List Lit) → Type 0
AllMore [] [] = Unit {0}
AllMore [] (other ∷ others) = ⊥
AllMore (box ∷ boxes) [] = ⊥
AllMore (box ∷ boxes) (other ∷ others) = ((lit : Lit) → IsIn box lit → IsIn other lit) × AllMore boxes others

more_with : (lit : Lit) (box other : List Lit) → ((l : Lit) → IsIn box l → IsIn other l) → (l : Lit) → IsIn (lit ∷ box) l → IsIn (lit ∷ other) l
more_with lit box other more l within =
    ⊎_elim (λ entails. IsIn-first lit other l entails) (λ there. IsIn-there lit other l (more l there)) (IsIn-cons_cases lit box l within)

pub refutes_more : (rows : List (List Part)) (nodes : List Node) (boxes others : List (List Lit)) → AllMore boxes others → RefutesAll rows nodes boxes → RefutesAll rows nodes others
refutes_more rows [] [] [] more refute = tt
refutes_more rows [] [] (other ∷ others) more refute = absurd more
refutes_more rows [] (box ∷ boxes) others more refute = absurd refute
refutes_more rows (node ∷ nodes) [] others more refute = absurd refute
refutes_more rows (node ∷ nodes) (box ∷ boxes) [] more refute = absurd more
refutes_more rows (Leaf farkas ∷ nodes) (box ∷ boxes) (other ∷ others) more refute = (
  record {
    in_box = All-weaker (λ (part : FarkasPart). IsIn box part.lit) (λ part. IsIn other part.lit) (λ part within. more.0 part.lit within) farkas.parts refute.0.in_box;
    vanishes = refute.0.vanishes;
    contradictory = refute.0.contradictory;
  },
  refutes_more rows nodes boxes others more.1 refute.1,
)
refutes_more rows (Split var at ∷ nodes) (box ∷ boxes) (other ∷ others) more refute =
    refutes_more rows nodes ((low_half var at ∷ box) ∷ (high_half var at ∷ box) ∷ boxes) ((low_half var at ∷ other) ∷ (high_half var at ∷ other) ∷ others)
    (more_with (low_half var at) box other more.0, (more_with (high_half var at) box other more.0, more.1)) refute

module _ (Among : Term → Type 0) where
  pub alike_same : (box other : List Lit) → box ≡ other → Alike Among box other
  alike_same box other is = record {
    more = λ lit within. subst (λ (b : List Lit). IsIn b lit) is within;
    same = λ lit among within. subst (λ (b : List Lit). IsIn b lit) (sym is) within;
  }

  pub alike_behind : (front box other : List Lit) → Alike Among box other → Alike Among (front ++ box) (front ++ other)
  alike_behind front box other alike = record {
    more = λ lit within. ⊎_elim (λ here. IsIn-append_left front other lit here) (λ there. IsIn-append_right front other lit (alike.more lit there)) (IsIn-append_cases front box lit within);
    same = λ lit among within. ⊎_elim (λ here. IsIn-append_left front box lit here) (λ there. IsIn-append_right front box lit (alike.same lit among there)) (IsIn-append_cases front other lit within);
  }

  pub alike_before : (box other back : List Lit) → Alike Among box other → Alike Among (box ++ back) (other ++ back)
  alike_before box other back alike = record {
    more = λ lit within. ⊎_elim (λ here. IsIn-append_left other back lit (alike.more lit here)) (λ there. IsIn-append_right other back lit there) (IsIn-append_cases box back lit within);
    same = λ lit among within. ⊎_elim (λ here. IsIn-append_left box back lit (alike.same lit among here)) (λ there. IsIn-append_right box back lit there) (IsIn-append_cases other back lit within);
  }

  abbrev pub AreAmong : List Lit → Type 0
  AreAmong clause = All (λ lit. Among lit.term) clause

  all_back : (xs ys : List Lit) → AreAmong (xs ++ ys) → AreAmong ys
  all_back [] ys all = all
  all_back (x ∷ xs) ys all = all_back xs ys (All-tail (λ lit. Among lit.term) x (xs ++ ys) all)

  false_alike : (box other clause : List Lit) → Alike Among box other → All (IsFalseIn box) clause → All (IsFalseIn other) clause
  false_alike box other clause alike all = All-weaker (IsFalseIn box) (IsFalseIn other) (λ lit is. alike.more (negation lit) is) clause all

  one_alike : (box other clause : List Lit) (lit : Lit) → Alike Among box other → AreAmong clause → LeavesOne box clause lit → LeavesOne other clause lit
  one_alike box other clause lit alike among one =
      let parts = subst AreAmong one.split among in
      let here = All-head (λ (l : Lit). Among l.term) lit one.after (all_back one.before (lit ∷ one.after) parts) in
      record {
        before = one.before;
        after = one.after;
        split = one.split;
        before_false = false_alike box other one.before alike one.before_false;
        after_false = false_alike box other one.after alike one.after_false;
        left = λ is. one.left (alike.same (negation lit) here is);
      }

  module _ (knows knows_too : Known) (grows : (number : ℕ) (clause : List Lit) → knows number ≡ Some clause → knows_too number ≡ Some clause)
      (among : (number : ℕ) (clause : List Lit) → knows number ≡ Some clause → AreAmong clause) where
    propagates_alike : (box other : List Lit) (hints : List ℕ) → Alike Among box other → Propagates knows box hints → Propagates knows_too other hints
    propagates_alike box other [] alike p = absurd p
    propagates_alike box other (hint ∷ []) alike p = (p.0, grows hint p.0 p.1, false_alike box other p.0 alike p.2)
    propagates_alike box other (hint ∷ next ∷ hints) alike p = (
      p.0,
      p.1,
      grows hint p.0 p.2,
      one_alike box other p.0 p.1 alike (among hint p.0 p.2) p.3,
      propagates_alike (p.1 ∷ box) (p.1 ∷ other) (next ∷ hints) (alike_behind (p.1 ∷ []) box other alike) p.4,
    )

    pub shows_alike : (rows : List (List Part)) (box other : List Lit) (step : Step) → Alike Among box other → Shows rows box knows step → Shows rows other knows_too step
    shows_alike rows box other (Lemma clause hints) alike shows =
        propagates_alike (map negation clause ++ box) (map negation clause ++ other) hints (alike_behind (map negation clause) box other alike) shows
    shows_alike rows box other (Theory clause tree) alike shows =
        let wider = alike_behind (map negation clause) box other alike in
        refutes_more rows tree.nodes ((map negation clause ++ box) ∷ []) ((map negation clause ++ other) ∷ []) (wider.more, tt) shows
    shows_alike rows box other (Enter term bound) alike shows = tt
    shows_alike rows box other Leave alike shows = tt

    pub passes_alike : (system : System) (box other : List Lit) (step : Step) → Alike Among box other → Passes system box knows step → Passes system other knows_too step
    passes_alike system box other step alike passes = record {
      names = passes.names;
      numbers = passes.numbers;
      shows = shows_alike system.rows box other step alike passes.shows;
    }
