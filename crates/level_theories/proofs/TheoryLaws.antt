-- A tree that refutes the bounds in force refutes the level's box with the negations of a clause that covers its leaves.
use Rattle.std.proofs.Common.{◌≡◌, ℕ, zero, suc, ◌<◌, List, [], ◌∷◌, ◌++◌, length, map, get_or, sym, ◌∙◌, ap, subst, inr, ⊎_elim, arith, All}
use Rattle.std.specs.Prelude.{◌≢◌, Contains}
use Rattle.std.specs.List.{flat_map}
use Rattle.std.proofs.lemmas.List.Elements.{All-head, All-tail, All-push, All-append}
use Rattle.mix_system.specs.declared.literal.Lit.{Lit}
use Rattle.mix_system.specs.declared.row.Part.{Part}
use Rattle.mix_system.specs.declared.farkas.FarkasPart.{FarkasPart}
use Rattle.mix_system.specs.Lit.{negation}
use Rattle.mix_system.specs.System.{IsClause}
use Rattle.mix_system.specs.Bounds.{IsIn}
use Rattle.mix_system.specs.FarkasSum.{FarkasRefutes}
use Rattle.mix_system.proofs.BoundLaws.{negation-twice, IsIn-append_left, IsIn-append_right, IsIn-append_cases, IsIn-here, IsIn-there}
use Rattle.bound_trail.specs.Trail.{box, IsTrail}
use Rattle.clause_search.specs.Search.{WasQuiet}
use Rattle.clause_search.proofs.QuietLaws.{quiet_cut}
use Rattle.proof_term.specs.declared.tree.Node.{Node}
use Rattle.proof_term.specs.declared.tree.Node.TheVariants.{Leaf, Split}
use Rattle.proof_term.specs.declared.tree.Tree.{Tree}
use Rattle.proof_term.specs.declared.step.Step.{Step}
use Rattle.proof_term.specs.declared.step.Step.TheVariants.{Theory}
use Rattle.proof_term.specs.Refutes.{low_half, high_half, RefutesAll, Refutes}
use Rattle.proof_term.specs.Steps.{StaysWithin, NodeNames, node_steps, negation_step}
use Rattle.level_steps.specs.Level.{clause_of, box_of}
use Rattle.level_steps.specs.Steps.{IsStepOn, AreOpen}
use Rattle.level_search.specs.declared.level.LevelSearch.{LevelSearch}
use Rattle.level_search.specs.Kept.{level_of, IsKept, IsWorking}
use Rattle.level_search.specs.Learning.{trail_at}
use Rattle.level_search.proofs.LogLaws.{negations_fit}
use Rattle.level_theories.specs.Theory.{IsCovered, NodeIsCovered, IsExcluded, AreExcluded, IsBackLevel, Excludes}

contained_at : (lits : List Lit) (lit : Lit) (k : ℕ) → k < length lits → get_or lits k lit ≡ lit → IsIn (map negation lits) (negation lit)
contained_at [] lit k within is = absurd (omega arith)
contained_at (first ∷ lits) lit zero within is = subst (λ (l : Lit). IsIn (negation l ∷ map negation lits) (negation lit)) (sym is) (IsIn-here (negation lit) (map negation lits))
contained_at (first ∷ lits) lit (suc k) within is = IsIn-there (negation first) (map negation lits) (negation lit) (contained_at lits lit k (omega arith) is)

negation_contained : (lits : List Lit) (lit : Lit) → Contains lits lit → IsIn (map negation lits) (negation lit)
negation_contained lits lit among = contained_at lits lit among.0 among.1 among.2

module _ (it : LevelSearch) (lits : List Lit) where
  abbrev own : List Lit
  own = map negation lits ++ box_of (level_of it) it.steps.items

  covered_in : (front : List Lit) (lit : Lit) → IsCovered it lits lit → IsIn (front ++ box it.search.trail) lit → IsIn (front ++ own) lit
  covered_in front lit covered within =
      let negations = map negation lits in
      let level = box_of (level_of it) it.steps.items in
      ⊎_elim
      (λ here. IsIn-append_left front (negations ++ level) lit here)
      (λ there. ⊎_elim
      (λ apart. absurd (apart there))
      (λ said. IsIn-append_right front (negations ++ level) lit (⊎_elim
      (λ by_level. IsIn-append_right negations level lit by_level)
      (λ among. IsIn-append_left negations level lit (subst (IsIn negations) (negation-twice lit) (negation_contained lits (negation lit) among)))
      said))
      covered)
      (IsIn-append_cases front (box it.search.trail) lit within)

  leaf_covered : (rows : List (List Part)) (front : List Lit) (parts : List FarkasPart) → All (λ part. IsCovered it lits part.lit) parts → FarkasRefutes rows (front ++ box it.search.trail) parts → FarkasRefutes rows (front ++ own) parts
  leaf_covered rows front parts covered refutes = record {
    in_box = λ k d within. covered_in front (get_or parts k d).lit (covered k d within) (refutes.in_box k d within);
    vanishes = refutes.vanishes;
    contradictory = refutes.contradictory;
  }

  pub retarget : (rows : List (List Part)) (nodes : List Node) (fronts : List (List Lit)) → All (NodeIsCovered it lits) nodes
      → RefutesAll rows nodes (map (λ (f : List Lit). f ++ box it.search.trail) fronts) → RefutesAll rows nodes (map (λ (f : List Lit). f ++ own) fronts)
  retarget rows [] [] covered refutes = tt
  retarget rows [] (front ∷ fronts) covered refutes = absurd refutes
  retarget rows (node ∷ nodes) [] covered refutes = absurd refutes
  retarget rows (Leaf farkas ∷ nodes) (front ∷ fronts) covered refutes =
      (leaf_covered rows front farkas.parts (All-head (NodeIsCovered it lits) (Leaf farkas) nodes covered) refutes.0, retarget rows nodes fronts (All-tail (NodeIsCovered it lits) (Leaf farkas) nodes covered) refutes.1)
  retarget rows (Split var at ∷ nodes) (front ∷ fronts) covered refutes =
      retarget rows nodes ((low_half var at ∷ front) ∷ (high_half var at ∷ front) ∷ fronts) (All-tail (NodeIsCovered it lits) (Split var at) nodes covered) refutes

  -- the tree as a step of the level
  pub theory_on : (tree : Tree) → IsClause (length it.system.now.ranges) (length it.system.now.rows) lits → All (NodeNames it.system.now) tree.nodes
      → All StaysWithin (flat_map (node_steps it.system.now.rows) tree.nodes) → All (NodeIsCovered it lits) tree.nodes → Refutes it.system.now.rows tree (box it.search.trail)
      → IsStepOn (level_of it) it.steps.items (Theory lits tree)
  theory_on tree clause names numbers covered refutes = record {
    kind = tt;
    passes = record {
      names = (clause.known, names);
      numbers = All-append StaysWithin (map negation_step lits) (flat_map (node_steps it.system.now.rows) tree.nodes) (negations_fit lits clause.inner) numbers;
      shows = retarget it.system.now.rows tree.nodes ([] ∷ []) covered refutes;
    };
  }

-- a theory was logged, and its clause added where the search went back to
pub excludes : (old new : LevelSearch) (lits : List Lit) (step : Step) (back : ℕ) → IsWorking old → IsTrail old.search.trail → AreExcluded old lits → lits ≢ [] → clause_of step ≡ lits
    → IsBackLevel old.search lits back → level_of new ≡ level_of old → new.steps.items ≡ old.steps.items ++ step ∷ []
    → new.search ≡ record { store = old.search.store ++ lits ∷ []; trail = trail_at old.search.trail back } → IsKept new → Excludes old new
excludes old new lits step back working ok are some clause is_back level steps search kept =
    let own : clause_of step ≢ [] = λ none. some (sym clause ∙ none) in
    record {
      working = record {
        kept = kept;
        quiet = subst WasQuiet (sym search) (quiet_cut old.search lits back ok working.quiet is_back.present (λ lower below. inr (is_back.below lower below)));
        open_ = subst AreOpen (sym steps) (All-push (λ (s : Step). clause_of s ≢ []) old.steps.items step working.open_ own);
      };
      level = level;
      step = step;
      steps = steps;
      lits = subst (All (IsExcluded old)) (sym clause) are.each;
      back = back;
      back_is = subst (λ (c : List Lit). IsBackLevel old.search c back) (sym clause) is_back;
      search = search ∙ ap (λ (c : List Lit). record { store = old.search.store ++ c ∷ []; trail = trail_at old.search.trail back }) (sym clause);
    }
