-- Costs that are kept for entries.
use Rattle.std.proofs.Common.{◌≡◌, ◌<◌, ⊎_elim, ℕ, List, [], ◌∷◌, ◌++◌, length, get_or, set, Option, Some, None, refl, sym, ◌∙◌, ap, arith, subst, get_or-set_same, get_or-set_other, length-set, append_assoc, Bool, true, false, MatchBool}
use Rattle.std.specs.List.{Contains}
use Rattle.std.proofs.lemmas.Bool.{cases_eq}
use Rattle.std.proofs.lemmas.List.{append-nil}
use Rattle.std.proofs.lemmas.List.Elements.{Contains-append_left, Contains-push, Contains-push_cases}
use Rattle.flow_graph.specs.declared.edge.Edge.{Edge}
use Rattle.cost_table.specs.Lines.{SaysAlone}
use Rattle.cost_table.specs.declared.line.Said.{Said}
use Rattle.cost_table.specs.declared.line.Said.TheVariants as words
use Rattle.cost_table.specs.declared.entry.Entry.{Entry}
use Rattle.cost_table.specs.declared.entry.Entry.TheVariants as entry
use Rattle.cost_table.specs.declared.entry.Flaw.{Flaw}
use Rattle.cost_table.specs.declared.entry.Flaw.TheVariants as flaw
use Rattle.cost_table.specs.Entries.{Repeats, MayStand, Names, Lacks, Gives, IsFlaw, Goes, IsKept, AreKept, Keeps, HasPlace, Adds}

module _ (made : ℕ → ℕ → Entry) (entries : List Entry) (given : Entry) where
  grown : (at : ℕ) (kept : Option ℕ) → ((cost : ℕ) → made at cost ≡ given → ⊥) → IsKept (made at) entries kept → IsKept (made at) (entries ++ given ∷ []) kept
  grown at None other none = λ cost contains. ⊎_elim (none cost) (λ same. other cost (sym same)) (Contains-push_cases entries given (made at cost) contains)
  grown at (Some cost) other some = Contains-append_left entries (given ∷ []) (made at cost) some

  pub kept_beside : (costs : List (Option ℕ)) → ((at cost : ℕ) → made at cost ≡ given → ⊥) → AreKept made entries costs → AreKept made (entries ++ given ∷ []) costs
  kept_beside costs other kept at low = grown at (get_or costs at None) (other at) (kept at low)

  pub kept_set : (costs : List (Option ℕ)) (at cost : ℕ) → given ≡ made at cost → ((a c b d : ℕ) → made a c ≡ made b d → a ≡ b) → at < length costs → AreKept made entries costs → AreKept made (entries ++ given ∷ []) (set costs at (Some cost))
  kept_set costs at cost is same_place low kept other within =
      ⊎_elim
      (λ same.
      let here : get_or (set costs at (Some cost)) other None ≡ Some cost = rw same (get_or-set_same costs at (Some cost) None low) in
      let some : Contains (entries ++ given ∷ []) (made other cost) = subst (λ (e : Entry). Contains (entries ++ given ∷ []) e) (is ∙ ap (λ a. made a cost) (sym same)) (Contains-push entries given) in
      subst (λ (o : Option ℕ). IsKept (made other) (entries ++ given ∷ []) o) (sym here) some)
      (λ apart.
      let there : get_or (set costs at (Some cost)) other None ≡ get_or costs other None = get_or-set_other costs at other (Some cost) None apart in
      let before : IsKept (made other) (entries ++ given ∷ []) (get_or costs other None) = grown other (get_or costs other None) (λ c same. apart (same_place other c at cost (same ∙ is))) (kept other (omega (arith, within, length-set costs at (Some cost)))) in
      subst (λ (o : Option ℕ). IsKept (made other) (entries ++ given ∷ []) o) (sym there) before)
      (cases_eq other at)

-- an entry for which nothing is kept
pub added_nothing : (entries : List Entry) (blocks edges : List (Option ℕ)) → Keeps entries blocks edges → Adds entries entry.Nothing blocks edges
added_nothing entries blocks edges keeps = (
  (λ none. none),
  record {
    of_blocks = kept_beside entry.Block entries entry.Nothing blocks (λ at cost same. absurd (cc same)) keeps.of_blocks;
    of_edges = kept_beside entry.Edge entries entry.Nothing edges (λ at cost same. absurd (cc same)) keeps.of_edges;
  },
)

pub added_block : (entries : List Entry) (blocks edges new : List (Option ℕ)) (block cost : ℕ) (result : Bool) → block < length blocks
    → MatchBool result ((get_or blocks block None ≡ None) × (new ≡ set blocks block (Some cost))) (((other : ℕ) × (get_or blocks block None ≡ Some other)) × (new ≡ blocks))
    → Keeps entries blocks edges → MatchBool result (Adds entries (entry.Block block cost) new edges) (Repeats entries (entry.Block block cost))
added_block entries blocks edges new block cost true low put keeps =
    let none : IsKept (entry.Block block) entries None = subst (λ (o : Option ℕ). IsKept (entry.Block block) entries o) put.0 (keeps.of_blocks block low) in
    rw put.1 (
      (λ some. none some.0 some.1),
      record {
        of_blocks = kept_set entry.Block entries (entry.Block block cost) blocks block cost refl (λ a c b d same. cc same) low keeps.of_blocks;
        of_edges = kept_beside entry.Edge entries (entry.Block block cost) edges (λ at other same. absurd (cc same)) keeps.of_edges;
      },
    )
added_block entries blocks edges new block cost false low put keeps = (put.0.0, subst (λ (o : Option ℕ). IsKept (entry.Block block) entries o) put.0.1 (keeps.of_blocks block low))

pub added_edge : (entries : List Entry) (blocks edges new : List (Option ℕ)) (edge cost : ℕ) (result : Bool) → edge < length edges
    → MatchBool result ((get_or edges edge None ≡ None) × (new ≡ set edges edge (Some cost))) (((other : ℕ) × (get_or edges edge None ≡ Some other)) × (new ≡ edges))
    → Keeps entries blocks edges → MatchBool result (Adds entries (entry.Edge edge cost) blocks new) (Repeats entries (entry.Edge edge cost))
added_edge entries blocks edges new edge cost true low put keeps =
    let none : IsKept (entry.Edge edge) entries None = subst (λ (o : Option ℕ). IsKept (entry.Edge edge) entries o) put.0 (keeps.of_edges edge low) in
    rw put.1 (
      (λ some. none some.0 some.1),
      record {
        of_blocks = kept_beside entry.Block entries (entry.Edge edge cost) blocks (λ at other same. absurd (cc same)) keeps.of_blocks;
        of_edges = kept_set entry.Edge entries (entry.Edge edge cost) edges edge cost refl (λ a c b d same. cc same) low keeps.of_edges;
      },
    )
added_edge entries blocks edges new edge cost false low put keeps = (put.0.0, subst (λ (o : Option ℕ). IsKept (entry.Edge edge) entries o) put.0.1 (keeps.of_edges edge low))

-- what is wrong with what a line says is wrong with the line
pub flaw_of : (version : ℕ) (labels : List (List ℕ)) (edges : List Edge) (entries : List Entry) (line : List ℕ) (said : Said) (kind : Flaw) → SaysAlone line said → Lacks version labels edges said kind → IsFlaw version labels edges entries line kind
flaw_of version labels edges entries line said flaw.Form alone lacks = λ other says may. lacks (subst (λ (words : Said). MayStand version labels edges words) (alone.1 other says) may)
flaw_of version labels edges entries line said flaw.Block alone lacks = (said, alone.0, lacks.0, lacks.1)
flaw_of version labels edges entries line said flaw.Edge alone lacks = (said, alone.0, lacks.0, lacks.1, lacks.2)
flaw_of version labels edges entries line said flaw.Twice alone lacks = absurd lacks

-- an entry has its place
pub place_of_entry : (version : ℕ) (labels : List (List ℕ)) (edges : List Edge) (said : Said) (given : Entry) → Names version labels edges said given → HasPlace (length labels) (length edges) given
place_of_entry version labels edges words.Nothing entry.Nothing names = tt
place_of_entry version labels edges words.Nothing (entry.Block block cost) names = absurd names
place_of_entry version labels edges words.Nothing (entry.Edge edge cost) names = absurd names
place_of_entry version labels edges (words.Block label cost) entry.Nothing names = absurd names
place_of_entry version labels edges (words.Block label cost) (entry.Block block given) names = names.0
place_of_entry version labels edges (words.Block label cost) (entry.Edge edge given) names = absurd names
place_of_entry version labels edges (words.Edge from to cost) entry.Nothing names = absurd names
place_of_entry version labels edges (words.Edge from to cost) (entry.Block block given) names = absurd names
place_of_entry version labels edges (words.Edge from to cost) (entry.Edge edge given) names = names.1

-- one line more
pub goes_on : (version : ℕ) (labels : List (List ℕ)) (edges : List Edge) (earlier : List Entry) (lines : List (List ℕ)) (entries : List Entry) (line : List ℕ) (given : Entry) → Goes version labels edges earlier lines entries → Gives version labels edges line given → ¬ Repeats (earlier ++ entries) given → Goes version labels edges earlier (lines ++ line ∷ []) (entries ++ given ∷ [])
goes_on version labels edges earlier [] [] line given goes gives once = (gives, subst (λ (all : List Entry). ¬ Repeats all given) (append-nil earlier) once, tt)
goes_on version labels edges earlier [] (next ∷ entries) line given goes gives once = absurd goes
goes_on version labels edges earlier (next ∷ lines) [] line given goes gives once = absurd goes
goes_on version labels edges earlier (next ∷ lines) (first ∷ entries) line given goes gives once =
    (goes.0, goes.1, goes_on version labels edges (earlier ++ first ∷ []) lines entries line given goes.2 gives (subst (λ (all : List Entry). ¬ Repeats all given) (sym (append_assoc earlier (first ∷ []) entries)) once))
