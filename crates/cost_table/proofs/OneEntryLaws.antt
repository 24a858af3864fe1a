-- Lines give one list of entries at most, and no costs of one block or edge but one.
use Rattle.std.proofs.Common.{◌≡◌, ◌≢◌, ◌<◌, ◌⊎◌, ⊎_elim, inl, inr, ℕ, zero, suc, List, [], ◌∷◌, ◌++◌, length, refl, sym, ◌∙◌, arith, subst, append_assoc}
use Rattle.std.specs.List.{All, AllPairs, Contains}
use Rattle.std.proofs.lemmas.Bool.{cases_order}
use Rattle.std.proofs.lemmas.List.{append-nil}
use Rattle.std.proofs.lemmas.List.Elements.{Contains-append_left, Contains-push, Contains-get_or}
use Rattle.flow_graph.specs.declared.edge.Edge.{Edge}
use Rattle.flow_graph.specs.Sorted.{ComesBefore, AreSorted}
use Rattle.cost_table.specs.declared.line.Said.{Said}
use Rattle.cost_table.specs.declared.line.Said.TheVariants as words
use Rattle.cost_table.specs.declared.entry.Entry.{Entry}
use Rattle.cost_table.specs.declared.entry.Entry.TheVariants as entry
use Rattle.cost_table.specs.declared.entry.Flaw.{Flaw}
use Rattle.cost_table.specs.declared.entry.Flaw.TheVariants as flaw
use Rattle.cost_table.specs.Entries.{label_at, edge_at, Repeats, MayStand, HasLabels, Names, Gives, IsFlaw, Goes}
use Rattle.cost_table.proofs.OneLineLaws.{says_one}

nothing_in : (x : Entry) → Contains [] x → ⊥
nothing_in x (k, low, is) = absurd (omega (arith, low))

head_or_tail : (first : Entry) (rest : List Entry) (x : Entry) → Contains (first ∷ rest) x → (first ≡ x) ⊎ Contains rest x
head_or_tail first rest x (zero, within, is) = inl is
head_or_tail first rest x (suc k, within, is) = inr (k, omega arith, is)

-- of two places in a list of different labels
one_place : (labels : List (List ℕ)) → AllPairs (λ label other. label ≢ other) labels → (place other : ℕ) → place < length labels → other < length labels → label_at labels place ≡ label_at labels other → place ≡ other
one_place labels different place other low also_low same =
    ⊎_elim
    (λ is. is)
    (λ apart. ⊎_elim
    (λ before. absurd (different place other [] before also_low same))
    (λ behind. absurd (different other place [] behind low (sym same)))
    apart)
    (cases_order place other)

not_before : (edge next : Edge) → edge.from ≡ next.from → edge.to ≡ next.to → ComesBefore edge next → ⊥
not_before edge next from to (inl less) = absurd (omega (arith, from, less))
not_before edge next from to (inr less) = absurd (omega (arith, to, less.1))

one_edge_place : (edges : List Edge) → AreSorted edges → (place other : ℕ) → place < length edges → other < length edges → (edge_at edges place).from ≡ (edge_at edges other).from → (edge_at edges place).to ≡ (edge_at edges other).to → place ≡ other
one_edge_place edges sorted place other low also_low from to =
    ⊎_elim
    (λ is. is)
    (λ apart. ⊎_elim
    (λ before. absurd (not_before (edge_at edges place) (edge_at edges other) from to (sorted place other (record { from = 0; to = 0 }) before also_low)))
    (λ behind. absurd (not_before (edge_at edges other) (edge_at edges place) (sym from) (sym to) (sorted other place (record { from = 0; to = 0 }) behind low)))
    apart)
    (cases_order place other)

module _ (version : ℕ) (labels : List (List ℕ)) (edges : List Edge) (different : AllPairs (λ label other. label ≢ other) labels) (within : All (λ edge. (edge.from < length labels) × (edge.to < length labels)) edges) (sorted : AreSorted edges) where
  -- what is said gives one entry
  names_one : (said : Said) (given other : Entry) → Names version labels edges said given → Names version labels edges said other → given ≡ other
  names_one words.Nothing entry.Nothing entry.Nothing names also = refl
  names_one words.Nothing entry.Nothing (entry.Block b d) names also = absurd also
  names_one words.Nothing entry.Nothing (entry.Edge b d) names also = absurd also
  names_one words.Nothing (entry.Block a c) other names also = absurd names
  names_one words.Nothing (entry.Edge a c) other names also = absurd names
  names_one (words.Block label cost) entry.Nothing other names also = absurd names
  names_one (words.Block label cost) (entry.Edge a c) other names also = absurd names
  names_one (words.Block label cost) (entry.Block a c) entry.Nothing names also = absurd also
  names_one (words.Block label cost) (entry.Block a c) (entry.Edge b d) names also = absurd also
  names_one (words.Block label cost) (entry.Block a c) (entry.Block b d) names also =
      let place : a ≡ b = one_place labels different a b names.0 also.0 (names.1 ∙ sym also.1) in
      let costs : c ≡ d = names.2 ∙ sym also.2 in
      λ i. entry.Block (place i) (costs i)
  names_one (words.Edge from to cost) entry.Nothing other names also = absurd names
  names_one (words.Edge from to cost) (entry.Block a c) other names also = absurd names
  names_one (words.Edge from to cost) (entry.Edge a c) entry.Nothing names also = absurd also
  names_one (words.Edge from to cost) (entry.Edge a c) (entry.Block b d) names also = absurd also
  names_one (words.Edge from to cost) (entry.Edge a c) (entry.Edge b d) names also =
      let one = within a (record { from = 0; to = 0 }) names.1 in
      let two = within b (record { from = 0; to = 0 }) also.1 in
      let from_is = one_place labels different (edge_at edges a).from (edge_at edges b).from one.0 two.0 (names.2 ∙ sym also.2) in
      let to_is = one_place labels different (edge_at edges a).to (edge_at edges b).to one.1 two.1 (names.3 ∙ sym also.3) in
      let place : a ≡ b = one_edge_place edges sorted a b names.1 also.1 from_is to_is in
      let costs : c ≡ d = names.4 ∙ sym also.4 in
      λ i. entry.Edge (place i) (costs i)

  pub gives_one : (line : List ℕ) (given other : Entry) → Gives version labels edges line given → Gives version labels edges line other → given ≡ other
  gives_one line given other (said, says, names) (also_said, also_says, also_names) =
      names_one said given other names (subst (λ (s : Said). Names version labels edges s other) (says_one line also_said said also_says says) also_names)

  pub goes_one : (earlier : List Entry) (lines : List (List ℕ)) (entries others : List Entry) → Goes version labels edges earlier lines entries → Goes version labels edges earlier lines others → entries ≡ others
  goes_one earlier [] [] [] goes also = refl
  goes_one earlier [] [] (other ∷ others) goes also = absurd also
  goes_one earlier [] (given ∷ entries) others goes also = absurd goes
  goes_one earlier (line ∷ lines) [] others goes also = absurd goes
  goes_one earlier (line ∷ lines) (given ∷ entries) [] goes also = absurd also
  goes_one earlier (line ∷ lines) (given ∷ entries) (other ∷ others) goes also =
      let first : given ≡ other = gives_one line given other goes.0 also.0 in
      let rest : entries ≡ others = goes_one (earlier ++ given ∷ []) lines entries others goes.2 (subst (λ (e : Entry). Goes version labels edges (earlier ++ e ∷ []) lines others) (sym first) also.2) in
      λ i. first i ∷ rest i

  -- the line behind lines that go gives an entry that repeats none
  pub goes_past : (earlier : List Entry) (before : List (List ℕ)) (line : List ℕ) (after : List (List ℕ)) (entries all : List Entry) → Goes version labels edges earlier before entries → Goes version labels edges earlier (before ++ line ∷ after) all → (given : Entry) × Gives version labels edges line given × ¬ Repeats (earlier ++ entries) given
  goes_past earlier [] line after [] [] goes whole = absurd whole
  goes_past earlier [] line after [] (given ∷ all) goes whole = (given, whole.0, subst (λ (list : List Entry). ¬ Repeats list given) (sym (append-nil earlier)) whole.1)
  goes_past earlier [] line after (first ∷ entries) all goes whole = absurd goes
  goes_past earlier (next ∷ before) line after [] all goes whole = absurd goes
  goes_past earlier (next ∷ before) line after (first ∷ entries) [] goes whole = absurd whole
  goes_past earlier (next ∷ before) line after (first ∷ entries) (given ∷ all) goes whole =
      let same : given ≡ first = gives_one next given first whole.0 goes.0 in
      let found = goes_past (earlier ++ first ∷ []) before line after entries all goes.2 (subst (λ (e : Entry). Goes version labels edges (earlier ++ e ∷ []) (before ++ line ∷ after) all) same whole.2) in
      (found.0, found.1, subst (λ (list : List Entry). ¬ Repeats list found.0) (append_assoc earlier (first ∷ []) entries) found.2)

  names_may : (said : Said) (given : Entry) → Names version labels edges said given → MayStand version labels edges said
  names_may words.Nothing given names = tt
  names_may (words.Block label cost) given names = tt
  names_may (words.Edge from to cost) entry.Nothing names = absurd names
  names_may (words.Edge from to cost) (entry.Block a c) names = absurd names
  names_may (words.Edge from to cost) (entry.Edge a c) names = names.0

  contains_label : (place : ℕ) (label : List ℕ) → place < length labels → label_at labels place ≡ label → Contains labels label
  contains_label place label low is = subst (λ (name : List ℕ). Contains labels name) is (Contains-get_or labels place [] low)

  names_labels : (said : Said) (given : Entry) → Names version labels edges said given → HasLabels version labels edges said
  names_labels words.Nothing given names = tt
  names_labels (words.Block label cost) entry.Nothing names = absurd names
  names_labels (words.Block label cost) (entry.Block a c) names = contains_label a label names.0 names.1
  names_labels (words.Block label cost) (entry.Edge a c) names = absurd names
  names_labels (words.Edge from to cost) entry.Nothing names = absurd names
  names_labels (words.Edge from to cost) (entry.Block a c) names = absurd names
  names_labels (words.Edge from to cost) (entry.Edge a c) names =
      let ends = within a (record { from = 0; to = 0 }) names.1 in
      (contains_label (edge_at edges a).from from ends.0 names.2, contains_label (edge_at edges a).to to ends.1 names.3)

  -- a line with a flaw gives no entry of its own
  pub no_entry : (earlier : List Entry) (line : List ℕ) (kind : Flaw) (given : Entry) → IsFlaw version labels edges earlier line kind → Gives version labels edges line given → ¬ Repeats earlier given → ⊥
  no_entry earlier line flaw.Form given is_flaw (said, says, names) once = is_flaw said says (names_may said given names)
  no_entry earlier line flaw.Block given (also, also_says, may, none) (said, says, names) once =
      none (subst (λ (s : Said). HasLabels version labels edges s) (says_one line said also says also_says) (names_labels said given names))
  no_entry earlier line flaw.Edge given (also, also_says, may, labelled, none) (said, says, names) once =
      none given (subst (λ (s : Said). Names version labels edges s given) (says_one line said also says also_says) names)
  no_entry earlier line flaw.Twice given (also, also_gives, repeats) gives once =
      once (subst (λ (e : Entry). Repeats earlier e) (gives_one line also given also_gives gives) repeats)

  -- a line has one flaw
  pub one_flaw : (earlier : List Entry) (line : List ℕ) (kind other : Flaw) → IsFlaw version labels edges earlier line kind → IsFlaw version labels edges earlier line other → kind ≡ other
  one_flaw earlier line flaw.Form flaw.Form is also = refl
  one_flaw earlier line flaw.Form flaw.Block is also = absurd (is also.0 also.1 also.2)
  one_flaw earlier line flaw.Form flaw.Edge is also = absurd (is also.0 also.1 also.2)
  one_flaw earlier line flaw.Form flaw.Twice is also = absurd (is also.1.0 also.1.1 (names_may also.1.0 also.0 also.1.2))
  one_flaw earlier line flaw.Block flaw.Form is also = absurd (also is.0 is.1 is.2)
  one_flaw earlier line flaw.Block flaw.Block is also = refl
  one_flaw earlier line flaw.Block flaw.Edge is also = absurd (is.3 (subst (λ (s : Said). HasLabels version labels edges s) (says_one line also.0 is.0 also.1 is.1) also.3))
  one_flaw earlier line flaw.Block flaw.Twice is also = absurd (is.3 (subst (λ (s : Said). HasLabels version labels edges s) (says_one line also.1.0 is.0 also.1.1 is.1) (names_labels also.1.0 also.0 also.1.2)))
  one_flaw earlier line flaw.Edge flaw.Form is also = absurd (also is.0 is.1 is.2)
  one_flaw earlier line flaw.Edge flaw.Block is also = absurd (also.3 (subst (λ (s : Said). HasLabels version labels edges s) (says_one line is.0 also.0 is.1 also.1) is.3))
  one_flaw earlier line flaw.Edge flaw.Edge is also = refl
  one_flaw earlier line flaw.Edge flaw.Twice is also = absurd (is.4 also.0 (subst (λ (s : Said). Names version labels edges s also.0) (says_one line also.1.0 is.0 also.1.1 is.1) also.1.2))
  one_flaw earlier line flaw.Twice flaw.Form is also = absurd (also is.1.0 is.1.1 (names_may is.1.0 is.0 is.1.2))
  one_flaw earlier line flaw.Twice flaw.Block is also = absurd (also.3 (subst (λ (s : Said). HasLabels version labels edges s) (says_one line is.1.0 also.0 is.1.1 also.1) (names_labels is.1.0 is.0 is.1.2)))
  one_flaw earlier line flaw.Twice flaw.Edge is also = absurd (also.4 is.0 (subst (λ (s : Said). Names version labels edges s is.0) (says_one line is.1.0 also.0 is.1.1 also.1) is.1.2))
  one_flaw earlier line flaw.Twice flaw.Twice is also = refl

-- entries that give a cost to one kind of thing: blocks, or edges
module _ (version : ℕ) (labels : List (List ℕ)) (edges : List Edge) (made : ℕ → ℕ → Entry) (at : ℕ) (repeats : (earlier : List Entry) (cost other : ℕ) → Contains earlier (made at other) → Repeats earlier (made at cost)) (same_cost : (cost other : ℕ) → made at cost ≡ made at other → cost ≡ other) where
  not_again : (earlier : List Entry) (lines : List (List ℕ)) (entries : List Entry) (cost other : ℕ) → Goes version labels edges earlier lines entries → Contains earlier (made at other) → Contains entries (made at cost) → ⊥
  not_again earlier lines [] cost other goes known contains = nothing_in (made at cost) contains
  not_again earlier [] (given ∷ entries) cost other goes known contains = absurd goes
  not_again earlier (line ∷ lines) (given ∷ entries) cost other goes known contains =
      ⊎_elim
      (λ here. goes.1 (subst (λ (e : Entry). Repeats earlier e) (sym here) (repeats earlier cost other known)))
      (λ later. not_again (earlier ++ given ∷ []) lines entries cost other goes.2 (Contains-append_left earlier (given ∷ []) (made at other) known) later)
      (head_or_tail given entries (made at cost) contains)

  pub once : (earlier : List Entry) (lines : List (List ℕ)) (entries : List Entry) (cost other : ℕ) → Goes version labels edges earlier lines entries → Contains entries (made at cost) → Contains entries (made at other) → cost ≡ other
  once earlier lines [] cost other goes contains also = absurd (nothing_in (made at cost) contains)
  once earlier [] (given ∷ entries) cost other goes contains also = absurd goes
  once earlier (line ∷ lines) (given ∷ entries) cost other goes contains also =
      ⊎_elim
      (λ here. ⊎_elim
      (λ also_here. same_cost cost other (sym here ∙ also_here))
      (λ later. absurd (not_again (earlier ++ given ∷ []) lines entries other cost goes.2 (subst (λ (e : Entry). Contains (earlier ++ given ∷ []) e) here (Contains-push earlier given)) later))
      (head_or_tail given entries (made at other) also))
      (λ later. ⊎_elim
      (λ also_here. absurd (not_again (earlier ++ given ∷ []) lines entries cost other goes.2 (subst (λ (e : Entry). Contains (earlier ++ given ∷ []) e) also_here (Contains-push earlier given)) later))
      (λ also_later. once (earlier ++ given ∷ []) lines entries cost other goes.2 later also_later)
      (head_or_tail given entries (made at other) also))
      (head_or_tail given entries (made at cost) contains)
