-- Entries that are like the first of their block.
use Rattle.std.proofs.Common.{◌≡◌, ◌<◌, ◌≤◌, ◌+◌, ℕ, suc, Bool, true, false, not, cond, List, [], ◌∷◌, length, get_or, set, take, Option, Some, None, refl, sym, ◌∙◌, ap, subst, arith, ◌||◌}
use Rattle.std.specs.Prelude.{All}
use Rattle.std.specs.List.{list_all}
use Rattle.std.specs.Option.{option_map}
use Rattle.std.specs.Str.{bytes_eq}
use Rattle.std.proofs.lemmas.Bool.{both_ways}
use Rattle.std.proofs.lemmas.Bool.Decides.{Decides-eqb}
use Rattle.std.proofs.lemmas.Slice.Eq.{bytes_eq-Decides}
use Rattle.std.proofs.lemmas.List.{get_or-set_same, get_or-set_other, get_or_default, take_all}
use Rattle.std.proofs.lemmas.List.Elements.{All-head, All-tail, All-more, All-weaker, All-same, All-set}
use Rattle.ll_tree.specs.declared.block.PhiEntry.{PhiEntry}
use Rattle.ll_tree.specs.declared.block.Operand.{Operand}
use Rattle.ll_tree.specs.declared.block.Operand.TheVariants as operand
use Rattle.name_table.specs.Names.{place_of}
use Rattle.ll_phi_rules.specs.Phis.{same_operand, agree, all_agree}

-- ---- an operand is itself

same_name : (name : List ℕ) → bytes_eq name name ≡ true
same_name name = (bytes_eq-Decides name name).1 refl

itself : (it : Operand) → same_operand it it ≡ true
itself (operand.Name name) = same_name name
itself (operand.Const number) = (Decides-eqb number number).1 refl
itself operand.Poison = refl

pub is_same : (it other : Operand) → same_operand it other ≡ true → it ≡ other
is_same (operand.Name name) (operand.Name other) e = ap operand.Name ((bytes_eq-Decides name other).0 e)
is_same (operand.Name name) (operand.Const number) e = absurd (both_ways false refl e)
is_same (operand.Name name) operand.Poison e = absurd (both_ways false refl e)
is_same (operand.Const number) (operand.Name name) e = absurd (both_ways false refl e)
is_same (operand.Const number) (operand.Const other) e = ap operand.Const ((Decides-eqb number other).0 e)
is_same (operand.Const number) operand.Poison e = absurd (both_ways false refl e)
is_same operand.Poison (operand.Name name) e = absurd (both_ways false refl e)
is_same operand.Poison (operand.Const number) e = absurd (both_ways false refl e)
is_same operand.Poison operand.Poison e = refl

abbrev entry_of : Operand → List ℕ → PhiEntry
entry_of value from = record { value = value; from = from }

same_entry : (entry other : PhiEntry) → entry.value ≡ other.value → entry.from ≡ other.from → entry ≡ other
same_entry entry other value from = ap (λ (v : Operand). entry_of v entry.from) value ∙ ap (entry_of other.value) from

-- what stands past the end
abbrev pub no_entry : PhiEntry
no_entry = record { value = operand.Poison; from = [] }

-- ---- names by their places

abbrev number_of : Option ℕ → ℕ
number_of None = 0
number_of (Some number) = number

none_some : (a : ℕ) → (◌≡◌ {A = Option ℕ} None (Some a)) → ⊥
none_some a e = cc

named_at : (name : List ℕ) (names : List (List ℕ)) (place : ℕ) → place_of name names ≡ Some place → get_or names place [] ≡ name
named_at name [] place e = absurd (none_some place e)
named_at name (other ∷ others) place e =
    (elim (bytes_eq name other) as (λ b. bytes_eq name other ≡ b → cond {A = Option ℕ} b (Some 0) (option_map suc (place_of name others)) ≡ Some place → get_or (other ∷ others) place [] ≡ name) [
      | true ↦ λ test found. here (sym ((bytes_eq-Decides name other).0 test)) (ap number_of found)
      | false ↦ λ test found. later (named_at name others) (place_of name others) refl found
    ]) refl e
  where
    here : other ≡ name → 0 ≡ place → get_or (other ∷ others) place [] ≡ name
    here same first = rw (← first) same

    later : ((p : ℕ) → place_of name others ≡ Some p → get_or others p [] ≡ name) → (o : Option ℕ) → place_of name others ≡ o → option_map suc o ≡ Some place → get_or (other ∷ others) place [] ≡ name
    later rest None is found = absurd (none_some place found)
    later rest (Some p) is found = let behind : suc p ≡ place = ap number_of found in rw (← behind) (rest p is)

module _ (labels : List (List ℕ)) where
  -- names with one place are one
  one_name : (name other : List ℕ) (place : ℕ) → place_of name labels ≡ Some place → place_of other labels ≡ Some place → name ≡ other
  one_name name other place at also = sym (named_at name labels place at) ∙ named_at other labels place also

  -- ---- the first entry of each place

  -- the label of an entry has a place, and the first entry of this place is the same
  abbrev pub Stands : (ℕ → PhiEntry) → PhiEntry → Type 0
  Stands first entry = (place : ℕ) × (place_of entry.from labels ≡ Some place) × (first place ≡ entry)

  two_agree : (first : ℕ → PhiEntry) (entry other : PhiEntry) → Stands first entry → Stands first other → agree entry other ≡ true
  two_agree first entry other a b =
      (elim (bytes_eq other.from entry.from) as (λ t. bytes_eq other.from entry.from ≡ t → (not t || same_operand entry.value other.value) ≡ true) [
        | true ↦ λ test. like ((bytes_eq-Decides other.from entry.from).0 test)
        | false ↦ λ test. refl
      ]) refl
    where
      like : other.from ≡ entry.from → same_operand entry.value other.value ≡ true
      like froms =
          let places : a.0 ≡ b.0 = ap number_of (sym a.1 ∙ ap (λ (n : List ℕ). place_of n labels) (sym froms) ∙ b.1) in
          let same : entry ≡ other = sym a.2 ∙ ap first places ∙ b.2 in
          subst (λ (e : PhiEntry). same_operand entry.value e.value ≡ true) same (itself entry.value)

  others_agree : (first : ℕ → PhiEntry) (entry : PhiEntry) (others : List PhiEntry) → Stands first entry → All (Stands first) others → list_all (agree entry) others ≡ true
  others_agree first entry [] a all = refl
  others_agree first entry (other ∷ others) a all =
      rw (two_agree first entry other a (All-head (Stands first) other others all), others_agree first entry others a (All-tail (Stands first) other others all)) refl

  agree_by_first : (first : ℕ → PhiEntry) (entries : List PhiEntry) → All (Stands first) entries → all_agree entries ≡ true
  agree_by_first first [] all = refl
  agree_by_first first (entry ∷ entries) all =
      let rest : All (Stands first) entries = All-tail (Stands first) entry entries all in
      rw (others_agree first entry entries (All-head (Stands first) entry entries all) rest, agree_by_first first entries rest) refl

  module _ (entries : List PhiEntry) (none : PhiEntry) where
    -- the entry at the place that is kept for a label
    abbrev pub kept : List ℕ → ℕ → PhiEntry
    kept firsts place = get_or entries (get_or firsts place 0) none

    -- all entries have been taken
    pub entries_agree : (firsts : List ℕ) (i : ℕ) → length entries ≤ i → All (Stands (kept firsts)) (take i entries) → all_agree entries ≡ true
    entries_agree firsts i over all = agree_by_first (kept firsts) entries (All-same (Stands (kept firsts)) entries (take i entries) (sym (take_all i entries over)) all)

    module _ (firsts : List ℕ) (i : ℕ) (entry : PhiEntry) (place : ℕ) (within : i < length entries) (is : entry ≡ get_or entries i none) (found : Some place ≡ place_of entry.from labels)
        (done : All (Stands (kept firsts)) (take i entries)) where
      -- one that is like the first of its label
      pub like_first : (kept firsts place).from ≡ entry.from → (kept firsts place).value ≡ entry.value → All (Stands (kept firsts)) (take (i + 1) entries)
      like_first from value =
          All-more (Stands (kept firsts)) entries i none within done
          (subst (Stands (kept firsts)) is (place, sym found, same_entry (kept firsts place) entry value from))

      -- the first of its label
      pub new_first : place < length firsts → bytes_eq (kept firsts place).from entry.from ≡ false → All (Stands (kept (set firsts place i))) (take (i + 1) entries)
      new_first there other =
          let here : kept (set firsts place i) place ≡ entry = ap (λ (k : ℕ). get_or entries k none) (get_or-set_same firsts place i 0 there) ∙ sym is in
          All-more (Stands (kept (set firsts place i))) entries i none within
          (All-weaker (Stands (kept firsts)) (Stands (kept (set firsts place i))) stays (take i entries) done)
          (subst (Stands (kept (set firsts place i))) is (place, sym found, here))
        where
          apart : (it : PhiEntry) (at : ℕ) → place_of it.from labels ≡ Some at → kept firsts at ≡ it → at ≡ place → ⊥
          apart it at named same e =
              let its : it.from ≡ entry.from = one_name it.from entry.from place (named ∙ ap Some e) (sym found) in
              let first : (kept firsts place).from ≡ entry.from = ap (λ (k : ℕ). (kept firsts k).from) (sym e) ∙ ap (λ (x : PhiEntry). x.from) same ∙ its in
              both_ways (bytes_eq (kept firsts place).from entry.from) other ((bytes_eq-Decides (kept firsts place).from entry.from).1 first)

          stays : (it : PhiEntry) → Stands (kept firsts) it → Stands (kept (set firsts place i)) it
          stays it (at, named, same) =
              (at, named, ap (λ (k : ℕ). get_or entries k none) (get_or-set_other firsts place at i 0 (apart it at named same)) ∙ same)

-- ---- the next entry, by what the loop finds of it

not_same : (answer b : Bool) → answer ≡ not b → answer ≡ true → b ≡ false
not_same answer true is e = absurd (both_ways answer is e)
not_same answer false is e = refl

are_same : (answer b : Bool) → answer ≡ not b → answer ≡ false → b ≡ true
are_same answer true is e = refl
are_same answer false is e = absurd (both_ways answer e is)

module _ (labels : List (List ℕ)) (entries : List PhiEntry) (firsts : List ℕ) (i place number : ℕ) (entry first : PhiEntry) (name from also : List ℕ) (answer : Bool)
    (within : i < length entries) (size : length firsts ≡ length labels) (before : All (λ (k : ℕ). k ≤ i) firsts) (done : All (Stands labels (kept labels entries no_entry firsts)) (take i entries))
    (is : entry ≡ get_or entries i entry) (named : name ≡ entry.from) (found : Some place ≡ place_of name labels) (inside : place < length labels)
    (at : number ≡ get_or firsts place number) (first_is : first ≡ get_or entries number first) (from_is : from ≡ first.from) (also_is : also ≡ entry.from)
    (compared : answer ≡ not (bytes_eq from also)) where
  there : place < length firsts
  there = omega (arith, inside, size)

  low : number < length entries
  low = omega (arith, within, before place number there, at)

  its : Some place ≡ place_of entry.from labels
  its = found ∙ ap (λ (n : List ℕ). place_of n labels) named

  entry_is : entry ≡ get_or entries i no_entry
  entry_is = is ∙ get_or_default entries i entry no_entry within

  kept_is : first ≡ kept labels entries no_entry firsts place
  kept_is = first_is ∙ get_or_default entries number first no_entry low ∙ ap (λ (k : ℕ). get_or entries k no_entry) (at ∙ get_or_default firsts place number 0 there)

  -- it is like the first for its block
  pub next_like : (same : Bool) → answer ≡ false → same ≡ same_operand first.value entry.value → same ≡ true → All (Stands labels (kept labels entries no_entry firsts)) (take (i + 1) entries)
  next_like same no_other is_same_value e =
      let froms : first.from ≡ entry.from = sym from_is ∙ (bytes_eq-Decides from also).0 (are_same answer (bytes_eq from also) compared no_other) ∙ also_is in
      let values : first.value ≡ entry.value = is_same first.value entry.value (sym is_same_value ∙ e) in
      like_first labels entries no_entry firsts i entry place within entry_is its done
      (ap (λ (x : PhiEntry). x.from) (sym kept_is) ∙ froms) (ap (λ (x : PhiEntry). x.value) (sym kept_is) ∙ values)

  -- it is the first for its block
  pub next_first : answer ≡ true → All (Stands labels (kept labels entries no_entry (set firsts place i))) (take (i + 1) entries)
  next_first other =
      let apart : bytes_eq from also ≡ false = not_same answer (bytes_eq from also) compared other in
      let froms : from ≡ (kept labels entries no_entry firsts place).from = from_is ∙ ap (λ (x : PhiEntry). x.from) kept_is in
      new_first labels entries no_entry firsts i entry place within entry_is its done there
      (ap (λ (n : List ℕ). bytes_eq n entry.from) (sym froms) ∙ ap (bytes_eq from) (sym also_is) ∙ apart)

  pub none_later : All (λ (k : ℕ). k ≤ i + 1) firsts
  none_later = All-weaker (λ (k : ℕ). k ≤ i) (λ (k : ℕ). k ≤ i + 1) (λ k low. omega (arith, low)) firsts before

  pub none_later_set : All (λ (k : ℕ). k ≤ i + 1) (set firsts place i)
  none_later_set = All-set (λ (k : ℕ). k ≤ i + 1) firsts place i (omega arith) none_later
