-- The clauses over numbers are those over names.
use Rattle.std.proofs.Common.{◌≡◌, ◌<◌, ◌≤◌, ◌+◌, ◌*◌, ◌^◌, ℕ, pos, append_assoc, List, [], ◌∷◌, ◌++◌, length, get_or, map, take, drop, true, false, Option, Some, None, option_map, refl, sym, ◌∙◌, ap, subst, arith}
use Rattle.std.specs.Prelude.{flat_map, zip}
use Rattle.std.specs.List.{All}
use Rattle.std.specs.Option.{unwrap_or}
use Rattle.std.proofs.lemmas.List.Sums.{get_or-le-sum_by}
use Rattle.std.proofs.lemmas.List.{length-map, length-append, map-append, get_or-map, get_or_default}
use Rattle.std.proofs.lemmas.Int.{ints}
use Rattle.std.proofs.lemmas.List.Elements.{All-cons, All-append, All-map, All-nil}
use Rattle.std.proofs.lemmas.Slice.Zip.{get_or-zip}
use Rattle.mix_system.specs.declared.literal.Lit.{Lit}
use Rattle.mix_system.specs.System.{System, IsInner, Exists}
use Rattle.ll_tree.specs.declared.func.Func.{Func}
use Rattle.ll_tree.specs.declared.block.Block.{Block}
use Rattle.ll_tree.specs.declared.block.Case.{Case}
use Rattle.ll_tree.specs.declared.block.Instr.{Instr}
use Rattle.ll_tree.specs.declared.block.Operand.{Operand}
use Rattle.ll_tree.specs.declared.block.End.{End}
use Rattle.ll_tree.specs.declared.block.End.TheVariants as end
use Rattle.ll_tree.specs.declared.op.Op.{Op}
use Rattle.ll_tree.specs.declared.op.Op.TheVariants.{Bin, Cmp, Cast, Select, Abs, Assume}
use Rattle.ll_rules.specs.Items.{Item, OfPhi, OfInstr, OfEnd, items_of, targets_of, labels_of, values_of}
use Rattle.name_table.specs.Names.{place_of}
use Rattle.ll_links.specs.declared.link.BlockId.{BlockId}
use Rattle.ll_links.specs.declared.link.Source.{Source}
use Rattle.ll_links.specs.declared.link.Source.TheVariants as source
use Rattle.ll_links.specs.declared.link.Links.{Links}
use Rattle.ll_links.specs.Links.{AreLinks, block_id, block_of, source_of, op_operands, end_operands}
use Rattle.ll_links.specs.Items.{items_at}
use Rattle.ll_verifier.specs.Sound.{SoundFunc, IsSound}
use Rattle.portion_cuts.specs.Paths.{place_at}
use Rattle.wrap_rows.specs.Normal.{clause_of}
use Rattle.path_encoding.specs.declared.spots.PathSpots.{PathSpots}
use Rattle.path_encoding.specs.Spots.{source_at, source_vars, block_at, block_var, no_block, place_with, edge_to, cases_of, IsBlock}
use Rattle.path_encoding.specs.Ends.{is_off, is_on, not_poison, assumed, assume_clauses, each_case, end_clauses, default_clause}
use Rattle.path_encoding.proofs.LayingLaws.{zip_low, length_zip}
use Rattle.path_encoding.specs.Resolved.{is_assume, first_of, places, case_to, end_to}

-- ---- numbers that are all there

pub sources_known : (func : Func) (sources : List Source) (values : List Operand) → map Some sources ≡ map (source_of (values_of func)) values → sources ≡ map (source_at func) values
sources_known func [] [] same = refl
sources_known func [] (value ∷ values) same = absurd (cc same)
sources_known func (first ∷ sources) [] same = absurd (cc same)
sources_known func (first ∷ sources) (value ∷ values) same =
    let here : Some first ≡ source_of (values_of func) value = ap (λ (l : List (Option Source)). get_or l 0 None) same in
    let rest = sources_known func sources values (ap (drop 1) same) in
    λ i. ap (λ (found : Option Source). unwrap_or found source.Poison) here i ∷ rest i

abbrev block_number : Option BlockId → ℕ
block_number None = 0
block_number (Some block) = block.0

number_known : (found : Option ℕ) → block_number (option_map block_id found) ≡ unwrap_or found 0
number_known None = refl
number_known (Some place) = refl

pub places_known : (func : Func) (blocks : List BlockId) (labels : List (List ℕ)) → map Some blocks ≡ map (block_of (labels_of func)) labels → places blocks ≡ map (place_with func) labels
places_known func [] [] same = refl
places_known func [] (label ∷ labels) same = absurd (cc same)
places_known func (block ∷ blocks) [] same = absurd (cc same)
places_known func (block ∷ blocks) (label ∷ labels) same =
    let here : Some block ≡ block_of (labels_of func) label = ap (λ (l : List (Option BlockId)). get_or l 0 None) same in
    let rest = places_known func blocks labels (ap (drop 1) same) in
    λ i. (ap block_number here ∙ number_known (place_of label (labels_of func))) i ∷ rest i

-- ---- the block at a position

module _ (it : SoundFunc) (at place : ℕ) (block : Block) (is : IsBlock it at place block) where
  pub items_count : length (items_at it.func.blocks place) ≡ length block.phis + length block.body + 1
  items_count =
      let items_are : items_at it.func.blocks place ≡ items_of block = get_or-map items_of it.func.blocks place block [] is.low ∙ ap items_of is.stands in
      let all = length-append (map OfPhi block.phis) (map OfInstr block.body ++ OfEnd block.end ∷ []) in
      let rest = length-append (map OfInstr block.body) (OfEnd block.end ∷ []) in
      let phis = length-map {B = Item} block.phis OfPhi in
      let body = length-map {B = Item} block.body OfInstr in
      ap length items_are ∙ omega (arith, all, rest, phis, body)

  pub block_is : block_at it at ≡ block
  block_is = ap (λ (n : ℕ). get_or it.func.blocks n no_block) (sym is.place_is) ∙ get_or_default it.func.blocks place no_block block is.low ∙ is.stands

-- ---- assumes

module _ (it : SoundFunc) (spots : PathSpots) (block : ℕ) where
  pub no_assume : (op : Op) → is_assume op ≡ false → assume_clauses it spots block op ≡ []
  no_assume (Bin kind flags width left right) other = refl
  no_assume (Cmp pred flags width left right) other = refl
  no_assume (Cast kind flags from arg to) other = refl
  no_assume (Select width cond first second) other = refl
  no_assume (Abs width arg strict) other = refl
  no_assume (Assume cond) other = absurd (cc other)

  pub an_assume : (op : Op) (sources : List Source) → is_assume op ≡ true → sources ≡ map (source_at it.func) (op_operands op) → assume_clauses it spots block op ≡ assumed block (source_vars spots (first_of sources))
  an_assume (Bin kind flags width left right) sources test are = absurd (cc test)
  an_assume (Cmp pred flags width left right) sources test are = absurd (cc test)
  an_assume (Cast kind flags from arg to) sources test are = absurd (cc test)
  an_assume (Select width cond first second) sources test are = absurd (cc test)
  an_assume (Abs width arg strict) sources test are = absurd (cc test)
  an_assume (Assume cond) sources test are = ap (λ (l : List Source). assumed block (source_vars spots (first_of l))) (sym are)

-- ---- terminators

abbrev case_label : Case → List ℕ
case_label case = case.to

module _ (it : SoundFunc) (spots : PathSpots) (at : ℕ) where
  cases_same : (number : ℕ) (cases : List Case) (vars : List ℕ) → flat_map (case_to it spots at number) (zip (zip cases (map (place_with it.func) (map case_label cases))) vars) ≡ flat_map (each_case it spots at number) (zip cases vars)
  cases_same number [] vars = refl
  cases_same number (case ∷ cases) [] = refl
  cases_same number (case ∷ cases) (var ∷ vars) =
      ap (λ (rest : List (List Lit)). each_case it spots at number (case, var) ++ rest) (cases_same number cases vars)

  pub end_same : (terminator : End) (sources : List Source) (targets vars : List ℕ) → sources ≡ map (source_at it.func) (end_operands terminator) → targets ≡ map (place_with it.func) (targets_of terminator)
      → end_to it spots at (source_vars spots (first_of sources)) targets vars terminator ≡ end_clauses it spots at (zip (cases_of terminator) vars) terminator
  end_same end.RetVoid sources targets vars are to = refl
  end_same (end.Ret width value) sources targets vars are to = ap (λ (l : List Source). end_to it spots at (source_vars spots (first_of l)) targets vars (end.Ret width value)) are
  end_same (end.Br label) sources targets vars are to = refl
  end_same (end.CondBr condition when_set when_clear) sources targets vars are to = λ i. end_to it spots at (source_vars spots (first_of (are i))) (to i) vars (end.CondBr condition when_set when_clear)
  end_same (end.Switch width value default cases) sources targets vars are to =
      (λ i. end_to it spots at (source_vars spots (first_of (are i))) (to i) vars (end.Switch width value default cases))
      ∙ ap (λ (middle : List (List Lit)). switch_head ∷ (middle ++ switch_last ∷ [])) (cases_same (source_vars spots (source_at it.func value)).number cases vars)
    where
      switch_head : List Lit
      switch_head = not_poison (block_var spots at) (source_vars spots (source_at it.func value))

      switch_last : List Lit
      switch_last = default_clause (block_var spots at) (zip cases vars) (edge_to it spots at (place_with it.func default))
  end_same end.Unreachable sources targets vars are to = refl

-- the variables of the cases as the code takes them
pub case_ons : (cases : List Case) (vars : List ℕ) → length cases ≤ length vars → map is_on (take (length cases) vars) ≡ map (λ (case : Case × ℕ). is_on case.1) (zip cases vars)
case_ons [] vars few = refl
case_ons (case ∷ cases) [] few = absurd (omega (arith, few))
case_ons (case ∷ cases) (var ∷ vars) few = ap (λ (rest : List Lit). is_on var ∷ rest) (case_ons cases vars (omega (arith, few)))

-- ---- positions and places

module _ (it : SoundFunc) (sound : IsSound it) (at place : ℕ) (block : Block) (within : at < length it.flow.order) (is : place ≡ place_at it at) (low : place < length it.func.blocks) (read : block ≡ get_or it.func.blocks place block) where
  few_items : length block.phis + length block.body < 2 ^ 31
  few_items =
      let one = get_or-le-sum_by (λ (block : Block). length block.phis + length block.body) it.func.blocks place block low in
      let here : length (get_or it.func.blocks place block).phis + length (get_or it.func.blocks place block).body ≡ length block.phis + length block.body = ap (λ (block : Block). length block.phis + length block.body) (sym read) in
      omega (arith, one, here, sound.rules.limits.values)

  pub block_there : IsBlock it at place block
  block_there = record { within = within; place_is = is; low = low; stands = sym read; few = few_items }

  pub block_seen : block_at it at ≡ block
  block_seen = block_is it at place block block_there

-- ---- an assume by its links

pub assume_there : (it : SoundFunc) (spots : PathSpots) (var : ℕ) (what : Item) (instr : Instr) (links : Links) → what ≡ OfInstr instr → AreLinks (values_of it.func) (labels_of it.func) what links → is_assume instr.op ≡ true → assume_clauses it spots var instr.op ≡ assumed var (source_vars spots (first_of links.sources.now))
assume_there it spots var what instr links is linked test =
    let here : AreLinks (values_of it.func) (labels_of it.func) (OfInstr instr) links = subst (λ (item : Item). AreLinks (values_of it.func) (labels_of it.func) item links) is linked in
    an_assume it spots var instr.op links.sources.now test (sources_known it.func links.sources.now (op_operands instr.op) here.sources)

-- ---- cases by their places

pub case_read : (cases : List Case) (targets : List BlockId) (vars : List ℕ) (i : ℕ) (case : Case) (target : BlockId) (var : ℕ) → i < length cases → i < length targets → i < length vars → case ≡ get_or cases i case → target ≡ get_or targets i target → var ≡ get_or vars i var
    → get_or (zip (zip cases (places targets)) vars) i ((case, target.0), var) ≡ ((case, target.0), var)
case_read cases targets vars i case target var low target_low var_low case_is target_is var_is =
    let places_low : i < length (places targets) = omega (arith, target_low, length-map targets (λ (block : BlockId). block.0)) in
    let pair_low : i < length (zip cases (places targets)) = zip_low cases (places targets) i low places_low in
    let place : get_or (places targets) i target.0 ≡ target.0 = get_or-map (λ (block : BlockId). block.0) targets i target target.0 target_low ∙ ap (λ (block : BlockId). block.0) (sym target_is) in
    let inner : get_or (zip cases (places targets)) i (case, target.0) ≡ (case, target.0) = get_or-zip cases (places targets) i (case, target.0) low places_low ∙ (λ j. (sym case_is j, place j)) in
    get_or-zip (zip cases (places targets)) vars i ((case, target.0), var) pair_low var_low ∙ (λ j. (inner j, sym var_is j))

pub cases_length : (it : SoundFunc) (spots : PathSpots) (at number : ℕ) (pairs : List ((Case × ℕ) × ℕ)) → length (flat_map (case_to it spots at number) pairs) ≡ 4 * length pairs
cases_length it spots at number [] = refl
cases_length it spots at number (pair ∷ pairs) = omega (arith, cases_length it spots at number pairs)

pub pairs_length : (cases : List Case) (targets vars : List ℕ) → length targets ≡ length cases → length cases ≤ length vars → length (zip (zip cases targets) vars) ≡ length cases
pairs_length cases targets vars same few =
    let inner : length (zip cases targets) ≡ length cases = length_zip cases targets (omega (arith, same)) in
    length_zip (zip cases targets) vars (omega (arith, inner, few)) ∙ inner

-- ---- the clause of the default

pub default_known : (vars rows block edge : ℕ) (ons : List ℕ) → block < vars → All (λ var. var < vars) ons → edge < vars → All (λ lit. Exists vars rows lit.term) (is_off block ∷ (map is_on ons ++ is_on edge ∷ []))
default_known vars rows block edge ons low known edge_low =
    All-cons (λ (lit : Lit). Exists vars rows lit.term) (is_off block) (map is_on ons ++ is_on edge ∷ []) low
    (All-append (λ (lit : Lit). Exists vars rows lit.term) (map is_on ons) (is_on edge ∷ []) (All-map (λ (lit : Lit). Exists vars rows lit.term) is_on ons known) (All-cons (λ (lit : Lit). Exists vars rows lit.term) (is_on edge) [] edge_low (All-nil (λ (lit : Lit). Exists vars rows lit.term))))

inner_zero : IsInner (pos 0)
inner_zero = record { above_least = omega (arith, ints); below_greatest = omega (arith, ints) }

inner_one : IsInner (pos 1)
inner_one = record { above_least = omega (arith, ints); below_greatest = omega (arith, ints) }

pub default_inner : (block edge : ℕ) (ons : List ℕ) → All (λ lit. IsInner lit.bound) (is_off block ∷ (map is_on ons ++ is_on edge ∷ []))
default_inner block edge ons =
    All-cons (λ (lit : Lit). IsInner lit.bound) (is_off block) (map is_on ons ++ is_on edge ∷ []) inner_zero
    (All-append (λ (lit : Lit). IsInner lit.bound) (map is_on ons) (is_on edge ∷ []) (All-map (λ (lit : Lit). IsInner lit.bound) is_on ons (λ k d low. inner_one)) (All-cons (λ (lit : Lit). IsInner lit.bound) (is_on edge) [] inner_one (All-nil (λ (lit : Lit). IsInner lit.bound))))

-- ---- stages of a switch, and of the start

abbrev clauses_of : System → List (List Lit) → System
clauses_of old clauses = record old { clauses = clauses }

pub switch_stages : (old one two new : System) (head last lits : List Lit) (middle : List (List Lit)) → lits ≡ last
    → one ≡ record old { clauses = old.clauses ++ clause_of head ∷ [] } → two ≡ record one { clauses = one.clauses ++ map clause_of middle } → new ≡ record two { clauses = two.clauses ++ clause_of lits ∷ [] }
    → new ≡ record old { clauses = old.clauses ++ map clause_of (head ∷ (middle ++ last ∷ [])) }
switch_stages old one two new head last lits middle same first second third =
    third
    ∙ ap (λ (l : List Lit). clauses_of two (two.clauses ++ clause_of l ∷ [])) same
    ∙ ap {A = System} (λ s. record s { clauses = s.clauses ++ clause_of last ∷ [] }) (second ∙ ap {A = System} (λ s. record s { clauses = s.clauses ++ map clause_of middle }) first)
    ∙ ap (clauses_of old)
    (append_assoc (old.clauses ++ clause_of head ∷ []) (map clause_of middle) (clause_of last ∷ [])
    ∙ append_assoc old.clauses (clause_of head ∷ []) (map clause_of middle ++ clause_of last ∷ [])
    ∙ ap (λ (behind : List (List Lit)). old.clauses ++ clause_of head ∷ behind) (sym (map-append clause_of middle (last ∷ []))))

pub two_stages : (old one new : System) (front back : List (List Lit)) → one ≡ record old { clauses = old.clauses ++ map clause_of front } → new ≡ record one { clauses = one.clauses ++ map clause_of back } → new ≡ record old { clauses = old.clauses ++ map clause_of (front ++ back) }
two_stages old one new front back first second =
    second
    ∙ ap {A = System} (λ s. record s { clauses = s.clauses ++ map clause_of back }) first
    ∙ ap (clauses_of old) (append_assoc old.clauses (map clause_of front) (map clause_of back) ∙ ap (λ (behind : List (List Lit)). old.clauses ++ behind) (sym (map-append clause_of front back)))

pub places_drop : (targets : List BlockId) → places (drop 1 targets) ≡ drop 1 (places targets)
places_drop [] = refl
places_drop (target ∷ []) = refl
places_drop (target ∷ next ∷ targets) = refl

pub first_place : (targets : List BlockId) → (get_or targets 0 (block_id 0)).0 ≡ get_or (places targets) 0 0
first_place [] = refl
first_place (target ∷ targets) = refl
