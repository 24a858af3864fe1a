-- Taking blocks one after another.
use Rattle.std.proofs.Common.{◌≡◌, ◌<◌, ◌≤◌, ◌+◌, ⊎_elim, ℕ, Bool, true, false, cond, List, [], ◌∷◌, ◌++◌, length, get_or, set, take, replicate, sym, ◌∙◌, ap, arith, subst, get_or-set_same, get_or-set_other, length-set}
use Rattle.std.specs.List.{All, Contains, sum_by}
use Rattle.std.proofs.lemmas.List.{length-replicate, get_or-replicate, get_or_past, get_or_default, get_or_append_left, take-append-le, length_push}
use Rattle.std.proofs.Math.Seq.{take-append_seam, get_or-append_seam}
use Rattle.std.proofs.lemmas.List.Folds.{sum_by-replicate}
use Rattle.std.proofs.lemmas.List.Sums.{sum_by-le, sum_by-set}
use Rattle.std.proofs.lemmas.List.Elements.{Contains-append_left, Contains-push, Contains-push_cases}
use Rattle.std.proofs.lemmas.Bool.{false≢true, true≢false, cases_eq, cases_lt, cases_Bool}
use Rattle.flow_graph.specs.declared.edge.Edge.{Edge}
use Rattle.block_order.specs.Marks.{IsFirstFree}
use Rattle.block_order.specs.Order.{IsNext, IsKeptOrder}

abbrev pub IsWithin : ℕ → Edge → Type 0
IsWithin blocks edge = (edge.from < blocks) × (edge.to < blocks)

-- 1 for a block that is left
abbrev pub left_mark : Bool → ℕ
left_mark mark = cond mark 0 1

-- how many blocks are left
abbrev pub left_of : List Bool → ℕ
left_of marks = sum_by left_mark marks

-- one less is left
left_less : (marks : List Bool) (at : ℕ) → at < length marks → get_or marks at false ≡ false → left_of (set marks at true) + 1 ≡ left_of marks
left_less marks at within is_left =
    let changed = sum_by-set left_mark marks at true false within in
    let was : left_mark (get_or marks at false) ≡ 1 = ap left_mark is_left in
    omega (arith, changed, was)

none_left : (marks : List Bool) → ((block : ℕ) → block < length marks → get_or marks block false ≡ true) → left_of marks ≡ 0
none_left marks all =
    let none : All (λ mark. left_mark mark ≤ 0) marks = λ k d low. let is : get_or marks k d ≡ true = get_or_default marks k d false low ∙ all k low in rw is (omega arith) in
    omega (arith, sum_by-le left_mark 0 marks none)

all_left : (n : ℕ) → left_of (replicate n false) ≡ n
all_left n = sum_by-replicate left_mark n false ∙ omega arith

pub left_falls : (marks : List Bool) (at : ℕ) → at < length marks → get_or marks at false ≡ false → left_of (set marks at true) < left_of marks
left_falls marks at within is_left = omega (arith, left_less marks at within is_left)

-- the marks of the blocks that the order has
pub record Taken (blocks : ℕ) (edges : List Edge) (taken : List Bool) (order : List ℕ) : Type 0 where
  pub size : length taken ≡ blocks
  pub count : length order + left_of taken ≡ blocks
  pub marked : (block : ℕ) → get_or taken block false ≡ true → Contains order block
  pub listed : (block : ℕ) → Contains order block → get_or taken block false ≡ true
  pub next : (k : ℕ) → k < length order → IsNext blocks edges (take k order) (get_or order k 0)

none_marked : (n block : ℕ) → get_or (replicate n false) block false ≡ false
none_marked n block =
    ⊎_elim (λ within. get_or-replicate n block false false within) (λ past. get_or_past (replicate n false) block false (rw (length-replicate n false) past)) (cases_lt block n)

pub taken_first : (blocks : ℕ) (edges : List Edge) (taken : List Bool) (order : List ℕ) → taken ≡ replicate blocks false → order ≡ [] → Taken blocks edges taken order
taken_first blocks edges taken order is_taken is_order = rw (is_taken, is_order) (record {
  size = length-replicate blocks false;
  count = omega (arith, all_left blocks);
  marked = λ block is_marked. absurd (false≢true (sym (none_marked blocks block) ∙ is_marked));
  listed = λ block contains. absurd (omega (arith, contains.1));
  next = λ k low. absurd (omega (arith, low));
})

-- one more block is taken
pub taken_more : (blocks : ℕ) (edges : List Edge) (taken : List Bool) (order : List ℕ) (block : ℕ) → All (IsWithin blocks) edges → Taken blocks edges taken order → IsFirstFree edges taken block → Taken blocks edges (set taken block true) (order ++ block ∷ [])
taken_more blocks edges taken order block within before first =
    let here : IsNext blocks edges order block = record {
      within = omega (arith, first.within, before.size);
      ready = (λ contains. true≢false (sym (before.listed block contains) ∙ first.free.0), λ from edge. before.marked from (first.free.1 from edge));
      least = λ other lower ready. first.least other lower (
        ⊎_elim (λ is_marked. absurd (ready.0 (before.marked other is_marked))) (λ is_left. is_left) (cases_Bool (get_or taken other false)),
        λ from edge. before.listed from (ready.1 from edge),
      );
    } in
    record {
      size = length-set taken block true ∙ before.size;
      count = omega (arith, before.count, length_push order block, left_less taken block first.within first.free.0);
      marked = λ other is_marked.
          ⊎_elim
          (λ same. subst (λ (b : ℕ). Contains (order ++ block ∷ []) b) (sym same) (Contains-push order block))
          (λ apart. Contains-append_left order (block ∷ []) other (before.marked other (sym (get_or-set_other taken block other true false apart) ∙ is_marked)))
          (cases_eq other block);
      listed = λ other contains.
          ⊎_elim
          (λ earlier. ⊎_elim (λ same. rw same (get_or-set_same taken block true false first.within)) (λ apart. get_or-set_other taken block other true false apart ∙ before.listed other earlier) (cases_eq other block))
          (λ same. rw (← same) (get_or-set_same taken block true false first.within))
          (Contains-push_cases order block other contains);
      next = λ k low.
          ⊎_elim
          (λ earlier. rw (take-append-le k order (block ∷ []) (omega (arith, earlier)), get_or_append_left order (block ∷ []) 0 k earlier) (before.next k earlier))
          (λ last. let at : k ≡ length order = omega (arith, last, low, length_push order block) in
          rw (at, take-append_seam order (block ∷ []), get_or-append_seam order block [] 0) here)
          (cases_lt k (length order));
    }

-- all are taken
pub taken_all : (blocks : ℕ) (edges : List Edge) (taken : List Bool) (order : List ℕ) → Taken blocks edges taken order → ((block : ℕ) → block < length taken → get_or taken block false ≡ true) → IsKeptOrder blocks edges order
taken_all blocks edges taken order done all = record {
  next = done.next;
  whole = λ block within. done.marked block (all block (omega (arith, within, done.size)));
}

pub each_taken : (blocks : ℕ) (edges : List Edge) (taken : List Bool) (order : List ℕ) → Taken blocks edges taken order → ((block : ℕ) → block < length taken → get_or taken block false ≡ true) → length order ≡ blocks
each_taken blocks edges taken order done all = omega (arith, done.count, none_left taken all)
