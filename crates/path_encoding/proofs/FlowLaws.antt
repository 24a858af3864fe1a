-- The flow rows that are laid.
use Rattle.std.proofs.Common.{◌≡◌, ◌<◌, ◌≤◌, ◌+◌, ◌-◌, ◌*◌, ℕ, zero, suc, pos, Bool, true, false, cond, List, [], ◌∷◌, ◌++◌, length, map, append-nil, refl, ◌∙◌, ap, arith}
use Rattle.std.specs.Prelude.{zip, flat_map}
use Rattle.std.specs.List.{All, filter, range_with_len}
use Rattle.std.proofs.lemmas.Bool.{cond_both}
use Rattle.std.proofs.lemmas.List.{map-append, length-map}
use Rattle.std.proofs.lemmas.List.FromFn.{length-range_with_len}
use Rattle.mix_system.specs.declared.literal.Lit.{Lit}
use Rattle.mix_system.specs.declared.row.Part.{Part}
use Rattle.ll_verifier.specs.declared.order.PositionEdge.{PositionEdge}
use Rattle.ll_verifier.specs.Sound.{SoundFunc}
use Rattle.wrap_rows.specs.Blocks.{equals}
use Rattle.wrap_rows.specs.Layout.{clause_from}
use Rattle.wrap_rows.specs.Normal.{sizes, row_of, clause_of}
use Rattle.wrap_rows.proofs.CaseLaws.{Each, Each-from_All, All-from_Each}
use Rattle.path_encoding.specs.declared.spots.PathSpots.{PathSpots}
use Rattle.path_encoding.specs.FlowRows.{flow_row, in_row, in_rows}
use Rattle.path_encoding.specs.PathLayout.{flow_clauses}
use Rattle.path_encoding.proofs.LayingLaws.{range_more, range_flat_more}

-- ---- a row's parts

flow_each : (vars block : ℕ) (edges : List (PositionEdge × ℕ)) → Each (λ edge. edge.1 < vars) edges → block < vars → Each (λ part. part.var < vars) (flow_row block edges)
flow_each vars block [] known low = (low, tt)
flow_each vars block (edge ∷ edges) known low = (known.0, flow_each vars block edges known.1 low)

each_kept : (vars : ℕ) (p : PositionEdge × ℕ → Bool) (edges : List (PositionEdge × ℕ)) → Each (λ edge. edge.1 < vars) edges → Each (λ edge. edge.1 < vars) (filter p edges)
each_kept vars p [] known = tt
each_kept vars p (edge ∷ edges) known =
    let rest = each_kept vars p edges known.1 in
    cond_both (p edge) (edge ∷ filter p edges) (filter p edges) (Each (λ (edge : PositionEdge × ℕ). edge.1 < vars)) (λ _. (known.0, rest)) (λ _. rest)

each_pair : (vars : ℕ) (edges : List PositionEdge) (known : List ℕ) → Each (λ var. var < vars) known → Each (λ edge. edge.1 < vars) (zip edges known)
each_pair vars [] known each = tt
each_pair vars (edge ∷ edges) [] each = tt
each_pair vars (edge ∷ edges) (var ∷ known) each = (each.0, each_pair vars edges known each.1)

-- its variables exist
pub flow_known : (vars block : ℕ) (p : PositionEdge × ℕ → Bool) (edges : List PositionEdge) (known : List ℕ) → All (λ var. var < vars) known → block < vars → All (λ part. part.var < vars) (flow_row block (filter p (zip edges known)))
flow_known vars block p edges known each low =
    All-from_Each (λ (part : Part). part.var < vars) (flow_row block (filter p (zip edges known)))
    (flow_each vars block (filter p (zip edges known)) (each_kept vars p (zip edges known) (each_pair vars edges known (Each-from_All (λ (var : ℕ). var < vars) known each))) low)

-- and its coefficients are small
pub flow_sizes : (block : ℕ) (edges : List (PositionEdge × ℕ)) → sizes (flow_row block edges) ≡ length (flow_row block edges)
flow_sizes block [] = refl
flow_sizes block (edge ∷ edges) = omega (arith, flow_sizes block edges)

-- ---- rows one after the other

module _ (f : ℕ → List Part) where
  pub rows_more : (first count : ℕ) → map row_of (map f (range_with_len first (count + 1))) ≡ map row_of (map f (range_with_len first count)) ++ row_of (f (first + count)) ∷ []
  rows_more first count =
      ap (λ (numbers : List ℕ). map row_of (map f numbers)) (range_more first count)
      ∙ ap (map row_of) (map-append f (range_with_len first count) ((first + count) ∷ []))
      ∙ map-append row_of (map f (range_with_len first count)) (f (first + count) ∷ [])

filter_push : (p : ℕ → Bool) (xs : List ℕ) (x : ℕ) → filter p (xs ++ x ∷ []) ≡ filter p xs ++ cond (p x) (x ∷ []) []
filter_push p [] x = refl
filter_push p (y ∷ xs) x =
    elim (p y) as (λ (b : Bool). cond b (y ∷ filter p (xs ++ x ∷ [])) (filter p (xs ++ x ∷ [])) ≡ cond b (y ∷ filter p xs) (filter p xs) ++ cond (p x) (x ∷ []) []) [
      | true ↦ ap (λ (rest : List ℕ). y ∷ rest) (filter_push p xs x)
      | false ↦ filter_push p xs x
    ]

module _ (p : ℕ → Bool) (f : ℕ → List Part) (n : ℕ) where
  kept_more : filter p (range_with_len 0 (n + 1)) ≡ filter p (range_with_len 0 n) ++ cond (p n) (n ∷ []) []
  kept_more =
      let same : 0 + n ≡ n = omega arith in
      ap (filter p) (range_more 0 n ∙ ap (λ (m : ℕ). range_with_len 0 n ++ m ∷ []) same) ∙ filter_push p (range_with_len 0 n) n

  pub kept_rows_more : p n ≡ true → map row_of (map f (filter p (range_with_len 0 (n + 1)))) ≡ map row_of (map f (filter p (range_with_len 0 n))) ++ row_of (f n) ∷ []
  kept_rows_more passes =
      ap (λ (numbers : List ℕ). map row_of (map f numbers)) (kept_more ∙ ap (λ (b : Bool). filter p (range_with_len 0 n) ++ cond b (n ∷ []) []) passes)
      ∙ ap (map row_of) (map-append f (filter p (range_with_len 0 n)) (n ∷ []))
      ∙ map-append row_of (map f (filter p (range_with_len 0 n))) (f n ∷ [])

  pub kept_rows_same : p n ≡ false → map row_of (map f (filter p (range_with_len 0 (n + 1)))) ≡ map row_of (map f (filter p (range_with_len 0 n)))
  kept_rows_same fails =
      ap (λ (numbers : List ℕ). map row_of (map f numbers)) (kept_more ∙ ap (λ (b : Bool). filter p (range_with_len 0 n) ++ cond b (n ∷ []) []) fails ∙ append-nil (filter p (range_with_len 0 n)))

pub filter_few : {X : Type 0} (p : X → Bool) (xs : List X) → length (filter p xs) ≤ length xs
filter_few p [] = omega arith
filter_few {X = X} p (x ∷ xs) =
    cond_both (p x) (x ∷ filter p xs) (filter p xs) (λ (list : List X). length list ≤ length (x ∷ xs)) (λ _. omega (arith, filter_few p xs)) (λ _. omega (arith, filter_few p xs))

-- so many rows at most
pub in_count : (it : SoundFunc) (spots : PathSpots) → length (in_rows it spots) ≡ length it.flow.order - 1
in_count it spots = length-map (range_with_len 1 (length it.flow.order - 1)) (in_row it spots) ∙ length-range_with_len 1 (length it.flow.order - 1)

pub kept_count : (p : ℕ → Bool) (f : ℕ → List Part) (n : ℕ) → length (map f (filter p (range_with_len 0 n))) ≤ n
kept_count p f n = omega (arith, length-map (filter p (range_with_len 0 n)) f, filter_few p (range_with_len 0 n), length-range_with_len 0 n)

-- ---- their clauses

flow_count_from : (first count : ℕ) → length (flat_map (λ row. equals row (pos 0)) (range_with_len first count)) ≡ 2 * count
flow_count_from first zero = refl
flow_count_from first (suc count) = omega (arith, flow_count_from (first + 1) count)

pub flow_count : (rows : ℕ) → length (flow_clauses rows) ≡ 2 * rows
flow_count rows = flow_count_from 0 rows

raised_equation : (first row : ℕ) → map (clause_from first) (equals row (pos 0)) ≡ map clause_of (equals (first + row) (pos 0))
raised_equation first zero = let same : first ≡ first + 0 = omega arith in ap (λ (row : ℕ). map clause_of (equals row (pos 0))) same
raised_equation first (suc row) = refl

pub equations_more : (first row : ℕ) → map (clause_from first) (flow_clauses (row + 1)) ≡ map (clause_from first) (flow_clauses row) ++ map clause_of (equals (first + row) (pos 0))
equations_more first row =
    range_flat_more (clause_from first) (λ (row : ℕ). equals row (pos 0)) row
    ∙ ap (λ (last : List (List Lit)). map (clause_from first) (flow_clauses row) ++ last) (raised_equation first row)
