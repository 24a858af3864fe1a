-- A row of marks behind the others.
use Rattle.std.proofs.Common.{◌≡◌, ◌<◌, ◌+◌, ⊎_elim, ℕ, Bool, List, [], ◌∷◌, ◌++◌, length, get_or, ◌∙◌, arith, subst}
use Rattle.std.proofs.lemmas.List.{get_or_append_left, length_push}
use Rattle.std.proofs.lemmas.Bool.{cases_lt}
use Rattle.std.proofs.Math.Seq.{get_or-append_seam}
use Rattle.flow_graph.specs.declared.edge.Edge.{Edge}
use Rattle.flow_graph.specs.Paths.{AreMarks}
use Rattle.flow_rules.specs.Stored.{row_at, AreRows}

-- what is reached around a block
pub record IsRow (edges : List Edge) (entry blocks without : ℕ) (row : List Bool) : Type 0 where
  pub size : length row ≡ blocks
  pub marks : AreMarks edges entry without row

-- the first rows
pub record FirstRows (edges : List Edge) (entry blocks count : ℕ) (rows : List (List Bool)) : Type 0 where
  pub size : length rows ≡ count
  pub each : (without : ℕ) → without < count → IsRow edges entry blocks without (row_at rows without)

pub one_more_row : (edges : List Edge) (entry blocks count : ℕ) (rows : List (List Bool)) (row : List Bool) → FirstRows edges entry blocks count rows → length row ≡ blocks → AreMarks edges entry count row → FirstRows edges entry blocks (count + 1) (rows ++ row ∷ [])
one_more_row edges entry blocks count rows row before size marks = record {
  size = omega (arith, before.size, length_push rows row);
  each = λ without low.
      ⊎_elim
      (λ earlier. rw (get_or_append_left rows (row ∷ []) [] without (omega (arith, earlier, before.size))) (before.each without earlier))
      (λ last. let at : without ≡ length rows = omega (arith, last, low, before.size) in
      let here : get_or (rows ++ row ∷ []) without [] ≡ row = rw at (get_or-append_seam rows row [] []) in
      let count_is : count ≡ without = omega (arith, last, low) in
      rw here (record { size = size; marks = subst (λ (n : ℕ). AreMarks edges entry n row) count_is marks }))
      (cases_lt without count);
}

pub all_rows : (edges : List Edge) (entry blocks count : ℕ) (rows : List (List Bool)) → count ≡ blocks + 1 → FirstRows edges entry blocks count rows → AreRows edges entry blocks rows
all_rows edges entry blocks count rows is whole = record {
  count = whole.size ∙ is;
  sizes = λ without low. (whole.each without (omega (arith, is, low))).size;
  marks = λ without low. (whole.each without (omega (arith, is, low))).marks;
}
