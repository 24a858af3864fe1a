-- The stages in which the layout of paths is laid.
use Rattle.std.proofs.Common.{◌≡◌, ◌-◌, ◌++◌, ◌∙◌, ℕ, List, length, map, append_assoc, sym, ap, arith}
use Rattle.std.proofs.lemmas.List.{length-map, length-append, map-append}
use Rattle.mix_system.specs.declared.literal.Lit.{Lit}
use Rattle.mix_system.specs.declared.row.Part.{Part}
use Rattle.mix_system.specs.System.{System}
use Rattle.ll_verifier.specs.Sound.{SoundFunc}
use Rattle.wrap_rows.specs.Layout.{clause_from}
use Rattle.wrap_rows.specs.Normal.{row_of, clause_of}
use Rattle.wrap_rows.specs.Piece.{Lays}
use Rattle.path_encoding.specs.declared.spots.PathSpots.{PathSpots}
use Rattle.path_encoding.specs.FlowRows.{in_rows, out_rows, flow_rows}
use Rattle.path_encoding.specs.PathLayout.{start_clauses, flow_clauses, visit_clauses, path_layout}
use Rattle.path_encoding.proofs.KnownLaws.{start_over, visits_over, laid_same}

abbrev with_both : System → List (List Part) → List (List Lit) → System
with_both old rows clauses = record old { rows = rows; clauses = clauses }

module _ (it : SoundFunc) (spots : PathSpots) (old one two three four new : System)
    (first : one ≡ record old { rows = old.rows ++ map row_of (in_rows it spots) })
    (second : two ≡ record one { rows = one.rows ++ map row_of (out_rows it spots) }) where
  rows_are : two ≡ record old { rows = old.rows ++ map row_of (flow_rows it spots) }
  rows_are =
      second
      ∙ ap {A = System} (λ s. record s { rows = s.rows ++ map row_of (out_rows it spots) }) first
      ∙ ap (λ (rows : List (List Part)). record old { rows = rows })
      (append_assoc old.rows (map row_of (in_rows it spots)) (map row_of (out_rows it spots)) ∙ ap (λ (behind : List (List Part)). old.rows ++ behind) (sym (map-append row_of (in_rows it spots) (out_rows it spots))))

  -- so many rows stand behind those that were there
  pub count_is : length two.rows - length old.rows ≡ length (flow_rows it spots)
  count_is =
      let all = ap {A = System} (λ s. length s.rows) rows_are in
      omega (arith, all, length-append old.rows (map row_of (flow_rows it spots)), length-map (flow_rows it spots) row_of)

  module _ (third : three ≡ record two { clauses = two.clauses ++ map clause_of (start_clauses it spots) })
      (fourth : four ≡ record three { clauses = three.clauses ++ map (clause_from (length old.rows)) (flow_clauses (length three.rows - length old.rows)) })
      (last : new ≡ record four { clauses = four.clauses ++ map clause_of (visit_clauses it spots) }) where
    same_count : length three.rows - length old.rows ≡ length (flow_rows it spots)
    same_count = ap {A = System} (λ s. length s.rows - length old.rows) third ∙ count_is

    pub layout_stages : Lays (path_layout it spots) old new
    layout_stages =
        let g = clause_from (length old.rows) in
        let start = start_clauses it spots in
        let flow = flow_clauses (length (flow_rows it spots)) in
        let visit = visit_clauses it spots in
        last
        ∙ ap {A = System} (λ s. record s { clauses = s.clauses ++ map clause_of visit }) (fourth ∙ ap (λ (n : ℕ). record three { clauses = three.clauses ++ map g (flow_clauses n) }) same_count)
        ∙ ap {A = System} (λ s. record s { clauses = (s.clauses ++ map g flow) ++ map clause_of visit }) third
        ∙ ap {A = System} (λ s. record s { clauses = ((s.clauses ++ map clause_of start) ++ map g flow) ++ map clause_of visit }) rows_are
        ∙ ap (λ (clauses : List (List Lit)). with_both old (old.rows ++ map row_of (flow_rows it spots)) clauses)
        (append_assoc (old.clauses ++ map clause_of start) (map g flow) (map clause_of visit)
        ∙ append_assoc old.clauses (map clause_of start) (map g flow ++ map clause_of visit)
        ∙ ap (λ (behind : List (List Lit)). old.clauses ++ behind)
        ((λ i. sym (laid_same (length old.rows) start (start_over it spots)) i ++ (map g flow ++ sym (laid_same (length old.rows) visit (visits_over it spots)) i))
        ∙ ap (λ (behind : List (List Lit)). map g start ++ behind) (sym (map-append g flow visit))
        ∙ sym (map-append g start (flow ++ visit))))

-- so many rows from the first on, before their clauses are laid
pub same_rows : (it : SoundFunc) (spots : PathSpots) (old one two three : System) (start : ℕ) → one ≡ record old { rows = old.rows ++ map row_of (in_rows it spots) } → two ≡ record one { rows = one.rows ++ map row_of (out_rows it spots) }
    → three ≡ record two { clauses = two.clauses ++ map clause_of (start_clauses it spots) } → start ≡ length old.rows → length three.rows - start ≡ length (flow_rows it spots)
same_rows it spots old one two three start first second third same =
    ap (λ (n : ℕ). length three.rows - n) same ∙ ap {A = System} (λ s. length s.rows - length old.rows) third ∙ count_is it spots old one two three three three first second
