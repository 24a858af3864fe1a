use Rattle.std.proofs.Common.{◌≡◌, ◌++◌, ◌∷◌, [], ◌∙◌, ℕ, map, ap, arith}
use Rattle.std.specs.Prelude.{zip, flat_map}
use Rattle.std.proofs.lemmas.List.{get_or_default}
use Rattle.mix_system.specs.declared.literal.Lit.{Lit}
use Rattle.ll_tree.specs.declared.func.Func.{Func}
use Rattle.wrap_rows.specs.Normal.{clause_of}
use Rattle.path_encoding.specs.Spots.{block_var}
use Rattle.path_encoding.specs.Ends.{is_on}
use Rattle.path_encoding.specs.PathLayout.{strict_clauses}
use Rattle.path_encoding.proofs.ResolvedLaws.{two_stages}
use Rattle.path_encoding.proofs.laying.add_start.Goals as goal

pub returns : goal.returns
returns c =
    let it = c.args.sound.now in
    let spots = c.args.spots.now in
    let old = c.args.into.now in
    let one = c.add_lits.new.into in
    let entry : c.index-entry.result.now ≡ block_var spots 0 = c.index-entry.ensures ∙ get_or_default spots.blocks.items 0 c.index-entry.result.now 0 (omega (arith, c.requires.some, c.requires.spots.blocks)) in
    let first : one ≡ record old { clauses = old.clauses ++ map clause_of ((is_on (block_var spots 0) ∷ []) ∷ []) } =
    c.in_ok-add_lits.ensures.ok ∙ ap (λ (lit : Lit). record old { clauses = old.clauses ++ clause_of (lit ∷ []) ∷ [] }) c.is_on.ensures ∙ ap (λ (n : ℕ). record old { clauses = old.clauses ++ clause_of (is_on n ∷ []) ∷ [] }) entry in
    let params : c.items-params.result.now ≡ it.func.params = c.items-params.ensures ∙ ap (λ (func : Func). func.params) c.func.ensures.func in
    let values : c.as_slice-values.result.now ≡ spots.values.items = c.as_slice-values.ensures.value in
    let second : c.add_strict.new.into ≡ record one { clauses = one.clauses ++ map clause_of (flat_map strict_clauses (zip it.func.params spots.values.items)) } =
    c.in_ok-add_strict.ensures ∙ (λ i. record one { clauses = one.clauses ++ map clause_of (flat_map strict_clauses (zip (params i) (values i))) }) in
    two_stages old one c.add_strict.new.into ((is_on (block_var spots 0) ∷ []) ∷ []) (flat_map strict_clauses (zip it.func.params spots.values.items)) first second
