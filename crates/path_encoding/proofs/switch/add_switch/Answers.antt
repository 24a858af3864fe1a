use Rattle.std.proofs.Common.{◌≡◌, ◌<◌, ◌++◌, ◌∷◌, [], ◌∙◌, ℕ, List, length, take, drop, map, sym, ap, subst, arith}
use Rattle.std.specs.Prelude.{zip, flat_map, slice_index}
use Rattle.std.specs.List.{All}
use Rattle.std.proofs.lemmas.List.{length-map, length-drop, length-append, get_or_default}
use Rattle.std.proofs.lemmas.List.Elements.{All-take}
use Rattle.mix_system.specs.declared.literal.Lit.{Lit}
use Rattle.mix_system.specs.System.{System, Exists}
use Rattle.ll_links.specs.declared.link.BlockId.{BlockId}
use Rattle.wrap_rows.specs.Normal.{clause_of}
use Rattle.path_encoding.specs.Spots.{block_var, edge_to}
use Rattle.path_encoding.specs.Ends.{is_off, is_on, not_poison, default_clause}
use Rattle.path_encoding.specs.Resolved.{places, case_to}
use Rattle.path_encoding.proofs.KnownLaws.{edge_known}
use Rattle.path_encoding.proofs.ResolvedLaws.{case_ons, cases_length, pairs_length, default_known, default_inner, places_drop, first_place, switch_stages}
use Rattle.path_encoding.proofs.switch.add_switch.Goals as goal

pub add_cases-requires-clause-room : goal.add_cases-requires-clause-room
add_cases-requires-clause-room c =
    let targets = drop 1 (places c.args.targets.now) in
    let f = case_to c.args.sound.now c.args.spots.now c.args.leaving.at c.args.leaving.value.number in
    let pairs = zip (zip c.args.cases.now targets) c.args.vars.now in
    let size = length-map c.args.targets.now (λ (block : BlockId). block.0) in
    let count = pairs_length c.args.cases.now targets c.args.vars.now (omega (arith, size, length-drop 1 (places c.args.targets.now), c.requires.targets)) c.requires.each in
    let middle = cases_length c.args.sound.now c.args.spots.now c.args.leaving.at c.args.leaving.value.number pairs in
    let first = ap {A = System} (λ s. length s.clauses) c.in_ok-add_not_poison.ensures in
    omega (arith, first, length-append c.args.into.now.clauses, count, middle, length-append (flat_map f pairs), c.requires.room)

pub add_lits-requires-clause-known : goal.add_lits-requires-clause-known
add_lits-requires-clause-known c =
    let vars = length c.args.into.now.ranges in
    let mine = c.split_at-2.result.0.now in
    let two = c.add_cases.new.into in
    let same : vars ≡ length two.ranges = sym (ap {A = System} (λ s. length s.ranges) c.in_ok-add_cases.ensures ∙ ap {A = System} (λ s. length s.ranges) c.in_ok-add_not_poison.ensures) in
    let at_low : c.args.leaving.at < length c.args.spots.now.blocks.items = omega (arith, c.requires.at, c.requires.spots.blocks) in
    let block_low : c.index-block.result.now < vars = subst (λ (n : ℕ). n < vars) (sym c.index-block.ensures) (c.requires.known.blocks c.args.leaving.at c.index-block.result.now at_low) in
    let edge_low : c.edge_to-default.result < vars = subst (λ (n : ℕ). n < vars) (sym c.edge_to-default.ensures) (edge_known vars c.args.sound.now c.args.spots.now c.args.leaving.at _ c.requires.known) in
    let known : All (λ var. var < vars) mine = subst (All (λ (var : ℕ). var < vars)) (sym c.split_at-2.ensures.front) (All-take (λ (var : ℕ). var < vars) (length c.args.cases.now) c.args.vars.now c.requires.vars) in
    rw (c.as_slice-clause.ensures.value ∙ c.in_ok-lits.ensures)
    (subst (λ (n : ℕ). All (λ (lit : Lit). Exists n (length two.rows) lit.term) (is_off c.index-block.result.now ∷ (map is_on mine ++ is_on c.edge_to-default.result ∷ []))) same (default_known vars (length two.rows) c.index-block.result.now c.edge_to-default.result mine block_low known edge_low))

pub add_lits-requires-clause-inner : goal.add_lits-requires-clause-inner
add_lits-requires-clause-inner c = rw (c.as_slice-clause.ensures.value ∙ c.in_ok-lits.ensures) (default_inner c.index-block.result.now c.edge_to-default.result c.split_at-2.result.0.now)

pub returns : goal.returns
returns c =
    let it = c.args.sound.now in
    let spots = c.args.spots.now in
    let at = c.args.leaving.at in
    let value = c.args.leaving.value in
    let old = c.args.into.now in
    let one = c.add_not_poison.new.into in
    let two = c.add_cases.new.into in
    let new = c.add_lits.new.into in
    let cases = c.args.cases.now in
    let vars = c.args.vars.now in
    let mine = c.split_at-2.result.0.now in
    let targets = drop 1 (places c.args.targets.now) in
    let block : c.index-block.result.now ≡ block_var spots at = c.index-block.ensures ∙ get_or_default spots.blocks.items at c.index-block.result.now 0 (omega (arith, c.requires.at, c.requires.spots.blocks)) in
    let others : places c.split_at.result.1.now ≡ targets = ap places c.split_at.ensures.back ∙ places_drop c.args.targets.now in
    let default : c.edge_to-default.result ≡ edge_to it spots at (slice_index (places c.args.targets.now) 0) = c.edge_to-default.ensures ∙ ap (edge_to it spots at) (ap (λ (b : BlockId). b.0) c.block_named-first.ensures ∙ first_place c.args.targets.now) in
    let front : mine ≡ take (length cases) vars = c.split_at-2.ensures.front in
    let lits : c.as_slice-clause.result.now ≡ default_clause (block_var spots at) (zip cases vars) (edge_to it spots at (slice_index (places c.args.targets.now) 0)) =
    c.as_slice-clause.ensures.value ∙ c.in_ok-lits.ensures ∙ (λ i. is_off (block i) ∷ (map is_on (front i) ++ is_on (default i) ∷ [])) ∙ ap (λ (ons : List Lit). is_off (block_var spots at) ∷ (ons ++ is_on (edge_to it spots at (slice_index (places c.args.targets.now) 0)) ∷ [])) (case_ons cases vars c.requires.each) in
    let first : one ≡ record old { clauses = old.clauses ++ clause_of (not_poison (block_var spots at) value) ∷ [] } = c.in_ok-add_not_poison.ensures ∙ ap (λ (b : ℕ). record old { clauses = old.clauses ++ clause_of (not_poison b value) ∷ [] }) block in
    let second : two ≡ record one { clauses = one.clauses ++ map clause_of (flat_map (case_to it spots at value.number) (zip (zip cases targets) vars)) } = c.in_ok-add_cases.ensures ∙ ap (λ (to : List ℕ). record one { clauses = one.clauses ++ map clause_of (flat_map (case_to it spots at value.number) (zip (zip cases to) vars)) }) others in
    switch_stages old one two new (not_poison (block_var spots at) value) (default_clause (block_var spots at) (zip cases vars) (edge_to it spots at (slice_index (places c.args.targets.now) 0))) c.as_slice-clause.result.now (flat_map (case_to it spots at value.number) (zip (zip cases targets) vars)) lits first second c.in_ok-add_lits.ensures.ok
