use Rattle.std.proofs.Common.{◌∙◌, sym, ap, pos, length, get_or, arith}
use Rattle.std.proofs.lemmas.List.{take_all}
use Rattle.mix_system.specs.System.{IsInner, Exists}
use Rattle.mix_system.specs.declared.literal.Term.TheVariants.{Var}
use Rattle.wrap_rows.specs.Layout.{at_most}
use Rattle.wrap_rows.specs.Normal.{with_lit, clause_of}
use Rattle.wrap_rows.proofs.CaseLaws.{Each-from_All}
use Rattle.wrap_rows.proofs.ClauseLaws.{clause_of-none, clause_of-more, clause_of-IsClause}
use Rattle.wrap_rows.proofs.normal.add_lits.Goals as goal

pub loop-lit-init : goal.loop-lit-init
loop-lit-init c = c.new-clause.ensures.items ∙ sym clause_of-none

pub loop-lit-preserved : goal.loop-lit-preserved
loop-lit-preserved c =
    let lits = c.args.lits.now in
    let i = c.loop-lit.lit-index in
    c.in_ok-push_new.ensures
    ∙ ap (λ clause. with_lit clause (get_or lits i (at_most (Var 0) (pos 0)))) c.loop-lit.invariant
    ∙ sym (clause_of-more lits i (at_most (Var 0) (pos 0)) c.loop-lit-test.true)

pub add_clause-requires-clause-clause : goal.add_clause-requires-clause-clause
add_clause-requires-clause-clause c =
    let lits = c.args.lits.now in
    rw (c.as_slice.ensures ∙ c.loop-lit.invariant ∙ ap clause_of (take_all c.loop-lit.lit-index lits (omega arith)))
    (clause_of-IsClause _ _ lits (Each-from_All (λ lit. Exists (length c.args.into.now.ranges) (length c.args.into.now.rows) lit.term) lits c.requires.known) (Each-from_All (λ lit. IsInner lit.bound) lits c.requires.inner))
