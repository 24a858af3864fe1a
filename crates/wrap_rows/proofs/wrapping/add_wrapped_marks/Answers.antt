use Rattle.std.proofs.Common.{◌≡◌, ◌-◌, ◌^◌, pos, negsuc, neg_ℤ, ◌-ℤ◌, length, rules, ap, sym, subst, arith}
use Rattle.std.specs.Prelude.{All}
use Rattle.mix_system.specs.declared.literal.Term.TheVariants.{Var, Row}
use Rattle.mix_system.specs.Lit.{negation}
use Rattle.mix_system.specs.System.{Exists, IsInner}
use Rattle.wrap_rows.specs.Layout.{at_most, at_least}
use Rattle.wrap_rows.specs.Wrapping.{literals}
use Rattle.wrap_rows.proofs.WrappedLaws.{literals_are, literals_known, literals_inner, literals_opposite, marks_count}
use Rattle.wrap_rows.proofs.wrapping.add_wrapped_marks.Goals as goal

pub add_marks-requires : goal.add_marks-requires
add_marks-requires c =
    let wrapped = c.args.wrapped in
    let half = 2 ^ (wrapped.width - 1) in
    let a : c.at_least.result ≡ at_least (Var wrapped.carry) (pos 1) = search rules in
    let b : c.at_most.result ≡ at_most (Var wrapped.carry) (negsuc 0) = search rules in
    let t : c.at_least-2.result ≡ at_least (Row wrapped.row) (pos half) = search rules in
    let u : c.below_signed.result ≡ at_most (Row wrapped.row) (neg_ℤ (pos half) -ℤ pos 1) = search rules in
    let is : c.listed-listed.result.now ≡ literals wrapped = literals_are wrapped c.at_least.result c.at_most.result c.at_least-2.result c.below_signed.result c.listed-listed.result.now c.listed-listed.ensures a b t u in
    let vars = length c.args.into.now.ranges in
    let rows = length c.args.into.now.rows in
    record {
      mark = c.requires.mark;
      operands = c.requires.operands;
      known = subst (λ lits. All (λ lit. Exists vars rows lit.term) lits) (sym is) (literals_known wrapped vars rows c.requires.carry c.requires.row);
      inner = subst (λ lits. All (λ lit. IsInner lit.bound) lits) (sym is) (literals_inner wrapped c.requires.width);
      opposite = subst (λ lits. All (λ lit. IsInner (negation lit).bound) lits) (sym is) (literals_opposite wrapped c.requires.width);
      room = omega (arith, c.requires.room, ap length is, marks_count c.args.mark c.args.operands.now (literals wrapped));
    }

pub returns : goal.returns
returns c =
    let wrapped = c.args.wrapped in
    let half = 2 ^ (wrapped.width - 1) in
    let a : c.at_least.result ≡ at_least (Var wrapped.carry) (pos 1) = search rules in
    let b : c.at_most.result ≡ at_most (Var wrapped.carry) (negsuc 0) = search rules in
    let t : c.at_least-2.result ≡ at_least (Row wrapped.row) (pos half) = search rules in
    let u : c.below_signed.result ≡ at_most (Row wrapped.row) (neg_ℤ (pos half) -ℤ pos 1) = search rules in
    let is : c.listed-listed.result.now ≡ literals wrapped = literals_are wrapped c.at_least.result c.at_most.result c.at_least-2.result c.below_signed.result c.listed-listed.result.now c.listed-listed.ensures a b t u in
    rw is at c.add_marks.ensures
