use Rattle.std.proofs.Common.{◌≡◌, ◌+◌, pos, length, rules, refl, ap, ◌∙◌, sym, subst, arith, length-append}
use Rattle.std.specs.Prelude.{All, false, map}
use Rattle.mix_system.specs.declared.literal.Term.TheVariants.{Var}
use Rattle.mix_system.specs.Lit.{negation}
use Rattle.mix_system.specs.System.{System, Exists, IsInner}
use Rattle.wrap_rows.specs.Normal.{clause_of}
use Rattle.wrap_rows.specs.Layout.{at_least}
use Rattle.wrap_rows.specs.Blocks.{equals}
use Rattle.wrap_rows.proofs.ReadLaws.{not_both}
use Rattle.wrap_rows.proofs.RangedLaws.{on_ok}
use Rattle.wrap_rows.proofs.TruncLaws.{literals_plain, literals_known, literals_inner, literals_opposite, plain_count, lays_plain}
use Rattle.wrap_rows.proofs.trunc.Trunc.lay_plain.Goals as goal

pub add_marks-requires-clause-known : goal.add_marks-requires-clause-known
add_marks-requires-clause-known c =
    let trunc = c.args.self.now in
    let nuw = trunc.flags.nuw in
    let first = c.args.first in
    let carry = first + 1 + 1 in
    let old = c.args.into.now in
    let one = c.add_carry.new.into in
    let a : c.at_least.result ≡ at_least (Var carry) (pos 1) = search rules in
    let is = literals_plain nuw trunc.flags.nsw trunc carry 2 c.at_least.result c.listed-listed.result.now c.requires.unsigned c.listed-listed.ensures a in
    let same : length one.ranges ≡ length old.ranges = ap {A = System} (λ s. length s.ranges) c.in_ok-add_carry.ensures in
    subst (λ lits. All (λ lit. Exists (length one.ranges) (length one.rows) lit.term) lits) (sym is)
    (literals_known nuw false trunc carry 2 (length one.ranges) (length one.rows) (omega (arith, same, c.requires.known)) (λ set. absurd (not_both false set refl)))

pub add_marks-requires-clause-inner : goal.add_marks-requires-clause-inner
add_marks-requires-clause-inner c =
    let trunc = c.args.self.now in
    let nuw = trunc.flags.nuw in
    let first = c.args.first in
    let carry = first + 1 + 1 in
    let old = c.args.into.now in
    let one = c.add_carry.new.into in
    let a : c.at_least.result ≡ at_least (Var carry) (pos 1) = search rules in
    let is = literals_plain nuw trunc.flags.nsw trunc carry 2 c.at_least.result c.listed-listed.result.now c.requires.unsigned c.listed-listed.ensures a in
    subst (λ lits. All (λ lit. IsInner lit.bound) lits) (sym is) (literals_inner nuw false trunc carry 2 c.requires.at.to)

pub add_marks-requires-clause-opposite : goal.add_marks-requires-clause-opposite
add_marks-requires-clause-opposite c =
    let trunc = c.args.self.now in
    let nuw = trunc.flags.nuw in
    let first = c.args.first in
    let carry = first + 1 + 1 in
    let old = c.args.into.now in
    let one = c.add_carry.new.into in
    let a : c.at_least.result ≡ at_least (Var carry) (pos 1) = search rules in
    let is = literals_plain nuw trunc.flags.nsw trunc carry 2 c.at_least.result c.listed-listed.result.now c.requires.unsigned c.listed-listed.ensures a in
    subst (λ lits. All (λ lit. IsInner (negation lit).bound) lits) (sym is) (literals_opposite nuw false trunc carry 2 c.requires.at.to)

pub add_marks-requires-clause-room : goal.add_marks-requires-clause-room
add_marks-requires-clause-room c =
    let trunc = c.args.self.now in
    let nuw = trunc.flags.nuw in
    let first = c.args.first in
    let carry = first + 1 + 1 in
    let old = c.args.into.now in
    let one = c.add_carry.new.into in
    let a : c.at_least.result ≡ at_least (Var carry) (pos 1) = search rules in
    let is = literals_plain nuw trunc.flags.nsw trunc carry 2 c.at_least.result c.listed-listed.result.now c.requires.unsigned c.listed-listed.ensures a in
    let count : length one.clauses ≡ length old.clauses + 2 = ap {A = System} (λ s. length s.clauses) c.in_ok-add_carry.ensures ∙ length-append old.clauses (map clause_of (equals (length old.rows) (pos 0))) in
    omega (arith, c.requires.clauses, ap length is, plain_count nuw trunc first, count)

pub returns : goal.returns
returns c =
    let trunc = c.args.self.now in
    let nuw = trunc.flags.nuw in
    let first = c.args.first in
    let carry = first + 1 + 1 in
    let old = c.args.into.now in
    let one = c.add_carry.new.into in
    let a : c.at_least.result ≡ at_least (Var carry) (pos 1) = search rules in
    let is = literals_plain nuw trunc.flags.nsw trunc carry 2 c.at_least.result c.listed-listed.result.now c.requires.unsigned c.listed-listed.ensures a in
    on_ok c.add_marks.result (lays_plain nuw trunc first old one c.add_marks.new.into c.listed-listed.result.now c.in_ok-add_carry.ensures is) c.add_marks.ensures
