use Rattle.std.proofs.Common.{◌≡◌, ◌∷◌, [], ◌+◌, ◌-◌, ◌^◌, pos, neg_ℤ, ◌-ℤ◌, length, rules, ap, ap₂, ◌∙◌, sym, subst, arith, length-append}
use Rattle.std.specs.Prelude.{All, true, map}
use Rattle.mix_system.specs.declared.literal.Term.TheVariants.{Var, Row}
use Rattle.mix_system.specs.Lit.{negation}
use Rattle.mix_system.specs.System.{System, Exists, IsInner}
use Rattle.wrap_rows.specs.Normal.{row_of, clause_of}
use Rattle.wrap_rows.specs.Layout.{times, at_most, at_least}
use Rattle.wrap_rows.specs.Blocks.{equals, sign_row, sign_clauses}
use Rattle.wrap_rows.specs.Trunc.{carry_row}
use Rattle.wrap_rows.proofs.RangedLaws.{on_ok}
use Rattle.wrap_rows.proofs.TruncLaws.{literals_signed, literals_known, literals_inner, literals_opposite, signed_count, lays_signed}
use Rattle.wrap_rows.proofs.trunc.Trunc.lay_signed.Goals as goal

pub add_marks-requires-clause-known : goal.add_marks-requires-clause-known
add_marks-requires-clause-known c =
    let trunc = c.args.self.now in
    let nuw = trunc.flags.nuw in
    let first = c.args.first in
    let carry = first + 1 + 1 + 1 in
    let old = c.args.into.now in
    let one = c.add_sign.new.into in
    let two = c.add_carry.new.into in
    let three = c.add_sum.new.into in
    let row = length old.rows + 2 in
    let half = 2 ^ (trunc.to - 1) in
    let one_row : length one.rows ≡ length old.rows + 1 = ap {A = System} (λ s. length s.rows) c.in_ok-add_sign.ensures ∙ length-append old.rows (row_of (sign_row trunc.from trunc.a.number (first + 1 + 1)) ∷ []) in
    let two_rows : length two.rows ≡ length one.rows + 1 = ap {A = System} (λ s. length s.rows) c.in_ok-add_carry.ensures ∙ length-append one.rows (row_of (carry_row trunc first carry) ∷ []) in
    let row_is : c.in_ok-add_sum.field-0 ≡ row = c.in_ok-add_sum.ensures.number ∙ omega (arith, one_row, two_rows) in
    let a : c.at_least.result ≡ at_least (Var carry) (pos 1) = search rules in
    let t_now : c.at_least-2.result ≡ at_least (Row c.in_ok-add_sum.field-0) (pos half) = search rules in
    let u_now : c.below_signed.result ≡ at_most (Row c.in_ok-add_sum.field-0) (neg_ℤ (pos half) -ℤ pos 1) = c.below_signed.ensures in
    let t = t_now ∙ ap (λ r. at_least (Row r) (pos half)) row_is in
    let u = u_now ∙ ap (λ r. at_most (Row r) (neg_ℤ (pos half) -ℤ pos 1)) row_is in
    let is = literals_signed nuw trunc.flags.nsw trunc carry row c.at_least.result c.at_least-2.result c.below_signed.result c.listed-listed.result.now c.requires.signed c.listed-listed.ensures a t u in
    let same : length three.ranges ≡ length old.ranges = ap {A = System} (λ s. length s.ranges) c.in_ok-add_sum.ensures.ok ∙ ap {A = System} (λ s. length s.ranges) c.in_ok-add_carry.ensures ∙ ap {A = System} (λ s. length s.ranges) c.in_ok-add_sign.ensures in
    let three_rows : length three.rows ≡ length two.rows + 1 = ap {A = System} (λ s. length s.rows) c.in_ok-add_sum.ensures.ok ∙ length-append two.rows (row_of (c.times.result ∷ c.times-2.result ∷ []) ∷ []) in
    subst (λ lits. All (λ lit. Exists (length three.ranges) (length three.rows) lit.term) lits) (sym is)
    (literals_known nuw true trunc carry row (length three.ranges) (length three.rows) (omega (arith, same, c.requires.known)) (λ set. omega (arith, one_row, two_rows, three_rows)))

pub add_marks-requires-clause-inner : goal.add_marks-requires-clause-inner
add_marks-requires-clause-inner c =
    let trunc = c.args.self.now in
    let nuw = trunc.flags.nuw in
    let first = c.args.first in
    let carry = first + 1 + 1 + 1 in
    let old = c.args.into.now in
    let one = c.add_sign.new.into in
    let two = c.add_carry.new.into in
    let three = c.add_sum.new.into in
    let row = length old.rows + 2 in
    let half = 2 ^ (trunc.to - 1) in
    let one_row : length one.rows ≡ length old.rows + 1 = ap {A = System} (λ s. length s.rows) c.in_ok-add_sign.ensures ∙ length-append old.rows (row_of (sign_row trunc.from trunc.a.number (first + 1 + 1)) ∷ []) in
    let two_rows : length two.rows ≡ length one.rows + 1 = ap {A = System} (λ s. length s.rows) c.in_ok-add_carry.ensures ∙ length-append one.rows (row_of (carry_row trunc first carry) ∷ []) in
    let row_is : c.in_ok-add_sum.field-0 ≡ row = c.in_ok-add_sum.ensures.number ∙ omega (arith, one_row, two_rows) in
    let a : c.at_least.result ≡ at_least (Var carry) (pos 1) = search rules in
    let t_now : c.at_least-2.result ≡ at_least (Row c.in_ok-add_sum.field-0) (pos half) = search rules in
    let u_now : c.below_signed.result ≡ at_most (Row c.in_ok-add_sum.field-0) (neg_ℤ (pos half) -ℤ pos 1) = c.below_signed.ensures in
    let t = t_now ∙ ap (λ r. at_least (Row r) (pos half)) row_is in
    let u = u_now ∙ ap (λ r. at_most (Row r) (neg_ℤ (pos half) -ℤ pos 1)) row_is in
    let is = literals_signed nuw trunc.flags.nsw trunc carry row c.at_least.result c.at_least-2.result c.below_signed.result c.listed-listed.result.now c.requires.signed c.listed-listed.ensures a t u in
    subst (λ lits. All (λ lit. IsInner lit.bound) lits) (sym is) (literals_inner nuw true trunc carry row c.requires.at.to)

pub add_marks-requires-clause-opposite : goal.add_marks-requires-clause-opposite
add_marks-requires-clause-opposite c =
    let trunc = c.args.self.now in
    let nuw = trunc.flags.nuw in
    let first = c.args.first in
    let carry = first + 1 + 1 + 1 in
    let old = c.args.into.now in
    let one = c.add_sign.new.into in
    let two = c.add_carry.new.into in
    let three = c.add_sum.new.into in
    let row = length old.rows + 2 in
    let half = 2 ^ (trunc.to - 1) in
    let one_row : length one.rows ≡ length old.rows + 1 = ap {A = System} (λ s. length s.rows) c.in_ok-add_sign.ensures ∙ length-append old.rows (row_of (sign_row trunc.from trunc.a.number (first + 1 + 1)) ∷ []) in
    let two_rows : length two.rows ≡ length one.rows + 1 = ap {A = System} (λ s. length s.rows) c.in_ok-add_carry.ensures ∙ length-append one.rows (row_of (carry_row trunc first carry) ∷ []) in
    let row_is : c.in_ok-add_sum.field-0 ≡ row = c.in_ok-add_sum.ensures.number ∙ omega (arith, one_row, two_rows) in
    let a : c.at_least.result ≡ at_least (Var carry) (pos 1) = search rules in
    let t_now : c.at_least-2.result ≡ at_least (Row c.in_ok-add_sum.field-0) (pos half) = search rules in
    let u_now : c.below_signed.result ≡ at_most (Row c.in_ok-add_sum.field-0) (neg_ℤ (pos half) -ℤ pos 1) = c.below_signed.ensures in
    let t = t_now ∙ ap (λ r. at_least (Row r) (pos half)) row_is in
    let u = u_now ∙ ap (λ r. at_most (Row r) (neg_ℤ (pos half) -ℤ pos 1)) row_is in
    let is = literals_signed nuw trunc.flags.nsw trunc carry row c.at_least.result c.at_least-2.result c.below_signed.result c.listed-listed.result.now c.requires.signed c.listed-listed.ensures a t u in
    subst (λ lits. All (λ lit. IsInner (negation lit).bound) lits) (sym is) (literals_opposite nuw true trunc carry row c.requires.at.to)

pub add_marks-requires-clause-room : goal.add_marks-requires-clause-room
add_marks-requires-clause-room c =
    let trunc = c.args.self.now in
    let nuw = trunc.flags.nuw in
    let first = c.args.first in
    let carry = first + 1 + 1 + 1 in
    let old = c.args.into.now in
    let one = c.add_sign.new.into in
    let two = c.add_carry.new.into in
    let three = c.add_sum.new.into in
    let row = length old.rows + 2 in
    let half = 2 ^ (trunc.to - 1) in
    let one_row : length one.rows ≡ length old.rows + 1 = ap {A = System} (λ s. length s.rows) c.in_ok-add_sign.ensures ∙ length-append old.rows (row_of (sign_row trunc.from trunc.a.number (first + 1 + 1)) ∷ []) in
    let two_rows : length two.rows ≡ length one.rows + 1 = ap {A = System} (λ s. length s.rows) c.in_ok-add_carry.ensures ∙ length-append one.rows (row_of (carry_row trunc first carry) ∷ []) in
    let row_is : c.in_ok-add_sum.field-0 ≡ row = c.in_ok-add_sum.ensures.number ∙ omega (arith, one_row, two_rows) in
    let a : c.at_least.result ≡ at_least (Var carry) (pos 1) = search rules in
    let t_now : c.at_least-2.result ≡ at_least (Row c.in_ok-add_sum.field-0) (pos half) = search rules in
    let u_now : c.below_signed.result ≡ at_most (Row c.in_ok-add_sum.field-0) (neg_ℤ (pos half) -ℤ pos 1) = c.below_signed.ensures in
    let t = t_now ∙ ap (λ r. at_least (Row r) (pos half)) row_is in
    let u = u_now ∙ ap (λ r. at_most (Row r) (neg_ℤ (pos half) -ℤ pos 1)) row_is in
    let is = literals_signed nuw trunc.flags.nsw trunc carry row c.at_least.result c.at_least-2.result c.below_signed.result c.listed-listed.result.now c.requires.signed c.listed-listed.ensures a t u in
    let one_count : length one.clauses ≡ length old.clauses + 2 = ap {A = System} (λ s. length s.clauses) c.in_ok-add_sign.ensures ∙ length-append old.clauses (map clause_of (sign_clauses trunc.from (length old.rows))) in
    let two_count : length two.clauses ≡ length one.clauses + 2 = ap {A = System} (λ s. length s.clauses) c.in_ok-add_carry.ensures ∙ length-append one.clauses (map clause_of (equals (length one.rows) (pos 0))) in
    let three_count : length three.clauses ≡ length two.clauses = ap {A = System} (λ s. length s.clauses) c.in_ok-add_sum.ensures.ok in
    omega (arith, c.requires.clauses, ap length is, signed_count nuw trunc first row, one_count, two_count, three_count)

pub returns : goal.returns
returns c =
    let trunc = c.args.self.now in
    let nuw = trunc.flags.nuw in
    let first = c.args.first in
    let carry = first + 1 + 1 + 1 in
    let old = c.args.into.now in
    let one = c.add_sign.new.into in
    let two = c.add_carry.new.into in
    let three = c.add_sum.new.into in
    let row = length old.rows + 2 in
    let half = 2 ^ (trunc.to - 1) in
    let one_row : length one.rows ≡ length old.rows + 1 = ap {A = System} (λ s. length s.rows) c.in_ok-add_sign.ensures ∙ length-append old.rows (row_of (sign_row trunc.from trunc.a.number (first + 1 + 1)) ∷ []) in
    let two_rows : length two.rows ≡ length one.rows + 1 = ap {A = System} (λ s. length s.rows) c.in_ok-add_carry.ensures ∙ length-append one.rows (row_of (carry_row trunc first carry) ∷ []) in
    let row_is : c.in_ok-add_sum.field-0 ≡ row = c.in_ok-add_sum.ensures.number ∙ omega (arith, one_row, two_rows) in
    let a : c.at_least.result ≡ at_least (Var carry) (pos 1) = search rules in
    let t_now : c.at_least-2.result ≡ at_least (Row c.in_ok-add_sum.field-0) (pos half) = search rules in
    let u_now : c.below_signed.result ≡ at_most (Row c.in_ok-add_sum.field-0) (neg_ℤ (pos half) -ℤ pos 1) = c.below_signed.ensures in
    let t = t_now ∙ ap (λ r. at_least (Row r) (pos half)) row_is in
    let u = u_now ∙ ap (λ r. at_most (Row r) (neg_ℤ (pos half) -ℤ pos 1)) row_is in
    let is = literals_signed nuw trunc.flags.nsw trunc carry row c.at_least.result c.at_least-2.result c.below_signed.result c.listed-listed.result.now c.requires.signed c.listed-listed.ensures a t u in
    let p : c.times.result ≡ times (pos 1) trunc.a.number = search rules in
    let q : c.times-2.result ≡ times (neg_ℤ (pos (2 ^ trunc.from))) (first + 1 + 1) = search rules in
    on_ok c.add_marks.result
    (lays_signed nuw trunc first old one two three c.add_marks.new.into (c.times.result ∷ c.times-2.result ∷ []) c.listed-listed.result.now c.in_ok-add_sign.ensures c.in_ok-add_carry.ensures c.in_ok-add_sum.ensures.ok
    (ap₂ (λ u v. u ∷ v ∷ []) p q) is)
    c.add_marks.ensures
