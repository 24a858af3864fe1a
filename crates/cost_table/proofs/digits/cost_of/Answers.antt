use Rattle.std.proofs.Common.{◌≡◌, ℕ, true, Some, None, cond, Option, sym, ◌∙◌, arith}
use Rattle.std.specs.Prelude.{nat_lt}
use Rattle.std.specs.Str.Parse.{digits_value}
use Rattle.std.proofs.lemmas.Bool.{true≢false}
use Rattle.cost_table.specs.Digits.{is_numeral}
use Rattle.cost_table.proofs.DigitLaws.{digits_of_numeral, some_digit, decimal_is_numeral, cost_found, cost_again}
use Rattle.cost_table.proofs.digits.cost_of.Goals as goal

pub returns-then-not-is_numeral-clause-only : goal.returns-then-not-is_numeral-clause-only
returns-then-not-is_numeral-clause-only c cost small is =
    let numeral : is_numeral c.args.digits.now ≡ true = rw is (decimal_is_numeral cost (omega (arith, small))) in
    absurd (true≢false (sym numeral ∙ sym c.is_numeral.ensures ∙ c.if-not-is_numeral.true))

pub value_of-requires-clause-digits : goal.value_of-requires-clause-digits
value_of-requires-clause-digits c = digits_of_numeral c.args.digits.now (sym c.is_numeral.ensures ∙ c.if-not-is_numeral.false)

pub value_of-requires-clause-some : goal.value_of-requires-clause-some
value_of-requires-clause-some c = some_digit c.args.digits.now (sym c.is_numeral.ensures ∙ c.if-not-is_numeral.false)

pub returns-in_err-value-clause-only : goal.returns-in_err-value-clause-only
returns-in_err-value-clause-only c cost small is =
    let again : cond {A = Option ℕ} (nat_lt (digits_value 10 c.args.digits.now) 4294967296) (Some (digits_value 10 c.args.digits.now)) None ≡ Some cost = rw is (cost_again cost 4294967296 small (omega arith)) in
    let none : None ≡ Some cost = c.in_err-value.ensures.value ∙ again in
    absurd (cc none)

pub returns-clause-found : goal.returns-clause-found
returns-clause-found c =
    cost_found c.args.digits.now 4294967296 c.in_ok-value.value (omega arith) (sym c.is_numeral.ensures ∙ c.if-not-is_numeral.false) c.in_ok-value.ensures.value

pub returns-clause-only : goal.returns-clause-only
returns-clause-only c cost small is =
    let again : cond {A = Option ℕ} (nat_lt (digits_value 10 c.args.digits.now) 4294967296) (Some (digits_value 10 c.args.digits.now)) None ≡ Some cost = rw is (cost_again cost 4294967296 small (omega arith)) in
    c.in_ok-value.ensures.value ∙ again
