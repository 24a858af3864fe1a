use Rattle.std.proofs.Common.{◌≡◌, ◌+◌, ◌<◌, ◌≤◌, ℕ, ℤ, Some, ◌⊎◌, ⊎_elim, sym, subst, rules, arith}
use Rattle.std.specs.Prelude.{IsTrue}
use Rattle.std.proofs.lemmas.Bool.{cases_lt}
use Rattle.mix_system.specs.Calm.{IsSmall}
use Rattle.mix_system.specs.declared.literal.Side.{Side}
use Rattle.mix_system.specs.declared.literal.Term.TheVariants.{Var, Row}
use Rattle.bounded_simplex.specs.InForce.{in_force}
use Rattle.solver_rows.proofs.calm.are_bounds_small.Goals as goal

-- what holds below a number and at it holds below the next
small_more : (P : ℕ → Side → ℤ → Type 0) (i : ℕ) → ((k : ℕ) (side : Side) (bound : ℤ) → k < i → P k side bound → IsSmall bound) → ((side : Side) (bound : ℤ) → P i side bound → IsSmall bound)
    → (k : ℕ) (side : Side) (bound : ℤ) → k < i + 1 → P k side bound → IsSmall bound
small_more P i before here k side bound below is =
    ⊎_elim (λ (lt : k < i). before k side bound lt is)
    (λ (le : i ≤ k). let same : k ≡ i = omega (arith, le, below) in here side bound (subst (λ n. P n side bound) same is)) (cases_lt k i)

pub loop-var-preserved : goal.loop-var-preserved
loop-var-preserved c =
    let yes : IsTrue c.is_term_small.result = search rules in
    small_more (λ var side bound. in_force c.args.bounds.now (Var var) side ≡ Some bound) c.loop-var.var c.loop-var.invariant (c.is_term_small.ensures yes)

pub loop-row-preserved : goal.loop-row-preserved
loop-row-preserved c =
    let yes : IsTrue c.is_term_small-in-loop-row.result = search rules in
    record {
      vars = c.loop-row.invariant.vars;
      rows = small_more (λ row side bound. in_force c.args.bounds.now (Row row) side ≡ Some bound) c.loop-row.row c.loop-row.invariant.rows (c.is_term_small-in-loop-row.ensures yes);
    }
