-- Where the bounds on a term stand in a list: by columns, first the one from below and then the one from above.
use Rattle.std.specs.Prelude.{ℕ, ◌+◌, ◌*◌}
use Rattle.mix_system.specs.declared.literal.Term.{Term}
use Rattle.mix_system.specs.declared.literal.Side.{Side}
use Rattle.mix_system.specs.declared.literal.Side.TheVariants.{Le, Ge}
use Rattle.bounded_simplex.specs.TableauOf.{column_of}

abbrev pub side_place : Side → ℕ
side_place Ge = 0
side_place Le = 1

-- where the bound on a term's side stands
abbrev pub place_of : ℕ → Term → Side → ℕ
place_of vars term side = 2 * column_of vars term + side_place side
