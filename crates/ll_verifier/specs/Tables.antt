-- The tables of a function.
use Rattle.std.specs.Prelude.{◌≡◌}
use Rattle.ll_tree.specs.declared.func.Func.{Func}
use Rattle.ll_rules.specs.Items.{labels_of, values_of}
use Rattle.ll_items.specs.Sites.{sites_of}
use Rattle.ll_verifier.specs.declared.tables.Tables.{Tables}

pub record AreTables (func : Func) (tables : Tables) : Type 0 where
  pub sites : tables.sites ≡ sites_of func
  pub values : tables.values ≡ values_of func
  pub labels : tables.labels ≡ labels_of func
