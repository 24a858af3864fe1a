-- What every runner keeps.
use Rattle.std.specs.Prelude.{◌≡◌, ◌≤◌, length, vec_len, vec_capacity}
use Rattle.ll_rules.specs.Items.{values_of}
use Rattle.ll_verifier.specs.Rules.{Rules}
use Rattle.ir_runner.specs.declared.runner.Runner.TheInside.{Inside}
use Rattle.ir_runner.specs.Code.{code_of}

-- Its function keeps all rules and stands there with numbers in place of names. It has a slot for each value, and
-- room for a path over all blocks.
pub record IsReady (runner : Inside) : Type 0 where
  pub rules : Rules runner.sound.now.func
  pub code : runner.code ≡ code_of runner.sound.now.func
  pub slots : length (values_of runner.sound.now.func) ≤ vec_len runner.slots
  pub path : length runner.sound.now.func.blocks ≤ vec_capacity runner.path
