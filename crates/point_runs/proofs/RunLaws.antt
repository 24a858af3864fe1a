-- A point that tells the values along its path is a run, and a run along it makes the layout hold.
use Rattle.std.proofs.Common.{◌≡◌, ℕ, ℤ, List, map, sym, subst}
use Rattle.wx_base.specs.Args.{AreArguments}
use Rattle.ll_tree.specs.declared.block.Block.{Block}
use Rattle.ll_verifier.specs.Sound.{SoundFunc, IsSound}
use Rattle.ir_meaning.specs.declared.value.Val.{Val}
use Rattle.ir_runs.specs.Values.{Vals}
use Rattle.ir_runs.specs.Walk.{LeadOn, EndsWith, Returns, names_on, widths_of, Walk}
use Rattle.ir_runs.specs.Run.{Run}
use Rattle.ir_runs.specs.declared.ret_val.RetVal.{RetVal}
use Rattle.ir_runs.proofs.UsedLaws.{block_label}
use Rattle.path_values.specs.Way.{IsWay, AreTheValues, told, told_of}
use Rattle.path_values.proofs.ValueLaws.{body_known, end_known, the_values, only}
use Rattle.path_values.proofs.WalkLaws.{follow_on, way_of, values_of, walk_on}
use Rattle.portion_cuts.specs.Paths.{label_at}
use Rattle.path_encoding.specs.declared.spots.PathSpots.{PathSpots}
use Rattle.path_encoding.specs.Paths.{IsTaken}
use Rattle.path_encoding.specs.Agree.{AgreesOn, ReturnsOn, blocks_on}
use Rattle.point_runs.specs.Told.{told_at, TellsAlong, RunsAlong}
use Rattle.point_runs.proofs.BlocksLaws.{path_low, labels_are, within, begins, blocks_are, agrees_on}

module _ (it : SoundFunc) (sound : IsSound it) (spots : PathSpots) (point : List ℤ) (path : List ℕ) (is : IsTaken it spots point path) (args : List ℕ) (tells : TellsAlong it spots point args path) where
  abbrev blocks : List Block
  blocks = blocks_on it path

  abbrev value : List ℕ → Val
  value = told_at it spots point

  abbrev kept : Vals
  kept = told_of (names_on it.func blocks) value

  kept_agrees : IsWay it.func blocks → AgreesOn it spots point kept path
  kept_agrees way =
      agrees_on it spots point (names_on it.func blocks) value path (body_known it.func sound.rules blocks way) (end_known it.func sound.rules blocks way) tells.agrees

  module _ (returns : (vals : Vals) → AgreesOn it spots point vals path → ReturnsOn it args vals path) (fits : AreArguments (widths_of it.func) args) where
    way : IsWay it.func blocks
    way = record {
      within = within it sound path (path_low it sound path is.is_path);
      begins = begins it sound path is.is_path;
      follow = follow_on it.func args (told value) blocks (returns (told value) tells.agrees).follow;
    }

    on : ReturnsOn it args kept path
    on = returns kept (kept_agrees way)

    walked : (made : Walk it.func args (map block_label blocks) kept) × (made.blocks ≡ blocks)
    walked = walk_on it.func sound.rules args blocks kept fits way (the_values it.func sound.rules blocks way args value tells.has) on.follow

    run : Run it.func args (map block_label blocks) kept on.result
    run = record { walk = walked.0; returns = subst (λ (l : List Block). EndsWith it.func args kept l (Returns on.result)) (sym walked.1) on.ends }

    pub runs_along : RunsAlong it args path
    runs_along = record {
      vals = kept;
      result = on.result;
      run = subst (λ (labels : List (List ℕ)). Run it.func args labels kept on.result) (labels_are it sound path (path_low it sound path is.is_path)) run;
    }

  module _ (vals : Vals) (result : RetVal) (run : Run it.func args (map (label_at it) path) vals result) where
    abbrev walk : Walk it.func args (map (label_at it) path) vals
    walk = run.walk

    same : walk.blocks ≡ blocks
    same = blocks_are it sound path (path_low it sound path is.is_path) walk.blocks walk.visits

    way_there : IsWay it.func blocks
    way_there = subst (IsWay it.func) same (way_of it.func args (map (label_at it) path) vals sound.rules walk)

    values_there : AreTheValues it.func args blocks vals
    values_there = subst (λ (l : List Block). AreTheValues it.func args l vals) same (values_of it.func args (map (label_at it) path) vals walk)

    vals_are : vals ≡ kept
    vals_are = only it.func sound.rules blocks way_there args value tells.has vals values_there

    pub run_agrees : AgreesOn it spots point vals path
    run_agrees = subst (λ (v : Vals). AgreesOn it spots point v path) (sym vals_are) (kept_agrees way_there)

    pub run_returns : ReturnsOn it args vals path
    run_returns = record {
      follow = subst (LeadOn it.func args vals) same walk.follow;
      result = result;
      ends = subst (λ (l : List Block). EndsWith it.func args vals l (Returns result)) same run.returns;
    }
