-- Each list of arguments has one run, or is stuck once.
use Rattle.std.proofs.Common.{◌≡◌, inl, inr, ℕ, List, [], ◌∷◌, Option, Some, None, refl, sym, ◌∙◌, ap}
use Rattle.std.specs.List.{last_or}
use Rattle.std.proofs.lemmas.Option.{none-some, same_Some}
use Rattle.wx_base.specs.Args.{AreArguments}
use Rattle.ll_tree.specs.declared.func.Func.{Func}
use Rattle.ll_verifier.specs.Rules.{Rules}
use Rattle.ir_runs.specs.Values.{Vals}
use Rattle.ir_runs.specs.Walk.{Step, Goes, Returns, Fails, widths_of}
use Rattle.ir_runs.specs.Run.{Run, Stuck, RunsOnce, IsStuckOnce, EndsOnce}
use Rattle.ir_runs.specs.declared.ret_val.RetVal.{RetVal}
use Rattle.ir_runs.specs.declared.undefined.UndefinedCause.{UndefinedCause}
use Rattle.ir_runs.proofs.WalkLaws.{Ended, OneEnd, one}

abbrev pub returned : Step → Option RetVal
returned (Goes label) = None
returned (Returns result) = Some result
returned (Fails why) = None

abbrev pub failed : Step → Option UndefinedCause
failed (Goes label) = None
failed (Returns result) = None
failed (Fails why) = Some why

last_of : (label : List ℕ) (path : List (List ℕ)) → (block : List ℕ) × (last_or (Some label) path ≡ Some block)
last_of label [] = (label, refl)
last_of label (next ∷ path) = last_of next path

module _ (func : Func) (args : List ℕ) where
  pub ended_run : (path : List (List ℕ)) (vals : Vals) (result : RetVal) → Run func args path vals result → Ended func args path vals (Returns result)
  ended_run path vals result run = record { walk = run.walk; ends = run.returns; stops = tt }

  pub ended_stuck : (block : List ℕ) (why : UndefinedCause) (stuck : Stuck func args block why) → Ended func args stuck.path stuck.vals (Fails why)
  ended_stuck block why stuck = record { walk = stuck.walk; ends = stuck.fails; stops = tt }

  runs : (it : OneEnd func args) (result : RetVal) → it.last ≡ Returns result → (ended : Ended func args it.path it.vals (Returns result)) → RunsOnce func args
  runs it result is ended = record {
    path = it.path;
    vals = it.vals;
    result = result;
    run = record { walk = ended.walk; returns = ended.ends };
    only = λ path vals value run.
        let same = it.only path vals (Returns value) (ended_run path vals value run) in
        (same.0, same.1, same_Some value result (ap returned (same.2 ∙ is)));
    never = λ block why stuck.
        let same = it.only stuck.path stuck.vals (Fails why) (ended_stuck block why stuck) in
        none-some result (ap returned (same.2 ∙ is));
  }

  sticks : (it : OneEnd func args) (why : UndefinedCause) → it.last ≡ Fails why → (ended : Ended func args it.path it.vals (Fails why)) → IsStuckOnce func args
  sticks it why is ended =
      let first = ended.walk.entry in
      let last = last_of _ first.0 in
      let at : last_or None it.path ≡ Some last.0 = ap (last_or None) first.1 ∙ last.1 in
      record {
        block = last.0;
        cause = why;
        stuck = record { path = it.path; vals = it.vals; walk = ended.walk; fails = ended.ends; there = at };
        only = λ block other stuck.
            let same = it.only stuck.path stuck.vals (Fails other) (ended_stuck block other stuck) in
            (same_Some block last.0 (sym stuck.there ∙ ap (last_or None) same.0 ∙ at), same_Some other why (ap failed (same.2 ∙ is)));
        never = λ path vals result run.
            let same = it.only path vals (Returns result) (ended_run path vals result run) in
            none-some why (ap failed (same.2 ∙ is));
      }

  by_last : (it : OneEnd func args) (last : Step) → it.last ≡ last → Ended func args it.path it.vals last → EndsOnce func args
  by_last it (Goes label) is ended = absurd ended.stops
  by_last it (Returns result) is ended = inl (runs it result is ended)
  by_last it (Fails why) is ended = inr (sticks it why is ended)

pub ends_once : (func : Func) (args : List ℕ) → Rules func → AreArguments (widths_of func) args → EndsOnce func args
ends_once func args rules fits = let it = one func rules args fits in by_last func args it it.last refl it.ended
