-- What is known of a point at which all pieces hold, and the widths of its arguments.
use Rattle.std.proofs.Common.{◌≡◌, ◌<◌, ◌≤◌, ℕ, suc, ℤ, pos, List, [], ◌∷◌, length, get_or, map, refl, ◌∙◌, ap, subst, arith}
use Rattle.std.specs.Prelude.{Contains, All, zip}
use Rattle.std.proofs.lemmas.Int.{ints}
use Rattle.std.proofs.lemmas.List.Elements.{All-head, All-tail}
use Rattle.wx_base.specs.Args.{AreArguments}
use Rattle.mix_system.specs.Row.{number_at}
use Rattle.ll_tree.specs.declared.func.Func.{Func}
use Rattle.ll_tree.specs.declared.func.Param.{Param}
use Rattle.std.proofs.lemmas.List.{length-map}
use Rattle.ll_verifier.specs.Sound.{SoundFunc, IsSound}
use Rattle.ir_runs.specs.Walk.{widths_of}
use Rattle.ir_runs.proofs.MemberLaws.{in_here, in_there}
use Rattle.wrap_rows.specs.declared.vars.ValueVars.{ValueVars}
use Rattle.wrap_rows.specs.Vars.{IsNumber}
use Rattle.ir_pieces.specs.declared.list.Placed.{Placed}
use Rattle.path_encoding.specs.declared.spots.PathSpots.{PathSpots}
use Rattle.path_encoding.specs.Spots.{value_vars}
use Rattle.path_encoding.specs.Paths.{IsTaken}
use Rattle.value_pieces.specs.Pieces.{name_vars}
use Rattle.piece_values.specs.Known.{AreKnown}
use Rattle.piece_values.specs.Ready.{IsReady, IsArgument}
use Rattle.piece_values.proofs.OwnerLaws.{has_pieces}
use Rattle.piece_values.proofs.TellLaws.{param_name, name_at}
use Rattle.system_runs.specs.Parts.{AreParts, PiecesHold}

-- one argument for each parameter
each_width : (widths args : List ℕ) → AreArguments widths args → length args ≡ length widths
each_width [] [] fits = refl
each_width [] (arg ∷ args) fits = absurd fits
each_width (width ∷ widths) [] fits = absurd fits
each_width (width ∷ widths) (arg ∷ args) fits = ap suc (each_width widths args fits.1)

pub one_each : (func : Func) (args : List ℕ) → AreArguments (widths_of func) args → length args ≡ length func.params
one_each func args fits = each_width (widths_of func) args fits ∙ length-map func.params (λ param. param.width)

module _ (it : SoundFunc) (sound : IsSound it) (spots : PathSpots) (placed : List Placed) (from to : ℕ) (parts : AreParts it spots placed from to) (point : List ℤ) (holds : PiecesHold it spots placed point) where
  pub ready : (path : List ℕ) → IsTaken it spots point path → IsReady it spots path point
  ready path is = record {
    numbers = holds.numbers;
    constants = holds.constants;
    arguments = holds.arguments;
    unranged = parts.unranged;
    marks = holds.marks;
    taken = is;
  }

  widths_fit : (params : List Param) (args : List ℕ) (values : List ValueVars) → length args ≡ length params → length params ≤ length values
      → ((param : Param) → Contains params param → IsNumber param.width (number_at point (name_vars it spots param.name).number))
      → ((i : ℕ) → i < length params → name_vars it spots (get_or (map param_name params) i []) ≡ get_or values i (value_vars 0 0))
      → All (IsArgument point) (zip (zip params args) values) → AreArguments (map (λ param. param.width) params) args
  widths_fit [] [] values same few numbers stands given = tt
  widths_fit [] (arg ∷ args) values same few numbers stands given = absurd (omega (arith, same))
  widths_fit (param ∷ params) [] values same few numbers stands given = absurd (omega (arith, same))
  widths_fit (param ∷ params) (arg ∷ args) [] same few numbers stands given = absurd (omega (arith, few))
  widths_fit (param ∷ params) (arg ∷ args) (at ∷ values) same few numbers stands given =
      let here : number_at point at.number ≡ pos arg = All-head (IsArgument point) ((param, arg), at) (zip (zip params args) values) given in
      let mine : IsNumber param.width (number_at point at.number) = subst (λ (v : ValueVars). IsNumber param.width (number_at point v.number)) (stands 0 (omega arith)) (numbers param (in_here param params)) in (
        omega (arith, ints, here, mine.1),
        widths_fit params args values (omega (arith, same)) (omega (arith, few)) (λ other there. numbers other (in_there param other params there)) (λ i low. stands (suc i) (omega (arith, low)))
            (All-tail (IsArgument point) ((param, arg), at) (zip (zip params args) values) given),
      )

  pub arguments_fit : AreKnown it spots point → (path : List ℕ) → IsTaken it spots point path → (args : List ℕ) → length args ≡ length it.func.params → All (IsArgument point) (zip (zip it.func.params args) spots.values.items) → AreArguments (widths_of it.func) args
  arguments_fit known path is args same given =
      widths_fit it.func.params args spots.values.items same parts.vars.params holds.arguments
      (name_at it sound spots parts.vars point holds.marks known placed from to parts.stand holds.ranges holds.hold (has_pieces it sound spots placed parts.pieces) path is) given
