-- Words ask for one job, and give one list of arguments or one place that is bad.
use Rattle.std.proofs.Common.{◌≡◌, ◌<◌, ◌≤◌, ◌^◌, ℕ, zero, suc, List, [], ◌∷◌, length, map, get_or, refl, sym, ◌∙◌, ap, subst, inl, inr, arith}
use Rattle.std.specs.Fmt.{decimal}
use Rattle.std.proofs.Math.Bridge.{le_prop}
use Rattle.std.proofs.lemmas.Bool.{cases_order}
use Rattle.std.proofs.lemmas.Fmt.{decimal_injective}
use Rattle.std.specs.List.{All}
use Rattle.std.proofs.lemmas.List.{length-map}
use Rattle.std.proofs.lemmas.List.Elements.{All-tail}
use Rattle.std.proofs.Math.Nat.{pow-le-pow_right}
use Rattle.wx_base.specs.declared.lists.Arg.{Arg}
use Rattle.ll_tree.specs.Formed.{IsFormedParam}
use Rattle.ll_tree.specs.declared.func.Func.{Func}
use Rattle.ll_tree.specs.declared.func.Param.{Param}
use Rattle.ll_verifier.specs.Rules.{Rules}
use Rattle.ir_runs.specs.Walk.{widths_of}
use Rattle.command_words.specs.Words.{JobWords, Asks, command_word}
use Rattle.command_words.specs.Arguments.{IsNumber, AreArguments, IsFirstBad}
use Rattle.command_words.specs.declared.job.Command.{Command}
use Rattle.command_words.specs.declared.job.Command.TheVariants.{Analyse, Run, Brute}

-- ---- jobs

one_command : (one other : Command) → command_word one ≡ command_word other → one ≡ other
one_command Analyse Analyse same = refl
one_command Analyse Run same = absurd (omega (arith, ap length same))
one_command Analyse Brute same = absurd (omega (arith, ap length same))
one_command Run Analyse same = absurd (omega (arith, ap length same))
one_command Run Run same = refl
one_command Run Brute same = absurd (omega (arith, ap length same))
one_command Brute Analyse same = absurd (omega (arith, ap length same))
one_command Brute Run same = absurd (omega (arith, ap length same))
one_command Brute Brute same = refl

first_of : {A : Type 0} (x y : A) (xs ys : List A) → x ∷ xs ≡ y ∷ ys → (x ≡ y) × (xs ≡ ys)
first_of x y xs ys same = (cc, cc)

pub one_job : (words : List (List ℕ)) (one other : JobWords) → Asks words one → Asks words other → one ≡ other
one_job words one other asks also =
    let all = sym asks.words_are ∙ also.words_are in
    let (command, a) = first_of (command_word one.command) (command_word other.command) (one.function ∷ one.file ∷ one.costs ∷ one.arguments) (other.function ∷ other.file ∷ other.costs ∷ other.arguments) all in
    let (function, b) = first_of one.function other.function (one.file ∷ one.costs ∷ one.arguments) (other.file ∷ other.costs ∷ other.arguments) a in
    let (file, c) = first_of one.file other.file (one.costs ∷ one.arguments) (other.costs ∷ other.arguments) b in
    let (costs, arguments) = first_of one.costs other.costs one.arguments other.arguments c in
    let commands = one_command one.command other.command command in
    λ i. record { command = commands i; function = function i; file = file i; costs = costs i; arguments = arguments i }

-- ---- arguments

abbrev arg_of : (width value : ℕ) → value < 2 ^ width → Arg
arg_of width value fits = record { width = width; value = value; fits = fits }

with_fits : (width wide : ℕ) → width ≡ wide → (value number : ℕ) → value ≡ number → (fits : value < 2 ^ width) (also : number < 2 ^ wide) → arg_of width value fits ≡ arg_of wide number also
with_fits width wide e value number f fits also =
    subst (λ (w : ℕ). (also : number < 2 ^ w) → arg_of width value fits ≡ arg_of w number also) e
    (subst (λ (n : ℕ). (also : n < 2 ^ width) → arg_of width value fits ≡ arg_of width n also) f
    (λ also. ap (arg_of width value) (le_prop fits also))) also

same_arg : (one other : Arg) → one.width ≡ other.width → one.value ≡ other.value → one ≡ other
same_arg one other width value = with_fits one.width other.width width one.value other.value value one.fits other.fits

pub same_args : (args others : List Arg) → map (λ arg. arg.width) args ≡ map (λ arg. arg.width) others → map (λ arg. arg.value) args ≡ map (λ arg. arg.value) others → args ≡ others
same_args [] [] widths values = refl
same_args [] (other ∷ others) widths values = absurd (omega (arith, ap length widths))
same_args (arg ∷ args) [] widths values = absurd (omega (arith, ap length widths))
same_args (arg ∷ args) (other ∷ others) widths values =
    let (width, wide) = first_of arg.width other.width (map (λ (a : Arg). a.width) args) (map (λ (a : Arg). a.width) others) widths in
    let (value, number) = first_of arg.value other.value (map (λ (a : Arg). a.value) args) (map (λ (a : Arg). a.value) others) values in
    let here = same_arg arg other width value in
    let there = same_args args others wide number in
    λ i. here i ∷ there i

-- widths of at most 32 bits
abbrev pub AreNarrow : List ℕ → Type 0
AreNarrow [] = Unit {0}
AreNarrow (width ∷ widths) = (width ≤ 32) × AreNarrow widths

narrow_params : (params : List Param) → All IsFormedParam params → AreNarrow (map (λ param. param.width) params)
narrow_params [] formed = tt
narrow_params (param ∷ params) formed = ((formed 0 param (omega arith)).0.1, narrow_params params (All-tail IsFormedParam param params formed))

pub narrow_widths : (func : Func) → Rules func → AreNarrow (widths_of func)
narrow_widths func rules = narrow_params func.params rules.formed.params

below_64 : (width value : ℕ) → width ≤ 32 → value < 2 ^ width → value < 2 ^ 64
below_64 width value narrow fits =
    let room : 2 ^ width ≤ 2 ^ 32 = pow-le-pow_right {n = 2} (omega arith) {i = width} {j = 32} (omega (arith, narrow)) in
    omega (arith, fits, room)

one_values : (args others : List Arg) → AreNarrow (map (λ arg. arg.width) args) → map (λ arg. arg.width) args ≡ map (λ arg. arg.width) others
    → map (λ arg. decimal arg.value) args ≡ map (λ arg. decimal arg.value) others → map (λ arg. arg.value) args ≡ map (λ arg. arg.value) others
one_values [] [] narrow widths texts = refl
one_values [] (other ∷ others) narrow widths texts = absurd (omega (arith, ap length widths))
one_values (arg ∷ args) [] narrow widths texts = absurd (omega (arith, ap length widths))
one_values (arg ∷ args) (other ∷ others) narrow widths texts =
    let (width, wide) = first_of arg.width other.width (map (λ (a : Arg). a.width) args) (map (λ (a : Arg). a.width) others) widths in
    let (text, rest) = first_of (decimal arg.value) (decimal other.value) (map (λ (a : Arg). decimal a.value) args) (map (λ (a : Arg). decimal a.value) others) texts in
    let value = decimal_injective arg.value other.value (below_64 arg.width arg.value narrow.0 arg.fits) (below_64 other.width other.value (subst (λ (w : ℕ). w ≤ 32) width narrow.0) other.fits) text in
    let there = one_values args others narrow.1 wide rest in
    λ i. value i ∷ there i

pub one_arguments : (widths : List ℕ) (words : List (List ℕ)) (args others : List Arg) → AreNarrow widths → AreArguments widths words args → AreArguments widths words others → args ≡ others
one_arguments widths words args others narrow are also =
    let wide = are.fits ∙ sym also.fits in
    same_args args others wide (one_values args others (subst AreNarrow (sym are.fits) narrow) wide (are.says ∙ sym also.says))

taken_at : (args : List Arg) (place : ℕ) → place < length args → IsNumber (get_or (map (λ arg. arg.width) args) place 0) (get_or (map (λ arg. decimal arg.value) args) place [])
taken_at [] place within = absurd (omega (arith, within))
taken_at (arg ∷ args) zero within = (arg.value, arg.fits, refl)
taken_at (arg ∷ args) (suc place) within = taken_at args place (omega (arith, within))

-- words that are arguments have no bad place
pub not_bad : (widths : List ℕ) (words : List (List ℕ)) (args : List Arg) (place : ℕ) → AreArguments widths words args → IsFirstBad widths words place → ⊥
not_bad widths words args place are first =
    let count : length words ≡ length args = ap length (sym are.says) ∙ length-map args (λ (it : Arg). decimal it.value) in
    let wide : length widths ≡ length args = ap length (sym are.fits) ∙ length-map args (λ (it : Arg). it.width) in
    elim first.bad [
      | inl (within, refused) ↦ refused (omega (arith, within, count, wide), subst (λ (ws : List ℕ). IsNumber (get_or ws place 0) (get_or words place [])) are.fits (subst (λ (ts : List (List ℕ)). IsNumber (get_or (map (λ arg. arg.width) args) place 0) (get_or ts place [])) are.says (taken_at args place (omega (arith, within, count)))))
      | inr (end, more) ↦ absurd (omega (arith, end, more, count, wide))
    ]

not_earlier : (widths : List ℕ) (words : List (List ℕ)) (one other : ℕ) → IsFirstBad widths words one → IsFirstBad widths words other → one < other → ⊥
not_earlier widths words one other first also less =
    let (within, taken) = also.earlier one less in
    elim first.bad [ inl (there, refused) ↦ refused taken | inr (end, more) ↦ absurd (omega (arith, end, within)) ]

pub one_place : (widths : List ℕ) (words : List (List ℕ)) (one other : ℕ) → IsFirstBad widths words one → IsFirstBad widths words other → one ≡ other
one_place widths words one other first also =
    elim (cases_order one other) [
      | inl same ↦ same
      | inr (inl less) ↦ absurd (not_earlier widths words one other first also less)
      | inr (inr more) ↦ absurd (not_earlier widths words other one also first more)
    ]
