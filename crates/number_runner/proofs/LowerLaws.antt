-- Edges, cases and blocks one after another.
use Rattle.std.proofs.Common.{◌≡◌, ◌<◌, ◌+◌, ◌++◌, ℕ, suc, List, [], ◌∷◌, length, map, drop, get_or, sym, ◌∙◌, ap, subst, arith, append_assoc, below_more}
use Rattle.std.specs.Prelude.{All, Contains}
use Rattle.std.proofs.lemmas.List.{map-append, length-append, drop_more, get_or_append_left, get_or_default, get_or-map, length-map}
use Rattle.std.proofs.Math.Seq.{get_or-append_seam}
use Rattle.std.proofs.lemmas.List.Elements.{All-push, All-cons, All-nil, Contains-get_or}
use Rattle.ll_tree.specs.declared.func.Func.{Func}
use Rattle.ll_tree.specs.declared.block.Block.{Block}
use Rattle.ll_tree.specs.declared.block.Case.{Case}
use Rattle.ll_tree.specs.declared.block.End.{End}
use Rattle.ll_tree.specs.declared.block.End.TheVariants as end
use Rattle.ll_rules.specs.Items.{targets_of}
use Rattle.ll_flow.specs.Paths.{label_of}
use Rattle.ll_verifier.specs.Rules.{Rules}
use Rattle.ir_runs.specs.Costs.{LabelCosts}
use Rattle.ir_runs.proofs.UsedLaws.{block_label}
use Rattle.ir_runs.proofs.MemberLaws.{in_here, in_there}
use Rattle.ir_runner.specs.declared.code.BlockCode.{BlockCode}
use Rattle.ir_runner.specs.declared.code.CaseCode.{CaseCode}
use Rattle.ir_runner.specs.declared.code.Jump.{Jump}
use Rattle.ir_runner.specs.Code.{block_code, case_code, code_of, exit_code, jump_to}
use Rattle.ir_runner.proofs.ExitLaws.{IsTarget, target_is}
use Rattle.ir_runner.proofs.LowerLaws.{element}
use Rattle.number_runner.specs.declared.code.NumberBlock.{NumberBlock}
use Rattle.number_runner.specs.declared.code.NumberCase.{NumberCase}
use Rattle.number_runner.specs.declared.code.NumberJump.{NumberJump}
use Rattle.number_runner.specs.Costs.{IsBlock, AreBlocks}
use Rattle.number_runner.specs.Goes.{LeadsOut, LeadOut}
use Rattle.number_runner.specs.Stands.{case_of}

-- ---- lists taken apart

pub first_of_all : {X : Type 0} (P : X → Type 0) (x : X) (xs : List X) → All P (x ∷ xs) → P x
first_of_all P x xs all = all 0 x (omega arith)

pub rest_of_all : {X : Type 0} (P : X → Type 0) (x : X) (xs : List X) → All P (x ∷ xs) → All P xs
rest_of_all P x xs all = λ k d low. all (suc k) d (omega (arith, low))

-- ---- cases

abbrev pub jump_in : CaseCode → Jump
jump_in case = case.jump

pub case_more : (list : List NumberCase) (cases : List CaseCode) (i : ℕ) (case : CaseCode) (now : NumberCase) → map case_of list ++ drop i cases ≡ cases → i < length cases → case ≡ get_or cases i case → case_of now ≡ case
    → map case_of (list ++ now ∷ []) ++ drop (i + 1) cases ≡ cases
case_more list cases i case now so_far within at is =
    ap (λ (made : List CaseCode). made ++ drop (i + 1) cases) (map-append case_of list (now ∷ []))
    ∙ append_assoc (map case_of list) (case_of now ∷ []) (drop (i + 1) cases)
    ∙ ap (λ (one : CaseCode). map case_of list ++ one ∷ drop (i + 1) cases) (is ∙ at)
    ∙ ap (λ (rest : List CaseCode). map case_of list ++ rest) (sym (drop_more cases i case within))
    ∙ so_far

pub priced_more : (P : NumberJump → Type 0) (list : List NumberCase) (now : NumberCase) → All P (map (λ (case : NumberCase). case.jump) list) → P now.jump → All P (map (λ (case : NumberCase). case.jump) (list ++ now ∷ []))
priced_more P list now all here =
    subst (All P) (sym (map-append (λ (case : NumberCase). case.jump) list (now ∷ []))) (All-push P (map (λ (case : NumberCase). case.jump) list) now.jump all here)

pub case_leads : (P : Jump → Type 0) (cases : List CaseCode) (i : ℕ) (case : CaseCode) → All P (map jump_in cases) → i < length cases → case ≡ get_or cases i case → P case.jump
case_leads P cases i case all within is =
    subst P (get_or-map jump_in cases i case case.jump within ∙ ap jump_in (sym is)) (all i case.jump (subst (λ (n : ℕ). i < n) (sym (length-map cases jump_in)) within))

-- ---- blocks

pub blocks_more : (func : Func) (costs : LabelCosts) (codes : List BlockCode) (blocks : List NumberBlock) (at : ℕ) (code : BlockCode) (now : NumberBlock) → length blocks ≡ at → at < length codes → code ≡ get_or codes at code → AreBlocks func costs codes blocks → IsBlock func costs at code now
    → AreBlocks func costs codes (blocks ++ now ∷ [])
blocks_more func costs codes blocks at code now count within here are is k other block low at_code at_block =
    below_more Here (length blocks) (λ j under c b at_c at_b. are j c b under at_c (sym (get_or_append_left blocks (now ∷ []) b j under) ∙ at_b)) last k
    (subst (λ (n : ℕ). k < n) (length-append blocks (now ∷ [])) low) other block at_code at_block
  where
    Here : ℕ → Type 0
    Here j = (c : BlockCode) (b : NumberBlock) → get_or codes j c ≡ c → get_or (blocks ++ now ∷ []) j b ≡ b → IsBlock func costs j c b

    last : Here (length blocks)
    last c b at_c at_b =
        let code_is : code ≡ c = here ∙ get_or_default codes at code c within ∙ ap (λ (n : ℕ). get_or codes n c) (sym count) ∙ at_c in
        let block_is : now ≡ b = sym (get_or-append_seam blocks now [] b) ∙ at_b in
        subst (λ (n : ℕ). IsBlock func costs n c b) (sym count) (subst (IsBlock func costs at c) block_is (subst (λ (x : BlockCode). IsBlock func costs at x now) code_is is))

-- ---- where edges lead

module _ (func : Func) (rules : Rules func) (from : ℕ) (block : Block) (there : Contains func.blocks block) (at : label_of func from ≡ block.label) where
  leads_to : (label : List ℕ) → Contains (targets_of block.end) label → LeadsOut func from (jump_to func block.label label)
  leads_to label among =
      let to : IsTarget func rules block there label = target_is func rules block there label among in
      record {
        low = to.within;
        goes = (block, there, sym at, subst (λ (name : List ℕ). Contains (targets_of block.end) name) (sym to.is) among);
      }

  pub leads_out : LeadOut func from (exit_code func block.label block.end)
  leads_out = out block.end (λ label among. among)
    where
      case_jumps : (cases : List Case) → ((label : List ℕ) → Contains (map (λ (case : Case). case.to) cases) label → Contains (targets_of block.end) label) → All (LeadsOut func from) (map jump_in (map (case_code func block.label) cases))
      case_jumps [] among = All-nil (LeadsOut func from)
      case_jumps (case ∷ cases) among =
          All-cons (LeadsOut func from) (jump_to func block.label case.to) (map jump_in (map (case_code func block.label) cases)) (leads_to case.to (among case.to (in_here case.to (map (λ (case : Case). case.to) cases))))
          (case_jumps cases (λ label later. among label (in_there case.to label (map (λ (case : Case). case.to) cases) later)))

      out : (terminator : End) → ((label : List ℕ) → Contains (targets_of terminator) label → Contains (targets_of block.end) label) → LeadOut func from (exit_code func block.label terminator)
      out end.RetVoid among = All-nil (LeadsOut func from)
      out (end.Ret width value) among = All-nil (LeadsOut func from)
      out (end.Br label) among = All-cons (LeadsOut func from) (jump_to func block.label label) [] (leads_to label (among label (in_here label []))) (All-nil (LeadsOut func from))
      out (end.CondBr condition on_one on_zero) among =
          All-cons (LeadsOut func from) (jump_to func block.label on_one) (jump_to func block.label on_zero ∷ []) (leads_to on_one (among on_one (in_here on_one (on_zero ∷ []))))
          (All-cons (LeadsOut func from) (jump_to func block.label on_zero) [] (leads_to on_zero (among on_zero (in_there on_one on_zero (on_zero ∷ []) (in_here on_zero [])))) (All-nil (LeadsOut func from)))
      out (end.Switch width value default cases) among =
          All-cons (LeadsOut func from) (jump_to func block.label default) (map jump_in (map (case_code func block.label) cases)) (leads_to default (among default (in_here default (map (λ (case : Case). case.to) cases))))
          (case_jumps cases (λ label later. among label (in_there default label (map (λ (case : Case). case.to) cases) later)))
      out end.Unreachable among = All-nil (LeadsOut func from)

-- the edges of a block of the code
pub block_leads : (func : Func) (rules : Rules func) (at : ℕ) (code : BlockCode) → at < length func.blocks → code ≡ get_or (code_of func) at code → LeadOut func at code.exit
block_leads func rules at code low is =
    let block = element func.blocks at low in
    let code_is : code ≡ block_code func block.0 = is ∙ get_or-map (block_code func) func.blocks at block.0 code low ∙ ap (block_code func) (sym block.1) in
    let label : label_of func at ≡ block.0.label = get_or-map block_label func.blocks at block.0 [] low ∙ ap block_label (sym block.1) in
    let there : Contains func.blocks block.0 = subst (Contains func.blocks) (sym block.1) (Contains-get_or func.blocks at block.0 low) in
    subst (λ (c : BlockCode). LeadOut func at c.exit) (sym code_is) (leads_out func rules at block.0 there label)
