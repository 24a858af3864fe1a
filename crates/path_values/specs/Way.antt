-- Ways of a function: blocks from the entry on, each a target of the one before it. Values along them.
use Rattle.std.specs.Prelude.{◌≡◌, ◌↔◌, ℕ, List, [], ◌∷◌, if◌then◌else◌, Contains, Some, None, IsSome}
use Rattle.std.specs.List.{AllZip, list_any}
use Rattle.std.specs.Str.{bytes_eq}
use Rattle.ll_tree.specs.declared.func.Func.{Func}
use Rattle.ll_tree.specs.declared.block.Block.{Block}
use Rattle.ll_tree.specs.declared.block.Operand.TheVariants as operand
use Rattle.ll_rules.specs.Items.{Part, Use, targets_of}
use Rattle.ll_flow.specs.Paths.{label_of}
use Rattle.ir_meaning.specs.declared.value.Val.{Val}
use Rattle.ir_runs.specs.Values.{Vals, ranged}
use Rattle.ir_runs.specs.Walk.{AreValued, names_on}

-- ---- ways

abbrev pub Begins : Func → List Block → Type 0
Begins func [] = ⊥
Begins func (first ∷ blocks) = first.label ≡ label_of func 0

-- each block has the next one as a target
abbrev pub FollowOn : List Block → Type 0
FollowOn [] = Unit {0}
FollowOn (block ∷ []) = Unit {0}
FollowOn (block ∷ next ∷ blocks) = Contains (targets_of block.end) next.label × FollowOn (next ∷ blocks)

pub record IsWay (func : Func) (blocks : List Block) : Type 0 where
  pub within : (block : Block) → Contains blocks block → Contains func.blocks block
  pub begins : Begins func blocks
  pub follow : FollowOn blocks

-- ---- values along a way

-- each parameter has its argument's value, and each result what its item computes
pub record HasValues (func : Func) (args : List ℕ) (blocks : List Block) (vals : Vals) : Type 0 where
  pub params : AllZip (λ param arg. vals param.name ≡ Some (ranged param.range arg)) func.params args
  pub values : AreValued vals None blocks

-- and no other name has one
pub record AreTheValues (func : Func) (args : List ℕ) (blocks : List Block) (vals : Vals) : Type 0 where
  pub has : HasValues func args blocks vals
  pub names : (name : List ℕ) → IsSome (vals name) ↔ Contains (names_on func blocks) name

-- ---- where there is a value for each name

abbrev pub told : (List ℕ → Val) → Vals
told value name = Some (value name)

-- of these names alone
abbrev pub told_of : List (List ℕ) → (List ℕ → Val) → Vals
told_of names value name = if list_any (bytes_eq name) names then Some (value name) else None

-- the names among some parts are names of the way
abbrev pub AreKnown : Func → List Block → List Part → Type 0
AreKnown func blocks parts = (name : List ℕ) (width : ℕ) → Contains parts (Use (operand.Name name) width) → Contains (names_on func blocks) name
