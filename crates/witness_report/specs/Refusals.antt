-- What is printed for a file that is refused.
use Rattle.std.specs.Prelude.{ℕ, List, [], ◌∷◌, ◌++◌, codes}
use Rattle.std.specs.List.{flat_map}
use Rattle.std.specs.Fmt.{decimal}
use Rattle.ll_token.specs.declared.token.FaultKind.{FaultKind}
use Rattle.ll_token.specs.declared.token.FaultKind.TheVariants.{BadByte, OpenString, BadEscape}
use Rattle.ll_reader.specs.declared.fault.ReadFault.{ReadFault}
use Rattle.ll_reader.specs.declared.fault.ReadFault.TheVariants as read
use Rattle.ll_rules.specs.declared.limits.Limit.{Limit}
use Rattle.ll_rules.specs.declared.limits.Limit.TheVariants.{Blocks, Params, Values, Entries, Cases, Edges, Bits}
use Rattle.cost_table.specs.declared.costs.CostFault.{CostFault}
use Rattle.cost_table.specs.declared.costs.CostFault.TheVariants as cost
use Rattle.ll_verifier.specs.declared.fault.VerifyFault.{VerifyFault}
use Rattle.ll_verifier.specs.declared.fault.VerifyFault.TheVariants as verify
use Rattle.witness_report.specs.Parts.{line, spaced, spaced_name, spaced_spot}

-- ---- FILE as a text

abbrev pub token_word : FaultKind → List ℕ
token_word BadByte = codes "bad-byte"
token_word OpenString = codes "open-string"
token_word BadEscape = codes "bad-escape"

-- a line of the file
unfoldable pub file_line : ℕ → List ℕ
file_line number = codes "refused read line " ++ decimal number

-- a token that is refused, as it is written in the file
abbrev pub at_token : ℕ → List ℕ → List ℕ → List ℕ
at_token number word token = line (file_line number ++ (spaced word ++ spaced token))

abbrev pub read_text : ReadFault → List ℕ
read_text read.NoFunction = line (codes "refused read no-function")
read_text read.TwoFunctions = line (codes "refused read two-functions")
read_text read.NotClosed = line (codes "refused read not-closed")
read_text (read.Token fault) = line (file_line fault.line ++ spaced (token_word fault.kind))
read_text (read.NotInProfile number token) = at_token number (codes "not-in-profile") token
read_text (read.BadWidth number token) = at_token number (codes "bad-width") token
read_text (read.BadLiteral number token) = at_token number (codes "bad-literal") token
read_text (read.NoLabel number token) = at_token number (codes "no-label") token
read_text (read.Unexpected number token) = at_token number (codes "unexpected") token
read_text read.NoMemory = []

-- ---- FILE's function

abbrev pub limit_word : Limit → List ℕ
limit_word Blocks = codes "blocks"
limit_word Params = codes "params"
limit_word Values = codes "values"
limit_word Entries = codes "entries"
limit_word Cases = codes "cases"
limit_word Edges = codes "edges"
limit_word Bits = codes "bits"

abbrev pub verify_text : VerifyFault → List ℕ
verify_text (verify.TooMany exceeded) = line (codes "refused verify too-many" ++ (spaced (limit_word exceeded.what) ++ spaced (decimal exceeded.count)))
verify_text (verify.NameTwice name) = line (codes "refused verify name-twice" ++ spaced_name name)
verify_text (verify.NoSuchName name at) = line (codes "refused verify no-such-name" ++ (spaced_name name ++ spaced_spot at))
verify_text (verify.TypeDiffers at) = line (codes "refused verify type-differs" ++ spaced_spot at)
verify_text (verify.DuplicateCase at value) = line (codes "refused verify duplicate-case" ++ (spaced_spot at ++ spaced (decimal value)))
verify_text (verify.NotLinear at) = line (codes "refused verify not-linear" ++ spaced_spot at)
verify_text (verify.BadDivisor at) = line (codes "refused verify bad-divisor" ++ spaced_spot at)
verify_text (verify.PhiEntries at) = line (codes "refused verify phi-entries" ++ spaced_spot at)
verify_text (verify.Loop cycle) = line (codes "refused verify loop" ++ flat_map spaced_name cycle)
verify_text (verify.Unreached block) = line (codes "refused verify unreached" ++ spaced_name block)
verify_text (verify.NotDefined at name path) = line (codes "refused verify not-defined" ++ (spaced_spot at ++ (codes " path" ++ flat_map spaced_name path)))
verify_text verify.NoMemory = []

-- ---- COSTS

abbrev pub cost_text : CostFault → List ℕ
cost_text (cost.BadLine number) = line (codes "refused costs bad-line " ++ decimal number)
cost_text (cost.UnknownBlock number) = line (codes "refused costs unknown-block " ++ decimal number)
cost_text (cost.UnknownEdge number) = line (codes "refused costs unknown-edge " ++ decimal number)
cost_text (cost.CostTwice number) = line (codes "refused costs cost-twice " ++ decimal number)
cost_text (cost.Missing block) = line (codes "refused costs missing" ++ spaced_name block)
cost_text cost.NoMemory = []
