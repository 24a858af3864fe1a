-- What single words and numbers stand for.
use Rattle.std.specs.Prelude.{ℕ, ◌+◌, ◌-◌, ◌*◌, ◌/◌, ◌%◌, ◌^◌, Bool, true, false, not, ◌&&◌, ◌==◌, nat_le, nat_lt, List, [], ◌∷◌, length, take, drop, codes, Option, Some, None, if◌then◌else◌}
use Rattle.std.specs.Option.{option_map, option_map_or}
use Rattle.std.specs.Str.{bytes_eq}
use Rattle.ll_token.specs.declared.token.TokenKind.{TokenKind}
use Rattle.ll_token.specs.declared.token.TokenKind.TheVariants as kinds
use Rattle.ll_tree.specs.declared.op.Flags.{Flags}
use Rattle.ll_grammar.specs.declared.opcodes.Callee.{Callee}
use Rattle.ll_grammar.specs.declared.opcodes.Callee.TheVariants as callee
use Rattle.ll_tree.specs.declared.op.BinKind.{BinKind}
use Rattle.ll_tree.specs.declared.op.BinKind.TheVariants as bin
use Rattle.ll_tree.specs.declared.op.CastKind.{CastKind}
use Rattle.ll_tree.specs.declared.op.CastKind.TheVariants as cast
use Rattle.ll_tree.specs.declared.op.Pred.{Pred}
use Rattle.ll_tree.specs.declared.op.Pred.TheVariants as pred

-- ---- types

abbrev pub within_32 : ℕ → Option ℕ
within_32 n = if nat_le n 32 then Some n else None

-- the width of an integer type, from its digits: 1 to 32 without a leading zero
unfoldable pub digits_width : List ℕ → Option ℕ
digits_width [] = None
digits_width (one ∷ []) = if nat_le 49 one && nat_le one 57 then Some (one - 48) else None
digits_width (ten ∷ one ∷ []) = if (nat_le 49 ten && nat_le ten 57) && (nat_le 48 one && nat_le one 57) then within_32 (10 * (ten - 48) + (one - 48)) else None
digits_width (a ∷ b ∷ c ∷ more) = None

-- `i1` to `i32`
unfoldable pub width_of : List ℕ → Option ℕ
width_of [] = None
width_of (byte ∷ digits) = if byte == 105 then digits_width digits else None

-- ---- literals

-- the value of digits behind those whose value this is, where it stays below the limit
unfoldable pub value_below : (limit value : ℕ) → List ℕ → Option ℕ
value_below limit value [] = Some value
value_below limit value (digit ∷ digits) = if nat_lt (10 * value + (digit - 48)) limit then value_below limit (10 * value + (digit - 48)) digits else None

-- -n as a number of this width
abbrev pub negated : ℕ → ℕ → ℕ
negated width n = (2 ^ width - n) % 2 ^ width

-- a Number, -2^(width - 1) to 2^width - 1, as a number below 2^width
unfoldable pub number_of : ℕ → List ℕ → Option ℕ
number_of width [] = None
number_of width (byte ∷ digits) =
    if byte == 45 then option_map (negated width) (value_below (2 ^ width / 2 + 1) 0 digits) else value_below (2 ^ width) 0 (byte ∷ digits)

-- `true` and `false`, of width 1 alone
unfoldable pub bit_of : ℕ → List ℕ → Option ℕ
bit_of width text =
    if width == 1 then (if bytes_eq text (codes "true") then Some 1 else (if bytes_eq text (codes "false") then Some 0 else None)) else None

unfoldable pub literal_of : ℕ → TokenKind → List ℕ → Option ℕ
literal_of width kinds.Number text = number_of width text
literal_of width kinds.Word text = bit_of width text
literal_of width kind text = None

-- ---- words

unfoldable pub binary_of : List ℕ → Option BinKind
binary_of word =
    if bytes_eq word (codes "add") then Some bin.Add else (
    if bytes_eq word (codes "sub") then Some bin.Sub else (
    if bytes_eq word (codes "mul") then Some bin.Mul else (
    if bytes_eq word (codes "shl") then Some bin.Shl else (
    if bytes_eq word (codes "lshr") then Some bin.Lshr else (
    if bytes_eq word (codes "ashr") then Some bin.Ashr else (
    if bytes_eq word (codes "and") then Some bin.And else (
    if bytes_eq word (codes "or") then Some bin.Or else (
    if bytes_eq word (codes "xor") then Some bin.Xor else (
    if bytes_eq word (codes "udiv") then Some bin.Udiv else (
    if bytes_eq word (codes "sdiv") then Some bin.Sdiv else (
    if bytes_eq word (codes "urem") then Some bin.Urem else (
    if bytes_eq word (codes "srem") then Some bin.Srem else None))))))))))))

unfoldable pub cast_of : List ℕ → Option CastKind
cast_of word =
    if bytes_eq word (codes "zext") then Some cast.Zext else (
    if bytes_eq word (codes "sext") then Some cast.Sext else (
    if bytes_eq word (codes "trunc") then Some cast.Trunc else None))

unfoldable pub pred_of : List ℕ → Option Pred
pred_of word =
    if bytes_eq word (codes "eq") then Some pred.Eq else (
    if bytes_eq word (codes "ne") then Some pred.Ne else (
    if bytes_eq word (codes "ugt") then Some pred.Ugt else (
    if bytes_eq word (codes "uge") then Some pred.Uge else (
    if bytes_eq word (codes "ult") then Some pred.Ult else (
    if bytes_eq word (codes "ule") then Some pred.Ule else (
    if bytes_eq word (codes "sgt") then Some pred.Sgt else (
    if bytes_eq word (codes "sge") then Some pred.Sge else (
    if bytes_eq word (codes "slt") then Some pred.Slt else (
    if bytes_eq word (codes "sle") then Some pred.Sle else None)))))))))

-- ---- called functions

-- what stands behind the prefix, where the bytes begin with it
unfoldable pub behind : List ℕ → List ℕ → Option (List ℕ)
behind prefix bytes = if bytes_eq (take (length prefix) bytes) prefix then Some (drop (length prefix) bytes) else None

abbrev pub has_width : ℕ → List ℕ → Bool
has_width w text = option_map_or (λ v. v == w) (width_of text) false

-- the function, where the type behind its dot has this width
abbrev pub typed_callee : ℕ → Callee → Option (List ℕ) → Option Callee → Option Callee
typed_callee w called None other = other
typed_callee w called (Some text) other = if has_width w text then Some called else None

-- the function of this name whose type has this width
unfoldable pub callee_of : ℕ → List ℕ → Option Callee
callee_of w name =
    typed_callee w (callee.Bin bin.Smin) (behind (codes "llvm.smin.") name) (
    typed_callee w (callee.Bin bin.Smax) (behind (codes "llvm.smax.") name) (
    typed_callee w (callee.Bin bin.Umin) (behind (codes "llvm.umin.") name) (
    typed_callee w (callee.Bin bin.Umax) (behind (codes "llvm.umax.") name) (
    typed_callee w callee.Abs (behind (codes "llvm.abs.") name) None))))

-- ---- flags

abbrev pub no_flags : Flags
no_flags = record { nuw = false; nsw = false; exact = false; nneg = false; samesign = false; disjoint = false }

abbrev pub wrap_flags : Flags
wrap_flags = record no_flags { nuw = true; nsw = true }

-- the flags that an operation may have
abbrev pub takes : BinKind → Flags
takes bin.Add = wrap_flags
takes bin.Sub = wrap_flags
takes bin.Mul = wrap_flags
takes bin.Shl = wrap_flags
takes bin.Lshr = record no_flags { exact = true }
takes bin.Ashr = record no_flags { exact = true }
takes bin.Udiv = record no_flags { exact = true }
takes bin.Sdiv = record no_flags { exact = true }
takes bin.Or = record no_flags { disjoint = true }
takes other = no_flags

abbrev pub cast_takes : CastKind → Flags
cast_takes cast.Zext = record no_flags { nneg = true }
cast_takes cast.Sext = no_flags
cast_takes cast.Trunc = wrap_flags

abbrev pub compare_takes : Flags
compare_takes = record no_flags { samesign = true }

abbrev pub once : Bool → Bool → Flags → Option Flags
once allowed there more = if allowed && not there then Some more else None

-- a flag more, where it is one that is allowed and isn't there yet
unfoldable pub add_flag : Flags → Flags → List ℕ → Option Flags
add_flag allowed so_far word =
    if bytes_eq word (codes "nuw") then once allowed.nuw so_far.nuw (record so_far { nuw = true })
    else (if bytes_eq word (codes "nsw") then once allowed.nsw so_far.nsw (record so_far { nsw = true })
    else (if bytes_eq word (codes "exact") then once allowed.exact so_far.exact (record so_far { exact = true })
    else (if bytes_eq word (codes "nneg") then once allowed.nneg so_far.nneg (record so_far { nneg = true })
    else (if bytes_eq word (codes "samesign") then once allowed.samesign so_far.samesign (record so_far { samesign = true })
    else (if bytes_eq word (codes "disjoint") then once allowed.disjoint so_far.disjoint (record so_far { disjoint = true })
    else None)))))
