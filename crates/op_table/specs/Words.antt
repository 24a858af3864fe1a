-- The words of each table, in order. They are those of the LLVM Language Reference, each in its section.
use Rattle.std.specs.Prelude.{ℕ, List, [], ◌∷◌, codes}

-- "Functions": what may stand between `define` and the type of the result
abbrev pub header : List (List ℕ)
header =
    codes "private" ∷ codes "internal" ∷ codes "available_externally" ∷ codes "linkonce" ∷ codes "weak" ∷ codes "linkonce_odr" ∷ codes "weak_odr" ∷ codes "external"
    ∷ codes "dso_local" ∷ codes "dso_preemptable"
    ∷ codes "default" ∷ codes "hidden" ∷ codes "protected"
    ∷ codes "dllimport" ∷ codes "dllexport"
    ∷ codes "ccc" ∷ codes "fastcc" ∷ codes "coldcc"
    ∷ codes "zeroext" ∷ codes "signext" ∷ codes "inreg" ∷ codes "noundef"
    ∷ []

-- "Parameter Attributes": what may stand behind the type of a parameter
abbrev pub attribute : List (List ℕ)
attribute = codes "noundef" ∷ codes "zeroext" ∷ codes "signext" ∷ codes "inreg" ∷ []

-- "Instruction Reference": what may stand behind `%r =`, but for calls
abbrev pub opcode : List (List ℕ)
opcode =
    codes "phi"
    ∷ codes "add" ∷ codes "sub" ∷ codes "mul" ∷ codes "shl"
    ∷ codes "lshr" ∷ codes "ashr"
    ∷ codes "and" ∷ codes "or" ∷ codes "xor"
    ∷ codes "udiv" ∷ codes "sdiv" ∷ codes "urem" ∷ codes "srem"
    ∷ codes "icmp"
    ∷ codes "zext" ∷ codes "sext" ∷ codes "trunc"
    ∷ codes "select"
    ∷ []

-- "Terminator Instructions": what ends a block
abbrev pub terminator : List (List ℕ)
terminator = codes "ret" ∷ codes "unreachable" ∷ codes "br" ∷ codes "switch" ∷ []

-- "Binary Operations", "Bitwise Binary Operations", "Conversion Operations", "icmp Instruction": what may
-- stand between an opcode and what follows it
abbrev pub flag : List (List ℕ)
flag = codes "nuw" ∷ codes "nsw" ∷ codes "exact" ∷ codes "nneg" ∷ codes "samesign" ∷ codes "disjoint" ∷ []

-- "icmp Instruction": the conditions
abbrev pub predicate : List (List ℕ)
predicate =
    codes "eq" ∷ codes "ne"
    ∷ codes "ugt" ∷ codes "uge" ∷ codes "ult" ∷ codes "ule"
    ∷ codes "sgt" ∷ codes "sge" ∷ codes "slt" ∷ codes "sle"
    ∷ []

-- "call Instruction": what begins a call
abbrev pub call : List (List ℕ)
call = codes "call" ∷ codes "tail" ∷ codes "notail" ∷ []

-- "Standard C/C++ Library Intrinsics": the called names with a result, without their last `.` and type
abbrev pub valued_call : List (List ℕ)
valued_call = codes "llvm.smin" ∷ codes "llvm.smax" ∷ codes "llvm.umin" ∷ codes "llvm.umax" ∷ codes "llvm.abs" ∷ []

-- "llvm.assume Intrinsic": the called name without a result
abbrev pub void_call : List (List ℕ)
void_call = codes "llvm.assume" ∷ []
