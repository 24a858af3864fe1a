-- What a file spells is formed.
use Rattle.std.proofs.Common.{◌≡◌, ℕ, List, [], Result, Ok, Err, IfOk, refl, sym, subst}
use Rattle.ll_token.proofs.ScanLaws.{each_is}
use Rattle.ll_tree.specs.declared.func.Func.{Func}
use Rattle.ll_tree.specs.Formed.{IsFormed}
use Rattle.ll_grammar.specs.Tokens.{AreNamed}
use Rattle.ll_grammar.proofs.CursorLaws.{seen_named}
use Rattle.ll_grammar.proofs.FormedLaws.{function_formed}
use Rattle.ll_reader.specs.declared.fault.ReadFault.{ReadFault}
use Rattle.ll_reader.specs.FileSpells.{section_text, FileSpells}

pub spelled_formed : (text name : List ℕ) (func : Func) → FileSpells text name func → IsFormed func
spelled_formed text name func (section, ts, (finds, tokens, (read, rest, scans, last), seen_so), spelled) =
    let body : List ℕ = section_text text section in
    let each = each_is body section.line [] body tokens read rest refl scans in
    function_formed func ts (subst AreNamed (sym seen_so) (seen_named body 0 tokens each)) spelled

pub read_formed : (text name : List ℕ) (result : Result Func ReadFault) → IfOk result (FileSpells text name) → IfOk result IsFormed
read_formed text name (Ok func) spells = spelled_formed text name func spells
read_formed text name (Err fault) spells = tt
