-- Decimals that are parsed.
use Rattle.std.proofs.Common.{◌≡◌, ◌<◌, ◌^◌, ℕ, List, Option, Some, None, Result, Ok, Err, sym, ◌∙◌, ap, refl, arith}
use Rattle.std.specs.Fmt.{decimal}
use Rattle.std.specs.Str.{IsUtf8}
use Rattle.std.specs.Str.Parse.{ParsesUnsigned}
use Rattle.std.proofs.lemmas.Fmt.{IsAscii-decimal, parse-decimal}
use Rattle.std.proofs.lemmas.Str.{IsUtf8-from_ascii}

pub is_text : (word : List ℕ) (n : ℕ) → n < 2 ^ 32 → word ≡ decimal n → IsUtf8 word
is_text word n small is = rw is (IsUtf8-from_ascii (decimal n) (IsAscii-decimal n (omega (arith, small))))

-- what is parsed of a decimal is its number
pub is_parsed : {E : Type 0} (text : List ℕ) (r : Result ℕ E) (n : ℕ) → n < 2 ^ 32 → text ≡ decimal n → ParsesUnsigned 32 10 text r → r ≡ Ok n
is_parsed text r n small is parses = parse-decimal 32 n text r small (omega (arith, small)) is parses

pub same_number : {E : Type 0} (text : List ℕ) (r : Result ℕ E) (n number : ℕ) → n < 2 ^ 32 → text ≡ decimal n → ParsesUnsigned 32 10 text r → r ≡ Ok number → number ≡ n
same_number text r n number small is parses ok =
    let both : Ok number ≡ Ok n = sym ok ∙ is_parsed text r n small is parses in
    cc both
