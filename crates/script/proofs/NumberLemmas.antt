-- The word of a number is read back as it.
use Rattle.std.proofs.Common.{◌≡◌, ◌^◌, ◌<◌, ℕ, ℤ, List, Result, Option, Ok, Some, arith, rules, sym, ◌∙◌, ap, subst}
use Rattle.std.proofs.lemmas.Fmt.{parse-decimal, parse-signed_decimal, IsAscii-decimal, IsAscii-signed}
use Rattle.std.proofs.lemmas.Str.{IsUtf8-from_ascii}
use Rattle.std.specs.Fmt.{decimal, signed_decimal}
use Rattle.std.specs.Int.RustNames.{FitsSigned}
use Rattle.std.specs.Str.{IsUtf8}
use Rattle.std.specs.Str.Parse.{ParsesSigned, ParsesUnsigned}
use Rattle.std.specs.Result.{result_ok}
use lib.Signed.{mag}
use mir.Syntax.{w64}

pub small : (n : ℕ) → n < 2 ^ 32 → n < 2 ^ 64
small n fits = omega (arith, fits)

pub small_mag : (z : ℤ) → FitsSigned w64 z → mag z < 2 ^ 63
small_mag z fits = search rules

pub count_is_text : (word : List ℕ) (n : ℕ) → n < 2 ^ 32 → word ≡ decimal n → IsUtf8 word
count_is_text word n fits e = subst IsUtf8 (sym e) (IsUtf8-from_ascii (decimal n) (IsAscii-decimal n (small n fits)))

pub is_count : {E : Type 0} (word text : List ℕ) (r : Result ℕ E) (n : ℕ) → text ≡ word → ParsesUnsigned 32 10 text r → n < 2 ^ 32 → word ≡ decimal n → r ≡ Ok n
is_count word text r n same parses fits e = parse-decimal 32 n text r fits (small n fits) (same ∙ e) parses

pub count_read : {E : Type 0} (word text : List ℕ) (r : Result ℕ E) (o : Option ℕ) (n : ℕ) → text ≡ word → ParsesUnsigned 32 10 text r → o ≡ result_ok r → n < 2 ^ 32 → word ≡ decimal n → o ≡ Some n
count_read word text r o n same parses was fits e = was ∙ ap result_ok (is_count word text r n same parses fits e)

pub offset_is_text : (word : List ℕ) (z : ℤ) → FitsSigned w64 z → word ≡ signed_decimal z → IsUtf8 word
offset_is_text word z fits e = subst IsUtf8 (sym e) (IsUtf8-from_ascii (signed_decimal z) (IsAscii-signed z (small_mag z fits)))

pub is_offset : {E : Type 0} (word text : List ℕ) (r : Result ℤ E) (z : ℤ) → text ≡ word → ParsesSigned w64 10 text r → FitsSigned w64 z → word ≡ signed_decimal z → r ≡ Ok z
is_offset word text r z same parses fits e = parse-signed_decimal w64 z text r fits (small_mag z fits) (same ∙ e) parses

pub offset_read : {E : Type 0} (word text : List ℕ) (r : Result ℤ E) (o : Option ℤ) (z : ℤ) → text ≡ word → ParsesSigned w64 10 text r → o ≡ result_ok r → FitsSigned w64 z → word ≡ signed_decimal z → o ≡ Some z
offset_read word text r o z same parses was fits e = was ∙ ap result_ok (is_offset word text r z same parses fits e)
