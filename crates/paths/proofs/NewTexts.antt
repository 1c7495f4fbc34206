-- Tests of the text of something to be made or taken away: those of any text, and one more.
use Rattle.std.proofs.Common.{◌≡◌, ◌∙◌, ℕ, List, [], ◌∷◌, Bool, Option, Some, None, sym, ap}
use Rattle.std.specs.Prelude.{◌||◌, if◌then◌else◌}
use Rattle.model.specs.declared.limits.Limits.{Limits}
use Rattle.model.proofs.TestLaws.{first_append, first_in_front}
use Rattle.model.specs.Paths.{first_refusal, is_dot, is_dot_dot, is_number_alone, last_part, new_text_tests, text_tests}
use Rattle.model.specs.declared.errno.Errno.{Errno}
use Rattle.model.specs.declared.errno.Errno.TheVariants.{EINVAL}

-- the text has no last part that is a name
abbrev has_no_name : List ℕ → Bool
has_no_name text = is_dot (last_part text) || is_dot_dot (last_part text) || is_number_alone text

pub refused_before : (limits : Limits) (text : List ℕ) (errno : Errno) → Some errno ≡ first_refusal (text_tests limits text) → Some errno ≡ first_refusal (new_text_tests limits text)
refused_before limits text errno is = sym (first_in_front (text_tests limits text) ((has_no_name text, EINVAL) ∷ []) errno (sym is))

pub refused_behind : (limits : Limits) (text : List ℕ) (nameless : Bool) (refusal : Option Errno) → None ≡ first_refusal (text_tests limits text)
    → nameless ≡ (is_dot (last_part text) || is_dot_dot (last_part text) || is_number_alone text)
    → refusal ≡ (if nameless then Some EINVAL else None) → refusal ≡ first_refusal (new_text_tests limits text)
refused_behind limits text nameless refusal passes is told =
    told ∙ ap (λ x. if x then Some EINVAL else None) is ∙ sym (first_append (text_tests limits text) ((has_no_name text, EINVAL) ∷ []) (sym passes))
