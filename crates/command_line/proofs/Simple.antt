-- The program's command is one of which clap's matches are a function of the words.
use Rattle.std.proofs.Common.{◌≡◌, refl, true}
use Rattle.clap.specs.Words.{is_simple, is_simple_and_free}
use Rattle.clap.proofs.OnLiterals.{clap_on_literals}
use Rattle.command_line.specs.Arguments.{wafl_app}

pub wafl_is_simple : is_simple wafl_app ≡ true
unfolding clap_on_literals wafl_app
wafl_is_simple = refl

pub wafl_is_free : is_simple_and_free wafl_app ≡ true
unfolding clap_on_literals wafl_app
wafl_is_free = refl
