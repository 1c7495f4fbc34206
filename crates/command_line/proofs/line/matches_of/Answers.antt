use Rattle.std.proofs.Common.{◌≡◌, List, [], subst, map, true, ◌⊎◌}
use Rattle.std.specs.Prelude.{IfErr, IfOk, Result, Ok, Err}
use Rattle.clap.specs.Words.{App, FailsBy, HasMatchesOf, IsAmong, Text, fault_of, is_simple_and_free, kind_of, subcommand_rows_of}
use Rattle.clap.specs.declared.error.Error.{Error}
use Rattle.clap.specs.declared.error.kind.ErrorKind.TheVariants.{OutOfMemory}
use Rattle.clap.specs.declared.parser.matches.ArgMatches.{ArgMatches}
use Rattle.command_line.proofs.Simple.{wafl_is_free, wafl_is_simple}
use Rattle.command_line.specs.Arguments.{wafl_app}
use Rattle.command_line.specs.Lines.{command_of, faults_of}
use Rattle.command_line.proofs.line.matches_of.Goals as goal

abbrev Fit : List Text → Result ArgMatches Error → Type 0
Fit words r = IfOk r (λ m. (faults_of words ≡ []) × (subcommand_rows_of m ≡ command_of words))

abbrev Fault : List Text → Result ArgMatches Error → Type 0
Fault words r = IfErr r (λ e. (kind_of e ≡ OutOfMemory) ⊎ IsAmong (kind_of e) (faults_of words))

fit_is : (words : List Text) (r : Result ArgMatches Error) → IfOk r (HasMatchesOf wafl_app words) → FailsBy (fault_of wafl_app words) r → Fit words r
unfolding faults_of command_of
fit_is words (Ok m) has fails = (fails, (has wafl_is_simple).1)
fit_is words (Err e) has fails = tt

fault_is : (words : List Text) (r : Result ArgMatches Error) → FailsBy (fault_of wafl_app words) r → Fault words r
unfolding faults_of
fault_is words (Ok m) fails = tt
fault_is words (Err e) fails = fails

pub returns : goal.returns
returns c =
    let words = map (λ w. w.now) c.args.words.now in
    let r = c.try_get_matches_from.result in
    let app = c.in_ok-wafl_command.ensures.0 in
    let has = subst (λ (a : App). IfOk r (HasMatchesOf a words)) app c.try_get_matches_from.ensures.matches in
    let fails = subst (λ (a : App). is_simple_and_free a ≡ true → FailsBy (fault_of a words) r) app c.try_get_matches_from.ensures.kinds wafl_is_free in
    record { fit = fit_is words r has fails; fault = fault_is words r fails }
