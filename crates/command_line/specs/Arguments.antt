-- The program's commands and their arguments, in clap's words.
use Rattle.std.specs.Prelude.{ℕ, ◌≡◌, List, [], ◌∷◌, Result, Some, IfOk, codes, fold, false, true, pos}
use Rattle.clap.specs.Lexer.{usize_max}
use Rattle.clap.specs.Words.{App, Rule, Text, app_of, new_app, new_rule, rule_of}
use Rattle.clap.specs.Words.{with_rule, with_subcommand}
use Rattle.clap.specs.declared.builder.action.ArgAction.TheVariants.{SetTrue}
use Rattle.clap.specs.declared.builder.arg.Arg.{Arg}
use Rattle.clap.specs.declared.builder.command.Command.{Command}
use Rattle.clap.specs.declared.builder.command.Command.TheViews.{out-Command}
use Rattle.clap.specs.declared.builder.value_parser.ValueParser.TheVariants.{Signed}

-- an argument known by its place, which is required
abbrev pub place_rule : Text → Rule
place_rule id = record (new_rule id) { value_names = 1; required = true }

-- an argument known by its place, which words may lack
abbrev pub last_place_rule : Text → Rule
last_place_rule id = record (new_rule id) { value_names = 1 }

-- an option without a value
abbrev pub flag_rule : Text → Rule
flag_rule id = record (new_rule id) { long = Some id; action = Some SetTrue }

-- an option with a value
abbrev pub option_rule : Text → Rule
option_rule id = record (new_rule id) { long = Some id; value_names = 1 }

-- an option of `make`, which is required: its number may have a suffix, so that clap takes each
-- text
abbrev pub size_rule : Text → Rule
size_rule id = record (option_rule id) { required = true }

-- an option whose value is a number of 32 bits from this one on
abbrev pub number_from : ℕ → Text → Rule
number_from least id = record (option_rule id) { parser = Some (Signed (pos least) (pos 4294967295)) }

-- an option that has this value where the words don't have it
abbrev pub with_default : Text → Rule → Rule
with_default text rule = record rule { defaults = text ∷ [] }

-- answers go behind one commit
abbrev pub together : Rule
together = flag_rule (codes "together")

-- answers go at once: after how many milliseconds they are durable, 1 at least
abbrev pub deferred : Rule
deferred = record (number_from 1 (codes "deferred")) {
  range = Some (record { start_inclusive = 0; end_inclusive = 1 });
}

-- all words that are left, one or more
abbrev pub all_others : Text → Rule
all_others id = record (place_rule id) {
  range = Some (record { start_inclusive = 1; end_inclusive = usize_max });
  trailing_var_arg = true;
}

abbrev pub explain : Rule
explain = flag_rule (codes "explain")

abbrev pub encoded : Rule
encoded = flag_rule (codes "encoded")

abbrev pub salvage : Rule
salvage = flag_rule (codes "salvage")

-- a command with these arguments behind the two files of an image
abbrev pub on_image : Text → List Rule → App
on_image name rules =
    fold with_rule (new_app name) (place_rule (codes "disk") ∷ place_rule (codes "nvram") ∷ rules)

abbrev pub make_app : App
make_app = on_image (codes "make")
    (size_rule (codes "blocks") ∷ size_rule (codes "inodes") ∷ size_rule (codes "half")
    ∷ flag_rule (codes "new") ∷ flag_rule (codes "force") ∷ [])

abbrev pub run_app : App
run_app = on_image (codes "run") (place_rule (codes "script") ∷ flag_rule (codes "stop")
    ∷ number_from 1 (codes "cut") ∷ with_default (codes "none") (option_rule (codes "keep"))
    ∷ with_default (codes "0") (number_from 0 (codes "bytes")) ∷ number_from 1 (codes "fail-sync")
    ∷ deferred ∷ explain ∷ [])

abbrev pub shell_app : App
shell_app = on_image (codes "shell") (together ∷ deferred ∷ explain ∷ [])

abbrev pub do_app : App
do_app = on_image (codes "do") (all_others (codes "words") ∷ encoded ∷ salvage ∷ explain ∷ [])

abbrev pub df_app : App
df_app = on_image (codes "df") (flag_rule (codes "human") ∷ salvage ∷ explain ∷ [])

abbrev pub check_app : App
check_app = on_image (codes "check") []

abbrev pub put_app : App
put_app = on_image (codes "put")
    (place_rule (codes "file") ∷ place_rule (codes "path") ∷ encoded ∷ explain ∷ [])

abbrev pub get_app : App
get_app = on_image (codes "get")
    (place_rule (codes "path") ∷ place_rule (codes "file") ∷ option_rule (codes "in") ∷ encoded
    ∷ salvage ∷ explain ∷ [])

abbrev pub restore_app : App
restore_app = on_image (codes "restore") (place_rule (codes "snapshot") ∷ place_rule (codes "path")
    ∷ last_place_rule (codes "newpath") ∷ encoded ∷ explain ∷ [])

abbrev pub serve_app : App
serve_app = on_image (codes "serve") (with_default (codes "0") (number_from 0 (codes "uid"))
    ∷ with_default (codes "0") (number_from 0 (codes "gid")) ∷ deferred ∷ explain ∷ [])

-- the program, which has a version and requires one of its commands
abbrev pub program : App
program = record (new_app (codes "wafl")) {
  top = record (new_app (codes "wafl")).top { has_version = true; subcommand_required = true };
}

unfoldable pub wafl_app : App
wafl_app = fold (λ a sub. with_subcommand a sub.top) program (make_app ∷ run_app ∷ shell_app
    ∷ do_app ∷ df_app ∷ check_app ∷ put_app ∷ get_app ∷ restore_app ∷ serve_app ∷ [])

-- an argument that is given these rules, and counts for its own command alone
abbrev pub IsArg : Rule → Arg → Type 0
IsArg rule a = (rule_of a ≡ rule) × (a.global ≡ false)

-- a command that is given these arguments, none of which counts below it
abbrev pub MakesCommand : App → Command → Type 0
MakesCommand app c = (app_of c ≡ app) × ((out-Command c).has_globals ≡ false)

-- the same of a command to which arguments are added, if there was memory
abbrev pub GrowsTo : {E : Type 0} → App → Result Command E → Type 0
GrowsTo app r = IfOk r (MakesCommand app)
