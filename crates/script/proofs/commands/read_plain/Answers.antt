use Rattle.std.proofs.Common.{[], ◌∷◌, map, refl, rules}
use Rattle.script.specs.Lines.{command_words, IsCommandInForm}
use Rattle.script.specs.Verbs.{command_form, verb_name}
use Rattle.script.specs.declared.verb.Verb.TheVariants as verb
use Rattle.model.specs.declared.command.Command.TheVariants as command
use Rattle.script.proofs.CommandLemmas.{alone_read, at_form, file_read}
use Rattle.script.proofs.commands.read_plain.Goals as goal

pub returns-in_err-path-in-Open : goal.returns-in_err-path-in-Open
returns-in_err-path-in-Open c = at_form command_form command_words IsCommandInForm (λ v. verb_name v ∷ []) c.args.verb verb.Open (map (λ word. word.now) c.args.words.now) c.from_residual.result c.in-Open.is (search rules)

pub returns-in_err-path-in-OpenStat : goal.returns-in_err-path-in-OpenStat
returns-in_err-path-in-OpenStat c = at_form command_form command_words IsCommandInForm (λ v. verb_name v ∷ []) c.args.verb verb.OpenStat (map (λ word. word.now) c.args.words.now) c.from_residual-in_err-path-in-OpenStat.result c.in-OpenStat.is (search rules)

pub returns-in_err-fd-in-Close : goal.returns-in_err-fd-in-Close
returns-in_err-fd-in-Close c = at_form command_form command_words IsCommandInForm (λ v. verb_name v ∷ []) c.args.verb verb.Close (map (λ word. word.now) c.args.words.now) c.from_residual-in_err-fd-in-Close.result c.in-Close.is (search rules)

pub returns-in_err-fd-in-Fstat : goal.returns-in_err-fd-in-Fstat
returns-in_err-fd-in-Fstat c = at_form command_form command_words IsCommandInForm (λ v. verb_name v ∷ []) c.args.verb verb.Fstat (map (λ word. word.now) c.args.words.now) c.from_residual-in_err-fd-in-Fstat.result c.in-Fstat.is (search rules)

pub returns-in_err-fd-in-Fattr : goal.returns-in_err-fd-in-Fattr
returns-in_err-fd-in-Fattr c = at_form command_form command_words IsCommandInForm (λ v. verb_name v ∷ []) c.args.verb verb.Fattr (map (λ word. word.now) c.args.words.now) c.from_residual-in_err-fd-in-Fattr.result c.in-Fattr.is (search rules)

pub returns-in_err-fd-in-Fsync : goal.returns-in_err-fd-in-Fsync
returns-in_err-fd-in-Fsync c = at_form command_form command_words IsCommandInForm (λ v. verb_name v ∷ []) c.args.verb verb.Fsync (map (λ word. word.now) c.args.words.now) c.from_residual-in_err-fd-in-Fsync.result c.in-Fsync.is (search rules)

pub returns-in_err-path-in-Extent : goal.returns-in_err-path-in-Extent
returns-in_err-path-in-Extent c = at_form command_form command_words IsCommandInForm (λ v. verb_name v ∷ []) c.args.verb verb.Extent (map (λ word. word.now) c.args.words.now) c.from_residual-in_err-path-in-Extent.result c.in-Extent.is (search rules)

pub returns-in_err-seconds-in-At : goal.returns-in_err-seconds-in-At
returns-in_err-seconds-in-At c = at_form command_form command_words IsCommandInForm (λ v. verb_name v ∷ []) c.args.verb verb.At (map (λ word. word.now) c.args.words.now) c.from_residual-in_err-seconds-in-At.result c.in-At.is (search rules)

pub returns-in_err-owner-in-As : goal.returns-in_err-owner-in-As
returns-in_err-owner-in-As c = at_form command_form command_words IsCommandInForm (λ v. verb_name v ∷ []) c.args.verb verb.As (map (λ word. word.now) c.args.words.now) c.from_residual-in_err-owner-in-As.result c.in-As.is (search rules)

pub returns-in_default : goal.returns-in_default
returns-in_default c = file_read c.args.verb _ _ c.in_default.not-Open c.in_default.not-OpenStat c.in_default.not-Close c.in_default.not-Fstat c.in_default.not-Fattr c.in_default.not-Fsync c.in_default.not-Extent c.in_default.not-At c.in_default.not-As c.in_default.not-Sync c.in_default.not-Df c.in_default.not-Statfs c.read_file.ensures

pub returns-in-Sync : goal.returns-in-Sync
returns-in-Sync c = at_form command_form command_words IsCommandInForm (λ v. verb_name v ∷ []) c.args.verb verb.Sync (map (λ word. word.now) c.args.words.now) c.read_alone.result c.in-Sync.is (alone_read (verb_name verb.Sync ∷ []) command.Sync _ _ refl tt c.read_alone.ensures.read c.read_alone.ensures.refused)

pub returns-in-Df : goal.returns-in-Df
returns-in-Df c = at_form command_form command_words IsCommandInForm (λ v. verb_name v ∷ []) c.args.verb verb.Df (map (λ word. word.now) c.args.words.now) c.read_alone-in-Df.result c.in-Df.is (alone_read (verb_name verb.Df ∷ []) command.Df _ _ refl tt c.read_alone-in-Df.ensures.read c.read_alone-in-Df.ensures.refused)

pub returns-in-Statfs : goal.returns-in-Statfs
returns-in-Statfs c = at_form command_form command_words IsCommandInForm (λ v. verb_name v ∷ []) c.args.verb verb.Statfs (map (λ word. word.now) c.args.words.now) c.read_alone-in-Statfs.result c.in-Statfs.is (alone_read (verb_name verb.Statfs ∷ []) command.Statfs _ _ refl tt c.read_alone-in-Statfs.ensures.read c.read_alone-in-Statfs.ensures.refused)
