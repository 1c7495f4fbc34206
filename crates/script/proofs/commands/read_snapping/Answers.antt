use Rattle.std.proofs.Common.{[], ◌∷◌, map, refl, rules}
use Rattle.script.specs.Lines.{command_words, IsCommandInForm}
use Rattle.script.specs.Verbs.{snap_form, verb_name}
use Rattle.script.specs.declared.verb.Verb.TheVariants as verb
use Rattle.model.specs.declared.command.Command.TheVariants as command
use Rattle.script.proofs.CommandLemmas.{alone_read, at_form, not_snapping, refused_snap, snap_read}
use Rattle.script.proofs.commands.read_snapping.Goals as goal

pub returns-in_err-name-in-Take : goal.returns-in_err-name-in-Take
returns-in_err-name-in-Take c = snap_read c.args.verb (map (λ word. word.now) c.args.words.now) c.from_residual.result (at_form snap_form command_words IsCommandInForm (λ v. verb_name verb.Snap ∷ verb_name v ∷ []) c.args.verb verb.Take (map (λ word. word.now) c.args.words.now) c.from_residual.result c.in-Take.is (search rules))

pub returns-in_err-name-in-Delete : goal.returns-in_err-name-in-Delete
returns-in_err-name-in-Delete c = snap_read c.args.verb (map (λ word. word.now) c.args.words.now) c.from_residual-in_err-name-in-Delete.result (at_form snap_form command_words IsCommandInForm (λ v. verb_name verb.Snap ∷ verb_name v ∷ []) c.args.verb verb.Delete (map (λ word. word.now) c.args.words.now) c.from_residual-in_err-name-in-Delete.result c.in-Delete.is (search rules))

pub returns-in_err-name-in-Restore : goal.returns-in_err-name-in-Restore
returns-in_err-name-in-Restore c = snap_read c.args.verb (map (λ word. word.now) c.args.words.now) c.from_residual-in_err-name-in-Restore.result (at_form snap_form command_words IsCommandInForm (λ v. verb_name verb.Snap ∷ verb_name v ∷ []) c.args.verb verb.Restore (map (λ word. word.now) c.args.words.now) c.from_residual-in_err-name-in-Restore.result c.in-Restore.is (search rules))

pub returns-in-List : goal.returns-in-List
returns-in-List c = snap_read c.args.verb (map (λ word. word.now) c.args.words.now) c.read_alone.result (at_form snap_form command_words IsCommandInForm (λ v. verb_name verb.Snap ∷ verb_name v ∷ []) c.args.verb verb.List (map (λ word. word.now) c.args.words.now) c.read_alone.result c.in-List.is (alone_read (verb_name verb.Snap ∷ verb_name verb.List ∷ []) command.SnapList _ _ refl tt c.read_alone.ensures.read c.read_alone.ensures.refused))

pub returns-in_default : goal.returns-in_default
returns-in_default c = record {
  spelled = tt;
  good = tt;
  refused = λ _. refused_snap c.args.verb (map (λ word. word.now) c.args.words.now) (λ vs _ _. not_snapping c.args.verb c.in_default.not-Take c.in_default.not-Delete c.in_default.not-Restore c.in_default.not-List vs);
}
