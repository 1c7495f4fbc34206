use Rattle.std.proofs.Common.{[], ◌∷◌, map, rules}
use Rattle.script.specs.Lines.{call_words, IsPathCallInForm}
use Rattle.script.specs.Verbs.{change_form, verb_name}
use Rattle.script.specs.declared.verb.Verb.TheVariants as verb
use Rattle.script.proofs.CommandLemmas.{at_form, not_change}
use Rattle.script.proofs.calls.read_change.Goals as goal

pub returns-in_err-path-in-Mkdir : goal.returns-in_err-path-in-Mkdir
returns-in_err-path-in-Mkdir c = at_form change_form call_words IsPathCallInForm (λ v. verb_name v ∷ []) c.args.verb verb.Mkdir (map (λ word. word.now) c.args.words.now) c.from_residual.result c.in-Mkdir.is (search rules)

pub returns-in_err-path-in-Rmdir : goal.returns-in_err-path-in-Rmdir
returns-in_err-path-in-Rmdir c = at_form change_form call_words IsPathCallInForm (λ v. verb_name v ∷ []) c.args.verb verb.Rmdir (map (λ word. word.now) c.args.words.now) c.from_residual-in_err-path-in-Rmdir.result c.in-Rmdir.is (search rules)

pub returns-in_err-path-in-Unlink : goal.returns-in_err-path-in-Unlink
returns-in_err-path-in-Unlink c = at_form change_form call_words IsPathCallInForm (λ v. verb_name v ∷ []) c.args.verb verb.Unlink (map (λ word. word.now) c.args.words.now) c.from_residual-in_err-path-in-Unlink.result c.in-Unlink.is (search rules)

pub returns-in_err-old-in-Link : goal.returns-in_err-old-in-Link
returns-in_err-old-in-Link c = at_form change_form call_words IsPathCallInForm (λ v. verb_name v ∷ []) c.args.verb verb.Link (map (λ word. word.now) c.args.words.now) c.from_residual-in_err-old-in-Link.result c.in-Link.is (search rules)

pub returns-in_err-text-in-Symlink : goal.returns-in_err-text-in-Symlink
returns-in_err-text-in-Symlink c = at_form change_form call_words IsPathCallInForm (λ v. verb_name v ∷ []) c.args.verb verb.Symlink (map (λ word. word.now) c.args.words.now) c.from_residual-in_err-text-in-Symlink.result c.in-Symlink.is (search rules)

pub returns-in_err-old-in-Rename : goal.returns-in_err-old-in-Rename
returns-in_err-old-in-Rename c = at_form change_form call_words IsPathCallInForm (λ v. verb_name v ∷ []) c.args.verb verb.Rename (map (λ word. word.now) c.args.words.now) c.from_residual-in_err-old-in-Rename.result c.in-Rename.is (search rules)

pub returns-in_err-old-in-RenameNew : goal.returns-in_err-old-in-RenameNew
returns-in_err-old-in-RenameNew c = at_form change_form call_words IsPathCallInForm (λ v. verb_name v ∷ []) c.args.verb verb.RenameNew (map (λ word. word.now) c.args.words.now) c.from_residual-in_err-old-in-RenameNew.result c.in-RenameNew.is (search rules)

pub returns-in_err-path-in-Chmod : goal.returns-in_err-path-in-Chmod
returns-in_err-path-in-Chmod c = at_form change_form call_words IsPathCallInForm (λ v. verb_name v ∷ []) c.args.verb verb.Chmod (map (λ word. word.now) c.args.words.now) c.from_residual-in_err-path-in-Chmod.result c.in-Chmod.is (search rules)

pub returns-in_err-path-in-Chown : goal.returns-in_err-path-in-Chown
returns-in_err-path-in-Chown c = at_form change_form call_words IsPathCallInForm (λ v. verb_name v ∷ []) c.args.verb verb.Chown (map (λ word. word.now) c.args.words.now) c.from_residual-in_err-path-in-Chown.result c.in-Chown.is (search rules)

pub returns-in_err-path-in-Lchown : goal.returns-in_err-path-in-Lchown
returns-in_err-path-in-Lchown c = at_form change_form call_words IsPathCallInForm (λ v. verb_name v ∷ []) c.args.verb verb.Lchown (map (λ word. word.now) c.args.words.now) c.from_residual-in_err-path-in-Lchown.result c.in-Lchown.is (search rules)

pub returns-in_err-path-in-Utimens : goal.returns-in_err-path-in-Utimens
returns-in_err-path-in-Utimens c = at_form change_form call_words IsPathCallInForm (λ v. verb_name v ∷ []) c.args.verb verb.Utimens (map (λ word. word.now) c.args.words.now) c.from_residual-in_err-path-in-Utimens.result c.in-Utimens.is (search rules)

pub returns-in_err-path-in-Lutimens : goal.returns-in_err-path-in-Lutimens
returns-in_err-path-in-Lutimens c = at_form change_form call_words IsPathCallInForm (λ v. verb_name v ∷ []) c.args.verb verb.Lutimens (map (λ word. word.now) c.args.words.now) c.from_residual-in_err-path-in-Lutimens.result c.in-Lutimens.is (search rules)

pub returns-in_err-path-in-Truncate : goal.returns-in_err-path-in-Truncate
returns-in_err-path-in-Truncate c = at_form change_form call_words IsPathCallInForm (λ v. verb_name v ∷ []) c.args.verb verb.Truncate (map (λ word. word.now) c.args.words.now) c.from_residual-in_err-path-in-Truncate.result c.in-Truncate.is (search rules)

pub returns-in_err-path-in-Store : goal.returns-in_err-path-in-Store
returns-in_err-path-in-Store c = at_form change_form call_words IsPathCallInForm (λ v. verb_name v ∷ []) c.args.verb verb.Store (map (λ word. word.now) c.args.words.now) c.from_residual-in_err-path-in-Store.result c.in-Store.is (search rules)

pub returns-in_err-path-in-Set : goal.returns-in_err-path-in-Set
returns-in_err-path-in-Set c = at_form change_form call_words IsPathCallInForm (λ v. verb_name v ∷ []) c.args.verb verb.Set (map (λ word. word.now) c.args.words.now) c.from_residual-in_err-path-in-Set.result c.in-Set.is (search rules)

pub returns-in_default : goal.returns-in_default
returns-in_default c = record {
  spelled = tt;
  good = tt;
  refused = λ _ vs _ _. not_change c.args.verb c.in_default.not-Mkdir c.in_default.not-Rmdir c.in_default.not-Unlink c.in_default.not-Link c.in_default.not-Symlink c.in_default.not-Rename c.in_default.not-RenameNew c.in_default.not-Chmod c.in_default.not-Chown c.in_default.not-Lchown c.in_default.not-Utimens c.in_default.not-Lutimens c.in_default.not-Truncate c.in_default.not-Store c.in_default.not-Set vs;
}
