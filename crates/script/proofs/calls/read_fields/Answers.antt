use Rattle.std.proofs.Common.{[], ◌∷◌, map, rules}
use Rattle.script.specs.Lines.{call_words, IsPathCallInForm}
use Rattle.script.specs.Verbs.{call_form, verb_name}
use Rattle.script.specs.declared.verb.Verb.TheVariants as verb
use Rattle.script.proofs.CommandLemmas.{at_form, change_read}
use Rattle.script.proofs.calls.read_fields.Goals as goal

pub returns-in_err-path-in-List : goal.returns-in_err-path-in-List
returns-in_err-path-in-List c = at_form call_form call_words IsPathCallInForm (λ v. verb_name v ∷ []) c.args.verb verb.List (map (λ word. word.now) c.args.words.now) c.from_residual.result c.in-List.is (search rules)

pub returns-in_err-path-in-Entries : goal.returns-in_err-path-in-Entries
returns-in_err-path-in-Entries c = at_form call_form call_words IsPathCallInForm (λ v. verb_name v ∷ []) c.args.verb verb.Entries (map (λ word. word.now) c.args.words.now) c.from_residual-in_err-path-in-Entries.result c.in-Entries.is (search rules)

pub returns-in_err-path-in-Stat : goal.returns-in_err-path-in-Stat
returns-in_err-path-in-Stat c = at_form call_form call_words IsPathCallInForm (λ v. verb_name v ∷ []) c.args.verb verb.Stat (map (λ word. word.now) c.args.words.now) c.from_residual-in_err-path-in-Stat.result c.in-Stat.is (search rules)

pub returns-in_err-path-in-Lstat : goal.returns-in_err-path-in-Lstat
returns-in_err-path-in-Lstat c = at_form call_form call_words IsPathCallInForm (λ v. verb_name v ∷ []) c.args.verb verb.Lstat (map (λ word. word.now) c.args.words.now) c.from_residual-in_err-path-in-Lstat.result c.in-Lstat.is (search rules)

pub returns-in_err-path-in-Attr : goal.returns-in_err-path-in-Attr
returns-in_err-path-in-Attr c = at_form call_form call_words IsPathCallInForm (λ v. verb_name v ∷ []) c.args.verb verb.Attr (map (λ word. word.now) c.args.words.now) c.from_residual-in_err-path-in-Attr.result c.in-Attr.is (search rules)

pub returns-in_err-path-in-Lattr : goal.returns-in_err-path-in-Lattr
returns-in_err-path-in-Lattr c = at_form call_form call_words IsPathCallInForm (λ v. verb_name v ∷ []) c.args.verb verb.Lattr (map (λ word. word.now) c.args.words.now) c.from_residual-in_err-path-in-Lattr.result c.in-Lattr.is (search rules)

pub returns-in_err-path-in-Readlink : goal.returns-in_err-path-in-Readlink
returns-in_err-path-in-Readlink c = at_form call_form call_words IsPathCallInForm (λ v. verb_name v ∷ []) c.args.verb verb.Readlink (map (λ word. word.now) c.args.words.now) c.from_residual-in_err-path-in-Readlink.result c.in-Readlink.is (search rules)

pub returns-in_err-path-in-Get : goal.returns-in_err-path-in-Get
returns-in_err-path-in-Get c = at_form call_form call_words IsPathCallInForm (λ v. verb_name v ∷ []) c.args.verb verb.Get (map (λ word. word.now) c.args.words.now) c.from_residual-in_err-path-in-Get.result c.in-Get.is (search rules)

pub returns-in_default : goal.returns-in_default
returns-in_default c = change_read c.args.verb _ _ c.in_default.not-List c.in_default.not-Entries c.in_default.not-Stat c.in_default.not-Lstat c.in_default.not-Attr c.in_default.not-Lattr c.in_default.not-Readlink c.in_default.not-Get c.read_change.ensures
