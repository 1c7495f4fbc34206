use Rattle.std.proofs.Common.{[], ◌∷◌, map, rules}
use Rattle.script.specs.Lines.{command_words, IsCommandInForm}
use Rattle.script.specs.Verbs.{file_form, verb_name}
use Rattle.script.specs.declared.verb.Verb.TheVariants as verb
use Rattle.script.proofs.CommandLemmas.{at_form, not_file}
use Rattle.script.proofs.commands.read_file.Goals as goal

pub returns-in_err-fd-in-Read : goal.returns-in_err-fd-in-Read
returns-in_err-fd-in-Read c = at_form file_form command_words IsCommandInForm (λ v. verb_name v ∷ []) c.args.verb verb.Read (map (λ word. word.now) c.args.words.now) c.from_residual.result c.in-Read.is (search rules)

pub returns-in_err-fd-in-Write : goal.returns-in_err-fd-in-Write
returns-in_err-fd-in-Write c = at_form file_form command_words IsCommandInForm (λ v. verb_name v ∷ []) c.args.verb verb.Write (map (λ word. word.now) c.args.words.now) c.from_residual-in_err-fd-in-Write.result c.in-Write.is (search rules)

pub returns-in_err-fd-in-Pread : goal.returns-in_err-fd-in-Pread
returns-in_err-fd-in-Pread c = at_form file_form command_words IsCommandInForm (λ v. verb_name v ∷ []) c.args.verb verb.Pread (map (λ word. word.now) c.args.words.now) c.from_residual-in_err-fd-in-Pread.result c.in-Pread.is (search rules)

pub returns-in_err-fd-in-Pwrite : goal.returns-in_err-fd-in-Pwrite
returns-in_err-fd-in-Pwrite c = at_form file_form command_words IsCommandInForm (λ v. verb_name v ∷ []) c.args.verb verb.Pwrite (map (λ word. word.now) c.args.words.now) c.from_residual-in_err-fd-in-Pwrite.result c.in-Pwrite.is (search rules)

pub returns-in_err-fd-in-Lseek : goal.returns-in_err-fd-in-Lseek
returns-in_err-fd-in-Lseek c = at_form file_form command_words IsCommandInForm (λ v. verb_name v ∷ []) c.args.verb verb.Lseek (map (λ word. word.now) c.args.words.now) c.from_residual-in_err-fd-in-Lseek.result c.in-Lseek.is (search rules)

pub returns-in_err-fd-in-Ftruncate : goal.returns-in_err-fd-in-Ftruncate
returns-in_err-fd-in-Ftruncate c = at_form file_form command_words IsCommandInForm (λ v. verb_name v ∷ []) c.args.verb verb.Ftruncate (map (λ word. word.now) c.args.words.now) c.from_residual-in_err-fd-in-Ftruncate.result c.in-Ftruncate.is (search rules)

pub returns-in_err-fd-in-Fchmod : goal.returns-in_err-fd-in-Fchmod
returns-in_err-fd-in-Fchmod c = at_form file_form command_words IsCommandInForm (λ v. verb_name v ∷ []) c.args.verb verb.Fchmod (map (λ word. word.now) c.args.words.now) c.from_residual-in_err-fd-in-Fchmod.result c.in-Fchmod.is (search rules)

pub returns-in_err-fd-in-Fchown : goal.returns-in_err-fd-in-Fchown
returns-in_err-fd-in-Fchown c = at_form file_form command_words IsCommandInForm (λ v. verb_name v ∷ []) c.args.verb verb.Fchown (map (λ word. word.now) c.args.words.now) c.from_residual-in_err-fd-in-Fchown.result c.in-Fchown.is (search rules)

pub returns-in_err-fd-in-Futimens : goal.returns-in_err-fd-in-Futimens
returns-in_err-fd-in-Futimens c = at_form file_form command_words IsCommandInForm (λ v. verb_name v ∷ []) c.args.verb verb.Futimens (map (λ word. word.now) c.args.words.now) c.from_residual-in_err-fd-in-Futimens.result c.in-Futimens.is (search rules)

pub returns-in_default : goal.returns-in_default
returns-in_default c = record {
  spelled = tt;
  good = tt;
  refused = λ _ vs _ _. not_file c.args.verb c.in_default.not-Read c.in_default.not-Write c.in_default.not-Pread c.in_default.not-Pwrite c.in_default.not-Lseek c.in_default.not-Ftruncate c.in_default.not-Fchmod c.in_default.not-Fchown c.in_default.not-Futimens vs;
}
