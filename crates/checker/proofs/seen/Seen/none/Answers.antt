use Rattle.std.proofs.Common.{◌∙◌, ap, is_some, sym}
use Rattle.std.proofs.lemmas.Bool.{false≢true}
use Rattle.checker.proofs.seen.Seen.none.Goals as goal

pub returns : goal.returns
returns c = λ names none. record {
  has = λ x some. absurd (false≢true (sym (ap is_some (none x)) ∙ some));
  had = λ x risen. absurd (c.new.ensures x risen);
}
