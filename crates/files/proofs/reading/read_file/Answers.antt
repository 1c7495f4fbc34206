use Rattle.std.proofs.Common.{ℕ, Some, None, refl, sym, subst, ◌∙◌}
use Rattle.std.proofs.lemmas.Bool.{false≢true}
use Rattle.records.specs.Reading.{ReadsNumber}
use Rattle.calls.proofs.SeeSteps.{tells_all, tells_none, tells_refusal}
use Rattle.files.proofs.reading.read_file.Goals as goal

pub returns-in_err-found : goal.returns-in_err-found
returns-in_err-found g c = tells_none c.from_residual.result c.from_residual.ensures.1 c.in_err-found.ensures.looks (λ disk settled v stands. c.in_err-found.ensures.damaged disk settled v stands)

pub returns-in-Some : goal.returns-in-Some
returns-in-Some g c = tells_all c.in_ok-found.ensures.looks (λ disk settled v stands is.
    let found = subst (ReadsNumber v c.new-number.result c.args.offset c.args.count) c.in-Some.is (c.in_ok-found.ensures.found disk settled v stands) in
    (subst (λ (n : ℕ). ReadsNumber v n c.args.offset c.args.count (Some c.in-Some.text)) c.new-number.ensures found).1)

pub returns-in-None : goal.returns-in-None
returns-in-None g c = tells_refusal c.in_ok-found.ensures.looks refl (λ disk settled v stands is.
    let none = subst (ReadsNumber v c.new-number.result c.args.offset c.args.count) c.in-None.is (c.in_ok-found.ensures.found disk settled v stands) in
    false≢true (sym (subst (λ (n : ℕ). ReadsNumber v n c.args.offset c.args.count None) c.new-number.ensures none) ∙ is))
