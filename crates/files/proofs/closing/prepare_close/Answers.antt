use Rattle.std.proofs.Common.{◌≡◌, ◌<◌, ℕ, OnOk, Some, ap, subst, sym, ◌∙◌, arith}
use Rattle.model.proofs.OptionLaws.{none_some, some_same}
use Rattle.records.specs.Steps.{IsAtHand}
use Rattle.descriptors.specs.Tables.{open_at}
use Rattle.descriptors.specs.declared.open_file.OpenFile.{OpenFile}
use Rattle.files.proofs.CloseLaws.{needs_nothing, prepared}
use Rattle.files.proofs.closing.prepare_close.Goals as goal

pub returns-in-None : goal.returns-in-None
returns-in-None g c = needs_nothing (λ f is none. none_some (sym (sym c.get.ensures.file ∙ c.in-None.is) ∙ is))

pub returns-then-file-gt0 : goal.returns-then-file-gt0
returns-then-file-gt0 g c =
    let some : open_at c.args.table.now c.args.fd ≡ Some c.in-Some.file = sym c.get.ensures.file ∙ c.in-Some.is in
    let many : 0 < c.in-Some.file.links = omega arith in
    needs_nothing (λ f is none. let same = ap (λ (k : OpenFile). k.links) (some_same (sym some ∙ is)) in absurd (omega (arith, many, same, none)))

pub returns-else-file-gt0 : goal.returns-else-file-gt0
returns-else-file-gt0 g c =
    let some : open_at c.args.table.now c.args.fd ≡ Some c.in-Some.file = sym c.get.ensures.file ∙ c.in-Some.is in
    let none : c.in-Some.file.links ≡ 0 = omega arith in
    prepared c.load_to_change.ensures.looks c.in-Some.file (subst (λ (n : ℕ). OnOk c.load_to_change.result (IsAtHand c.load_to_change.new.inodes n)) c.new.ensures c.load_to_change.ensures.known)
    c.load_to_change.ensures.damaged some none
