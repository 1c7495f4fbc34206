use Rattle.std.proofs.Common.{arith, ◌≤◌, ◌^◌, ◌∙◌, inl, inr, ap, sym, subst, bytes_eq}
use Rattle.std.proofs.lemmas.Bool.{cases_Bool}
use Rattle.layout.specs.Directory.{named_of}
use Rattle.layout.specs.DirectoryNames.{number_of}
use Rattle.model.proofs.OptionLaws.{none_some}
use Rattle.entries.specs.Marks.{HasMarks}
use Rattle.layout.proofs.EntryLaws.{none_left, one_first}
use Rattle.entries.proofs.EntryLists.{found_behind}
use Rattle.entries.proofs.Once.{keeps_name}
use Rattle.entries.proofs.MissingLaws.{same_name}
use Rattle.entries.proofs.marks.+mark_each.Goals as goal

pub returns-in-End-clause-marked : goal.returns-in-End-clause-marked
returns-in-End-clause-marked t c = λ entries holds name n is.
    let limit : c.args.inodes ≤ 2 ^ 32 = omega arith in
    none_some (sym (ap (number_of name) (none_left c.args.inodes c.args.bytes.now entries limit holds c.in-End.ensures)) ∙ is)

pub returns-in-Entry-clause-marked : goal.returns-in-Entry-clause-marked
returns-in-Entry-clause-marked t c = λ entries holds name n is.
    let limit : c.args.inodes ≤ 2 ^ 32 = omega arith in
    let e = named_of c.in-Entry.entry in
    let b = one_first c.args.inodes c.args.bytes.now c.in-Entry.rest.now e entries limit c.in-Entry.ensures.0 c.in-Entry.ensures.1 holds in
    elim (cases_Bool (bytes_eq name c.in-Entry.entry.name.now)) [
      | inl here ↦
          let m = c.mark.ensures.marked in
          subst (HasMarks c.mark_each.new.marks) (sym (same_name name c.in-Entry.entry.name.now here)) (keeps_name c.mark.new.marks c.mark_each.new.marks c.in-Entry.entry.name.now c.mark_each.ensures.keeps m)
      | inr behind ↦ c.mark_each.ensures.marked b.others b.holds name n (sym (found_behind name e entries b.others b.are behind) ∙ is)
    ]

pub returns-in-Entry-clause-keeps : goal.returns-in-Entry-clause-keeps
returns-in-Entry-clause-keeps t c = λ i print some is. c.mark_each.ensures.keeps i print some (c.mark.ensures.keeps i print some is)
