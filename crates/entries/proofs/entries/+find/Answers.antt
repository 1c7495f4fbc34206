use Rattle.std.proofs.Common.{rules, arith, ◌∙◌, ap, sym, ◌≡◌, bytes_eq, true, false, length, ◌^◌, ◌≤◌}
use Rattle.std.proofs.lemmas.List.{length-append}
use Rattle.layout.specs.Directory.{entry_bytes, named_of}
use Rattle.layout.specs.DirectoryNames.{number_of}
use Rattle.layout.proofs.EntryLaws.{length-entry_bytes, none_left, one_first}
use Rattle.entries.proofs.EntryLists.{found_here, found_behind}
use Rattle.entries.proofs.entries.+find.Goals as goal

pub returns-in_default-clause-found : goal.returns-in_default-clause-found
returns-in_default-clause-found t c = λ entries holds.
    let limit : c.args.inodes ≤ 2 ^ 32 = omega arith in
    sym (ap (number_of c.args.name.now) (none_left c.args.inodes c.args.bytes.now entries limit holds (c.in_default.ensures.none c.args.inodes entries limit holds)))

pub find-requires : goal.find-requires
find-requires t c = (omega (arith, ap length c.in-Some.ensures.spelled, length-append (entry_bytes (named_of c.in-Some.entry)) c.in-Some.rest.now, length-entry_bytes (named_of c.in-Some.entry)), tt)

pub returns-then-eq-clause-found : goal.returns-then-eq-clause-found
returns-then-eq-clause-found t c = λ entries holds.
    let limit : c.args.inodes ≤ 2 ^ 32 = omega arith in
    let is = c.in-Some.ensures.first c.args.inodes entries limit holds in
    let b = one_first c.args.inodes c.args.bytes.now c.in-Some.rest.now (named_of c.in-Some.entry) entries limit is c.in-Some.ensures.spelled holds in
    let same : bytes_eq c.args.name.now c.in-Some.entry.name.now ≡ true = search rules in
    c.ordinary.ensures.same (is.ordinary, is.below) ∙ sym (found_here c.args.name.now (named_of c.in-Some.entry) entries b.others b.are same)

pub returns-else-eq-clause-found : goal.returns-else-eq-clause-found
returns-else-eq-clause-found t c = λ entries holds.
    let limit : c.args.inodes ≤ 2 ^ 32 = omega arith in
    let is = c.in-Some.ensures.first c.args.inodes entries limit holds in
    let b = one_first c.args.inodes c.args.bytes.now c.in-Some.rest.now (named_of c.in-Some.entry) entries limit is c.in-Some.ensures.spelled holds in
    let apart : bytes_eq c.args.name.now c.in-Some.entry.name.now ≡ false = search rules in
    c.find.ensures.found b.others b.holds ∙ sym (found_behind c.args.name.now (named_of c.in-Some.entry) entries b.others b.are apart)
