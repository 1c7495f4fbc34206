use Rattle.std.proofs.Common.{rules, arith, ◌∙◌, ap, ◌≡◌, bytes_eq, true, false, length, ◌^◌, ◌≤◌}
use Rattle.std.proofs.lemmas.List.{length-append}
use Rattle.layout.specs.Directory.{entry_bytes, named_of}
use Rattle.layout.proofs.EntryLaws.{length-entry_bytes, none_left, one_first}
use Rattle.layout.specs.DirectoryNames.{number_of}
use Rattle.entries.proofs.EntryLists.{found_behind, removed_first, removed_behind}
use Rattle.entries.proofs.ChangeLaws.{fewer_first, fewer_behind}
use Rattle.entries.proofs.entries.+place_of.Goals as goal

pub returns-in_default-clause-missing : goal.returns-in_default-clause-missing
returns-in_default-clause-missing t c = λ entries holds.
    let limit : c.args.inodes ≤ 2 ^ 32 = omega arith in
    ap (number_of c.args.name.now) (none_left c.args.inodes c.args.bytes.now entries limit holds (c.in_default.ensures.none c.args.inodes entries limit holds))

pub returns-then-eq-clause-found : goal.returns-then-eq-clause-found
returns-then-eq-clause-found t c = λ entries holds.
    let limit : c.args.inodes ≤ 2 ^ 32 = omega arith in
    let b = one_first c.args.inodes c.args.bytes.now c.in-Some.rest.now (named_of c.in-Some.entry) entries limit (c.in-Some.ensures.first c.args.inodes entries limit holds) c.in-Some.ensures.spelled holds in
    let same : bytes_eq c.args.name.now c.in-Some.entry.name.now ≡ true = search rules in
    removed_first c.args.inodes c.args.bytes.now c.in-Some.rest.now c.args.name.now (named_of c.in-Some.entry) entries b.others c.encoded_len.result c.in-Some.ensures.spelled b.are b.holds same c.encoded_len.ensures

pub returns-in_default-place_of-clause-missing : goal.returns-in_default-place_of-clause-missing
returns-in_default-place_of-clause-missing t c = λ entries holds.
    let limit : c.args.inodes ≤ 2 ^ 32 = omega arith in
    let b = one_first c.args.inodes c.args.bytes.now c.in-Some.rest.now (named_of c.in-Some.entry) entries limit (c.in-Some.ensures.first c.args.inodes entries limit holds) c.in-Some.ensures.spelled holds in
    let apart : bytes_eq c.args.name.now c.in-Some.entry.name.now ≡ false = search rules in
    found_behind c.args.name.now (named_of c.in-Some.entry) entries b.others b.are apart ∙ c.in_default-place_of.ensures.missing b.others b.holds

pub returns-clause-found : goal.returns-clause-found
returns-clause-found t c = λ entries holds.
    let limit : c.args.inodes ≤ 2 ^ 32 = omega arith in
    let b = one_first c.args.inodes c.args.bytes.now c.in-Some.rest.now (named_of c.in-Some.entry) entries limit (c.in-Some.ensures.first c.args.inodes entries limit holds) c.in-Some.ensures.spelled holds in
    let apart : bytes_eq c.args.name.now c.in-Some.entry.name.now ≡ false = search rules in
    removed_behind c.args.inodes c.args.bytes.now c.in-Some.rest.now c.args.name.now (named_of c.in-Some.entry) entries b.others c.in-Some-place_of.at c.in-Some-place_of.count c.encoded_len-2.result (c.in-Some.ensures.first c.args.inodes entries limit holds) c.in-Some.ensures.spelled b.are apart c.encoded_len-2.ensures (c.in-Some-place_of.ensures.found b.others b.holds)

pub returns-then-eq-clause-fewer : goal.returns-then-eq-clause-fewer
returns-then-eq-clause-fewer t c = λ entries holds.
    let limit : c.args.inodes ≤ 2 ^ 32 = omega arith in
    let b = one_first c.args.inodes c.args.bytes.now c.in-Some.rest.now (named_of c.in-Some.entry) entries limit (c.in-Some.ensures.first c.args.inodes entries limit holds) c.in-Some.ensures.spelled holds in
    let same : bytes_eq c.args.name.now c.in-Some.entry.name.now ≡ true = search rules in
    fewer_first c.args.name.now (named_of c.in-Some.entry) entries b.others c.encoded_len.result b.are same c.encoded_len.ensures

pub returns-clause-fewer : goal.returns-clause-fewer
returns-clause-fewer t c = λ entries holds.
    let limit : c.args.inodes ≤ 2 ^ 32 = omega arith in
    let b = one_first c.args.inodes c.args.bytes.now c.in-Some.rest.now (named_of c.in-Some.entry) entries limit (c.in-Some.ensures.first c.args.inodes entries limit holds) c.in-Some.ensures.spelled holds in
    let apart : bytes_eq c.args.name.now c.in-Some.entry.name.now ≡ false = search rules in
    fewer_behind c.args.name.now (named_of c.in-Some.entry) entries b.others c.in-Some-place_of.count b.are apart (c.in-Some-place_of.ensures.fewer b.others b.holds)

pub place_of-requires : goal.place_of-requires
place_of-requires t c = (omega (arith, ap length c.in-Some.ensures.spelled, length-append (entry_bytes (named_of c.in-Some.entry)) c.in-Some.rest.now, length-entry_bytes (named_of c.in-Some.entry)), tt)
