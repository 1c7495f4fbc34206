use Rattle.std.proofs.Common.{rules, arith, ◌≡◌, ◌∙◌, ◌^◌, ◌≤◌, List, [], ◌∷◌, length, bytes_eq, true, false, Some, ap, sym}
use Rattle.layout.specs.Directory.{Named, HoldsEntries, named_of}
use Rattle.layout.specs.DirectoryNames.{number_of}
use Rattle.layout.proofs.EntryLaws.{length-entry_bytes, Behind, none_left, one_first}
use Rattle.entries.specs.Entries.{used_by}
use Rattle.entries.proofs.EntryLists.{found_here, found_behind}
use Rattle.entries.proofs.look.+look_from.Goals.{then-eq, else-eq}
use Rattle.entries.proofs.look.+look_from.Goals as goal

pub returns-in-End-clause-tells : goal.returns-in-End-clause-tells
returns-in-End-clause-tells t c =
    let limit : c.args.inodes ≤ 2 ^ 32 = omega arith in
    let none : (es : List Named) → HoldsEntries c.args.inodes c.args.bytes.now es → es ≡ [] = λ es h. none_left c.args.inodes c.args.bytes.now es limit h c.in-End.ensures in
    record {
      entries = [];
      holds = c.in-End.ensures;
      number = λ es h. sym (ap (number_of c.args.name.now) (none es h));
      names = λ es h. sym (ap length (none es h));
      used = λ es h. sym (ap used_by (none es h));
    }

pub returns-in_default-clause-damaged : goal.returns-in_default-clause-damaged
returns-in_default-clause-damaged t c = λ entries holds.
    let limit : c.args.inodes ≤ 2 ^ 32 = omega arith in
    let b = one_first c.args.inodes c.args.bytes.now c.in-Entry.rest.now (named_of c.in-Entry.entry) entries limit c.in-Entry.ensures.0 c.in-Entry.ensures.1 holds in
    c.in_default.ensures.damaged b.others b.holds

pub returns-after-eq-clause-tells : goal.returns-after-eq-clause-tells
returns-after-eq-clause-tells t c =
    let limit : c.args.inodes ≤ 2 ^ 32 = omega arith in
    let e = named_of c.in-Entry.entry in
    let behind : (es : List Named) → HoldsEntries c.args.inodes c.args.bytes.now es → Behind c.args.inodes c.in-Entry.rest.now e es
    = λ es h. one_first c.args.inodes c.args.bytes.now c.in-Entry.rest.now e es limit c.in-Entry.ensures.0 c.in-Entry.ensures.1 h in
    let tells = c.in-Some.ensures.tells in
    record {
      entries = e ∷ tells.entries;
      holds = (c.in-Entry.rest.now, c.in-Entry.ensures.0, c.in-Entry.ensures.1, tells.holds);
      number = λ es h.
          let b = behind es h in
          elim c.if-eq.branch [
            | then-eq w ↦
                let same : bytes_eq c.args.name.now c.in-Entry.entry.name.now ≡ true = search rules in
                w.number-is ∙ ap Some w.get.ensures ∙ sym (found_here c.args.name.now e es b.others b.are same)
            | else-eq w ↦
                let apart : bytes_eq c.args.name.now c.in-Entry.entry.name.now ≡ false = search rules in
                w.number-is ∙ tells.number b.others b.holds ∙ sym (found_behind c.args.name.now e es b.others b.are apart)
          ];
      names = λ es h. let b = behind es h in omega (arith, ap length b.are, tells.names b.others b.holds);
      used = λ es h. let b = behind es h in omega (arith, ap used_by b.are, c.encoded_len.ensures, tells.used b.others b.holds);
    }

pub returns-after-eq-clause-small : goal.returns-after-eq-clause-small
returns-after-eq-clause-small t c = omega (arith, c.in-Some.ensures.small, c.encoded_len.ensures, length-entry_bytes (named_of c.in-Entry.entry), c.in-Entry.ensures.0.name.short)
