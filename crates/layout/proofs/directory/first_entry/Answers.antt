use Rattle.std.proofs.Common.{◌≡◌, ◌+◌, ℕ, List, ◌++◌, length, drop, sym, ap, ◌∙◌, arith}
use Rattle.std.proofs.lemmas.List.{length-append, drop_at}
use Rattle.std.proofs.lemmas.Option.{none-some}
use Rattle.layout.specs.Directory.{Named, entry_bytes, named_of}
use Rattle.layout.proofs.EntryLaws.{entry_short, entry_takes, first_is, length-entry_bytes, none_is, numbered}
use Rattle.layout.proofs.Formats.{some_is}
use Rattle.layout.proofs.directory.first_entry.Goals as goal

pub returns-in_default-clause-none : goal.returns-in_default-clause-none
returns-in_default-clause-none c = λ inodes entries limit holds. none_is inodes c.args.bytes.now entries limit holds (λ e is read. none-some e (c.in_default.ensures ∙ read))

pub split_at-requires : goal.split_at-requires
split_at-requires c =
    let t = entry_takes c.args.bytes.now (named_of c.in-Some.entry) (λ i. omega (arith, c.type_inv.bytes i)) (sym c.in-Some.ensures) in
    omega (arith, ap length t.1, length-append (entry_bytes (named_of c.in-Some.entry)) t.0, length-entry_bytes (named_of c.in-Some.entry))

pub returns-clause-spelled : goal.returns-clause-spelled
returns-clause-spelled c =
    let e = named_of c.in-Some.entry in
    let t = entry_takes c.args.bytes.now e (λ i. omega (arith, c.type_inv.bytes i)) (sym c.in-Some.ensures) in
    let rest : c.split_at.result.1.now ≡ t.0 = c.split_at.ensures.back ∙ ap (drop (5 + length e.name)) t.1 ∙ drop_at (entry_bytes e) t.0 (5 + length e.name) (length-entry_bytes e) in
    t.1 ∙ ap (λ (r : List ℕ). entry_bytes e ++ r) (sym rest)

pub returns-clause-short : goal.returns-clause-short
returns-clause-short c = entry_short c.args.bytes.now (named_of c.in-Some.entry) (λ i. omega (arith, c.type_inv.bytes i)) (sym c.in-Some.ensures)

pub returns-clause-first : goal.returns-clause-first
returns-clause-first c = λ inodes entries limit holds.
    let e = named_of c.in-Some.entry in
    let t = entry_takes c.args.bytes.now e (λ i. omega (arith, c.type_inv.bytes i)) (sym c.in-Some.ensures) in
    first_is inodes c.args.bytes.now entries e limit holds (sym c.in-Some.ensures) (numbered c.args.bytes.now t.0 e (length c.args.bytes.now) (omega arith) (omega arith) t.1)

pub returns-then-get-eq0-clause-none : goal.returns-then-get-eq0-clause-none
returns-then-get-eq0-clause-none c = λ inodes entries limit holds. none_is inodes c.args.bytes.now entries limit holds (λ e is read.
    let same : (named_of c.in-Some.entry).number ≡ e.number = ap (λ (n : Named). n.number) (some_is (named_of c.in-Some.entry) e (c.in-Some.ensures ∙ read)) in
    omega (arith, same, is.ordinary))
