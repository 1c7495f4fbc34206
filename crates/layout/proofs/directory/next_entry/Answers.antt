use Rattle.std.proofs.Common.{◌≡◌, ℕ, List, ◌++◌, length, drop, refl, sym, ap, subst, ◌∙◌, arith}
use Rattle.std.proofs.lemmas.Bool.{false≢true}
use Rattle.std.proofs.lemmas.List.{length-append, drop_at}
use Rattle.std.proofs.lemmas.Option.{none-some}
use Rattle.layout.specs.Directory.{Named, IsEntry, named_of, entry_bytes}
use Rattle.layout.proofs.EntryLaws.{entry_takes, first_entry}
use Rattle.layout.proofs.Formats.{some_is}
use Rattle.layout.proofs.directory.next_entry.Goals as goal

pub returns-in_default : goal.returns-in_default
returns-in_default c = λ entries holds.
    let f = first_entry c.args.inodes c.args.bytes.now entries (omega arith) holds (λ none. false≢true (c.if-is_zero.ensures.zeros.1 none)) in
    none-some f.entry (c.in_default.ensures ∙ f.read)

pub returns-then-not-fits : goal.returns-then-not-fits
returns-then-not-fits c = λ entries holds.
    let f = first_entry c.args.inodes c.args.bytes.now entries (omega arith) holds (λ none. false≢true (c.if-is_zero.ensures.zeros.1 none)) in
    let same = some_is (named_of c.in-Some.entry) f.entry (c.in-Some.ensures ∙ f.read) in
    false≢true (c.if-not-fits.ensures.1 (subst (λ (n : Named). IsEntry c.args.inodes n) (sym same) f.is))

pub split_at-requires : goal.split_at-requires
split_at-requires c =
    let t = entry_takes c.args.bytes.now (named_of c.in-Some.entry) (λ i. omega (arith, c.type_inv.bytes i)) (sym c.in-Some.ensures) in
    omega (arith, ap length t.1, length-append (entry_bytes (named_of c.in-Some.entry)) t.0)

pub returns : goal.returns
returns c =
    let e = named_of c.in-Some.entry in
    let t = entry_takes c.args.bytes.now e (λ i. omega (arith, c.type_inv.bytes i)) (sym c.in-Some.ensures) in
    let rest : c.split_at.result.1.now ≡ t.0 =
    c.split_at.ensures.back ∙ ap (drop c.encoded_len.result) t.1 ∙ drop_at (entry_bytes e) t.0 c.encoded_len.result (sym c.encoded_len.ensures) in
    (c.if-not-fits.ensures.0 refl, t.1 ∙ ap (λ (r : List ℕ). entry_bytes e ++ r) (sym rest))
