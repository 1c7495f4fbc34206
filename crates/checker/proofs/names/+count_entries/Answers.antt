use Rattle.std.proofs.Common.{ℕ, ◌≤◌, ◌^◌, Some, sym, subst, arith}
use Rattle.layout.specs.Directory.{HoldsEntries, IsEntry, named_of}
use Rattle.model.specs.Volumes.{Entries, with_edge}
use Rattle.images.specs.Faults.{HoldsNames}
use Rattle.checker.specs.Findings.{IsTreeFinding}
use Rattle.checker.proofs.FoundLaws.{goes_more, goes_none}
use Rattle.checker.proofs.HaltLaws.{passes_residual}
use Rattle.checker.proofs.NameLaws.{awaited_behind, counted_more, counted_none}
use Rattle.checker.proofs.WalkLaws.{first_directory}
use Rattle.checker.proofs.names.+count_entries.Goals as goal

pub returns-in-End-clause-goes : goal.returns-in-End-clause-goes
returns-in-End-clause-goes t c = goes_none _ _

pub returns-in-End-clause-counted : goal.returns-in-End-clause-counted
returns-in-End-clause-counted t c = λ r h e count inodes way among knows awaited.
    (counted_none r.geometry h c.args.directory c.args.bytes.now e count c.args.found.now.items c.args.table.now.items c.in-End.ensures way, knows)

pub returns-in-Malformed-clause-goes : goal.returns-in-Malformed-clause-goes
returns-in-Malformed-clause-goes t c = goes_none _ _

pub returns-in-Malformed-clause-counted : goal.returns-in-Malformed-clause-counted
returns-in-Malformed-clause-counted t c = λ r h e count inodes way among knows awaited. (
  λ g.
      let a = awaited g in
      c.in-Malformed.ensures a.awaited (subst (λ (n : ℕ). HoldsEntries n c.args.bytes.now a.awaited) inodes a.holds),
  first_directory r.geometry h e count c.args.found.now.items c.args.table.now.items
      c.args.directory way among,
)

pub returns-in_err-count_entry-in-Entry-clause-counted : goal.returns-in_err-count_entry-in-Entry-clause-counted
returns-in_err-count_entry-in-Entry-clause-counted t c = λ r h e count inodes way among knows awaited.
    let first = named_of c.in-Entry.entry in
    let limit : r.geometry.inodes ≤ 2 ^ 32 = omega (arith, inodes) in
    let is : IsEntry r.geometry.inodes first = subst (λ (n : ℕ). IsEntry n first) (sym inodes) c.in-Entry.ensures.0 in
    passes_residual (λ (_ : Unit {0}). Unit {0}) _ (IsTreeFinding r h) c.from_residual.result _ c.from_residual.ensures.1
    (c.in_err-count_entry-in-Entry.ensures.counted r h e count way among knows is
    (λ g. (awaited_behind c.args.directory first e r.geometry.inodes g.volume c.args.bytes.now c.in-Entry.rest.now limit is c.in-Entry.ensures.1 (awaited g)).0))

pub returns-in_err-count_entries-in-Entry-clause-goes : goal.returns-in_err-count_entries-in-Entry-clause-goes
returns-in_err-count_entries-in-Entry-clause-goes t c = goes_more c.in_ok-count_entry-in-Entry.ensures.goes c.in_err-count_entries-in-Entry.ensures.goes

pub returns-in_err-count_entries-in-Entry-clause-counted : goal.returns-in_err-count_entries-in-Entry-clause-counted
returns-in_err-count_entries-in-Entry-clause-counted t c = λ r h e count inodes way among knows awaited.
    let first = named_of c.in-Entry.entry in
    let one : Entries = with_edge c.args.directory first.name (Some first.number) e in
    let limit : r.geometry.inodes ≤ 2 ^ 32 = omega (arith, inodes) in
    let is : IsEntry r.geometry.inodes first = subst (λ (n : ℕ). IsEntry n first) (sym inodes) c.in-Entry.ensures.0 in
    let step = λ (g : HoldsNames r.geometry.inodes h). awaited_behind c.args.directory first e r.geometry.inodes g.volume c.args.bytes.now c.in-Entry.rest.now limit is c.in-Entry.ensures.1 (awaited g) in
    let did = c.in_ok-count_entry-in-Entry.ensures.counted r h e count way among knows is (λ g. (step g).0) in
    let kept = c.in_ok-count_entry-in-Entry.ensures.goes.keeps among.0 c.args.directory among.2 in
    passes_residual (λ (_ : Unit {0}). Unit {0}) _ (IsTreeFinding r h) c.from_residual-in_err-count_entries-in-Entry.result _ c.from_residual-in_err-count_entries-in-Entry.ensures.1
    (c.in_err-count_entries-in-Entry.ensures.counted r h one count inodes did.1 (among.0, among.1, kept) did.2 (λ g. (step g).1))

pub returns-in_ok-count_entries-in-Entry-clause-goes : goal.returns-in_ok-count_entries-in-Entry-clause-goes
returns-in_ok-count_entries-in-Entry-clause-goes t c = goes_more c.in_ok-count_entry-in-Entry.ensures.goes c.in_ok-count_entries-in-Entry.ensures.goes

pub returns-in_ok-count_entries-in-Entry-clause-counted : goal.returns-in_ok-count_entries-in-Entry-clause-counted
returns-in_ok-count_entries-in-Entry-clause-counted t c = λ r h e count inodes way among knows awaited.
    let first = named_of c.in-Entry.entry in
    let one : Entries = with_edge c.args.directory first.name (Some first.number) e in
    let limit : r.geometry.inodes ≤ 2 ^ 32 = omega (arith, inodes) in
    let is : IsEntry r.geometry.inodes first = subst (λ (n : ℕ). IsEntry n first) (sym inodes) c.in-Entry.ensures.0 in
    let step = λ (g : HoldsNames r.geometry.inodes h). awaited_behind c.args.directory first e r.geometry.inodes g.volume c.args.bytes.now c.in-Entry.rest.now limit is c.in-Entry.ensures.1 (awaited g) in
    let did = c.in_ok-count_entry-in-Entry.ensures.counted r h e count way among knows is (λ g. (step g).0) in
    let kept = c.in_ok-count_entry-in-Entry.ensures.goes.keeps among.0 c.args.directory among.2 in
    let rest = c.in_ok-count_entries-in-Entry.ensures.counted r h one count inodes did.1 (among.0, among.1, kept) did.2 (λ g. (step g).1) in
    (counted_more c.args.directory first e r.geometry h c.args.bytes.now c.in-Entry.rest.now count _ _ is c.in-Entry.ensures.1 did.0 rest.0, rest.1)
