use Rattle.std.proofs.Common.{◌≡◌, ◌+◌, ◌≤◌, ◌∷◌, [], ℕ, length, replicate, ap, subst, sym, arith}
use Rattle.std.proofs.lemmas.List.{length-replicate}
use Rattle.layout.specs.Bytes.{zeros}
use Rattle.layout.specs.Directory.{HoldsEntries, named_of, entry_bytes}
use Rattle.layout.proofs.EntryLaws.{length-entry_bytes}
use Rattle.dirs.specs.Edits.{edited_block}
use Rattle.dirs.proofs.edit.Edit.add_behind.Goals as goal

pub returns-clause-here : goal.returns-clause-here
unfolding zeros
returns-clause-here c = λ disk.
    let e = named_of c.args.entry.now in
    let room : 0 + length (entry_bytes e) ≤ 4096 = omega (arith, length-entry_bytes e, c.requires.entry.name.short) in
    let zero : ℕ = 0 in
    let none : replicate 4096 zero ≡ zeros (length (replicate 4096 zero)) = ap (λ (n : ℕ). zeros n) (sym (length-replicate {A = ℕ} 4096 0)) in
    subst (λ b. HoldsEntries c.args.inodes b (e ∷ [])) (sym (c.in_ok-put.ensures.here disk)) (c.add.ensures.holds [] none room)

pub returns-clause-knows : goal.returns-clause-knows
returns-clause-knows c = λ disk knows.
    let old = edited_block disk c.args.file.now c.args.self.now in
    let new = edited_block disk c.put.new.file c.put.new.self in
    c.forget_from.ensures.knows c.args.inodes old new knows (λ i below. c.in_ok-put.ensures.others disk i (λ e. omega (arith, below, e)))
