use Rattle.std.proofs.Common.{◌≡◌, ℕ, ◌/◌, ◌<◌, IfOk, unwrap_or, ap, sym, subst}
use Rattle.layout.specs.Directory.{HoldsEntries}
use Rattle.inode.specs.Files.{file_block}
use Rattle.dirs.specs.Edits.{IsReached, IsFirstFound, edited_block}
use Rattle.dirs.proofs.KnownLaws.{edited_knows, unedited_knows}
use Rattle.dirs.proofs.LookLaws.{first_same_ok}
use Rattle.dirs.proofs.directory.find.Goals as goal

pub returns-clause-knows : goal.returns-clause-knows
returns-clause-knows g c = λ disk shows knows.
    let none = c.of-edit.ensures.none in
    unedited_knows c.args.inodes disk c.args.file.now c.of-edit.result c.find.new.known none
    (c.find.ensures.knows disk shows (edited_knows c.args.inodes disk c.args.file.now c.of-edit.result c.args.known.now none knows))

pub returns-clause-found : goal.returns-clause-found
returns-clause-found g c = λ disk names shows knows is. c.find.ensures.found disk names shows (edited_knows c.args.inodes disk c.args.file.now c.of-edit.result c.args.known.now c.of-edit.ensures.none knows) (c.of-edit.ensures.same c.args.inodes disk names is)

pub returns-clause-damaged : goal.returns-clause-damaged
returns-clause-damaged g c = λ disk shows damaged reached sound.
    let count = c.of-edit.ensures.count in
    let same : (i : ℕ) → file_block disk c.args.file.now i ≡ edited_block disk c.args.file.now c.of-edit.result i = λ i. sym (ap (λ o. unwrap_or o (file_block disk c.args.file.now i)) (c.of-edit.ensures.none i)) in
    c.find.ensures.damaged disk shows damaged (subst (λ n. IsReached (g.B.Blocks.count c.args.blocks.now) disk c.args.file.now n) (sym count) reached)
    (λ i below. let held = sound i (subst (λ n. i < n) count below) in
    (held.0, subst (λ b. HoldsEntries c.args.inodes b held.0) (same i) held.1))

pub returns-clause-sound : goal.returns-clause-sound
returns-clause-sound g c = λ disk shows knows.
    let same : (i : ℕ) → file_block disk c.args.file.now i ≡ edited_block disk c.args.file.now c.of-edit.result i = λ i. sym (ap (λ o. unwrap_or o (file_block disk c.args.file.now i)) (c.of-edit.ensures.none i)) in
    first_same_ok c.args.inodes (c.args.file.now.size / 4096) (edited_block disk c.args.file.now c.of-edit.result) (file_block disk c.args.file.now) c.args.name.now same c.find.result
    (subst (λ n. IfOk c.find.result (IsFirstFound c.args.inodes (edited_block disk c.args.file.now c.of-edit.result) n c.args.name.now)) c.of-edit.ensures.count (c.find.ensures.sound disk shows (edited_knows c.args.inodes disk c.args.file.now c.of-edit.result c.args.known.now c.of-edit.ensures.none knows)))
