use Rattle.std.proofs.Common.{◌≡◌, ℕ, IfSome, Option, Some, subst, sym, ◌∙◌, arith}
use Rattle.model.specs.Volumes.{is_open}
use Rattle.model.specs.declared.limits.TheConstants.{OPEN_FILES}
use Rattle.descriptors.specs.Fits.{FitsVolume}
use Rattle.descriptors.specs.Tables.{table_of}
use Rattle.descriptors.proofs.RoomLemmas.{keeps_still}
use Rattle.inofile.specs.declared.inode_file.InodeFile.{InodeFile}
use Rattle.records.specs.Steps.{IsAtHand}
use Rattle.records.specs.Sweeping.{StandsNoMore, with_object_of, without_file}
use Rattle.records.proofs.FollowLaws.{closed_fits, opened_file}
use Rattle.records.proofs.SweepLaws.{closed_goes, open_stays}
use Rattle.records.proofs.orphans.drop_or_note.Goals as goal

at_hand : (s : InodeFile) (o : Option ℕ) (n : ℕ) → o ≡ Some n → IfSome o (IsAtHand s) → IsAtHand s n
at_hand s o n is at = subst (λ (p : Option ℕ). IfSome p (IsAtHand s)) is at

pub returns-then-is_open-clause-volume : goal.returns-then-is_open-clause-volume
returns-then-is_open-clause-volume c = λ base count disk settled v stands.
    let table = table_of c.args.files.now in
    let s = c.args.inodes.now in
    let opened = sym (subst (λ (k : ℕ). c.is_open.result ≡ is_open table OPEN_FILES k) c.get.ensures c.is_open.ensures) ∙ c.if-is_open.true in
    subst (λ (n : Option ℕ). StandsNoMore base count disk settled s v s (without_file table n v)) (sym c.in-Some.is)
    (subst (StandsNoMore base count disk settled s v s) (open_stays table c.in-Some.number v opened) (stands, omega arith))

pub returns-then-is_open-clause-fits : goal.returns-then-is_open-clause-fits
returns-then-is_open-clause-fits c = λ count disk settled v w stands opens fits.
    let table = table_of c.args.files.now in
    let opened = sym (subst (λ (k : ℕ). c.is_open.result ≡ is_open table OPEN_FILES k) c.get.ensures c.is_open.ensures) ∙ c.if-is_open.true in
    subst (λ (n : Option ℕ). FitsVolume c.note_figures.new.files (with_object_of w n v)) (sym c.in-Some.is)
    (c.note_figures.ensures.fits count disk settled v w stands (opened_file table w c.in-Some.number opens opened) fits)

pub returns-else-is_open-clause-volume : goal.returns-else-is_open-clause-volume
returns-else-is_open-clause-volume c = λ base count disk settled v stands.
    let table = table_of c.args.files.now in
    let s = c.args.inodes.now in
    let drops = c.drop_orphan.ensures in
    let closed = sym (subst (λ (k : ℕ). c.is_open.result ≡ is_open table OPEN_FILES k) c.get.ensures c.is_open.ensures) ∙ c.if-is_open.false in
    subst (λ (n : Option ℕ). StandsNoMore base count disk settled s v c.drop_orphan.new.inodes (without_file table n v)) (sym c.in-Some.is)
    (subst (StandsNoMore base count disk settled s v c.drop_orphan.new.inodes) (closed_goes table c.in-Some.number v closed)
    (drops.volume _ count disk settled v stands, drops.room _ base count disk settled v stands))

pub returns-else-is_open-clause-fits : goal.returns-else-is_open-clause-fits
returns-else-is_open-clause-fits c = λ count disk settled v w stands opens fits.
    let closed = sym (subst (λ (k : ℕ). c.is_open.result ≡ is_open (table_of c.args.files.now) OPEN_FILES k) c.get.ensures c.is_open.ensures) ∙ c.if-is_open.false in
    subst (λ (n : Option ℕ). FitsVolume c.args.files.now (with_object_of w n v)) (sym c.in-Some.is)
    (closed_fits c.args.files.now c.in-Some.number (w c.in-Some.number) v closed fits)

pub returns-in_default-clause-volume : goal.returns-in_default-clause-volume
returns-in_default-clause-volume c = λ base count disk settled v stands.
    let s = c.args.inodes.now in
    subst (λ (n : Option ℕ). StandsNoMore base count disk settled s v s (without_file (table_of c.args.files.now) n v)) (sym c.in_default.is) (stands, omega arith)

pub returns-else-is_open-clause-kept : goal.returns-else-is_open-clause-kept
returns-else-is_open-clause-kept c = keeps_still c.args.files.now

pub returns-in_default-clause-kept : goal.returns-in_default-clause-kept
returns-in_default-clause-kept c = keeps_still c.args.files.now

pub note_figures-requires : goal.note_figures-requires
note_figures-requires c = (at_hand c.args.inodes.now c.args.number c.in-Some.number c.in-Some.is c.requires).known

pub drop_orphan-requires : goal.drop_orphan-requires
drop_orphan-requires c = at_hand c.args.inodes.now c.args.number c.in-Some.number c.in-Some.is c.requires
