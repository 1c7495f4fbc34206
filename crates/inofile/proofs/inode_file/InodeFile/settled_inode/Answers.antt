use Rattle.std.proofs.Common.{◌∙◌, ap, ℕ, ◌≡◌, ◌≤◌, ◌%◌, List}
use Rattle.layout.specs.Inode.{IsInode, inode_bytes}
use Rattle.layout.specs.Version.{greatest_under}
use Rattle.layout.specs.declared.inode.Inode.{Inode}
use Rattle.buffers.specs.declared.error.BlockError.TheVariants.{Damaged}
use Rattle.images.specs.Roots.{inode_part}
use Rattle.images.specs.Soundness.{Detail}
use Rattle.inofile.specs.Settled.{AreSettledIn}
use Rattle.inofile.proofs.ObjectLaws.{held_inode}
use Rattle.inofile.proofs.VolumeLaws.{of_error}
use Rattle.inofile.proofs.inode_file.InodeFile.settled_inode.Given.{Over}
use Rattle.inofile.proofs.inode_file.InodeFile.settled_inode.Goals as goal

spelled : {detail : Detail} (g : Over) (c : goal.After-read_inode g) (disk : ℕ → List ℕ) (settled : ℕ → Inode) → g.B.Blocks.Shows c.args.blocks.now disk
    → AreSettledIn detail (g.B.Blocks.count c.args.blocks.now) disk c.args.self.now.version c.args.self.now.geometry c.args.self.now.file settled
    → inode_part c.bytes.result.now (c.args.number % 21) ≡ inode_bytes (settled c.args.number)
spelled g c disk settled shows are =
    ap (λ (b : List ℕ). inode_part b (c.args.number % 21)) (c.bytes.ensures disk (c.in_ok-location.ensures.reads.same disk shows) (c.in_ok-location.ensures.found disk shows))
    ∙ are.spelled c.args.number c.requires.low c.requires.high

pub returns-clause-read : goal.returns-clause-read
returns-clause-read g c = λ detail disk settled shows are.
    c.read_inode.ensures.read (settled c.args.number) (held_inode c.args.self.now.geometry disk (settled c.args.number) (are.sound c.args.number)) (are.within c.args.number) (spelled g c disk settled shows are)

pub returns-clause-damaged : goal.returns-clause-damaged
returns-clause-damaged g c = λ detail disk settled shows bad are.
    of_error c.read_inode.result Damaged ((i : Inode) → IsInode c.args.self.now.geometry i → i.size ≤ greatest_under c.args.self.now.version → inode_part c.bytes.result.now (c.args.number % 21) ≡ inode_bytes i → ⊥) bad c.read_inode.ensures.damaged
    (settled c.args.number) (held_inode c.args.self.now.geometry disk (settled c.args.number) (are.sound c.args.number)) (are.within c.args.number) (spelled g c disk settled shows are)
