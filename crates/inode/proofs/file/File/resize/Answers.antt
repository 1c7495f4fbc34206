use Rattle.std.proofs.Common.{◌≡◌, ◌∙◌, ap, sym, ℕ}
use Rattle.layout.specs.FileBytes.{EndsAt, first_bytes}
use Rattle.buffers.specs.Positions.{truncate}
use Rattle.inode.specs.Files.{byte_at}
use Rattle.inode.proofs.ComposingLaws.{committed_byte, truncated_ends}
use Rattle.inode.proofs.EdgeLaws.{list_of_truncated}
use Rattle.std.proofs.Common.{subst}
use Rattle.inode.proofs.file.File.resize.Goals as goal

pub returns-clause-file : goal.returns-clause-file
returns-clause-file g c = λ disk shows whole.
    let size : c.args.size ≡ c.commit.new.self.size = sym (c.commit.ensures.size ∙ c.in_ok-change.ensures.size) in
    subst (λ (n : ℕ). EndsAt n (byte_at disk c.commit.new.self)) size (truncated_ends (byte_at disk c.args.self.now) (byte_at disk c.commit.new.self) c.args.size
    (committed_byte disk c.args.self.now c.prepare_truncate.new.self c.commit.new.self c.in_ok-change.change (truncate (byte_at disk c.args.self.now) c.args.size) c.in_ok-change.ensures.same c.commit.ensures (c.in_ok-change.ensures.bytes disk shows whole)))

pub returns-clause-list : goal.returns-clause-list
returns-clause-list g c = λ disk shows whole.
    ap (first_bytes (byte_at disk c.commit.new.self)) (c.commit.ensures.size ∙ c.in_ok-change.ensures.size)
    ∙ list_of_truncated (byte_at disk c.args.self.now) (byte_at disk c.commit.new.self) c.args.self.now.size c.args.size whole
    (committed_byte disk c.args.self.now c.prepare_truncate.new.self c.commit.new.self c.in_ok-change.change (truncate (byte_at disk c.args.self.now) c.args.size) c.in_ok-change.ensures.same c.commit.ensures (c.in_ok-change.ensures.bytes disk shows whole))

pub returns-clause-base : goal.returns-clause-base
returns-clause-base g c = λ settled was. c.commit.ensures.base settled (c.in_ok-change.ensures.same.base settled was)

pub returns-clause-sound : goal.returns-clause-sound
returns-clause-sound g c = λ blocks disk i was. c.commit.ensures.sound blocks disk i (c.in_ok-change.ensures.same.sound blocks disk i was)
