use Rattle.std.proofs.Common.{◌∙◌}
use Rattle.buffers.specs.Positions.{with_bytes_at}
use Rattle.inode.specs.Files.{byte_at}
use Rattle.inode.proofs.ComposingLaws.{committed_byte, written_ends}
use Rattle.inode.proofs.EdgeLaws.{list_of_write}
use Rattle.inode.proofs.file.File.write.Goals as goal

pub returns-clause-file : goal.returns-clause-file
returns-clause-file g c = λ disk shows whole.
    written_ends (byte_at disk c.args.self.now) (byte_at disk c.commit.new.self) c.args.self.now.size c.commit.new.self.size c.args.offset c.args.bytes.now (c.commit.ensures.size ∙ c.in_ok-change.ensures.size) whole
    (committed_byte disk c.args.self.now c.prepare_write.new.self c.commit.new.self c.in_ok-change.change (with_bytes_at (byte_at disk c.args.self.now) c.args.offset c.args.bytes.now) c.in_ok-change.ensures.same c.commit.ensures (c.in_ok-change.ensures.bytes disk shows whole))

pub returns-clause-list : goal.returns-clause-list
returns-clause-list g c = λ disk shows whole.
    list_of_write (byte_at disk c.args.self.now) (byte_at disk c.commit.new.self) c.args.self.now.size c.commit.new.self.size c.args.offset c.args.bytes.now (c.commit.ensures.size ∙ c.in_ok-change.ensures.size) whole
    (committed_byte disk c.args.self.now c.prepare_write.new.self c.commit.new.self c.in_ok-change.change (with_bytes_at (byte_at disk c.args.self.now) c.args.offset c.args.bytes.now) c.in_ok-change.ensures.same c.commit.ensures (c.in_ok-change.ensures.bytes disk shows whole))

pub returns-clause-base : goal.returns-clause-base
returns-clause-base g c = λ settled was. c.commit.ensures.base settled (c.in_ok-change.ensures.same.base settled was)

pub returns-clause-sound : goal.returns-clause-sound
returns-clause-sound g c = λ blocks disk i was. c.commit.ensures.sound blocks disk i (c.in_ok-change.ensures.same.sound blocks disk i was)
