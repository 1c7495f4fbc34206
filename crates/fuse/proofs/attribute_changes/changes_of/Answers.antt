use Rattle.std.proofs.Common.{◌∙◌, ap}
use Rattle.fuse.specs.AttributeChanges.{changes_of}
use Rattle.fuse.specs.Flags.{given}
use Rattle.fuse.specs.declared.attribute_changes.Moment.{Moment}
use Rattle.fuse.specs.declared.opcode.TheConstants.{FATTR_ATIME, FATTR_MTIME}
use Rattle.fuse.proofs.attribute_changes.changes_of.Goals as goal

pub returns : goal.returns
unfolding changes_of
returns c =
    let valid = c.args.targets.valid in
    let atime = c.given-5.ensures ∙ ap (λ (m : Moment). given valid FATTR_ATIME m) c.moment_in-atime.ensures in
    let mtime = c.given-6.ensures ∙ ap (λ (m : Moment). given valid FATTR_MTIME m) c.moment_in-mtime.ensures in
    λ i. record {
      mode = c.given.ensures i;
      uid = c.given-2.ensures i;
      gid = c.given-3.ensures i;
      size = c.given-4.ensures i;
      atime = atime i;
      mtime = mtime i;
      ctime = c.given-7.ensures i;
      handle = c.given-8.ensures i;
      kills_set_id = c.is_set.ensures i;
    }
