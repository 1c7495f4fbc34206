use Rattle.std.proofs.Common.{sym}
use Rattle.layout.specs.Inode.{IsInode}
use Rattle.layout.specs.Limits.{Sizes}
use Rattle.images.specs.Nodes.{held}
use Rattle.inofile.specs.Objects.{IsUntouched}
use Rattle.inofile.proofs.DetailLaws.{ends_in}
use Rattle.inofile.proofs.ObjectLaws.{IsLoaded, free_own, free_stands, free_content, held_inode, loaded_content, loaded_object, loaded_settled, loaded_untouched}
use Rattle.inofile.proofs.inode_file.load_object.Goals as goal

pub returns-in-Free-clause-content : goal.returns-in-Free-clause-content
returns-in-Free-clause-content c = λ detail s disk sound. sym (free_content disk c.args.inode c.in-Free.is)

pub returns-in-Free-clause-as_settled : goal.returns-in-Free-clause-as_settled
returns-in-Free-clause-as_settled c = λ detail s disk sound. free_own s c.args.inode (held_inode s disk c.args.inode sound) c.in-Free.is

pub returns-in-Free-clause-stands : goal.returns-in-Free-clause-stands
returns-in-Free-clause-stands c = λ detail s disk inodes found sound ordinary stands. free_stands detail disk inodes c.args.inode found c.in-Free.is stands

loaded : (c : goal.In_ok-object-in_default) → IsLoaded c.args.inode c.in_ok-object-in_default.object
loaded c = record {
  status = c.in_ok-object-in_default.ensures.status;
  size = c.in_ok-object-in_default.ensures.size;
  base = c.in_ok-object-in_default.ensures.base;
  used = c.in_default.not-Free;
  known = c.in_ok-object-in_default.ensures.known;
}

untouched : (c : goal.In_ok-object-in_default) (s : Sizes) → IsInode s c.args.inode → IsUntouched c.in_ok-object-in_default.object
untouched c s is = loaded_untouched s c.args.inode c.in_ok-object-in_default.object is c.in_ok-object-in_default.ensures.size c.in_ok-object-in_default.ensures.settled c.in_ok-object-in_default.ensures.unchanged

pub returns-in_ok-object-in_default-clause-content : goal.returns-in_ok-object-in_default-clause-content
returns-in_ok-object-in_default-clause-content c = λ detail s disk sound. loaded_settled disk c.args.inode c.in_ok-object-in_default.object (loaded c) (c.in_ok-object-in_default.ensures.held _ s disk sound)

pub returns-in_ok-object-in_default-clause-as_settled : goal.returns-in_ok-object-in_default-clause-as_settled
returns-in_ok-object-in_default-clause-as_settled c = λ detail s disk sound. (
  loaded_content disk c.args.inode c.in_ok-object-in_default.object (loaded c) (c.in_ok-object-in_default.ensures.held _ s disk sound),
  untouched c s (held_inode s disk c.args.inode sound),
)

pub returns-in_ok-object-in_default-clause-stands : goal.returns-in_ok-object-in_default-clause-stands
returns-in_ok-object-in_default-clause-stands c = λ detail s disk inodes found sound ordinary stands.
    loaded_object detail disk inodes s c.args.inode c.in_ok-object-in_default.object found (held_inode s disk c.args.inode sound) (loaded c) (c.in_ok-object-in_default.ensures.held _ s disk sound)
    (ends_in detail s (held disk c.args.inode) disk c.in_ok-object-in_default.object.file (c.in_ok-object-in_default.ensures.ends s disk) sound) ordinary stands

pub returns-in_ok-object-in_default-clause-untouched : goal.returns-in_ok-object-in_default-clause-untouched
returns-in_ok-object-in_default-clause-untouched c = untouched c
