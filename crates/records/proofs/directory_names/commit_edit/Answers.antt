use Rattle.std.proofs.Common.{◌≡◌, ℕ, ◌*◌, ◌%◌, Option, ap, sym, subst, ◌∙◌, arith}
use Rattle.layout.specs.Inode.{FitsKind}
use Rattle.layout.specs.declared.kind.Kind.{Kind}
use Rattle.images.specs.Sizes.{StandsAsIn}
use Rattle.dirs.specs.Room.{piece_count}
use Rattle.inode.specs.Room.{edit_room}
use Rattle.inode.specs.Files.{file_block}
use Rattle.inode.specs.declared.object.Object.{Object}
use Rattle.inofile.specs.Objects.{IsObjectOrNone}
use Rattle.inofile.specs.Settled.{content_of_object}
use Rattle.records.specs.Entering.{EditsIn, with_node_names}
use Rattle.inofile.proofs.DetailLaws.{directory_readable}
use Rattle.records.proofs.DetailLaws.{directory_in, ends_of, still_read}
use Rattle.records.proofs.RoomLaws.{raises_to}
use Rattle.records.proofs.directory_names.commit_edit.Goals as goal

whole : (n : ℕ) → (4096 * n) % 4096 ≡ 0
whole n = omega arith

pub returns-in-Some-clause-edits : goal.returns-in-Some-clause-edits
returns-in-Some-clause-edits c = λ detail disk inodes settled found f stands edits.
    let o = subst (λ (x : Option Object). IsObjectOrNone detail disk inodes settled x found) c.in-Some.is stands in
    let e = subst (λ (x : Option Object). EditsIn disk inodes f found x c.args.edit) c.in-Some.is edits in
    let names = f e.names in
    let after : Object = record { status = c.in-Some.directory.status; file = c.commit.new.file; known = c.commit.result } in
    record {
      kind = o.kind;
      attributes = o.attributes;
      fits = λ s.
          let was = subst (λ (k : Kind). FitsKind k s c.in-Some.directory.status.attributes c.in-Some.directory.status.links c.in-Some.directory.file.size) e.kind (o.fits s) in
          subst (λ (k : Kind). FitsKind k s c.in-Some.directory.status.attributes c.in-Some.directory.status.links c.commit.new.file.size) (sym e.kind)
          (was.0, ap (λ (n : ℕ). n % 4096) c.commit.ensures.size ∙ whole c.args.edit.count);
      stands = subst (λ (k : Kind). StandsAsIn detail k inodes (content_of_object disk after) (with_node_names f found)) (sym e.kind)
          (directory_in detail inodes (content_of_object disk after) (with_node_names f found)
          (still_read detail (file_block disk c.in-Some.directory.file) (file_block disk c.commit.new.file) (c.commit.ensures.whole disk)
          (directory_readable detail c.in-Some.directory.status.kind inodes (content_of_object disk c.in-Some.directory) found o.stands e.kind))
          (names, c.commit.ensures.names inodes disk names e.edited, ap (with_node_names f) e.stands));
      ends = ends_of detail disk c.commit.new.file (c.commit.ensures.ends disk);
      base = c.commit.ensures.base settled o.base;
      known = λ is. c.commit.ensures.knows inodes disk e.known;
    }

pub returns-in-Some-clause-room : goal.returns-in-Some-clause-room
returns-in-Some-clause-room c =
    raises_to (record { status = c.in-Some.directory.status; file = c.commit.new.file; known = c.commit.result }) (edit_room (piece_count c.args.edit)) c.in-Some.is c.commit.ensures.few.room
