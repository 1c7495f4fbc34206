use Rattle.std.proofs.Common.{Option, subst}
use Rattle.inode.specs.declared.object.Object.{Object}
use Rattle.inofile.specs.Objects.{IsObjectOrNone}
use Rattle.records.specs.Contents.{RewritesIn}
use Rattle.records.specs.Room.{StoresIn}
use Rattle.records.proofs.ContentLaws.{bytes_put}
use Rattle.records.proofs.RoomLaws.{raises_to}
use Rattle.records.proofs.contents.commit_bytes.Goals as goal

pub returns-in-Some-clause-rewrites : goal.returns-in-Some-clause-rewrites
returns-in-Some-clause-rewrites c = λ detail disk inodes settled found f stands is rewrites.
    let o = subst (λ (x : Option Object). IsObjectOrNone detail disk inodes settled x found) c.in-Some.is stands in
    let gives = subst (λ (x : Option Object). RewritesIn detail disk f x c.args.change) c.in-Some.is rewrites in
    bytes_put detail disk inodes settled c.in-Some.object found f c.args.change c.commit.new.self o is gives c.commit.ensures

pub returns-in-Some-clause-room : goal.returns-in-Some-clause-room
returns-in-Some-clause-room c = λ k stores.
    raises_to (record { status = c.in-Some.object.status; file = c.commit.new.self; known = c.in-Some.object.known }) k c.in-Some.is
    (subst (λ (x : Option Object). StoresIn x c.args.change k) c.in-Some.is stores c.commit.new.self c.commit.ensures)
