use Rattle.std.proofs.Common.{SFits, w64, rules}
use Rattle.std.proofs.lemmas.Int.{to_z-of_z}
use Rattle.model.specs.declared.command.PathCall.TheVariants as call
use Rattle.script.proofs.CommandLemmas.{pushed, pushed_at}
use Rattle.script.proofs.writing.push_call.Goals as goal

pub returns-in-List : goal.returns-in-List
returns-in-List c = pushed _ _ _ _ _ c.in-List.is c.push_fields.ensures

pub returns-in-Entries : goal.returns-in-Entries
returns-in-Entries c =
    let f : SFits w64 c.in-Entries.after = search rules in
    pushed_at (λ z. call.Entries c.in-Entries.path z c.in-Entries.count) _ _ _ _ _ _ c.in-Entries.is (to_z-of_z w64 c.in-Entries.after f) c.push_fields-in-Entries.ensures

pub returns-in-Stat : goal.returns-in-Stat
returns-in-Stat c = pushed _ _ _ _ _ c.in-Stat.is c.push_fields-in-Stat.ensures

pub returns-in-Lstat : goal.returns-in-Lstat
returns-in-Lstat c = pushed _ _ _ _ _ c.in-Lstat.is c.push_fields-in-Lstat.ensures

pub returns-in-Attr : goal.returns-in-Attr
returns-in-Attr c = pushed _ _ _ _ _ c.in-Attr.is c.push_attr.ensures

pub returns-in-Readlink : goal.returns-in-Readlink
returns-in-Readlink c = pushed _ _ _ _ _ c.in-Readlink.is c.push_fields-in-Readlink.ensures

pub returns-in-Get : goal.returns-in-Get
returns-in-Get c =
    let f : SFits w64 c.in-Get.offset = search rules in
    pushed_at (λ z. call.Get c.in-Get.path z c.in-Get.count) _ _ _ _ _ _ c.in-Get.is (to_z-of_z w64 c.in-Get.offset f) c.push_fields-in-Get.ensures

pub returns-in-Mkdir : goal.returns-in-Mkdir
returns-in-Mkdir c = pushed _ _ _ _ _ c.in-Mkdir.is c.push_fields-in-Mkdir.ensures

pub returns-in-Rmdir : goal.returns-in-Rmdir
returns-in-Rmdir c = pushed _ _ _ _ _ c.in-Rmdir.is c.push_fields-in-Rmdir.ensures

pub returns-in-Unlink : goal.returns-in-Unlink
returns-in-Unlink c = pushed _ _ _ _ _ c.in-Unlink.is c.push_fields-in-Unlink.ensures

pub returns-in-Link : goal.returns-in-Link
returns-in-Link c = pushed _ _ _ _ _ c.in-Link.is c.push_fields-in-Link.ensures

pub returns-in-Symlink : goal.returns-in-Symlink
returns-in-Symlink c = pushed _ _ _ _ _ c.in-Symlink.is c.push_fields-in-Symlink.ensures

pub returns-in-Rename : goal.returns-in-Rename
returns-in-Rename c = pushed _ _ _ _ _ c.in-Rename.is c.push_fields-in-Rename.ensures

pub returns-in-RenameNew : goal.returns-in-RenameNew
returns-in-RenameNew c = pushed _ _ _ _ _ c.in-RenameNew.is c.push_fields-in-RenameNew.ensures

pub returns-in-Chmod : goal.returns-in-Chmod
returns-in-Chmod c = pushed _ _ _ _ _ c.in-Chmod.is c.push_fields-in-Chmod.ensures

pub returns-in-Chown : goal.returns-in-Chown
returns-in-Chown c = pushed _ _ _ _ _ c.in-Chown.is c.push_chown.ensures

pub returns-in-Utimens : goal.returns-in-Utimens
returns-in-Utimens c = pushed _ _ _ _ _ c.in-Utimens.is c.push_utimens.ensures

pub returns-in-Truncate : goal.returns-in-Truncate
returns-in-Truncate c =
    let f : SFits w64 c.in-Truncate.size = search rules in
    pushed_at (λ z. call.Truncate c.in-Truncate.path z) _ _ _ _ _ _ c.in-Truncate.is (to_z-of_z w64 c.in-Truncate.size f) c.push_fields-in-Truncate.ensures

pub returns-in-Store : goal.returns-in-Store
returns-in-Store c =
    let f : SFits w64 c.in-Store.offset = search rules in
    pushed_at (λ z. call.Store c.in-Store.path z c.in-Store.data) _ _ _ _ _ _ c.in-Store.is (to_z-of_z w64 c.in-Store.offset f) c.push_fields-in-Store.ensures

pub returns-in-Set : goal.returns-in-Set
returns-in-Set c = pushed _ _ _ _ _ c.in-Set.is c.push_fields-in-Set.ensures
