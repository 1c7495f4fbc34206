use Rattle.std.proofs.Common.{ℕ, List, Option, ap, subst, sym, ◌∙◌}
use Rattle.layout.specs.StateLimits.{limits_of}
use Rattle.model.specs.Attributes.{FitAttributes, new_attributes}
use Rattle.model.specs.Changing.{changes_mode, links, makes_directory, makes_symlink, removes_directory, unlinks}
use Rattle.model.specs.Sessions.{call_time, new_permissions}
use Rattle.model.specs.Volumes.{tree_of}
use Rattle.model.specs.declared.attributes.Permissions.{Permissions}
use Rattle.model.specs.declared.command.PathCall.TheVariants as path_calls
use Rattle.model.specs.declared.time.Time.{Time}
use Rattle.model.specs.declared.limits.TheConstants.{LINK_MODE}
use Rattle.std.specs.Prelude.{◌≡◌, IfSome, is_some}
use Rattle.calls.proofs.PrepareSteps.{leaves}
use Rattle.calls.specs.Changing.{Comes, ComesSwept}
use Rattle.dispatch.proofs.ChangingLaws.{asked, asked_swept, one_text, two_texts}
use Rattle.dispatch.proofs.path_change.prepare_record.Goals as goal

pub returns-in-Mkdir : goal.returns-in-Mkdir
returns-in-Mkdir g c =
    let limits = limits_of c.args.inodes.now.geometry in
    let of = λ (p : List ℕ). path_calls.Mkdir p c.in-Mkdir.mode in
    let path = c.as_bytes-path.result.now in
    leaves c.make_directory.ensures (λ disk settled v table stands volume mounted y told.
    asked limits c.args.session.now c.args.call.now (of path) v table y (one_text c.args.call.now of c.in-Mkdir.path _ c.in-Mkdir.is c.as_bytes-path.ensures)
    (subst (λ (p : Permissions). Comes (makes_directory limits (call_time limits c.args.session.now) (tree_of v table) path p) limits v table y) c.permissions_of-permissions.ensures.is
    (subst (λ (n : Option Time). Comes (makes_directory limits n (tree_of v table) path c.permissions_of-permissions.result) limits v table y) c.requires.said told)))

pub make_directory-requires-clause-kept : goal.make_directory-requires-clause-kept
make_directory-requires-clause-kept g c =
    subst (λ (n : Option Time). FitAttributes (is_some n) (new_attributes c.permissions_of-permissions.result)) (sym c.requires.said) c.permissions_of-permissions.ensures.kept

pub returns-in-Symlink : goal.returns-in-Symlink
returns-in-Symlink g c =
    let limits = limits_of c.args.inodes.now.geometry in
    let text = c.as_bytes-text.result.now in
    let path = c.as_bytes.result.now in
    let mode : c.unwrap-mode.result ≡ LINK_MODE = subst (λ (m : Option ℕ). IfSome m (λ x. x ≡ LINK_MODE)) c.unwrap-mode.ensures c.new.ensures.value in
    leaves c.symlink.ensures (λ disk settled v table stands volume mounted y told.
    asked limits c.args.session.now c.args.call.now (path_calls.Symlink text path) v table y
    (two_texts c.args.call.now path_calls.Symlink c.in-Symlink.text c.in-Symlink.path text path c.in-Symlink.is c.as_bytes-text.ensures c.as_bytes.ensures)
    (subst (λ (p : Permissions). Comes (makes_symlink limits (call_time limits c.args.session.now) (tree_of v table) text path p) limits v table y)
    (c.permissions_of-permissions-in-Symlink.ensures.is ∙ ap (new_permissions limits c.args.session.now) mode)
    (subst (λ (n : Option Time). Comes (makes_symlink limits n (tree_of v table) text path c.permissions_of-permissions-in-Symlink.result) limits v table y) c.requires.said told)))

pub returns-in-Link : goal.returns-in-Link
returns-in-Link g c =
    let limits = limits_of c.args.inodes.now.geometry in
    let old = c.as_bytes-in-Link.result.now in
    let path = c.as_bytes-in-Link-2.result.now in
    leaves c.link.ensures (λ disk settled v table stands volume mounted y told.
    asked limits c.args.session.now c.args.call.now (path_calls.Link old path) v table y
    (two_texts c.args.call.now path_calls.Link c.in-Link.old c.in-Link.new old path c.in-Link.is c.as_bytes-in-Link.ensures c.as_bytes-in-Link-2.ensures)
    (subst (λ (n : Option Time). Comes (links limits n (tree_of v table) old path) limits v table y) c.requires.said told))

pub returns-in-Unlink : goal.returns-in-Unlink
returns-in-Unlink g c =
    let limits = limits_of c.args.inodes.now.geometry in
    let path = c.as_bytes-in-Unlink.result.now in
    leaves c.unlink.ensures (λ disk settled v table stands volume mounted y told.
    asked_swept limits c.args.session.now c.args.call.now (path_calls.Unlink path) v table y (one_text c.args.call.now path_calls.Unlink c.in-Unlink.path path c.in-Unlink.is c.as_bytes-in-Unlink.ensures)
    (subst (λ (n : Option Time). ComesSwept (unlinks limits n (tree_of v table) path) limits v table y) c.requires.said told))

pub returns-in-Rmdir : goal.returns-in-Rmdir
returns-in-Rmdir g c =
    let limits = limits_of c.args.inodes.now.geometry in
    let path = c.as_bytes-in-Rmdir.result.now in
    leaves c.remove_directory.ensures (λ disk settled v table stands volume mounted y told.
    asked_swept limits c.args.session.now c.args.call.now (path_calls.Rmdir path) v table y (one_text c.args.call.now path_calls.Rmdir c.in-Rmdir.path path c.in-Rmdir.is c.as_bytes-in-Rmdir.ensures)
    (subst (λ (n : Option Time). ComesSwept (removes_directory limits n (tree_of v table) path) limits v table y) c.requires.said told))

pub returns-in-Chmod : goal.returns-in-Chmod
returns-in-Chmod g c =
    let limits = limits_of c.args.inodes.now.geometry in
    let of = λ (p : List ℕ). path_calls.Chmod p c.in-Chmod.mode in
    let path = c.as_bytes-in-Chmod.result.now in
    leaves c.change_mode.ensures (λ disk settled v table stands volume mounted y told.
    asked limits c.args.session.now c.args.call.now (of path) v table y (one_text c.args.call.now of c.in-Chmod.path _ c.in-Chmod.is c.as_bytes-in-Chmod.ensures)
    (subst (λ (n : Option Time). Comes (changes_mode limits n (tree_of v table) path c.in-Chmod.mode) limits v table y) c.requires.said told))
