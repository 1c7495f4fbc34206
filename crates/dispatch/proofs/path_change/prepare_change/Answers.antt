use Rattle.std.proofs.Common.{false, true, ℕ, ℤ, List, Option, subst, rules, w64}
use Rattle.std.proofs.lemmas.Int.{to_z-of_z}
use Rattle.layout.specs.StateLimits.{limits_of}
use Rattle.model.specs.declared.command.PathCall.TheVariants as path_calls
use Rattle.model.specs.declared.time.Time.{Time}
use Rattle.model.specs.Changing.{changes_owners, changes_times, renames, sets, truncates}
use Rattle.model.specs.Volumes.{tree_of}
use Rattle.calls.specs.Changing.{ComesOrStays}
use Rattle.calls.proofs.PrepareSteps.{grants, leaves}
use Rattle.dispatch.proofs.ChangingLaws.{asked_or_stays, one_text, passes_on, two_texts}
use Rattle.dispatch.proofs.path_change.prepare_change.Goals as goal

pub returns-in_err-changing-in_default : goal.returns-in_err-changing-in_default
returns-in_err-changing-in_default g c =
    passes_on c.args.session.now c.args.call.now _ c.from_residual.result c.from_residual.ensures.1 c.in_err-changing-in_default.ensures

pub returns-in_ok-changing-in_default : goal.returns-in_ok-changing-in_default
returns-in_ok-changing-in_default g c =
    let told = c.in_ok-changing-in_default.ensures in
    grants told.looks told.ready told.timed told.does told.answers

pub returns-in-Rename : goal.returns-in-Rename
returns-in-Rename g c =
    let limits = limits_of c.args.inodes.now.geometry in
    let old = c.as_bytes.result.now in
    let path = c.as_bytes-in-Rename.result.now in
    leaves c.rename.ensures (λ disk settled v table stands volume mounted y told.
    asked_or_stays limits c.args.session.now c.args.call.now (path_calls.Rename old path) v table y
    (two_texts c.args.call.now path_calls.Rename c.in-Rename.old c.in-Rename.new old path c.in-Rename.is c.as_bytes.ensures c.as_bytes-in-Rename.ensures)
    (subst (λ (n : Option Time). ComesOrStays (renames limits n (tree_of v table) false old path) limits v table y) c.requires.said told))

pub returns-in-RenameNew : goal.returns-in-RenameNew
returns-in-RenameNew g c =
    let limits = limits_of c.args.inodes.now.geometry in
    let old = c.as_bytes-in-RenameNew.result.now in
    let path = c.as_bytes-in-RenameNew-2.result.now in
    leaves c.rename-in-RenameNew.ensures (λ disk settled v table stands volume mounted y told.
    asked_or_stays limits c.args.session.now c.args.call.now (path_calls.RenameNew old path) v table y
    (two_texts c.args.call.now path_calls.RenameNew c.in-RenameNew.old c.in-RenameNew.new old path c.in-RenameNew.is c.as_bytes-in-RenameNew.ensures c.as_bytes-in-RenameNew-2.ensures)
    (subst (λ (n : Option Time). ComesOrStays (renames limits n (tree_of v table) true old path) limits v table y) c.requires.said told))

pub returns-in-Chown : goal.returns-in-Chown
returns-in-Chown g c =
    let limits = limits_of c.args.inodes.now.geometry in
    let path = c.as_bytes-path.result.now in
    let follows = c.in-Chown.follows in
    let owner = c.in-Chown.owner in
    let group = c.in-Chown.group in
    leaves c.change_owners.ensures (λ disk settled v table stands volume mounted y told.
    asked_or_stays limits c.args.session.now c.args.call.now (path_calls.Chown path follows owner group) v table y
    (one_text c.args.call.now (λ (p : List ℕ). path_calls.Chown p follows owner group) c.in-Chown.path path c.in-Chown.is c.as_bytes-path.ensures)
    (subst (λ (n : Option Time). ComesOrStays (changes_owners limits n (tree_of v table) follows path owner group) limits v table y) c.requires.said told))

pub returns-in-Utimens : goal.returns-in-Utimens
returns-in-Utimens g c =
    let limits = limits_of c.args.inodes.now.geometry in
    let path = c.as_bytes-path-in-Utimens.result.now in
    let follows = c.in-Utimens.follows in
    let time = c.in-Utimens.time in
    leaves c.change_times.ensures (λ disk settled v table stands volume mounted y told.
    asked_or_stays limits c.args.session.now c.args.call.now (path_calls.Utimens path follows time) v table y
    (one_text c.args.call.now (λ (p : List ℕ). path_calls.Utimens p follows time) c.in-Utimens.path path c.in-Utimens.is c.as_bytes-path-in-Utimens.ensures)
    (subst (λ (n : Option Time). ComesOrStays (changes_times limits n (tree_of v table) follows path time) limits v table y) c.requires.said told))

pub returns-in-Truncate : goal.returns-in-Truncate
returns-in-Truncate g c =
    let path = c.as_bytes-in-Truncate.result.now in
    let limits = limits_of c.args.inodes.now.geometry in
    leaves c.truncate.ensures (λ disk settled v table stands volume mounted y told.
    asked_or_stays limits c.args.session.now c.args.call.now (path_calls.Truncate path c.in-Truncate.size) v table y
    (one_text c.args.call.now (λ (p : List ℕ). path_calls.Truncate p c.in-Truncate.size) c.in-Truncate.path path c.in-Truncate.is c.as_bytes-in-Truncate.ensures)
    (subst (λ (n : Option Time). ComesOrStays (truncates limits n (tree_of v table) path c.in-Truncate.size) limits v table y) c.requires.said
    (subst (λ (z : ℤ). ComesOrStays (truncates limits c.args.now (tree_of v table) path z) limits v table y) (to_z-of_z w64 c.in-Truncate.size (search rules)) told)))

pub returns-in-Set : goal.returns-in-Set
returns-in-Set g c =
    let limits = limits_of c.args.inodes.now.geometry in
    let path = c.as_bytes-in-Set.result.now in
    leaves c.set.ensures (λ disk settled v table stands volume mounted y told.
    asked_or_stays limits c.args.session.now c.args.call.now (path_calls.Set path c.in-Set.settings) v table y
    (one_text c.args.call.now (λ (p : List ℕ). path_calls.Set p c.in-Set.settings) c.in-Set.path path c.in-Set.is c.as_bytes-in-Set.ensures)
    (subst (λ (n : Option Time). ComesOrStays (sets limits n (tree_of v table) path c.in-Set.settings) limits v table y) c.requires.said told))
