use Rattle.std.proofs.Common.{◌≡◌, ◌∙◌, Bool, Option, None, Result, ap, subst, sym}
use Rattle.std.specs.Prelude.{IfOk, MatchResult}
use Rattle.model.specs.Paths.{first_refusal}
use Rattle.model.specs.Room.{nothing}
use Rattle.model.specs.Steps.{WouldStep, take_tests}
use Rattle.model.specs.declared.errno.Errno.{Errno}
use Rattle.model.specs.declared.errno.Errno.TheVariants.{EBUSY, NOSNAP}
use Rattle.model.specs.declared.reply.Reply.TheVariants.{Refused}
use Rattle.snapshots.specs.Found.{FindsSnapshot, named}
use Rattle.snapshots.specs.Prepared.{TellsOpen, command_of}
use Rattle.snapshots.specs.Taken.{MayTake, RefusesTake}
use Rattle.snapshots.specs.declared.finding.FoundSnapshot.{FoundSnapshot}
use Rattle.snapshots.specs.declared.preparing.SnapshotRequest.{SnapshotRequest}
use Rattle.snapshots.specs.declared.preparing.SnapshotRequest.TheVariants.{Delete, Restore, Take}
use Rattle.snapshots.specs.declared.taking.Taking.{Taking}
use Rattle.snapshots.proofs.PreparedLaws.{busy, missing, none_to_delete, refused}
use Rattle.snapshots.proofs.preparing.prepare_snapshot.Goals as goal

pub returns-in-Ok-clause-tests : goal.returns-in-Ok-clause-tests
returns-in-Ok-clause-tests g c = λ disk shows v pairs holds s limits same is_open.
    let name = c.in-Take.name.now in
    let told = c.in_ok-taking-in-Take.ensures in (
      subst (λ (r : Result Taking Errno). IfOk r (MayTake disk c.args.root.now name)) c.in-Ok.is (told.may disk shows v pairs holds),
      subst (λ (r : Result Taking Errno). MatchResult r (λ t. first_refusal (take_tests s name) ≡ None) (RefusesTake s name)) c.in-Ok.is (told.tests disk shows v pairs holds s limits same),
    )

pub returns-in-Err-clause-tests : goal.returns-in-Err-clause-tests
returns-in-Err-clause-tests g c = λ disk shows v pairs holds s limits same is_open room.
    let name = c.in-Take.name.now in
    let is : c.args.request.now ≡ Take c.in-Take.name = cc in
    subst (λ (r : SnapshotRequest). WouldStep room s (command_of r) (Refused c.in-Err.errno) s nothing) (sym is)
    (refused s (take_tests s name) _ c.in-Err.errno
    (subst (λ (r : Result Taking Errno). MatchResult r (λ t. first_refusal (take_tests s name) ≡ None) (RefusesTake s name)) c.in-Err.is
    (c.in_ok-taking-in-Take.ensures.tests disk shows v pairs holds s limits same)))

pub returns-in-Some-2-clause-tests : goal.returns-in-Some-2-clause-tests
returns-in-Some-2-clause-tests g c = λ disk shows v pairs holds s limits same is_open room.
    let name = c.in-Restore.name.now in
    let is : c.args.request.now ≡ Restore c.in-Restore.name = cc in
    let found = subst (λ (o : Option FoundSnapshot). FindsSnapshot c.args.root.now disk name pairs o) c.in-Some-2.is (c.in_ok-find-in-Restore.ensures.finds disk shows v pairs holds) in
    subst (λ (r : SnapshotRequest). WouldStep room s (command_of r) (Refused EBUSY) s nothing) (sym is)
    (busy s name _ (ap (named name) same ∙ found.1.listed) (subst (λ (b : Bool). TellsOpen b s) c.if-has_open.true is_open) room)

pub returns-in-None-2-clause-tests : goal.returns-in-None-2-clause-tests
returns-in-None-2-clause-tests g c = λ disk shows v pairs holds s limits same is_open room.
    let name = c.in-Restore.name.now in
    let is : c.args.request.now ≡ Restore c.in-Restore.name = cc in
    let none = subst (λ (o : Option FoundSnapshot). FindsSnapshot c.args.root.now disk name pairs o) c.in-None-2.is (c.in_ok-find-in-Restore.ensures.finds disk shows v pairs holds) in
    subst (λ (r : SnapshotRequest). WouldStep room s (command_of r) (Refused NOSNAP) s nothing) (sym is) (missing s name (ap (named name) same ∙ none) room)

pub returns-in-Some-clause-tests : goal.returns-in-Some-clause-tests
returns-in-Some-clause-tests g c = λ disk shows v pairs holds s limits same is_open.
    let name = c.in-Delete.name.now in
    (subst (λ (o : Option FoundSnapshot). FindsSnapshot c.args.root.now disk name pairs o) c.in-Some.is (c.in_ok-found-in-Delete.ensures.finds disk shows v pairs holds)).0

pub returns-in-None-clause-tests : goal.returns-in-None-clause-tests
returns-in-None-clause-tests g c = λ disk shows v pairs holds s limits same is_open room.
    let name = c.in-Delete.name.now in
    let is : c.args.request.now ≡ Delete c.in-Delete.name = cc in
    let none = subst (λ (o : Option FoundSnapshot). FindsSnapshot c.args.root.now disk name pairs o) c.in-None.is (c.in_ok-found-in-Delete.ensures.finds disk shows v pairs holds) in
    subst (λ (r : SnapshotRequest). WouldStep room s (command_of r) (Refused NOSNAP) s nothing) (sym is) (none_to_delete s name (ap (named name) same ∙ none) room)

pub returns-in-Some-2-2-clause-tests : goal.returns-in-Some-2-2-clause-tests
returns-in-Some-2-2-clause-tests g c = λ disk shows v pairs holds s limits same is_open.
    let name = c.in-Restore.name.now in (
      (subst (λ (o : Option FoundSnapshot). FindsSnapshot c.args.root.now disk name pairs o) c.in-Some-2.is (c.in_ok-find-in-Restore.ensures.finds disk shows v pairs holds)).0,
      subst (λ (b : Bool). TellsOpen b s) c.if-has_open.false is_open,
    )
