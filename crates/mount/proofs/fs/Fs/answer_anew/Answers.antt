use Rattle.std.proofs.Common.{◌≡◌, ◌∙◌, ap, subst, sym}
use Rattle.model.specs.Paths.{Name}
use Rattle.model.specs.declared.command.Command.{Command}
use Rattle.model.specs.declared.command.Command.TheVariants.{SnapDelete, SnapRestore, SnapTake, Sync}
use Rattle.descriptors.specs.declared.table.Descriptors.{Descriptors}
use Rattle.dispatch.specs.Serving.{IsAtOnce}
use Rattle.mount.proofs.AnswerLemmas.{answers_so}
use Rattle.mount.proofs.PointLemmas.{behind_letting_go}
use Rattle.mount.proofs.fs.Fs.answer_anew.Goals as goal

pub returns-in-Sync-clause-answers : goal.returns-in-Sync-clause-answers
returns-in-Sync-clause-answers g c =
    let is : c.args.command.now ≡ Sync = cc in
    behind_letting_go {G = g.S.Station} c.args.self.now _ _ c.args.command.now c.sync_all.result c.requires.going c.requires.going (λ t here. c.served_states_open.ensures t.tree.descriptors t here)
    c.let_go.ensures.glances c.let_go.ensures.station (answers_so 2 _ _ _ Sync c.args.command.now c.sync_all.result is c.sync_all.ensures)

pub returns-in-SnapTake-clause-answers : goal.returns-in-SnapTake-clause-answers
returns-in-SnapTake-clause-answers g c =
    let is : c.args.command.now ≡ SnapTake c.in-SnapTake.name = cc in
    behind_letting_go {G = g.S.Station} c.args.self.now _ _ c.args.command.now c.snapshot.result c.requires.going c.requires.going (λ t here. c.served_states_open.ensures t.tree.descriptors t here)
    c.let_go.ensures.glances c.let_go.ensures.station (answers_so 2 _ _ _ (SnapTake c.as_bytes.result.now) c.args.command.now c.snapshot.result (is ∙ ap (λ (name : Name). SnapTake name) (sym c.as_bytes.ensures)) c.snapshot.ensures)

pub returns-in-SnapDelete-clause-answers : goal.returns-in-SnapDelete-clause-answers
returns-in-SnapDelete-clause-answers g c =
    let is : c.args.command.now ≡ SnapDelete c.in-SnapDelete.name = cc in
    behind_letting_go {G = g.S.Station} c.args.self.now _ _ c.args.command.now c.snapshot-in-SnapDelete.result c.requires.going c.requires.going (λ t here. c.served_states_open.ensures t.tree.descriptors t here)
    c.let_go.ensures.glances c.let_go.ensures.station (answers_so 2 _ _ _ (SnapDelete c.as_bytes-in-SnapDelete.result.now) c.args.command.now c.snapshot-in-SnapDelete.result (is ∙ ap (λ (name : Name). SnapDelete name) (sym c.as_bytes-in-SnapDelete.ensures)) c.snapshot-in-SnapDelete.ensures)

pub returns-in-SnapRestore-clause-answers : goal.returns-in-SnapRestore-clause-answers
returns-in-SnapRestore-clause-answers g c =
    let is : c.args.command.now ≡ SnapRestore c.in-SnapRestore.name = cc in
    behind_letting_go {G = g.S.Station} c.args.self.now _ _ c.args.command.now c.snapshot-in-SnapRestore.result c.requires.going c.requires.going (λ t here. c.served_states_open.ensures t.tree.descriptors t here)
    c.let_go.ensures.glances c.let_go.ensures.station (answers_so 2 _ _ _ (SnapRestore c.as_bytes-in-SnapRestore.result.now) c.args.command.now c.snapshot-in-SnapRestore.result (is ∙ ap (λ (name : Name). SnapRestore name) (sym c.as_bytes-in-SnapRestore.ensures)) c.snapshot-in-SnapRestore.ensures)

pub returns-in_default-clause-answers : goal.returns-in_default-clause-answers
returns-in_default-clause-answers g c =
    behind_letting_go {G = g.S.Station} c.args.self.now _ _ c.args.command.now c.call.result c.requires.going c.requires.going (λ t here. c.served_states_open.ensures t.tree.descriptors t here)
    c.let_go.ensures.glances c.let_go.ensures.station c.call.ensures.answers

-- a command that makes a point isn't answered at once
not_once : (files : Descriptors) (command x : Command) → command ≡ x → (IsAtOnce files x → ⊥) → IsAtOnce files command → ⊥
not_once files command x is not once = not (subst (IsAtOnce files) is once)

pub returns-in-Sync-clause-at_once : goal.returns-in-Sync-clause-at_once
returns-in-Sync-clause-at_once g c once =
    let is : c.args.command.now ≡ Sync = cc in
    absurd (not_once c.args.self.now.system.files c.args.command.now Sync is (λ no. no) once)

pub returns-in-SnapTake-clause-at_once : goal.returns-in-SnapTake-clause-at_once
returns-in-SnapTake-clause-at_once g c once =
    let is : c.args.command.now ≡ SnapTake c.in-SnapTake.name = cc in
    absurd (not_once c.args.self.now.system.files c.args.command.now (SnapTake c.in-SnapTake.name) is (λ no. no) once)

pub returns-in-SnapDelete-clause-at_once : goal.returns-in-SnapDelete-clause-at_once
returns-in-SnapDelete-clause-at_once g c once =
    let is : c.args.command.now ≡ SnapDelete c.in-SnapDelete.name = cc in
    absurd (not_once c.args.self.now.system.files c.args.command.now (SnapDelete c.in-SnapDelete.name) is (λ no. no) once)

pub returns-in-SnapRestore-clause-at_once : goal.returns-in-SnapRestore-clause-at_once
returns-in-SnapRestore-clause-at_once g c once =
    let is : c.args.command.now ≡ SnapRestore c.in-SnapRestore.name = cc in
    absurd (not_once c.args.self.now.system.files c.args.command.now (SnapRestore c.in-SnapRestore.name) is (λ no. no) once)

pub returns-in_default-clause-at_once : goal.returns-in_default-clause-at_once
returns-in_default-clause-at_once g c once =
    let told = c.call.ensures.at_once (subst (λ (files : Descriptors). IsAtOnce files c.args.command.now) (sym c.let_go.ensures.files) once) in
    (told.0 ∙ c.let_go.ensures.station, told.1)
