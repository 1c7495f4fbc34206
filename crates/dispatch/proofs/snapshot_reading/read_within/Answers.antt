use Rattle.std.proofs.Common.{rules, ◌∙◌, Option, None, ap, subst, sym}
use Rattle.std.proofs.lemmas.Result.{IfOk-weaker}
use Rattle.model.specs.declared.limits.Limits.{Limits}
use Rattle.layout.specs.StateLimits.{limits_of}
use Rattle.model.specs.Records.{without_orphans}
use Rattle.model.specs.Room.{nothing}
use Rattle.model.specs.Sessions.{new_session}
use Rattle.dispatch.proofs.ServingLaws.{asked_at}
use Rattle.model.specs.Steps.{calls}
use Rattle.model.specs.Volumes.{tree_of}
use Rattle.records.specs.Failures.{read_outcome}
use Rattle.snapshots.specs.Found.{named}
use Rattle.dispatch.specs.Answering.{answered_reply}
use Rattle.system.specs.Views.{ShowsSnapshot}
use Rattle.system.specs.declared.snapshot_view.View.{View}
use Rattle.system.proofs.ViewLaws.{closed, kept_view}
use Rattle.dispatch.proofs.ViewLaws.{frozen_told, reading_viewed, view_looked, view_stands}
use Rattle.dispatch.proofs.snapshot_reading.read_within.Goals as goal

pub returns-in-Some-clause-shows : goal.returns-in-Some-clause-shows
returns-in-Some-clause-shows g c = λ disk shows v pairs holds shown.
    let kept = c.keep_view.ensures in
    let is = subst (λ (o : Option View). ShowsSnapshot disk c.args.root.now.geometry pairs o) c.in-Some.is (kept.shows disk shows v pairs holds shown) in
    view_looked (kept.reads.same disk shows) (kept.reads.count ∙ c.requires.size) is c.read.new.blocks c.read.new.inodes (read_outcome c.read.result) c.read.ensures.tells.looks

pub returns-in-Some-clause-views : goal.returns-in-Some-clause-views
returns-in-Some-clause-views g c = λ disk shows v pairs holds shown s limits same.
    let kept = c.keep_view.ensures in
    let name = c.args.name.now in
    let call = c.args.call.now in
    let is = kept_view disk c.args.root.now.geometry pairs name c.keep_view.new.kept c.in_ok-is_there.is_there c.in-Some.view c.in-Some.is c.if-not-is_there.false
    (c.in_ok-is_there.ensures.keeps disk shows v pairs holds shown) in
    IfOk-weaker (read_outcome c.read.result) _ _
    (λ x answers. reading_viewed s name call (name, tree_of (without_orphans is.volume) closed) (answered_reply x) (ap (named name) same ∙ is.listed) (search rules)
    (asked_at s.session s.limits (tree_of (without_orphans is.volume) closed) call (answered_reply x) nothing (search rules)
    (subst (λ (l : Limits). calls l new_session (tree_of (without_orphans is.volume) closed) call (answered_reply x) (tree_of (without_orphans is.volume) closed) nothing) (ap limits_of is.geometry ∙ sym limits)
    (frozen_told c.mounts_forget_open_files.ensures c.reading_forgets_open_files.ensures (limits_of c.in-Some.view.inodes.geometry) is.volume call (answered_reply x) is.is (search rules) answers))))
    (c.read.ensures.tells.answers disk is.settled is.volume closed (view_stands (kept.reads.same disk shows) (kept.reads.count ∙ c.requires.size) is) is.is)

pub returns-in-Some-clause-damaged : goal.returns-in-Some-clause-damaged
returns-in-Some-clause-damaged g c = λ disk shows v pairs holds shown bad.
    let kept = c.keep_view.ensures in
    let is = subst (λ (o : Option View). ShowsSnapshot disk c.args.root.now.geometry pairs o) c.in-Some.is (kept.shows disk shows v pairs holds shown) in
    c.read.ensures.tells.damaged disk is.settled is.volume (view_stands (kept.reads.same disk shows) (kept.reads.count ∙ c.requires.size) is) bad
