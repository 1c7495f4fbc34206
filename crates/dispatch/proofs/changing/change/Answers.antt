use Rattle.std.proofs.Common.{◌≡◌, ◌≢◌, ◌∙◌, Bool, true, false, Option, None, Some, ap, inl, inr, refl}
use Rattle.std.specs.Prelude.{is_some, not}
use Rattle.model.specs.States.{State}
use Rattle.system.specs.Serving.{ServesState}
use Rattle.dispatch.specs.declared.prepared_call.PreparedChange.{PreparedChange}
use Rattle.dispatch.proofs.FulfilLaws.{answered_fulfils, done_anew, done_never, done_now, done_sliced, refused_anew}
use Rattle.system.proofs.GoingOnLaws.{none_pending}
use Rattle.dispatch.proofs.OpenFileLaws.{changing_not_sure}
use Rattle.dispatch.proofs.PreparedLaws.{refused_on}
use Rattle.system.proofs.SystemLaws.{all_open}
use Rattle.dispatch.proofs.changing.change.Goals as goal

-- whether it is to change something, as it is asked for
none_by : (o : Option PreparedChange) (b : Bool) → is_some o ≡ not b → b ≡ true → o ≡ None
none_by None b told is = refl
none_by (Some change) b told is = let e : true ≡ false = told ∙ ap not is in absurd (cc)

some_by : (o : Option PreparedChange) (b : Bool) → is_some o ≡ not b → b ≡ false → o ≢ None
some_by None b told is = let e : false ≡ true = told ∙ ap not is in absurd (cc)
some_by (Some change) b told is = λ none. cc

pub returns-then-is_none : goal.returns-then-is_none
returns-then-is_none g c =
    let f = c.args.system.now in
    let call = c.args.call.now in
    let prepares = c.in-Ok.ensures in
    let within = prepares.prepares.within in
    let none = none_by c.in-Ok.prepared.change c.is_none.result c.is_none.ensures c.if-is_none.true in
    done_now {G = g.S.Station} f call (changing_not_sure {G = g.S.Station} f call c.requires) (λ s served. all_open served f.sectors f.half c.cuts_open.ensures) prepares c.carry_out.new.system c.carry_out.result
    (record { frame = c.carry_out.ensures.frame call within.kind within.accepted; told = λ s served at. c.carry_out.ensures.told call s served at }) (inl (c.carry_out.ensures.quiet none))

pub returns-in-Ok-advance : goal.returns-in-Ok-advance
returns-in-Ok-advance g c =
    let f = c.args.system.now in
    let call = c.args.call.now in
    let prepares = c.in-Ok.ensures in
    let within = prepares.prepares.within in
    let did = c.carry_out-in-Ok-advance.ensures in
    done_sliced {G = g.S.Station} f call (changing_not_sure {G = g.S.Station} f call c.requires) (λ s served. all_open served f.sectors f.half c.cuts_open.ensures) prepares c.advance.new.self
    c.carry_out-in-Ok-advance.new.system c.in-Ok-advance.field-0 c.carry_out-in-Ok-advance.result (c.is_under_way.ensures.0 c.if-is_under_way.true) c.in-Ok-advance.ensures.steps c.in-Ok-advance.ensures.ready
    (record { frame = did.frame call within.kind within.accepted; told = λ s served at. did.told call s served at })

pub returns-in-Err-advance : goal.returns-in-Err-advance
returns-in-Err-advance g c =
    let f = c.args.system.now in
    let call = c.args.call.now in
    let some = some_by c.in-Ok.prepared.change c.is_none.result c.is_none.ensures c.if-is_none.false in
    done_never {G = g.S.Station} f call (changing_not_sure {G = g.S.Station} f call c.requires) (λ s served. all_open served f.sectors f.half c.cuts_open.ensures) c.in-Ok.ensures c.advance.new.self
    c.in-Err-advance.field-0 (c.is_under_way.ensures.0 c.if-is_under_way.true) some c.in-Err-advance.ensures.steps

pub returns-then-not-is_plan_due : goal.returns-then-not-is_plan_due
returns-then-not-is_plan_due g c =
    let f = c.args.system.now in
    let call = c.args.call.now in
    let prepares = c.in-Ok.ensures in
    let within = prepares.prepares.within in
    let did = c.carry_out-then-not-is_plan_due.ensures in
    done_now {G = g.S.Station} f call (changing_not_sure {G = g.S.Station} f call c.requires) (λ s served. all_open served f.sectors f.half c.cuts_open.ensures) prepares
    c.carry_out-then-not-is_plan_due.new.system c.carry_out-then-not-is_plan_due.result
    (record { frame = did.frame call within.kind within.accepted; told = λ s served at. did.told call s served at })
    (inr (none_pending c.prepare.new.system.blocks.pending c.is_under_way.result c.is_under_way.ensures c.if-is_under_way.false))

pub returns-in-Ok-prepare : goal.returns-in-Ok-prepare
returns-in-Ok-prepare g c =
    let f = c.args.system.now in
    let call = c.args.call.now in
    let anew = c.in-Ok-prepare.ensures in
    let within = anew.prepares.within in
    let did = c.carry_out-in-Ok-prepare.ensures in
    let mid = c.prepare.new.system in
    let next = c.plan.new.self in
    done_anew {G = g.S.Station} f call (changing_not_sure {G = g.S.Station} f call c.requires) (λ s served. all_open served f.sectors f.half c.cuts_open.ensures) c.in-Ok.ensures next tt
    (c.is_plan_due.ensures.0 c.if-not-is_plan_due.false) c.plan.ensures (λ s served. g.met.S.Station.seen_may_be_left mid.blocks.buffers.station served.honest)
    (λ s served. all_open served next.sectors next.half c.cuts_open.ensures) anew c.carry_out-in-Ok-prepare.new.system c.carry_out-in-Ok-prepare.result
    (record { frame = did.frame call within.kind within.accepted; told = λ s served at. did.told call s served at })

pub returns-in-Ok : goal.returns-in-Ok
returns-in-Ok g c =
    let f = c.args.system.now in
    let call = c.args.call.now in
    let mid = c.prepare.new.system in
    let next = c.plan.new.self in
    let now = c.prepare-in-Ok.new.system in
    let opens_then = λ (s : State) (served : ServesState {G = g.S.Station} next s). all_open served next.sectors next.half c.cuts_open.ensures in
    rw (c.called.ensures, c.answer.ensures)
    (refused_anew {G = g.S.Station} f call (changing_not_sure {G = g.S.Station} f call c.requires) (λ s served. all_open served f.sectors f.half c.cuts_open.ensures) c.in-Ok.ensures next tt
    (c.is_plan_due.ensures.0 c.if-not-is_plan_due.false) c.plan.ensures (λ s served. g.met.S.Station.seen_may_be_left mid.blocks.buffers.station served.honest) opens_then now _
    (refused_on {G = g.S.Station} next now call (changing_not_sure {G = g.S.Station} next call c.requires) c.in-Err-prepare.failure c.in-Err-prepare.ensures))

pub returns : goal.returns
returns g c =
    let f = c.args.system.now in
    let call = c.args.call.now in
    rw (c.called-in-Err.ensures, c.answer-in-Err.ensures)
    (answered_fulfils {G = g.S.Station} f c.prepare.new.system call (λ s served. all_open served f.sectors f.half c.cuts_open.ensures) _
    (refused_on {G = g.S.Station} f c.prepare.new.system call (changing_not_sure {G = g.S.Station} f call c.requires) c.in-Err.failure c.in-Err.ensures))
