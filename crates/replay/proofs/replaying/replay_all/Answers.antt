use Rattle.std.proofs.Common.{◌∙◌, ◌∷◌, [], ℕ, length, refl, rules, arith, length-append, sym, subst, ap}
use Rattle.layout.specs.StateLimits.{limits_of}
use Rattle.layout.specs.Log.{record_of}
use Rattle.layout.specs.Limits.{Sizes}
use Rattle.model.specs.Records.{applied, cost_of_all, work_of}
use Rattle.model.specs.Room.{cost}
use Rattle.model.specs.Volumes.{Volume}
use Rattle.replay.specs.Volumes.{AppliesIn, HasVolumeIn, RaisesRoom, SpellsRecord, bodies_of}
use Rattle.replay.proofs.Errors.{passed}
use Rattle.replay.proofs.RecordLaws.{all_done, in_front, none_behind, none_lead, one_in_front, one_more}
use Rattle.replay.proofs.replaying.replay_all.Goals as goal

pub loop-body-init : goal.loop-body-init
loop-body-init g c = record {
  read = search rules;
  geometry = refl;
  shorter = search rules;
  few = omega arith;
  leads = λ detail disk settled v w changes shows has leads. (v, has, record { more = changes; leads = leads; length_is = omega arith }, omega arith, λ base. omega arith);
  so_far = λ detail disk settled v shows has. (v, has, λ more w leads. (more, w, leads));
  held = λ bodies left holds. (bodies, holds);
}

pub loop-body-preserved : goal.loop-body-preserved
loop-body-preserved g c = record {
  read = search rules;
  geometry = c.in_ok-cost-in-Open.ensures.geometry ∙ c.loop-body.invariant.geometry;
  shorter = omega (arith, c.loop-body.invariant.shorter, ap length c.in-Open.ensures.1, length-append (record_of c.in-Open.body.now) c.in-Open.after.now);
  few = omega (arith, c.loop-body.invariant.few, c.in_ok-cost-in-Open.ensures.few, ap length c.in-Open.ensures.1, length-append (record_of c.in-Open.body.now) c.in-Open.after.now);
  leads = λ detail disk settled v w changes shows has leads.
      let read = c.loop-body.invariant.read in
      let count = g.B.Blocks.count c.args.blocks.now in
      let limits = (limits_of c.args.inodes.now.geometry) in
      let sizes = c.loop-body.invariant.geometry in
      let back = c.loop-body.invariant.leads detail disk settled v w changes shows has leads in
      let next = one_more detail limits c.args.records.now c.loop-body.rest.now changes back.0 w back.2 c.in-Open.body.now c.in-Open.after.now c.in-Open.ensures.0 c.in-Open.ensures.1 in
      let did = c.in_ok-cost-in-Open.ensures.replays detail disk settled back.0 next.0.change (read.same disk shows)
      (subst (λ (n : ℕ). HasVolumeIn detail n disk settled c.loop-body.inodes back.0) (sym read.count) back.1)
      (subst (λ (s : Sizes). SpellsRecord (limits_of s).has_attributes c.in-Open.body.now next.0.change) (sym sizes) next.0.spells)
      (subst (λ (s : Sizes). AppliesIn detail (limits_of s) back.0 next.0.change) (sym sizes) next.0.applies) in (
        applied next.0.change back.0,
        subst (λ (n : ℕ). HasVolumeIn detail n disk settled c.replay_record.new.inodes (applied next.0.change back.0)) read.count did.1,
        next.1,
        omega (arith, did.0 ∙ ap (λ (s : Sizes). cost (limits_of s).costs (work_of back.0 next.0.change)) sizes, back.3, ap (cost_of_all (limits_of c.args.inodes.now.geometry).costs back.0) next.0.are, ap (cost_of_all (limits_of c.args.inodes.now.geometry).costs (applied next.0.change back.0)) next.2),
        λ base. omega (arith, back.4 base, did.2 base),
      );
  so_far = λ detail disk settled v shows has.
      let read = c.loop-body.invariant.read in
      let limits = (limits_of c.args.inodes.now.geometry) in
      let sizes = c.loop-body.invariant.geometry in
      let back = c.loop-body.invariant.so_far detail disk settled v shows has in
      let did = c.in_ok-cost-in-Open.ensures.applies detail disk settled back.0 (read.same disk shows)
      (subst (λ (n : ℕ). HasVolumeIn detail n disk settled c.loop-body.inodes back.0) (sym read.count) back.1) in (
        applied did.0 back.0,
        subst (λ (n : ℕ). HasVolumeIn detail n disk settled c.replay_record.new.inodes (applied did.0 back.0)) read.count did.3,
        λ more w leads. back.2 (did.0 ∷ more) w
            (in_front detail limits c.loop-body.rest.now c.in-Open.body.now c.in-Open.after.now did.0 more back.0 w c.in-Open.ensures.0 c.in-Open.ensures.1
            (subst (λ (s : Sizes). SpellsRecord (limits_of s).has_attributes c.in-Open.body.now did.0) sizes did.1)
            (subst (λ (s : Sizes). AppliesIn detail (limits_of s) back.0 did.0) sizes did.2) leads),
      );
  held = λ bodies left holds.
      c.loop-body.invariant.held (c.in-Open.body.now ∷ bodies) left
      (one_in_front c.in-Open.body.now c.loop-body.rest.now c.in-Open.after.now bodies left c.in-Open.ensures.0 c.in-Open.ensures.1 holds);
}

pub returns-in-Closed-clause-replays : goal.returns-in-Closed-clause-replays
returns-in-Closed-clause-replays g c detail disk settled v w changes shows has leads =
    let back = c.loop-body.invariant.leads detail disk settled v w changes shows has leads in
    let done = all_done detail (limits_of c.args.inodes.now.geometry) c.args.records.now c.loop-body.rest.now changes back.0 w back.2 leads.held c.in-Closed.ensures in (
      record { held = done.0; cost = omega (arith, back.3, ap (cost_of_all (limits_of c.args.inodes.now.geometry).costs back.0) done.2) },
      subst (λ (u : Volume). HasVolumeIn detail (g.B.Blocks.count c.args.blocks.now) disk settled c.loop-body.inodes u) (sym done.1) back.1,
      subst (λ (u : Volume). RaisesRoom c.args.inodes.now v c.loop-body.inodes u c.loop-body.cost) (sym done.1) back.4,
    )

pub returns-in-Closed-clause-applies : goal.returns-in-Closed-clause-applies
returns-in-Closed-clause-applies g c detail disk settled v shows has =
    let back = c.loop-body.invariant.so_far detail disk settled v shows has in
    back.2 [] back.0 (none_lead detail (limits_of c.args.inodes.now.geometry) c.loop-body.rest.now back.0 c.in-Closed.ensures)

pub returns-in-Closed-clause-holds : goal.returns-in-Closed-clause-holds
returns-in-Closed-clause-holds g c = c.loop-body.invariant.held [] (length c.loop-body.rest.now) (none_behind c.loop-body.rest.now c.in-Closed.ensures)

pub returns-in-Malformed-clause-replays : goal.returns-in-Malformed-clause-replays
returns-in-Malformed-clause-replays g c detail disk settled v w changes shows has leads =
    let back = c.loop-body.invariant.leads detail disk settled v w changes shows has leads in
    absurd (c.in-Malformed.ensures (bodies_of back.2.more) back.2.leads.held)

pub returns-in_err-cost-in-Open-clause-replays : goal.returns-in_err-cost-in-Open-clause-replays
returns-in_err-cost-in-Open-clause-replays g c detail disk settled v w changes shows has leads =
    let read = c.loop-body.invariant.read in
    let limits = (limits_of c.args.inodes.now.geometry) in
    let back = c.loop-body.invariant.leads detail disk settled v w changes shows has leads in
    let next = one_more detail limits c.args.records.now c.loop-body.rest.now changes back.0 w back.2 c.in-Open.body.now c.in-Open.after.now c.in-Open.ensures.0 c.in-Open.ensures.1 in
    let why = c.in_err-cost-in-Open.ensures.replays detail disk settled back.0 next.0.change (read.same disk shows)
    (subst (λ (n : ℕ). HasVolumeIn detail n disk settled c.loop-body.inodes back.0) (sym read.count) back.1)
    (subst (λ (s : Sizes). SpellsRecord (limits_of s).has_attributes c.in-Open.body.now next.0.change) (sym c.loop-body.invariant.geometry) next.0.spells)
    (subst (λ (s : Sizes). AppliesIn detail (limits_of s) back.0 next.0.change) (sym c.loop-body.invariant.geometry) next.0.applies) in
    passed _ c.from_residual.result c.in_err-cost-in-Open.field-0.0 (search rules) why
