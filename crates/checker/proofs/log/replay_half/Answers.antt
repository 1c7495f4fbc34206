use Rattle.std.proofs.Common.{◌∙◌, ◌∷◌, ◌≡◌, [], ℕ, length, refl, arith, length-append, sym, subst, ap, inl, inr}
use Rattle.std.proofs.lemmas.List.Elements.{All-nil}
use Rattle.layout.specs.StateLimits.{limits_of}
use Rattle.layout.specs.Limits.{Sizes}
use Rattle.layout.specs.Log.{record_of}
use Rattle.layout.specs.Record.{IsChange}
use Rattle.model.specs.Records.{applied, work_of}
use Rattle.model.specs.Room as room
use Rattle.model.specs.Volumes.{Volume}
use Rattle.images.specs.Soundness.{by_sizes}
use Rattle.replay.specs.Volumes.{AppliesIn, HasVolumeIn, SpellsRecord, bodies_of}
use Rattle.replay.proofs.RecordLaws.{ends, step}
use Rattle.checker.proofs.LogLaws.{in_front}
use Rattle.checker.proofs.ReadLaws.{looked_more, looked_of, looks_err}
use Rattle.checker.proofs.log.replay_half.Goals as goal

pub loop-body-preserved : goal.loop-body-preserved
loop-body-preserved g c =
    let before = c.loop-body.invariant in
    let count = g.B.Blocks.count c.args.blocks.now in
    let limits = limits_of c.args.inodes.now.geometry in record {
      look = looked_more before.look (looked_of g.met.B.Blocks.reads_nothing g.met.B.UncachedReads.grows c.replay_record.ensures.reads);
      geometry = c.replay_record.ensures.geometry ∙ before.geometry;
      few = omega (arith, before.few, ap length c.in-Open.ensures.1, length-append (record_of c.in-Open.body.now) c.in-Open.after.now);
      cheap = omega (arith, before.cheap, c.in-Ok.ensures.few);
      leads = λ disk settled v w changes shows has leads.
          let back = before.leads disk settled v w changes shows has leads in
          let next = step by_sizes limits c.loop-body.rest.now c.in-Open.body.now c.in-Open.after.now back.0 back.1 w c.in-Open.ensures.0 c.in-Open.ensures.1 back.3 in
          let did = c.in-Ok.ensures.replays by_sizes disk settled back.1 next.change (before.look.same disk shows)
          (subst (λ (n : ℕ). HasVolumeIn by_sizes n disk settled c.loop-body.inodes back.1) (sym before.look.count) back.2) (subst (λ (s : Sizes). SpellsRecord (limits_of s).has_attributes c.in-Open.body.now next.change) (sym before.geometry) next.spells)
          (subst (λ (s : Sizes). AppliesIn by_sizes (limits_of s) back.1 next.change) (sym before.geometry) next.applies) in
          (next.more, applied next.change back.1, subst (λ (n : ℕ). HasVolumeIn by_sizes n disk settled c.replay_record.new.inodes (applied next.change back.1)) before.look.count did.1, next.leads);
      led = λ disk settled v shows has.
          let back = before.led disk settled v shows has in
          let did = c.in-Ok.ensures.applies by_sizes disk settled back.0 (before.look.same disk shows)
          (subst (λ (n : ℕ). HasVolumeIn by_sizes n disk settled c.loop-body.inodes back.0) (sym before.look.count) back.1) in
          let paid = c.in-Ok.ensures.replays by_sizes disk settled back.0 did.0 (before.look.same disk shows)
          (subst (λ (n : ℕ). HasVolumeIn by_sizes n disk settled c.loop-body.inodes back.0) (sym before.look.count) back.1)
          did.1 did.2 in
          let cost : c.in-Ok.more ≡ room.cost limits.costs (work_of back.0 did.0) =
          subst (λ (s : Sizes). c.in-Ok.more ≡ room.cost (limits_of s).costs (work_of back.0 did.0)) before.geometry paid.0 in (
            applied did.0 back.0,
            subst (λ (n : ℕ). HasVolumeIn by_sizes n disk settled c.replay_record.new.inodes (applied did.0 back.0)) before.look.count did.3,
            λ more w leads.
                let all = back.2 (did.0 ∷ more) w
                (in_front limits c.loop-body.rest.now c.in-Open.body.now c.in-Open.after.now did.0 more back.0 w c.in-Open.ensures.0 c.in-Open.ensures.1
                (subst (λ (s : Sizes). SpellsRecord (limits_of s).has_attributes c.in-Open.body.now did.0) before.geometry did.1)
                (subst (λ (s : Sizes). AppliesIn by_sizes (limits_of s) back.0 did.0) before.geometry did.2) leads) in
                (all.0, all.1, omega (arith, all.2), omega (arith, all.3, cost)),
          );
    }

pub returns-in-Closed-clause-replays : goal.returns-in-Closed-clause-replays
returns-in-Closed-clause-replays g c disk settled v w changes shows has leads =
    let back = c.loop-body.invariant.leads disk settled v w changes shows has leads in
    let done = ends by_sizes (limits_of c.args.inodes.now.geometry) c.loop-body.rest.now back.0 back.1 w c.in-Closed.ensures back.3 in
    subst (λ (u : Volume). HasVolumeIn by_sizes (g.B.Blocks.count c.args.blocks.now) disk settled c.loop-body.inodes u) (sym done.1) back.2

pub returns-in-Closed-clause-applies : goal.returns-in-Closed-clause-applies
returns-in-Closed-clause-applies g c disk settled v shows has =
    let back = c.loop-body.invariant.led disk settled v shows has in
    let limits = limits_of c.args.inodes.now.geometry in
    let all = back.2 [] back.0 (record { are = All-nil (IsChange limits.has_attributes); held = c.in-Closed.ensures; replays = refl }) in
    (all.0, back.0, all.1, omega (arith, all.2), back.1, omega (arith, all.3))

pub returns-in-Malformed-clause-replays : goal.returns-in-Malformed-clause-replays
returns-in-Malformed-clause-replays g c disk settled v w changes shows has leads =
    let back = c.loop-body.invariant.leads disk settled v w changes shows has leads in
    c.in-Malformed.ensures (bodies_of back.0) back.3.held

pub returns-in-Err-NoMemory-clause-reads : goal.returns-in-Err-NoMemory-clause-reads
returns-in-Err-NoMemory-clause-reads g c =
    looks_err c.loop-body.invariant.look (looked_of g.met.B.Blocks.reads_nothing g.met.B.UncachedReads.grows c.replay_record.ensures.reads) (λ is. absurd (cc))

pub returns-in-Err-Damaged-clause-reads : goal.returns-in-Err-Damaged-clause-reads
returns-in-Err-Damaged-clause-reads g c =
    looks_err c.loop-body.invariant.look (looked_of g.met.B.Blocks.reads_nothing g.met.B.UncachedReads.grows c.replay_record.ensures.reads) (λ is. absurd (cc))

pub returns-in-Err-Damaged-clause-replays : goal.returns-in-Err-Damaged-clause-replays
returns-in-Err-Damaged-clause-replays g c disk settled v w changes shows has leads =
    let before = c.loop-body.invariant in
    let limits = limits_of c.args.inodes.now.geometry in
    let back = before.leads disk settled v w changes shows has leads in
    let next = step by_sizes limits c.loop-body.rest.now c.in-Open.body.now c.in-Open.after.now back.0 back.1 w c.in-Open.ensures.0 c.in-Open.ensures.1 back.3 in
    let why = c.in-Err-Damaged.ensures.replays by_sizes disk settled back.1 next.change (before.look.same disk shows)
    (subst (λ (n : ℕ). HasVolumeIn by_sizes n disk settled c.loop-body.inodes back.1) (sym before.look.count) back.2) (subst (λ (s : Sizes). SpellsRecord (limits_of s).has_attributes c.in-Open.body.now next.change) (sym before.geometry) next.spells)
    (subst (λ (s : Sizes). AppliesIn by_sizes (limits_of s) back.1 next.change) (sym before.geometry) next.applies) in
    elim why [ inl memory ↦ absurd (cc) | inr device ↦ absurd (cc) ]

pub returns-in-Malformed-clause-faults : goal.returns-in-Malformed-clause-faults
returns-in-Malformed-clause-faults g c = (_, _, refl)

pub returns-in-Err-Damaged-clause-faults : goal.returns-in-Err-Damaged-clause-faults
returns-in-Err-Damaged-clause-faults g c = (_, _, refl)
