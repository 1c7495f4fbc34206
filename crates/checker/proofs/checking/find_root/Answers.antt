use Rattle.std.proofs.Common.{inl, inr, rules, subst}
use Rattle.station.specs.Images.{Images}
use Rattle.layout.specs.Opens.{IsNewest}
use Rattle.layout.specs.declared.TheConstants.{SLOT_A, SLOT_B}
use Rattle.checker.specs.declared.fault.RootsFault.TheVariants as roots
use Rattle.checker.proofs.FindingLaws.{no_root_before, no_root_behind, no_roots, roots_found, settled_read}
use Rattle.checker.proofs.checking.find_root.Goals as goal

pub returns-in-Ok-clause-found : goal.returns-in-Ok-clause-found
returns-in-Ok-clause-found g c honest =
    let went = c.make_durable.ensures.goes honest in
    subst (λ (i : Images). IsNewest c.in-Ok.newest.root (i.disk SLOT_A) (i.disk SLOT_B)) went.seen (c.in-Ok.ensures.found went.honest).newest

pub returns-in-Err-NoRoot-clause-none : goal.returns-in-Err-NoRoot-clause-none
returns-in-Err-NoRoot-clause-none g c honest none found =
    let m = g.S.Station.meaning c.args.station.now in
    let n = g.S.Station.meaning c.make_durable.new.station in
    let went = c.make_durable.ensures.goes honest in
    let sized = g.met.S.Station.sized c.args.station.now honest m.seen (g.met.S.Station.seen_may_be_left c.args.station.now honest) in
    roots_found m.sectors m.seen.disk m.seen.nvram c.args.findings.now.first c.find.new.self.first roots.None none c.find.ensures.first
    (no_roots m n c.make_durable.ensures.same went.seen sized.nvram (λ r newest fits. let other = c.in-Err-NoRoot.ensures.only went.honest r newest fits in cc))
    (no_root_before m n c.make_durable.ensures.same went.seen
    (c.in-Err-NoRoot.ensures.no_root (search rules) went.honest))

pub returns-in-Err-Damaged-clause-none : goal.returns-in-Err-Damaged-clause-none
returns-in-Err-Damaged-clause-none g c honest none found =
    let m = g.S.Station.meaning c.args.station.now in
    let n = g.S.Station.meaning c.make_durable.new.station in
    let went = c.make_durable.ensures.goes honest in
    let sized = g.met.S.Station.sized c.args.station.now honest m.seen (g.met.S.Station.seen_may_be_left c.args.station.now honest) in
    roots_found m.sectors m.seen.disk m.seen.nvram c.args.findings.now.first c.find-in-Err-Damaged.new.self.first roots.Unfit none c.find-in-Err-Damaged.ensures.first
    (no_roots m n c.make_durable.ensures.same went.seen sized.nvram (λ r newest fits. let other = c.in-Err-Damaged.ensures.only went.honest r newest fits in cc))
    (λ nowhere.
    let behind = no_root_behind m n c.make_durable.ensures.same went.seen nowhere in
    elim (c.in-Err-Damaged.ensures.rootless went.honest behind) [ inl is ↦ cc | inr is ↦ cc ])

pub returns-in-Ok-clause-settles : goal.returns-in-Ok-clause-settles
returns-in-Ok-clause-settles g c = settled_read _ c.in_ok-make_durable.ensures c.newest_root.ensures.reads tt

pub returns-in-Err-NoRoot-clause-settles : goal.returns-in-Err-NoRoot-clause-settles
returns-in-Err-NoRoot-clause-settles g c = settled_read _ c.in_ok-make_durable.ensures c.newest_root.ensures.reads tt

pub returns-in-Err-Damaged-clause-settles : goal.returns-in-Err-Damaged-clause-settles
returns-in-Err-Damaged-clause-settles g c = settled_read _ c.in_ok-make_durable.ensures c.newest_root.ensures.reads tt

pub returns-in-Err-Device-clause-settles : goal.returns-in-Err-Device-clause-settles
returns-in-Err-Device-clause-settles g c = settled_read _ c.in_ok-make_durable.ensures c.newest_root.ensures.reads (λ is. c.in-Err-Device.ensures.reads.fault (search rules))
