use Rattle.std.proofs.Common.{◌∙◌, ap}
use Rattle.system.specs.Images.{Base}
use Rattle.system.proofs.CoveredLaws as laws
use Rattle.system.proofs.GoingOnLaws.{none_pending}
use Rattle.system.proofs.SystemLaws.{at_rest}
use Rattle.system.proofs.system.System.is_covered.Goals as goal

pub returns-then-has_empty_log-clause-all : goal.returns-then-has_empty_log-clause-all
returns-then-has_empty_log-clause-all g c = λ table s serves yes.
    let f = c.args.self.now in
    let m = g.S.Station.meaning f.blocks.buffers.station in
    let seen = g.met.S.Station.seen_may_be_left f.blocks.buffers.station serves.honest in
    let empty = c.has_empty_log.ensures.0 c.if-has_empty_log.true in
    let rests = none_pending f.blocks.pending c.is_under_way.result c.is_under_way.ensures c.if-is_under_way.false in
    let none = laws.no_record serves rests seen empty.epoch empty.end in (
      ap (λ (b : Base). b.volume) (at_rest serves rests).base ∙ laws.settled serves c.new_roots_hold.ensures f.sizes c.unchanged_memory_is_settled.ensures (c.is_settled.ensures.0 yes),
      laws.no_change serves none,
    )

pub returns-then-has_empty_log-clause-covers : goal.returns-then-has_empty_log-clause-covers
returns-then-has_empty_log-clause-covers g c = λ table s serves yes.
    let f = c.args.self.now in
    let m = g.S.Station.meaning f.blocks.buffers.station in
    let seen = g.met.S.Station.seen_may_be_left f.blocks.buffers.station serves.honest in
    let empty = c.has_empty_log.ensures.0 c.if-has_empty_log.true in
    let rests = none_pending f.blocks.pending c.is_under_way.result c.is_under_way.ensures c.if-is_under_way.false in
    record {
      rests = rests;
      serves = serves;
      no_record = laws.no_record serves rests seen empty.epoch empty.end;
      held = laws.settled serves c.new_roots_hold.ensures f.sizes c.unchanged_memory_is_settled.ensures (c.is_settled.ensures.0 yes);
    }

pub returns-then-has_empty_log-clause-told : goal.returns-then-has_empty_log-clause-told
returns-then-has_empty_log-clause-told g c =
    let f = c.args.self.now in
    let rests = none_pending f.blocks.pending c.is_under_way.result c.is_under_way.ensures c.if-is_under_way.false in (
      λ yes. record { rests = rests; log = c.has_empty_log.ensures.0 c.if-has_empty_log.true; settled = c.is_settled.ensures.0 yes },
      λ nothing. c.is_settled.ensures.1 nothing.settled,
    )
