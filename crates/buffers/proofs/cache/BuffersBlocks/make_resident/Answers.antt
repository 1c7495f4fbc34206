use Rattle.std.proofs.Common.{◌≡◌, ◌∙◌, length, inl, sym, ap, Some}
use Rattle.std.specs.Ordering.{nat_cmp}
use Rattle.std.specs.BTreeMap.{get}
use Rattle.buffers.proofs.DiskLaws.{kept_more}
use Rattle.buffers.proofs.cache.BuffersBlocks.make_resident.Goals as goal

pub returns-in-Some-clause-whole : goal.returns-in-Some-clause-whole
returns-in-Some-clause-whole g c = λ disk shows.
    let got : get nat_cmp c.args.self.now.kept.held c.get-place.result ≡ Some c.in-Some.block.now = sym c.in-Some.ensures.value in
    ap length (ap disk (sym c.get-place.ensures) ∙ sym (shows.kept_is c.get-place.result c.in-Some.block.now (inl got))) ∙ c.is_whole.ensures

pub returns-in_err-hold-clause-same : goal.returns-in_err-hold-clause-same
returns-in_err-hold-clause-same g c = λ disk shows.
    kept_more (g.S.Station.meaning c.fetch.new.self.station) c.fetch.new.self.kept c.hold.new.self c.get-place.result c.in_ok-block.block disk c.hold.ensures.only
    (c.in_ok-block.ensures.block disk shows) (c.fetch.ensures.same disk shows)

pub returns-clause-same : goal.returns-clause-same
returns-clause-same g c = λ disk shows.
    kept_more (g.S.Station.meaning c.fetch.new.self.station) c.fetch.new.self.kept c.hold.new.self c.get-place.result c.in_ok-block.block disk c.hold.ensures.only
    (c.in_ok-block.ensures.block disk shows) (c.fetch.ensures.same disk shows)

pub returns-clause-whole : goal.returns-clause-whole
returns-clause-whole g c = λ disk shows. ap length (ap disk (sym c.get-place.ensures) ∙ sym (c.in_ok-block.ensures.block disk shows)) ∙ c.is_whole-2.ensures
