use Rattle.std.proofs.Common.{◌*◌, ◌%◌, ℕ, List, ap, rules, arith, subst, Some, None}
use Rattle.station.specs.Images.{Images}
use Rattle.layout.specs.Gates.{HeaderIs}
use Rattle.layout.specs.Log.{half_of}
use Rattle.oplog.proofs.Reading.{header_at, no_header, filled, tells_open, tells_none}
use Rattle.oplog.proofs.saved.read_half.Goals as goal

pub returns-in_err-header-clause-damaged : goal.returns-in_err-header-clause-damaged
returns-in_err-header-clause-damaged g c damaged honest bodies held =
    let nvram = (g.S.Station.meaning c.args.station.now).seen.nvram in
    let at = header_at c.args.half _ c.args.epoch nvram (omega (arith, c.requires.half)) (ap (λ (e : ℕ). c.args.half * (e % 2)) c.get.ensures) in
    no_header c.args.epoch (half_of c.args.half c.args.epoch nvram) bodies (subst (λ (l : List ℕ). HeaderIs l None) at (c.in_err-header.ensures.damaged (search rules) honest)) held

pub returns-in_err-is_open_for-clause-damaged : goal.returns-in_err-is_open_for-clause-damaged
returns-in_err-is_open_for-clause-damaged g c damaged honest =
    let nvram = (g.S.Station.meaning c.args.station.now).seen.nvram in
    let at = header_at c.args.half _ c.args.epoch nvram (omega (arith, c.requires.half)) (ap (λ (e : ℕ). c.args.half * (e % 2)) c.get.ensures) in
    c.in_err-is_open_for.ensures.damaged (half_of c.args.half c.args.epoch nvram) (subst (λ (l : List ℕ). HeaderIs l (Some c.in_ok-header.header)) at (c.in_ok-header.ensures.header honest))

pub returns-then-not-branch-clause-tells : goal.returns-then-not-branch-clause-tells
returns-then-not-branch-clause-tells g c honest =
    let nvram = (g.S.Station.meaning c.args.station.now).seen.nvram in
    let at = header_at c.args.half _ c.args.epoch nvram (omega (arith, c.requires.half)) (ap (λ (e : ℕ). c.args.half * (e % 2)) c.get.ensures) in
    let header = subst (λ (l : List ℕ). HeaderIs l (Some c.in_ok-header.header)) at (c.in_ok-header.ensures.header honest) in
    tells_none c.args.epoch (half_of c.args.half c.args.epoch nvram) c.in_ok-records.records.items _ (c.in_ok-is_open_for.ensures.tells (half_of c.args.half c.args.epoch nvram) header) (search rules) (search rules)

pub returns-clause-tells : goal.returns-clause-tells
returns-clause-tells g c honest =
    let nvram = (g.S.Station.meaning c.args.station.now).seen.nvram in
    let at = header_at c.args.half _ c.args.epoch nvram (omega (arith, c.requires.half)) (ap (λ (e : ℕ). c.args.half * (e % 2)) c.get.ensures) in
    let header = subst (λ (l : List ℕ). HeaderIs l (Some c.in_ok-header.header)) at (c.in_ok-header.ensures.header honest) in
    let went = c.read_header.ensures.reads.goes honest in
    let read = filled c.args.half c.args.epoch _ _ c.in_ok-records-2.records.len _ nvram c.nv_read.new.out c.in_ok-records-2.records.items (omega (arith, c.requires.half)) (ap (λ (e : ℕ). c.args.half * (e % 2)) c.get.ensures)
    (search rules) (search rules) (search rules) (ap (λ (i : Images). i.nvram) went.seen) (c.in_ok-nv_read.ensures.bytes went.honest) in
    tells_open c.args.epoch (half_of c.args.half c.args.epoch nvram) _ _ (c.in_ok-is_open_for.ensures.tells (half_of c.args.half c.args.epoch nvram) header) (search rules) read
