use Rattle.std.proofs.Common.{rules, ◌∙◌}
use Rattle.paths.proofs.Looks.{looks_ok}
use Rattle.records.proofs.LaterLaws.{brings_failed, brings_load}
use Rattle.records.proofs.StandLaws.{looks_stays, stands_with}
use Rattle.records.proofs.marks.load_beside.Goals as goal

pub returns-in_err-load : goal.returns-in_err-load
returns-in_err-load g c =
    let load = c.in_err-load.ensures in
    brings_failed c.from_residual.result c.from_residual.ensures.1
    (brings_load c.get-n.result load.reads load.geometry load.needs load.stays load.keeps load.known load.loaded load.rest (λ detail disk settled v. load.volume detail disk settled v) (λ detail disk settled. load.damaged detail disk settled))

pub returns-in_err-prepare_set : goal.returns-in_err-prepare_set
returns-in_err-prepare_set g c =
    let load = c.in_ok-load.ensures in
    let all = brings_load c.get-n.result load.reads load.geometry load.needs load.stays load.keeps load.known load.loaded load.rest (λ detail disk settled v. load.volume detail disk settled v) (λ detail disk settled. load.damaged detail disk settled) in
    let brings = all.brings in
    record {
      brings = record {
        looks = record {
          reads = search rules;
          geometry = c.prepare_set.ensures.geometry ∙ brings.looks.geometry;
          needs = λ n k le. c.prepare_set.ensures.needs n k (brings.looks.needs n k le);
          kept = λ {detail} disk settled v stands. stands_with c.load.new.blocks c.load.new.self c.prepare_set.new.self c.prepare_set.ensures.volume (brings.looks.kept disk settled v stands);
        };
        stays = λ n is. c.prepare_set.ensures.stays n (brings.stays n is);
        keeps = λ n is. c.prepare_set.ensures.keeps n (brings.keeps n is);
        known = search rules;
        damaged = search rules;
      };
      keeps = λ n is. c.prepare_set.ensures.loaded n ∙ all.keeps n is;
    }

pub returns : goal.returns
returns g c =
    let load = c.in_ok-load.ensures in
    let all = brings_load c.get-n.result load.reads load.geometry load.needs load.stays load.keeps load.known load.loaded load.rest (λ detail disk settled v. load.volume detail disk settled v) (λ detail disk settled. load.damaged detail disk settled) in
    let brings = all.brings in
    record {
      brings = record {
        looks = looks_ok (looks_stays brings.looks c.prepare_set.ensures.geometry c.prepare_set.ensures.needs c.prepare_set.ensures.volume);
        stays = λ n is. c.prepare_set.ensures.stays n (brings.stays n is);
        keeps = λ n is. c.prepare_set.ensures.keeps n (brings.keeps n is);
        known = search rules;
        damaged = search rules;
      };
      keeps = λ n is. c.prepare_set.ensures.loaded n ∙ all.keeps n is;
    }
