use Rattle.std.proofs.Common.{rules}
use Rattle.paths.proofs.Looks.{looks_err, looks_ok}
use Rattle.records.proofs.StandLaws.{looks_stays, stands_with}
use Rattle.records.proofs.loading.load_to_change.Goals as goal

pub returns-in_err-load : goal.returns-in_err-load
returns-in_err-load g c =
    let load = c.in_err-load.ensures in
    record {
      looks = looks_err c.from_residual.result c.from_residual.ensures.1 load.looks;
      stays = load.stays;
      keeps = load.keeps;
      known = search rules;
      damaged = λ {detail} disk settled v stands is. load.damaged disk settled v stands (search rules);
    }

pub returns-in_err-prepare_set : goal.returns-in_err-prepare_set
returns-in_err-prepare_set g c = record {
  looks = record {
    reads = search rules;
    geometry = search rules;
    needs = λ n k le. c.prepare_set.ensures.needs n k (c.load.ensures.looks.needs n k le);
    kept = λ {detail} disk settled v stands. stands_with c.load.new.blocks c.load.new.inodes c.prepare_set.new.self c.prepare_set.ensures.volume (c.load.ensures.looks.kept disk settled v stands);
  };
  stays = search rules;
  keeps = search rules;
  known = search rules;
  damaged = search rules;
}

pub returns : goal.returns
returns g c =
    let load = c.in_ok-load.ensures in
    record {
      looks = looks_ok (looks_stays load.looks c.prepare_set.ensures.geometry c.prepare_set.ensures.needs c.prepare_set.ensures.volume);
      stays = search rules;
      keeps = search rules;
      known = search rules;
      damaged = search rules;
    }
