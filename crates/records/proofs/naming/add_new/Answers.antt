use Rattle.std.proofs.Common.{rules, sym, ap, is_some, ◌∙◌}
use Rattle.std.proofs.lemmas.Bool.{false≢true}
use Rattle.records.proofs.EnterLaws.{full_has_no_place}
use Rattle.records.proofs.naming.add_new.Goals as goal

pub returns-in-Ok-true : goal.returns-in-Ok-true
returns-in-Ok-true g c = record {
  reads = search rules;
  same = search rules;
  fits = search rules;
  pieces = c.prepare_add.ensures.pieces;
  edited = λ disk names shows had.
      let room = c.in-Ok-true.ensures.room disk names shows had.1 had.0 (search rules) in (
        record { missing = c.in-Ok-true.ensures.missing disk names shows had.1 had.0 (search rules); place = record { count = room.0; counts = room.1; room = room.2 } },
        c.in-Ok-true.ensures.added disk names shows had.1 had.0 (search rules),
        c.in-Ok-true.ensures.knows disk shows had.1,
      );
  damaged = search rules;
}

pub returns-in-Ok-false : goal.returns-in-Ok-false
returns-in-Ok-false g c = record {
  reads = search rules;
  same = search rules;
  fits = search rules;
  pieces = tt;
  edited = λ disk names shows had takes. false≢true (sym (ap is_some takes.missing) ∙ c.in-Ok-false.ensures.there disk names shows had.1 had.0 (search rules));
  damaged = search rules;
}

pub returns-in-Err-DirFull : goal.returns-in-Err-DirFull
returns-in-Err-DirFull g c = record {
  reads = search rules;
  same = search rules;
  fits = search rules;
  pieces = tt;
  edited = λ disk names shows had takes.
      let full = c.in-Err-DirFull.ensures.full disk names shows had.1 had.0 (search rules) in
      full_has_no_place c.args.limits names full.1 full.2 full.3 takes.place;
  damaged = search rules;
}

pub returns : goal.returns
returns g c = record {
  reads = search rules;
  same = search rules;
  fits = search rules;
  pieces = tt;
  edited = search rules;
  damaged = λ disk names shows is had sound. c.in-Err-Damaged.ensures.damaged disk shows (search rules) (λ i below. sound i) (λ i below. (had.0.entries i, had.0.holds i below));
}
