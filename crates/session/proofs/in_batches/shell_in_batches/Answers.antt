use Rattle.session.proofs.in_batches.shell_in_batches.Goals as goal

pub returns-in-Ok : goal.returns-in-Ok
returns-in-Ok g c = record {
  ends = c.talk-status.ensures.talks c.args.station (record {
    goes = c.in-Ok.ensures.goes;
    going = c.in-Ok.ensures.going;
    finds = c.in-Ok.ensures.opens;
    found = c.in-Ok.ensures.found;
  });
}
