use Rattle.mount.proofs.ApplyLemmas.{served_now}
use Rattle.mount.proofs.RunLemmas.{run_goes_on}
use Rattle.mount.proofs.fs.Fs.apply.Goals as goal

pub returns : goal.returns
returns g c =
    let told = c.answer-reply.ensures in
    record {
      answers = told.answers;
      at_once = told.at_once;
      quiet = told.quiet;
      failed = told.failed;
      goes_on = λ first s steps so_far young.
          let applied = told.answers.applied so_far.last so_far.serves young tt in
          run_goes_on first c.args.self.now c.answer-reply.new.self s steps c.args.command.now c.answer-reply.result so_far told.answers.uses.same applied
          (served_now _ applied.0 applied.1.serves (λ is. c.served_states_open.ensures applied.0.tree.descriptors applied.0 (applied.1.serves.kept is)));
    }
