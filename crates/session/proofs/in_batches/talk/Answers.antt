use Rattle.std.proofs.Common.{◌≡◌, [], sym, ◌∙◌, ap, subst}
use Rattle.model.specs.States.{State}
use Rattle.mount.specs.Batching.{RunsInBatches}
use Rattle.mount.specs.Systems.{Serves, mounted}
use Rattle.mount.specs.declared.fs.Fs.{Fs}
use Rattle.session.proofs.RoundLemmas.{answered_none}
use Rattle.session.proofs.in_batches.talk.Goals as goal

pub returns : goal.returns
returns g c =
    let first = c.new-files.result in
    let begins = subst (λ (f : Fs g.row.S.Denot g.S.Station). (s : State) → Serves (mounted f s) → RunsInBatches f s first [] []) (sym c.new-files.ensures.fs) (λ s serves. c.new-files.ensures.begins s serves c.requires.going) in
    let ended = c.finish-status.ensures.commits in
    record {
      talks = λ old is_mounted. record {
        fs = c.args.fs;
        is_mounted = is_mounted;
        first = first;
        begins = (c.new-files.ensures.fs, c.new-files.ensures.none);
        heard = c.answer_lines-status.new.files;
        why = c.answer_lines-status.result;
        ends = c.answer_lines-status.ensures.ends (answered_none c.args.manners.durability first begins);
        last = c.finish-status.new.files;
        done = ended.0;
        commits = ended.1;
        station = ap (λ (f : Fs g.row.S.Denot g.S.Station). f.system.blocks.buffers.station) (sym c.into_fs.ensures.fs) ∙ sym c.into_station.ensures.station;
        told = g.E.Write.contents c.answer_lines-status.new.err.inner;
        quiet = c.answer_lines-status.ensures.quiet;
        tells = ended.2;
        fault = c.answer_lines-status.ensures.fault;
      };
    }
