use Rattle.std.proofs.Common.{ℕ, subst}
use Rattle.std.specs.Prelude.{OnOk}
use Rattle.inofile.specs.Inodes.{IsKnown}
use Rattle.paths.proofs.Looks.{stands_over}
use Rattle.paths.proofs.loading.load.Goals as goal

pub returns : goal.returns
returns g c = record {
  looks = record {
    reads = c.load.ensures.reads;
    geometry = c.load.ensures.geometry;
    needs = c.load.ensures.needs;
    kept = λ disk settled v stands.
        stands_over c.args.blocks.now c.load.new.blocks c.load.new.self c.load.ensures.reads.count (c.load.ensures.reads.same disk stands.shows)
        (c.load.ensures.volume _ disk settled v stands.shows stands.volume);
  };
  loads = record { known = c.load.ensures.stays; room = c.load.ensures.keeps; changed = c.load.ensures.changed };
  known = subst (λ (k : ℕ). OnOk c.load.result (IsKnown c.load.new.self k)) c.get.ensures c.load.ensures.known;
  damaged = λ disk settled v stands is. c.load.ensures.damaged _ disk settled stands.shows is stands.volume.inodes;
}
