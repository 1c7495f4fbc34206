use Rattle.std.proofs.Common.{ℕ, subst}
use Rattle.layout.specs.StateLimits.{limits_of}
use Rattle.model.specs.Counting.{Counts}
use Rattle.inofile.proofs.CountLaws.{TakenBelow, objects_counted}
use Rattle.inofile.proofs.inode_file.InodeFile.count_taken.Goals as goal

pub returns : goal.returns
returns c = λ detail count disk settled v is volume.
    let s = c.args.self.now in
    let bytes = s.numbers.bytes.items in
    objects_counted bytes v (limits_of s.geometry) c.count_taken.result is.mapped volume
    (subst (λ (to : ℕ). Counts (TakenBelow bytes to) c.count_taken.result) s.same c.count_taken.ensures.counts)
