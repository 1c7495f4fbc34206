use Rattle.std.proofs.Common.{ℕ, subst}
use Rattle.std.proofs.Math.Path.{fun_ext}
use Rattle.images.specs.Contents.{Content, HoldsVolume}
use Rattle.inofile.proofs.FileLaws.{files_hold, files_unchanged}
use Rattle.inofile.proofs.laws.unchanged_memory_is_settled.Goals as goal

pub returns : goal.returns
returns c = λ count disk settled s v w few is none holds.
    let same = fun_ext (λ n. files_unchanged count disk settled s v is n (none n)) in
    c.files_hold_one_volume.ensures s.geometry.inodes _ w v few holds
    (subst (λ (files : ℕ → Content). HoldsVolume s.geometry.inodes files v) same (files_hold count disk settled s v is))
