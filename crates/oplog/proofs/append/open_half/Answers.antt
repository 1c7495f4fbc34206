use Rattle.std.proofs.Common.{◌≡◌, ℕ, List, [], ◌∷◌, ◌++◌, rules, ap, ◌∙◌}
use Rattle.byteorder.specs.Endian.{little_bytes}
use Rattle.oplog.proofs.Runs.{writing, written, disk_stays}
use Rattle.oplog.proofs.Writes.{opening_writes}
use Rattle.oplog.proofs.append.open_half.Goals as goal

-- the epoch's bytes
epoch_bytes : (bytes : List ℕ) (got epoch it : ℕ) → bytes ≡ little_bytes 8 got ++ 0 ∷ [] → got ≡ epoch → epoch ≡ it → bytes ≡ little_bytes 8 it ++ 0 ∷ []
epoch_bytes bytes got epoch it is same number = is ∙ ap (λ (e : ℕ). little_bytes 8 e ++ 0 ∷ []) (same ∙ number)

pub returns-in_err-nv_write-clause-opens : goal.returns-in_err-nv_write-clause-opens
returns-in_err-nv_write-clause-opens g c log gen bodies room at epoch stands =
    let three = opening_writes log gen _ bodies room at _ (epoch_bytes _ _ _ _ c.write_u64.ensures c.get.ensures epoch) _ stands in
    record { any_moment = writing three.begin three.closing c.nv_write.ensures.call; opened = search rules }

pub returns-in_err-nv_write-2-clause-opens : goal.returns-in_err-nv_write-2-clause-opens
returns-in_err-nv_write-2-clause-opens g c log gen bodies room at epoch stands =
    let three = opening_writes log gen _ bodies room at _ (epoch_bytes _ _ _ _ c.write_u64.ensures c.get.ensures epoch) _ stands in
    let shut = written three.begin three.closing c.nv_write.ensures.call c.in_ok-nv_write.ensures.kept in
    record { any_moment = writing shut three.preparing c.nv_write-2.ensures.call; opened = search rules }

pub returns-in_err-nv_write-3-clause-opens : goal.returns-in_err-nv_write-3-clause-opens
returns-in_err-nv_write-3-clause-opens g c log gen bodies room at epoch stands =
    let three = opening_writes log gen _ bodies room at _ (epoch_bytes _ _ _ _ c.write_u64.ensures c.get.ensures epoch) _ stands in
    let shut = written three.begin three.closing c.nv_write.ensures.call c.in_ok-nv_write.ensures.kept in
    let prepared = written shut three.preparing c.nv_write-2.ensures.call c.in_ok-nv_write-2.ensures.kept in
    record { any_moment = writing prepared three.opening c.nv_write-3.ensures.call; opened = search rules }

pub returns-clause-opens : goal.returns-clause-opens
returns-clause-opens g c log gen bodies room at epoch stands =
    let three = opening_writes log gen _ bodies room at _ (epoch_bytes _ _ _ _ c.write_u64.ensures c.get.ensures epoch) _ stands in
    let shut = written three.begin three.closing c.nv_write.ensures.call c.in_ok-nv_write.ensures.kept in
    let prepared = written shut three.preparing c.nv_write-2.ensures.call c.in_ok-nv_write-2.ensures.kept in
    let done = written prepared three.opening c.nv_write-3.ensures.call c.in_ok-nv_write-3.ensures.kept in
    record { any_moment = done.any_moment; opened = done.at_the_end }

pub returns-in_err-nv_write-clause-disk : goal.returns-in_err-nv_write-clause-disk
returns-in_err-nv_write-clause-disk g c = disk_stays c.nv_write.ensures.call

pub returns-in_err-nv_write-2-clause-disk : goal.returns-in_err-nv_write-2-clause-disk
returns-in_err-nv_write-2-clause-disk g c = λ disk reads. disk_stays c.nv_write-2.ensures.call disk (disk_stays c.nv_write.ensures.call disk reads)

pub returns-in_err-nv_write-3-clause-disk : goal.returns-in_err-nv_write-3-clause-disk
returns-in_err-nv_write-3-clause-disk g c = λ disk reads.
    disk_stays c.nv_write-3.ensures.call disk (disk_stays c.nv_write-2.ensures.call disk (disk_stays c.nv_write.ensures.call disk reads))

pub returns-clause-disk : goal.returns-clause-disk
returns-clause-disk g c = λ disk reads.
    disk_stays c.nv_write-3.ensures.call disk (disk_stays c.nv_write-2.ensures.call disk (disk_stays c.nv_write.ensures.call disk reads))
