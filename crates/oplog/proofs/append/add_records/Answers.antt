use Rattle.std.proofs.Common.{rules}
use Rattle.oplog.proofs.Runs.{writing, written, disk_stays}
use Rattle.oplog.proofs.Writes.{record_writes}
use Rattle.oplog.proofs.append.add_records.Goals as goal

pub returns-in_err-nv_write-clause-appends : goal.returns-in_err-nv_write-clause-appends
returns-in_err-nv_write-clause-appends g c log gen next bodies more are fits at stands =
    let two = record_writes log gen next _ bodies more _ are fits at _ stands in
    record { any_moment = writing two.begin two.staging c.nv_write.ensures.call; appended = search rules }

pub returns-in_err-nv_write-2-clause-appends : goal.returns-in_err-nv_write-2-clause-appends
returns-in_err-nv_write-2-clause-appends g c log gen next bodies more are fits at stands =
    let two = record_writes log gen next _ bodies more _ are fits at _ stands in
    let staged = written two.begin two.staging c.nv_write.ensures.call c.in_ok-nv_write.ensures.kept in
    record { any_moment = writing staged two.counting c.nv_write-2.ensures.call; appended = search rules }

pub returns-clause-appends : goal.returns-clause-appends
returns-clause-appends g c log gen next bodies more are fits at stands =
    let two = record_writes log gen next _ bodies more _ are fits at _ stands in
    let staged = written two.begin two.staging c.nv_write.ensures.call c.in_ok-nv_write.ensures.kept in
    let done = written staged two.counting c.nv_write-2.ensures.call c.in_ok-nv_write-2.ensures.kept in
    record { any_moment = done.any_moment; appended = done.at_the_end }

pub returns-in_err-nv_write-clause-disk : goal.returns-in_err-nv_write-clause-disk
returns-in_err-nv_write-clause-disk g c = disk_stays c.nv_write.ensures.call

pub returns-in_err-nv_write-2-clause-disk : goal.returns-in_err-nv_write-2-clause-disk
returns-in_err-nv_write-2-clause-disk g c = λ disk reads. disk_stays c.nv_write-2.ensures.call disk (disk_stays c.nv_write.ensures.call disk reads)

pub returns-clause-disk : goal.returns-clause-disk
returns-clause-disk g c = λ disk reads. disk_stays c.nv_write-2.ensures.call disk (disk_stays c.nv_write.ensures.call disk reads)
