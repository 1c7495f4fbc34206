use Rattle.replay.proofs.costs.size_before.Goals as goal

pub returns-in-Write : goal.returns-in-Write
returns-in-Write c = rw (c.in-Write.is, ← c.get.ensures) c.file_size.ensures

pub returns-in-Truncate : goal.returns-in-Truncate
returns-in-Truncate c = rw (c.in-Truncate.is, ← c.get-in-Truncate.ensures) c.file_size-in-Truncate.ensures

pub returns-in-SetFile : goal.returns-in-SetFile
returns-in-SetFile c = rw (c.in-SetFile.is, ← c.get-in-SetFile.ensures) c.file_size-in-SetFile.ensures
