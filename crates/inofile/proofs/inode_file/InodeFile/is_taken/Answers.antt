use Rattle.inofile.proofs.VolumeLaws.{free_number}
use Rattle.inofile.proofs.inode_file.InodeFile.is_taken.Goals as goal

pub returns-clause-free : goal.returns-clause-free
returns-clause-free c = λ detail count disk settled v is free.
    free_number c.args.self.now.numbers.bytes.items v c.args.number c.is_taken.result is.mapped c.is_taken.ensures free
