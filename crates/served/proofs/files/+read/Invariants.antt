use Rattle.served.proofs.files.+read.Given as goal

abbrev pub decreases-read : goal.decreases-read
decreases-read g l = l.parts
