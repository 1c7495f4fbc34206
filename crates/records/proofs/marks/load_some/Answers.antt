use Rattle.records.proofs.LaterLaws.{brings_nothing}
use Rattle.records.proofs.marks.load_some.Goals as goal

pub returns-in-Some : goal.returns-in-Some
returns-in-Some g c = rw c.in-Some.is c.load_beside.ensures

pub returns-in-None : goal.returns-in-None
returns-in-None g c = rw c.in-None.is (brings_nothing tt)
