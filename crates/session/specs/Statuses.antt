-- The exit statuses and their numbers.
use Rattle.std.specs.Prelude.{ℕ}
use Rattle.session.specs.declared.ending.Ending.{Ending}
use Rattle.session.specs.declared.ending.Ending.TheVariants.{Ran, Unrun}
use Rattle.session.specs.declared.status.Status.{Status}
use Rattle.session.specs.declared.status.Status.TheVariants.{Done, NotUnderstood, FileFault, Cut, NotMounted, NotACommand, Faulty, NoMemory, Refused}

-- the number that the program ends with
abbrev pub status_number : Status → ℕ
status_number Done = 0
status_number NotUnderstood = 1
status_number FileFault = 2
status_number Cut = 3
status_number NotMounted = 4
status_number NotACommand = 5
status_number Faulty = 6
status_number NoMemory = 7
status_number Refused = 8

-- the status of an ending
abbrev pub status_of : Ending → Status
status_of (Ran status) = status
status_of (Unrun fault status) = status
