-- What the program ends with: where the system refuses, of its words, where an image was checked,
-- and where a folder was served.
use Rattle.checker.specs.declared.error.CheckError.TheVariants as check_error
use Rattle.checker.specs.declared.error.CheckError.{CheckError}
use Rattle.checker.specs.declared.report.Report.TheVariants.{Bad, Good}
use Rattle.checker.specs.declared.report.Report.{Report}
use Rattle.command_line.specs.declared.line.LineError.TheVariants as line_error
use Rattle.command_line.specs.declared.line.LineError.{LineError}
use Rattle.served.specs.declared.serving.Ending.TheVariants as ending
use Rattle.served.specs.declared.serving.Ending.{Ending}
use Rattle.session.specs.declared.status.Status.TheVariants.{Done, Faulty, FileFault, NoMemory, NotMounted, NotUnderstood, Refused}
use Rattle.session.specs.declared.status.Status.{Status}

-- what the system refuses: there is no memory, or a file can't be read or written
abbrev pub IsSystemFault : Status → Type 0
IsSystemFault NoMemory = Unit {0}
IsSystemFault FileFault = Unit {0}
IsSystemFault _ = ⊥

-- why a file isn't stored in an image or brought back: the system refuses, or the image isn't
-- mounted
abbrev pub IsTransferFault : Status → Type 0
IsTransferFault NotMounted = Unit {0}
IsTransferFault s = IsSystemFault s

-- what the program ends with where its words aren't obeyed
abbrev pub line_status : LineError → Status
line_status line_error.NoMemory = NoMemory
line_status (line_error.NotUnderstood text) = NotUnderstood
line_status (line_error.OutOfRange text) = FileFault

-- what the program ends with where an image was checked
abbrev pub report_status : Report → Status
report_status (Good summary) = Done
report_status (Bad finding) = Faulty

-- what the program ends with where a check came to no report
abbrev pub check_status : CheckError → Status
check_status check_error.NoMemory = NoMemory
check_status check_error.Device = FileFault

-- what the program ends with where a folder was served
abbrev pub serving_status : Ending → Status
serving_status ending.Unmounted = Done
serving_status ending.Failed = FileFault
serving_status ending.NoMemory = NoMemory
serving_status (ending.Refused errno) = Refused
serving_status ending.Lost = FileFault
