-- The exit status of the process for each status.
use Rattle.std.specs.Prelude.{ℕ}
use Rattle.mg_top.specs.declared.status.Status.{Status}
use Rattle.mg_top.specs.declared.status.Status.TheVariants.{Done, ReadFault, WriteFault, Usage, ScriptRefused, TooLong, NoMemory, NotBuilt}

abbrev pub exit_of : Status → ℕ
exit_of Done = 0
exit_of (Usage cause) = 2
exit_of ReadFault = 1
exit_of WriteFault = 1
exit_of (ScriptRefused r) = 3
exit_of TooLong = 3
exit_of NoMemory = 4
exit_of (NotBuilt line) = 6
