-- How an answer is told by the exit status.
use Rattle.std.specs.Prelude.{ℕ}
use Rattle.loopx.specs.declared.status.Status.{Status}
use Rattle.loopx.specs.declared.status.Status.TheVariants.{Done, Refused, Usage, ReadFault, WriteFault, Memory, TooLong, Trapped, Cut}

abbrev pub exit_status : Status → ℕ
exit_status Done = 0
exit_status Refused = 1
exit_status Usage = 2
exit_status ReadFault = 3
exit_status WriteFault = 4
exit_status Memory = 5
exit_status TooLong = 6
exit_status Trapped = 7
exit_status Cut = 8
