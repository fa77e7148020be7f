-- How the code's ends stand for those of the definitions.
use Rattle.c_semantics.specs.Meaning.Runs as runs
use Rattle.c_semantics.specs.Meaning.Programs as programs
use Rattle.c_meaning.specs.declared.run.End.{End}
use Rattle.c_meaning.specs.declared.run.End.TheVariants.{Next, Break, Continue, Trapped, Cut}
use Rattle.c_meaning.specs.declared.run.RunEnd.{RunEnd}
use Rattle.c_meaning.specs.declared.run.RunEnd.TheVariants as run

abbrev pub end_of : End → runs.End
end_of Next = runs.Next
end_of Break = runs.Break
end_of Continue = runs.Continue
end_of (Trapped t) = runs.Trapped t
end_of Cut = runs.Cut

abbrev pub finish_of : RunEnd → programs.Finish
finish_of run.Ended = programs.Ended
finish_of (run.Trapped t) = programs.Stopped t
finish_of run.Cut = programs.CutOff
