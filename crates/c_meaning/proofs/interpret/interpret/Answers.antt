-- The program over numbers runs as the program does.
use Rattle.std.proofs.Common.{◌≡◌, subst, ℕ, List, ℤ}
use Rattle.std.specs.Prelude.{IfOk, OnOk, OnErr}
use Rattle.outside_io.specs.Bytes.{Gains, GainsPrefix}
use Rattle.c_semantics.specs.Meaning.Programs.{Finish}
use Rattle.c_meaning.specs.Ends.{finish_of}
use Rattle.c_meaning.specs.Running.{lines_text}
use Rattle.c_meaning.specs.States.{counted}
use Rattle.c_meaning.proofs.Renamed.{slice_runnable, slice_lines, slice_end, slice_turns}
use Rattle.c_meaning.proofs.interpret.interpret.Goals as goal

pub run_numbered-requires-clause-runnable : goal.run_numbered-requires-clause-runnable
run_numbered-requires-clause-runnable g c =
    slice_runnable c.args.checked.now c.program.result.now c.program.ensures.program c.program.ensures.checked c.requires c.as_slice.result.now c.as_slice.ensures c.in-Ok.items c.as_slice-items.result.now c.as_slice-items.ensures c.in-Ok.ensures

pub returns-clause-lines : goal.returns-clause-lines
returns-clause-lines g c =
    let same = slice_lines c.args.checked.now c.program.result.now c.program.ensures.program c.program.ensures.checked c.requires c.as_slice.result.now c.as_slice.ensures c.in-Ok.items c.as_slice-items.result.now c.as_slice-items.ensures c.in-Ok.ensures c.args.bound c.args.input.now in
    subst (λ (zs : List ℤ). OnOk c.run_numbered.result (Gains (g.K.Sink.held c.args.out.now) (g.K.Sink.held c.run_numbered.new.out) (lines_text zs))) same c.run_numbered.ensures.lines

pub returns-clause-end : goal.returns-clause-end
returns-clause-end g c =
    let same = slice_end c.args.checked.now c.program.result.now c.program.ensures.program c.program.ensures.checked c.requires c.as_slice.result.now c.as_slice.ensures c.in-Ok.items c.as_slice-items.result.now c.as_slice-items.ensures c.in-Ok.ensures c.args.bound c.args.input.now in
    subst (λ (e : Finish). IfOk c.run_numbered.result (λ run. finish_of run.end ≡ e)) same c.run_numbered.ensures.end

pub returns-clause-turns : goal.returns-clause-turns
returns-clause-turns g c =
    let same = slice_turns c.args.checked.now c.program.result.now c.program.ensures.program c.program.ensures.checked c.requires c.as_slice.result.now c.as_slice.ensures c.in-Ok.items c.as_slice-items.result.now c.as_slice-items.ensures c.in-Ok.ensures c.args.bound c.args.input.now in
    subst (λ (k : ℕ). IfOk c.run_numbered.result (λ run. run.turns ≡ counted k)) same c.run_numbered.ensures.turns

pub returns-clause-part : goal.returns-clause-part
returns-clause-part g c =
    let same = slice_lines c.args.checked.now c.program.result.now c.program.ensures.program c.program.ensures.checked c.requires c.as_slice.result.now c.as_slice.ensures c.in-Ok.items c.as_slice-items.result.now c.as_slice-items.ensures c.in-Ok.ensures c.args.bound c.args.input.now in
    subst (λ (zs : List ℤ). OnErr c.run_numbered.result (GainsPrefix (g.K.Sink.held c.args.out.now) (g.K.Sink.held c.run_numbered.new.out) (lines_text zs))) same c.run_numbered.ensures.part
