-- The whole run is that of the items from the start.
use Rattle.std.proofs.Common.{◌≡◌, ◌∙◌, sym, ap, refl, subst, map, Result, Ok, Err}
use Rattle.std.proofs.lemmas.Result.{err_from_is_err_and, IfOk-from_err}
use Rattle.std.specs.Prelude.{OnErr}
use Rattle.outside_io.specs.Bytes.{GainsPrefix}
use Rattle.resolved_names.specs.Numbered.{numbered_top}
use Rattle.c_semantics.specs.Meaning.Programs.{outcome}
use Rattle.c_meaning.specs.declared.run.Run.{Run}
use Rattle.c_meaning.specs.declared.run.RunFault.{RunFault}
use Rattle.c_meaning.specs.declared.run.RunFault.TheVariants.{WriteFault}
use Rattle.c_meaning.specs.Running.{lines_text, sunk}
use Rattle.c_meaning.proofs.Items.{from_start, all_lines, end_comes, turns_come, some_lines}
use Rattle.c_meaning.proofs.interpret.run_numbered.Goals as goal

pub returns-in_err-end-clause-lines : goal.returns-in_err-end-clause-lines
returns-in_err-end-clause-lines g c =
    IfOk-from_err c.from_residual.result _ c.from_residual.ensures.0

pub returns-in_err-end-clause-end : goal.returns-in_err-end-clause-end
returns-in_err-end-clause-end g c =
    IfOk-from_err c.from_residual.result _ c.from_residual.ensures.0

pub returns-in_err-end-clause-turns : goal.returns-in_err-end-clause-turns
returns-in_err-end-clause-turns g c =
    IfOk-from_err c.from_residual.result _ c.from_residual.ensures.0

pub returns-in_err-end-clause-part : goal.returns-in_err-end-clause-part
returns-in_err-end-clause-part g c =
    let p = map numbered_top c.args.items.now in
    let ran = from_start c.args.bound p c.args.input.now (sunk (g.K.Sink.held c.args.out.now) (g.K.Sink.faults c.args.out.now)) (sunk (g.K.Sink.held c.run_items.new.out) (g.K.Sink.faults c.run_items.new.out)) c.run_items.new.m c.args.items.now c.new-m.result (Err c.in_err-end.field-0.0) refl c.new-m.ensures c.in_err-end.ensures in
    let q = err_from_is_err_and c.from_residual.result c.from_residual.ensures.1 in
    let is = q.1 ∙ ap Err q.2 in
    subst (λ (r : Result Run RunFault). OnErr r (GainsPrefix (g.K.Sink.held c.args.out.now) (g.K.Sink.held c.run_items.new.out) (lines_text (outcome c.args.bound p c.args.input.now).lines))) (sym is) (some_lines c.args.bound p c.args.input.now (sunk (g.K.Sink.held c.args.out.now) (g.K.Sink.faults c.args.out.now)) (sunk (g.K.Sink.held c.run_items.new.out) (g.K.Sink.faults c.run_items.new.out)) c.run_items.new.m c.in_err-end.field-0.0 ran)

pub returns-in_err-end-clause-failed : goal.returns-in_err-end-clause-failed
returns-in_err-end-clause-failed g c =
    let q = err_from_is_err_and c.from_residual.result c.from_residual.ensures.1 in
    let is = q.1 ∙ ap Err q.2 in
    λ w. (let fault : c.in_err-end.field-0.0 ≡ WriteFault = cc in c.in_err-end.ensures.failed (ap Err fault))

pub returns-in_err-end-clause-faults : goal.returns-in_err-end-clause-faults
returns-in_err-end-clause-faults g c =
    c.run_items.ensures.faults

pub returns-clause-lines : goal.returns-clause-lines
returns-clause-lines g c =
    let p = map numbered_top c.args.items.now in
    let ran = from_start c.args.bound p c.args.input.now (sunk (g.K.Sink.held c.args.out.now) (g.K.Sink.faults c.args.out.now)) (sunk (g.K.Sink.held c.run_items.new.out) (g.K.Sink.faults c.run_items.new.out)) c.run_items.new.m c.args.items.now c.new-m.result (Ok c.in_ok-end.end) refl c.new-m.ensures c.in_ok-end.ensures in
    all_lines c.args.bound p c.args.input.now (sunk (g.K.Sink.held c.args.out.now) (g.K.Sink.faults c.args.out.now)) (sunk (g.K.Sink.held c.run_items.new.out) (g.K.Sink.faults c.run_items.new.out)) c.run_items.new.m c.in_ok-end.end ran

pub returns-clause-end : goal.returns-clause-end
returns-clause-end g c =
    let p = map numbered_top c.args.items.now in
    let ran = from_start c.args.bound p c.args.input.now (sunk (g.K.Sink.held c.args.out.now) (g.K.Sink.faults c.args.out.now)) (sunk (g.K.Sink.held c.run_items.new.out) (g.K.Sink.faults c.run_items.new.out)) c.run_items.new.m c.args.items.now c.new-m.result (Ok c.in_ok-end.end) refl c.new-m.ensures c.in_ok-end.ensures in
    end_comes c.args.bound p c.args.input.now (sunk (g.K.Sink.held c.args.out.now) (g.K.Sink.faults c.args.out.now)) (sunk (g.K.Sink.held c.run_items.new.out) (g.K.Sink.faults c.run_items.new.out)) c.run_items.new.m c.in_ok-end.end c.finish.result c.finish.ensures ran

pub returns-clause-turns : goal.returns-clause-turns
returns-clause-turns g c =
    let p = map numbered_top c.args.items.now in
    let ran = from_start c.args.bound p c.args.input.now (sunk (g.K.Sink.held c.args.out.now) (g.K.Sink.faults c.args.out.now)) (sunk (g.K.Sink.held c.run_items.new.out) (g.K.Sink.faults c.run_items.new.out)) c.run_items.new.m c.args.items.now c.new-m.result (Ok c.in_ok-end.end) refl c.new-m.ensures c.in_ok-end.ensures in
    c.turns.ensures ∙ turns_come c.args.bound p c.args.input.now (sunk (g.K.Sink.held c.args.out.now) (g.K.Sink.faults c.args.out.now)) (sunk (g.K.Sink.held c.run_items.new.out) (g.K.Sink.faults c.run_items.new.out)) c.run_items.new.m c.in_ok-end.end ran

pub returns-clause-failed : goal.returns-clause-failed
returns-clause-failed g c =
    λ w. absurd (cc)

pub returns-clause-faults : goal.returns-clause-faults
returns-clause-faults g c =
    c.run_items.ensures.faults
