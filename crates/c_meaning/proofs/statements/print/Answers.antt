-- A trap prints nothing; else the line is written, or a first part of it.
use Rattle.std.proofs.Common.{subst, ℤ, w64, rules}
use mir.Val.{SFits}
use Rattle.outside_io.specs.Bytes.{Gains, GainsPrefix}
use Rattle.std.proofs.lemmas.Int.{to_z-of_z}
use Rattle.resolved_names.specs.Numbered.{numbered_expr}
use Rattle.c_meaning.specs.Running.{sunk, line_text}
use Rattle.c_meaning.specs.Scopes.{env_of}
use Rattle.c_meaning.proofs.EachKind.{print_traps, print_prints, print_fails}
use Rattle.c_meaning.proofs.statements.print.Goals as goal

pub returns-in-Err : goal.returns-in-Err
returns-in-Err g c =
    let was = sunk (g.K.Sink.held c.args.out.now) (g.K.Sink.faults c.args.out.now) in
    print_traps (env_of c.args.scope.now).defines (numbered_expr c.args.e.now) c.args.m.now was was c.in-Err.trap c.in-Err.ensures

pub returns-in-Ok-write_line : goal.returns-in-Ok-write_line
returns-in-Ok-write_line g c =
    let w = c.in-Ok-write_line.ensures in
    let held : SFits w64 c.in-Ok.number = search rules in
    print_prints (env_of c.args.scope.now).defines (numbered_expr c.args.e.now) c.args.m.now (sunk (g.K.Sink.held c.args.out.now) (g.K.Sink.faults c.args.out.now)) (sunk (g.K.Sink.held c.write_line.new.out) (g.K.Sink.faults c.write_line.new.out)) c.in-Ok.number c.in-Ok.ensures (subst (λ (z : ℤ). Gains (g.K.Sink.held c.args.out.now) (g.K.Sink.held c.write_line.new.out) (line_text z)) (to_z-of_z w64 c.in-Ok.number held) w.whole) w.faults

pub returns-in-Err-write_line : goal.returns-in-Err-write_line
returns-in-Err-write_line g c =
    let w = c.in-Err-write_line.ensures in
    let held : SFits w64 c.in-Ok.number = search rules in
    print_fails (env_of c.args.scope.now).defines (numbered_expr c.args.e.now) c.args.m.now (sunk (g.K.Sink.held c.args.out.now) (g.K.Sink.faults c.args.out.now)) (sunk (g.K.Sink.held c.write_line.new.out) (g.K.Sink.faults c.write_line.new.out)) c.in-Ok.number c.in-Ok.ensures (subst (λ (z : ℤ). GainsPrefix (g.K.Sink.held c.args.out.now) (g.K.Sink.held c.write_line.new.out) (line_text z)) (to_z-of_z w64 c.in-Ok.number held) w.part) w.failed w.faults
