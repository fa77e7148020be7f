-- A trap leaves the state as it was.
use Rattle.std.proofs.Common.{sym}
use Rattle.resolved_names.specs.Numbered.{number_name, numbered_expr, numbered_exprs}
use Rattle.c_meaning.specs.Scopes.{env_of}
use Rattle.c_meaning.proofs.Assignments.{set_err}
use Rattle.c_meaning.proofs.simple.set_to.Goals as goal

pub returns-in-Err-clause-run : goal.returns-in-Err-clause-run
returns-in-Err-clause-run c =
    set_err (env_of c.args.scope.now).defines (number_name c.args.target.now.name) (numbered_exprs c.args.target.now.subs) c.args.op (numbered_expr c.args.e.now) c.args.m.now c.in-Err.trap (sym c.in-Err.ensures)
