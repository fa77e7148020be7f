-- An array holds as many zeros as its dimensions give.
use Rattle.std.specs.Option.{option_map}
use Rattle.resolved_names.specs.Numbered.{numbered_expr}
use Rattle.c_meaning.specs.Scopes.{env_of}
use Rattle.c_meaning.proofs.InitialCells.{array_is_initial}
use Rattle.c_meaning.proofs.globals.initial.Goals as goal

pub returns-clause-cell : goal.returns-clause-cell
returns-clause-cell c =
    array_is_initial (env_of c.args.scope.now).defines c.args.ty c.args.dims.now (option_map numbered_expr c.args.init.now) c.is_empty.result c.is_empty.ensures c.if-is_empty.false c.array.result c.array.ensures.cell
