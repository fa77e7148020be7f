-- A name is a constant where it is a define.
use Rattle.std.proofs.Common.{◌∙◌, sym, ap}
use Rattle.std.specs.Prelude.{is_some}
use Rattle.c_semantics.specs.Meaning.Expressions.{only_constants}
use Rattle.resolved_names.specs.Numbered.{number_name}
use Rattle.c_meaning.specs.Scopes.{env_of}
use Rattle.c_meaning.proofs.Nodes.{bare_read}
use Rattle.c_meaning.proofs.Scopes.{constant_is_define}
use Rattle.c_meaning.proofs.globals.+only_constants.Goals as goal

pub returns-in-Read : goal.returns-in-Read
returns-in-Read t c =
    let ds = (env_of c.args.scope.now).defines in
    c.is_some.ensures ∙ (ap is_some c.define_named.ensures ∙ (constant_is_define ds (number_name c.in-Read.name) ∙ sym (ap (only_constants ds) (bare_read c.args.e.now c.in-Read.name c.in-Read.is))))
