-- One argument more stands in the frame.
use Rattle.std.proofs.Common.{◌≡◌, ◌∙◌, sym, ap, ◌+◌, List, map, drop, Ok, rules}
use Rattle.std.specs.Prelude.{slice_index_or}
use Rattle.c_tree.specs.declared.tree.Ty.TheVariants.{Int}
use Rattle.c_semantics.specs.Meaning.State.{Var, scalar}
use Rattle.c_semantics.specs.Meaning.SimpleStatements as simple
use Rattle.resolved_names.specs.Numbered.{number_name, numbered_param, numbered_exprs}
use Rattle.resolved_names.specs.declared.tree.Param.{Param}
use Rattle.c_meaning.specs.Functions.{argument_at}
use Rattle.c_meaning.specs.Scopes.{env_of}
use Rattle.c_meaning.proofs.Calls.{arguments_more}
use Rattle.c_meaning.proofs.functions.arguments.Goals as goal

pub each-preserved : goal.each-preserved
each-preserved c =
    let ds = (env_of c.args.scope.now).defines in
    let ps = c.args.params.now in
    let es = c.args.args.now in
    let i = c.each.index in
    let p : Param = slice_index_or ps i (record { ty = Int; name = 0 }) in
    let v : Var = record { name = number_name p.name; cell = scalar p.ty c.in-Ok.value } in
    let at : p ≡ slice_index_or ps i p = search rules in
    let is : argument_at ds c.args.m.now p.ty (drop i es) ≡ Ok c.in-Ok.value = sym c.in-Ok.ensures in
    ap (λ (vs : List Var). simple.arguments ds c.args.m.now (map numbered_param (drop (i + 1) ps)) (numbered_exprs (drop (i + 1) es)) vs) c.in-Ok-push_argument.ensures
    ∙ (sym (arguments_more ds c.args.m.now ps es i p c.each.frame c.in-Ok.value c.each-test.true at is) ∙ c.each.invariant)
