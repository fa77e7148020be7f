-- What was declared in the scope that is left goes with it.
use Rattle.std.proofs.Common.{◌≤◌, ◌∙◌, sym, ap, subst, length}
use Rattle.c_tree.specs.NameRules.Programs.{Known}
use Rattle.c_types.specs.Visible.{scope_left}
use Rattle.c_types.proofs.Tables.{left}
use Rattle.c_types.proofs.known.Table.leave.Goals as goal

pub returns : goal.returns
returns c =
    let round = c.args.round in
    let Fits : Known → Type 0 = λ k. round ≤ length k.scope.outside in
    let left_here : Known → Known = λ k. record k { scope = scope_left round k.scope } in
    left c.self.inside c.truncate.new.self round c.truncate.ensures c.self.invariant.start (subst Fits (sym c.self.view_is) c.requires)
    ∙ ap left_here c.self.view_is
