use Rattle.std.proofs.Common.{◌∙◌, sym, ap, List}
use Rattle.c_tree.specs.PlacedOf.{placed_stmts}
use Rattle.c_tree.specs.declared.tree.Stmt.{Stmt}
use Rattle.c_tree.specs.declared.tree.Stmt.TheVariants.{If}
use Rattle.canonical_nests.specs.LoopRules.Accesses.{breaks, breaks_in}
use Rattle.canonical_nests.specs.LoopRules.BreachSets.{least, lesser}
use Rattle.canonical_nests.specs.LoopRules.Heads.{break_breaches}
use Rattle.loop_heads.proofs.Breaks.{breaks_join}
use Rattle.loop_heads.proofs.Nodes.{placed_if_else}
use Rattle.loop_heads.proofs.breaking.+break_breach.Goals as goal

pub stmt_breach-returns-in-Some : goal.stmt_breach-returns-in-Some
stmt_breach-returns-in-Some t c =
    let w = c.in-If in
    let n = c.in-Some.no in
    let is = w.is ∙ ap (λ o. If w.test w.yes o w.span) c.in-Some.is in
    let e = placed_if_else c.args.stmt.now w.test w.yes n w.span is in
    let f = breaks_join (breaks_in (placed_stmts w.yes)) (breaks_in (placed_stmts n)) in
    let g = ap (λ s. least (break_breaches (breaks s))) e ∙ f in
    let found = λ (xs : List Stmt). least (break_breaches (breaks_in (placed_stmts xs))) in
    let first = c.break_breach-in-Some.ensures ∙ ap found c.as_slice-in-Some.ensures in
    let second = c.break_breach-in-Some-2.ensures ∙ ap found c.as_slice-in-Some-2.ensures in
    c.lesser.ensures ∙ ((λ i. lesser (first i) (second i)) ∙ sym g)
