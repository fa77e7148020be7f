-- The automaton over the trees themselves.
use Rattle.std.specs.Prelude.{ℕ, List}
use Rattle.c_tree.specs.Placed.{Expr, num, un, bin, cond, cast, Exprs, no_exprs, more_exprs}
use Rattle.c_tree.specs.declared.tree.Span.{Span}
use Rattle.pragma_grammar.specs.Symbols.{Symbol}
use Rattle.pragma_grammar.specs.Expressions.{element}
use Rattle.pragma_grammar.specs.Machine as machine

abbrev pub join : Exprs → Exprs → Exprs
join no_exprs fs = fs
join (more_exprs e es) fs = more_exprs e (join es fs)

abbrev pub join_last : Exprs → Expr → Exprs
join_last es e = join es (more_exprs e no_exprs)

abbrev pub trees : machine.Algebra Expr Exprs
trees = record { num = num; element = element; un = un; bin = bin; cond = cond; cast = cast; no_subscripts = no_exprs; subscript = join_last }

abbrev pub Open : Type 0
Open = machine.Open Expr Exprs

abbrev pub State : Type 0
State = machine.State Expr Exprs

abbrev pub Move : Type 0
Move = machine.Move Expr Exprs

abbrev pub asks : List Open → ℕ
asks k = machine.asks Expr Exprs k

abbrev pub closes : List Open → Expr → Span → Symbol → Move
closes k e w t = machine.closes Expr Exprs trees k e w t

abbrev pub step : State → Symbol → Move
step s t = machine.step Expr Exprs trees s t
