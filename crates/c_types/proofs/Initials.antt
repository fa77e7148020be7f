-- The well-formed parts of an item.
use Rattle.std.proofs.Common.{sym, subst, Option}
use Rattle.c_tree.specs.Bare.{Expr, Exprs, no_exprs, more_exprs}
use Rattle.c_tree.specs.WellFormed.{WellFormedOption, WellFormedInitial}

pub initial_well_formed : (dims : Exprs) (init : Option Expr) → WellFormedInitial dims init → WellFormedOption init
initial_well_formed no_exprs init h = h
initial_well_formed (more_exprs e es) init h = subst WellFormedOption (sym h) tt

pub ruleset initials = (initial_well_formed)
