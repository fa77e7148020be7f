-- The bare tree of an expression and its tree with places, and what is well formed there.
use Rattle.c_tree.specs.Bare.{Expr, num, read, item, un, bin, cond, cast, Exprs, no_exprs, more_exprs}
use Rattle.c_tree.specs.Constants.{LiteralsAreHeld, EachLiteralIsHeld}
use Rattle.c_tree.specs.WellFormed.{WellFormedExpr, WellFormedExprs}
use Rattle.c_tree.proofs.Forgotten.Exprs.{bare_expr_is}

mutual
  pub literals_held : (e : Expr) → WellFormedExpr e → LiteralsAreHeld e
  literals_held (num k t) h = h
  literals_held (read x) h = tt
  literals_held (item x es) h = each_held es h.2
  literals_held (un op a) h = literals_held a h
  literals_held (bin op a b) h = (literals_held a h.0, literals_held b h.1)
  literals_held (cond a b c) h = (literals_held a h.0, literals_held b h.1, literals_held c h.2)
  literals_held (cast t a) h = literals_held a h

  pub each_held : (es : Exprs) → WellFormedExprs es → EachLiteralIsHeld es
  each_held no_exprs h = tt
  each_held (more_exprs e es) h = (literals_held e h.0, each_held es h.1)

pub ruleset bares = (bare_expr_is, literals_held, each_held)
