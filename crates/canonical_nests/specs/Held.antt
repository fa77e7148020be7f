-- What code may count on in a directive: each literal has a value that its type holds.
use Rattle.std.specs.Prelude.{List, [], ◌∷◌, Option, Some, None}
use Rattle.c_tree.specs.Bare.{Expr, Count, fill, given, Directive, directive, Clauses, no_clauses, more_clauses, Clause, sizes, permutation, counts, looprange, full, partial, apply, Items, no_items, more_items, Item, nothing, acts}
use Rattle.c_tree.specs.Constants.{LiteralsAreHeld, EachLiteralIsHeld}

abbrev pub CountIsHeld : Count → Type 0
CountIsHeld fill = Unit {0}
CountIsHeld (given e) = LiteralsAreHeld e

abbrev pub CountsAreHeld : List Count → Type 0
CountsAreHeld [] = Unit {0}
CountsAreHeld (c ∷ cs) = CountIsHeld c × CountsAreHeld cs

abbrev pub OptionIsHeld : Option Expr → Type 0
OptionIsHeld None = Unit {0}
OptionIsHeld (Some e) = LiteralsAreHeld e

abbrev mutual
  pub DirectiveIsHeld : Directive → Type 0
  DirectiveIsHeld (directive kind cs) = ClausesAreHeld cs

  pub ClausesAreHeld : Clauses → Type 0
  ClausesAreHeld no_clauses = Unit {0}
  ClausesAreHeld (more_clauses c cs) = ClauseIsHeld c × ClausesAreHeld cs

  pub ClauseIsHeld : Clause → Type 0
  ClauseIsHeld (sizes es) = EachLiteralIsHeld es
  ClauseIsHeld (permutation es) = EachLiteralIsHeld es
  ClauseIsHeld (counts cs) = CountsAreHeld cs
  ClauseIsHeld (looprange first count) = LiteralsAreHeld first × LiteralsAreHeld count
  ClauseIsHeld full = Unit {0}
  ClauseIsHeld (partial factor) = OptionIsHeld factor
  ClauseIsHeld (apply modifier indices is) = EachLiteralIsHeld indices × ItemsAreHeld is

  pub ItemsAreHeld : Items → Type 0
  ItemsAreHeld no_items = Unit {0}
  ItemsAreHeld (more_items i is) = ItemIsHeld i × ItemsAreHeld is

  pub ItemIsHeld : Item → Type 0
  ItemIsHeld nothing = Unit {0}
  ItemIsHeld (acts d) = DirectiveIsHeld d
