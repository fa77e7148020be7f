-- What statements assign, read and call, with the places of the names. Of a name that a declaration inside hides nothing
-- is said, so that a name always means the variable that is visible where the statements begin (C11 6.2.1).
use Rattle.std.specs.Prelude.{ℕ, List, [], ◌∷◌, ◌++◌, Bool, true, false, if◌then◌else◌, bytes_eq}
use Rattle.c_tree.specs.Bare.{Name}
use Rattle.c_tree.specs.Placed.{Expr, num, read, item, un, bin, cond, cast, Exprs, no_exprs, more_exprs, Target, target, Stmt, decl, set, step, input, if_, if_else, while_, do_, for_, block, break_, omp, call, Stmts, no_stmts, more_stmts, MaybeStmt, no_stmt, a_stmt, head}
use Rattle.c_semantics.specs.Meaning.FileVariables.{has_name}

-- a name and its first byte
pub record PlacedName : Type 0 where
  pub name : Name
  pub at : ℕ

abbrev pub named : Name → ℕ → List PlacedName
named x at = record { name = x; at = at } ∷ []

-- ---- what an expression reads

abbrev mutual
  pub reads : Expr → List PlacedName
  reads (num k t s) = []
  reads (read x s) = named x s.start
  reads (item x es s) = named x s.start ++ reads_each es
  reads (un op a s) = reads a
  reads (bin op a b s) = reads a ++ reads b
  reads (cond a b c s) = reads a ++ (reads b ++ reads c)
  reads (cast t a s) = reads a

  pub reads_each : Exprs → List PlacedName
  reads_each no_exprs = []
  reads_each (more_exprs e es) = reads e ++ reads_each es

-- ---- what statements assign: the targets of assignments, steps and inputs, those in `for` heads included

abbrev pub unless_hidden : List Name → Target → List PlacedName
unless_hidden h (target x es s) = if has_name h x then [] else named x s.start

abbrev pub hidden_after : Stmt → List Name → List Name
hidden_after (decl t x at e s) h = x ∷ h
hidden_after _ h = h

abbrev pub hidden_in : MaybeStmt → List Name → List Name
hidden_in no_stmt h = h
hidden_in (a_stmt a) h = hidden_after a h

abbrev mutual
  pub assigned : List Name → Stmt → List PlacedName
  assigned h (set t o e s) = unless_hidden h t
  assigned h (step t up s) = unless_hidden h t
  assigned h (input t at s) = unless_hidden h t
  assigned h (if_ e a s) = assigned_in h a
  assigned h (if_else e a b s) = assigned_in h a ++ assigned_in h b
  assigned h (while_ e a s) = assigned_in h a
  assigned h (do_ a e s) = assigned_in h a
  assigned h (for_ (head i i_at e e_at next next_at) a s) =
      assigned_in_part h i ++ (assigned_in_part (hidden_in i h) next ++ assigned_in (hidden_in i h) a)
  assigned h (block a s) = assigned_in h a
  assigned h (omp d a s) = assigned_in h a
  assigned h _ = []

  pub assigned_in : List Name → Stmts → List PlacedName
  assigned_in h no_stmts = []
  assigned_in h (more_stmts a as') = assigned h a ++ assigned_in (hidden_after a h) as'

  pub assigned_in_part : List Name → MaybeStmt → List PlacedName
  assigned_in_part h no_stmt = []
  assigned_in_part h (a_stmt a) = assigned h a

-- ---- what statements call

abbrev mutual
  pub calls : Stmt → List PlacedName
  calls (if_ e a s) = calls_in a
  calls (if_else e a b s) = calls_in a ++ calls_in b
  calls (while_ e a s) = calls_in a
  calls (do_ a e s) = calls_in a
  calls (for_ h a s) = calls_in a
  calls (block a s) = calls_in a
  calls (omp d a s) = calls_in a
  calls (call f at es s) = named f at.start
  calls _ = []

  pub calls_in : Stmts → List PlacedName
  calls_in no_stmts = []
  calls_in (more_stmts a as') = calls a ++ calls_in as'

-- ---- the places of the `break`s that leave the loop round statements

abbrev mutual
  pub breaks : Stmt → List ℕ
  breaks (break_ s) = s.start ∷ []
  breaks (if_ e a s) = breaks_in a
  breaks (if_else e a b s) = breaks_in a ++ breaks_in b
  breaks (block a s) = breaks_in a
  breaks (omp d a s) = breaks_in a
  breaks _ = []

  pub breaks_in : Stmts → List ℕ
  breaks_in no_stmts = []
  breaks_in (more_stmts a as') = breaks a ++ breaks_in as'

abbrev pub are_named : List PlacedName → Name → Bool
are_named [] x = false
are_named (n ∷ ns) x = if bytes_eq x n.name then true else are_named ns x
