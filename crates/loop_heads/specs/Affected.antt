-- What the loops that a directive asks for touch, where some are wanted; and names that were entered after others.
use Rattle.std.specs.Prelude.{◌≡◌, ℕ, ◌-◌, ◌≤◌, List, length, Option}
use Rattle.c_tree.specs.Bare.{Name, Stmt, for_, block, omp, Stmts, Head, head}
use Rattle.c_semantics.specs.Meaning.State.{keep}
use Rattle.c_semantics.specs.Meaning.Expressions.{Define}
use Rattle.c_semantics.specs.Meaning.FileVariables.{Access, FunctionAccess, no_access, both, reading, free_names_if, head_access as canon_access, scope_in, scope_with, maybe_accesses, or_nest, all_accesses, nests_accesses}
use Rattle.c_semantics.specs.Loops.CanonicalForm.{Canonical, canonical}
use Rattle.c_semantics.specs.Loops.Directives.{plan_of}
use Rattle.c_semantics.specs.Loops.Need.{loops_asked}

-- some names were entered, and none of the earlier ones was left
pub record Extends (old : List Name) (new : List Name) : Type 0 where
  pub longer : length old ≤ length new
  pub kept : keep (length old) new ≡ old

abbrev pub head_scope : List Name → Head → List Name
head_scope h (head i e next) = scope_in i h

module _ (ds : List Define) (fs : List FunctionAccess) where
  -- of the parts of a head
  abbrev pub head_access : List Name → Head → Access
  head_access h (head i e next) = both (maybe_accesses ds fs h i) (both (reading (free_names_if (scope_in i h) e)) (maybe_accesses ds fs (scope_in i h) next))

  -- in a loop's body, of which m loops are wanted
  abbrev pub body_access : List Name → List Name → ℕ → Stmts → Access
  body_access h b m a = or_nest m (all_accesses ds fs b a) (nests_accesses ds fs h b m a)

  -- of a loop
  abbrev pub for_access : List Name → List Name → ℕ → Stmts → Option Canonical → Access
  for_access h b m a c = both (canon_access h c) (body_access h (scope_with c b) m a)

  -- of a statement of which a directive round it wants m loops, m of at least 1
  abbrev pub wanted_access : List Name → List Name → ℕ → Stmt → Access
  wanted_access h b m (for_ d a) = for_access h b (m - 1) a (canonical ds d)
  wanted_access h b m (block a) = nests_accesses ds fs h b m a
  wanted_access h b m (omp d a) = nests_accesses ds fs h b (loops_asked (plan_of ds d) m) a
  wanted_access h b m _ = no_access
