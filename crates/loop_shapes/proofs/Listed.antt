-- The constructs in a statement by what it is, and in what a walk has left.
use Rattle.std.proofs.Common.{◌≡◌, ◌∙◌, refl, sym, ap, ◌<◌, ◌≤◌, ◌+◌, ◌-◌, ◌≢◌, ℕ, zero, suc, List, [], ◌∷◌, ◌++◌, map, length, drop, slice_index_or, arith}
use Rattle.std.proofs.lemmas.List.{append_assoc, append-nil}
use Rattle.c_tree.specs.Placed as p
use Rattle.c_tree.specs.BareOf.{bare_top}
use Rattle.c_tree.specs.PlacedOf.{placed_stmt, placed_stmts, placed_top}
use Rattle.c_tree.specs.Forget.{forget_directive}
use Rattle.c_tree.specs.declared.tree.Item.{Item}
use Rattle.c_tree.specs.declared.tree.Span.{Span}
use Rattle.c_tree.specs.declared.tree.Stmt.{Stmt}
use Rattle.c_tree.proofs.Forgotten.Programs.{bare_top_is}
use Rattle.c_tree.proofs.Walks.{rest_more, rest_none}
use Rattle.c_semantics.specs.Meaning.Expressions.{Define}
use Rattle.c_semantics.specs.Meaning.FileVariables.{defines_with}
use Rattle.c_semantics.specs.Loops.Directives.{plan_of}
use Rattle.c_semantics.specs.Loops.Need.{loops_asked}
use Rattle.canonical_nests.specs.Constructs.{construct_of, stmt_constructs, stmts_constructs, top_constructs, constructs_from}
use Rattle.canonical_nests.proofs.HeldTrees.{good_more}
use Rattle.loop_counts.proofs.WellFormedItems.{top_well_formed}
use Rattle.loop_shapes.specs.Own.{own_constructs}

-- ---- a directive by itself

pub own_there : (m : ℕ) (d : p.Directive) → m ≡ 0 → own_constructs m d ≡ construct_of d ∷ []
own_there m d is = ap (λ n. own_constructs n d) is

pub own_none : (m : ℕ) (d : p.Directive) → m ≢ 0 → own_constructs m d ≡ []
own_none zero d some = absurd (some refl)
own_none (suc m) d some = refl

pub ruleset own = (own_there, own_none, append-nil)

-- ---- statements

module _ (ds : List Define) where
  pub at_loop : (m : ℕ) (h : p.Head) (a : p.Stmts) (span : Span) → stmt_constructs ds m (p.for_ h a span) ≡ stmts_constructs ds (m - 1) a
  at_loop zero h a span = refl
  at_loop (suc m) h a span = let e : m ≡ suc m - 1 = omega arith in ap (λ n. stmts_constructs ds n a) e

  pub at_directive : (m : ℕ) (d : p.Directive) (a : p.Stmts) (span : Span)
      → stmt_constructs ds m (p.omp d a span) ≡ own_constructs m d ++ stmts_constructs ds (loops_asked (plan_of ds (forget_directive d)) m) a
  at_directive zero d a span = refl
  at_directive (suc m) d a span = refl

  pub list_more : (m : ℕ) (xs : List Stmt) (i : ℕ) (x : Stmt) → i < length xs → x ≡ slice_index_or xs i x
      → stmts_constructs ds m (placed_stmts (drop i xs)) ≡ stmt_constructs ds m (placed_stmt x) ++ stmts_constructs ds m (placed_stmts (drop (i + 1) xs))
  list_more m xs i = rest_more (λ ys. stmts_constructs ds m (placed_stmts ys)) xs i

  pub list_end : (m : ℕ) (xs : List Stmt) (i : ℕ) → length xs ≤ i → stmts_constructs ds m (placed_stmts (drop i xs)) ≡ []
  list_end m xs i = rest_none (λ ys. stmts_constructs ds m (placed_stmts ys)) xs i

pub ruleset kinds = (at_loop, at_directive, append_assoc, append-nil)

pub ruleset lists = (list_more, list_end, good_more, append_assoc, append-nil)

-- ---- items

module _ (ds : List Define) (xs : List Item) (i : ℕ) where
  pub tops_more : (x : Item) → i < length xs → x ≡ slice_index_or xs i x
      → constructs_from ds (map placed_top (drop i xs)) ≡ top_constructs ds (placed_top x) ++ constructs_from (defines_with ds (bare_top x)) (map placed_top (drop (i + 1) xs))
  tops_more x within is =
      rest_more (λ ys. constructs_from ds (map placed_top ys)) xs i x within is
      ∙ ap (λ t. top_constructs ds (placed_top x) ++ constructs_from (defines_with ds t) (map placed_top (drop (i + 1) xs))) (sym (bare_top_is x))

  pub tops_end : length xs ≤ i → constructs_from ds (map placed_top (drop i xs)) ≡ []
  tops_end = rest_none (λ ys. constructs_from ds (map placed_top ys)) xs i

pub ruleset items = (append-nil)

pub ruleset programs = (tops_more, tops_end, top_well_formed, append_assoc, append-nil)
