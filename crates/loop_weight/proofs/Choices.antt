-- The weights of an `if` with `else` and of a loop from the weights of their parts.
use Rattle.std.proofs.Common.{◌≡◌, ◌∙◌, ap, sym, ℕ, ◌+◌, List, Some, min}
use Rattle.c_tree.specs.Bare as b
use Rattle.c_tree.specs.BareOf.{bare_expr, bare_head, bare_stmt, bare_stmts, stmt_layer, head_layer}
use Rattle.c_tree.specs.declared.tree.Expr.{Expr}
use Rattle.c_tree.specs.declared.tree.ForHead.{ForHead}
use Rattle.c_tree.specs.declared.tree.Span.{Span}
use Rattle.c_tree.specs.declared.tree.Stmt.{Stmt, fold-roll-Stmt}
use Rattle.c_tree.specs.declared.tree.Stmt.TheVariants as v
use Rattle.c_tree.specs.declared.tree.Stmt.TheOpen as s
use Rattle.c_semantics.specs.Meaning.State.{State}
use Rattle.c_semantics.specs.Meaning.Expressions.{Define}
use Rattle.canonical_nests.specs.Weight.{expr_weight, stmt_weight, stmts_weight, asked_below}
use Rattle.loop_counts.specs.Wanted.{in_head}
use Rattle.loop_weight.specs.Constructs.{head_weight}
use Rattle.loop_weight.proofs.Caps.{min_plus}
use Rattle.loop_weight.proofs.Scopes.{loop_is}

pub bare_choice : (a : Stmt) (e : Expr) (first other : List Stmt) (at : Span) → a ≡ v.If e first (Some other) at → bare_stmt a ≡ b.if_else (bare_expr e) (bare_stmts first) (bare_stmts other)
bare_choice a e first other at is = ap bare_stmt is ∙ (ap bare_stmt (sym (v.rolls-If e first (Some other) at)) ∙ fold-roll-Stmt b.Stmt b.Head stmt_layer head_layer (s.If e first (Some other) at))

pub bare_loop : (a : Stmt) (h : ForHead) (body : List Stmt) (at : Span) → a ≡ v.For h body at → bare_stmt a ≡ b.for_ (bare_head h) (bare_stmts body)
bare_loop a h body at is = ap bare_stmt is ∙ (ap bare_stmt (sym (v.rolls-For h body at)) ∙ fold-roll-Stmt b.Stmt b.Head stmt_layer head_layer (s.For h body at))

module _ (ds : List Define) (u : State) where
  pub choice_is : (m : ℕ) (e : b.Expr) (x y : b.Stmts) (a : b.Stmt) (both other all : ℕ) → a ≡ b.if_else e x y
      → both ≡ min (1 + expr_weight e + stmts_weight ds u 0 x) 1048577 → other ≡ min (stmts_weight ds u 0 y) 1048577 → all ≡ min (both + other) 1048577
      → all ≡ min (stmt_weight ds u m a) 1048577
  choice_is m e x y a both other all is both_is other_is all_is =
      all_is
      ∙ ((λ j. min (both_is j + other_is j) 1048577)
      ∙ (min_plus (1 + expr_weight e + stmts_weight ds u 0 x) (stmts_weight ds u 0 y)
      ∙ sym (ap (λ c. min (stmt_weight ds u m c) 1048577) is)))

  pub loop_weight_is : (m : ℕ) (h : b.Head) (x : b.Stmts) (a : b.Stmt) (first inner all : ℕ) → a ≡ b.for_ h x
      → first ≡ min (head_weight ds u h) 1048577 → inner ≡ min (stmts_weight ds (in_head h u) (asked_below m) x) 1048577
      → all ≡ min (first + inner) 1048577
      → all ≡ min (stmt_weight ds u m a) 1048577
  loop_weight_is m h x a first inner all is first_is inner_is all_is =
      all_is
      ∙ ((λ j. min (first_is j + inner_is j) 1048577)
      ∙ (min_plus (head_weight ds u h) (stmts_weight ds (in_head h u) (asked_below m) x)
      ∙ sym (ap (λ n. min n 1048577) (ap (stmt_weight ds u m) is ∙ loop_is ds u m h x))))
