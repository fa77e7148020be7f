-- What holds of a list where it holds of each of its statements: N of the names that are declared, E of their values and of
-- bounds, K of literals.
use Rattle.std.proofs.Common.{ℕ, Some}
use Rattle.c_tree.specs.Bare.{Name, Expr, read, un, bin, cond, cast, Stmt, decl, block, Stmts, no_stmts, more_stmts}
use Rattle.c_tree.specs.declared.tree.Ty.{Ty}
use Rattle.c_tree.specs.declared.tree.BinOp.{BinOp}
use Rattle.c_tree.specs.declared.tree.UnOp.TheVariants.{Neg}
use Rattle.loop_normal.specs.Gens.{Inner, gen_loop, join, counter_loop, loop_stmts, inner_stmts}
use Rattle.loop_normal.specs.Templates.{ll, only}

pub record LoopHas (N : Name → Type 0) (E : Expr → Type 0) (P : Stmts → Type 0) (ls : Stmts) (c : Name) (a b : Expr) (list : Stmts) : Type 0 where
  pub lets : P ls
  pub counter : N c
  pub from : E a
  pub to : E b
  pub body : P list

pub record IsEach (N : Name → Type 0) (E : Expr → Type 0) (K : ℕ → Type 0) (P : Stmts → Type 0) : Type 0 where
  pub none : P no_stmts
  pub more : (a : Stmt) (as' : Stmts) → P (only a) → P as' → P (more_stmts a as')
  pub first : (a : Stmt) (as' : Stmts) → P (more_stmts a as') → P (only a)
  pub rest : (a : Stmt) (as' : Stmts) → P (more_stmts a as') → P as'
  pub let_of : (T : Ty) (x : Name) (e : Expr) → N x → E e → P (only (decl T x (Some e)))
  pub block_of : (as' : Stmts) → P as' → P (only (block as'))
  pub loop_of : (c : Name) (a b : Expr) (body : Stmts) → N c → E a → E b → P body → P (only (counter_loop c a b body))
  pub in_loop : (c : Name) (a b : Expr) (body : Stmts) → P (only (counter_loop c a b body)) → LoopHas N E P no_stmts c a b body
  pub literal : (k : ℕ) → K k → E (ll k)
  pub zero : K 0
  pub one : K 1
  pub name : (x : Name) → N x → E (read x)
  pub negated : (e : Expr) → E e → E (un Neg e)
  pub both : (op : BinOp) (a b : Expr) → E a → E b → E (bin op a b)
  pub choice : (a b c : Expr) → E a → E b → E c → E (cond a b c)
  pub converted : (T : Ty) (e : Expr) → E e → E (cast T e)

module _ (N : Name → Type 0) (E : Expr → Type 0) (K : ℕ → Type 0) (P : Stmts → Type 0) (w : IsEach N E K P) where
  pub join_has : (a b : Stmts) → P a → P b → P (join a b)
  join_has no_stmts b h k = k
  join_has (more_stmts a as') b h k = w.more a (join as' b) (w.first a as' h) (join_has as' b (w.rest a as' h) k)

  pub first_has : (a b : Stmts) → P (join a b) → P a
  first_has no_stmts b h = w.none
  first_has (more_stmts a as') b h = w.more a as' (w.first a (join as' b) h) (first_has as' b (w.rest a (join as' b) h))

  pub second_has : (a b : Stmts) → P (join a b) → P b
  second_has no_stmts b h = h
  second_has (more_stmts a as') b h = second_has as' b (w.rest a (join as' b) h)

  -- of a loop, and of what it is made of
  pub loop_has : (ls : Stmts) (c : Name) (a b : Expr) (inner : Inner) → LoopHas N E P ls c a b (inner_stmts inner) → P (loop_stmts (gen_loop ls c a b inner))
  loop_has ls c a b inner h = join_has ls _ h.lets (w.loop_of c a b (inner_stmts inner) h.counter h.from h.to h.body)

  pub has_loop : (ls : Stmts) (c : Name) (a b : Expr) (inner : Inner) → P (loop_stmts (gen_loop ls c a b inner)) → LoopHas N E P ls c a b (inner_stmts inner)
  has_loop ls c a b inner h =
      let loop = w.in_loop c a b (inner_stmts inner) (second_has ls _ h) in
      record { lets = first_has ls _ h; counter = loop.counter; from = loop.from; to = loop.to; body = loop.body }
