-- How high the block of a reversed loop is: two more than what stands in the loop.
use Rattle.std.proofs.Common.{◌≡◌, refl, sym, ap, subst, ◌≤◌, ◌+◌, ℕ, Bool, true, false, ◌⊎◌, inl, inr, arith, max, lit≤, ℤ, nat_abs}
use Rattle.std.proofs.Math.Nat.{le-max_left, le-max_right, max-le}
use Rattle.c_tree.specs.Bare.{Name, Expr, read, bin, block, Stmts, no_stmts, more_stmts}
use Rattle.c_tree.specs.Height.{expr_height, stmt_height, stmts_height}
use Rattle.c_tree.specs.declared.tree.Ty.{Ty}
use Rattle.c_tree.specs.declared.tree.BinOp.{BinOp}
use Rattle.c_tree.specs.declared.tree.BinOp.TheVariants.{Sub, Lt, Gt, Le, Ge, Ne}
use Rattle.loop_normal.specs.Gens.{gen_loop, Seq, Looped, Plain, Parts, no_parts, more_parts, Gen, join, let_stmt, parts_stmts, emit}
use Rattle.loop_normal.specs.Templates.{ll, only, SourceLoop, LoopNames, leaf, source_var, count_by, is_up, signed_literal, value_expr, begins_at_zero, on_first}
use Rattle.loop_normal.specs.DrawnNames.{FreshNames}
use Rattle.loop_normal.specs.FromZero.{from_zero}
use Rattle.permute_reverse.specs.Reversed.{reversed, reversed_gen}
use Rattle.carried_out.proofs.FromZero.{stays_from_zero}

-- one loop from 0 on, whose list is so high, after a front of one more
pub record LowLoop (k : ℕ) (g : Gen) : Type 0 where
  pub counter : Name
  pub end : Expr
  pub below : Parts
  pub parts : g.parts ≡ more_parts (Looped (gen_loop no_stmts counter (ll 0) end (Seq below))) no_parts
  pub end_low : expr_height end ≤ 1
  pub body : stmts_height (parts_stmts below) ≤ k
  pub front : (rest : Stmts) → stmts_height (join g.front rest) ≤ max (1 + k) (stmts_height rest)

abbrev pub no_gen : Gen
no_gen = record { front = no_stmts; parts = no_parts }

abbrev pub LowGen : ℕ → Gen → Type 0
LowGen k g = (g ≡ no_gen) ⊎ LowLoop k g

pub low_more : (k n : ℕ) (g : Gen) → k ≤ n → LowGen k g → LowGen n g
low_more k n g h (inl e) = inl e
low_more k n g h (inr w) = inr (record {
  counter = w.counter;
  end = w.end;
  below = w.below;
  parts = w.parts;
  end_low = w.end_low;
  body = let b = w.body in omega arith;
  front = λ rest. let b = w.front rest in let l = le-max_left (1 + n) (stmts_height rest) in let r = le-max_right (1 + n) (stmts_height rest) in
      let m : max (1 + k) (stmts_height rest) ≤ max (1 + n) (stmts_height rest) = max-le (omega arith) r in omega arith;
})

-- ---- the normal form

count_low : (op : BinOp) (u : Bool) (s : ℕ) (a b : Name) → expr_height (count_by op u s a b) ≤ 7
count_low Lt true s a b = lit≤ tt
count_low Le true s a b = lit≤ tt
count_low Ne true s a b = lit≤ tt
count_low Gt false s a b = lit≤ tt
count_low Ge false s a b = lit≤ tt
count_low Ne false s a b = lit≤ tt
count_low op u s a b = lit≤ tt

signed_low : (u : Bool) (s : ℕ) → expr_height (signed_literal u s) ≤ 2
signed_low true s = lit≤ tt
signed_low false s = lit≤ tt

value_low : (T : Ty) (by : ℤ) (a t : Name) → expr_height (value_expr T by a t) ≤ 5
value_low T by a t = at (signed_literal (is_up by) (nat_abs by)) (signed_low (is_up by) (nat_abs by))
  where
    at : (e : Expr) → expr_height e ≤ 2 → 1 + (1 + max 2 (1 + max 1 (expr_height e))) ≤ 5
    at e h = omega arith

pub leaf_low : (k : ℕ) (m : LoopNames) (h : SourceLoop) (body : Stmts) → 7 ≤ k → expr_height h.lb ≤ k → expr_height h.ub ≤ k → 1 + stmts_height body ≤ k → LowLoop k (leaf m h body)
leaf_low k m h body seven lb ub b = record {
  counter = m.counter;
  end = read m.count;
  below = more_parts (Plain (more_stmts (source_var m h) (only (block body)))) no_parts;
  parts = refl;
  end_low = lit≤ tt;
  body = let v = value_low h.ty h.step m.begin m.counter in max-le (omega arith) (max-le b (omega arith));
  front = λ rest.
      let c = count_low h.test (is_up h.step) (nat_abs h.step) m.begin m.end in
      let l = le-max_left (1 + k) (stmts_height rest) in
      let r = le-max_right (1 + k) (stmts_height rest) in
      max-le (omega arith) (max-le (omega arith) (max-le (omega arith) r));
}

-- ---- one reversed

with_counter : (k : ℕ) (c r : Name) (end : Expr) (below : Parts) → 7 ≤ k → expr_height end ≤ 1 → stmts_height (parts_stmts below) ≤ k →
    stmts_height (parts_stmts (more_parts (Plain (only (let_stmt c (bin Sub (bin Sub end (ll 1)) (read r))))) below)) ≤ k
with_counter k c r end below seven e b = max-le (at (expr_height end) e) b
  where
    at : (n : ℕ) → n ≤ 1 → 1 + (1 + max (1 + max n 1) 1) ≤ k
    at n h = omega arith

pub reversed_low : (k : ℕ) (r : Name) (g : Gen) → 7 ≤ k → LowGen k g → LowGen k (reversed_gen r g)
reversed_low k r g seven (inl e) = inl (ap (reversed_gen r) e)
reversed_low k r g seven (inr w) = inr (record {
  counter = r;
  end = w.end;
  below = more_parts (Plain (only (let_stmt w.counter (bin Sub (bin Sub w.end (ll 1)) (read r))))) w.below;
  parts = ap (on_first (reversed r)) w.parts;
  end_low = w.end_low;
  body = with_counter k w.counter r w.end w.below seven w.end_low w.body;
  front = w.front;
})

-- such a loop begins at 0 already
pub at_zero : (k : ℕ) (g : Gen) → LowGen k g → begins_at_zero g.parts ≡ true
at_zero k g (inl e) = ap (λ z. begins_at_zero z.parts) e
at_zero k g (inr w) = ap begins_at_zero w.parts

pub from_zero_low : (k : ℕ) (f : FreshNames) (g : Gen) → LowGen k g → LowGen k (from_zero f g)
from_zero_low k f g w = subst (LowGen k) (sym (stays_from_zero f g (at_zero k g w))) w

-- ---- as a block

loop_low : (k n : ℕ) → 7 ≤ k → n ≤ 1 → (b : ℕ) → b ≤ k → 1 + max (max (1 + 1) (max (1 + max 1 n) (1 + 0))) b ≤ 1 + k
loop_low k n seven e b h = omega arith

pub block_low : (k : ℕ) (g : Gen) → 7 ≤ k → LowGen k g → stmt_height (block (emit g)) ≤ 2 + k
block_low k g seven (inl e) = subst (λ z. stmt_height (block (emit z)) ≤ 2 + k) (sym e) (omega arith)
block_low k g seven (inr w) =
    let rest : stmts_height (parts_stmts g.parts) ≤ 1 + k =
    subst (λ z. stmts_height (parts_stmts z) ≤ 1 + k) (sym w.parts) (max-le (loop_low k (expr_height w.end) seven w.end_low (stmts_height (parts_stmts w.below)) w.body) (omega arith)) in
    let front = w.front (parts_stmts g.parts) in
    let m : max (1 + k) (stmts_height (parts_stmts g.parts)) ≤ 1 + k = max-le (omega arith) rest in
    omega arith
