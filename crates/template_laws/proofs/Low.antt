-- How high the answers are.
use Rattle.std.proofs.Common.{◌≡◌, refl, sym, subst, ◌≤◌, ◌+◌, ◌-◌, ℕ, zero, suc, Option, Some, None, Bool, true, false, arith, max, lit≤, ℤ, nat_abs}
use Rattle.std.specs.Prelude.{if◌then◌else◌}
use Rattle.std.proofs.Math.Nat.{le-max_left, le-max_right, max-le}
use Rattle.c_tree.specs.Bare.{Name, Expr, num, read, item, un, bin, cond, cast, Stmt, block, Stmts, no_stmts, more_stmts}
use Rattle.c_tree.specs.Height.{expr_height, stmt_height, stmts_height}
use Rattle.c_tree.specs.declared.tree.Ty.{Ty}
use Rattle.c_tree.specs.declared.tree.BinOp.{BinOp}
use Rattle.c_tree.specs.declared.tree.BinOp.TheVariants.{Add, Sub, Lt, Gt, Le, Ge, Ne}
use Rattle.loop_normal.specs.DrawnNames.{FreshNames, drawn, after_draws}
use Rattle.loop_normal.specs.Gens.{GenLoop, gen_loop, Inner, Nest, Seq, Looped, Plain, Parts, no_parts, more_parts, Gen, join, let_stmt, loop_stmts, inner_stmts, parts_stmts}
use Rattle.loop_normal.specs.Templates.{ll, only, put_let, LoopNames, SourceLoop, count_by, is_up, signed_literal, value_expr, source_front, source_var, leaf, rebased, fixed, on_first, begins_at_zero}
use Rattle.loop_normal.specs.FromZero.{from_zero}
use Rattle.nest_normal.specs.NestTexts.{innermost, put_visible, is_hidden, declare_in, declare_below, loop_round, nest_round, counted_to, at_loop, known_at, with_count}
use Rattle.nest_normal.specs.Spelled.{is_unread, before, before_if_read, all_if_read, without_unread, below_without_unread}
use Rattle.permute_reverse.specs.Reversed.{reversed, reversed_gen}
use Rattle.template_laws.specs.Heights.{height, front_height, counter_height}

expr_high : (e : Expr) → 1 ≤ expr_height e
expr_high (num k t) = lit≤ tt
expr_high (read x) = lit≤ tt
expr_high (item x es) = omega arith
expr_high (un op a) = omega arith
expr_high (bin op a b) = omega arith
expr_high (cond a b c) = omega arith
expr_high (cast t a) = omega arith

-- ---- one list after another

join_low : (k : ℕ) (a b : Stmts) → stmts_height a ≤ k → stmts_height b ≤ k → stmts_height (join a b) ≤ k
join_low k no_stmts b h m = m
join_low k (more_stmts a as') b h m =
    max-le (let l = le-max_left (stmt_height a) (stmts_height as') in omega arith) (join_low k as' b (let r = le-max_right (stmt_height a) (stmts_height as') in omega arith) m)

low_first : (k : ℕ) (a b : Stmts) → stmts_height (join a b) ≤ k → stmts_height a ≤ k
low_first k no_stmts b h = omega arith
low_first k (more_stmts a as') b h =
    max-le (let l = le-max_left (stmt_height a) (stmts_height (join as' b)) in omega arith) (low_first k as' b (let r = le-max_right (stmt_height a) (stmts_height (join as' b)) in omega arith))

low_second : (k : ℕ) (a b : Stmts) → stmts_height (join a b) ≤ k → stmts_height b ≤ k
low_second k no_stmts b h = h
low_second k (more_stmts a as') b h = low_second k as' b (let r = le-max_right (stmt_height a) (stmts_height (join as' b)) in omega arith)

-- ---- a loop, by its parts

record LowLoop (k : ℕ) (ls : Stmts) (a b : Expr) (list : Stmts) : Type 0 where
  pub lets : stmts_height ls ≤ k
  pub from : 2 + expr_height a ≤ k
  pub to : 2 + expr_height b ≤ k
  pub body : 1 + stmts_height list ≤ k

loop_low : (k : ℕ) (ls : Stmts) (c : Name) (a b : Expr) (inner : Inner) → LowLoop k ls a b (inner_stmts inner) → stmts_height (loop_stmts (gen_loop ls c a b inner)) ≤ k
loop_low k ls c a b inner h = join_low k ls _ h.lets (only_low (expr_height a) (expr_height b) (stmts_height (inner_stmts inner)) (expr_high b) h.from h.to h.body)
  where
    only_low : (a b i : ℕ) → 1 ≤ b → 2 + a ≤ k → 2 + b ≤ k → 1 + i ≤ k → max (1 + max (max (1 + a) (max (1 + max 1 b) (1 + 0))) i) 0 ≤ k
    only_low a b i one h m n = omega arith

low_loop : (k : ℕ) (ls : Stmts) (c : Name) (a b : Expr) (inner : Inner) → stmts_height (loop_stmts (gen_loop ls c a b inner)) ≤ k → LowLoop k ls a b (inner_stmts inner)
low_loop k ls c a b inner h =
    let parts = parts_low (expr_height a) (expr_height b) (stmts_height (inner_stmts inner)) (low_second k ls _ h) in
    record { lets = low_first k ls _ h; from = parts.0; to = parts.1; body = parts.2 }
  where
    parts_low : (a b i : ℕ) → max (1 + max (max (1 + a) (max (1 + max 1 b) (1 + 0))) i) 0 ≤ k → (2 + a ≤ k) × (2 + b ≤ k) × (1 + i ≤ k)
    parts_low a b i h = (omega arith, omega arith, omega arith)

-- a declaration below a loop
let_low : (k : ℕ) (d : Stmt) (inner : Inner) → stmt_height d ≤ k → stmts_height (inner_stmts inner) ≤ k → stmts_height (inner_stmts (put_let d inner)) ≤ k
let_low k d (Nest (gen_loop ls c a b inner)) h m = max-le h m
let_low k d (Seq ps) h m = max-le h m

-- ---- another loop

-- it is at most n higher
abbrev Adds : ℕ → (GenLoop → GenLoop) → Type 0
Adds n f = (k : ℕ) (l : GenLoop) → stmts_height (loop_stmts l) ≤ k → stmts_height (loop_stmts (f l)) ≤ n + k

rebased_adds : (x y r : Name) → Adds 1 (rebased x y r)
rebased_adds x y r k (gen_loop ls c a b inner) h =
    let l = low_loop k ls c a b inner h in
    let one = expr_high a in
    let from = l.from in
    let to = l.to in
    let lets = l.lets in
    let body = l.body in
    let two = more_stmts (let_stmt x a) (only (let_stmt y (bin Sub b (read x)))) in
    loop_low (1 + k) (join ls two) r (ll 0) (read y) (put_let (let_stmt c (bin Add (read x) (read r))) inner) (record {
      lets = join_low (1 + k) ls two (omega arith) (max-le (omega arith) (max-le (sum (expr_height b) to) (omega arith)));
      from = omega arith;
      to = omega arith;
      body = let i = let_low k (let_stmt c (bin Add (read x) (read r))) inner (omega arith) (omega arith) in omega arith;
    })
  where
    sum : (b : ℕ) → 2 + b ≤ k → 1 + (1 + max b 1) ≤ 1 + k
    sum b h = omega arith

fixed_adds : (n : ℕ) (r : Name) → Adds 1 (fixed n r)
fixed_adds n r k (gen_loop ls c a b inner) h =
    let l = low_loop k ls c a b inner h in
    let one = expr_high a in
    let from = l.from in
    let lets = l.lets in
    let body = l.body in
    loop_low (1 + k) ls r (ll 0) (ll n) (put_let (let_stmt c (bin Add a (read r))) inner) (record {
      lets = omega arith;
      from = omega arith;
      to = omega arith;
      body = let i = let_low k (let_stmt c (bin Add a (read r))) inner (sum (expr_height a) one from) (omega arith) in omega arith;
    })
  where
    sum : (a : ℕ) → 1 ≤ a → 2 + a ≤ k → 1 + (1 + max a 1) ≤ k
    sum a h m = omega arith

counted_adds : (n : ℕ) (r : Option Name) → Adds (counter_height r) (counted_to n r)
counted_adds n None k (gen_loop ls c a b inner) h =
    let l = low_loop k ls c a b inner h in
    let one = expr_high b in
    let to = l.to in
    let low = loop_low k ls c a (ll n) inner (record { lets = l.lets; from = l.from; to = omega arith; body = l.body }) in
    omega arith
counted_adds n (Some r) k l h = fixed_adds n r k l h

at_loop_adds : (n d : ℕ) (f : GenLoop → GenLoop) → Adds n f → Adds n (at_loop d f)
at_loop_adds n zero f adds k l h = adds k l h
at_loop_adds n (suc d) f adds k (gen_loop ls c a b (Seq ps)) h = omega arith
at_loop_adds n (suc d) f adds k (gen_loop ls c a b (Nest l)) h =
    let low = low_loop k ls c a b (Nest l) h in
    let lets = low.lets in
    let from = low.from in
    let to = low.to in
    let body = low.body in
    let i = at_loop_adds n d f adds (k - 1) l (omega arith) in
    loop_low (n + k) ls c a b (Nest (at_loop d f l)) (record { lets = omega arith; from = omega arith; to = omega arith; body = omega arith })

-- ---- fewer declarations

before_low : (k : ℕ) (d : Stmt) (l : GenLoop) → stmt_height d ≤ k → stmts_height (loop_stmts l) ≤ k → stmts_height (loop_stmts (before d l)) ≤ k
before_low k d (gen_loop ls c a b inner) h m = max-le h m

if_read_low : (k : ℕ) (d : Stmt) (l : GenLoop) → stmt_height d ≤ k → stmts_height (loop_stmts l) ≤ k → stmts_height (loop_stmts (before_if_read d l)) ≤ k
if_read_low k d l h m = by (is_unread d l)
  where
    by : (t : Bool) → stmts_height (loop_stmts (if t then l else before d l)) ≤ k
    by true = m
    by false = before_low k d l h m

all_if_read_low : (k : ℕ) (ls : Stmts) (l : GenLoop) → stmts_height ls ≤ k → stmts_height (loop_stmts l) ≤ k → stmts_height (loop_stmts (all_if_read ls l)) ≤ k
all_if_read_low k no_stmts l h m = m
all_if_read_low k (more_stmts d ls) l h m =
    if_read_low k d (all_if_read ls l) (let left = le-max_left (stmt_height d) (stmts_height ls) in omega arith) (all_if_read_low k ls l (let right = le-max_right (stmt_height d) (stmts_height ls) in omega arith) m)

mutual
  unread_low : (k : ℕ) (l : GenLoop) → stmts_height (loop_stmts l) ≤ k → stmts_height (loop_stmts (without_unread l)) ≤ k
  unread_low k (gen_loop ls c a b inner) h =
      let l = low_loop k ls c a b inner h in
      let body = l.body in
      let i = unread_below_low (k - 1) inner (omega arith) in
      all_if_read_low k ls _ l.lets (loop_low k no_stmts c a b (below_without_unread inner) (record { lets = omega arith; from = l.from; to = l.to; body = omega arith }))

  unread_below_low : (k : ℕ) (inner : Inner) → stmts_height (inner_stmts inner) ≤ k → stmts_height (inner_stmts (below_without_unread inner)) ≤ k
  unread_below_low k (Nest l) h = unread_low k l h
  unread_below_low k (Seq ps) h = h

known_adds : (d n : ℕ) (r : Option Name) → Adds (counter_height r) (known_at d n r)
known_adds d n r k l h = unread_low (counter_height r + k) (at_loop d (counted_to n r) l) (at_loop_adds (counter_height r) d (counted_to n r) (counted_adds n r) k l h)

reversed_adds : (r : Name) → Adds 2 (reversed r)
reversed_adds r k (gen_loop ls c a b inner) h =
    let l = low_loop k ls c a b inner h in
    let one = expr_high b in
    let to = l.to in
    let lets = l.lets in
    let body = l.body in
    loop_low (2 + k) ls r (ll 0) b (put_let (let_stmt c (bin Sub (bin Sub b (ll 1)) (read r))) inner) (record {
      lets = omega arith;
      from = omega arith;
      to = omega arith;
      body = let i = let_low (1 + k) (let_stmt c (bin Sub (bin Sub b (ll 1)) (read r))) inner (turn (expr_height b) one to) (omega arith) in omega arith;
    })
  where
    turn : (b : ℕ) → 1 ≤ b → 2 + b ≤ k → 1 + (1 + max (1 + max b 1) 1) ≤ 1 + k
    turn b h m = omega arith

-- with the loop brought to begin at 0, no more
both_add : (x y p r : Name) → Adds 2 (λ l. reversed r (rebased x y p l))
both_add x y p r k (gen_loop ls c a b inner) h =
    let l = low_loop k ls c a b inner h in
    let one = expr_high a in
    let from = l.from in
    let to = l.to in
    let lets = l.lets in
    let body = l.body in
    let below = put_let (let_stmt c (bin Add (read x) (read p))) inner in
    let sum : stmts_height (inner_stmts below) ≤ k = let_low k (let_stmt c (bin Add (read x) (read p))) inner (omega arith) (omega arith) in
    let two = more_stmts (let_stmt x a) (only (let_stmt y (bin Sub b (read x)))) in
    loop_low (2 + k) (join ls two) r (ll 0) (read y) (put_let (let_stmt p (bin Sub (bin Sub (read y) (ll 1)) (read r))) below) (record {
      lets = join_low (2 + k) ls two (omega arith) (max-le (omega arith) (max-le (width (expr_height b) to) (omega arith)));
      from = omega arith;
      to = omega arith;
      body = let i = let_low (1 + k) (let_stmt p (bin Sub (bin Sub (read y) (ll 1)) (read r))) below (omega arith) (omega arith) in omega arith;
    })
  where
    width : (b : ℕ) → 2 + b ≤ k → 1 + (1 + max b 1) ≤ 2 + k
    width b h = omega arith

-- ---- Gens

first_low : (n : ℕ) (f : GenLoop → GenLoop) → Adds n f → (k : ℕ) (ps : Parts) → stmts_height (parts_stmts ps) ≤ k → stmts_height (parts_stmts (on_first f ps)) ≤ n + k
first_low n f adds k no_parts h = omega arith
first_low n f adds k (more_parts (Plain as') ps) h = omega arith
first_low n f adds k (more_parts (Looped l) ps) h =
    let rest = low_second k (loop_stmts l) (parts_stmts ps) h in
    join_low (n + k) (loop_stmts (f l)) (parts_stmts ps) (adds k l (low_first k (loop_stmts l) (parts_stmts ps) h)) (omega arith)

gen_low : (n : ℕ) (f : GenLoop → GenLoop) → Adds n f → (k : ℕ) (g : Gen) → height g ≤ k → height (record { front = g.front; parts = on_first f g.parts }) ≤ n + k
gen_low n f adds k g h =
    let front = low_first k g.front (parts_stmts g.parts) h in
    join_low (n + k) g.front (parts_stmts (on_first f g.parts)) (omega arith) (first_low n f adds k g.parts (low_second k g.front (parts_stmts g.parts) h))

pub from_zero_low : (f : FreshNames) (g : Gen) → height (from_zero f g) ≤ 1 + height g
from_zero_low f g = by (begins_at_zero g.parts)
  where
    by : (t : Bool) → height (if t then g else record { front = g.front; parts = on_first (rebased (drawn f) (drawn (after_draws 1 f)) (drawn (after_draws 2 f))) g.parts }) ≤ 1 + height g
    by true = omega arith
    by false = gen_low 1 _ (rebased_adds (drawn f) (drawn (after_draws 1 f)) (drawn (after_draws 2 f))) (height g) g (omega arith)

pub count_low : (d k : ℕ) (r : Option Name) (g : Gen) → height (with_count d k r g) ≤ counter_height r + height g
count_low d k r g = gen_low (counter_height r) _ (known_adds d k r) (height g) g (omega arith)

twice : (f h : GenLoop → GenLoop) (ps : Parts) → on_first f (on_first h ps) ≡ on_first (λ l. f (h l)) ps
twice f h no_parts = refl
twice f h (more_parts (Plain as') ps) = refl
twice f h (more_parts (Looped l) ps) = refl

pub reverse_low : (r : Name) (f : FreshNames) (g : Gen) → height (reversed_gen r (from_zero f g)) ≤ 2 + height g
reverse_low r f g = by (begins_at_zero g.parts)
  where
    other : GenLoop → GenLoop
    other = rebased (drawn f) (drawn (after_draws 1 f)) (drawn (after_draws 2 f))

    by : (t : Bool) → height (reversed_gen r (if t then g else record { front = g.front; parts = on_first other g.parts })) ≤ 2 + height g
    by true = gen_low 2 (reversed r) (reversed_adds r) (height g) g (omega arith)
    by false =
        subst (λ ps. stmts_height (join g.front (parts_stmts ps)) ≤ 2 + height g) (sym (twice (reversed r) other g.parts))
        (gen_low 2 (λ l. reversed r (other l)) (both_add (drawn f) (drawn (after_draws 1 f)) (drawn (after_draws 2 f)) r) (height g) g (omega arith))

-- ---- the normal form of a loop

count_expr_low : (op : BinOp) (u : Bool) (s : ℕ) (a b : Name) → expr_height (count_by op u s a b) ≤ 7
count_expr_low Lt true s a b = lit≤ tt
count_expr_low Le true s a b = lit≤ tt
count_expr_low Ne true s a b = lit≤ tt
count_expr_low Gt false s a b = lit≤ tt
count_expr_low Ge false s a b = lit≤ tt
count_expr_low Ne false s a b = lit≤ tt
count_expr_low op u s a b = lit≤ tt

signed_low : (u : Bool) (s : ℕ) → expr_height (signed_literal u s) ≤ 2
signed_low true s = lit≤ tt
signed_low false s = lit≤ tt

value_low : (T : Ty) (by : ℤ) (a t : Name) → expr_height (value_expr T by a t) ≤ 5
value_low T by a t = at (signed_literal (is_up by) (nat_abs by)) (signed_low (is_up by) (nat_abs by))
  where
    at : (e : Expr) → expr_height e ≤ 2 → 1 + (1 + max 2 (1 + max 1 (expr_height e))) ≤ 5
    at e h = omega arith

module _ (m : LoopNames) (h : SourceLoop) where
  var_low : stmt_height (source_var m h) ≤ 6
  var_low = let v = value_low h.ty h.step m.begin m.counter in omega arith

  front_low : (k : ℕ) (rest : Stmts) → front_height h ≤ k → stmts_height rest ≤ k → stmts_height (source_front m h rest) ≤ k
  front_low k rest low r =
      let bounds = parts (expr_height h.lb) (expr_height h.ub) low in
      let eight = bounds.0 in
      let count = count_expr_low h.test (is_up h.step) (nat_abs h.step) m.begin m.end in
      max-le bounds.1 (max-le bounds.2 (max-le (omega arith) r))
    where
      parts : (a b : ℕ) → max 8 (1 + max a b) ≤ k → (8 ≤ k) × (1 + a ≤ k) × (1 + b ≤ k)
      parts a b h = (omega arith, omega arith, omega arith)

  pub leaf_low : (body : Stmts) → height (leaf m h body) ≤ max (front_height h) (2 + stmts_height body)
  leaf_low body = by (max (front_height h) (2 + stmts_height body)) (le-max_left (front_height h) (2 + stmts_height body)) (le-max_right (front_height h) (2 + stmts_height body))
    where
      by : (k : ℕ) → front_height h ≤ k → 2 + stmts_height body ≤ k → height (leaf m h body) ≤ k
      by k front own =
          let eight = le-max_left 8 (1 + max (expr_height h.lb) (expr_height h.ub)) in
          let list : stmts_height (more_stmts (source_var m h) (only (block body))) ≤ k - 1 = let v = var_low in max-le (omega arith) (max-le (omega arith) (omega arith)) in
          let loop = loop_low k no_stmts m.counter (ll 0) (read m.count) (Seq (more_parts (Plain (more_stmts (source_var m h) (only (block body)))) no_parts)) (record { lets = omega arith; from = omega arith; to = omega arith; body = omega arith }) in
          front_low k (join (loop_stmts (innermost m h body)) no_stmts) front (join_low k (loop_stmts (innermost m h body)) no_stmts loop (omega arith))

  visible_low : (k : ℕ) (ps : Parts) → 6 ≤ k → stmts_height (parts_stmts ps) ≤ k → stmts_height (parts_stmts (put_visible (source_var m h) ps)) ≤ k
  visible_low k ps six low = by (is_hidden (source_var m h) (parts_stmts ps))
    where
      by : (t : Bool) → stmts_height (parts_stmts (if t then ps else more_parts (Plain (only (source_var m h))) ps)) ≤ k
      by true = low
      by false = max-le (let v = var_low in omega arith) low

  mutual
    declare_adds : Adds 4 (declare_in (source_var m h))
    declare_adds k (gen_loop ls c a b inner) low =
        let l = low_loop k ls c a b inner low in
        let one = expr_high a in
        let lets = l.lets in
        let from = l.from in
        let to = l.to in
        let body = l.body in
        let i = below_adds (k - 1) inner (omega arith) (omega arith) in
        loop_low (4 + k) ls c a b (declare_below (source_var m h) inner) (record { lets = omega arith; from = omega arith; to = omega arith; body = omega arith })

    below_adds : (k : ℕ) (inner : Inner) → 2 ≤ k → stmts_height (inner_stmts inner) ≤ k → stmts_height (inner_stmts (declare_below (source_var m h) inner)) ≤ 4 + k
    below_adds k (Nest l) two low = declare_adds k l low
    below_adds k (Seq ps) two low = visible_low (4 + k) ps (omega arith) (omega arith)

  loop_round_adds : Adds 5 (loop_round m h)
  loop_round_adds k l low =
      let i = declare_adds k l low in
      loop_low (5 + k) no_stmts m.counter (ll 0) (read m.count) (Nest (declare_in (source_var m h) l)) (record { lets = omega arith; from = omega arith; to = omega arith; body = omega arith })

  pub round_low : (g : Gen) → height (nest_round m h g) ≤ max (front_height h) (5 + height g)
  round_low g =
      let k = height g in
      let n = max (front_height h) (5 + k) in
      let l = le-max_left (front_height h) (5 + k) in
      let r = le-max_right (front_height h) (5 + k) in
      let rest = gen_low 5 (loop_round m h) loop_round_adds k g (omega arith) in
      front_low n (join g.front (parts_stmts (on_first (loop_round m h) g.parts))) l (omega arith)
