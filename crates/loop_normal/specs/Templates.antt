-- The texts of generated loops: the normal form of a loop, and a loop that is brought to other bounds.
use Rattle.std.specs.Prelude.{ℕ, Some, Bool, true, false, ℤ, pos, negsuc, nat_abs, ◌==◌, if◌then◌else◌}
use Rattle.c_tree.specs.Bare.{Name, Expr, num, read, un, bin, cond, cast, Stmt, decl, block, Stmts, no_stmts, more_stmts}
use Rattle.c_tree.specs.declared.tree.Ty.{Ty}
use Rattle.c_tree.specs.declared.tree.Ty.TheVariants.{Long}
use Rattle.c_tree.specs.declared.tree.UnOp.TheVariants.{Neg}
use Rattle.c_tree.specs.declared.tree.BinOp.{BinOp}
use Rattle.c_tree.specs.declared.tree.BinOp.TheVariants.{Add, Sub, Mul, Div, Lt, Gt, Le, Ge, Ne}
use Rattle.loop_normal.specs.Gens.{GenLoop, gen_loop, Inner, Nest, Seq, Part, Looped, Plain, Parts, no_parts, more_parts, Gen, join, let_stmt}

-- a literal of type `long long`
abbrev pub ll : ℕ → Expr
ll k = num k Long

abbrev pub only : Stmt → Stmts
only a = more_stmts a no_stmts

-- a declaration before what is below a loop
abbrev pub put_let : Stmt → Inner → Inner
put_let d (Nest (gen_loop ls c a b inner)) = Nest (gen_loop (more_stmts d ls) c a b inner)
put_let d (Seq ps) = Seq (more_parts (Plain (only d)) ps)

-- ---- the normal form of one loop

-- the names that it takes, in this order
pub record LoopNames : Type 0 where
  pub begin : Name
  pub end : Name
  pub count : Name
  pub counter : Name

-- `(long long)b - (long long)a`
abbrev pub gap : Name → Name → Expr
gap a b = bin Sub (cast Long (read b)) (cast Long (read a))

-- `a op b ? (d - 1LL) / s + 1LL : 0LL`, d being the distance and s the size of the step
abbrev pub strict_count : BinOp → Expr → ℕ → Name → Name → Expr
strict_count op d s a b = cond (bin op (read a) (read b)) (bin Add (bin Div (bin Sub d (ll 1)) (ll s)) (ll 1)) (ll 0)

-- `a op b ? d / s + 1LL : 0LL`
abbrev pub weak_count : BinOp → Expr → ℕ → Name → Name → Expr
weak_count op d s a b = cond (bin op (read a) (read b)) (bin Add (bin Div d (ll s)) (ll 1)) (ll 0)

-- a step of 0 counts as one up
abbrev pub is_up : ℤ → Bool
is_up (pos k) = true
is_up (negsuc k) = false

-- by the test, the step's direction and its size; `!=` counts as `<` or `>`
abbrev pub count_by : BinOp → Bool → ℕ → Name → Name → Expr
count_by Lt true s a b = strict_count Lt (gap a b) s a b
count_by Le true s a b = weak_count Le (gap a b) s a b
count_by Ne true s a b = strict_count Lt (gap a b) s a b
count_by Gt false s a b = strict_count Gt (gap b a) s a b
count_by Ge false s a b = weak_count Ge (gap b a) s a b
count_by Ne false s a b = strict_count Gt (gap b a) s a b
count_by op up s a b = ll 0

-- the count by the test and the signed step, between the begin a and the end b
abbrev pub count_expr : BinOp → ℤ → Name → Name → Expr
count_expr op z a b = count_by op (is_up z) (nat_abs z) a b

abbrev pub signed_literal : Bool → ℕ → Expr
signed_literal true s = ll s
signed_literal false s = un Neg (ll s)

abbrev pub step_expr : ℤ → Expr
step_expr z = signed_literal (is_up z) (nat_abs z)

-- `(T)((long long)a + t * step)`
abbrev pub value_expr : Ty → ℤ → Name → Name → Expr
value_expr T by a t = cast T (bin Add (cast Long (read a)) (bin Mul (read t) (step_expr by)))

-- a canonical loop as a rewrite takes it: its variable with its type, its bounds, its test and its signed step
pub record SourceLoop : Type 0 where
  pub var : Name
  pub ty : Ty
  pub lb : Expr
  pub ub : Expr
  pub test : BinOp
  pub step : ℤ

-- `T t0 = L; T t1 = U; long long t2 = the count;` before some more
abbrev pub front_of : LoopNames → Ty → Expr → Expr → BinOp → ℤ → Stmts → Stmts
front_of m T lb ub op by rest =
    more_stmts (decl T m.begin (Some lb)) (more_stmts (decl T m.end (Some ub)) (more_stmts (let_stmt m.count (count_expr op by m.begin m.end)) rest))

abbrev pub source_front : LoopNames → SourceLoop → Stmts → Stmts
source_front m h rest = front_of m h.ty h.lb h.ub h.test h.step rest

-- `T var = its value;`
abbrev pub source_var : LoopNames → SourceLoop → Stmt
source_var m h = decl h.ty h.var (Some (value_expr h.ty h.step m.begin m.counter))

abbrev pub counted_loop : LoopNames → Inner → Parts
counted_loop m inner = more_parts (Looped (gen_loop no_stmts m.counter (ll 0) (read m.count) inner)) no_parts

-- one loop round its body: the variable, and the body as a block
abbrev pub leaf : LoopNames → SourceLoop → Stmts → Gen
leaf m h body =
    record {
      front = source_front m h no_stmts;
      parts = counted_loop m (Seq (more_parts (Plain (more_stmts (source_var m h) (only (block body)))) no_parts));
    }

-- below the innermost loop of a nest
abbrev mutual
  pub put_innermost : Stmt → GenLoop → GenLoop
  put_innermost d (gen_loop ls c a b inner) = gen_loop ls c a b (put_below d inner)

  pub put_below : Stmt → Inner → Inner
  put_below d (Nest l) = Nest (put_innermost d l)
  put_below d (Seq ps) = Seq (more_parts (Plain (only d)) ps)

-- one loop round a nest: its variable is declared below the innermost loop of the nest
abbrev pub round_part : LoopNames → SourceLoop → Part → Part
round_part m h (Looped l) = Looped (gen_loop no_stmts m.counter (ll 0) (read m.count) (Nest (put_innermost (source_var m h) l)))
round_part m h (Plain as') = Plain as'

abbrev pub round_parts : LoopNames → SourceLoop → Parts → Parts
round_parts m h no_parts = no_parts
round_parts m h (more_parts p ps) = more_parts (round_part m h p) ps

abbrev pub round : LoopNames → SourceLoop → Gen → Gen
round m h g = record { front = source_front m h g.front; parts = round_parts m h g.parts }

-- ---- one loop of another range

-- `long long a = FROM; long long b = TO - a;`, a counter p from 0 to b, and `long long c = a + p;` below it
abbrev pub rebased : Name → Name → Name → GenLoop → GenLoop
rebased x y p (gen_loop ls c a b inner) =
    gen_loop (join ls (more_stmts (let_stmt x a) (only (let_stmt y (bin Sub b (read x)))))) p (ll 0) (read y) (put_let (let_stmt c (bin Add (read x) (read p))) inner)

-- a counter p from 0 to the literal, and `long long c = FROM + p;` below it
abbrev pub fixed : ℕ → Name → GenLoop → GenLoop
fixed k p (gen_loop ls c a b inner) = gen_loop ls p (ll 0) (ll k) (put_let (let_stmt c (bin Add a (read p))) inner)

-- the literal 0
abbrev pub is_zero_literal : Expr → Bool
is_zero_literal (num k Long) = k == 0
is_zero_literal _ = false

-- the loop of the first part is changed
abbrev pub on_first : (GenLoop → GenLoop) → Parts → Parts
on_first f (more_parts (Looped l) ps) = more_parts (Looped (f l)) ps
on_first f ps = ps

-- the first part is no loop, or a loop from the literal 0
abbrev pub begins_at_zero : Parts → Bool
begins_at_zero (more_parts (Looped (gen_loop ls c a b inner)) ps) = is_zero_literal a
begins_at_zero _ = true
