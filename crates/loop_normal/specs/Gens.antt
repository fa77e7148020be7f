-- Generated code before it is statements: a front, and parts that are nests of counted loops or plain statements.
use Rattle.std.specs.Prelude.{Some, true}
use Rattle.c_tree.specs.Bare.{Name, Expr, read, bin, no_exprs, target, Stmt, decl, step, for_, Stmts, no_stmts, more_stmts, head, a_stmt}
use Rattle.c_tree.specs.declared.tree.Ty.TheVariants.{Long}
use Rattle.c_tree.specs.declared.tree.BinOp.TheVariants.{Lt}

mutual
  -- a loop: the declarations directly before it, its counter, which runs from the first expression to below the second,
  -- and what is below it
  pub data GenLoop : Type 0 where
    gen_loop : Stmts → Name → Expr → Expr → Inner → GenLoop

  -- a further loop of the nest, or the list below the innermost loop
  pub data Inner : Type 0 where
    Nest : GenLoop → Inner
    Seq : Parts → Inner

  pub data Part : Type 0 where
    Looped : GenLoop → Part
    Plain : Stmts → Part

  pub data Parts : Type 0 where
    no_parts : Parts
    more_parts : Part → Parts → Parts

-- the front runs once, at the entry of the construct; the parts follow in order
pub record Gen : Type 0 where
  pub front : Stmts
  pub parts : Parts

-- ---- as statements

abbrev pub join : Stmts → Stmts → Stmts
join no_stmts b = b
join (more_stmts a as') b = more_stmts a (join as' b)

-- `long long x = e;`
abbrev pub let_stmt : Name → Expr → Stmt
let_stmt x e = decl Long x (Some e)

-- `for (long long c = a; c < b; c++)` round a list
abbrev pub counter_loop : Name → Expr → Expr → Stmts → Stmt
counter_loop c a b body = for_ (head (a_stmt (let_stmt c a)) (Some (bin Lt (read c) b)) (a_stmt (step (target c no_exprs) true))) body

abbrev mutual
  pub loop_stmts : GenLoop → Stmts
  loop_stmts (gen_loop ls c a b inner) = join ls (more_stmts (counter_loop c a b (inner_stmts inner)) no_stmts)

  pub inner_stmts : Inner → Stmts
  inner_stmts (Nest l) = loop_stmts l
  inner_stmts (Seq ps) = parts_stmts ps

  pub part_stmts : Part → Stmts
  part_stmts (Looped l) = loop_stmts l
  part_stmts (Plain as') = as'

  pub parts_stmts : Parts → Stmts
  parts_stmts no_parts = no_stmts
  parts_stmts (more_parts p ps) = join (part_stmts p) (parts_stmts ps)

-- the list of a construct's block
abbrev pub emit : Gen → Stmts
emit g = join g.front (parts_stmts g.parts)
