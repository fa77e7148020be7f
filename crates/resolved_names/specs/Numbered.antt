-- The bare tree of a tree over numbers: a number is the name that has it as its only byte.
use Rattle.std.specs.Prelude.{ℕ, List, [], ◌∷◌, map}
use Rattle.std.specs.Option.{option_map}
use Rattle.c_tree.specs.Bare as b
use Rattle.c_tree.specs.BareOf.{gather_exprs, gather_stmts, if_layer}
pub use Rattle.c_tree.specs.BareOf.{maybe_stmt}
use Rattle.resolved_names.specs.declared.tree.Expr.{Expr, Expr-F, fold-Expr}
use Rattle.resolved_names.specs.declared.tree.Expr.TheOpen as e
use Rattle.resolved_names.specs.declared.tree.Target.{Target}
use Rattle.resolved_names.specs.declared.tree.Stmt.{Stmt, Stmt-F, fold-Stmt}
use Rattle.resolved_names.specs.declared.tree.ForHead.{ForHead, ForHead-F, fold-ForHead}
use Rattle.resolved_names.specs.declared.tree.Stmt.TheOpen as s
use Rattle.resolved_names.specs.declared.tree.Param.{Param}
use Rattle.resolved_names.specs.declared.tree.Item.{Item}
use Rattle.resolved_names.specs.declared.tree.Item.TheVariants as i

abbrev pub number_name : ℕ → b.Name
number_name n = n ∷ []

abbrev pub expr_layer : Expr-F b.Expr → b.Expr
expr_layer (e.Num n ty) = b.num n ty
expr_layer (e.Read x) = b.read (number_name x)
expr_layer (e.Item x subs) = b.item (number_name x) (gather_exprs subs)
expr_layer (e.Un op e) = b.un op e
expr_layer (e.Bin op l r) = b.bin op l r
expr_layer (e.Cond t y n) = b.cond t y n
expr_layer (e.Cast ty e) = b.cast ty e

abbrev pub numbered_expr : Expr → b.Expr
numbered_expr = fold-Expr b.Expr expr_layer

abbrev pub numbered_exprs : List Expr → b.Exprs
numbered_exprs es = gather_exprs (map numbered_expr es)

abbrev pub numbered_target : Target → b.Target
numbered_target t = b.target (number_name t.name) (numbered_exprs t.subs)

abbrev pub stmt_layer : Stmt-F b.Stmt b.Head → b.Stmt
stmt_layer (s.Decl ty x init) = b.decl ty (number_name x) (option_map numbered_expr init)
stmt_layer (s.Set t op e) = b.set (numbered_target t) op (numbered_expr e)
stmt_layer (s.Step t up) = b.step (numbered_target t) up
stmt_layer (s.Print e) = b.print (numbered_expr e)
stmt_layer (s.Input t) = b.input (numbered_target t)
stmt_layer (s.If e ss ts) = if_layer (numbered_expr e) (gather_stmts ss) ts
stmt_layer (s.While e body) = b.while_ (numbered_expr e) (gather_stmts body)
stmt_layer (s.Do body e) = b.do_ (gather_stmts body) (numbered_expr e)
stmt_layer (s.For h body) = b.for_ h (gather_stmts body)
stmt_layer (s.Block body) = b.block (gather_stmts body)
stmt_layer s.Break = b.break_
stmt_layer s.Continue = b.continue_
stmt_layer s.Empty = b.empty
stmt_layer (s.Call x args) = b.call (number_name x) (numbered_exprs args)

abbrev pub head_layer : ForHead-F b.Stmt b.Head → b.Head
head_layer h = b.head (maybe_stmt h.init) (option_map numbered_expr h.test) (maybe_stmt h.step)

abbrev pub numbered_stmt : Stmt → b.Stmt
numbered_stmt = fold-Stmt b.Stmt b.Head stmt_layer head_layer

abbrev pub numbered_head : ForHead → b.Head
numbered_head = fold-ForHead b.Stmt b.Head stmt_layer head_layer

abbrev pub numbered_stmts : List Stmt → b.Stmts
numbered_stmts ss = gather_stmts (map numbered_stmt ss)

abbrev pub numbered_param : Param → b.Param
numbered_param p = record { ty = p.ty; name = number_name p.name }

abbrev pub numbered_top : Item → b.Top
numbered_top (i.Define x neg n ty) = b.define (number_name x) neg n ty
numbered_top (i.Extern port) = b.extern_ port
numbered_top (i.Global ty x dims init) = b.global ty (number_name x) (numbered_exprs dims) (option_map numbered_expr init)
numbered_top (i.Function x ps body) = b.function (number_name x) (map numbered_param ps) (numbered_stmts body)
numbered_top (i.Main body) = b.main (numbered_stmts body)

abbrev pub numbered_tops : List Item → b.Program
numbered_tops = map numbered_top
