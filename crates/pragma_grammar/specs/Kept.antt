-- What a reader keeps of a tree: the tree with its height, or, where a subtree is too deep, the place of the first that
-- is. It is built node by node, as the tree is.
use Rattle.std.specs.Prelude.{ℕ, ◌+◌, max, nat_le, cond, Option, Some, None}
use Rattle.c_tree.specs.Bare.{Name}
use Rattle.c_tree.specs.Placed.{Expr, num, read, item, un, bin, cond as choice, cast, Exprs, no_exprs, more_exprs}
use Rattle.c_tree.specs.Forget.{forget_expr, forget_exprs}
use Rattle.c_tree.specs.Height.{expr_height, exprs_height}
use Rattle.c_tree.specs.declared.tree.Span.{Span}
use Rattle.c_tree.specs.declared.tree.Ty.{Ty}
use Rattle.c_tree.specs.declared.tree.UnOp.{UnOp}
use Rattle.c_tree.specs.declared.tree.BinOp.{BinOp}
use Rattle.pragma_grammar.specs.Machine.{Algebra}
use Rattle.pragma_grammar.specs.Trees.{join_last}
use Rattle.pragma_grammar.specs.Deep.{deep_expr, deep_exprs}

pub data Kept : Type 0 where
  kept : ℕ → Expr → Kept
  deep : ℕ → Kept

-- a list of expressions, with the greatest of their heights
pub data KeptList : Type 0 where
  kept_list : ℕ → Exprs → KeptList
  deep_list : ℕ → KeptList

-- what is kept of a node
abbrev pub node : ℕ → Expr → Span → Kept
node height e s = cond (nat_le 257 height) (deep s.start) (kept height e)

abbrev pub keep_element : Name → KeptList → Span → Kept
keep_element x (kept_list h no_exprs) s = kept 1 (read x s)
keep_element x (kept_list h (more_exprs e es)) s = node (1 + h) (item x (more_exprs e es) s) s
keep_element x (deep_list p) s = deep p

abbrev pub keep_un : UnOp → Kept → Span → Kept
keep_un o (kept h e) s = node (1 + h) (un o e s) s
keep_un o (deep p) s = deep p

abbrev pub keep_bin : BinOp → Kept → Kept → Span → Kept
keep_bin o (kept g e) (kept h f) s = node (1 + max g h) (bin o e f s) s
keep_bin o (kept g e) (deep p) s = deep p
keep_bin o (deep p) f s = deep p

abbrev pub keep_cond : Kept → Kept → Kept → Span → Kept
keep_cond (kept g c) (kept h e) (kept i f) s = node (1 + max g (max h i)) (choice c e f s) s
keep_cond (kept g c) (kept h e) (deep p) s = deep p
keep_cond (kept g c) (deep p) f s = deep p
keep_cond (deep p) e f s = deep p

abbrev pub keep_cast : Ty → Kept → Span → Kept
keep_cast ty (kept h e) s = node (1 + h) (cast ty e s) s
keep_cast ty (deep p) s = deep p

abbrev pub keep_subscript : KeptList → Kept → KeptList
keep_subscript (kept_list g es) (kept h e) = kept_list (max g h) (join_last es e)
keep_subscript (kept_list g es) (deep p) = deep_list p
keep_subscript (deep_list p) e = deep_list p

abbrev pub keeps : Algebra Kept KeptList
keeps = record { num = λ n ty s. kept 1 (num n ty s); element = keep_element; un = keep_un; bin = keep_bin; cond = keep_cond; cast = keep_cast; no_subscripts = kept_list 0 no_exprs; subscript = keep_subscript }

-- what is kept of a tree
abbrev pub kept_or : Option ℕ → ℕ → Expr → Kept
kept_or None height e = kept height e
kept_or (Some p) height e = deep p

abbrev pub keep : Expr → Kept
keep e = kept_or (deep_expr e) (expr_height (forget_expr e)) e

abbrev pub kept_list_or : Option ℕ → ℕ → Exprs → KeptList
kept_list_or None height es = kept_list height es
kept_list_or (Some p) height es = deep_list p

abbrev pub keep_list : Exprs → KeptList
keep_list es = kept_list_or (deep_exprs es) (exprs_height (forget_exprs es)) es
