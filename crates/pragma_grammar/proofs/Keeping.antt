-- What is kept of a tree is built as the tree is; and a tree of which nothing is too deep has a height of at most 256.
use Rattle.std.proofs.Common.{◌≡◌, ℕ, ◌+◌, ◌≤◌, max, Bool, true, false, List, [], ◌∷◌, ◌++◌, Option, Some, None, refl, sym, ap, ◌∙◌, subst, arith}
use Rattle.std.specs.Prelude.{nat_le, cond, map}
use Rattle.c_tree.specs.Bare.{Name}
use Rattle.c_tree.specs.Placed.{Expr, num, read, item, un, bin, cond as choice, cast, Exprs, no_exprs, more_exprs}
use Rattle.c_tree.specs.Forget.{forget_expr, forget_exprs}
use Rattle.c_tree.specs.Height.{expr_height, exprs_height}
use Rattle.c_tree.specs.declared.tree.Span.{Span}
use Rattle.c_tree.specs.declared.tree.UnOp.{UnOp}
use Rattle.c_tree.specs.declared.tree.BinOp.{BinOp}
use Rattle.c_tree.specs.declared.tree.Ty.{Ty}
use Rattle.pragma_grammar.specs.Expressions.{element}
use Rattle.pragma_grammar.specs.Trees.{join, join_last, trees}
use Rattle.pragma_grammar.specs.Deep.{first, too_deep, deep_expr, deep_exprs}
use Rattle.pragma_grammar.specs.Kept.{Kept, kept, deep, KeptList, kept_list, deep_list, node, keep_element, keep_un, keep_bin, keep_cond, keep_cast, keep_subscript, keeps, kept_or, keep, kept_list_or, keep_list}
use Rattle.pragma_grammar.proofs.Maps.{Maps}

-- a node is kept where its height allows it
node_kept : (b : Bool) (h start : ℕ) (e : Expr) → kept_or (cond b (Some start) None) h e ≡ cond b (deep start) (kept h e)
node_kept true h start e = refl
node_kept false h start e = refl

keep_node : (h : ℕ) (e : Expr) (s : Span) → kept_or (too_deep h s.start) h e ≡ node h e s
keep_node h e s = node_kept (nat_le 257 h) h s.start e

un_kept : (d : Option ℕ) (h : ℕ) (o : UnOp) (e : Expr) (s : Span) → kept_or (first d (too_deep (1 + h) s.start)) (1 + h) (un o e s) ≡ keep_un o (kept_or d h e) s
un_kept None h o e s = keep_node (1 + h) (un o e s) s
un_kept (Some p) h o e s = refl

cast_kept : (d : Option ℕ) (h : ℕ) (y : Ty) (e : Expr) (s : Span) → kept_or (first d (too_deep (1 + h) s.start)) (1 + h) (cast y e s) ≡ keep_cast y (kept_or d h e) s
cast_kept None h y e s = keep_node (1 + h) (cast y e s) s
cast_kept (Some p) h y e s = refl

bin_kept : (c d : Option ℕ) (g h : ℕ) (o : BinOp) (e f : Expr) (s : Span) → kept_or (first c (first d (too_deep (1 + max g h) s.start))) (1 + max g h) (bin o e f s) ≡ keep_bin o (kept_or c g e) (kept_or d h f) s
bin_kept None None g h o e f s = keep_node (1 + max g h) (bin o e f s) s
bin_kept None (Some p) g h o e f s = refl
bin_kept (Some p) d g h o e f s = refl

cond_kept : (b c d : Option ℕ) (g h i : ℕ) (x e f : Expr) (s : Span) → kept_or (first b (first c (first d (too_deep (1 + max g (max h i)) s.start)))) (1 + max g (max h i)) (choice x e f s) ≡ keep_cond (kept_or b g x) (kept_or c h e) (kept_or d i f) s
cond_kept None None None g h i x e f s = keep_node (1 + max g (max h i)) (choice x e f s) s
cond_kept None None (Some p) g h i x e f s = refl
cond_kept None (Some p) d g h i x e f s = refl
cond_kept (Some p) c d g h i x e f s = refl

item_kept : (d : Option ℕ) (h : ℕ) (x : Name) (e : Expr) (es : Exprs) (s : Span) → kept_or (first d (too_deep (1 + h) s.start)) (1 + h) (item x (more_exprs e es) s) ≡ keep_element x (kept_list_or d h (more_exprs e es)) s
item_kept None h x e es s = keep_node (1 + h) (item x (more_exprs e es) s) s
item_kept (Some p) h x e es s = refl

element_kept : (x : Name) (es : Exprs) (s : Span) → keep (element x es s) ≡ keep_element x (keep_list es) s
element_kept x no_exprs s = refl
element_kept x (more_exprs e es) s = item_kept (deep_exprs (more_exprs e es)) (exprs_height (forget_exprs (more_exprs e es))) x e es s

first_first : (a b c : Option ℕ) → first a (first b c) ≡ first (first a b) c
first_first None b c = refl
first_first (Some p) b c = refl

first_none : (a : Option ℕ) → first a None ≡ a
first_none None = refl
first_none (Some p) = refl

deep_join : (es : Exprs) (e : Expr) → deep_exprs (join_last es e) ≡ first (deep_exprs es) (deep_expr e)
deep_join no_exprs e = first_none (deep_expr e)
deep_join (more_exprs f es) e = ap (first (deep_expr f)) (deep_join es e) ∙ first_first (deep_expr f) (deep_exprs es) (deep_expr e)

height_join : (es : Exprs) (e : Expr) → exprs_height (forget_exprs (join_last es e)) ≡ max (exprs_height (forget_exprs es)) (expr_height (forget_expr e))
height_join no_exprs e = omega arith
height_join (more_exprs f es) e = let h = height_join es e in omega arith

list_kept : (c d : Option ℕ) (g h : ℕ) (es : Exprs) (e : Expr) → kept_list_or (first c d) (max g h) (join_last es e) ≡ keep_subscript (kept_list_or c g es) (kept_or d h e)
list_kept None None g h es e = refl
list_kept None (Some p) g h es e = refl
list_kept (Some p) d g h es e = refl

subscript_kept : (es : Exprs) (e : Expr) → keep_list (join_last es e) ≡ keep_subscript (keep_list es) (keep e)
subscript_kept es e =
    ap (λ d. kept_list_or d (exprs_height (forget_exprs (join_last es e))) (join_last es e)) (deep_join es e)
    ∙ ap (λ h. kept_list_or (first (deep_exprs es) (deep_expr e)) h (join_last es e)) (height_join es e)
    ∙ list_kept (deep_exprs es) (deep_expr e) (exprs_height (forget_exprs es)) (expr_height (forget_expr e)) es e

pub keeping : Maps Expr Exprs Kept KeptList trees keeps keep keep_list
keeping =
    record {
      num = λ n y s. refl;
      element = element_kept;
      un = λ o e s. un_kept (deep_expr e) (expr_height (forget_expr e)) o e s;
      bin = λ o e f s. bin_kept (deep_expr e) (deep_expr f) (expr_height (forget_expr e)) (expr_height (forget_expr f)) o e f s;
      cond = λ c e f s. cond_kept (deep_expr c) (deep_expr e) (deep_expr f) (expr_height (forget_expr c)) (expr_height (forget_expr e)) (expr_height (forget_expr f)) c e f s;
      cast = λ y e s. cast_kept (deep_expr e) (expr_height (forget_expr e)) y e s;
      none = refl;
      more = subscript_kept;
    }
