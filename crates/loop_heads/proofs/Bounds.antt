-- The walk over a bound finds the breaches of the list of the names that it reads.
use Rattle.std.proofs.Common.{◌≡◌, ◌∙◌, refl, sym, ap, ◌<◌, ◌≤◌, ◌+◌, ℕ, Bool, List, [], ◌∷◌, ◌++◌, length, drop, slice_index_or, Option, Some, None}
use Rattle.c_tree.specs.Bare.{Name}
use Rattle.c_tree.specs.Placed.{Expr, num, read, item, un, bin, cond, cast, Exprs, no_exprs, more_exprs, Head, head}
use Rattle.c_tree.specs.BareOf.{bare_expr}
use Rattle.c_tree.specs.PlacedOf.{placed_expr, placed_exprs, placed_stmt, placed_head, maybe_stmt}
use Rattle.c_tree.specs.Forget.{forget_expr}
use Rattle.c_tree.specs.declared.tree.Expr.{Expr as Node}
use Rattle.c_tree.specs.declared.tree.ForHead.{ForHead, out-ForHead}
use Rattle.c_tree.proofs.Heads.{placed_head_out}
use Rattle.std.specs.Option.{option_map}
use Rattle.c_tree.proofs.Walks.{rest_more, rest_none}
use Rattle.c_tree.proofs.Forgotten.Exprs.{bare_expr_is}
use Rattle.c_semantics.specs.Meaning.State.{State}
use Rattle.c_semantics.specs.Meaning.FileVariables.{FunctionAccess}
use Rattle.c_semantics.specs.Loops.CanonicalForm.{Canonical, is_read}
use Rattle.std.specs.Prelude.{is_some}
use Rattle.canonical_nests.specs.declared.rules.LoopBreach.{LoopBreach}
use Rattle.canonical_nests.specs.LoopRules.Accesses.{PlacedName, reads, reads_each}
use Rattle.canonical_nests.specs.LoopRules.BreachSets.{least, lesser}
use Rattle.canonical_nests.specs.LoopRules.Heads.{Changes, read_breaches, bound_reads, lower_bound, upper_bound}
use Rattle.canonical_nests.proofs.Order.{lesser_joins, lesser_none}
use Rattle.loop_heads.specs.Reading.{name_breaches, bound_breaches, each_breaches, breaches_if, reads_if}

lower_in : Head → List PlacedName
lower_in (head i i_at e e_at next next_at) = lower_bound i

upper_in : Name → Head → List PlacedName
upper_in x (head i i_at e e_at next next_at) = upper_bound x e

module _ (fs : List FunctionAccess) (s : State) (k : Changes) (round : List Name) (c : Canonical) where
  abbrev found : List PlacedName → Option LoopBreach
  found ns = least (read_breaches fs s k round c ns)

  abbrev here : Name → ℕ → Option LoopBreach
  here y at = least (name_breaches fs s k round (is_some c.ty) c.var y at)

  joined : (xs ys : List PlacedName) → found (xs ++ ys) ≡ lesser (found xs) (found ys)
  joined [] ys = refl
  joined (n ∷ xs) ys = ap (lesser (here n.name n.at)) (joined xs ys) ∙ sym (lesser_joins (here n.name n.at) (found xs) (found ys))

  mutual
    in_expr : (e : Expr) → found (reads e) ≡ least (bound_breaches fs s k round (is_some c.ty) c.var e)
    in_expr (num n t at) = refl
    in_expr (read y at) = lesser_none (here y at.start)
    in_expr (item y es at) = ap (lesser (here y at.start)) (in_each es)
    in_expr (un op a at) = in_expr a
    in_expr (bin op a b at) = joined (reads a) (reads b) ∙ (λ i. lesser (in_expr a i) (in_expr b i))
    in_expr (cond a b d at) =
        joined (reads a) (reads b ++ reads d)
        ∙ (λ i. lesser (in_expr a i) ((joined (reads b) (reads d) ∙ (λ j. lesser (in_expr b j) (in_expr d j))) i))
    in_expr (cast t a at) = in_expr a

    in_each : (es : Exprs) → found (reads_each es) ≡ least (each_breaches fs s k round (is_some c.ty) c.var es)
    in_each no_exprs = refl
    in_each (more_exprs e es) = joined (reads e) (reads_each es) ∙ (λ i. lesser (in_expr e i) (in_each es i))

  in_option : (o : Option Expr) → found (reads_if o) ≡ least (breaches_if fs s k round (is_some c.ty) c.var o)
  in_option None = refl
  in_option (Some e) = in_expr e

  in_head : (h : Head) → found (bound_reads c.var h) ≡ lesser (found (lower_in h)) (found (upper_in c.var h))
  unfolding lower_in upper_in
  in_head (head i i_at e e_at next next_at) = joined (lower_bound i) (upper_bound c.var e)

  pub both_bounds : (h : ForHead) (lower upper : Option Expr) → reads_if lower ≡ lower_bound (maybe_stmt (option_map placed_stmt (out-ForHead h).init))
      → reads_if upper ≡ upper_bound c.var (option_map placed_expr (out-ForHead h).test)
      → least (read_breaches fs s k round c (bound_reads c.var (placed_head h)))
      ≡ lesser (least (breaches_if fs s k round (is_some c.ty) c.var lower)) (least (breaches_if fs s k round (is_some c.ty) c.var upper))
  unfolding lower_in upper_in
  both_bounds h lower upper is_lower is_upper =
      let at = placed_head_out h in
      in_head (placed_head h)
      ∙ ((λ j. lesser (found (lower_in (at j))) (found (upper_in c.var (at j))))
      ∙ ((λ j. lesser (found (sym is_lower j)) (found (sym is_upper j))) ∙ (λ j. lesser (in_option lower j) (in_option upper j))))

-- ---- a walk over subscripts

module _ (fs : List FunctionAccess) (s : State) (k : Changes) (round : List Name) (declared : Bool) (x : Name) (xs : List Node) (i : ℕ) where
  pub each_more : (e : Node) → i < length xs → e ≡ slice_index_or xs i e
      → least (each_breaches fs s k round declared x (placed_exprs (drop i xs))) ≡ lesser (least (bound_breaches fs s k round declared x (placed_expr e))) (least (each_breaches fs s k round declared x (placed_exprs (drop (i + 1) xs))))
  each_more e = rest_more (λ ys. least (each_breaches fs s k round declared x (placed_exprs ys))) xs i e

  pub each_end : length xs ≤ i → least (each_breaches fs s k round declared x (placed_exprs (drop i xs))) ≡ None
  each_end = rest_none (λ ys. least (each_breaches fs s k round declared x (placed_exprs ys))) xs i

pub ruleset bounds = (each_more, each_end, lesser_joins, lesser_none)

pub is_read_placed : (x : Name) (e : Node) → is_read x (bare_expr e) ≡ is_read x (forget_expr (placed_expr e))
is_read_placed x e = ap (is_read x) (bare_expr_is e)

pub ruleset sides = (is_read_placed)
