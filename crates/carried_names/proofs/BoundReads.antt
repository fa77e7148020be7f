-- Where a head breaks no loop rule, its bounds don't name the variable that it declares.
use Rattle.std.proofs.Common.{◌≡◌, refl, sym, ap, ◌∙◌, ℕ, List, [], ◌∷◌, ◌++◌, Option, Some, None, Bool, true, false, ◌&&◌, ◌||◌, ℤ}
use Rattle.std.specs.Prelude.{bytes_eq, is_some, if◌then◌else◌}
use Rattle.std.specs.Option.{option_map}
use Rattle.c_tree.specs.Bare as b
use Rattle.c_tree.specs.Bare.{Name}
use Rattle.c_tree.specs.Placed.{Expr, num, read, item, un, bin, cond, cast, Exprs, no_exprs, more_exprs, target, decl, set, step, print, input, if_, if_else, while_, do_, for_, block, break_, continue_, empty, omp, call, Stmts, MaybeStmt, no_stmt, a_stmt, head}
use Rattle.c_tree.specs.Forget.{forget_expr, forget_exprs, forget_maybe, forget_head}
use Rattle.c_tree.specs.declared.tree.Ty.{Ty}
use Rattle.c_tree.specs.declared.tree.BinOp.{BinOp}
use Rattle.c_tree.specs.declared.tree.SetOp.{SetOp}
use Rattle.c_tree.specs.declared.tree.SetOp.TheVariants as to
use Rattle.c_semantics.specs.Meaning.State.{State}
use Rattle.c_semantics.specs.Meaning.Expressions.{Define}
use Rattle.c_semantics.specs.Meaning.FileVariables.{FunctionAccess, has_name}
use Rattle.c_semantics.specs.Laws.Apart.{Differ}
use Rattle.c_semantics.specs.Laws.Names.{Names, NamesEach}
use Rattle.c_semantics.specs.Loops.CanonicalForm.{Canonical, Init, Test, canonical, init, test, test_from, turned, is_read, increment, is_step_for, with_step, with_test, with_init}
use Rattle.canonical_nests.specs.LoopRules.BreachSets.{HasNone, breach, breach_if}
use Rattle.canonical_nests.specs.LoopRules.Accesses.{PlacedName, reads, reads_each}
use Rattle.canonical_nests.specs.LoopRules.Heads.{lower_bound, upper_bound, bound_reads, is_changed, Changes, read_breaches, loop_breaches}
use Rattle.canonical_nests.specs.declared.rules.LoopRule.TheVariants.{L6, L8}
use Rattle.loop_normal.proofs.FreshFrames.{differ_sym}
use Rattle.carried_names.specs.BoundsApart.{ApartIfDeclared, BoundsApart}

-- ---- names that are apart from one

abbrev AllDiffer : Name → List PlacedName → Type 0
AllDiffer x [] = Unit {0}
AllDiffer x (n ∷ ns) = Differ n.name x × AllDiffer x ns

module _ (x : Name) where
  first : (ns ms : List PlacedName) → AllDiffer x (ns ++ ms) → AllDiffer x ns
  first [] ms h = tt
  first (n ∷ ns) ms h = (h.0, first ns ms h.1)

  second : (ns ms : List PlacedName) → AllDiffer x (ns ++ ms) → AllDiffer x ms
  second [] ms h = h
  second (n ∷ ns) ms h = second ns ms h.1

  mutual
    names_apart : (e : Expr) → AllDiffer x (reads e) → Names (λ y. Differ y x) (forget_expr e)
    names_apart (num k t s) h = tt
    names_apart (read y s) h = h.0
    names_apart (item y es s) h = (h.0, each_apart es h.1)
    names_apart (un op a s) h = names_apart a h
    names_apart (bin op a c s) h = (names_apart a (first (reads a) (reads c) h), names_apart c (second (reads a) (reads c) h))
    names_apart (cond a c d s) h =
        let rest = second (reads a) (reads c ++ reads d) h in
        (names_apart a (first (reads a) (reads c ++ reads d) h), names_apart c (first (reads c) (reads d) rest), names_apart d (second (reads c) (reads d) rest))
    names_apart (cast t a s) h = names_apart a h

    each_apart : (es : Exprs) → AllDiffer x (reads_each es) → NamesEach (λ y. Differ y x) (forget_exprs es)
    each_apart no_exprs h = tt
    each_apart (more_exprs e es) h = (names_apart e (first (reads e) (reads_each es) h), each_apart es (second (reads e) (reads_each es) h))

  -- ---- the parts of a head

  abbrev LowerApart : Option Init → Type 0
  LowerApart None = Unit {0}
  LowerApart (Some i) = Names (λ y. Differ y x) i.lb

  abbrev UpperApart : Option Test → Type 0
  UpperApart None = Unit {0}
  UpperApart (Some t) = Names (λ y. Differ y x) t.ub

  set_apart : (y : Name) (o : SetOp) (e : b.Expr) → Names (λ y. Differ y x) e → LowerApart (init (b.a_stmt (b.set (b.target y b.no_exprs) o e)))
  set_apart y to.Plain e h = h
  set_apart y to.Add e h = tt
  set_apart y to.Sub e h = tt
  set_apart y to.Mul e h = tt
  set_apart y to.Div e h = tt
  set_apart y to.Rem e h = tt

  lower_apart : (i : MaybeStmt) → AllDiffer x (lower_bound i) → LowerApart (init (forget_maybe i))
  lower_apart no_stmt h = tt
  lower_apart (a_stmt (decl t y at None s)) h = tt
  lower_apart (a_stmt (decl t y at (Some e) s)) h = names_apart e h
  lower_apart (a_stmt (set (target y no_exprs u) o e s)) h = set_apart y o (forget_expr e) (names_apart e h)
  lower_apart (a_stmt (set (target y (more_exprs f fs) u) o e s)) h = tt
  lower_apart (a_stmt (step t up s)) h = tt
  lower_apart (a_stmt (print e s)) h = tt
  lower_apart (a_stmt (input t at s)) h = tt
  lower_apart (a_stmt (if_ e a s)) h = tt
  lower_apart (a_stmt (if_else e a c s)) h = tt
  lower_apart (a_stmt (while_ e a s)) h = tt
  lower_apart (a_stmt (do_ a e s)) h = tt
  lower_apart (a_stmt (for_ g a s)) h = tt
  lower_apart (a_stmt (block a s)) h = tt
  lower_apart (a_stmt (break_ s)) h = tt
  lower_apart (a_stmt (continue_ s)) h = tt
  lower_apart (a_stmt (empty s)) h = tt
  lower_apart (a_stmt (omp d a s)) h = tt
  lower_apart (a_stmt (call f at es s)) h = tt

  sides_apart : (l r : Bool) (o : BinOp) (t : Option BinOp) (a c : Expr) → AllDiffer x (if l then reads c else reads a) → UpperApart (test_from l r o t (forget_expr a) (forget_expr c))
  sides_apart true r o (Some u) a c h = names_apart c h
  sides_apart true true o None a c h = tt
  sides_apart true false o None a c h = tt
  sides_apart false true o (Some u) a c h = names_apart a h
  sides_apart false true o None a c h = tt
  sides_apart false false o (Some u) a c h = tt
  sides_apart false false o None a c h = tt

  upper_apart : (e : Option Expr) → AllDiffer x (upper_bound x e) → UpperApart (test x (option_map forget_expr e))
  upper_apart None h = tt
  upper_apart (Some (num k t s)) h = tt
  upper_apart (Some (read y s)) h = tt
  upper_apart (Some (item y es s)) h = tt
  upper_apart (Some (un o a s)) h = tt
  upper_apart (Some (bin o a c s)) h = sides_apart (is_read x (forget_expr a)) (is_read x (forget_expr c)) o (turned o) a c h
  upper_apart (Some (cond a c d s)) h = tt
  upper_apart (Some (cast t a s)) h = tt

-- ---- heads that break no rule

module _ (fs : List FunctionAccess) (s : State) (k : Changes) (round : List Name) where
  own_apart : (c : Canonical) → is_some c.ty ≡ true → (ns : List PlacedName) → HasNone (read_breaches fs s k round c ns) → AllDiffer c.var ns
  own_apart c e [] h = tt
  own_apart c e (n ∷ ns) h = (differ_sym c.var n.name (ap (λ t. t && bytes_eq c.var n.name) (sym e) ∙ by (is_some c.ty && bytes_eq c.var n.name) h.0), own_apart c e ns h.1)
    where
      by : (t : Bool) → HasNone (if t then breach L6 n.at else if has_name round n.name then breach L8 n.at else breach_if (bytes_eq c.var n.name || is_changed fs s k n.name) L6 n.at) → t ≡ false
      by true h = absurd h
      by false h = refl

  module _ (ds : List Define) (i : MaybeStmt) (i_at : ℕ) (e : Option Expr) (e_at : ℕ) (next : MaybeStmt) (next_at : ℕ) (a : Stmts) where
    abbrev FreeOf : Option Canonical → Type 0
    FreeOf o = HasNone (loop_breaches fs s k round (head i i_at e e_at next next_at) a o) → BoundsApart o

    declared_free : (c : Canonical) → (AllDiffer c.var (lower_bound i) → Names (λ y. Differ y c.var) c.lb) → (AllDiffer c.var (upper_bound c.var e) → Names (λ y. Differ y c.var) c.ub) → FreeOf (Some c)
    declared_free c lower upper h = by c.ty refl
      where
        by : (o : Option Ty) → c.ty ≡ o → ApartIfDeclared o c
        by None q = tt
        by (Some T) q =
            let all = own_apart c (ap is_some q) (bound_reads c.var (head i i_at e e_at next next_at)) h.0 in
            (lower (first c.var (lower_bound i) (upper_bound c.var e) all), upper (second c.var (lower_bound i) (upper_bound c.var e) all))

    step_free : (j : Init) (t : Test) (z : Option ℤ) → (AllDiffer j.var (lower_bound i) → Names (λ y. Differ y j.var) j.lb) → (AllDiffer j.var (upper_bound j.var e) → Names (λ y. Differ y j.var) t.ub) → FreeOf (with_step j t z)
    step_free j t None lower upper = λ h. tt
    step_free j t (Some z) lower upper = by (is_step_for t.op z)
      where
        by : (b : Bool) → FreeOf (if b then Some (record { var = j.var; ty = j.ty; lb = j.lb; ub = t.ub; test = t.op; step = z }) else None)
        by true = declared_free (record { var = j.var; ty = j.ty; lb = j.lb; ub = t.ub; test = t.op; step = z }) lower upper
        by false = λ h. tt

    tested_free : (j : Init) (t : Option Test) → (AllDiffer j.var (lower_bound i) → Names (λ y. Differ y j.var) j.lb) → (AllDiffer j.var (upper_bound j.var e) → UpperApart j.var t) → FreeOf (with_test ds (forget_maybe next) j t)
    tested_free j None lower upper = λ h. tt
    tested_free j (Some t) lower upper = step_free j t (increment ds j.var (forget_maybe next)) lower upper

    begun_free : (j : Option Init) → ((x : Name) → AllDiffer x (lower_bound i) → LowerApart x j) → FreeOf (with_init ds (option_map forget_expr e) (forget_maybe next) j)
    begun_free None lower = λ h. tt
    begun_free (Some j) lower = tested_free j (test j.var (option_map forget_expr e)) (lower j.var) (upper_apart j.var e)

    pub bounds_free : FreeOf (canonical ds (forget_head (head i i_at e e_at next next_at)))
    bounds_free = begun_free (init (forget_maybe i)) (λ x h. lower_apart x i h)
