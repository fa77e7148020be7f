-- The answer of a rewrite breaks no name rule where what it is made of breaks none, and the names that are drawn for it are
-- new (C11 6.2.1: a name is visible in its scope; 6.7: it is declared once there).
use Rattle.std.specs.Prelude.{◌≡◌, ℕ, suc, List, Some, None, Bool, true, false}
use Rattle.c_tree.specs.Bare.{Name, Expr, decl, Stmts}
use Rattle.c_tree.specs.NameRules.BreachSets.{HasNone}
use Rattle.c_tree.specs.NameRules.Scopes.{Scope, meaning, is_define, declare, a_scalar, inner}
use Rattle.c_tree.specs.NameRules.Breaches.{expr_breaches, stmts_breaches}
use Rattle.c_semantics.specs.Laws.Names.{Names, UsesAll}
use Rattle.c_semantics.specs.Laws.Apart.{Differ}
use Rattle.c_soundness.specs.NeverStuck.{AllPlain}
use Rattle.c_soundness.specs.Unplaced.{unplaced_expr, unplaced_stmts}
use Rattle.loop_normal.specs.DrawnNames.{FreshNames, drawn, after_draws, no_draws, loop_names}
use Rattle.loop_normal.specs.Gens.{GenLoop, gen_loop, Inner, Nest, Seq, Looped, Plain, Parts, no_parts, more_parts, Gen, inner_stmts, emit}
use Rattle.loop_normal.specs.Templates.{ll, SourceLoop, leaf}
use Rattle.loop_normal.specs.FromZero.{from_zero, after_from_zero}
use Rattle.nest_normal.specs.NestTexts.{nest_of, declares, declare_in, nest_round, new_counter, with_count}
use Rattle.permute_reverse.specs.Reversed.{reversed_gen}

abbrev pub ExprBreaksNone : Scope → Expr → Type 0
ExprBreaksNone s e = HasNone (expr_breaches s (unplaced_expr e))

-- statements in a function or in `main`, and in a loop or not
abbrev pub BreaksNone : Bool → Bool → Scope → Stmts → Type 0
BreaksNone in_function in_loop s as' = HasNone (stmts_breaches in_function in_loop s (unplaced_stmts as'))

-- ---- new names

-- no draw gives the name
abbrev pub NeverDrawn : FreshNames → Name → Type 0
NeverDrawn f y = (k : ℕ) → Differ (drawn (after_draws k f)) y

-- no name is drawn twice
abbrev pub DrawsApart : FreshNames → Type 0
DrawsApart f = (j k : ℕ) → Differ (drawn (after_draws (suc k) (after_draws j f))) (drawn (after_draws j f))

-- from the first draw on
abbrev pub DrawnAreApart : Type 0
DrawnAreApart = (taken : List Name) (k : ℕ) → DrawsApart (after_draws k (no_draws taken))

-- no drawn name is visible
abbrev pub Unseen : FreshNames → Scope → Type 0
Unseen f s = (k : ℕ) → meaning s (drawn (after_draws k f)) ≡ None

-- no variable and no function that the statements name has a drawn name
abbrev pub NamesNoDrawn : FreshNames → Stmts → Type 0
NamesNoDrawn f as' = UsesAll (NeverDrawn f) (NeverDrawn f) as'

-- ---- nests

-- the bounds of a loop don't name its counter, and the list below it doesn't declare that
abbrev mutual
  pub IsOrderly : GenLoop → Type 0
  IsOrderly (gen_loop ls c a b inner) = Names (λ y. Differ y c) a × Names (λ y. Differ y c) b × (declares c (inner_stmts inner) ≡ false) × IsOrderlyBelow inner

  pub IsOrderlyBelow : Inner → Type 0
  IsOrderlyBelow (Nest l) = IsOrderly l
  IsOrderlyBelow (Seq ps) = Unit {0}

abbrev pub FirstIsOrderly : Parts → Type 0
FirstIsOrderly no_parts = Unit {0}
FirstIsOrderly (more_parts (Looped l) ps) = IsOrderly l
FirstIsOrderly (more_parts (Plain as') ps) = Unit {0}

-- code without a directive, whose first nest is orderly; at this place it breaks no name rule, and draws give new names
pub record IsFine (in_function in_loop : Bool) (s : Scope) (f : FreshNames) (g : Gen) : Type 0 where
  pub apart : DrawsApart f
  pub unseen : Unseen f s
  pub names : NamesNoDrawn f (emit g)
  pub plain : AllPlain (emit g)
  pub orderly : FirstIsOrderly g.parts
  pub none : BreaksNone in_function in_loop s (emit g)

-- ---- what breaks none

abbrev pub RebaseBreaksNone : Type 0
RebaseBreaksNone = (in_function in_loop : Bool) (s : Scope) (f : FreshNames) (g : Gen) → IsFine in_function in_loop s f g → BreaksNone in_function in_loop s (emit (from_zero f g))

-- one part
abbrev pub IsOne : Parts → Type 0
IsOne no_parts = ⊥
IsOne (more_parts p no_parts) = Unit {0}
IsOne (more_parts p (more_parts q ps)) = ⊥

-- of one nest, since another part might read what is dropped
abbrev pub CountBreaksNone : Type 0
CountBreaksNone =
    (in_function in_loop : Bool) (s : Scope) (f : FreshNames) (d k : ℕ) (g : Gen) → IsFine in_function in_loop s f g → IsOne g.parts →
    BreaksNone in_function in_loop s (emit (with_count d k (new_counter f d g) g))

abbrev pub ReverseBreaksNone : Type 0
ReverseBreaksNone =
    (in_function in_loop : Bool) (s : Scope) (f : FreshNames) (g : Gen) → IsFine in_function in_loop s f g →
    BreaksNone in_function in_loop s (emit (reversed_gen (drawn (after_from_zero f g)) (from_zero f g)))

-- a loop whose bounds break none where it stands, and whose body breaks none where its variable is declared
pub record IsFineLoop (in_function : Bool) (s : Scope) (f : FreshNames) (h : SourceLoop) (body : Stmts) : Type 0 where
  pub apart : DrawsApart f
  pub unseen : Unseen f s
  pub var : NeverDrawn f h.var
  pub no_define : is_define (meaning s h.var) ≡ false
  pub lb : ExprBreaksNone s h.lb
  pub ub : ExprBreaksNone s h.ub
  pub lb_names : Names (NeverDrawn f) h.lb
  pub ub_names : Names (NeverDrawn f) h.ub
  pub names : NamesNoDrawn f body
  pub plain : AllPlain body
  pub fine : BreaksNone in_function true (inner (declare h.var a_scalar (inner s))) body

abbrev pub LeafBreaksNone : Type 0
LeafBreaksNone =
    (in_function in_loop : Bool) (s : Scope) (f : FreshNames) (h : SourceLoop) (body : Stmts) → IsFineLoop in_function s f h body →
    BreaksNone in_function in_loop s (emit (leaf (loop_names f) h body))

-- a nest round which a loop is put: with the loop's variable declared below its innermost loop, it breaks none where it stands
pub record IsFineNest (in_function in_loop : Bool) (s : Scope) (f : FreshNames) (h : SourceLoop) (front : Stmts) (l : GenLoop) : Type 0 where
  pub apart : DrawsApart f
  pub unseen : Unseen f s
  pub var : NeverDrawn f h.var
  pub lb : ExprBreaksNone s h.lb
  pub ub : ExprBreaksNone s h.ub
  pub lb_names : Names (NeverDrawn f) h.lb
  pub ub_names : Names (NeverDrawn f) h.ub
  pub names : NamesNoDrawn f (emit (nest_of front l))
  pub plain : AllPlain (emit (nest_of front l))
  pub none : BreaksNone in_function in_loop s (emit (nest_of front (declare_in (decl h.ty h.var (Some (ll 0))) l)))

abbrev pub RoundBreaksNone : Type 0
RoundBreaksNone =
    (in_function in_loop : Bool) (s : Scope) (f : FreshNames) (h : SourceLoop) (front : Stmts) (l : GenLoop) → IsFineNest in_function in_loop s f h front l →
    BreaksNone in_function in_loop s (emit (nest_round (loop_names f) h (nest_of front l)))
