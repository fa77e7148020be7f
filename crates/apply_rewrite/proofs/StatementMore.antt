-- Carrying out one statement more, and what a walk over statements by value knows of them.
use Rattle.std.proofs.Common.{◌≡◌, ◌≢◌, refl, sym, ap, ◌∙◌, subst, ℕ, ◌≤◌, max, Option, Some, None, List, [], ◌∷◌, ◌++◌, length, append_assoc, slice_index_or, arith}
use denote.Param.Weighed.{most, most-append}
use Rattle.c_tree.specs.Bare as b
use Rattle.c_tree.specs.Bare.{more_stmts}
use Rattle.c_tree.specs.BareOf.{bare_expr, bare_head, bare_stmt, bare_stmts, stmt_layer, head_layer}
use Rattle.c_tree.specs.WellFormed.{WellFormedStmt, WellFormedStmts}
use Rattle.c_tree.specs.declared.tree.Directive.{Directive}
use Rattle.c_tree.specs.declared.tree.Expr.{Expr}
use Rattle.c_tree.specs.declared.tree.ForHead.{ForHead}
use Rattle.c_tree.specs.declared.tree.Span.{Span}
use Rattle.c_tree.specs.declared.tree.Stmt.{Stmt, Stmt-F, roll-Stmt, out-Stmt, roll-out-Stmt, fold-roll-Stmt}
use Rattle.c_tree.specs.declared.tree.Stmt.TheVariants as v
use Rattle.c_tree.specs.declared.tree.Stmt.TheOpen as layer
use Rattle.c_semantics.specs.Meaning.State.{State}
use Rattle.c_semantics.specs.Meaning.Expressions.{Define}
use Rattle.c_semantics.specs.Structure.Skeleton.{scope_after}
use Rattle.loop_counts.specs.Visible.{Visible}
use Rattle.loop_normal.specs.Gens.{join}
use Rattle.loop_normal.specs.Templates.{SourceLoop, only}
use Rattle.loop_normal.specs.DrawnNames.{FreshNames}
use Rattle.loop_normal.proofs.Trees.{stmts_join}
use Rattle.apply_rewrite.proofs.Scopes.{all_after}
use Rattle.carried_out.specs.CarriedOut.{loop_at, scope_below, made_leaf, carried, carried_all, nest, nest_in, no_code}

done_more : (done : List Stmt) (y : Stmt) → bare_stmts (done ++ y ∷ []) ≡ join (bare_stmts done) (only (bare_stmt y))
done_more done y = stmts_join done (y ∷ [])

-- what is visible after a list and one statement more
after_more : (xs : List Stmt) (x : Stmt) (s : State) → all_after (bare_stmts (xs ++ x ∷ [])) s ≡ scope_after (bare_stmt x) (all_after (bare_stmts xs) s)
after_more [] x s = refl
after_more (y ∷ xs) x s = after_more xs x (scope_after (bare_stmt y) s)

-- ---- statements of several parts

bare_for : (h : ForHead) (ts : List Stmt) (at : Span) → bare_stmt (v.For h ts at) ≡ b.for_ (bare_head h) (bare_stmts ts)
bare_for h ts at = ap bare_stmt (sym (v.rolls-For h ts at)) ∙ fold-roll-Stmt b.Stmt b.Head stmt_layer head_layer (layer.For h ts at)

bare_if : (e : Expr) (ts : List Stmt) (at : Span) → bare_stmt (v.If e ts None at) ≡ b.if_ (bare_expr e) (bare_stmts ts)
bare_if e ts at = ap bare_stmt (sym (v.rolls-If e ts None at)) ∙ fold-roll-Stmt b.Stmt b.Head stmt_layer head_layer (layer.If e ts None at)

bare_if_else : (e : Expr) (ts us : List Stmt) (at : Span) → bare_stmt (v.If e ts (Some us) at) ≡ b.if_else (bare_expr e) (bare_stmts ts) (bare_stmts us)
bare_if_else e ts us at = ap bare_stmt (sym (v.rolls-If e ts (Some us) at)) ∙ fold-roll-Stmt b.Stmt b.Head stmt_layer head_layer (layer.If e ts (Some us) at)

module _ (ds : List Define) where
  -- a declaration stays one, and nothing else becomes one
  carried_after : (s : State) (a : b.Stmt) (f : FreshNames) (u : State) → scope_after (carried ds s a f).tree u ≡ scope_after a u
  carried_after s (b.decl t x e) f u = refl
  carried_after s (b.set t op e) f u = refl
  carried_after s (b.step t up) f u = refl
  carried_after s (b.print e) f u = refl
  carried_after s (b.input t) f u = refl
  carried_after s (b.if_ e a) f u = refl
  carried_after s (b.if_else e a c) f u = refl
  carried_after s (b.while_ e a) f u = refl
  carried_after s (b.do_ a e) f u = refl
  carried_after s (b.for_ h a) f u = refl
  carried_after s (b.block a) f u = refl
  carried_after s b.break_ f u = refl
  carried_after s b.continue_ f u = refl
  carried_after s b.empty f u = refl
  carried_after s (b.omp d a) f u = refl
  carried_after s (b.call x es) f u = refl

  tree_more : (s : State) (xs : List Stmt) (x : Stmt) (f : FreshNames) →
      (carried_all ds s (bare_stmts (xs ++ x ∷ [])) f).tree ≡ join (carried_all ds s (bare_stmts xs) f).tree (only (carried ds (all_after (bare_stmts xs) s) (bare_stmt x) (carried_all ds s (bare_stmts xs) f).left).tree)
  tree_more s [] x f = refl
  tree_more s (y ∷ xs) x f = ap (more_stmts (carried ds s (bare_stmt y) f).tree) (tree_more (scope_after (bare_stmt y) s) xs x (carried ds s (bare_stmt y) f).left)

  left_more : (s : State) (xs : List Stmt) (x : Stmt) (f : FreshNames) →
      (carried_all ds s (bare_stmts (xs ++ x ∷ [])) f).left ≡ (carried ds (all_after (bare_stmts xs) s) (bare_stmt x) (carried_all ds s (bare_stmts xs) f).left).left
  left_more s [] x f = refl
  left_more s (y ∷ xs) x f = left_more (scope_after (bare_stmt y) s) xs x (carried ds s (bare_stmt y) f).left

  -- what is done after one statement more, the names that are left, and what is visible
  module _ (s u : State) (xs : List Stmt) (x : Stmt) (f g : FreshNames) (seen : u ≡ all_after (bare_stmts xs) s) (left : g ≡ (carried_all ds s (bare_stmts xs) f).left) where
    pub tree_step : (done after : List Stmt) (y : Stmt) →
        bare_stmts done ≡ (carried_all ds s (bare_stmts xs) f).tree → bare_stmt y ≡ (carried ds u (bare_stmt x) g).tree → after ≡ done ++ y ∷ [] →
        bare_stmts after ≡ (carried_all ds s (bare_stmts (xs ++ x ∷ [])) f).tree
    tree_step done after y so one e =
        ap bare_stmts e ∙ done_more done y ∙ ap (λ a. join a (only (bare_stmt y))) so
        ∙ ap (λ a. join (carried_all ds s (bare_stmts xs) f).tree (only a)) (one ∙ (λ i. (carried ds (seen i) (bare_stmt x) (left i)).tree))
        ∙ sym (tree_more s xs x f)

    pub left_step : (h : FreshNames) → h ≡ (carried ds u (bare_stmt x) g).left → h ≡ (carried_all ds s (bare_stmts (xs ++ x ∷ [])) f).left
    left_step h one = one ∙ (λ i. (carried ds (seen i) (bare_stmt x) (left i)).left) ∙ sym (left_more s xs x f)

    pub scope_step : (w : State) (y : Stmt) → bare_stmt y ≡ (carried ds u (bare_stmt x) g).tree → w ≡ scope_after (bare_stmt y) u → w ≡ all_after (bare_stmts (xs ++ x ∷ [])) s
    scope_step w y one e =
        e ∙ ap (λ a. scope_after a u) one ∙ carried_after u (bare_stmt x) g u ∙ ap (scope_after (bare_stmt x)) seen ∙ sym (after_more xs x s)

  -- the code of a loop, made of its head's parts and of its body where the loop's variable is visible
  pub nest_step : (s : State) (x : Stmt) (h : ForHead) (ts : List Stmt) (at : Span) (body : List Stmt) (f left : FreshNames) (found : Option SourceLoop) →
      x ≡ v.For h ts at → found ≡ loop_at ds s (bare_head h) →
      bare_stmts body ≡ (carried_all ds (scope_below s found) (bare_stmts ts) f).tree → left ≡ (carried_all ds (scope_below s found) (bare_stmts ts) f).left →
      made_leaf found (record { tree = bare_stmts body; left = left }) ≡ nest_in ds s (bare_stmt x) f
  nest_step s x h ts at body f left found is e t l =
      (λ i. made_leaf found (record { tree = t i; left = l i })) ∙ ap (λ o. made_leaf o (carried_all ds (scope_below s o) (bare_stmts ts) f)) e
      ∙ sym (ap (λ a. nest_in ds s a f) (ap bare_stmt is ∙ bare_for h ts at))

  -- an `if` from its branches
  module _ (s : State) (x : Stmt) (e : Expr) (ys zs : List Stmt) (at : Span) (f : FreshNames) where
    pub if_tree : x ≡ v.If e ys None at → bare_stmts zs ≡ (carried_all ds s (bare_stmts ys) f).tree → bare_stmt (v.If e zs None at) ≡ (carried ds s (bare_stmt x) f).tree
    if_tree is t = bare_if e zs at ∙ ap (b.if_ (bare_expr e)) t ∙ sym (ap (λ a. (carried ds s a f).tree) (ap bare_stmt is ∙ bare_if e ys at))

    pub if_left : x ≡ v.If e ys None at → (left : FreshNames) → left ≡ (carried_all ds s (bare_stmts ys) f).left → left ≡ (carried ds s (bare_stmt x) f).left
    if_left is left l = l ∙ sym (ap (λ a. (carried ds s a f).left) (ap bare_stmt is ∙ bare_if e ys at))

    -- the other branch is carried out with the names that are left, where the same is visible
    module _ (ns ms : List Stmt) (between left : FreshNames) (u : Visible) (is : x ≡ v.If e ys (Some ns) at) (same : u ≡ record { defines = ds; state = s }) (l : between ≡ (carried_all ds s (bare_stmts ys) f).left) where
      pub if_else_tree : bare_stmts zs ≡ (carried_all ds s (bare_stmts ys) f).tree → bare_stmts ms ≡ (carried_all u.defines u.state (bare_stmts ns) between).tree → bare_stmt (v.If e zs (Some ms) at) ≡ (carried ds s (bare_stmt x) f).tree
      if_else_tree t o =
          bare_if_else e zs ms at ∙ (λ i. b.if_else (bare_expr e) (t i) ((o ∙ (λ j. (carried_all (same j).defines (same j).state (bare_stmts ns) (l j)).tree)) i))
          ∙ sym (ap (λ a. (carried ds s a f).tree) (ap bare_stmt is ∙ bare_if_else e ys ns at))

      pub if_else_left : left ≡ (carried_all u.defines u.state (bare_stmts ns) between).left → left ≡ (carried ds s (bare_stmt x) f).left
      if_else_left o =
          o ∙ (λ j. (carried_all (same j).defines (same j).state (bare_stmts ns) (l j)).left)
          ∙ sym (ap (λ a. (carried ds s a f).left) (ap bare_stmt is ∙ bare_if_else e ys ns at))

  -- a list that is not one statement leads to no loop
  pub nest_other : (s : State) (xs : List Stmt) (f : FreshNames) → length xs ≢ 1 → nest ds s (bare_stmts xs) f ≡ no_code f
  nest_other s [] f many = refl
  nest_other s (x ∷ []) f many = absurd (many refl)
  nest_other s (x ∷ y ∷ xs) f many = refl

  other_layer : (s : State) (x : Stmt-F Stmt ForHead) (f : FreshNames) →
      ((h : ForHead) (ts : List Stmt) (at : Span) → roll-Stmt x ≡ v.For h ts at → ⊥) → ((ts : List Stmt) (at : Span) → roll-Stmt x ≡ v.Block ts at → ⊥) →
      ((d : Directive) (ts : List Stmt) (at : Span) → roll-Stmt x ≡ v.Omp d ts at → ⊥) → nest_in ds s (bare_stmt (roll-Stmt x)) f ≡ no_code f
  other_layer s (layer.For h ts sp) f no_loop no_block no_omp = absurd (no_loop h ts sp (v.rolls-For h ts sp))
  other_layer s (layer.Block ts sp) f no_loop no_block no_omp = absurd (no_block ts sp (v.rolls-Block ts sp))
  other_layer s (layer.Omp d ts sp) f no_loop no_block no_omp = absurd (no_omp d ts sp (v.rolls-Omp d ts sp))
  other_layer s (layer.Decl ty x at init sp) f no_loop no_block no_omp = ap (λ a. nest_in ds s a f) (fold-roll-Stmt b.Stmt b.Head stmt_layer head_layer (layer.Decl ty x at init sp))
  other_layer s (layer.Set t op e sp) f no_loop no_block no_omp = ap (λ a. nest_in ds s a f) (fold-roll-Stmt b.Stmt b.Head stmt_layer head_layer (layer.Set t op e sp))
  other_layer s (layer.Step t up sp) f no_loop no_block no_omp = ap (λ a. nest_in ds s a f) (fold-roll-Stmt b.Stmt b.Head stmt_layer head_layer (layer.Step t up sp))
  other_layer s (layer.Print e sp) f no_loop no_block no_omp = ap (λ a. nest_in ds s a f) (fold-roll-Stmt b.Stmt b.Head stmt_layer head_layer (layer.Print e sp))
  other_layer s (layer.Input t at sp) f no_loop no_block no_omp = ap (λ a. nest_in ds s a f) (fold-roll-Stmt b.Stmt b.Head stmt_layer head_layer (layer.Input t at sp))
  other_layer s (layer.If e ts None sp) f no_loop no_block no_omp = ap (λ a. nest_in ds s a f) (fold-roll-Stmt b.Stmt b.Head stmt_layer head_layer (layer.If e ts None sp))
  other_layer s (layer.If e ts (Some es) sp) f no_loop no_block no_omp = ap (λ a. nest_in ds s a f) (fold-roll-Stmt b.Stmt b.Head stmt_layer head_layer (layer.If e ts (Some es) sp))
  other_layer s (layer.While e ts sp) f no_loop no_block no_omp = ap (λ a. nest_in ds s a f) (fold-roll-Stmt b.Stmt b.Head stmt_layer head_layer (layer.While e ts sp))
  other_layer s (layer.Do ts e sp) f no_loop no_block no_omp = ap (λ a. nest_in ds s a f) (fold-roll-Stmt b.Stmt b.Head stmt_layer head_layer (layer.Do ts e sp))
  other_layer s (layer.Break sp) f no_loop no_block no_omp = ap (λ a. nest_in ds s a f) (fold-roll-Stmt b.Stmt b.Head stmt_layer head_layer (layer.Break sp))
  other_layer s (layer.Continue sp) f no_loop no_block no_omp = ap (λ a. nest_in ds s a f) (fold-roll-Stmt b.Stmt b.Head stmt_layer head_layer (layer.Continue sp))
  other_layer s (layer.Empty sp) f no_loop no_block no_omp = ap (λ a. nest_in ds s a f) (fold-roll-Stmt b.Stmt b.Head stmt_layer head_layer (layer.Empty sp))
  other_layer s (layer.Call x at args sp) f no_loop no_block no_omp = ap (λ a. nest_in ds s a f) (fold-roll-Stmt b.Stmt b.Head stmt_layer head_layer (layer.Call x at args sp))

  -- only a loop, a block and a directive lead to loops
  pub nowhere : (s : State) (stmt : Stmt) (f : FreshNames) →
      ((h : ForHead) (ts : List Stmt) (at : Span) → stmt ≡ v.For h ts at → ⊥) → ((ts : List Stmt) (at : Span) → stmt ≡ v.Block ts at → ⊥) →
      ((d : Directive) (ts : List Stmt) (at : Span) → stmt ≡ v.Omp d ts at → ⊥) → nest_in ds s (bare_stmt stmt) f ≡ no_code f
  nowhere s stmt f no_loop no_block no_omp =
      let rolled = sym (roll-out-Stmt stmt) in
      ap (λ z. nest_in ds s (bare_stmt z) f) rolled
      ∙ other_layer s (out-Stmt stmt) f (λ h ts at e. no_loop h ts at (rolled ∙ e)) (λ ts at e. no_block ts at (rolled ∙ e)) (λ d ts at e. no_omp d ts at (rolled ∙ e))

-- ---- what a loop over statements by value has left

among_well_formed : (xs : List Stmt) (x : Stmt) (ys : List Stmt) → WellFormedStmts (bare_stmts (xs ++ x ∷ ys)) → WellFormedStmt (bare_stmt x)
among_well_formed [] x ys w = w.0
among_well_formed (z ∷ xs) x ys w = among_well_formed xs x ys w.1

pub next_well_formed : (xs : List Stmt) (x : Stmt) (ys all : List Stmt) → all ≡ xs ++ x ∷ ys → WellFormedStmts (bare_stmts all) → WellFormedStmt (bare_stmt x)
next_well_formed xs x ys all e w = among_well_formed xs x ys (subst (λ zs. WellFormedStmts (bare_stmts zs)) e w)

pub next_no_larger : (size : Stmt → ℕ) (xs : List Stmt) (x : Stmt) (ys all : List Stmt) → all ≡ xs ++ x ∷ ys → size x ≤ most size all
next_no_larger size xs x ys all e =
    let joined : most size all ≡ max (most size xs) (max (size x) (most size ys)) = ap (most size) e ∙ most-append size xs (x ∷ ys) in
    omega arith

pub next_whole : (xs : List Stmt) (x : Stmt) (ys zs all : List Stmt) → all ≡ xs ++ zs → zs ≡ x ∷ ys → all ≡ xs ++ x ∷ [] ++ ys
next_whole xs x ys zs all e h = e ∙ ap (λ us. xs ++ us) h ∙ sym (append_assoc xs (x ∷ []) ys)

-- ---- a list of one

pub one_left : (xs : List Stmt) (x : Stmt) → length xs ≡ 1 → x ≡ slice_index_or xs 0 x → xs ≡ x ∷ []
one_left [] x h e = absurd (omega (arith, h))
one_left (y ∷ []) x h e = ap (λ z. z ∷ []) (sym e)
one_left (y ∷ z ∷ xs) x h e = absurd (omega (arith, h))

pub ruleset lone = (one_left)
