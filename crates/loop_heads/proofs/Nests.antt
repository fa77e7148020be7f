-- The scope in a loop's body, leaving it, and the loops that are wanted below a directive.
use Rattle.std.proofs.Common.{◌≡◌, ◌∙◌, refl, sym, ap, ◌<◌, ◌≤◌, ◌+◌, ◌-◌, ◌≢◌, ℕ, zero, suc, List, [], ◌∷◌, length, drop, slice_index_or, Option, Some, None, arith}
use Rattle.std.specs.Option.{option_map}
use Rattle.c_tree.specs.Bare as b
use Rattle.c_tree.specs.BareOf as bare
use Rattle.c_tree.specs.BareOf.{bare_stmt, bare_head}
use Rattle.c_tree.specs.Placed as p
use Rattle.c_tree.specs.PlacedOf.{placed_stmt, placed_stmts, placed_head}
use Rattle.c_tree.specs.Forget.{forget_head}
use Rattle.c_tree.specs.declared.tree.ForHead.{ForHead, out-ForHead}
use Rattle.c_tree.proofs.Heads.{bare_head_out}
use Rattle.c_tree.proofs.Forgotten.Stmts.{bare_head_is}
use Rattle.c_tree.specs.Bare.{Name}
use Rattle.c_tree.specs.declared.tree.Span.{Span}
use Rattle.c_tree.specs.declared.tree.Stmt.{Stmt}
use Rattle.c_tree.specs.declared.tree.Stmt.TheVariants.{For}
use Rattle.canonical_nests.specs.declared.rules.LoopBreach.{LoopBreach}
use Rattle.loop_heads.proofs.Nodes.{placed_for}
use Rattle.c_tree.proofs.Walks.{rest_more, rest_none}
use Rattle.c_semantics.specs.Meaning.State.{scalar, State, keep, with_frame}
use Rattle.c_semantics.specs.Meaning.Expressions.{Define}
use Rattle.c_semantics.specs.Meaning.FileVariables.{FunctionAccess}
use Rattle.c_semantics.specs.Loops.CanonicalForm.{Canonical, canonical}
use Rattle.c_semantics.specs.Loops.TripCount.{loop_type}
use Rattle.c_semantics.specs.Structure.Skeleton.{scope_in}
use Rattle.canonical_nests.specs.LoopRules.Accesses.{breaks_in}
use Rattle.canonical_nests.specs.LoopRules.BreachSets.{least, lesser}
use Rattle.canonical_nests.specs.LoopRules.Heads.{Changes, init_of, scope_below, round_with, form_breaches, break_breaches, loop_breaches, stmt_breaches, stmts_breaches}
use Rattle.canonical_nests.proofs.Order.{lesser_joins, lesser_none}
use Rattle.canonical_nests.proofs.HeldTrees.{good_more}
use Rattle.loop_counts.specs.Visible.{Visible}
use Rattle.loop_heads.specs.Constructs.{here_breaches, for_breaches, wanted_breaches}

part_of : b.Head → b.MaybeStmt
part_of (b.head i e next) = i

same_part : (h : p.Head) → init_of h ≡ part_of (forget_head h)
unfolding part_of
same_part (p.head i i_at e e_at next next_at) = refl

pub first_part : (h : ForHead) → bare.maybe_stmt (option_map bare_stmt (out-ForHead h).init) ≡ init_of (placed_head h)
unfolding part_of
first_part h = ap part_of (sym (bare_head_out h)) ∙ (ap part_of (bare_head_is h) ∙ sym (same_part (placed_head h)))

pub ruleset entering = (first_part)

-- ---- leaving a loop

module _ {A : Type 0} (r : List A) where
  keep_all : keep (length r) r ≡ r
  keep_all = let e : length r - length r ≡ 0 = omega arith in ap (λ n. drop n r) e

  keep_rest : (x : A) → keep (length r) (x ∷ r) ≡ r
  keep_rest x = let e : length (x ∷ r) - length r ≡ 1 = omega arith in ap (λ n. drop n (x ∷ r)) e

left_part : (s : State) (i : b.MaybeStmt) → with_frame (keep (length s.frame) (scope_in i s).frame) (scope_in i s) ≡ s
left_part s b.no_stmt = ap (λ f. with_frame f s) (keep_all s.frame)
left_part s (b.a_stmt (b.decl t x e)) = ap (λ f. with_frame f s) (keep_rest s.frame (record { name = x; cell = scalar t None }))
left_part s (b.a_stmt (b.set t o e)) = ap (λ f. with_frame f s) (keep_all s.frame)
left_part s (b.a_stmt (b.step t up)) = ap (λ f. with_frame f s) (keep_all s.frame)
left_part s (b.a_stmt (b.print e)) = ap (λ f. with_frame f s) (keep_all s.frame)
left_part s (b.a_stmt (b.input t)) = ap (λ f. with_frame f s) (keep_all s.frame)
left_part s (b.a_stmt (b.if_ e a)) = ap (λ f. with_frame f s) (keep_all s.frame)
left_part s (b.a_stmt (b.if_else e a c)) = ap (λ f. with_frame f s) (keep_all s.frame)
left_part s (b.a_stmt (b.while_ e a)) = ap (λ f. with_frame f s) (keep_all s.frame)
left_part s (b.a_stmt (b.do_ a e)) = ap (λ f. with_frame f s) (keep_all s.frame)
left_part s (b.a_stmt (b.for_ h a)) = ap (λ f. with_frame f s) (keep_all s.frame)
left_part s (b.a_stmt (b.block a)) = ap (λ f. with_frame f s) (keep_all s.frame)
left_part s (b.a_stmt b.break_) = ap (λ f. with_frame f s) (keep_all s.frame)
left_part s (b.a_stmt b.continue_) = ap (λ f. with_frame f s) (keep_all s.frame)
left_part s (b.a_stmt b.empty) = ap (λ f. with_frame f s) (keep_all s.frame)
left_part s (b.a_stmt (b.omp d a)) = ap (λ f. with_frame f s) (keep_all s.frame)
left_part s (b.a_stmt (b.call f es)) = ap (λ f. with_frame f s) (keep_all s.frame)

left_state : (ds : List Define) (s : State) (i : b.MaybeStmt) (c : Option Canonical) → with_frame (keep (length s.frame) (scope_below ds s i c).frame) (scope_below ds s i c) ≡ s
left_state ds s i None = left_part s i
left_state ds s i (Some c) = ap (λ f. with_frame f s) (keep_rest s.frame (record { name = c.var; cell = scalar (loop_type ds s c) None }))

-- what is visible after a loop is what was before it
pub left_scope : (old mid new : Visible) (i : b.MaybeStmt) (c : Option Canonical) (n : ℕ) → n ≡ length old.state.frame → mid ≡ record old { state = scope_below old.defines old.state i c }
    → new ≡ record mid { state = with_frame (keep n mid.state.frame) mid.state } → new ≡ old
left_scope old mid new i c n len is kept =
    kept
    ∙ ((λ j. record (is j) { state = with_frame (keep (len j) (is j).state.frame) (is j).state })
    ∙ (λ j. record old { state = left_state old.defines old.state i c j }))

pub left_round : (old mid new : List Name) (c : Option Canonical) (n : ℕ) → n ≡ length old → mid ≡ round_with c old → new ≡ keep n mid → new ≡ old
left_round old mid new None n len is kept = kept ∙ ((λ j. keep (len j) (is j)) ∙ keep_all old)
left_round old mid new (Some c) n len is kept = kept ∙ ((λ j. keep (len j) (is j)) ∙ keep_rest old c.var)

-- ---- the loops that are wanted

module _ (ds : List Define) (fs : List FunctionAccess) (k : Changes) (s : State) (round : List Name) where
  some_wanted : (m : ℕ) (a : p.Stmt) → least (stmt_breaches ds fs k s round (suc m) a) ≡ least (wanted_breaches ds fs k s round (suc m) a)
  some_wanted m (p.for_ h a at) =
      let c = canonical ds (forget_head h) in
      let e : m ≡ suc m - 1 = omega arith in
      let form = least (form_breaches ds h) in
      let breaks = least (break_breaches (breaks_in a)) in
      let own = least (loop_breaches fs s k round h a c) in
      let below = least (stmts_breaches ds fs k (scope_below ds s (init_of h) c) (round_with c round) m a) in
      ap (lesser form) (sym (lesser_joins breaks own below)) ∙ (sym (lesser_joins form (lesser breaks own) below)
      ∙ ap (λ n. lesser (lesser form (lesser breaks own)) (least (stmts_breaches ds fs k (scope_below ds s (init_of h) c) (round_with c round) n a))) e)
  some_wanted m (p.block a at) = refl
  some_wanted m (p.omp d a at) = refl
  some_wanted m (p.decl t x x_at e at) = refl
  some_wanted m (p.set t o e at) = refl
  some_wanted m (p.step t up at) = refl
  some_wanted m (p.print e at) = refl
  some_wanted m (p.input t t_at at) = refl
  some_wanted m (p.if_ e a at) = refl
  some_wanted m (p.if_else e a c at) = refl
  some_wanted m (p.while_ e a at) = refl
  some_wanted m (p.do_ a e at) = refl
  some_wanted m (p.break_ at) = refl
  some_wanted m (p.continue_ at) = refl
  some_wanted m (p.empty at) = refl
  some_wanted m (p.call x x_at es at) = refl

  are_wanted : (m : ℕ) (a : p.Stmt) → m ≢ 0 → least (stmt_breaches ds fs k s round m a) ≡ least (wanted_breaches ds fs k s round m a)
  are_wanted zero a some = absurd (some refl)
  are_wanted (suc m) a some = some_wanted m a

  none_taken : (xs : List Stmt) → least (stmts_breaches ds fs k s round 0 (placed_stmts xs)) ≡ None
  none_taken [] = refl
  none_taken (x ∷ xs) = none_taken xs

  pub none_wanted : (m : ℕ) (xs : List Stmt) → m ≡ 0 → least (stmts_breaches ds fs k s round m (placed_stmts xs)) ≡ None
  none_wanted m xs is = ap (λ n. least (stmts_breaches ds fs k s round n (placed_stmts xs))) is ∙ none_taken xs

  pub wanted_more : (m : ℕ) (xs : List Stmt) (i : ℕ) (x : Stmt) → m ≢ 0 → i < length xs → x ≡ slice_index_or xs i x
      → least (stmts_breaches ds fs k s round m (placed_stmts (drop i xs)))
      ≡ lesser (least (wanted_breaches ds fs k s round m (placed_stmt x))) (least (stmts_breaches ds fs k s round m (placed_stmts (drop (i + 1) xs))))
  wanted_more m xs i x some within is =
      rest_more (λ ys. least (stmts_breaches ds fs k s round m (placed_stmts ys))) xs i x within is
      ∙ ap (λ o. lesser o (least (stmts_breaches ds fs k s round m (placed_stmts (drop (i + 1) xs))))) (are_wanted m (placed_stmt x) some)

  pub wanted_end : (m : ℕ) (xs : List Stmt) (i : ℕ) → length xs ≤ i → least (stmts_breaches ds fs k s round m (placed_stmts (drop i xs))) ≡ None
  wanted_end m xs i = rest_none (λ ys. least (stmts_breaches ds fs k s round m (placed_stmts ys))) xs i

-- ---- a loop and those in its body

pub for_found : (old mid : Visible) (fs : List FunctionAccess) (k : Changes) (round inside : List Name) (m : ℕ) (h : ForHead) (xs : List Stmt) (here below found : Option LoopBreach)
    → mid ≡ record old { state = scope_below old.defines old.state (init_of (placed_head h)) (canonical old.defines (bare_head h)) }
    → inside ≡ round_with (canonical old.defines (bare_head h)) round
    → here ≡ least (here_breaches old.defines fs k old.state round (placed_head h) (placed_stmts xs) (canonical old.defines (bare_head h)))
    → below ≡ least (stmts_breaches mid.defines fs k mid.state inside m (placed_stmts xs))
    → found ≡ lesser here below
    → found ≡ least (for_breaches old.defines fs k old.state round m (placed_head h) (placed_stmts xs) (canonical old.defines (bare_head h)))
for_found old mid fs k round inside m h xs here below found scope_is round_is here_is below_is found_is =
    found_is ∙ (λ j. lesser (here_is j) ((below_is ∙ (λ i. least (stmts_breaches (scope_is i).defines fs k (scope_is i).state (round_is i) m (placed_stmts xs)))) j))

pub for_taken : (ds : List Define) (fs : List FunctionAccess) (k : Changes) (s : State) (round : List Name) (m : ℕ) (stmt : Stmt) (h : ForHead) (body xs : List Stmt) (at : Span) (found : Option LoopBreach)
    → stmt ≡ For h body at → xs ≡ body → found ≡ least (for_breaches ds fs k s round (m - 1) (placed_head h) (placed_stmts xs) (canonical ds (bare_head h)))
    → found ≡ least (wanted_breaches ds fs k s round m (placed_stmt stmt))
for_taken ds fs k s round m stmt h body xs at found is all found_is =
    found_is
    ∙ ((λ j. least (for_breaches ds fs k s round (m - 1) (placed_head h) (placed_stmts (all j)) (canonical ds (bare_head_is h j))))
    ∙ ap (λ t. least (wanted_breaches ds fs k s round m t)) (sym (placed_for stmt h body at is)))

pub ruleset nests = (left_scope, left_round)

pub ruleset walks = (none_wanted, wanted_more, wanted_end, good_more, lesser_joins, lesser_none)
