-- What statements touch, one after another, and what the loops that are wanted touch.
use Rattle.std.proofs.Common.{◌≡◌, ◌∙◌, sym, ap, subst, refl, ◌<◌, ◌≤◌, ◌+◌, ◌-◌, ◌≢◌, ℕ, zero, suc, List, [], ◌∷◌, length, drop, slice_index_or, arith}
use Rattle.c_tree.specs.Bare as b
use Rattle.c_tree.specs.Bare.{Name}
use Rattle.c_tree.specs.BareOf.{bare_stmt, bare_stmts}
use Rattle.c_tree.specs.declared.tree.Stmt.{Stmt}
use Rattle.c_tree.proofs.Walks.{rest_more, rest_none}
use Rattle.c_semantics.specs.Meaning.Expressions.{Define}
use Rattle.c_semantics.specs.Meaning.FileVariables.{Access, FunctionAccess, no_access, both, scope_after, accesses, all_accesses, nest_accesses, nests_accesses}
use Rattle.c_semantics.specs.Loops.CanonicalForm.{canonical}
use Rattle.loop_heads.specs.Affected.{for_access, wanted_access}
use Rattle.loop_heads.specs.Touching.{Gains, GainsOn}
use Rattle.loop_heads.proofs.Touches.{gains_none, gains_on_init, gains_on_more, gains_on_end}
use Rattle.loop_heads.proofs.Scopes.{extends_self}

module _ (ds : List Define) (fs : List FunctionAccess) where
  pub stmts_more : (h : List Name) (xs : List Stmt) (i : ℕ) (a all p q : Access) (x : Stmt) → i < length xs → x ≡ slice_index_or xs i x
      → GainsOn a all (all_accesses ds fs h (bare_stmts (drop i xs))) p → Gains p (accesses ds fs h (bare_stmt x)) q
      → GainsOn a all (all_accesses ds fs (scope_after (bare_stmt x) h) (bare_stmts (drop (i + 1) xs))) q
  stmts_more h xs i a all p q x within is =
      gains_on_more a all p q (accesses ds fs h (bare_stmt x)) (all_accesses ds fs (scope_after (bare_stmt x) h) (bare_stmts (drop (i + 1) xs))) (all_accesses ds fs h (bare_stmts (drop i xs)))
      (rest_more (λ ys. all_accesses ds fs h (bare_stmts ys)) xs i x within is)

  pub stmts_end : (h : List Name) (xs : List Stmt) (i : ℕ) (a all p : Access) → length xs ≤ i → GainsOn a all (all_accesses ds fs h (bare_stmts (drop i xs))) p → Gains a all p
  stmts_end h xs i a all p past = gains_on_end a all p (all_accesses ds fs h (bare_stmts (drop i xs))) (rest_none (λ ys. all_accesses ds fs h (bare_stmts ys)) xs i past)

  module _ (h : List Name) (u : List Name) where
    some_wanted : (m : ℕ) (a : b.Stmt) → nest_accesses ds fs h u (suc m) a ≡ wanted_access ds fs h u (suc m) a
    some_wanted m (b.for_ (b.head i e next) a) =
        let n : m ≡ suc m - 1 = omega arith in
        ap (λ k. for_access ds fs h u k a (canonical ds (b.head i e next))) n
    some_wanted m (b.block a) = refl
    some_wanted m (b.omp d a) = refl
    some_wanted m (b.decl t x e) = refl
    some_wanted m (b.set t o e) = refl
    some_wanted m (b.step t up) = refl
    some_wanted m (b.print e) = refl
    some_wanted m (b.input t) = refl
    some_wanted m (b.if_ e a) = refl
    some_wanted m (b.if_else e a c) = refl
    some_wanted m (b.while_ e a) = refl
    some_wanted m (b.do_ a e) = refl
    some_wanted m b.break_ = refl
    some_wanted m b.continue_ = refl
    some_wanted m b.empty = refl
    some_wanted m (b.call f es) = refl

    are_wanted : (m : ℕ) (a : b.Stmt) → m ≢ 0 → nest_accesses ds fs h u m a ≡ wanted_access ds fs h u m a
    are_wanted zero a some = absurd (some refl)
    are_wanted (suc m) a some = some_wanted m a

    none_taken : (xs : List Stmt) → nests_accesses ds fs h u 0 (bare_stmts xs) ≡ no_access
    none_taken [] = refl
    none_taken (x ∷ xs) = ap (both no_access) (none_taken xs)

    pub none_wanted : (m : ℕ) (xs : List Stmt) (a : Access) → m ≡ 0 → Gains a (nests_accesses ds fs h u m (bare_stmts xs)) a
    none_wanted m xs a is = subst (λ z. Gains a z a) (sym (ap (λ n. nests_accesses ds fs h u n (bare_stmts xs)) is ∙ none_taken xs)) (gains_none a)

    pub nests_more : (m : ℕ) (xs : List Stmt) (i : ℕ) (a all p q : Access) (x : Stmt) → m ≢ 0 → i < length xs → x ≡ slice_index_or xs i x
        → GainsOn a all (nests_accesses ds fs h u m (bare_stmts (drop i xs))) p → Gains p (wanted_access ds fs h u m (bare_stmt x)) q
        → GainsOn a all (nests_accesses ds fs h u m (bare_stmts (drop (i + 1) xs))) q
    nests_more m xs i a all p q x some within is =
        gains_on_more a all p q (wanted_access ds fs h u m (bare_stmt x)) (nests_accesses ds fs h u m (bare_stmts (drop (i + 1) xs))) (nests_accesses ds fs h u m (bare_stmts (drop i xs)))
        (rest_more (λ ys. nests_accesses ds fs h u m (bare_stmts ys)) xs i x within is
        ∙ ap (λ z. both z (nests_accesses ds fs h u m (bare_stmts (drop (i + 1) xs)))) (are_wanted m (bare_stmt x) some))

    pub nests_end : (m : ℕ) (xs : List Stmt) (i : ℕ) (a all p : Access) → length xs ≤ i → GainsOn a all (nests_accesses ds fs h u m (bare_stmts (drop i xs))) p → Gains a all p
    nests_end m xs i a all p past = gains_on_end a all p (nests_accesses ds fs h u m (bare_stmts (drop i xs))) (rest_none (λ ys. nests_accesses ds fs h u m (bare_stmts ys)) xs i past)

pub ruleset walks = (gains_on_init, stmts_end, extends_self)

pub ruleset nests = (gains_on_init, nests_end)
