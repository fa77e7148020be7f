-- The first affected loop that isn't canonical, in what a walk has left.
use Rattle.std.proofs.Common.{◌≡◌, ◌∙◌, refl, sym, ap, ◌<◌, ◌≤◌, ◌+◌, ◌≢◌, ℕ, zero, suc, List, [], ◌∷◌, length, drop, slice_index_or, Option, Some, None}
use Rattle.std.specs.Option.{option_or}
use Rattle.c_tree.specs.BareOf.{bare_head}
use Rattle.c_tree.specs.Placed as p
use Rattle.c_tree.specs.PlacedOf.{placed_head, placed_stmt, placed_stmts}
use Rattle.c_tree.specs.Forget.{forget_head}
use Rattle.c_tree.specs.declared.tree.ForHead.{ForHead}
use Rattle.c_tree.specs.declared.tree.Stmt.{Stmt}
use Rattle.c_tree.proofs.Forgotten.Stmts.{bare_head_is}
use Rattle.c_tree.proofs.Walks.{rest_more, rest_none}
use Rattle.c_semantics.specs.Meaning.Expressions.{Define}
use Rattle.c_semantics.specs.Loops.CanonicalForm.{Canonical, canonical}
use Rattle.canonical_nests.specs.Canonical.{seen_loop}
use Rattle.canonical_nests.specs.declared.canonical.CanonLoop.{CanonLoop}
use Rattle.canonical_nests.proofs.HeldTrees.{good_more}
use Rattle.loop_shapes.specs.Affected.{unless_canonical, first_in, first_among, first_unlike}

-- ---- heads

module _ (ds : List Define) (h : ForHead) (at : ℕ) where
  head_is : (o : Option Canonical) → o ≡ canonical ds (bare_head h) → unless_canonical (canonical ds (forget_head (placed_head h))) at ≡ unless_canonical o at
  head_is o is = sym (ap (λ x. unless_canonical (canonical ds x) at) (bare_head_is h)) ∙ sym (ap (λ x. unless_canonical x at) is)

  pub unlike_head : None ≡ canonical ds (bare_head h) → unless_canonical (canonical ds (forget_head (placed_head h))) at ≡ Some at
  unlike_head is = head_is None is

  pub like_head : (l : CanonLoop) → Some (seen_loop l) ≡ canonical ds (bare_head h) → unless_canonical (canonical ds (forget_head (placed_head h))) at ≡ None
  like_head l is = head_is (Some (seen_loop l)) is

pub ruleset heads = (unlike_head, like_head)

-- ---- lists

module _ (ds : List Define) where
  none_in : (xs : List Stmt) → first_among ds 0 (placed_stmts xs) ≡ None
  none_in [] = refl
  none_in (x ∷ xs) = refl

  pub none_wanted : (m : ℕ) (xs : List Stmt) → m ≡ 0 → first_among ds m (placed_stmts xs) ≡ None
  none_wanted m xs is = ap (λ n. first_among ds n (placed_stmts xs)) is ∙ none_in xs

  one_more : (m : ℕ) (a : p.Stmt) (as' : p.Stmts) → m ≢ 0 → first_among ds m (p.more_stmts a as') ≡ option_or (first_in ds m a) (first_among ds m as')
  one_more zero a as' some = absurd (some refl)
  one_more (suc m) a as' some = refl

  pub list_more : (m : ℕ) (xs : List Stmt) (i : ℕ) (x : Stmt) → m ≢ 0 → i < length xs → x ≡ slice_index_or xs i x
      → first_among ds m (placed_stmts (drop i xs)) ≡ option_or (first_in ds m (placed_stmt x)) (first_among ds m (placed_stmts (drop (i + 1) xs)))
  list_more m xs i x some within is =
      rest_more (λ ys. first_among ds m (placed_stmts ys)) xs i x within is ∙ one_more m (placed_stmt x) (placed_stmts (drop (i + 1) xs)) some

  none_left : (m : ℕ) → first_among ds m p.no_stmts ≡ None
  none_left zero = refl
  none_left (suc m) = refl

  pub list_end : (m : ℕ) (xs : List Stmt) (i : ℕ) → length xs ≤ i → first_among ds m (placed_stmts (drop i xs)) ≡ None
  list_end m xs i past = rest_none (λ ys. first_among ds m (placed_stmts ys)) xs i past ∙ none_left m

  pub unlike_some : (m : ℕ) (a : p.Stmt) → m ≢ 0 → first_unlike ds m a ≡ first_in ds m a
  unlike_some zero a some = absurd (some refl)
  unlike_some (suc m) a some = refl

  pub unlike_none : (m : ℕ) (a : p.Stmt) → m ≡ 0 → first_unlike ds m a ≡ None
  unlike_none m a is = ap (λ n. first_unlike ds n a) is

pub ruleset lists = (none_wanted, list_more, list_end, good_more)

pub ruleset wanted = (unlike_some, unlike_none)
