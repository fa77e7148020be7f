-- The walks over what statements call find what the list of their calls has.
use Rattle.std.proofs.Common.{◌≡◌, ◌∙◌, refl, sym, ap, ◌<◌, ◌≤◌, ◌+◌, ℕ, Bool, false, List, [], ◌∷◌, ◌++◌, length, drop, slice_index_or, Option, None}
use Rattle.std.specs.Prelude.{◌||◌}
use Rattle.c_tree.specs.Bare.{Name}
use Rattle.c_tree.specs.Placed.{Stmt, decl, set, step, print, input, if_, if_else, while_, do_, for_, block, break_, continue_, empty, omp, call, Stmts, no_stmts, more_stmts}
use Rattle.c_tree.specs.PlacedOf.{placed_stmt, placed_stmts}
use Rattle.c_tree.specs.declared.tree.Stmt.{Stmt as Node}
use Rattle.c_tree.proofs.Walks.{rest_more, rest_none}
use Rattle.c_semantics.specs.Meaning.FileVariables.{FunctionAccess}
use Rattle.canonical_nests.specs.declared.rules.LoopRule.TheVariants.{L5, L28}
use Rattle.canonical_nests.specs.declared.rules.LoopBreach.{LoopBreach}
use Rattle.canonical_nests.specs.LoopRules.Accesses.{PlacedName, calls, calls_in}
use Rattle.canonical_nests.specs.LoopRules.BreachSets.{least, lesser, breach_if}
use Rattle.canonical_nests.specs.LoopRules.Heads.{may_assign, may_read, call_breaches, some_may_assign}
use Rattle.canonical_nests.proofs.Order.{lesser_joins, lesser_none}
use Rattle.loop_heads.specs.Calling.{calls_touch, all_calls_touch, calls_assign, all_calls_assign}
use Rattle.loop_heads.proofs.NameSets.{or_joins, or_nothing}

module _ (fs : List FunctionAccess) (x : Name) where
  abbrev found : List PlacedName → Option LoopBreach
  found ns = least (call_breaches fs x ns)

  joined : (xs ys : List PlacedName) → found (xs ++ ys) ≡ lesser (found xs) (found ys)
  joined [] ys = refl
  joined (n ∷ xs) ys =
      let first = least (breach_if (may_assign fs n x) L5 n.at) in
      let second = least (breach_if (may_read fs n x) L28 n.at) in
      ap (λ r. lesser first (lesser second r)) (joined xs ys)
      ∙ (ap (lesser first) (sym (lesser_joins second (found xs) (found ys))) ∙ sym (lesser_joins first (lesser second (found xs)) (found ys)))

  mutual
    in_stmt : (a : Stmt) → found (calls a) ≡ least (calls_touch fs x a)
    in_stmt (decl t y at e s) = refl
    in_stmt (set t o e s) = refl
    in_stmt (step t up s) = refl
    in_stmt (print e s) = refl
    in_stmt (input t at s) = refl
    in_stmt (if_ e a s) = in_stmts a
    in_stmt (if_else e a b s) = joined (calls_in a) (calls_in b) ∙ (λ i. lesser (in_stmts a i) (in_stmts b i))
    in_stmt (while_ e a s) = in_stmts a
    in_stmt (do_ a e s) = in_stmts a
    in_stmt (for_ d a s) = in_stmts a
    in_stmt (block a s) = in_stmts a
    in_stmt (break_ s) = refl
    in_stmt (continue_ s) = refl
    in_stmt (empty s) = refl
    in_stmt (omp d a s) = in_stmts a
    in_stmt (call f at es s) =
        let n : PlacedName = record { name = f; at = at.start } in
        ap (lesser (least (breach_if (may_assign fs n x) L5 at.start))) (lesser_none (least (breach_if (may_read fs n x) L28 at.start)))

    in_stmts : (as' : Stmts) → found (calls_in as') ≡ least (all_calls_touch fs x as')
    in_stmts no_stmts = refl
    in_stmts (more_stmts a as') = joined (calls a) (calls_in as') ∙ (λ i. lesser (in_stmt a i) (in_stmts as' i))

  pub touched : (as' : Stmts) → least (call_breaches fs x (calls_in as')) ≡ least (all_calls_touch fs x as')
  touched as' = in_stmts as'

  abbrev some_assigns : List PlacedName → Bool
  some_assigns ns = some_may_assign fs ns x

  either : (xs ys : List PlacedName) → some_assigns (xs ++ ys) ≡ (some_assigns xs || some_assigns ys)
  either [] ys = refl
  either (n ∷ xs) ys = ap (λ b. may_assign fs n x || b) (either xs ys) ∙ sym (or_joins (may_assign fs n x) (some_assigns xs) (some_assigns ys))

  mutual
    assigns_in_stmt : (a : Stmt) → some_assigns (calls a) ≡ calls_assign fs x a
    assigns_in_stmt (decl t y at e s) = refl
    assigns_in_stmt (set t o e s) = refl
    assigns_in_stmt (step t up s) = refl
    assigns_in_stmt (print e s) = refl
    assigns_in_stmt (input t at s) = refl
    assigns_in_stmt (if_ e a s) = assigns_in_stmts a
    assigns_in_stmt (if_else e a b s) = either (calls_in a) (calls_in b) ∙ (λ i. assigns_in_stmts a i || assigns_in_stmts b i)
    assigns_in_stmt (while_ e a s) = assigns_in_stmts a
    assigns_in_stmt (do_ a e s) = assigns_in_stmts a
    assigns_in_stmt (for_ d a s) = assigns_in_stmts a
    assigns_in_stmt (block a s) = assigns_in_stmts a
    assigns_in_stmt (break_ s) = refl
    assigns_in_stmt (continue_ s) = refl
    assigns_in_stmt (empty s) = refl
    assigns_in_stmt (omp d a s) = assigns_in_stmts a
    assigns_in_stmt (call f at es s) = or_nothing (may_assign fs (record { name = f; at = at.start }) x)

    assigns_in_stmts : (as' : Stmts) → some_assigns (calls_in as') ≡ all_calls_assign fs x as'
    assigns_in_stmts no_stmts = refl
    assigns_in_stmts (more_stmts a as') = either (calls a) (calls_in as') ∙ (λ i. assigns_in_stmt a i || assigns_in_stmts as' i)

  pub some_assigned : (as' : Stmts) → some_may_assign fs (calls_in as') x ≡ all_calls_assign fs x as'
  some_assigned as' = assigns_in_stmts as'

-- ---- a walk over statements

module _ (fs : List FunctionAccess) (x : Name) (xs : List Node) (i : ℕ) where
  pub touch_more : (a : Node) → i < length xs → a ≡ slice_index_or xs i a
      → least (all_calls_touch fs x (placed_stmts (drop i xs))) ≡ lesser (least (calls_touch fs x (placed_stmt a))) (least (all_calls_touch fs x (placed_stmts (drop (i + 1) xs))))
  touch_more a = rest_more (λ ys. least (all_calls_touch fs x (placed_stmts ys))) xs i a

  pub touch_end : length xs ≤ i → least (all_calls_touch fs x (placed_stmts (drop i xs))) ≡ None
  touch_end = rest_none (λ ys. least (all_calls_touch fs x (placed_stmts ys))) xs i

  pub assign_more : (a : Node) → i < length xs → a ≡ slice_index_or xs i a
      → all_calls_assign fs x (placed_stmts (drop i xs)) ≡ (calls_assign fs x (placed_stmt a) || all_calls_assign fs x (placed_stmts (drop (i + 1) xs)))
  assign_more a = rest_more (λ ys. all_calls_assign fs x (placed_stmts ys)) xs i a

  pub assign_end : length xs ≤ i → all_calls_assign fs x (placed_stmts (drop i xs)) ≡ false
  assign_end = rest_none (λ ys. all_calls_assign fs x (placed_stmts ys)) xs i

pub ruleset walks = (touch_more, touch_end, assign_more, assign_end, lesser_joins, lesser_none, or_joins, or_nothing)

pub ruleset call_answers = (touched, some_assigned)
