-- The walk over what statements assign finds the breaches of the list of what they assign.
use Rattle.std.proofs.Common.{◌≡◌, ◌∙◌, refl, sym, ap, ◌<◌, ◌≤◌, ◌+◌, ℕ, Bool, true, false, List, [], ◌∷◌, ◌++◌, length, drop, slice_index_or, Option, Some, None}
use Rattle.std.specs.Prelude.{not, ◌&&◌, is_some, bytes_eq, if◌then◌else◌}
use Rattle.std.specs.Cmp.Lexicographic.{bytes_decides}
use Rattle.c_tree.specs.Bare.{Name}
use Rattle.c_tree.specs.Placed.{Target, target, Stmt, decl, set, step, print, input, if_, if_else, while_, do_, for_, block, break_, continue_, empty, omp, call, Stmts, no_stmts, more_stmts, MaybeStmt, no_stmt, a_stmt, head}
use Rattle.c_tree.specs.PlacedOf.{placed_stmt, placed_stmts}
use Rattle.c_tree.specs.declared.tree.Stmt.{Stmt as Node}
use Rattle.c_tree.proofs.Walks.{rest_more, rest_none}
use Rattle.c_semantics.specs.Meaning.FileVariables.{has_name}
use Rattle.canonical_nests.specs.declared.rules.LoopRule.TheVariants.{L5}
use Rattle.canonical_nests.specs.declared.rules.LoopBreach.{LoopBreach}
use Rattle.canonical_nests.specs.LoopRules.Accesses.{PlacedName, unless_hidden, hidden_after, hidden_in, assigned, assigned_in, assigned_in_part, are_named}
use Rattle.canonical_nests.specs.LoopRules.BreachSets.{breach_if, least, lesser, is_before}
use Rattle.canonical_nests.specs.LoopRules.Heads.{assign_breaches}
use Rattle.canonical_nests.proofs.Order.{lesser_joins, lesser_none}
use Rattle.loop_heads.specs.Assigning.{target_assigns, hides, part_hides, assigns, all_assigns, part_assigns}

one_name : (x y : Name) → bytes_eq x y ≡ true → x ≡ y
one_name x y h = (bytes_decides x y).0 h

module _ (x : Name) where
  abbrev found : List PlacedName → Option LoopBreach
  found ns = least (assign_breaches x ns)

  joined : (xs ys : List PlacedName) → found (xs ++ ys) ≡ lesser (found xs) (found ys)
  joined [] ys = refl
  joined (n ∷ xs) ys =
      let here = least (breach_if (bytes_eq x n.name) L5 n.at) in
      ap (lesser here) (joined xs ys) ∙ sym (lesser_joins here (found xs) (found ys))

  -- a target that isn't the variable, and one that is
  at_target : (h : List Name) (hidden : Bool) → has_name h x ≡ hidden → (y : Name) (at : ℕ) (b : Bool) → bytes_eq x y ≡ b
      → found (if has_name h y then [] else record { name = y; at = at } ∷ []) ≡ least (breach_if (not hidden && b) L5 at)
  at_target h hidden is y at true e =
      ap (λ z. found (if has_name h z then [] else record { name = y; at = at } ∷ [])) (sym (one_name x y e))
      ∙ (ap (λ b. found (if b then [] else record { name = y; at = at } ∷ [])) is ∙ either hidden)
    where
      either : (t : Bool) → found (if t then [] else record { name = y; at = at } ∷ []) ≡ least (breach_if (not t && true) L5 at)
      either true = refl
      either false = ap (λ b. lesser (least (breach_if b L5 at)) None) e
  at_target h hidden is y at false e = other (has_name h y) ∙ sym (never hidden)
    where
      other : (t : Bool) → found (if t then [] else record { name = y; at = at } ∷ []) ≡ None
      other true = refl
      other false = ap (λ b. lesser (least (breach_if b L5 at)) None) e

      never : (t : Bool) → least (breach_if (not t && false) L5 at) ≡ None
      never true = refl
      never false = refl

  at_each_target : (h : List Name) (hidden : Bool) → has_name h x ≡ hidden → (t : Target) → found (unless_hidden h t) ≡ least (target_assigns x hidden t)
  at_each_target h hidden is (target y es s) = at_target h hidden is y s.start (bytes_eq x y) refl

  after : (h : List Name) (hidden : Bool) → has_name h x ≡ hidden → (a : Stmt) → has_name (hidden_after a h) x ≡ hides x hidden a
  after h hidden is (decl t y at e s) = ap (λ b. if bytes_eq x y then true else b) is
  after h hidden is (set t o e s) = is
  after h hidden is (step t up s) = is
  after h hidden is (print e s) = is
  after h hidden is (input t at s) = is
  after h hidden is (if_ e a s) = is
  after h hidden is (if_else e a b s) = is
  after h hidden is (while_ e a s) = is
  after h hidden is (do_ a e s) = is
  after h hidden is (for_ d a s) = is
  after h hidden is (block a s) = is
  after h hidden is (break_ s) = is
  after h hidden is (continue_ s) = is
  after h hidden is (empty s) = is
  after h hidden is (omp d a s) = is
  after h hidden is (call f at es s) = is

  after_part : (h : List Name) (hidden : Bool) → has_name h x ≡ hidden → (a : MaybeStmt) → has_name (hidden_in a h) x ≡ part_hides x hidden a
  after_part h hidden is no_stmt = is
  after_part h hidden is (a_stmt a) = after h hidden is a

  mutual
    in_stmt : (a : Stmt) (h : List Name) (hidden : Bool) → has_name h x ≡ hidden → found (assigned h a) ≡ least (assigns x hidden a)
    in_stmt (decl t y at e s) h hidden is = refl
    in_stmt (set t o e s) h hidden is = at_each_target h hidden is t
    in_stmt (step t up s) h hidden is = at_each_target h hidden is t
    in_stmt (print e s) h hidden is = refl
    in_stmt (input t at s) h hidden is = at_each_target h hidden is t
    in_stmt (if_ e a s) h hidden is = in_stmts a h hidden is
    in_stmt (if_else e a b s) h hidden is =
        joined (assigned_in h a) (assigned_in h b) ∙ (λ i. lesser (in_stmts a h hidden is i) (in_stmts b h hidden is i))
    in_stmt (while_ e a s) h hidden is = in_stmts a h hidden is
    in_stmt (do_ a e s) h hidden is = in_stmts a h hidden is
    in_stmt (for_ (head i i_at e e_at next next_at) a s) h hidden is =
        let u = hidden_in i h in
        let inside = after_part h hidden is i in
        joined (assigned_in_part h i) (assigned_in_part u next ++ assigned_in u a)
        ∙ (ap (lesser (found (assigned_in_part h i))) (joined (assigned_in_part u next) (assigned_in u a))
        ∙ (sym (lesser_joins (found (assigned_in_part h i)) (found (assigned_in_part u next)) (found (assigned_in u a)))
        ∙ (λ j. lesser (lesser (in_part i h hidden is j) (in_part next u (part_hides x hidden i) inside j)) (in_stmts a u (part_hides x hidden i) inside j))))
    in_stmt (block a s) h hidden is = in_stmts a h hidden is
    in_stmt (break_ s) h hidden is = refl
    in_stmt (continue_ s) h hidden is = refl
    in_stmt (empty s) h hidden is = refl
    in_stmt (omp d a s) h hidden is = in_stmts a h hidden is
    in_stmt (call f at es s) h hidden is = refl

    in_stmts : (as' : Stmts) (h : List Name) (hidden : Bool) → has_name h x ≡ hidden → found (assigned_in h as') ≡ least (all_assigns x hidden as')
    in_stmts no_stmts h hidden is = refl
    in_stmts (more_stmts a as') h hidden is =
        joined (assigned h a) (assigned_in (hidden_after a h) as')
        ∙ (λ i. lesser (in_stmt a h hidden is i) (in_stmts as' (hidden_after a h) (hides x hidden a) (after h hidden is a) i))

    in_part : (a : MaybeStmt) (h : List Name) (hidden : Bool) → has_name h x ≡ hidden → found (assigned_in_part h a) ≡ least (part_assigns x hidden a)
    in_part no_stmt h hidden is = refl
    in_part (a_stmt a) h hidden is = in_stmt a h hidden is

  -- where nothing is hidden
  pub walked : (as' : Stmts) → least (assign_breaches x (assigned_in [] as')) ≡ least (all_assigns x false as')
  walked as' = in_stmts as' [] false refl

  -- there is a breach exactly where the variable is named
  pub named : (ns : List PlacedName) → are_named ns x ≡ is_some (least (assign_breaches x ns))
  named [] = refl
  named (n ∷ ns) = by (bytes_eq x n.name) (named ns)
    where
      by : (b : Bool) → are_named ns x ≡ is_some (found ns) → (if b then true else are_named ns x) ≡ is_some (lesser (least (breach_if b L5 n.at)) (found ns))
      by true rest = sym (some_first (found ns))
        where
          some_first : (o : Option LoopBreach) → is_some (lesser (Some (record { place = n.at; rule = L5 })) o) ≡ true
          some_first None = refl
          some_first (Some c) = which (is_before (record { place = n.at; rule = L5 }) c) c
            where
              which : (t : Bool) (c : LoopBreach) → is_some (if t then Some (record { place = n.at; rule = L5 }) else Some c) ≡ true
              which true c = refl
              which false c = refl
      by false rest = rest

-- ---- a walk over statements

pub assigns_more : (x : Name) (hidden : Bool) (xs : List Node) (i : ℕ) (a : Node) → i < length xs → a ≡ slice_index_or xs i a
    → least (all_assigns x hidden (placed_stmts (drop i xs))) ≡ lesser (least (assigns x hidden (placed_stmt a))) (least (all_assigns x (hides x hidden (placed_stmt a)) (placed_stmts (drop (i + 1) xs))))
assigns_more x hidden xs i a = rest_more (λ ys. least (all_assigns x hidden (placed_stmts ys))) xs i a

pub assigns_end : (x : Name) (hidden : Bool) (xs : List Node) (i : ℕ) → length xs ≤ i → least (all_assigns x hidden (placed_stmts (drop i xs))) ≡ None
assigns_end x hidden xs i = rest_none (λ ys. least (all_assigns x hidden (placed_stmts ys))) xs i

pub ruleset assignments = (assigns_more, assigns_end, lesser_joins, lesser_none)

pub ruleset answers = (walked, named)
