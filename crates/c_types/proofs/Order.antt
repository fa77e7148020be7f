-- The least of several breaches: that of a list is the lesser of what was seen and of what is left.
use Rattle.std.proofs.Common.{◌≡◌, ◌∙◌, sym, ap, refl, ℕ, suc, ◌+◌, ◌<◌, ◌≤◌, Bool, true, false, if◌then◌else◌, List, [], ◌∷◌, length, drop, slice_index_or, Option, Some, None, arith}
use Rattle.std.proofs.lemmas.Bool.Decides.{nat_tests}
use Rattle.std.proofs.lemmas.List.{at_drop_more, drop_all}
use Rattle.c_tree.specs.declared.name_rule.Breach.{Breach}
use Rattle.c_tree.specs.NameRules.BreachSets.{BreachSet, none, one, ◌&◌, HasNone, is_before, lesser, least}
use Rattle.c_tree.specs.NameRules.Scopes.{Scope}
use Rattle.c_tree.specs.NameRules.Breaches.{expr_breaches, exprs_breaches}
use Rattle.c_tree.specs.Placed as p
use Rattle.c_tree.specs.PlacedOf.{placed_expr, placed_exprs}
use Rattle.c_tree.specs.declared.tree.Expr.{Expr}

-- ---- the order

before_both : (a b c : Breach) → is_before a b ≡ true → is_before b c ≡ true → is_before a c ≡ true
before_both a b c h k = grind (arith, nat_tests)

after_both : (a b c : Breach) → is_before a b ≡ false → is_before b c ≡ false → is_before a c ≡ false
after_both a b c h k = grind (arith, nat_tests)

abbrev choose : Bool → Breach → Breach → Option Breach
choose b x y = if b then Some x else Some y

joined : (a b c : Breach) (ab bc ac : Bool) → is_before a b ≡ ab → is_before b c ≡ bc → is_before a c ≡ ac → lesser (choose ab a b) (Some c) ≡ lesser (Some a) (choose bc b c)
joined a b c true true true h k m = ap (λ t. choose t a c) m ∙ sym (ap (λ t. choose t a b) h)
joined a b c true true false h k m = absurd (cc (before_both a b c h k))
joined a b c true false ac h k m = refl
joined a b c false true ac h k m = ap (λ t. choose t b c) k ∙ sym (ap (λ t. choose t a b) h)
joined a b c false false true h k m = absurd (cc (after_both a b c h k))
joined a b c false false false h k m = ap (λ t. choose t b c) k ∙ sym (ap (λ t. choose t a c) m)

pub lesser_joins : (a b c : Option Breach) → lesser (lesser a b) c ≡ lesser a (lesser b c)
lesser_joins None b c = refl
lesser_joins (Some a) None c = refl
lesser_joins (Some a) (Some b) None = both_there (is_before a b)
  where
    both_there : (t : Bool) → lesser (choose t a b) None ≡ choose t a b
    both_there true = refl
    both_there false = refl
lesser_joins (Some a) (Some b) (Some c) = joined a b c (is_before a b) (is_before b c) (is_before a c) refl refl refl

pub lesser_none : (a : Option Breach) → lesser a None ≡ a
lesser_none None = refl
lesser_none (Some a) = refl

neither : (a b : Option Breach) → lesser a b ≡ None → (a ≡ None) × (b ≡ None)
neither None b h = (refl, h)
neither (Some a) None h = absurd (cc)
neither (Some a) (Some b) h = absurd (some_is (is_before a b) h)
  where
    some_is : (t : Bool) → choose t a b ≡ None → ⊥
    some_is true k = cc
    some_is false k = cc

pub has_none : (xs : BreachSet) → least xs ≡ None → HasNone xs
has_none none h = tt
has_none (one b) h = absurd (cc)
has_none (xs & ys) h = let both = neither (least xs) (least ys) h in (has_none xs both.0, has_none ys both.1)

-- ---- what a loop over expressions has left

pub exprs_more : (s : Scope) (xs : List Expr) (i : ℕ) (x : Expr) → i < length xs → x ≡ slice_index_or xs i x → least (exprs_breaches s (placed_exprs (drop i xs))) ≡ lesser (least (expr_breaches s (placed_expr x))) (least (exprs_breaches s (placed_exprs (drop (i + 1) xs))))
exprs_more s xs i x h at =
    at_drop_more (λ ys. least (exprs_breaches s (placed_exprs ys))) xs i x h
    ∙ ap (λ y. lesser (least (expr_breaches s (placed_expr y))) (least (exprs_breaches s (placed_exprs (drop (i + 1) xs))))) (sym at)

pub exprs_end : (s : Scope) (xs : List Expr) (i : ℕ) → length xs ≤ i → least (exprs_breaches s (placed_exprs (drop i xs))) ≡ None
exprs_end s xs i h = ap (λ ys. least (exprs_breaches s (placed_exprs ys))) (drop_all i xs h)

pub length_of_placed : (xs : List Expr) → length (p.expr_list (placed_exprs xs)) ≡ length xs
length_of_placed [] = refl
length_of_placed (x ∷ xs) = ap suc (length_of_placed xs)

pub ruleset leasts = (lesser_joins, lesser_none, exprs_more, exprs_end, length_of_placed)
