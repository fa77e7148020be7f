-- Carrying out one item more.
use Rattle.std.proofs.Common.{◌≡◌, refl, ap, subst, List, [], ◌∷◌, ◌++◌, map}
use Rattle.c_tree.specs.Bare.{Top, define, extern_, global, function, main, Program}
use Rattle.c_tree.specs.BareOf.{bare_top}
use Rattle.c_tree.specs.WellFormed.{WellFormedTop, WellFormedTops}
use Rattle.c_tree.specs.declared.tree.Item.{Item}
use Rattle.c_semantics.specs.Meaning.State.{State}
use Rattle.c_semantics.specs.Meaning.Expressions.{Define}
use Rattle.c_scopes.specs.Laws.{scope_with}
use Rattle.c_semantics.specs.Meaning.FileVariables.{defines_with}
use Rattle.loop_normal.specs.DrawnNames.{FreshNames}
use Rattle.carried_out.specs.CarriedOut.{carried_top, carried_items}

-- the defines after some items
abbrev pub defines_after : List Define → Program → List Define
defines_after ds [] = ds
defines_after ds (i ∷ is) = defines_after (defines_with ds i) is

pub defines_more : (ds : List Define) (xs : List Item) (x : Item) → defines_after ds (map bare_top (xs ++ x ∷ [])) ≡ defines_with (defines_after ds (map bare_top xs)) (bare_top x)
defines_more ds [] x = refl
defines_more ds (y ∷ xs) x = defines_more (defines_with ds (bare_top y)) xs x

-- what is visible after some items
abbrev pub scopes_after : State → Program → State
scopes_after s [] = s
scopes_after s (i ∷ is) = scopes_after (scope_with s i) is

pub scopes_more : (s : State) (xs : List Item) (x : Item) → scopes_after s (map bare_top (xs ++ x ∷ [])) ≡ scope_with (scopes_after s (map bare_top xs)) (bare_top x)
scopes_more s [] x = refl
scopes_more s (y ∷ xs) x = scopes_more (scope_with s (bare_top y)) xs x

pub tops_more : (ds : List Define) (s : State) (xs : List Item) (x : Item) (f : FreshNames) →
    (carried_items ds s (map bare_top (xs ++ x ∷ [])) f).tree
    ≡ (carried_items ds s (map bare_top xs) f).tree ++ (carried_top (defines_after ds (map bare_top xs)) (scopes_after s (map bare_top xs)) (bare_top x) (carried_items ds s (map bare_top xs) f).left).tree ∷ []
tops_more ds s [] x f = refl
tops_more ds s (y ∷ xs) x f = ap (λ js. (carried_top ds s (bare_top y) f).tree ∷ js) (tops_more (defines_with ds (bare_top y)) (scope_with s (bare_top y)) xs x (carried_top ds s (bare_top y) f).left)

pub tops_left_more : (ds : List Define) (s : State) (xs : List Item) (x : Item) (f : FreshNames) →
    (carried_items ds s (map bare_top (xs ++ x ∷ [])) f).left
    ≡ (carried_top (defines_after ds (map bare_top xs)) (scopes_after s (map bare_top xs)) (bare_top x) (carried_items ds s (map bare_top xs) f).left).left
tops_left_more ds s [] x f = refl
tops_left_more ds s (y ∷ xs) x f = tops_left_more (defines_with ds (bare_top y)) (scope_with s (bare_top y)) xs x (carried_top ds s (bare_top y) f).left

-- a define and a variable have no constructs, and no other item adds one
pub top_same : (ds : List Define) (s : State) (i : Top) (f : FreshNames) → carried_top (defines_with ds i) (scope_with s i) i f ≡ carried_top ds s i f
top_same ds s (define x minus k t) f = refl
top_same ds s (extern_ p) f = refl
top_same ds s (global t x dims e) f = refl
top_same ds s (function x ps a) f = refl
top_same ds s (main a) f = refl

pub mapped_more : (xs : List Item) (x : Item) → map bare_top (xs ++ x ∷ []) ≡ map bare_top xs ++ bare_top x ∷ []
mapped_more [] x = refl
mapped_more (y ∷ xs) x = ap (λ l. bare_top y ∷ l) (mapped_more xs x)

abbrev Formed : List Item → Type 0
Formed ys = WellFormedTops (map bare_top ys)

pub first_top_formed : (all : List Item) (x : Item) (xs : List Item) → all ≡ x ∷ xs → WellFormedTops (map bare_top all)
    → WellFormedTop (bare_top x) × WellFormedTops (map bare_top xs)
first_top_formed all x xs is = subst Formed is

pub ruleset carrying_items = (defines_more, scopes_more, tops_more, tops_left_more, top_same, mapped_more, first_top_formed)
