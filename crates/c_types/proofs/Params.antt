-- What a loop over parameters has left, and that parameters stay within their scope.
use Rattle.std.proofs.Common.{◌≡◌, ◌∙◌, sym, ap, refl, ℕ, ◌+◌, ◌<◌, ◌≤◌, List, [], ◌∷◌, length, map, drop, slice_index_or, None}
use Rattle.std.proofs.lemmas.List.{at_drop_more, drop_all}
use Rattle.c_tree.specs.Bare.{Name}
use Rattle.c_tree.specs.Placed as p
use Rattle.c_tree.specs.PlacedOf.{placed_param}
use Rattle.c_tree.specs.NameRules.BreachSets.{lesser, least}
use Rattle.c_tree.specs.NameRules.Scopes.{Scope, declare, a_scalar, with_params}
use Rattle.c_tree.specs.NameRules.DeclaredNames as names
use Rattle.c_tree.specs.NameRules.DeclaredNames.{with_name}
use Rattle.c_tree.specs.NameRules.Breaches.{declare_breaches}
use Rattle.c_tree.specs.NameRules.Programs.{params_breaches}
use Rattle.c_tree.specs.declared.tree.Param.{Param}
use Rattle.c_types.proofs.Order.{lesser_joins, lesser_none}
use Rattle.c_types.proofs.Scopes.{left_scope, declare_outside, declare_print, declare_input, known_with, after_leaving}

pub params_more : (s : Scope) (xs : List Param) (i : ℕ) (x : Param) → i < length xs → x ≡ slice_index_or xs i x → least (params_breaches s (map placed_param (drop i xs))) ≡ lesser (least (declare_breaches s x.name x.name_span.start)) (least (params_breaches (declare x.name a_scalar s) (map placed_param (drop (i + 1) xs))))
params_more s xs i x h at =
    at_drop_more (λ ys. least (params_breaches s (map placed_param ys))) xs i x h
    ∙ ap (λ y. lesser (least (declare_breaches s y.name y.name_span.start)) (least (params_breaches (declare y.name a_scalar s) (map placed_param (drop (i + 1) xs))))) (sym at)

pub params_end : (s : Scope) (xs : List Param) (i : ℕ) → length xs ≤ i → least (params_breaches s (map placed_param (drop i xs))) ≡ None
params_end s xs i h = ap (λ ys. least (params_breaches s (map placed_param ys))) (drop_all i xs h)

pub scope_more : (s : Scope) (xs : List Param) (i : ℕ) (x : Param) → i < length xs → x ≡ slice_index_or xs i x → with_params s (map placed_param (drop i xs)) ≡ with_params (declare x.name a_scalar s) (map placed_param (drop (i + 1) xs))
scope_more s xs i x h at =
    at_drop_more (λ ys. with_params s (map placed_param ys)) xs i x h
    ∙ ap (λ y. with_params (declare y.name a_scalar s) (map placed_param (drop (i + 1) xs))) (sym at)

pub scope_end : (s : Scope) (xs : List Param) (i : ℕ) → length xs ≤ i → with_params s (map placed_param (drop i xs)) ≡ s
scope_end s xs i h = ap (λ ys. with_params s (map placed_param ys)) (drop_all i xs h)

pub names_more : (ns : List Name) (xs : List Param) (i : ℕ) (x : Param) → i < length xs → x ≡ slice_index_or xs i x → names.with_params ns (map placed_param (drop i xs)) ≡ names.with_params (with_name x.name ns) (map placed_param (drop (i + 1) xs))
names_more ns xs i x h at =
    at_drop_more (λ ys. names.with_params ns (map placed_param ys)) xs i x h
    ∙ ap (λ y. names.with_params (with_name y.name ns) (map placed_param (drop (i + 1) xs))) (sym at)

pub names_end : (ns : List Name) (xs : List Param) (i : ℕ) → length xs ≤ i → names.with_params ns (map placed_param (drop i xs)) ≡ ns
names_end ns xs i h = ap (λ ys. names.with_params ns (map placed_param ys)) (drop_all i xs h)

pub ruleset params = (params_more, params_end, scope_more, scope_end, names_more, names_end, lesser_joins, lesser_none)

-- ---- parameters stay within their scope

pub params_outside : (s : Scope) (ps : List p.Param) → (with_params s ps).outside ≡ s.outside
params_outside s [] = refl
params_outside s (x ∷ xs) = params_outside (declare x.name a_scalar s) xs ∙ declare_outside x.name a_scalar s

pub params_print : (s : Scope) (ps : List p.Param) → (with_params s ps).print_known ≡ s.print_known
params_print s [] = refl
params_print s (x ∷ xs) = params_print (declare x.name a_scalar s) xs ∙ declare_print x.name a_scalar s

pub params_input : (s : Scope) (ps : List p.Param) → (with_params s ps).input_known ≡ s.input_known
params_input s [] = refl
params_input s (x ∷ xs) = params_input (declare x.name a_scalar s) xs ∙ declare_input x.name a_scalar s

pub ruleset rounds = (params_outside, params_print, params_input, left_scope)
