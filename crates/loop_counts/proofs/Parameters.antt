-- The variables that the last parameters of a function are, and a function in which only its parameters are visible.
use Rattle.std.proofs.Common.{◌≡◌, ◌∙◌, sym, ap, ◌<◌, ◌≤◌, ◌-◌, ℕ, List, [], ◌∷◌, ◌++◌, map, length, drop, slice_index_or, arith}
use Rattle.std.proofs.lemmas.List.{append-nil, drop_all}
use Rattle.std.specs.Prelude.{None}
use Rattle.c_tree.specs.BareOf.{bare_param}
use Rattle.c_tree.specs.declared.tree.Param.{Param}
use Rattle.c_semantics.specs.Meaning.State.{State, Var, scalar, with_frame, keep}
use Rattle.c_semantics.specs.Structure.Skeleton.{params_frame}
use Rattle.loop_counts.proofs.BackwardWalks.{seen_more, seen_none, seen_all}

pub params_more : (xs : List Param) (left : ℕ) (x : Param) → 0 < left → left ≤ length xs → x ≡ slice_index_or xs (left - 1) x
    → params_frame (map bare_param (drop (left - 1) xs)) ≡ record { name = x.name; cell = scalar x.ty None } ∷ params_frame (map bare_param (drop left xs))
params_more = seen_more (λ ys. params_frame (map bare_param ys))

pub params_none : (xs : List Param) (left : ℕ) → left ≡ length xs → params_frame (map bare_param (drop left xs)) ≡ []
params_none = seen_none (λ ys. params_frame (map bare_param ys))

pub ruleset params = (params_more, params_none, seen_all)

pub only_params : (f : List Var) (s : State) → s.frame ≡ [] → with_frame (f ++ s.frame) s ≡ with_frame f s
only_params f s e = ap (λ vs. with_frame (f ++ vs) s) e ∙ ap (λ vs. with_frame vs s) (append-nil f)

keep_none : (vs : List Var) → keep 0 vs ≡ []
keep_none vs = drop_all (length vs - 0) vs (omega arith)

pub no_params : (f : List Var) (s : State) → s.frame ≡ [] → with_frame (keep 0 f) s ≡ s
no_params f s e = ap (λ vs. with_frame vs s) (keep_none f ∙ sym e)

pub ruleset functions = (only_params, no_params)
