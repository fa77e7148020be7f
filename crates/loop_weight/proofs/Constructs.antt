-- The weight of a construct from the weights of its parts.
use Rattle.std.proofs.Common.{◌≡◌, ◌∙◌, ap, ℕ, ◌+◌, ◌*◌, List, min}
use Rattle.c_tree.specs.Bare.{Directive, Stmts}
use Rattle.c_semantics.specs.Meaning.State.{State}
use Rattle.c_semantics.specs.Meaning.Expressions.{Define}
use Rattle.c_semantics.specs.Loops.Transformations.{Plan}
use Rattle.c_semantics.specs.Loops.Directives.{plan_of}
use Rattle.c_semantics.specs.Loops.Need.{loops_asked}
use Rattle.canonical_nests.specs.Kinds.{Part}
use Rattle.canonical_nests.specs.Shapes.{body_kinds}
use Rattle.canonical_nests.specs.Weight.{copies, stmts_weight, added_weight}
use Rattle.loop_weight.specs.Constructs.{construct_weight}
use Rattle.loop_weight.proofs.Caps.{min_plus, min_times}

pub construct_is : (ds : List Define) (s : State) (m n : ℕ) (d : Directive) (a : Stmts) (p : Plan) (found : List Part) (times inner added sum all : ℕ)
    → p ≡ plan_of ds d → n ≡ loops_asked p m → found ≡ body_kinds ds s n d a
    → times ≡ min (copies p 0 found) 1048577 → inner ≡ min (stmts_weight ds s n a) 1048577 → added ≡ min (added_weight d) 1048577
    → sum ≡ min (inner + added) 1048577 → all ≡ min (times * sum) 1048577
    → all ≡ min (construct_weight ds s m d a) 1048577
construct_is ds s m n d a p found times inner added sum all p_is n_is found_is times_is inner_is added_is sum_is all_is =
    let joined : sum ≡ min (stmts_weight ds s n a + added_weight d) 1048577 =
    sum_is ∙ ((λ j. min (inner_is j + added_is j) 1048577) ∙ min_plus (stmts_weight ds s n a) (added_weight d)) in
    all_is
    ∙ ((λ j. min (times_is j * joined j) 1048577)
    ∙ (min_times (copies p 0 found) (stmts_weight ds s n a + added_weight d)
    ∙ (ap (λ f. min (copies p 0 f * (stmts_weight ds s n a + added_weight d)) 1048577) found_is
    ∙ (ap (λ k. min (copies p 0 (body_kinds ds s k d a) * (stmts_weight ds s k a + added_weight d)) 1048577) n_is
    ∙ ap (λ q. min (copies q 0 (body_kinds ds s (loops_asked q m) d a) * (stmts_weight ds s (loops_asked q m) a + added_weight d)) 1048577) p_is))))
