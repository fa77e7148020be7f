-- The weight of a construct of which a directive round it wants m loops, of a `for` without its body, and of a statement
-- in which no other stands.
use Rattle.std.specs.Prelude.{ℕ, ◌+◌, ◌*◌, List}
use Rattle.c_tree.specs.Bare.{Directive, Stmt, decl, set, step, print, input, call, Stmts, Head, head}
use Rattle.c_semantics.specs.Meaning.State.{State}
use Rattle.c_semantics.specs.Meaning.Expressions.{Define}
use Rattle.c_semantics.specs.Loops.Directives.{plan_of}
use Rattle.c_semantics.specs.Loops.Need.{loops_asked}
use Rattle.canonical_nests.specs.Shapes.{body_kinds}
use Rattle.canonical_nests.specs.Weight.{copies, stmts_weight, part_weight, expr_weight, exprs_weight, option_weight, target_weight, added_weight}

abbrev pub construct_weight : List Define → State → ℕ → Directive → Stmts → ℕ
construct_weight ds s m d a =
    let p = plan_of ds d in
    let n = loops_asked p m in
    copies p 0 (body_kinds ds s n d a) * (stmts_weight ds s n a + added_weight d)

abbrev pub head_weight : List Define → State → Head → ℕ
head_weight ds s (head i e next) = 1 + part_weight ds s i + option_weight e + part_weight ds s next

abbrev pub plain_weight : Stmt → ℕ
plain_weight (decl t x e) = 1 + option_weight e
plain_weight (set t o e) = 1 + target_weight t + expr_weight e
plain_weight (step t up) = 1 + target_weight t
plain_weight (print e) = 1 + expr_weight e
plain_weight (input t) = 1 + target_weight t
plain_weight (call f es) = 1 + exprs_weight es
plain_weight _ = 1
