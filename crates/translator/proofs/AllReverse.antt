-- Where nothing is unbuilt, all directives and items are `reverse`; and where there is no directive, nothing is unbuilt.
use Rattle.std.proofs.Common.{◌≡◌, refl, sym, subst, true, None, [], ◌∷◌}
use Rattle.c_tree.specs.Placed.{Directive, directive, Clauses, no_clauses, more_clauses, clause, sizes, permutation, counts, looprange, full, partial, apply, Items, no_items, more_items, Item, nothing, acts, Stmt, decl, set, step, print, input, if_, if_else, while_, do_, for_, block, break_, continue_, empty, omp, call, Stmts, no_stmts, more_stmts, define, extern_, global, function, main, Program}
use Rattle.c_tree.specs.BareOf.{bare_program}
use Rattle.c_tree.specs.PlacedOf.{placed_program}
use Rattle.c_tree.specs.declared.tree.Program as code
use Rattle.c_tree.specs.Forget.{forget_directive, forget_clauses, forget_items, forget_item, forget_stmt, forget_stmts, forget_program}
use Rattle.c_tree.specs.declared.tree.Kind.TheVariants.{Tile, Unroll, Interchange, Reverse, Split, Fuse}
use Rattle.canonical_nests.specs.LoopRules.Programs.{stmt_directive, stmts_directive, first_directive}
use Rattle.carried_out.specs.AllReverse.{is_reverse, clauses_reverse, items_reverse, item_reverses, reverses_only, all_reverse_only, all_reverse}
use Rattle.std.proofs.lemmas.Bool.{and_from}
use Rattle.translator.proofs.Plain.{both_none, neither}
use Rattle.translator.specs.Unbuilt.{directive_unbuilt, clauses_unbuilt, items_unbuilt, item_unbuilt, stmt_unbuilt, stmts_unbuilt, first_unbuilt}

mutual
  directive_reverses : (d : Directive) → directive_unbuilt d ≡ None → is_reverse (forget_directive d) ≡ true
  directive_reverses (directive Reverse cs at) e = clauses_reverses cs e
  directive_reverses (directive Tile cs at) e = absurd (cc)
  directive_reverses (directive Unroll cs at) e = absurd (cc)
  directive_reverses (directive Interchange cs at) e = absurd (cc)
  directive_reverses (directive Split cs at) e = absurd (cc)
  directive_reverses (directive Fuse cs at) e = absurd (cc)

  clauses_reverses : (cs : Clauses) → clauses_unbuilt cs ≡ None → clauses_reverse (forget_clauses cs) ≡ true
  clauses_reverses no_clauses e = refl
  clauses_reverses (more_clauses (clause (apply m es is) at) cs) e =
      let none = both_none (items_unbuilt is) (clauses_unbuilt cs) e in
      and_from (items_reverse (forget_items is)) (clauses_reverse (forget_clauses cs)) (items_all_reverse is none.0) (clauses_reverses cs none.1)
  clauses_reverses (more_clauses (clause (sizes es) at) cs) e = clauses_reverses cs e
  clauses_reverses (more_clauses (clause (permutation es) at) cs) e = clauses_reverses cs e
  clauses_reverses (more_clauses (clause (counts ks) at) cs) e = clauses_reverses cs e
  clauses_reverses (more_clauses (clause (looprange a b) at) cs) e = clauses_reverses cs e
  clauses_reverses (more_clauses (clause full at) cs) e = clauses_reverses cs e
  clauses_reverses (more_clauses (clause (partial k) at) cs) e = clauses_reverses cs e

  items_all_reverse : (is : Items) → items_unbuilt is ≡ None → items_reverse (forget_items is) ≡ true
  items_all_reverse no_items e = refl
  items_all_reverse (more_items i is) e =
      let none = both_none (item_unbuilt i) (items_unbuilt is) e in
      and_from (item_reverses (forget_item i)) (items_reverse (forget_items is)) (item_all_reverses i none.0) (items_all_reverse is none.1)

  item_all_reverses : (i : Item) → item_unbuilt i ≡ None → item_reverses (forget_item i) ≡ true
  item_all_reverses (nothing at) e = refl
  item_all_reverses (acts d) e = directive_reverses d e

mutual
  stmt_reverses : (a : Stmt) → stmt_unbuilt a ≡ None → reverses_only (forget_stmt a) ≡ true
  stmt_reverses (decl t x at v s) e = refl
  stmt_reverses (set t op v s) e = refl
  stmt_reverses (step t up s) e = refl
  stmt_reverses (print v s) e = refl
  stmt_reverses (input t at s) e = refl
  stmt_reverses (break_ s) e = refl
  stmt_reverses (continue_ s) e = refl
  stmt_reverses (empty s) e = refl
  stmt_reverses (call x at es s) e = refl
  stmt_reverses (if_ v a s) e = stmts_reverse a e
  stmt_reverses (if_else v a b s) e =
      let none = both_none (stmts_unbuilt a) (stmts_unbuilt b) e in
      and_from (all_reverse_only (forget_stmts a)) (all_reverse_only (forget_stmts b)) (stmts_reverse a none.0) (stmts_reverse b none.1)
  stmt_reverses (while_ v a s) e = stmts_reverse a e
  stmt_reverses (do_ a v s) e = stmts_reverse a e
  stmt_reverses (for_ h a s) e = stmts_reverse a e
  stmt_reverses (block a s) e = stmts_reverse a e
  stmt_reverses (omp d a s) e =
      let none = both_none (directive_unbuilt d) (stmts_unbuilt a) e in
      and_from (is_reverse (forget_directive d)) (all_reverse_only (forget_stmts a)) (directive_reverses d none.0) (stmts_reverse a none.1)

  stmts_reverse : (as' : Stmts) → stmts_unbuilt as' ≡ None → all_reverse_only (forget_stmts as') ≡ true
  stmts_reverse no_stmts e = refl
  stmts_reverse (more_stmts a as') e =
      let none = both_none (stmt_unbuilt a) (stmts_unbuilt as') e in
      and_from (reverses_only (forget_stmt a)) (all_reverse_only (forget_stmts as')) (stmt_reverses a none.0) (stmts_reverse as' none.1)

pub nothing_unbuilt : (p : Program) → first_unbuilt p ≡ None → all_reverse (forget_program p) ≡ true
nothing_unbuilt [] e = refl
nothing_unbuilt (define x minus k t at ∷ is) e = nothing_unbuilt is e
nothing_unbuilt (extern_ port at ∷ is) e = nothing_unbuilt is e
nothing_unbuilt (global t x at dims v ∷ is) e = nothing_unbuilt is e
nothing_unbuilt (function x at ps a s ∷ is) e =
    let none = both_none (stmts_unbuilt a) (first_unbuilt is) e in
    and_from (all_reverse_only (forget_stmts a)) (all_reverse (forget_program is)) (stmts_reverse a none.0) (nothing_unbuilt is none.1)
nothing_unbuilt (main a s ∷ is) e =
    let none = both_none (stmts_unbuilt a) (first_unbuilt is) e in
    and_from (all_reverse_only (forget_stmts a)) (all_reverse (forget_program is)) (stmts_reverse a none.0) (nothing_unbuilt is none.1)

-- so are those of a program with places, where its bare tree is what is left of it
pub built_reverses : (source : code.Program) → bare_program source ≡ forget_program (placed_program source) → first_unbuilt (placed_program source) ≡ None
    → all_reverse (bare_program source) ≡ true
built_reverses source same built = subst (λ p. all_reverse p ≡ true) (sym same) (nothing_unbuilt (placed_program source) built)

-- ---- where there is no directive, nothing is unbuilt

mutual
  stmt_built : (a : Stmt) → stmt_directive a ≡ None → stmt_unbuilt a ≡ None
  stmt_built (if_ v a s) e = stmts_built a e
  stmt_built (if_else v a b s) e =
      let none = both_none (stmts_directive a) (stmts_directive b) e in
      neither (stmts_unbuilt a) (stmts_unbuilt b) (stmts_built a none.0) (stmts_built b none.1)
  stmt_built (while_ v a s) e = stmts_built a e
  stmt_built (do_ a v s) e = stmts_built a e
  stmt_built (for_ h a s) e = stmts_built a e
  stmt_built (block a s) e = stmts_built a e
  stmt_built (omp (directive k cs at) a s) e = cc
  stmt_built (decl t x at v s) e = refl
  stmt_built (set t op v s) e = refl
  stmt_built (step t up s) e = refl
  stmt_built (print v s) e = refl
  stmt_built (input t at s) e = refl
  stmt_built (break_ s) e = refl
  stmt_built (continue_ s) e = refl
  stmt_built (empty s) e = refl
  stmt_built (call x at es s) e = refl

  stmts_built : (as' : Stmts) → stmts_directive as' ≡ None → stmts_unbuilt as' ≡ None
  stmts_built no_stmts e = refl
  stmts_built (more_stmts a as') e =
      let none = both_none (stmt_directive a) (stmts_directive as') e in
      neither (stmt_unbuilt a) (stmts_unbuilt as') (stmt_built a none.0) (stmts_built as' none.1)

pub nothing_to_build : (p : Program) → first_directive p ≡ None → first_unbuilt p ≡ None
nothing_to_build [] e = refl
nothing_to_build (define x minus k t at ∷ is) e = nothing_to_build is e
nothing_to_build (extern_ port at ∷ is) e = nothing_to_build is e
nothing_to_build (global t x at dims v ∷ is) e = nothing_to_build is e
nothing_to_build (function x at ps a s ∷ is) e =
    let none = both_none (stmts_directive a) (first_directive is) e in
    neither (stmts_unbuilt a) (first_unbuilt is) (stmts_built a none.0) (nothing_to_build is none.1)
nothing_to_build (main a s ∷ is) e =
    let none = both_none (stmts_directive a) (first_directive is) e in
    neither (stmts_unbuilt a) (first_unbuilt is) (stmts_built a none.0) (nothing_to_build is none.1)
