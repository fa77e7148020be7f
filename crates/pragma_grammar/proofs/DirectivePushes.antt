-- The reader's lists with one more, and its list of open clauses, whose last one is the innermost.
use Rattle.std.proofs.Common.{◌≡◌, List, [], ◌∷◌, ◌++◌, Option, Some, None, refl, sym, ap, ◌∙◌}
use Rattle.std.specs.Prelude.{max, option_to_list}
use Rattle.c_tree.specs.Placed as placed
use Rattle.c_tree.specs.PlacedOf.{placed_expr, placed_exprs, placed_clause, placed_clauses, placed_kind, placed_item, placed_items, item_layer, kind_layer, clause_layer, directive_layer}
use Rattle.c_tree.specs.declared.tree.Span.{Span}
use Rattle.c_tree.specs.declared.tree.Expr.{Expr}
use Rattle.c_tree.specs.declared.tree.Clause.{Clause, fold-roll-Clause}
use Rattle.c_tree.specs.declared.tree.ClauseKind.{ClauseKind}
use Rattle.c_tree.specs.declared.tree.ApplyItem.{ApplyItem}
use Rattle.pragma_grammar.specs.declared.directive_kept.Kept as code
use Rattle.pragma_grammar.specs.declared.directive_kept.Kept.TheVariants.{Whole, Deep}
use Rattle.pragma_grammar.specs.declared.directive_state.Open.{Open}
use Rattle.pragma_grammar.specs.Trees.{join_last}
use Rattle.pragma_grammar.specs.DirectiveTrees.{join_clauses, add_item}
use Rattle.pragma_grammar.specs.DirectiveKept.{kept, both, add_kept}
use Rattle.pragma_grammar.specs.DirectiveStands.{pushed, clause_at, expr_of, exprs_of, clause_kind_of, clauses_of, item_of, items_of, KeptOpen, open_of, onto, opens}

more_exprs : (xs : List Expr) (e : Expr) → placed_exprs (xs ++ e ∷ []) ≡ join_last (placed_exprs xs) (placed_expr e)
more_exprs [] e = refl
more_exprs (x ∷ xs) e = ap (placed.more_exprs (placed_expr x)) (more_exprs xs e)

more_items : (xs : List ApplyItem) (i : ApplyItem) → placed_items (xs ++ i ∷ []) ≡ add_item (placed_items xs) (placed_item i)
more_items [] i = refl
more_items (x ∷ xs) i = ap (placed.more_items (placed_item x)) (more_items xs i)

more_clauses : (xs : List Clause) (c : Clause) → placed_clauses (xs ++ c ∷ []) ≡ join_clauses (placed_clauses xs) (placed.more_clauses (placed_clause c) placed.no_clauses)
more_clauses [] c = refl
more_clauses (x ∷ xs) c = ap (placed.more_clauses (placed_clause x)) (more_clauses xs c)

clause_placed : (x : ClauseKind) (s : Span) → placed_clause (record { kind = x; span = s }) ≡ placed.clause (placed_kind x) s
clause_placed x s = fold-roll-Clause placed.Item placed.ClauseKind placed.Clause placed.Directive item_layer kind_layer clause_layer directive_layer (record { kind = x; span = s })

pub exprs_pushed : (l : code.Kept (List Expr)) (e : code.Kept Expr) → exprs_of (pushed l e) ≡ both join_last (exprs_of l) (expr_of e)
exprs_pushed (Whole xs g) (Whole x h) = ap (λ z. kept (max g h) z) (more_exprs xs x)
exprs_pushed (Whole xs g) (Deep p) = refl
exprs_pushed (Deep p) e = refl

pub items_pushed : (l : code.Kept (List ApplyItem)) (i : code.Kept ApplyItem) → items_of (pushed l i) ≡ both add_item (items_of l) (item_of i)
items_pushed (Whole xs g) (Whole x h) = ap (λ z. kept (max g h) z) (more_items xs x)
items_pushed (Whole xs g) (Deep p) = refl
items_pushed (Deep p) e = refl

pub clauses_pushed : (l : code.Kept (List Clause)) (k : code.Kept ClauseKind) (s : Span) → clauses_of (pushed l (clause_at k s)) ≡ add_kept (clauses_of l) (clause_kind_of k) s
clauses_pushed (Whole xs g) (Whole x h) s = ap (λ z. kept (max g h) z) (more_clauses xs (record { kind = x; span = s }) ∙ ap (λ z. join_clauses (placed_clauses xs) (placed.more_clauses z placed.no_clauses)) (clause_placed x s))
clauses_pushed (Whole xs g) (Deep p) s = refl
clauses_pushed (Deep p) k s = refl

onto_push : (xs : List Open) (k : List KeptOpen) (o : Open) → onto (xs ++ o ∷ []) k ≡ open_of o ∷ onto xs k
onto_push [] k o = refl
onto_push (x ∷ xs) k o = onto_push xs (open_of x ∷ k) o

-- an open clause put last is the innermost
pub opens_pushed : (old new : List Open) (o : Open) → new ≡ old ++ o ∷ [] → opens new ≡ open_of o ∷ opens old
opens_pushed old new o q = ap opens q ∙ onto_push old [] o

pub opens_popped : (old new : List Open) (r : Option Open) (o : Open) → old ≡ new ++ option_to_list r → r ≡ Some o → opens old ≡ open_of o ∷ opens new
opens_popped old new r o q s = opens_pushed new old o (q ∙ ap (λ z. new ++ option_to_list z) s)
