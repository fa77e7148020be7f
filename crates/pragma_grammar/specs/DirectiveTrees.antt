-- The automaton for directives over the trees themselves.
use Rattle.std.specs.Prelude.{Bool, List, [], ◌∷◌, Option, Some, None}
use Rattle.c_tree.specs.Placed.{Expr, Exprs, no_exprs, Count, fill, given, Directive, directive, Clauses, no_clauses, more_clauses, clause, ClauseKind, sizes, permutation, counts, looprange, full, partial, apply, Items, no_items, more_items, Item, nothing, acts}
use Rattle.c_tree.specs.declared.tree.Span.{Span}
use Rattle.pragma_grammar.specs.Symbols.{Symbol}
use Rattle.pragma_grammar.specs.Trees.{join_last}
use Rattle.pragma_grammar.specs.DirectiveMachine as machine

abbrev pub join_clauses : Clauses → Clauses → Clauses
join_clauses no_clauses ds = ds
join_clauses (more_clauses c cs) ds = more_clauses c (join_clauses cs ds)

abbrev pub add_clause : Clauses → ClauseKind → Span → Clauses
add_clause cs kind s = join_clauses cs (more_clauses (clause kind s) no_clauses)

abbrev pub join_items : Items → Items → Items
join_items no_items js = js
join_items (more_items i is) js = more_items i (join_items is js)

abbrev pub add_item : Items → Item → Items
add_item is i = join_items is (more_items i no_items)

abbrev pub join_counts : List Count → List Count → List Count
join_counts [] ds = ds
join_counts (c ∷ cs) ds = c ∷ join_counts cs ds

abbrev pub add_count : List Count → Count → List Count
add_count cs c = join_counts cs (c ∷ [])

abbrev pub trees : machine.Algebra
trees = record {
  Expr = Expr;
  Exprs = Exprs;
  Counts = List Count;
  Clauses = Clauses;
  Items = Items;
  Directive = Directive;
  no_exprs = no_exprs;
  add_expr = join_last;
  no_counts = [];
  add_fill = λ cs s. add_count cs (fill s);
  add_given = λ cs e. add_count cs (given e);
  no_clauses = no_clauses;
  add_sizes = λ cs es s. add_clause cs (sizes es) s;
  add_permutation = λ cs es s. add_clause cs (permutation es) s;
  add_counts = λ cs ns s. add_clause cs (counts ns) s;
  add_range = λ cs e f s. add_clause cs (looprange e f) s;
  add_full = λ cs s. add_clause cs full s;
  add_partial = λ cs s. add_clause cs (partial None) s;
  add_factor = λ cs e s. add_clause cs (partial (Some e)) s;
  add_apply = λ cs m es is s. add_clause cs (apply m es is) s;
  no_items = no_items;
  add_nothing = λ is s. add_item is (nothing s);
  add_directive = λ is d. add_item is (acts d);
  directive = directive;
}

abbrev pub Part : Type 0
Part = machine.Part trees

abbrev pub Open : Type 0
Open = machine.Open trees

abbrev pub Asked : Type 0
Asked = machine.Asked trees

abbrev pub Held : Type 0
Held = machine.Held trees

abbrev pub State : Type 0
State = machine.State trees

abbrev pub Move : Type 0
Move = machine.Move trees

abbrev pub step : State → Symbol → Move
step s t = machine.step trees s t

abbrev pub take : Asked → Expr → Held
take asked e = machine.take trees asked e

abbrev pub wants_letter : Asked → Symbol → Bool
wants_letter asked t = machine.wants_letter trees asked t

abbrev pub expects : State → Symbol → Bool
expects s t = machine.expects trees s t
