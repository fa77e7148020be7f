-- The automaton that reads directives: the open `apply` clauses, the innermost first, and what a symbol does to them. A
-- whole expression is one letter: where one is wanted, `take` says what it does. The automaton builds its trees by an
-- algebra: the trees themselves, or what a reader keeps of them.
use Rattle.std.specs.Prelude.{Bool, true, false, List, [], ◌∷◌, Option, Some, None}
use Rattle.c_tree.specs.Bare.{Name}
use Rattle.c_tree.specs.declared.tree.Kind.{Kind}
use Rattle.c_tree.specs.declared.tree.Span.{Span}
use Rattle.c_lexer.specs.declared.token.Punct.TheVariants.{RoundOpen, RoundClose, Comma, Colon}
use Rattle.c_lexer.specs.declared.words.Keyword.TheVariants.{OmpFill}
use Rattle.pragma_grammar.specs.declared.words.ClauseWord.{ClauseWord}
use Rattle.pragma_grammar.specs.declared.words.ClauseWord.TheVariants as word
use Rattle.pragma_grammar.specs.Symbols.{Symbol, name, punct, keyword, line_end, spanning}
use Rattle.pragma_grammar.specs.Words.{kind_of, clause_of, is_nothing}

-- what is built of expressions, of lists, and of each kind of clause after those before it
pub record Algebra : Type 1 where
  pub Expr : Type 0
  pub Exprs : Type 0
  pub Counts : Type 0
  pub Clauses : Type 0
  pub Items : Type 0
  pub Directive : Type 0
  pub no_exprs : Exprs
  pub add_expr : Exprs → Expr → Exprs
  pub no_counts : Counts
  pub add_fill : Counts → Span → Counts
  pub add_given : Counts → Expr → Counts
  pub no_clauses : Clauses
  pub add_sizes : Clauses → Exprs → Span → Clauses
  pub add_permutation : Clauses → Exprs → Span → Clauses
  pub add_counts : Clauses → Counts → Span → Clauses
  pub add_range : Clauses → Expr → Expr → Span → Clauses
  pub add_full : Clauses → Span → Clauses
  pub add_partial : Clauses → Span → Clauses
  pub add_factor : Clauses → Expr → Span → Clauses
  pub add_apply : Clauses → Option Name → Exprs → Items → Span → Clauses
  pub no_items : Items
  pub add_nothing : Items → Span → Items
  pub add_directive : Items → Directive → Items
  pub directive : Kind → Clauses → Span → Directive

-- a directive whose name stands at `at`, with its clauses so far
pub record Part (A : Algebra) : Type 0 where
  pub kind : Kind
  pub at : Span
  pub clauses : A.Clauses

-- an `apply` clause of the directive `part` whose word stands at `at`, with its items so far
pub record Open (A : Algebra) : Type 0 where
  pub part : Part A
  pub at : Span
  pub modifier : Option Name
  pub indices : A.Exprs
  pub items : A.Items

-- what a list of expressions is read for: a clause, or the indices of a modifier
pub data Lists : Type 0 where
  sizes : Lists
  permutation : Lists
  indices : Name → Lists

-- what an expression is wanted for, with what was read before it
pub data Asked (A : Algebra) : Type 0 where
  element : Lists → A.Exprs → Asked A
  count : A.Counts → Asked A
  range_first : Asked A
  range_count : A.Expr → Asked A
  factor : Asked A

-- what has been read of a clause when an expression in it is whole
pub data Held (A : Algebra) : Type 0 where
  elements : Lists → A.Exprs → Held A
  counted : A.Counts → Held A
  first : A.Expr → Held A
  range : A.Expr → A.Expr → Held A
  factored : A.Expr → Held A

-- What stands between two symbols. In `clauses` the directive has been read through its name or a clause at the span, and in
-- `comma` through a comma after it. Where a clause is being read, its word stands at the span.
pub data State (A : Algebra) : Type 0 where
  start : State A
  clauses : Part A → Span → List (Open A) → State A
  comma : Part A → State A
  opening : Asked A → Span → Part A → List (Open A) → State A
  partial : Span → Part A → List (Open A) → State A
  apply_word : Span → Part A → List (Open A) → State A
  wanting : Asked A → Span → Part A → List (Open A) → State A
  having : Held A → Span → Part A → List (Open A) → State A
  indexed : Name → A.Exprs → Span → Part A → List (Open A) → State A
  applying : Span → Part A → List (Open A) → State A
  first_name : Name → Span → Span → Part A → List (Open A) → State A
  item : Open A → List (Open A) → State A
  item_read : Open A → List (Open A) → State A

-- what a symbol does: it fits nowhere, it leads to a state, or it comes after the whole directive and isn't taken
pub data Move (A : Algebra) : Type 0 where
  stuck : Move A
  leads : State A → Move A
  ended : A.Directive → Move A

module _ (A : Algebra) where
  abbrev pub with_clauses : Part A → A.Clauses → Part A
  with_clauses part cs = record { kind = part.kind; at = part.at; clauses = cs }

  abbrev pub with_items : Open A → A.Items → Open A
  with_items o is = record { part = o.part; at = o.at; modifier = o.modifier; indices = o.indices; items = is }

  abbrev pub new_part : Kind → Span → Part A
  new_part kind a = record { kind = kind; at = a; clauses = A.no_clauses }

  abbrev pub new_open : Span → Part A → Option Name → A.Exprs → Open A
  new_open a part m es = record { part = part; at = a; modifier = m; indices = es; items = A.no_items }

  -- the directive, whose last token stands at `z`
  abbrev pub made : Part A → Span → A.Directive
  made part z = A.directive part.kind part.clauses (spanning part.at z)

  -- the state after a clause, which stands at `w`
  abbrev pub added : Part A → A.Clauses → Span → List (Open A) → Move A
  added part cs w k = leads (clauses (with_clauses part cs) w k)

  -- the innermost `apply` is closed at `z`
  abbrev pub close_apply : Open A → Span → List (Open A) → Move A
  close_apply o z k = added o.part (A.add_apply o.part.clauses o.modifier o.indices o.items (spanning o.at z)) (spanning o.at z) k

  -- the word of a clause
  abbrev pub word_read : ClauseWord → Span → Part A → List (Open A) → Move A
  word_read word.Sizes a part k = leads (opening (element sizes A.no_exprs) a part k)
  word_read word.Permutation a part k = leads (opening (element permutation A.no_exprs) a part k)
  word_read word.Counts a part k = leads (opening (count A.no_counts) a part k)
  word_read word.LoopRange a part k = leads (opening range_first a part k)
  word_read word.Full a part k = added part (A.add_full part.clauses a) a k
  word_read word.Partial a part k = leads (partial a part k)
  word_read word.Apply a part k = leads (apply_word a part k)

  abbrev pub clause_word : Option ClauseWord → Span → Part A → List (Open A) → Move A
  clause_word None a part k = stuck
  clause_word (Some w) a part k = word_read w a part k

  -- where a clause is wanted
  abbrev pub word_step : Part A → List (Open A) → Symbol → Move A
  word_step part k (name x a) = clause_word (clause_of x) a part k
  word_step part k t = stuck

  -- a comma after a directive: another clause may follow, or, within `apply`, another item does
  abbrev pub comma_step : Part A → Span → List (Open A) → Move A
  comma_step part z [] = leads (comma part)
  comma_step part z (o ∷ k) = leads (item (with_items o (A.add_directive o.items (made part z))) k)

  -- a parenthesis that closes after a directive
  abbrev pub close_step : Part A → Span → Span → List (Open A) → Move A
  close_step part z y [] = stuck
  close_step part z y (o ∷ k) = close_apply (with_items o (A.add_directive o.items (made part z))) y k

  abbrev pub end_step : Part A → Span → List (Open A) → Move A
  end_step part z [] = ended (made part z)
  end_step part z (o ∷ k) = stuck

  abbrev pub after_clause : Part A → Span → List (Open A) → Symbol → Move A
  after_clause part z k (name x a) = clause_word (clause_of x) a part k
  after_clause part z k (punct Comma y) = comma_step part z k
  after_clause part z k (punct RoundClose y) = close_step part z y k
  after_clause part z k (line_end y) = end_step part z k
  after_clause part z k t = stuck

  abbrev pub begin_directive : Option Kind → Span → List (Open A) → Move A
  begin_directive None a k = stuck
  begin_directive (Some kind) a k = leads (clauses (new_part kind a) a k)

  abbrev pub start_step : Symbol → Move A
  start_step (name x a) = begin_directive (kind_of x) a []
  start_step t = stuck

  abbrev pub expect_open : State A → Symbol → Move A
  expect_open s (punct RoundOpen b) = leads s
  expect_open s t = stuck

  abbrev pub expect_colon : State A → Symbol → Move A
  expect_colon s (punct Colon b) = leads s
  expect_colon s t = stuck

  abbrev pub partial_step : Span → Part A → List (Open A) → Symbol → Move A
  partial_step a part k (punct RoundOpen b) = leads (wanting factor a part k)
  partial_step a part k t = after_clause (with_clauses part (A.add_partial part.clauses a)) a k t

  -- what a whole expression does
  abbrev pub take : Asked A → A.Expr → Held A
  take (element l es) e = elements l (A.add_expr es e)
  take (count cs) e = counted (A.add_given cs e)
  take range_first e = first e
  take (range_count e) f = range e f
  take factor e = factored e

  -- what a symbol does where an expression is wanted: only `omp_fill` stands for one
  abbrev pub fill_step : A.Counts → Span → Part A → List (Open A) → Symbol → Move A
  fill_step cs a part k (keyword OmpFill z) = leads (having (counted (A.add_fill cs z)) a part k)
  fill_step cs a part k t = stuck

  abbrev pub want_step : Asked A → Span → Part A → List (Open A) → Symbol → Move A
  want_step (count cs) a part k t = fill_step cs a part k t
  want_step asked a part k t = stuck

  abbrev pub end_list : Lists → A.Exprs → Span → Span → Part A → List (Open A) → Move A
  end_list sizes es z a part k = added part (A.add_sizes part.clauses es (spanning a z)) (spanning a z) k
  end_list permutation es z a part k = added part (A.add_permutation part.clauses es (spanning a z)) (spanning a z) k
  end_list (indices m) es z a part k = leads (indexed m es a part k)

  abbrev pub list_step : Lists → A.Exprs → Span → Part A → List (Open A) → Symbol → Move A
  list_step l es a part k (punct Comma z) = leads (wanting (element l es) a part k)
  list_step l es a part k (punct RoundClose z) = end_list l es z a part k
  list_step l es a part k t = stuck

  abbrev pub count_step : A.Counts → Span → Part A → List (Open A) → Symbol → Move A
  count_step cs a part k (punct Comma z) = leads (wanting (count cs) a part k)
  count_step cs a part k (punct RoundClose z) = added part (A.add_counts part.clauses cs (spanning a z)) (spanning a z) k
  count_step cs a part k t = stuck

  abbrev pub first_step : A.Expr → Span → Part A → List (Open A) → Symbol → Move A
  first_step e a part k (punct Comma z) = leads (wanting (range_count e) a part k)
  first_step e a part k t = stuck

  abbrev pub range_step : A.Expr → A.Expr → Span → Part A → List (Open A) → Symbol → Move A
  range_step e f a part k (punct RoundClose z) = added part (A.add_range part.clauses e f (spanning a z)) (spanning a z) k
  range_step e f a part k t = stuck

  abbrev pub factor_step : A.Expr → Span → Part A → List (Open A) → Symbol → Move A
  factor_step e a part k (punct RoundClose z) = added part (A.add_factor part.clauses e (spanning a z)) (spanning a z) k
  factor_step e a part k t = stuck

  abbrev pub have_step : Held A → Span → Part A → List (Open A) → Symbol → Move A
  have_step (elements l es) a part k t = list_step l es a part k t
  have_step (counted cs) a part k t = count_step cs a part k t
  have_step (first e) a part k t = first_step e a part k t
  have_step (range e f) a part k t = range_step e f a part k t
  have_step (factored e) a part k t = factor_step e a part k t

  -- after `nothing`
  abbrev pub item_end : Open A → List (Open A) → Symbol → Move A
  item_end o k (punct Comma z) = leads (item o k)
  item_end o k (punct RoundClose z) = close_apply o z k
  item_end o k t = stuck

  -- a name where an item is wanted
  abbrev pub named_item : Bool → Option Kind → Span → Open A → List (Open A) → Move A
  named_item true kind a o k = leads (item_read (with_items o (A.add_nothing o.items a)) k)
  named_item false kind a o k = begin_directive kind a (o ∷ k)

  abbrev pub item_step : Open A → List (Open A) → Symbol → Move A
  item_step o k (name x a) = named_item (is_nothing x) (kind_of x) a o k
  item_step o k t = stuck

  abbrev pub applying_step : Span → Part A → List (Open A) → Symbol → Move A
  applying_step a part k (name x c) = leads (first_name x c a part k)
  applying_step a part k t = stuck

  -- the symbol after the first name of an `apply`, which was an item
  abbrev pub after_name : Move A → Symbol → Move A
  after_name (leads (clauses part z k)) t = after_clause part z k t
  after_name (leads (item_read o k)) t = item_end o k t
  after_name m t = stuck

  abbrev pub first_name_step : Name → Span → Span → Part A → List (Open A) → Symbol → Move A
  first_name_step x c a part k (punct Colon b) = leads (item (new_open a part (Some x) A.no_exprs) k)
  first_name_step x c a part k (punct RoundOpen b) = leads (wanting (element (indices x) A.no_exprs) a part k)
  first_name_step x c a part k t = after_name (named_item (is_nothing x) (kind_of x) c (new_open a part None A.no_exprs) k) t

  -- is an expression read where one is wanted, and not `omp_fill`?
  abbrev pub wants_letter : Asked A → Symbol → Bool
  wants_letter (count cs) (keyword OmpFill z) = false
  wants_letter asked t = true

  abbrev pub expects : State A → Symbol → Bool
  expects (wanting asked a part k) t = wants_letter asked t
  expects s t = false

  abbrev pub step : State A → Symbol → Move A
  step start t = start_step t
  step (clauses part z k) t = after_clause part z k t
  step (comma part) t = word_step part [] t
  step (opening asked a part k) t = expect_open (wanting asked a part k) t
  step (partial a part k) t = partial_step a part k t
  step (apply_word a part k) t = expect_open (applying a part k) t
  step (wanting asked a part k) t = want_step asked a part k t
  step (having held a part k) t = have_step held a part k t
  step (indexed m es a part k) t = expect_colon (item (new_open a part (Some m) es) k) t
  step (applying a part k) t = applying_step a part k t
  step (first_name x c a part k) t = first_name_step x c a part k t
  step (item o k) t = item_step o k t
  step (item_read o k) t = item_end o k t
