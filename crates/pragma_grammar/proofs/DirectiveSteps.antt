-- One step of a directive: what completes the state before it is what completes the state after it.
use Rattle.std.proofs.Common.{◌≡◌, Bool, true, false, IsTrue, List, [], ◌∷◌, Option, Some, None, refl, sym, ap, ◌∙◌, subst, inl, inr}
use Rattle.std.specs.Prelude.{codes, bytes_eq}
use Rattle.std.proofs.lemmas.Slice.Eq.{bytes_eq-Decides}
use Rattle.c_tree.specs.Bare.{Name}
use Rattle.c_tree.specs.Placed.{Expr, Exprs, no_exprs, Count, Directive, ClauseKind, sizes, permutation, counts, looprange, full, partial, apply, Items, no_items, Item, nothing, acts}
use Rattle.c_tree.specs.declared.tree.Kind.{Kind}
use Rattle.c_tree.specs.declared.tree.Span.{Span}
use Rattle.c_lexer.specs.declared.token.Punct.TheVariants.{RoundOpen, RoundClose, Comma, Colon}
use Rattle.c_lexer.specs.declared.words.Keyword.TheVariants.{OmpFill}
use Rattle.pragma_grammar.specs.declared.words.ClauseWord.{ClauseWord}
use Rattle.pragma_grammar.specs.declared.words.ClauseWord.TheVariants as word
use Rattle.pragma_grammar.specs.Symbols.{Symbol, name, punct, keyword, line_end, spanning}
use Rattle.pragma_grammar.specs.Words.{kind_of, clause_of, is_nothing}
use Rattle.pragma_grammar.specs.Expressions.{Phrase, unary, binary, choice, Listed}
use Rattle.pragma_grammar.specs.Directives.{ClausePhrase, sizes_clause, permutation_clause, counts_clause, looprange_clause, full_clause, partial_clause, partial_factor, apply_items, apply_modified, apply_indexed, DirectivePhrase, directive_phrase, ItemPhrase, does_nothing, directs}
use Rattle.pragma_grammar.specs.Reading.{EndsLine, ends_line}
use Rattle.pragma_grammar.specs.DirectiveMachine as machine
use Rattle.pragma_grammar.specs.DirectiveMachine.{element, count, range_first, range_count, factor, elements, counted, first, range, factored, Lists, leads, stuck}
use Rattle.pragma_grammar.specs.DirectiveTrees.{add_item, add_count, trees, Part, Open, Asked, Held, State, Move, step, expects, wants_letter}
use Rattle.pragma_grammar.proofs.Follows.{Reads, Takes, takes}
use Rattle.pragma_grammar.proofs.DirectiveFollows.{Owes, Listing, part_with, Rest, OneMore, ItemsRest, AfterItem, Itemed, ListRest, AfterExpr, Elements, TakesFill, takes_fill, CountsRest, AfterCount, OneCount, commas, Closes, TakesName, takes_name, Starts, Fills, More, Opens, Indexed, ListEnds, CountsEnd, RangeEnds, Has, Filled, Letter, Wants, Modified, Applies, Completes, Moves, rest_none, rest_more, rest_comma, RestView, no_more, one_more, by_comma, view_rest, list_from, list_to, items_from, items_to, counts_from, counts_to}

nothing_found : {A : Type 0} {x : A} → None ≡ Some x → ⊥
nothing_found q = cc

true_is_not : true ≡ false → ⊥
true_is_not q = cc

nothing_word : (x : Name) → bytes_eq x (codes "nothing") ≡ true → x ≡ codes "nothing"
nothing_word x q = (bytes_eq-Decides x (codes "nothing")).0 q

-- the item that does nothing is no directive
no_kind : (x : Name) → is_nothing x ≡ true → kind_of x ≡ None
unfolding is_nothing kind_of
no_kind x q = subst (λ y. kind_of y ≡ None) (sym (nothing_word x q)) refl

-- no expression begins with `omp_fill`
no_fill : {r : _} {e : Expr} {w z : Span} {ts us : List Symbol} → Phrase r e w (keyword OmpFill z ∷ ts) us → ⊥
no_fill (unary q l h) = nothing_found q
no_fill (binary q l h k) = no_fill h
no_fill (choice l h k i) = no_fill h

module _ (P : Type 0) (F : P → Owes) where
  -- a clause, with its word `x` known
  clause_from : (p : P) (x : Name) (a : Span) (part : Part) (k : List Open) (ts : List Symbol) (w : ClauseWord) → clause_of x ≡ Some w → Moves P F p (machine.word_read trees w a part k) (name x a) ts → OneMore (Fills P F p k) (commas k) part (name x a ∷ ts)
  clause_from p x a part k ts word.Sizes q (takes (inl h)) = let l = list_from (ListEnds P F p machine.sizes a part k) no_exprs _ h in record { kind = sizes l.more; stands = spanning a l.stands; left = l.left; clause = sizes_clause q l.listed; after = l.after }
  clause_from p x a part k ts word.Sizes q (takes (inr h)) = absurd h
  clause_from p x a part k ts word.Permutation q (takes (inl h)) = let l = list_from (ListEnds P F p machine.permutation a part k) no_exprs _ h in record { kind = permutation l.more; stands = spanning a l.stands; left = l.left; clause = permutation_clause q l.listed; after = l.after }
  clause_from p x a part k ts word.Permutation q (takes (inr h)) = absurd h
  clause_from p x a part k ts word.Counts q (takes h) = let l = counts_from (CountsEnd P F p a part k) [] _ h in record { kind = counts l.more; stands = spanning a l.stands; left = l.left; clause = counts_clause q l.listed; after = l.after }
  clause_from p x a part k ts word.LoopRange q (takes (inl h)) = go h.whole h.stands h.rest h.phrase h.after
    where
      last : (e f : Expr) (v w : Span) (b c : Span) (ts us vs : List Symbol) → Phrase 0 e v ts (punct Comma c ∷ us) → Phrase 0 f w us vs → RangeEnds P F p e f a part k vs → OneMore (Fills P F p k) (commas k) part (name x a ∷ punct RoundOpen b ∷ ts)
      last e f v w b c ts us vs g h (takes j) = record { kind = looprange e f; stands = _; left = _; clause = looprange_clause q g h; after = j }

      go : {b : Span} {ts : List Symbol} (e : Expr) (v : Span) (us : List Symbol) → Phrase 0 e v ts us → Has P F p (first e) a part k us → OneMore (Fills P F p k) (commas k) part (name x a ∷ punct RoundOpen b ∷ ts)
      go e v us g (takes h) = last e h.whole v h.stands _ _ _ _ h.rest g h.phrase h.after
  clause_from p x a part k ts word.LoopRange q (takes (inr h)) = absurd h
  clause_from p x a part k ts word.Full q h = record { kind = full; stands = a; left = ts; clause = full_clause q; after = h }
  clause_from p x a part k ts word.Partial q (inl (takes (inl h))) = go h.whole h.stands h.rest h.phrase h.after
    where
      go : {b : Span} {ts : List Symbol} (e : Expr) (v : Span) (us : List Symbol) → Phrase 0 e v ts us → Has P F p (factored e) a part k us → OneMore (Fills P F p k) (commas k) part (name x a ∷ punct RoundOpen b ∷ ts)
      go e v us g (takes h) = record { kind = partial (Some e); stands = _; left = _; clause = partial_factor q g; after = h }
  clause_from p x a part k ts word.Partial q (inl (takes (inr h))) = absurd h
  clause_from p x a part k ts word.Partial q (inr h) = record { kind = partial None; stands = a; left = ts; clause = partial_clause q; after = h }
  clause_from p x a part k ts word.Apply q (takes (inl h)) = record { kind = apply None no_exprs h.more; stands = spanning a h.stands; left = h.left; clause = apply_items q h.listed; after = h.after }
  clause_from p x a part k ts word.Apply q (takes (inr (takes_name {x = m} (inl (takes h))))) = record { kind = apply (Some m) no_exprs h.more; stands = spanning a h.stands; left = h.left; clause = apply_modified q h.listed; after = h.after }
  clause_from p x a part k ts word.Apply q (takes (inr (takes_name {x = m} (inr (takes (inl h)))))) = let l = list_from (ListEnds P F p (machine.indices m) a part k) no_exprs _ h in go l.more l.stands l.left l.listed l.after
    where
      go : {b c d : Span} {ts : List Symbol} (es : Exprs) (e : Span) (us : List Symbol) → Listed es ts (punct RoundClose e ∷ us) → Indexed P F p m es a part k us → OneMore (Fills P F p k) (commas k) part (name x a ∷ punct RoundOpen b ∷ name m c ∷ punct RoundOpen d ∷ ts)
      go es e us l (takes h) = record { kind = apply (Some m) es h.more; stands = spanning a h.stands; left = h.left; clause = apply_indexed q l h.listed; after = h.after }
  clause_from p x a part k ts word.Apply q (takes (inr (takes_name (inr (takes (inr h)))))) = absurd h

  words_from : (p : P) (x : Name) (a : Span) (part : Part) (k : List Open) (ts : List Symbol) (w : Option ClauseWord) → clause_of x ≡ w → Moves P F p (machine.clause_word trees w a part k) (name x a) ts → OneMore (Fills P F p k) (commas k) part (name x a ∷ ts)
  words_from p x a part k ts None q h = absurd h
  words_from p x a part k ts (Some w) q h = clause_from p x a part k ts w q h

  word_from : (p : P) (part : Part) (k : List Open) (t : Symbol) (ts : List Symbol) → Moves P F p (machine.word_step trees part k t) t ts → OneMore (Fills P F p k) (commas k) part (t ∷ ts)
  word_from p part k (name x a) ts h = words_from p x a part k ts (clause_of x) refl h
  word_from p part k t ts h = absurd h

  comma_from : (p : P) (part : Part) (z y : Span) (k : List Open) (ts : List Symbol) → Moves P F p (machine.comma_step trees part z k) (punct Comma y) ts → More P F p k part z (punct Comma y ∷ ts)
  comma_from p part z y [] ts h = rest_comma (F p) part z y ts h
  comma_from p part z y (o ∷ k) ts h = rest_none (Fills P F p (o ∷ k)) false part z (punct Comma y ∷ ts) (inr (takes h))

  close_from : (p : P) (part : Part) (z y : Span) (k : List Open) (ts : List Symbol) → Moves P F p (machine.close_step trees part z y k) (punct RoundClose y) ts → More P F p k part z (punct RoundClose y ∷ ts)
  close_from p part z y [] ts h = absurd h
  close_from p part z y (o ∷ k) ts h = rest_none (Fills P F p (o ∷ k)) false part z (punct RoundClose y ∷ ts) (inl (takes h))

  end_from : (p : P) (part : Part) (z : Span) (k : List Open) (t : Symbol) (ts : List Symbol) → Moves P F p (machine.end_step trees part z k) t ts → More P F p k part z (t ∷ ts)
  end_from p part z [] t ts h = rest_none (F p) true part z (t ∷ ts) h
  end_from p part z (o ∷ k) t ts h = absurd h

  clauses_from : (p : P) (part : Part) (z : Span) (k : List Open) (t : Symbol) (ts : List Symbol) → Moves P F p (machine.after_clause trees part z k t) t ts → More P F p k part z (t ∷ ts)
  clauses_from p part z k (name x a) ts h = rest_more (Fills P F p k) (commas k) part z (name x a ∷ ts) (words_from p x a part k ts (clause_of x) refl h)
  clauses_from p part z k (punct Comma y) ts h = comma_from p part z y k ts h
  clauses_from p part z k (punct RoundClose y) ts h = close_from p part z y k ts h
  clauses_from p part z k (line_end y) ts h = end_from p part z k (line_end y) ts h
  clauses_from p part z k t ts h = absurd h

  item_end_from : (p : P) (o : Open) (k : List Open) (t : Symbol) (ts : List Symbol) → Moves P F p (machine.item_end trees o k t) t ts → AfterItem (Closes (Fills P F p k) (commas k) o) o.items (t ∷ ts)
  item_end_from p o k (punct Comma z) ts h = inr (takes h)
  item_end_from p o k (punct RoundClose z) ts h = inl (takes h)
  item_end_from p o k t ts h = absurd h

  -- an item that is a directive
  directed : (p : P) (x : Name) (c : Span) (o : Open) (k : List Open) (kind : Kind) (ts : List Symbol) → kind_of x ≡ Some kind → More P F p (o ∷ k) (machine.new_part trees kind c) c ts → Itemed (Closes (Fills P F p k) (commas k) o) o.items (name x c ∷ ts)
  directed p x c o k kind ts q h = record { item = acts _; left = h.left; phrase = directs (directive_phrase q h.clauses); after = h.after }

  named_from : (p : P) (x : Name) (a : Span) (o : Open) (k : List Open) (ts : List Symbol) (b : Bool) (g : Option Kind) → is_nothing x ≡ b → kind_of x ≡ g → Moves P F p (machine.named_item trees b g a o k) (name x a) ts → Itemed (Closes (Fills P F p k) (commas k) o) o.items (name x a ∷ ts)
  named_from p x a o k ts true g q r h = record { item = nothing a; left = ts; phrase = does_nothing q; after = h }
  named_from p x a o k ts false None q r h = absurd h
  named_from p x a o k ts false (Some kind) q r h = directed p x a o k kind ts r h

  item_from : (p : P) (o : Open) (k : List Open) (t : Symbol) (ts : List Symbol) → Moves P F p (machine.item_step trees o k t) t ts → ItemsRest (Closes (Fills P F p k) (commas k) o) o.items (t ∷ ts)
  item_from p o k (name x a) ts h = items_from (Closes (Fills P F p k) (commas k) o) o.items (name x a ∷ ts) (named_from p x a o k ts (is_nothing x) (kind_of x) refl refl h)
  item_from p o k t ts h = absurd h

  after_name_from : (p : P) (x : Name) (c : Span) (o : Open) (k : List Open) (t : Symbol) (ts : List Symbol) (b : Bool) (g : Option Kind) → is_nothing x ≡ b → kind_of x ≡ g → Moves P F p (machine.after_name trees (machine.named_item trees b g c o k) t) t ts → Itemed (Closes (Fills P F p k) (commas k) o) o.items (name x c ∷ t ∷ ts)
  after_name_from p x c o k t ts true g q r h = record { item = nothing c; left = t ∷ ts; phrase = does_nothing q; after = item_end_from p (machine.with_items trees o (add_item o.items (nothing c))) k t ts h }
  after_name_from p x c o k t ts false None q r h = absurd h
  after_name_from p x c o k t ts false (Some kind) q r h = directed p x c o k kind (t ∷ ts) r (clauses_from p (machine.new_part trees kind c) c (o ∷ k) t ts h)

  first_name_from : (p : P) (x : Name) (c a : Span) (part : Part) (k : List Open) (t : Symbol) (ts : List Symbol) → Moves P F p (machine.first_name_step trees x c a part k t) t ts → Completes P F p (machine.first_name x c a part k) (t ∷ ts)
  first_name_from p x c a part k (punct Colon b) ts h = inr (inl (takes h))
  first_name_from p x c a part k (punct RoundOpen b) ts h = inr (inr (takes h))
  first_name_from p x c a part k t ts h =
      let y = t in
      let o = machine.new_open trees a part None no_exprs in
      inl (items_from (Closes (Fills P F p k) (commas k) o) no_items (name x c ∷ y ∷ ts) (after_name_from p x c o k y ts (is_nothing x) (kind_of x) refl refl h))

  open_from : (p : P) (s : State) (t : Symbol) (ts : List Symbol) → Moves P F p (machine.expect_open trees s t) t ts → Takes RoundOpen (λ z us. Completes P F p s us) (t ∷ ts)
  open_from p s (punct RoundOpen b) ts h = takes h
  open_from p s t ts h = absurd h

  colon_from : (p : P) (s : State) (t : Symbol) (ts : List Symbol) → Moves P F p (machine.expect_colon trees s t) t ts → Takes Colon (λ z us. Completes P F p s us) (t ∷ ts)
  colon_from p s (punct Colon b) ts h = takes h
  colon_from p s t ts h = absurd h

  partial_from : (p : P) (a : Span) (part : Part) (k : List Open) (t : Symbol) (ts : List Symbol) → Moves P F p (machine.partial_step trees a part k t) t ts → Completes P F p (machine.partial a part k) (t ∷ ts)
  partial_from p a part k (punct RoundOpen b) ts h = inl (takes h)
  partial_from p a part k t ts h = let y = t in inr (clauses_from p (part_with part (partial None) a) a k y ts h)

  fill_from : (p : P) (cs : List Count) (a : Span) (part : Part) (k : List Open) (t : Symbol) (ts : List Symbol) → Moves P F p (machine.fill_step trees cs a part k t) t ts → Wants P F p (count cs) a part k (t ∷ ts)
  fill_from p cs a part k (keyword OmpFill z) ts h = inr (takes_fill h)
  fill_from p cs a part k t ts h = absurd h

  want_from : (p : P) (asked : Asked) (a : Span) (part : Part) (k : List Open) (t : Symbol) (ts : List Symbol) → Moves P F p (machine.want_step trees asked a part k t) t ts → Wants P F p asked a part k (t ∷ ts)
  want_from p (count cs) a part k t ts h = fill_from p cs a part k t ts h
  want_from p asked a part k t ts h = absurd h

  end_list_from : (p : P) (l : Lists) (es : Exprs) (a z : Span) (part : Part) (k : List Open) (t : Symbol) (ts : List Symbol) → Moves P F p (machine.end_list trees l es z a part k) t ts → ListEnds P F p l a part k es z ts
  end_list_from p machine.sizes es a z part k t ts h = h
  end_list_from p machine.permutation es a z part k t ts h = h
  end_list_from p (machine.indices m) es a z part k t ts h = h

  list_step_from : (p : P) (l : Lists) (es : Exprs) (a : Span) (part : Part) (k : List Open) (t : Symbol) (ts : List Symbol) → Moves P F p (machine.list_step trees l es a part k t) t ts → Has P F p (elements l es) a part k (t ∷ ts)
  list_step_from p l es a part k (punct Comma z) ts (inl h) = inr (takes (list_from (ListEnds P F p l a part k) es ts h))
  list_step_from p l es a part k (punct Comma z) ts (inr h) = absurd h
  list_step_from p l es a part k (punct RoundClose z) ts h = inl (takes (end_list_from p l es a z part k (punct RoundClose z) ts h))
  list_step_from p l es a part k t ts h = absurd h

  count_step_from : (p : P) (cs : List Count) (a : Span) (part : Part) (k : List Open) (t : Symbol) (ts : List Symbol) → Moves P F p (machine.count_step trees cs a part k t) t ts → Has P F p (counted cs) a part k (t ∷ ts)
  count_step_from p cs a part k (punct Comma z) ts h = inr (takes (counts_from (CountsEnd P F p a part k) cs ts h))
  count_step_from p cs a part k (punct RoundClose z) ts h = inl (takes h)
  count_step_from p cs a part k t ts h = absurd h

  first_step_from : (p : P) (e : Expr) (a : Span) (part : Part) (k : List Open) (t : Symbol) (ts : List Symbol) → Moves P F p (machine.first_step trees e a part k t) t ts → Has P F p (first e) a part k (t ∷ ts)
  first_step_from p e a part k (punct Comma z) ts (inl h) = takes h
  first_step_from p e a part k (punct Comma z) ts (inr h) = absurd h
  first_step_from p e a part k t ts h = absurd h

  range_step_from : (p : P) (e f : Expr) (a : Span) (part : Part) (k : List Open) (t : Symbol) (ts : List Symbol) → Moves P F p (machine.range_step trees e f a part k t) t ts → Has P F p (range e f) a part k (t ∷ ts)
  range_step_from p e f a part k (punct RoundClose z) ts h = takes h
  range_step_from p e f a part k t ts h = absurd h

  factor_step_from : (p : P) (e : Expr) (a : Span) (part : Part) (k : List Open) (t : Symbol) (ts : List Symbol) → Moves P F p (machine.factor_step trees e a part k t) t ts → Has P F p (factored e) a part k (t ∷ ts)
  factor_step_from p e a part k (punct RoundClose z) ts h = takes h
  factor_step_from p e a part k t ts h = absurd h

  have_from : (p : P) (held : Held) (a : Span) (part : Part) (k : List Open) (t : Symbol) (ts : List Symbol) → Moves P F p (machine.have_step trees held a part k t) t ts → Has P F p held a part k (t ∷ ts)
  have_from p (elements l es) a part k t ts h = list_step_from p l es a part k t ts h
  have_from p (counted cs) a part k t ts h = count_step_from p cs a part k t ts h
  have_from p (first e) a part k t ts h = first_step_from p e a part k t ts h
  have_from p (range e f) a part k t ts h = range_step_from p e f a part k t ts h
  have_from p (factored e) a part k t ts h = factor_step_from p e a part k t ts h

  applying_from : (p : P) (a : Span) (part : Part) (k : List Open) (t : Symbol) (ts : List Symbol) → Moves P F p (machine.applying_step trees a part k t) t ts → Applies P F p a part k (t ∷ ts)
  applying_from p a part k (name x c) ts (inl h) = inl h
  applying_from p a part k (name x c) ts (inr h) = inr (takes_name h)
  applying_from p a part k t ts h = absurd h

  begin_from : (p : P) (x : Name) (a : Span) (ts : List Symbol) (g : Option Kind) → kind_of x ≡ g → Moves P F p (machine.begin_directive trees g a []) (name x a) ts → Starts (F p) (name x a ∷ ts)
  begin_from p x a ts None q h = absurd h
  begin_from p x a ts (Some kind) q h = record { whole = _; left = h.left; phrase = directive_phrase q h.clauses; after = h.after }

  start_from : (p : P) (t : Symbol) (ts : List Symbol) → Moves P F p (machine.start_step trees t) t ts → Starts (F p) (t ∷ ts)
  start_from p (name x a) ts h = begin_from p x a ts (kind_of x) refl h
  start_from p t ts h = absurd h

  pub step_from : (p : P) (s : State) (t : Symbol) (ts : List Symbol) → Moves P F p (step s t) t ts → Completes P F p s (t ∷ ts)
  step_from p machine.start t ts h = start_from p t ts h
  step_from p (machine.clauses part z k) t ts h = clauses_from p part z k t ts h
  step_from p (machine.comma part) t ts h = word_from p part [] t ts h
  step_from p (machine.opening asked a part k) t ts h = open_from p (machine.wanting asked a part k) t ts h
  step_from p (machine.partial a part k) t ts h = partial_from p a part k t ts h
  step_from p (machine.apply_word a part k) t ts h = open_from p (machine.applying a part k) t ts h
  step_from p (machine.wanting asked a part k) t ts h = want_from p asked a part k t ts h
  step_from p (machine.having held a part k) t ts h = have_from p held a part k t ts h
  step_from p (machine.indexed m es a part k) t ts h = colon_from p (machine.item (machine.new_open trees a part (Some m) es) k) t ts h
  step_from p (machine.applying a part k) t ts h = applying_from p a part k t ts h
  step_from p (machine.first_name x c a part k) t ts h = first_name_from p x c a part k t ts h
  step_from p (machine.item o k) t ts h = item_from p o k t ts h
  step_from p (machine.item_read o k) t ts h = item_end_from p o k t ts h

  -- the same for an expression, where one is wanted
  pub letter_from : (p : P) (asked : Asked) (a : Span) (part : Part) (k : List Open) (e : Expr) (w : Span) (ts us : List Symbol) → Phrase 0 e w ts us → Completes P F p (machine.having (machine.take trees asked e) a part k) us → Completes P F p (machine.wanting asked a part k) ts
  letter_from p asked a part k e w ts us q h = inl (record { whole = e; stands = w; rest = us; phrase = q; after = h })

-- The second half: what completes the state before the symbol completes the state after it. What is owed after the whole
-- directive is the end of the line.
module _ (P : Type 0) (F : P → Owes) (bounds : (p : P) (d : Directive) (ts : List Symbol) → F p d ts → EndsLine ts) where
  -- the word of a clause is known
  known_word : (p : P) (x : Name) (a : Span) (part : Part) (k : List Open) (ts : List Symbol) (w : ClauseWord) → clause_of x ≡ Some w → Moves P F p (machine.word_read trees w a part k) (name x a) ts → Moves P F p (machine.clause_word trees (clause_of x) a part k) (name x a) ts
  known_word p x a part k ts w q h = subst (λ y. Moves P F p (machine.clause_word trees y a part k) (name x a) ts) (sym q) h

  clause_to : (p : P) (part : Part) (k : List Open) (kind : ClauseKind) (w : Span) (t : Symbol) (ts us : List Symbol) → ClausePhrase kind w (t ∷ ts) us → Rest (Fills P F p k) (commas k) (part_with part kind w) w us → Moves P F p (machine.word_step trees part k t) t ts
  clause_to p part k kind w t ts us (sizes_clause {x = x} {a = a} q l) h = known_word p x a part k ts word.Sizes q (takes (inl (list_to (ListEnds P F p machine.sizes a part k) no_exprs _ (record { more = _; stands = _; left = us; listed = l; after = h }))))
  clause_to p part k kind w t ts us (permutation_clause {x = x} {a = a} q l) h = known_word p x a part k ts word.Permutation q (takes (inl (list_to (ListEnds P F p machine.permutation a part k) no_exprs _ (record { more = _; stands = _; left = us; listed = l; after = h }))))
  clause_to p part k kind w t ts us (counts_clause {x = x} {a = a} q l) h = known_word p x a part k ts word.Counts q (takes (counts_to (CountsEnd P F p a part k) [] _ (record { more = _; stands = _; left = us; listed = l; after = h })))
  clause_to p part k kind w t ts us (looprange_clause {x = x} {e = e} {f = f} {a = a} q g i) h = known_word p x a part k ts word.LoopRange q (takes (inl (record { whole = e; stands = _; rest = _; phrase = g; after = takes (record { whole = f; stands = _; rest = _; phrase = i; after = takes h }) })))
  clause_to p part k kind w t ts us (full_clause {x = x} {a = a} q) h = known_word p x a part k ts word.Full q h
  clause_to p part k kind w t ts us (partial_clause {x = x} {a = a} q) h = known_word p x a part k ts word.Partial q (inr h)
  clause_to p part k kind w t ts us (partial_factor {x = x} {e = e} {a = a} q g) h = known_word p x a part k ts word.Partial q (inl (takes (inl (record { whole = e; stands = _; rest = _; phrase = g; after = takes h }))))
  clause_to p part k kind w t ts us (apply_items {x = x} {a = a} q l) h = known_word p x a part k ts word.Apply q (takes (inl (record { more = _; stands = _; left = us; listed = l; after = h })))
  clause_to p part k kind w t ts us (apply_modified {x = x} {a = a} q l) h = known_word p x a part k ts word.Apply q (takes (inr (takes_name (inl (takes (record { more = _; stands = _; left = us; listed = l; after = h }))))))
  clause_to p part k kind w t ts us (apply_indexed {x = x} {m = m} {a = a} q i l) h = known_word p x a part k ts word.Apply q (takes (inr (takes_name (inr (takes (inl (list_to (ListEnds P F p (machine.indices m) a part k) no_exprs _ (record { more = _; stands = _; left = _; listed = i; after = takes (record { more = _; stands = _; left = us; listed = l; after = h }) }))))))))

  word_to : (p : P) (part : Part) (k : List Open) (t : Symbol) (ts : List Symbol) → OneMore (Fills P F p k) (commas k) part (t ∷ ts) → Moves P F p (machine.word_step trees part k t) t ts
  word_to p part k t ts h = clause_to p part k h.kind h.stands t ts h.left h.clause h.after

  word_clauses : (p : P) (part : Part) (z : Span) (k : List Open) (t : Symbol) (ts : List Symbol) → Moves P F p (machine.word_step trees part k t) t ts → Moves P F p (machine.after_clause trees part z k t) t ts
  word_clauses p part z k (name x a) ts h = h
  word_clauses p part z k t ts h = absurd h

  line_to : (p : P) (part : Part) (z : Span) (t : Symbol) (ts : List Symbol) → EndsLine (t ∷ ts) → F p (machine.made trees part z) (t ∷ ts) → Moves P F p (machine.after_clause trees part z [] t) t ts
  line_to p part z t ts ends_line h = h

  fills_to : (p : P) (part : Part) (z : Span) (k : List Open) (t : Symbol) (ts : List Symbol) → Fills P F p k (machine.made trees part z) (t ∷ ts) → Moves P F p (machine.after_clause trees part z k t) t ts
  fills_to p part z [] t ts h = line_to p part z t ts (bounds p _ (t ∷ ts) h) h
  fills_to p part z (o ∷ k) t ts (inl (takes h)) = h
  fills_to p part z (o ∷ k) t ts (inr (takes h)) = h

  comma_to : (p : P) (part : Part) (z y : Span) (k : List Open) (ts : List Symbol) → true ≡ commas k → OneMore (Fills P F p k) true part ts → Moves P F p (machine.comma_step trees part z k) (punct Comma y) ts
  comma_to p part z y [] ts q h = h
  comma_to p part z y (o ∷ k) ts q h = absurd (true_is_not q)

  rest_to : (p : P) (part : Part) (z : Span) (k : List Open) (t : Symbol) (ts : List Symbol) (b : Bool) → b ≡ commas k → RestView (Fills P F p k) b part z (t ∷ ts) → Moves P F p (machine.after_clause trees part z k t) t ts
  rest_to p part z k t ts b q (no_more h) = fills_to p part z k t ts h
  rest_to p part z k t ts b q (one_more h) = word_clauses p part z k t ts (word_to p part k t ts (subst (λ c. OneMore (Fills P F p k) c part (t ∷ ts)) q h))
  rest_to p part z k t ts b q (by_comma {y = y} h) = comma_to p part z y k ts q h

  clauses_to : (p : P) (part : Part) (z : Span) (k : List Open) (t : Symbol) (ts : List Symbol) → More P F p k part z (t ∷ ts) → Moves P F p (machine.after_clause trees part z k t) t ts
  clauses_to p part z k t ts h = rest_to p part z k t ts (commas k) refl (view_rest (Fills P F p k) (commas k) part z (t ∷ ts) h)

  item_end_to : (p : P) (o : Open) (k : List Open) (t : Symbol) (ts : List Symbol) → AfterItem (Closes (Fills P F p k) (commas k) o) o.items (t ∷ ts) → Moves P F p (machine.item_end trees o k t) t ts
  item_end_to p o k t ts (inl (takes h)) = h
  item_end_to p o k t ts (inr (takes h)) = h

  -- the item's directive, after its name
  item_directive : (p : P) (x : Name) (a : Span) (o : Open) (k : List Open) (ts us : List Symbol) (d : Directive) → DirectivePhrase false d (name x a ∷ ts) us → AfterItem (Closes (Fills P F p k) (commas k) o) (add_item o.items (acts d)) us → (kind : Kind) × (kind_of x ≡ Some kind) × More P F p (o ∷ k) (machine.new_part trees kind a) a ts
  item_directive p x a o k ts us d (directive_phrase {kind = kind} q c) h = (kind, q, record { more = _; last = _; left = us; clauses = c; after = h })

  some_kind : (x : Name) (kind : Kind) → kind_of x ≡ Some kind → (b : Bool) → is_nothing x ≡ b → b ≡ false
  some_kind x kind q true r = absurd (nothing_found (sym (no_kind x r) ∙ q))
  some_kind x kind q false r = refl

  named : (x : Name) (a : Span) (o : Open) (k : List Open) (kind : Kind) → kind_of x ≡ Some kind → machine.named_item trees (is_nothing x) (kind_of x) a o k ≡ leads (machine.clauses (machine.new_part trees kind a) a (o ∷ k))
  named x a o k kind q = ap (λ b. machine.named_item trees b (kind_of x) a o k) (some_kind x kind q (is_nothing x) refl) ∙ ap (λ g. machine.named_item trees false g a o k) q

  named_nothing : (x : Name) (a : Span) (o : Open) (k : List Open) → is_nothing x ≡ true → machine.named_item trees (is_nothing x) (kind_of x) a o k ≡ leads (machine.item_read (machine.with_items trees o (add_item o.items (nothing a))) k)
  named_nothing x a o k q = ap (λ b. machine.named_item trees b (kind_of x) a o k) q

  named_to : (p : P) (o : Open) (k : List Open) (t : Symbol) (ts : List Symbol) (i : Item) (us : List Symbol) → ItemPhrase i (t ∷ ts) us → AfterItem (Closes (Fills P F p k) (commas k) o) (add_item o.items i) us → Moves P F p (machine.item_step trees o k t) t ts
  named_to p o k t ts i us (does_nothing {x = x} {a = a} q) h = subst (λ m. Moves P F p m (name x a) ts) (sym (named_nothing x a o k q)) h
  named_to p o k t ts i us (directs (directive_phrase {x = x} {kind = kind} {a = a} q c)) h =
      subst (λ m. Moves P F p m (name x a) ts) (sym (named x a o k kind q)) (record { more = _; last = _; left = us; clauses = c; after = h })

  item_to : (p : P) (o : Open) (k : List Open) (t : Symbol) (ts : List Symbol) → ItemsRest (Closes (Fills P F p k) (commas k) o) o.items (t ∷ ts) → Moves P F p (machine.item_step trees o k t) t ts
  item_to p o k t ts h = let i = items_to (Closes (Fills P F p k) (commas k) o) o.items (t ∷ ts) h in named_to p o k t ts i.item i.left i.phrase i.after

  after_name_to : (p : P) (x : Name) (c : Span) (o : Open) (k : List Open) (t : Symbol) (ts : List Symbol) (i : Item) (us : List Symbol) → ItemPhrase i (name x c ∷ t ∷ ts) us → AfterItem (Closes (Fills P F p k) (commas k) o) (add_item o.items i) us → Moves P F p (machine.after_name trees (machine.named_item trees (is_nothing x) (kind_of x) c o k) t) t ts
  after_name_to p x c o k t ts i us (does_nothing q) h = subst (λ m. Moves P F p (machine.after_name trees m t) t ts) (sym (named_nothing x c o k q)) (item_end_to p (machine.with_items trees o (add_item o.items (nothing c))) k t ts h)
  after_name_to p x c o k t ts i us (directs {d = d} q) h =
      let g = item_directive p x c o k (t ∷ ts) us d q h in
      subst (λ m. Moves P F p (machine.after_name trees m t) t ts) (sym (named x c o k g.0 g.1)) (clauses_to p (machine.new_part trees g.0 c) c (o ∷ k) t ts g.2)

  -- a colon and an opening parenthesis come after no item
  name_colon : (p : P) (m : Move) (b : Span) (ts : List Symbol) → Moves P F p (machine.after_name trees m (punct Colon b)) (punct Colon b) ts → ⊥
  name_colon p (leads (machine.clauses part z k)) b ts h = h
  name_colon p (leads (machine.item_read o k)) b ts h = h
  name_colon p m b ts h = h

  name_round : (p : P) (m : Move) (b : Span) (ts : List Symbol) → Moves P F p (machine.after_name trees m (punct RoundOpen b)) (punct RoundOpen b) ts → ⊥
  name_round p (leads (machine.clauses part z k)) b ts h = h
  name_round p (leads (machine.item_read o k)) b ts h = h
  name_round p m b ts h = h

  first_item_to : (p : P) (x : Name) (c a : Span) (part : Part) (k : List Open) (t : Symbol) (ts : List Symbol) → Moves P F p (machine.after_name trees (machine.named_item trees (is_nothing x) (kind_of x) c (machine.new_open trees a part None no_exprs) k) t) t ts → Moves P F p (machine.first_name_step trees x c a part k t) t ts
  first_item_to p x c a part k (punct Colon b) ts h = absurd (name_colon p (machine.named_item trees (is_nothing x) (kind_of x) c (machine.new_open trees a part None no_exprs) k) b ts h)
  first_item_to p x c a part k (punct RoundOpen b) ts h = absurd (name_round p (machine.named_item trees (is_nothing x) (kind_of x) c (machine.new_open trees a part None no_exprs) k) b ts h)
  first_item_to p x c a part k t ts h = h

  first_name_to : (p : P) (x : Name) (c a : Span) (part : Part) (k : List Open) (t : Symbol) (ts : List Symbol) → Completes P F p (machine.first_name x c a part k) (t ∷ ts) → Moves P F p (machine.first_name_step trees x c a part k t) t ts
  first_name_to p x c a part k t ts (inl h) =
      let o = machine.new_open trees a part None no_exprs in
      let i = items_to (Closes (Fills P F p k) (commas k) o) no_items (name x c ∷ t ∷ ts) h in
      first_item_to p x c a part k t ts (after_name_to p x c o k t ts i.item i.left i.phrase i.after)
  first_name_to p x c a part k t ts (inr (inl (takes h))) = h
  first_name_to p x c a part k t ts (inr (inr (takes h))) = h

  applies_name : (p : P) (a : Span) (part : Part) (k : List Open) (t : Symbol) (ts : List Symbol) (i : Item) (us : List Symbol) → ItemPhrase i (t ∷ ts) us → Opens P F p a part k None no_exprs (t ∷ ts) → Moves P F p (machine.applying_step trees a part k t) t ts
  applies_name p a part k t ts i us (does_nothing q) h = inl h
  applies_name p a part k t ts i us (directs (directive_phrase q c)) h = inl h

  applying_to : (p : P) (a : Span) (part : Part) (k : List Open) (t : Symbol) (ts : List Symbol) → Applies P F p a part k (t ∷ ts) → Moves P F p (machine.applying_step trees a part k t) t ts
  applying_to p a part k t ts (inl h) =
      let i = items_to (Closes (Fills P F p k) (commas k) (machine.new_open trees a part None no_exprs)) no_items (t ∷ ts) h in
      applies_name p a part k t ts i.item i.left i.phrase h
  applying_to p a part k t ts (inr (takes_name h)) = inr h

  open_to : (p : P) (s : State) (t : Symbol) (ts : List Symbol) → Takes RoundOpen (λ z us. Completes P F p s us) (t ∷ ts) → Moves P F p (machine.expect_open trees s t) t ts
  open_to p s t ts (takes h) = h

  colon_to : (p : P) (s : State) (t : Symbol) (ts : List Symbol) → Takes Colon (λ z us. Completes P F p s us) (t ∷ ts) → Moves P F p (machine.expect_colon trees s t) t ts
  colon_to p s t ts (takes h) = h

  -- an opening parenthesis comes after no clause
  clause_round : (p : P) (a : Span) (part : Part) (k : List Open) (t : Symbol) (ts : List Symbol) → Moves P F p (machine.after_clause trees (part_with part (partial None) a) a k t) t ts → Moves P F p (machine.partial_step trees a part k t) t ts
  clause_round p a part k (punct RoundOpen b) ts h = absurd h
  clause_round p a part k t ts h = h

  partial_to : (p : P) (a : Span) (part : Part) (k : List Open) (t : Symbol) (ts : List Symbol) → Completes P F p (machine.partial a part k) (t ∷ ts) → Moves P F p (machine.partial_step trees a part k t) t ts
  partial_to p a part k t ts (inl (takes h)) = h
  partial_to p a part k t ts (inr h) = clause_round p a part k t ts (clauses_to p (part_with part (partial None) a) a k t ts h)

  end_list_to : (p : P) (l : Lists) (es : Exprs) (a z : Span) (part : Part) (k : List Open) (t : Symbol) (ts : List Symbol) → ListEnds P F p l a part k es z ts → Moves P F p (machine.end_list trees l es z a part k) t ts
  end_list_to p machine.sizes es a z part k t ts h = h
  end_list_to p machine.permutation es a z part k t ts h = h
  end_list_to p (machine.indices m) es a z part k t ts h = h

  have_to : (p : P) (held : Held) (a : Span) (part : Part) (k : List Open) (t : Symbol) (ts : List Symbol) → Has P F p held a part k (t ∷ ts) → Moves P F p (machine.have_step trees held a part k t) t ts
  have_to p (elements l es) a part k t ts (inl (takes {z = z} h)) = end_list_to p l es a z part k (punct RoundClose z) ts h
  have_to p (elements l es) a part k t ts (inr (takes h)) = inl (list_to (ListEnds P F p l a part k) es ts h)
  have_to p (counted cs) a part k t ts (inl (takes h)) = h
  have_to p (counted cs) a part k t ts (inr (takes h)) = counts_to (CountsEnd P F p a part k) cs ts h
  have_to p (first e) a part k t ts (takes h) = inl h
  have_to p (range e f) a part k t ts (takes h) = h
  have_to p (factored e) a part k t ts (takes h) = h

  start_to : (p : P) (t : Symbol) (ts : List Symbol) (d : Directive) (us : List Symbol) → DirectivePhrase true d (t ∷ ts) us → F p d us → Moves P F p (machine.start_step trees t) t ts
  start_to p t ts d us (directive_phrase {x = x} {a = a} q c) h = subst (λ g. Moves P F p (machine.begin_directive trees g a []) (name x a) ts) (sym q) (record { more = _; last = _; left = us; clauses = c; after = h })

  no_letter : (p : P) (cs : List Count) (z a : Span) (part : Part) (k : List Open) (ts : List Symbol) → Wants P F p (count cs) a part k (keyword OmpFill z ∷ ts) → Moves P F p (machine.want_step trees (count cs) a part k (keyword OmpFill z)) (keyword OmpFill z) ts
  no_letter p cs z a part k ts (inl h) = absurd (no_fill h.phrase)
  no_letter p cs z a part k ts (inr (takes_fill h)) = h

  want_to : (p : P) (asked : Asked) (a : Span) (part : Part) (k : List Open) (t : Symbol) (ts : List Symbol) → wants_letter asked t ≡ false → Wants P F p asked a part k (t ∷ ts) → Moves P F p (machine.want_step trees asked a part k t) t ts
  want_to p (count cs) a part k (keyword OmpFill z) ts n h = no_letter p cs z a part k ts h
  want_to p asked a part k t ts n h = absurd (true_is_not n)

  pub step_to : (p : P) (s : State) (t : Symbol) (ts : List Symbol) → expects s t ≡ false → Completes P F p s (t ∷ ts) → Moves P F p (step s t) t ts
  step_to p machine.start t ts n h = start_to p t ts h.whole h.left h.phrase h.after
  step_to p (machine.clauses part z k) t ts n h = clauses_to p part z k t ts h
  step_to p (machine.comma part) t ts n h = word_to p part [] t ts h
  step_to p (machine.opening asked a part k) t ts n h = open_to p (machine.wanting asked a part k) t ts h
  step_to p (machine.partial a part k) t ts n h = partial_to p a part k t ts h
  step_to p (machine.apply_word a part k) t ts n h = open_to p (machine.applying a part k) t ts h
  step_to p (machine.wanting asked a part k) t ts n h = want_to p asked a part k t ts n h
  step_to p (machine.having held a part k) t ts n h = have_to p held a part k t ts h
  step_to p (machine.indexed m es a part k) t ts n h = colon_to p (machine.item (machine.new_open trees a part (Some m) es) k) t ts h
  step_to p (machine.applying a part k) t ts n h = applying_to p a part k t ts h
  step_to p (machine.first_name x c a part k) t ts n h = first_name_to p x c a part k t ts h
  step_to p (machine.item o k) t ts n h = item_to p o k t ts h
  step_to p (machine.item_read o k) t ts n h = item_end_to p o k t ts h

  -- the expression that stands where one is wanted
  pub letter_to : (p : P) (asked : Asked) (a : Span) (part : Part) (k : List Open) (t : Symbol) (ts : List Symbol) → wants_letter asked t ≡ true → Wants P F p asked a part k (t ∷ ts) → Letter P F p asked a part k (t ∷ ts)
  letter_to p asked a part k t ts n (inl h) = h
  letter_to p (count cs) a part k t ts n (inr (takes_fill h)) = absurd (true_is_not (sym n))
  letter_to p asked a part k t ts n (inr h) = absurd h
