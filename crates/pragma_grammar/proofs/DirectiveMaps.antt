-- Which clauses are open never depends on what is built: a step of the state that is kept is what is kept of the step.
-- And tokens of one mark do the same.
use Rattle.std.proofs.Common.{◌≡◌, Bool, true, false, List, [], ◌∷◌, Option, Some, None, refl, sym, ap, ◌∙◌}
use Rattle.c_tree.specs.Bare.{Name}
use Rattle.c_tree.specs.Placed.{Expr, Exprs, no_exprs, Count}
use Rattle.c_tree.specs.declared.tree.Kind.{Kind}
use Rattle.c_tree.specs.declared.tree.Span.{Span}
use Rattle.c_lexer.specs.declared.token.Token.{Token}
use Rattle.c_lexer.specs.declared.token.TokenKind.{TokenKind}
use Rattle.c_lexer.specs.declared.token.TokenKind.TheVariants as kind
use Rattle.c_lexer.specs.declared.token.Punct.{Punct}
use Rattle.c_lexer.specs.declared.token.Punct.TheVariants as sign
use Rattle.c_lexer.specs.declared.token.Punct.TheVariants.{RoundOpen, RoundClose, Comma, Colon}
use Rattle.c_lexer.specs.declared.words.Keyword.{Keyword}
use Rattle.c_lexer.specs.declared.words.Keyword.TheVariants.{OmpFill, LeftOut}
use Rattle.c_lexer.specs.Words.{keyword_of}
use Rattle.pragma_grammar.specs.declared.words.ClauseWord.{ClauseWord}
use Rattle.pragma_grammar.specs.declared.words.ClauseWord.TheVariants as word
use Rattle.pragma_grammar.specs.Symbols.{Symbol, symbol, symbol_of, word_symbol, is_static, name, number, punct, keyword, static, hash, line_end, end, place, spanning}
use Rattle.pragma_grammar.specs.Words.{kind_of, clause_of, is_nothing}
use Rattle.pragma_grammar.specs.DirectiveMachine as machine
use Rattle.pragma_grammar.specs.DirectiveMachine.{start, clauses, comma, opening, partial, apply_word, wanting, having, indexed, applying, first_name, item, item_read, stuck, leads, ended, element, count, range_first, range_count, factor, elements, counted, first, range, factored, Lists, sizes, permutation, indices}
use Rattle.pragma_grammar.specs.DirectiveTrees.{trees, Part, Open, Asked, Held, State, Move, step, take}
use Rattle.pragma_grammar.specs.DirectiveKept.{keeps, keep_expr, keep_exprs, keep_counts, keep_clauses, keep_items, keep_directive}
use Rattle.pragma_grammar.specs.DirectiveStands as stands
use Rattle.pragma_grammar.specs.DirectiveStands.{KeptPart, KeptOpen, KeptState, KeptMove, mark_of, marked, word_of, seen}
use Rattle.pragma_grammar.proofs.DirectiveKeeping.{keep_add_expr, keep_add_fill, keep_add_given, keep_add_nothing, keep_add_directive, keep_add_sizes, keep_add_permutation, keep_add_counts, keep_add_range, keep_add_full, keep_add_partial, keep_add_factor, keep_add_apply, keep_made}

abbrev pub keep_part : Part → KeptPart
keep_part p = record { kind = p.kind; at = p.at; clauses = keep_clauses p.clauses }

abbrev pub keep_open : Open → KeptOpen
keep_open o = record { part = keep_part o.part; at = o.at; modifier = o.modifier; indices = keep_exprs o.indices; items = keep_items o.items }

abbrev pub keep_opens : List Open → List KeptOpen
keep_opens [] = []
keep_opens (o ∷ k) = keep_open o ∷ keep_opens k

abbrev pub keep_asked : Asked → machine.Asked keeps
keep_asked (element l es) = element l (keep_exprs es)
keep_asked (count cs) = count (keep_counts cs)
keep_asked range_first = range_first
keep_asked (range_count e) = range_count (keep_expr e)
keep_asked factor = factor

abbrev pub keep_held : Held → machine.Held keeps
keep_held (elements l es) = elements l (keep_exprs es)
keep_held (counted cs) = counted (keep_counts cs)
keep_held (first e) = first (keep_expr e)
keep_held (range e f) = range (keep_expr e) (keep_expr f)
keep_held (factored e) = factored (keep_expr e)

abbrev pub keep_state : State → KeptState
keep_state start = start
keep_state (clauses p z k) = clauses (keep_part p) z (keep_opens k)
keep_state (comma p) = comma (keep_part p)
keep_state (opening asked a p k) = opening (keep_asked asked) a (keep_part p) (keep_opens k)
keep_state (partial a p k) = partial a (keep_part p) (keep_opens k)
keep_state (apply_word a p k) = apply_word a (keep_part p) (keep_opens k)
keep_state (wanting asked a p k) = wanting (keep_asked asked) a (keep_part p) (keep_opens k)
keep_state (having held a p k) = having (keep_held held) a (keep_part p) (keep_opens k)
keep_state (indexed m es a p k) = indexed m (keep_exprs es) a (keep_part p) (keep_opens k)
keep_state (applying a p k) = applying a (keep_part p) (keep_opens k)
keep_state (first_name x c a p k) = first_name x c a (keep_part p) (keep_opens k)
keep_state (item o k) = item (keep_open o) (keep_opens k)
keep_state (item_read o k) = item_read (keep_open o) (keep_opens k)

abbrev pub keep_move : Move → KeptMove
keep_move stuck = stuck
keep_move (leads s) = leads (keep_state s)
keep_move (ended d) = ended (keep_directive d)

-- a clause is added
added_kept : (p : Part) (cs : _) (ks : _) (w : Span) (k : List Open) → keep_clauses cs ≡ ks → keep_move (machine.added trees p cs w k) ≡ machine.added keeps (keep_part p) ks w (keep_opens k)
added_kept p cs ks w k q = ap (λ z. machine.added keeps (keep_part p) z w (keep_opens k)) q

close_kept : (o : Open) (z : Span) (k : List Open) → keep_move (machine.close_apply trees o z k) ≡ machine.close_apply keeps (keep_open o) z (keep_opens k)
close_kept o z k = added_kept o.part (trees.add_apply o.part.clauses o.modifier o.indices o.items (spanning o.at z)) _ (spanning o.at z) k (keep_add_apply o.part.clauses o.modifier o.indices o.items (spanning o.at z))

word_kept : (w : ClauseWord) (a : Span) (p : Part) (k : List Open) → keep_move (machine.word_read trees w a p k) ≡ machine.word_read keeps w a (keep_part p) (keep_opens k)
word_kept word.Sizes a p k = refl
word_kept word.Permutation a p k = refl
word_kept word.Counts a p k = refl
word_kept word.LoopRange a p k = refl
word_kept word.Full a p k = added_kept p (trees.add_full p.clauses a) _ a k (keep_add_full p.clauses a)
word_kept word.Partial a p k = refl
word_kept word.Apply a p k = refl

clause_kept : (w : Option ClauseWord) (a : Span) (p : Part) (k : List Open) → keep_move (machine.clause_word trees w a p k) ≡ machine.clause_word keeps w a (keep_part p) (keep_opens k)
clause_kept None a p k = refl
clause_kept (Some w) a p k = word_kept w a p k

word_step_kept : (p : Part) (k : List Open) (t : Symbol) → keep_move (machine.word_step trees p k t) ≡ machine.word_step keeps (keep_part p) (keep_opens k) t
word_step_kept p k (name x a) = clause_kept (clause_of x) a p k
word_step_kept p k t = refl

made_kept : (p : Part) (z : Span) → keep_directive (machine.made trees p z) ≡ machine.made keeps (keep_part p) z
made_kept p z = keep_made p.kind p.clauses (spanning p.at z)

-- the items with a directive more
items_kept : (o : Open) (p : Part) (z : Span) → keep_open (machine.with_items trees o (trees.add_directive o.items (machine.made trees p z))) ≡ machine.with_items keeps (keep_open o) (keeps.add_directive (keep_items o.items) (machine.made keeps (keep_part p) z))
items_kept o p z = ap (machine.with_items keeps (keep_open o)) (keep_add_directive o.items (machine.made trees p z) ∙ ap (keeps.add_directive (keep_items o.items)) (made_kept p z))

comma_kept : (p : Part) (z : Span) (k : List Open) → keep_move (machine.comma_step trees p z k) ≡ machine.comma_step keeps (keep_part p) z (keep_opens k)
comma_kept p z [] = refl
comma_kept p z (o ∷ k) = ap (λ x. leads (item x (keep_opens k))) (items_kept o p z)

close_step_kept : (p : Part) (z y : Span) (k : List Open) → keep_move (machine.close_step trees p z y k) ≡ machine.close_step keeps (keep_part p) z y (keep_opens k)
close_step_kept p z y [] = refl
close_step_kept p z y (o ∷ k) = close_kept (machine.with_items trees o (trees.add_directive o.items (machine.made trees p z))) y k ∙ ap (λ x. machine.close_apply keeps x y (keep_opens k)) (items_kept o p z)

end_kept : (p : Part) (z : Span) (k : List Open) → keep_move (machine.end_step trees p z k) ≡ machine.end_step keeps (keep_part p) z (keep_opens k)
end_kept p z [] = ap ended (made_kept p z)
end_kept p z (o ∷ k) = refl

clauses_kept : (p : Part) (z : Span) (k : List Open) (t : Symbol) → keep_move (machine.after_clause trees p z k t) ≡ machine.after_clause keeps (keep_part p) z (keep_opens k) t
clauses_kept p z k (name x a) = clause_kept (clause_of x) a p k
clauses_kept p z k (punct Comma y) = comma_kept p z k
clauses_kept p z k (punct RoundClose y) = close_step_kept p z y k
clauses_kept p z k (line_end y) = end_kept p z k
clauses_kept p z k t = refl

begin_kept : (g : Option Kind) (a : Span) (k : List Open) → keep_move (machine.begin_directive trees g a k) ≡ machine.begin_directive keeps g a (keep_opens k)
begin_kept None a k = refl
begin_kept (Some kind) a k = refl

start_kept : (t : Symbol) → keep_move (machine.start_step trees t) ≡ machine.start_step keeps t
start_kept (name x a) = begin_kept (kind_of x) a []
start_kept t = refl

open_kept : (s : State) (t : Symbol) → keep_move (machine.expect_open trees s t) ≡ machine.expect_open keeps (keep_state s) t
open_kept s (punct RoundOpen b) = refl
open_kept s t = refl

colon_kept : (s : State) (t : Symbol) → keep_move (machine.expect_colon trees s t) ≡ machine.expect_colon keeps (keep_state s) t
colon_kept s (punct Colon b) = refl
colon_kept s t = refl

partial_part : (p : Part) (a : Span) → keep_part (machine.with_clauses trees p (trees.add_partial p.clauses a)) ≡ machine.with_clauses keeps (keep_part p) (keeps.add_partial (keep_clauses p.clauses) a)
partial_part p a = ap (machine.with_clauses keeps (keep_part p)) (keep_add_partial p.clauses a)

partial_kept : (a : Span) (p : Part) (k : List Open) (t : Symbol) → keep_move (machine.partial_step trees a p k t) ≡ machine.partial_step keeps a (keep_part p) (keep_opens k) t
partial_kept a p k (punct RoundOpen b) = refl
partial_kept a p k t = let y = t in clauses_kept (machine.with_clauses trees p (trees.add_partial p.clauses a)) a k y ∙ ap (λ x. machine.after_clause keeps x a (keep_opens k) y) (partial_part p a)

fill_kept : (cs : List Count) (a : Span) (p : Part) (k : List Open) (t : Symbol) → keep_move (machine.fill_step trees cs a p k t) ≡ machine.fill_step keeps (keep_counts cs) a (keep_part p) (keep_opens k) t
fill_kept cs a p k (keyword OmpFill z) = ap (λ x. leads (having (counted x) a (keep_part p) (keep_opens k))) (keep_add_fill cs z)
fill_kept cs a p k t = refl

want_kept : (asked : Asked) (a : Span) (p : Part) (k : List Open) (t : Symbol) → keep_move (machine.want_step trees asked a p k t) ≡ machine.want_step keeps (keep_asked asked) a (keep_part p) (keep_opens k) t
want_kept (count cs) a p k t = fill_kept cs a p k t
want_kept asked a p k t = refl

end_list_kept : (l : Lists) (es : Exprs) (z a : Span) (p : Part) (k : List Open) → keep_move (machine.end_list trees l es z a p k) ≡ machine.end_list keeps l (keep_exprs es) z a (keep_part p) (keep_opens k)
end_list_kept sizes es z a p k = added_kept p (trees.add_sizes p.clauses es (spanning a z)) _ (spanning a z) k (keep_add_sizes p.clauses es (spanning a z))
end_list_kept permutation es z a p k = added_kept p (trees.add_permutation p.clauses es (spanning a z)) _ (spanning a z) k (keep_add_permutation p.clauses es (spanning a z))
end_list_kept (indices m) es z a p k = refl

list_kept : (l : Lists) (es : Exprs) (a : Span) (p : Part) (k : List Open) (t : Symbol) → keep_move (machine.list_step trees l es a p k t) ≡ machine.list_step keeps l (keep_exprs es) a (keep_part p) (keep_opens k) t
list_kept l es a p k (punct Comma z) = refl
list_kept l es a p k (punct RoundClose z) = end_list_kept l es z a p k
list_kept l es a p k t = refl

count_kept : (cs : List Count) (a : Span) (p : Part) (k : List Open) (t : Symbol) → keep_move (machine.count_step trees cs a p k t) ≡ machine.count_step keeps (keep_counts cs) a (keep_part p) (keep_opens k) t
count_kept cs a p k (punct Comma z) = refl
count_kept cs a p k (punct RoundClose z) = added_kept p (trees.add_counts p.clauses cs (spanning a z)) _ (spanning a z) k (keep_add_counts p.clauses cs (spanning a z))
count_kept cs a p k t = refl

first_kept : (e : Expr) (a : Span) (p : Part) (k : List Open) (t : Symbol) → keep_move (machine.first_step trees e a p k t) ≡ machine.first_step keeps (keep_expr e) a (keep_part p) (keep_opens k) t
first_kept e a p k (punct Comma z) = refl
first_kept e a p k t = refl

range_kept : (e f : Expr) (a : Span) (p : Part) (k : List Open) (t : Symbol) → keep_move (machine.range_step trees e f a p k t) ≡ machine.range_step keeps (keep_expr e) (keep_expr f) a (keep_part p) (keep_opens k) t
range_kept e f a p k (punct RoundClose z) = added_kept p (trees.add_range p.clauses e f (spanning a z)) _ (spanning a z) k (keep_add_range p.clauses e f (spanning a z))
range_kept e f a p k t = refl

factor_kept : (e : Expr) (a : Span) (p : Part) (k : List Open) (t : Symbol) → keep_move (machine.factor_step trees e a p k t) ≡ machine.factor_step keeps (keep_expr e) a (keep_part p) (keep_opens k) t
factor_kept e a p k (punct RoundClose z) = added_kept p (trees.add_factor p.clauses e (spanning a z)) _ (spanning a z) k (keep_add_factor p.clauses e (spanning a z))
factor_kept e a p k t = refl

have_kept : (held : Held) (a : Span) (p : Part) (k : List Open) (t : Symbol) → keep_move (machine.have_step trees held a p k t) ≡ machine.have_step keeps (keep_held held) a (keep_part p) (keep_opens k) t
have_kept (elements l es) a p k t = list_kept l es a p k t
have_kept (counted cs) a p k t = count_kept cs a p k t
have_kept (first e) a p k t = first_kept e a p k t
have_kept (range e f) a p k t = range_kept e f a p k t
have_kept (factored e) a p k t = factor_kept e a p k t

item_end_kept : (o : Open) (k : List Open) (t : Symbol) → keep_move (machine.item_end trees o k t) ≡ machine.item_end keeps (keep_open o) (keep_opens k) t
item_end_kept o k (punct Comma z) = refl
item_end_kept o k (punct RoundClose z) = close_kept o z k
item_end_kept o k t = refl

nothing_kept : (o : Open) (a : Span) → keep_open (machine.with_items trees o (trees.add_nothing o.items a)) ≡ machine.with_items keeps (keep_open o) (keeps.add_nothing (keep_items o.items) a)
nothing_kept o a = ap (machine.with_items keeps (keep_open o)) (keep_add_nothing o.items a)

named_kept : (b : Bool) (g : Option Kind) (a : Span) (o : Open) (k : List Open) → keep_move (machine.named_item trees b g a o k) ≡ machine.named_item keeps b g a (keep_open o) (keep_opens k)
named_kept true g a o k = ap (λ x. leads (item_read x (keep_opens k))) (nothing_kept o a)
named_kept false g a o k = begin_kept g a (o ∷ k)

item_kept : (o : Open) (k : List Open) (t : Symbol) → keep_move (machine.item_step trees o k t) ≡ machine.item_step keeps (keep_open o) (keep_opens k) t
item_kept o k (name x a) = named_kept (is_nothing x) (kind_of x) a o k
item_kept o k t = refl

applying_kept : (a : Span) (p : Part) (k : List Open) (t : Symbol) → keep_move (machine.applying_step trees a p k t) ≡ machine.applying_step keeps a (keep_part p) (keep_opens k) t
applying_kept a p k (name x c) = refl
applying_kept a p k t = refl

after_name_kept : (b : Bool) (g : Option Kind) (a : Span) (o : Open) (k : List Open) (t : Symbol) → keep_move (machine.after_name trees (machine.named_item trees b g a o k) t) ≡ machine.after_name keeps (machine.named_item keeps b g a (keep_open o) (keep_opens k)) t
after_name_kept true g a o k t = item_end_kept (machine.with_items trees o (trees.add_nothing o.items a)) k t ∙ ap (λ x. machine.item_end keeps x (keep_opens k) t) (nothing_kept o a)
after_name_kept false None a o k t = refl
after_name_kept false (Some kind) a o k t = clauses_kept (machine.new_part trees kind a) a (o ∷ k) t

first_name_kept : (x : Name) (c a : Span) (p : Part) (k : List Open) (t : Symbol) → keep_move (machine.first_name_step trees x c a p k t) ≡ machine.first_name_step keeps x c a (keep_part p) (keep_opens k) t
first_name_kept x c a p k (punct Colon b) = refl
first_name_kept x c a p k (punct RoundOpen b) = refl
first_name_kept x c a p k t = let y = t in after_name_kept (is_nothing x) (kind_of x) c (machine.new_open trees a p None no_exprs) k y

pub step_kept : (s : State) (t : Symbol) → keep_move (step s t) ≡ stands.step (keep_state s) t
step_kept start t = start_kept t
step_kept (clauses p z k) t = clauses_kept p z k t
step_kept (comma p) t = word_step_kept p [] t
step_kept (opening asked a p k) t = open_kept (wanting asked a p k) t
step_kept (partial a p k) t = partial_kept a p k t
step_kept (apply_word a p k) t = open_kept (applying a p k) t
step_kept (wanting asked a p k) t = want_kept asked a p k t
step_kept (having held a p k) t = have_kept held a p k t
step_kept (indexed m es a p k) t = colon_kept (item (machine.new_open trees a p (Some m) es) k) t
step_kept (applying a p k) t = applying_kept a p k t
step_kept (first_name x c a p k) t = first_name_kept x c a p k t
step_kept (item o k) t = item_kept o k t
step_kept (item_read o k) t = item_end_kept o k t

pub take_kept : (asked : Asked) (e : Expr) → keep_held (take asked e) ≡ machine.take keeps (keep_asked asked) (keep_expr e)
take_kept (element l es) e = ap (elements l) (keep_add_expr es e)
take_kept (count cs) e = ap counted (keep_add_given cs e)
take_kept range_first e = refl
take_kept (range_count f) e = refl
take_kept factor e = refl
