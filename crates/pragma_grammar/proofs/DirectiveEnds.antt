-- Each state of a directive has a completion, whatever stands after it.
use Rattle.std.proofs.Common.{◌≡◌, List, [], ◌∷◌, ◌++◌, Option, Some, None, refl, sym, subst, inl, inr}
use Rattle.std.specs.Prelude.{codes, true}
use Rattle.c_tree.specs.Bare.{Name}
use Rattle.c_tree.specs.Placed.{Expr, num, Exprs, no_exprs, Directive, ClauseKind, sizes, permutation, counts, looprange, full, partial, apply, nothing, acts}
use Rattle.c_tree.specs.declared.tree.Kind.TheVariants.{Tile}
use Rattle.c_tree.specs.declared.tree.Span.{Span}
use Rattle.c_tree.specs.declared.tree.Ty.TheVariants as ty
use Rattle.c_lexer.specs.declared.token.Token.{Token}
use Rattle.c_lexer.specs.declared.token.TokenKind.TheVariants as kind
use Rattle.c_lexer.specs.declared.token.Punct.{Punct}
use Rattle.c_lexer.specs.declared.token.Punct.TheVariants.{RoundOpen, RoundClose, Comma, Colon}
use Rattle.c_lexer.specs.Words.{keyword_of}
use Rattle.pragma_grammar.specs.declared.words.ClauseWord.TheVariants as word
use Rattle.pragma_grammar.specs.Symbols.{Symbol, symbol, symbols, name, punct, spanning}
use Rattle.pragma_grammar.specs.Words.{kind_of, clause_of, is_nothing}
use Rattle.pragma_grammar.specs.Expressions.{literal}
use Rattle.pragma_grammar.specs.Directives.{full_clause, directive_phrase, does_nothing}
use Rattle.pragma_grammar.specs.DirectiveMachine as machine
use Rattle.pragma_grammar.specs.DirectiveMachine.{elements, counted, first, range, factored, factor}
use Rattle.pragma_grammar.specs.DirectiveTrees.{add_item, trees, Part, Open, Asked, Held, State, take}
use Rattle.pragma_grammar.proofs.Follows.{takes}
use Rattle.pragma_grammar.proofs.DirectiveFollows.{part_with, AfterItem, ItemsRest, commas, Closes, Fills, More, Applies, Has, Wants, Completes, rest_none, items_from}

-- exactly this directive, with exactly these symbols after it
pub data Exact (us : List Symbol) : Directive → Directive → List Symbol → Type 0 where
  exactly : {d : Directive} → Exact us d d us

-- the tokens of completions
abbrev pub nowhere : Span
nowhere = record { start = 0; end = 0 }

abbrev sign : Punct → Token
sign p = record { kind = kind.Punct p; span = nowhere }

abbrev word_token : Name → Token
word_token x = record { kind = kind.Word x; span = nowhere }

abbrev zero_token : Token
zero_token = record { kind = kind.Number 0 ty.Int true; span = nowhere }

abbrev zero : Expr
zero = num 0 ty.Int nowhere

tile_name : symbol (word_token (codes "tile")) ≡ name (codes "tile") nowhere
unfolding keyword_of
tile_name = refl

full_name : symbol (word_token (codes "full")) ≡ name (codes "full") nowhere
unfolding keyword_of
full_name = refl

nothing_name : symbol (word_token (codes "nothing")) ≡ name (codes "nothing") nowhere
unfolding keyword_of
nothing_name = refl

tile_kind : kind_of (codes "tile") ≡ Some Tile
unfolding kind_of
tile_kind = refl

full_clause_word : clause_of (codes "full") ≡ Some word.Full
unfolding clause_of
full_clause_word = refl

nothing_is : is_nothing (codes "nothing") ≡ true
unfolding is_nothing
nothing_is = refl

-- what directives and symbols have to meet, for the symbols that stand after the whole
abbrev Goal : Type 1
Goal = List Symbol → Directive → List Symbol → Type 0

-- some directive and tokens meet it, whatever stands after them
pub record Meets (g : Goal) : Type 0 where
  pub tree : Directive
  pub tokens : List Token
  pub meets : (us : List Symbol) → g us tree (symbols tokens ++ us)

lift : (f g : Goal) → Meets g → ((us : List Symbol) (d : Directive) (ts : List Symbol) → g us d ts → f us d ts) → Meets f
lift f g m h = record { tree = m.tree; tokens = m.tokens; meets = λ us. h us m.tree (symbols m.tokens ++ us) (m.meets us) }

-- the same with one more token before them
push : (f g : Goal) (t : Token) (s : Symbol) → symbol t ≡ s → Meets g → ((us : List Symbol) (d : Directive) (ts : List Symbol) → g us d ts → f us d (s ∷ ts)) → Meets f
push f g t s q m h = record { tree = m.tree; tokens = t ∷ m.tokens; meets = λ us. subst (λ x. f us m.tree (x ∷ symbols m.tokens ++ us)) (sym q) (h us m.tree (symbols m.tokens ++ us) (m.meets us)) }

abbrev Filled : List Open → Directive → Goal
Filled k d us p ts = Fills Directive (Exact us) p k d ts

abbrev Ended : List Open → Part → Span → Goal
Ended k part w us p ts = More Directive (Exact us) p k part w ts

abbrev pub Completed : State → Goal
Completed s us p ts = Completes Directive (Exact us) p s ts

abbrev closed_part : Open → Part
closed_part o = part_with o.part (apply o.modifier o.indices o.items) (spanning o.at nowhere)

fill : (k : List Open) (d : Directive) → Meets (Filled k d)
fill [] d = record { tree = d; tokens = []; meets = λ us. exactly }
fill (o ∷ k) d =
    let c = machine.with_items trees o (add_item o.items (acts d)) in
    let w = spanning o.at nowhere in
    let f = fill k (machine.made trees (closed_part c) w) in
    record { tree = f.tree; tokens = sign RoundClose ∷ f.tokens; meets = λ us. inl (takes (rest_none (Fills Directive (Exact us) f.tree k) (commas k) (closed_part c) w (symbols f.tokens ++ us) (f.meets us))) }

end_clauses : (k : List Open) (part : Part) (w : Span) → Meets (Ended k part w)
end_clauses k part w = lift (Ended k part w) (Filled k (machine.made trees part w)) (fill k (machine.made trees part w)) (λ us d ts h. rest_none (Fills Directive (Exact us) d k) (commas k) part w ts h)

-- a clause ends with a parenthesis
close_clause : (f : Goal) (kind : Span → ClauseKind) (a : Span) (part : Part) (k : List Open) → ((us : List Symbol) (d : Directive) (ts : List Symbol) → Ended k (part_with part (kind nowhere) (spanning a nowhere)) (spanning a nowhere) us d ts → f us d (punct RoundClose nowhere ∷ ts)) → Meets f
close_clause f kind a part k h = push f (Ended k (part_with part (kind nowhere) (spanning a nowhere)) (spanning a nowhere)) (sign RoundClose) (punct RoundClose nowhere) refl (end_clauses k (part_with part (kind nowhere) (spanning a nowhere)) (spanning a nowhere)) h

item_read_met : (o : Open) (k : List Open) → Meets (Completed (machine.item_read o k))
item_read_met o k = close_clause (Completed (machine.item_read o k)) (λ z. apply o.modifier o.indices o.items) o.at o.part k (λ us d ts h. inl (takes h))

item_met : (o : Open) (k : List Open) → Meets (Completed (machine.item o k))
item_met o k =
    let c = machine.with_items trees o (add_item o.items (nothing nowhere)) in
    push (Completed (machine.item o k)) (Completed (machine.item_read c k)) (word_token (codes "nothing")) (name (codes "nothing") nowhere) nothing_name (item_read_met c k)
    (λ us d ts h. items_from (Closes (Fills Directive (Exact us) d k) (commas k) o) o.items (name (codes "nothing") nowhere ∷ ts) (record { item = nothing nowhere; left = ts; phrase = does_nothing nothing_is; after = h }))

indexed_met : (m : Name) (es : Exprs) (a : Span) (part : Part) (k : List Open) → Meets (Completed (machine.indexed m es a part k))
indexed_met m es a part k = push (Completed (machine.indexed m es a part k)) (Completed (machine.item (machine.new_open trees a part (Some m) es) k)) (sign Colon) (punct Colon nowhere) refl (item_met (machine.new_open trees a part (Some m) es) k) (λ us d ts h. takes h)

range_met : (e f : Expr) (a : Span) (part : Part) (k : List Open) → Meets (Completed (machine.having (range e f) a part k))
range_met e f a part k = close_clause (Completed (machine.having (range e f) a part k)) (λ z. looprange e f) a part k (λ us d ts h. takes h)

having_met : (held : Held) (a : Span) (part : Part) (k : List Open) → Meets (Completed (machine.having held a part k))
having_met (elements machine.sizes es) a part k = close_clause (Completed (machine.having (elements machine.sizes es) a part k)) (λ z. sizes es) a part k (λ us d ts h. inl (takes h))
having_met (elements machine.permutation es) a part k = close_clause (Completed (machine.having (elements machine.permutation es) a part k)) (λ z. permutation es) a part k (λ us d ts h. inl (takes h))
having_met (elements (machine.indices m) es) a part k = push (Completed (machine.having (elements (machine.indices m) es) a part k)) (Completed (machine.indexed m es a part k)) (sign RoundClose) (punct RoundClose nowhere) refl (indexed_met m es a part k) (λ us d ts h. inl (takes h))
having_met (counted cs) a part k = close_clause (Completed (machine.having (counted cs) a part k)) (λ z. counts cs) a part k (λ us d ts h. inl (takes h))
having_met (range e f) a part k = range_met e f a part k
having_met (factored e) a part k = close_clause (Completed (machine.having (factored e) a part k)) (λ z. partial (Some e)) a part k (λ us d ts h. takes h)
having_met (first e) a part k =
    push (Completed (machine.having (first e) a part k)) (Completed (machine.wanting (machine.range_count e) a part k)) (sign Comma) (punct Comma nowhere) refl
    (push (Completed (machine.wanting (machine.range_count e) a part k)) (Completed (machine.having (range e zero) a part k)) zero_token (symbol zero_token) refl (range_met e zero a part k) (λ us d ts h. inl (record { whole = zero; stands = nowhere; rest = ts; phrase = literal; after = h })))
    (λ us d ts h. range_wanted us d ts h)
  where
    range_wanted : (us : List Symbol) (d : Directive) (ts : List Symbol) → Completed (machine.wanting (machine.range_count e) a part k) us d ts → Completed (machine.having (first e) a part k) us d (punct Comma nowhere ∷ ts)
    range_wanted us d ts (inl h) = takes h
    range_wanted us d ts (inr h) = absurd h

wanting_met : (asked : Asked) (a : Span) (part : Part) (k : List Open) → Meets (Completed (machine.wanting asked a part k))
wanting_met asked a part k = push (Completed (machine.wanting asked a part k)) (Completed (machine.having (take asked zero) a part k)) zero_token (symbol zero_token) refl (having_met (take asked zero) a part k) (λ us d ts h. inl (record { whole = zero; stands = nowhere; rest = ts; phrase = literal; after = h }))

applying_met : (a : Span) (part : Part) (k : List Open) → Meets (Completed (machine.applying a part k))
applying_met a part k = lift (Completed (machine.applying a part k)) (Completed (machine.item (machine.new_open trees a part None no_exprs) k)) (item_met (machine.new_open trees a part None no_exprs) k) (λ us d ts h. inl h)

pub complete : (s : State) → Meets (Completed s)
complete machine.start = push (Completed machine.start) (Ended [] (machine.new_part trees Tile nowhere) nowhere) (word_token (codes "tile")) (name (codes "tile") nowhere) tile_name (end_clauses [] (machine.new_part trees Tile nowhere) nowhere) (λ us d ts h. record { whole = _; left = h.left; phrase = directive_phrase tile_kind h.clauses; after = h.after })
complete (machine.clauses part z k) = end_clauses k part z
complete (machine.comma part) = push (Completed (machine.comma part)) (Ended [] (part_with part full nowhere) nowhere) (word_token (codes "full")) (name (codes "full") nowhere) full_name (end_clauses [] (part_with part full nowhere) nowhere) (λ us d ts h. record { kind = full; stands = nowhere; left = ts; clause = full_clause full_clause_word; after = h })
complete (machine.opening asked a part k) = push (Completed (machine.opening asked a part k)) (Completed (machine.wanting asked a part k)) (sign RoundOpen) (punct RoundOpen nowhere) refl (wanting_met asked a part k) (λ us d ts h. takes h)
complete (machine.partial a part k) = lift (Completed (machine.partial a part k)) (Ended k (part_with part (partial None) a) a) (end_clauses k (part_with part (partial None) a) a) (λ us d ts h. inr h)
complete (machine.apply_word a part k) = push (Completed (machine.apply_word a part k)) (Completed (machine.applying a part k)) (sign RoundOpen) (punct RoundOpen nowhere) refl (applying_met a part k) (λ us d ts h. takes h)
complete (machine.wanting asked a part k) = wanting_met asked a part k
complete (machine.having held a part k) = having_met held a part k
complete (machine.indexed m es a part k) = indexed_met m es a part k
complete (machine.applying a part k) = applying_met a part k
complete (machine.first_name x c a part k) = lift (Completed (machine.first_name x c a part k)) (Completed (machine.indexed x no_exprs a part k)) (indexed_met x no_exprs a part k) (λ us d ts h. inr (inl h))
complete (machine.item o k) = item_met o k
complete (machine.item_read o k) = item_read_met o k
