-- What the values of the reader of directives stand for.
use Rattle.std.specs.Prelude.{ℕ, max, List, [], ◌∷◌, ◌++◌, map, Option, Some, None}
use Rattle.c_tree.specs.Bare.{Name}
use Rattle.c_tree.specs.Placed as placed
use Rattle.c_tree.specs.PlacedOf.{placed_expr, placed_exprs, placed_count, placed_directive, placed_clauses, placed_kind, placed_item, placed_items}
use Rattle.c_tree.specs.declared.tree.Span.{Span}
use Rattle.c_tree.specs.declared.tree.Expr.{Expr}
use Rattle.c_tree.specs.declared.tree.Count.{Count}
use Rattle.c_tree.specs.declared.tree.Clause.{Clause}
use Rattle.c_tree.specs.declared.tree.ClauseKind.{ClauseKind}
use Rattle.c_tree.specs.declared.tree.ApplyItem.{ApplyItem}
use Rattle.c_tree.specs.declared.tree.Directive.{Directive}
use Rattle.c_lexer.specs.declared.token.Token.{Token}
use Rattle.c_lexer.specs.declared.token.TokenKind.{TokenKind}
use Rattle.c_lexer.specs.declared.token.TokenKind.TheVariants as token
use Rattle.c_lexer.specs.declared.token.Punct.TheVariants.{RoundOpen, RoundClose, Comma, Colon}
use Rattle.c_lexer.specs.declared.words.Keyword.{Keyword}
use Rattle.c_lexer.specs.declared.words.Keyword.TheVariants.{OmpFill}
use Rattle.c_lexer.specs.Words.{keyword_of}
use Rattle.pragma_grammar.specs.declared.directive_kept.Kept as code
use Rattle.pragma_grammar.specs.declared.directive_kept.Kept.TheVariants.{Whole, Deep}
use Rattle.pragma_grammar.specs.declared.directive_state.Mark.{Mark}
use Rattle.pragma_grammar.specs.declared.directive_state.Mark.TheVariants as mark
use Rattle.pragma_grammar.specs.declared.directive_state.Part.{Part}
use Rattle.pragma_grammar.specs.declared.directive_state.Open.{Open}
use Rattle.pragma_grammar.specs.declared.directive_state.Lists.{Lists}
use Rattle.pragma_grammar.specs.declared.directive_state.Lists.TheVariants as l
use Rattle.pragma_grammar.specs.declared.directive_state.Asked.{Asked}
use Rattle.pragma_grammar.specs.declared.directive_state.Asked.TheVariants as a
use Rattle.pragma_grammar.specs.declared.directive_state.Held.{Held}
use Rattle.pragma_grammar.specs.declared.directive_state.Held.TheVariants as h
use Rattle.pragma_grammar.specs.declared.directive_state.State.{State}
use Rattle.pragma_grammar.specs.declared.directive_state.State.TheVariants as s
use Rattle.pragma_grammar.specs.declared.directive_state.Move.{Move}
use Rattle.pragma_grammar.specs.declared.directive_state.Move.TheVariants as m
use Rattle.pragma_grammar.specs.Symbols.{Symbol, symbol, name, punct, keyword, line_end, end}
use Rattle.pragma_grammar.specs.DirectiveMachine as machine
use Rattle.pragma_grammar.specs.DirectiveKept.{Kept, kept, deep, keeps}

-- ---- tokens

-- what a symbol is to a directive outside its expressions
abbrev pub mark_of : Symbol → Mark
mark_of (name x s) = mark.Name
mark_of (punct RoundOpen s) = mark.Open
mark_of (punct RoundClose s) = mark.Close
mark_of (punct Comma s) = mark.Comma
mark_of (punct Colon s) = mark.Colon
mark_of (keyword OmpFill s) = mark.Fill
mark_of (line_end s) = mark.LineEnd
mark_of t = mark.Other

abbrev pub mark_of_keyword : Option Keyword → Mark
mark_of_keyword None = mark.Name
mark_of_keyword (Some OmpFill) = mark.Fill
mark_of_keyword (Some k) = mark.Other

abbrev pub mark_of_word : Name → Mark
mark_of_word word = mark_of_keyword (keyword_of word)

abbrev pub word_in : TokenKind → Name
word_in (token.Word word) = word
word_in k = []

abbrev pub word_of : Token → Name
word_of t = word_in t.kind

-- a symbol of that mark: for a directive they are all alike
abbrev pub marked : Mark → Name → Span → Symbol
marked mark.Name x s = name x s
marked mark.Open x s = punct RoundOpen s
marked mark.Close x s = punct RoundClose s
marked mark.Comma x s = punct Comma s
marked mark.Colon x s = punct Colon s
marked mark.Fill x s = keyword OmpFill s
marked mark.LineEnd x s = line_end s
marked mark.Other x s = end s

abbrev pub seen : Token → Symbol
seen t = marked (mark_of (symbol t)) (word_of t) t.span

-- ---- what is kept

abbrev pub kept_as : {X Y : Type 0} → (X → Y) → code.Kept X → Kept Y
kept_as f (Whole tree height) = kept height (f tree)
kept_as f (Deep place) = deep place

abbrev pub expr_of : code.Kept Expr → Kept placed.Expr
expr_of k = kept_as placed_expr k

abbrev pub exprs_of : code.Kept (List Expr) → Kept placed.Exprs
exprs_of k = kept_as placed_exprs k

abbrev pub count_of : code.Kept Count → Kept placed.Count
count_of k = kept_as placed_count k

abbrev pub counts_of : code.Kept (List Count) → Kept (List placed.Count)
counts_of k = kept_as (λ cs. map placed_count cs) k

abbrev pub clause_kind_of : code.Kept ClauseKind → Kept placed.ClauseKind
clause_kind_of k = kept_as placed_kind k

abbrev pub clauses_of : code.Kept (List Clause) → Kept placed.Clauses
clauses_of k = kept_as placed_clauses k

abbrev pub item_of : code.Kept ApplyItem → Kept placed.Item
item_of k = kept_as placed_item k

abbrev pub items_of : code.Kept (List ApplyItem) → Kept placed.Items
items_of k = kept_as placed_items k

abbrev pub directive_of : code.Kept Directive → Kept placed.Directive
directive_of k = kept_as placed_directive k

-- a list with one more
abbrev pub pushed : {X : Type 0} → code.Kept (List X) → code.Kept X → code.Kept (List X)
pushed (Whole xs g) (Whole x h) = Whole (xs ++ x ∷ []) (max g h)
pushed (Whole xs g) (Deep p) = Deep p
pushed (Deep p) x = Deep p

abbrev pub clause_at : code.Kept ClauseKind → Span → code.Kept Clause
clause_at (Whole kind height) s = Whole (record { kind = kind; span = s }) height
clause_at (Deep p) s = Deep p

-- ---- states

abbrev pub KeptPart : Type 0
KeptPart = machine.Part keeps

abbrev pub KeptOpen : Type 0
KeptOpen = machine.Open keeps

abbrev pub KeptState : Type 0
KeptState = machine.State keeps

abbrev pub KeptMove : Type 0
KeptMove = machine.Move keeps

abbrev pub part_of : Part → KeptPart
part_of p = record { kind = p.kind; at = p.at; clauses = clauses_of p.clauses }

abbrev pub open_of : Open → KeptOpen
open_of o = record { part = part_of o.part; at = o.at; modifier = o.modifier; indices = exprs_of o.indices; items = items_of o.items }

-- the open clauses, the innermost first; the code has it last
abbrev pub onto : List Open → List KeptOpen → List KeptOpen
onto [] k = k
onto (o ∷ os) k = onto os (open_of o ∷ k)

abbrev pub opens : List Open → List KeptOpen
opens os = onto os []

abbrev pub lists_of : Lists → machine.Lists
lists_of l.Sizes = machine.sizes
lists_of l.Permutation = machine.permutation
lists_of (l.Indices m) = machine.indices m

abbrev pub asked_of : Asked → machine.Asked keeps
asked_of (a.Element list before) = machine.element (lists_of list) (exprs_of before)
asked_of (a.Count before) = machine.count (counts_of before)
asked_of a.RangeFirst = machine.range_first
asked_of (a.RangeCount first) = machine.range_count (expr_of first)
asked_of a.Factor = machine.factor

abbrev pub held_of : Held → machine.Held keeps
held_of (h.Elements list exprs) = machine.elements (lists_of list) (exprs_of exprs)
held_of (h.Counted counts) = machine.counted (counts_of counts)
held_of (h.First first) = machine.first (expr_of first)
held_of (h.Range first count) = machine.range (expr_of first) (expr_of count)
held_of (h.Factored factor) = machine.factored (expr_of factor)

abbrev pub stands : State → List KeptOpen → KeptState
stands s.Start k = machine.start
stands (s.Clauses part last) k = machine.clauses (part_of part) last k
stands (s.Comma part) k = machine.comma (part_of part)
stands (s.Opening asked at part) k = machine.opening (asked_of asked) at (part_of part) k
stands (s.Partial at part) k = machine.partial at (part_of part) k
stands (s.ApplyWord at part) k = machine.apply_word at (part_of part) k
stands (s.Wanting asked at part) k = machine.wanting (asked_of asked) at (part_of part) k
stands (s.Having held at part) k = machine.having (held_of held) at (part_of part) k
stands (s.Indexed modifier indices at part) k = machine.indexed modifier (exprs_of indices) at (part_of part) k
stands (s.Applying at part) k = machine.applying at (part_of part) k
stands (s.FirstName x x_at at part) k = machine.first_name x x_at at (part_of part) k
stands (s.Item o) k = machine.item (open_of o) k
stands (s.ItemRead o) k = machine.item_read (open_of o) k

-- what a token did, with the clauses that are open then
abbrev pub came : Move → List KeptOpen → KeptMove
came m.Stuck k = machine.stuck
came (m.Leads s) k = machine.leads (stands s k)
came (m.Ended directive) k = machine.ended (directive_of directive)

abbrev pub step : KeptState → Symbol → KeptMove
step s t = machine.step keeps s t
