-- To a directive, tokens of one mark are alike.
use Rattle.std.proofs.Common.{◌≡◌, Bool, true, false, List, [], ◌∷◌, Option, Some, None, refl, sym, ap, ◌∙◌}
use Rattle.std.specs.Prelude.{cond}
use Rattle.c_tree.specs.Bare.{Name}
use Rattle.c_tree.specs.declared.tree.Kind.{Kind}
use Rattle.c_tree.specs.declared.tree.Span.{Span}
use Rattle.c_lexer.specs.declared.token.Token.{Token}
use Rattle.c_lexer.specs.declared.token.TokenKind.{TokenKind}
use Rattle.c_lexer.specs.declared.token.TokenKind.TheVariants as kind
use Rattle.c_lexer.specs.declared.token.Punct.{Punct}
use Rattle.c_lexer.specs.declared.token.Punct.TheVariants.{RoundOpen, RoundClose, Comma, Colon}
use Rattle.c_lexer.specs.declared.words.Keyword.{Keyword}
use Rattle.c_lexer.specs.declared.words.Keyword.TheVariants.{OmpFill, LeftOut}
use Rattle.c_lexer.specs.Words.{keyword_of}
use Rattle.pragma_grammar.specs.Symbols.{Symbol, symbol, symbol_of, word_symbol, is_static, name, punct, keyword, static, line_end, place}
use Rattle.pragma_grammar.specs.Words.{kind_of, is_nothing}
use Rattle.pragma_grammar.specs.DirectiveMachine as machine
use Rattle.pragma_grammar.specs.DirectiveMachine.{start, clauses, comma, opening, partial, apply_word, wanting, having, indexed, applying, first_name, item, item_read, leads, element, count, elements, counted, first, range, factored, Lists}
use Rattle.pragma_grammar.specs.DirectiveKept.{keeps}
use Rattle.pragma_grammar.specs.DirectiveStands.{KeptPart, KeptOpen, KeptState, KeptMove, mark_of, marked, word_in, word_of, seen, step}

abbrev name_in : Symbol → Name
name_in (name x s) = x
name_in t = []

abbrev alike : Symbol → Symbol
alike t = marked (mark_of t) (name_in t) (place t)

left_out_seen : (x : Name) (b : Bool) (s : Span) → marked (mark_of (cond b (static s) (keyword LeftOut s))) x s ≡ alike (cond b (static s) (keyword LeftOut s))
left_out_seen x true s = refl
left_out_seen x false s = refl

word_seen : (x : Name) (k : Option Keyword) (s : Span) → marked (mark_of (word_symbol x k s)) x s ≡ alike (word_symbol x k s)
word_seen x None s = refl
word_seen x (Some LeftOut) s = left_out_seen x (is_static x) s
word_seen x (Some OmpFill) s = refl
word_seen x (Some k) s = refl

punct_seen : (p : Punct) (s : Span) → marked (mark_of (punct p s)) [] s ≡ alike (punct p s)
punct_seen Comma s = refl
punct_seen p s = refl

kind_seen : (k : TokenKind) (s : Span) → marked (mark_of (symbol_of k s)) (word_in k) s ≡ alike (symbol_of k s)
kind_seen (kind.Word x) s = word_seen x (keyword_of x) s
kind_seen (kind.Number value ty plain_zero) s = refl
kind_seen (kind.Punct p) s = punct_seen p s
kind_seen kind.Hash s = refl
kind_seen kind.LineEnd s = refl
kind_seen kind.End s = refl

seen_alike : (t : Token) → seen t ≡ alike (symbol t)
seen_alike t = kind_seen t.kind t.span

word_step_alike : (p : KeptPart) (k : List KeptOpen) (t : Symbol) → machine.word_step keeps p k t ≡ machine.word_step keeps p k (alike t)
word_step_alike p k (name x a) = refl
word_step_alike p k (punct Comma z) = refl
word_step_alike p k (keyword OmpFill z) = refl
word_step_alike p k t = refl

clauses_alike : (p : KeptPart) (z : Span) (k : List KeptOpen) (t : Symbol) → machine.after_clause keeps p z k t ≡ machine.after_clause keeps p z k (alike t)
clauses_alike p z k (name x a) = refl
clauses_alike p z k (punct Comma y) = refl
clauses_alike p z k (keyword OmpFill y) = refl
clauses_alike p z k t = refl

start_alike : (t : Symbol) → machine.start_step keeps t ≡ machine.start_step keeps (alike t)
start_alike (name x a) = refl
start_alike (punct Comma z) = refl
start_alike (keyword OmpFill z) = refl
start_alike t = refl

open_alike : (s : KeptState) (t : Symbol) → machine.expect_open keeps s t ≡ machine.expect_open keeps s (alike t)
open_alike s (punct Comma z) = refl
open_alike s (keyword OmpFill z) = refl
open_alike s t = refl

colon_alike : (s : KeptState) (t : Symbol) → machine.expect_colon keeps s t ≡ machine.expect_colon keeps s (alike t)
colon_alike s (punct Comma z) = refl
colon_alike s (keyword OmpFill z) = refl
colon_alike s t = refl

partial_alike : (a : Span) (p : KeptPart) (k : List KeptOpen) (t : Symbol) → machine.partial_step keeps a p k t ≡ machine.partial_step keeps a p k (alike t)
partial_alike a p k (name x z) = refl
partial_alike a p k (punct Comma z) = refl
partial_alike a p k (keyword OmpFill z) = refl
partial_alike a p k t = refl

want_alike : (asked : machine.Asked keeps) (a : Span) (p : KeptPart) (k : List KeptOpen) (t : Symbol) → machine.want_step keeps asked a p k t ≡ machine.want_step keeps asked a p k (alike t)
want_alike (count cs) a p k (punct Comma z) = refl
want_alike (count cs) a p k (keyword OmpFill z) = refl
want_alike (count cs) a p k t = refl
want_alike asked a p k t = refl

pub letter_alike : (asked : machine.Asked keeps) (t : Symbol) → machine.wants_letter keeps asked t ≡ machine.wants_letter keeps asked (alike t)
letter_alike (count cs) (punct Comma z) = refl
letter_alike (count cs) (keyword OmpFill z) = refl
letter_alike (count cs) t = refl
letter_alike asked t = refl

have_alike : (held : machine.Held keeps) (a : Span) (p : KeptPart) (k : List KeptOpen) (t : Symbol) → machine.have_step keeps held a p k t ≡ machine.have_step keeps held a p k (alike t)
have_alike (elements l es) a p k (punct Comma z) = refl
have_alike (elements l es) a p k (keyword OmpFill z) = refl
have_alike (elements l es) a p k t = refl
have_alike (counted cs) a p k (punct Comma z) = refl
have_alike (counted cs) a p k (keyword OmpFill z) = refl
have_alike (counted cs) a p k t = refl
have_alike (first e) a p k (punct Comma z) = refl
have_alike (first e) a p k (keyword OmpFill z) = refl
have_alike (first e) a p k t = refl
have_alike (range e f) a p k (punct Comma z) = refl
have_alike (range e f) a p k (keyword OmpFill z) = refl
have_alike (range e f) a p k t = refl
have_alike (factored e) a p k (punct Comma z) = refl
have_alike (factored e) a p k (keyword OmpFill z) = refl
have_alike (factored e) a p k t = refl

applying_alike : (a : Span) (p : KeptPart) (k : List KeptOpen) (t : Symbol) → machine.applying_step keeps a p k t ≡ machine.applying_step keeps a p k (alike t)
applying_alike a p k (name x z) = refl
applying_alike a p k (punct Comma z) = refl
applying_alike a p k (keyword OmpFill z) = refl
applying_alike a p k t = refl

item_end_alike : (o : KeptOpen) (k : List KeptOpen) (t : Symbol) → machine.item_end keeps o k t ≡ machine.item_end keeps o k (alike t)
item_end_alike o k (punct Comma z) = refl
item_end_alike o k (keyword OmpFill z) = refl
item_end_alike o k t = refl

item_alike : (o : KeptOpen) (k : List KeptOpen) (t : Symbol) → machine.item_step keeps o k t ≡ machine.item_step keeps o k (alike t)
item_alike o k (name x a) = refl
item_alike o k (punct Comma z) = refl
item_alike o k (keyword OmpFill z) = refl
item_alike o k t = refl

after_name_alike : (m : KeptMove) (t : Symbol) → machine.after_name keeps m t ≡ machine.after_name keeps m (alike t)
after_name_alike (leads (clauses p z k)) t = clauses_alike p z k t
after_name_alike (leads (item_read o k)) t = item_end_alike o k t
after_name_alike m t = refl

first_name_alike : (x : Name) (c a : Span) (p : KeptPart) (k : List KeptOpen) (t : Symbol) → machine.first_name_step keeps x c a p k t ≡ machine.first_name_step keeps x c a p k (alike t)
first_name_alike x c a p k (punct Colon b) = refl
first_name_alike x c a p k (punct RoundOpen b) = refl
first_name_alike x c a p k (keyword OmpFill b) = after_name_alike (machine.named_item keeps (is_nothing x) (kind_of x) c (machine.new_open keeps a p None keeps.no_exprs) k) (keyword OmpFill b)
first_name_alike x c a p k t = let y = t in after_name_alike (machine.named_item keeps (is_nothing x) (kind_of x) c (machine.new_open keeps a p None keeps.no_exprs) k) y

step_alike : (s : KeptState) (t : Symbol) → step s t ≡ step s (alike t)
step_alike start t = start_alike t
step_alike (clauses p z k) t = clauses_alike p z k t
step_alike (comma p) t = word_step_alike p [] t
step_alike (opening asked a p k) t = open_alike (wanting asked a p k) t
step_alike (partial a p k) t = partial_alike a p k t
step_alike (apply_word a p k) t = open_alike (applying a p k) t
step_alike (wanting asked a p k) t = want_alike asked a p k t
step_alike (having held a p k) t = have_alike held a p k t
step_alike (indexed m es a p k) t = colon_alike (item (machine.new_open keeps a p (Some m) es) k) t
step_alike (applying a p k) t = applying_alike a p k t
step_alike (first_name x c a p k) t = first_name_alike x c a p k t
step_alike (item o k) t = item_alike o k t
step_alike (item_read o k) t = item_end_alike o k t

pub step_seen : (s : KeptState) (t : Token) → step s (symbol t) ≡ step s (seen t)
step_seen s t = step_alike s (symbol t) ∙ ap (step s) (sym (seen_alike t))

pub letter_seen : (asked : machine.Asked keeps) (t : Token) → machine.wants_letter keeps asked (symbol t) ≡ machine.wants_letter keeps asked (seen t)
letter_seen asked t = letter_alike asked (symbol t) ∙ ap (machine.wants_letter keeps asked) (sym (seen_alike t))
