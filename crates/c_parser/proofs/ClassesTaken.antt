-- The first of the tokens that are left: its class, and what comes where it is taken or left.
use Rattle.std.proofs.Common.{◌≡◌, ◌↔◌, Bool, true, false, IsTrue, List, [], ◌∷◌, drop, Option, Some, None, codes, refl, sym, ap, ◌∙◌, subst}
use Rattle.std.specs.Prelude.{cond, bytes_eq, Ok, Err}
use Rattle.c_tree.specs.Bare.{Name}
use Rattle.c_tree.specs.declared.tree.Span.{Span}
use Rattle.c_lexer.specs.declared.token.Token.{Token}
use Rattle.c_lexer.specs.declared.token.TokenKind.TheVariants as kind
use Rattle.c_lexer.specs.declared.token.Punct.{Punct}
use Rattle.c_lexer.specs.declared.token.Punct.TheVariants as p
use Rattle.c_lexer.specs.declared.words.Keyword.{Keyword}
use Rattle.c_lexer.specs.declared.words.Keyword.TheVariants as k
use Rattle.c_lexer.specs.Words.{keyword_of}
use Rattle.pragma_grammar.specs.declared.phrase.ParseFault.{ParseFault}
use Rattle.pragma_grammar.specs.Symbols.{Symbol, symbol, symbol_of, word_symbol, is_static, name, punct, keyword, static, line_end, end, place}
use Rattle.pragma_grammar.specs.Reading.{EndsText}
use Rattle.pragma_grammar.proofs.Terminals.{symbol_place}
use Rattle.c_parser.specs.declared.cursor.Class as code
use Rattle.c_parser.specs.declared.cursor.Class.TheVariants as c
use Rattle.c_grammar.specs.Goals as g
use Rattle.c_grammar.specs.Goals.{Goal, takes, may, at, Class, fixed, take, took, step, stuck}
use Rattle.c_parser.specs.Comes.{Comes, goes, alike, sticks, Fails, IsBlamed}
use Rattle.c_parser.specs.Cursor.{class_of, class_of_punct, class_of_keyword, class_at, found_class, class_of_word, IsFound, IsTaken, IsMayTaken, IsPlace}
use Rattle.c_grammar.proofs.Classes.{none_some, false_true, take_is}

-- ---- the class of a symbol

class_fixed : (a : code.Class) (z : Span) → class_at (fixed (class_of a) z) ≡ Some a
class_fixed c.RoundOpen z = refl
class_fixed c.RoundClose z = refl
class_fixed c.CurlyOpen z = refl
class_fixed c.CurlyClose z = refl
class_fixed c.SquareClose z = refl
class_fixed c.Semicolon z = refl
class_fixed c.Comma z = refl
class_fixed c.Assign z = refl
class_fixed c.Else z = refl
class_fixed c.While z = refl
class_fixed c.Void z = refl
class_fixed c.Print z = refl
class_fixed c.Input z = refl
class_fixed c.Main z = refl
class_fixed c.Int z = refl
class_fixed c.Long z = refl
class_fixed c.Return z = refl
class_fixed c.Pragma z = refl
class_fixed c.Omp z = refl
class_fixed c.Define z = refl
class_fixed c.LineEnd z = refl

same_class : {a b : code.Class} → Some a ≡ Some b → a ≡ b
same_class q = cc

-- a symbol of one class, where it is of that class
of_class : (a b : code.Class) (s : Symbol) (z : Span) → Some a ≡ Some b → take (class_of a) s ≡ Some z → take (class_of b) s ≡ Some z
of_class a b s z q h = subst (λ x. take (class_of x) s ≡ Some z) (same_class q) h

punct_of : (a : code.Class) (x : Punct) (s : Span) → class_of_punct x ≡ Some a → take (class_of a) (punct x s) ≡ Some s
punct_of a p.RoundOpen s q = of_class c.RoundOpen a _ s q refl
punct_of a p.RoundClose s q = of_class c.RoundClose a _ s q refl
punct_of a p.CurlyOpen s q = of_class c.CurlyOpen a _ s q refl
punct_of a p.CurlyClose s q = of_class c.CurlyClose a _ s q refl
punct_of a p.SquareClose s q = of_class c.SquareClose a _ s q refl
punct_of a p.Semicolon s q = of_class c.Semicolon a _ s q refl
punct_of a p.Comma s q = of_class c.Comma a _ s q refl
punct_of a p.Assign s q = of_class c.Assign a _ s q refl
punct_of a x s q = absurd (none_some q)

keyword_of_class : (a : code.Class) (x : Keyword) (s : Span) → class_of_keyword x ≡ Some a → take (class_of a) (keyword x s) ≡ Some s
keyword_of_class a k.Else s q = of_class c.Else a _ s q refl
keyword_of_class a k.While s q = of_class c.While a _ s q refl
keyword_of_class a k.Void s q = of_class c.Void a _ s q refl
keyword_of_class a k.Print s q = of_class c.Print a _ s q refl
keyword_of_class a k.Input s q = of_class c.Input a _ s q refl
keyword_of_class a k.Main s q = of_class c.Main a _ s q refl
keyword_of_class a k.Int s q = of_class c.Int a _ s q refl
keyword_of_class a k.Long s q = of_class c.Long a _ s q refl
keyword_of_class a k.Return s q = of_class c.Return a _ s q refl
keyword_of_class a x s q = absurd (none_some q)

abbrev first_of_three : Bool → Bool → Bool → Option code.Class
first_of_three x y z = cond x (Some c.Pragma) (cond y (Some c.Omp) (cond z (Some c.Define) None))

name_of_class : (a : code.Class) (x : Name) (s : Span) (i j l : Bool) → bytes_eq x (codes "pragma") ≡ i → bytes_eq x (codes "omp") ≡ j → bytes_eq x (codes "define") ≡ l → first_of_three i j l ≡ Some a → take (class_of a) (name x s) ≡ Some s
name_of_class a x s true j l e f g q = of_class c.Pragma a (name x s) s q (ap (λ b. cond b (Some s) None) e)
name_of_class a x s false true l e f g q = of_class c.Omp a (name x s) s q (ap (λ b. cond b (Some s) None) f)
name_of_class a x s false false true e f g q = of_class c.Define a (name x s) s q (ap (λ b. cond b (Some s) None) g)
name_of_class a x s false false false e f g q = absurd (none_some q)

class_taken : (a : code.Class) (s : Symbol) → class_at s ≡ Some a → take (class_of a) s ≡ Some (place s)
class_taken a (punct x s) q = punct_of a x s q
class_taken a (keyword x s) q = keyword_of_class a x s q
class_taken a (name x s) q = name_of_class a x s (bytes_eq x (codes "pragma")) (bytes_eq x (codes "omp")) (bytes_eq x (codes "define")) refl refl refl q
class_taken a (line_end s) q = of_class c.LineEnd a (line_end s) s q refl
class_taken a t q = absurd (none_some q)

not_taken : (a : code.Class) (s : Symbol) (o : Option Span) → take (class_of a) s ≡ o → (class_at s ≡ Some a → ⊥) → o ≡ None
not_taken a s None q n = refl
not_taken a s (Some z) q n = absurd (n (ap class_at (take_is (class_of a) s z q) ∙ class_fixed a z))

-- the token is of the class exactly where its class is that one
pub other_class : (a : code.Class) (t : Token) → class_at (symbol t) ≡ None → take (class_of a) (symbol t) ≡ None
other_class a t q = not_taken a (symbol t) (take (class_of a) (symbol t)) refl (λ h. none_some (sym q ∙ h))

pub same_as : (a found : code.Class) (b : Bool) (t : Token) → class_at (symbol t) ≡ Some found → (IsTrue b ↔ (found ≡ a)) → take (class_of a) (symbol t) ≡ cond b (Some t.span) None
same_as a found true t q h = class_taken a (symbol t) (q ∙ ap Some (h.0 refl)) ∙ ap Some (symbol_place t)
same_as a found false t q h = not_taken a (symbol t) (take (class_of a) (symbol t)) refl (λ e. false_true (h.1 (same_class (sym q ∙ e))))

left_out_class : (word : Name) (b : Bool) (s : Span) → class_at (cond b (static s) (keyword k.LeftOut s)) ≡ None
left_out_class word true s = refl
left_out_class word false s = refl

found_word : (word : Name) (x : Option Keyword) (s : Span) → class_at (word_symbol word x s) ≡ found_class word x
found_word word None s = refl
found_word word (Some k.LeftOut) s = left_out_class word (is_static word) s
found_word word (Some x) s = refl

pub word_class : (word : Name) (s : Span) → class_at (symbol_of (kind.Word word) s) ≡ class_of_word word
word_class word s = found_word word (keyword_of word) s

-- ---- the last token is of no class

end_of_none : (a : Class) (s : Span) → take a (end s) ≡ None
end_of_none g.round_open s = refl
end_of_none g.round_close s = refl
end_of_none g.curly_open s = refl
end_of_none g.curly_close s = refl
end_of_none g.square_close s = refl
end_of_none g.semicolon s = refl
end_of_none g.comma s = refl
end_of_none g.assign s = refl
end_of_none g.else_word s = refl
end_of_none g.while_word s = refl
end_of_none g.void_word s = refl
end_of_none g.print_word s = refl
end_of_none g.input_word s = refl
end_of_none g.main_word s = refl
end_of_none g.int_word s = refl
end_of_none g.long_word s = refl
end_of_none g.return_word s = refl
end_of_none g.pragma_word s = refl
end_of_none g.omp_word s = refl
end_of_none g.define_word s = refl
end_of_none g.the_line_end s = refl

pub past : (a : Class) (t : Token) (us : List Token) (z : Span) → EndsText (t ∷ us) → take a (symbol t) ≡ Some z → EndsText us
past a t [] z h q = absurd (none_some (sym (end_of_none a t.span) ∙ subst (λ x. take a (symbol_of x t.span) ≡ Some z) h q))
past a t (u ∷ us) z h q = h

pub past_first : (a : Class) (t : Token) (ts : List Token) (z : Span) → EndsText ts → ts ≡ t ∷ drop 1 ts → take a (symbol t) ≡ Some z → EndsText (drop 1 ts)
past_first a t ts z h q e = past a t (drop 1 ts) z (subst EndsText q h) e

pub not_empty : (ts : List Token) → EndsText ts → (ts ≡ [] → ⊥)
not_empty [] h q = h
not_empty (t ∷ ts) h q = let z : t ∷ ts ≡ [] = q in cc

-- ---- what comes

pub found_some : (a : Class) (ts us : List Token) (z : Span) → IsFound a ts (Some z) us → IsTaken a ts (Ok z) us
found_some a ts us z h f o g = subst (λ l. Comes (takes a f) l o) (sym h.1) (goes (ap (λ m. took f m stuck) h.2) g)

pub found_none : (a : Class) (ts us : List Token) (fault : ParseFault) → EndsText ts → IsFound a ts None us → IsBlamed us fault → IsTaken a ts (Err fault) us
found_none a [] us fault e h b f = absurd e
found_none a (t ∷ ts) us fault e h b f =
    subst (λ z. Fails (takes a f) (t ∷ ts) z) (sym (b t ts h.0)) (sticks (ap (λ m. took f m stuck) (h.1 t ts refl)))

pub may_found : (a : Class) (ts us : List Token) (r : Option Span) → EndsText ts → IsFound a ts r us → IsMayTaken a ts r us
may_found a ts us (Some z) e h = λ f g o i. subst (λ l. Comes (may a f g) l o) (sym h.1) (goes (ap (λ m. took f m (step g (symbol h.0))) h.2) i)
may_found a [] us None e h = absurd e
may_found a (t ∷ ts) us None e h = λ f g o i. alike (ap (λ m. took f m (step g (symbol t))) (h.1 t ts refl)) (subst (λ l. Comes g l o) h.0 i)

-- the place of the first token
pub placed_first : (t : Token) (ts : List Token) → ts ≡ t ∷ drop 1 ts → IsPlace ts t.span.start
placed_first t ts q = λ f o h. subst (λ l. Comes (at f) l o) (sym q) (alike (ap (λ s. step (f s.start) (symbol t)) (symbol_place t)) (subst (λ l. Comes (f t.span.start) l o) q h))
