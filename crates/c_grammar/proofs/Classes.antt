-- The classes of symbols: which symbols they are, and which go on with an expression.
use Rattle.std.proofs.Common.{◌≡◌, refl, sym, ap, ◌∙◌, ℕ, List, [], ◌∷◌, Option, Some, None, Bool, true, false, codes}
use Rattle.std.specs.Prelude.{bytes_eq, cond}
use Rattle.std.proofs.lemmas.Slice.Eq.{bytes_eq-Decides}
use Rattle.c_tree.specs.Bare.{Name}
use Rattle.c_tree.specs.Placed.{Expr, Exprs}
use Rattle.c_tree.specs.declared.tree.Span.{Span}
use Rattle.c_tree.specs.declared.tree.BinOp.{BinOp}
use Rattle.c_tree.specs.declared.tree.UnOp.{UnOp}
use Rattle.c_tree.specs.declared.tree.SetOp.{SetOp}
use Rattle.c_lexer.specs.declared.token.Punct.TheVariants as p
use Rattle.c_lexer.specs.declared.words.Keyword.TheVariants as k
use Rattle.pragma_grammar.specs.Symbols.{Symbol, name, number, punct, keyword, line_end}
use Rattle.pragma_grammar.specs.Expressions.{unary_of, binary_of, Phrase, Listed, last, next, literal, named, parens, unary, convert, binary, choice, Subscripts, no_more, one_more}
use Rattle.pragma_grammar.specs.Reading.{GoesOn, by_operator, by_question, by_square, Stops, stops}
use Rattle.c_grammar.specs.Statements.{assigns, steps}
use Rattle.c_grammar.specs.Goals.{Class, round_open, round_close, curly_open, curly_close, square_close, semicolon, comma, assign, else_word, while_word, void_word, print_word, input_word, main_word, int_word, long_word, return_word, pragma_word, omp_word, define_word, the_line_end, fixed, take, goes_on, is_some_operator}

pub none_some : {A : Type 0} {x : A} → None ≡ Some x → ⊥
none_some q = cc

some_same : {A : Type 0} {x y : A} → Some x ≡ Some y → x ≡ y
some_same q = cc

pub false_true : false ≡ true → ⊥
false_true q = cc

not_true : (b : Bool) → (b ≡ true → ⊥) → b ≡ false
not_true true f = absurd (f refl)
not_true false f = refl

-- ---- a class has one symbol at each place

pub take_fixed : (c : Class) (z : Span) → take c (fixed c z) ≡ Some z
take_fixed round_open z = refl
take_fixed round_close z = refl
take_fixed curly_open z = refl
take_fixed curly_close z = refl
take_fixed square_close z = refl
take_fixed semicolon z = refl
take_fixed comma z = refl
take_fixed assign z = refl
take_fixed else_word z = refl
take_fixed while_word z = refl
take_fixed void_word z = refl
take_fixed print_word z = refl
take_fixed input_word z = refl
take_fixed main_word z = refl
take_fixed int_word z = refl
take_fixed long_word z = refl
take_fixed return_word z = refl
take_fixed pragma_word z = refl
take_fixed omp_word z = refl
take_fixed define_word z = refl
take_fixed the_line_end z = refl

spelled_is : (x y : Name) (s z : Span) (b : Bool) → bytes_eq x y ≡ b → cond b (Some s) None ≡ Some z → name x s ≡ name y z
spelled_is x y s z true e q = ap (λ w. name w s) ((bytes_eq-Decides x y).0 e) ∙ ap (name y) (some_same q)
spelled_is x y s z false e q = absurd (none_some q)

pub take_is : (c : Class) (t : Symbol) (z : Span) → take c t ≡ Some z → t ≡ fixed c z
take_is round_open (punct p.RoundOpen s) z q = ap (punct p.RoundOpen) (some_same q)
take_is round_close (punct p.RoundClose s) z q = ap (punct p.RoundClose) (some_same q)
take_is curly_open (punct p.CurlyOpen s) z q = ap (punct p.CurlyOpen) (some_same q)
take_is curly_close (punct p.CurlyClose s) z q = ap (punct p.CurlyClose) (some_same q)
take_is square_close (punct p.SquareClose s) z q = ap (punct p.SquareClose) (some_same q)
take_is semicolon (punct p.Semicolon s) z q = ap (punct p.Semicolon) (some_same q)
take_is comma (punct p.Comma s) z q = ap (punct p.Comma) (some_same q)
take_is assign (punct p.Assign s) z q = ap (punct p.Assign) (some_same q)
take_is else_word (keyword k.Else s) z q = ap (keyword k.Else) (some_same q)
take_is while_word (keyword k.While s) z q = ap (keyword k.While) (some_same q)
take_is void_word (keyword k.Void s) z q = ap (keyword k.Void) (some_same q)
take_is print_word (keyword k.Print s) z q = ap (keyword k.Print) (some_same q)
take_is input_word (keyword k.Input s) z q = ap (keyword k.Input) (some_same q)
take_is main_word (keyword k.Main s) z q = ap (keyword k.Main) (some_same q)
take_is int_word (keyword k.Int s) z q = ap (keyword k.Int) (some_same q)
take_is long_word (keyword k.Long s) z q = ap (keyword k.Long) (some_same q)
take_is return_word (keyword k.Return s) z q = ap (keyword k.Return) (some_same q)
take_is pragma_word (name x s) z q = spelled_is x (codes "pragma") s z (bytes_eq x (codes "pragma")) refl q
take_is omp_word (name x s) z q = spelled_is x (codes "omp") s z (bytes_eq x (codes "omp")) refl q
take_is define_word (name x s) z q = spelled_is x (codes "define") s z (bytes_eq x (codes "define")) refl q
take_is the_line_end (line_end s) z q = ap line_end (some_same q)
take_is c t z q = absurd (none_some q)

-- ---- no symbol of the class stands first

abbrev pub Absent : Class → List Symbol → Type 0
Absent c [] = Unit {0}
Absent c (t ∷ ts) = take c t ≡ None

-- ---- what goes on with an expression

operator_true : (t : Symbol) (o : BinOp) → binary_of t ≡ Some o → goes_on t ≡ true
operator_true (punct p.Question a) o q = refl
operator_true (punct p.SquareOpen a) o q = refl
operator_true t o q = ap is_some_operator q

goes_true : {t : Symbol} → GoesOn t → goes_on t ≡ true
goes_true (by_operator {t = t} {o = o} q) = operator_true t o q
goes_true by_question = refl
goes_true by_square = refl

operator_goes : (t : Symbol) (o : Option BinOp) → binary_of t ≡ o → is_some_operator o ≡ true → GoesOn t
operator_goes t None e q = absurd (false_true q)
operator_goes t (Some o) e q = by_operator e

true_goes : (t : Symbol) → goes_on t ≡ true → GoesOn t
true_goes (punct p.Question a) q = by_question
true_goes (punct p.SquareOpen a) q = by_square
true_goes t q = let z = t in operator_goes z (binary_of z) refl q

pub on_false : (t : Symbol) (ts : List Symbol) → goes_on t ≡ false → Stops (t ∷ ts)
on_false t ts q = stops (λ g. false_true (sym q ∙ goes_true g))

pub stops_false : {t : Symbol} {ts : List Symbol} → Stops (t ∷ ts) → goes_on t ≡ false
stops_false (stops {t = t} f) = not_true (goes_on t) (λ q. f (true_goes t q))

fixed_false : (c : Class) (z : Span) → goes_on (fixed c z) ≡ false
fixed_false round_open z = refl
fixed_false round_close z = refl
fixed_false curly_open z = refl
fixed_false curly_close z = refl
fixed_false square_close z = refl
fixed_false semicolon z = refl
fixed_false comma z = refl
fixed_false assign z = refl
fixed_false else_word z = refl
fixed_false while_word z = refl
fixed_false void_word z = refl
fixed_false print_word z = refl
fixed_false input_word z = refl
fixed_false main_word z = refl
fixed_false int_word z = refl
fixed_false long_word z = refl
fixed_false return_word z = refl
fixed_false pragma_word z = refl
fixed_false omp_word z = refl
fixed_false define_word z = refl
fixed_false the_line_end z = refl

pub class_stops : (c : Class) (z : Span) (ts : List Symbol) → Stops (fixed c z ∷ ts)
class_stops c z ts = on_false (fixed c z) ts (fixed_false c z)

-- ---- operators of assignments and steps

assigns_false : (t : Symbol) (o : SetOp) → assigns t ≡ Some o → goes_on t ≡ false
assigns_false (punct p.Assign s) o q = refl
assigns_false (punct p.PlusAssign s) o q = refl
assigns_false (punct p.MinusAssign s) o q = refl
assigns_false (punct p.StarAssign s) o q = refl
assigns_false (punct p.SlashAssign s) o q = refl
assigns_false (punct p.PercentAssign s) o q = refl
assigns_false t o q = absurd (none_some q)

pub assigns_stops : {t : Symbol} {o : SetOp} (ts : List Symbol) → assigns t ≡ Some o → Stops (t ∷ ts)
assigns_stops {t = t} {o = o} ts q = on_false t ts (assigns_false t o q)

steps_false : (t : Symbol) (up : Bool) → steps t ≡ Some up → goes_on t ≡ false
steps_false (punct p.PlusPlus s) up q = refl
steps_false (punct p.MinusMinus s) up q = refl
steps_false t up q = absurd (none_some q)

pub steps_stops : {t : Symbol} {up : Bool} (ts : List Symbol) → steps t ≡ Some up → Stops (t ∷ ts)
steps_stops {t = t} {up = up} ts q = on_false t ts (steps_false t up q)

pub steps_assigns : (t : Symbol) (up : Bool) → steps t ≡ Some up → assigns t ≡ None
steps_assigns (punct p.PlusPlus s) up q = refl
steps_assigns (punct p.MinusMinus s) up q = refl
steps_assigns t up q = absurd (none_some q)

-- no `(` comes after a target
pub assigns_round : (t : Symbol) (o : SetOp) → assigns t ≡ Some o → take round_open t ≡ None
assigns_round (punct p.Assign s) o q = refl
assigns_round (punct p.PlusAssign s) o q = refl
assigns_round (punct p.MinusAssign s) o q = refl
assigns_round (punct p.StarAssign s) o q = refl
assigns_round (punct p.SlashAssign s) o q = refl
assigns_round (punct p.PercentAssign s) o q = refl
assigns_round t o q = absurd (none_some q)

pub steps_round : (t : Symbol) (up : Bool) → steps t ≡ Some up → take round_open t ≡ None
steps_round (punct p.PlusPlus s) up q = refl
steps_round (punct p.MinusMinus s) up q = refl
steps_round t up q = absurd (none_some q)

pub subscripts_round : {es : Exprs} {a z : Span} {ts us : List Symbol} → Subscripts es a z ts us → Absent round_open us → Absent round_open ts
subscripts_round no_more n = n
subscripts_round (one_more w q) n = refl

-- ---- what no expression begins with

pub data Foreign : Class → Type 0 where
  no_input : Foreign input_word
  no_semicolon : Foreign semicolon
  no_close : Foreign round_close

number_absent : {c : Class} → Foreign c → (n : ℕ) (t : _) (b : Bool) (a : Span) → take c (number n t b a) ≡ None
number_absent no_input n t b a = refl
number_absent no_semicolon n t b a = refl
number_absent no_close n t b a = refl

name_absent : {c : Class} → Foreign c → (x : Name) (a : Span) → take c (name x a) ≡ None
name_absent no_input x a = refl
name_absent no_semicolon x a = refl
name_absent no_close x a = refl

open_absent : {c : Class} → Foreign c → (a : Span) → take c (punct p.RoundOpen a) ≡ None
open_absent no_input a = refl
open_absent no_semicolon a = refl
open_absent no_close a = refl

unary_absent : {c : Class} → Foreign c → (t : Symbol) (o : UnOp) → unary_of t ≡ Some o → take c t ≡ None
unary_absent no_input (punct s a) o q = refl
unary_absent no_semicolon (punct p.Plus a) o q = refl
unary_absent no_semicolon (punct p.Minus a) o q = refl
unary_absent no_semicolon (punct p.Bang a) o q = refl
unary_absent no_close (punct p.Plus a) o q = refl
unary_absent no_close (punct p.Minus a) o q = refl
unary_absent no_close (punct p.Bang a) o q = refl
unary_absent f t o q = absurd (none_some q)

pub phrase_absent : {c : Class} {r : ℕ} {e : Expr} {w : Span} {ts us : List Symbol} → Foreign c → Phrase r e w ts us → Absent c ts
phrase_absent f (literal {n = n} {ty = t} {plain_zero = b} {a = a}) = number_absent f n t b a
phrase_absent f (named {x = x} {a = a} q) = name_absent f x a
phrase_absent f (parens {a = a} h) = open_absent f a
phrase_absent f (unary {t = t} {o = o} q l h) = unary_absent f t o q
phrase_absent f (convert {a = a} l n h) = open_absent f a
phrase_absent f (binary q l h i) = phrase_absent f h
phrase_absent f (choice l h i j) = phrase_absent f h

pub listed_absent : {c : Class} {es : Exprs} {ts us : List Symbol} → Foreign c → Listed es ts us → Absent c ts
listed_absent f (last h) = phrase_absent f h
listed_absent f (next h i) = phrase_absent f h

-- nor an assignment or a step
pub steps_close : (t : Symbol) (up : Bool) → steps t ≡ Some up → take round_close t ≡ None
steps_close (punct p.PlusPlus s) up q = refl
steps_close (punct p.MinusMinus s) up q = refl
steps_close t up q = absurd (none_some q)
