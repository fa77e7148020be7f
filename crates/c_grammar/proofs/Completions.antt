-- Every goal has a completion: fixed tokens for each kind of open phrase. They never begin with what goes on with an
-- expression.
use Rattle.std.proofs.Common.{◌≡◌, refl, sym, subst, ℕ, inl, List, [], ◌∷◌, Some, None, true, false}
use Rattle.c_tree.specs.Bare.{Name}
use Rattle.c_tree.specs.Placed.{Expr, no_exprs, more_exprs, target, Directive, Stmt, decl, set, empty, Stmts, no_stmts, more_stmts, no_stmt, Param, global, main}
use Rattle.c_tree.specs.declared.tree.Span.{Span}
use Rattle.c_tree.specs.declared.tree.Ty.{Ty}
use Rattle.c_tree.specs.declared.tree.Ty.TheVariants as tys
use Rattle.c_tree.specs.declared.tree.SetOp.TheVariants as op
use Rattle.c_lexer.specs.declared.token.Punct.TheVariants as pn
use Rattle.c_lexer.specs.declared.words.Keyword.TheVariants as kw
use Rattle.pragma_grammar.specs.Symbols.{Symbol, name, number, punct, keyword, line_end, end, place, start_of, spanning}
use Rattle.pragma_grammar.specs.Expressions.{int, no_more, last}
use Rattle.pragma_grammar.specs.Reading.{Stops}
use Rattle.c_grammar.specs.Statements as st
use Rattle.c_grammar.specs.Statements.{assigns, steps, NoElse, TargetPhrase, Simple, Declarator, Declarators, Init, Test, Next, HeadPhrase, Plain, Body, Units}
use Rattle.c_grammar.specs.Programs as pr
use Rattle.c_grammar.specs.Programs.{Signed, Value, Started, started, Global, Globals, Params, Parameters, MayStand, MayBeNamed, MayReturn, Tops}
use Rattle.c_grammar.proofs.Meaning.{ends_here, takes_it, takes_name, takes_number, takes_zero, sign_reads, value_reads, expr_reads, stopping_at, directive_reads, indices_read, listed_reads, assigning, simple_reads, body_reads, closes, units_read, declarators_read, init_reads, params_read, globals_read, tops_read, Meets}
use Rattle.c_grammar.proofs.Classes.{class_stops, stops_false, on_false}
use Rattle.c_grammar.specs.Goals.{Class, round_open, round_close, curly_open, curly_close, square_close, semicolon, comma, assign, else_word, while_word, void_word, print_word, input_word, main_word, int_word, long_word, return_word, pragma_word, omp_word, define_word, the_line_end, fixed, goes_on, Goal, ends, takes, may, names, may_name, numbers, zero, signs, values, at, expr, stopping, directive, subscripts, listed, operator, simple, body, units, declarators, init, params, globals, tops}
use Rattle.c_tree.specs.Placed.{no_clauses, directive as directive_tree, num}
use Rattle.c_tree.specs.declared.tree.Kind.TheVariants as kinds
use Rattle.std.proofs.Common.{codes}
use Rattle.c_lexer.specs.Words.{keyword_of}
use Rattle.c_lexer.specs.declared.token.Token.{Token}
use Rattle.c_lexer.specs.declared.token.Punct.{Punct}
use Rattle.c_lexer.specs.declared.token.TokenKind.TheVariants as kind
use Rattle.pragma_grammar.specs.Symbols.{symbol, symbols}
use Rattle.pragma_grammar.specs.Expressions.{literal}
use Rattle.pragma_grammar.specs.Words.{kind_of}
use Rattle.pragma_grammar.specs.Directives.{directive_phrase, no_clause}

abbrev pub nowhere : Span
nowhere = record { start = 0; end = 0 }

abbrev pub sign_token : Punct → Token
sign_token q = record { kind = kind.Punct q; span = nowhere }

abbrev pub word_token : Name → Token
word_token x = record { kind = kind.Word x; span = nowhere }

abbrev pub zero_token : Token
zero_token = record { kind = kind.Number 0 tys.Int true; span = nowhere }

abbrev pub end_token : Token
end_token = record { kind = kind.End; span = nowhere }

abbrev pub name_token : Token
name_token = word_token (codes "x")

-- a token of each class
abbrev pub token_of : Class → Token
token_of round_open = sign_token pn.RoundOpen
token_of round_close = sign_token pn.RoundClose
token_of curly_open = sign_token pn.CurlyOpen
token_of curly_close = sign_token pn.CurlyClose
token_of square_close = sign_token pn.SquareClose
token_of semicolon = sign_token pn.Semicolon
token_of comma = sign_token pn.Comma
token_of assign = sign_token pn.Assign
token_of else_word = word_token (codes "else")
token_of while_word = word_token (codes "while")
token_of void_word = word_token (codes "void")
token_of print_word = word_token (codes "print")
token_of input_word = word_token (codes "input")
token_of main_word = word_token (codes "main")
token_of int_word = word_token (codes "int")
token_of long_word = word_token (codes "long")
token_of return_word = word_token (codes "return")
token_of pragma_word = word_token (codes "pragma")
token_of omp_word = word_token (codes "omp")
token_of define_word = word_token (codes "define")
token_of the_line_end = record { kind = kind.LineEnd; span = nowhere }

pub class_symbol : (c : Class) → symbol (token_of c) ≡ fixed c nowhere
unfolding keyword_of
class_symbol round_open = refl
class_symbol round_close = refl
class_symbol curly_open = refl
class_symbol curly_close = refl
class_symbol square_close = refl
class_symbol semicolon = refl
class_symbol comma = refl
class_symbol assign = refl
class_symbol else_word = refl
class_symbol while_word = refl
class_symbol void_word = refl
class_symbol print_word = refl
class_symbol input_word = refl
class_symbol main_word = refl
class_symbol int_word = refl
class_symbol long_word = refl
class_symbol return_word = refl
class_symbol pragma_word = refl
class_symbol omp_word = refl
class_symbol define_word = refl
class_symbol the_line_end = refl

name_symbol : symbol name_token ≡ name (codes "x") nowhere
unfolding keyword_of
name_symbol = refl

reverse_symbol : symbol (word_token (codes "reverse")) ≡ name (codes "reverse") nowhere
unfolding keyword_of
reverse_symbol = refl

reverse_kind : kind_of (codes "reverse") ≡ Some kinds.Reverse
unfolding kind_of
reverse_kind = refl

abbrev zero_tree : Expr
zero_tree = num 0 tys.Int nowhere

fixed_start : (c : Class) (ts : List Symbol) → start_of (fixed c nowhere ∷ ts) ≡ 0
fixed_start round_open ts = refl
fixed_start round_close ts = refl
fixed_start curly_open ts = refl
fixed_start curly_close ts = refl
fixed_start square_close ts = refl
fixed_start semicolon ts = refl
fixed_start comma ts = refl
fixed_start assign ts = refl
fixed_start else_word ts = refl
fixed_start while_word ts = refl
fixed_start void_word ts = refl
fixed_start print_word ts = refl
fixed_start input_word ts = refl
fixed_start main_word ts = refl
fixed_start int_word ts = refl
fixed_start long_word ts = refl
fixed_start return_word ts = refl
fixed_start pragma_word ts = refl
fixed_start omp_word ts = refl
fixed_start define_word ts = refl
fixed_start the_line_end ts = refl

abbrev Meaning : Type 1
Meaning = List Started → List Symbol → Type 0

-- tokens that a program is completed by
pub record Completion (f : Meaning) : Type 0 where
  pub program : List Started
  pub tokens : List Token
  pub meets : f program (symbols tokens)
  pub ending : Stops (symbols tokens)
  pub starts : start_of (symbols tokens) ≡ 0

pass : (f g : Meaning) → ((p : List Started) (ts : List Symbol) → Stops ts → start_of ts ≡ 0 → f p ts → g p ts) → Completion f → Completion g
pass f g i d = record { program = d.program; tokens = d.tokens; meets = i d.program (symbols d.tokens) d.ending d.starts d.meets; ending = d.ending; starts = d.starts }

symbol_first : (f : Meaning) (t : Token) (s : Symbol) → symbol t ≡ s → goes_on s ≡ false → (place s).start ≡ 0 → Completion (λ p ts. f p (s ∷ ts)) → Completion f
symbol_first f t s q n z d =
    record {
      program = d.program;
      tokens = t ∷ d.tokens;
      meets = subst (λ x. f d.program (x ∷ symbols d.tokens)) (sym q) d.meets;
      ending = subst (λ x. Stops (x ∷ symbols d.tokens)) (sym q) (on_false s (symbols d.tokens) n);
      starts = subst (λ x. start_of (x ∷ symbols d.tokens) ≡ 0) (sym q) z;
    }

class_first : (f : Meaning) (c : Class) → Completion (λ p ts. f p (fixed c nowhere ∷ ts)) → Completion f
class_first f c d = symbol_first f (token_of c) (fixed c nowhere) (class_symbol c) (stops_false (class_stops c nowhere [])) (fixed_start c []) d

name_first : (f : Meaning) → Completion (λ p ts. f p (name (codes "x") nowhere ∷ ts)) → Completion f
name_first f d = symbol_first f name_token (name (codes "x") nowhere) name_symbol refl refl d

zero_first : (f : Meaning) → Completion (λ p ts. f p (number 0 tys.Int true nowhere ∷ ts)) → Completion f
zero_first f d = symbol_first f zero_token (number 0 tys.Int true nowhere) refl refl refl d

abbrev reverse_tree : Directive
reverse_tree = directive_tree kinds.Reverse no_clauses (spanning nowhere nowhere)

abbrev unset_x : Ty → Stmts
unset_x y = more_stmts (decl y (codes "x") nowhere None nowhere) no_stmts

abbrev empty_body : Stmts
empty_body = more_stmts (empty nowhere) no_stmts

abbrev empty_main : Started
empty_main = started 0 (main no_stmts (spanning nowhere nowhere))

abbrev assigned_x : ℕ → Stmt
assigned_x to = set (target (codes "x") no_exprs (spanning nowhere nowhere)) op.Plain zero_tree (record { start = 0; end = to })

abbrev the_param : Param
the_param = record { ty = tys.Int; name = codes "x"; name_span = nowhere }

main_first : (f : Meaning) → Completion (λ p ts. f p (keyword kw.Int nowhere ∷ keyword kw.Main nowhere ∷ punct pn.RoundOpen nowhere ∷ punct pn.RoundClose nowhere ∷ punct pn.CurlyOpen nowhere ∷ punct pn.CurlyClose nowhere ∷ ts)) → Completion f
main_first f d =
    class_first f int_word (class_first (λ p ts. f p (keyword kw.Int nowhere ∷ ts)) main_word (class_first (λ p ts. f p (keyword kw.Int nowhere ∷ keyword kw.Main nowhere ∷ ts)) round_open
    (class_first (λ p ts. f p (keyword kw.Int nowhere ∷ keyword kw.Main nowhere ∷ punct pn.RoundOpen nowhere ∷ ts)) round_close
    (class_first (λ p ts. f p (keyword kw.Int nowhere ∷ keyword kw.Main nowhere ∷ punct pn.RoundOpen nowhere ∷ punct pn.RoundClose nowhere ∷ ts)) curly_open
    (class_first (λ p ts. f p (keyword kw.Int nowhere ∷ keyword kw.Main nowhere ∷ punct pn.RoundOpen nowhere ∷ punct pn.RoundClose nowhere ∷ punct pn.CurlyOpen nowhere ∷ ts)) curly_close d)))))

empty_tops : (ts : List Symbol) → Tops (empty_main ∷ []) (keyword kw.Int nowhere ∷ keyword kw.Main nowhere ∷ punct pn.RoundOpen nowhere ∷ punct pn.RoundClose nowhere ∷ punct pn.CurlyOpen nowhere ∷ punct pn.CurlyClose nowhere ∷ ts) ts
empty_tops ts = pr.the_main pr.absent st.over pr.goes_off

abbrev pub Met : Goal → List Started → List Symbol → Type 0
Met x p ts = Meets p x ts

pub complete : (x : Goal) → Completion (Met x)
complete (ends q) = record { program = q; tokens = end_token ∷ []; meets = ends_here; ending = on_false (end nowhere) [] refl; starts = refl }
complete (takes c f) = class_first (Met (takes c f)) c (pass (Met (f nowhere)) (λ p ts. Meets p (takes c f) (fixed c nowhere ∷ ts)) (λ p ts n z h. takes_it h) (complete (f nowhere)))
complete (may c f g) = class_first (Met (may c f g)) c (pass (Met (f nowhere)) (λ p ts. Meets p (may c f g) (fixed c nowhere ∷ ts)) (λ p ts n z h. inl (takes_it h)) (complete (f nowhere)))
complete (names f) = name_first (Met (names f)) (pass (Met (f (codes "x") nowhere)) (λ p ts. Meets p (names f) (name (codes "x") nowhere ∷ ts)) (λ p ts n z h. takes_name h) (complete (f (codes "x") nowhere)))
complete (may_name g) = name_first (Met (may_name g)) (pass (Met g) (λ p ts. Meets p (may_name g) (name (codes "x") nowhere ∷ ts)) (λ p ts n z h. inl (takes_name h)) (complete g))
complete (numbers f) = zero_first (Met (numbers f)) (pass (Met (f 0 tys.Int)) (λ p ts. Meets p (numbers f) (number 0 tys.Int true nowhere ∷ ts)) (λ p ts n z h. takes_number h) (complete (f 0 tys.Int)))
complete (zero g) = zero_first (Met (zero g)) (pass (Met g) (λ p ts. Meets p (zero g) (number 0 tys.Int true nowhere ∷ ts)) (λ p ts n z h. takes_zero h) (complete g))
complete (signs f) = zero_first (Met (signs f)) (pass (Met (f false 0 tys.Int)) (λ p ts. Meets p (signs f) (number 0 tys.Int true nowhere ∷ ts)) (λ p ts n z h. sign_reads pr.positive h) (complete (f false 0 tys.Int)))
complete (values f) = zero_first (Met (values f)) (pass (Met (f false 0 tys.Int)) (λ p ts. Meets p (values f) (number 0 tys.Int true nowhere ∷ ts)) (λ p ts n z h. value_reads (pr.bare pr.positive) h) (complete (f false 0 tys.Int)))
complete (at f) = pass (Met (f 0)) (Met (at f)) (λ p ts n z h. subst (λ i. Meets p (f i) ts) (sym z) h) (complete (f 0))
complete (expr f) = zero_first (Met (expr f)) (pass (Met (f zero_tree nowhere)) (λ p ts. Meets p (expr f) (number 0 tys.Int true nowhere ∷ ts)) (λ p ts n z h. expr_reads literal n h) (complete (f zero_tree nowhere)))
complete (stopping g) = pass (Met g) (Met (stopping g)) (λ p ts n z h. stopping_at n h) (complete g)
complete (directive f) =
    symbol_first (Met (directive f)) (word_token (codes "reverse")) (name (codes "reverse") nowhere) reverse_symbol refl refl
    (class_first (λ p ts. Meets p (directive f) (name (codes "reverse") nowhere ∷ ts)) the_line_end
    (pass (Met (f reverse_tree)) (λ p ts. Meets p (directive f) (name (codes "reverse") nowhere ∷ line_end nowhere ∷ ts)) (λ p ts n z h. directive_reads (directive_phrase reverse_kind no_clause) (takes_it h)) (complete (f reverse_tree))))
complete (subscripts a f) = pass (Met (f no_exprs a)) (Met (subscripts a f)) (λ p ts n z h. indices_read no_more n h) (complete (f no_exprs a))
complete (listed f) =
    zero_first (Met (listed f)) (class_first (λ p ts. Meets p (listed f) (number 0 tys.Int true nowhere ∷ ts)) round_close
    (pass (Met (f (more_exprs zero_tree no_exprs) nowhere)) (λ p ts. Meets p (listed f) (number 0 tys.Int true nowhere ∷ punct pn.RoundClose nowhere ∷ ts)) (λ p ts n z h. listed_reads (last literal) h) (complete (f (more_exprs zero_tree no_exprs) nowhere))))
complete (operator f g) = class_first (Met (operator f g)) assign (pass (Met (f op.Plain)) (λ p ts. Meets p (operator f g) (punct pn.Assign nowhere ∷ ts)) (λ p ts n z h. assigning refl h) (complete (f op.Plain)))
complete (simple f) =
    name_first (Met (simple f)) (class_first (λ p ts. Meets p (simple f) (name (codes "x") nowhere ∷ ts)) assign (zero_first (λ p ts. Meets p (simple f) (name (codes "x") nowhere ∷ punct pn.Assign nowhere ∷ ts))
    (pass (Met (f assigned_x nowhere)) (λ p ts. Meets p (simple f) (name (codes "x") nowhere ∷ punct pn.Assign nowhere ∷ number 0 tys.Int true nowhere ∷ ts)) (λ p ts n z h. simple_reads (st.assignment (st.targets no_more) refl literal) n h) (complete (f assigned_x nowhere)))))
complete (body f) = class_first (Met (body f)) semicolon (pass (Met (f empty_body nowhere)) (λ p ts. Meets p (body f) (punct pn.Semicolon nowhere ∷ ts)) (λ p ts n z h. body_reads (st.lone st.nothing) h) (complete (f empty_body nowhere)))
complete (units b f) = class_first (Met (units b f)) curly_close (pass (Met (f no_stmts nowhere)) (λ p ts. Meets p (units b f) (punct pn.CurlyClose nowhere ∷ ts)) (λ p ts n z h. units_read st.over closes h) (complete (f no_stmts nowhere)))
complete (declarators y b f) =
    name_first (Met (declarators y b f)) (class_first (λ p ts. Meets p (declarators y b f) (name (codes "x") nowhere ∷ ts)) semicolon (class_first (λ p ts. Meets p (declarators y b f) (name (codes "x") nowhere ∷ punct pn.Semicolon nowhere ∷ ts)) curly_close
    (pass (Met (f (unset_x y) nowhere)) (λ p ts. Meets p (declarators y b f) (name (codes "x") nowhere ∷ punct pn.Semicolon nowhere ∷ punct pn.CurlyClose nowhere ∷ ts)) (λ p ts n z h. declarators_read (st.last_declarator st.unset) st.over closes h) (complete (f (unset_x y) nowhere)))))
complete (init f) = class_first (Met (init f)) semicolon (pass (Met (f no_stmt)) (λ p ts. Meets p (init f) (punct pn.Semicolon nowhere ∷ ts)) (λ p ts n z h. init_reads st.no_init h) (complete (f no_stmt)))
complete (params f) =
    class_first (Met (params f)) int_word (name_first (λ p ts. Meets p (params f) (keyword kw.Int nowhere ∷ ts)) (class_first (λ p ts. Meets p (params f) (keyword kw.Int nowhere ∷ name (codes "x") nowhere ∷ ts)) round_close
    (pass (Met (f (the_param ∷ []) nowhere)) (λ p ts. Meets p (params f) (keyword kw.Int nowhere ∷ name (codes "x") nowhere ∷ punct pn.RoundClose nowhere ∷ ts)) (λ p ts n z h. params_read (pr.last_param int) h) (complete (f (the_param ∷ []) nowhere)))))
complete (globals y f) =
    name_first (Met (globals y f)) (class_first (λ p ts. Meets p (globals y f) (name (codes "x") nowhere ∷ ts)) semicolon (main_first (λ p ts. Meets p (globals y f) (name (codes "x") nowhere ∷ punct pn.Semicolon nowhere ∷ ts))
    (pass (Met (f (started 0 (global y (codes "x") nowhere no_exprs None) ∷ empty_main ∷ []))) (λ p ts. Meets p (globals y f) (name (codes "x") nowhere ∷ punct pn.Semicolon nowhere ∷ keyword kw.Int nowhere ∷ keyword kw.Main nowhere ∷ punct pn.RoundOpen nowhere ∷ punct pn.RoundClose nowhere ∷ punct pn.CurlyOpen nowhere ∷ punct pn.CurlyClose nowhere ∷ ts)) (λ p ts n z h. globals_read (pr.last_global (pr.plain no_more)) (empty_tops ts) h) (complete (f (started 0 (global y (codes "x") nowhere no_exprs None) ∷ empty_main ∷ []))))))
complete (tops f) = main_first (Met (tops f)) (pass (Met (f (empty_main ∷ []))) (λ p ts. Meets p (tops f) (keyword kw.Int nowhere ∷ keyword kw.Main nowhere ∷ punct pn.RoundOpen nowhere ∷ punct pn.RoundClose nowhere ∷ punct pn.CurlyOpen nowhere ∷ punct pn.CurlyClose nowhere ∷ ts)) (λ p ts n z h. tops_read (empty_tops ts) h) (complete (f (empty_main ∷ []))))
