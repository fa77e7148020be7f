-- Symbols are spelled by at most one program.
use Rattle.std.proofs.Common.{◌≡◌, refl, sym, ap, subst, ℕ, inl, inr, List, [], ◌∷◌, Bool}
use Rattle.c_tree.specs.Placed.{Expr, Exprs, Directive, Stmt, Stmts, MaybeStmt, Param}
use Rattle.c_tree.specs.declared.tree.Span.{Span}
use Rattle.c_tree.specs.declared.tree.Ty.{Ty}
use Rattle.c_lexer.specs.declared.token.Punct.TheVariants as pn
use Rattle.pragma_grammar.specs.Symbols.{Symbol, punct}
use Rattle.pragma_grammar.specs.Expressions.{TypeName, int, long_long, long_long_int, Phrase, Subscripts, no_more, one_more, Listed, last, next}
use Rattle.c_grammar.specs.Statements as st
use Rattle.c_grammar.specs.Statements.{assigns, steps, NoElse, TargetPhrase, Simple, Declarator, Declarators, Init, Test, Next, HeadPhrase, Plain, Body, Units}
use Rattle.c_grammar.specs.Programs as pr
use Rattle.c_grammar.specs.Programs.{Signed, Value, Started, started, Global, Globals, Params, Parameters, MayStand, MayBeNamed, MayReturn, Tops}
use Rattle.c_grammar.proofs.Meaning.{all_is_read, Takes, takes_it, without, nameless, sign_reads, value_reads, ExprReads, expr_reads, stopping_at, DirectiveReads, directive_reads, indices_read, listed_reads, simple_reads, body_reads, Closing, units_read, declarators_read, init_reads, params_read, globals_read, tops_read, Meets, Moves}
use Rattle.c_grammar.specs.Goals as gl
use Rattle.c_grammar.specs.Goals.{Class, round_open, round_close, curly_open, curly_close, square_close, semicolon, comma, assign, else_word, while_word, void_word, print_word, input_word, main_word, int_word, long_word, return_word, pragma_word, omp_word, define_word, the_line_end, fixed, take, goes_on, Goal, ends, takes, may, names, may_name, numbers, zero, signs, values, at, expr, stopping, directive, subscripts, listed, operator, simple, body, units, declarators, init, params, globals, tops, Move, stuck, leads, reads, directs, accepts}
use Rattle.std.proofs.Common.{suc, ◌≤◌, ◌<◌, length, ◌∙◌, arith}
use Rattle.c_tree.specs.Placed.{Program}
use Rattle.c_lexer.specs.declared.token.Token.{Token}
use Rattle.pragma_grammar.specs.Symbols.{symbols}
use Rattle.pragma_grammar.specs.Expressions.{literal, named, parens, unary, convert, binary, choice}
use Rattle.pragma_grammar.specs.Directives.{DirectivePhrase, directive_phrase}
use Rattle.pragma_grammar.specs.Reading.{EndsLine, ends_line}
use Rattle.c_grammar.specs.Programs.{tops_of, SpellsSymbols, spells, Spells}
use Rattle.c_grammar.proofs.Meaning.{AllRead}
use Rattle.c_grammar.proofs.Steps.{step_to}
use Rattle.c_grammar.proofs.Letters.{phrase_some, one_expr}
use Rattle.c_grammar.proofs.Lines.{to_line, line_itself, directive_line, line_length}
use Rattle.c_grammar.proofs.OneDirective.{one_directive}
use Rattle.c_grammar.proofs.Reached.{program_to}

-- ---- no goal is met by no symbols

listed_none : {es : Exprs} {us : List Symbol} → Listed es [] us → ⊥
listed_none (last h) = phrase_some h
listed_none (next h i) = phrase_some h

value_none : {minus : Bool} {n : ℕ} {y : Ty} {us : List Symbol} → Value minus n y [] us → ⊥
value_none (pr.bare q) = elim q [ ]

simple_none : {s : ℕ → Stmt} {z : Span} {us : List Symbol} → Simple s z [] us → ⊥
simple_none (st.assignment r q w) = elim r [ ]
simple_none (st.step_after r q) = elim r [ ]

plain_none : {s : Stmt} {z : Span} {us : List Symbol} → Plain s z [] us → ⊥
plain_none (st.simply q) = simple_none q
plain_none (st.reads q r) = elim r [ ]

body_none : {ss : Stmts} {z : Span} {us : List Symbol} → Body ss z [] us → ⊥
body_none (st.lone q) = plain_none q

units_none : {b : Bool} {ss : Stmts} {z : Span} {us vs : List Symbol} → Units ss [] us → Closing b us (punct pn.CurlyClose z ∷ vs) → ⊥
units_none st.over c = elim c [ ]
units_none (st.next q u) c = plain_none q
units_none (st.declared n d u) c = elim n [ ]

declarators_none : {y : Ty} {from : ℕ} {ss rs : Stmts} {us : List Symbol} → Declarators y from ss rs [] us → ⊥
declarators_none (st.last_declarator d) = elim d [ ]
declarators_none (st.next_declarator d e) = elim d [ ]

init_none : {s : MaybeStmt} {y : Span} {us : List Symbol} → Init s [] (punct pn.Semicolon y ∷ us) → ⊥
init_none (st.declares n w) = elim n [ ]
init_none (st.begins q) = simple_none q

params_none : {ps : List Param} {us : List Symbol} → Params ps [] us → ⊥
params_none (pr.last_param n) = elim n [ ]
params_none (pr.next_param n q) = elim n [ ]

globals_none : {y : Ty} {from : ℕ} {items rest : List Started} {us : List Symbol} → Globals y from items rest [] us → ⊥
globals_none (pr.last_global d) = elim d [ ]
globals_none (pr.next_global d e) = elim d [ ]

tops_none : {items : List Started} {us : List Symbol} → Tops items [] us → ⊥
tops_none (pr.printer e n b u) = elim e [ ]
tops_none (pr.reader pr.absent n v u) = elim n [ ]
tops_none (pr.variables n d u) = elim n [ ]

nothing_left : (p : List Started) (x : Goal) → Meets p x [] → ⊥
nothing_left p (ends q) h = elim h [ ]
nothing_left p (takes c f) h = elim h [ ]
nothing_left p (may c f g) (inl h) = elim h [ ]
nothing_left p (may c f g) (inr (without n h)) = nothing_left p g h
nothing_left p (names f) h = elim h [ ]
nothing_left p (may_name g) (inl h) = elim h [ ]
nothing_left p (may_name g) (inr (nameless n h)) = nothing_left p g h
nothing_left p (numbers f) h = elim h [ ]
nothing_left p (zero g) h = elim h [ ]
nothing_left p (signs f) (sign_reads q h) = elim q [ ]
nothing_left p (values f) (value_reads q h) = value_none q
nothing_left p (at f) h = nothing_left p (f 0) h
nothing_left p (expr f) (expr_reads h n k) = phrase_some h
nothing_left p (stopping g) (stopping_at n h) = elim n [ ]
nothing_left p (directive f) (directive_reads h k) = elim h [ ]
nothing_left p (subscripts a f) (indices_read no_more n h) = elim n [ ]
nothing_left p (listed f) (listed_reads l h) = listed_none l
nothing_left p (operator f g) h = elim h [ ]
nothing_left p (simple f) (simple_reads q n h) = simple_none q
nothing_left p (body f) (body_reads q h) = body_none q
nothing_left p (units b f) (units_read u c h) = units_none u c
nothing_left p (declarators y b f) (declarators_read d u c h) = declarators_none d
nothing_left p (init f) (init_reads i h) = init_none i
nothing_left p (params f) (params_read q h) = params_none q
nothing_left p (globals y f) (globals_read d u h) = globals_none d
nothing_left p (tops f) (tops_read x h) = tops_none x

-- ---- what is left after an expression or a directive is shorter

type_shorter : {y : Ty} {ts us : List Symbol} → TypeName y ts us → length us ≤ length ts
type_shorter int = omega arith
type_shorter long_long = omega arith
type_shorter long_long_int = omega arith

mutual
  phrase_shorter : {r : ℕ} {e : Expr} {w : Span} {ts us : List Symbol} → Phrase r e w ts us → length us < length ts
  phrase_shorter literal = omega arith
  phrase_shorter (named h) = let l = subscripts_shorter h in omega arith
  phrase_shorter (parens h) = let l = phrase_shorter h in omega arith
  phrase_shorter (unary q b h) = let l = phrase_shorter h in omega arith
  phrase_shorter (convert b n h) = let k = type_shorter n in let l = phrase_shorter h in omega arith
  phrase_shorter (binary q b h i) = let k = phrase_shorter h in let l = phrase_shorter i in omega arith
  phrase_shorter (choice b h i j) = let k = phrase_shorter h in let l = phrase_shorter i in let m = phrase_shorter j in omega arith

  subscripts_shorter : {es : Exprs} {a z : Span} {ts us : List Symbol} → Subscripts es a z ts us → length us ≤ length ts
  subscripts_shorter no_more = omega arith
  subscripts_shorter (one_more h i) = let k = phrase_shorter h in let l = subscripts_shorter i in omega arith

named_line : {b : Bool} {d : Directive} {t : Symbol} {ts us : List Symbol} → DirectivePhrase b d (t ∷ ts) us → to_line (t ∷ ts) ≡ to_line ts
named_line (directive_phrase q h) = refl

line_shorter : (ts us : List Symbol) → us ≡ to_line ts → length us ≤ length ts
line_shorter ts us q = let l = line_length ts in let e = ap length q in omega arith

directive_shorter : {b : Bool} {d : Directive} {t : Symbol} {ts us : List Symbol} → DirectivePhrase b d (t ∷ ts) us → EndsLine us → length us ≤ length ts
directive_shorter {ts = ts} {us = us} h n = line_shorter ts us (sym (line_itself n) ∙ sym (directive_line h) ∙ named_line h)

-- ---- two programs that complete one goal

line_ends : {f : Span → List Symbol → Type 0} {us : List Symbol} → Takes the_line_end f us → EndsLine us
line_ends (takes_it h) = ends_line

all_same : {p q r : List Started} {ts us : List Symbol} → AllRead p r ts → AllRead q r us → p ≡ q
all_same all_is_read all_is_read = refl

expr_programs : (n : ℕ) (p q : List Started) (f : Expr → Span → Goal) (t : Symbol) (ts : List Symbol) → length ts ≤ n → ((x : Goal) (us : List Symbol) → length us ≤ n → Meets p x us → Meets q x us → p ≡ q) → ExprReads (λ e w us. Meets p (f e w) us) (t ∷ ts) → ExprReads (λ e w us. Meets q (f e w) us) (t ∷ ts) → p ≡ q
expr_programs n p q f t ts l ih (expr_reads {e = e} {w = w} {us = us} h m k) (expr_reads {e = e'} {w = w'} {us = vs} h' m' k') =
    let o = one_expr (e, w) (e', w') (t ∷ ts) us vs h m h' m' in
    let s = phrase_shorter h in
    ih (f e w) us (omega arith) k (subst (λ x. Meets q (f x.0 x.1) us) (sym o.0) (subst (λ x. Meets q (f e' w') x) (sym o.1) k'))

directive_programs : (n : ℕ) (p q : List Started) (f : Directive → Goal) (t : Symbol) (ts : List Symbol) → length ts ≤ n → ((x : Goal) (us : List Symbol) → length us ≤ n → Meets p x us → Meets q x us → p ≡ q) → DirectiveReads (λ d us. Meets p (f d) us) (t ∷ ts) → DirectiveReads (λ d us. Meets q (f d) us) (t ∷ ts) → p ≡ q
directive_programs n p q f t ts l ih (directive_reads {d = d} {us = us} h k) (directive_reads {d = e} {us = vs} h' k') =
    let o = one_directive d e (t ∷ ts) us vs h (line_ends k) h' (line_ends k') in
    let s = directive_shorter h (line_ends k) in
    ih (takes the_line_end (λ z. f d)) us (omega arith) k (subst (λ x. Takes the_line_end (λ z ws. Meets q (f x) ws) us) (sym o.0) (subst (λ x. Takes the_line_end (λ z ws. Meets q (f e) ws) x) (sym o.1) k'))

moved_programs : (n : ℕ) (p q : List Started) (m : Move) (t : Symbol) (ts : List Symbol) → length ts ≤ n → ((x : Goal) (us : List Symbol) → length us ≤ n → Meets p x us → Meets q x us → p ≡ q) → Moves p m t ts → Moves q m t ts → p ≡ q
moved_programs n p q stuck t ts l ih h k = absurd h
moved_programs n p q (leads y) t ts l ih h k = ih y ts l h k
moved_programs n p q (reads f) t ts l ih h k = expr_programs n p q f t ts l ih h k
moved_programs n p q (directs f) t ts l ih h k = directive_programs n p q f t ts l ih h k
moved_programs n p q (accepts r) t ts l ih h k = all_same h k

same_program : (n : ℕ) (p q : List Started) (x : Goal) (ts : List Symbol) → length ts ≤ n → Meets p x ts → Meets q x ts → p ≡ q
same_program n p q x [] l h k = absurd (nothing_left p x h)
same_program ℕ.zero p q x (t ∷ ts) l h k = absurd (omega arith)
same_program (suc n) p q x (t ∷ ts) l h k = moved_programs n p q (gl.step x t) t ts (omega arith) (same_program n p q) (step_to p x t ts h) (step_to q x t ts k)

pub one_spelled : (p q : List Started) (ts : List Symbol) → SpellsSymbols p ts → SpellsSymbols q ts → p ≡ q
one_spelled p q ts h k = same_program (length ts) p q gl.program_goal ts (omega arith) (program_to p ts h) (program_to q ts k)

pub one_program : (p q : Program) (tokens : List Token) → Spells p tokens → Spells q tokens → p ≡ q
one_program p q tokens h k = h.same ∙ ap tops_of (one_spelled h.items k.items (symbols tokens) h.spelled k.spelled) ∙ sym k.same
