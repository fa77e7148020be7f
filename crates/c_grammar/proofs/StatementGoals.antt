-- A statement, a body, a list and a declaration are spelled exactly as their goals say.
use Rattle.std.proofs.Common.{◌≡◌, refl, sym, subst, ℕ, inl, inr, List, [], ◌∷◌, Option, Some, None, Bool, true, false}
use Rattle.c_tree.specs.Bare.{Name}
use Rattle.c_tree.specs.Placed.{Expr, Exprs, Target, target, Stmt, set, for_, Stmts, no_stmts, more_stmts, MaybeStmt, head}
use Rattle.c_tree.specs.declared.tree.Span.{Span}
use Rattle.c_tree.specs.declared.tree.Ty.{Ty}
use Rattle.c_tree.specs.declared.tree.Ty.TheVariants as tys
use Rattle.c_tree.specs.declared.tree.SetOp.{SetOp}
use Rattle.c_tree.specs.declared.tree.SetOp.TheVariants as op
use Rattle.c_lexer.specs.declared.token.Punct.TheVariants as pn
use Rattle.c_lexer.specs.declared.words.Keyword.TheVariants as kw
use Rattle.pragma_grammar.specs.Symbols.{Symbol, name, punct, keyword, hash, place, start_of, spanning}
use Rattle.pragma_grammar.specs.Expressions.{TypeName, int, long_long, long_long_int, Phrase, Subscripts}
use Rattle.pragma_grammar.specs.Reading.{Stops}
use Rattle.c_grammar.specs.Statements as st
use Rattle.c_grammar.specs.Statements.{assigns, steps, NoElse, TargetPhrase, Simple, Declarator, Declarators, Init, Test, Next, HeadPhrase, Plain, Body, Units}
use Rattle.c_grammar.specs.Programs.{Started}
use Rattle.c_grammar.proofs.Meaning.{Takes, takes_it, without, takes_name, takes_zero, ExprReads, expr_reads, directive_reads, indices_read, listed_reads, assigning, stepping, SimpleReads, simple_reads, PlainReads, plain_reads, BodyReads, body_reads, closes, closes_returned, UnitsRead, units_read, DeclaratorsRead, declarators_read, InitReads, init_reads, Meets, Moves}
use Rattle.c_grammar.proofs.Classes.{none_some, Absent, class_stops, assigns_stops, steps_stops, assigns_round, steps_round, steps_close, subscripts_round, no_input, no_semicolon, no_close, phrase_absent, listed_absent}
use Rattle.c_grammar.specs.Goals as gl
use Rattle.c_grammar.specs.Goals.{Class, round_open, round_close, curly_open, curly_close, square_close, semicolon, comma, assign, else_word, while_word, void_word, print_word, input_word, main_word, int_word, long_word, return_word, pragma_word, omp_word, define_word, the_line_end, fixed, take, goes_on, Goal, ends, takes, may, names, may_name, numbers, zero, signs, values, at, expr, stopping, directive, subscripts, listed, operator, simple, body, units, declarators, init, params, globals, tops, Move, stuck, leads, reads, directs, accepts}
use Rattle.c_grammar.proofs.Parts.{LongReads, long_reads, long_from, StepFirst, step_first, step_first_from, step_first_to, simple_to, simple_from}

-- ---- `else`

pub else_absent : (ts : List Symbol) → NoElse ts → Absent else_word ts
else_absent [] n = tt
else_absent (keyword kw.Else s ∷ ts) n = absurd n
else_absent (t ∷ ts) n = refl

pub absent_else : (ts : List Symbol) → Absent else_word ts → NoElse ts
absent_else [] n = tt
absent_else (keyword kw.Else s ∷ ts) n = absurd (none_some (sym n))
absent_else (t ∷ ts) n = tt

-- ---- heads of `for`

simple_absent : {s : ℕ → Stmt} {z : Span} {ts us : List Symbol} → Simple s z ts us → Absent round_close ts
simple_absent (st.assignment (st.targets r) q w) = refl
simple_absent (st.step_after (st.targets r) q) = refl
simple_absent (st.step_before {t = t} {up = up} q r) = steps_close t up q

next_to : (p : List Started) (a : Span) (f : Stmt → Span → Goal) (i : MaybeStmt) (at_i : ℕ) (test : Option Expr) (at_j : ℕ) {n : MaybeStmt} {ts us vs : List Symbol} {c z : Span} {ss : Stmts} → Next n ts (punct pn.RoundClose c ∷ us) → Body ss z us vs → Meets p (f (for_ (head i at_i test at_j n (start_of ts)) ss (spanning a z)) z) vs → Meets p (gl.next_goal a f i at_i test at_j (start_of ts)) ts
next_to p a f i at_i test at_j st.no_next v h = inl (takes_it (body_reads v h))
next_to p a f i at_i test at_j (st.goes_on q) v h = inr (without (simple_absent q) (simple_reads q (class_stops round_close _ _) (takes_it (body_reads v h))))

test_to : (p : List Started) (a : Span) (f : Stmt → Span → Goal) (i : MaybeStmt) (at_i : ℕ) {test : Option Expr} {n : MaybeStmt} {ts us vs ws : List Symbol} {c y z : Span} {ss : Stmts} → Test test ts (punct pn.Semicolon y ∷ us) → Next n us (punct pn.RoundClose c ∷ vs) → Body ss z vs ws → Meets p (f (for_ (head i at_i test (start_of ts) n (start_of us)) ss (spanning a z)) z) ws → Meets p (gl.test_goal a f i at_i (start_of ts)) ts
test_to p a f i at_i {us = us} st.no_test q v h = inl (takes_it (next_to p a f i at_i None _ q v h))
test_to p a f i at_i {us = us} (st.tests {e = e} w) q v h = inr (without (phrase_absent no_semicolon w) (expr_reads w (class_stops semicolon _ _) (takes_it (next_to p a f i at_i (Some e) _ q v h))))

-- ---- assignments and readings

assigned_to : (p : List Started) (x : Target) (v : Span) (f : Stmt → Span → Goal) (o : SetOp) {e : Expr} {w z : Span} {ts us : List Symbol} → Phrase 0 e w ts (punct pn.Semicolon z ∷ us) → Meets p (f (set x o e (record { start = v.start; end = z.end })) z) us → Meets p (gl.assigned x v f o) ts
assigned_to p x v f op.Plain w h = inr (without (phrase_absent no_input w) (expr_reads w (class_stops semicolon _ _) (takes_it h)))
assigned_to p x v f o w h = expr_reads w (class_stops semicolon _ _) (takes_it h)

assigned_plain : (p : List Started) (f : Stmt → Span → Goal) {x : Name} {es : Exprs} {a z : Span} {t : Symbol} {ts us : List Symbol} → Subscripts es a z ts (t ∷ us) → assigns t ≡ Some op.Plain → Meets p (gl.assigned (target x es (spanning a z)) (spanning a z) f op.Plain) us → PlainReads (λ s y vs. Meets p (f s y) vs) (name x a ∷ ts)
assigned_plain p f r q (inl (takes_it (takes_it (takes_it (takes_it h))))) = plain_reads (st.reads q (st.targets r)) h
assigned_plain p f r q (inr (without n (expr_reads w m (takes_it h)))) = plain_reads (st.simply (st.assignment (st.targets r) q w)) h

assigned_other : (p : List Started) (f : Stmt → Span → Goal) (o : SetOp) {x : Name} {es : Exprs} {a z : Span} {t : Symbol} {ts us : List Symbol} → Subscripts es a z ts (t ∷ us) → assigns t ≡ Some o → ExprReads (λ e w vs. Meets p (gl.ends_statement f (λ to. set (target x es (spanning a z)) o e (record { start = a.start; end = to })) w) vs) us → PlainReads (λ s y vs. Meets p (f s y) vs) (name x a ∷ ts)
assigned_other p f o r q (expr_reads w m (takes_it h)) = plain_reads (st.simply (st.assignment (st.targets r) q w)) h

assigned_whole : (p : List Started) (f : Stmt → Span → Goal) (o : SetOp) {x : Name} {es : Exprs} {a z : Span} {t : Symbol} {ts us : List Symbol} → Subscripts es a z ts (t ∷ us) → assigns t ≡ Some o → Meets p (gl.assigned (target x es (spanning a z)) (spanning a z) f o) us → PlainReads (λ s y vs. Meets p (f s y) vs) (name x a ∷ ts)
assigned_whole p f op.Plain r q h = assigned_plain p f r q h
assigned_whole p f o r q h = let b = o in assigned_other p f b r q h

-- ---- statements

-- a word that is spelled so
pub word_takes : {f : Span → List Symbol → Type 0} {x y : Name} {a : Span} {ts : List Symbol} (c : Class) → x ≡ y → Takes c f (name y a ∷ ts) → Takes c f (name x a ∷ ts)
word_takes {f = f} {a = a} {ts = ts} c q h = subst (λ z. Takes c f (name z a ∷ ts)) (sym q) h

plain_first : (p : List Started) (f : Stmt → Span → Goal) (t : Symbol) (ts : List Symbol) → Moves p (gl.on_step_first (gl.ends_statement f) t) t ts → Moves p (gl.begin f t) t ts
plain_first p f (punct pn.Semicolon a) ts h = absurd h
plain_first p f (name x a) ts h = absurd h
plain_first p f (keyword kw.Print a) ts h = absurd h
plain_first p f (keyword kw.If a) ts h = absurd h
plain_first p f (keyword kw.While a) ts h = absurd h
plain_first p f (keyword kw.Do a) ts h = absurd h
plain_first p f (keyword kw.For a) ts h = absurd h
plain_first p f (keyword kw.Break a) ts h = absurd h
plain_first p f (keyword kw.Continue a) ts h = absurd h
plain_first p f (hash a) ts h = absurd h
plain_first p f t ts h = h

pub plain_to : (p : List Started) (f : Stmt → Span → Goal) (t : Symbol) (ts : List Symbol) {s : Stmt} {z : Span} {us : List Symbol} → Plain s z (t ∷ ts) us → Meets p (f s z) us → Moves p (gl.begin f t) t ts
plain_to p f t ts st.nothing h = h
plain_to p f t ts (st.simply (st.assignment {t = u} {o = o} (st.targets {x = x} {es = es} {a = a} {z = y} r) q w)) h = inr (without (subscripts_round r (assigns_round u o q)) (indices_read r (assigns_stops _ q) (assigning q (assigned_to p (target x es (spanning a y)) (spanning a y) f o w h))))
plain_to p f t ts (st.simply (st.step_after {t = u} {up = up} (st.targets r) q)) h = inr (without (subscripts_round r (steps_round u up q)) (indices_read r (steps_stops _ q) (stepping q (takes_it h))))
plain_to p f t ts (st.simply (st.step_before q r)) h = plain_first p f t ts (step_first_to p (gl.ends_statement f) t ts (step_first q r (class_stops semicolon _ _) (takes_it h)))
plain_to p f t ts (st.reads {t = u} q (st.targets r)) h = inr (without (subscripts_round r (assigns_round u op.Plain q)) (indices_read r (assigns_stops _ q) (assigning q (inl (takes_it (takes_it (takes_it (takes_it h))))))))
plain_to p f t ts (st.prints w) h = takes_it (expr_reads w (class_stops round_close _ _) (takes_it (takes_it h)))
plain_to p f t ts st.calls h = inl (takes_it (inl (takes_it (takes_it h))))
plain_to p f t ts (st.calls_with l) h = inl (takes_it (inr (without (listed_absent no_close l) (listed_reads l (takes_it h)))))
plain_to p f t ts (st.decides w v n) h = takes_it (expr_reads w (class_stops round_close _ _) (takes_it (body_reads v (inr (without (else_absent _ n) h)))))
plain_to p f t ts (st.chooses w v u) h = takes_it (expr_reads w (class_stops round_close _ _) (takes_it (body_reads v (inl (takes_it (body_reads u h))))))
plain_to p f t ts (st.repeats w v) h = takes_it (expr_reads w (class_stops round_close _ _) (takes_it (body_reads v h)))
plain_to p f t ts (st.does v w) h = body_reads v (takes_it (takes_it (expr_reads w (class_stops round_close _ _) (takes_it (takes_it h)))))
plain_to p f t ts (st.loops {a = a} (st.three_parts i j n) v) h = takes_it (init_reads i (test_to p a f _ _ j n v h))
plain_to p f t ts st.breaks h = takes_it h
plain_to p f t ts st.continues h = takes_it h
plain_to p f t ts (st.transforms q r d v) h = word_takes pragma_word q (takes_it (word_takes omp_word r (takes_it (directive_reads d (takes_it (body_reads v h))))))

plain_of_first : (p : List Started) (f : Stmt → Span → Goal) {ts : List Symbol} → StepFirst (λ s z us. Meets p (gl.ends_statement f s z) us) ts → PlainReads (λ s z us. Meets p (f s z) us) ts
plain_of_first p f (step_first q r n (takes_it h)) = plain_reads (st.simply (st.step_before q r)) h

pub plain_from : (p : List Started) (f : Stmt → Span → Goal) (t : Symbol) (ts : List Symbol) → Moves p (gl.begin f t) t ts → PlainReads (λ s z us. Meets p (f s z) us) (t ∷ ts)
plain_from p f (punct pn.Semicolon a) ts h = plain_reads st.nothing h
plain_from p f (name x a) ts (inl (takes_it (inl (takes_it (takes_it h))))) = plain_reads st.calls h
plain_from p f (name x a) ts (inl (takes_it (inr (without n (listed_reads l (takes_it h)))))) = plain_reads (st.calls_with l) h
plain_from p f (name x a) ts (inr (without n (indices_read r m (assigning {o = o} q h)))) = assigned_whole p f o r q h
plain_from p f (name x a) ts (inr (without n (indices_read r m (stepping q (takes_it h))))) = plain_reads (st.simply (st.step_after (st.targets r) q)) h
plain_from p f (keyword kw.Print a) ts (takes_it (expr_reads w m (takes_it (takes_it h)))) = plain_reads (st.prints w) h
plain_from p f (keyword kw.If a) ts (takes_it (expr_reads w m (takes_it (body_reads v (inl (takes_it (body_reads u h))))))) = plain_reads (st.chooses w v u) h
plain_from p f (keyword kw.If a) ts (takes_it (expr_reads w m (takes_it (body_reads v (inr (without n h)))))) = plain_reads (st.decides w v (absent_else _ n)) h
plain_from p f (keyword kw.While a) ts (takes_it (expr_reads w m (takes_it (body_reads v h)))) = plain_reads (st.repeats w v) h
plain_from p f (keyword kw.Do a) ts (body_reads v (takes_it (takes_it (expr_reads w m (takes_it (takes_it h)))))) = plain_reads (st.does v w) h
plain_from p f (keyword kw.For a) ts (takes_it (init_reads i (inl (takes_it (inl (takes_it (body_reads v h))))))) = plain_reads (st.loops (st.three_parts i st.no_test st.no_next) v) h
plain_from p f (keyword kw.For a) ts (takes_it (init_reads i (inl (takes_it (inr (without n (simple_reads q m (takes_it (body_reads v h))))))))) = plain_reads (st.loops (st.three_parts i st.no_test (st.goes_on q)) v) h
plain_from p f (keyword kw.For a) ts (takes_it (init_reads i (inr (without n (expr_reads w m (takes_it (inl (takes_it (body_reads v h))))))))) = plain_reads (st.loops (st.three_parts i (st.tests w) st.no_next) v) h
plain_from p f (keyword kw.For a) ts (takes_it (init_reads i (inr (without n (expr_reads w m (takes_it (inr (without o (simple_reads q l (takes_it (body_reads v h))))))))))) = plain_reads (st.loops (st.three_parts i (st.tests w) (st.goes_on q)) v) h
plain_from p f (keyword kw.Break a) ts (takes_it h) = plain_reads st.breaks h
plain_from p f (keyword kw.Continue a) ts (takes_it h) = plain_reads st.continues h
plain_from p f (hash a) ts (takes_it (takes_it (directive_reads d (takes_it (body_reads v h))))) = plain_reads (st.transforms refl refl d v) h
plain_from p f t ts h = let z = t in plain_of_first p f (step_first_from p (gl.ends_statement f) z ts h)

-- ---- bodies

body_plain : (p : List Started) (f : Stmts → Span → Goal) (t : Symbol) (ts : List Symbol) → Moves p (gl.begin (λ s z. f (more_stmts s no_stmts) z) t) t ts → Moves p (gl.on_body f t) t ts
body_plain p f (punct pn.CurlyOpen a) ts h = absurd h
body_plain p f t ts h = h

pub body_to : (p : List Started) (f : Stmts → Span → Goal) (t : Symbol) (ts : List Symbol) → BodyReads (λ ss z us. Meets p (f ss z) us) (t ∷ ts) → Moves p (gl.on_body f t) t ts
body_to p f t ts (body_reads (st.braced u) h) = units_read u closes h
body_to p f t ts (body_reads (st.lone q) h) = body_plain p f t ts (plain_to p (λ s z. f (more_stmts s no_stmts) z) t ts q h)

lone_body : {f : Stmts → Span → List Symbol → Type 0} {ts : List Symbol} → PlainReads (λ s z us. f (more_stmts s no_stmts) z us) ts → BodyReads f ts
lone_body (plain_reads q h) = body_reads (st.lone q) h

pub body_from : (p : List Started) (f : Stmts → Span → Goal) (t : Symbol) (ts : List Symbol) → Moves p (gl.on_body f t) t ts → BodyReads (λ ss z us. Meets p (f ss z) us) (t ∷ ts)
body_from p f (punct pn.CurlyOpen a) ts (units_read u closes h) = body_reads (st.braced u) h
body_from p f t ts h = let z = t in lone_body (plain_from p (λ s y. f (more_stmts s no_stmts) y) z ts h)

-- ---- declarations

pub data DeclaratorReads (y : Ty) (from : ℕ) (f : (ℕ → Stmts → Stmts) → Span → List Symbol → Type 0) (ts : List Symbol) : Type 0 where
  declarator_reads : {ss : ℕ → Stmts → Stmts} {z : Span} {us : List Symbol} → Declarator y from ss z ts us → f ss z us → DeclaratorReads y from f ts

declarator_to : (p : List Started) (y : Ty) (from : ℕ) (f : (ℕ → Stmts → Stmts) → Span → Goal) {ss : ℕ → Stmts → Stmts} {z : Span} {ts us : List Symbol} → Declarator y from ss z ts us → Stops us → Absent assign us → Meets p (f ss z) us → Meets p (names (λ x a. gl.declarator y from x a f)) ts
declarator_to p y from f st.unset m n h = takes_name (inr (without n h))
declarator_to p y from f (st.valued w) m n h = takes_name (inl (takes_it (inr (without (phrase_absent no_input w) (expr_reads w m h)))))
declarator_to p y from f st.read_in m n h = takes_name (inl (takes_it (inl (takes_it (takes_it (takes_it h))))))

declarator_from : (p : List Started) (y : Ty) (from : ℕ) (f : (ℕ → Stmts → Stmts) → Span → Goal) (ts : List Symbol) → Meets p (names (λ x a. gl.declarator y from x a f)) ts → DeclaratorReads y from (λ ss z us. Meets p (f ss z) us) ts
declarator_from p y from f ts (takes_name (inr (without n h))) = declarator_reads st.unset h
declarator_from p y from f ts (takes_name (inl (takes_it (inr (without n (expr_reads w m h)))))) = declarator_reads (st.valued w) h
declarator_from p y from f ts (takes_name (inl (takes_it (inl (takes_it (takes_it (takes_it h))))))) = declarator_reads st.read_in h

declaration_to : (p : List Started) (y : Ty) (from : ℕ) (b : Bool) (f : Stmts → Span → Goal) {ts : List Symbol} → DeclaratorsRead y from b (λ ss z us. Meets p (f ss z) us) ts → Meets p (gl.declaration y from b f) ts
declaration_to p y from b f (declarators_read (st.last_declarator d) u c h) = declarator_to p y from (gl.declared y b f) d (class_stops semicolon _ _) refl (inr (without refl (takes_it (units_read u c h))))
declaration_to p y from b f (declarators_read (st.next_declarator d e) u c h) = declarator_to p y from (gl.declared y b f) d (class_stops comma _ _) refl (inl (takes_it (declarators_read e u c h)))

declared_from : (p : List Started) (y : Ty) (from : ℕ) (b : Bool) (f : Stmts → Span → Goal) {ts : List Symbol} → DeclaratorReads y from (λ ss z us. Meets p (gl.declared y b f ss z) us) ts → DeclaratorsRead y from b (λ ss z us. Meets p (f ss z) us) ts
declared_from p y from b f (declarator_reads d (inl (takes_it (declarators_read e u c h)))) = declarators_read (st.next_declarator d e) u c h
declared_from p y from b f (declarator_reads d (inr (without n (takes_it (units_read u c h))))) = declarators_read (st.last_declarator d) u c h

declaration_from : (p : List Started) (y : Ty) (from : ℕ) (b : Bool) (f : Stmts → Span → Goal) (ts : List Symbol) → Meets p (gl.declaration y from b f) ts → DeclaratorsRead y from b (λ ss z us. Meets p (f ss z) us) ts
declaration_from p y from b f ts h = declared_from p y from b f (declarator_from p y from (gl.declared y b f) ts h)

named_declarators : (p : List Started) (y : Ty) (b : Bool) (f : Stmts → Span → Goal) (t : Symbol) (ts : List Symbol) → Meets p (gl.declaration y (place t).start b f) (t ∷ ts) → Moves p (gl.on_declarators y b f t) t ts
named_declarators p y b f t ts (takes_name h) = h

pub declarators_to : (p : List Started) (y : Ty) (b : Bool) (f : Stmts → Span → Goal) (t : Symbol) (ts : List Symbol) → DeclaratorsRead y (place t).start b (λ ss z us. Meets p (f ss z) us) (t ∷ ts) → Moves p (gl.on_declarators y b f t) t ts
declarators_to p y b f t ts h = named_declarators p y b f t ts (declaration_to p y (place t).start b f h)

pub declarators_from : (p : List Started) (y : Ty) (b : Bool) (f : Stmts → Span → Goal) (t : Symbol) (ts : List Symbol) → Moves p (gl.on_declarators y b f t) t ts → DeclaratorsRead y (place t).start b (λ ss z us. Meets p (f ss z) us) (t ∷ ts)
declarators_from p y b f (name x a) ts h = declaration_from p y a.start b f (name x a ∷ ts) (takes_name h)
declarators_from p y b f t ts h = absurd h

-- ---- lists

declarator_absent : {y : Ty} {from : ℕ} {ss : ℕ → Stmts → Stmts} {z : Span} {ts us : List Symbol} → Declarator y from ss z ts us → Absent int_word ts
declarator_absent st.unset = refl
declarator_absent (st.valued w) = refl
declarator_absent st.read_in = refl

declarators_absent : {y : Ty} {from : ℕ} {ss rs : Stmts} {ts us : List Symbol} → Declarators y from ss rs ts us → Absent int_word ts
declarators_absent (st.last_declarator d) = declarator_absent d
declarators_absent (st.next_declarator d e) = declarator_absent d

units_plain : (p : List Started) (b : Bool) (f : Stmts → Span → Goal) (t : Symbol) (ts : List Symbol) → Moves p (gl.begin (λ s y. units b (λ ss. f (more_stmts s ss))) t) t ts → Moves p (gl.in_units b f t) t ts
units_plain p b f (punct pn.CurlyOpen a) ts h = absurd h
units_plain p b f (punct pn.CurlyClose a) ts h = absurd h
units_plain p b f (keyword kw.Return a) ts h = absurd h
units_plain p b f (keyword kw.Int a) ts h = absurd h
units_plain p b f (keyword kw.Long a) ts h = absurd h
units_plain p b f t ts h = h

units_typed : (p : List Started) (b : Bool) (f : Stmts → Span → Goal) (t : Symbol) (ts : List Symbol) {y : Ty} {us : List Symbol} → TypeName y (t ∷ ts) us → Absent int_word us → Meets p (gl.declaration y (place t).start b f) us → Moves p (gl.in_units b f t) t ts
units_typed p b f t ts int n h = h
units_typed p b f t ts long_long n h = takes_it (inr (without n h))
units_typed p b f t ts long_long_int n h = takes_it (inl (takes_it h))

pub units_to : (p : List Started) (b : Bool) (f : Stmts → Span → Goal) (t : Symbol) (ts : List Symbol) → UnitsRead b (λ ss z us. Meets p (f ss z) us) (t ∷ ts) → Moves p (gl.in_units b f t) t ts
units_to p b f t ts (units_read st.over closes h) = h
units_to p b f t ts (units_read st.over closes_returned h) = takes_zero (takes_it (takes_it h))
units_to p b f t ts (units_read (st.next q u) c h) = units_plain p b f t ts (plain_to p (λ s y. units b (λ ss. f (more_stmts s ss))) t ts q (units_read u c h))
units_to p b f t ts (units_read (st.inner u v) c h) = units_read u closes (units_read v c h)
units_to p b f t ts (units_read (st.declared {ty = y} n d u) c h) = units_typed p b f t ts n (declarators_absent d) (declaration_to p y (place t).start b f (declarators_read d u c h))

units_of_plain : (p : List Started) (b : Bool) (f : Stmts → Span → Goal) {ts : List Symbol} → PlainReads (λ s y us. Meets p (units b (λ ss. f (more_stmts s ss))) us) ts → UnitsRead b (λ ss z us. Meets p (f ss z) us) ts
units_of_plain p b f (plain_reads q (units_read u c h)) = units_read (st.next q u) c h

return_from : (p : List Started) (b : Bool) (f : Stmts → Span → Goal) (a : Span) (ts : List Symbol) → Moves p (gl.on_return b f) (keyword kw.Return a) ts → UnitsRead b (λ ss z us. Meets p (f ss z) us) (keyword kw.Return a ∷ ts)
return_from p true f a ts (takes_zero (takes_it (takes_it h))) = units_read st.over closes_returned h
return_from p false f a ts h = absurd h

units_of_int : (p : List Started) (b : Bool) (f : Stmts → Span → Goal) (a : Span) (ts : List Symbol) → DeclaratorsRead tys.Int a.start b (λ ss z us. Meets p (f ss z) us) ts → UnitsRead b (λ ss z us. Meets p (f ss z) us) (keyword kw.Int a ∷ ts)
units_of_int p b f a ts (declarators_read d u c h) = units_read (st.declared int d u) c h

long_declared : {b : Bool} {f : Stmts → Span → List Symbol → Type 0} {a : Span} {ts us : List Symbol} → TypeName tys.Long (keyword kw.Long a ∷ ts) us → DeclaratorsRead tys.Long a.start b f us → UnitsRead b f (keyword kw.Long a ∷ ts)
long_declared n (declarators_read d u c h) = units_read (st.declared n d u) c h

units_of_long : (p : List Started) (b : Bool) (f : Stmts → Span → Goal) (a : Span) (ts : List Symbol) → LongReads (λ us. Meets p (gl.declaration tys.Long a.start b f) us) a ts → UnitsRead b (λ ss z us. Meets p (f ss z) us) (keyword kw.Long a ∷ ts)
units_of_long p b f a ts (long_reads n h) = long_declared n (declaration_from p tys.Long a.start b f _ h)

pub units_from : (p : List Started) (b : Bool) (f : Stmts → Span → Goal) (t : Symbol) (ts : List Symbol) → Moves p (gl.in_units b f t) t ts → UnitsRead b (λ ss z us. Meets p (f ss z) us) (t ∷ ts)
units_from p b f (punct pn.CurlyOpen a) ts (units_read u closes (units_read v c h)) = units_read (st.inner u v) c h
units_from p b f (punct pn.CurlyClose z) ts h = units_read st.over closes h
units_from p b f (keyword kw.Return a) ts h = return_from p b f a ts h
units_from p b f (keyword kw.Int a) ts h = units_of_int p b f a ts (declaration_from p tys.Int a.start b f ts h)
units_from p b f (keyword kw.Long a) ts h = units_of_long p b f a ts (long_from p (gl.declaration tys.Long a.start b f) a ts h)
units_from p b f t ts h = let z = t in units_of_plain p b f (plain_from p (λ s y. units b (λ ss. f (more_stmts s ss))) z ts h)

-- ---- the first part of a head

init_first : (p : List Started) (f : MaybeStmt → Goal) (t : Symbol) (ts : List Symbol) → Moves p (gl.on_simple (gl.init_simple f) t) t ts → Moves p (gl.on_init f t) t ts
init_first p f (punct pn.Semicolon a) ts h = absurd h
init_first p f (keyword kw.Int a) ts h = absurd h
init_first p f (keyword kw.Long a) ts h = absurd h
init_first p f t ts h = h

init_typed : (p : List Started) (f : MaybeStmt → Goal) (t : Symbol) (ts : List Symbol) {y : Ty} {us : List Symbol} → TypeName y (t ∷ ts) us → Absent int_word us → Meets p (gl.init_declares y (place t).start f) us → Moves p (gl.on_init f t) t ts
init_typed p f t ts int n h = h
init_typed p f t ts long_long n h = takes_it (inr (without n h))
init_typed p f t ts long_long_int n h = takes_it (inl (takes_it h))

pub init_to : (p : List Started) (f : MaybeStmt → Goal) (t : Symbol) (ts : List Symbol) → InitReads (λ s us. Meets p (f s) us) (t ∷ ts) → Moves p (gl.on_init f t) t ts
init_to p f t ts (init_reads st.no_init h) = h
init_to p f t ts (init_reads (st.declares n w) h) = init_typed p f t ts n refl (takes_name (takes_it (expr_reads w (class_stops semicolon _ _) (takes_it h))))
init_to p f t ts (init_reads (st.begins q) h) = init_first p f t ts (simple_to p (gl.init_simple f) t ts (simple_reads q (class_stops semicolon _ _) (takes_it h)))

init_of_simple : (p : List Started) (f : MaybeStmt → Goal) {ts : List Symbol} → SimpleReads (λ s z us. Meets p (gl.init_simple f s z) us) ts → InitReads (λ s us. Meets p (f s) us) ts
init_of_simple p f (simple_reads q m (takes_it h)) = init_reads (st.begins q) h

init_of_long : (p : List Started) (f : MaybeStmt → Goal) (a : Span) (ts : List Symbol) → LongReads (λ us. Meets p (gl.init_declares tys.Long a.start f) us) a ts → InitReads (λ s us. Meets p (f s) us) (keyword kw.Long a ∷ ts)
init_of_long p f a ts (long_reads n (takes_name (takes_it (expr_reads w m (takes_it h))))) = init_reads (st.declares n w) h

pub init_from : (p : List Started) (f : MaybeStmt → Goal) (t : Symbol) (ts : List Symbol) → Moves p (gl.on_init f t) t ts → InitReads (λ s us. Meets p (f s) us) (t ∷ ts)
init_from p f (punct pn.Semicolon a) ts h = init_reads st.no_init h
init_from p f (keyword kw.Int a) ts (takes_name (takes_it (expr_reads w m (takes_it h)))) = init_reads (st.declares int w) h
init_from p f (keyword kw.Long a) ts h = init_of_long p f a ts (long_from p (gl.init_declares tys.Long a.start f) a ts h)
init_from p f t ts h = let z = t in init_of_simple p f (simple_from p (gl.init_simple f) z ts h)
