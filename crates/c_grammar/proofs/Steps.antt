-- One step: what completes a goal is what completes the goal that a symbol leads to.
use Rattle.std.proofs.Common.{◌≡◌, refl, sym, subst, ℕ, ◌⊎◌, inl, inr, List, ◌∷◌, Option, Some, None, true}
use Rattle.std.specs.Prelude.{cond}
use Rattle.c_tree.specs.Bare.{Name}
use Rattle.c_tree.specs.Placed.{Exprs, no_exprs, more_exprs}
use Rattle.c_tree.specs.declared.tree.Span.{Span}
use Rattle.c_tree.specs.declared.tree.Ty.{Ty}
use Rattle.pragma_grammar.specs.Symbols.{Symbol, name, number, end, place}
use Rattle.pragma_grammar.specs.Expressions.{last, next}
use Rattle.c_grammar.specs.Programs.{Started}
use Rattle.c_grammar.proofs.Meaning.{all_is_read, ends_here, Takes, takes_it, Without, without, TakesName, takes_name, Unnamed, Nameless, nameless, takes_number, takes_zero, sign_reads, value_reads, ExprReads, expr_reads, Stopping, stopping_at, ListedReads, listed_reads, Meets, Moves}
use Rattle.c_grammar.proofs.Classes.{Absent, class_stops, stops_false, take_fixed, take_is}
use Rattle.c_grammar.specs.Goals as gl
use Rattle.c_grammar.specs.Goals.{Class, round_open, round_close, curly_open, curly_close, square_close, semicolon, comma, assign, else_word, while_word, void_word, print_word, input_word, main_word, int_word, long_word, return_word, pragma_word, omp_word, define_word, the_line_end, fixed, take, goes_on, Goal, ends, takes, may, names, may_name, numbers, zero, signs, values, at, expr, stopping, directive, subscripts, listed, operator, simple, body, units, declarators, init, params, globals, tops, Move, stuck, leads, reads, directs, accepts}
use Rattle.c_grammar.proofs.Parts.{sign_to, sign_from, value_to, value_from, subscript_to, subscript_from, stopping_from, operator_to, operator_from, simple_to, simple_from}
use Rattle.c_grammar.proofs.StatementGoals.{body_to, body_from, units_to, units_from, declarators_to, declarators_from, init_to, init_from}
use Rattle.c_grammar.proofs.ItemGoals.{params_to, params_from, globals_to, globals_from, tops_to, tops_from}

taken_to : (p : List Started) (c : Class) (f : Span → Goal) (t : Symbol) (ts : List Symbol) (x : Move) → Takes c (λ z us. Meets p (f z) us) (t ∷ ts) → Moves p (gl.took f (take c t) x) t ts
taken_to p c f t ts x (takes_it {z = z} h) = subst (λ o. Moves p (gl.took f o x) (fixed c z) ts) (sym (take_fixed c z)) h

absent_to : (p : List Started) (c : Class) (f : Span → Goal) (g : Goal) (t : Symbol) (ts : List Symbol) (x : Move) → (Meets p g (t ∷ ts) → Moves p x t ts) → Without c (λ us. Meets p g us) (t ∷ ts) → Moves p (gl.took f (take c t) x) t ts
absent_to p c f g t ts x i (without n h) = subst (λ o. Moves p (gl.took f o x) t ts) (sym n) (i h)

taken_from : (p : List Started) (c : Class) (f : Span → Goal) (t : Symbol) (ts : List Symbol) (x : Move) (o : Option Span) → take c t ≡ o → Moves p (gl.took f o x) t ts → Takes c (λ z us. Meets p (f z) us) (t ∷ ts) ⊎ (Absent c (t ∷ ts) × Moves p x t ts)
taken_from p c f t ts x None q h = inr (q, h)
taken_from p c f t ts x (Some z) q h = inl (subst (λ s. Takes c (λ z us. Meets p (f z) us) (s ∷ ts)) (sym (take_is c t z q)) (takes_it h))

takes_from : (p : List Started) (c : Class) (f : Span → Goal) (t : Symbol) (ts : List Symbol) → Takes c (λ z us. Meets p (f z) us) (t ∷ ts) ⊎ (Absent c (t ∷ ts) × Moves p stuck t ts) → Takes c (λ z us. Meets p (f z) us) (t ∷ ts)
takes_from p c f t ts (inl h) = h
takes_from p c f t ts (inr h) = absurd h.1

may_from : (p : List Started) (c : Class) (f : Span → Goal) (g : Goal) (t : Symbol) (ts : List Symbol) (x : Move) → (Moves p x t ts → Meets p g (t ∷ ts)) → Takes c (λ z us. Meets p (f z) us) (t ∷ ts) ⊎ (Absent c (t ∷ ts) × Moves p x t ts) → Takes c (λ z us. Meets p (f z) us) (t ∷ ts) ⊎ Without c (λ us. Meets p g us) (t ∷ ts)
may_from p c f g t ts x i (inl h) = inl h
may_from p c f g t ts x i (inr h) = inr (without h.0 (i h.1))

named_to : (p : List Started) (f : Name → Span → Goal) (t : Symbol) (ts : List Symbol) → TakesName (λ x a us. Meets p (f x a) us) (t ∷ ts) → Moves p (gl.on_name f t) t ts
named_to p f t ts (takes_name h) = h

named_from : (p : List Started) (f : Name → Span → Goal) (t : Symbol) (ts : List Symbol) → Moves p (gl.on_name f t) t ts → TakesName (λ x a us. Meets p (f x a) us) (t ∷ ts)
named_from p f (name x a) ts h = takes_name h
named_from p f t ts h = absurd h

unnamed_to : (p : List Started) (g : Goal) (t : Symbol) (ts : List Symbol) (x : Move) → Unnamed (t ∷ ts) → Moves p x t ts → Moves p (gl.on_may_name g t x) t ts
unnamed_to p g (name y a) ts x n h = absurd n
unnamed_to p g t ts x n h = h

may_name_to : (p : List Started) (g : Goal) (t : Symbol) (ts : List Symbol) (x : Move) → (Meets p g (t ∷ ts) → Moves p x t ts) → TakesName (λ y a us. Meets p g us) (t ∷ ts) ⊎ Nameless (λ us. Meets p g us) (t ∷ ts) → Moves p (gl.on_may_name g t x) t ts
may_name_to p g t ts x i (inl (takes_name h)) = h
may_name_to p g t ts x i (inr (nameless n h)) = unnamed_to p g t ts x n (i h)

may_name_from : (p : List Started) (g : Goal) (t : Symbol) (ts : List Symbol) (x : Move) → (Moves p x t ts → Meets p g (t ∷ ts)) → Moves p (gl.on_may_name g t x) t ts → TakesName (λ y a us. Meets p g us) (t ∷ ts) ⊎ Nameless (λ us. Meets p g us) (t ∷ ts)
may_name_from p g (name y a) ts x i h = inl (takes_name h)
may_name_from p g t ts x i h = inr (nameless tt (i h))

stopped_to : (p : List Started) (g : Goal) (t : Symbol) (ts : List Symbol) (x : Move) → (Meets p g (t ∷ ts) → Moves p x t ts) → Stopping (λ us. Meets p g us) (t ∷ ts) → Moves p (cond (goes_on t) stuck x) t ts
stopped_to p g t ts x i (stopping_at n h) = subst (λ b. Moves p (cond b stuck x) t ts) (sym (stops_false n)) (i h)

listed_to : (p : List Started) (f : Exprs → Span → Goal) (ts : List Symbol) → ListedReads (λ es z us. Meets p (f es z) us) ts → ExprReads (λ e w us. Meets p (may comma (λ z. listed (λ es. f (more_exprs e es))) (takes round_close (λ z. f (more_exprs e no_exprs) z))) us) ts
listed_to p f ts (listed_reads (last w) h) = expr_reads w (class_stops round_close _ _) (inr (without refl (takes_it h)))
listed_to p f ts (listed_reads (next w l) h) = expr_reads w (class_stops comma _ _) (inl (takes_it (listed_reads l h)))

listed_from : (p : List Started) (f : Exprs → Span → Goal) (ts : List Symbol) → ExprReads (λ e w us. Meets p (may comma (λ z. listed (λ es. f (more_exprs e es))) (takes round_close (λ z. f (more_exprs e no_exprs) z))) us) ts → ListedReads (λ es z us. Meets p (f es z) us) ts
listed_from p f ts (expr_reads w m (inr (without n (takes_it h)))) = listed_reads (last w) h
listed_from p f ts (expr_reads w m (inl (takes_it (listed_reads l h)))) = listed_reads (next w l) h

zero_from : (p : List Started) (g : Goal) (t : Symbol) (ts : List Symbol) → Moves p (gl.on_zero g t) t ts → Meets p (zero g) (t ∷ ts)
zero_from p g (number n y true a) ts h = takes_zero h
zero_from p g t ts h = absurd h

number_from : (p : List Started) (f : ℕ → Ty → Goal) (t : Symbol) (ts : List Symbol) → Moves p (gl.on_number f t) t ts → Meets p (numbers f) (t ∷ ts)
number_from p f (number n y z a) ts h = takes_number h
number_from p f t ts h = absurd h

ends_from : (p q : List Started) (t : Symbol) (ts : List Symbol) → Moves p (gl.on_end q t) t ts → Meets p (ends q) (t ∷ ts)
ends_from p q (end a) ts all_is_read = ends_here
ends_from p q t ts h = absurd h

pub step_to : (p : List Started) (x : Goal) (t : Symbol) (ts : List Symbol) → Meets p x (t ∷ ts) → Moves p (gl.step x t) t ts
step_to p (ends q) t ts ends_here = all_is_read
step_to p (takes c f) t ts h = taken_to p c f t ts stuck h
step_to p (may c f g) t ts (inl h) = taken_to p c f t ts (gl.step g t) h
step_to p (may c f g) t ts (inr h) = absent_to p c f g t ts (gl.step g t) (step_to p g t ts) h
step_to p (names f) t ts h = named_to p f t ts h
step_to p (may_name g) t ts h = may_name_to p g t ts (gl.step g t) (step_to p g t ts) h
step_to p (numbers f) t ts (takes_number h) = h
step_to p (zero g) t ts (takes_zero h) = h
step_to p (signs f) t ts (sign_reads q h) = sign_to p f t ts q h
step_to p (values f) t ts (value_reads q h) = value_to p f t ts q h
step_to p (at f) t ts h = step_to p (f (place t).start) t ts h
step_to p (expr f) t ts h = h
step_to p (stopping g) t ts h = stopped_to p g t ts (gl.step g t) (step_to p g t ts) h
step_to p (directive f) t ts h = h
step_to p (subscripts a f) t ts h = subscript_to p a f t ts (gl.step (f no_exprs a) t) (step_to p (f no_exprs a) t ts) h
step_to p (listed f) t ts h = listed_to p f (t ∷ ts) h
step_to p (operator f g) t ts h = operator_to p f g t ts h
step_to p (simple f) t ts h = simple_to p f t ts h
step_to p (body f) t ts h = body_to p f t ts h
step_to p (units b f) t ts h = units_to p b f t ts h
step_to p (declarators y b f) t ts h = declarators_to p y b f t ts h
step_to p (init f) t ts h = init_to p f t ts h
step_to p (params f) t ts h = params_to p f t ts h
step_to p (globals y f) t ts h = globals_to p y f t ts h
step_to p (tops f) t ts h = tops_to p f t ts h

pub step_from : (p : List Started) (x : Goal) (t : Symbol) (ts : List Symbol) → Moves p (gl.step x t) t ts → Meets p x (t ∷ ts)
step_from p (ends q) t ts h = ends_from p q t ts h
step_from p (takes c f) t ts h = takes_from p c f t ts (taken_from p c f t ts stuck (take c t) refl h)
step_from p (may c f g) t ts h = may_from p c f g t ts (gl.step g t) (step_from p g t ts) (taken_from p c f t ts (gl.step g t) (take c t) refl h)
step_from p (names f) t ts h = named_from p f t ts h
step_from p (may_name g) t ts h = may_name_from p g t ts (gl.step g t) (step_from p g t ts) h
step_from p (numbers f) t ts h = number_from p f t ts h
step_from p (zero g) t ts h = zero_from p g t ts h
step_from p (signs f) t ts h = sign_from p f t ts h
step_from p (values f) t ts h = value_from p f t ts h
step_from p (at f) t ts h = step_from p (f (place t).start) t ts h
step_from p (expr f) t ts h = h
step_from p (stopping g) t ts h = stopping_from p g (gl.step g t) t ts (step_from p g t ts) h
step_from p (directive f) t ts h = h
step_from p (subscripts a f) t ts h = subscript_from p a f t ts (gl.step (f no_exprs a) t) (step_from p (f no_exprs a) t ts) h
step_from p (listed f) t ts h = listed_from p f (t ∷ ts) h
step_from p (operator f g) t ts h = operator_from p f g t ts h
step_from p (simple f) t ts h = simple_from p f t ts h
step_from p (body f) t ts h = body_from p f t ts h
step_from p (units b f) t ts h = units_from p b f t ts h
step_from p (declarators y b f) t ts h = declarators_from p y b f t ts h
step_from p (init f) t ts h = init_from p f t ts h
step_from p (params f) t ts h = params_from p f t ts h
step_from p (globals y f) t ts h = globals_from p y f t ts h
step_from p (tops f) t ts h = tops_from p f t ts h
