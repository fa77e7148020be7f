-- Parts of statements and items: types, numbers, subscripts, targets, assignments and steps.
use Rattle.std.proofs.Common.{◌≡◌, refl, sym, subst, ℕ, inl, inr, List, ◌∷◌, Option, Some, None, Bool, true, false}
use Rattle.std.specs.Prelude.{cond}
use Rattle.c_tree.specs.Placed.{Exprs, no_exprs, more_exprs, Target, Stmt, step as steps_stmt}
use Rattle.c_tree.specs.declared.tree.Span.{Span}
use Rattle.c_tree.specs.declared.tree.Ty.{Ty}
use Rattle.c_tree.specs.declared.tree.Ty.TheVariants as tys
use Rattle.c_tree.specs.declared.tree.SetOp.{SetOp}
use Rattle.c_lexer.specs.declared.token.Punct.TheVariants as pn
use Rattle.c_lexer.specs.declared.words.Keyword.TheVariants as kw
use Rattle.pragma_grammar.specs.Symbols.{Symbol, name, number, punct, keyword, place}
use Rattle.pragma_grammar.specs.Expressions.{TypeName, long_long, long_long_int, no_more, one_more}
use Rattle.pragma_grammar.specs.Reading.{Stops}
use Rattle.c_grammar.specs.Statements as st
use Rattle.c_grammar.specs.Statements.{assigns, steps, NoElse, TargetPhrase, Simple, Declarator, Declarators, Init, Test, Next, HeadPhrase, Plain, Body, Units}
use Rattle.c_grammar.specs.Programs as pr
use Rattle.c_grammar.specs.Programs.{Signed, Value, Started, started, Global, Globals, Params, Parameters, MayStand, MayBeNamed, MayReturn, Tops}
use Rattle.c_grammar.proofs.Meaning.{Takes, takes_it, without, takes_name, takes_number, SignReads, sign_reads, ValueReads, value_reads, ExprReads, expr_reads, Stopping, stopping_at, IndicesRead, indices_read, Operates, assigning, stepping, SimpleReads, simple_reads, Meets, Moves}
use Rattle.c_grammar.proofs.Classes.{Absent, class_stops, assigns_stops, steps_stops, stops_false, on_false, steps_assigns}
use Rattle.c_grammar.specs.Goals as gl
use Rattle.c_grammar.specs.Goals.{Class, round_open, round_close, curly_open, curly_close, square_close, semicolon, comma, assign, else_word, while_word, void_word, print_word, input_word, main_word, int_word, long_word, return_word, pragma_word, omp_word, define_word, the_line_end, fixed, take, goes_on, Goal, ends, takes, may, names, may_name, numbers, zero, signs, values, at, expr, stopping, directive, subscripts, listed, operator, simple, body, units, declarators, init, params, globals, tops, Move, stuck, leads, reads, directs, accepts}

-- ---- the rest of `long long` and `long long int`

pub data LongReads (f : List Symbol → Type 0) (a : Span) (ts : List Symbol) : Type 0 where
  long_reads : {us : List Symbol} → TypeName tys.Long (keyword kw.Long a ∷ ts) us → f us → LongReads f a ts

pub long_from : (p : List Started) (x : Goal) (a : Span) (ts : List Symbol) → Meets p (gl.long_rest x) ts → LongReads (λ us. Meets p x us) a ts
long_from p x a ts (takes_it (inl (takes_it h))) = long_reads long_long_int h
long_from p x a ts (takes_it (inr (without n h))) = long_reads long_long h

pub long_to : (p : List Started) (x : Goal) {a : Span} {ts us : List Symbol} → TypeName tys.Long (keyword kw.Long a ∷ ts) us → Absent int_word us → Meets p x us → Meets p (gl.long_rest x) ts
long_to p x long_long n h = takes_it (inr (without n h))
long_to p x long_long_int n h = takes_it (inl (takes_it h))

-- ---- numbers of defines

pub sign_to : (p : List Started) (f : Bool → ℕ → Ty → Goal) (t : Symbol) (ts : List Symbol) {minus : Bool} {n : ℕ} {y : Ty} {us : List Symbol} → Signed minus n y (t ∷ ts) us → Meets p (f minus n y) us → Moves p (gl.on_sign f t) t ts
sign_to p f t ts pr.positive h = h
sign_to p f t ts pr.negative h = takes_number h

pub sign_from : (p : List Started) (f : Bool → ℕ → Ty → Goal) (t : Symbol) (ts : List Symbol) → Moves p (gl.on_sign f t) t ts → SignReads (λ minus n y us. Meets p (f minus n y) us) (t ∷ ts)
sign_from p f (number n y z a) ts h = sign_reads pr.positive h
sign_from p f (punct pn.Minus a) ts (takes_number h) = sign_reads pr.negative h
sign_from p f t ts h = absurd h

value_sign : (p : List Started) (f : Bool → ℕ → Ty → Goal) (t : Symbol) (ts : List Symbol) → Moves p (gl.on_sign f t) t ts → Moves p (gl.on_value f t) t ts
value_sign p f (punct pn.RoundOpen a) ts h = absurd h
value_sign p f t ts h = h

pub value_to : (p : List Started) (f : Bool → ℕ → Ty → Goal) (t : Symbol) (ts : List Symbol) {minus : Bool} {n : ℕ} {y : Ty} {us : List Symbol} → Value minus n y (t ∷ ts) us → Meets p (f minus n y) us → Moves p (gl.on_value f t) t ts
value_to p f t ts (pr.bare q) h = value_sign p f t ts (sign_to p f t ts q h)
value_to p f t ts (pr.in_parens q) h = sign_reads q (takes_it h)

signed_value : {f : Bool → ℕ → Ty → List Symbol → Type 0} {ts : List Symbol} → SignReads f ts → ValueReads f ts
signed_value (sign_reads q h) = value_reads (pr.bare q) h

pub value_from : (p : List Started) (f : Bool → ℕ → Ty → Goal) (t : Symbol) (ts : List Symbol) → Moves p (gl.on_value f t) t ts → ValueReads (λ minus n y us. Meets p (f minus n y) us) (t ∷ ts)
value_from p f (punct pn.RoundOpen a) ts (sign_reads q (takes_it h)) = value_reads (pr.in_parens q) h
value_from p f t ts h = let z = t in signed_value (sign_from p f z ts h)

-- ---- subscripts

pub subscript_plain : (p : List Started) (a : Span) (f : Exprs → Span → Goal) (t : Symbol) (ts : List Symbol) (x : Move) → goes_on t ≡ false → Moves p x t ts → Moves p (gl.on_subscript a f t x) t ts
subscript_plain p a f (punct pn.SquareOpen b) ts x q h = absurd (let z : true ≡ false = q in cc)
subscript_plain p a f t ts x q h = let z = t in subst (λ b. Moves p (cond b stuck x) z ts) (sym q) h

cond_from : (p : List Started) (t : Symbol) (ts : List Symbol) (x : Move) (b : Bool) → goes_on t ≡ b → Moves p (cond b stuck x) t ts → (goes_on t ≡ false) × Moves p x t ts
cond_from p t ts x true q h = absurd h
cond_from p t ts x false q h = (q, h)

pub stopping_from : (p : List Started) (x : Goal) (y : Move) (t : Symbol) (ts : List Symbol) → (Moves p y t ts → Meets p x (t ∷ ts)) → Moves p (cond (goes_on t) stuck y) t ts → Stopping (λ us. Meets p x us) (t ∷ ts)
stopping_from p x y t ts f h = let c = cond_from p t ts y (goes_on t) refl h in stopping_at (on_false t ts c.0) (f c.1)

subscript_more : (p : List Started) (a : Span) (f : Exprs → Span → Goal) (b : Span) (ts : List Symbol) → ExprReads (λ e w us. Takes square_close (λ y vs. IndicesRead (λ es z ws. Meets p (f (more_exprs e es) z) ws) y vs) us) ts → IndicesRead (λ es z us. Meets p (f es z) us) a (punct pn.SquareOpen b ∷ ts)
subscript_more p a f b ts (expr_reads w s (takes_it (indices_read q n h))) = indices_read (one_more w q) n h

subscript_none : (p : List Started) (a : Span) (f : Exprs → Span → Goal) (t : Symbol) (ts : List Symbol) → Stopping (λ us. Meets p (f no_exprs a) us) (t ∷ ts) → IndicesRead (λ es z us. Meets p (f es z) us) a (t ∷ ts)
subscript_none p a f t ts (stopping_at n h) = indices_read no_more n h

pub subscript_from : (p : List Started) (a : Span) (f : Exprs → Span → Goal) (t : Symbol) (ts : List Symbol) (x : Move) → (Moves p x t ts → Meets p (f no_exprs a) (t ∷ ts)) → Moves p (gl.on_subscript a f t x) t ts → IndicesRead (λ es z us. Meets p (f es z) us) a (t ∷ ts)
subscript_from p a f (punct pn.SquareOpen b) ts x i h = subscript_more p a f b ts h
subscript_from p a f t ts x i h = let z = t in subscript_none p a f z ts (stopping_from p (f no_exprs a) x z ts i h)

pub subscript_to : (p : List Started) (a : Span) (f : Exprs → Span → Goal) (t : Symbol) (ts : List Symbol) (x : Move) → (Meets p (f no_exprs a) (t ∷ ts) → Moves p x t ts) → IndicesRead (λ es z us. Meets p (f es z) us) a (t ∷ ts) → Moves p (gl.on_subscript a f t x) t ts
subscript_to p a f t ts x i (indices_read no_more n h) = subscript_plain p a f t ts x (stops_false n) (i h)
subscript_to p a f t ts x i (indices_read (one_more w q) n h) = expr_reads w (class_stops square_close _ _) (takes_it (indices_read q n h))

-- ---- assignments and steps

pub operator_to : (p : List Started) (f : SetOp → Goal) (h : Bool → Span → Goal) (t : Symbol) (ts : List Symbol) → Operates (λ o us. Meets p (f o) us) (λ up z us. Meets p (h up z) us) (t ∷ ts) → Moves p (gl.on_operator f h t) t ts
operator_to p f h t ts (assigning q r) = subst (λ o. Moves p (gl.assigned_or f o (gl.stepped_or (λ up. h up (place t)) (steps t) stuck)) t ts) (sym q) r
operator_to p f h t ts (stepping {up = up} q r) = subst (λ o. Moves p (gl.assigned_or f o (gl.stepped_or (λ up. h up (place t)) (steps t) stuck)) t ts) (sym (steps_assigns t up q)) (subst (λ o. Moves p (gl.stepped_or (λ up. h up (place t)) o stuck) t ts) (sym q) r)

stepped_from : (p : List Started) (f : SetOp → Goal) (h : Bool → Span → Goal) (t : Symbol) (ts : List Symbol) (o : Option Bool) → steps t ≡ o → Moves p (gl.stepped_or (λ up. h up (place t)) o stuck) t ts → Operates (λ o us. Meets p (f o) us) (λ up z us. Meets p (h up z) us) (t ∷ ts)
stepped_from p f h t ts None q r = absurd r
stepped_from p f h t ts (Some up) q r = stepping q r

assigned_from : (p : List Started) (f : SetOp → Goal) (h : Bool → Span → Goal) (t : Symbol) (ts : List Symbol) (o : Option SetOp) → assigns t ≡ o → Moves p (gl.assigned_or f o (gl.stepped_or (λ up. h up (place t)) (steps t) stuck)) t ts → Operates (λ o us. Meets p (f o) us) (λ up z us. Meets p (h up z) us) (t ∷ ts)
assigned_from p f h t ts None q r = stepped_from p f h t ts (steps t) refl r
assigned_from p f h t ts (Some o) q r = assigning q r

pub operator_from : (p : List Started) (f : SetOp → Goal) (h : Bool → Span → Goal) (t : Symbol) (ts : List Symbol) → Moves p (gl.on_operator f h t) t ts → Operates (λ o us. Meets p (f o) us) (λ up z us. Meets p (h up z) us) (t ∷ ts)
operator_from p f h t ts r = assigned_from p f h t ts (assigns t) refl r

-- a step before its target
pub data StepFirst (f : (ℕ → Stmt) → Span → List Symbol → Type 0) : List Symbol → Type 0 where
  step_first : {x : Target} {t : Symbol} {up : Bool} {v : Span} {ts us : List Symbol} → steps t ≡ Some up → TargetPhrase x v ts us → Stops us → f (λ to. steps_stmt x up (record { start = (place t).start; end = to })) v us → StepFirst f (t ∷ ts)

first_from : (p : List Started) (f : (ℕ → Stmt) → Span → Goal) (t : Symbol) (ts : List Symbol) (up : Bool) → steps t ≡ Some up → Meets p (gl.step_first up (place t) f) ts → StepFirst (λ s z us. Meets p (f s z) us) (t ∷ ts)
first_from p f t ts up q (takes_name (indices_read r n h)) = step_first q (st.targets r) n h

first_or : (p : List Started) (f : (ℕ → Stmt) → Span → Goal) (t : Symbol) (ts : List Symbol) (o : Option Bool) → steps t ≡ o → Moves p (gl.stepped_or (λ up. gl.step_first up (place t) f) o stuck) t ts → StepFirst (λ s z us. Meets p (f s z) us) (t ∷ ts)
first_or p f t ts None q h = absurd h
first_or p f t ts (Some up) q h = first_from p f t ts up q h

pub step_first_from : (p : List Started) (f : (ℕ → Stmt) → Span → Goal) (t : Symbol) (ts : List Symbol) → Moves p (gl.on_step_first f t) t ts → StepFirst (λ s z us. Meets p (f s z) us) (t ∷ ts)
step_first_from p f t ts h = first_or p f t ts (steps t) refl h

first_target : (p : List Started) (f : (ℕ → Stmt) → Span → Goal) (a : Span) (up : Bool) {x : Target} {v : Span} {ts us : List Symbol} → TargetPhrase x v ts us → Stops us → Meets p (f (λ to. steps_stmt x up (record { start = a.start; end = to })) v) us → Meets p (gl.step_first up a f) ts
first_target p f a up (st.targets r) n h = takes_name (indices_read r n h)

pub step_first_to : (p : List Started) (f : (ℕ → Stmt) → Span → Goal) (t : Symbol) (ts : List Symbol) → StepFirst (λ s z us. Meets p (f s z) us) (t ∷ ts) → Moves p (gl.on_step_first f t) t ts
step_first_to p f t ts (step_first {up = up} q r n h) = subst (λ o. Moves p (gl.stepped_or (λ up. gl.step_first up (place t) f) o stuck) t ts) (sym q) (first_target p f (place t) up r n h)

-- a simple statement
simple_first : (p : List Started) (f : (ℕ → Stmt) → Span → Goal) (t : Symbol) (ts : List Symbol) → Moves p (gl.on_step_first f t) t ts → Moves p (gl.on_simple f t) t ts
simple_first p f (name x a) ts h = absurd h
simple_first p f t ts h = h

pub simple_to : (p : List Started) (f : (ℕ → Stmt) → Span → Goal) (t : Symbol) (ts : List Symbol) → SimpleReads (λ s z us. Meets p (f s z) us) (t ∷ ts) → Moves p (gl.on_simple f t) t ts
simple_to p f t ts (simple_reads (st.assignment (st.targets r) q w) n h) = indices_read r (assigns_stops _ q) (assigning q (expr_reads w n h))
simple_to p f t ts (simple_reads (st.step_after (st.targets r) q) n h) = indices_read r (steps_stops _ q) (stepping q (stopping_at n h))
simple_to p f t ts (simple_reads (st.step_before q r) n h) = simple_first p f t ts (step_first_to p f t ts (step_first q r n h))

simple_of_first : {f : (ℕ → Stmt) → Span → List Symbol → Type 0} {ts : List Symbol} → StepFirst f ts → SimpleReads f ts
simple_of_first (step_first q r n h) = simple_reads (st.step_before q r) n h

pub simple_from : (p : List Started) (f : (ℕ → Stmt) → Span → Goal) (t : Symbol) (ts : List Symbol) → Moves p (gl.on_simple f t) t ts → SimpleReads (λ s z us. Meets p (f s z) us) (t ∷ ts)
simple_from p f (name x a) ts (indices_read r n (assigning q (expr_reads w m h))) = simple_reads (st.assignment (st.targets r) q w) m h
simple_from p f (name x a) ts (indices_read r n (stepping q (stopping_at m h))) = simple_reads (st.step_after (st.targets r) q) m h
simple_from p f t ts h = let z = t in simple_of_first (step_first_from p f z ts h)
