-- Items are spelled exactly as their goals say.
use Rattle.std.proofs.Common.{refl, ℕ, inl, inr, List, [], ◌∷◌, true}
use Rattle.c_tree.specs.Bare.{Name}
use Rattle.c_tree.specs.Placed.{Exprs, Param, Top, extern_}
use Rattle.c_tree.specs.declared.tree.Span.{Span}
use Rattle.c_tree.specs.declared.tree.Ty.{Ty}
use Rattle.c_tree.specs.declared.tree.Ty.TheVariants as tys
use Rattle.c_tree.specs.declared.tree.Port.TheVariants as ports
use Rattle.c_lexer.specs.declared.token.Punct.TheVariants as pn
use Rattle.c_lexer.specs.declared.words.Keyword.TheVariants as kw
use Rattle.pragma_grammar.specs.Symbols.{Symbol, name, punct, keyword, static, hash, place}
use Rattle.pragma_grammar.specs.Expressions.{TypeName, int, long_long, long_long_int, Subscripts, no_more, one_more}
use Rattle.pragma_grammar.specs.Reading.{Stops}
use Rattle.c_grammar.specs.Programs as pr
use Rattle.c_grammar.specs.Programs.{Signed, Value, Started, started, Global, Globals, Params, Parameters, MayStand, MayBeNamed, MayReturn, Tops}
use Rattle.c_grammar.proofs.Meaning.{takes_it, without, takes_name, Unnamed, nameless, value_reads, expr_reads, indices_read, Closing, closes, closes_returned, units_read, ParamsRead, params_read, GlobalsRead, globals_read, TopsRead, tops_read, Meets, Moves}
use Rattle.c_grammar.proofs.Classes.{Absent, class_stops}
use Rattle.c_grammar.specs.Goals as gl
use Rattle.c_grammar.specs.Goals.{Class, round_open, round_close, curly_open, curly_close, square_close, semicolon, comma, assign, else_word, while_word, void_word, print_word, input_word, main_word, int_word, long_word, return_word, pragma_word, omp_word, define_word, the_line_end, fixed, take, goes_on, Goal, ends, takes, may, names, may_name, numbers, zero, signs, values, at, expr, stopping, directive, subscripts, listed, operator, simple, body, units, declarators, init, params, globals, tops, Move, stuck, leads, reads, directs, accepts}
use Rattle.c_grammar.proofs.Parts.{LongReads, long_reads, long_from}
use Rattle.c_grammar.proofs.StatementGoals.{word_takes}

-- ---- parameters

params_typed : (p : List Started) (f : List Param → Span → Goal) (t : Symbol) (ts : List Symbol) {y : Ty} {us : List Symbol} → TypeName y (t ∷ ts) us → Absent int_word us → Meets p (gl.param_named y f) us → Moves p (gl.on_params f t) t ts
params_typed p f t ts int n h = h
params_typed p f t ts long_long n h = takes_it (inr (without n h))
params_typed p f t ts long_long_int n h = takes_it (inl (takes_it h))

pub params_to : (p : List Started) (f : List Param → Span → Goal) (t : Symbol) (ts : List Symbol) → ParamsRead (λ ps z us. Meets p (f ps z) us) (t ∷ ts) → Moves p (gl.on_params f t) t ts
params_to p f t ts (params_read (pr.last_param n) h) = params_typed p f t ts n refl (takes_name (inr (without refl (takes_it h))))
params_to p f t ts (params_read (pr.next_param n q) h) = params_typed p f t ts n refl (takes_name (inl (takes_it (params_read q h))))

params_of_long : (p : List Started) (f : List Param → Span → Goal) (a : Span) (ts : List Symbol) → LongReads (λ us. Meets p (gl.param_named tys.Long f) us) a ts → ParamsRead (λ ps z us. Meets p (f ps z) us) (keyword kw.Long a ∷ ts)
params_of_long p f a ts (long_reads n (takes_name (inl (takes_it (params_read q h))))) = params_read (pr.next_param n q) h
params_of_long p f a ts (long_reads n (takes_name (inr (without m (takes_it h))))) = params_read (pr.last_param n) h

pub params_from : (p : List Started) (f : List Param → Span → Goal) (t : Symbol) (ts : List Symbol) → Moves p (gl.on_params f t) t ts → ParamsRead (λ ps z us. Meets p (f ps z) us) (t ∷ ts)
params_from p f (keyword kw.Int a) ts (takes_name (inl (takes_it (params_read q h)))) = params_read (pr.next_param int q) h
params_from p f (keyword kw.Int a) ts (takes_name (inr (without n (takes_it h)))) = params_read (pr.last_param int) h
params_from p f (keyword kw.Long a) ts h = params_of_long p f a ts (long_from p (gl.param_named tys.Long f) a ts h)
params_from p f t ts h = absurd h

type_absent_close : {y : Ty} {ts us : List Symbol} → TypeName y ts us → Absent round_close ts × Absent void_word ts
type_absent_close int = (refl, refl)
type_absent_close long_long = (refl, refl)
type_absent_close long_long_int = (refl, refl)

params_absent : {ps : List Param} {ts us : List Symbol} → Params ps ts us → Absent round_close ts × Absent void_word ts
params_absent (pr.last_param n) = type_absent_close n
params_absent (pr.next_param n q) = type_absent_close n

-- ---- variables

subscripts_assign : {es : Exprs} {a z : Span} {ts us : List Symbol} → Subscripts es a z ts us → Absent assign us → Absent assign ts
subscripts_assign no_more n = n
subscripts_assign (one_more w q) n = refl

global_to : (p : List Started) (y : Ty) (from : ℕ) (f : Started → Goal) {top : Top} {ts us : List Symbol} → Global y top ts us → Stops us → Absent assign us → Meets p (f (started from top)) us → Meets p (names (λ x a. gl.global_goal y from x a f)) ts
global_to p y from f (pr.plain r) m n h = takes_name (inr (without (subscripts_assign r n) (indices_read r m h)))
global_to p y from f (pr.valued w) m n h = takes_name (inl (takes_it (expr_reads w m h)))

pub data GlobalReads (y : Ty) (from : ℕ) (f : Started → List Symbol → Type 0) (ts : List Symbol) : Type 0 where
  global_reads : {top : Top} {us : List Symbol} → Global y top ts us → f (started from top) us → GlobalReads y from f ts

global_from : (p : List Started) (y : Ty) (from : ℕ) (f : Started → Goal) (ts : List Symbol) → Meets p (names (λ x a. gl.global_goal y from x a f)) ts → GlobalReads y from (λ s us. Meets p (f s) us) ts
global_from p y from f ts (takes_name (inr (without n (indices_read r m h)))) = global_reads (pr.plain r) h
global_from p y from f ts (takes_name (inl (takes_it (expr_reads w m h)))) = global_reads (pr.valued w) h

named_to : (p : List Started) (y : Ty) (from : ℕ) (f : List Started → Goal) {ts : List Symbol} → GlobalsRead y from (λ items us. Meets p (f items) us) ts → Meets p (gl.global_named y from f) ts
named_to p y from f (globals_read (pr.last_global d) u h) = global_to p y from (gl.globals_after y f) d (class_stops semicolon _ _) refl (inr (without refl (takes_it (tops_read u h))))
named_to p y from f (globals_read (pr.next_global d e) u h) = global_to p y from (gl.globals_after y f) d (class_stops comma _ _) refl (inl (takes_it (globals_read e u h)))

named_after : (p : List Started) (y : Ty) (from : ℕ) (f : List Started → Goal) {ts : List Symbol} → GlobalReads y from (λ s us. Meets p (gl.globals_after y f s) us) ts → GlobalsRead y from (λ items us. Meets p (f items) us) ts
named_after p y from f (global_reads d (inl (takes_it (globals_read e u h)))) = globals_read (pr.next_global d e) u h
named_after p y from f (global_reads d (inr (without n (takes_it (tops_read u h))))) = globals_read (pr.last_global d) u h

named_from : (p : List Started) (y : Ty) (from : ℕ) (f : List Started → Goal) (ts : List Symbol) → Meets p (gl.global_named y from f) ts → GlobalsRead y from (λ items us. Meets p (f items) us) ts
named_from p y from f ts h = named_after p y from f (global_from p y from (gl.globals_after y f) ts h)

named_globals : (p : List Started) (y : Ty) (f : List Started → Goal) (t : Symbol) (ts : List Symbol) → Meets p (gl.global_named y (place t).start f) (t ∷ ts) → Moves p (gl.on_globals y f t) t ts
named_globals p y f t ts (takes_name h) = h

pub globals_to : (p : List Started) (y : Ty) (f : List Started → Goal) (t : Symbol) (ts : List Symbol) → GlobalsRead y (place t).start (λ items us. Meets p (f items) us) (t ∷ ts) → Moves p (gl.on_globals y f t) t ts
globals_to p y f t ts h = named_globals p y f t ts (named_to p y (place t).start f h)

pub globals_from : (p : List Started) (y : Ty) (f : List Started → Goal) (t : Symbol) (ts : List Symbol) → Moves p (gl.on_globals y f t) t ts → GlobalsRead y (place t).start (λ items us. Meets p (f items) us) (t ∷ ts)
globals_from p y f (name x a) ts h = named_from p y a.start f (name x a ∷ ts) (takes_name h)
globals_from p y f t ts h = absurd h

-- ---- `void` and a name that may be left out, `long long`

void_to : (p : List Started) (x : Goal) {ts us : List Symbol} → MayStand kw.Void ts us → Absent void_word us → Meets p x us → Meets p (may void_word (λ v. x) x) ts
void_to p x pr.absent n h = inr (without n h)
void_to p x pr.present n h = inl (takes_it h)

pub data VoidReads (f : List Symbol → Type 0) (ts : List Symbol) : Type 0 where
  void_reads : {us : List Symbol} → MayStand kw.Void ts us → f us → VoidReads f ts

void_from : (p : List Started) (x : Goal) (ts : List Symbol) → Meets p (may void_word (λ v. x) x) ts → VoidReads (λ us. Meets p x us) ts
void_from p x ts (inl (takes_it h)) = void_reads pr.present h
void_from p x ts (inr (without n h)) = void_reads pr.absent h

name_to : (p : List Started) (x : Goal) {ts us : List Symbol} → MayBeNamed ts us → Unnamed us → Meets p x us → Meets p (may_name x) ts
name_to p x pr.unnamed n h = inr (nameless n h)
name_to p x pr.named n h = inl (takes_name h)

name_absent : {y : Span} {ts us : List Symbol} → MayBeNamed ts (punct pn.RoundClose y ∷ us) → Absent int_word ts
name_absent pr.unnamed = refl
name_absent pr.named = refl

pub data NameReads (f : List Symbol → Type 0) (ts : List Symbol) : Type 0 where
  name_reads : {us : List Symbol} → MayBeNamed ts us → f us → NameReads f ts

name_from : (p : List Started) (x : Goal) (ts : List Symbol) → Meets p (may_name x) ts → NameReads (λ us. Meets p x us) ts
name_from p x ts (inl (takes_name h)) = name_reads pr.named h
name_from p x ts (inr (nameless n h)) = name_reads pr.unnamed h

long_whole : (p : List Started) (x : Goal) {ts us : List Symbol} → TypeName tys.Long ts us → Absent int_word us → Meets p x us → Meets p (takes long_word (λ l. gl.long_rest x)) ts
long_whole p x long_long n h = takes_it (takes_it (inr (without n h)))
long_whole p x long_long_int n h = takes_it (takes_it (inl (takes_it h)))

pub data TypeReads (f : List Symbol → Type 0) (ts : List Symbol) : Type 0 where
  type_reads : {us : List Symbol} → TypeName tys.Long ts us → f us → TypeReads f ts

whole_long : (p : List Started) (x : Goal) (ts : List Symbol) → Meets p (takes long_word (λ l. gl.long_rest x)) ts → TypeReads (λ us. Meets p x us) ts
whole_long p x ts (takes_it (takes_it (inr (without n h)))) = type_reads long_long h
whole_long p x ts (takes_it (takes_it (inl (takes_it h)))) = type_reads long_long_int h

-- ---- the end of `main`

closing_of : {ts us : List Symbol} → MayReturn ts us → Closing true ts us
closing_of pr.goes_off = closes
closing_of pr.returns = closes_returned

return_of : {ts us : List Symbol} → Closing true ts us → MayReturn ts us
return_of closes = pr.goes_off
return_of closes_returned = pr.returns

-- ---- items

printer_to : (p : List Started) (from : ℕ) (f : List Started → Goal) {c d y z : Span} {items : List Started} {us vs ws xs : List Symbol} → TypeName tys.Long us vs → MayBeNamed vs (punct pn.RoundClose y ∷ punct pn.Semicolon z ∷ ws) → Tops items ws xs → Meets p (f (started from (extern_ ports.Print (record { start = from; end = z.end })) ∷ items)) xs → Meets p (gl.printer_goal from f) (keyword kw.Print c ∷ punct pn.RoundOpen d ∷ us)
printer_to p from f n b u h = takes_it (takes_it (long_whole p (may_name (gl.printer_rest from f)) n (name_absent b) (name_to p (gl.printer_rest from f) b tt (takes_it (takes_it (tops_read u h))))))

reader_to : (p : List Started) (from : ℕ) (f : List Started → Goal) {c y z : Span} {items : List Started} {vs ws xs : List Symbol} → MayStand kw.Void vs (punct pn.RoundClose y ∷ punct pn.Semicolon z ∷ ws) → Tops items ws xs → Meets p (f (started from (extern_ ports.Input (record { start = from; end = z.end })) ∷ items)) xs → Meets p (gl.reader_goal from f) (punct pn.RoundOpen c ∷ vs)
reader_to p from f v u h = takes_it (void_to p (gl.reader_rest from f) v refl (takes_it (takes_it (tops_read u h))))

tops_print : (p : List Started) (f : List Started → Goal) (t : Symbol) (ts : List Symbol) {b c d : Span} {us : List Symbol} → MayStand kw.Extern (t ∷ ts) (keyword kw.Void b ∷ keyword kw.Print c ∷ punct pn.RoundOpen d ∷ us) → Meets p (gl.printer_goal (place t).start f) (keyword kw.Print c ∷ punct pn.RoundOpen d ∷ us) → Moves p (gl.on_tops f t) t ts
tops_print p f t ts pr.absent h = h
tops_print p f t ts pr.present h = inl (takes_it h)

long_void : {ts us : List Symbol} → TypeName tys.Long ts us → Absent void_word ts
long_void long_long = refl
long_void long_long_int = refl

input_long : (p : List Started) (f : List Started → Goal) (t : Symbol) (ts : List Symbol) {b c : Span} {vs : List Symbol} → TypeName tys.Long (t ∷ ts) (keyword kw.Input b ∷ punct pn.RoundOpen c ∷ vs) → Meets p (gl.reader_goal (place t).start f) (punct pn.RoundOpen c ∷ vs) → Moves p (gl.on_tops f t) t ts
input_long p f t ts long_long h = takes_it (inr (without refl (inl (takes_it h))))
input_long p f t ts long_long_int h = takes_it (inl (takes_it (inl (takes_it h))))

tops_input : (p : List Started) (f : List Started → Goal) (t : Symbol) (ts : List Symbol) {b c : Span} {us vs : List Symbol} → MayStand kw.Extern (t ∷ ts) us → TypeName tys.Long us (keyword kw.Input b ∷ punct pn.RoundOpen c ∷ vs) → Meets p (gl.reader_goal (place t).start f) (punct pn.RoundOpen c ∷ vs) → Moves p (gl.on_tops f t) t ts
tops_input p f t ts pr.absent n h = input_long p f t ts n h
tops_input p f t ts pr.present n h = inr (without (long_void n) (long_whole p (takes input_word (λ b. gl.reader_goal (place t).start f)) n refl (takes_it h)))

global_first : {y : Ty} {top : Top} {ts us : List Symbol} → Global y top ts us → Absent main_word ts × Absent int_word ts × Absent input_word ts
global_first (pr.plain r) = (refl, refl, refl)
global_first (pr.valued w) = (refl, refl, refl)

globals_first : {y : Ty} {from : ℕ} {items rest : List Started} {ts us : List Symbol} → Globals y from items rest ts us → Absent main_word ts × Absent int_word ts × Absent input_word ts
globals_first (pr.last_global d) = global_first d
globals_first (pr.next_global d e) = global_first d

tops_variables : (p : List Started) (f : List Started → Goal) (t : Symbol) (ts : List Symbol) {y : Ty} {us : List Symbol} → TypeName y (t ∷ ts) us → Absent main_word us × Absent int_word us × Absent input_word us → Meets p (gl.global_named y (place t).start f) us → Moves p (gl.on_tops f t) t ts
tops_variables p f t ts int n h = inr (without n.0 h)
tops_variables p f t ts long_long n h = takes_it (inr (without n.1 (inr (without n.2 h))))
tops_variables p f t ts long_long_int n h = takes_it (inl (takes_it (inr (without n.2 h))))

parameters_to : (p : List Started) (a : Span) (x : Name) (c : Span) (f : List Started → Goal) {ps : List Param} {e b : Span} {ts us : List Symbol} → Parameters ps ts (punct pn.RoundClose e ∷ punct pn.CurlyOpen b ∷ us) → Meets p (gl.function_body a x c ps f) (punct pn.CurlyOpen b ∷ us) → Meets p (may round_close (λ e. gl.function_body a x c [] f) (may void_word (λ v. takes round_close (λ e. gl.function_body a x c [] f)) (params (λ ps e. gl.function_body a x c ps f)))) ts
parameters_to p a x c f (pr.none pr.absent) h = inl (takes_it h)
parameters_to p a x c f (pr.none pr.present) h = inr (without refl (inl (takes_it (takes_it h))))
parameters_to p a x c f (pr.some q) h = let n = params_absent q in inr (without n.0 (inr (without n.1 (params_read q h))))

pub tops_to : (p : List Started) (f : List Started → Goal) (t : Symbol) (ts : List Symbol) → TopsRead (λ items us. Meets p (f items) us) (t ∷ ts) → Moves p (gl.on_tops f t) t ts
tops_to p f t ts (tops_read (pr.the_main {a = a} v u r) h) = inl (takes_it (takes_it (void_to p (gl.main_body a f) v refl (takes_it (takes_it (units_read u (closing_of r) h))))))
tops_to p f t ts (tops_read (pr.defines q v u) h) = word_takes define_word q (takes_it (takes_name (value_reads v (takes_it (tops_read u h)))))
tops_to p f t ts (tops_read (pr.printer e n b u) h) = tops_print p f t ts e (printer_to p (place t).start f n b u h)
tops_to p f t ts (tops_read (pr.reader e n v u) h) = tops_input p f t ts e n (reader_to p (place t).start f v u h)
tops_to p f t ts (tops_read (pr.variables {ty = y} n d u) h) = tops_variables p f t ts n (globals_first d) (named_to p y (place t).start f (globals_read d u h))
tops_to p f t ts (tops_read (pr.a_function {x = x} {a = a} {c = c} q u v) h) = takes_it (takes_name (takes_it (parameters_to p a x c f q (takes_it (units_read u closes (tops_read v h))))))

-- and back

pub data PrinterReads (from : ℕ) (f : List Started → List Symbol → Type 0) : List Symbol → Type 0 where
  printer_reads : {c d y z : Span} {items : List Started} {us vs ws xs : List Symbol} → TypeName tys.Long us vs → MayBeNamed vs (punct pn.RoundClose y ∷ punct pn.Semicolon z ∷ ws) → Tops items ws xs → f (started from (extern_ ports.Print (record { start = from; end = z.end })) ∷ items) xs → PrinterReads from f (keyword kw.Print c ∷ punct pn.RoundOpen d ∷ us)

printer_named : (p : List Started) (from : ℕ) (f : List Started → Goal) {c d : Span} {us vs : List Symbol} → TypeName tys.Long us vs → NameReads (λ ws. Meets p (gl.printer_rest from f) ws) vs → PrinterReads from (λ items xs. Meets p (f items) xs) (keyword kw.Print c ∷ punct pn.RoundOpen d ∷ us)
printer_named p from f n (name_reads b (takes_it (takes_it (tops_read u h)))) = printer_reads n b u h

printer_typed : (p : List Started) (from : ℕ) (f : List Started → Goal) {c d : Span} {us : List Symbol} → TypeReads (λ vs. Meets p (may_name (gl.printer_rest from f)) vs) us → PrinterReads from (λ items xs. Meets p (f items) xs) (keyword kw.Print c ∷ punct pn.RoundOpen d ∷ us)
printer_typed p from f (type_reads n h) = printer_named p from f n (name_from p (gl.printer_rest from f) _ h)

printer_from : (p : List Started) (from : ℕ) (f : List Started → Goal) (ts : List Symbol) → Meets p (gl.printer_goal from f) ts → PrinterReads from (λ items xs. Meets p (f items) xs) ts
printer_from p from f ts (takes_it (takes_it h)) = printer_typed p from f (whole_long p (may_name (gl.printer_rest from f)) _ h)

pub data ReaderReads (from : ℕ) (f : List Started → List Symbol → Type 0) : List Symbol → Type 0 where
  reader_reads : {c y z : Span} {items : List Started} {vs ws xs : List Symbol} → MayStand kw.Void vs (punct pn.RoundClose y ∷ punct pn.Semicolon z ∷ ws) → Tops items ws xs → f (started from (extern_ ports.Input (record { start = from; end = z.end })) ∷ items) xs → ReaderReads from f (punct pn.RoundOpen c ∷ vs)

reader_void : (p : List Started) (from : ℕ) (f : List Started → Goal) {c : Span} {vs : List Symbol} → VoidReads (λ ws. Meets p (gl.reader_rest from f) ws) vs → ReaderReads from (λ items xs. Meets p (f items) xs) (punct pn.RoundOpen c ∷ vs)
reader_void p from f (void_reads v (takes_it (takes_it (tops_read u h)))) = reader_reads v u h

reader_from : (p : List Started) (from : ℕ) (f : List Started → Goal) (ts : List Symbol) → Meets p (gl.reader_goal from f) ts → ReaderReads from (λ items xs. Meets p (f items) xs) ts
reader_from p from f ts (takes_it h) = reader_void p from f (void_from p (gl.reader_rest from f) _ h)

tops_of_printer : (p : List Started) (f : List Started → Goal) {b : Span} {s : Symbol} {ts us : List Symbol} → MayStand kw.Extern (s ∷ ts) (keyword kw.Void b ∷ us) → PrinterReads (place s).start (λ items xs. Meets p (f items) xs) us → TopsRead (λ items xs. Meets p (f items) xs) (s ∷ ts)
tops_of_printer p f e (printer_reads n b u h) = tops_read (pr.printer e n b u) h

tops_of_reader : (p : List Started) (f : List Started → Goal) {b : Span} {s : Symbol} {ts us vs : List Symbol} → MayStand kw.Extern (s ∷ ts) us → TypeName tys.Long us (keyword kw.Input b ∷ vs) → ReaderReads (place s).start (λ items xs. Meets p (f items) xs) vs → TopsRead (λ items xs. Meets p (f items) xs) (s ∷ ts)
tops_of_reader p f e n (reader_reads v u h) = tops_read (pr.reader e n v u) h

tops_of_variables : (p : List Started) (f : List Started → Goal) {y : Ty} {s : Symbol} {ts us : List Symbol} → TypeName y (s ∷ ts) us → GlobalsRead y (place s).start (λ items xs. Meets p (f items) xs) us → TopsRead (λ items xs. Meets p (f items) xs) (s ∷ ts)
tops_of_variables p f n (globals_read d u h) = tops_read (pr.variables n d u) h

main_void : (p : List Started) (f : List Started → Goal) {a b c : Span} {ts : List Symbol} → VoidReads (λ us. Meets p (gl.main_body a f) us) ts → TopsRead (λ items xs. Meets p (f items) xs) (keyword kw.Int a ∷ keyword kw.Main b ∷ punct pn.RoundOpen c ∷ ts)
main_void p f (void_reads v (takes_it (takes_it (units_read u c h)))) = tops_read (pr.the_main v u (return_of c)) h

int_from : (p : List Started) (f : List Started → Goal) (a : Span) (ts : List Symbol) → Meets p (gl.int_goal a f) ts → TopsRead (λ items xs. Meets p (f items) xs) (keyword kw.Int a ∷ ts)
int_from p f a ts (inl (takes_it (takes_it h))) = main_void p f (void_from p (gl.main_body a f) _ h)
int_from p f a ts (inr (without n h)) = tops_of_variables p f int (named_from p tys.Int a.start f ts h)

long_items : (p : List Started) (f : List Started → Goal) (a : Span) (ts : List Symbol) → LongReads (λ us. Meets p (may input_word (λ b. gl.reader_goal a.start f) (gl.global_named tys.Long a.start f)) us) a ts → TopsRead (λ items xs. Meets p (f items) xs) (keyword kw.Long a ∷ ts)
long_items p f a ts (long_reads n (inl (takes_it h))) = tops_of_reader p f pr.absent n (reader_from p a.start f _ h)
long_items p f a ts (long_reads n (inr (without m h))) = tops_of_variables p f n (named_from p tys.Long a.start f _ h)

extern_input : (p : List Started) (f : List Started → Goal) (a : Span) (ts : List Symbol) → TypeReads (λ us. Meets p (takes input_word (λ b. gl.reader_goal a.start f)) us) ts → TopsRead (λ items xs. Meets p (f items) xs) (keyword kw.Extern a ∷ ts)
extern_input p f a ts (type_reads n (takes_it h)) = tops_of_reader p f pr.present n (reader_from p a.start f _ h)

extern_from : (p : List Started) (f : List Started → Goal) (a : Span) (ts : List Symbol) → Meets p (gl.extern_goal a f) ts → TopsRead (λ items xs. Meets p (f items) xs) (keyword kw.Extern a ∷ ts)
extern_from p f a ts (inl (takes_it h)) = tops_of_printer p f pr.present (printer_from p a.start f _ h)
extern_from p f a ts (inr (without n h)) = extern_input p f a ts (whole_long p (takes input_word (λ b. gl.reader_goal a.start f)) ts h)

pub tops_from : (p : List Started) (f : List Started → Goal) (t : Symbol) (ts : List Symbol) → Moves p (gl.on_tops f t) t ts → TopsRead (λ items us. Meets p (f items) us) (t ∷ ts)
tops_from p f (keyword kw.Int a) ts h = int_from p f a ts h
tops_from p f (keyword kw.Long a) ts h = long_items p f a ts (long_from p (may input_word (λ b. gl.reader_goal a.start f) (gl.global_named tys.Long a.start f)) a ts h)
tops_from p f (keyword kw.Void a) ts h = tops_of_printer p f pr.absent (printer_from p a.start f ts h)
tops_from p f (keyword kw.Extern a) ts h = extern_from p f a ts h
tops_from p f (hash a) ts (takes_it (takes_name (value_reads v (takes_it (tops_read u h))))) = tops_read (pr.defines refl v u) h
tops_from p f (static a) ts (takes_it (takes_name (takes_it (inl (takes_it (takes_it (units_read u closes (tops_read v h)))))))) = tops_read (pr.a_function (pr.none pr.absent) u v) h
tops_from p f (static a) ts (takes_it (takes_name (takes_it (inr (without n (inl (takes_it (takes_it (takes_it (units_read u closes (tops_read v h))))))))))) = tops_read (pr.a_function (pr.none pr.present) u v) h
tops_from p f (static a) ts (takes_it (takes_name (takes_it (inr (without n (inr (without m (params_read q (takes_it (units_read u closes (tops_read v h))))))))))) = tops_read (pr.a_function (pr.some q) u v) h
tops_from p f t ts h = absurd h
