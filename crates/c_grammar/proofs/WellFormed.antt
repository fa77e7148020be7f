-- Sound symbols spell well-formed programs.
use Rattle.std.proofs.Common.{◌≡◌, ℕ, Bool, false, List, [], ◌∷◌, Option, None, map, refl, IsTrue}
use Rattle.std.specs.Option.{option_map}
use Rattle.c_tree.specs.Placed.{Expr, Exprs, no_exprs, more_exprs, Target, Stmt, Stmts, MaybeStmt, a_stmt, Head, Param, Top, define, extern_, function, Program}
use Rattle.c_tree.specs.declared.tree.Span.{Span}
use Rattle.c_tree.specs.declared.tree.Ty.{Ty}
use Rattle.c_tree.specs.Constants.{IsHeld}
use Rattle.c_tree.specs.Forget.{forget_expr, forget_exprs, forget_target, forget_stmt, forget_stmts, forget_maybe, forget_head, forget_param, forget_top, forget_program}
use Rattle.c_tree.specs.WellFormed.{WellFormedOption, WellFormedTarget, WellFormedStmt, WellFormedStmts, WellFormedPart, WellFormedHead, MayBegin, MayEnd, WellFormedParams, WellFormedInitial, WellFormedTop, WellFormedTops, WellFormed, is_main, ends_in_main}
use Rattle.c_lexer.specs.declared.words.Keyword.{Keyword}
use Rattle.c_tree.specs.declared.tree.Port.TheVariants as port
use Rattle.pragma_grammar.specs.Symbols.{Symbol, start_of, spanning}
use Rattle.pragma_grammar.specs.Sound.{AreSound}
use Rattle.c_lexer.specs.Cut.{Cut}
use Rattle.c_lexer.specs.declared.token.Token.{Token}
use Rattle.pragma_grammar.proofs.Lexed.{sound_cut}
use Rattle.pragma_grammar.proofs.WellFormed.{after_type_name, sound_phrase, sound_subscripts, sound_list, sound_directive}
use Rattle.c_grammar.specs.Statements.{TargetPhrase, targets, Simple, assignment, step_after, step_before, Declarator, unset, valued, read_in, Declarators, last_declarator, next_declarator, Init, no_init, declares, begins, Test, no_test, tests, Next, no_next, goes_on, HeadPhrase, three_parts, Plain, nothing, simply, reads, prints, calls, calls_with, decides, chooses, repeats, does, loops, breaks, continues, transforms, Body, braced, lone, Units, over, next, inner, declared}
use Rattle.c_grammar.specs.Programs.{Signed, positive, negative, Value, bare, in_parens, MayStand, absent, present, MayBeNamed, unnamed, named, Global, plain, valued as with_value, Started, started, Globals, last_global, next_global, Params, last_param, next_param, Parameters, none, some, Tops, the_main, defines, printer, reader, variables, a_function, tops_of, SpellsSymbols, spells, Spells}

-- ---- statements

sound_target : {x : Target} {w : Span} {ts us : List Symbol} → TargetPhrase x w ts us → AreSound ts → WellFormedTarget (forget_target x) × AreSound us
sound_target (targets h) s = let a = sound_subscripts h s.1 in ((s.0, a.0), a.1)

sound_simple : {a : ℕ → Stmt} {z : Span} {ts us : List Symbol} → Simple a z ts us → AreSound ts → (to : ℕ) → WellFormedStmt (forget_stmt (a to)) × AreSound us
sound_simple (assignment h is k) s to = let a = sound_target h s in let b = sound_phrase k a.1.1 in ((a.0, b.0), b.1)
sound_simple (step_after h is) s to = let a = sound_target h s in (a.0, a.1.1)
sound_simple (step_before is h) s to = sound_target h s.1

simple_may_end : {a : ℕ → Stmt} {z : Span} {ts us : List Symbol} → Simple a z ts us → (to : ℕ) → MayEnd (forget_maybe (a_stmt (a to))) × MayBegin (forget_maybe (a_stmt (a to)))
simple_may_end (assignment h is k) to = (tt, tt)
simple_may_end (step_after h is) to = (tt, tt)
simple_may_end (step_before is h) to = (tt, tt)

sound_declarator : {ty : Ty} {from : ℕ} {ss : ℕ → Stmts → Stmts} {z : Span} {ts us : List Symbol} → Declarator ty from ss z ts us → AreSound ts →
    (to : ℕ) (rest : Stmts) → WellFormedStmts (forget_stmts rest) → WellFormedStmts (forget_stmts (ss to rest))
sound_declarator unset s to rest are = ((s.0, tt), are)
sound_declarator (valued h) s to rest are = ((s.0, (sound_phrase h s.1.1).0), are)
sound_declarator read_in s to rest are = ((s.0, tt), ((s.0, tt), are))

after_declarator : {ty : Ty} {from : ℕ} {ss : ℕ → Stmts → Stmts} {z : Span} {ts us : List Symbol} → Declarator ty from ss z ts us → AreSound ts → AreSound us
after_declarator unset s = s.1
after_declarator (valued h) s = (sound_phrase h s.1.1).1
after_declarator read_in s = s.1.1.1.1.1

sound_declarators : {ty : Ty} {from : ℕ} {ss rest : Stmts} {ts us : List Symbol} → Declarators ty from ss rest ts us → AreSound ts →
    WellFormedStmts (forget_stmts rest) → WellFormedStmts (forget_stmts ss)
sound_declarators (last_declarator h) s are = sound_declarator h s _ _ are
sound_declarators (next_declarator h k) s are = sound_declarator h s _ _ (sound_declarators k (after_declarator h s).1 are)

after_declarators : {ty : Ty} {from : ℕ} {ss rest : Stmts} {ts us : List Symbol} → Declarators ty from ss rest ts us → AreSound ts → AreSound us
after_declarators (last_declarator h) s = (after_declarator h s).1
after_declarators (next_declarator h k) s = after_declarators k (after_declarator h s).1

sound_init : {i : MaybeStmt} {ts us : List Symbol} → Init i ts us → AreSound ts → MayBegin (forget_maybe i) × WellFormedPart (forget_maybe i) × AreSound us
sound_init no_init s = (tt, tt, s)
sound_init (declares t h) s = let a = after_type_name t s in let b = sound_phrase h a.1.1 in (tt, (a.0, b.0), b.1)
sound_init (begins {z = z} h) s = let a = sound_simple h s z.end in ((simple_may_end h z.end).1, a.0, a.1)

sound_test : {e : Option Expr} {ts us : List Symbol} → Test e ts us → AreSound ts → WellFormedOption (option_map forget_expr e) × AreSound us
sound_test no_test s = (tt, s)
sound_test (tests h) s = sound_phrase h s

sound_next : {i : MaybeStmt} {ts us : List Symbol} → Next i ts us → AreSound ts → MayEnd (forget_maybe i) × WellFormedPart (forget_maybe i) × AreSound us
sound_next no_next s = (tt, tt, s)
sound_next (goes_on {z = z} h) s = let a = sound_simple h s z.end in ((simple_may_end h z.end).0, a.0, a.1)

sound_head : {h : Head} {ts us : List Symbol} → HeadPhrase h ts us → AreSound ts → WellFormedHead (forget_head h) × AreSound us
sound_head (three_parts h i j) s =
    let a = sound_init h s in let b = sound_test i a.2.1 in let c = sound_next j b.1.1 in ((a.0, a.1, b.0, c.0, c.1), c.2)

mutual
  sound_plain : {a : Stmt} {z : Span} {ts us : List Symbol} → Plain a z ts us → AreSound ts → WellFormedStmt (forget_stmt a) × AreSound us
  sound_plain nothing s = (tt, s.1)
  sound_plain (simply h) s = let a = sound_simple h s _ in (a.0, a.1.1)
  sound_plain (reads is h) s = let a = sound_target h s in (a.0, a.1.1.1.1.1.1)
  sound_plain (prints h) s = let a = sound_phrase h s.1.1 in (a.0, a.1.1.1)
  sound_plain calls s = ((s.0, tt), s.1.1.1.1)
  sound_plain (calls_with h) s = let a = sound_list h s.1.1 in ((s.0, a.1), a.2.1.1)
  sound_plain (decides h k no_else) s = let a = sound_phrase h s.1.1 in let b = sound_body k a.1.1 in ((a.0, b.0), b.1)
  sound_plain (chooses h k l) s =
      let a = sound_phrase h s.1.1 in let b = sound_body k a.1.1 in let c = sound_body l b.1.1 in ((a.0, b.0, c.0), c.1)
  sound_plain (repeats h k) s = let a = sound_phrase h s.1.1 in let b = sound_body k a.1.1 in ((a.0, b.0), b.1)
  sound_plain (does h k) s = let a = sound_body h s.1 in let b = sound_phrase k a.1.1.1 in ((a.0, b.0), b.1.1.1)
  sound_plain (loops h k) s = let a = sound_head h s.1.1 in let b = sound_body k a.1.1 in ((a.0, b.0), b.1)
  sound_plain breaks s = (tt, s.1.1)
  sound_plain continues s = (tt, s.1.1)
  sound_plain (transforms is_pragma is_omp h k) s =
      let a = sound_directive h s.1.1.1 in let b = sound_body k a.1.1 in ((a.0, b.0), b.1)

  sound_body : {ss : Stmts} {z : Span} {ts us : List Symbol} → Body ss z ts us → AreSound ts → WellFormedStmts (forget_stmts ss) × AreSound us
  sound_body (braced h) s = let a = sound_units h s.1 in (a.0, a.1.1)
  sound_body (lone h) s = let a = sound_plain h s in ((a.0, tt), a.1)

  sound_units : {ss : Stmts} {ts us : List Symbol} → Units ss ts us → AreSound ts → WellFormedStmts (forget_stmts ss) × AreSound us
  sound_units over s = (tt, s)
  sound_units (next h k) s = let a = sound_plain h s in let b = sound_units k a.1 in ((a.0, b.0), b.1)
  sound_units (inner h k) s = let a = sound_units h s.1 in let b = sound_units k a.1.1 in ((a.0, b.0), b.1)
  sound_units (declared t h k) s =
      let a = after_type_name t s in let b = sound_units k (after_declarators h a) in (sound_declarators h a b.0, b.1)

-- ---- programs

sound_signed : {minus : Bool} {n : ℕ} {ty : Ty} {ts us : List Symbol} → Signed minus n ty ts us → AreSound ts → IsHeld ty n × AreSound us
sound_signed positive s = s
sound_signed negative s = s.1

sound_value : {minus : Bool} {n : ℕ} {ty : Ty} {ts us : List Symbol} → Value minus n ty ts us → AreSound ts → IsHeld ty n × AreSound us
sound_value (bare h) s = sound_signed h s
sound_value (in_parens h) s = let a = sound_signed h s.1 in (a.0, a.1.1)

after_may : {k : Keyword} {ts us : List Symbol} → MayStand k ts us → AreSound ts → AreSound us
after_may absent s = s
after_may present s = s.1

after_name : {ts us : List Symbol} → MayBeNamed ts us → AreSound ts → AreSound us
after_name unnamed s = s
after_name named s = s.1

plain_initial : (es : Exprs) → WellFormedInitial (forget_exprs es) None
plain_initial no_exprs = tt
plain_initial (more_exprs e es) = refl

sound_global : {ty : Ty} {top : Top} {ts us : List Symbol} → Global ty top ts us → AreSound ts → WellFormedTop (forget_top top) × AreSound us
sound_global (plain {es = es} h) s = let a = sound_subscripts h s.1 in ((s.0, a.0, plain_initial es), a.1)
sound_global (with_value h) s = let a = sound_phrase h s.1.1 in ((s.0, tt, a.0), a.1)

sound_params : {ps : List Param} {ts us : List Symbol} → Params ps ts us → AreSound ts → WellFormedParams (map forget_param ps) × AreSound us
sound_params (last_param t) s = let a = after_type_name t s in ((a.0, tt), a.1)
sound_params (next_param t h) s = let a = after_type_name t s in let b = sound_params h a.1.1 in ((a.0, b.0), b.1)

sound_parameters : {ps : List Param} {ts us : List Symbol} → Parameters ps ts us → AreSound ts → WellFormedParams (map forget_param ps) × AreSound us
sound_parameters (none h) s = (tt, after_may h s)
sound_parameters (some h) s = sound_params h s

-- what the items of a file are, before others that are well formed and end with `main`
abbrev Fit : List Started → Type 0
Fit tops = WellFormedTops (forget_program (tops_of tops)) × IsTrue (ends_in_main (forget_program (tops_of tops)))

one_more : (s : Started) (tops : List Started) → WellFormedTop (forget_top s.top) → is_main (forget_top s.top) ≡ false → Fit tops → Fit (s ∷ tops)
one_more s [] well other fit = cc
one_more s (t ∷ tops) well other fit = ((well, fit.0), rw other fit.1)

after_global : {ty : Ty} {top : Top} {ts us : List Symbol} → Global ty top ts us → is_main (forget_top top) ≡ false
after_global (plain h) = refl
after_global (with_value h) = refl

sound_globals : {ty : Ty} {from : ℕ} {tops rest : List Started} {ts us : List Symbol} → Globals ty from tops rest ts us → AreSound ts → Fit rest → Fit tops
sound_globals (last_global {from = from} {top = top} {rest = rest} h) s fit = one_more (started from top) rest (sound_global h s).0 (after_global h) fit
sound_globals (next_global {from = from} {top = top} {tops = tops} h k) s fit = one_more (started from top) tops (sound_global h s).0 (after_global h) (sound_globals k (sound_global h s).1.1 fit)

after_globals : {ty : Ty} {from : ℕ} {tops rest : List Started} {ts us : List Symbol} → Globals ty from tops rest ts us → AreSound ts → AreSound us
after_globals (last_global h) s = (sound_global h s).1.1
after_globals (next_global h k) s = after_globals k (sound_global h s).1.1

sound_tops : {tops : List Started} {ts us : List Symbol} → Tops tops ts us → AreSound ts → Fit tops
sound_tops (the_main m h r) s = let a = sound_units h (after_may m s.1.1.1).1.1 in ((a.0, tt), refl)
sound_tops (defines {y = y} {minus = minus} {n = n} {ty = ty} {tops = tops} {a = at} {c = c} is h k) s = let a = sound_value h s.1.1.1 in one_more (started at.start (define y minus n ty c)) tops (s.1.1.0, a.0) refl (sound_tops k a.1.1)
sound_tops (printer {tops = tops} {z = z} {ts = ts} m t n k) s =
    one_more (started (start_of ts) (extern_ port.Print (record { start = start_of ts; end = z.end }))) tops tt refl (sound_tops k (after_name n (after_type_name t (after_may m s).1.1.1)).1.1)
sound_tops (reader {tops = tops} {z = z} {ts = ts} m t n k) s =
    one_more (started (start_of ts) (extern_ port.Input (record { start = start_of ts; end = z.end }))) tops tt refl (sound_tops k (after_may n (after_type_name t (after_may m s)).1.1).1.1)
sound_tops (variables t h k) s =
    let a = after_type_name t s in sound_globals h a (sound_tops k (after_globals h a))
sound_tops (a_function {x = x} {ps = ps} {ss = ss} {tops = tops} {a = at} {c = c} {z = z} p h k) s =
    let a = sound_parameters p s.1.1.1.1 in let b = sound_units h a.1.1.1 in
    one_more (started at.start (function x c ps ss (spanning at z))) tops (s.1.1.0, a.0, b.0) refl (sound_tops k b.1.1)

-- what sound symbols spell is well formed
pub sound_symbols : {tops : List Started} {ts : List Symbol} → SpellsSymbols tops ts → AreSound ts → WellFormed (forget_program (tops_of tops))
sound_symbols (spells h) s = sound_tops h s

-- what the tokens of a text spell is well formed
pub texts_are_well_formed : (text : List ℕ) (tokens : List Token) (program : Program) → Cut text tokens → Spells program tokens → WellFormed (forget_program program)
texts_are_well_formed text tokens program cut spelled = rw spelled.same (sound_symbols spelled.spelled (sound_cut cut))
