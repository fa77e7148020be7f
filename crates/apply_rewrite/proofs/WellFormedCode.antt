-- A well-formed program stays well formed when its reverse constructs are carried out.
use Rattle.std.proofs.Common.{◌≡◌, refl, sym, ap, ◌∙◌, subst, ℕ, zero, suc, ◌+◌, ◌≤◌, ◌<◌, List, [], ◌∷◌, length, reverse, Option, Some, None, Bool, true, false, ◌&&◌, ◌||◌, not, IsTrue, arith, lit<, lit≤, ◌^◌, ℤ, nat_abs}
use Rattle.std.specs.Prelude.{is_some, if◌then◌else◌, nat_lt}
use Rattle.std.specs.List.{list_all}
use Rattle.std.proofs.lemmas.Bool.{both_ways, ltb-true, le-leb, and_parts, and_from}
use Rattle.std.proofs.lemmas.List.{reverse-append}
use Rattle.std.proofs.lemmas.List.Folds.{list_all-append}
use Rattle.c_tree.specs.Bare.{Name, Expr, num, read, item, un, bin, cond, cast, no_exprs, more_exprs, target, Stmt, decl, set, step, print, input, if_, if_else, while_, do_, for_, block, break_, continue_, empty, omp, call, Stmts, no_stmts, more_stmts, MaybeStmt, no_stmt, a_stmt, head, Top, define, extern_, global, function, main, Program}
use Rattle.c_tree.specs.declared.tree.Ty.{Ty}
use Rattle.c_tree.specs.declared.tree.Ty.TheVariants.{Long}
use Rattle.c_tree.specs.declared.tree.BinOp.{BinOp}
use Rattle.c_tree.specs.declared.tree.BinOp.TheVariants.{Sub, Lt, Gt, Le, Ge, Ne}
use Rattle.c_tree.specs.declared.tree.SetOp.{SetOp}
use Rattle.c_tree.specs.declared.tree.SetOp.TheVariants as to
use Rattle.c_tree.specs.Constants.{IsHeld}
use Rattle.c_tree.specs.NameRules.DeclaredNames.{is_among}
use Rattle.c_tree.specs.WellFormed.{keywords, is_letter, is_digit, IsName, WellFormedExpr, WellFormedOption, WellFormedStmt, WellFormedStmts, WellFormedPart, WellFormedTops, WellFormed, is_main, ends_in_main}
use Rattle.c_semantics.specs.Meaning.State.{State, nowhere}
use Rattle.c_semantics.specs.Meaning.Expressions.{Define}
use Rattle.c_semantics.specs.Meaning.FileVariables.{has_name, defines_with}
use Rattle.c_semantics.specs.Loops.CanonicalForm.{Canonical, Init, Test, canonical, init, test, test_from, turned, is_read, increment, fits_test, is_step_for, with_step, with_test, with_init}
use Rattle.c_semantics.specs.Loops.Directives.{plan_of}
use Rattle.c_semantics.specs.Loops.Transformations.{reverse_, Plan, plan, Applied, none_applied, applied_at}
use Rattle.c_semantics.specs.Structure.Skeleton.{scope_after}
use Rattle.c_scopes.specs.Types.{with_params}
use Rattle.c_scopes.specs.Laws.{scope_with}
use Rattle.loop_normal.specs.Gens.{gen_loop, Seq, Looped, Plain, Parts, no_parts, more_parts, Gen, join, let_stmt, parts_stmts, emit}
use Rattle.loop_normal.specs.Templates.{ll, only, SourceLoop, LoopNames, leaf, source_var, count_by, is_up, signed_literal, value_expr, begins_at_zero, on_first}
use Rattle.loop_normal.specs.DrawnNames.{FreshNames, next_digits, numbered, untaken, drawn_digits, drawn, after_draw, after_draws, loop_names}
use Rattle.loop_normal.specs.FromZero.{from_zero, after_from_zero}
use Rattle.loop_normal.specs.SourceNames.{beside_program}
use Rattle.permute_reverse.specs.Reversed.{reversed, reversed_gen}
use Rattle.carried_out.specs.CarriedOut.{Made, made_leaf, variable_type, with_type, where_typed, loop_at, scope_below, in_head, planned, items_applied, carried, carried_all, nest, nest_in, made_reverse, carried_top, carried_items, carried_out}
use Rattle.carried_out.specs.Reversible.{all_stay_in, is_reversal, is_reversible, are_reversible, is_nest, is_nest_in, are_reversible_items, is_reversible_program}
use Rattle.carried_out.proofs.FromZero.{stays_from_zero, draws_none}

-- ---- drawn names

abbrev AreDecimal : List ℕ → Type 0
AreDecimal [] = Unit {0}
AreDecimal (d ∷ ds) = (48 ≤ d) × (d ≤ 57) × AreDecimal ds

next_decimal : (ds : List ℕ) → AreDecimal ds → AreDecimal (next_digits ds)
next_decimal [] h = (lit≤ tt, lit≤ tt, tt)
next_decimal (d ∷ ds) h = by (nat_lt d 57) refl (next_decimal ds h.2)
  where
    by : (b : Bool) → nat_lt d 57 ≡ b → AreDecimal (next_digits ds) → AreDecimal (if b then (d + 1) ∷ ds else 48 ∷ next_digits ds)
    by true e k = let l = ltb-true d 57 e in let m = h.0 in (omega arith, omega arith, h.2)
    by false e k = (lit≤ tt, lit≤ tt, k)

untaken_decimal : (taken : List Name) (k : ℕ) (ds : List ℕ) → AreDecimal ds → AreDecimal (untaken taken k ds)
untaken_decimal taken zero ds h = h
untaken_decimal taken (suc k) ds h = by (has_name taken (numbered ds)) (untaken_decimal taken k (next_digits ds) (next_decimal ds h))
  where
    by : (b : Bool) → AreDecimal (untaken taken k (next_digits ds)) → AreDecimal (if b then untaken taken k (next_digits ds) else ds)
    by true e = e
    by false e = h

drawn_decimal : (f : FreshNames) → AreDecimal f.digits → AreDecimal (drawn_digits f)
drawn_decimal f h = untaken_decimal f.taken (length f.taken) f.digits h

after_decimal : (k : ℕ) (f : FreshNames) → AreDecimal f.digits → AreDecimal (after_draws k f).digits
after_decimal zero f h = h
after_decimal (suc k) f h = after_decimal k (after_draw f) (next_decimal (drawn_digits f) (drawn_decimal f h))

abbrev in_word : ℕ → Bool
in_word d = is_letter d || is_digit d

or_true : (a : Bool) → (a || true) ≡ true
or_true true = refl
or_true false = refl

digit_in_word : (d : ℕ) → 48 ≤ d → d ≤ 57 → in_word d ≡ true
digit_in_word d h k = ap (λ b. is_letter d || b) (and_from _ _ (le-leb 48 d h) (le-leb d 57 k)) ∙ or_true (is_letter d)

all_in_word : (ds : List ℕ) → AreDecimal ds → list_all in_word (reverse ds) ≡ true
all_in_word [] h = refl
all_in_word (d ∷ ds) h =
    ap (list_all in_word) (reverse-append (d ∷ []) ds) ∙ list_all-append in_word (reverse ds) (d ∷ [])
    ∙ and_from _ _ (all_in_word ds h.2) (and_from _ _ (digit_in_word d h.0 h.1) refl)

numbered_name : (ds : List ℕ) → AreDecimal ds → IsName (numbered ds)
numbered_name ds h = subst (λ b. IsTrue (b && not (is_among (numbered ds) keywords))) (sym (all_in_word ds h)) refl

drawn_name : (f : FreshNames) → AreDecimal f.digits → IsName (drawn f)
drawn_name f h = numbered_name (drawn_digits f) (drawn_decimal f h)

-- ---- the parts of a canonical loop

record WellLoop (c : Canonical) : Type 0 where
  pub var : IsName c.var
  pub lb : WellFormedExpr c.lb
  pub ub : WellFormedExpr c.ub
  pub step : nat_abs c.step < 2 ^ 63

abbrev WellIf : Option Canonical → Type 0
WellIf None = Unit {0}
WellIf (Some c) = WellLoop c

abbrev InitWell : Option Init → Type 0
InitWell None = Unit {0}
InitWell (Some i) = IsName i.var × WellFormedExpr i.lb

abbrev TestWell : Option Test → Type 0
TestWell None = Unit {0}
TestWell (Some t) = WellFormedExpr t.ub

set_well : (x : Name) (o : SetOp) (e : Expr) → IsName x → WellFormedExpr e → InitWell (init (a_stmt (set (target x no_exprs) o e)))
set_well x to.Plain e h k = (h, k)
set_well x to.Add e h k = tt
set_well x to.Sub e h k = tt
set_well x to.Mul e h k = tt
set_well x to.Div e h k = tt
set_well x to.Rem e h k = tt

init_well : (i : MaybeStmt) → WellFormedPart i → InitWell (init i)
init_well no_stmt h = tt
init_well (a_stmt (decl t x None)) h = tt
init_well (a_stmt (decl t x (Some e))) h = (h.0, h.1)
init_well (a_stmt (set (target x no_exprs) o e)) h = set_well x o e h.0.0 h.1
init_well (a_stmt (set (target x (more_exprs f fs)) o e)) h = tt
init_well (a_stmt (step t up)) h = tt
init_well (a_stmt (print e)) h = tt
init_well (a_stmt (input t)) h = tt
init_well (a_stmt (if_ e a)) h = tt
init_well (a_stmt (if_else e a b)) h = tt
init_well (a_stmt (while_ e a)) h = tt
init_well (a_stmt (do_ a e)) h = tt
init_well (a_stmt (for_ g a)) h = tt
init_well (a_stmt (block a)) h = tt
init_well (a_stmt break_) h = tt
init_well (a_stmt continue_) h = tt
init_well (a_stmt empty) h = tt
init_well (a_stmt (omp d a)) h = tt
init_well (a_stmt (call f es)) h = tt

sides_well : (l r : Bool) (o : BinOp) (t : Option BinOp) (a b : Expr) → WellFormedExpr a → WellFormedExpr b → TestWell (test_from l r o t a b)
sides_well true r o (Some u) a b h k = k
sides_well true true o None a b h k = tt
sides_well true false o None a b h k = tt
sides_well false true o (Some u) a b h k = h
sides_well false true o None a b h k = tt
sides_well false false o (Some u) a b h k = tt
sides_well false false o None a b h k = tt

test_well : (x : Name) (e : Option Expr) → WellFormedOption e → TestWell (test x e)
test_well x None h = tt
test_well x (Some (num k t)) h = tt
test_well x (Some (read y)) h = tt
test_well x (Some (item y es)) h = tt
test_well x (Some (un o a)) h = tt
test_well x (Some (bin o a b)) h = sides_well (is_read x a) (is_read x b) o (turned o) a b h.0 h.1
test_well x (Some (cond a b c)) h = tt
test_well x (Some (cast t a)) h = tt

step_well : (i : Init) (t : Test) (z : Option ℤ) → IsName i.var × WellFormedExpr i.lb → WellFormedExpr t.ub → WellIf (with_step i t z)
step_well i t None h k = tt
step_well i t (Some z) h k = by (is_step_for t.op z) refl
  where
    by : (b : Bool) → is_step_for t.op z ≡ b → WellIf (if b then Some (record { var = i.var; ty = i.ty; lb = i.lb; ub = t.ub; test = t.op; step = z }) else None)
    by true e = record { var = h.0; lb = h.1; ub = k; step = ltb-true (nat_abs z) (2 ^ 63) (and_parts (fits_test t.op z) _ e).1 }
    by false e = tt

tested_well : (ds : List Define) (m : MaybeStmt) (i : Init) (t : Option Test) → IsName i.var × WellFormedExpr i.lb → TestWell t → WellIf (with_test ds m i t)
tested_well ds m i None h k = tt
tested_well ds m i (Some t) h k = step_well i t (increment ds i.var m) h k

begun_well : (ds : List Define) (e : Option Expr) (m : MaybeStmt) (i : Option Init) → WellFormedOption e → InitWell i → WellIf (with_init ds e m i)
begun_well ds e m None k h = tt
begun_well ds e m (Some i) k h = tested_well ds m i (test i.var e) h (test_well i.var e k)

abbrev WellSource : SourceLoop → Type 0
WellSource l = IsName l.var × WellFormedExpr l.lb × WellFormedExpr l.ub × (nat_abs l.step < 2 ^ 63)

abbrev WellSourceIf : Option SourceLoop → Type 0
WellSourceIf None = Unit {0}
WellSourceIf (Some l) = WellSource l

typed_well : (s : State) (o : Option Canonical) → WellIf o → WellSourceIf (where_typed s o)
typed_well s None h = tt
typed_well s (Some c) h = by (variable_type s c.ty c.var)
  where
    by : (t : Option Ty) → WellSourceIf (with_type c t)
    by None = tt
    by (Some T) = (h.var, h.lb, h.ub, h.step)

-- ---- generated code

one_held : IsHeld Long 1
one_held = lit< tt

zero_held : IsHeld Long 0
zero_held = lit< tt

count_well : (op : BinOp) (u : Bool) (s : ℕ) (a b : Name) → s < 2 ^ 63 → IsName a → IsName b → WellFormedExpr (count_by op u s a b)
count_well Lt true s a b h x y = ((x, y), ((((y, x), one_held), h), one_held), zero_held)
count_well Le true s a b h x y = ((x, y), (((y, x), h), one_held), zero_held)
count_well Ne true s a b h x y = ((x, y), ((((y, x), one_held), h), one_held), zero_held)
count_well Gt false s a b h x y = ((x, y), ((((x, y), one_held), h), one_held), zero_held)
count_well Ge false s a b h x y = ((x, y), (((x, y), h), one_held), zero_held)
count_well Ne false s a b h x y = ((x, y), ((((x, y), one_held), h), one_held), zero_held)
count_well op u s a b h x y = zero_held

signed_well : (u : Bool) (s : ℕ) → s < 2 ^ 63 → WellFormedExpr (signed_literal u s)
signed_well true s h = h
signed_well false s h = h

value_well : (T : Ty) (by : ℤ) (a t : Name) → nat_abs by < 2 ^ 63 → IsName a → IsName t → WellFormedExpr (value_expr T by a t)
value_well T by a t h x y = (x, (y, signed_well (is_up by) (nat_abs by) h))

-- one loop from 0 on round well-formed statements, after a well-formed front
record WellGen (g : Gen) : Type 0 where
  pub counter : Name
  pub end : Expr
  pub below : Parts
  pub parts : g.parts ≡ more_parts (Looped (gen_loop no_stmts counter (ll 0) end (Seq below))) no_parts
  pub counter_named : IsName counter
  pub end_well : WellFormedExpr end
  pub body : WellFormedStmts (parts_stmts below)
  pub front : (rest : Stmts) → WellFormedStmts rest → WellFormedStmts (join g.front rest)

record NamesWell (m : LoopNames) : Type 0 where
  pub begin : IsName m.begin
  pub end : IsName m.end
  pub count : IsName m.count
  pub counter : IsName m.counter

leaf_well : (m : LoopNames) (h : SourceLoop) (body : Stmts) → NamesWell m → WellSource h → WellFormedStmts body → WellGen (leaf m h body)
leaf_well m h body n w b = record {
  counter = m.counter;
  end = read m.count;
  below = more_parts (Plain (more_stmts (source_var m h) (only (block body)))) no_parts;
  parts = refl;
  counter_named = n.counter;
  end_well = n.count;
  body = ((w.0, value_well h.ty h.step m.begin m.counter w.3 n.begin n.counter), (b, tt));
  front = λ rest r. ((n.begin, w.1), ((n.end, w.2), ((n.count, count_well h.test (is_up h.step) (nat_abs h.step) m.begin m.end w.3 n.begin n.end), r)));
}

reversed_well : (r : Name) (g : Gen) → IsName r → WellGen g → WellGen (reversed_gen r g)
reversed_well r g n w = record {
  counter = r;
  end = w.end;
  below = more_parts (Plain (only (let_stmt w.counter (bin Sub (bin Sub w.end (ll 1)) (read r))))) w.below;
  parts = ap (on_first (reversed r)) w.parts;
  counter_named = n;
  end_well = w.end_well;
  body = ((w.counter_named, ((w.end_well, one_held), n)), w.body);
  front = w.front;
}

emitted_well : (g : Gen) → WellGen g → WellFormedStmts (emit g)
emitted_well g w = w.front (parts_stmts g.parts) (subst (λ z. WellFormedStmts (parts_stmts z)) (sym w.parts)
    (((tt, (w.counter_named, zero_held), (w.counter_named, w.end_well), tt, (w.counter_named, tt)), w.body), tt))

record WellNest (m : Made Gen) : Type 0 where
  pub gen : WellGen m.tree
  pub digits : AreDecimal m.left.digits

made_well : (m : Made Gen) → WellNest m → WellNest (made_reverse m)
made_well m w =
    let zero : begins_at_zero m.tree.parts ≡ true = ap begins_at_zero w.gen.parts in
    let at : AreDecimal (after_from_zero m.left m.tree).digits = subst (λ z. AreDecimal z.digits) (sym (draws_none m.left m.tree zero)) w.digits in
    let f = after_from_zero m.left m.tree in
    record {
      gen = reversed_well (drawn f) (from_zero m.left m.tree) (drawn_name f at) (subst WellGen (sym (stays_from_zero m.left m.tree zero)) w.gen);
      digits = next_decimal (drawn_digits f) (drawn_decimal f at);
    }

mutual
  planned_well : (p : Plan) (m : Made Gen) → WellNest m → WellNest (planned p m)
  planned_well (plan reverse_ w) m k = applied_well w (made_reverse m) (made_well m k)
  planned_well (plan t w) m k = applied_well w m k

  applied_well : (w : Applied) (m : Made Gen) → WellNest m → WellNest (items_applied w m)
  applied_well none_applied m k = k
  applied_well (applied_at p d w) m k = applied_well w (planned d m) (planned_well d m k)

-- ---- statements

module _ (ds : List Define) where
  record WellStmt (m : Made Stmt) : Type 0 where
    pub tree : WellFormedStmt m.tree
    pub digits : AreDecimal m.left.digits

  record WellStmts (m : Made Stmts) : Type 0 where
    pub tree : WellFormedStmts m.tree
    pub digits : AreDecimal m.left.digits

  the_loop_well : (o : Option SourceLoop) (m : Made Stmts) → is_some o ≡ true → WellSourceIf o → WellStmts m → WellNest (made_leaf o m)
  the_loop_well None m e h w = absurd (both_ways false refl e)
  the_loop_well (Some l) m e h w =
      let d = w.digits in
      let name = λ (k : ℕ). drawn_name (after_draws k m.left) (after_decimal k m.left d) in
      record {
        gen = leaf_well (loop_names m.left) l m.tree (record { begin = name 0; end = name 1; count = name 2; counter = name 3 }) h w.tree;
        digits = after_decimal 4 m.left d;
      }

  mutual
    well_stmt : (s : State) (a : Stmt) → is_reversible ds s a ≡ true → WellFormedStmt a → (f : FreshNames) → AreDecimal f.digits → WellStmt (carried ds s a f)
    well_stmt s (decl t x e) h w f d = record { tree = w; digits = d }
    well_stmt s (set t op e) h w f d = record { tree = w; digits = d }
    well_stmt s (step t up) h w f d = record { tree = w; digits = d }
    well_stmt s (print e) h w f d = record { tree = w; digits = d }
    well_stmt s (input t) h w f d = record { tree = w; digits = d }
    well_stmt s (call x es) h w f d = record { tree = w; digits = d }
    well_stmt s break_ h w f d = record { tree = w; digits = d }
    well_stmt s continue_ h w f d = record { tree = w; digits = d }
    well_stmt s empty h w f d = record { tree = w; digits = d }
    well_stmt s (if_ e a) h w f d = let k = well_stmts s a h w.1 f d in record { tree = (w.0, k.tree); digits = k.digits }
    well_stmt s (if_else e a b) h w f d =
        let k = well_stmts s a (and_parts _ _ h).0 w.1 f d in
        let l = well_stmts s b (and_parts (are_reversible ds s a) _ h).1 w.2 (carried_all ds s a f).left k.digits in
        record { tree = (w.0, k.tree, l.tree); digits = l.digits }
    well_stmt s (while_ e a) h w f d = let k = well_stmts s a h w.1 f d in record { tree = (w.0, k.tree); digits = k.digits }
    well_stmt s (do_ a e) h w f d = let k = well_stmts s a h w.0 f d in record { tree = (k.tree, w.1); digits = k.digits }
    well_stmt s (for_ g a) h w f d = let k = well_stmts (in_head g s) a h w.1 f d in record { tree = (w.0, k.tree); digits = k.digits }
    well_stmt s (block a) h w f d = let k = well_stmts s a h w f d in record { tree = k.tree; digits = k.digits }
    well_stmt s (omp d a) h w f digits =
        let m = nest ds s a f in
        let k = planned_well (plan_of ds d) m (well_nest s a (and_parts (is_reversal (plan_of ds d)) _ h).1 w.1 f digits) in
        record { tree = emitted_well (planned (plan_of ds d) m).tree k.gen; digits = k.digits }

    well_stmts : (s : State) (a : Stmts) → are_reversible ds s a ≡ true → WellFormedStmts a → (f : FreshNames) → AreDecimal f.digits → WellStmts (carried_all ds s a f)
    well_stmts s no_stmts h w f d = record { tree = tt; digits = d }
    well_stmts s (more_stmts a as') h w f d =
        let k = well_stmt s a (and_parts _ _ h).0 w.0 f d in
        let l = well_stmts (scope_after a s) as' (and_parts (is_reversible ds s a) _ h).1 w.1 (carried ds s a f).left k.digits in
        record { tree = (k.tree, l.tree); digits = l.digits }

    well_nest : (s : State) (a : Stmts) → is_nest ds s a ≡ true → WellFormedStmts a → (f : FreshNames) → AreDecimal f.digits → WellNest (nest ds s a f)
    well_nest s no_stmts h w f d = absurd (both_ways false refl h)
    well_nest s (more_stmts a no_stmts) h w f d = well_nest_in s a h w.0 f d
    well_nest s (more_stmts a (more_stmts b as')) h w f d = absurd (both_ways false refl h)

    well_nest_in : (s : State) (a : Stmt) → is_nest_in ds s a ≡ true → WellFormedStmt a → (f : FreshNames) → AreDecimal f.digits → WellNest (nest_in ds s a f)
    well_nest_in s (for_ (head i e next) a) h w f d =
        let l = loop_at ds s (head i e next) in
        let rest = (and_parts (is_some l) _ h).1 in
        the_loop_well l (carried_all ds (scope_below s l) a f) (and_parts _ _ h).0
        (typed_well s (canonical ds (head i e next)) (begun_well ds e next (init i) w.0.2 (init_well i w.0.1)))
        (well_stmts (scope_below s l) a (and_parts (all_stay_in a) _ rest).1 w.1 f d)
    well_nest_in s (block a) h w f d = well_nest s a h w f d
    well_nest_in s (omp d a) h w f digits = planned_well (plan_of ds d) (nest ds s a f) (well_nest s a (and_parts (is_reversal (plan_of ds d)) _ h).1 w.1 f digits)
    well_nest_in s a h w f d = absurd (both_ways false refl h)

-- ---- programs

well_items : (ds : List Define) (s : State) (p : Program) → are_reversible_items ds s p ≡ true → WellFormedTops p → (f : FreshNames) → AreDecimal f.digits → WellFormedTops (carried_items ds s p f).tree
well_items ds s [] h w f d = tt
well_items ds s (define x minus k t ∷ is) h w f d = (w.0, well_items (defines_with ds (define x minus k t)) s is h w.1 f d)
well_items ds s (extern_ port ∷ is) h w f d = (w.0, well_items ds s is h w.1 f d)
well_items ds s (global t x dims e ∷ is) h w f d = (w.0, well_items ds (scope_with s (global t x dims e)) is h w.1 f d)
well_items ds s (function x ps a ∷ is) h w f d =
    let k = well_stmts ds (with_params ps s) a (and_parts _ _ h).0 w.0.2 f d in
    ((w.0.0, w.0.1, k.tree), well_items ds s is (and_parts (are_reversible ds (with_params ps s) a) _ h).1 w.1 (carried_top ds s (function x ps a) f).left k.digits)
well_items ds s (main a ∷ is) h w f d =
    let k = well_stmts ds s a (and_parts _ _ h).0 w.0 f d in
    (k.tree, well_items ds s is (and_parts (are_reversible ds s a) _ h).1 w.1 (carried_top ds s (main a) f).left k.digits)

same_kind : (ds : List Define) (s : State) (i : Top) (f : FreshNames) → is_main (carried_top ds s i f).tree ≡ is_main i
same_kind ds s (define x minus k t) f = refl
same_kind ds s (extern_ port) f = refl
same_kind ds s (global t x dims e) f = refl
same_kind ds s (function x ps a) f = refl
same_kind ds s (main a) f = refl

same_end : (ds : List Define) (s : State) (p : Program) (f : FreshNames) → ends_in_main (carried_items ds s p f).tree ≡ ends_in_main p
same_end ds s [] f = refl
same_end ds s (i ∷ []) f = same_kind ds s i f
same_end ds s (i ∷ j ∷ is) f =
    ap (λ z. not z && ends_in_main (carried_items (defines_with ds i) (scope_with s i) (j ∷ is) (carried_top ds s i f).left).tree) (same_kind ds s i f)
    ∙ ap (λ z. not (is_main i) && z) (same_end (defines_with ds i) (scope_with s i) (j ∷ is) (carried_top ds s i f).left)

pub stays_well_formed : (p : Program) → is_reversible_program p ≡ true → WellFormed p → WellFormed (carried_out p)
stays_well_formed p h w = (
  well_items [] nowhere p h w.0 (beside_program p) (lit≤ tt, lit≤ tt, tt),
  subst IsTrue (sym (same_end [] nowhere p (beside_program p))) w.1,
)
