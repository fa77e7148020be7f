-- The normal form of one loop denotes the loop, the traps of its entry included.
use Rattle.std.proofs.Common.{◌≡◌, refl, sym, ap, ◌∙◌, subst, ℕ, ◌+◌, ◌^◌, ◌<◌, List, [], ◌∷◌, ◌++◌, Some, None, Result, Ok, Err, Bool, true, false, ℤ, pos, slice_get, arith}
use Rattle.std.specs.Prelude.{if◌then◌else◌, nat_lt, nat_abs}
use Rattle.std.proofs.lemmas.Bool.{ltb-true}
use Rattle.c_tree.specs.Bare.{Name, Expr, read, decl, Stmts, no_stmts, more_stmts}
use Rattle.c_tree.specs.declared.tree.Ty.{Ty}
use Rattle.c_tree.specs.declared.tree.Ty.TheVariants.{Long}
use Rattle.c_tree.specs.declared.tree.BinOp.{BinOp}
use Rattle.c_tree.specs.declared.arithmetic.Trap.{Trap}
use Rattle.c_tree.specs.declared.arithmetic.Trap.TheVariants.{Overflow, Narrow}
use Rattle.c_tree.specs.Arithmetic.{and_then, or_trap, convert, holds}
use Rattle.c_semantics.specs.Meaning.State.{scalar, Var, State, find, or_else, push}
use Rattle.c_semantics.specs.Meaning.Expressions.{Define, eval}
use Rattle.c_semantics.specs.Meaning.Runs.{Next, ends, with_value, then_do}
use Rattle.c_semantics.specs.Meaning.SimpleStatements.{Env}
use Rattle.c_semantics.specs.Meaning.Statements.{exec_all}
use Rattle.c_semantics.specs.Loops.CanonicalForm.{Canonical}
use Rattle.c_semantics.specs.Loops.TripCount.{Range, count, small, entry, loop_type, turns_over, inclusive, distance, value_at}
use Rattle.c_semantics.specs.Loops.IterationTrees.{Tree, body}
use Rattle.c_semantics.specs.Loops.Forest.{loop_over}
use Rattle.c_semantics.specs.Loops.Execution.{Body}
use Rattle.c_semantics.specs.Laws.Names.{Names}
use Rattle.c_semantics.specs.Laws.Apart.{Differ}
use Rattle.c_semantics.proofs.Evals.{value_same, eval_same}
use Rattle.loop_normal.specs.Frames.{above, long, AgreesBut, Foreign}
use Rattle.loop_normal.specs.Gens.{Gen}
use Rattle.loop_normal.specs.Templates.{LoopNames, count_expr, value_expr, leaf}
use Rattle.loop_normal.specs.Denotes.{Value, GrowsFrame, GenMeans}
use Rattle.loop_normal.specs.FreshNames.{Source, NamesNone, AreApart}
use Rattle.loop_normal.specs.Laws.{source_loop}
use Rattle.loop_normal.proofs.FreshFrames.{value_num, value_read, found_top, found_but, find_other, same_name, differ_sym}
use Rattle.loop_normal.proofs.Bodies.{leaf_turns}

-- ---- one after another

pub then_all : {A B C : Type 0} (r : Result A Trap) (f : A → Result B Trap) (g : B → Result C Trap) → and_then (and_then r f) g ≡ and_then r (λ a. and_then (f a) g)
then_all (Err x) f g = refl
then_all (Ok a) f g = refl

pub bound_first : {A C : Type 0} (r : Result ℤ Trap) (f : ℤ → Result ℤ Trap) (k : ℤ → Result A Trap) (g : A → Result C Trap) → and_then (and_then r (λ z. and_then (f z) k)) g ≡ and_then (and_then r f) (λ z. and_then (k z) g)
bound_first (Err x) f k g = refl
bound_first (Ok z) f k g = then_all (f z) k g

-- ---- a count fits

abbrev got : Result ℕ Trap → ℕ
got (Ok m) = m
got (Err x) = 0

pub trap_not : (x : Trap) (m : ℕ) → Err x ≡ Ok m → ⊥
trap_not x m e = subst (λ r. elim r as (λ y. Type 0) [ Ok k ↦ ⊥ | Err y ↦ Unit {0} ]) e tt

turns_fit : (k m : ℕ) (t : Bool) → nat_lt k (2 ^ 63) ≡ t → and_then (or_trap t Overflow (pos k)) (λ c. Ok (nat_abs c)) ≡ Ok m → m < 2 ^ 63
turns_fit k m true e h = let l = ltb-true k (2 ^ 63) e in let same : k ≡ m = ap got h in omega (arith, l, same)
turns_fit k m false e h = absurd (trap_not Overflow m h)

pub count_fits : (op : BinOp) (by lb ub : ℤ) (m : ℕ) → count op by lb ub ≡ Ok m → m < 2 ^ 63
count_fits op by lb ub m h = cases (small (distance by lb ub)) h
  where
    cases : (r : Result ℤ Trap) → and_then r (λ d. and_then (small (pos (turns_over (inclusive op) d (nat_abs by)))) (λ c. Ok (nat_abs c))) ≡ Ok m → m < 2 ^ 63
    cases (Err x) e = absurd (trap_not x m e)
    cases (Ok d) e = let k = turns_over (inclusive op) d (nat_abs by) in turns_fit k m (nat_lt k (2 ^ 63)) refl e

-- ---- a converted number is in its type's range

abbrev number_in : Result ℤ Trap → ℤ
number_in (Ok z) = z
number_in (Err x) = pos 0

pub no_number : (x : Trap) (z : ℤ) → Err x ≡ Ok z → ⊥
no_number x z e = subst (λ r. elim r as (λ y. Type 0) [ Ok k ↦ ⊥ | Err y ↦ Unit {0} ]) e tt

pub held : (T : Ty) (r : Result ℤ Trap) (z : ℤ) → and_then r (convert T) ≡ Ok z → holds T z ≡ true
held T (Err x) z h = absurd (no_number x z h)
held T (Ok y) z h = by (holds T y) refl h
  where
    by : (t : Bool) → holds T y ≡ t → or_trap t Narrow y ≡ Ok z → holds T z ≡ true
    by true e k = ap (holds T) (sym (ap number_in k)) ∙ e
    by false e k = absurd (no_number Narrow z k)

-- ---- source expressions below fresh variables

pub find_foreign : (Out : Name → Type 0) (x : Name) → (f l : List Var) → Foreign Out f → ((y : Name) → Out y → Differ x y) → find x (f ++ l) ≡ find x l
find_foreign Out x [] l o h = refl
find_foreign Out x (v ∷ f) l o h = ap (λ t. if t then Some v.cell else find x (f ++ l)) (h v.name o.0) ∙ find_foreign Out x f l o.1 h

pub source_value : (Out : Name → Type 0) (ds : List Define) (e : Expr) → Names (Source Out) e → (f : List Var) (s : State) → Foreign Out f → eval ds (above f s) e ≡ eval ds s e
source_value Out ds e h f s o = eval_same ds (Source Out) s (above f s) (λ x k. ap (λ c. or_else c (find x s.globals)) (find_foreign Out x f s.frame o k)) e h

-- ---- the normal form

-- what the count and the variable are worth, wherever the begin, the end and the counter are in reach
pub record Worth (ds : List Define) (c : Canonical) (T : Ty) (m : LoopNames) : Type 0 where
  pub count_is : (lb ub : ℤ) → holds T lb ≡ true → holds T ub ≡ true → (f : List Var) (s : State) →
      find m.begin f ≡ Some (scalar T (Some lb)) → find m.end f ≡ Some (scalar T (Some ub)) →
      and_then (eval ds (above f s) (count_expr c.test c.step m.begin m.end)) (convert Long) ≡ and_then (count c.test c.step lb ub) (λ k. Ok (pos k))
  pub value_is : (lb ub : ℤ) → holds T lb ≡ true → holds T ub ≡ true → (k i : ℕ) → count c.test c.step lb ub ≡ Ok k → i < k → (f : List Var) (s : State) →
      find m.begin f ≡ Some (scalar T (Some lb)) → find m.counter f ≡ Some (scalar Long (Some (pos (0 + i)))) →
      and_then (eval ds (above f s) (value_expr T c.step m.begin m.counter)) (convert T) ≡ Ok (value_at (record { var = c.var; ty = T; from = lb; step = c.step; count = k }) i)

module _ (n : ℕ) (env : Env) (Out : Name → Type 0) (bs : List Body) (c : Canonical) (T : Ty) (m : LoopNames) (as' : Stmts) where
  abbrev ds : List Define
  ds = env.defines

  abbrev var_of : Name → ℤ → Var
  var_of x z = record { name = x; cell = scalar T (Some z) }

  -- a variable before it has its value
  abbrev unset : Ty → Name → Var
  unset t x = record { name = x; cell = scalar t None }

  -- the front's variables
  abbrev fronts : ℤ → ℤ → ℕ → List Var
  fronts lb ub k = long m.count k ∷ var_of m.end ub ∷ var_of m.begin lb ∷ []

  abbrev range_ : ℤ → ℤ → ℕ → Range
  range_ lb ub k = record { var = c.var; ty = T; from = lb; step = c.step; count = k }

  module _ (worth : Worth env.defines c T m) (apart_names : AreApart m) (b : ℕ) (bodies : slice_get bs b ≡ Some (record { vars = (c.var, T) ∷ []; run = exec_all n env as' })) (apart : NamesNone Out as') (grows : GrowsFrame (exec_all n env as'))
      (var_apart : Source Out c.var) (lb_apart : Names (Source Out) c.lb) (ub_apart : Names (Source Out) c.ub) (out : Out m.begin × Out m.end × Out m.count × Out m.counter) where
    abbrev g : Gen
    g = leaf m (source_loop c T) as'

    abbrev count_ : Expr
    count_ = count_expr c.test c.step m.begin m.end

    abbrev value_ : Expr
    value_ = value_expr T c.step m.begin m.counter

    -- a front's declaration
    declares : (t : Ty) (x : Name) (e : Expr) (rest : Stmts) (r : Result ℤ Trap) (f : List Var) (s : State) → and_then (eval ds (above (unset t x ∷ f) s) e) (convert t) ≡ r →
        exec_all n env (more_stmts (decl t x (Some e)) rest) (above f s) ≡ then_do (with_value r (above (unset t x ∷ f) s) (λ z. ends Next (push x (scalar t (Some z)) (above f s)))) (exec_all n env rest)
    declares t x e rest r f s h = ap (λ o. then_do (with_value o (above (unset t x ∷ f) s) (λ z. ends Next (push x (scalar t (Some z)) (above f s)))) (exec_all n env rest)) h

    abbrev counted : Stmts
    counted = more_stmts (decl Long m.count (Some count_)) no_stmts

    abbrev ended : Stmts
    ended = more_stmts (decl T m.end (Some c.ub)) counted

    abbrev trees : ℤ → ℤ → ℕ → List Tree
    trees lb ub k = loop_over (range_ lb ub k) (body b [] ∷ [])

    module _ (p : List Var) (s : State) where
      begins_as : (r : Result ℤ Trap) → and_then (eval ds s c.lb) (convert T) ≡ r → (f : List Var) → Foreign Out f → and_then (eval ds (above (unset T m.begin ∷ f) s) c.lb) (convert T) ≡ r
      begins_as r e f o = ap (λ x. and_then x (convert T)) (source_value Out ds c.lb lb_apart (unset T m.begin ∷ f) s (out.0, o)) ∙ e

      ends_as : (r : Result ℤ Trap) → and_then (eval ds s c.ub) (convert T) ≡ r → (f : List Var) → Foreign Out f → and_then (eval ds (above (unset T m.end ∷ f) s) c.ub) (convert T) ≡ r
      ends_as r e f o = ap (λ x. and_then x (convert T)) (source_value Out ds c.ub ub_apart (unset T m.end ∷ f) s (out.1, o)) ∙ e

      counts_as : (lb ub : ℤ) (r : Result ℕ Trap) → count c.test c.step lb ub ≡ r → and_then (eval ds s c.lb) (convert T) ≡ Ok lb → and_then (eval ds s c.ub) (convert T) ≡ Ok ub → (f : List Var) →
          and_then (eval ds (above (unset Long m.count ∷ var_of m.end ub ∷ var_of m.begin lb ∷ f) s) count_) (convert Long) ≡ and_then r (λ k. Ok (pos k))
      counts_as lb ub r e e0 e1 f =
          worth.count_is lb ub (held T (eval ds s c.lb) lb e0) (held T (eval ds s c.ub) ub e1) (unset Long m.count ∷ var_of m.end ub ∷ var_of m.begin lb ∷ f) s
          (rw (apart_names.begin_count, apart_names.begin_end, same_name m.begin) refl) (rw (apart_names.end_count, same_name m.end) refl)
          ∙ ap (λ r. and_then r (λ k. Ok (pos k))) e

      front_runs : (lb ub : ℤ) (r : Result ℕ Trap) → count c.test c.step lb ub ≡ r → and_then (eval ds s c.lb) (convert T) ≡ Ok lb → and_then (eval ds s c.ub) (convert T) ≡ Ok ub → (f : List Var) → Foreign Out f →
          exec_all n env g.front (above f s) ≡ then_do (with_value (and_then r (λ k. Ok (pos k))) (above (unset Long m.count ∷ var_of m.end ub ∷ var_of m.begin lb ∷ f) s) (λ z. ends Next (push m.count (scalar Long (Some z)) (above (var_of m.end ub ∷ var_of m.begin lb ∷ f) s)))) (exec_all n env no_stmts)
      front_runs lb ub r e e0 e1 f o =
          let v = var_of m.begin lb in
          let w = var_of m.end ub in
          declares T m.begin c.lb ended (Ok lb) f s (begins_as (Ok lb) e0 f o) ∙ declares T m.end c.ub counted (Ok ub) (v ∷ f) s (ends_as (Ok ub) e1 (v ∷ f) (out.0, o))
          ∙ declares Long m.count count_ no_stmts (and_then r (λ k. Ok (pos k))) (w ∷ v ∷ f) s (counts_as lb ub r e e0 e1 f)

      by_count : (lb ub : ℤ) (r : Result ℕ Trap) → count c.test c.step lb ub ≡ r → and_then (eval ds s c.lb) (convert T) ≡ Ok lb → and_then (eval ds s c.ub) (convert T) ≡ Ok ub →
          GenMeans n env bs Out g p s (and_then r (λ k. Ok (trees lb ub k)))
      by_count lb ub (Err x) e e0 e1 = λ f a o. (unset Long m.count ∷ var_of m.end ub ∷ var_of m.begin lb ∷ [], front_runs lb ub (Err x) e e0 e1 f o)
      by_count lb ub (Ok k) e e0 e1 =
          let v = var_of m.begin lb in
          let w = var_of m.end ub in
          let h = fronts lb ub k in
          let small = count_fits c.test c.step lb ub k e in
          let q = h ++ p in (
            h,
            (
              (out.2, (out.1, (out.0, tt))),
              λ f a o. front_runs lb ub (Ok k) e e0 e1 f o,
              λ x u. find_other x (long m.count k) (w ∷ v ∷ []) u.1.1.0 (find_other x w (v ∷ []) u.1.0 (find_other x v [] u.0 refl)),
            ),
            (
              (
                record {
                  frame = q;
                  lets = refl;
                  first = 0;
                  width = k;
                  begins = value_num ds (AgreesBut m.counter q) 0 (omega arith);
                  stops = subst (Value ds (AgreesBut m.counter q) (read m.count)) (omega arith) (value_read ds (AgreesBut m.counter q) m.count k small (λ f a. found_but m.counter m.count _ q f a apart_names.count_counter (found_top m.count k (w ∷ v ∷ p))));
                  foreign = out.3;
                  child = λ i. body b (value_at (range_ lb ub k) i ∷ []);
                  shape = refl;
                  below = λ i l.
                      let v3 = long m.counter (0 + i) in
                      leaf_turns n env Out as' apart grows bs (v3 ∷ q) b T c.var value_ (value_at (range_ lb ub k) i) bodies (λ f u a.
                      worth.value_is lb ub (held T (eval ds s c.lb) lb e0) (held T (eval ds s c.ub) ub e1) k i e l f u
                      (found_but c.var m.begin _ (v3 ∷ q) f a (differ_sym c.var m.begin (var_apart m.begin out.0)) (rw (apart_names.begin_counter, apart_names.begin_count, apart_names.begin_end, same_name m.begin) refl))
                      (found_but c.var m.counter _ (v3 ∷ q) f a (differ_sym c.var m.counter (var_apart m.counter out.3)) (found_top m.counter (0 + i) q)));
                },
                tt,
              ),
              tt,
            ),
          )

      by_bounds : (r0 r1 : Result ℤ Trap) → and_then (eval ds s c.lb) (convert T) ≡ r0 → and_then (eval ds s c.ub) (convert T) ≡ r1 →
          GenMeans n env bs Out g p s (and_then r0 (λ lb. and_then r1 (λ ub. and_then (count c.test c.step lb ub) (λ k. Ok (trees lb ub k)))))
      by_bounds (Err x) r1 e0 e1 = λ f a o. (unset T m.begin ∷ [], declares T m.begin c.lb ended (Err x) f s (begins_as (Err x) e0 f o))
      by_bounds (Ok lb) (Err x) e0 e1 = λ f a o.
          let v = var_of m.begin lb in
          (unset T m.end ∷ v ∷ [], declares T m.begin c.lb ended (Ok lb) f s (begins_as (Ok lb) e0 f o) ∙ declares T m.end c.ub counted (Err x) (v ∷ f) s (ends_as (Err x) e1 (v ∷ f) (out.0, o)))
      by_bounds (Ok lb) (Ok ub) e0 e1 = by_count lb ub (count c.test c.step lb ub) refl e0 e1

      abbrev last : Range → Result (List Tree) Trap
      last r = Ok (loop_over r (body b [] ∷ []))

      abbrev from_count : ℤ → ℤ → Ty → Result Range Trap
      from_count lb ub u = and_then (count c.test c.step lb ub) (λ k. Ok (record { var = c.var; ty = u; from = lb; step = c.step; count = k }))

      abbrev from_ub : ℤ → Ty → Result Range Trap
      from_ub lb u = and_then (eval ds s c.ub) (λ z. and_then (convert u z) (λ ub. from_count lb ub u))

      abbrev from_lb : Ty → Result Range Trap
      from_lb u = and_then (eval ds s c.lb) (λ z. and_then (convert u z) (λ lb. from_ub lb u))

      abbrev split_entry : Result (List Tree) Trap
      split_entry = and_then (and_then (eval ds s c.lb) (convert T)) (λ lb. and_then (and_then (eval ds s c.ub) (convert T)) (λ ub. and_then (count c.test c.step lb ub) (λ k. Ok (trees lb ub k))))

      split : and_then (from_lb T) last ≡ split_entry
      split =
          bound_first (eval ds s c.lb) (convert T) (λ lb. from_ub lb T) last ∙ value_same (and_then (eval ds s c.lb) (convert T)) _ _ (λ lb.
          bound_first (eval ds s c.ub) (convert T) (λ ub. from_count lb ub T) last ∙ value_same (and_then (eval ds s c.ub) (convert T)) _ _ (λ ub.
          then_all (count c.test c.step lb ub) _ last))

      -- the loop's forest
      pub leaf_means : loop_type ds s c ≡ T → GenMeans n env bs Out g p s (and_then (entry ds s c) last)
      leaf_means t = subst (GenMeans n env bs Out g p s) (sym (ap (λ u. and_then (from_lb u) last) t ∙ split)) (by_bounds _ _ refl refl)
