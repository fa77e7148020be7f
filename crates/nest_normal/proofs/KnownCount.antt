-- A loop of a known count denotes the same with that count as its end.
use Rattle.std.proofs.Common.{◌≡◌, refl, sym, ap, ◌∙◌, subst, ℕ, zero, suc, ◌+◌, ◌<◌, ◌^◌, List, [], ◌∷◌, ◌++◌, length, Result, Ok, Err, Option, Some, None, true, false, arith}
use Rattle.std.specs.Prelude.{◌==◌}
use Rattle.std.proofs.lemmas.Bool.{both_ways}
use Rattle.std.proofs.lemmas.Bool.Decides.{nat_tests}
use Rattle.c_tree.specs.Bare.{Name, Expr, num, read, item, un, bin, cond, cast, Stmts}
use Rattle.c_tree.specs.declared.tree.Ty.TheVariants.{Int, Long}
use Rattle.c_tree.specs.declared.arithmetic.Trap.{Trap}
use Rattle.c_semantics.specs.Meaning.State.{Var, State, find, or_else}
use Rattle.c_semantics.specs.Meaning.Expressions.{Define}
use Rattle.c_semantics.specs.Meaning.SimpleStatements.{Env}
use Rattle.c_semantics.specs.Loops.IterationTrees.{Tree, children, members, loop_of, nth}
use Rattle.c_semantics.specs.Loops.Execution.{Body}
use Rattle.loop_normal.specs.Frames.{long, AgreesBut}
use Rattle.loop_normal.specs.Gens.{GenLoop, gen_loop, Nest, Seq}
use Rattle.loop_normal.specs.Templates.{ll, is_zero_literal}
use Rattle.loop_normal.specs.Denotes.{Calm, Value, LoopMeans, GenMeans, Undeclared, lets_of, LetsApart}
use Rattle.loop_normal.proofs.FreshFrames.{value_num, find_other, find_append}
use Rattle.loop_normal.proofs.Lets.{value_one, lets_new}
use Rattle.loop_normal.proofs.Members.{to_of, length_members, nth_members}
use Rattle.loop_normal.proofs.Rebase.{fixed_means}
use Rattle.nest_normal.specs.NestTexts.{nest_of, counted_to, at_loop, known_at, with_count}
use Rattle.nest_normal.specs.KnownCounts.{Turns, AllTurns, IsCounterFor, UndeclaredIf}
use Rattle.nest_normal.proofs.UnreadLets.{unread_means, unread_apart}

-- ---- the literal 0

zero_number : (k : ℕ) → (k == 0) ≡ true → k ≡ 0
zero_number k e = grind (arith, nat_tests)

pub zero_value : (ds : List Define) (F : List Var → Type 0) (f : List Var) (a : Expr) (j : ℕ) → F f → is_zero_literal a ≡ true → Value ds F a j → j ≡ 0
zero_value ds F f (num k Long) j h e v = let z = zero_number k e in value_one ds F f (num k Long) j k h v (value_num ds F k (omega (arith, z))) ∙ z
zero_value ds F f (num k Int) j h e v = absurd (both_ways false refl e)
zero_value ds F f (read x) j h e v = absurd (both_ways false refl e)
zero_value ds F f (item x es) j h e v = absurd (both_ways false refl e)
zero_value ds F f (un op a) j h e v = absurd (both_ways false refl e)
zero_value ds F f (bin op a b) j h e v = absurd (both_ways false refl e)
zero_value ds F f (cond a b c) j h e v = absurd (both_ways false refl e)
zero_value ds F f (cast t a) j h e v = absurd (both_ways false refl e)

-- ---- the count

loop_children : (t : Tree) (w : ℕ) (f : ℕ → Tree) → t ≡ loop_of (members w f) → children t ≡ members w f
loop_children t w f e = ap children e ∙ to_of (members w f)

loop_length : (t : Tree) (w : ℕ) (f : ℕ → Tree) → t ≡ loop_of (members w f) → length (children t) ≡ w
loop_length t w f e = ap length (loop_children t w f e) ∙ length_members w f

module _ (n : ℕ) (env : Env) (bs : List Body) (Out : Name → Type 0) (calm : Calm bs) where
  abbrev Means : GenLoop → List Var → Tree → Type 0
  Means = LoopMeans n env bs Out

  -- the loop itself
  here : (k : ℕ) (r : Option Name) (l : GenLoop) (p : List Var) (t : Tree) → IsCounterFor Out r 0 l p → k < 2 ^ 63 → length (children t) ≡ k → Means l p t → Means (counted_to k r l) p t
  here k (Some r) (gen_loop ls c a b inner) p t new small e h =
      fixed_means n env bs Out calm k r ls c a b inner p t new.0 new.2.1 (new.2.0, new.1, tt, tt) small h (sym (loop_length t h.width h.child h.shape) ∙ e)
  here k None (gen_loop ls c a b inner) p t zero_ small e h =
      let F = AgreesBut c h.frame in
      let none : h.first ≡ 0 = zero_value env.defines F h.frame a h.first (λ y d o q. q) zero_ h.begins in
      let wide : h.width ≡ k = sym (loop_length t h.width h.child h.shape) ∙ e in
      let same : k ≡ h.first + h.width = omega (arith, none, wide) in
      record {
        frame = h.frame;
        lets = h.lets;
        first = h.first;
        width = h.width;
        begins = h.begins;
        stops = subst (Value env.defines F (ll k)) same (value_num env.defines F k small);
        foreign = h.foreign;
        child = h.child;
        shape = h.shape;
        below = h.below;
      }

  -- the name is new below a loop too
  counter_below : (r : Option Name) (d : ℕ) (ls : Stmts) (c : Name) (a b : Expr) (l : GenLoop) (p : List Var) (t : Tree) (h : Means (gen_loop ls c a b (Nest l)) p t) (i : ℕ) →
      IsCounterFor Out r (suc d) (gen_loop ls c a b (Nest l)) p → IsCounterFor Out r d l (long c (h.first + i) ∷ h.frame)
  counter_below None d ls c a b l p t h i new = new
  counter_below (Some r) d ls c a b l p t h i new =
      (new.0, find_other r (long c (h.first + i)) h.frame new.2.1 (lets_new n env bs Out r ls p h.frame new.2.0 h.lets new.1), new.2.2)

  pub counted_means : (d k : ℕ) (r : Option Name) (l : GenLoop) (p : List Var) (t : Tree) → IsCounterFor Out r d l p → k < 2 ^ 63 → Turns d k t → Means l p t → Means (at_loop d (counted_to k r) l) p t
  counted_means zero k r l p t new small e h = here k r l p t new small e h
  counted_means (suc d) k r (gen_loop ls c a b (Seq ps)) p t new small e h = h
  counted_means (suc d) k r (gen_loop ls c a b (Nest l)) p t new small e h =
      record {
        frame = h.frame;
        lets = h.lets;
        first = h.first;
        width = h.width;
        begins = h.begins;
        stops = h.stops;
        foreign = h.foreign;
        child = h.child;
        shape = h.shape;
        below = λ i y.
            let wide : length (children t) ≡ h.width = loop_length t h.width h.child h.shape in
            let one : nth i (children t) ≡ h.child i = ap (nth i) (loop_children t h.width h.child h.shape) ∙ nth_members h.width i h.child y in
            counted_means d k r l (long c (h.first + i) ∷ h.frame) (h.child i) (counter_below r d ls c a b l p t h i new) small
            (subst (Turns d k) one (e i (omega (arith, wide)))) (h.below i y);
      }

  -- without the declarations that nothing reads any more
  pub known_means : (d k : ℕ) (r : Option Name) (l : GenLoop) (p : List Var) (t : Tree) → IsCounterFor Out r d l p → k < 2 ^ 63 → Turns d k t → Means l p t → Means (known_at d k r l) p t
  known_means d k r l p t new small e h = unread_means n env bs Out calm (at_loop d (counted_to k r) l) p t (counted_means d k r l p t new small e h)

  pub lets_kept : (d k : ℕ) (r : Option Name) (l : GenLoop) → lets_of (at_loop d (counted_to k r) l) ≡ lets_of l
  lets_kept zero k None (gen_loop ls c a b inner) = refl
  lets_kept zero k (Some r) (gen_loop ls c a b inner) = refl
  lets_kept (suc d) k r (gen_loop ls c a b (Nest l)) = refl
  lets_kept (suc d) k r (gen_loop ls c a b (Seq ps)) = refl

  -- a front that doesn't declare the name
  counter_after : (r : Option Name) (d : ℕ) (front : Stmts) (l : GenLoop) (h p : List Var) → ((x : Name) → Undeclared x front → find x h ≡ None) → UndeclaredIf r front → IsCounterFor Out r d l p → IsCounterFor Out r d l (h ++ p)
  counter_after None d front l h p f u new = new
  counter_after (Some r) d front l h p f u new = (new.0, find_append r h p ∙ ap (λ o. or_else o (find r p)) (f r u) ∙ new.1, new.2)

  pub counted_gen_means : (d k : ℕ) (r : Option Name) (front : Stmts) (l : GenLoop) (p : List Var) (s : State) (f : Result (List Tree) Trap) → IsCounterFor Out r d l p → UndeclaredIf r front → k < 2 ^ 63 → AllTurns d k f →
      GenMeans n env bs Out (nest_of front l) p s f → GenMeans n env bs Out (with_count d k r (nest_of front l)) p s f
  counted_gen_means d k r front l p s (Err x) new u small e h = h
  counted_gen_means d k r front l p s (Ok []) new u small e h = absurd h.2
  counted_gen_means d k r front l p s (Ok (t ∷ v ∷ ts)) new u small e h = absurd h.2.1
  counted_gen_means d k r front l p s (Ok (t ∷ [])) new u small e h =
      let at = counter_after r d front l h.0 p h.1.2 u new in
      let apart = subst (λ ls. LetsApart ls (h.0 ++ p)) (sym (lets_kept d k r l)) h.2.0.1 in
      (h.0, h.1, ((known_means d k r l (h.0 ++ p) t at small e.0 h.2.0.0, unread_apart (at_loop d (counted_to k r) l) (h.0 ++ p) apart), tt))
