-- Carrying out reverse constructs keeps the loops and the leaves of a program. In a program whose directives are all
-- `reverse` these don't depend on the scope.
use Rattle.std.proofs.Common.{◌≡◌, refl, sym, ap, ◌∙◌, subst, ℕ, List, [], ◌∷◌, ◌++◌, Option, Some, None, true, false}
use Rattle.std.specs.Prelude.{is_some, if◌then◌else◌, flat_map, nat_le}
use Rattle.std.proofs.lemmas.Bool.{both_ways, leb-true, and_parts}
use Rattle.std.proofs.lemmas.List.{append-nil}
use Rattle.c_tree.specs.Bare.{Name, Expr, read, bin, Directive, Stmt, decl, set, step, print, input, if_, if_else, while_, do_, for_, block, break_, continue_, empty, omp, call, Stmts, no_stmts, more_stmts, MaybeStmt, head, define, extern_, global, function, main, Program}
use Rattle.c_tree.specs.declared.tree.BinOp.TheVariants.{Sub}
use Rattle.c_semantics.specs.Meaning.State.{State, nowhere}
use Rattle.c_semantics.specs.Meaning.Expressions.{Define}
use Rattle.c_semantics.specs.Meaning.FileVariables.{defines_with}
use Rattle.c_semantics.specs.Loops.CanonicalForm.{canonical}
use Rattle.c_semantics.specs.Loops.Transformations.{tile, interchange, reverse_, split, fuse, unroll_full, unroll_partial, Plan, plan, Applied, none_applied, applied_at}
use Rattle.c_semantics.specs.Loops.Directives.{plan_of}
use Rattle.c_semantics.specs.Loops.Need.{loops_asked}
use Rattle.c_semantics.specs.Structure.Parts.{For, While, Do, Set, Step, Print, Input, Call, Shape, round, leaf as shown, shapes_of, written, plan_parts}
use Rattle.c_semantics.specs.Structure.Skeleton.{shapes, all_shapes, all_parts, scope_after, scope_in, source_count, is_literal_zero, skeleton_from, skeleton}
use Rattle.c_scopes.specs.Types.{with_params}
use Rattle.c_scopes.specs.Laws.{scope_with}
use Rattle.loop_normal.specs.Gens.{gen_loop, Seq, Looped, Plain, Parts, no_parts, more_parts, Gen, join, let_stmt, parts_stmts, emit}
use Rattle.loop_normal.specs.Templates.{ll, only, SourceLoop, LoopNames, leaf, source_var, begins_at_zero, on_first}
use Rattle.loop_normal.specs.DrawnNames.{FreshNames, drawn, loop_names}
use Rattle.loop_normal.specs.FromZero.{from_zero, after_from_zero}
use Rattle.permute_reverse.specs.Reversed.{reversed, reversed_gen}
use Rattle.carried_out.specs.CarriedOut.{Made, made_leaf, made_reverse, planned, items_applied, loop_at, scope_below, carried, carried_all, nest, nest_in, carried_top, carried_items, carried_out}
use Rattle.carried_out.specs.Reversible.{all_stay_in, is_reversal, are_reversals, is_reversible, are_reversible, is_nest, is_nest_in, are_reversible_items, is_reversible_program}
use Rattle.carried_out.proofs.FromZero.{stays_from_zero}
use Rattle.carried_out.proofs.LoopsAsked.{asks_one}
use Rattle.apply_rewrite.proofs.Reversals.{part_kept}

module _ (ds : List Define) where
  -- two statements, or two lists, have the same shapes in any two scopes
  record Alike (a b : Stmt) : Type 0 where
    pub shown : List Shape
    pub source : (s : State) → shapes ds s a ≡ shown
    pub result : (s : State) → shapes ds s b ≡ shown

  record AllAlike (a b : Stmts) : Type 0 where
    pub shown : List Shape
    pub source : (s : State) → all_shapes ds s a ≡ shown
    pub result : (s : State) → all_shapes ds s b ≡ shown

  -- ---- generated code

  -- one loop from 0 on round these shapes, after a front that shows nothing
  record Outlined (g : Gen) (xs : List Shape) : Type 0 where
    pub counter : Name
    pub end : Expr
    pub below : Parts
    pub parts : g.parts ≡ more_parts (Looped (gen_loop no_stmts counter (ll 0) end (Seq below))) no_parts
    pub body : (s : State) → all_shapes ds s (parts_stmts below) ≡ xs
    pub front : (rest : Stmts) (ys : List Shape) → ((u : State) → all_shapes ds u rest ≡ ys) → (s : State) → all_shapes ds s (join g.front rest) ≡ ys

  leaf_outlined : (m : LoopNames) (h : SourceLoop) (body : Stmts) (xs : List Shape) → ((s : State) → all_shapes ds s body ≡ xs) → Outlined (leaf m h body) xs
  leaf_outlined m h body xs e = record {
    counter = m.counter;
    end = read m.count;
    below = more_parts (Plain (more_stmts (source_var m h) (only (block body)))) no_parts;
    parts = refl;
    body = λ s. ap (λ z. z ++ []) (e (scope_after (source_var m h) s)) ∙ append-nil xs;
    front = λ rest ys k s. k _;
  }

  reversed_outlined : (r : Name) (g : Gen) (xs : List Shape) → Outlined g xs → Outlined (reversed_gen r g) xs
  reversed_outlined r g xs o = record {
    counter = r;
    end = o.end;
    below = more_parts (Plain (only (let_stmt o.counter (bin Sub (bin Sub o.end (ll 1)) (read r))))) o.below;
    parts = ap (on_first (reversed r)) o.parts;
    body = λ s. o.body (scope_after (let_stmt o.counter (bin Sub (bin Sub o.end (ll 1)) (read r))) s);
    front = o.front;
  }

  once_outlined : (m : Made Gen) (xs : List Shape) → Outlined m.tree xs → Outlined (made_reverse m).tree xs
  once_outlined m xs o =
      reversed_outlined (drawn (after_from_zero m.left m.tree)) (from_zero m.left m.tree) xs (subst (λ z. Outlined z xs) (sym (stays_from_zero m.left m.tree (ap begins_at_zero o.parts))) o)

  mutual
    planned_outlined : (p : Plan) → is_reversal p ≡ true → (m : Made Gen) (xs : List Shape) → Outlined m.tree xs → Outlined (planned p m).tree xs
    planned_outlined (plan reverse_ w) h m xs o = items_outlined w h (made_reverse m) xs (once_outlined m xs o)
    planned_outlined (plan (tile ss) w) h m xs o = absurd (both_ways false refl h)
    planned_outlined (plan (interchange qs) w) h m xs o = absurd (both_ways false refl h)
    planned_outlined (plan (split cs) w) h m xs o = absurd (both_ways false refl h)
    planned_outlined (plan (fuse r) w) h m xs o = absurd (both_ways false refl h)
    planned_outlined (plan unroll_full w) h m xs o = absurd (both_ways false refl h)
    planned_outlined (plan (unroll_partial n) w) h m xs o = absurd (both_ways false refl h)

    items_outlined : (w : Applied) → are_reversals w ≡ true → (m : Made Gen) (xs : List Shape) → Outlined m.tree xs → Outlined (items_applied w m).tree xs
    items_outlined none_applied h m xs o = o
    items_outlined (applied_at p d w) h m xs o =
        let rest = (and_parts (nat_le p 1) _ h).1 in
        items_outlined w (and_parts (is_reversal d) _ rest).1 (planned d m) xs (planned_outlined d (and_parts (is_reversal d) _ rest).0 m xs o)

  emitted : (g : Gen) (xs : List Shape) → Outlined g xs → (s : State) → all_shapes ds s (emit g) ≡ round For (shapes_of xs) ∷ []
  emitted g xs o = o.front (parts_stmts g.parts) (round For (shapes_of xs) ∷ []) (λ u.
      ap (λ z. all_shapes ds u (parts_stmts z)) o.parts ∙ ap (λ z. round For (shapes_of z) ∷ []) (o.body (scope_after (let_stmt o.counter (ll 0)) u)))

  -- ---- a list that leads to a loop

  record OneLoop (a : Stmts) (g : Gen) : Type 0 where
    pub shown : List Shape
    pub count : State → Option ℕ
    pub source : (s : State) → all_parts ds s 1 a ≡ record { counts = count s ∷ []; list = shown } ∷ []
    pub result : Outlined g shown

  -- what a directive is given
  given_one : (d : Directive) → is_reversal (plan_of ds d) ≡ true → (j : ℕ) → nat_le j 1 ≡ true → (a : Stmts) (g : Gen) (n : OneLoop a g) (s : State) →
      plan_parts (plan_of ds d) (all_parts ds s (loops_asked (plan_of ds d) j) a) ≡ record { counts = n.count s ∷ []; list = n.shown } ∷ []
  given_one d r j l a g n s =
      ap (λ i. plan_parts (plan_of ds d) (all_parts ds s i a)) (asks_one (plan_of ds d) j (leb-true j 1 l) r) ∙ ap (plan_parts (plan_of ds d)) (n.source s) ∙ part_kept (plan_of ds d) r _

  -- the loops of a construct's block are those of the construct
  of_construct : (d : Directive) → is_reversal (plan_of ds d) ≡ true → (a : Stmts) (m : Made Gen) → OneLoop a m.tree → Alike (omp d a) (block (emit (planned (plan_of ds d) m).tree))
  of_construct d r a m n = record {
    shown = round For (shapes_of n.shown) ∷ [];
    source = λ s. ap (flat_map written) (given_one d r 0 refl a m.tree n s);
    result = emitted (planned (plan_of ds d) m).tree n.shown (planned_outlined (plan_of ds d) r m n.shown n.result);
  }

  -- one more directive
  one_more : (d : Directive) → is_reversal (plan_of ds d) ≡ true → (a : Stmts) (m : Made Gen) → OneLoop a m.tree → OneLoop (only (omp d a)) (planned (plan_of ds d) m).tree
  one_more d r a m n = record {
    shown = n.shown;
    count = n.count;
    source = λ s. ap (λ z. z ++ []) (given_one d r 1 refl a m.tree n s);
    result = planned_outlined (plan_of ds d) r m n.shown n.result;
  }

  in_braces : (a : Stmts) (g : Gen) → OneLoop a g → OneLoop (only (block a)) g
  in_braces a g n = record { shown = n.shown; count = n.count; source = λ s. ap (λ z. z ++ []) (n.source s); result = n.result }

  -- the loop itself
  the_loop : (i : MaybeStmt) (e : Option Expr) (next : MaybeStmt) (a : Stmts) (m : Made Stmts) → AllAlike a m.tree → (o : Option SourceLoop) → is_some o ≡ true → OneLoop (only (for_ (head i e next) a)) (made_leaf o m).tree
  the_loop i e next a m k None h = absurd (both_ways false refl h)
  the_loop i e next a m k (Some l) h = record {
    shown = k.shown;
    count = λ s. source_count ds s (canonical ds (head i e next));
    source = λ s. ap (λ z. record { counts = source_count ds s (canonical ds (head i e next)) ∷ []; list = z } ∷ []) (k.source (scope_in i s));
    result = leaf_outlined (loop_names m.left) l m.tree k.shown k.result;
  }

  -- ---- statements

  mutual
    alike : (v : State) (a : Stmt) → is_reversible ds v a ≡ true → (f : FreshNames) → Alike a (carried ds v a f).tree
    alike v (decl t x e) h f = record { shown = []; source = λ s. refl; result = λ s. refl }
    alike v (set t op e) h f = record { shown = shown Set ∷ []; source = λ s. refl; result = λ s. refl }
    alike v (step t up) h f = record { shown = shown Step ∷ []; source = λ s. refl; result = λ s. refl }
    alike v (print e) h f = record { shown = shown Print ∷ []; source = λ s. refl; result = λ s. refl }
    alike v (input t) h f = record { shown = shown Input ∷ []; source = λ s. refl; result = λ s. refl }
    alike v (call x es) h f = record { shown = shown Call ∷ []; source = λ s. refl; result = λ s. refl }
    alike v break_ h f = record { shown = []; source = λ s. refl; result = λ s. refl }
    alike v continue_ h f = record { shown = []; source = λ s. refl; result = λ s. refl }
    alike v empty h f = record { shown = []; source = λ s. refl; result = λ s. refl }
    alike v (if_ e a) h f = let k = all_alike v a h f in record { shown = k.shown; source = k.source; result = k.result }
    alike v (if_else e a b) h f =
        let k = all_alike v a (and_parts _ _ h).0 f in
        let l = all_alike v b (and_parts (are_reversible ds v a) _ h).1 (carried_all ds v a f).left in
        record {
          shown = k.shown ++ l.shown;
          source = λ s. ap (λ z. z ++ all_shapes ds s b) (k.source s) ∙ ap (λ z. k.shown ++ z) (l.source s);
          result = λ s. ap (λ z. z ++ all_shapes ds s (carried_all ds v b (carried_all ds v a f).left).tree) (k.result s) ∙ ap (λ z. k.shown ++ z) (l.result s);
        }
    alike v (while_ e a) h f =
        let k = all_alike v a h f in
        record {
          shown = round While (shapes_of k.shown) ∷ [];
          source = λ s. ap (λ z. round While (shapes_of z) ∷ []) (k.source s);
          result = λ s. ap (λ z. round While (shapes_of z) ∷ []) (k.result s);
        }
    alike v (do_ a e) h f =
        let k = all_alike v a h f in
        record {
          shown = if is_literal_zero e then k.shown else round Do (shapes_of k.shown) ∷ [];
          source = λ s. ap (λ z. if is_literal_zero e then z else round Do (shapes_of z) ∷ []) (k.source s);
          result = λ s. ap (λ z. if is_literal_zero e then z else round Do (shapes_of z) ∷ []) (k.result s);
        }
    alike v (for_ (head i e next) a) h f =
        let k = all_alike (scope_in i v) a h f in
        record {
          shown = round For (shapes_of k.shown) ∷ [];
          source = λ s. ap (λ z. round For (shapes_of z) ∷ []) (k.source (scope_in i s));
          result = λ s. ap (λ z. round For (shapes_of z) ∷ []) (k.result (scope_in i s));
        }
    alike v (block a) h f = let k = all_alike v a h f in record { shown = k.shown; source = k.source; result = k.result }
    alike v (omp d a) h f =
        of_construct d (and_parts (is_reversal (plan_of ds d)) _ h).0 a (nest ds v a f) (one_loop v a (and_parts (is_reversal (plan_of ds d)) _ h).1 f)

    all_alike : (v : State) (a : Stmts) → are_reversible ds v a ≡ true → (f : FreshNames) → AllAlike a (carried_all ds v a f).tree
    all_alike v no_stmts h f = record { shown = []; source = λ s. refl; result = λ s. refl }
    all_alike v (more_stmts a as') h f =
        let k = alike v a (and_parts _ _ h).0 f in
        let m = carried ds v a f in
        let w = scope_after a v in
        let l = all_alike w as' (and_parts (is_reversible ds v a) _ h).1 m.left in
        record {
          shown = k.shown ++ l.shown;
          source = λ s. ap (λ z. z ++ all_shapes ds (scope_after a s) as') (k.source s) ∙ ap (λ z. k.shown ++ z) (l.source (scope_after a s));
          result = λ s. ap (λ z. z ++ all_shapes ds (scope_after m.tree s) (carried_all ds w as' m.left).tree) (k.result s) ∙ ap (λ z. k.shown ++ z) (l.result (scope_after m.tree s));
        }

    one_loop : (v : State) (a : Stmts) → is_nest ds v a ≡ true → (f : FreshNames) → OneLoop a (nest ds v a f).tree
    one_loop v no_stmts h f = absurd (both_ways false refl h)
    one_loop v (more_stmts a no_stmts) h f = one_loop_in v a h f
    one_loop v (more_stmts a (more_stmts b as')) h f = absurd (both_ways false refl h)

    one_loop_in : (v : State) (a : Stmt) → is_nest_in ds v a ≡ true → (f : FreshNames) → OneLoop (only a) (nest_in ds v a f).tree
    one_loop_in v (for_ (head i e next) a) h f =
        let l = loop_at ds v (head i e next) in
        let u = scope_below v l in
        the_loop i e next a (carried_all ds u a f) (all_alike u a (and_parts (all_stay_in a) _ (and_parts (is_some l) _ h).1).1 f) l (and_parts _ _ h).0
    one_loop_in v (block a) h f = in_braces a (nest ds v a f).tree (one_loop v a h f)
    one_loop_in v (omp d a) h f =
        one_more d (and_parts (is_reversal (plan_of ds d)) _ h).0 a (nest ds v a f) (one_loop v a (and_parts (is_reversal (plan_of ds d)) _ h).1 f)
    one_loop_in v a h f = absurd (both_ways false refl h)

-- ---- programs

both : {X : Type 0} (x y : X) (xs ys : List X) → x ≡ y → xs ≡ ys → x ∷ xs ≡ y ∷ ys
both x y xs ys p q = ap (λ z. z ∷ xs) p ∙ ap (λ z. y ∷ z) q

same_from : (ds : List Define) (v : State) (p : Program) → are_reversible_items ds v p ≡ true → (f : FreshNames) (s u : State) → skeleton_from ds u (carried_items ds v p f).tree ≡ skeleton_from ds s p
same_from ds v [] h f s u = refl
same_from ds v (define x minus k t ∷ is) h f s u = same_from (defines_with ds (define x minus k t)) v is h f s u
same_from ds v (extern_ port ∷ is) h f s u = same_from ds v is h f s u
same_from ds v (global t x dims e ∷ is) h f s u = same_from ds (scope_with v (global t x dims e)) is h f _ _
same_from ds v (function x ps a ∷ is) h f s u =
    let k = all_alike ds (with_params ps v) a (and_parts _ _ h).0 f in
    both _ _ _ _ (k.result _ ∙ sym (k.source _)) (same_from ds v is (and_parts (are_reversible ds (with_params ps v) a) _ h).1 (carried_top ds v (function x ps a) f).left s u)
same_from ds v (main a ∷ is) h f s u =
    let k = all_alike ds v a (and_parts _ _ h).0 f in
    both _ _ _ _ (k.result _ ∙ sym (k.source _)) (same_from ds v is (and_parts (are_reversible ds v a) _ h).1 (carried_top ds v (main a) f).left s u)

pub same_skeleton : (p : Program) → is_reversible_program p ≡ true → skeleton (carried_out p) ≡ skeleton p
same_skeleton p h = same_from [] nowhere p h _ _ _
