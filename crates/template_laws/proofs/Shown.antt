-- The loops and the leaves that code without a directive shows depend on no scope; declarations show nothing.
use Rattle.std.proofs.Common.{◌≡◌, refl, sym, ap, ◌∙◌, ℕ, zero, suc, List, [], ◌∷◌, ◌++◌, Option, Some, None, Bool, true, false, append_assoc}
use Rattle.std.specs.Prelude.{if◌then◌else◌}
use Rattle.std.proofs.lemmas.List.{append-nil}
use Rattle.c_tree.specs.Bare.{Name, Expr, read, bin, Stmt, decl, set, step, print, input, if_, if_else, while_, do_, for_, block, break_, continue_, empty, omp, call, Stmts, no_stmts, more_stmts, head, a_stmt}
use Rattle.c_tree.specs.declared.tree.BinOp.TheVariants.{Add, Sub}
use Rattle.c_semantics.specs.Meaning.State.{State}
use Rattle.c_semantics.specs.Meaning.Expressions.{Define}
use Rattle.c_semantics.specs.Structure.Parts.{For, While, Do, Shape, shapes_of, nested}
use Rattle.c_semantics.specs.Structure.Parts as parts
use Rattle.c_semantics.specs.Structure.Skeleton.{shapes, all_shapes, scope_after, scope_in, is_literal_zero}
use Rattle.c_soundness.specs.NeverStuck.{IsPlain, AllPlain}
use Rattle.loop_normal.specs.DrawnNames.{FreshNames, drawn, after_draws}
use Rattle.loop_normal.specs.Gens.{GenLoop, gen_loop, Inner, Nest, Seq, Looped, Plain, Parts, no_parts, more_parts, Gen, join, let_stmt, loop_stmts, inner_stmts, parts_stmts, emit}
use Rattle.loop_normal.specs.Templates.{ll, only, put_let, LoopNames, SourceLoop, source_var, leaf, rebased, on_first, begins_at_zero}
use Rattle.loop_normal.specs.FromZero.{from_zero}
use Rattle.nest_normal.specs.NestTexts.{put_visible, is_hidden, declare_in, declare_below, loop_round, nest_round, counted_to, at_loop, known_at, with_count}
use Rattle.nest_normal.specs.Spelled.{is_unread, before, before_if_read, all_if_read, without_unread, below_without_unread}
use Rattle.permute_reverse.specs.Reversed.{reversed, reversed_gen}
use Rattle.template_laws.specs.Outlines.{shown, shown_with_round}
use Rattle.template_laws.proofs.Lists.{first_has, second_has, loop_has, has_loop}
use Rattle.template_laws.proofs.Kept.{LoopKept, declare_kept, rebased_kept, ended_kept, all_if_read_has, unread_below_kept, count_kept, reversed_kept, first_kept}
use Rattle.template_laws.proofs.Plain.{AnyName, AnyExpr, AnyNumber, plain_each, any_if, round_plain, from_zero_plain}

-- ---- in any two scopes

module _ (ds : List Define) where
  mutual
    one_in_any : (a : Stmt) → IsPlain a → (s t : State) → shapes ds s a ≡ shapes ds t a
    one_in_any (decl t x e) h s u = refl
    one_in_any (set t op e) h s u = refl
    one_in_any (step t up) h s u = refl
    one_in_any (print e) h s u = refl
    one_in_any (input t) h s u = refl
    one_in_any (if_ e a) h s u = in_any a h s u
    one_in_any (if_else e a b) h s u = ap (λ z. z ++ all_shapes ds s b) (in_any a h.0 s u) ∙ ap (λ z. all_shapes ds u a ++ z) (in_any b h.1 s u)
    one_in_any (while_ e a) h s u = ap (λ z. parts.round While (shapes_of z) ∷ []) (in_any a h s u)
    one_in_any (do_ a e) h s u = ap (λ z. if is_literal_zero e then z else parts.round Do (shapes_of z) ∷ []) (in_any a h s u)
    one_in_any (for_ (head i e next) a) h s u = ap (λ z. parts.round For (shapes_of z) ∷ []) (in_any a h.2 (scope_in i s) (scope_in i u))
    one_in_any (block a) h s u = in_any a h s u
    one_in_any break_ h s u = refl
    one_in_any continue_ h s u = refl
    one_in_any empty h s u = refl
    one_in_any (omp d a) h s u = absurd h
    one_in_any (call x es) h s u = refl

    in_any : (a : Stmts) → AllPlain a → (s t : State) → all_shapes ds s a ≡ all_shapes ds t a
    in_any no_stmts h s u = refl
    in_any (more_stmts a as') h s u = ap (λ z. z ++ all_shapes ds (scope_after a s) as') (one_in_any a h.0 s u) ∙ ap (λ z. shapes ds u a ++ z) (in_any as' h.1 (scope_after a s) (scope_after a u))

module _ (ds : List Define) (s : State) where
  abbrev shows : Stmts → List Shape
  shows as' = all_shapes ds s as'

  -- one list after another
  joined_shows : (a b : Stmts) → AllPlain b → shows (join a b) ≡ shows a ++ shows b
  joined_shows a b h = from a s
    where
      from : (a : Stmts) (u : State) → all_shapes ds u (join a b) ≡ all_shapes ds u a ++ shows b
      from no_stmts u = in_any ds b h u s
      from (more_stmts a as') u = ap (λ z. shapes ds u a ++ z) (from as' (scope_after a u)) ∙ sym (append_assoc (shapes ds u a) (all_shapes ds (scope_after a u) as') (shows b))

  -- a loop shows what its declarations do, and one `for` loop round what is below it
  loop_shows : (ls : Stmts) (c : Name) (a b : Expr) (inner : Inner) → AllPlain (inner_stmts inner) → shows (loop_stmts (gen_loop ls c a b inner)) ≡ shows ls ++ nested 1 (shows (inner_stmts inner))
  loop_shows ls c a b inner h =
      joined_shows ls _ ((tt, tt, h), tt) ∙ ap (λ z. shows ls ++ (parts.round For (shapes_of z) ∷ [])) (in_any ds (inner_stmts inner) h (scope_in (a_stmt (let_stmt c a)) s) s)

  below_plain : (ls : Stmts) (c : Name) (a b : Expr) (inner : Inner) → AllPlain (loop_stmts (gen_loop ls c a b inner)) → AllPlain (inner_stmts inner)
  below_plain ls c a b inner h = (has_loop AnyName AnyExpr AnyNumber AllPlain plain_each ls c a b inner h).body

  -- what is changed of a loop shows nothing
  abbrev Unshown : (GenLoop → GenLoop) → Type 0
  Unshown f = (l : GenLoop) → AllPlain (loop_stmts l) → shows (loop_stmts (f l)) ≡ shows (loop_stmts l)

  let_shows : (x : Name) (e : Expr) (inner : Inner) → AllPlain (inner_stmts inner) → shows (inner_stmts (put_let (let_stmt x e) inner)) ≡ shows (inner_stmts inner)
  let_shows x e (Nest (gen_loop ls c a b inner)) h = in_any ds _ h (scope_after (let_stmt x e) s) s
  let_shows x e (Seq ps) h = in_any ds _ h (scope_after (let_stmt x e) s) s

  let_plain : (x : Name) (e : Expr) (inner : Inner) → AllPlain (inner_stmts inner) → AllPlain (inner_stmts (put_let (let_stmt x e) inner))
  let_plain x e (Nest (gen_loop ls c a b inner)) h = (tt, h)
  let_plain x e (Seq ps) h = (tt, h)

  -- another loop with a declaration below it, and declarations more before it
  other_shows : (ls more : Stmts) (c r : Name) (a b from to e : Expr) (inner : Inner) → shows (join ls more) ≡ shows ls → AllPlain (loop_stmts (gen_loop ls c a b inner)) →
      shows (loop_stmts (gen_loop (join ls more) r from to (put_let (let_stmt c e) inner))) ≡ shows (loop_stmts (gen_loop ls c a b inner))
  other_shows ls more c r a b from to e inner same h =
      let k = below_plain ls c a b inner h in
      loop_shows (join ls more) r from to (put_let (let_stmt c e) inner) (let_plain c e inner k)
      ∙ ap (λ z. z ++ nested 1 (shows (inner_stmts (put_let (let_stmt c e) inner)))) same
      ∙ ap (λ z. shows ls ++ nested 1 z) (let_shows c e inner k)
      ∙ sym (loop_shows ls c a b inner k)

  join_none : (a : Stmts) → join a no_stmts ≡ a
  join_none no_stmts = refl
  join_none (more_stmts a as') = ap (more_stmts a) (join_none as')

  one_other : (ls : Stmts) (c r : Name) (a b from to e : Expr) (inner : Inner) → AllPlain (loop_stmts (gen_loop ls c a b inner)) →
      shows (loop_stmts (gen_loop ls r from to (put_let (let_stmt c e) inner))) ≡ shows (loop_stmts (gen_loop ls c a b inner))
  one_other ls c r a b from to e inner h =
      sym (ap (λ z. shows (loop_stmts (gen_loop z r from to (put_let (let_stmt c e) inner)))) (join_none ls)) ∙ other_shows ls no_stmts c r a b from to e inner (ap shows (join_none ls)) h

  rebased_shows : (x y r : Name) → Unshown (rebased x y r)
  rebased_shows x y r (gen_loop ls c a b inner) h =
      let two = more_stmts (let_stmt x a) (only (let_stmt y (bin Sub b (read x)))) in
      other_shows ls two c r a b (ll 0) (read y) (bin Add (read x) (read r)) inner (joined_shows ls two (tt, (tt, tt)) ∙ append-nil (shows ls)) h

  counted_shows : (k : ℕ) (r : Option Name) → Unshown (counted_to k r)
  counted_shows k None (gen_loop ls c a b inner) h = let i = below_plain ls c a b inner h in loop_shows ls c a (ll k) inner i ∙ sym (loop_shows ls c a b inner i)
  counted_shows k (Some r) (gen_loop ls c a b inner) h = one_other ls c r a b (ll 0) (ll k) (bin Add a (read r)) inner h

  at_loop_shows : (d k : ℕ) (r : Option Name) → Unshown (at_loop d (counted_to k r))
  at_loop_shows zero k r l h = counted_shows k r l h
  at_loop_shows (suc d) k r (gen_loop ls c a b (Seq ps)) h = refl
  at_loop_shows (suc d) k r (gen_loop ls c a b (Nest l)) h =
      let i = below_plain ls c a b (Nest l) h in
      loop_shows ls c a b (Nest (at_loop d (counted_to k r) l)) (ended_kept AnyName AnyExpr AnyNumber AllPlain plain_each d k r tt (any_if r) l i)
      ∙ ap (λ z. shows ls ++ nested 1 z) (at_loop_shows d k r l i)
      ∙ sym (loop_shows ls c a b (Nest l) i)

  -- ---- fewer declarations

  before_shows : (d : Stmt) (l : GenLoop) → AllPlain (loop_stmts l) → shows (loop_stmts (before d l)) ≡ shows (only d) ++ shows (loop_stmts l)
  before_shows d (gen_loop ls c a b inner) h = joined_shows (only d) (loop_stmts (gen_loop ls c a b inner)) h

  -- what isn't put there shows nothing
  if_read_shows : (d : Stmt) (l : GenLoop) → AllPlain (loop_stmts l) → shows (loop_stmts (before_if_read d l)) ≡ shows (only d) ++ shows (loop_stmts l)
  if_read_shows (decl t x e) l h = by (is_unread (decl t x e) l)
    where
      by : (b : Bool) → shows (loop_stmts (if b then l else before (decl t x e) l)) ≡ shows (loop_stmts l)
      by true = refl
      by false = before_shows (decl t x e) l h
  if_read_shows d l h = before_shows d l h

  all_if_read_shows : (ls : Stmts) (l : GenLoop) → AllPlain ls → AllPlain (loop_stmts l) → shows (loop_stmts (all_if_read ls l)) ≡ shows ls ++ shows (loop_stmts l)
  all_if_read_shows no_stmts l h k = refl
  all_if_read_shows (more_stmts d ls) l h k =
      if_read_shows d (all_if_read ls l) (all_if_read_has AnyName AnyExpr AnyNumber AllPlain plain_each ls l h.1 k)
      ∙ ap (λ z. shows (only d) ++ z) (all_if_read_shows ls l h.1 k)
      ∙ sym (append_assoc (shows (only d)) (shows ls) (shows (loop_stmts l)))
      ∙ ap (λ z. z ++ shows (loop_stmts l)) (sym (joined_shows (only d) ls h.1))

  mutual
    unread_shows : Unshown without_unread
    unread_shows (gen_loop ls c a b inner) h =
        let w = has_loop AnyName AnyExpr AnyNumber AllPlain plain_each ls c a b inner h in
        let below = unread_below_kept AnyName AnyExpr AnyNumber AllPlain plain_each inner w.body in
        let rest = gen_loop no_stmts c a b (below_without_unread inner) in
        all_if_read_shows ls rest w.lets (loop_has AnyName AnyExpr AnyNumber AllPlain plain_each no_stmts c a b (below_without_unread inner) (record { lets = tt; counter = tt; from = tt; to = tt; body = below }))
        ∙ ap (λ z. shows ls ++ z) (loop_shows no_stmts c a b (below_without_unread inner) below ∙ ap (nested 1) (unread_below_shows inner w.body))
        ∙ sym (loop_shows ls c a b inner w.body)

    unread_below_shows : (inner : Inner) → AllPlain (inner_stmts inner) → shows (inner_stmts (below_without_unread inner)) ≡ shows (inner_stmts inner)
    unread_below_shows (Nest l) h = unread_shows l h
    unread_below_shows (Seq ps) h = refl

  known_shows : (d k : ℕ) (r : Option Name) → Unshown (known_at d k r)
  known_shows d k r l h = unread_shows (at_loop d (counted_to k r) l) (ended_kept AnyName AnyExpr AnyNumber AllPlain plain_each d k r tt (any_if r) l h) ∙ at_loop_shows d k r l h

  reversed_shows : (r : Name) → Unshown (reversed r)
  reversed_shows r (gen_loop ls c a b inner) h = one_other ls c r a b (ll 0) b (bin Sub (bin Sub b (ll 1)) (read r)) inner h

  -- ---- Gens

  first_plain : (l : GenLoop) (ps : Parts) → AllPlain (join (loop_stmts l) (parts_stmts ps)) → AllPlain (loop_stmts l) × AllPlain (parts_stmts ps)
  first_plain l ps h = (first_has AnyName AnyExpr AnyNumber AllPlain plain_each (loop_stmts l) (parts_stmts ps) h, second_has AnyName AnyExpr AnyNumber AllPlain plain_each (loop_stmts l) (parts_stmts ps) h)

  first_shows : (f : GenLoop → GenLoop) → Unshown f → (ps : Parts) → AllPlain (parts_stmts ps) → shows (parts_stmts (on_first f ps)) ≡ shows (parts_stmts ps)
  first_shows f same no_parts h = refl
  first_shows f same (more_parts (Plain as') ps) h = refl
  first_shows f same (more_parts (Looped l) ps) h =
      let k = first_plain l ps h in
      joined_shows (loop_stmts (f l)) (parts_stmts ps) k.1 ∙ ap (λ z. z ++ shows (parts_stmts ps)) (same l k.0) ∙ sym (joined_shows (loop_stmts l) (parts_stmts ps) k.1)

  gen_shows : (f : GenLoop → GenLoop) → Unshown f → LoopKept AnyName AnyExpr AnyNumber AllPlain plain_each f → (g : Gen) → AllPlain (emit g) → shows (emit (record { front = g.front; parts = on_first f g.parts })) ≡ shows (emit g)
  gen_shows f same kept g h =
      let k = second_has AnyName AnyExpr AnyNumber AllPlain plain_each g.front (parts_stmts g.parts) h in
      joined_shows g.front (parts_stmts (on_first f g.parts)) (first_kept AnyName AnyExpr AnyNumber AllPlain plain_each f kept g.parts k)
      ∙ ap (λ z. shows g.front ++ z) (first_shows f same g.parts k)
      ∙ sym (joined_shows g.front (parts_stmts g.parts) k)

  pub from_zero_shows : (f : FreshNames) (g : Gen) → AllPlain (emit g) → shown ds s (from_zero f g) ≡ shown ds s g
  from_zero_shows f g h = by (begins_at_zero g.parts)
    where
      by : (t : Bool) → shown ds s (if t then g else record { front = g.front; parts = on_first (rebased (drawn f) (drawn (after_draws 1 f)) (drawn (after_draws 2 f))) g.parts }) ≡ shown ds s g
      by true = refl
      by false = gen_shows _ (rebased_shows _ _ _) (rebased_kept AnyName AnyExpr AnyNumber AllPlain plain_each (drawn f) (drawn (after_draws 1 f)) (drawn (after_draws 2 f)) tt tt tt) g h

  pub count_shows : (d k : ℕ) (r : Option Name) (g : Gen) → AllPlain (emit g) → shown ds s (with_count d k r g) ≡ shown ds s g
  count_shows d k r g h = gen_shows (known_at d k r) (known_shows d k r) (count_kept AnyName AnyExpr AnyNumber AllPlain plain_each d k r tt (any_if r)) g h

  pub reverse_shows : (r : Name) (f : FreshNames) (g : Gen) → AllPlain (emit g) → shown ds s (reversed_gen r (from_zero f g)) ≡ shown ds s g
  reverse_shows r f g h = gen_shows (reversed r) (reversed_shows r) (reversed_kept AnyName AnyExpr AnyNumber AllPlain plain_each r tt) (from_zero f g) (from_zero_plain f g h) ∙ from_zero_shows f g h

  -- ---- the normal form of a loop

  pub leaf_shows : (m : LoopNames) (h : SourceLoop) (body : Stmts) → AllPlain body → shown ds s (leaf m h body) ≡ nested 1 (shows body)
  leaf_shows m h body k = ap (λ z. parts.round For (shapes_of z) ∷ []) (append-nil _ ∙ in_any ds body k _ s)

  module _ (m : LoopNames) (h : SourceLoop) where
    var_plain : AllPlain (only (source_var m h))
    var_plain = (tt, tt)

    visible_shows : (ps : Parts) → AllPlain (parts_stmts ps) → shows (parts_stmts (put_visible (source_var m h) ps)) ≡ shows (parts_stmts ps)
    visible_shows ps k = by (is_hidden (source_var m h) (parts_stmts ps))
      where
        by : (t : Bool) → shows (parts_stmts (if t then ps else more_parts (Plain (only (source_var m h))) ps)) ≡ shows (parts_stmts ps)
        by true = refl
        by false = in_any ds (parts_stmts ps) k (scope_after (source_var m h) s) s

    mutual
      declare_shows : Unshown (declare_in (source_var m h))
      declare_shows (gen_loop ls c a b inner) k =
          let i = below_plain ls c a b inner k in
          let j = below_plain ls c a b (declare_below (source_var m h) inner) (declare_kept AnyName AnyExpr AnyNumber AllPlain plain_each (source_var m h) var_plain (gen_loop ls c a b inner) k) in
          loop_shows ls c a b (declare_below (source_var m h) inner) j ∙ ap (λ z. shows ls ++ nested 1 z) (below_shows inner i) ∙ sym (loop_shows ls c a b inner i)

      below_shows : (inner : Inner) → AllPlain (inner_stmts inner) → shows (inner_stmts (declare_below (source_var m h) inner)) ≡ shows (inner_stmts inner)
      below_shows (Nest l) k = declare_shows l k
      below_shows (Seq ps) k = visible_shows ps k

    loop_round_shows : (l : GenLoop) → AllPlain (loop_stmts l) → shows (loop_stmts (loop_round m h l)) ≡ nested 1 (shows (loop_stmts l))
    loop_round_shows l k =
        loop_shows no_stmts m.counter (ll 0) (read m.count) (Nest (declare_in (source_var m h) l)) (declare_kept AnyName AnyExpr AnyNumber AllPlain plain_each (source_var m h) var_plain l k)
        ∙ ap (nested 1) (declare_shows l k)

    first_round : (ps : Parts) → AllPlain (parts_stmts ps) → shows (parts_stmts (on_first (loop_round m h) ps)) ≡ shown_with_round ds s ps
    first_round no_parts k = refl
    first_round (more_parts (Plain as') ps) k = refl
    first_round (more_parts (Looped l) ps) k =
        let i = first_plain l ps k in
        joined_shows (loop_stmts (loop_round m h l)) (parts_stmts ps) i.1 ∙ ap (λ z. z ++ shows (parts_stmts ps)) (loop_round_shows l i.0)

    pub round_shows : (g : Gen) → AllPlain (emit g) → shown ds s (nest_round m h g) ≡ shows g.front ++ shown_with_round ds s g.parts
    round_shows g k =
        let rest = join g.front (parts_stmts (on_first (loop_round m h) g.parts)) in
        let plain : AllPlain rest = (round_plain m h g k).1.1.1 in
        in_any ds rest plain _ s
        ∙ joined_shows g.front _ (second_has AnyName AnyExpr AnyNumber AllPlain plain_each g.front _ plain)
        ∙ ap (λ z. shows g.front ++ z) (first_round g.parts (second_has AnyName AnyExpr AnyNumber AllPlain plain_each g.front (parts_stmts g.parts) k))
