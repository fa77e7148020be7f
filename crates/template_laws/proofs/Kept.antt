-- The answer of each rewrite has what holds of each of its statements, where what it is made of has it.
use Rattle.std.proofs.Common.{ℕ, zero, suc, Option, Some, None, Bool, true, false, ℤ, nat_abs}
use Rattle.std.specs.Prelude.{if◌then◌else◌}
use Rattle.c_tree.specs.Bare.{Name, Expr, read, bin, cast, Stmt, block, Stmts, no_stmts, more_stmts}
use Rattle.c_tree.specs.declared.tree.Ty.{Ty}
use Rattle.c_tree.specs.declared.tree.Ty.TheVariants.{Long}
use Rattle.c_tree.specs.declared.tree.BinOp.{BinOp}
use Rattle.c_tree.specs.declared.tree.BinOp.TheVariants.{Add, Sub, Mul, Div, Lt, Gt, Le, Ge, Ne}
use Rattle.loop_normal.specs.Gens.{GenLoop, gen_loop, Inner, Nest, Seq, Looped, Plain, Parts, no_parts, more_parts, Gen, join, let_stmt, loop_stmts, inner_stmts, parts_stmts, emit}
use Rattle.loop_normal.specs.Templates.{ll, only, put_let, LoopNames, SourceLoop, gap, strict_count, weak_count, count_by, is_up, signed_literal, value_expr, source_front, source_var, leaf, rebased, fixed, on_first, begins_at_zero}
use Rattle.loop_normal.specs.DrawnNames.{FreshNames, drawn, after_draws}
use Rattle.loop_normal.specs.FromZero.{from_zero}
use Rattle.nest_normal.specs.NestTexts.{is_hidden, put_visible, declare_in, declare_below, loop_round, nest_round, counted_to, at_loop, known_at, with_count}
use Rattle.nest_normal.specs.Spelled.{is_unread, before, before_if_read, all_if_read, without_unread, below_without_unread}
use Rattle.permute_reverse.specs.Reversed.{reversed, reversed_gen}
use Rattle.template_laws.proofs.Lists.{IsEach, join_has, first_has, second_has, loop_has, has_loop}

-- of a name, where there is one
abbrev pub HasIf : (Name → Type 0) → Option Name → Type 0
HasIf N None = Unit {0}
HasIf N (Some r) = N r

module _ (N : Name → Type 0) (E : Expr → Type 0) (K : ℕ → Type 0) (P : Stmts → Type 0) (w : IsEach N E K P) where
  abbrev pub LoopKept : (GenLoop → GenLoop) → Type 0
  LoopKept f = (l : GenLoop) → P (loop_stmts l) → P (loop_stmts (f l))

  -- ---- a declaration more

  pub let_below : (d : Stmt) (inner : Inner) → P (only d) → P (inner_stmts inner) → P (inner_stmts (put_let d inner))
  let_below d (Nest (gen_loop ls c a b inner)) h k = w.more d _ h k
  let_below d (Seq ps) h k = w.more d _ h k

  visible_has : (d : Stmt) (ps : Parts) → P (only d) → P (parts_stmts ps) → P (parts_stmts (put_visible d ps))
  visible_has d ps h k = by (is_hidden d (parts_stmts ps))
    where
      by : (t : Bool) → P (parts_stmts (if t then ps else more_parts (Plain (only d)) ps))
      by true = k
      by false = w.more d _ h k

  mutual
    pub declare_kept : (d : Stmt) → P (only d) → LoopKept (declare_in d)
    declare_kept d h (gen_loop ls c a b inner) k =
        let l = has_loop N E K P w ls c a b inner k in
        loop_has N E K P w ls c a b (declare_below d inner) (record { lets = l.lets; counter = l.counter; from = l.from; to = l.to; body = below_kept d h inner l.body })

    below_kept : (d : Stmt) → P (only d) → (inner : Inner) → P (inner_stmts inner) → P (inner_stmts (declare_below d inner))
    below_kept d h (Nest l) k = declare_kept d h l k
    below_kept d h (Seq ps) k = visible_has d ps h k

  -- ---- another loop

  pub rebased_kept : (x y r : Name) → N x → N y → N r → LoopKept (rebased x y r)
  rebased_kept x y r hx hy hr (gen_loop ls c a b inner) k =
      let l = has_loop N E K P w ls c a b inner k in
      let two = w.more (let_stmt x a) _ (w.let_of Long x a hx l.from) (w.let_of Long y (bin Sub b (read x)) hy (w.both Sub b (read x) l.to (w.name x hx))) in
      let sum = w.let_of Long c (bin Add (read x) (read r)) l.counter (w.both Add (read x) (read r) (w.name x hx) (w.name r hr)) in
      let lets = more_stmts (let_stmt x a) (only (let_stmt y (bin Sub b (read x)))) in
      loop_has N E K P w (join ls lets) r (ll 0) (read y) (put_let (let_stmt c (bin Add (read x) (read r))) inner) (record {
        lets = join_has N E K P w ls lets l.lets two;
        counter = hr;
        from = w.literal 0 w.zero;
        to = w.name y hy;
        body = let_below _ inner sum l.body;
      })

  fixed_kept : (k : ℕ) (r : Name) → K k → N r → LoopKept (fixed k r)
  fixed_kept k r small hr (gen_loop ls c a b inner) h =
      let l = has_loop N E K P w ls c a b inner h in
      let sum = w.let_of Long c (bin Add a (read r)) l.counter (w.both Add a (read r) l.from (w.name r hr)) in
      loop_has N E K P w ls r (ll 0) (ll k) (put_let (let_stmt c (bin Add a (read r))) inner) (record { lets = l.lets; counter = hr; from = w.literal 0 w.zero; to = w.literal k small; body = let_below _ inner sum l.body })

  counted_kept : (k : ℕ) (r : Option Name) → K k → HasIf N r → LoopKept (counted_to k r)
  counted_kept k None small hr (gen_loop ls c a b inner) h =
      let l = has_loop N E K P w ls c a b inner h in
      loop_has N E K P w ls c a (ll k) inner (record { lets = l.lets; counter = l.counter; from = l.from; to = w.literal k small; body = l.body })
  counted_kept k (Some r) small hr l h = fixed_kept k r small hr l h

  at_loop_kept : (d : ℕ) (f : GenLoop → GenLoop) → LoopKept f → LoopKept (at_loop d f)
  at_loop_kept zero f kept l h = kept l h
  at_loop_kept (suc d) f kept (gen_loop ls c a b (Seq ps)) h = h
  at_loop_kept (suc d) f kept (gen_loop ls c a b (Nest l)) h =
      let k = has_loop N E K P w ls c a b (Nest l) h in
      loop_has N E K P w ls c a b (Nest (at_loop d f l)) (record { lets = k.lets; counter = k.counter; from = k.from; to = k.to; body = at_loop_kept d f kept l k.body })

  pub ended_kept : (d k : ℕ) (r : Option Name) → K k → HasIf N r → LoopKept (at_loop d (counted_to k r))
  ended_kept d k r small hr l h = at_loop_kept d (counted_to k r) (counted_kept k r small hr) l h

  -- ---- fewer declarations

  before_has : (d : Stmt) (l : GenLoop) → P (only d) → P (loop_stmts l) → P (loop_stmts (before d l))
  before_has d (gen_loop ls c a b inner) h k = w.more d _ h k

  if_read_has : (d : Stmt) (l : GenLoop) → P (only d) → P (loop_stmts l) → P (loop_stmts (before_if_read d l))
  if_read_has d l h k = by (is_unread d l)
    where
      by : (t : Bool) → P (loop_stmts (if t then l else before d l))
      by true = k
      by false = before_has d l h k

  pub all_if_read_has : (ls : Stmts) (l : GenLoop) → P ls → P (loop_stmts l) → P (loop_stmts (all_if_read ls l))
  all_if_read_has no_stmts l h k = k
  all_if_read_has (more_stmts d ls) l h k = if_read_has d (all_if_read ls l) (w.first d ls h) (all_if_read_has ls l (w.rest d ls h) k)

  mutual
    pub unread_kept : LoopKept without_unread
    unread_kept (gen_loop ls c a b inner) h =
        let l = has_loop N E K P w ls c a b inner h in
        all_if_read_has ls _ l.lets (loop_has N E K P w no_stmts c a b (below_without_unread inner) (record { lets = w.none; counter = l.counter; from = l.from; to = l.to; body = unread_below_kept inner l.body }))

    pub unread_below_kept : (inner : Inner) → P (inner_stmts inner) → P (inner_stmts (below_without_unread inner))
    unread_below_kept (Nest l) h = unread_kept l h
    unread_below_kept (Seq ps) h = h

  pub count_kept : (d k : ℕ) (r : Option Name) → K k → HasIf N r → LoopKept (known_at d k r)
  count_kept d k r small hr l h = unread_kept (at_loop d (counted_to k r) l) (ended_kept d k r small hr l h)

  pub reversed_kept : (r : Name) → N r → LoopKept (reversed r)
  reversed_kept r hr (gen_loop ls c a b inner) h =
      let l = has_loop N E K P w ls c a b inner h in
      let last = w.both Sub b (ll 1) l.to (w.literal 1 w.one) in
      let turn = w.let_of Long c (bin Sub (bin Sub b (ll 1)) (read r)) l.counter (w.both Sub (bin Sub b (ll 1)) (read r) last (w.name r hr)) in
      loop_has N E K P w ls r (ll 0) b (put_let (let_stmt c (bin Sub (bin Sub b (ll 1)) (read r))) inner) (record { lets = l.lets; counter = hr; from = w.literal 0 w.zero; to = l.to; body = let_below _ inner turn l.body })

  -- ---- the first loop of a Gen

  pub first_kept : (f : GenLoop → GenLoop) → LoopKept f → (ps : Parts) → P (parts_stmts ps) → P (parts_stmts (on_first f ps))
  first_kept f kept no_parts h = h
  first_kept f kept (more_parts (Plain as') ps) h = h
  first_kept f kept (more_parts (Looped l) ps) h =
      join_has N E K P w (loop_stmts (f l)) (parts_stmts ps) (kept l (first_has N E K P w (loop_stmts l) (parts_stmts ps) h)) (second_has N E K P w (loop_stmts l) (parts_stmts ps) h)

  pub gen_kept : (f : GenLoop → GenLoop) → LoopKept f → (g : Gen) → P (emit g) → P (emit (record { front = g.front; parts = on_first f g.parts }))
  gen_kept f kept g h =
      join_has N E K P w g.front _ (first_has N E K P w g.front (parts_stmts g.parts) h) (first_kept f kept g.parts (second_has N E K P w g.front (parts_stmts g.parts) h))

  pub from_zero_kept : (f : FreshNames) → ((k : ℕ) → N (drawn (after_draws k f))) → (g : Gen) → P (emit g) → P (emit (from_zero f g))
  from_zero_kept f names g h = by (begins_at_zero g.parts)
    where
      by : (t : Bool) → P (emit (if t then g else record { front = g.front; parts = on_first (rebased (drawn f) (drawn (after_draws 1 f)) (drawn (after_draws 2 f))) g.parts }))
      by true = h
      by false = gen_kept (rebased (drawn f) (drawn (after_draws 1 f)) (drawn (after_draws 2 f))) (rebased_kept _ _ _ (names 0) (names 1) (names 2)) g h

  pub with_count_kept : (d k : ℕ) (r : Option Name) → K k → HasIf N r → (g : Gen) → P (emit g) → P (emit (with_count d k r g))
  with_count_kept d k r small hr g h = gen_kept (known_at d k r) (count_kept d k r small hr) g h

  pub reverse_kept : (r : Name) (f : FreshNames) → N r → ((k : ℕ) → N (drawn (after_draws k f))) → (g : Gen) → P (emit g) → P (emit (reversed_gen r (from_zero f g)))
  reverse_kept r f hr names g h = gen_kept (reversed r) (reversed_kept r hr) (from_zero f g) (from_zero_kept f names g h)

  -- ---- the normal form of a loop

  pub record NamesHave (m : LoopNames) : Type 0 where
    pub begin : N m.begin
    pub end : N m.end
    pub count : N m.count
    pub counter : N m.counter

  pub record SourceHas (h : SourceLoop) : Type 0 where
    pub var : N h.var
    pub lb : E h.lb
    pub ub : E h.ub
    pub step : K (nat_abs h.step)

  read_wide : (x : Name) → N x → E (cast Long (read x))
  read_wide x h = w.converted Long (read x) (w.name x h)

  gap_has : (a b : Name) → N a → N b → E (gap a b)
  gap_has a b ha hb = w.both Sub _ _ (read_wide b hb) (read_wide a ha)

  weak_has : (op : BinOp) (d : Expr) (s : ℕ) (a b : Name) → E d → K s → N a → N b → E (weak_count op d s a b)
  weak_has op d s a b hd hs ha hb =
      w.choice _ _ _ (w.both op (read a) (read b) (w.name a ha) (w.name b hb)) (w.both Add _ _ (w.both Div d (ll s) hd (w.literal s hs)) (w.literal 1 w.one)) (w.literal 0 w.zero)

  strict_has : (op : BinOp) (d : Expr) (s : ℕ) (a b : Name) → E d → K s → N a → N b → E (strict_count op d s a b)
  strict_has op d s a b hd hs ha hb = weak_has op (bin Sub d (ll 1)) s a b (w.both Sub d (ll 1) hd (w.literal 1 w.one)) hs ha hb

  count_has : (op : BinOp) (u : Bool) (s : ℕ) (a b : Name) → K s → N a → N b → E (count_by op u s a b)
  count_has Lt true s a b h x y = strict_has Lt (gap a b) s a b (gap_has a b x y) h x y
  count_has Le true s a b h x y = weak_has Le (gap a b) s a b (gap_has a b x y) h x y
  count_has Ne true s a b h x y = strict_has Lt (gap a b) s a b (gap_has a b x y) h x y
  count_has Gt false s a b h x y = strict_has Gt (gap b a) s a b (gap_has b a y x) h x y
  count_has Ge false s a b h x y = weak_has Ge (gap b a) s a b (gap_has b a y x) h x y
  count_has Ne false s a b h x y = strict_has Gt (gap b a) s a b (gap_has b a y x) h x y
  count_has op u s a b h x y = w.literal 0 w.zero

  signed_has : (u : Bool) (s : ℕ) → K s → E (signed_literal u s)
  signed_has true s h = w.literal s h
  signed_has false s h = w.negated (ll s) (w.literal s h)

  value_has : (T : Ty) (z : ℤ) (a t : Name) → K (nat_abs z) → N a → N t → E (value_expr T z a t)
  value_has T z a t h x y = w.converted T _ (w.both Add _ _ (read_wide a x) (w.both Mul (read t) _ (w.name t y) (signed_has (is_up z) (nat_abs z) h)))

  module _ (m : LoopNames) (h : SourceLoop) (names : NamesHave m) (source : SourceHas h) where
    front_has : (rest : Stmts) → P rest → P (source_front m h rest)
    front_has rest k =
        w.more _ _ (w.let_of h.ty m.begin h.lb names.begin source.lb)
        (w.more _ _ (w.let_of h.ty m.end h.ub names.end source.ub)
        (w.more _ _ (w.let_of Long m.count _ names.count (count_has h.test (is_up h.step) (nat_abs h.step) m.begin m.end source.step names.begin names.end)) k))

    var_has : P (only (source_var m h))
    var_has = w.let_of h.ty h.var _ source.var (value_has h.ty h.step m.begin m.counter source.step names.begin names.counter)

    -- the loop from 0 to the count
    loop_round_has : (inner : Inner) → P (inner_stmts inner) → P (loop_stmts (gen_loop no_stmts m.counter (ll 0) (read m.count) inner))
    loop_round_has inner k = w.loop_of m.counter (ll 0) (read m.count) (inner_stmts inner) names.counter (w.literal 0 w.zero) (w.name m.count names.count) k

    pub leaf_kept : (body : Stmts) → P body → P (emit (leaf m h body))
    leaf_kept body k =
        let list = w.more (source_var m h) (only (block body)) var_has (w.block_of body k) in
        front_has _ (join_has N E K P w _ no_stmts (loop_round_has (Seq (more_parts (Plain (more_stmts (source_var m h) (only (block body)))) no_parts)) list) w.none)

    loop_round_kept : LoopKept (loop_round m h)
    loop_round_kept l k = loop_round_has (Nest (declare_in (source_var m h) l)) (declare_kept (source_var m h) var_has l k)

    pub round_kept : (g : Gen) → P (emit g) → P (emit (nest_round m h g))
    round_kept g k = front_has _ (gen_kept (loop_round m h) loop_round_kept g k)
