-- What is added to code has no `break`.
use Rattle.std.proofs.Common.{ℕ, zero, suc, Option, Some, None, Bool, true, false}
use Rattle.std.specs.Prelude.{if◌then◌else◌}
use Rattle.c_tree.specs.Bare.{Name, Expr, Stmt, Stmts, no_stmts, more_stmts}
use Rattle.loop_normal.specs.DrawnNames.{FreshNames, drawn, after_draws}
use Rattle.loop_normal.specs.Gens.{GenLoop, gen_loop, Inner, Nest, Seq, Looped, Plain, Parts, no_parts, more_parts, Gen, join, counter_loop, loop_stmts, inner_stmts, parts_stmts}
use Rattle.loop_normal.specs.Templates.{only, put_let, LoopNames, SourceLoop, source_var, leaf, rebased, on_first, begins_at_zero}
use Rattle.loop_normal.specs.FromZero.{from_zero}
use Rattle.nest_normal.specs.NestTexts.{put_visible, is_hidden, declare_in, declare_below, loop_round, nest_round, counted_to, at_loop, known_at, with_count}
use Rattle.nest_normal.specs.Spelled.{is_unread, before, before_if_read, all_if_read, without_unread, below_without_unread}
use Rattle.permute_reverse.specs.Reversed.{reversed, reversed_gen}
use Rattle.template_laws.specs.NoBreaks.{NoBreak, NoBreaks, IsStayedIn, AreStayedInBelow, AreStayedIn, StaysIn}

join_none : (a b : Stmts) → NoBreaks a → NoBreaks b → NoBreaks (join a b)
join_none no_stmts b h k = k
join_none (more_stmts a as') b h k = (h.0, join_none as' b h.1 k)

none_first : (a b : Stmts) → NoBreaks (join a b) → NoBreaks a
none_first no_stmts b h = tt
none_first (more_stmts a as') b h = (h.0, none_first as' b h.1)

none_second : (a b : Stmts) → NoBreaks (join a b) → NoBreaks b
none_second no_stmts b h = h
none_second (more_stmts a as') b h = none_second as' b h.1

-- ---- loops

loop_none : (ls : Stmts) (c : Name) (a b : Expr) (inner : Inner) → NoBreaks ls → NoBreaks (loop_stmts (gen_loop ls c a b inner))
loop_none ls c a b inner h = join_none ls (only (counter_loop c a b (inner_stmts inner))) h (tt, tt)

none_loop : (ls : Stmts) (c : Name) (a b : Expr) (inner : Inner) → NoBreaks (loop_stmts (gen_loop ls c a b inner)) → NoBreaks ls
none_loop ls c a b inner h = none_first ls (only (counter_loop c a b (inner_stmts inner))) h

-- its own statements have none, and its loops keep theirs
record Held (l : GenLoop) : Type 0 where
  pub none : NoBreaks (loop_stmts l)
  pub stayed : IsStayedIn l

abbrev HoldsAlso : (GenLoop → GenLoop) → Type 0
HoldsAlso f = (l : GenLoop) → Held l → Held (f l)

let_none : (d : Stmt) (inner : Inner) → NoBreak d → NoBreaks (inner_stmts inner) → NoBreaks (inner_stmts (put_let d inner))
let_none d (Nest (gen_loop ls c a b inner)) h k = (h, k)
let_none d (Seq ps) h k = (h, k)

let_stayed : (d : Stmt) (inner : Inner) → AreStayedInBelow inner → AreStayedInBelow (put_let d inner)
let_stayed d (Nest (gen_loop ls c a b inner)) k = k
let_stayed d (Seq ps) k = k

-- another loop with a declaration below it
other_held : (ls ms : Stmts) (c r : Name) (a b from to : Expr) (d : Stmt) (inner : Inner) → NoBreak d → NoBreaks ms → Held (gen_loop ls c a b inner) → Held (gen_loop ms r from to (put_let d inner))
other_held ls ms c r a b from to d inner h n k = record {
  none = loop_none ms r from to (put_let d inner) n;
  stayed = (let_none d inner h k.stayed.0, let_stayed d inner k.stayed.1);
}

rebased_held : (x y p : Name) → HoldsAlso (rebased x y p)
rebased_held x y p (gen_loop ls c a b inner) k = other_held ls _ c p a b _ _ _ inner tt (join_none ls _ (none_loop ls c a b inner k.none) (tt, (tt, tt))) k

counted_held : (n : ℕ) (r : Option Name) → HoldsAlso (counted_to n r)
counted_held n None (gen_loop ls c a b inner) k = record { none = loop_none ls c a _ inner (none_loop ls c a b inner k.none); stayed = k.stayed }
counted_held n (Some r) (gen_loop ls c a b inner) k = other_held ls ls c r a b _ _ _ inner tt (none_loop ls c a b inner k.none) k

at_loop_held : (d : ℕ) (f : GenLoop → GenLoop) → HoldsAlso f → HoldsAlso (at_loop d f)
at_loop_held zero f also l k = also l k
at_loop_held (suc d) f also (gen_loop ls c a b (Seq ps)) k = k
at_loop_held (suc d) f also (gen_loop ls c a b (Nest l)) k =
    let below = at_loop_held d f also l (record { none = k.stayed.0; stayed = k.stayed.1 }) in
    record { none = loop_none ls c a b (Nest (at_loop d f l)) (none_loop ls c a b (Nest l) k.none); stayed = (below.none, below.stayed) }

-- ---- fewer declarations

before_held : (d : Stmt) (l : GenLoop) → NoBreak d → Held l → Held (before d l)
before_held d (gen_loop ls c a b inner) h k = record { none = (h, k.none); stayed = k.stayed }

if_read_held : (d : Stmt) (l : GenLoop) → NoBreak d → Held l → Held (before_if_read d l)
if_read_held d l h k = by (is_unread d l)
  where
    by : (t : Bool) → Held (if t then l else before d l)
    by true = k
    by false = before_held d l h k

all_if_read_held : (ls : Stmts) (l : GenLoop) → NoBreaks ls → Held l → Held (all_if_read ls l)
all_if_read_held no_stmts l h k = k
all_if_read_held (more_stmts d ls) l h k = if_read_held d (all_if_read ls l) h.0 (all_if_read_held ls l h.1 k)

mutual
  unread_held : HoldsAlso without_unread
  unread_held (gen_loop ls c a b inner) k =
      all_if_read_held ls _ (none_loop ls c a b inner k.none) (record { none = loop_none no_stmts c a b (below_without_unread inner) tt; stayed = unread_below_held inner k.stayed.0 k.stayed.1 })

  unread_below_held : (inner : Inner) → NoBreaks (inner_stmts inner) → AreStayedInBelow inner → NoBreaks (inner_stmts (below_without_unread inner)) × AreStayedInBelow (below_without_unread inner)
  unread_below_held (Nest l) n k = let held = unread_held l (record { none = n; stayed = k }) in (held.none, held.stayed)
  unread_below_held (Seq ps) n k = (n, k)

known_held : (d n : ℕ) (r : Option Name) → HoldsAlso (known_at d n r)
known_held d n r l k = unread_held (at_loop d (counted_to n r) l) (at_loop_held d (counted_to n r) (counted_held n r) l k)

reversed_held : (r : Name) → HoldsAlso (reversed r)
reversed_held r (gen_loop ls c a b inner) k = other_held ls ls c r a b _ _ _ inner tt (none_loop ls c a b inner k.none) k

visible_none : (d : Stmt) (ps : Parts) → NoBreak d → NoBreaks (parts_stmts ps) → NoBreaks (parts_stmts (put_visible d ps))
visible_none d ps h k = by (is_hidden d (parts_stmts ps))
  where
    by : (t : Bool) → NoBreaks (parts_stmts (if t then ps else more_parts (Plain (only d)) ps))
    by true = k
    by false = (h, k)

visible_stayed : (d : Stmt) (ps : Parts) → AreStayedIn ps → AreStayedIn (put_visible d ps)
visible_stayed d ps k = by (is_hidden d (parts_stmts ps))
  where
    by : (t : Bool) → AreStayedIn (if t then ps else more_parts (Plain (only d)) ps)
    by true = k
    by false = k

mutual
  declare_held : (d : Stmt) → NoBreak d → HoldsAlso (declare_in d)
  declare_held d h (gen_loop ls c a b inner) k =
      record { none = loop_none ls c a b (declare_below d inner) (none_loop ls c a b inner k.none); stayed = below_held d h inner k.stayed.0 k.stayed.1 }

  below_held : (d : Stmt) → NoBreak d → (inner : Inner) → NoBreaks (inner_stmts inner) → AreStayedInBelow inner → NoBreaks (inner_stmts (declare_below d inner)) × AreStayedInBelow (declare_below d inner)
  below_held d h (Nest l) n k = let held = declare_held d h l (record { none = n; stayed = k }) in (held.none, held.stayed)
  below_held d h (Seq ps) n k = (visible_none d ps h n, visible_stayed d ps k)

-- ---- Gens

first_held : (f : GenLoop → GenLoop) → HoldsAlso f → (ps : Parts) → NoBreaks (parts_stmts ps) → AreStayedIn ps → NoBreaks (parts_stmts (on_first f ps)) × AreStayedIn (on_first f ps)
first_held f also no_parts n k = (n, k)
first_held f also (more_parts (Plain as') ps) n k = (n, k)
first_held f also (more_parts (Looped l) ps) n k =
    let held = also l (record { none = none_first (loop_stmts l) (parts_stmts ps) n; stayed = k.0 }) in
    (join_none (loop_stmts (f l)) (parts_stmts ps) held.none (none_second (loop_stmts l) (parts_stmts ps) n), (held.stayed, k.1))

gen_stays : (f : GenLoop → GenLoop) → HoldsAlso f → (g : Gen) → StaysIn g → StaysIn (record { front = g.front; parts = on_first f g.parts })
gen_stays f also g k =
    let held = first_held f also g.parts (none_second g.front (parts_stmts g.parts) k.0) k.1 in
    (join_none g.front (parts_stmts (on_first f g.parts)) (none_first g.front (parts_stmts g.parts) k.0) held.0, held.1)

pub from_zero_stays : (f : FreshNames) (g : Gen) → StaysIn g → StaysIn (from_zero f g)
from_zero_stays f g k = by (begins_at_zero g.parts)
  where
    by : (t : Bool) → StaysIn (if t then g else record { front = g.front; parts = on_first (rebased (drawn f) (drawn (after_draws 1 f)) (drawn (after_draws 2 f))) g.parts })
    by true = k
    by false = gen_stays (rebased (drawn f) (drawn (after_draws 1 f)) (drawn (after_draws 2 f))) (rebased_held (drawn f) (drawn (after_draws 1 f)) (drawn (after_draws 2 f))) g k

pub count_stays : (d n : ℕ) (r : Option Name) (g : Gen) → StaysIn g → StaysIn (with_count d n r g)
count_stays d n r g k = gen_stays (known_at d n r) (known_held d n r) g k

pub reverse_stays : (r : Name) (f : FreshNames) (g : Gen) → StaysIn g → StaysIn (reversed_gen r (from_zero f g))
reverse_stays r f g k = gen_stays (reversed r) (reversed_held r) (from_zero f g) (from_zero_stays f g k)

pub leaf_stays : (m : LoopNames) (h : SourceLoop) (body : Stmts) → NoBreaks body → StaysIn (leaf m h body)
leaf_stays m h body k = ((tt, (tt, (tt, (tt, tt)))), (((tt, (k, tt)), tt), tt))

loop_round_held : (m : LoopNames) (h : SourceLoop) → HoldsAlso (loop_round m h)
loop_round_held m h l k = let held = declare_held (source_var m h) tt l k in record { none = (tt, tt); stayed = (held.none, held.stayed) }

pub round_stays : (m : LoopNames) (h : SourceLoop) (g : Gen) → StaysIn g → StaysIn (nest_round m h g)
round_stays m h g k = let all = gen_stays (loop_round m h) (loop_round_held m h) g k in ((tt, (tt, (tt, all.0))), all.1)
