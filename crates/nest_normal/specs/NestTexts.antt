-- The texts of nests: a loop round a nest, and a loop of a known count at a depth of a nest.
use Rattle.std.specs.Prelude.{ℕ, zero, suc, Option, Some, None, Bool, true, false, bytes_eq, if◌then◌else◌}
use Rattle.c_tree.specs.Bare.{Name, read, Stmt, decl, block, Stmts, no_stmts, more_stmts}
use Rattle.loop_normal.specs.DrawnNames.{FreshNames, drawn, after_draw}
use Rattle.loop_normal.specs.Denotes.{lets_of}
use Rattle.loop_normal.specs.Gens.{GenLoop, gen_loop, Inner, Nest, Seq, Part, Looped, Plain, Parts, no_parts, more_parts, Gen, parts_stmts}
use Rattle.loop_normal.specs.Templates.{ll, only, LoopNames, SourceLoop, source_front, source_var, fixed, is_zero_literal, on_first}
use Rattle.nest_normal.specs.Spelled.{without_unread}

-- a front and one nest
abbrev pub nest_of : Stmts → GenLoop → Gen
nest_of front l = record { front = front; parts = more_parts (Looped l) no_parts }

-- the innermost loop of a nest: its variable, and the body as a block
abbrev pub innermost : LoopNames → SourceLoop → Stmts → GenLoop
innermost m h body = gen_loop no_stmts m.counter (ll 0) (read m.count) (Seq (more_parts (Plain (more_stmts (source_var m h) (only (block body)))) no_parts))

-- a part, changed where it is a nest
abbrev pub on_loop : (GenLoop → GenLoop) → Part → Part
on_loop f (Looped l) = Looped (f l)
on_loop f (Plain as') = Plain as'

-- ---- a loop round a nest

abbrev pub declares_name : Name → Stmt → Bool
declares_name x (decl t y e) = bytes_eq x y
declares_name x _ = false

-- the list declares the name, not only in a block of it
abbrev pub declares : Name → Stmts → Bool
declares x no_stmts = false
declares x (more_stmts a as') = if declares_name x a then true else declares x as'

-- a part does: before its loop, or in its list
abbrev pub part_declares : Name → Part → Bool
part_declares x (Looped l) = declares x (lets_of l)
part_declares x (Plain as') = declares x as'

-- a declaration of a name that the list declares too
abbrev pub is_hidden : Stmt → Stmts → Bool
is_hidden (decl t x e) as' = declares x as'
is_hidden _ as' = false

-- a declaration before a list, unless it is hidden there
abbrev pub put_visible : Stmt → Parts → Parts
put_visible d ps = if is_hidden d (parts_stmts ps) then ps else more_parts (Plain (only d)) ps

abbrev mutual
  -- below the innermost loop of a nest
  pub declare_in : Stmt → GenLoop → GenLoop
  declare_in d (gen_loop ls c a b inner) = gen_loop ls c a b (declare_below d inner)

  pub declare_below : Stmt → Inner → Inner
  declare_below d (Nest l) = Nest (declare_in d l)
  declare_below d (Seq ps) = Seq (put_visible d ps)

-- a loop round a nest, by its counter, its count and the declaration of its variable
abbrev pub counted_round : Name → Name → Stmt → GenLoop → GenLoop
counted_round c k d l = gen_loop no_stmts c (ll 0) (read k) (Nest (declare_in d l))

-- the variable is declared below the innermost loop, before the variables of the nest; a variable that one of these hides
-- isn't declared
abbrev pub loop_round : LoopNames → SourceLoop → GenLoop → GenLoop
loop_round m h = counted_round m.counter m.count (source_var m h)

-- the list below the innermost loop of the nest declares the name
abbrev mutual
  pub hides : GenLoop → Name → Bool
  hides (gen_loop ls c a b inner) = hides_below inner

  pub hides_below : Inner → Name → Bool
  hides_below (Nest l) = hides l
  hides_below (Seq ps) = λ x. declares x (parts_stmts ps)

-- its bounds and its count come before the nest's
abbrev pub nest_round : LoopNames → SourceLoop → Gen → Gen
nest_round m h g = record { front = source_front m h g.front; parts = on_first (loop_round m h) g.parts }

-- ---- a known count

-- the loop runs to the literal; with a new counter from 0, and the old one as a sum
abbrev pub counted_to : ℕ → Option Name → GenLoop → GenLoop
counted_to k None (gen_loop ls c a b inner) = gen_loop ls c a (ll k) inner
counted_to k (Some r) l = fixed k r l

-- the loop that is d loops down is changed
abbrev mutual
  pub at_loop : ℕ → (GenLoop → GenLoop) → GenLoop → GenLoop
  at_loop zero f l = f l
  at_loop (suc d) f (gen_loop ls c a b inner) = gen_loop ls c a b (at_below d f inner)

  pub at_below : ℕ → (GenLoop → GenLoop) → Inner → Inner
  at_below d f (Nest l) = Nest (at_loop d f l)
  at_below d f (Seq ps) = Seq ps

-- no loop is there, or one that begins at the literal 0
abbrev mutual
  pub zero_at : ℕ → GenLoop → Bool
  zero_at zero (gen_loop ls c a b inner) = is_zero_literal a
  zero_at (suc d) (gen_loop ls c a b inner) = zero_below d inner

  pub zero_below : ℕ → Inner → Bool
  zero_below d (Nest l) = zero_at d l
  zero_below d (Seq ps) = true

abbrev pub zero_in : ℕ → Parts → Bool
zero_in d (more_parts (Looped l) ps) = zero_at d l
zero_in d _ = true

-- a name is drawn for a new counter where the loop doesn't begin at the literal 0
abbrev pub new_counter : FreshNames → ℕ → Gen → Option Name
new_counter f d g = if zero_in d g.parts then None else Some (drawn f)

abbrev pub after_counter : FreshNames → ℕ → Gen → FreshNames
after_counter f d g = if zero_in d g.parts then f else after_draw f

-- the loop that is d loops down has the known count, and declarations that nothing reads any more are dropped
abbrev pub known_at : ℕ → ℕ → Option Name → GenLoop → GenLoop
known_at d k r l = without_unread (at_loop d (counted_to k r) l)

abbrev pub with_count : ℕ → ℕ → Option Name → Gen → Gen
with_count d k r g = record { front = g.front; parts = on_first (known_at d k r) g.parts }
