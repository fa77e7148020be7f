-- The generated code of one loop under stacked reverse directives.
use Rattle.std.proofs.Common.{◌≡◌, refl, ap, ◌∙◌, ℕ, zero, suc, List, [], ◌∷◌, Bool, true, false}
use Rattle.std.specs.Prelude.{nat_le}
use Rattle.std.proofs.lemmas.Bool.{both_ways, and_parts}
use Rattle.c_tree.specs.Bare.{Name, Expr, read, bin, Stmts, no_stmts}
use Rattle.c_tree.specs.declared.tree.BinOp.{BinOp}
use Rattle.c_tree.specs.declared.tree.BinOp.TheVariants.{Sub, Lt, Gt, Le, Ge, Ne}
use Rattle.c_semantics.specs.Loops.Transformations.{tile, interchange, reverse_, split, fuse, unroll_full, unroll_partial, Plan, plan, Applied, none_applied, applied_at}
use Rattle.c_semantics.specs.Laws.Names.{Names, UsesAll}
use Rattle.loop_normal.specs.Gens.{gen_loop, Seq, Looped, Plain, Parts, no_parts, more_parts, Gen, let_stmt, parts_stmts, emit}
use Rattle.loop_normal.specs.Templates.{ll, only, LoopNames, SourceLoop, source_front, count_by, signed_literal, is_up, value_expr}
use Rattle.loop_normal.specs.DrawnNames.{FreshNames, drawn, after_draw, after_draws}
use Rattle.apply_rewrite.specs.NoBreaks.{NoBreaks}
use Rattle.apply_rewrite.specs.NoDirectives.{NoDirectives}
use Rattle.carried_out.specs.Reversible.{is_reversal, are_reversals}
use Rattle.apply_rewrite.specs.ReverseStacks.{times_after, times_after_items, reversed_all}
use Rattle.carried_out.specs.CarriedOut.{made_reverse, planned, items_applied}
use Rattle.apply_rewrite.proofs.NamesMore.{AnyCall}
use Rattle.carried_out.proofs.SpentNames.{draws, Each}

-- a loop from 0 round a list, after a front
abbrev pub one_loop : Stmts → Name → Expr → Parts → Gen
one_loop front c b ps = record { front = front; parts = more_parts (Looped (gen_loop no_stmts c (ll 0) b (Seq ps))) no_parts }

-- a further directive takes the next name
pub reverse_last : (k : ℕ) (f : FreshNames) (front : Stmts) (c : Name) (b : Expr) (ps : Parts) →
    made_reverse (record { tree = reversed_all (draws k f) (one_loop front c b ps); left = after_draws k f }) ≡ record { tree = reversed_all (draws (suc k) f) (one_loop front c b ps); left = after_draws (suc k) f }
reverse_last zero f front c b ps = refl
reverse_last (suc k) f front c b ps = reverse_last k (after_draw f) front (drawn f) b (more_parts (Plain (only (let_stmt c (bin Sub (bin Sub b (ll 1)) (read (drawn f)))))) ps)

mutual
  -- and a plan that only reverses takes one for each time
  pub planned_last : (p : Plan) → is_reversal p ≡ true → (k : ℕ) (f : FreshNames) (front : Stmts) (c : Name) (b : Expr) (ps : Parts) →
      planned p (record { tree = reversed_all (draws k f) (one_loop front c b ps); left = after_draws k f }) ≡ record { tree = reversed_all (draws (times_after p k) f) (one_loop front c b ps); left = after_draws (times_after p k) f }
  planned_last (plan reverse_ w) h k f front c b ps = ap (items_applied w) (reverse_last k f front c b ps) ∙ items_last w h (suc k) f front c b ps
  planned_last (plan (tile ss) w) h k f front c b ps = absurd (both_ways false refl h)
  planned_last (plan (interchange qs) w) h k f front c b ps = absurd (both_ways false refl h)
  planned_last (plan (split cs) w) h k f front c b ps = absurd (both_ways false refl h)
  planned_last (plan (fuse r) w) h k f front c b ps = absurd (both_ways false refl h)
  planned_last (plan unroll_full w) h k f front c b ps = absurd (both_ways false refl h)
  planned_last (plan (unroll_partial n) w) h k f front c b ps = absurd (both_ways false refl h)

  items_last : (w : Applied) → are_reversals w ≡ true → (k : ℕ) (f : FreshNames) (front : Stmts) (c : Name) (b : Expr) (ps : Parts) →
      items_applied w (record { tree = reversed_all (draws k f) (one_loop front c b ps); left = after_draws k f }) ≡ record { tree = reversed_all (draws (times_after_items w k) f) (one_loop front c b ps); left = after_draws (times_after_items w k) f }
  items_last none_applied h k f front c b ps = refl
  items_last (applied_at p d w) h k f front c b ps =
      let rest = (and_parts (nat_le p 1) _ h).1 in
      ap (items_applied w) (planned_last d (and_parts (is_reversal d) _ rest).0 k f front c b ps) ∙ items_last w (and_parts (is_reversal d) _ rest).1 (times_after d k) f front c b ps

-- ---- its names

module _ (P : Name → Type 0) where
  signed_named : (up : Bool) (s : ℕ) → Names P (signed_literal up s)
  signed_named true s = tt
  signed_named false s = tt

  pub value_named : (T : _) (by : _) (a t : Name) → P a → P t → Names P (value_expr T by a t)
  value_named T by a t h k = (h, (k, signed_named (is_up by) _))

  count_by_named : (op : BinOp) (up : Bool) (s : ℕ) (a b : Name) → P a → P b → Names P (count_by op up s a b)
  count_by_named Lt true s a b h k = ((h, k), ((((k, h), tt), tt), tt), tt)
  count_by_named Le true s a b h k = ((h, k), (((k, h), tt), tt), tt)
  count_by_named Ne true s a b h k = ((h, k), ((((k, h), tt), tt), tt), tt)
  count_by_named Gt false s a b h k = ((h, k), ((((h, k), tt), tt), tt), tt)
  count_by_named Ge false s a b h k = ((h, k), (((h, k), tt), tt), tt)
  count_by_named Ne false s a b h k = ((h, k), ((((h, k), tt), tt), tt), tt)
  count_by_named op up s a b h k = tt

  module _ (m : LoopNames) (l : SourceLoop) (begin : P m.begin) (end : P m.end) (count : P m.count) (lb : Names P l.lb) (ub : Names P l.ub) where
    pub stack_named : (rs : List Name) (c : Name) (b : Expr) (ps : Parts) → Each P rs → P c → Names P b → UsesAll P AnyCall (parts_stmts ps) → UsesAll P AnyCall (emit (reversed_all rs (one_loop (source_front m l no_stmts) c b ps)))
    stack_named [] c b ps hs h k u =
        ((begin, lb), ((end, ub), ((count, count_by_named l.test (is_up l.step) _ m.begin m.end begin end), (((h, tt), (h, k), (h, tt), u), tt))))
    stack_named (r ∷ rs) c b ps hs h k u = stack_named rs r b (more_parts (Plain (only (let_stmt c (bin Sub (bin Sub b (ll 1)) (read r))))) ps) hs.1 hs.0 k ((h, ((k, tt), hs.0)), u)

-- ---- no `break` and no directive in it

module _ (m : LoopNames) (l : SourceLoop) where
  pub stack_stays : (rs : List Name) (c : Name) (b : Expr) (ps : Parts) → NoBreaks (emit (reversed_all rs (one_loop (source_front m l no_stmts) c b ps)))
  stack_stays [] c b ps = (tt, (tt, (tt, (tt, tt))))
  stack_stays (r ∷ rs) c b ps = stack_stays rs r b _

  pub stack_plain : (rs : List Name) (c : Name) (b : Expr) (ps : Parts) → NoDirectives (parts_stmts ps) → NoDirectives (emit (reversed_all rs (one_loop (source_front m l no_stmts) c b ps)))
  stack_plain [] c b ps h = (tt, (tt, (tt, ((tt, tt, h), tt))))
  stack_plain (r ∷ rs) c b ps h = stack_plain rs r b (more_parts (Plain (only (let_stmt c (bin Sub (bin Sub b (ll 1)) (read r))))) ps) (tt, h)
