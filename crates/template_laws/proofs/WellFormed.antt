-- Well-formed code.
use Rattle.std.proofs.Common.{ℕ, ◌<◌, ◌^◌, Option, Some, None, lit<}
use Rattle.c_tree.specs.Bare.{Name, Stmts}
use Rattle.c_tree.specs.WellFormed.{IsName, WellFormedExpr, WellFormedStmts}
use Rattle.loop_normal.specs.DrawnNames.{FreshNames}
use Rattle.loop_normal.specs.Gens.{Gen, emit}
use Rattle.loop_normal.specs.Templates.{LoopNames, SourceLoop, leaf}
use Rattle.loop_normal.specs.FromZero.{from_zero}
use Rattle.nest_normal.specs.NestTexts.{nest_round, with_count}
use Rattle.permute_reverse.specs.Reversed.{reversed_gen}
use Rattle.template_laws.specs.Forms.{WellFormedLoop, AreNames, IsNameIf, DrawsNames}
use Rattle.template_laws.proofs.Lists.{IsEach}
use Rattle.template_laws.proofs.Kept.{HasIf, leaf_kept, round_kept, from_zero_kept, with_count_kept, reverse_kept}

-- a literal of type `long long`
abbrev Fits : ℕ → Type 0
Fits k = k < 2 ^ 63

well_each : IsEach IsName WellFormedExpr Fits WellFormedStmts
well_each = record {
  none = tt;
  more = λ a as' h k. (h.0, k);
  first = λ a as' h. (h.0, tt);
  rest = λ a as' h. h.1;
  let_of = λ T x e h k. ((h, k), tt);
  block_of = λ as' h. (h, tt);
  loop_of = λ c a b body hc ha hb h. (((tt, (hc, ha), (hc, hb), tt, (hc, tt)), h), tt);
  in_loop = λ c a b body h. record { lets = tt; counter = h.0.0.1.0; from = h.0.0.1.1; to = h.0.0.2.1; body = h.0.1 };
  literal = λ k h. h;
  zero = lit< tt;
  one = lit< tt;
  name = λ x h. h;
  negated = λ e h. h;
  both = λ op a b h k. (h, k);
  choice = λ a b c h k l. (h, k, l);
  converted = λ T e h. h;
}

named_if : (r : Option Name) → IsNameIf r → HasIf IsName r
named_if None h = tt
named_if (Some r) h = h

pub leaf_well : (m : LoopNames) (h : SourceLoop) (body : Stmts) → AreNames m → WellFormedLoop h → WellFormedStmts body → WellFormedStmts (emit (leaf m h body))
leaf_well m h body n l k =
    leaf_kept IsName WellFormedExpr Fits WellFormedStmts well_each m h (record { begin = n.begin; end = n.end; count = n.count; counter = n.counter }) (record { var = l.var; lb = l.lb; ub = l.ub; step = l.step }) body k

pub round_well : (m : LoopNames) (h : SourceLoop) (g : Gen) → AreNames m → WellFormedLoop h → WellFormedStmts (emit g) → WellFormedStmts (emit (nest_round m h g))
round_well m h g n l k =
    round_kept IsName WellFormedExpr Fits WellFormedStmts well_each m h (record { begin = n.begin; end = n.end; count = n.count; counter = n.counter }) (record { var = l.var; lb = l.lb; ub = l.ub; step = l.step }) g k

pub from_zero_well : (f : FreshNames) (g : Gen) → DrawsNames f → WellFormedStmts (emit g) → WellFormedStmts (emit (from_zero f g))
from_zero_well f g n h = from_zero_kept IsName WellFormedExpr Fits WellFormedStmts well_each f n g h

pub count_well : (d k : ℕ) (r : Option Name) (g : Gen) → k < 2 ^ 63 → IsNameIf r → WellFormedStmts (emit g) → WellFormedStmts (emit (with_count d k r g))
count_well d k r g small n h = with_count_kept IsName WellFormedExpr Fits WellFormedStmts well_each d k r small (named_if r n) g h

pub reverse_well : (r : Name) (f : FreshNames) (g : Gen) → IsName r → DrawsNames f → WellFormedStmts (emit g) → WellFormedStmts (emit (reversed_gen r (from_zero f g)))
reverse_well r f g n names h = reverse_kept IsName WellFormedExpr Fits WellFormedStmts well_each r f n names g h
