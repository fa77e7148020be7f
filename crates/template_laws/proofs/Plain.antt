-- Code without a directive.
use Rattle.std.proofs.Common.{ℕ, Option, Some, None}
use Rattle.c_tree.specs.Bare.{Name, Expr, Stmts}
use Rattle.c_soundness.specs.NeverStuck.{AllPlain}
use Rattle.loop_normal.specs.DrawnNames.{FreshNames}
use Rattle.loop_normal.specs.Gens.{Gen, emit}
use Rattle.loop_normal.specs.Templates.{LoopNames, SourceLoop, leaf}
use Rattle.loop_normal.specs.FromZero.{from_zero}
use Rattle.nest_normal.specs.NestTexts.{nest_round, with_count}
use Rattle.permute_reverse.specs.Reversed.{reversed_gen}
use Rattle.template_laws.proofs.Lists.{IsEach}
use Rattle.template_laws.proofs.Kept.{HasIf, leaf_kept, round_kept, from_zero_kept, with_count_kept, reverse_kept}

-- nothing is asked of names and values
abbrev pub AnyName : Name → Type 0
AnyName x = Unit {0}

abbrev pub AnyExpr : Expr → Type 0
AnyExpr e = Unit {0}

abbrev pub AnyNumber : ℕ → Type 0
AnyNumber k = Unit {0}

pub plain_each : IsEach AnyName AnyExpr AnyNumber AllPlain
plain_each = record {
  none = tt;
  more = λ a as' h k. (h.0, k);
  first = λ a as' h. (h.0, tt);
  rest = λ a as' h. h.1;
  let_of = λ T x e h k. (tt, tt);
  block_of = λ as' h. (h, tt);
  loop_of = λ c a b body hc ha hb h. ((tt, tt, h), tt);
  in_loop = λ c a b body h. record { lets = tt; counter = tt; from = tt; to = tt; body = h.0.2 };
  literal = λ k h. tt;
  zero = tt;
  one = tt;
  name = λ x h. tt;
  negated = λ e h. tt;
  both = λ op a b h k. tt;
  choice = λ a b c h k l. tt;
  converted = λ T e h. tt;
}

pub any_if : (r : Option Name) → HasIf AnyName r
any_if None = tt
any_if (Some r) = tt

pub leaf_plain : (m : LoopNames) (h : SourceLoop) (body : Stmts) → AllPlain body → AllPlain (emit (leaf m h body))
leaf_plain m h body k =
    leaf_kept AnyName AnyExpr AnyNumber AllPlain plain_each m h (record { begin = tt; end = tt; count = tt; counter = tt }) (record { var = tt; lb = tt; ub = tt; step = tt }) body k

pub round_plain : (m : LoopNames) (h : SourceLoop) (g : Gen) → AllPlain (emit g) → AllPlain (emit (nest_round m h g))
round_plain m h g k =
    round_kept AnyName AnyExpr AnyNumber AllPlain plain_each m h (record { begin = tt; end = tt; count = tt; counter = tt }) (record { var = tt; lb = tt; ub = tt; step = tt }) g k

pub from_zero_plain : (f : FreshNames) (g : Gen) → AllPlain (emit g) → AllPlain (emit (from_zero f g))
from_zero_plain f g h = from_zero_kept AnyName AnyExpr AnyNumber AllPlain plain_each f (λ k. tt) g h

pub count_plain : (d k : ℕ) (r : Option Name) (g : Gen) → AllPlain (emit g) → AllPlain (emit (with_count d k r g))
count_plain d k r g h = with_count_kept AnyName AnyExpr AnyNumber AllPlain plain_each d k r tt (any_if r) g h

pub reverse_plain : (r : Name) (f : FreshNames) (g : Gen) → AllPlain (emit g) → AllPlain (emit (reversed_gen r (from_zero f g)))
reverse_plain r f g h = reverse_kept AnyName AnyExpr AnyNumber AllPlain plain_each r f tt (λ k. tt) g h
