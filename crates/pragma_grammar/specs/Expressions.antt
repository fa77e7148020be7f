-- The grammar of expressions (C11 6.5): which symbols spell which tree. No list is cut: in `.. ts us` the symbols of
-- `ts` before its end `us` spell the tree.
use Rattle.std.specs.Prelude.{◌≡◌, ℕ, suc, ◌≤◌, Bool, List, ◌∷◌, Option, Some, None}
use Rattle.c_tree.specs.Bare.{Name}
use Rattle.c_tree.specs.Placed.{Expr, num, read, item, un, bin, cond, cast, Exprs, no_exprs, more_exprs}
use Rattle.c_tree.specs.declared.tree.Span.{Span}
use Rattle.c_tree.specs.declared.tree.Ty.{Ty}
use Rattle.c_tree.specs.declared.tree.Ty.TheVariants as ty
use Rattle.c_tree.specs.declared.tree.UnOp.{UnOp}
use Rattle.c_tree.specs.declared.tree.UnOp.TheVariants as u
use Rattle.c_tree.specs.declared.tree.BinOp.{BinOp}
use Rattle.c_tree.specs.declared.tree.BinOp.TheVariants as b
use Rattle.c_lexer.specs.declared.token.Punct.TheVariants.{RoundOpen, RoundClose, SquareOpen, SquareClose, Comma, Question, Colon, Plus, Minus, Bang, Star, Slash, Percent, Less, LessEq, Greater, GreaterEq, EqEq, BangEq, AndAnd, BarBar}
use Rattle.c_lexer.specs.declared.words.Keyword.TheVariants.{Int, Long}
use Rattle.pragma_grammar.specs.Symbols.{Symbol, name, number, punct, keyword, place, spanning}

-- the operator that a symbol is before an operand (6.5.3.3)
abbrev pub unary_of : Symbol → Option UnOp
unary_of (punct Plus s) = Some u.Plus
unary_of (punct Minus s) = Some u.Neg
unary_of (punct Bang s) = Some u.Not
unary_of t = None

-- and between two (6.5.5, 6.5.6, 6.5.8, 6.5.9, 6.5.13, 6.5.14)
abbrev pub binary_of : Symbol → Option BinOp
binary_of (punct Star s) = Some b.Mul
binary_of (punct Slash s) = Some b.Div
binary_of (punct Percent s) = Some b.Rem
binary_of (punct Plus s) = Some b.Add
binary_of (punct Minus s) = Some b.Sub
binary_of (punct Less s) = Some b.Lt
binary_of (punct LessEq s) = Some b.Le
binary_of (punct Greater s) = Some b.Gt
binary_of (punct GreaterEq s) = Some b.Ge
binary_of (punct EqEq s) = Some b.Eq
binary_of (punct BangEq s) = Some b.Ne
binary_of (punct AndAnd s) = Some b.And
binary_of (punct BarBar s) = Some b.Or
binary_of t = None

-- The rows of operators, from the loosest: 0 is that of `? :`, 7 that of the unary operators and casts; whatever is in
-- parentheses or has no operator stands in each row.
abbrev pub row : BinOp → ℕ
row b.Or = 1
row b.And = 2
row b.Eq = 3
row b.Ne = 3
row b.Lt = 4
row b.Le = 4
row b.Gt = 4
row b.Ge = 4
row b.Add = 5
row b.Sub = 5
row b.Mul = 6
row b.Div = 6
row b.Rem = 6

-- the names of the types (6.7.2): `int`, `long long`, `long long int`
pub data TypeName : Ty → List Symbol → List Symbol → Type 0 where
  int : {a : Span} {ts : List Symbol} → TypeName ty.Int (keyword Int a ∷ ts) ts
  long_long : {a b : Span} {ts : List Symbol} → TypeName ty.Long (keyword Long a ∷ keyword Long b ∷ ts) ts
  long_long_int : {a b c : Span} {ts : List Symbol} → TypeName ty.Long (keyword Long a ∷ keyword Long b ∷ keyword Int c ∷ ts) ts

-- a name is read, and one with subscripts is an array's element
abbrev pub element : Name → Exprs → Span → Expr
element x no_exprs s = read x s
element x es s = item x es s

-- `Phrase r e w ts us`: where an expression of row `r` or tighter is asked for, these symbols spell `e`. They stand at
-- `w`, parentheses round the whole included; a node's own span is without them.
-- `Subscripts es a z ts us`: subscripts, after a token at `a`; the last token of the two stands at `z`.
mutual
  pub data Phrase : ℕ → Expr → Span → List Symbol → List Symbol → Type 0 where
    -- 6.5.1, primary expressions
    literal : {r n : ℕ} {ty : Ty} {plain_zero : Bool} {a : Span} {ts : List Symbol} → Phrase r (num n ty a) a (number n ty plain_zero a ∷ ts) ts
    named : {r : ℕ} {x : Name} {es : Exprs} {a z : Span} {ts us : List Symbol} → Subscripts es a z ts us → Phrase r (element x es (spanning a z)) (spanning a z) (name x a ∷ ts) us
    parens : {r : ℕ} {e : Expr} {a w z : Span} {ts us : List Symbol} → Phrase 0 e w ts (punct RoundClose z ∷ us) → Phrase r e (spanning a z) (punct RoundOpen a ∷ ts) us
    -- 6.5.3, 6.5.4
    unary : {r : ℕ} {t : Symbol} {o : UnOp} {e : Expr} {w : Span} {ts us : List Symbol} → unary_of t ≡ Some o → r ≤ 7 → Phrase 7 e w ts us → Phrase r (un o e (spanning (place t) w)) (spanning (place t) w) (t ∷ ts) us
    convert : {r : ℕ} {ty : Ty} {e : Expr} {a z w : Span} {ts us vs : List Symbol} → r ≤ 7 → TypeName ty ts (punct RoundClose z ∷ us) → Phrase 7 e w us vs → Phrase r (cast ty e (spanning a w)) (spanning a w) (punct RoundOpen a ∷ ts) vs
    -- 6.5.5 to 6.5.14: operators associate to the left
    binary : {r : ℕ} {t : Symbol} {o : BinOp} {e f : Expr} {v w : Span} {ts us vs : List Symbol} → binary_of t ≡ Some o → r ≤ row o → Phrase (row o) e v ts (t ∷ us) → Phrase (suc (row o)) f w us vs → Phrase r (bin o e f (spanning v w)) (spanning v w) ts vs
    -- 6.5.15
    choice : {r : ℕ} {c e f : Expr} {u v w y z : Span} {ts us vs ws : List Symbol} → r ≤ 0 → Phrase 1 c u ts (punct Question y ∷ us) → Phrase 0 e v us (punct Colon z ∷ vs) → Phrase 0 f w vs ws → Phrase r (cond c e f (spanning u w)) (spanning u w) ts ws

  -- 6.5.2.1
  pub data Subscripts : Exprs → Span → Span → List Symbol → List Symbol → Type 0 where
    no_more : {a : Span} {ts : List Symbol} → Subscripts no_exprs a a ts ts
    one_more : {e : Expr} {es : Exprs} {a b w y z : Span} {ts us vs : List Symbol} → Phrase 0 e w ts (punct SquareClose y ∷ us) → Subscripts es y z us vs → Subscripts (more_exprs e es) a z (punct SquareOpen b ∷ ts) vs

-- one or more expressions with commas between them
pub data Listed : Exprs → List Symbol → List Symbol → Type 0 where
  last : {e : Expr} {w : Span} {ts us : List Symbol} → Phrase 0 e w ts us → Listed (more_exprs e no_exprs) ts us
  next : {e : Expr} {es : Exprs} {w z : Span} {ts us vs : List Symbol} → Phrase 0 e w ts (punct Comma z ∷ us) → Listed es us vs → Listed (more_exprs e es) ts vs
