-- The printed form of expressions (C11 6.5). Binary operators and `?`, `:` have a space on each side, a comma is
-- followed by one; unary operators and casts stand directly before their operand. Parentheses stand where the grammar
-- needs them, and round an operand of a unary `-` or `+` that is itself one.
use Rattle.std.specs.Prelude.{ℕ, ◌+◌, Bool, true, false, ◌||◌, nat_lt}
use Rattle.c_tree.specs.Bare.{Expr, num, read, item, un, bin, cond, cast, Exprs, no_exprs, more_exprs}
use Rattle.c_tree.specs.declared.tree.UnOp.{UnOp}
use Rattle.c_tree.specs.declared.tree.UnOp.TheVariants as u
use Rattle.c_tree.specs.declared.tree.BinOp.{BinOp}
use Rattle.c_tree.specs.declared.tree.BinOp.TheVariants as b
use Rattle.c_lexer.specs.declared.token.Punct.{Punct}
use Rattle.c_lexer.specs.declared.token.Punct.TheVariants.{SquareOpen, SquareClose, Question, Colon, Plus, Minus, Bang, Star, Slash, Percent, Less, LessEq, Greater, GreaterEq, EqEq, BangEq, AndAnd, BarBar}
use Rattle.c_printer.specs.Layout.{Layout, nothing, mark, number, ◌&◌, word, sign, gap, type_name, wrapped, parens, comma}

abbrev pub unary_sign : UnOp → Punct
unary_sign u.Neg = Minus
unary_sign u.Plus = Plus
unary_sign u.Not = Bang

abbrev pub binary_sign : BinOp → Punct
binary_sign b.Mul = Star
binary_sign b.Div = Slash
binary_sign b.Rem = Percent
binary_sign b.Add = Plus
binary_sign b.Sub = Minus
binary_sign b.Lt = Less
binary_sign b.Le = LessEq
binary_sign b.Gt = Greater
binary_sign b.Ge = GreaterEq
binary_sign b.Eq = EqEq
binary_sign b.Ne = BangEq
binary_sign b.And = AndAnd
binary_sign b.Or = BarBar

-- The rows of operators, from the loosest: 0 is `? :`, 7 the unary operators and casts, 8 what has no operator.
abbrev pub binary_row : BinOp → ℕ
binary_row b.Or = 1
binary_row b.And = 2
binary_row b.Eq = 3
binary_row b.Ne = 3
binary_row b.Lt = 4
binary_row b.Le = 4
binary_row b.Gt = 4
binary_row b.Ge = 4
binary_row b.Add = 5
binary_row b.Sub = 5
binary_row b.Mul = 6
binary_row b.Div = 6
binary_row b.Rem = 6

abbrev pub row_of : Expr → ℕ
row_of (num value t) = 8
row_of (read x) = 8
row_of (item x es) = 8
row_of (un op a) = 7
row_of (bin op a b) = binary_row op
row_of (cond a b c) = 0
row_of (cast t a) = 7

-- a unary `-` or `+`
abbrev pub is_sign : UnOp → Bool
is_sign u.Neg = true
is_sign u.Plus = true
is_sign u.Not = false

abbrev pub is_signed : UnOp → Expr → Bool
is_signed u.Not e = false
is_signed op (un inner a) = is_sign inner
is_signed op e = false

-- an operand where an expression of this row or tighter is asked for
abbrev pub operand : ℕ → Expr → Layout → Layout
operand row e printed = wrapped (nat_lt (row_of e) row) printed

abbrev mutual
  pub expr_form : Expr → Layout
  expr_form (num value t) = mark (number value t)
  expr_form (read x) = word x
  expr_form (item x es) = word x & subscripts es
  expr_form (un op a) = sign (unary_sign op) & wrapped (is_signed op a || nat_lt (row_of a) 7) (expr_form a)
  expr_form (bin op a b) = operand (binary_row op) a (expr_form a) & gap & sign (binary_sign op) & gap & operand (binary_row op + 1) b (expr_form b)
  expr_form (cond a b c) = operand 1 a (expr_form a) & gap & sign Question & gap & expr_form b & gap & sign Colon & gap & expr_form c
  expr_form (cast t a) = parens (type_name t) & operand 7 a (expr_form a)

  pub subscripts : Exprs → Layout
  subscripts no_exprs = nothing
  subscripts (more_exprs e es) = sign SquareOpen & expr_form e & sign SquareClose & subscripts es

-- expressions after others, and a whole list
abbrev pub further : Exprs → Layout
further no_exprs = nothing
further (more_exprs e es) = comma & expr_form e & further es

abbrev pub listed : Exprs → Layout
listed no_exprs = nothing
listed (more_exprs e es) = expr_form e & further es
