-- Which program a text reads as: its tokens spell a tree of which that program is left when its places are forgotten.
use Rattle.std.specs.Prelude.{◌≡◌, ℕ, List}
use Rattle.c_tree.specs.Bare as b
use Rattle.c_tree.specs.Placed as p
use Rattle.c_tree.specs.Forget.{forget_program}
use Rattle.c_lexer.specs.declared.token.Token.{Token}
use Rattle.c_lexer.specs.Cut.{Cut}
use Rattle.c_grammar.specs.Programs.{Spells}

pub record Reads (text : List ℕ) (program' : b.Program) : Type 0 where
  pub tokens : List Token
  pub cut : Cut text tokens
  pub program : p.Program
  pub spelled : Spells program tokens
  pub same : forget_program program ≡ program'
