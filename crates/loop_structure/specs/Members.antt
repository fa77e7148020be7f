-- How a statement stands in a body, and the depths that it gives there; and a list that may hold only one block.
use Rattle.std.specs.Prelude.{ℕ, List, [], ◌∷◌, Option, None, Bool, true, false}
use Rattle.c_tree.specs.Bare as b
use Rattle.c_tree.specs.Placed as p
use Rattle.c_tree.specs.declared.tree.Kind.{Kind}
use Rattle.c_tree.specs.declared.tree.Kind.TheVariants.{Fuse}
use Rattle.c_semantics.specs.Meaning.Expressions.{Define}
use Rattle.c_semantics.specs.Loops.StatementDepths.{stmt_depths, single_depths, member_depths}
use Rattle.canonical_nests.specs.LoopRules.Structure.{unwrapped}
use Rattle.loop_structure.specs.declared.found.Standing.{Standing}
use Rattle.loop_structure.specs.declared.found.Standing.TheVariants.{Alone, Within, Last}

-- the depths that it gives: among members of a sequence, a block stands only at the end, for its own members
abbrev pub standing_depths : List Define → b.Stmt → Standing → Option (List ℕ)
standing_depths ds (b.block a) Alone = single_depths ds a
standing_depths ds (b.block a) Within = None
standing_depths ds (b.block a) Last = member_depths ds a
standing_depths ds a w = stmt_depths ds a

abbrev pub standing_at : Bool → Standing
standing_at true = Last
standing_at false = Within

-- of a list with this one statement
abbrev pub unwrapped_one : p.Stmt → List p.Stmt
unwrapped_one (p.block a s) = unwrapped a
unwrapped_one a = a ∷ []

abbrev pub is_range : p.ClauseKind → Bool
is_range (p.looprange first count) = true
is_range _ = false

-- `fuse` finds all members of its body, any other directive the one statement
abbrev pub finds_all : Kind → Bool
finds_all Fuse = true
finds_all _ = false
