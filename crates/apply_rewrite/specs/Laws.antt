-- What a program does when its stacks of reverse directives are replaced.
use Rattle.std.specs.Prelude.{◌≡◌, ℕ, List, [], ℤ, true}
use Rattle.c_tree.specs.Bare.{Stmt, Program}
use Rattle.c_semantics.specs.Meaning.State.{State, nowhere}
use Rattle.c_semantics.specs.Meaning.SimpleStatements.{Env}
use Rattle.c_semantics.specs.Meaning.Statements.{exec}
use Rattle.c_semantics.specs.Meaning.Programs.{outcome, turns_of}
use Rattle.c_tree.specs.WellFormed.{WellFormed}
use Rattle.c_semantics.specs.Structure.Skeleton.{skeleton}
use Rattle.c_scopes.specs.Types.{HasTypes, EachKeepsFile}
use Rattle.apply_rewrite.specs.Rewritten.{Rewritten, ProgramRewritten}
use Rattle.apply_rewrite.specs.NoDirectives.{HoldsNoDirective}
use Rattle.carried_out.specs.CarriedOut.{carried_out}
use Rattle.carried_out.specs.Reversible.{is_reversible_program}

-- a statement does the same, in every state that has the variables of its scope and at every bound
abbrev pub StatementsRunAlike : Type 0
StatementsRunAlike =
    (n : ℕ) (env : Env) (scope : State) (a b : Stmt) → EachKeepsFile env → Rewritten env.defines scope a b →
    (s : State) → HasTypes scope s → exec n env b s ≡ exec n env a s

-- a program has the same outcome and the same turns, on every input and at every bound
abbrev pub OutcomesAgree : Type 0
OutcomesAgree =
    (n : ℕ) (p q : Program) (input : List ℤ) → ProgramRewritten [] nowhere p q → (outcome n q input ≡ outcome n p input) × (turns_of n q input ≡ turns_of n p input)

-- a well-formed program all of whose directives are `reverse` over loops that they may have: its stacks are replaced, no
-- directive is left, and the outcome and the turns are the same
abbrev pub CarriedOutRunsAlike : Type 0
CarriedOutRunsAlike =
    (p : Program) → WellFormed p → is_reversible_program p ≡ true →
    ProgramRewritten [] nowhere p (carried_out p) × HoldsNoDirective (carried_out p)
    × ((n : ℕ) (input : List ℤ) → (outcome n (carried_out p) input ≡ outcome n p input) × (turns_of n (carried_out p) input ≡ turns_of n p input))

-- it then has the loops and the leaves that its directives asked for, and is well formed
abbrev pub CarriedOutKeepsItsForm : Type 0
CarriedOutKeepsItsForm =
    (p : Program) → WellFormed p → is_reversible_program p ≡ true → (skeleton (carried_out p) ≡ skeleton p) × WellFormed (carried_out p)
