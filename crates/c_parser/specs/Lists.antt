-- What is read next in the statements that are open, and what a step of reading does.
use Rattle.std.specs.Prelude.{◌≡◌, ◌<◌, ℕ, ◌+◌, ◌*◌, Bool, List, [], ◌∷◌, ◌++◌, length, Result, Ok, Err}
use Rattle.c_tree.specs.Placed.{Stmt, Stmts}
use Rattle.c_tree.specs.declared.tree.Span.{Span}
use Rattle.c_tree.specs.declared.tree.Stmt as code_stmt
use Rattle.c_lexer.specs.declared.token.Token.{Token}
use Rattle.pragma_grammar.specs.declared.phrase.ParseFault.{ParseFault}
use Rattle.pragma_grammar.specs.declared.directive_kept.Kept as code
use Rattle.c_parser.specs.declared.owners.Frame.{Frame}
use Rattle.c_parser.specs.declared.bodies.State.{State}
use Rattle.c_parser.specs.declared.bodies.State.TheVariants as v
use Rattle.c_parser.specs.declared.bodies.Step.{Step}
use Rattle.c_parser.specs.declared.bodies.Step.TheVariants.{Goes, Done}
use Rattle.c_grammar.specs.Goals.{Goal, body, units}
use Rattle.c_parser.specs.Comes.{Leads, Fails}
use Rattle.c_parser.specs.Bodies.{Owner, Open, Grown, IsOwner, IsOpen, After, after, after_body}
use Rattle.c_parser.specs.Kept.{stmt_of, stmts_of, keep_stmt, keep_stmts}

-- the frames, of which the innermost is the last, stand for what is open, of which the innermost is the first
abbrev pub Stands : List Frame → List Open → Type 0
Stands frames [] = frames ≡ []
Stands frames (o ∷ k) = (outer : List Frame) × (frame : Frame) × (frames ≡ outer ++ frame ∷ []) × IsOpen frame o × Stands outer k

-- what a state stands for
abbrev pub Means : State → Type 0
Means (v.Units l) = (before : Stmts → Stmts) × Grown l.stmts before
Means (v.Body owner) = (o : Owner) × IsOwner owner o
Means (v.Closed owner stmts last) = (o : Owner) × IsOwner owner o × (ss : Stmts) × (stmts_of stmts ≡ keep_stmts ss)
Means (v.Listed stmts at last) = (ss : Stmts) × (stmts_of stmts ≡ keep_stmts ss)
Means (v.Ended stmt last) = (s : Stmt) × (stmt_of stmt ≡ keep_stmt s)

-- what is asked for next, with what comes after it
abbrev pub goal : (state : State) → Means state → After → Goal
goal (v.Units l) m k = units l.ends_main (λ rs. k.list l.at (m.0 rs))
goal (v.Body owner) m k = body (after_body m.0 k.stmt)
goal (v.Closed owner stmts last) m k = after_body m.0 k.stmt m.2 last
goal (v.Listed stmts at last) m k = k.list at m.0 last
goal (v.Ended stmt last) m k = k.stmt m.0 last

-- a step leads from what is asked for next to what is asked for then, or to what comes after the outermost list
abbrev pub IsStep : List Frame → State → List Token → Result Step ParseFault → List Frame → List Token → Type 0
IsStep frames state ts (Ok (Goes next)) left us = (k : List Open) (m : Means state) → Stands frames k → (l : List Open) × (n : Means next) × Stands left l × ((f : Stmts → Span → Goal) → Leads (goal state m (after f k)) ts (goal next n (after f l)) us)
IsStep frames state ts (Ok (Done stmts last)) left us = (k : List Open) (m : Means state) → Stands frames k → (ss : Stmts) × (stmts_of stmts ≡ keep_stmts ss) × ((f : Stmts → Span → Goal) → Leads (goal state m (after f k)) ts (f ss last) us)
IsStep frames state ts (Err fault) left us = (k : List Open) (m : Means state) → Stands frames k → (f : Stmts → Span → Goal) → Fails (goal state m (after f k)) ts fault

-- how many steps without a token a state may take, other than those to frames around it
abbrev pub rank : State → ℕ
rank (v.Units l) = 0
rank (v.Body owner) = 0
rank (v.Closed owner stmts last) = 2
rank (v.Listed stmts at last) = 1
rank (v.Ended stmt last) = 1

abbrev pub weight : List Frame → State → List Token → ℕ
weight frames state ts = 4 * length ts + (2 * length frames + rank state)

abbrev pub Lessens : List Frame → State → List Token → Result Step ParseFault → List Frame → List Token → Type 0
Lessens frames state ts (Ok (Goes next)) left us = Means state → weight left next us < weight frames state ts
Lessens frames state ts r left us = Unit {0}

-- the statements of a list, through its end
abbrev pub IsListTaken : Bool → List Token → Result (code.Kept (List code_stmt.Stmt) × Span) ParseFault → List Token → Type 0
IsListTaken m ts (Ok r) us = (ss : Stmts) × (stmts_of r.0 ≡ keep_stmts ss) × ((f : Stmts → Span → Goal) → Leads (units m f) ts (f ss r.1) us)
IsListTaken m ts (Err fault) us = (f : Stmts → Span → Goal) → Fails (units m f) ts fault
