-- What comes of assignments and steps.
use Rattle.std.proofs.Common.{◌≡◌, ℕ, Bool, List, ◌∷◌, drop, Some, None, refl, sym, ap, ◌∙◌, subst}
use Rattle.std.specs.Prelude.{Result, Ok, Err}
use Rattle.c_tree.specs.Bare.{Name}
use Rattle.c_tree.specs.Placed.{Expr, Target, Stmt, set, step as step_stmt}
use Rattle.c_tree.specs.declared.tree.Span.{Span}
use Rattle.c_tree.specs.declared.tree.SetOp.{SetOp}
use Rattle.c_tree.specs.declared.tree.Expr as code_expr
use Rattle.c_tree.specs.declared.tree.Target as code_target
use Rattle.c_tree.specs.declared.tree.Stmt as code_stmt
use Rattle.c_lexer.specs.declared.token.Token.{Token}
use Rattle.pragma_grammar.specs.declared.phrase.ParseFault.{ParseFault}
use Rattle.pragma_grammar.specs.declared.directive_kept.Kept as code
use Rattle.pragma_grammar.specs.declared.terminal.Terminal.{Terminal}
use Rattle.pragma_grammar.specs.Symbols.{Symbol, symbol, name, place}
use Rattle.pragma_grammar.specs.Terminals.{terminal_of}
use Rattle.pragma_grammar.specs.Reading.{EndsText}
use Rattle.pragma_grammar.proofs.Terminals.{symbol_place}
use Rattle.pragma_grammar.specs.DirectiveKept.{one, both, keep_expr}
use Rattle.pragma_grammar.specs.DirectiveStands.{expr_of}
use Rattle.c_parser.specs.declared.simple.Simple.{Simple}
use Rattle.c_parser.specs.declared.simple.Simple.TheVariants as v
use Rattle.c_parser.specs.declared.terminals.Operator.{Operator}
use Rattle.c_parser.specs.declared.terminals.Operator.TheVariants.{Assign, Step}
use Rattle.c_grammar.specs.Goals.{Goal, expr, names, stopping, simple, operated, target_goal, step_first, stepped_or, step, stuck, leads}
use Rattle.c_parser.specs.Comes.{Leads}
use Rattle.c_grammar.specs.Statements.{steps}
use Rattle.c_parser.specs.Terminals.{steps_terminal, IsNameTaken, IsOperatorTaken, IsStopped}
use Rattle.c_parser.specs.Phrases.{IsExprTaken}
use Rattle.c_parser.specs.Kept.{target_of, keep_target, keep_stmt, node_of}
use Rattle.c_parser.specs.Simple.{simple_until, IsTargetTaken, IsSimpleTaken, StmtGoal, IsStmtTaken}
use Rattle.c_parser.proofs.Beginning.{first_goes, first_alike}
use Rattle.c_grammar.proofs.Classes.{none_some}
use Rattle.c_parser.proofs.Keeping.{keep_set, keep_step}
use Rattle.c_parser.proofs.TerminalsTaken.{past_step, steps_as}
use Rattle.c_parser.proofs.SimpleTaken.{fails_by}

pub assign_is : (ts us : List Token) (r : Operator) (o : SetOp) → r ≡ Assign o → IsOperatorTaken ts (Ok r) us → IsOperatorTaken ts (Ok (Assign o)) us
assign_is ts us r o q h = subst (λ x. IsOperatorTaken ts (Ok x) us) q h

pub step_is : (ts us : List Token) (r : Operator) (up : Bool) (z : Span) → r ≡ Step up z → IsOperatorTaken ts (Ok r) us → IsOperatorTaken ts (Ok (Step up z)) us
step_is ts us r up z q h = subst (λ x. IsOperatorTaken ts (Ok x) us) q h

until_set : (t : Target) (o : SetOp) (e : Expr) (start : ℕ) (target : code.Kept code_target.Target) (value : code.Kept code_expr.Expr) → target_of target ≡ keep_target t → expr_of value ≡ keep_expr e
    → (to : ℕ) → simple_until (v.Set target o value start) to ≡ keep_stmt (set t o e (record { start = start; end = to }))
until_set t o e start target value p q to =
    ap (λ x. node_of start (both (λ t e. set t o e (record { start = start; end = to })) x (expr_of value))) p
    ∙ ap (λ x. node_of start (both (λ t e. set t o e (record { start = start; end = to })) (keep_target t) x)) q
    ∙ sym (keep_set t o e (record { start = start; end = to }))

pub until_step : (t : Target) (up : Bool) (start : ℕ) (target : code.Kept code_target.Target) → target_of target ≡ keep_target t
    → (to : ℕ) → simple_until (v.Step target up start) to ≡ keep_stmt (step_stmt t up (record { start = start; end = to }))
until_step t up start target p to =
    ap (λ x. node_of start (one (λ t. step_stmt t up (record { start = start; end = to })) x)) p
    ∙ sym (keep_step t up (record { start = start; end = to }))

pub operated_by : (t : Target) (a : Span) (ts us : List Token) (fault : ParseFault) → IsOperatorTaken ts (Err fault) us → IsSimpleTaken (operated t a) ts (Err fault) us
operated_by t a ts us fault i = λ f. i _ _

pub operated_set : (t : Target) (a w : Span) (ts us vs : List Token) (target : code.Kept code_target.Target) (o : SetOp) (value : code.Kept code_expr.Expr) → target_of target ≡ keep_target t
    → IsOperatorTaken ts (Ok (Assign o)) us → IsExprTaken us (Ok (value, w)) vs → IsSimpleTaken (operated t a) ts (Ok (v.Set target o value a.start, w)) vs
operated_set t a w ts us vs target o value p i x = (
  λ to. set t o x.0 (record { start = a.start; end = to }),
  until_set t o x.0 a.start target value p x.1,
  λ f q h. i (λ o. expr (λ e w. f (λ to. set t o e (record { start = a.start; end = to })) w)) (λ up z. stopping (f (λ to. step_stmt t up (record { start = a.start; end = to })) z)) q (x.2 _ q h),
)

pub operated_no_value : (t : Target) (a : Span) (ts us vs : List Token) (o : SetOp) (fault : ParseFault) → IsOperatorTaken ts (Ok (Assign o)) us → IsExprTaken us (Err fault) vs → IsSimpleTaken (operated t a) ts (Err fault) vs
operated_no_value t a ts us vs o fault i x = λ f.
    fails_by _ _ ts us fault (λ q h. i (λ o. expr (λ e w. f (λ to. set t o e (record { start = a.start; end = to })) w)) (λ up z. stopping (f (λ to. step_stmt t up (record { start = a.start; end = to })) z)) q h) (x _)

pub operated_step : (t : Target) (a z : Span) (ts us : List Token) (target : code.Kept code_target.Target) (up : Bool) (u : Unit {0}) → target_of target ≡ keep_target t
    → IsOperatorTaken ts (Ok (Step up z)) us → IsStopped us (Ok u) → IsSimpleTaken (operated t a) ts (Ok (v.Step target up a.start, z)) us
operated_step t a z ts us target up u p i s = (
  λ to. step_stmt t up (record { start = a.start; end = to }),
  until_step t up a.start target p,
  λ f q h. i (λ o. expr (λ e w. f (λ to. set t o e (record { start = a.start; end = to })) w)) (λ up z. stopping (f (λ to. step_stmt t up (record { start = a.start; end = to })) z)) q (s _ q h),
)

pub operated_goes_on : (t : Target) (a z : Span) (ts us : List Token) (up : Bool) (fault : ParseFault) → IsOperatorTaken ts (Ok (Step up z)) us → IsStopped us (Err fault) → IsSimpleTaken (operated t a) ts (Err fault) us
operated_goes_on t a z ts us up fault i s = λ f.
    fails_by _ _ ts us fault (λ q h. i (λ o. expr (λ e w. f (λ to. set t o e (record { start = a.start; end = to })) w)) (λ up z. stopping (f (λ to. step_stmt t up (record { start = a.start; end = to })) z)) q h) (s _)

-- ---- an assignment or a step

simple_as : (f : (ℕ → Stmt) → Span → Goal) (s : Symbol) → steps s ≡ None → step (simple f) s ≡ step (names (λ x a. target_goal x a (λ t v. operated t v f))) s
simple_as f (name x a) q = refl
simple_as f s q = ap (λ z. stepped_or (λ up. step_first up (place s) f) z stuck) q

pub simple_named : (f : (ℕ → Stmt) → Span → Goal) (t : Token) (ts : List Token) (k : Terminal) → ts ≡ t ∷ drop 1 ts → k ≡ terminal_of (symbol t) → None ≡ steps_terminal k → Leads (simple f) ts (names (λ x a. target_goal x a (λ t v. operated t v f))) ts
simple_named f t ts k q r s = first_alike _ _ t ts q (simple_as f (symbol t) (steps_as (symbol t) ∙ ap steps_terminal (sym r) ∙ sym s))

pub past_sign : (t : Token) (ts : List Token) (k : Terminal) (up : Bool) → EndsText ts → ts ≡ t ∷ drop 1 ts → k ≡ terminal_of (symbol t) → Some up ≡ steps_terminal k → EndsText (drop 1 ts)
past_sign = past_step

stepped_as : (f : (ℕ → Stmt) → Span → Goal) (s : Symbol) (up : Bool) → steps s ≡ Some up → step (simple f) s ≡ leads (step_first up (place s) f)
stepped_as f (name x a) up q = absurd (none_some q)
stepped_as f s up q = ap (λ z. stepped_or (λ up. step_first up (place s) f) z stuck) q

sign_leads : (f : (ℕ → Stmt) → Span → Goal) (t : Token) (ts us : List Token) (k : Terminal) (up : Bool) → ts ≡ t ∷ drop 1 ts → us ≡ drop 1 ts → k ≡ terminal_of (symbol t) → Some up ≡ steps_terminal k → Leads (simple f) ts (step_first up t.span f) us
sign_leads f t ts us k up q u r s =
    first_goes _ _ t ts us q u (stepped_as f (symbol t) up (steps_as (symbol t) ∙ ap steps_terminal (sym r) ∙ sym s) ∙ ap (λ z. leads (step_first up z f)) (symbol_place t))

pub simple_stepped : (t : Token) (ts us vs : List Token) (k : Terminal) (up : Bool) (r : Result (Simple × Span) ParseFault) → ts ≡ t ∷ drop 1 ts → us ≡ drop 1 ts → k ≡ terminal_of (symbol t) → Some up ≡ steps_terminal k → IsSimpleTaken (step_first up t.span) us r vs → IsSimpleTaken (λ f. simple f) ts r vs
simple_stepped t ts us vs k up (Ok r) q u e s i = (i.0, i.1, λ f o h. sign_leads f t ts us k up q u e s o (i.2 f o h))
simple_stepped t ts us vs k up (Err fault) q u e s i = λ f. fails_by _ _ ts us fault (sign_leads f t ts us k up q u e s) (i f)

pub simple_operated : (t : Token) (ts us vs ws : List Token) (k : Terminal) (x : Name) (a v : Span) (target : code.Kept code_target.Target) (r : Result (Simple × Span) ParseFault)
    → ts ≡ t ∷ drop 1 ts → k ≡ terminal_of (symbol t) → None ≡ steps_terminal k → IsNameTaken ts (Ok (x, a)) us → IsTargetTaken x a us (Ok (target, v)) vs
    → ((t : Target) → target_of target ≡ keep_target t → IsSimpleTaken (operated t v) vs r ws) → IsSimpleTaken (λ f. simple f) ts r ws
simple_operated t ts us vs ws k x a v target (Ok r) q e s n g i =
    let j = i g.0 g.1 in (j.0, j.1, λ f o h. simple_named f t ts k q e s o (n (λ x a. target_goal x a (λ t v. operated t v f)) o (g.2 (λ t v. operated t v f) o (j.2 f o h))))
simple_operated t ts us vs ws k x a v target (Err fault) q e s n g i = λ f.
    fails_by _ _ ts vs fault (λ o h. simple_named f t ts k q e s o (n (λ x a. target_goal x a (λ t v. operated t v f)) o (g.2 (λ t v. operated t v f) o h))) (i g.0 g.1 f)

-- ---- a statement of which some was taken before

pub stmt_passed : (x y : StmtGoal) (ts us vs : List Token) (r : Result (code.Kept code_stmt.Stmt × Span) ParseFault) → ((f : Stmt → Span → Goal) → Leads (x f) ts (y f) us) → IsStmtTaken y us r vs → IsStmtTaken x ts r vs
stmt_passed x y ts us vs (Ok r) l i = (i.0, i.1, λ f o h. l f o (i.2 f o h))
stmt_passed x y ts us vs (Err fault) l i = λ f. fails_by _ _ ts us fault (l f) (i f)
