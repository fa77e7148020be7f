-- Steps of reading the statements that are open.
use Rattle.std.proofs.Common.{◌≡◌, ℕ, ◌<◌, ◌≤◌, ◌+◌, ◌*◌, Bool, true, false, List, [], ◌∷◌, ◌++◌, length, drop, Option, Some, None, refl, sym, ap, ◌∙◌, subst, arith}
use Rattle.std.specs.Prelude.{Result, Ok, Err, IfOk, option_to_list}
use Rattle.std.proofs.lemmas.List.{append-nil, length-append}
use Rattle.c_tree.specs.Placed.{Expr, Stmt, if_, if_else, while_, do_, for_, omp, block, Stmts, no_stmts, more_stmts}
use Rattle.c_tree.specs.declared.tree.Span.{Span}
use Rattle.c_tree.specs.declared.tree.Stmt as code_stmt
use Rattle.c_tree.specs.declared.tree.Expr as code_expr
use Rattle.c_tree.specs.declared.tree.ForHead as code_head
use Rattle.c_tree.specs.declared.tree.Directive as code_directive
use Rattle.c_lexer.specs.declared.token.Token.{Token}
use Rattle.pragma_grammar.specs.declared.terminal.Terminal.{Terminal}
use Rattle.pragma_grammar.specs.declared.phrase.ParseFault.{ParseFault}
use Rattle.pragma_grammar.specs.declared.directive_kept.Kept as code
use Rattle.pragma_grammar.specs.Symbols.{Symbol, symbol, spanning}
use Rattle.pragma_grammar.specs.Terminals.{terminal_of}
use Rattle.pragma_grammar.specs.DirectiveKept.{Kept, kept, one, both}
use Rattle.pragma_grammar.specs.DirectiveStands.{expr_of, directive_of}
use Rattle.pragma_grammar.proofs.Terminals.{symbol_place}
use Rattle.c_parser.specs.declared.beginnings.Beginning.{Beginning}
use Rattle.c_parser.specs.declared.beginnings.Beginning.TheVariants as b
use Rattle.c_parser.specs.Beginnings.{beginning_of}
use Rattle.c_parser.specs.declared.owners.Owner as code_owner
use Rattle.c_parser.specs.declared.owners.Owner.TheVariants as w
use Rattle.c_parser.specs.declared.owners.Begun.TheVariants as begun
use Rattle.c_parser.specs.declared.owners.OpenList.{OpenList}
use Rattle.c_parser.specs.declared.owners.Frame.{Frame}
use Rattle.c_parser.specs.declared.owners.Frame.TheVariants as fr
use Rattle.c_parser.specs.declared.bodies.State.{State}
use Rattle.c_parser.specs.declared.bodies.State.TheVariants as v
use Rattle.c_parser.specs.declared.bodies.Step.{Step}
use Rattle.c_parser.specs.declared.bodies.Step.TheVariants.{Goes, Done}
use Rattle.c_parser.specs.declared.units.UnitRead.{UnitRead}
use Rattle.c_parser.specs.declared.units.UnitRead.TheVariants as u
use Rattle.c_parser.specs.Cursor.{IsTaken, IsMayTaken}
use Rattle.c_parser.specs.Simple.{IsConditionTaken}
use Rattle.c_grammar.specs.Goals.{Goal, takes, expr, body, units, step, leads, begin, else_word, while_word, round_open, round_close, semicolon}
use Rattle.c_parser.specs.Comes.{Comes, Leads, Fails}
use Rattle.c_parser.specs.Bodies.{Owner, if_then, or_else, while_body, do_body, for_body, omp_body, Open, list, owner, Grown, IsOwner, IsOpen, After, after, after_body, after_stmt, BeginsBody, IsBegun}
use Rattle.c_parser.specs.Units.{IsUnitTaken}
use Rattle.c_parser.specs.Lists.{Stands, Means, goal, IsStep, IsListTaken}
use Rattle.c_parser.specs.Kept.{stmt_of, stmts_of, head_of, keep_stmt, keep_stmts, join_last, node_of, pair}
use Rattle.c_parser.proofs.Keeping.{keep_more, join_none}
use Rattle.c_parser.proofs.Built.{built_if, built_if_else, built_while, built_do, built_for, built_omp}
use Rattle.c_parser.proofs.Declaring.{grown}
use Rattle.c_parser.proofs.Beginning.{embodies, embodies_as, first_goes}
use Rattle.c_parser.proofs.SimpleTaken.{fails_by, leads_shrinks}
use Rattle.c_parser.proofs.Passing.{any_expr}

-- ---- statements of a list

pub lone_kept : {E : Type 0} (none : code.Kept (List code_stmt.Stmt)) (r : Result (code.Kept (List code_stmt.Stmt)) E) (x : Kept Stmt) (s : Stmt) → stmts_of none ≡ kept 0 no_stmts → x ≡ keep_stmt s → IfOk r (λ l. stmts_of l ≡ both join_last (stmts_of none) x) → IfOk r (λ l. stmts_of l ≡ keep_stmts (more_stmts s no_stmts))
lone_kept none (Ok l) x s n p q = q ∙ ap (λ z. both join_last z x) n ∙ ap (both join_last (keep_stmts no_stmts)) p ∙ sym (keep_more no_stmts s)
lone_kept none (Err fault) x s n p q = tt

pub no_stmts_grown : (none : code.Kept (List code_stmt.Stmt)) → stmts_of none ≡ kept 0 no_stmts → Grown none (λ rs. rs)
no_stmts_grown none q = record { stmts = no_stmts; joins = λ rs. refl; keeps = q }

-- ---- frames

same_ends : {X : Type 0} (xs ys : List X) (x y : X) → xs ++ x ∷ [] ≡ ys ++ y ∷ [] → (xs ≡ ys) × (x ≡ y)
same_ends [] [] x y e = (refl, cc)
same_ends [] (b ∷ []) x y e = cc
same_ends [] (b ∷ c ∷ ys) x y e = cc
same_ends (a ∷ []) [] x y e = cc
same_ends (a ∷ c ∷ xs) [] x y e = cc
same_ends (a ∷ xs) (b ∷ ys) x y e =
    let first : a ≡ b = cc in let rest : xs ++ x ∷ [] ≡ ys ++ y ∷ [] = cc in let on = same_ends xs ys x y rest in (λ i. first i ∷ on.0 i, on.1)

some_frames : (fs : List Frame) (x : Frame) → fs ++ x ∷ [] ≡ [] → ⊥
some_frames fs x q = let n : length (fs ++ x ∷ []) ≡ 0 = ap length q in let m : length (fs ++ x ∷ []) ≡ length fs + 1 = length-append fs (x ∷ []) in absurd (omega arith)

pub record Popped (fs : List Frame) (x : Frame) (k : List Open) : Type 0 where
  pub innermost : Open
  pub outer : List Open
  pub is : innermost ∷ outer ≡ k
  pub means : IsOpen x innermost
  pub stands : Stands fs outer

pub popped : (fs : List Frame) (x : Frame) (k : List Open) → Stands (fs ++ x ∷ []) k → Popped fs x k
popped fs x [] s = absurd (some_frames fs x s)
popped fs x (o ∷ k) s =
    let e = same_ends fs s.0 x s.1 s.2 in
    record { innermost = o; outer = k; is = refl; means = subst (λ z. IsOpen z o) (sym e.1) s.3; stands = subst (λ z. Stands z k) (sym e.0) s.4 }

-- where no frame is, nothing is open
pub none_open : (fs : List Frame) (k : List Open) → fs ≡ [] → Stands fs k → k ≡ []
none_open fs [] q s = refl
none_open fs (o ∷ k) q s = absurd (some_frames s.0 s.1 (sym s.2 ∙ q))

-- a step that pops a frame, by what is so of what it stands for
pub pops : (fs : List Frame) (x : Frame) (state next : State) (ts : List Token)
    → ((o : Open) (k : List Open) → IsOpen x o → (m : Means state) → (n : Means next) × ((f : Stmts → Span → Goal) → Leads (goal state m (after f (o ∷ k))) ts (goal next n (after f k)) ts))
    → IsStep (fs ++ x ∷ []) state ts (Ok (Goes next)) fs ts
pops fs x state next ts h = λ k m s.
    let p = popped fs x k s in
    let r = h p.innermost p.outer p.means m in
    (p.outer, r.0, p.stands, λ f. subst (λ z. Leads (goal state m (after f z)) ts (goal next r.0 (after f p.outer)) ts) p.is (r.1 f))

-- ---- in an open statement

pub list_ends_body : (fs : List Frame) (holder : code_owner.Owner) (stmts : code.Kept (List code_stmt.Stmt)) (at last : Span) (ts : List Token)
    → IsStep (fs ++ fr.Owner holder ∷ []) (v.Listed stmts at last) ts (Ok (Goes (v.Closed holder stmts last))) fs ts
list_ends_body fs holder stmts at last ts = pops fs (fr.Owner holder) (v.Listed stmts at last) (v.Closed holder stmts last) ts by_open where
  by_open : (o : Open) (k : List Open) → IsOpen (fr.Owner holder) o → (m : Means (v.Listed stmts at last)) → (n : Means (v.Closed holder stmts last)) × ((f : Stmts → Span → Goal) → Leads (goal (v.Listed stmts at last) m (after f (o ∷ k))) ts (goal (v.Closed holder stmts last) n (after f k)) ts)
  by_open (owner o) k i m = ((o, i, m.0, m.1), λ f o' h. h)
  by_open (list c before a) k i m = absurd i

pub stmt_ends_body : (fs : List Frame) (holder : code_owner.Owner) (stmt : code.Kept code_stmt.Stmt) (stmts : code.Kept (List code_stmt.Stmt)) (last : Span) (ts : List Token)
    → ((s : Stmt) → stmt_of stmt ≡ keep_stmt s → stmts_of stmts ≡ keep_stmts (more_stmts s no_stmts))
    → IsStep (fs ++ fr.Owner holder ∷ []) (v.Ended stmt last) ts (Ok (Goes (v.Closed holder stmts last))) fs ts
stmt_ends_body fs holder stmt stmts last ts g = pops fs (fr.Owner holder) (v.Ended stmt last) (v.Closed holder stmts last) ts by_open where
  by_open : (o : Open) (k : List Open) → IsOpen (fr.Owner holder) o → (m : Means (v.Ended stmt last)) → (n : Means (v.Closed holder stmts last)) × ((f : Stmts → Span → Goal) → Leads (goal (v.Ended stmt last) m (after f (o ∷ k))) ts (goal (v.Closed holder stmts last) n (after f k)) ts)
  by_open (owner o) k i m = ((o, i, more_stmts m.0 no_stmts, g m.0 m.1), λ f o' h. h)
  by_open (list c before a) k i m = absurd i

-- ---- in an open list

-- a statement is one more of the list
further : (l r : OpenList) (c : Bool) (before : Stmts → Stmts) (a : Span) (s : Stmt) (z : Span) (k : List Open) (ts : List Token) (f : Stmts → Span → Goal)
    → c ≡ l.ends_main → a ≡ l.at → r.ends_main ≡ l.ends_main → r.at ≡ l.at
    → Leads (after_stmt c before ((after f k).list a) s z) ts (units r.ends_main (λ rs. (after f k).list r.at (before (more_stmts s rs)))) ts
further l r c before a s z k ts f p q x y = λ o h.
    subst (λ d. Comes (units d (λ rs. (after f k).list a (before (more_stmts s rs)))) ts o) (x ∙ sym p)
    (subst (λ e. Comes (units r.ends_main (λ rs. (after f k).list e (before (more_stmts s rs)))) ts o) (y ∙ sym q) h)

-- how a list grows by a statement
abbrev pub GrowsBy : OpenList → code.Kept code_stmt.Stmt → OpenList → Type 0
GrowsBy l stmt r = (before : Stmts → Stmts) (s : Stmt) → Grown l.stmts before → stmt_of stmt ≡ keep_stmt s → (r.ends_main ≡ l.ends_main) × (r.at ≡ l.at) × Grown r.stmts (λ rs. before (more_stmts s rs))

pub list_ends_inner : (fs : List Frame) (l r : OpenList) (stmt : code.Kept code_stmt.Stmt) (stmts : code.Kept (List code_stmt.Stmt)) (at last : Span) (ts : List Token)
    → ((ss : Stmts) → stmts_of stmts ≡ keep_stmts ss → stmt_of stmt ≡ keep_stmt (block ss (spanning at last))) → GrowsBy l stmt r
    → IsStep (fs ++ fr.List l ∷ []) (v.Listed stmts at last) ts (Ok (Goes (v.Units r))) fs ts
list_ends_inner fs l r stmt stmts at last ts d g = pops fs (fr.List l) (v.Listed stmts at last) (v.Units r) ts by_open where
  by_open : (o : Open) (k : List Open) → IsOpen (fr.List l) o → (m : Means (v.Listed stmts at last)) → (n : Means (v.Units r)) × ((f : Stmts → Span → Goal) → Leads (goal (v.Listed stmts at last) m (after f (o ∷ k))) ts (goal (v.Units r) n (after f k)) ts)
  by_open (owner o) k i m = absurd i
  by_open (list c before a) k i m =
      let e = g before (block m.0 (spanning at last)) i.2 (d m.0 m.1) in
      ((λ rs. before (more_stmts (block m.0 (spanning at last)) rs), e.2), λ f. further l r c before a (block m.0 (spanning at last)) last k ts f i.0 i.1 e.0 e.1)

pub stmt_in_list : (fs : List Frame) (l r : OpenList) (stmt : code.Kept code_stmt.Stmt) (last : Span) (ts : List Token) → GrowsBy l stmt r
    → IsStep (fs ++ fr.List l ∷ []) (v.Ended stmt last) ts (Ok (Goes (v.Units r))) fs ts
stmt_in_list fs l r stmt last ts g = pops fs (fr.List l) (v.Ended stmt last) (v.Units r) ts by_open where
  by_open : (o : Open) (k : List Open) → IsOpen (fr.List l) o → (m : Means (v.Ended stmt last)) → (n : Means (v.Units r)) × ((f : Stmts → Span → Goal) → Leads (goal (v.Ended stmt last) m (after f (o ∷ k))) ts (goal (v.Units r) n (after f k)) ts)
  by_open (owner o) k i m = absurd i
  by_open (list c before a) k i m =
      let e = g before m.0 i.2 m.1 in
      ((λ rs. before (more_stmts m.0 rs), e.2), λ f. further l r c before a m.0 last k ts f i.0 i.1 e.0 e.1)

-- ---- with nothing open

pub list_ends : (fs gs : List Frame) (stmts : code.Kept (List code_stmt.Stmt)) (at last : Span) (ts : List Token) → fs ≡ [] → IsStep fs (v.Listed stmts at last) ts (Ok (Done stmts last)) gs ts
list_ends fs gs stmts at last ts q = λ k m s. (m.0, m.1, λ f o h. subst (λ z. Comes ((after f z).list at m.0 last) ts o) (sym (none_open fs k q s)) h)

pub stmt_ends : (fs gs : List Frame) (stmt : code.Kept code_stmt.Stmt) (stmts : code.Kept (List code_stmt.Stmt)) (last : Span) (ts : List Token) → fs ≡ []
    → ((s : Stmt) → stmt_of stmt ≡ keep_stmt s → stmts_of stmts ≡ keep_stmts (more_stmts s no_stmts)) → IsStep fs (v.Ended stmt last) ts (Ok (Done stmts last)) gs ts
stmt_ends fs gs stmt stmts last ts q g = λ k m s. (more_stmts m.0 no_stmts, g m.0 m.1, λ f o h. subst (λ z. Comes ((after f z).stmt m.0 last) ts o) (sym (none_open fs k q s)) h)

-- ---- what comes after a body

-- the body's owner ends with it
pub body_ends : (fs : List Frame) (holder : code_owner.Owner) (stmts : code.Kept (List code_stmt.Stmt)) (last end : Span) (stmt : code.Kept code_stmt.Stmt) (ts us : List Token)
    → ((m : Means (v.Closed holder stmts last)) → (s : Stmt) × (stmt_of stmt ≡ keep_stmt s) × ((f : Stmt → Span → Goal) → Leads (after_body m.0 f m.2 last) ts (f s end) us))
    → IsStep fs (v.Closed holder stmts last) ts (Ok (Goes (v.Ended stmt end))) fs us
body_ends fs holder stmts last end stmt ts us h = λ k m s. let r = h m in (k, (r.0, r.1), s, λ f. r.2 (after f k).stmt)

by_owner : (o p : Owner) (f : Stmt → Span → Goal) (ss : Stmts) (z : Span) (x : Goal) (ts us : List Token) → o ≡ p → Leads (after_body p f ss z) ts x us → Leads (after_body o f ss z) ts x us
by_owner o p f ss z x ts us q l = subst (λ y. Leads (after_body y f ss z) ts x us) (sym q) l

by_owner_fails : (o p : Owner) (f : Stmt → Span → Goal) (ss : Stmts) (z : Span) (ts : List Token) (fault : ParseFault) → o ≡ p → Fails (after_body p f ss z) ts fault → Fails (after_body o f ss z) ts fault
by_owner_fails o p f ss z ts fault q l = subst (λ y. Fails (after_body y f ss z) ts fault) (sym q) l

pub if_ends : (fs : List Frame) (test : code.Kept code_expr.Expr) (at : Span) (stmts : code.Kept (List code_stmt.Stmt)) (last x : Span) (stmt : code.Kept code_stmt.Stmt) (ts us : List Token)
    → IsMayTaken else_word ts None us → x ≡ spanning at last → stmt_of stmt ≡ node_of x.start (both (λ e ss. if_ e ss x) (expr_of test) (stmts_of stmts))
    → IsStep fs (v.Closed (w.IfThen test at) stmts last) ts (Ok (Goes (v.Ended stmt last))) fs us
if_ends fs test at stmts last x stmt ts us t q d = body_ends fs (w.IfThen test at) stmts last last stmt ts us (λ m.
    (if_ m.1.0 m.2 (spanning at last), built_if _ _ _ m.1.0 m.2 (spanning at last) x q d m.1.1 m.3, λ f. by_owner m.0 (if_then m.1.0 at) f m.2 last _ ts us m.1.2 (t _ _)))

pub if_goes_on : (fs : List Frame) (test : code.Kept code_expr.Expr) (at : Span) (stmts : code.Kept (List code_stmt.Stmt)) (last y : Span) (ts us : List Token)
    → IsMayTaken else_word ts (Some y) us → IsStep fs (v.Closed (w.IfThen test at) stmts last) ts (Ok (Goes (v.Body (w.IfElse test stmts at)))) fs us
if_goes_on fs test at stmts last y ts us t = λ k m s. (
  k,
  (or_else m.1.0 m.2 at, (m.1.0, m.1.1, m.2, m.3, refl)),
  s,
  λ f. by_owner m.0 (if_then m.1.0 at) (after f k).stmt m.2 last _ ts us m.1.2
      (t (λ d. body (λ rs z. (after f k).stmt (if_else m.1.0 m.2 rs (spanning at z)) z)) ((after f k).stmt (if_ m.1.0 m.2 (spanning at last)) last)),
)

pub else_ends : (fs : List Frame) (whose : code_owner.Owner) (test : code.Kept code_expr.Expr) (chosen : code.Kept (List code_stmt.Stmt)) (at : Span) (stmts : code.Kept (List code_stmt.Stmt)) (last x : Span) (stmt : code.Kept code_stmt.Stmt) (ts : List Token)
    → whose ≡ w.IfElse test chosen at → x ≡ spanning at last → stmt_of stmt ≡ node_of x.start (both (λ e p. if_else e p.0 p.1 x) (expr_of test) (both pair (stmts_of chosen) (stmts_of stmts)))
    → IsStep fs (v.Closed whose stmts last) ts (Ok (Goes (v.Ended stmt last))) fs ts
else_ends fs whose test chosen at stmts last x stmt ts same q d = subst (λ z. IsStep fs (v.Closed z stmts last) ts (Ok (Goes (v.Ended stmt last))) fs ts) (sym same) (body_ends fs (w.IfElse test chosen at) stmts last last stmt ts ts (λ m.
    (if_else m.1.0 m.1.2 m.2 (spanning at last), built_if_else _ _ _ _ m.1.0 m.1.2 m.2 (spanning at last) x q d m.1.1 m.1.3 m.3, λ f. by_owner m.0 (or_else m.1.0 m.1.2 at) f m.2 last _ ts ts m.1.4 (λ o h. h))))

pub while_ends : (fs : List Frame) (whose : code_owner.Owner) (test : code.Kept code_expr.Expr) (at : Span) (stmts : code.Kept (List code_stmt.Stmt)) (last x : Span) (stmt : code.Kept code_stmt.Stmt) (ts : List Token)
    → whose ≡ w.While test at → x ≡ spanning at last → stmt_of stmt ≡ node_of x.start (both (λ e ss. while_ e ss x) (expr_of test) (stmts_of stmts))
    → IsStep fs (v.Closed whose stmts last) ts (Ok (Goes (v.Ended stmt last))) fs ts
while_ends fs whose test at stmts last x stmt ts same q d = subst (λ z. IsStep fs (v.Closed z stmts last) ts (Ok (Goes (v.Ended stmt last))) fs ts) (sym same) (body_ends fs (w.While test at) stmts last last stmt ts ts (λ m.
    (while_ m.1.0 m.2 (spanning at last), built_while _ _ _ m.1.0 m.2 (spanning at last) x q d m.1.1 m.3, λ f. by_owner m.0 (while_body m.1.0 at) f m.2 last _ ts ts m.1.2 (λ o h. h))))

pub for_ends : (fs : List Frame) (whose : code_owner.Owner) (head : code.Kept code_head.ForHead) (at : Span) (stmts : code.Kept (List code_stmt.Stmt)) (last x : Span) (stmt : code.Kept code_stmt.Stmt) (ts : List Token)
    → whose ≡ w.For head at → x ≡ spanning at last → stmt_of stmt ≡ node_of x.start (both (λ e ss. for_ e ss x) (head_of head) (stmts_of stmts))
    → IsStep fs (v.Closed whose stmts last) ts (Ok (Goes (v.Ended stmt last))) fs ts
for_ends fs whose head at stmts last x stmt ts same q d = subst (λ z. IsStep fs (v.Closed z stmts last) ts (Ok (Goes (v.Ended stmt last))) fs ts) (sym same) (body_ends fs (w.For head at) stmts last last stmt ts ts (λ m.
    (for_ m.1.0 m.2 (spanning at last), built_for _ _ _ m.1.0 m.2 (spanning at last) x q d m.1.1 m.3, λ f. by_owner m.0 (for_body m.1.0 at) f m.2 last _ ts ts m.1.2 (λ o h. h))))

pub omp_ends : (fs : List Frame) (whose : code_owner.Owner) (line : code.Kept code_directive.Directive) (at : Span) (stmts : code.Kept (List code_stmt.Stmt)) (last x : Span) (stmt : code.Kept code_stmt.Stmt) (ts : List Token)
    → whose ≡ w.Omp line at → x ≡ spanning at last → stmt_of stmt ≡ node_of x.start (both (λ e ss. omp e ss x) (directive_of line) (stmts_of stmts))
    → IsStep fs (v.Closed whose stmts last) ts (Ok (Goes (v.Ended stmt last))) fs ts
omp_ends fs whose line at stmts last x stmt ts same q d = subst (λ z. IsStep fs (v.Closed z stmts last) ts (Ok (Goes (v.Ended stmt last))) fs ts) (sym same) (body_ends fs (w.Omp line at) stmts last last stmt ts ts (λ m.
    (omp m.1.0 m.2 (spanning at last), built_omp _ _ _ m.1.0 m.2 (spanning at last) x q d m.1.1 m.3, λ f. by_owner m.0 (omp_body m.1.0 at) f m.2 last _ ts ts m.1.2 (λ o h. h))))

-- `while ( expr ) ;`
abbrev pub do_rest : Span → Stmts → (Stmt → Span → Goal) → Expr → Goal
do_rest at ss f e = takes semicolon (λ z. f (do_ ss e (spanning at z)) z)

abbrev pub do_test : Span → Stmts → (Stmt → Span → Goal) → Goal
do_test at ss f = takes round_open (λ c. expr (λ e w. takes round_close (λ d. do_rest at ss f e)))

pub do_ends : (fs : List Frame) (at : Span) (stmts : code.Kept (List code_stmt.Stmt)) (last y z x : Span) (test : code.Kept code_expr.Expr) (stmt : code.Kept code_stmt.Stmt) (ts us vs ws : List Token)
    → IsTaken while_word ts (Ok y) us → IsConditionTaken us (Ok test) vs → IsTaken semicolon vs (Ok z) ws
    → x ≡ spanning at z → stmt_of stmt ≡ node_of x.start (both (λ ss e. do_ ss e x) (stmts_of stmts) (expr_of test))
    → IsStep fs (v.Closed (w.Do at) stmts last) ts (Ok (Goes (v.Ended stmt z))) fs ws
do_ends fs at stmts last y z x test stmt ts us vs ws t e i q d = body_ends fs (w.Do at) stmts last z stmt ts ws (λ m. (
  do_ m.2 e.0 (spanning at z),
  built_do _ _ _ m.2 e.0 (spanning at z) x q d m.3 e.1,
  λ f. by_owner m.0 (do_body at) f m.2 last _ ts ws m.1
      (λ o h. t (λ b. do_test at m.2 f) o (e.2 (do_rest at m.2 f) o (i (λ z. f (do_ m.2 e.0 (spanning at z)) z) o h))),
))

pub do_wordless : (fs gs : List Frame) (at : Span) (stmts : code.Kept (List code_stmt.Stmt)) (last : Span) (ts us vs : List Token) (fault : ParseFault)
    → IsTaken while_word ts (Err fault) us → IsStep fs (v.Closed (w.Do at) stmts last) ts (Err fault) gs vs
do_wordless fs gs at stmts last ts us vs fault t = λ k m s f. by_owner_fails m.0 (do_body at) (after f k).stmt m.2 last ts fault m.1 (t (λ b. do_test at m.2 (after f k).stmt))

pub do_testless : (fs gs : List Frame) (at : Span) (stmts : code.Kept (List code_stmt.Stmt)) (last y : Span) (ts us vs ws : List Token) (fault : ParseFault)
    → IsTaken while_word ts (Ok y) us → IsConditionTaken us (Err fault) vs → IsStep fs (v.Closed (w.Do at) stmts last) ts (Err fault) gs ws
do_testless fs gs at stmts last y ts us vs ws fault t e = λ k m s f. by_owner_fails m.0 (do_body at) (after f k).stmt m.2 last ts fault m.1
    (fails_by _ _ ts us fault (t (λ b. do_test at m.2 (after f k).stmt)) (e (do_rest at m.2 (after f k).stmt)))

pub do_open : (fs gs : List Frame) (at : Span) (stmts : code.Kept (List code_stmt.Stmt)) (last y : Span) (test : code.Kept code_expr.Expr) (ts us vs ws xs : List Token) (fault : ParseFault)
    → IsTaken while_word ts (Ok y) us → IsConditionTaken us (Ok test) vs → IsTaken semicolon vs (Err fault) ws → IsStep fs (v.Closed (w.Do at) stmts last) ts (Err fault) gs xs
do_open fs gs at stmts last y test ts us vs ws xs fault t e i = λ k m s f. by_owner_fails m.0 (do_body at) (after f k).stmt m.2 last ts fault m.1
    (fails_by _ _ ts vs fault (λ o h. t (λ b. do_test at m.2 (after f k).stmt) o (e.2 (do_rest at m.2 (after f k).stmt) o h)) (i _))

-- ---- a body

embodies_other : (f : Stmts → Span → Goal) (s : Symbol) (x : Beginning) → (x ≡ b.CurlyOpen → ⊥) → embodies f x s ≡ begin (λ s z. f (more_stmts s no_stmts) z) s
embodies_other f s b.CurlyOpen n = absurd (n refl)
embodies_other f s x n = refl

-- what the first token is to a body
pub record First (t : Token) (ts : List Token) (k : Terminal) (x : Beginning) : Type 0 where
  pub first : ts ≡ t ∷ drop 1 ts
  pub terminal : k ≡ terminal_of (symbol t)
  pub beginning : x ≡ beginning_of k

does : (f : Stmts → Span → Goal) (t : Token) (ts : List Token) (k : Terminal) (x : Beginning) → First t ts k x → step (body f) (symbol t) ≡ embodies f x (symbol t)
does f t ts k x i = embodies_as f (symbol t) ∙ ap (λ z. embodies f z (symbol t)) (ap beginning_of (sym i.terminal) ∙ sym i.beginning)

pub begins_body : (t : Token) (ts : List Token) (k : Terminal) (x : Beginning) → First t ts k x → (x ≡ b.CurlyOpen → ⊥) → BeginsBody ts
begins_body t ts k x i n = λ f t' rest r.
    let q : t ∷ drop 1 ts ≡ t' ∷ rest = sym i.first ∙ r in
    let same : t ≡ t' = cc in
    subst (λ z. step (body f) (symbol z) ≡ begin (λ s z. f (more_stmts s no_stmts) z) (symbol z)) same (does f t ts k x i ∙ embodies_other f (symbol t) x n)

pub body_opens : (fs gs : List Frame) (holder : code_owner.Owner) (none : code.Kept (List code_stmt.Stmt)) (a : Span) (t : Token) (ts us : List Token) (k : Terminal) (x : Beginning)
    → First t ts k x → x ≡ b.CurlyOpen → us ≡ drop 1 ts → gs ≡ fs ++ fr.Owner holder ∷ [] → stmts_of none ≡ kept 0 no_stmts
    → IsStep fs (v.Body holder) ts (Ok (Goes (v.Units (record { ends_main = false; stmts = none; at = a })))) gs us
body_opens fs gs holder none a t ts us e x i c r p n = λ k m s. (
  owner m.0 ∷ k,
  ((λ rs. rs), no_stmts_grown none n),
  (fs, fr.Owner holder, p, m.1, s),
  λ f. first_goes _ _ t ts us i.first r
      (does (after_body m.0 (after f k).stmt) t ts e x i ∙ ap (λ z. embodies (after_body m.0 (after f k).stmt) z (symbol t)) c),
)

pub body_whole : (fs gs : List Frame) (holder : code_owner.Owner) (stmt : code.Kept code_stmt.Stmt) (last : Span) (ts us : List Token)
    → BeginsBody ts → IsBegun ts (Ok (begun.Whole stmt last)) us → gs ≡ fs ++ fr.Owner holder ∷ []
    → IsStep fs (v.Body holder) ts (Ok (Goes (v.Ended stmt last))) gs us
body_whole fs gs holder stmt last ts us b h p = λ k m s.
    (owner m.0 ∷ k, (h.0, h.1), (fs, fr.Owner holder, p, m.1, s), λ f. h.2 (body (after_body m.0 (after f k).stmt)) (λ s z. after_body m.0 (after f k).stmt (more_stmts s no_stmts) z) (b (after_body m.0 (after f k).stmt)))

pub body_in_body : (fs gs : List Frame) (holder inside : code_owner.Owner) (ts us : List Token)
    → BeginsBody ts → IsBegun ts (Ok (begun.Opens inside)) us → gs ≡ fs ++ fr.Owner holder ∷ []
    → IsStep fs (v.Body holder) ts (Ok (Goes (v.Body inside))) gs us
body_in_body fs gs holder inside ts us b h p = λ k m s.
    (owner m.0 ∷ k, (h.0, h.1), (fs, fr.Owner holder, p, m.1, s), λ f. h.2 (body (after_body m.0 (after f k).stmt)) (λ s z. after_body m.0 (after f k).stmt (more_stmts s no_stmts) z) (b (after_body m.0 (after f k).stmt)))

pub no_body : (fs gs : List Frame) (holder : code_owner.Owner) (fault : ParseFault) (ts us vs : List Token)
    → BeginsBody ts → IsBegun ts (Err fault) us → IsStep fs (v.Body holder) ts (Err fault) gs vs
no_body fs gs holder fault ts us vs b h = λ k m s f. h (body (after_body m.0 (after f k).stmt)) (λ s z. after_body m.0 (after f k).stmt (more_stmts s no_stmts) z) (b (after_body m.0 (after f k).stmt))

-- ---- a unit

abbrev pub HasUnit : OpenList → List Token → Result UnitRead ParseFault → List Token → Type 0
HasUnit l ts r us = (before : Stmts → Stmts) → Grown l.stmts before → IsUnitTaken l.ends_main before ts r us

pub unit_more : (fs : List Frame) (l : OpenList) (stmts : code.Kept (List code_stmt.Stmt)) (ts us : List Token) → HasUnit l ts (Ok (u.More stmts)) us
    → IsStep fs (v.Units l) ts (Ok (Goes (v.Units (record { ends_main = l.ends_main; stmts = stmts; at = l.at })))) fs us
unit_more fs l stmts ts us h = λ k m s. let i = h m.0 m.1 in (k, (i.0, i.1), s, λ f. i.2 ((after f k).list l.at))

pub unit_opens : (fs gs : List Frame) (l : OpenList) (stmts none : code.Kept (List code_stmt.Stmt)) (a : Span) (ts us : List Token) → HasUnit l ts (Ok (u.Opens stmts a)) us
    → gs ≡ fs ++ fr.List (record { ends_main = l.ends_main; stmts = stmts; at = l.at }) ∷ [] → stmts_of none ≡ kept 0 no_stmts
    → IsStep fs (v.Units l) ts (Ok (Goes (v.Units (record { ends_main = false; stmts = none; at = a })))) gs us
unit_opens fs gs l stmts none a ts us h p n = λ k m s. let i = h m.0 m.1 in
    (list l.ends_main m.0 l.at ∷ k, ((λ rs. rs), no_stmts_grown none n), (fs, fr.List (record { ends_main = l.ends_main; stmts = stmts; at = l.at }), p, (refl, refl, i.0), s), λ f. i.1 ((after f k).list l.at))

pub unit_owns : (fs gs : List Frame) (l : OpenList) (stmts : code.Kept (List code_stmt.Stmt)) (holder : code_owner.Owner) (ts us : List Token) → HasUnit l ts (Ok (u.Owns stmts holder)) us
    → gs ≡ fs ++ fr.List (record { ends_main = l.ends_main; stmts = stmts; at = l.at }) ∷ [] → IsStep fs (v.Units l) ts (Ok (Goes (v.Body holder))) gs us
unit_owns fs gs l stmts holder ts us h p = λ k m s. let i = h m.0 m.1 in
    (list l.ends_main m.0 l.at ∷ k, (i.1, i.2), (fs, fr.List (record { ends_main = l.ends_main; stmts = stmts; at = l.at }), p, (refl, refl, i.0), s), λ f. i.3 ((after f k).list l.at))

pub unit_closes : (fs : List Frame) (l : OpenList) (stmts : code.Kept (List code_stmt.Stmt)) (last : Span) (ts us : List Token) → HasUnit l ts (Ok (u.Closes stmts last)) us
    → IsStep fs (v.Units l) ts (Ok (Goes (v.Listed stmts l.at last))) fs us
unit_closes fs l stmts last ts us h = λ k m s. let i = h m.0 m.1 in
    (k, (m.0 no_stmts, i.0.keeps ∙ ap keep_stmts (sym (i.0.joins no_stmts ∙ join_none i.0.stmts))), s, λ f. i.1 ((after f k).list l.at))

pub no_unit : (fs gs : List Frame) (l : OpenList) (fault : ParseFault) (ts us vs : List Token) → HasUnit l ts (Err fault) us → IsStep fs (v.Units l) ts (Err fault) gs vs
no_unit fs gs l fault ts us vs h = λ k m s f. h m.0 m.1 ((after f k).list l.at)

-- ---- all steps

pub record Reading (b : Bool) (ts : List Token) (frames : List Frame) (state : State) (us : List Token) : Type 0 where
  pub opened : List Open
  pub means : Means state
  pub stands : Stands frames opened
  pub comes : (f : Stmts → Span → Goal) → Leads (units b f) ts (goal state means (after f opened)) us

pub reading_starts : (b : Bool) (ts : List Token) (frames : List Frame) (none : code.Kept (List code_stmt.Stmt)) (a : Span) → frames ≡ [] → stmts_of none ≡ kept 0 no_stmts
    → Reading b ts frames (v.Units (record { ends_main = b; stmts = none; at = a })) ts
reading_starts b ts frames none a q n = record { opened = []; means = ((λ rs. rs), no_stmts_grown none n); stands = q; comes = λ f o h. h }

pub reading_goes : (b : Bool) (ts us vs : List Token) (fs gs : List Frame) (state next : State) → Reading b ts fs state us → IsStep fs state us (Ok (Goes next)) gs vs → Reading b ts gs next vs
reading_goes b ts us vs fs gs state next r i = let n = i r.opened r.means r.stands in record { opened = n.0; means = n.1; stands = n.2; comes = λ f o h. r.comes f o (n.3 f o h) }

pub reading_ends : (b : Bool) (ts us vs : List Token) (fs gs : List Frame) (state : State) (stmts : code.Kept (List code_stmt.Stmt)) (last : Span) → Reading b ts fs state us → IsStep fs state us (Ok (Done stmts last)) gs vs → IsListTaken b ts (Ok (stmts, last)) vs
reading_ends b ts us vs fs gs state stmts last r i = let n = i r.opened r.means r.stands in (n.0, n.1, λ f o h. r.comes f o (n.2 f o h))

pub reading_fails : (b : Bool) (ts us vs ws : List Token) (fs gs : List Frame) (state : State) (fault : ParseFault) → Reading b ts fs state us → IsStep fs state us (Err fault) gs vs → IsListTaken b ts (Err fault) ws
reading_fails b ts us vs ws fs gs state fault r i = λ f. fails_by _ _ ts us fault (r.comes f) (i r.opened r.means r.stands f)

-- ---- how far a step comes

pub lessens_popped : (fs : List Frame) (x : Frame) (n a b : ℕ) → a < b + 2 → 4 * n + (2 * length fs + a) < 4 * n + (2 * length (fs ++ x ∷ []) + b)
lessens_popped fs x n a b l = rw (length-append fs (x ∷ [])) (omega arith)

pub lessens_pushed : (fs gs : List Frame) (x : Frame) (n m : ℕ) → gs ≡ fs ++ x ∷ [] → n < m → 4 * n + (2 * length gs + 0) < 4 * m + (2 * length fs + 0)
lessens_pushed fs gs x n m q l = let p : length gs ≡ length fs + 1 = ap length q ∙ length-append fs (x ∷ []) in omega arith

pub lessens_ended : (fs gs : List Frame) (x : Frame) (n m : ℕ) → gs ≡ fs ++ x ∷ [] → n < m → 4 * n + (2 * length gs + 1) < 4 * m + (2 * length fs + 0)
lessens_ended fs gs x n m q l = let p : length gs ≡ length fs + 1 = ap length q ∙ length-append fs (x ∷ []) in omega arith

pub lessens_kept : (fs : List Frame) (n m a b : ℕ) → n ≤ m → a < b → 4 * n + (2 * length fs + a) < 4 * m + (2 * length fs + b)
lessens_kept fs n m a b l k = omega arith

pub lessens_taken : (fs : List Frame) (n m a b : ℕ) → n < m → a < b + 4 → 4 * n + (2 * length fs + a) < 4 * m + (2 * length fs + b)
lessens_taken fs n m a b l k = omega arith

pub do_shrinks : (ts us vs ws : List Token) (y z : Span) (test : code.Kept code_expr.Expr) → IsTaken while_word ts (Ok y) us → IsConditionTaken us (Ok test) vs → IsTaken semicolon vs (Ok z) ws → length ws ≤ length ts
do_shrinks ts us vs ws y z test t e i =
    let l = leads_shrinks _ _ ts us (t (λ z. any_expr)) in
    let m = leads_shrinks _ _ us vs (e.2 (λ e. any_expr)) in
    let n = leads_shrinks _ _ vs ws (i (λ z. any_expr)) in
    omega arith

pub no_frames : (fs : List Frame) → length fs ≡ 0 → fs ≡ []
no_frames [] q = refl
no_frames (x ∷ fs) q = absurd (omega arith)
