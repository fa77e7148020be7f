-- A list without a `break` of its own never ends Break.
use Rattle.std.proofs.Common.{◌≡◌, refl, ℕ, List, [], Option, Some, None, Result, Ok, Err, Bool, true, false, ℤ}
use Rattle.std.specs.Prelude.{if◌then◌else◌}
use Rattle.c_tree.specs.Bare.{Name, Expr, num, Exprs, Target, target, Stmt, decl, set, step, print, input, if_, if_else, while_, do_, for_, block, break_, continue_, empty, omp, call, Stmts, no_stmts, more_stmts, head, MaybeStmt, no_stmt, a_stmt}
use Rattle.c_tree.specs.declared.tree.Ty.{Ty}
use Rattle.c_tree.specs.declared.tree.Ty.TheVariants.{Int, Long}
use Rattle.c_tree.specs.declared.tree.SetOp.TheVariants.{Add, Sub}
use Rattle.c_tree.specs.declared.tree.SetOp.{SetOp}
use Rattle.c_semantics.specs.Meaning.State.{scalar, State, look, store, push}
use Rattle.apply_rewrite.specs.NoBreaks.{NoBreak, NoBreakIf, NoBreaks}
use Rattle.c_tree.specs.declared.arithmetic.Trap.{Trap}
use Rattle.c_semantics.specs.Meaning.Expressions.{Define, eval, type_of}
use Rattle.c_tree.specs.Arithmetic.{and_then, convert}
use Rattle.c_semantics.specs.Meaning.Runs.{End, Next, Break, Continue, Trapped, Cut, Run, Meaning, ends, on_next, with_value, ask, loop_end, turn_end, in_block}
use Rattle.c_semantics.specs.Meaning.SimpleStatements.{Env, Function, take_input, set_to, declared, call_of, call_end, function_named, target_place, next_input, type_in, arguments, new_value, changed}
use Rattle.c_semantics.specs.Loops.Execution.{push_copies, run_body}
use Rattle.c_semantics.specs.Meaning.Statements.{exec, exec_all, exec_maybe}

-- an end that no loop takes
pub record NotBreak (e : End) : Type 0 where
  pub is : loop_end e ≡ e

next_not : (e : End) (u : State) (f : Meaning) → NotBreak e → ((s : State) → NotBreak (f s).end) → NotBreak (on_next e u f).end
next_not Next u f h k = k u
next_not Break u f h k = h
next_not Continue u f h k = h
next_not (Trapped x) u f h k = h
next_not Cut u f h k = h

value_not : {A : Type 0} (o : Result A Trap) (s : State) (f : A → Run) → ((a : A) → NotBreak (f a).end) → NotBreak (with_value o s f).end
value_not (Err x) s f h = record { is = refl }
value_not (Ok a) s f h = h a

ask_not : (o : Result Bool Trap) (f g : Meaning) (s : State) → NotBreak (f s).end → NotBreak (g s).end → NotBreak (ask o f g s).end
ask_not (Err x) f g s h k = record { is = refl }
ask_not (Ok true) f g s h k = h
ask_not (Ok false) f g s h k = k

loop_not : (e : End) → NotBreak (loop_end e)
loop_not Next = record { is = refl }
loop_not Break = record { is = refl }
loop_not Continue = record { is = refl }
loop_not (Trapped x) = record { is = refl }
loop_not Cut = record { is = refl }

call_not : (e : End) → NotBreak (call_end e)
call_not Next = record { is = refl }
call_not Break = record { is = refl }
call_not Continue = record { is = refl }
call_not (Trapped x) = record { is = refl }
call_not Cut = record { is = refl }

set_not : (ds : List Define) (t : Target) (op : SetOp) (e : Expr) (s : State) → NotBreak (set_to ds t op e s).end
set_not ds (target x es) op e s = value_not (target_place ds s (look s x) es) s _ (λ k. value_not (and_then (new_value op (look s x) k (type_of ds s e) (eval ds s e)) (convert (type_in (look s x)))) s (λ z. ends Next (store x (changed (look s x) k z) s)) (λ z. record { is = refl }))

input_not : (ds : List Define) (t : Target) (s : State) → NotBreak (take_input ds t s).end
input_not ds (target x es) s = value_not (target_place ds s (look s x) es) s _ (λ k. value_not (next_input s.input) s _ (λ z. value_not (convert (type_in (look s x)) z) _ _ (λ y. record { is = refl })))

declared_not : (ds : List Define) (t : Ty) (x : Name) (e : Option Expr) (s : State) → NotBreak (declared ds t x e s).end
declared_not ds t x None s = record { is = refl }
declared_not ds t x (Some e) s = value_not (and_then (eval ds (push x (scalar t None) s) e) (convert t)) (push x (scalar t None) s) _ (λ z. record { is = refl })

called_not : (f : Option Function) (ds : List Define) (es : Exprs) (s : State) → NotBreak (call_of f ds es s).end
called_not None ds es s = record { is = refl }
called_not (Some f) ds es s = value_not (arguments ds s f.params es []) s _ (λ vs. call_not _)

module _ (n : ℕ) (env : Env) where
  mutual
    pub never : (a : Stmt) → NoBreak a → (s : State) → NotBreak (exec n env a s).end
    never (decl t x e) h s = declared_not env.defines t x e s
    never (set t op e) h s = set_not env.defines t op e s
    never (step t up) h s = set_not env.defines t (if up then Add else Sub) (num 1 Int) s
    never (print e) h s = value_not (and_then (eval env.defines s e) (convert Long)) s _ (λ z. record { is = refl })
    never (input t) h s = input_not env.defines t s
    never (if_ e a) h s = ask_not _ (in_block (exec_all n env a)) (ends Next) s (nevers a h s) (record { is = refl })
    never (if_else e a b) h s = ask_not _ (in_block (exec_all n env a)) (in_block (exec_all n env b)) s (nevers a h.0 s) (nevers b h.1 s)
    never (while_ e a) h s = loop_not _
    never (do_ a e) h s = loop_not _
    never (for_ (head i e next) a) h s = next_not (exec_maybe n env i s).end (exec_maybe n env i s).state _ (never_if i h s) (λ u. loop_not _)
    never (block a) h s = nevers a h s
    never break_ h s = absurd h
    never continue_ h s = record { is = refl }
    never empty h s = record { is = refl }
    never (omp d a) h s = absurd h
    never (call x es) h s = called_not (function_named x env.functions) env.defines es s

    never_if : (a : MaybeStmt) → NoBreakIf a → (s : State) → NotBreak (exec_maybe n env a s).end
    never_if no_stmt h s = record { is = refl }
    never_if (a_stmt a) h s = never a h s

    pub nevers : (as' : Stmts) → NoBreaks as' → (s : State) → NotBreak (exec_all n env as' s).end
    nevers no_stmts h s = record { is = refl }
    nevers (more_stmts a as') h s = next_not (exec n env a s).end (exec n env a s).state (exec_all n env as') (never a h.0 s) (nevers as' h.1)

  turn_not : (e : End) → NotBreak e → NotBreak (turn_end e)
  turn_not Next h = record { is = refl }
  turn_not Break h = h
  turn_not Continue h = record { is = refl }
  turn_not (Trapped x) h = record { is = refl }
  turn_not Cut h = record { is = refl }

  -- as a construct's body
  pub body_never : (xs : List (Name × Ty)) (as' : Stmts) → NoBreaks as' → (zs : List ℤ) (s : State) → NotBreak (run_body (Some (record { vars = xs; run = exec_all n env as' })) zs s).end
  body_never xs as' h zs s = turn_not (exec_all n env as' (push_copies xs zs s)).end (nevers as' h (push_copies xs zs s))
