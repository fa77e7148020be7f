-- The list below the innermost loop: the variables that aren't hidden, and the body as a block.
use Rattle.std.proofs.Common.{◌≡◌, refl, sym, ap, ◌∙◌, ℕ, ◌+◌, ◌≤◌, List, [], ◌∷◌, length, Some, None, Bool, true, false, ℤ, slice_get, arith, length-append}
use Rattle.std.specs.Prelude.{if◌then◌else◌}
use Rattle.c_tree.specs.Bare.{Name, block, Stmts, no_stmts, more_stmts}
use Rattle.c_semantics.specs.Meaning.State.{scalar, Var, State, find, push}
use Rattle.c_semantics.specs.Meaning.Runs.{Run, Next, ends, with_value, leave, then_do, with_end, turn_end}
use Rattle.c_semantics.specs.Meaning.SimpleStatements.{Env, function_named}
use Rattle.c_semantics.specs.Meaning.Statements.{exec_all}
use Rattle.c_semantics.specs.Loops.IterationTrees.{body}
use Rattle.c_semantics.specs.Loops.Execution.{Body, push_copies, run_body}
use Rattle.c_semantics.proofs.FrameNames.{names, SameNames, names_kept, function_names, length-names}
use Rattle.c_semantics.proofs.Grows.{LongerFrame, frames_grow}
use Rattle.c_semantics.proofs.Invariant.{copies_keep, list_keeps}
use Rattle.loop_normal.specs.Frames.{above, run_above}
use Rattle.loop_normal.specs.Denotes.{GrowsFrame, Turns}
use Rattle.loop_normal.specs.FreshNames.{Source, NamesNone}
use Rattle.loop_normal.proofs.FreshFrames.{differ_sym}
use Rattle.loop_normal.proofs.Bodies.{body_below, leave_leave}
use Rattle.loop_normal.proofs.Blocks.{then_done}
use Rattle.nest_normal.specs.NestTexts.{declares}
use Rattle.nest_normal.specs.OuterVariables.{Outer, declaration_of, typed, AgreesOn, Given}
use Rattle.nest_normal.proofs.HiddenCopies.{hidden_gone}
use Rattle.nest_normal.proofs.OuterLists.{visible, declares_some}

-- a list of statements takes no variable away
list_grows : (n : ℕ) (env : Env) (as' : Stmts) → GrowsFrame (exec_all n env as')
list_grows n env as' s =
    let r = (exec_all n env as' s).state in
    let h = list_keeps SameNames names_kept n env (λ x. function_names (function_named x env.functions)) as' s in
    let e : length r.frame ≡ length h.0 + length s.frame =
    sym (length-names r.frame) ∙ ap length h.1 ∙ length-append h.0 (names s.frame) ∙ ap (λ k. length h.0 + k) (length-names s.frame) in
    omega (arith, e)

-- a variable that isn't fresh hides nothing that is
agrees_source : (Out : Name → Type 0) (v : Var) (p f : List Var) → Source Out v.name → AgreesOn Out p f → AgreesOn Out p (v ∷ f)
agrees_source Out v p f h a x c o e = ap (λ t. if t then Some v.cell else find x f) (differ_sym v.name x (h x o)) ∙ a x c o e

pub given_in : (Out : Name → Type 0) (n : ℕ) (env : Env) (p q : List Var) (ds : List Outer) (zs : List ℤ) → AgreesOn Out p q → Given Out env.defines p ds zs → Given Out env.defines q ds zs
given_in Out n env p q [] [] a h = tt
given_in Out n env p q [] (z ∷ zs) a h = h
given_in Out n env p q (d ∷ ds) [] a h = h
given_in Out n env p q (d ∷ ds) (z ∷ zs) a h = (h.0, λ f s b. h.1 f s (λ x c o e. b x c o (a x c o e)), given_in Out n env p q ds zs a h.2)

module _ (n : ℕ) (env : Env) (Out : Name → Type 0) (as' : Stmts) (apart : NamesNone Out as') (o : Name) (out : Out o) where
  abbrev run : State → Run
  run = exec_all n env as'

  abbrev in_block : Stmts
  in_block = more_stmts (block as') no_stmts

  -- one variable more, in a list and in the private copies
  module _ (p : List Var) (d : Outer) (z : ℤ) (ds : List Outer) (zs : List ℤ) (h : Given Out env.defines p (d ∷ ds) (z ∷ zs)) (f : List Var) (s : State) (a : AgreesOn Out p f) where
    abbrev rest : Stmts
    rest = visible ds in_block

    abbrev unset : Var
    unset = record { name = d.name; cell = scalar d.ty None }

    abbrev valued : Var
    valued = record { name = d.name; cell = scalar d.ty (Some z) }

    abbrev u : State
    u = above f s

    abbrev w : State
    w = above (valued ∷ f) s

    abbrev copies : State → State
    copies t = push_copies (typed ds) zs t

    -- what is dropped in two steps
    dropped : (r : Run) → length w.frame ≤ length r.state.frame → leave u (leave w r) ≡ leave u r
    dropped r l = let one : length u.frame ≤ length w.frame = omega arith in leave_leave u w r one l

    longer : length w.frame ≤ length (run (copies w)).state.frame
    longer = frames_grow.then_ w (copies w) (run (copies w)).state (copies_keep LongerFrame frames_grow (typed ds) zs w) (list_grows n env as' (copies w))

    fits_above : AgreesOn Out p (valued ∷ f)
    fits_above = agrees_source Out valued p f h.0 a

    one_outer : leave u (exec_all n env rest u) ≡ leave u (run (copies u)) → leave w (exec_all n env rest w) ≡ leave w (run (copies w)) → (t : Bool) → declares d.name rest ≡ t →
        leave u (exec_all n env (if t then rest else more_stmts (declaration_of d) rest) u) ≡ leave u (run (copies w))
    one_outer here below true e = here ∙ sym (hidden_gone n env as' o (apart o out) valued (typed ds) zs u (declares_some d.name ds as' e))
    one_outer here below false e =
        ap (λ r. leave u (then_do (with_value r (above (unset ∷ f) s) (λ y. ends Next (push d.name (scalar d.ty (Some y)) u))) (exec_all n env rest))) (h.1 (unset ∷ f) s (agrees_source Out unset p f h.0 a))
        ∙ sym (dropped (exec_all n env rest w) (list_grows n env rest w))
        ∙ ap (leave u) below
        ∙ dropped (run (copies w)) longer

  -- the declared variables and the block do what the body does after private copies of all variables
  outer_runs : (p : List Var) (ds : List Outer) (zs : List ℤ) → Given Out env.defines p ds zs → (f : List Var) (s : State) → AgreesOn Out p f →
      leave (above f s) (exec_all n env (visible ds in_block) (above f s)) ≡ leave (above f s) (run (push_copies (typed ds) zs (above f s)))
  outer_runs p [] [] h f s a =
      let u = above f s in
      let same : length u.frame ≤ length u.frame = omega arith in
      ap (leave u) (then_done (leave u (run u))) ∙ leave_leave u u (run u) same (list_grows n env as' u)
  outer_runs p [] (z ∷ zs) h f s a = absurd h
  outer_runs p (d ∷ ds) [] h f s a = absurd h
  outer_runs p (d ∷ ds) (z ∷ zs) h f s a =
      one_outer p d z ds zs h f s a (outer_runs p ds zs h.2 f s a)
      (outer_runs p ds zs h.2 (record { name = d.name; cell = scalar d.ty (Some z) } ∷ f) s (fits_above p d z ds zs h f s a))
      (declares d.name (visible ds in_block)) refl

  -- so it denotes the body with their values
  pub body_turns : (bs : List Body) (p : List Var) (b : ℕ) (ds : List Outer) (zs : List ℤ) → slice_get bs b ≡ Some (record { vars = typed ds; run = run }) → Given Out env.defines p ds zs →
      Turns n env bs Out p (visible ds in_block) (body b zs)
  body_turns bs p b ds zs at h f s a free =
      ap (with_end turn_end) (outer_runs p ds zs h f s (λ x c o e. a x c e) ∙ body_below n env Out as' apart (list_grows n env as') (typed ds) zs f s free)
      ∙ ap (λ y. run_above f (run_body y zs s)) (sym at)
