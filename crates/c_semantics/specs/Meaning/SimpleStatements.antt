-- Statements without parts of their own: declarations (C11 6.7, 6.7.9), assignments and steps (6.5.16, 6.5.3.1), input
-- and print, and calls of functions (6.5.2.2, 6.9.1).
use Rattle.std.specs.Prelude.{ℕ, List, [], ◌∷◌, Option, Some, None, Result, Ok, Err, Bool, true, false, not, ℤ, bytes_eq, slice_get, if◌then◌else◌}
use Rattle.std.specs.Prelude as std
use Rattle.c_tree.specs.Bare.{Name, Expr, num, Exprs, no_exprs, more_exprs, Target, target, Param}
use Rattle.c_tree.specs.declared.tree.Ty.{Ty}
use Rattle.c_tree.specs.declared.tree.Ty.TheVariants.{Int, Long}
use Rattle.c_tree.specs.declared.tree.SetOp.{SetOp}
use Rattle.c_tree.specs.declared.tree.SetOp.TheVariants.{Plain, Add, Sub, Mul, Div, Rem}
use Rattle.c_tree.specs.declared.tree.BinOp.TheVariants as op
use Rattle.c_semantics.specs.Meaning.State.{Cell, scalar, array, Var, State, look, store, push, print_line, with_frame}
use Rattle.c_tree.specs.declared.arithmetic.Trap.{Trap}
use Rattle.c_tree.specs.declared.arithmetic.Trap.TheVariants.{Unset, InputEnd}
use Rattle.c_tree.specs.Arithmetic.{and_then, common, convert, apply_bin, is_zero}
use Rattle.c_semantics.specs.Meaning.Expressions.{Define, cell_type, type_of, eval, place, dims_of, or_unset}
use Rattle.c_semantics.specs.Meaning.Runs.{End, Next, Break, Continue, Trapped, Meaning, ends, with_value}

-- ---- tests

-- a test holds where its value isn't 0
abbrev pub holds_in : List Define → Expr → State → Result Bool Trap
holds_in ds e s = and_then (eval ds s e) (λ z. Ok (not (is_zero z)))

-- a missing one holds
abbrev pub head_test : List Define → Option Expr → State → Result Bool Trap
head_test ds None s = Ok true
head_test ds (Some e) s = holds_in ds e s

-- ---- declarations

-- a new variable, without a value; it is seen in its own initial value, which it then holds
abbrev pub declared : List Define → Ty → Name → Option Expr → Meaning
declared ds t x None s = ends Next (push x (scalar t None) s)
declared ds t x (Some e) s =
    with_value (and_then (eval ds (push x (scalar t None) s) e) (convert t)) (push x (scalar t None) s) (λ z.
    ends Next (push x (scalar t (Some z)) s))

-- ---- assignments

-- a cell with one number changed: a scalar's, or the k-th element
abbrev pub changed : Option Cell → ℕ → ℤ → Cell
changed (Some (array t dims es)) k z = array t dims (std.set es k z)
changed (Some (scalar t v)) k z = scalar t (Some z)
changed None k z = scalar Long (Some z)

abbrev pub type_in : Option Cell → Ty
type_in (Some c) = cell_type c
type_in None = Long

-- the value that `op=` reads
abbrev pub old_value : Option Cell → ℕ → Result ℤ Trap
old_value (Some (array t dims es)) k = or_unset (slice_get es k)
old_value (Some (scalar t v)) k = or_unset v
old_value None k = Err Unset

-- `x op= e` reads x, then evaluates e, then applies the operator in the common type
abbrev pub new_value : SetOp → Option Cell → ℕ → Ty → Result ℤ Trap → Result ℤ Trap
new_value Plain c k t r = r
new_value Add c k t r = and_then (old_value c k) (λ x. and_then r (λ y. apply_bin op.Add (common (type_in c) t) x y))
new_value Sub c k t r = and_then (old_value c k) (λ x. and_then r (λ y. apply_bin op.Sub (common (type_in c) t) x y))
new_value Mul c k t r = and_then (old_value c k) (λ x. and_then r (λ y. apply_bin op.Mul (common (type_in c) t) x y))
new_value Div c k t r = and_then (old_value c k) (λ x. and_then r (λ y. apply_bin op.Div (common (type_in c) t) x y))
new_value Rem c k t r = and_then (old_value c k) (λ x. and_then r (λ y. apply_bin op.Rem (common (type_in c) t) x y))

-- the place that a target's subscripts, which are evaluated once, give
abbrev pub target_place : List Define → State → Option Cell → Exprs → Result ℕ Trap
target_place ds s c es = place ds s (dims_of c) 0 es

-- the subscripts, the value, the conversion, the store
abbrev pub assign : List Define → Target → (Option Cell → ℕ → Result ℤ Trap) → Meaning
assign ds (target x es) value s =
    with_value (target_place ds s (look s x) es) s (λ k.
    with_value (and_then (value (look s x) k) (convert (type_in (look s x)))) s (λ z.
    ends Next (store x (changed (look s x) k z) s)))

abbrev pub set_to : List Define → Target → SetOp → Expr → Meaning
set_to ds t o e s = assign ds t (λ c k. new_value o c k (type_of ds s e) (eval ds s e)) s

-- `x++` is `x += 1`, `x--` is `x -= 1`
abbrev pub step_by : List Define → Target → Bool → Meaning
step_by ds t up = set_to ds t (if up then Add else Sub) (num 1 Int)

-- ---- print and input

-- a line for the value as a `long long`
abbrev pub print_value : List Define → Expr → Meaning
print_value ds e s = with_value (and_then (eval ds s e) (convert Long)) s (λ z. ends Next (print_line z s))

abbrev pub next_input : List ℤ → Result ℤ Trap
next_input [] = Err InputEnd
next_input (z ∷ zs) = Ok z

abbrev pub rest_of : List ℤ → List ℤ
rest_of [] = []
rest_of (z ∷ zs) = zs

-- the number is taken after the subscripts, and is taken also where it doesn't fit
abbrev pub take_input : List Define → Target → Meaning
take_input ds (target x es) s =
    with_value (target_place ds s (look s x) es) s (λ k.
    with_value (next_input s.input) s (λ z.
    let u = record s { input = rest_of s.input } in
    with_value (convert (type_in (look s x)) z) u (λ z.
    ends Next (store x (changed (look s x) k z) u))))

-- ---- calls

-- a function: its parameters, and what its body does
pub record Function : Type 0 where
  pub name : Name
  pub params : List Param
  pub run : Meaning

-- the defines and the functions that are known at a place, the latest first
pub record Env : Type 0 where
  pub defines : List Define
  pub functions : List Function

abbrev pub function_named : Name → List Function → Option Function
function_named x [] = None
function_named x (f ∷ fs) = if bytes_eq x f.name then Some f else function_named x fs

-- the arguments from left to right, each converted to its parameter's type directly after its evaluation: the frame
-- that holds them; a parameter without an argument is unset
abbrev pub arguments : List Define → State → List Param → Exprs → List Var → Result (List Var) Trap
arguments ds s [] es vs = Ok vs
arguments ds s (p ∷ ps) no_exprs vs = arguments ds s ps no_exprs (record { name = p.name; cell = scalar p.ty None } ∷ vs)
arguments ds s (p ∷ ps) (more_exprs e es) vs =
    and_then (eval ds s e) (λ z. and_then (convert p.ty z) (λ z.
    arguments ds s ps es (record { name = p.name; cell = scalar p.ty (Some z) } ∷ vs)))

-- a call ends Next, or with a trap, or cut
abbrev pub call_end : End → End
call_end Break = Next
call_end Continue = Next
call_end e = e

-- runs a body in a frame of its own, and puts the caller's back
abbrev pub in_frame : List Var → Meaning → Meaning
in_frame vs f s =
    let r = f (with_frame vs s) in
    record { state = with_frame s.frame r.state; end = call_end r.end }

abbrev pub call_of : Option Function → List Define → Exprs → Meaning
call_of None ds es s = ends (Trapped Unset) s
call_of (Some f) ds es s = with_value (arguments ds s f.params es []) s (λ vs. in_frame vs f.run s)
