-- Where a program breaks a name rule: its breaches, each a rule with its place, item by item.
use Rattle.std.specs.Prelude.{ℕ, ◌+◌, ◌*◌, ◌^◌, min, nat_abs, List, [], ◌∷◌, ◌++◌, length, Option, Some, None, Bool, true, false, not, ◌&&◌, ◌==◌, nat_lt, int_le, ℤ, pos, unwrap_or, if◌then◌else◌}
use Rattle.c_tree.specs.Bare.{Name}
use Rattle.c_tree.specs.Placed.{Expr, Exprs, no_exprs, more_exprs, expr_list, expr_span, Param, Stmts, Top, define, extern_, global, function, main, Program}
use Rattle.c_tree.specs.Forget.{forget_expr}
use Rattle.c_tree.specs.declared.tree.Ty.{Ty}
use Rattle.c_tree.specs.declared.tree.Port.{Port}
use Rattle.c_tree.specs.declared.tree.Port.TheVariants.{Print, Input}
use Rattle.c_tree.specs.declared.constant.TypedValue.{TypedValue}
use Rattle.c_tree.specs.declared.name_rule.NameRule.TheVariants.{N2, N5, N8, N9}
use Rattle.c_tree.specs.NameRules.BreachSets.{BreachSet, none, ◌&◌}
use Rattle.c_tree.specs.declared.name_rule.Entity.TheVariants.{Define, Variable, Function}
use Rattle.c_tree.specs.Arithmetic.{holds}
use Rattle.c_tree.specs.Constants.{constant, defined_as}
use Rattle.c_tree.specs.NameRules.Scopes.{Scope, add, declare, a_scalar, inner, constant_named, with_params}
use Rattle.c_tree.specs.NameRules.DeclaredNames as names
use Rattle.c_tree.specs.NameRules.DeclaredNames.{is_among, with_name}
use Rattle.c_tree.specs.NameRules.CallDepth.{function_depth}
use Rattle.c_tree.specs.NameRules.Breaches.{breach_if, declare_breaches, expr_breaches, stmts_breaches}

-- what is known before an item: the file's scope, the names that were declared or defined in any scope, and how many
-- elements the arrays have together, where one more than the limit stands for any greater number
pub record Known : Type 0 where
  pub scope : Scope
  pub names : List Name
  pub elements : ℕ

-- ---- arrays

-- the most elements that the arrays of a program may have together, and the most that a dimension may ask for
abbrev pub most_elements : ℕ
most_elements = 2 ^ 24

abbrev pub most_dims : ℕ
most_dims = 8

abbrev pub in_bounds : ℤ → ℕ
in_bounds z = if int_le (pos 1) z && int_le z (pos most_elements) then nat_abs z else 0

-- the number that a dimension asks for, and 0 where it breaks N5: it isn't a constant from 1 to 2^24, or is the ninth
abbrev pub dimension : Scope → ℕ → Expr → ℕ
dimension s index e = if index == most_dims then 0 else in_bounds (unwrap_or (constant (constant_named s) (forget_expr e)) (pos 0))

abbrev pub dims_breaches : Scope → ℕ → Exprs → BreachSet
dims_breaches s index no_exprs = none
dims_breaches s index (more_exprs e es) =
    expr_breaches s e & (breach_if (dimension s index e == 0) N5 (expr_span e).start & dims_breaches s (index + 1) es)

-- the elements of an array, 0 where it breaks N5
abbrev pub dims_product : Scope → ℕ → Exprs → ℕ
dims_product s index no_exprs = 1
dims_product s index (more_exprs e es) = dimension s index e * dims_product s (index + 1) es

abbrev pub elements_of : Scope → Exprs → ℕ
elements_of s no_exprs = 0
elements_of s (more_exprs e es) = dims_product s 0 (more_exprs e es)

-- N8: the elements of this array and those before it are too many
abbrev pub size_breaches : ℕ → ℕ → Exprs → BreachSet
size_breaches elements at no_exprs = none
size_breaches elements at (more_exprs e es) = breach_if (nat_lt most_elements elements) N8 at

-- ---- initial values

abbrev pub is_held : Ty → Option ℤ → Bool
is_held t None = false
is_held t (Some z) = holds t z

-- N9: a file-scope initial value isn't a constant that the type holds
abbrev pub initial_breaches : Scope → Ty → Option Expr → BreachSet
initial_breaches s t None = none
initial_breaches s t (Some e) =
    expr_breaches s e & breach_if (not (is_held t (constant (constant_named s) (forget_expr e)))) N9 (expr_span e).start

-- ---- items

abbrev pub params_breaches : Scope → List Param → BreachSet
params_breaches s [] = none
params_breaches s (p ∷ ps) = declare_breaches s p.name p.name_span.start & params_breaches (declare p.name a_scalar s) ps

abbrev pub with_global : Scope → Name → Exprs → Scope
with_global s x dims = declare x (Variable (length (expr_list dims))) s

abbrev pub with_port : Port → Scope → Scope
with_port Print s = record s { print_known = true }
with_port Input s = record s { input_known = true }

abbrev pub more_elements : Known → Name → Exprs → ℕ
more_elements k x dims = min (k.elements + elements_of (with_global k.scope x dims) dims) (most_elements + 1)

abbrev pub in_params : Scope → List Param → Scope
in_params s params = with_params (inner s) params

-- N2: a name is defined after a define or a declaration of it, in any scope
abbrev pub define_breaches : Known → Name → ℕ → BreachSet
define_breaches k x at = breach_if (is_among x k.names) N2 at

abbrev pub with_define : Known → Name → TypedValue → Known
with_define k x c =
    record k {
      scope = if is_among x k.names then k.scope else add x (Define c) k.scope;
      names = with_name x k.names;
    }

abbrev pub global_breaches : Known → Ty → Name → ℕ → Exprs → Option Expr → BreachSet
global_breaches k t x at dims init =
    declare_breaches k.scope x at
    & (dims_breaches (with_global k.scope x dims) 0 dims
    & (size_breaches (more_elements k x dims) at dims
    & initial_breaches (with_global k.scope x dims) t init))

abbrev pub with_array : Known → Name → Exprs → Known
with_array k x dims = record { scope = with_global k.scope x dims; names = with_name x k.names; elements = more_elements k x dims }

abbrev pub function_breaches : Known → Name → ℕ → List Param → Stmts → BreachSet
function_breaches k x at params body =
    declare_breaches k.scope x at
    & (params_breaches (inner k.scope) params & stmts_breaches true false (in_params k.scope params) body)

-- a function is visible after its closing brace
abbrev pub with_function : Known → Name → List Param → Stmts → Known
with_function k x params body =
    record k {
      scope = declare x (Function (length params) (function_depth (in_params k.scope params) body)) k.scope;
      names = with_name x (names.with_stmts (names.with_params k.names params) body);
    }

abbrev pub top_breaches : Known → Top → BreachSet
top_breaches k (define x negative value t at) = define_breaches k x at.start
top_breaches k (extern_ port span) = none
top_breaches k (global t x at dims init) = global_breaches k t x at.start dims init
top_breaches k (function x at params body span) = function_breaches k x at.start params body
top_breaches k (main body span) = stmts_breaches false false (inner k.scope) body

-- what is known after an item
abbrev pub known_after : Known → Top → Known
known_after k (define x negative value t at) = with_define k x (defined_as negative value t)
known_after k (extern_ port span) = record k { scope = with_port port k.scope }
known_after k (global t x at dims init) = with_array k x dims
known_after k (function x at params body span) = with_function k x params body
known_after k (main body span) = record k { names = names.with_stmts k.names body }

-- ---- programs

abbrev pub breaches_from : Known → Program → BreachSet
breaches_from k [] = none
breaches_from k (top ∷ tops) = top_breaches k top & breaches_from (known_after k top) tops

abbrev pub nothing_known : Known
nothing_known = record {
  scope = record { here = []; outside = []; print_known = false; input_known = false };
  names = [];
  elements = 0;
}

-- every breach of a name rule
abbrev pub breaches : Program → BreachSet
breaches program = breaches_from nothing_known program
