-- A constant expression has one value, whether the defines are looked for in the program or in their list.
use Rattle.std.proofs.Common.{◌≡◌, ◌∙◌, sym, ap, refl, List, [], ◌∷◌, Option, Some, None, Bool, true, false, ◌&&◌}
use Rattle.std.proofs.lemmas.Bool.{false≢true}
use Rattle.std.specs.Prelude.{is_some, if◌then◌else◌, bytes_eq, Result, Ok, Err, ℤ}
use Rattle.c_tree.specs.Bare.{Name, Expr, num, read, item, un, bin, cond, cast, define, extern_, global, function, main, Program}
use Rattle.c_tree.specs.declared.arithmetic.Trap.{Trap}
use Rattle.c_tree.specs.Arithmetic.{and_then, apply_un, apply_bin, un_type, bin_type, common, convert, settles, unless_settled, is_zero}
use Rattle.c_tree.specs.Constants as tree
use Rattle.c_tree.specs.Constants.{define_named}
use Rattle.c_tree.specs.declared.constant.TypedValue.{TypedValue}
use Rattle.c_semantics.specs.Meaning.State.{nowhere}
use Rattle.c_semantics.specs.Meaning.Expressions as list
use Rattle.c_semantics.specs.Meaning.Expressions.{Define, type_of, eval, is_define, define_type, define_value}
use Rattle.canonical_nests.specs.Canonical.{program_defines}

-- the first define of a name
abbrev find_define : List Define → Name → Option TypedValue
find_define [] x = None
find_define (d ∷ ds) x = if bytes_eq x d.name then Some (record { ty = d.ty; value = d.value }) else find_define ds x

named_is : (p : Program) (x : Name) → define_named p x ≡ find_define (program_defines p) x
named_is [] x = refl
named_is (define y negative k t ∷ tops) x = ap (λ o. if bytes_eq x y then Some (tree.defined_as negative k t) else o) (named_is tops x)
named_is (extern_ port ∷ tops) x = named_is tops x
named_is (global t y dims e ∷ tops) x = named_is tops x
named_is (function y ps a ∷ tops) x = named_is tops x
named_is (main a ∷ tops) x = named_is tops x

some_if : (b : Bool) (c : TypedValue) (o : Option TypedValue) → is_some (if b then Some c else o) ≡ (if b then true else is_some o)
some_if true c o = refl
some_if false c o = refl

type_if : (b : Bool) (c : TypedValue) (o : Option TypedValue) → tree.type_or_int (if b then Some c else o) ≡ (if b then c.ty else tree.type_or_int o)
type_if true c o = refl
type_if false c o = refl

value_if : (b : Bool) (c : TypedValue) (o : Option TypedValue) → tree.value_or_trap (if b then Some c else o) ≡ (if b then Ok c.value else tree.value_or_trap o)
value_if true c o = refl
value_if false c o = refl

define_is : (ds : List Define) (x : Name) → is_some (find_define ds x) ≡ is_define ds x
define_is [] x = refl
define_is (d ∷ ds) x =
    some_if (bytes_eq x d.name) (record { ty = d.ty; value = d.value }) (find_define ds x) ∙ ap (λ b. if bytes_eq x d.name then true else b) (define_is ds x)

type_of_define : (ds : List Define) (x : Name) → tree.type_or_int (find_define ds x) ≡ define_type ds x
type_of_define [] x = refl
type_of_define (d ∷ ds) x =
    type_if (bytes_eq x d.name) (record { ty = d.ty; value = d.value }) (find_define ds x) ∙ ap (λ t. if bytes_eq x d.name then d.ty else t) (type_of_define ds x)

value_of_define : (ds : List Define) (x : Name) → tree.value_or_trap (find_define ds x) ≡ define_value ds x
value_of_define [] x = refl
value_of_define (d ∷ ds) x =
    value_if (bytes_eq x d.name) (record { ty = d.ty; value = d.value }) (find_define ds x) ∙ ap (λ v. if bytes_eq x d.name then Ok d.value else v) (value_of_define ds x)

only_is : (ds : List Define) (e : Expr) → tree.only_constants (find_define ds) e ≡ list.only_constants ds e
only_is ds (num k t) = refl
only_is ds (read x) = define_is ds x
only_is ds (item x es) = refl
only_is ds (un op a) = only_is ds a
only_is ds (bin op a b) = λ i. only_is ds a i && only_is ds b i
only_is ds (cond a b c) = λ i. only_is ds a i && (only_is ds b i && only_is ds c i)
only_is ds (cast t a) = only_is ds a

left_true : (a b : Bool) → (a && b) ≡ true → a ≡ true
left_true true b h = refl
left_true false b h = h

right_true : (a b : Bool) → (a && b) ≡ true → b ≡ true
right_true true b h = h
right_true false b h = absurd (false≢true h)

-- ---- where only literals and defines stand

type_is : (ds : List Define) (e : Expr) → list.only_constants ds e ≡ true → tree.constant_type (find_define ds) e ≡ type_of ds nowhere e
type_is ds (num k t) h = refl
type_is ds (read x) h = type_of_define ds x
type_is ds (item x es) h = absurd (false≢true h)
type_is ds (un op a) h = ap (un_type op) (type_is ds a h)
type_is ds (bin op a b) h =
    λ i. bin_type op (type_is ds a (left_true _ _ h) i) (type_is ds b (right_true (list.only_constants ds a) _ h) i)
type_is ds (cond a b c) h =
    let bc = right_true (list.only_constants ds a) _ h in
    λ i. common (type_is ds b (left_true _ _ bc) i) (type_is ds c (right_true (list.only_constants ds b) _ bc) i)
type_is ds (cast t a) h = refl

value_is : (ds : List Define) (e : Expr) → list.only_constants ds e ≡ true → tree.constant_value (find_define ds) e ≡ eval ds nowhere e
value_is ds (num k t) h = refl
value_is ds (read x) h = value_of_define ds x
value_is ds (item x es) h = absurd (false≢true h)
value_is ds (un op a) h = λ i. and_then (value_is ds a h i) (apply_un op (type_is ds a h i))
value_is ds (bin op a b) h =
    let ha = left_true _ _ h in
    let hb = right_true (list.only_constants ds a) _ h in
    λ i. and_then (value_is ds a ha i)
    (λ x. unless_settled (settles op x) (value_is ds b hb i) (apply_bin op (common (type_is ds a ha i) (type_is ds b hb i)) x))
value_is ds (cond a b c) h =
    let ha = left_true _ _ h in
    let bc = right_true (list.only_constants ds a) _ h in
    let hb = left_true _ _ bc in
    let hc = right_true (list.only_constants ds b) _ bc in
    λ i. and_then (value_is ds a ha i) (λ x. if is_zero x then value_is ds c hc i else value_is ds b hb i)
value_is ds (cast t a) h = λ i. and_then (value_is ds a h i) (convert t)

answer_is : (r : Result ℤ Trap) → tree.answer r ≡ list.answer r
answer_is (Ok z) = refl
answer_is (Err t) = refl

where_only : (ds : List Define) (e : Expr) (b : Bool) → list.only_constants ds e ≡ b
    → (if b then tree.answer (tree.constant_value (find_define ds) e) else None) ≡ list.where_true b (list.answer (eval ds nowhere e))
where_only ds e true h = ap tree.answer (value_is ds e h) ∙ answer_is (eval ds nowhere e)
where_only ds e false h = refl

listed_is : (ds : List Define) (e : Expr) → tree.constant (find_define ds) e ≡ list.constant ds e
listed_is ds e =
    ap (λ b. if b then tree.answer (tree.constant_value (find_define ds) e) else None) (only_is ds e) ∙ where_only ds e (list.only_constants ds e) refl

pub constant_is : (p : Program) (e : Expr) → tree.constant (define_named p) e ≡ list.constant (program_defines p) e
constant_is p e = ap (λ g. tree.constant g e) (λ i x. named_is p x i) ∙ listed_is (program_defines p) e

pub ruleset constants = (constant_is)
