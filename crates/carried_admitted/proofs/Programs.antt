-- A program that breaks neither a name rule nor a loop rule, and whose directives all reverse, is such as is carried out.
use Rattle.std.proofs.Common.{◌≡◌, refl, ℕ, List, [], ◌∷◌, map, length, None, Bool, true, false}
use Rattle.std.specs.Prelude.{is_some, if◌then◌else◌}
use Rattle.c_tree.specs.Bare.{Name}
use Rattle.c_tree.specs.Placed.{expr_list, Top, define, extern_, global, function, main, Program}
use Rattle.c_tree.specs.Forget.{forget_param, forget_top, forget_program}
use Rattle.c_tree.specs.WellFormed.{WellFormedTop, WellFormedTops}
use Rattle.c_tree.specs.Constants.{defined_as}
use Rattle.c_tree.specs.declared.tree.Ty.{Ty}
use Rattle.c_tree.specs.declared.tree.Port.{Port}
use Rattle.c_tree.specs.declared.tree.Port.TheVariants.{Print, Input}
use Rattle.c_tree.specs.declared.name_rule.Entity.TheVariants.{Define, Variable, Function}
use Rattle.c_tree.specs.NameRules.BreachSets as names
use Rattle.c_tree.specs.NameRules.Scopes.{Scope, inner}
use Rattle.c_tree.specs.NameRules.Scopes as scopes
use Rattle.c_tree.specs.NameRules.CallDepth.{function_depth}
use Rattle.c_tree.specs.NameRules.DeclaredNames.{is_among}
use Rattle.c_tree.specs.NameRules.Programs as name_rules
use Rattle.c_tree.specs.NameRules.Programs.{Known, known_after, nothing_known, in_params, with_port}
use Rattle.c_semantics.specs.Meaning.State.{scalar, State, nowhere, with_globals}
use Rattle.c_semantics.specs.Meaning.Expressions as meaning
use Rattle.c_semantics.specs.Meaning.FileVariables.{FunctionAccess, defines_with}
use Rattle.canonical_nests.specs.LoopRules.BreachSets.{HasNone}
use Rattle.canonical_nests.specs.LoopRules.Programs as rules
use Rattle.c_scopes.specs.Types.{type_filed, with_params}
use Rattle.c_scopes.specs.Laws.{scope_with}
use Rattle.carried_out.specs.AllReverse.{top_reverses_only, all_reverse}
use Rattle.carried_out.specs.Reversible.{is_reversible_top, are_reversible_items}
use Rattle.std.proofs.lemmas.Bool.{and_parts, and_from}
use Rattle.carried_admitted.proofs.Visible.{Sees, seen_inside, seen_params, declared_name, new_name, filed_more, filed_own, held_filed}
use Rattle.carried_admitted.proofs.Walk.{all_reversible}

-- ---- what is visible after an item

port_seen : (p : Port) (t : Scope) (s : State) → Sees t s → Sees (with_port p t) s
port_seen Print t s g = g
port_seen Input t s g = g

global_seen : (t : Scope) (s : State) (T : Ty) (x : Name) (n : ℕ) (b : Bool) → is_some (type_filed s x) ≡ b → Sees t s
    → Sees (scopes.declare x (Variable n) t) (if b then s else with_globals (record { name = x; cell = scalar T None } ∷ s.globals) s)
global_seen t s T x n true is g = declared_name t s x (Variable n) s (λ y h. h) (λ y d same e. held_filed s x y same is) g
global_seen t s T x n false is g =
    declared_name t s x (Variable n) (with_globals (record { name = x; cell = scalar T None } ∷ s.globals) s) (filed_more s x (scalar T None)) (λ y d same e. filed_own s x (scalar T None) y same) g

item_seen : (k : Known) (s : State) (i : Top) → Sees k.scope s → Sees (known_after k i).scope (scope_with s (forget_top i))
item_seen k s (define x minus v T at) g = by (is_among x k.names)
  where
    by : (b : Bool) → Sees (if b then k.scope else scopes.add x (Define (defined_as minus v T)) k.scope) s
    by true = g
    by false = new_name k.scope s x (Define (defined_as minus v T)) s (λ y h. h) (λ y d same e. absurd (cc)) g
item_seen k s (extern_ port sp) g = port_seen port k.scope s g
item_seen k s (global T x at dims e) g = global_seen k.scope s T x (length (expr_list dims)) (is_some (type_filed s x)) refl g
item_seen k s (function x at ps a sp) g =
    declared_name k.scope s x (Function (length ps) (function_depth (in_params k.scope ps) a)) s (λ y h. h) (λ y d same e. absurd (cc)) g
item_seen k s (main a sp) g = g

-- ---- items

reversible_item : (ds : List meaning.Define) (fs : List FunctionAccess) (k : Known) (s sl : State) (i : Top) → Sees k.scope s → names.HasNone (name_rules.top_breaches k i) → HasNone (rules.top_breaches ds fs sl i)
    → top_reverses_only (forget_top i) ≡ true → WellFormedTop (forget_top i) → is_reversible_top ds s (forget_top i) ≡ true
reversible_item ds fs k s sl (function x at ps a sp) g n c r w =
    all_reversible ds fs true a false (in_params k.scope ps) (with_params (map forget_param ps) s) _ (seen_params (inner k.scope) s ps (seen_inside k.scope s g)) n.1.1 c r w.2
reversible_item ds fs k s sl (main a sp) g n c r w = all_reversible ds fs false a false (inner k.scope) s sl (seen_inside k.scope s g) n c r w
reversible_item ds fs k s sl _ g n c r w = refl

pub reversible_items : (ds : List meaning.Define) (fs : List FunctionAccess) (k : Known) (s sl : State) (p : Program) → Sees k.scope s → names.HasNone (name_rules.breaches_from k p) → HasNone (rules.breaches_from ds fs sl p)
    → all_reverse (forget_program p) ≡ true → WellFormedTops (forget_program p) → are_reversible_items ds s (forget_program p) ≡ true
reversible_items ds fs k s sl [] g n c r w = refl
reversible_items ds fs k s sl (i ∷ is) g n c r w =
    and_from (is_reversible_top ds s (forget_top i)) _
    (reversible_item ds fs k s sl i g n.0 c.0 (and_parts (top_reverses_only (forget_top i)) (all_reverse (forget_program is)) r).0 w.0)
    (reversible_items (defines_with ds (forget_top i)) _ (known_after k i) (scope_with s (forget_top i)) _ is (item_seen k s i g) n.1 c.1 (and_parts (top_reverses_only (forget_top i)) (all_reverse (forget_program is)) r).1 w.1)

pub nothing_seen : Sees nothing_known.scope nowhere
nothing_seen x d h = absurd (cc)
