-- The name's variable has the number now, and stands where it stood.
use Rattle.std.proofs.Common.{◌≡◌, ◌∙◌, sym, ap, subst, ℕ, ◌<◌, List, length, reverse, set, Option, Some, None, ℤ, w64, arith}
use Rattle.std.proofs.lemmas.Int.{to_z-of_z}
use Rattle.std.specs.Prelude.{is_some}
use Rattle.std.proofs.lemmas.List.{length-map}
use Rattle.c_semantics.specs.Meaning.State.{Var, find, write}
use Rattle.c_semantics.specs.Meaning.SimpleStatements.{changed}
use Rattle.resolved_names.specs.Numbered.{number_name}
use Rattle.c_meaning.specs.declared.frame.Binding.{Binding}
use Rattle.c_meaning.specs.Frames.{variables, places, place_of, IsFrame}
use Rattle.c_meaning.proofs.Frames.{place_within, place_found, place_written, frame_set, no_place, variable_at, variables_set, places_set}
use Rattle.c_meaning.proofs.Variables.{missing, no_number_written, with_number}
use Rattle.c_meaning.proofs.frame.Frame.set.Goals as goal

pub index_mut-requires : goal.index_mut-requires
index_mut-requires c =
    let x = number_name c.args.name in
    let vs = variables c.self.inside.bindings.items in
    let is : place_of x (reverse vs) ≡ Some c.in-Some.place = sym (c.in-Some.ensures ∙ c.self.invariant.innermost c.args.name) in
    let within : c.in-Some.place < length vs = place_within x vs c.in-Some.place is in
    omega (arith, length-map c.self.inside.bindings.items (λ (b : Binding). b.variable))

pub invariant_of-self : goal.invariant_of-self
invariant_of-self c =
    let x = number_name c.args.name in
    let m = c.self.inside in
    let bs = m.bindings.items in
    let vs = variables bs in
    let b = c.index_mut.result.now in
    let w = c.set.new.self in
    let i = c.in-Some.place in
    let is : place_of x (reverse vs) ≡ Some c.in-Some.place = sym (c.in-Some.ensures ∙ c.self.invariant.innermost c.args.name) in
    let now = frame_set x vs i is b.variable (variable_at bs i b c.index_mut.ensures.value) w (ap (λ (v : Var). v.name) c.set.ensures) (reverse (places bs)) m.innermost c.self.invariant in
    subst (λ (us : List Var). IsFrame (reverse us) (reverse (places (set bs i (record b { variable = w })))) m.innermost) (sym (variables_set bs i b c.index_mut.ensures.value w))
    (subst (λ (ps : List (Option ℕ)). IsFrame (reverse (set vs i w)) (reverse ps) m.innermost) (sym (places_set bs i b c.index_mut.ensures.value w)) now)

pub returns-in-Some-clause-found : goal.returns-in-Some-clause-found
returns-in-Some-clause-found c =
    let x = number_name c.args.name in
    let vs = variables c.self.inside.bindings.items in
    let is : place_of x (reverse vs) ≡ Some c.in-Some.place = sym (c.in-Some.ensures ∙ c.self.invariant.innermost c.args.name) in
    ap is_some (sym (place_found x vs c.in-Some.place is c.index_mut.result.now.variable (variable_at c.self.inside.bindings.items c.in-Some.place c.index_mut.result.now c.index_mut.ensures.value)) ∙ ap (find x) c.self.view_is)

pub returns-in-Some-clause-changed : goal.returns-in-Some-clause-changed
returns-in-Some-clause-changed c =
    let x = number_name c.args.name in
    let vs = variables c.self.inside.bindings.items in
    let i = c.in-Some.place in
    let bs = c.self.inside.bindings.items in
    let b = c.index_mut.result.now in
    let v = b.variable in
    let at = variable_at bs i b c.index_mut.ensures.value in
    let is : place_of x (reverse vs) ≡ Some i = sym (c.in-Some.ensures ∙ c.self.invariant.innermost c.args.name) in
    ap (λ (us : List Var). reverse us) (variables_set bs i b c.index_mut.ensures.value c.set.new.self)
    ∙ (ap (λ (u : Var). reverse (set vs i u)) (c.set.ensures ∙ ap (λ (z : ℤ). with_number v c.args.at z) (to_z-of_z w64 c.args.number c.ranges.number))
    ∙ (place_written x vs i is v at c.args.at c.args.number
    ∙ ap (λ (us : List Var). write x (changed (find x us) c.args.at c.args.number) us) c.self.view_is))

pub returns-in-None-clause-found : goal.returns-in-None-clause-found
returns-in-None-clause-found c =
    let x = number_name c.args.name in
    let vs = variables c.self.inside.bindings.items in
    let is : place_of x (reverse vs) ≡ None = sym (c.in-None.ensures ∙ c.self.invariant.innermost c.args.name) in
    ap is_some (sym (missing x (reverse vs) (no_place x (reverse vs) is)) ∙ ap (find x) c.self.view_is)

pub returns-in-None-clause-changed : goal.returns-in-None-clause-changed
returns-in-None-clause-changed c =
    let x = number_name c.args.name in
    let vs = variables c.self.inside.bindings.items in
    let is : place_of x (reverse vs) ≡ None = sym (c.in-None.ensures ∙ c.self.invariant.innermost c.args.name) in
    let same = λ (us : List Var). write x (changed (find x us) c.args.at c.args.number) us in
    sym c.self.view_is ∙ (no_number_written x (reverse vs) c.args.at c.args.number (no_place x (reverse vs) is) ∙ ap same c.self.view_is)
