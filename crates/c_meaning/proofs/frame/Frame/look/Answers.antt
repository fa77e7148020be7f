-- The table tells where the name's variable stands, or that there is none.
use Rattle.std.proofs.Common.{◌≡◌, ◌∙◌, sym, ap, ◌<◌, length, reverse, Some, None, arith}
use Rattle.std.proofs.lemmas.List.{length-map}
use Rattle.c_semantics.specs.Meaning.State.{find}
use Rattle.resolved_names.specs.Numbered.{number_name}
use Rattle.c_meaning.specs.declared.frame.Binding.{Binding}
use Rattle.c_meaning.specs.Frames.{variables, place_of}
use Rattle.c_meaning.proofs.Frames.{place_within, place_found, no_place, variable_at}
use Rattle.c_meaning.proofs.Variables.{missing}
use Rattle.c_meaning.proofs.frame.Frame.look.Goals as goal

pub index-requires : goal.index-requires
index-requires c =
    let x = number_name c.args.name in
    let vs = variables c.self.inside.bindings.items in
    let is : place_of x (reverse vs) ≡ Some c.in-Some.place = sym (c.in-Some.ensures ∙ c.self.invariant.innermost c.args.name) in
    let within : c.in-Some.place < length vs = place_within x vs c.in-Some.place is in
    omega (arith, length-map c.self.inside.bindings.items (λ (b : Binding). b.variable))

pub returns-in-Some : goal.returns-in-Some
returns-in-Some c =
    let x = number_name c.args.name in
    let vs = variables c.self.inside.bindings.items in
    let is : place_of x (reverse vs) ≡ Some c.in-Some.place = sym (c.in-Some.ensures ∙ c.self.invariant.innermost c.args.name) in
    sym (place_found x vs c.in-Some.place is c.index.result.now.variable (variable_at c.self.inside.bindings.items c.in-Some.place c.index.result.now c.index.ensures)) ∙ ap (find x) c.self.view_is

pub returns-in-None : goal.returns-in-None
returns-in-None c =
    let x = number_name c.args.name in
    let vs = variables c.self.inside.bindings.items in
    let is : place_of x (reverse vs) ≡ None = sym (c.in-None.ensures ∙ c.self.invariant.innermost c.args.name) in
    sym (missing x (reverse vs) (no_place x (reverse vs) is)) ∙ ap (find x) c.self.view_is
