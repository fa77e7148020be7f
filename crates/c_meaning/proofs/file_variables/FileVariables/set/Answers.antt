-- The name's variable has the number now, and stands where it stood.
use Rattle.std.proofs.Common.{◌≡◌, ◌∙◌, sym, ap, ◌<◌, List, length, set, Some, None, ℤ, w64, arith}
use Rattle.std.proofs.lemmas.Int.{to_z-of_z}
use Rattle.c_semantics.specs.Meaning.State.{Var, find, write}
use Rattle.c_semantics.specs.Meaning.SimpleStatements.{changed}
use Rattle.resolved_names.specs.Numbered.{number_name}
use Rattle.c_meaning.specs.FileVariables.{first_of}
use Rattle.c_meaning.proofs.FileVariables.{tells_set}
use Rattle.c_meaning.proofs.Variables.{first_within, number_written, no_number_written, with_number}
use Rattle.c_meaning.proofs.file_variables.FileVariables.set.Goals as goal

pub index_mut-requires : goal.index_mut-requires
index_mut-requires c =
    let x = number_name c.args.name in
    let vs = c.self.inside.variables.items in
    let is : first_of x vs ≡ Some c.in-Some.place = sym (c.in-Some.ensures ∙ c.self.invariant c.args.name) in
    let within : c.in-Some.place < length vs = first_within x vs c.in-Some.place is in
    omega arith

pub invariant_of-self : goal.invariant_of-self
invariant_of-self c =
    let m = c.self.inside in
    tells_set m.first m.variables.items c.in-Some.place c.index_mut.result.now c.set.new.self c.index_mut.ensures.value (ap (λ (v : Var). v.name) c.set.ensures) c.self.invariant

pub returns-in-Some : goal.returns-in-Some
returns-in-Some c =
    let x = number_name c.args.name in
    let vs = c.self.inside.variables.items in
    let i = c.in-Some.place in
    let v = c.index_mut.result.now in
    let is : first_of x vs ≡ Some i = sym (c.in-Some.ensures ∙ c.self.invariant c.args.name) in
    ap (λ (u : Var). set vs i u) (c.set.ensures ∙ ap (λ (z : ℤ). with_number v c.args.at z) (to_z-of_z w64 c.args.number c.ranges.number))
    ∙ (number_written x vs c.args.at c.args.number i is v c.index_mut.ensures.value
    ∙ ap (λ (us : List Var). write x (changed (find x us) c.args.at c.args.number) us) c.self.view_is)

pub returns-in-None : goal.returns-in-None
returns-in-None c =
    let x = number_name c.args.name in
    let vs = c.self.inside.variables.items in
    let same = λ (us : List Var). write x (changed (find x us) c.args.at c.args.number) us in
    let is : first_of x vs ≡ None = sym (c.in-None.ensures ∙ c.self.invariant c.args.name) in
    sym c.self.view_is ∙ (no_number_written x vs c.args.at c.args.number is ∙ ap same c.self.view_is)
