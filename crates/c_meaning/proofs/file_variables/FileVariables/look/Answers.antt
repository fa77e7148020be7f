-- The table tells where the name's variable stands, or that there is none.
use Rattle.std.proofs.Common.{◌≡◌, ◌∙◌, sym, ap, ◌<◌, length, Some, None, arith}
use Rattle.c_semantics.specs.Meaning.State.{find}
use Rattle.resolved_names.specs.Numbered.{number_name}
use Rattle.c_meaning.specs.FileVariables.{first_of}
use Rattle.c_meaning.proofs.Variables.{first_within, found, missing}
use Rattle.c_meaning.proofs.file_variables.FileVariables.look.Goals as goal

pub index-requires : goal.index-requires
index-requires c =
    let x = number_name c.args.name in
    let vs = c.self.inside.variables.items in
    let is : first_of x vs ≡ Some c.in-Some.place = sym (c.in-Some.ensures ∙ c.self.invariant c.args.name) in
    let within : c.in-Some.place < length vs = first_within x vs c.in-Some.place is in
    omega arith

pub returns-in-Some : goal.returns-in-Some
returns-in-Some c =
    let x = number_name c.args.name in
    let vs = c.self.inside.variables.items in
    let is : first_of x vs ≡ Some c.in-Some.place = sym (c.in-Some.ensures ∙ c.self.invariant c.args.name) in
    sym (found x vs c.in-Some.place is c.index.result.now c.index.ensures) ∙ ap (find x) c.self.view_is

pub returns-in-None : goal.returns-in-None
returns-in-None c =
    let x = number_name c.args.name in
    let vs = c.self.inside.variables.items in
    let is : first_of x vs ≡ None = sym (c.in-None.ensures ∙ c.self.invariant c.args.name) in
    sym (missing x vs is) ∙ ap (find x) c.self.view_is
