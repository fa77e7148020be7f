-- Where no variable of the frame has the name, the frame stays as it was.
use Rattle.std.proofs.Common.{◌≡◌, ◌∙◌, sym, ap, false, ℤ, w64}
use Rattle.std.proofs.lemmas.Int.{to_z-of_z}
use Rattle.std.specs.Prelude.{is_some, List}
use Rattle.c_semantics.specs.Meaning.State.{State, Var, find, write, look, store, with_frame, with_globals}
use Rattle.c_semantics.specs.Meaning.SimpleStatements.{changed}
use Rattle.resolved_names.specs.Numbered.{number_name}
use Rattle.c_meaning.specs.Machines.{state_of}
use Rattle.c_meaning.proofs.Variables.{store_globals, unwritten}
use Rattle.c_meaning.proofs.machine.Machine.set.Goals as goal

pub returns : goal.returns
returns c =
    let x = number_name c.args.name in
    let m = c.self.inside in
    let k = c.args.at in
    let nowhere : is_some (find x m.frame) ≡ false = sym c.set.ensures.found ∙ c.if-set.false in
    let same : c.set.new.self ≡ m.frame = c.set.ensures.changed ∙ unwritten x _ m.frame nowhere in
    ap (λ (vs : List Var). with_globals c.set-2.new.self (with_frame vs (state_of m))) same
    ∙ (ap (λ (vs : List Var). with_globals vs (state_of m)) (c.set-2.ensures ∙ ap (λ (z : ℤ). write x (changed (find x m.globals) k z) m.globals) (to_z-of_z w64 c.args.number c.ranges.number))
    ∙ (sym (store_globals (state_of m) x k c.args.number nowhere)
    ∙ ap (λ (s : State). store x (changed (look s x) k c.args.number) s) c.self.view_is))
