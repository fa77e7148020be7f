-- The new variable hides what its name had before.
use Rattle.std.proofs.Common.{◌≡◌, ◌∙◌, sym, ap, subst, cond, ◌∷◌, Some, None, OnOk}
use Rattle.std.specs.Prelude.{bytes_eq}
use Rattle.indexmap.specs.IndexMap.{get}
use Rattle.c_semantics.specs.Meaning.State.{find, scalar, Var}
use Rattle.loop_counts.specs.declared.variables.Variable.{Variable}
use Rattle.loop_counts.proofs.TypedNames.{typed_added, view_added}
use Rattle.loop_counts.proofs.variables.Variables.push.Goals as goal
use Rattle.loop_counts.proofs.variables.Variables.push.Goals.{in-Ok, in-Err}

pub invariant_of-self-in-Ok : goal.invariant_of-self-in-Ok
invariant_of-self-in-Ok c =
    let v : Variable = record { name = c.in_ok-name.name; ty = c.args.ty; hides = c.type_of-hides.result } in
    let same : c.in_ok-key.key ≡ c.in_ok-name.name = c.in_ok-key.ensures ∙ sym c.in_ok-name.ensures in
    typed_added c.self.inside (record { alloc = c.self.inside.alloc; declared = c.push.new.self; types = c.insert.new.self }) v
    c.in_ok-push.ensures.items c.self.invariant
    (c.type_of-hides.ensures ∙ (λ i. find (sym c.in_ok-name.ensures i) (sym c.self.view_is i)))
    (λ q. c.in-Ok.ensures.updates.0 q ∙ ap (λ k. cond (bytes_eq k q) (Some (Some c.args.ty)) (get bytes_eq c.self.inside.types q)) same)

pub returns : goal.returns
returns c =
    let v : Variable = record { name = c.in_ok-name.name; ty = c.args.ty; hides = c.type_of-hides.result } in
    let added : Var = record { name = c.args.name.now; cell = scalar c.args.ty None } in
    elim c.match-insert.branch [
      | in-Ok w ↦
          subst (λ r. OnOk r (c.match-insert.self ≡ added ∷ c.args.self.now)) (sym w.result-is)
          (w.self-is
          ∙ (view_added c.self.inside (record { alloc = c.self.inside.alloc; declared = c.push.new.self; types = c.insert.new.self }) v c.in_ok-push.ensures.items
          ∙ (λ i. record { name = c.in_ok-name.ensures i; cell = scalar c.args.ty None } ∷ c.self.view_is i)))
      | in-Err w ↦ subst (λ r. OnOk r (c.match-insert.self ≡ added ∷ c.args.self.now)) (sym w.result-is) tt
    ]
