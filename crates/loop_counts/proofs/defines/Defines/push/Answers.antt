-- The new define counts for its name.
use Rattle.std.proofs.Common.{◌≡◌, ◌∙◌, sym, ap, subst, cond, ◌∷◌, Some, OnOk}
use Rattle.std.specs.Prelude.{bytes_eq}
use Rattle.indexmap.specs.IndexMap.{get}
use Rattle.c_semantics.specs.Meaning.Expressions.{Define}
use Rattle.loop_counts.specs.declared.defines.Constant.{Constant}
use Rattle.loop_counts.proofs.ValuedNames.{valued_added, view_added}
use Rattle.loop_counts.proofs.defines.Defines.push.Goals as goal
use Rattle.loop_counts.proofs.defines.Defines.push.Goals.{in-Ok, in-Err}

pub invariant_of-self-in-Ok : goal.invariant_of-self-in-Ok
invariant_of-self-in-Ok c =
    let d : Constant = record { name = c.in_ok-name.name; value = c.args.value } in
    let same : c.in_ok-key.key ≡ c.in_ok-name.name = c.in_ok-key.ensures ∙ sym c.in_ok-name.ensures in
    valued_added c.self.inside (record { alloc = c.self.inside.alloc; defines = c.push.new.self; values = c.insert.new.self }) d
    c.in_ok-push.ensures.items c.self.invariant
    (λ q. c.in-Ok.ensures.updates.0 q ∙ ap (λ k. cond (bytes_eq k q) (Some c.args.value) (get bytes_eq c.self.inside.values q)) same)

pub returns : goal.returns
returns c =
    let d : Constant = record { name = c.in_ok-name.name; value = c.args.value } in
    let added : Define = record { name = c.args.name.now; ty = c.args.value.ty; value = c.args.value.value } in
    elim c.match-insert.branch [
      | in-Ok w ↦
          subst (λ r. OnOk r (c.match-insert.self ≡ added ∷ c.args.self.now)) (sym w.result-is)
          (w.self-is
          ∙ (view_added c.self.inside (record { alloc = c.self.inside.alloc; defines = c.push.new.self; values = c.insert.new.self }) d c.in_ok-push.ensures.items
          ∙ (λ i. record { name = c.in_ok-name.ensures i; ty = c.args.value.ty; value = c.args.value.value } ∷ c.self.view_is i)))
      | in-Err w ↦ subst (λ r. OnOk r (c.match-insert.self ≡ added ∷ c.args.self.now)) (sym w.result-is) tt
    ]
