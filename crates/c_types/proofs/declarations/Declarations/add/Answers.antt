-- The new declaration hides what the name meant before.
use Rattle.std.proofs.Common.{◌≡◌, ◌∙◌, sym, ap, subst, cond, length, reverse, Some, OnOk}
use Rattle.std.specs.Prelude.{bytes_eq}
use Rattle.indexmap.specs.IndexMap.{get, insert_entry}
use Rattle.c_types.specs.declared.declarations.Visible.{Visible}
use Rattle.c_types.specs.declared.declarations.Declared.{Declared}
use Rattle.c_types.specs.Noted.{visible, with_declaration}
use Rattle.c_types.proofs.Lookups.{same_length, lookup_added, view_added}
use Rattle.c_types.proofs.declarations.Declarations.add.Goals as goal
use Rattle.c_types.proofs.declarations.Declarations.add.Goals.{in-Ok, in-Err}

pub invariant_of-self-in-Ok : goal.invariant_of-self-in-Ok
invariant_of-self-in-Ok c =
    let d : Declared = record { name = c.in_ok-name.name; entity = c.args.entity; hides = c.visible-hides.result } in
    let v : Visible = record { entity = c.args.entity; index = c.len-index.result } in
    let same : c.in_ok-key.key ≡ c.in_ok-name.name = c.in_ok-key.ensures ∙ sym c.in_ok-name.ensures in
    lookup_added c.self.inside (record { alloc = c.self.inside.alloc; declared = c.push.new.self; meanings = c.insert.new.self }) d c.len-index.result
    c.in_ok-push.ensures.items c.self.invariant
    (c.len-index.ensures ∙ ((λ i. length (sym c.self.view_is i).declarations) ∙ same_length c.self.inside.declared.items))
    (c.visible-hides.ensures ∙ (λ i. visible (sym c.in_ok-name.ensures i) (reverse (sym c.self.view_is i).declarations)))
    (λ q. c.in-Ok.ensures.updates.0 q ∙ ap (λ k. cond (bytes_eq k q) (Some (Some v)) (get bytes_eq c.self.inside.meanings q)) same)

pub returns-clause-declared : goal.returns-clause-declared
returns-clause-declared c =
    let said = with_declaration c.args.name.now c.args.entity c.args.self.now in
    let d : Declared = record { name = c.in_ok-name.name; entity = c.args.entity; hides = c.visible-hides.result } in
    let v : Visible = record { entity = c.args.entity; index = c.len-index.result } in
    let same : c.in_ok-key.key ≡ c.in_ok-name.name = c.in_ok-key.ensures ∙ sym c.in_ok-name.ensures in
    elim c.match-insert.branch [
      | in-Ok w ↦
          subst (λ r. OnOk r (c.match-insert.self ≡ said)) (sym w.result-is)
          (w.self-is
          ∙ (view_added c.self.inside (record { alloc = c.self.inside.alloc; declared = c.push.new.self; meanings = c.insert.new.self }) d (Some v)
          c.in_ok-push.ensures.items (w.in-Ok.ensures.entries ∙ ap (λ k. insert_entry bytes_eq c.self.inside.meanings.entries k (Some v)) same)
          ∙ (λ i. with_declaration (c.in_ok-name.ensures i) c.args.entity (c.self.view_is i))))
      | in-Err w ↦ subst (λ r. OnOk r (c.match-insert.self ≡ said)) (sym w.result-is) tt
    ]
