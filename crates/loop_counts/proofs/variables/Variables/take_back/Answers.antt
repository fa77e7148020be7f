-- The name of a variable has an entry, so that its type can be written: that which the variable hides.
use Rattle.std.proofs.Common.{◌≡◌, ◌∙◌, ap, drop, Some, None}
use Rattle.std.specs.Prelude.{bytes_eq}
use Rattle.indexmap.specs.IndexMap.{get, Updates}
use Rattle.loop_counts.specs.declared.variables.Variable.{Variable}
use Rattle.loop_counts.specs.declared.variables.Variables.TheInside.{Inside}
use Rattle.loop_counts.proofs.TypedNames.{only_ok, present, typed_left, view_left}
use Rattle.loop_counts.proofs.variables.Variables.take_back.Goals as goal
use Rattle.loop_counts.proofs.variables.Variables.take_back.Goals.{in-Err-1, in-Ok-1}

pub invariant_of-self : goal.invariant_of-self
invariant_of-self c =
    let v : Variable = c.in-Some.field-0 in
    let u : Inside = record { alloc = c.self.inside.alloc; declared = c.pop.new.self; types = c.insert.new.self } in
    let there : ¬ (get bytes_eq c.self.inside.types v.name ≡ None) = present c.self.inside u v c.in-Some.ensures.items c.self.invariant in
    let written = only_ok (Updates bytes_eq c.self.inside.types c.insert.new.self v.name (Some v.hides)) (get bytes_eq c.self.inside.types v.name ≡ None) c.insert.result c.insert.ensures.updates c.insert.ensures.absent there in
    typed_left c.self.inside u v c.in-Some.ensures.items c.self.invariant written.0

pub invariant_of-self-in-Some-2 : goal.invariant_of-self-in-Some-2
invariant_of-self-in-Some-2 c =
    let v : Variable = c.in-Some.field-0 in
    let u : Inside = record { alloc = c.self.inside.alloc; declared = c.pop.new.self; types = c.insert.new.self } in
    let there : ¬ (get bytes_eq c.self.inside.types v.name ≡ None) = present c.self.inside u v c.in-Some.ensures.items c.self.invariant in
    let written = only_ok (Updates bytes_eq c.self.inside.types c.insert.new.self v.name (Some v.hides)) (get bytes_eq c.self.inside.types v.name ≡ None) c.insert.result c.insert.ensures.updates c.insert.ensures.absent there in
    typed_left c.self.inside u v c.in-Some.ensures.items c.self.invariant written.0

pub returns-in-Some : goal.returns-in-Some
returns-in-Some c =
    let v : Variable = c.in-Some.field-0 in
    let u : Inside = record { alloc = c.self.inside.alloc; declared = c.pop.new.self; types = c.insert.new.self } in
    let left = view_left c.self.inside u v c.in-Some.ensures.items ∙ ap (drop 1) c.self.view_is in
    elim c.match-insert.branch [ in-Err-1 w ↦ w.self-is ∙ left | in-Ok-1 w ↦ w.self-is ∙ left ]
