-- A name that is declared was noted, so that its meaning can be written: that which the declaration hides.
use Rattle.std.proofs.Common.{◌≡◌, ◌∙◌, ap, length, take, ◌-◌, Some, None}
use Rattle.std.specs.Prelude.{bytes_eq}
use Rattle.indexmap.specs.IndexMap.{get, insert_entry, Updates}
use Rattle.c_types.specs.declared.declarations.Declared.{Declared}
use Rattle.c_types.specs.declared.declarations.Declarations.TheInside.{Inside}
use Rattle.c_types.specs.Noted.{Noted}
use Rattle.c_types.proofs.Lookups.{only_ok, present, lookup_left, view_left}
use Rattle.c_types.proofs.declarations.Declarations.take_back.Goals as goal
use Rattle.c_types.proofs.declarations.Declarations.take_back.Goals.{in-Err-1, in-Ok-1}

pub invariant_of-self : goal.invariant_of-self
invariant_of-self c =
    let d : Declared = c.in-Some.field-0 in
    let u : Inside = record { alloc = c.self.inside.alloc; declared = c.pop.new.self; meanings = c.insert.new.self } in
    let noted : ¬ (get bytes_eq c.self.inside.meanings d.name ≡ None) = present c.self.inside u d c.in-Some.ensures.items c.self.invariant in
    let written = only_ok (Updates bytes_eq c.self.inside.meanings c.insert.new.self d.name (Some d.hides)) (get bytes_eq c.self.inside.meanings d.name ≡ None) c.insert.result c.insert.ensures.updates c.insert.ensures.absent noted in
    lookup_left c.self.inside u d c.in-Some.ensures.items c.self.invariant written.0

pub invariant_of-self-in-Some-2 : goal.invariant_of-self-in-Some-2
invariant_of-self-in-Some-2 c =
    let d : Declared = c.in-Some.field-0 in
    let u : Inside = record { alloc = c.self.inside.alloc; declared = c.pop.new.self; meanings = c.insert.new.self } in
    let noted : ¬ (get bytes_eq c.self.inside.meanings d.name ≡ None) = present c.self.inside u d c.in-Some.ensures.items c.self.invariant in
    let written = only_ok (Updates bytes_eq c.self.inside.meanings c.insert.new.self d.name (Some d.hides)) (get bytes_eq c.self.inside.meanings d.name ≡ None) c.insert.result c.insert.ensures.updates c.insert.ensures.absent noted in
    lookup_left c.self.inside u d c.in-Some.ensures.items c.self.invariant written.0

pub returns-in-Some : goal.returns-in-Some
returns-in-Some c =
    let d : Declared = c.in-Some.field-0 in
    let u : Inside = record { alloc = c.self.inside.alloc; declared = c.pop.new.self; meanings = c.insert.new.self } in
    let noted : ¬ (get bytes_eq c.self.inside.meanings d.name ≡ None) = present c.self.inside u d c.in-Some.ensures.items c.self.invariant in
    let written = only_ok (c.insert.new.self.entries ≡ insert_entry bytes_eq c.self.inside.meanings.entries d.name d.hides) (get bytes_eq c.self.inside.meanings d.name ≡ None) c.insert.result c.insert.ensures.entries c.insert.ensures.absent noted in
    let first : Noted → Noted = λ n. record { declarations = take (length n.declarations - 1) n.declarations; names = n.names } in
    let left = view_left c.self.inside u d d.hides c.in-Some.ensures.items c.self.invariant written ∙ ap first c.self.view_is in
    elim c.match-insert.branch [ in-Err-1 w ↦ w.self-is ∙ left | in-Ok-1 w ↦ w.self-is ∙ left ]
