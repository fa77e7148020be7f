-- A name that was noted already stays so, and a new one has no declaration.
use Rattle.std.proofs.Common.{◌≡◌, sym, subst, None}
use Rattle.std.specs.Prelude.{bytes_eq}
use Rattle.std.specs.Map.{lookup}
use Rattle.indexmap.specs.IndexMap.{get}
use Rattle.c_tree.specs.Bare.{Name}
use Rattle.c_types.proofs.Lookups.{meanings_noted, not_noted}
use Rattle.c_types.proofs.Tables.{noted_already}
use Rattle.c_types.proofs.declarations.Declarations.note.Goals as goal

pub invariant_of-self : goal.invariant_of-self
invariant_of-self c =
    let es = c.self.inside.meanings.entries in
    let new : lookup (bytes_eq c.args.name.now) es ≡ None = not_noted c.args.name.now es c.args.self.now.names c.is_among.result (λ i. (c.self.view_is i).names) c.is_among.ensures c.if-not-is_among.true in
    let key : Name = c.in_ok-key.key in
    record {
      meanings = meanings_noted (λ x. get bytes_eq c.self.inside.meanings x) (λ x. get bytes_eq c.insert.new.self x) c.self.inside.declared.items key c.self.invariant.meanings
          (subst (λ x. lookup (bytes_eq x) es ≡ None) (sym c.in_ok-key.ensures) new) c.in_ok-insert.ensures.updates.0;
      hidden = c.self.invariant.hidden;
    }

pub returns-else-not-is_among-clause-noted : goal.returns-else-not-is_among-clause-noted
returns-else-not-is_among-clause-noted c =
    λ i. record { declarations = c.args.self.now.declarations; names = sym (noted_already c.args.name.now c.args.self.now.names (sym c.if-not-is_among.ensures)) i }
