-- A clause with its place, at its fields.
use Rattle.std.proofs.Common.{◌≡◌, ◌∙◌, sym, ap}
use Rattle.c_tree.specs.Bare as b
use Rattle.c_tree.specs.BareOf as bare
use Rattle.c_tree.specs.BareOf.{bare_clause, bare_kind}
use Rattle.c_tree.specs.Placed as p
use Rattle.c_tree.specs.Placed.{clause}
use Rattle.c_tree.specs.PlacedOf.{item_layer, kind_layer, clause_layer, directive_layer, placed_kind, placed_clause}
use Rattle.c_tree.specs.declared.tree.Span.{Span}
use Rattle.c_tree.specs.declared.tree.Clause.{Clause, roll-Clause, out-Clause, roll-out-Clause, fold-roll-Clause}
use Rattle.c_tree.specs.declared.tree.ClauseKind.{ClauseKind}

placed_clause_roll : (kind : ClauseKind) (span : Span) → placed_clause (roll-Clause (record { kind = kind; span = span })) ≡ clause (placed_kind kind) span
placed_clause_roll kind span = fold-roll-Clause p.Item p.ClauseKind p.Clause p.Directive item_layer kind_layer clause_layer directive_layer (record { kind = kind; span = span })

pub placed_clause_out : (x : Clause) → placed_clause x ≡ clause (placed_kind (out-Clause x).kind) (out-Clause x).span
placed_clause_out x = ap placed_clause (sym (roll-out-Clause x)) ∙ placed_clause_roll (out-Clause x).kind (out-Clause x).span

bare_clause_roll : (kind : ClauseKind) (span : Span) → bare_clause (roll-Clause (record { kind = kind; span = span })) ≡ bare_kind kind
bare_clause_roll kind span = fold-roll-Clause b.Item b.Clause b.Clause b.Directive bare.item_layer bare.kind_layer bare.clause_layer bare.directive_layer (record { kind = kind; span = span })

pub bare_clause_out : (x : Clause) → bare_clause x ≡ bare_kind (out-Clause x).kind
bare_clause_out x = ap bare_clause (sym (roll-out-Clause x)) ∙ bare_clause_roll (out-Clause x).kind (out-Clause x).span
