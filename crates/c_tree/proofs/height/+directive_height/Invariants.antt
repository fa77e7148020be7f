use Rattle.std.proofs.Common.{◌≡◌, max, drop}
use Rattle.c_tree.specs.BareOf.{bare_clauses, bare_items}
use Rattle.c_tree.specs.Height.{clauses_height, items_height, capped}
use Rattle.c_tree.proofs.height.+directive_height.Given as goal

-- What was seen and what is left have the height of all.
abbrev pub invariant-clauses_height-each : goal.invariant-clauses_height-each
invariant-clauses_height-each l = max l.highest (capped (clauses_height (bare_clauses (drop l.clause-index l.clauses)))) ≡ capped (clauses_height (bare_clauses l.clauses))

abbrev pub invariant-items_height-each : goal.invariant-items_height-each
invariant-items_height-each l = max l.highest (capped (items_height (bare_items (drop l.item-index l.items)))) ≡ capped (items_height (bare_items l.items))
