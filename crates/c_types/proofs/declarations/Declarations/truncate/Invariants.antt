use Rattle.std.proofs.Common.{◌≡◌, ◌≤◌, length, take}
use Rattle.c_types.proofs.declarations.Declarations.truncate.Given as goal

-- What is left is a first part that is long enough.
abbrev pub invariant-each : goal.invariant-each
invariant-each l = record {
  enough : l.len ≤ length l.self.declarations;
  declarations : l.self.declarations ≡ take (length l.self.declarations) l.initial.self.declarations;
  names : l.self.names ≡ l.initial.self.names;
}

abbrev pub decreases-each : goal.decreases-each
decreases-each l = length l.self.declarations
