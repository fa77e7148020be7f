use Rattle.std.proofs.Common.{◌≡◌, drop}
use Rattle.resolved_names.specs.Numbered.{numbered_exprs}
use Rattle.c_semantics.specs.Meaning.Expressions.{place}
use Rattle.c_meaning.specs.Scopes.{env_of}
use Rattle.c_meaning.proofs.Places.{Within}
use Rattle.c_meaning.proofs.expressions.+eval.Given as goal

-- The subscripts that are left go on from the place so far, which is within the dimensions so far.
abbrev pub invariant-place-each : goal.invariant-place-each
invariant-place-each l = record {
  place : place (env_of l.scope).defines l.m (drop l.index l.dims) l.at (numbered_exprs (drop l.index l.subs)) ≡ place (env_of l.scope).defines l.m l.dims 0 (numbered_exprs l.subs);
  within : Within l.at (drop l.index l.dims);
}
