use Rattle.std.proofs.Common.{◌≡◌, ◌∷◌, ◌++◌, map, drop}
use Rattle.loop_counts.proofs.splitting.with_rest.Given as goal

-- What was made and what is left are all.
abbrev pub invariant-each : goal.invariant-each
invariant-each l = l.all.items ++ map (λ first. first ∷ l.rest) (drop l.first-index l.firsts) ≡ map (λ first. first ∷ l.rest) l.firsts
