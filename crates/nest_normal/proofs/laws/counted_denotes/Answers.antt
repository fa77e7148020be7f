-- Loop by loop down to the depth.
use Rattle.loop_normal.specs.FreshNames.{Among}
use Rattle.nest_normal.proofs.KnownCount.{known_means, counted_gen_means}
use Rattle.nest_normal.proofs.CountedWithin.{known_steady, counted_within}
use Rattle.nest_normal.proofs.laws.counted_denotes.Goals as goal

pub returns-clause-nest : goal.returns-clause-nest
returns-clause-nest _ = λ n env bs names calm d k r l p t new small e h. known_means n env bs (Among names) calm d k r l p t new small e h

pub returns-clause-code : goal.returns-clause-code
returns-clause-code _ = λ n env bs names calm d k r front l p s f new u small e h. counted_gen_means n env bs (Among names) calm d k r front l p s f new u small e h

pub returns-clause-steady : goal.returns-clause-steady
returns-clause-steady _ = λ n env bs names d k l p e small h. known_steady n env bs (Among names) d k l p small e h

pub returns-clause-within : goal.returns-clause-within
returns-clause-within _ = λ n env bs names calm d k own xs front l s r fresh lets e small turns h. counted_within n env bs (Among names) calm d k own xs front l s r fresh lets e small turns h
