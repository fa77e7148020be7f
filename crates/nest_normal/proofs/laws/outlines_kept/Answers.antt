-- Declarations show nothing.
use Rattle.nest_normal.proofs.Shown.{innermost_shows, round_shows, front_shows, nest_shows, counts_shown}
use Rattle.nest_normal.proofs.laws.outlines_kept.Goals as goal

pub returns-clause-nests : goal.returns-clause-nests
returns-clause-nests _ = λ ds m h. ((λ as' xs e. innermost_shows ds m h as' xs e), (λ l xs e. round_shows ds m h l xs e), (λ front e. front_shows ds m h front e), λ front l xs f e. nest_shows ds front l xs f e)

pub returns-clause-counts : goal.returns-clause-counts
returns-clause-counts _ = λ ds d k l s. counts_shown ds d k l s
