use Rattle.translator.proofs.GivenBack.{given_back, accepted_again}
use Rattle.translator.proofs.laws.translations_are_given_back.Goals as goal

pub returns-clause-given_back : goal.returns-clause-given_back
returns-clause-given_back c = given_back

pub returns-clause-accepted : goal.returns-clause-accepted
returns-clause-accepted c = accepted_again
