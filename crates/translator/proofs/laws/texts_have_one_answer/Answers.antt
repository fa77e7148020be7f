use Rattle.translator.proofs.OneAnswer.{admitted_or_refused, accepted_or_refused, text_refused_once}
use Rattle.translator.proofs.laws.texts_have_one_answer.Goals as goal

pub returns-clause-admitted : goal.returns-clause-admitted
returns-clause-admitted c = admitted_or_refused

pub returns-clause-accepted : goal.returns-clause-accepted
returns-clause-accepted c = accepted_or_refused

pub returns-clause-refused : goal.returns-clause-refused
returns-clause-refused c = text_refused_once
