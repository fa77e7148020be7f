-- By the numbers that the digits stand for.
use Rattle.loop_normal.proofs.Drawn.{drawn_is_untaken, drawn_once}
use Rattle.loop_normal.proofs.laws.drawn_names_are_new.Goals as goal

pub returns-clause-untaken : goal.returns-clause-untaken
returns-clause-untaken _ = drawn_is_untaken

pub returns-clause-once : goal.returns-clause-once
returns-clause-once _ = drawn_once
