-- From the file's beginning on, where nothing is visible.
use Rattle.std.proofs.Common.{[]}
use Rattle.carried_admitted.proofs.Programs.{reversible_items, nothing_seen}
use Rattle.c_tree.specs.NameRules.Programs.{nothing_known}
use Rattle.c_semantics.specs.Meaning.State.{nowhere}
use Rattle.carried_admitted.proofs.laws.admitted_reversals_are_carried_out.Goals as goal

pub returns : goal.returns
returns c = λ program w n b r. reversible_items [] [] nothing_known nowhere nowhere program nothing_seen n b r w.0
