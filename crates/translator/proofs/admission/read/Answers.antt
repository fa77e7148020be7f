-- The tokens of a text end with End.
use Rattle.translator.proofs.TextEnds.{cut_ends}
use Rattle.translator.proofs.admission.read.Goals as goal

pub parse-requires : goal.parse-requires
parse-requires c = cut_ends c.requires.0 c.args.tokens.now c.requires.1
