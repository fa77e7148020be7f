use Rattle.std.proofs.Common.{length}
use Rattle.nest_normal.proofs.unread.+all_if_read.Given as goal

abbrev pub decreases-all_if_read : goal.decreases-all_if_read
decreases-all_if_read l = length l.stmts
