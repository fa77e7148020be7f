-- What is left from the next place on is the bytes that the buffer got, and what is left behind them.
use Rattle.std.proofs.lemmas.List.{take_rest}
use Rattle.outside_io.proofs.Pieces.{drop_split}
use Rattle.outside_io.proofs.memory_sources.CleanSourceSource.read.Goals as goal

pub returns-clause-bytes : goal.returns-clause-bytes
returns-clause-bytes c =
    rw (← c.self.view_is, c.copy_front-count.ensures.copied, c.deref.ensures.value, take_rest)
    (drop_split c.self.inside.at c.copy_front-count.result c.self.inside.bytes.items)
