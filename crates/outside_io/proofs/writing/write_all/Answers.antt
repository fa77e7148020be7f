use Rattle.std.proofs.Common.{◌++◌, take, arith}
use Rattle.std.proofs.lemmas.List.{take_rest}
use Rattle.outside_io.proofs.Pieces.{append_split}
use Rattle.outside_io.proofs.SinkBytes.{Gains-append}
use Rattle.outside_io.proofs.writing.write_all.Goals as goal

-- what this write took comes behind what was written before
pub loop-rest-preserved : goal.loop-rest-preserved
loop-rest-preserved g c =
    let before = c.loop-rest.invariant in
    let count = c.in-Took.count in
    let rest = c.loop-rest.rest.now in (
      before.0 ++ take count rest,
      rw take_rest (append_split count _ before.0 rest before.1),
      Gains-append _ _ _ before.0 _ before.2 c.in-Took.ensures.bytes,
      omega arith,
    )
