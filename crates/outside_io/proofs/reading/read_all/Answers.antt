use Rattle.std.proofs.Common.{◌≡◌, []}
use Rattle.outside_io.proofs.ToldText.{IfSome-same}
use Rattle.outside_io.proofs.reading.read_all.Goals as goal

-- the vector stood for no bytes, so now it stands for those that it was handed
pub returns-clause-whole : goal.returns-clause-whole
returns-clause-whole g c =
    let handed = c.in_ok-read_pieces.ensures.handed in
    IfSome-same _ _ (λ text. c.read_pieces.new.taker.items ≡ text) handed.2 (handed.1.taken [] c.new-bytes.ensures.items)
