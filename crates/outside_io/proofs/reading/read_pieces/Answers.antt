use Rattle.std.proofs.Common.{◌≡◌, ℕ, ◌+◌, arith, drop}
use Rattle.std.proofs.lemmas.List.{length-take}
use Rattle.outside_io.proofs.ReadingSteps.{handed_more, length-piece, lost_more}
use Rattle.outside_io.proofs.reading.read_pieces.Goals as goal

-- a total above the limit is one above it, since no more was asked for
pub returns-then-total-limit-clause-one_more : goal.returns-then-total-limit-clause-one_more
returns-then-total-limit-clause-one_more g c =
    let one_above : c.loop-count.total + c.in_ok-count.count ≡ c.args.limit + 1 = omega (arith, length-take {A = ℕ}, c.in_ok-count.ensures.fits) in
    λ _. rw (← one_above) (lost_more _ _ _ _ _ _ _ _ c.in_ok-count.ensures.fits c.loop-count.invariant.0 c.in_ok-count.ensures.bytes)

pub returns-then-total-limit-clause-at_most : goal.returns-then-total-limit-clause-at_most
returns-then-total-limit-clause-at_most g c = (
  _,
  omega (arith, length-take {A = ℕ}, c.in_ok-count.ensures.fits),
  lost_more _ _ _ _ _ c.loop-count.total c.in_ok-count.count _ c.in_ok-count.ensures.fits c.loop-count.invariant.0 c.in_ok-count.ensures.bytes,
)

pub returns-in_err-take-clause-at_most : goal.returns-in_err-take-clause-at_most
returns-in_err-take-clause-at_most g c = (
  _,
  omega arith,
  lost_more _ _ _ _ _ c.loop-count.total c.in_ok-count.count _ c.in_ok-count.ensures.fits c.loop-count.invariant.0 c.in_ok-count.ensures.bytes,
)

pub loop-count-preserved : goal.loop-count-preserved
loop-count-preserved g c =
    let fits = c.in_ok-count.ensures.fits in
    let behind = drop c.min-room.result c.loop-count.buffer in (
      handed_more _ _ _ _ _ _ c.loop-count.total _ _ behind fits c.loop-count.invariant.0 c.in_ok-count.ensures.bytes c.in_ok-take.ensures.taken,
      omega (arith, length-piece c.in_ok-count.count c.read_piece.new.buffer behind fits, c.in_ok-take.ensures.count),
      omega arith,
      omega (arith, c.in_ok-count.ensures.faults),
    )
