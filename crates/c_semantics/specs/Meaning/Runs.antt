-- What a statement does to a state and how it ends, and the ways to put such meanings together (C11 6.8): blocks, the
-- jumps `break` and `continue`, and loops with a bound on their turns.
use Rattle.std.specs.Prelude.{ℕ, zero, suc, length, Result, Ok, Err, Bool, true, false}
use Rattle.c_semantics.specs.Meaning.State.{State, keep, count_turn, with_frame}
use Rattle.c_tree.specs.declared.arithmetic.Trap.{Trap}

-- how a statement ends; Cut where a loop asks for a turn beyond the bound
pub data End : Type 0 where
  Next : End
  Break : End
  Continue : End
  Trapped : Trap → End
  Cut : End

-- where a statement ends, and how
pub record Run : Type 0 where
  pub state : State
  pub end : End

-- what a statement does
abbrev pub Meaning : Type 0
Meaning = State → Run

abbrev pub ends : End → Meaning
ends e s = record { state = s; end = e }

-- ---- one after another

abbrev pub on_next : End → State → Meaning → Run
on_next Next s go = go s
on_next e s go = ends e s

-- goes on where the first ends Next
abbrev pub then_do : Run → Meaning → Run
then_do r go = on_next r.end r.state go

-- goes on with a value
abbrev pub with_value : {A : Type 0} → Result A Trap → State → (A → Run) → Run
with_value (Err t) s go = ends (Trapped t) s
with_value (Ok a) s go = go a

-- chooses before it runs
abbrev pub choose : Bool → Meaning → Meaning → Meaning
choose true a b s = a s
choose false a b s = b s

-- a test: goes on one way or the other
abbrev pub ask : Result Bool Trap → Meaning → Meaning → Meaning
ask (Err t) f g s = ends (Trapped t) s
ask (Ok b) f g s = choose b f g s

-- ---- blocks

-- drops what was declared since the state s
abbrev pub leave : State → Run → Run
leave s r = record { state = with_frame (keep (length s.frame) r.state.frame) r.state; end = r.end }

abbrev pub in_block : Meaning → Meaning
in_block f s = leave s (f s)

-- ---- loops

-- `continue` ends one turn
abbrev pub turn_end : End → End
turn_end Continue = Next
turn_end e = e

-- `break` ends the loop
abbrev pub loop_end : End → End
loop_end Break = Next
loop_end e = e

abbrev pub with_end : (End → End) → Run → Run
with_end f r = record { state = r.state; end = f r.end }

-- k more turns at most: the test is asked before each, and once more after the last
abbrev pub repeat : ℕ → (State → Result Bool Trap) → Meaning → Meaning
repeat zero test turn s = ask (test s) (ends Cut) (ends Next) s
repeat (suc k) test turn s = ask (test s) (λ u. then_do (turn u) (repeat k test turn)) (ends Next) s

-- of a `do` loop the first turn is due without a test
abbrev pub repeat_after : ℕ → (State → Result Bool Trap) → Meaning → Meaning
repeat_after zero test turn s = ends Cut s
repeat_after (suc k) test turn s = then_do (turn s) (repeat k test turn)

-- a turn: the body as a block
abbrev pub turn_of : Meaning → Meaning
turn_of f s = with_end turn_end (in_block f s)

-- a turn of a `for`: counted, then the body, then the head's last part
abbrev pub for_turn : Meaning → Meaning → Meaning
for_turn f next s = then_do (turn_of f (count_turn s)) next

abbrev pub while_loop : ℕ → (State → Result Bool Trap) → Meaning → Meaning
while_loop n test turn s = with_end loop_end (repeat n test turn s)

abbrev pub do_loop : ℕ → (State → Result Bool Trap) → Meaning → Meaning
do_loop n test turn s = with_end loop_end (repeat_after n test turn s)
