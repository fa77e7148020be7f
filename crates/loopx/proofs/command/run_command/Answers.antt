-- The words of a run, and those that ask for none.
use Rattle.std.proofs.Common.{◌≡◌, ℕ, List, ◌∷◌, codes}
use Rattle.loopx.specs.Words.{AllNumbers, Command, translate, run, Asks}
use Rattle.loopx.proofs.Numbers.{all_of_numbers}
use Rattle.loopx.proofs.command.run_command.Goals as goal

asks_for_no_run : (first : List ℕ) (rest : List (List ℕ)) → (AllNumbers rest → ⊥) → (command : Command) → Asks (codes "run" ∷ first ∷ rest) command → ⊥
asks_for_no_run first rest none translate asks = cc
asks_for_no_run first rest none (run bound numbers) asks =
    let same : rest ≡ asks.1 = cc in none (rw same (all_of_numbers asks.1 numbers asks.4))

pub returns-else-all_numbers-clause-none : goal.returns-else-all_numbers-clause-none
returns-else-all_numbers-clause-none c = asks_for_no_run _ _ (λ all. let t = c.all_numbers.ensures.1 all in let f = c.if-all_numbers.false in cc)
