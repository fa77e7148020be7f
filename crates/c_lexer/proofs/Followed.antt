-- Moves one after another.
use Rattle.std.proofs.Common.{◌≡◌, ℕ, ◌+◌, ◌<◌, List, ◌∷◌, ◌++◌, length, drop, get_or, sym, ap, ◌∙◌, append_assoc, add-one, arith}
use Rattle.std.proofs.Math.Seq.{drop-cons}
use Rattle.std.specs.Prelude.{Result, Ok, Err, OnOk}
use Rattle.c_lexer.specs.declared.machine.Machine.{Machine}
use Rattle.c_lexer.specs.declared.token.Token.{Token}
use Rattle.c_lexer.specs.Machine.{Move, gives, step}
use Rattle.c_lexer.specs.Running.{Follows, IsKept, state_of, run}

-- a move after tokens
pub gives_follows : {A E : Type 0} (r : Result A E) (old mid new : Machine) (ts : List Token) (n m : Move) → mid.tokens.1 ≡ old.tokens.1 ++ ts → n ≡ m →
    OnOk r (Follows mid new n) → OnOk r (Follows old new (gives ts m))
gives_follows (Ok x) old mid new ts n m e f h = record {
  whole = h.whole ∙ ap (λ z. z ++ n.whole) e ∙ append_assoc old.tokens.1 ts n.whole ∙ ap (λ z. old.tokens.1 ++ (ts ++ z.whole)) f;
  next = h.next ∙ ap (λ z. z.next) f;
}
gives_follows (Err x) old mid new ts n m e f h = tt

pub gives_gives : (ts us : List Token) (m : Move) → gives ts (gives us m) ≡ gives (ts ++ us) m
gives_gives ts us m = ap (λ z. record { whole = z; next = m.next }) (sym (append_assoc ts us m.whole))

-- a run by one more byte
pub run_more : (mid new : Machine) (at i : ℕ) (piece : List ℕ) → i < length piece → Follows mid new (step (state_of mid) (at + i) (get_or piece i 0)) →
    gives new.tokens.1 (run (state_of new) (at + (i + 1)) (drop (i + 1) piece)) ≡ gives mid.tokens.1 (run (state_of mid) (at + i) (drop i piece))
run_more mid new at i piece h f =
    let b = get_or piece i 0 in
    let m = step (state_of mid) (at + i) b in
    let rest = drop (i + 1) piece in
    let place : at + (i + 1) ≡ (at + i) + 1 = omega arith in
    let cut : drop i piece ≡ b ∷ rest = rw add-one (drop-cons piece i 0 h) in
    ap (λ z. gives z (run (state_of new) (at + (i + 1)) rest)) f.whole ∙
    ap (λ z. gives (mid.tokens.1 ++ m.whole) (run z (at + (i + 1)) rest)) f.next ∙
    ap (λ z. gives (mid.tokens.1 ++ m.whole) (run m.next z rest)) place ∙
    sym (gives_gives mid.tokens.1 m.whole (run m.next ((at + i) + 1) rest)) ∙
    ap (λ z. gives mid.tokens.1 (run (state_of mid) (at + i) z)) (sym cut)

pub kept_more : {old mid new : Machine} → IsKept old mid → IsKept mid new → IsKept old new
kept_more h k = record { tokens = k.tokens ∙ h.tokens; text = k.text ∙ h.text }
