-- What a sink holds over several writes.
use Rattle.std.proofs.Common.{ℕ, List, [], ◌++◌, Option, None, Some, refl, sym, ap, ◌∙◌, append_assoc, append-nil}
use Rattle.outside_io.specs.Bytes.{Gains, GainsPrefix}

pub Gains-nil : (a : Option (List ℕ)) → Gains a a []
Gains-nil None = tt
Gains-nil (Some xs) = sym (append-nil xs)

pub Gains-append : (a b c : Option (List ℕ)) (bs cs : List ℕ) → Gains a b bs → Gains b c cs → Gains a c (bs ++ cs)
Gains-append a b None bs cs first second = tt
Gains-append a None (Some zs) bs cs first second = absurd second
Gains-append None (Some ys) (Some zs) bs cs first second = absurd first
Gains-append (Some xs) (Some ys) (Some zs) bs cs first second =
    second ∙ ap (λ l. l ++ cs) first ∙ append_assoc xs bs cs

-- a first part is one of a longer text too
pub GainsPrefix-longer : (a b : Option (List ℕ)) (bs cs : List ℕ) → GainsPrefix a b bs → GainsPrefix a b (bs ++ cs)
GainsPrefix-longer a b bs cs (taken, (rest, is), gains) =
    (taken, (rest ++ cs, ap (λ l. l ++ cs) is ∙ append_assoc taken rest cs), gains)

-- a text that was written whole, and then a first part of another
pub GainsPrefix-append : (a b c : Option (List ℕ)) (bs cs : List ℕ) → Gains a b bs → GainsPrefix b c cs → GainsPrefix a c (bs ++ cs)
GainsPrefix-append a b c bs cs first (taken, (rest, is), second) =
    (bs ++ taken, (rest, ap (λ l. bs ++ l) is ∙ sym (append_assoc bs taken rest)), Gains-append a b c bs taken first second)

-- nothing was written
pub GainsPrefix-nil : (a : Option (List ℕ)) (bs : List ℕ) → GainsPrefix a a bs
GainsPrefix-nil a bs = ([], (bs, refl), Gains-nil a)

-- a text that was written whole
pub GainsPrefix-whole : (a b : Option (List ℕ)) (bs : List ℕ) → Gains a b bs → GainsPrefix a b bs
GainsPrefix-whole a b bs gains = (bs, ([], sym (append-nil bs)), gains)
