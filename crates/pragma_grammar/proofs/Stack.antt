-- The code's list of open phrases, whose last one is the innermost.
use Rattle.std.proofs.Common.{◌≡◌, ℕ, suc, ◌-◌, List, [], ◌∷◌, ◌++◌, length, Option, Some, None, refl, sym, ap, ◌∙◌, subst, arith}
use Rattle.std.specs.Prelude.{slice_get}
use Rattle.pragma_grammar.specs.declared.open_phrase.Open.{Open}
use Rattle.pragma_grammar.specs.declared.open_phrase.Open.TheVariants as o
use Rattle.pragma_grammar.specs.Stands.{KeptOpen, phrase, onto, phrases, asks}

asks_head : (o : Open) (k : List KeptOpen) → asks (phrase o ∷ k) ≡ asks (phrase o ∷ [])
asks_head (o.Sign at op) k = refl
asks_head (o.Casts at ty) k = refl
asks_head (o.Left left at op) k = refl
asks_head (o.Round at) k = refl
asks_head (o.Square name at subscripts) k = refl
asks_head (o.Test test at) k = refl
asks_head (o.Other test at second) k = refl

some_same : {X : Type 0} {a b : X} → Some a ≡ Some b → a ≡ b
some_same q = cc

asks_onto : (xs : List Open) (k : List KeptOpen) (o : Open) → slice_get xs (length xs - 1) ≡ Some o → asks (onto xs k) ≡ asks (phrase o ∷ [])
asks_onto [] k o q = absurd (let z : None ≡ Some o = q in cc)
asks_onto (x ∷ []) k o q = asks_head x k ∙ ap (λ z. asks (phrase z ∷ [])) (some_same q)
asks_onto (x ∷ y ∷ ys) k o q =
    let e : length (x ∷ y ∷ ys) - 1 ≡ suc (length (y ∷ ys) - 1) = omega arith in
    asks_onto (y ∷ ys) (phrase x ∷ k) o (sym (ap (slice_get (x ∷ y ∷ ys)) e) ∙ q)

-- the innermost phrase says which row is asked for
pub asks_last : (xs : List Open) (o : Open) → slice_get xs (length xs - 1) ≡ Some o → asks (phrases xs) ≡ asks (phrase o ∷ [])
asks_last xs o q = asks_onto xs [] o q

onto_push : (xs : List Open) (k : List KeptOpen) (o : Open) → onto (xs ++ o ∷ []) k ≡ phrase o ∷ onto xs k
onto_push [] k o = refl
onto_push (x ∷ xs) k o = onto_push xs (phrase x ∷ k) o

-- a phrase put last is the innermost
pub pushed : (old new : List Open) (o : Open) → new ≡ old ++ o ∷ [] → phrases new ≡ phrase o ∷ phrases old
pushed old new o q = ap phrases q ∙ onto_push old [] o
