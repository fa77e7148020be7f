-- Tokens have at most one answer: one tree, one place where it is too deep, or one blame.
use Rattle.std.proofs.Common.{◌≡◌, refl, sym, ap, ◌∙◌, subst, ℕ, ◌⊎◌, inl, inr, List, [], ◌∷◌, ◌++◌, Some, append_assoc}
use Rattle.c_tree.specs.Placed.{Program}
use Rattle.c_lexer.specs.declared.token.Token.{Token}
use Rattle.pragma_grammar.specs.declared.phrase.ParseKind.{ParseKind}
use Rattle.pragma_grammar.specs.Symbols.{symbols}
use Rattle.pragma_grammar.specs.Reading.{blamed_as}
use Rattle.c_grammar.specs.Programs.{Started, tops_of, SpellsItems, Spells}
use Rattle.c_grammar.specs.Reading.{Blame, deep_items, IsTree, IsTooDeep}
use Rattle.c_grammar.proofs.Classes.{none_some}
use Rattle.c_grammar.proofs.OneProgram.{one_spelled}

spells_of : (items : List Started) (tokens : List Token) → SpellsItems items tokens → Spells (tops_of items) tokens
spells_of items tokens h = record { items = items; spelled = h; same = refl }

-- tokens that are blamed spell no program
blame_apart : (tokens : List Token) (kind : ParseKind) (place : ℕ) (program : Program) → Blame tokens kind place → Spells program tokens → ⊥
blame_apart tokens kind place program b s = b.none program b.rest (subst (Spells program) b.parts s)

pub tree_or_blame : (tokens : List Token) (program : Program) (kind : ParseKind) (place : ℕ) → IsTree tokens program → Blame tokens kind place → ⊥
tree_or_blame tokens program kind place t b = blame_apart tokens kind place (tops_of t.0) b (spells_of t.0 tokens t.1)

pub deep_or_blame : (tokens : List Token) (kind : ParseKind) (place other : ℕ) → IsTooDeep tokens other → Blame tokens kind place → ⊥
deep_or_blame tokens kind place other d b = blame_apart tokens kind place (tops_of d.0) b (spells_of d.0 tokens d.1)

pub tree_or_deep : (tokens : List Token) (program : Program) (place : ℕ) → IsTree tokens program → IsTooDeep tokens place → ⊥
tree_or_deep tokens program place t d = none_some (sym t.3 ∙ ap deep_items (one_spelled t.0 d.0 (symbols tokens) t.1 d.1) ∙ d.2)

same_place : {m n : ℕ} → Some m ≡ Some n → m ≡ n
same_place q = cc

pub one_deep : (tokens : List Token) (place other : ℕ) → IsTooDeep tokens place → IsTooDeep tokens other → place ≡ other
one_deep tokens place other c d = same_place (sym c.2 ∙ ap deep_items (one_spelled c.0 d.0 (symbols tokens) c.1 d.1) ∙ d.2)

-- ---- two blames

record Same (xs ys : List Token) (t u : Token) (rs ss : List Token) : Type 0 where
  before : xs ≡ ys
  token : t ≡ u
  rest : rs ≡ ss

record Longer (xs : List Token) (t : Token) (ys : List Token) : Type 0 where
  between : List Token
  parts : ys ≡ xs ++ t ∷ between

same_first : (x y : Token) {xs ys : List Token} → x ∷ xs ≡ y ∷ ys → (x ≡ y) × (xs ≡ ys)
same_first x y q = (cc, cc)

longer_by : (x y : Token) (xs : List Token) (t : Token) (ys : List Token) → x ≡ y → Longer xs t ys → Longer (x ∷ xs) t (y ∷ ys)
longer_by x y xs t ys q l = record { between = l.between; parts = ap (λ z. z ∷ ys) (sym q) ∙ ap (λ z. x ∷ z) l.parts }

cut : (xs ys : List Token) (t u : Token) (rs ss : List Token) → xs ++ t ∷ rs ≡ ys ++ u ∷ ss → Same xs ys t u rs ss ⊎ (Longer xs t ys ⊎ Longer ys u xs)
cut [] [] t u rs ss q = let s = same_first t u q in inl (record { before = refl; token = s.0; rest = s.1 })
cut [] (y ∷ ys) t u rs ss q = let s = same_first t y q in inr (inl (record { between = ys; parts = ap (λ z. z ∷ ys) (sym s.0) }))
cut (x ∷ xs) [] t u rs ss q = let s = same_first x u q in inr (inr (record { between = xs; parts = ap (λ z. z ∷ xs) s.0 }))
cut (x ∷ xs) (y ∷ ys) t u rs ss q = let s = same_first x y q in cut_more (cut xs ys t u rs ss s.1) s.0
  where
    cut_more : Same xs ys t u rs ss ⊎ (Longer xs t ys ⊎ Longer ys u xs) → x ≡ y → Same (x ∷ xs) (y ∷ ys) t u rs ss ⊎ (Longer (x ∷ xs) t (y ∷ ys) ⊎ Longer (y ∷ ys) u (x ∷ xs))
    cut_more (inl s) e = inl (record { before = ap (λ z. z ∷ xs) e ∙ ap (λ z. y ∷ z) s.before; token = s.token; rest = s.rest })
    cut_more (inr (inl l)) e = inr (inl (longer_by x y xs t ys e l))
    cut_more (inr (inr l)) e = inr (inr (longer_by y x ys u xs (sym e) l))

-- what was read before a blamed token begins a program, so no earlier token is blamed
no_longer : (tokens : List Token) (k l : ParseKind) (m n : ℕ) (b : Blame tokens k m) (c : Blame tokens l n) → Longer b.before b.token c.before → ⊥
no_longer tokens k l m n b c x =
    let begun = c.begins in
    b.none begun.program (x.between ++ begun.more)
    (subst (Spells begun.program) (append_assoc b.before (b.token ∷ x.between) begun.more) (subst (λ z. Spells begun.program (z ++ begun.more)) x.parts begun.spells))

pub one_blame : (tokens : List Token) (k l : ParseKind) (m n : ℕ) → Blame tokens k m → Blame tokens l n → (k ≡ l) × (m ≡ n)
one_blame tokens k l m n b c = go (cut b.before c.before b.token c.token b.rest c.rest (sym b.parts ∙ c.parts))
  where
    go : Same b.before c.before b.token c.token b.rest c.rest ⊎ (Longer b.before b.token c.before ⊎ Longer c.before c.token b.before) → (k ≡ l) × (m ≡ n)
    go (inl s) = (b.of_kind ∙ ap (λ t. blamed_as t b.rest) s.token ∙ ap (blamed_as c.token) s.rest ∙ sym c.of_kind, b.at_place ∙ ap (λ t. t.span.start) s.token ∙ sym c.at_place)
    go (inr (inl x)) = absurd (no_longer tokens k l m n b c x)
    go (inr (inr x)) = absurd (no_longer tokens l k n m c b x)
