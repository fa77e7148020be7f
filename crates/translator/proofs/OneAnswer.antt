-- A text has one answer: it is accepted, or refused in one way; only want of memory may stand in its place.
use Rattle.std.proofs.Common.{◌≡◌, ℕ, List, Option, Some, None, refl, sym, subst, ◌∙◌, ap}
use Rattle.c_tree.specs.Placed as placed
use Rattle.c_tree.specs.NameRules.BreachSets.{least}
use Rattle.c_tree.specs.NameRules.Programs.{breaches}
use Rattle.c_tree.specs.declared.name_rule.Breach.{Breach}
use Rattle.c_tree.specs.declared.name_rule.NameRule.{NameRule}
use Rattle.c_lexer.specs.Cut.{Cut, FirstFault}
use Rattle.c_lexer.specs.declared.token.LexKind.{LexKind}
use Rattle.c_lexer.specs.declared.token.Token.{Token}
use Rattle.c_lexer.proofs.Standing.{cut_once, fault_once, not_both}
use Rattle.pragma_grammar.specs.declared.phrase.ParseKind.{ParseKind}
use Rattle.pragma_grammar.specs.declared.phrase.ParseKind.TheVariants.{Syntax, Outside, TooDeep}
use Rattle.c_grammar.specs.Reading.{IsTree, IsTooDeep, Blame}
use Rattle.c_grammar.proofs.OneProgram.{one_program}
use Rattle.c_grammar.proofs.OneAnswer.{one_blame, one_deep, tree_or_blame, tree_or_deep, deep_or_blame}
use Rattle.canonical_nests.specs.LoopRules.BreachSets as loop_rules
use Rattle.canonical_nests.specs.LoopRules.Programs.{breaches as loop_breaches}
use Rattle.canonical_nests.specs.declared.rules.LoopBreach.{LoopBreach}
use Rattle.canonical_nests.specs.declared.rules.LoopRule.{LoopRule}
use Rattle.translator.proofs.Breaches.{unbroken}
use Rattle.translator.proofs.Unbroken.{unbroken_loops}
use Rattle.translator.specs.Answers.{SpellsChecked, SpellsAdmitted, IsBuilt, TokensRefused, IsRefused, IsAccepted, IsAdmittedText, IsCause, IsOfRules}
use Rattle.translator.specs.Unbuilt.{first_unbuilt}
use Rattle.translator.specs.declared.refusal.Refusal.{Refusal}
use Rattle.translator.specs.declared.refusal.Refusal.TheVariants.{Lex, Parse, Names, Loops, NotBuilt, Memory}

one_tree : (tokens : List Token) (p q : placed.Program) → IsTree tokens p → IsTree tokens q → p ≡ q
one_tree tokens p q h k = one_program p q tokens (record { items = h.0; spelled = h.1; same = sym h.2 }) (record { items = k.0; spelled = k.1; same = sym k.2 })

-- a refusal of a text that was cut into tokens is one of these
by_tokens : (text : List ℕ) (tokens : List Token) → Cut text tokens → (r : Refusal) → IsCause r → IsRefused r text → TokensRefused r tokens
by_tokens text tokens cut (Lex kind place) c h = absurd (not_both text tokens kind place cut h)
by_tokens text tokens cut (Parse kind place) c h = subst (TokensRefused (Parse kind place)) (cut_once text h.0 tokens h.1 cut) h.2
by_tokens text tokens cut (Names rule place) c h = subst (TokensRefused (Names rule place)) (cut_once text h.0 tokens h.1 cut) h.2
by_tokens text tokens cut (Loops rule place) c h = subst (TokensRefused (Loops rule place)) (cut_once text h.0 tokens h.1 cut) h.2
by_tokens text tokens cut (NotBuilt place) c h = subst (TokensRefused (NotBuilt place)) (cut_once text h.0 tokens h.1 cut) h.2
by_tokens text tokens cut Memory c h = absurd c

-- ---- a program and a cause exclude each other

-- a tree and a refusal of the parser exclude each other
parse_apart : (tokens : List Token) (p : placed.Program) (k : ParseKind) (m : ℕ) → IsTree tokens p → TokensRefused (Parse k m) tokens → ⊥
parse_apart tokens p TooDeep m t h = tree_or_deep tokens p m t h
parse_apart tokens p Syntax m t h = tree_or_blame tokens p Syntax m t h
parse_apart tokens p Outside m t h = tree_or_blame tokens p Outside m t h

names_apart : (tokens : List Token) (p q : placed.Program) (b : Breach) → IsTree tokens p → least (breaches p) ≡ Some b → SpellsChecked tokens q → ⊥
names_apart tokens p q b t h s = unbroken (breaches q) b s.names (subst (λ z. least (breaches z) ≡ Some b) (one_tree tokens p q t s.tree) h)

loops_apart : (tokens : List Token) (p q : placed.Program) (b : LoopBreach) → IsTree tokens p → loop_rules.least (loop_breaches p) ≡ Some b → SpellsAdmitted tokens q → ⊥
loops_apart tokens p q b t h s = unbroken_loops (loop_breaches q) b s.loops (subst (λ z. loop_rules.least (loop_breaches z) ≡ Some b) (one_tree tokens p q t s.checked.tree) h)

admitted_tokens : (tokens : List Token) (p : placed.Program) → SpellsAdmitted tokens p → (r : Refusal) → IsCause r → IsOfRules r → TokensRefused r tokens → ⊥
admitted_tokens tokens p s (Lex kind place) c o h = h
admitted_tokens tokens p s (Parse kind place) c o h = parse_apart tokens p kind place s.checked.tree h
admitted_tokens tokens p s (Names rule place) c o h = names_apart tokens h.0 p (record { place = place; rule = rule }) h.1 h.2 s.checked
admitted_tokens tokens p s (Loops rule place) c o h = loops_apart tokens h.0 p (record { place = place; rule = rule }) h.1.tree h.2 s
admitted_tokens tokens p s (NotBuilt place) c o h = o
admitted_tokens tokens p s Memory c o h = c

pub admitted_or_refused : (text : List ℕ) (p : placed.Program) → IsAdmittedText text p → (r : Refusal) → IsCause r → IsOfRules r → IsRefused r text → ⊥
admitted_or_refused text p a r c o h = admitted_tokens a.0 p a.2 r c o (by_tokens text a.0 a.1 r c h)

built_or_unbuilt : (o : Option ℕ) (place : ℕ) → o ≡ None → o ≡ Some place → ⊥
built_or_unbuilt o place h k = cc

accepted_tokens : (tokens : List Token) (p : placed.Program) → SpellsAdmitted tokens p → IsBuilt p → (r : Refusal) → IsCause r → TokensRefused r tokens → ⊥
accepted_tokens tokens p s b (Lex kind place) c h = h
accepted_tokens tokens p s b (Parse kind place) c h = admitted_tokens tokens p s (Parse kind place) tt tt h
accepted_tokens tokens p s b (Names rule place) c h = admitted_tokens tokens p s (Names rule place) tt tt h
accepted_tokens tokens p s b (Loops rule place) c h = admitted_tokens tokens p s (Loops rule place) tt tt h
accepted_tokens tokens p s b (NotBuilt place) c h = built_or_unbuilt (first_unbuilt h.0) place (subst IsBuilt (one_tree tokens p h.0 s.checked.tree h.1.checked.tree) b) h.2
accepted_tokens tokens p s b Memory c h = c

pub accepted_or_refused : (text : List ℕ) → IsAccepted text → (r : Refusal) → IsCause r → IsRefused r text → ⊥
accepted_or_refused text a r c h = accepted_tokens a.0 a.1 a.3 a.4 r c (by_tokens text a.0 a.2 r c h)

-- ---- tokens are refused in one way

deep_apart : (tokens : List Token) (place : ℕ) (kind : ParseKind) (other : ℕ) → IsTooDeep tokens place → Blame tokens kind other → ⊥
deep_apart tokens place kind other h k = deep_or_blame tokens kind other place h k

same_parse : (kind kind' : ParseKind) (place place' : ℕ) → (kind ≡ kind') × (place ≡ place') → Parse kind place ≡ Parse kind' place'
same_parse kind kind' place place' h = rw (h.0, h.1) refl

parse_once : (tokens : List Token) (k l : ParseKind) (m n : ℕ) → TokensRefused (Parse k m) tokens → TokensRefused (Parse l n) tokens → Parse k m ≡ Parse l n
parse_once tokens TooDeep TooDeep m n h i = ap (λ p. Parse TooDeep p) (one_deep tokens m n h i)
parse_once tokens TooDeep Syntax m n h i = absurd (deep_apart tokens m Syntax n h i)
parse_once tokens TooDeep Outside m n h i = absurd (deep_apart tokens m Outside n h i)
parse_once tokens Syntax TooDeep m n h i = absurd (deep_apart tokens n Syntax m i h)
parse_once tokens Outside TooDeep m n h i = absurd (deep_apart tokens n Outside m i h)
parse_once tokens Syntax Syntax m n h i = same_parse Syntax Syntax m n (one_blame tokens Syntax Syntax m n h i)
parse_once tokens Syntax Outside m n h i = same_parse Syntax Outside m n (one_blame tokens Syntax Outside m n h i)
parse_once tokens Outside Syntax m n h i = same_parse Outside Syntax m n (one_blame tokens Outside Syntax m n h i)
parse_once tokens Outside Outside m n h i = same_parse Outside Outside m n (one_blame tokens Outside Outside m n h i)

-- the refusal by the least breach
named : Option Breach → Refusal
named None = Memory
named (Some b) = Names b.rule b.place

names_once : (rule rule' : NameRule) (place place' : ℕ) (o : Option Breach) → o ≡ Some (record { place = place; rule = rule }) → o ≡ Some (record { place = place'; rule = rule' }) → Names rule place ≡ Names rule' place'
unfolding named
names_once rule rule' place place' o h k =
    let same : Some (record { place = place; rule = rule }) ≡ Some (record { place = place'; rule = rule' }) = sym h ∙ k in
    ap named same

looped : Option LoopBreach → Refusal
looped None = Memory
looped (Some b) = Loops b.rule b.place

loops_once : (rule rule' : LoopRule) (place place' : ℕ) (o : Option LoopBreach) → o ≡ Some (record { place = place; rule = rule }) → o ≡ Some (record { place = place'; rule = rule' }) → Loops rule place ≡ Loops rule' place'
unfolding looped
loops_once rule rule' place place' o h k =
    let same : Some (record { place = place; rule = rule }) ≡ Some (record { place = place'; rule = rule' }) = sym h ∙ k in
    ap looped same

unbuilt_once : (place place' : ℕ) (o : Option ℕ) → o ≡ Some place → o ≡ Some place' → NotBuilt place ≡ NotBuilt place'
unbuilt_once place place' o h k = let same : Some place ≡ Some place' = sym h ∙ k in cc

pub refused_once : (tokens : List Token) (r s : Refusal) → IsCause r → IsCause s → TokensRefused r tokens → TokensRefused s tokens → r ≡ s
refused_once tokens (Lex kind place) s c d h i = absurd h
refused_once tokens r (Lex kind place) c d h i = absurd i
refused_once tokens Memory s c d h i = absurd c
refused_once tokens r Memory c d h i = absurd d
refused_once tokens (Parse k m) (Parse l n) c d h i = parse_once tokens k l m n h i
refused_once tokens (Parse k m) (Names rule place) c d h i = absurd (parse_apart tokens i.0 k m i.1 h)
refused_once tokens (Parse k m) (Loops rule place) c d h i = absurd (parse_apart tokens i.0 k m i.1.tree h)
refused_once tokens (Parse k m) (NotBuilt place) c d h i = absurd (admitted_tokens tokens i.0 i.1 (Parse k m) tt tt h)
refused_once tokens (Names rule place) (Parse k m) c d h i = absurd (parse_apart tokens h.0 k m h.1 i)
refused_once tokens (Names rule place) (Names rule' place') c d h i = names_once rule rule' place place' (least (breaches h.0)) h.2 (subst (λ p. least (breaches p) ≡ Some (record { place = place'; rule = rule' })) (one_tree tokens i.0 h.0 i.1 h.1) i.2)
refused_once tokens (Names rule place) (Loops rule' place') c d h i = absurd (names_apart tokens h.0 i.0 (record { place = place; rule = rule }) h.1 h.2 i.1)
refused_once tokens (Names rule place) (NotBuilt place') c d h i = absurd (admitted_tokens tokens i.0 i.1 (Names rule place) tt tt h)
refused_once tokens (Loops rule place) (Parse k m) c d h i = absurd (parse_apart tokens h.0 k m h.1.tree i)
refused_once tokens (Loops rule place) (Names rule' place') c d h i = absurd (names_apart tokens i.0 h.0 (record { place = place'; rule = rule' }) i.1 i.2 h.1)
refused_once tokens (Loops rule place) (Loops rule' place') c d h i = loops_once rule rule' place place' (loop_rules.least (loop_breaches h.0)) h.2 (subst (λ p. loop_rules.least (loop_breaches p) ≡ Some (record { place = place'; rule = rule' })) (one_tree tokens i.0 h.0 i.1.tree h.1.tree) i.2)
refused_once tokens (Loops rule place) (NotBuilt place') c d h i = absurd (admitted_tokens tokens i.0 i.1 (Loops rule place) tt tt h)
refused_once tokens (NotBuilt place) (Parse k m) c d h i = absurd (admitted_tokens tokens h.0 h.1 (Parse k m) tt tt i)
refused_once tokens (NotBuilt place) (Names rule place') c d h i = absurd (admitted_tokens tokens h.0 h.1 (Names rule place') tt tt i)
refused_once tokens (NotBuilt place) (Loops rule place') c d h i = absurd (admitted_tokens tokens h.0 h.1 (Loops rule place') tt tt i)
refused_once tokens (NotBuilt place) (NotBuilt place') c d h i = unbuilt_once place place' (first_unbuilt h.0) h.2 (subst (λ p. first_unbuilt p ≡ Some place') (one_tree tokens i.0 h.0 i.1.checked.tree h.1.checked.tree) i.2)

-- ---- so are texts

-- a lexical fault is the only cause
lexical_once : (text : List ℕ) (k : LexKind) (m : ℕ) (s : Refusal) → IsCause s → FirstFault text k m → IsRefused s text → Lex k m ≡ s
lexical_once text k m (Lex l n) d h i = let same = fault_once text k l m n h i in rw (same.0, same.1) refl
lexical_once text k m (Parse l n) d h i = absurd (not_both text i.0 k m i.1 h)
lexical_once text k m (Names l n) d h i = absurd (not_both text i.0 k m i.1 h)
lexical_once text k m (Loops l n) d h i = absurd (not_both text i.0 k m i.1 h)
lexical_once text k m (NotBuilt n) d h i = absurd (not_both text i.0 k m i.1 h)
lexical_once text k m Memory d h i = absurd d

pub text_refused_once : (text : List ℕ) (r s : Refusal) → IsCause r → IsCause s → IsRefused r text → IsRefused s text → r ≡ s
text_refused_once text (Lex k m) s c d h i = lexical_once text k m s d h i
text_refused_once text (Parse k m) s c d h i = refused_once h.0 (Parse k m) s c d h.2 (by_tokens text h.0 h.1 s d i)
text_refused_once text (Names k m) s c d h i = refused_once h.0 (Names k m) s c d h.2 (by_tokens text h.0 h.1 s d i)
text_refused_once text (Loops k m) s c d h i = refused_once h.0 (Loops k m) s c d h.2 (by_tokens text h.0 h.1 s d i)
text_refused_once text (NotBuilt m) s c d h i = refused_once h.0 (NotBuilt m) s c d h.2 (by_tokens text h.0 h.1 s d i)
text_refused_once text Memory s c d h i = absurd c
