-- The grammar of directives (OpenMP 6.0, directive syntax and the loop-transforming constructs), read as in Expressions.
use Rattle.std.specs.Prelude.{◌≡◌, Bool, true, false, List, [], ◌∷◌, Some, None, IsTrue}
use Rattle.c_tree.specs.Bare.{Name}
use Rattle.c_tree.specs.Placed.{Expr, Exprs, no_exprs, Count, fill, given, Directive, directive, Clauses, no_clauses, more_clauses, clause, ClauseKind, sizes, permutation, counts, looprange, full, partial, apply, Items, no_items, more_items, Item, nothing, acts}
use Rattle.c_tree.specs.declared.tree.Span.{Span}
use Rattle.c_tree.specs.declared.tree.Kind.{Kind}
use Rattle.c_lexer.specs.declared.token.Punct.TheVariants.{RoundOpen, RoundClose, Comma, Colon}
use Rattle.c_lexer.specs.declared.words.Keyword.TheVariants.{OmpFill}
use Rattle.pragma_grammar.specs.declared.words.ClauseWord.TheVariants as word
use Rattle.pragma_grammar.specs.Symbols.{Symbol, name, punct, keyword, spanning}
use Rattle.pragma_grammar.specs.Words.{kind_of, clause_of, is_nothing}
use Rattle.pragma_grammar.specs.Expressions.{Phrase, Listed}

-- an element of `counts`
pub data Counted : Count → List Symbol → List Symbol → Type 0 where
  fills : {a : Span} {ts : List Symbol} → Counted (fill a) (keyword OmpFill a ∷ ts) ts
  gives : {e : Expr} {w : Span} {ts us : List Symbol} → Phrase 0 e w ts us → Counted (given e) ts us

pub data CountsListed : List Count → List Symbol → List Symbol → Type 0 where
  last_count : {c : Count} {ts us : List Symbol} → Counted c ts us → CountsListed (c ∷ []) ts us
  next_count : {c : Count} {cs : List Count} {z : Span} {ts us vs : List Symbol} → Counted c ts (punct Comma z ∷ us) → CountsListed cs us vs → CountsListed (c ∷ cs) ts vs

-- `ClausePhrase kind w ts us`: a clause, which stands at `w`.
-- `ClausesPhrase commas cs a z ts us`: clauses after a token at `a`, the last token of all at `z`; a comma may stand
-- before each where `commas` holds.
-- `DirectivePhrase commas d ts us`: a directive from its name on.
-- An item of `apply` is `nothing` or a directive without commas between its clauses, since a comma there ends the item.
-- A name is the modifier where `:` or `(` follows it.
mutual
  pub data ClausePhrase : ClauseKind → Span → List Symbol → List Symbol → Type 0 where
    sizes_clause : {x : Name} {es : Exprs} {a b z : Span} {ts us : List Symbol} → clause_of x ≡ Some word.Sizes → Listed es ts (punct RoundClose z ∷ us) → ClausePhrase (sizes es) (spanning a z) (name x a ∷ punct RoundOpen b ∷ ts) us
    permutation_clause : {x : Name} {es : Exprs} {a b z : Span} {ts us : List Symbol} → clause_of x ≡ Some word.Permutation → Listed es ts (punct RoundClose z ∷ us) → ClausePhrase (permutation es) (spanning a z) (name x a ∷ punct RoundOpen b ∷ ts) us
    counts_clause : {x : Name} {cs : List Count} {a b z : Span} {ts us : List Symbol} → clause_of x ≡ Some word.Counts → CountsListed cs ts (punct RoundClose z ∷ us) → ClausePhrase (counts cs) (spanning a z) (name x a ∷ punct RoundOpen b ∷ ts) us
    looprange_clause : {x : Name} {e f : Expr} {a b c v w z : Span} {ts us vs : List Symbol} → clause_of x ≡ Some word.LoopRange → Phrase 0 e v ts (punct Comma c ∷ us) → Phrase 0 f w us (punct RoundClose z ∷ vs) → ClausePhrase (looprange e f) (spanning a z) (name x a ∷ punct RoundOpen b ∷ ts) vs
    full_clause : {x : Name} {a : Span} {ts : List Symbol} → clause_of x ≡ Some word.Full → ClausePhrase full a (name x a ∷ ts) ts
    partial_clause : {x : Name} {a : Span} {ts : List Symbol} → clause_of x ≡ Some word.Partial → ClausePhrase (partial None) a (name x a ∷ ts) ts
    partial_factor : {x : Name} {e : Expr} {a b w z : Span} {ts us : List Symbol} → clause_of x ≡ Some word.Partial → Phrase 0 e w ts (punct RoundClose z ∷ us) → ClausePhrase (partial (Some e)) (spanning a z) (name x a ∷ punct RoundOpen b ∷ ts) us
    apply_items : {x : Name} {is : Items} {a b z : Span} {ts us : List Symbol} → clause_of x ≡ Some word.Apply → ItemsListed is ts (punct RoundClose z ∷ us) → ClausePhrase (apply None no_exprs is) (spanning a z) (name x a ∷ punct RoundOpen b ∷ ts) us
    apply_modified : {x m : Name} {is : Items} {a b c d z : Span} {ts us : List Symbol} → clause_of x ≡ Some word.Apply → ItemsListed is ts (punct RoundClose z ∷ us) → ClausePhrase (apply (Some m) no_exprs is) (spanning a z) (name x a ∷ punct RoundOpen b ∷ name m c ∷ punct Colon d ∷ ts) us
    apply_indexed : {x m : Name} {es : Exprs} {is : Items} {a b c d e f z : Span} {ts us vs : List Symbol} → clause_of x ≡ Some word.Apply → Listed es ts (punct RoundClose e ∷ punct Colon f ∷ us) → ItemsListed is us (punct RoundClose z ∷ vs) → ClausePhrase (apply (Some m) es is) (spanning a z) (name x a ∷ punct RoundOpen b ∷ name m c ∷ punct RoundOpen d ∷ ts) vs

  pub data ClausesPhrase : Bool → Clauses → Span → Span → List Symbol → List Symbol → Type 0 where
    no_clause : {commas : Bool} {a : Span} {ts : List Symbol} → ClausesPhrase commas no_clauses a a ts ts
    one_clause : {commas : Bool} {kind : ClauseKind} {cs : Clauses} {a w z : Span} {ts us vs : List Symbol} → ClausePhrase kind w ts us → ClausesPhrase commas cs w z us vs → ClausesPhrase commas (more_clauses (clause kind w) cs) a z ts vs
    after_comma : {kind : ClauseKind} {cs : Clauses} {a b w z : Span} {ts us vs : List Symbol} → ClausePhrase kind w ts us → ClausesPhrase true cs w z us vs → ClausesPhrase true (more_clauses (clause kind w) cs) a z (punct Comma b ∷ ts) vs

  pub data DirectivePhrase : Bool → Directive → List Symbol → List Symbol → Type 0 where
    directive_phrase : {commas : Bool} {x : Name} {kind : Kind} {cs : Clauses} {a z : Span} {ts us : List Symbol} → kind_of x ≡ Some kind → ClausesPhrase commas cs a z ts us → DirectivePhrase commas (directive kind cs (spanning a z)) (name x a ∷ ts) us

  pub data ItemPhrase : Item → List Symbol → List Symbol → Type 0 where
    does_nothing : {x : Name} {a : Span} {ts : List Symbol} → IsTrue (is_nothing x) → ItemPhrase (nothing a) (name x a ∷ ts) ts
    directs : {d : Directive} {ts us : List Symbol} → DirectivePhrase false d ts us → ItemPhrase (acts d) ts us

  pub data ItemsListed : Items → List Symbol → List Symbol → Type 0 where
    last_item : {i : Item} {ts us : List Symbol} → ItemPhrase i ts us → ItemsListed (more_items i no_items) ts us
    next_item : {i : Item} {is : Items} {z : Span} {ts us vs : List Symbol} → ItemPhrase i ts (punct Comma z ∷ us) → ItemsListed is us vs → ItemsListed (more_items i is) ts vs
