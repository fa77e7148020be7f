-- What completes the state of a directive that is being read.
use Rattle.std.proofs.Common.{◌≡◌, ◌⊎◌, Bool, true, false, List, [], ◌∷◌, Option, Some, None, refl, sym, ap, subst, inl, inr}
use Rattle.c_tree.specs.Bare.{Name}
use Rattle.c_tree.specs.Placed.{Expr, Exprs, no_exprs, more_exprs, Count, fill, given, Directive, directive, Clauses, no_clauses, more_clauses, clause, ClauseKind, sizes, permutation, counts, looprange, full, partial, apply, Items, no_items, more_items, Item, acts}
use Rattle.c_tree.specs.declared.tree.Span.{Span}
use Rattle.c_lexer.specs.declared.token.Punct.TheVariants.{RoundOpen, RoundClose, Comma, Colon}
use Rattle.c_lexer.specs.declared.words.Keyword.TheVariants.{OmpFill}
use Rattle.pragma_grammar.specs.Symbols.{Symbol, name, punct, keyword, spanning}
use Rattle.pragma_grammar.specs.Expressions.{Phrase, Listed, last, next}
use Rattle.pragma_grammar.specs.Directives.{Counted, fills, gives, CountsListed, last_count, next_count, ClausePhrase, ClausesPhrase, no_clause, one_clause, after_comma, DirectivePhrase, ItemPhrase, ItemsListed, last_item, next_item}
use Rattle.pragma_grammar.specs.Trees.{join, join_last}
use Rattle.pragma_grammar.specs.DirectiveMachine as machine
use Rattle.pragma_grammar.specs.DirectiveMachine.{element, count, range_first, range_count, factor, elements, counted, first, range, factored, Lists}
use Rattle.pragma_grammar.specs.DirectiveTrees.{join_clauses, add_clause, join_items, add_item, join_counts, add_count, trees, Part, Open, Asked, Held, State, Move, take}
use Rattle.pragma_grammar.proofs.Follows.{Reads, Takes, takes}
use Rattle.pragma_grammar.proofs.Steps.{join_more}

-- what a whole directive and the symbols after it meet
abbrev pub Owes : Type 1
Owes = Directive → List Symbol → Type 0

-- what a list whose last token stands at a span, and the symbols after it, meet
abbrev pub Listing : Type 0 → Type 1
Listing L = L → Span → List Symbol → Type 0

abbrev pub part_with : Part → ClauseKind → Span → Part
part_with part kind s = machine.with_clauses trees part (add_clause part.clauses kind s)

-- further clauses stand first, after a token at `z`, and what is left then meets `f`
pub record Rest (f : Owes) (commas : Bool) (part : Part) (z : Span) (ts : List Symbol) : Type 0 where
  pub more : Clauses
  pub last : Span
  pub left : List Symbol
  pub clauses : ClausesPhrase commas more z last ts left
  pub after : f (directive part.kind (join_clauses part.clauses more) (spanning part.at last)) left

-- one clause and further ones
pub record OneMore (f : Owes) (commas : Bool) (part : Part) (ts : List Symbol) : Type 0 where
  pub kind : ClauseKind
  pub stands : Span
  pub left : List Symbol
  pub clause : ClausePhrase kind stands ts left
  pub after : Rest f commas (part_with part kind stands) stands left

-- items stand first, up to the parenthesis that closes them
pub record ItemsRest (g : Listing Items) (is : Items) (ts : List Symbol) : Type 0 where
  pub more : Items
  pub stands : Span
  pub left : List Symbol
  pub listed : ItemsListed more ts (punct RoundClose stands ∷ left)
  pub after : g (join_items is more) stands left

-- after an item
abbrev pub AfterItem : Listing Items → Items → List Symbol → Type 0
AfterItem g is ts = Takes RoundClose (λ z us. g is z us) ts ⊎ Takes Comma (λ z us. ItemsRest g is us) ts

-- one item and further ones
pub record Itemed (g : Listing Items) (is : Items) (ts : List Symbol) : Type 0 where
  pub item : Item
  pub left : List Symbol
  pub phrase : ItemPhrase item ts left
  pub after : AfterItem g (add_item is item) left

pub record ListRest (g : Listing Exprs) (es : Exprs) (ts : List Symbol) : Type 0 where
  pub more : Exprs
  pub stands : Span
  pub left : List Symbol
  pub listed : Listed more ts (punct RoundClose stands ∷ left)
  pub after : g (join es more) stands left

-- after an expression of a list, and where the next one is wanted
abbrev pub AfterExpr : Listing Exprs → Exprs → List Symbol → Type 0
AfterExpr g es ts = Takes RoundClose (λ z us. g es z us) ts ⊎ Takes Comma (λ z us. ListRest g es us) ts

abbrev pub Elements : Listing Exprs → Exprs → List Symbol → Type 0
Elements g es ts = Reads 0 (λ e w us. AfterExpr g (join_last es e) us) ts

-- `omp_fill` stands first
pub data TakesFill (f : Span → List Symbol → Type 0) : List Symbol → Type 0 where
  takes_fill : {z : Span} {ts : List Symbol} → f z ts → TakesFill f (keyword OmpFill z ∷ ts)

pub record CountsRest (g : Listing (List Count)) (cs : List Count) (ts : List Symbol) : Type 0 where
  pub more : List Count
  pub stands : Span
  pub left : List Symbol
  pub listed : CountsListed more ts (punct RoundClose stands ∷ left)
  pub after : g (join_counts cs more) stands left

abbrev pub AfterCount : Listing (List Count) → List Count → List Symbol → Type 0
AfterCount g cs ts = Takes RoundClose (λ z us. g cs z us) ts ⊎ Takes Comma (λ z us. CountsRest g cs us) ts

abbrev pub OneCount : Listing (List Count) → List Count → List Symbol → Type 0
OneCount g cs ts = Reads 0 (λ e w us. AfterCount g (add_count cs (given e)) us) ts ⊎ TakesFill (λ z us. AfterCount g (add_count cs (fill z)) us) ts

-- the outermost directive's clauses may have commas before them
abbrev pub commas : List Open → Bool
commas [] = true
commas (o ∷ k) = false

-- the `apply` clause is closed
abbrev pub Closes : Owes → Bool → Open → Listing Items
Closes f b o is z us = Rest f b (part_with o.part (apply o.modifier o.indices is) (spanning o.at z)) (spanning o.at z) us

-- a name stands first
pub data TakesName (f : Name → Span → List Symbol → Type 0) : List Symbol → Type 0 where
  takes_name : {x : Name} {a : Span} {ts : List Symbol} → f x a ts → TakesName f (name x a ∷ ts)

-- a directive stands first, and what is left then meets `f`
pub record Starts (f : Owes) (ts : List Symbol) : Type 0 where
  pub whole : Directive
  pub left : List Symbol
  pub phrase : DirectivePhrase true whole ts left
  pub after : f whole left

-- directives between other phrases: `F p d ts` is what is owed after the whole directive `d`
module _ (P : Type 0) (F : P → Owes) where
  -- the innermost `apply` gets the item `d`, and the symbols complete all of them to `p`
  abbrev pub Fills : P → List Open → Owes
  Fills p [] d ts = F p d ts
  Fills p (o ∷ k) d ts = AfterItem (Closes (Fills p k) (commas k) o) (add_item o.items (acts d)) ts

  abbrev pub More : P → List Open → Part → Span → List Symbol → Type 0
  More p k part z ts = Rest (Fills p k) (commas k) part z ts

  abbrev pub Opens : P → Span → Part → List Open → Option Name → Exprs → List Symbol → Type 0
  Opens p a part k m es ts = ItemsRest (Closes (Fills p k) (commas k) (machine.new_open trees a part m es)) no_items ts

  abbrev pub Indexed : P → Name → Exprs → Span → Part → List Open → List Symbol → Type 0
  Indexed p m es a part k ts = Takes Colon (λ z us. Opens p a part k (Some m) es us) ts

  -- a list of expressions is closed
  abbrev pub ListEnds : P → Lists → Span → Part → List Open → Listing Exprs
  ListEnds p machine.sizes a part k es z us = More p k (part_with part (sizes es) (spanning a z)) (spanning a z) us
  ListEnds p machine.permutation a part k es z us = More p k (part_with part (permutation es) (spanning a z)) (spanning a z) us
  ListEnds p (machine.indices m) a part k es z us = Indexed p m es a part k us

  abbrev pub CountsEnd : P → Span → Part → List Open → Listing (List Count)
  CountsEnd p a part k cs z us = More p k (part_with part (counts cs) (spanning a z)) (spanning a z) us

  abbrev pub RangeEnds : P → Expr → Expr → Span → Part → List Open → List Symbol → Type 0
  RangeEnds p e f a part k ts = Takes RoundClose (λ z us. More p k (part_with part (looprange e f) (spanning a z)) (spanning a z) us) ts

  abbrev pub Has : P → Held → Span → Part → List Open → List Symbol → Type 0
  Has p (elements l es) a part k ts = AfterExpr (ListEnds p l a part k) es ts
  Has p (counted cs) a part k ts = AfterCount (CountsEnd p a part k) cs ts
  Has p (first e) a part k ts = Takes Comma (λ z us. Reads 0 (λ f w vs. RangeEnds p e f a part k vs) us) ts
  Has p (range e f) a part k ts = RangeEnds p e f a part k ts
  Has p (factored e) a part k ts = Takes RoundClose (λ z us. More p k (part_with part (partial (Some e)) (spanning a z)) (spanning a z) us) ts

  -- `omp_fill` stands for an expression among counts
  abbrev pub Filled : P → Asked → Span → Part → List Open → List Symbol → Type 0
  Filled p (count cs) a part k ts = TakesFill (λ z us. AfterCount (CountsEnd p a part k) (add_count cs (fill z)) us) ts
  Filled p asked a part k ts = ⊥

  abbrev pub Letter : P → Asked → Span → Part → List Open → List Symbol → Type 0
  Letter p asked a part k ts = Reads 0 (λ e w us. Has p (take asked e) a part k us) ts

  abbrev pub Wants : P → Asked → Span → Part → List Open → List Symbol → Type 0
  Wants p asked a part k ts = Letter p asked a part k ts ⊎ Filled p asked a part k ts

  abbrev pub Modified : P → Name → Span → Part → List Open → List Symbol → Type 0
  Modified p m a part k ts = Indexed p m no_exprs a part k ts ⊎ Takes RoundOpen (λ z us. Wants p (element (machine.indices m) no_exprs) a part k us) ts

  abbrev pub Applies : P → Span → Part → List Open → List Symbol → Type 0
  Applies p a part k ts = Opens p a part k None no_exprs ts ⊎ TakesName (λ m c us. Modified p m a part k us) ts

  abbrev pub Completes : P → State → List Symbol → Type 0
  Completes p machine.start ts = Starts (F p) ts
  Completes p (machine.clauses part z k) ts = More p k part z ts
  Completes p (machine.comma part) ts = OneMore (F p) true part ts
  Completes p (machine.opening asked a part k) ts = Takes RoundOpen (λ z us. Wants p asked a part k us) ts
  Completes p (machine.partial a part k) ts = Takes RoundOpen (λ z us. Wants p factor a part k us) ts ⊎ More p k (part_with part (partial None) a) a ts
  Completes p (machine.apply_word a part k) ts = Takes RoundOpen (λ z us. Applies p a part k us) ts
  Completes p (machine.wanting asked a part k) ts = Wants p asked a part k ts
  Completes p (machine.having held a part k) ts = Has p held a part k ts
  Completes p (machine.indexed m es a part k) ts = Indexed p m es a part k ts
  Completes p (machine.applying a part k) ts = Applies p a part k ts
  Completes p (machine.first_name x c a part k) ts = Opens p a part k None no_exprs (name x c ∷ ts) ⊎ Modified p x a part k ts
  Completes p (machine.item o k) ts = ItemsRest (Closes (Fills p k) (commas k) o) o.items ts
  Completes p (machine.item_read o k) ts = AfterItem (Closes (Fills p k) (commas k) o) o.items ts

  -- what the symbols after one owe
  abbrev pub Moves : P → Move → Symbol → List Symbol → Type 0
  Moves p machine.stuck t ts = ⊥
  Moves p (machine.leads s) t ts = Completes p s ts
  Moves p (machine.ended d) t ts = F p d (t ∷ ts)

-- ---- lists, from both sides

pub join_no_clauses : (cs : Clauses) → join_clauses cs no_clauses ≡ cs
join_no_clauses no_clauses = refl
join_no_clauses (more_clauses c cs) = ap (more_clauses c) (join_no_clauses cs)

pub join_one_clause : (cs : Clauses) (kind : ClauseKind) (s : Span) (ds : Clauses) → join_clauses (add_clause cs kind s) ds ≡ join_clauses cs (more_clauses (clause kind s) ds)
join_one_clause no_clauses kind s ds = refl
join_one_clause (more_clauses c cs) kind s ds = ap (more_clauses c) (join_one_clause cs kind s ds)

pub join_one_item : (is : Items) (i : Item) (js : Items) → join_items (add_item is i) js ≡ join_items is (more_items i js)
join_one_item no_items i js = refl
join_one_item (more_items x is) i js = ap (more_items x) (join_one_item is i js)

pub join_one_count : (cs : List Count) (c : Count) (ds : List Count) → join_counts (add_count cs c) ds ≡ join_counts cs (c ∷ ds)
join_one_count [] c ds = refl
join_one_count (x ∷ cs) c ds = ap (λ l. x ∷ l) (join_one_count cs c ds)

pub rest_none : (f : Owes) (b : Bool) (part : Part) (z : Span) (ts : List Symbol) → f (machine.made trees part z) ts → Rest f b part z ts
rest_none f b part z ts h = record { more = no_clauses; last = z; left = ts; clauses = no_clause; after = subst (λ cs. f (directive part.kind cs (spanning part.at z)) ts) (sym (join_no_clauses part.clauses)) h }

pub rest_more : (f : Owes) (b : Bool) (part : Part) (z : Span) (ts : List Symbol) → OneMore f b part ts → Rest f b part z ts
rest_more f b part z ts h =
    let r = h.after in
    record {
      more = more_clauses (clause h.kind h.stands) r.more;
      last = r.last;
      left = r.left;
      clauses = one_clause h.clause r.clauses;
      after = subst (λ cs. f (directive part.kind cs (spanning part.at r.last)) r.left) (join_one_clause part.clauses h.kind h.stands r.more) r.after;
    }

pub rest_comma : (f : Owes) (part : Part) (z y : Span) (ts : List Symbol) → OneMore f true part ts → Rest f true part z (punct Comma y ∷ ts)
rest_comma f part z y ts h =
    let r = h.after in
    record {
      more = more_clauses (clause h.kind h.stands) r.more;
      last = r.last;
      left = r.left;
      clauses = after_comma h.clause r.clauses;
      after = subst (λ cs. f (directive part.kind cs (spanning part.at r.last)) r.left) (join_one_clause part.clauses h.kind h.stands r.more) r.after;
    }

-- no further clause, one without and one with a comma before it
pub data RestView (f : Owes) : Bool → Part → Span → List Symbol → Type 0 where
  no_more : {b : Bool} {part : Part} {z : Span} {ts : List Symbol} → f (machine.made trees part z) ts → RestView f b part z ts
  one_more : {b : Bool} {part : Part} {z : Span} {ts : List Symbol} → OneMore f b part ts → RestView f b part z ts
  by_comma : {part : Part} {y z : Span} {ts : List Symbol} → OneMore f true part ts → RestView f true part z (punct Comma y ∷ ts)

view_clauses : (f : Owes) (part : Part) (b : Bool) (more : Clauses) (z z' : Span) (ts us : List Symbol) → ClausesPhrase b more z z' ts us → f (directive part.kind (join_clauses part.clauses more) (spanning part.at z')) us → RestView f b part z ts
view_clauses f part b more z z' ts us no_clause h = no_more (subst (λ cs. f (directive part.kind cs (spanning part.at z')) us) (join_no_clauses part.clauses) h)
view_clauses f part b more z z' ts us (one_clause {kind = kind} {cs = cs} {w = w} q c) h = one_more (record { kind = kind; stands = w; left = _; clause = q; after = record { more = cs; last = z'; left = us; clauses = c; after = subst (λ x. f (directive part.kind x (spanning part.at z')) us) (sym (join_one_clause part.clauses kind w cs)) h } })
view_clauses f part b more z z' ts us (after_comma {kind = kind} {cs = cs} {w = w} q c) h = by_comma (record { kind = kind; stands = w; left = _; clause = q; after = record { more = cs; last = z'; left = us; clauses = c; after = subst (λ x. f (directive part.kind x (spanning part.at z')) us) (sym (join_one_clause part.clauses kind w cs)) h } })

pub view_rest : (f : Owes) (b : Bool) (part : Part) (z : Span) (ts : List Symbol) → Rest f b part z ts → RestView f b part z ts
view_rest f b part z ts h = view_clauses f part b h.more z h.last ts h.left h.clauses h.after

pub list_from : (g : Listing Exprs) (es : Exprs) (ts : List Symbol) → Elements g es ts → ListRest g es ts
list_from g es ts h = go h.whole h.stands h.rest h.phrase h.after
  where
    go : (e : Expr) (w : Span) (us : List Symbol) → Phrase 0 e w ts us → AfterExpr g (join_last es e) us → ListRest g es ts
    go e w us q (inl (takes h)) = record { more = more_exprs e no_exprs; stands = _; left = _; listed = last q; after = h }
    go e w us q (inr (takes h)) = record { more = more_exprs e h.more; stands = h.stands; left = h.left; listed = next q h.listed; after = subst (λ x. g x h.stands h.left) (join_more es e h.more) h.after }

pub list_to : (g : Listing Exprs) (es : Exprs) (ts : List Symbol) → ListRest g es ts → Elements g es ts
list_to g es ts h = go h.more h.stands h.left h.listed h.after
  where
    go : (more : Exprs) (z : Span) (us : List Symbol) → Listed more ts (punct RoundClose z ∷ us) → g (join es more) z us → Elements g es ts
    go more z us (last q) h = record { whole = _; stands = _; rest = _; phrase = q; after = inl (takes h) }
    go more z us (next {e = e} {es = fs} q l) h = record { whole = e; stands = _; rest = _; phrase = q; after = inr (takes (record { more = fs; stands = z; left = us; listed = l; after = subst (λ x. g x z us) (sym (join_more es e fs)) h })) }

pub items_from : (g : Listing Items) (is : Items) (ts : List Symbol) → Itemed g is ts → ItemsRest g is ts
items_from g is ts h = go h.item h.left h.phrase h.after
  where
    go : (i : Item) (us : List Symbol) → ItemPhrase i ts us → AfterItem g (add_item is i) us → ItemsRest g is ts
    go i us q (inl (takes h)) = record { more = more_items i no_items; stands = _; left = _; listed = last_item q; after = h }
    go i us q (inr (takes h)) = record { more = more_items i h.more; stands = h.stands; left = h.left; listed = next_item q h.listed; after = subst (λ x. g x h.stands h.left) (join_one_item is i h.more) h.after }

pub items_to : (g : Listing Items) (is : Items) (ts : List Symbol) → ItemsRest g is ts → Itemed g is ts
items_to g is ts h = go h.more h.stands h.left h.listed h.after
  where
    go : (more : Items) (z : Span) (us : List Symbol) → ItemsListed more ts (punct RoundClose z ∷ us) → g (join_items is more) z us → Itemed g is ts
    go more z us (last_item q) h = record { item = _; left = _; phrase = q; after = inl (takes h) }
    go more z us (next_item {i = i} {is = js} q l) h = record { item = i; left = _; phrase = q; after = inr (takes (record { more = js; stands = z; left = us; listed = l; after = subst (λ x. g x z us) (sym (join_one_item is i js)) h })) }

pub counts_from : (g : Listing (List Count)) (cs : List Count) (ts : List Symbol) → OneCount g cs ts → CountsRest g cs ts
counts_from g cs ts h = start h
  where
    go : (c : Count) (us : List Symbol) → Counted c ts us → AfterCount g (add_count cs c) us → CountsRest g cs ts
    go c us q (inl (takes h)) = record { more = c ∷ []; stands = _; left = _; listed = last_count q; after = h }
    go c us q (inr (takes h)) = record { more = c ∷ h.more; stands = h.stands; left = h.left; listed = next_count q h.listed; after = subst (λ x. g x h.stands h.left) (join_one_count cs c h.more) h.after }

    filled : (us : List Symbol) → us ≡ ts → TakesFill (λ z us. AfterCount g (add_count cs (fill z)) us) us → CountsRest g cs us
    filled us q (takes_fill {z = z} (inl (takes h))) = record { more = fill z ∷ []; stands = _; left = _; listed = last_count fills; after = h }
    filled us q (takes_fill {z = z} (inr (takes h))) = record { more = fill z ∷ h.more; stands = h.stands; left = h.left; listed = next_count fills h.listed; after = subst (λ x. g x h.stands h.left) (join_one_count cs (fill z) h.more) h.after }

    start : OneCount g cs ts → CountsRest g cs ts
    start (inl h) = go (given h.whole) h.rest (gives h.phrase) h.after
    start (inr h) = filled ts refl h

pub counts_to : (g : Listing (List Count)) (cs : List Count) (ts : List Symbol) → CountsRest g cs ts → OneCount g cs ts
counts_to g cs ts h = go h.more h.stands h.left ts h.listed h.after
  where
    go : (more : List Count) (z : Span) (us ts : List Symbol) → CountsListed more ts (punct RoundClose z ∷ us) → g (join_counts cs more) z us → OneCount g cs ts
    go more z us ts (last_count (gives q)) h = inl (record { whole = _; stands = _; rest = _; phrase = q; after = inl (takes h) })
    go more z us ts (last_count fills) h = inr (takes_fill (inl (takes h)))
    go more z us ts (next_count {cs = ds} (gives {e = e} q) l) h = inl (record { whole = e; stands = _; rest = _; phrase = q; after = inr (takes (record { more = ds; stands = z; left = us; listed = l; after = subst (λ x. g x z us) (sym (join_one_count cs (given e) ds)) h })) })
    go more z us ts (next_count {cs = ds} (fills {a = a}) l) h = inr (takes_fill (inr (takes (record { more = ds; stands = z; left = us; listed = l; after = subst (λ x. g x z us) (sym (join_one_count cs (fill a) ds)) h }))))
