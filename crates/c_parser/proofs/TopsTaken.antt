-- What comes of the items of a program.
use Rattle.std.proofs.Common.{◌≡◌, ℕ, ◌<◌, ◌≤◌, max, List, [], ◌∷◌, ◌++◌, length, Option, Some, None, refl, sym, ap, ◌∙◌, subst, arith, append_assoc}
use Rattle.std.specs.Prelude.{Ok, Err}
use Rattle.c_tree.specs.Placed.{Program}
use Rattle.c_tree.specs.Forget.{forget_program, forget_top}
use Rattle.c_tree.specs.Height.{program_height, top_height}
use Rattle.c_tree.specs.declared.tree.Span.{Span}
use Rattle.c_tree.specs.declared.tree.Item.{Item}
use Rattle.c_lexer.specs.declared.token.Token.{Token}
use Rattle.pragma_grammar.specs.declared.phrase.ParseFault.{ParseFault}
use Rattle.pragma_grammar.specs.declared.directive_kept.Kept as code
use Rattle.pragma_grammar.specs.Deep.{first}
use Rattle.pragma_grammar.specs.DirectiveKept.{Kept, kept, both, kept_or}
use Rattle.c_parser.specs.declared.openings.Opening.{Opening}
use Rattle.c_parser.specs.declared.program.Tops.{Tops}
use Rattle.c_parser.specs.declared.program.Tops.TheVariants.{Open, Closed}
use Rattle.c_parser.specs.declared.openings.Opening.TheVariants.{One}
use Rattle.c_parser.specs.declared.openings.Single.{Single}
use Rattle.c_grammar.specs.Programs.{Started, tops_of}
use Rattle.c_grammar.specs.Reading.{deep_top, deep_items}
use Rattle.c_grammar.specs.Goals.{Goal, tops, program_goal}
use Rattle.c_parser.specs.Comes.{Leads}
use Rattle.c_parser.specs.Kept.{keep_top}
use Rattle.c_parser.specs.Items.{ItemGoal, item_of, items_of, keep_items, add_top, add_items, Added, IsItemTaken, IsLastTaken, AreItemsTaken, AreAllTaken}
use Rattle.c_parser.specs.Openings.{single_goal, opened, IsOpeningTaken}
use Rattle.c_parser.specs.Parsing.{AreTopsTaken}
use Rattle.c_parser.proofs.GlobalsTaken.{none_added, one_added}
use Rattle.c_parser.proofs.Keeping.{both_kept, first_first, first_none}
use Rattle.c_parser.proofs.SimpleTaken.{fails_by, leads_shrinks}

-- ---- one item more

pub item_added : (x : ItemGoal) (k : Kept Program) (ts us : List Token) (all all' : code.Kept (List Item)) (i : code.Kept Item) → items_of all ≡ k → IsItemTaken x ts (Ok i) us → items_of all' ≡ both add_top (items_of all) (item_of i) → AreItemsTaken x k ts (Ok all') us
item_added x k ts us all all' i e r q = (λ more. r.0 ∷ more, one_added k all all' i r.0 (λ more. more) (none_added k all e) r.1 q, r.2)

pub last_added : (x : ItemGoal) (k : Kept Program) (ts us : List Token) (all all' : code.Kept (List Item)) (i : code.Kept Item) → items_of all ≡ k → IsLastTaken x ts (Ok i) us → items_of all' ≡ both add_top (items_of all) (item_of i) → AreAllTaken x k ts (Ok all') us
last_added x k ts us all all' i e r q = (λ more. r.0 ∷ more, one_added k all all' i r.0 (λ more. more) (none_added k all e) r.1 q, r.2)

-- items' goal that leads to another one
pub items_led : (x y : ItemGoal) (k : Kept Program) (ts us vs : List Token) (all : code.Kept (List Item)) → ((f : List Started → Goal) → Leads (x f) ts (y f) us) → AreItemsTaken y k us (Ok all) vs → AreItemsTaken x k ts (Ok all) vs
items_led x y k ts us vs all l i = (i.0, i.1, λ f o h. l f o (i.2 f o h))

pub all_led : (x y : ItemGoal) (k : Kept Program) (ts us vs : List Token) (all : code.Kept (List Item)) → ((f : List Started → Goal) → Leads (x f) ts (y f) us) → AreAllTaken y k us (Ok all) vs → AreAllTaken x k ts (Ok all) vs
all_led x y k ts us vs all l i = (i.0, i.1, λ f o h. l f o (i.2 f o h))

-- an item whose first token alone tells what it is
pub single_read : (y : Opening) (x : Single) (a : Span) (k : Kept Program) (ts us : List Token) (all : code.Kept (List Item)) → y ≡ One x → AreItemsTaken (single_goal x a) k ts (Ok all) us → AreItemsTaken (opened y a) k ts (Ok all) us
single_read y x a k ts us all q i = subst (λ z. AreItemsTaken (opened z a) k ts (Ok all) us) (sym q) i

pub single_unread : (y : Opening) (x : Single) (a : Span) (k : Kept Program) (ts us : List Token) (fault : ParseFault) → y ≡ One x → IsItemTaken (single_goal x a) ts (Err fault) us → AreTopsTaken (opened y a) k ts (Err fault) us
single_unread y x a k ts us fault q i = subst (λ z. AreTopsTaken (opened z a) k ts (Err fault) us) (sym q) i

-- ---- items after items

more_items : (k : Kept Program) (xs ys : List Started) → add_items (add_items k xs) ys ≡ add_items k (xs ++ ys)
more_items k [] ys = refl
more_items k (x ∷ xs) ys = more_items (both add_top k (keep_top x.top x.start)) xs ys

both_added : (k : Kept Program) (all all' : code.Kept (List Item)) (before after : List Started → List Started) → Added k all before → Added (items_of all) all' after → Added k all' (λ more. before (after more))
both_added k all all' before after r s = record {
  items = r.items ++ s.items;
  joins = λ rest. r.joins (after rest) ∙ ap (λ l. r.items ++ l) (s.joins rest) ∙ sym (append_assoc r.items s.items rest);
  keeps = s.keeps ∙ ap (λ z. add_items z s.items) r.keeps ∙ more_items k r.items s.items;
}

pub open_is : (x : ItemGoal) (k : Kept Program) (ts us : List Token) (r : Tops) (all : code.Kept (List Item)) → r ≡ Open all → AreTopsTaken x k ts (Ok r) us → AreItemsTaken x k ts (Ok all) us
open_is x k ts us r all q i = subst (λ z. AreTopsTaken x k ts (Ok z) us) q i

pub closed_is : (x : ItemGoal) (k : Kept Program) (ts us : List Token) (r : Tops) (all : code.Kept (List Item)) → r ≡ Closed all → AreTopsTaken x k ts (Ok r) us → AreAllTaken x k ts (Ok all) us
closed_is x k ts us r all q i = subst (λ z. AreTopsTaken x k ts (Ok z) us) q i

pub record TopsCome (ts : List Token) (all : code.Kept (List Item)) (us : List Token) : Type 0 where
  pub before : List Started → List Started
  pub added : Added (kept 0 []) all before
  pub comes : (f : List Started → Goal) → Leads (tops f) ts (tops (λ more. f (before more))) us

pub no_tops : (ts : List Token) (all : code.Kept (List Item)) → items_of all ≡ kept 0 [] → TopsCome ts all ts
no_tops ts all q = record { before = λ more. more; added = none_added (kept 0 []) all q; comes = λ f o h. h }

pub more_tops : (x : Opening) (a : Span) (ts us vs ws : List Token) (all all' : code.Kept (List Item)) → TopsCome ts all us → IsOpeningTaken us (Ok (x, a)) vs → AreItemsTaken (opened x a) (items_of all) vs (Ok all') ws → TopsCome ts all' ws
more_tops x a ts us vs ws all all' r i s = record {
  before = λ more. r.before (s.0 more);
  added = both_added (kept 0 []) all all' r.before s.0 r.added s.1;
  comes = λ f o h. r.comes f o (i.1 (λ more. f (r.before more)) o (s.2 (λ more. f (r.before more)) o h));
}

pub tops_shrink : (x : Opening) (a : Span) (k : Kept Program) (us vs ws : List Token) (all : code.Kept (List Item)) → IsOpeningTaken us (Ok (x, a)) vs → AreItemsTaken (opened x a) k vs (Ok all) ws → length ws < length us
tops_shrink x a k us vs ws all i s =
    let b = leads_shrinks _ _ vs ws (s.2 (λ more. program_goal)) in
    let l = i.0 in
    omega arith

pub tops_end : (x : Opening) (a : Span) (ts us vs ws : List Token) (all all' : code.Kept (List Item)) → TopsCome ts all us → IsOpeningTaken us (Ok (x, a)) vs → AreAllTaken (opened x a) (items_of all) vs (Ok all') ws → AreAllTaken tops (kept 0 []) ts (Ok all') ws
tops_end x a ts us vs ws all all' r i s = (
  λ more. r.before (s.0 more),
  both_added (kept 0 []) all all' r.before s.0 r.added s.1,
  λ f o h. r.comes f o (i.1 (λ more. f (r.before more)) o (s.2 (λ more. f (r.before more)) o h)),
)

pub unopened : (ts us vs ws : List Token) (all : code.Kept (List Item)) (fault : ParseFault) → TopsCome ts all us → IsOpeningTaken us (Err fault) vs → AreAllTaken tops (kept 0 []) ts (Err fault) ws
unopened ts us vs ws all fault r i = λ f. fails_by _ _ ts us fault (r.comes f) (i (λ more. f (r.before more)))

pub unread : (x : Opening) (a : Span) (ts us vs ws xs : List Token) (all : code.Kept (List Item)) (fault : ParseFault) → TopsCome ts all us → IsOpeningTaken us (Ok (x, a)) vs → AreTopsTaken (opened x a) (items_of all) vs (Err fault) ws → AreAllTaken tops (kept 0 []) ts (Err fault) xs
unread x a ts us vs ws xs all fault r i s = λ f. fails_by _ _ ts vs fault (λ o h. r.comes f o (i.1 (λ more. f (r.before more)) o h)) (s (λ more. f (r.before more)))

-- ---- what is kept of all items

deep_more : (xs : List Started) (s : Started) → deep_items (xs ++ s ∷ []) ≡ first (deep_items xs) (deep_top s.top s.start)
deep_more [] s = first_none (deep_top s.top s.start)
deep_more (x ∷ xs) s = ap (first (deep_top x.top x.start)) (deep_more xs s) ∙ first_first (deep_top x.top x.start) (deep_items xs) (deep_top s.top s.start)

higher : (xs : List Started) (s : Started) → program_height (forget_program (tops_of (xs ++ s ∷ []))) ≡ max (program_height (forget_program (tops_of xs))) (top_height (forget_top s.top))
higher [] s = omega arith
higher (x ∷ xs) s = let h = higher xs s in omega arith

joined : (xs : List Started) (s : Started) → tops_of (xs ++ s ∷ []) ≡ add_top (tops_of xs) s.top
joined [] s = refl
joined (x ∷ xs) s = ap (λ l. x.top ∷ l) (joined xs s)

keep_more : (xs : List Started) (s : Started) → both add_top (keep_items xs) (keep_top s.top s.start) ≡ keep_items (xs ++ s ∷ [])
keep_more xs s = sym (
    ap (kept_or (deep_items (xs ++ s ∷ [])) (program_height (forget_program (tops_of (xs ++ s ∷ []))))) (joined xs s)
    ∙ ap (λ d. kept_or d (program_height (forget_program (tops_of (xs ++ s ∷ [])))) (add_top (tops_of xs) s.top)) (deep_more xs s)
    ∙ ap (λ h. kept_or (first (deep_items xs) (deep_top s.top s.start)) h (add_top (tops_of xs) s.top)) (higher xs s)
    ∙ both_kept add_top (deep_items xs) (deep_top s.top s.start) (program_height (forget_program (tops_of xs))) (top_height (forget_top s.top)) (tops_of xs) s.top)

keep_after : (xs ys : List Started) → add_items (keep_items xs) ys ≡ keep_items (xs ++ ys)
keep_after xs [] = ap keep_items (sym (nothing_more xs))
  where
    nothing_more : (xs : List Started) → xs ++ [] ≡ xs
    nothing_more [] = refl
    nothing_more (x ∷ xs) = ap (λ l. x ∷ l) (nothing_more xs)
keep_after xs (y ∷ ys) = ap (λ k. add_items k ys) (keep_more xs y) ∙ keep_after (xs ++ y ∷ []) ys ∙ ap keep_items (append_assoc xs (y ∷ []) ys)

pub keep_all : (items : List Started) → add_items (kept 0 []) items ≡ keep_items items
keep_all items = keep_after [] items
