-- The bare tree of a directive, of its clauses and of their items.
use Rattle.std.proofs.Common.{◌≡◌, ◌∙◌, sym, ap, refl, subst, List, [], ◌∷◌, map}
use Rattle.c_tree.specs.Bare as b
use Rattle.c_tree.specs.Placed as p
use Rattle.c_tree.specs.BareOf.{bare_item, bare_items, bare_kind, bare_clause, bare_clauses, bare_directive}
use Rattle.c_tree.specs.BareOf as bare
use Rattle.c_tree.specs.PlacedOf.{placed_item, placed_items, placed_kind, placed_clause, placed_clauses, placed_directive}
use Rattle.c_tree.specs.PlacedOf as placed
use Rattle.c_tree.specs.Forget.{forget_item, forget_items, forget_kind, forget_clause, forget_clauses, forget_directive}
use Rattle.c_tree.specs.declared.tree.Directive.{Directive, Directive-F, roll-Directive, ind-Directive, fold-roll-Directive, map-Directive}
use Rattle.c_tree.specs.declared.tree.Clause.{Clause, Clause-F, roll-Clause, ind-Clause, fold-roll-Clause, map-Clause}
use Rattle.c_tree.specs.declared.tree.ClauseKind.{ClauseKind, ClauseKind-F, roll-ClauseKind, ind-ClauseKind, fold-roll-ClauseKind, map-ClauseKind}
use Rattle.c_tree.specs.declared.tree.ApplyItem.{ApplyItem, ApplyItem-F, roll-ApplyItem, ind-ApplyItem, fold-roll-ApplyItem, map-ApplyItem}
use Rattle.c_tree.specs.declared.tree.ApplyItem.TheOpen as d
use Rattle.c_tree.proofs.Forgotten.Exprs.{bare_expr_is, bare_exprs_is, bare_option_is, bare_counts_is}

-- ---- what is to be shown of each type
abbrev ItemIs : ApplyItem → Type 0
ItemIs t = bare_item t ≡ forget_item (placed_item t)

abbrev KindIs : ClauseKind → Type 0
KindIs t = bare_kind t ≡ forget_kind (placed_kind t)

abbrev ClauseIs : Clause → Type 0
ClauseIs t = bare_clause t ≡ forget_clause (placed_clause t)

abbrev DirectiveIs : Directive → Type 0
DirectiveIs t = bare_directive t ≡ forget_directive (placed_directive t)

abbrev KnownItem : Type 0
KnownItem = (t : ApplyItem) × ItemIs t

abbrev KnownKind : Type 0
KnownKind = (t : ClauseKind) × KindIs t

abbrev KnownClause : Type 0
KnownClause = (t : Clause) × ClauseIs t

abbrev KnownDirective : Type 0
KnownDirective = (t : Directive) × DirectiveIs t

-- ---- items
abbrev ItemLayerAgrees : ApplyItem-F ApplyItem ClauseKind Clause Directive → Type 0
ItemLayerAgrees x =
    bare.item_layer (map-ApplyItem ApplyItem ClauseKind Clause Directive b.Item b.Clause b.Clause b.Directive bare_item bare_kind bare_clause bare_directive x)
    ≡ forget_item (placed.item_layer (map-ApplyItem ApplyItem ClauseKind Clause Directive p.Item p.ClauseKind p.Clause p.Directive placed_item placed_kind placed_clause placed_directive x))

abbrev item_of : ApplyItem-F KnownItem KnownKind KnownClause KnownDirective → ApplyItem-F ApplyItem ClauseKind Clause Directive
item_of = map-ApplyItem KnownItem KnownKind KnownClause KnownDirective ApplyItem ClauseKind Clause Directive (λ e. e.0) (λ e. e.0) (λ e. e.0) (λ e. e.0)

item_layer_agrees : (y : ApplyItem-F KnownItem KnownKind KnownClause KnownDirective) → ItemLayerAgrees (item_of y)
item_layer_agrees (d.Nothing s) = refl
item_layer_agrees (d.ApplyItem::Apply d) = ap b.acts d.1

items_agree : (is : List KnownItem) → bare_items (map (λ e. e.0) is) ≡ forget_items (placed_items (map (λ e. e.0) is))
items_agree [] = refl
items_agree (i ∷ is) = λ j. b.more_items (i.1 j) (items_agree is j)

item_step : (x : ApplyItem-F ApplyItem ClauseKind Clause Directive) (y : ApplyItem-F KnownItem KnownKind KnownClause KnownDirective) → item_of y ≡ x → ItemIs (roll-ApplyItem x)
item_step x y is =
    fold-roll-ApplyItem b.Item b.Clause b.Clause b.Directive bare.item_layer bare.kind_layer bare.clause_layer bare.directive_layer x
    ∙ subst ItemLayerAgrees is (item_layer_agrees y)
    ∙ sym (ap forget_item (fold-roll-ApplyItem p.Item p.ClauseKind p.Clause p.Directive placed.item_layer placed.kind_layer placed.clause_layer placed.directive_layer x))

-- ---- the kinds of clauses
abbrev KindLayerAgrees : ClauseKind-F ApplyItem ClauseKind Clause Directive → Type 0
KindLayerAgrees x =
    bare.kind_layer (map-ClauseKind ApplyItem ClauseKind Clause Directive b.Item b.Clause b.Clause b.Directive bare_item bare_kind bare_clause bare_directive x)
    ≡ forget_kind (placed.kind_layer (map-ClauseKind ApplyItem ClauseKind Clause Directive p.Item p.ClauseKind p.Clause p.Directive placed_item placed_kind placed_clause placed_directive x))

abbrev kind_of : ClauseKind-F KnownItem KnownKind KnownClause KnownDirective → ClauseKind-F ApplyItem ClauseKind Clause Directive
kind_of = map-ClauseKind KnownItem KnownKind KnownClause KnownDirective ApplyItem ClauseKind Clause Directive (λ e. e.0) (λ e. e.0) (λ e. e.0) (λ e. e.0)

kind_layer_agrees : (y : ClauseKind-F KnownItem KnownKind KnownClause KnownDirective) → KindLayerAgrees (kind_of y)
kind_layer_agrees (d.Sizes es) = ap b.sizes (bare_exprs_is es)
kind_layer_agrees (d.Permutation es) = ap b.permutation (bare_exprs_is es)
kind_layer_agrees (d.Counts cs) = ap b.counts (bare_counts_is cs)
kind_layer_agrees (d.LoopRange first count) = λ i. b.looprange (bare_expr_is first i) (bare_expr_is count i)
kind_layer_agrees d.Full = refl
kind_layer_agrees (d.Partial factor) = ap b.partial (bare_option_is factor)
kind_layer_agrees (d.ClauseKind::Apply m es is) = λ i. b.apply m (bare_exprs_is es i) (items_agree is i)

kind_step : (x : ClauseKind-F ApplyItem ClauseKind Clause Directive) (y : ClauseKind-F KnownItem KnownKind KnownClause KnownDirective) → kind_of y ≡ x → KindIs (roll-ClauseKind x)
kind_step x y is =
    fold-roll-ClauseKind b.Item b.Clause b.Clause b.Directive bare.item_layer bare.kind_layer bare.clause_layer bare.directive_layer x
    ∙ subst KindLayerAgrees is (kind_layer_agrees y)
    ∙ sym (ap forget_kind (fold-roll-ClauseKind p.Item p.ClauseKind p.Clause p.Directive placed.item_layer placed.kind_layer placed.clause_layer placed.directive_layer x))

-- ---- clauses
abbrev ClauseLayerAgrees : Clause-F ApplyItem ClauseKind Clause Directive → Type 0
ClauseLayerAgrees x =
    bare.clause_layer (map-Clause ApplyItem ClauseKind Clause Directive b.Item b.Clause b.Clause b.Directive bare_item bare_kind bare_clause bare_directive x)
    ≡ forget_clause (placed.clause_layer (map-Clause ApplyItem ClauseKind Clause Directive p.Item p.ClauseKind p.Clause p.Directive placed_item placed_kind placed_clause placed_directive x))

abbrev clause_of : Clause-F KnownItem KnownKind KnownClause KnownDirective → Clause-F ApplyItem ClauseKind Clause Directive
clause_of = map-Clause KnownItem KnownKind KnownClause KnownDirective ApplyItem ClauseKind Clause Directive (λ e. e.0) (λ e. e.0) (λ e. e.0) (λ e. e.0)

clauses_agree : (cs : List KnownClause) → bare_clauses (map (λ e. e.0) cs) ≡ forget_clauses (placed_clauses (map (λ e. e.0) cs))
clauses_agree [] = refl
clauses_agree (c ∷ cs) = λ j. b.more_clauses (c.1 j) (clauses_agree cs j)

clause_step : (x : Clause-F ApplyItem ClauseKind Clause Directive) (y : Clause-F KnownItem KnownKind KnownClause KnownDirective) → clause_of y ≡ x → ClauseIs (roll-Clause x)
clause_step x y is =
    fold-roll-Clause b.Item b.Clause b.Clause b.Directive bare.item_layer bare.kind_layer bare.clause_layer bare.directive_layer x
    ∙ subst ClauseLayerAgrees is y.kind.1
    ∙ sym (ap forget_clause (fold-roll-Clause p.Item p.ClauseKind p.Clause p.Directive placed.item_layer placed.kind_layer placed.clause_layer placed.directive_layer x))

-- ---- directives
abbrev DirectiveLayerAgrees : Directive-F ApplyItem ClauseKind Clause Directive → Type 0
DirectiveLayerAgrees x =
    bare.directive_layer (map-Directive ApplyItem ClauseKind Clause Directive b.Item b.Clause b.Clause b.Directive bare_item bare_kind bare_clause bare_directive x)
    ≡ forget_directive (placed.directive_layer (map-Directive ApplyItem ClauseKind Clause Directive p.Item p.ClauseKind p.Clause p.Directive placed_item placed_kind placed_clause placed_directive x))

abbrev directive_of : Directive-F KnownItem KnownKind KnownClause KnownDirective → Directive-F ApplyItem ClauseKind Clause Directive
directive_of = map-Directive KnownItem KnownKind KnownClause KnownDirective ApplyItem ClauseKind Clause Directive (λ e. e.0) (λ e. e.0) (λ e. e.0) (λ e. e.0)

directive_step : (x : Directive-F ApplyItem ClauseKind Clause Directive) (y : Directive-F KnownItem KnownKind KnownClause KnownDirective) → directive_of y ≡ x → DirectiveIs (roll-Directive x)
directive_step x y is =
    fold-roll-Directive b.Item b.Clause b.Clause b.Directive bare.item_layer bare.kind_layer bare.clause_layer bare.directive_layer x
    ∙ subst DirectiveLayerAgrees is (ap (b.directive y.kind) (clauses_agree y.clauses))
    ∙ sym (ap forget_directive (fold-roll-Directive p.Item p.ClauseKind p.Clause p.Directive placed.item_layer placed.kind_layer placed.clause_layer placed.directive_layer x))

-- ---- the bare trees
pub bare_item_is : (t : ApplyItem) → bare_item t ≡ forget_item (placed_item t)
bare_item_is = ind-ApplyItem ItemIs KindIs ClauseIs DirectiveIs item_step kind_step clause_step directive_step

pub bare_kind_is : (t : ClauseKind) → bare_kind t ≡ forget_kind (placed_kind t)
bare_kind_is = ind-ClauseKind ItemIs KindIs ClauseIs DirectiveIs item_step kind_step clause_step directive_step

pub bare_clause_is : (t : Clause) → bare_clause t ≡ forget_clause (placed_clause t)
bare_clause_is = ind-Clause ItemIs KindIs ClauseIs DirectiveIs item_step kind_step clause_step directive_step

pub bare_directive_is : (t : Directive) → bare_directive t ≡ forget_directive (placed_directive t)
bare_directive_is = ind-Directive ItemIs KindIs ClauseIs DirectiveIs item_step kind_step clause_step directive_step
