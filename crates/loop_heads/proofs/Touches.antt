-- What statements and expressions touch, one after another.
use Rattle.std.proofs.Common.{◌≡◌, ◌∙◌, sym, ap, subst, ◌<◌, ◌≤◌, ◌+◌, ℕ, List, [], ◌++◌, length, drop, slice_index_or}
use Rattle.c_tree.specs.Bare.{Name}
use Rattle.c_tree.specs.Bare as bare
use Rattle.c_tree.specs.BareOf.{expr_layer, bare_expr, bare_exprs}
use Rattle.c_tree.specs.declared.tree.BinOp.{BinOp}
use Rattle.c_tree.specs.declared.tree.Span.{Span}
use Rattle.c_tree.specs.declared.tree.Expr.{Expr, fold-roll-Expr}
use Rattle.c_tree.specs.declared.tree.Expr.TheVariants as v
use Rattle.c_tree.specs.declared.tree.Expr.TheOpen as o
use Rattle.c_tree.proofs.Walks.{rest_more, rest_none}
use Rattle.c_semantics.specs.Meaning.FileVariables.{Access, both, no_access, free_names, free_names_each}
use Rattle.loop_heads.specs.Touching.{Grows, Gains, Continues, GainsOn}
use Rattle.loop_heads.proofs.NameSets.{grows_none, grows_both}

-- ---- names

pub continues_init : (a xs : List Name) → Continues a xs xs a
continues_init a xs = record { ends = λ end h. h }

pub continues_more : (a all b c xs ys rest : List Name) → rest ≡ xs ++ ys → Continues a all rest b → Grows b xs c → Continues a all ys c
continues_more a all b c xs ys rest is so_far step = record { ends = λ end h. so_far.ends end (subst (λ zs. Grows b zs end) (sym is) (grows_both b c end xs ys step h)) }

pub continues_end : (a all b rest : List Name) → rest ≡ [] → Continues a all rest b → Grows a all b
continues_end a all b rest is so_far = so_far.ends b (subst (λ zs. Grows b zs b) (sym is) (grows_none b))

module _ (h : List Name) (es : List Expr) (i : ℕ) where
  pub each_more : (a all b c : List Name) (e : Expr) → i < length es → e ≡ slice_index_or es i e → Continues a all (free_names_each h (bare_exprs (drop i es))) b → Grows b (free_names h (bare_expr e)) c
      → Continues a all (free_names_each h (bare_exprs (drop (i + 1) es))) c
  each_more a all b c e within is =
      continues_more a all b c (free_names h (bare_expr e)) (free_names_each h (bare_exprs (drop (i + 1) es))) (free_names_each h (bare_exprs (drop i es)))
      (rest_more (λ ys. free_names_each h (bare_exprs ys)) es i e within is)

  pub each_end : (a all b : List Name) → length es ≤ i → Continues a all (free_names_each h (bare_exprs (drop i es))) b → Grows a all b
  each_end a all b past = continues_end a all b (free_names_each h (bare_exprs (drop i es))) (rest_none (λ ys. free_names_each h (bare_exprs ys)) es i past)

module _ (h : List Name) (e : Expr) (at : Span) where
  pub grown_bin : (op : BinOp) (l r : Expr) → e ≡ v.Bin op l r at → (x y : Expr) → x ≡ l → y ≡ r → (a b c : List Name) → Grows a (free_names h (bare_expr x)) b → Grows b (free_names h (bare_expr y)) c
      → Grows a (free_names h (bare_expr e)) c
  grown_bin op l r is x y is_l is_r a b c first second =
      let tree : bare_expr e ≡ bare.bin op (bare_expr l) (bare_expr r) =
      ap bare_expr is ∙ (ap bare_expr (sym (v.rolls-Bin op l r at)) ∙ fold-roll-Expr bare.Expr expr_layer (o.Bin op l r at)) in
      let two : Grows a (free_names h (bare_expr l) ++ free_names h (bare_expr r)) c =
      grows_both a b c (free_names h (bare_expr l)) (free_names h (bare_expr r)) (subst (λ z. Grows a (free_names h (bare_expr z)) b) is_l first) (subst (λ z. Grows b (free_names h (bare_expr z)) c) is_r second) in
      subst (λ z. Grows a (free_names h z) c) (sym tree) two

  pub grown_cond : (t l r : Expr) → e ≡ v.Cond t l r at → (w x y : Expr) → w ≡ t → x ≡ l → y ≡ r → (a b c d : List Name)
      → Grows a (free_names h (bare_expr w)) b → Grows b (free_names h (bare_expr x)) c → Grows c (free_names h (bare_expr y)) d → Grows a (free_names h (bare_expr e)) d
  grown_cond t l r is w x y is_t is_l is_r a b c d first second third =
      let names = λ (z : Expr). free_names h (bare_expr z) in
      let tree : bare_expr e ≡ bare.cond (bare_expr t) (bare_expr l) (bare_expr r) =
      ap bare_expr is ∙ (ap bare_expr (sym (v.rolls-Cond t l r at)) ∙ fold-roll-Expr bare.Expr expr_layer (o.Cond t l r at)) in
      let two : Grows b (free_names h (bare_expr l) ++ free_names h (bare_expr r)) d =
      grows_both b c d (names l) (names r) (subst (λ z. Grows b (names z) c) is_l second) (subst (λ z. Grows c (names z) d) is_r third) in
      subst (λ z. Grows a (free_names h z) d) (sym tree) (grows_both a b d (names t) (names l ++ names r) (subst (λ z. Grows a (names z) b) is_t first) two)

pub ruleset names = (grows_none, grows_both)

pub ruleset lists = (continues_init, each_more, each_end)

-- ---- what is read and assigned

pub gains_none : (a : Access) → Gains a no_access a
gains_none a = record { reads = grows_none a.reads; assigns = grows_none a.assigns }

pub gains_both : (a b c x y : Access) → Gains a x b → Gains b y c → Gains a (both x y) c
gains_both a b c x y first second = record {
  reads = grows_both a.reads b.reads c.reads x.reads y.reads first.reads second.reads;
  assigns = grows_both a.assigns b.assigns c.assigns x.assigns y.assigns first.assigns second.assigns;
}

pub gains_on_init : (a x : Access) → GainsOn a x x a
gains_on_init a x = record { ends = λ end h. h }

pub gains_on_more : (a all b c x y rest : Access) → rest ≡ both x y → GainsOn a all rest b → Gains b x c → GainsOn a all y c
gains_on_more a all b c x y rest is so_far step = record { ends = λ end h. so_far.ends end (subst (λ z. Gains b z end) (sym is) (gains_both b c end x y step h)) }

pub gains_on_end : (a all b rest : Access) → rest ≡ no_access → GainsOn a all rest b → Gains a all b
gains_on_end a all b rest is so_far = so_far.ends b (subst (λ z. Gains b z b) (sym is) (gains_none b))
