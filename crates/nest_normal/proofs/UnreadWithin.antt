-- Declarations below the innermost loop of a nest, and what nothing in the nest reads.
use Rattle.std.proofs.Common.{◌≡◌, refl, sym, ap, ◌∙◌, subst, List, [], ◌∷◌, Bool, true, false, ◌||◌, not, ℤ}
use Rattle.std.specs.Prelude.{bytes_eq, if◌then◌else◌}
use Rattle.std.proofs.lemmas.Bool.{both_ways}
use Rattle.std.proofs.lemmas.Slice.Eq.{bytes_eq-Decides}
use Rattle.c_tree.specs.Bare.{Name, Expr, num, read, item, un, bin, cond, cast, Exprs, no_exprs, more_exprs, Stmt, decl, Stmts, no_stmts, more_stmts}
use Rattle.c_semantics.specs.Meaning.FileVariables.{has_name}
use Rattle.c_semantics.specs.Meaning.State.{Var}
use Rattle.c_semantics.specs.Meaning.Expressions.{Define}
use Rattle.c_semantics.specs.Laws.Apart.{Differ}
use Rattle.c_semantics.specs.Laws.Names.{Names, NamesEach}
use Rattle.loop_normal.specs.FreshNames.{Apart}
use Rattle.loop_normal.specs.Gens.{GenLoop, gen_loop, Inner, Nest, Seq, Plain, Parts, more_parts}
use Rattle.loop_normal.specs.Templates.{only}
use Rattle.loop_normal.proofs.FreshFrames.{differ_sym}
use Rattle.nest_normal.specs.Spelled.{in_expr, in_exprs, in_stmt, in_stmts, in_loop, in_inner, in_parts, is_unread, before, before_if_read, all_if_read, without_unread, below_without_unread}
use Rattle.nest_normal.specs.NestTexts.{is_hidden, put_visible, declare_in, declare_below}
use Rattle.nest_normal.specs.OuterVariables.{Outer, declaration_of, declared, Given, ValuesApart}
use Rattle.nest_normal.specs.KnownCounts.{AllFresh, LetsAmong, DeclaresOwn, DeclaresOwnBelow}
use Rattle.nest_normal.proofs.NamesMore.{names_more}

-- ---- names that differ

module _ (x : Name) where
  mutual
    others_expr : (e : Expr) → Names (λ y. Differ y x) e → in_expr x e ≡ false
    others_expr (num k t) h = refl
    others_expr (read y) h = h
    others_expr (item y es) h = ap (λ b. b || in_exprs x es) h.0 ∙ others_exprs es h.1
    others_expr (un op a) h = others_expr a h
    others_expr (bin op a b) h = ap (λ t. t || in_expr x b) (others_expr a h.0) ∙ others_expr b h.1
    others_expr (cond a b c) h = ap (λ t. t || in_expr x b || in_expr x c) (others_expr a h.0) ∙ ap (λ t. t || in_expr x c) (others_expr b h.1) ∙ others_expr c h.2
    others_expr (cast t a) h = others_expr a h

    others_exprs : (es : Exprs) → NamesEach (λ y. Differ y x) es → in_exprs x es ≡ false
    others_exprs no_exprs h = refl
    others_exprs (more_exprs e es) h = ap (λ b. b || in_exprs x es) (others_expr e h.0) ∙ others_exprs es h.1

-- one of the names is another than what differs from all
apart_own : (y x : Name) (own : List Name) → Apart y own → has_name own x ≡ true → Differ y x
apart_own y x [] a h = absurd (both_ways false refl h)
apart_own y x (z ∷ own) a h = by (bytes_eq x z) refl h (apart_own y x own a.1)
  where
    by : (t : Bool) → bytes_eq x z ≡ t → (if t then true else has_name own x) ≡ true → (has_name own x ≡ true → Differ y x) → Differ y x
    by true e k r = differ_sym x y (subst (λ w. Differ w y) (sym ((bytes_eq-Decides x z).0 e)) a.0)
    by false e k r = r k

-- ---- one declaration

-- it spells none of the names that the nest declares before its loops
abbrev SpellsNone : Stmt → Stmts → Type 0
SpellsNone d no_stmts = Unit {0}
SpellsNone d (more_stmts (decl t x e) ls) = (in_stmt x d ≡ false) × SpellsNone d ls
SpellsNone d (more_stmts a ls) = SpellsNone d ls

abbrev mutual
  SpellsNoLet : Stmt → GenLoop → Type 0
  SpellsNoLet d (gen_loop ls c a b inner) = SpellsNone d ls × SpellsNoLetBelow d inner

  SpellsNoLetBelow : Stmt → Inner → Type 0
  SpellsNoLetBelow d (Nest l) = SpellsNoLet d l
  SpellsNoLetBelow d (Seq ps) = Unit {0}

module _ (d : Stmt) where
  put_spells : (x : Name) (ps : Parts) → in_stmt x d ≡ false → in_parts x (put_visible d ps) ≡ in_parts x ps
  put_spells x ps e = by (is_hidden d _)
    where
      by : (t : Bool) → in_parts x (if t then ps else more_parts (Plain (only d)) ps) ≡ in_parts x ps
      by true = refl
      by false = ap (λ t. t || false || in_parts x ps) e

  mutual
    declared_spells : (x : Name) (l : GenLoop) → in_stmt x d ≡ false → in_loop x (declare_in d l) ≡ in_loop x l
    declared_spells x (gen_loop ls c a b inner) e = ap (λ t. in_stmts x ls || bytes_eq c x || in_expr x a || in_expr x b || t) (below_spells x inner e)

    below_spells : (x : Name) (i : Inner) → in_stmt x d ≡ false → in_inner x (declare_below d i) ≡ in_inner x i
    below_spells x (Nest l) e = declared_spells x l e
    below_spells x (Seq ps) e = put_spells x ps e

  declare_before : (a : Stmt) (l : GenLoop) → declare_in d (before a l) ≡ before a (declare_in d l)
  declare_before a (gen_loop ls c e b inner) = refl

  declare_if : (a : Stmt) (l : GenLoop) (t : Bool) → declare_in d (if t then l else before a l) ≡ if t then declare_in d l else before a (declare_in d l)
  declare_if a l true = refl
  declare_if a l false = declare_before a l

  declare_all : (ls : Stmts) (l : GenLoop) → SpellsNone d ls → declare_in d (all_if_read ls l) ≡ all_if_read ls (declare_in d l)
  declare_all no_stmts l h = refl
  declare_all (more_stmts (decl t x e) ls) l h =
      let a = decl t x e in
      let rest = all_if_read ls l in
      declare_if a rest (is_unread a rest)
      ∙ ap (λ b. if not b then declare_in d rest else before a (declare_in d rest)) (sym (declared_spells x rest h.0))
      ∙ ap (before_if_read a) (declare_all ls l h.1)
  declare_all (more_stmts a ls) l h = declare_before a (all_if_read ls l) ∙ ap (before a) (declare_all ls l h)

  mutual
    declare_unread : (l : GenLoop) → SpellsNoLet d l → declare_in d (without_unread l) ≡ without_unread (declare_in d l)
    declare_unread (gen_loop ls c a b inner) h = declare_all ls (gen_loop no_stmts c a b (below_without_unread inner)) h.0 ∙ ap (λ i. all_if_read ls (gen_loop no_stmts c a b i)) (below_unread inner h.1)

    below_unread : (i : Inner) → SpellsNoLetBelow d i → declare_below d (below_without_unread i) ≡ below_without_unread (declare_below d i)
    below_unread (Nest l) h = ap Nest (declare_unread l h)
    below_unread (Seq ps) h = refl

-- ---- outer variables

module _ (own : List Name) where
  mutual
    own_kept : (d : Stmt) (l : GenLoop) → DeclaresOwn own l → DeclaresOwn own (declare_in d l)
    own_kept d (gen_loop ls c a b inner) h = (h.0, own_below_kept d inner h.1)

    own_below_kept : (d : Stmt) (i : Inner) → DeclaresOwnBelow own i → DeclaresOwnBelow own (declare_below d i)
    own_below_kept d (Nest l) h = own_kept d l h
    own_below_kept d (Seq ps) h = tt

  own_declared : (os : List Outer) (l : GenLoop) → DeclaresOwn own l → DeclaresOwn own (declared os l)
  own_declared [] l h = h
  own_declared (o ∷ os) l h = own_kept (declaration_of o) (declared os l) (own_declared os l h)

  spells_none : (d : Stmt) → ((x : Name) → has_name own x ≡ true → in_stmt x d ≡ false) → (ls : Stmts) → LetsAmong own ls → SpellsNone d ls
  spells_none d none no_stmts h = tt
  spells_none d none (more_stmts (decl t x e) ls) h = (none x h.0, spells_none d none ls h.1)
  spells_none d none (more_stmts a ls) h = spells_none d none ls h

  mutual
    spells_no_let : (d : Stmt) → ((x : Name) → has_name own x ≡ true → in_stmt x d ≡ false) → (l : GenLoop) → DeclaresOwn own l → SpellsNoLet d l
    spells_no_let d none (gen_loop ls c a b inner) h = (spells_none d none ls h.0, spells_no_let_below d none inner h.1)

    spells_no_let_below : (d : Stmt) → ((x : Name) → has_name own x ≡ true → in_stmt x d ≡ false) → (i : Inner) → DeclaresOwnBelow own i → SpellsNoLetBelow d i
    spells_no_let_below d none (Nest l) h = spells_no_let d none l h
    spells_no_let_below d none (Seq ps) h = tt

  module _ (Out : Name → Type 0) (fresh : AllFresh Out own) (es : List Define) (p : List Var) where
    -- what nothing reads within outer loops is what nothing reads
    pub declared_unread : (os : List Outer) (zs : List ℤ) (l : GenLoop) → Given Out es p os zs → ValuesApart own os → DeclaresOwn own l → declared os (without_unread l) ≡ without_unread (declared os l)
    declared_unread [] zs l g a h = refl
    declared_unread (o ∷ os) [] l g a h = absurd g
    declared_unread (o ∷ os) (z ∷ zs) l g a h =
        let d = declaration_of o in
        let none = λ (x : Name) (m : has_name own x ≡ true).
        ap (λ t. t || in_expr x o.value) (g.0 x (fresh x m)) ∙ others_expr x o.value (names_more (λ y. Apart y own) (λ y. Differ y x) (λ y b. apart_own y x own b m) o.value a.0) in
        ap (declare_in d) (declared_unread os zs l g.2 a.1 h) ∙ declare_unread d (declared os l) (spells_no_let d none (declared os l) (own_declared os l h))
