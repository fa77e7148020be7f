-- What isn't spelled is none of the names that code uses.
use Rattle.std.proofs.Common.{◌≡◌, refl, Option, Some, None, Bool, true, false, ◌||◌}
use Rattle.std.specs.Prelude.{bytes_eq}
use Rattle.std.proofs.lemmas.Bool.{both_ways}
use Rattle.c_tree.specs.Bare.{Name, Expr, num, read, item, un, bin, cond, cast, Exprs, no_exprs, more_exprs, Target, target, Stmt, decl, set, step, print, input, if_, if_else, while_, do_, for_, block, break_, continue_, empty, omp, call, Stmts, no_stmts, more_stmts, head, MaybeStmt, no_stmt, a_stmt}
use Rattle.c_semantics.specs.Laws.Apart.{Differ}
use Rattle.c_semantics.specs.Laws.Names.{Names, NamesEach, NamesIf, NamesIn, Uses, UsesAll, UsesIf}
use Rattle.loop_normal.specs.Gens.{GenLoop, gen_loop, Inner, Nest, Seq, Part, Looped, Plain, Parts, no_parts, more_parts, join, loop_stmts, inner_stmts, part_stmts, parts_stmts}
use Rattle.nest_normal.specs.Spelled.{in_expr, in_exprs, in_option, in_target, in_stmt, in_stmts, in_head, in_maybe, in_loop, in_inner, in_part, in_parts}

-- neither of the two
pub neither : (a b : Bool) → (a || b) ≡ false → (a ≡ false) × (b ≡ false)
neither true b e = absurd (both_ways true e refl)
neither false b e = (refl, e)

module _ (x : Name) where
  abbrev pub Other : Name → Type 0
  Other y = Differ y x

  mutual
    pub expr_others : (e : Expr) → in_expr x e ≡ false → Names Other e
    expr_others (num k t) h = tt
    expr_others (read y) h = h
    expr_others (item y es) h = let n = neither (bytes_eq y x) (in_exprs x es) h in (n.0, exprs_others es n.1)
    expr_others (un op a) h = expr_others a h
    expr_others (bin op a b) h = let n = neither (in_expr x a) (in_expr x b) h in (expr_others a n.0, expr_others b n.1)
    expr_others (cond a b c) h =
        let n = neither (in_expr x a || in_expr x b) (in_expr x c) h in
        let m = neither (in_expr x a) (in_expr x b) n.0 in
        (expr_others a m.0, expr_others b m.1, expr_others c n.1)
    expr_others (cast t a) h = expr_others a h

    pub exprs_others : (es : Exprs) → in_exprs x es ≡ false → NamesEach Other es
    exprs_others no_exprs h = tt
    exprs_others (more_exprs e es) h = let n = neither (in_expr x e) (in_exprs x es) h in (expr_others e n.0, exprs_others es n.1)

  option_others : (e : Option Expr) → in_option x e ≡ false → NamesIf Other e
  option_others None h = tt
  option_others (Some e) h = expr_others e h

  target_others : (t : Target) → in_target x t ≡ false → NamesIn Other t
  target_others (target y es) h = let n = neither (bytes_eq y x) (in_exprs x es) h in (n.0, exprs_others es n.1)

  mutual
    stmt_others : (a : Stmt) → in_stmt x a ≡ false → Uses Other Other a
    stmt_others (decl t y e) h = let n = neither (bytes_eq y x) (in_option x e) h in (n.0, option_others e n.1)
    stmt_others (set t op e) h = let n = neither (in_target x t) (in_expr x e) h in (target_others t n.0, expr_others e n.1)
    stmt_others (step t up) h = target_others t h
    stmt_others (print e) h = expr_others e h
    stmt_others (input t) h = target_others t h
    stmt_others (if_ e a) h = let n = neither (in_expr x e) (in_stmts x a) h in (expr_others e n.0, stmts_others a n.1)
    stmt_others (if_else e a b) h =
        let n = neither (in_expr x e || in_stmts x a) (in_stmts x b) h in
        let m = neither (in_expr x e) (in_stmts x a) n.0 in
        (expr_others e m.0, stmts_others a m.1, stmts_others b n.1)
    stmt_others (while_ e a) h = let n = neither (in_expr x e) (in_stmts x a) h in (expr_others e n.0, stmts_others a n.1)
    stmt_others (do_ a e) h = let n = neither (in_stmts x a) (in_expr x e) h in (stmts_others a n.0, expr_others e n.1)
    stmt_others (for_ (head i e next) a) h =
        let n = neither (in_head x (head i e next)) (in_stmts x a) h in
        let m = neither (in_maybe x i || in_option x e) (in_maybe x next) n.0 in
        let l = neither (in_maybe x i) (in_option x e) m.0 in
        (maybe_others i l.0, option_others e l.1, maybe_others next m.1, stmts_others a n.1)
    stmt_others (block a) h = stmts_others a h
    stmt_others break_ h = tt
    stmt_others continue_ h = tt
    stmt_others empty h = tt
    stmt_others (omp d a) h = stmts_others a h
    stmt_others (call f es) h = let n = neither (bytes_eq f x) (in_exprs x es) h in (n.0, exprs_others es n.1)

    pub stmts_others : (a : Stmts) → in_stmts x a ≡ false → UsesAll Other Other a
    stmts_others no_stmts h = tt
    stmts_others (more_stmts a as') h = let n = neither (in_stmt x a) (in_stmts x as') h in (stmt_others a n.0, stmts_others as' n.1)

    maybe_others : (a : MaybeStmt) → in_maybe x a ≡ false → UsesIf Other Other a
    maybe_others no_stmt h = tt
    maybe_others (a_stmt a) h = stmt_others a h

  -- ---- nests

  -- the parts of a loop don't spell the name
  pub record LoopSpellsOthers (ls : Stmts) (c : Name) (a b : Expr) (inner : Inner) : Type 0 where
    pub lets : in_stmts x ls ≡ false
    pub counter : bytes_eq c x ≡ false
    pub from : in_expr x a ≡ false
    pub to : in_expr x b ≡ false
    pub below : in_inner x inner ≡ false

  pub loop_others : (ls : Stmts) (c : Name) (a b : Expr) (inner : Inner) → in_loop x (gen_loop ls c a b inner) ≡ false → LoopSpellsOthers ls c a b inner
  loop_others ls c a b inner h =
      let n = neither (in_stmts x ls || bytes_eq c x || in_expr x a || in_expr x b) (in_inner x inner) h in
      let m = neither (in_stmts x ls || bytes_eq c x || in_expr x a) (in_expr x b) n.0 in
      let l = neither (in_stmts x ls || bytes_eq c x) (in_expr x a) m.0 in
      let k = neither (in_stmts x ls) (bytes_eq c x) l.0 in
      record { lets = k.0; counter = k.1; from = l.1; to = m.1; below = n.1 }

  join_uses : (a b : Stmts) → UsesAll Other Other a → UsesAll Other Other b → UsesAll Other Other (join a b)
  join_uses no_stmts b h k = k
  join_uses (more_stmts a as') b h k = (h.0, join_uses as' b h.1 k)

  mutual
    pub nest_uses : (l : GenLoop) → in_loop x l ≡ false → UsesAll Other Other (loop_stmts l)
    nest_uses (gen_loop ls c a b inner) h =
        let o = loop_others ls c a b inner h in
        join_uses ls _ (stmts_others ls o.lets)
        ((((o.counter, expr_others a o.from), (o.counter, expr_others b o.to), (o.counter, tt), inner_uses inner o.below), tt))

    inner_uses : (i : Inner) → in_inner x i ≡ false → UsesAll Other Other (inner_stmts i)
    inner_uses (Nest l) h = nest_uses l h
    inner_uses (Seq ps) h = parts_uses ps h

    part_uses : (p : Part) → in_part x p ≡ false → UsesAll Other Other (part_stmts p)
    part_uses (Looped l) h = nest_uses l h
    part_uses (Plain as') h = stmts_others as' h

    pub parts_uses : (ps : Parts) → in_parts x ps ≡ false → UsesAll Other Other (parts_stmts ps)
    parts_uses no_parts h = tt
    parts_uses (more_parts p ps) h = let n = neither (in_part x p) (in_parts x ps) h in join_uses (part_stmts p) (parts_stmts ps) (part_uses p n.0) (parts_uses ps n.1)
