-- Which names a nest hides, and its text where it hides none.
use Rattle.std.proofs.Common.{◌≡◌, refl, sym, ap, subst, Some, Bool, true, false, ◌||◌}
use Rattle.std.specs.Prelude.{bytes_eq, if◌then◌else◌}
use Rattle.std.proofs.lemmas.Slice.Eq.{bytes_eq-Decides}
use Rattle.c_tree.specs.Bare.{Name, Expr, read, decl, Stmts, no_stmts}
use Rattle.c_tree.specs.declared.tree.Ty.{Ty}
use Rattle.loop_normal.specs.Gens.{GenLoop, gen_loop, Inner, Nest, Seq, Parts, more_parts, Plain, Looped, no_parts, Gen, parts_stmts}
use Rattle.loop_normal.specs.Templates.{ll, only, LoopNames, SourceLoop, source_front, put_innermost, put_below, round}
use Rattle.nest_normal.specs.NestTexts.{nest_of, innermost, declares, declare_in, declare_below, hides, hides_below, loop_round, nest_round}

-- ---- by one variable more

pub or_false : (a : Bool) → (if a then true else false) ≡ a
or_false true = refl
or_false false = refl

as_or : (a b : Bool) → (if a then true else b) ≡ (a || b)
as_or true b = refl
as_or false b = refl

pub innermost_hides : (m : LoopNames) (h : SourceLoop) (x : Name) (as' : Stmts) → hides (innermost m h as') x ≡ bytes_eq x h.var
innermost_hides m h x as' = or_false (bytes_eq x h.var)

module _ (T : Ty) (y : Name) (e : Expr) (x : Name) where
  -- a name that is hidden already
  seen : (ps : Parts) → declares y (parts_stmts ps) ≡ true → (t : Bool) → bytes_eq x y ≡ t → declares x (parts_stmts ps) ≡ (t || declares x (parts_stmts ps))
  seen ps h true q = subst (λ z. declares z (parts_stmts ps) ≡ true) (sym ((bytes_eq-Decides x y).0 q)) h
  seen ps h false q = refl

  by_test : (ps : Parts) (t : Bool) → declares y (parts_stmts ps) ≡ t → declares x (parts_stmts (if t then ps else more_parts (Plain (only (decl T y (Some e)))) ps)) ≡ (bytes_eq x y || declares x (parts_stmts ps))
  by_test ps true h = seen ps h (bytes_eq x y) refl
  by_test ps false h = as_or (bytes_eq x y) (declares x (parts_stmts ps))

  mutual
    in_hides : (l : GenLoop) → hides (declare_in (decl T y (Some e)) l) x ≡ (bytes_eq x y || hides l x)
    in_hides (gen_loop ls c a b inner) = below_hides inner

    below_hides : (i : Inner) → hides_below (declare_below (decl T y (Some e)) i) x ≡ (bytes_eq x y || hides_below i x)
    below_hides (Nest l) = in_hides l
    below_hides (Seq ps) = by_test ps (declares y (parts_stmts ps)) refl

pub round_hides : (m : LoopNames) (h : SourceLoop) (x : Name) (l : GenLoop) → hides (loop_round m h l) x ≡ (bytes_eq x h.var || hides l x)
round_hides m h x l = in_hides h.ty h.var _ x l

-- ---- where nothing is hidden

module _ (T : Ty) (y : Name) (e : Expr) where
  mutual
    same_in : (l : GenLoop) → hides l y ≡ false → declare_in (decl T y (Some e)) l ≡ put_innermost (decl T y (Some e)) l
    same_in (gen_loop ls c a b inner) h = ap (gen_loop ls c a b) (same_below inner h)

    same_below : (i : Inner) → hides_below i y ≡ false → declare_below (decl T y (Some e)) i ≡ put_below (decl T y (Some e)) i
    same_below (Nest l) h = ap Nest (same_in l h)
    same_below (Seq ps) h = ap (λ t. Seq (if t then ps else more_parts (Plain (only (decl T y (Some e)))) ps)) h

pub round_same : (m : LoopNames) (h : SourceLoop) (front : Stmts) (l : GenLoop) → hides l h.var ≡ false → nest_round m h (nest_of front l) ≡ round m h (nest_of front l)
round_same m h front l e =
    ap {B = Gen} (λ i. record { front = source_front m h front; parts = more_parts (Looped (gen_loop no_stmts m.counter (ll 0) (read m.count) (Nest i))) no_parts }) (same_in h.ty h.var _ l e)
