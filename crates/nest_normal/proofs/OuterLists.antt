-- Declarations below the innermost loop of a nest, and values before the values of its bodies.
use Rattle.std.proofs.Common.{◌≡◌, refl, sym, ap, ◌∙◌, ℕ, zero, suc, List, [], ◌∷◌, ◌++◌, Bool, true, false, ℤ}
use Rattle.std.specs.Prelude.{bytes_eq, if◌then◌else◌}
use Rattle.std.proofs.lemmas.Bool.{both_ways}
use Rattle.c_tree.specs.Bare.{Name, Expr, read, Stmt, block, Stmts, no_stmts, more_stmts}
use Rattle.c_semantics.specs.Meaning.FileVariables.{has_name}
use Rattle.c_semantics.specs.Loops.IterationTrees.{Tree, body, loop, loop_of, of_list, members, more_trees, put, put_all}
use Rattle.loop_normal.specs.Gens.{GenLoop, gen_loop, Inner, Nest, Seq, Parts, more_parts, Plain, parts_stmts}
use Rattle.loop_normal.specs.Templates.{ll, only, LoopNames, SourceLoop, value_expr}
use Rattle.nest_normal.specs.NestTexts.{declares_name, declares, put_visible, declare_in, declare_below, loop_round}
use Rattle.nest_normal.specs.OuterVariables.{Outer, declaration_of, typed, declared, puts}
use Rattle.nest_normal.proofs.HiddenCopies.{var_names}

-- ---- declarations

abbrev declared_below : List Outer → Inner → Inner
declared_below [] i = i
declared_below (d ∷ ds) i = declare_below (declaration_of d) (declared_below ds i)

declared_loop : (ds : List Outer) (ls : Stmts) (c : Name) (a b : Expr) (i : Inner) → declared ds (gen_loop ls c a b i) ≡ gen_loop ls c a b (declared_below ds i)
declared_loop [] ls c a b i = refl
declared_loop (d ∷ ds) ls c a b i = ap (declare_in (declaration_of d)) (declared_loop ds ls c a b i)

declared_nest : (ds : List Outer) (l : GenLoop) → declared_below ds (Nest l) ≡ Nest (declared ds l)
declared_nest [] l = refl
declared_nest (d ∷ ds) l = ap (declare_below (declaration_of d)) (declared_nest ds l)

-- one more inside
declared_more : (ds : List Outer) (d : Outer) (l : GenLoop) → declared ds (declare_in (declaration_of d) l) ≡ declared (ds ++ d ∷ []) l
declared_more [] d l = refl
declared_more (e ∷ ds) d l = ap (declare_in (declaration_of e)) (declared_more ds d l)

-- a loop's variable, as the list below the innermost loop declares it
abbrev pub variable_of : LoopNames → SourceLoop → Outer
variable_of m h = record { ty = h.ty; name = h.var; value = value_expr h.ty h.step m.begin m.counter }

-- outside of a loop round a nest
pub declared_round : (ds : List Outer) (m : LoopNames) (h : SourceLoop) (l : GenLoop) → declared ds (loop_round m h l) ≡ gen_loop no_stmts m.counter (ll 0) (read m.count) (Nest (declared (ds ++ variable_of m h ∷ []) l))
declared_round ds m h l =
    let one = declaration_of (variable_of m h) in
    declared_loop ds no_stmts m.counter (ll 0) (read m.count) (Nest (declare_in one l))
    ∙ ap (gen_loop no_stmts m.counter (ll 0) (read m.count)) (declared_nest ds (declare_in one l) ∙ ap Nest (declared_more ds (variable_of m h) l))

pub typed_more : (ds : List Outer) (d : Outer) → typed (ds ++ d ∷ []) ≡ typed ds ++ (d.name, d.ty) ∷ []
typed_more [] d = refl
typed_more (e ∷ ds) d = ap (λ xs. (e.name, e.ty) ∷ xs) (typed_more ds d)

-- before a list
abbrev pub visible : List Outer → Stmts → Stmts
visible [] as' = as'
visible (d ∷ ds) as' = if declares d.name (visible ds as') then visible ds as' else more_stmts (declaration_of d) (visible ds as')

pub visible_more : (ds : List Outer) (d : Outer) (as' : Stmts) → declares d.name as' ≡ false → visible ds (more_stmts (declaration_of d) as') ≡ visible (ds ++ d ∷ []) as'
visible_more [] d as' e = sym (ap (λ t. if t then as' else more_stmts (declaration_of d) as') e)
visible_more (c ∷ ds) d as' e = ap (λ l. if declares c.name l then l else more_stmts (declaration_of c) l) (visible_more ds d as' e)

abbrev pub declared_parts : List Outer → Parts → Parts
declared_parts [] ps = ps
declared_parts (d ∷ ds) ps = put_visible (declaration_of d) (declared_parts ds ps)

declared_seq : (ds : List Outer) (ps : Parts) → declared_below ds (Seq ps) ≡ Seq (declared_parts ds ps)
declared_seq [] ps = refl
declared_seq (d ∷ ds) ps = ap (declare_below (declaration_of d)) (declared_seq ds ps)

put_stmts : (d : Outer) (ps : Parts) → parts_stmts (put_visible (declaration_of d) ps) ≡ if declares d.name (parts_stmts ps) then parts_stmts ps else more_stmts (declaration_of d) (parts_stmts ps)
put_stmts d ps = by (declares d.name (parts_stmts ps))
  where
    by : (t : Bool) → parts_stmts (if t then ps else more_parts (Plain (only (declaration_of d))) ps) ≡ if t then parts_stmts ps else more_stmts (declaration_of d) (parts_stmts ps)
    by true = refl
    by false = refl

-- below an innermost loop
pub declared_leaf : (ds : List Outer) (ls : Stmts) (c : Name) (a b : Expr) (ps : Parts) → declared ds (gen_loop ls c a b (Seq ps)) ≡ gen_loop ls c a b (Seq (declared_parts ds ps))
declared_leaf ds ls c a b ps = declared_loop ds ls c a b (Seq ps) ∙ ap (gen_loop ls c a b) (declared_seq ds ps)

pub parts_visible : (ds : List Outer) (ps : Parts) → parts_stmts (declared_parts ds ps) ≡ visible ds (parts_stmts ps)
parts_visible [] ps = refl
parts_visible (d ∷ ds) ps = put_stmts d (declared_parts ds ps) ∙ ap (λ l. if declares d.name l then l else more_stmts (declaration_of d) l) (parts_visible ds ps)

-- what is declared before a block is one of them
one_or_later : (x y : Name) (l : Stmts) (ys : List Name) (d : Stmt) → declares_name x d ≡ bytes_eq x y → (declares x l ≡ true → has_name ys x ≡ true) → (t : Bool) → declares x (if t then l else more_stmts d l) ≡ true → has_name (y ∷ ys) x ≡ true
one_or_later x y l ys d same later true e = by (bytes_eq x y)
  where
    by : (t : Bool) → (if t then true else has_name ys x) ≡ true
    by true = refl
    by false = later e
one_or_later x y l ys d same later false e = by (bytes_eq x y) (ap (λ t. if t then true else declares x l) (sym same) ∙ e)
  where
    by : (t : Bool) → (if t then true else declares x l) ≡ true → (if t then true else has_name ys x) ≡ true
    by true k = refl
    by false k = later k

pub declares_some : (x : Name) (ds : List Outer) (as' : Stmts) → declares x (visible ds (more_stmts (block as') no_stmts)) ≡ true → has_name (var_names (typed ds)) x ≡ true
declares_some x [] as' e = absurd (both_ways false refl e)
declares_some x (d ∷ ds) as' e =
    let l = visible ds (more_stmts (block as') no_stmts) in
    one_or_later x d.name l (var_names (typed ds)) (declaration_of d) refl (declares_some x ds as') (declares d.name l) e

-- ---- values

pub puts_more : (zs : List ℤ) (z : ℤ) (t : Tree) → puts (zs ++ z ∷ []) t ≡ puts zs (put z t)
puts_more [] z t = refl
puts_more (y ∷ zs) z t = ap (put y) (puts_more zs z t)

pub puts_body : (b : ℕ) (zs : List ℤ) → puts zs (body b []) ≡ body b zs
puts_body b [] = refl
puts_body b (z ∷ zs) = ap (put z) (puts_body b zs)

put_members : (z : ℤ) (w : ℕ) (f : ℕ → Tree) → put_all z (of_list (members w f)) ≡ of_list (members w (λ i. put z (f i)))
put_members z zero f = refl
put_members z (suc w) f = ap (more_trees (put z (f 0))) (put_members z w (λ i. f (suc i)))

pub puts_loop : (zs : List ℤ) (w : ℕ) (f : ℕ → Tree) → puts zs (loop_of (members w f)) ≡ loop_of (members w (λ i. puts zs (f i)))
puts_loop [] w f = refl
puts_loop (z ∷ zs) w f = ap (put z) (puts_loop zs w f) ∙ ap loop (put_members z w (λ i. puts zs (f i)))
