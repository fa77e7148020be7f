-- The logical iterations of a loop nest (OpenMP 6.0, 6.4.1) in their order, as trees: what a construct runs.
use Rattle.std.specs.Prelude.{ℕ, zero, suc, List, [], ◌∷◌, ◌++◌, map, length, ℤ, get_or, if◌then◌else◌, ◌==◌}

mutual
  -- one run of a body, with the values of the affected loops' variables, outermost first; trees one after another; the
  -- turns of a loop
  pub data Tree : Type 0 where
    body : ℕ → List ℤ → Tree
    do_all : Trees → Tree
    loop : Trees → Tree

  pub data Trees : Type 0 where
    no_trees : Trees
    more_trees : Tree → Trees → Trees

abbrev pub to_list : Trees → List Tree
to_list no_trees = []
to_list (more_trees t ts) = t ∷ to_list ts

abbrev pub of_list : List Tree → Trees
of_list [] = no_trees
of_list (t ∷ ts) = more_trees t (of_list ts)

abbrev pub loop_of : List Tree → Tree
loop_of ts = loop (of_list ts)

abbrev pub do_of : List Tree → Tree
do_of ts = do_all (of_list ts)

abbrev pub children : Tree → List Tree
children (body b vs) = []
children (do_all ts) = to_list ts
children (loop ts) = to_list ts

-- what stands for a missing tree
abbrev pub no_tree : Tree
no_tree = do_all no_trees

abbrev pub nth : ℕ → List Tree → Tree
nth i ts = get_or ts i no_tree

-- the members 0 to w - 1 of a family
abbrev pub members : {A : Type 0} → ℕ → (ℕ → A) → List A
members zero f = []
members (suc w) f = f 0 ∷ members w (λ i. f (suc i))

-- the width of the k-th loop of a nest, from 0: of the first of its kind, and 0 below a loop without turns
abbrev pub width : Tree → ℕ → ℕ
width t zero = length (children t)
width t (suc k) = if length (children t) == 0 then 0 else width (nth 0 (children t)) k

-- the widths of the first n loops
abbrev pub widths : ℕ → Tree → List ℕ
widths n t = members n (width t)

-- child x1, of that child x2, and so on
abbrev pub pick : Tree → List ℕ → Tree
pick t [] = t
pick t (x ∷ xs) = pick (nth x (children t)) xs

-- nested loops of these widths, with a tree at each list of indices
abbrev pub build : List ℕ → (List ℕ → Tree) → Tree
build [] f = f []
build (w ∷ ws) f = loop_of (members w (λ i. build ws (λ is. f (i ∷ is))))

-- ---- at a depth

abbrev pub on_children : (Tree → Tree) → Tree → Tree
on_children f (body b vs) = body b vs
on_children f (do_all ts) = do_of (map f (to_list ts))
on_children f (loop ts) = loop_of (map f (to_list ts))

-- every tree at a depth
abbrev pub at_depth : ℕ → (Tree → Tree) → Tree → Tree
at_depth zero f = f
at_depth (suc k) f = on_children (at_depth k f)

-- ---- the bodies

abbrev mutual
  -- the bodies with their values, in the order in which they run
  pub leaves : Tree → List (ℕ × List ℤ)
  leaves (body b zs) = (b, zs) ∷ []
  leaves (do_all ts) = all_leaves ts
  leaves (loop ts) = all_leaves ts

  pub all_leaves : Trees → List (ℕ × List ℤ)
  all_leaves no_trees = []
  all_leaves (more_trees t ts) = leaves t ++ all_leaves ts

-- of trees one after another
abbrev pub forest_leaves : List Tree → List (ℕ × List ℤ)
forest_leaves ts = all_leaves (of_list ts)

abbrev mutual
  -- a value before the values of every body
  pub put : ℤ → Tree → Tree
  put z (body b vs) = body b (z ∷ vs)
  put z (do_all ts) = do_all (put_all z ts)
  put z (loop ts) = loop (put_all z ts)

  pub put_all : ℤ → Trees → Trees
  put_all z no_trees = no_trees
  put_all z (more_trees t ts) = more_trees (put z t) (put_all z ts)
