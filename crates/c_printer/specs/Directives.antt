-- The printed form of directives (OpenMP 6.0, loop-transforming constructs): `tile sizes(4, 2) apply(grid(1): reverse)`.
-- Clauses stand in their order, separated by one space.
use Rattle.std.specs.Prelude.{Bool, true, false, List, [], ◌∷◌, Option, Some, None, codes}
use Rattle.c_tree.specs.Bare.{Name, Exprs, no_exprs, more_exprs, Count, fill, given, Directive, directive, Clauses, no_clauses, more_clauses, Clause, sizes, permutation, counts, looprange, full, partial, apply, Items, no_items, more_items, Item, nothing as does_nothing, acts}
use Rattle.c_tree.specs.declared.tree.Kind.{Kind}
use Rattle.c_tree.specs.declared.tree.Kind.TheVariants.{Tile, Unroll, Interchange, Reverse, Split, Fuse}
use Rattle.c_lexer.specs.declared.token.Punct.TheVariants.{Colon}
use Rattle.c_lexer.specs.declared.words.Keyword.TheVariants as k
use Rattle.c_printer.specs.Layout.{Layout, nothing, ◌&◌, word, key, sign, gap, parens, comma, separator}
use Rattle.c_printer.specs.Expressions.{expr_form, listed}

abbrev pub kind_word : Kind → Name
kind_word Tile = codes "tile"
kind_word Unroll = codes "unroll"
kind_word Interchange = codes "interchange"
kind_word Reverse = codes "reverse"
kind_word Split = codes "split"
kind_word Fuse = codes "fuse"

abbrev pub count_form : Count → Layout
count_form fill = key k.OmpFill
count_form (given e) = expr_form e

abbrev pub further_counts : List Count → Layout
further_counts [] = nothing
further_counts (c ∷ cs) = comma & count_form c & further_counts cs

abbrev pub listed_counts : List Count → Layout
listed_counts [] = nothing
listed_counts (c ∷ cs) = count_form c & further_counts cs

-- the loops that the items of an `apply` are for
abbrev pub indices : Exprs → Layout
indices no_exprs = nothing
indices (more_exprs e es) = parens (listed (more_exprs e es))

abbrev pub modifier_form : Option Name → Exprs → Layout
modifier_form None es = nothing
modifier_form (Some x) es = word x & indices es & sign Colon & gap

abbrev mutual
  pub clause_form : Clause → Layout
  clause_form (sizes es) = word (codes "sizes") & parens (listed es)
  clause_form (permutation es) = word (codes "permutation") & parens (listed es)
  clause_form (counts cs) = word (codes "counts") & parens (listed_counts cs)
  clause_form (looprange first number) = word (codes "looprange") & parens (expr_form first & comma & expr_form number)
  clause_form full = word (codes "full")
  clause_form (partial None) = word (codes "partial")
  clause_form (partial (Some factor)) = word (codes "partial") & parens (expr_form factor)
  clause_form (apply m es is) = word (codes "apply") & parens (modifier_form m es & items_after true is)

  pub clauses_form : Clauses → Layout
  clauses_form no_clauses = nothing
  clauses_form (more_clauses c cs) = gap & clause_form c & clauses_form cs

  pub directive_form : Directive → Layout
  directive_form (directive kind cs) = word (kind_word kind) & clauses_form cs

  pub item_form : Item → Layout
  item_form does_nothing = word (codes "nothing")
  item_form (acts d) = directive_form d

  -- items of which the first follows another one, or none
  pub items_after : Bool → Items → Layout
  items_after first no_items = nothing
  items_after first (more_items i is) = separator first & item_form i & items_after false is

abbrev pub listed_items : Items → Layout
listed_items is = items_after true is
