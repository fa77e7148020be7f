-- The words of directives: their names and the names of their clauses (OpenMP 6.0, loop-transforming constructs).
use Rattle.std.specs.Prelude.{Bool, if◌then◌else◌, Option, Some, None, codes, bytes_eq}
use Rattle.c_tree.specs.Bare.{Name}
use Rattle.c_tree.specs.declared.tree.Kind.{Kind}
use Rattle.c_tree.specs.declared.tree.Kind.TheVariants.{Tile, Unroll, Interchange, Reverse, Split, Fuse}
use Rattle.pragma_grammar.specs.declared.words.ClauseWord.{ClauseWord}
use Rattle.pragma_grammar.specs.declared.words.ClauseWord.TheVariants.{Sizes, Permutation, Counts, LoopRange, Full, Partial, Apply}

-- the directive that a word names
unfoldable pub kind_of : Name → Option Kind
kind_of x =
    if bytes_eq x (codes "tile") then Some Tile
    else (if bytes_eq x (codes "unroll") then Some Unroll
    else (if bytes_eq x (codes "interchange") then Some Interchange
    else (if bytes_eq x (codes "reverse") then Some Reverse
    else (if bytes_eq x (codes "split") then Some Split
    else (if bytes_eq x (codes "fuse") then Some Fuse
    else None)))))

-- the clause that a word names
unfoldable pub clause_of : Name → Option ClauseWord
clause_of x =
    if bytes_eq x (codes "sizes") then Some Sizes
    else (if bytes_eq x (codes "permutation") then Some Permutation
    else (if bytes_eq x (codes "counts") then Some Counts
    else (if bytes_eq x (codes "looprange") then Some LoopRange
    else (if bytes_eq x (codes "full") then Some Full
    else (if bytes_eq x (codes "partial") then Some Partial
    else (if bytes_eq x (codes "apply") then Some Apply
    else None))))))

-- the item that does nothing
unfoldable pub is_nothing : Name → Bool
is_nothing x = bytes_eq x (codes "nothing")
