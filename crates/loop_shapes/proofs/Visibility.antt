-- The defines of the last items, and the last variables of a list.
use Rattle.std.proofs.Common.{◌≡◌, ◌∙◌, refl, ◌<◌, ◌≤◌, ◌-◌, ℕ, List, [], ◌∷◌, ◌++◌, map, length, drop, slice_index_or}
use Rattle.std.proofs.lemmas.List.{append-nil, append_assoc}
use Rattle.c_tree.specs.Bare.{Top, define, extern_, global, function, main, Program}
use Rattle.c_tree.specs.BareOf.{bare_top}
use Rattle.c_tree.specs.declared.tree.Item.{Item}
use Rattle.canonical_nests.specs.Canonical.{program_defines}
use Rattle.loop_counts.proofs.BackwardWalks.{seen_more, seen_none, seen_all}
use Rattle.loop_counts.proofs.WellFormedItems.{top_well_formed}
use Rattle.loop_shapes.specs.declared.seen.Seen.{Seen}
use Rattle.loop_shapes.specs.Seen.{variable_of}

one_define : (t : Top) (ts : Program) → program_defines (t ∷ ts) ≡ program_defines (t ∷ []) ++ program_defines ts
one_define (define x negative k ty) ts = refl
one_define (extern_ port) ts = refl
one_define (global t x dims e) ts = refl
one_define (function x ps a) ts = refl
one_define (main a) ts = refl

pub defines_more : (xs : List Item) (left : ℕ) (x : Item) → 0 < left → left ≤ length xs → x ≡ slice_index_or xs (left - 1) x
    → program_defines (map bare_top (drop (left - 1) xs)) ≡ program_defines (bare_top x ∷ []) ++ program_defines (map bare_top (drop left xs))
defines_more xs left x above le is =
    seen_more (λ ys. program_defines (map bare_top ys)) xs left x above le is ∙ one_define (bare_top x) (map bare_top (drop left xs))

pub defines_none : (xs : List Item) (left : ℕ) → left ≡ length xs → program_defines (map bare_top (drop left xs)) ≡ []
defines_none xs left = seen_none (λ ys. program_defines (map bare_top ys)) xs left

pub variables_more : (xs : List Seen) (left : ℕ) (x : Seen) → 0 < left → left ≤ length xs → x ≡ slice_index_or xs (left - 1) x
    → map variable_of (drop (left - 1) xs) ≡ variable_of x ∷ map variable_of (drop left xs)
variables_more xs left x = seen_more (λ ys. map variable_of ys) xs left x

pub variables_none : (xs : List Seen) (left : ℕ) → left ≡ length xs → map variable_of (drop left xs) ≡ []
variables_none xs left = seen_none (λ ys. map variable_of ys) xs left

pub ruleset defines = (defines_more, defines_none, seen_all, append_assoc, top_well_formed)

pub ruleset variables = (variables_more, variables_none, seen_all)

pub ruleset places = (append-nil)
