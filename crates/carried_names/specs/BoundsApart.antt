-- Affected loops whose bounds don't name the variable that their head declares (OpenMP 6.0, 6.4.1: the bounds are loop
-- invariant). Code that computes such a bound once, in front of the loop, sees there what the bound named.
use Rattle.std.specs.Prelude.{List, [], ◌∷◌, Option, Some, None}
use Rattle.c_tree.specs.Bare.{Stmt, if_, if_else, while_, do_, for_, block, omp, Stmts, no_stmts, more_stmts, Top, function, main, Program}
use Rattle.c_tree.specs.declared.tree.Ty.{Ty}
use Rattle.c_semantics.specs.Meaning.Expressions.{Define}
use Rattle.c_semantics.specs.Meaning.FileVariables.{defines_with}
use Rattle.c_semantics.specs.Laws.Apart.{Differ}
use Rattle.c_semantics.specs.Laws.Names.{Names}
use Rattle.c_semantics.specs.Loops.CanonicalForm.{Canonical, canonical}

-- of a loop whose head declares a variable of this type, if it declares one
abbrev pub ApartIfDeclared : Option Ty → Canonical → Type 0
ApartIfDeclared None c = Unit {0}
ApartIfDeclared (Some T) c = Names (λ y. Differ y c.var) c.lb × Names (λ y. Differ y c.var) c.ub

-- of a head, where it is canonical
abbrev pub BoundsApart : Option Canonical → Type 0
BoundsApart None = Unit {0}
BoundsApart (Some c) = ApartIfDeclared c.ty c

-- of the affected loops in statements
module _ (ds : List Define) where
  abbrev mutual
    pub HasBoundsApart : Stmt → Type 0
    HasBoundsApart (if_ e a) = HaveBoundsApart a
    HasBoundsApart (if_else e a b) = HaveBoundsApart a × HaveBoundsApart b
    HasBoundsApart (while_ e a) = HaveBoundsApart a
    HasBoundsApart (do_ a e) = HaveBoundsApart a
    HasBoundsApart (for_ h a) = HaveBoundsApart a
    HasBoundsApart (block a) = HaveBoundsApart a
    HasBoundsApart (omp d a) = LeadsToBoundsApart a
    HasBoundsApart _ = Unit {0}

    pub HaveBoundsApart : Stmts → Type 0
    HaveBoundsApart no_stmts = Unit {0}
    HaveBoundsApart (more_stmts a as') = HasBoundsApart a × HaveBoundsApart as'

    -- the loop that a construct's list leads to, through braces and further directives
    pub LeadsToBoundsApart : Stmts → Type 0
    LeadsToBoundsApart (more_stmts a no_stmts) = IsWithBoundsApart a
    LeadsToBoundsApart _ = Unit {0}

    pub IsWithBoundsApart : Stmt → Type 0
    IsWithBoundsApart (for_ h a) = BoundsApart (canonical ds h) × HaveBoundsApart a
    IsWithBoundsApart (block a) = LeadsToBoundsApart a
    IsWithBoundsApart (omp d a) = LeadsToBoundsApart a
    IsWithBoundsApart _ = Unit {0}

abbrev pub TopHasBoundsApart : List Define → Top → Type 0
TopHasBoundsApart ds (function x ps a) = HaveBoundsApart ds a
TopHasBoundsApart ds (main a) = HaveBoundsApart ds a
TopHasBoundsApart ds _ = Unit {0}

abbrev pub ItemsHaveBoundsApart : List Define → Program → Type 0
ItemsHaveBoundsApart ds [] = Unit {0}
ItemsHaveBoundsApart ds (i ∷ is) = TopHasBoundsApart ds i × ItemsHaveBoundsApart (defines_with ds i) is

-- of a whole program
abbrev pub LoopsHaveBoundsApart : Program → Type 0
LoopsHaveBoundsApart p = ItemsHaveBoundsApart [] p
