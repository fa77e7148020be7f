-- The names that hide file-scope variables: entering declarations and leaving them.
use Rattle.std.proofs.Common.{◌≡◌, ◌∙◌, ap, refl, ℕ, suc, ◌-◌, ◌≤◌, List, ◌∷◌, length, drop, arith}
use Rattle.c_tree.specs.Bare.{Name, Stmt, decl, set, step, print, input, if_, if_else, while_, do_, for_, block, break_, continue_, empty, omp, call, MaybeStmt, no_stmt, a_stmt}
use Rattle.c_tree.proofs.Heads.{bare_head_out}
use Rattle.c_tree.proofs.Forgotten.Directives.{bare_directive_is}
use Rattle.c_semantics.specs.Meaning.State.{keep}
use Rattle.c_semantics.specs.Meaning.FileVariables.{scope_after, scope_in}
use Rattle.loop_heads.specs.Affected.{Extends}

pub all_kept : (h : List Name) (n : ℕ) → n ≡ length h → keep n h ≡ h
all_kept h n is = let e : length h - n ≡ 0 = omega arith in ap (λ k. drop k h) e

pub kept_under : (h : List Name) (x : Name) (n : ℕ) → n ≤ length h → keep n (x ∷ h) ≡ keep n h
kept_under h x n within =
    let e : length (x ∷ h) - n ≡ suc (length h - n) = omega arith in
    ap (λ k. drop k (x ∷ h)) e

pub last_left : (h : List Name) (x : Name) (n : ℕ) → n ≡ length h → keep n (x ∷ h) ≡ h
last_left h x n is = kept_under h x n (omega arith) ∙ all_kept h n is

pub extends_self : (h : List Name) → Extends h h
extends_self h = record { longer = omega arith; kept = all_kept h (length h) refl }

extends_name : (h now : List Name) (x : Name) → Extends h now → Extends h (x ∷ now)
extends_name h now x e = record { longer = omega (arith, e.longer); kept = kept_under now x (length h) e.longer ∙ e.kept }

pub extends_after : (h now : List Name) (a : Stmt) → Extends h now → Extends h (scope_after a now)
extends_after h now (decl t x e) k = extends_name h now x k
extends_after h now (set t o e) k = k
extends_after h now (step t up) k = k
extends_after h now (print e) k = k
extends_after h now (input t) k = k
extends_after h now (if_ e a) k = k
extends_after h now (if_else e a b) k = k
extends_after h now (while_ e a) k = k
extends_after h now (do_ a e) k = k
extends_after h now (for_ d a) k = k
extends_after h now (block a) k = k
extends_after h now break_ k = k
extends_after h now continue_ k = k
extends_after h now empty k = k
extends_after h now (omp d a) k = k
extends_after h now (call f es) k = k

pub extends_in : (h : List Name) (a : MaybeStmt) → Extends h (scope_in a h)
extends_in h no_stmt = extends_self h
extends_in h (a_stmt a) = extends_after h h a (extends_self h)

pub ruleset scopes = (all_kept, last_left)

pub ruleset heads = (bare_head_out)

pub ruleset directives = (bare_directive_is)
