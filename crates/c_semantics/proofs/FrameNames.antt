-- A frame only gets more names on top of those that it has, and a block's or a call's frame has the same names again.
use Rattle.std.proofs.Common.{◌≡◌, refl, sym, ap, ◌∙◌, subst, ℕ, zero, suc, ◌+◌, ◌-◌, List, [], ◌∷◌, ◌++◌, length, drop, Option, Some, None, Bool, true, false, arith, append_assoc, length-append}
use Rattle.std.specs.Prelude.{bytes_eq, if◌then◌else◌}
use Rattle.c_tree.specs.Bare.{Name}
use Rattle.c_semantics.specs.Meaning.State.{Cell, Var, State, find, write, write_at, keep}
use Rattle.c_semantics.specs.Meaning.SimpleStatements.{Function}
use Rattle.c_semantics.proofs.Invariant.{Kept, FunctionKeeps}

abbrev pub names : List Var → List Name
names [] = []
names (v ∷ vs) = v.name ∷ names vs

-- the later frame has the names of the earlier one below its own
abbrev pub SameNames : State → State → Type 0
SameNames s u = (zs : List Name) × (names u.frame ≡ zs ++ names s.frame)

pub names-write : (x : Name) (c : Cell) (l : List Var) → names (write x c l) ≡ names l
names-write x c [] = refl
names-write x c (w ∷ l) = by (names-write x c l) (bytes_eq x w.name)
  where
    by : names (write x c l) ≡ names l → (t : Bool) → names (if t then record { name = w.name; cell = c } ∷ l else w ∷ write x c l) ≡ w.name ∷ names l
    by h true = refl
    by h false = ap (λ ns. w.name ∷ ns) h

pub length-names : (l : List Var) → length (names l) ≡ length l
length-names [] = refl
length-names (v ∷ l) = ap suc (length-names l)

names-drop : (n : ℕ) (l : List Var) → names (drop n l) ≡ drop n (names l)
names-drop zero l = refl
names-drop (suc n) [] = refl
names-drop (suc n) (v ∷ l) = names-drop n l

drop-front : (zs ns : List Name) (n : ℕ) → n ≡ length zs → drop n (zs ++ ns) ≡ ns
drop-front [] ns n e = subst (λ k. drop k ns ≡ ns) (sym e) refl
drop-front (z ∷ zs) ns zero e = absurd (omega (arith, e))
drop-front (z ∷ zs) ns (suc n) e = drop-front zs ns n (omega (arith, e))

pub names-keep : (s u : State) → SameNames s u → names (keep (length s.frame) u.frame) ≡ names s.frame
names-keep s u h =
    let long : length u.frame ≡ length h.0 + length s.frame =
    sym (length-names u.frame) ∙ ap length h.1 ∙ length-append h.0 (names s.frame) ∙ ap (λ k. length h.0 + k) (length-names s.frame) in
    names-drop (length u.frame - length s.frame) u.frame ∙ ap (drop (length u.frame - length s.frame)) h.1 ∙
    drop-front h.0 (names s.frame) (length u.frame - length s.frame) (omega (arith, long))

stored_names : (x : Name) (c : Cell) (s : State) (o : Option Cell) → SameNames s (write_at o x c s)
stored_names x c s None = ([], refl)
stored_names x c s (Some d) = ([], names-write x c s.frame)

pub names_kept : Kept SameNames
names_kept = record {
  same = λ s. ([], refl);
  then_ = λ s t u h k. (k.0 ++ h.0, k.1 ∙ ap (λ l. k.0 ++ l) h.1 ∙ sym (append_assoc k.0 h.0 (names s.frame)));
  stored = λ x c s. stored_names x c s (find x s.frame);
  pushed = λ x c s. (x ∷ [], refl);
  said = λ z s. ([], refl);
  ticked = λ s. ([], refl);
  taken = λ s. ([], refl);
  left = λ s u h. ([], names-keep s u h);
}

-- a function has a frame of its own
pub function_names : (f : Option Function) → FunctionKeeps SameNames names_kept f
function_names None = tt
function_names (Some f) = λ vs s. ([], refl)
