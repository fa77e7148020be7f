-- Frames and lines only grow.
use Rattle.std.proofs.Common.{◌≡◌, refl, sym, ap, ◌∙◌, ℕ, suc, ◌-◌, ◌≤◌, List, [], ◌∷◌, ◌++◌, length, Option, Some, None, Bool, true, false, arith, append_assoc, append-nil}
use Rattle.std.specs.Prelude.{bytes_eq, if◌then◌else◌}
use Rattle.std.proofs.lemmas.List.{length-drop}
use Rattle.c_tree.specs.Bare.{Name}
use Rattle.c_semantics.specs.Meaning.State.{Cell, Var, State, find, write, write_at, keep, with_frame}
use Rattle.c_semantics.specs.Meaning.SimpleStatements.{Function}
use Rattle.c_semantics.specs.Laws.Bounds.{IsPrefix}
use Rattle.c_semantics.proofs.Invariant.{Kept, Keeps, FunctionKeeps}

pub length_write : (x : Name) (c : Cell) (l : List Var) → length (write x c l) ≡ length l
length_write x c [] = refl
length_write x c (w ∷ l) = by (length_write x c l) (bytes_eq x w.name)
  where
    by : length (write x c l) ≡ length l → (t : Bool) → length (if t then record { name = w.name; cell = c } ∷ l else w ∷ write x c l) ≡ suc (length l)
    by h true = refl
    by h false = ap suc h

-- ---- frames

abbrev pub LongerFrame : State → State → Type 0
LongerFrame s u = length s.frame ≤ length u.frame

stored_longer : (x : Name) (c : Cell) (s : State) (o : Option Cell) → LongerFrame s (write_at o x c s)
stored_longer x c s None = omega arith
stored_longer x c s (Some d) = omega (arith, length_write x c s.frame)

-- a block's frame is as long as it was
pub length_keep : (k : ℕ) (l : List Var) → k ≤ length l → length (keep k l) ≡ k
length_keep k l h = omega (arith, h, length-drop (length l - k) l)

pub frames_grow : Kept LongerFrame
frames_grow = record {
  same = λ s. omega arith;
  then_ = λ s t u h k. omega (arith, h, k);
  stored = λ x c s. stored_longer x c s (find x s.frame);
  pushed = λ x c s. omega arith;
  said = λ z s. omega arith;
  ticked = λ s. omega arith;
  taken = λ s. omega arith;
  left = λ s u h. omega (arith, length_keep (length s.frame) u.frame h);
}

-- ---- lines

abbrev pub MoreLines : State → State → Type 0
MoreLines s u = IsPrefix s.lines u.lines

none_more : (s : State) → MoreLines s s
none_more s = ([], sym (append-nil s.lines))

stored_lines : (x : Name) (c : Cell) (s : State) (o : Option Cell) → MoreLines s (write_at o x c s)
stored_lines x c s None = none_more s
stored_lines x c s (Some d) = none_more s

pub lines_grow : Kept MoreLines
lines_grow = record {
  same = none_more;
  then_ = λ s t u h k. (h.0 ++ k.0, k.1 ∙ ap (λ l. l ++ k.0) h.1 ∙ append_assoc s.lines h.0 k.0);
  stored = λ x c s. stored_lines x c s (find x s.frame);
  pushed = λ x c s. none_more s;
  said = λ z s. (z ∷ [], refl);
  ticked = none_more;
  taken = none_more;
  left = λ s u h. h;
}

-- of a function in a frame of its own
pub lines_called : (f : Function) → Keeps MoreLines lines_grow f.run → FunctionKeeps MoreLines lines_grow (Some f)
lines_called f h vs s = h (with_frame vs s)
