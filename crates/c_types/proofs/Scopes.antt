-- Statements of a scope leave the scopes round it as they were, so that leaving it gives back the one that it was
-- entered in.
use Rattle.std.proofs.Common.{◌≡◌, ◌∙◌, ap, refl, ℕ, ◌-◌, ◌≤◌, Bool, true, false, if◌then◌else◌, List, ◌++◌, length, take, drop, arith, length-append}
use Rattle.std.proofs.Math.Seq.{take-append_seam, drop-append_seam}
use Rattle.c_tree.specs.Bare.{Name}
use Rattle.c_tree.specs.Placed.{Stmt, decl, MaybeStmt, no_stmt, a_stmt, Head, head}
use Rattle.c_tree.specs.NameRules.Scopes.{Scope, inner, is_taken, add, declare, after_stmt, after_part, after_head}
use Rattle.c_tree.specs.declared.name_rule.Declaration.{Declaration}
use Rattle.c_tree.specs.declared.name_rule.Entity.{Entity}
use Rattle.c_tree.specs.NameRules.Programs.{Known}
use Rattle.c_types.specs.Visible.{scope_left}

-- ---- leaving

pub round_fits : (was s : Scope) → s.outside ≡ was.here ++ was.outside → length was.outside ≤ length s.outside
round_fits was s e = omega (arith, ap length e, length-append was.here was.outside)

more_than : (xs ys : List Declaration) → length (xs ++ ys) - length ys ≡ length xs
more_than xs ys = omega (arith, length-append xs ys)

abbrev with_lists : List Declaration → List Declaration → Bool → Bool → Scope
with_lists here outside p i = record { here = here; outside = outside; print_known = p; input_known = i }

pub left_scope : (was s : Scope) → s.outside ≡ was.here ++ was.outside → s.print_known ≡ was.print_known → s.input_known ≡ was.input_known → scope_left (length was.outside) s ≡ was
unfolding scope_left
left_scope was s e p i =
    let round : ℕ = length was.outside in
    (λ j. with_lists (take (length (e j) - round) (e j)) (drop (length (e j) - round) (e j)) (p j) (i j))
    ∙ ((λ j. with_lists (take (more_than was.here was.outside j) (was.here ++ was.outside)) (drop (more_than was.here was.outside j) (was.here ++ was.outside)) was.print_known was.input_known)
    ∙ (λ j. with_lists (take-append_seam was.here was.outside j) (drop-append_seam was.here was.outside j) was.print_known was.input_known))

-- ---- what statements keep

abbrev chosen : Bool → Name → Entity → Scope → Scope
chosen b x e s = if b then s else add x e s

chosen_outside : (b : Bool) (x : Name) (e : Entity) (s : Scope) → (chosen b x e s).outside ≡ s.outside
chosen_outside true x e s = refl
chosen_outside false x e s = refl

chosen_print : (b : Bool) (x : Name) (e : Entity) (s : Scope) → (chosen b x e s).print_known ≡ s.print_known
chosen_print true x e s = refl
chosen_print false x e s = refl

chosen_input : (b : Bool) (x : Name) (e : Entity) (s : Scope) → (chosen b x e s).input_known ≡ s.input_known
chosen_input true x e s = refl
chosen_input false x e s = refl

pub declare_outside : (x : Name) (e : Entity) (s : Scope) → (declare x e s).outside ≡ s.outside
declare_outside x e s = chosen_outside (is_taken s x) x e s

pub declare_print : (x : Name) (e : Entity) (s : Scope) → (declare x e s).print_known ≡ s.print_known
declare_print x e s = chosen_print (is_taken s x) x e s

pub declare_input : (x : Name) (e : Entity) (s : Scope) → (declare x e s).input_known ≡ s.input_known
declare_input x e s = chosen_input (is_taken s x) x e s

pub stmt_outside : (s : Scope) (a : Stmt) → (after_stmt s a).outside ≡ s.outside
stmt_outside s (decl t x at init span) = declare_outside x _ s
stmt_outside s _ = refl

pub stmt_print : (s : Scope) (a : Stmt) → (after_stmt s a).print_known ≡ s.print_known
stmt_print s (decl t x at init span) = declare_print x _ s
stmt_print s _ = refl

pub stmt_input : (s : Scope) (a : Stmt) → (after_stmt s a).input_known ≡ s.input_known
stmt_input s (decl t x at init span) = declare_input x _ s
stmt_input s _ = refl

part_outside : (s : Scope) (a : MaybeStmt) → (after_part s a).outside ≡ s.outside
part_outside s no_stmt = refl
part_outside s (a_stmt a) = stmt_outside s a

part_print : (s : Scope) (a : MaybeStmt) → (after_part s a).print_known ≡ s.print_known
part_print s no_stmt = refl
part_print s (a_stmt a) = stmt_print s a

part_input : (s : Scope) (a : MaybeStmt) → (after_part s a).input_known ≡ s.input_known
part_input s no_stmt = refl
part_input s (a_stmt a) = stmt_input s a

pub head_outside : (s : Scope) (h : Head) → (after_head s h).outside ≡ s.here ++ s.outside
head_outside s (head init init_at test test_at next next_at) = part_outside (after_part (inner s) init) next ∙ part_outside (inner s) init

pub head_print : (s : Scope) (h : Head) → (after_head s h).print_known ≡ s.print_known
head_print s (head init init_at test test_at next next_at) = part_print (after_part (inner s) init) next ∙ part_print (inner s) init

pub head_input : (s : Scope) (h : Head) → (after_head s h).input_known ≡ s.input_known
head_input s (head init init_at test test_at next next_at) = part_input (after_part (inner s) init) next ∙ part_input (inner s) init

-- ---- leaving the head of a `for`

abbrev pub known_with : Scope → List Name → ℕ → Known
known_with s ns elements = record { scope = s; names = ns; elements = elements }

abbrev pub after_leaving : ℕ → Known → Known
after_leaving round k = record k { scope = scope_left round k.scope }

pub left_head : (old headed mid new : Known) (h : Head) (ns ms : List Name) (round : ℕ) → round ≡ length old.scope.outside → headed ≡ known_with (after_head old.scope h) ns old.elements → mid ≡ known_with headed.scope ms headed.elements → new ≡ after_leaving round mid → new ≡ known_with old.scope ms old.elements
left_head old headed mid new h ns ms round round_is headed_is mid_is new_is =
    let scope_is : mid.scope ≡ after_head old.scope h = ap (λ k. k.scope) mid_is ∙ ap (λ k. k.scope) headed_is in
    let elements_are : mid.elements ≡ old.elements = ap (λ k. k.elements) mid_is ∙ ap (λ k. k.elements) headed_is in
    let names_are : mid.names ≡ ms = ap (λ k. k.names) mid_is in
    let back : scope_left round mid.scope ≡ old.scope =
    ap (λ r. scope_left r mid.scope) round_is
    ∙ left_scope old.scope mid.scope (ap (λ s. s.outside) scope_is ∙ head_outside old.scope h) (ap (λ s. s.print_known) scope_is ∙ head_print old.scope h) (ap (λ s. s.input_known) scope_is ∙ head_input old.scope h) in
    new_is ∙ (λ i. known_with (back i) (names_are i) (elements_are i))

pub ruleset scope_rules = (left_scope, round_fits, head_outside, head_print, head_input)
