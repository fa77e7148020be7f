-- What comes of declarations, and what is kept of the statements with theirs.
use Rattle.std.proofs.Common.{◌≡◌, ℕ, ◌<◌, Bool, List, ◌∷◌, length, drop, Some, None, refl, sym, ap, ◌∙◌, subst, arith}
use Rattle.std.specs.Prelude.{Result, Ok, Err, IfOk}
use Rattle.c_tree.specs.Bare.{Name}
use Rattle.c_tree.specs.Placed.{Exprs, no_exprs, Target, target, Stmt, Stmts, more_stmts}
use Rattle.c_tree.specs.declared.tree.Span.{Span}
use Rattle.c_tree.specs.declared.tree.Ty.{Ty}
use Rattle.c_tree.specs.declared.tree.Stmt as code_stmt
use Rattle.c_lexer.specs.declared.token.Token.{Token}
use Rattle.pragma_grammar.specs.declared.phrase.ParseFault.{ParseFault}
use Rattle.pragma_grammar.specs.declared.directive_kept.Kept as code
use Rattle.pragma_grammar.specs.Symbols.{Symbol, symbol, name, place}
use Rattle.pragma_grammar.specs.DirectiveKept.{Kept, kept, one, both}
use Rattle.c_parser.specs.Bodies.{Grown}
use Rattle.c_grammar.specs.Goals as gl
use Rattle.c_grammar.specs.Goals.{Goal, names, takes, may, declarator, declarators, declared, declaration, units, comma, semicolon, step}
use Rattle.c_parser.specs.Comes.{Leads}
use Rattle.c_parser.specs.Cursor.{IsTaken, IsMayTaken}
use Rattle.c_parser.specs.Terminals.{IsNameTaken}
use Rattle.c_parser.specs.declared.declarations.Said as code_said
use Rattle.c_parser.specs.Declarations.{Said, said_stmts, IsSaid, IsSaidTaken, AreDeclared}
use Rattle.c_parser.specs.Kept.{stmts_of, keep_stmt, keep_stmts, keep_target, join_last}
use Rattle.c_tree.specs.declared.tree.Ty.TheVariants.{Int}
use Rattle.pragma_grammar.proofs.Terminals.{symbol_place}
use Rattle.c_parser.proofs.Beginning.{first_alike}
use Rattle.c_parser.proofs.Keeping.{keep_more, join_more}
use Rattle.c_parser.proofs.SimpleTaken.{fails_by, leads_shrinks}

-- ---- statements with one more

pub grown : (k l : code.Kept (List code_stmt.Stmt)) (x : Kept Stmt) (before : Stmts → Stmts) (s : Stmt) → Grown k before → x ≡ keep_stmt s → stmts_of l ≡ both join_last (stmts_of k) x → Grown l (λ rs. before (more_stmts s rs))
grown k l x before s g p q = record {
  stmts = join_last g.stmts s;
  joins = λ rs. g.joins (more_stmts s rs) ∙ sym (join_more g.stmts s rs);
  keeps = q ∙ ap (λ z. both join_last z x) g.keeps ∙ ap (both join_last (keep_stmts g.stmts)) p ∙ sym (keep_more g.stmts s);
}

pub grown_if_ok : {E : Type 0} (k : code.Kept (List code_stmt.Stmt)) (r : Result (code.Kept (List code_stmt.Stmt)) E) (x : Kept Stmt) (before : Stmts → Stmts) (s : Stmt) → Grown k before → x ≡ keep_stmt s → IfOk r (λ l. stmts_of l ≡ both join_last (stmts_of k) x) → IfOk r (λ l. Grown l (λ rs. before (more_stmts s rs)))
grown_if_ok k (Ok l) x before s g p q = grown k l x before s g p q
grown_if_ok k (Err fault) x before s g p q = tt

pub said_is : (k : code.Kept (List code_stmt.Stmt)) (before : Stmts → Stmts) (d e : Said) (ty : Ty) (from : ℕ) (x : Name) (a : Span) (to : ℕ) → d ≡ e → Grown k (λ rs. before (said_stmts e ty from x a to rs)) → Grown k (λ rs. before (said_stmts d ty from x a to rs))
said_is k before d e ty from x a to q g = subst (λ z. Grown k (λ rs. before (said_stmts z ty from x a to rs))) (sym q) g

pub said_if_ok : {E : Type 0} (r : Result (code.Kept (List code_stmt.Stmt)) E) (before : Stmts → Stmts) (d e : Said) (ty : Ty) (from : ℕ) (x : Name) (a : Span) (to : ℕ) → d ≡ e → IfOk r (λ k. Grown k (λ rs. before (said_stmts e ty from x a to rs))) → IfOk r (λ k. Grown k (λ rs. before (said_stmts d ty from x a to rs)))
said_if_ok r before d e ty from x a to q g = subst (λ z. IfOk r (λ k. Grown k (λ rs. before (said_stmts z ty from x a to rs)))) (sym q) g

pub bare_target : (r : Kept Target) (k : Kept Exprs) (v x : Name) (a : Span) → r ≡ one (λ es. target v es a) k → v ≡ x → k ≡ kept 0 no_exprs → r ≡ keep_target (target x no_exprs a)
bare_target r k v x a q e i = q ∙ ap (λ y. one (λ es. target y es a) k) e ∙ ap (one (λ es. target x es a)) i

-- ---- a declaration

-- a declarator is read next, which begins at `from`
abbrev pub next_declarator : Ty → ℕ → Bool → (Stmts → Span → Goal) → Goal
next_declarator ty from m f = names (λ x a. declarator ty from x a (declared ty m f))

pub record Declaring (ty : Ty) (start : ℕ) (before : Stmts → Stmts) (ts : List Token) (stmts : code.Kept (List code_stmt.Stmt)) (from : ℕ) (us : List Token) : Type 0 where
  pub after : Stmts → Stmts
  pub grown : Grown stmts after
  pub comes : (m : Bool) (f : Stmts → Span → Goal) → Leads (declaration ty start m (λ rs. f (before rs))) ts (next_declarator ty from m (λ rs. f (after rs))) us

pub declaring_starts : (ty : Ty) (start : ℕ) (before : Stmts → Stmts) (ts : List Token) (stmts : code.Kept (List code_stmt.Stmt)) → Grown stmts before → Declaring ty start before ts stmts start ts
declaring_starts ty start before ts stmts g = record { after = before; grown = g; comes = λ m f o h. h }

declarators_do : (ty : Ty) (m : Bool) (f : Stmts → Span → Goal) (s : Symbol) → step (declarators ty m f) s ≡ step (next_declarator ty (place s).start m f) s
declarators_do ty m f (name x a) = refl
declarators_do ty m f s = refl

declarators_as : (ty : Ty) (m : Bool) (f : Stmts → Span → Goal) (t : Token) (ts : List Token) → ts ≡ t ∷ drop 1 ts → Leads (declarators ty m f) ts (next_declarator ty t.span.start m f) ts
declarators_as ty m f t ts q = first_alike _ _ t ts q (declarators_do ty m f (symbol t) ∙ ap (λ z. step (next_declarator ty z.start m f) (symbol t)) (symbol_place t))

-- through what is said of the name
said_through : (ty : Ty) (start from : ℕ) (before : Stmts → Stmts) (ts us vs ws : List Token) (stmts : code.Kept (List code_stmt.Stmt)) (x : Name) (a z : Span) (c : code_said.Said)
    → (g : Declaring ty start before ts stmts from us) → IsNameTaken us (Ok (x, a)) vs → (s : IsSaidTaken a vs (Ok (c, z)) ws) → (m : Bool) (f : Stmts → Span → Goal)
    → Leads (declaration ty start m (λ rs. f (before rs))) ts (declared ty m (λ rs. f (g.after rs)) (said_stmts s.0 ty from x a) z) ws
said_through ty start from before ts us vs ws stmts x a z c g n s m f = λ o h.
    g.comes m f o (n (λ x a. declarator ty from x a (declared ty m (λ rs. f (g.after rs)))) o (s.2 ty from x (declared ty m (λ rs. f (g.after rs))) o h))

pub declaring_more : (ty : Ty) (start from : ℕ) (before : Stmts → Stmts) (ts us vs ws xs : List Token) (stmts all : code.Kept (List code_stmt.Stmt)) (x : Name) (a z y : Span) (c : code_said.Said) (t : Token)
    → (g : Declaring ty start before ts stmts from us) → IsNameTaken us (Ok (x, a)) vs → (s : IsSaidTaken a vs (Ok (c, z)) ws) → IsMayTaken comma ws (Some y) xs → xs ≡ t ∷ drop 1 xs
    → ((d : Said) (before : Stmts → Stmts) → IsSaid c d → Grown stmts before → Grown all (λ rs. before (said_stmts d ty from x a z.end rs))) → Declaring ty start before ts all t.span.start xs
declaring_more ty start from before ts us vs ws xs stmts all x a z y c t g n s m q d = record {
  after = λ rs. g.after (said_stmts s.0 ty from x a z.end rs);
  grown = d s.0 g.after s.1 g.grown;
  comes = λ b f o h. said_through ty start from before ts us vs ws stmts x a z c g n s b f o (m (λ v. declarators ty b (λ rs. f (g.after (said_stmts s.0 ty from x a z.end rs)))) _ o (declarators_as ty b (λ rs. f (g.after (said_stmts s.0 ty from x a z.end rs))) t xs q o h));
}

pub declaring_ends : (ty : Ty) (start from : ℕ) (before : Stmts → Stmts) (ts us vs ws xs ys : List Token) (stmts all : code.Kept (List code_stmt.Stmt)) (x : Name) (a z y : Span) (c : code_said.Said)
    → (g : Declaring ty start before ts stmts from us) → IsNameTaken us (Ok (x, a)) vs → (s : IsSaidTaken a vs (Ok (c, z)) ws) → IsMayTaken comma ws None xs → IsTaken semicolon xs (Ok y) ys
    → ((d : Said) (before : Stmts → Stmts) → IsSaid c d → Grown stmts before → Grown all (λ rs. before (said_stmts d ty from x a y.end rs))) → AreDeclared ty start before ts (Ok all) ys
declaring_ends ty start from before ts us vs ws xs ys stmts all x a z y c g n s m e d = (
  λ rs. g.after (said_stmts s.0 ty from x a y.end rs),
  d s.0 g.after s.1 g.grown,
  λ b f o h. said_through ty start from before ts us vs ws stmts x a z c g n s b f o (m (λ v. declarators ty b (λ rs. f (g.after (said_stmts s.0 ty from x a z.end rs)))) (takes semicolon (λ v. units b (λ rs. f (g.after (said_stmts s.0 ty from x a v.end rs))))) o (e _ o h)),
)

pub declaring_nameless : (ty : Ty) (start from : ℕ) (before : Stmts → Stmts) (ts us vs ys : List Token) (stmts : code.Kept (List code_stmt.Stmt)) (fault : ParseFault)
    → Declaring ty start before ts stmts from us → IsNameTaken us (Err fault) vs → AreDeclared ty start before ts (Err fault) ys
declaring_nameless ty start from before ts us vs ys stmts fault g n = λ m f. fails_by _ _ ts us fault (g.comes m f) (n _)

pub declaring_unsaid : (ty : Ty) (start from : ℕ) (before : Stmts → Stmts) (ts us vs ws ys : List Token) (stmts : code.Kept (List code_stmt.Stmt)) (x : Name) (a : Span) (fault : ParseFault)
    → Declaring ty start before ts stmts from us → IsNameTaken us (Ok (x, a)) vs → IsSaidTaken a vs (Err fault) ws → AreDeclared ty start before ts (Err fault) ys
declaring_unsaid ty start from before ts us vs ws ys stmts x a fault g n s = λ m f.
    fails_by _ _ ts vs fault (λ o h. g.comes m f o (n (λ x a. declarator ty from x a (declared ty m (λ rs. f (g.after rs)))) o h)) (s ty from x (declared ty m (λ rs. f (g.after rs))))

pub declaring_open : (ty : Ty) (start from : ℕ) (before : Stmts → Stmts) (ts us vs ws xs ys zs : List Token) (stmts : code.Kept (List code_stmt.Stmt)) (x : Name) (a z : Span) (c : code_said.Said) (fault : ParseFault)
    → (g : Declaring ty start before ts stmts from us) → IsNameTaken us (Ok (x, a)) vs → (s : IsSaidTaken a vs (Ok (c, z)) ws) → IsMayTaken comma ws None xs → IsTaken semicolon xs (Err fault) ys → AreDeclared ty start before ts (Err fault) zs
declaring_open ty start from before ts us vs ws xs ys zs stmts x a z c fault g n s m e = λ b f.
    fails_by _ _ ts xs fault (λ o h. said_through ty start from before ts us vs ws stmts x a z c g n s b f o (m (λ v. declarators ty b (λ rs. f (g.after (said_stmts s.0 ty from x a z.end rs)))) (takes semicolon (λ v. units b (λ rs. f (g.after (said_stmts s.0 ty from x a v.end rs))))) o h)) (e _)

pub declaring_shrinks : (us vs ws xs : List Token) (x : Name) (a z : Span) (c : code_said.Said) → IsNameTaken us (Ok (x, a)) vs → IsSaidTaken a vs (Ok (c, z)) ws → length xs < length ws → length xs < length us
declaring_shrinks us vs ws xs x a z c n s l =
    let i = leads_shrinks _ _ us vs (n (λ x a. gl.program_goal)) in
    let j = leads_shrinks _ _ vs ws (s.2 Int 0 x (λ t v. gl.program_goal)) in
    omega arith
