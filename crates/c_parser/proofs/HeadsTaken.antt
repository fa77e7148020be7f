-- What is kept of the parts of a `for` head.
use Rattle.std.proofs.Common.{◌≡◌, ℕ, max, List, Option, Some, None, refl, sym, ap, ◌∙◌}
use Rattle.c_tree.specs.Bare.{Name}
use Rattle.std.specs.Option.{option_map}
use Rattle.c_tree.specs.Placed.{Expr, Stmt, decl, MaybeStmt, no_stmt, a_stmt, Head, head}
use Rattle.c_tree.specs.PlacedOf.{placed_expr, placed_stmt, placed_head, maybe_stmt}
use Rattle.c_tree.specs.declared.tree.Span.{Span}
use Rattle.c_tree.specs.declared.tree.Ty.{Ty}
use Rattle.c_tree.specs.declared.tree.Expr as code_expr
use Rattle.c_tree.specs.declared.tree.Stmt as code_stmt
use Rattle.c_tree.proofs.Heads.{placed_head_out}
use Rattle.pragma_grammar.specs.declared.directive_kept.Kept as code
use Rattle.pragma_grammar.specs.declared.directive_kept.Kept.TheVariants.{Whole, Deep}
use Rattle.pragma_grammar.specs.DirectiveKept.{Kept, kept, one, both, keep_expr}
use Rattle.pragma_grammar.specs.DirectiveStands.{expr_of}
use Rattle.c_parser.specs.Heads.{kept_some, IsDeclaredTaken, IsInitTaken}
use Rattle.std.specs.Prelude.{Result, Ok, Err}
use Rattle.c_lexer.specs.declared.token.Token.{Token}
use Rattle.pragma_grammar.specs.declared.phrase.ParseFault.{ParseFault}
use Rattle.c_grammar.specs.Goals.{Goal, init, init_declares}
use Rattle.c_parser.specs.Comes.{Leads}
use Rattle.c_parser.proofs.SimpleTaken.{fails_by}
use Rattle.c_parser.specs.Kept.{stmt_of, option_of, part_of, head_of, keep_option, keep_stmt, keep_part, keep_head, node_of, pair}
use Rattle.c_parser.proofs.Built.{built_decl}
use Rattle.c_parser.proofs.Keeping.{keep_some, keep_a_stmt, keep_parts}

some_expr : (k : code.Kept code_expr.Expr) → option_of (kept_some k) ≡ one Some (expr_of k)
some_expr (Whole tree height) = refl
some_expr (Deep place) = refl

some_stmt : (k : code.Kept code_stmt.Stmt) → part_of (kept_some k) ≡ one a_stmt (stmt_of k)
some_stmt (Whole tree height) = refl
some_stmt (Deep place) = refl

pub kept_test : (e : Expr) (k : code.Kept code_expr.Expr) (r : code.Kept (Option code_expr.Expr)) → r ≡ kept_some k → expr_of k ≡ keep_expr e → option_of r ≡ keep_option (Some e)
kept_test e k r q p = ap option_of q ∙ some_expr k ∙ ap (one Some) p ∙ sym (keep_some e)

pub kept_part : (s : Stmt) (k : code.Kept code_stmt.Stmt) (r : code.Kept (Option code_stmt.Stmt)) → r ≡ kept_some k → stmt_of k ≡ keep_stmt s → part_of r ≡ keep_part (a_stmt s)
kept_part s k r q p = ap part_of q ∙ some_stmt k ∙ ap (one a_stmt) p ∙ sym (keep_a_stmt s)

pub declared_part : (ty : Ty) (x : Name) (a : Span) (e : Expr) (s : Span) (value : code.Kept code_expr.Expr) (given : code.Kept (Option code_expr.Expr)) (stmt : code.Kept code_stmt.Stmt) (r : code.Kept (Option code_stmt.Stmt))
    → given ≡ kept_some value → stmt_of stmt ≡ node_of s.start (one (λ i. decl ty x a i s) (option_of given)) → r ≡ kept_some stmt → expr_of value ≡ keep_expr e → part_of r ≡ keep_part (a_stmt (decl ty x a (Some e) s))
declared_part ty x a e s value given stmt r p q i k =
    kept_part (decl ty x a (Some e) s) stmt r i (built_decl (stmt_of stmt) (option_of given) ty x a (Some e) s s refl q (kept_test e value given p k))

-- ---- a head

placed_made : (a c : Option code_stmt.Stmt) (b : Option code_expr.Expr) (i j k : ℕ)
    → placed_head (record { init = a; init_at = i; test = b; test_at = j; step = c; step_at = k }) ≡ head (maybe_stmt (option_map placed_stmt a)) i (option_map placed_expr b) j (maybe_stmt (option_map placed_stmt c)) k
placed_made a c b i j k = placed_head_out (record { init = a; init_at = i; test = b; test_at = j; step = c; step_at = k })

pub head_made : (x z : code.Kept (Option code_stmt.Stmt)) (y : code.Kept (Option code_expr.Expr)) (a c d e : Option code_stmt.Stmt) (b : Option code_expr.Expr) (f g h m n i j k : ℕ)
    → x ≡ Whole a f → y ≡ Whole b g → z ≡ Whole c h → d ≡ a → e ≡ c → m ≡ max g h → n ≡ max f m
    → head_of (Whole (record { init = d; init_at = i; test = b; test_at = j; step = e; step_at = k }) n) ≡ both (λ u p. head u i p.0 j p.1 k) (part_of x) (both pair (option_of y) (part_of z))
head_made x z y a c d e b f g h m n i j k p q r s t v w =
    ap (λ u. head_of (Whole (record { init = u; init_at = i; test = b; test_at = j; step = e; step_at = k }) n)) s
    ∙ ap (λ u. head_of (Whole (record { init = a; init_at = i; test = b; test_at = j; step = u; step_at = k }) n)) t
    ∙ ap (λ u. kept u (placed_head (record { init = a; init_at = i; test = b; test_at = j; step = c; step_at = k }))) (w ∙ ap (max f) v)
    ∙ ap (λ u. kept (max f (max g h)) u) (placed_made a c b i j k)
    ∙ sym (ap (λ u. both (λ u p. head u i p.0 j p.1 k) (part_of u) (both pair (option_of y) (part_of z))) p
    ∙ ap (λ u. both (λ u p. head u i p.0 j p.1 k) (part_of (Whole a f)) (both pair (option_of u) (part_of z))) q
    ∙ ap (λ u. both (λ u p. head u i p.0 j p.1 k) (part_of (Whole a f)) (both pair (option_of (Whole b g)) (part_of u))) r)

pub kept_head : (r : Kept Head) (x z : Kept MaybeStmt) (y : Kept (Option Expr)) (a c : MaybeStmt) (b : Option Expr) (i j k : ℕ)
    → r ≡ both (λ u p. head u i p.0 j p.1 k) x (both pair y z) → x ≡ keep_part a → y ≡ keep_option b → z ≡ keep_part c → r ≡ keep_head (head a i b j c k)
kept_head r x z y a c b i j k q s t u =
    q ∙ ap (λ l. both (λ u p. head u i p.0 j p.1 k) l (both pair y z)) s
    ∙ ap (λ l. both (λ u p. head u i p.0 j p.1 k) (keep_part a) (both pair l z)) t
    ∙ ap (λ l. both (λ u p. head u i p.0 j p.1 k) (keep_part a) (both pair (keep_option b) l)) u
    ∙ sym (keep_parts a b c i j k)

pub init_passed : (ty : Ty) (from : ℕ) (ts us vs : List Token) (r : Result (code.Kept (Option code_stmt.Stmt)) ParseFault) → ((f : MaybeStmt → Goal) → Leads (init f) ts (init_declares ty from f) us) → IsDeclaredTaken ty from us r vs → IsInitTaken ts r vs
init_passed ty from ts us vs (Ok r) l i = (i.0, i.1, λ f o h. l f o (i.2 f o h))
init_passed ty from ts us vs (Err fault) l i = λ f. fails_by _ _ ts us fault (l f) (i f)

pub kept_absent : (r : code.Kept (Option code_stmt.Stmt)) → r ≡ Whole None 0 → part_of r ≡ keep_part no_stmt
kept_absent r q = ap part_of q

pub kept_untested : (r : code.Kept (Option code_expr.Expr)) → r ≡ Whole None 0 → option_of r ≡ keep_option None
kept_untested r q = ap option_of q
