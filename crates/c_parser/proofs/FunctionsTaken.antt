-- What comes of functions and of `main`.
use Rattle.std.proofs.Common.{◌≡◌, List, [], ◌∷◌, refl, sym, ap, ◌∙◌}
use Rattle.std.specs.Prelude.{map, Ok, Err}
use Rattle.c_tree.specs.Placed.{Stmts, function, main}
use Rattle.c_tree.specs.PlacedOf.{placed_param}
use Rattle.c_tree.specs.declared.tree.Span.{Span}
use Rattle.c_tree.specs.declared.tree.Stmt.{Stmt}
use Rattle.c_tree.specs.declared.tree.Item.{Item}
use Rattle.c_lexer.specs.declared.token.Token.{Token}
use Rattle.pragma_grammar.specs.declared.phrase.ParseFault.{ParseFault}
use Rattle.pragma_grammar.specs.declared.directive_kept.Kept as code
use Rattle.pragma_grammar.specs.Symbols.{spanning}
use Rattle.pragma_grammar.specs.DirectiveKept.{one}
use Rattle.c_parser.specs.declared.function_heads.FunctionHead.{FunctionHead}
use Rattle.c_grammar.specs.Programs.{started}
use Rattle.c_grammar.specs.Goals.{tops, function_goal, main_goal}
use Rattle.c_parser.specs.Kept.{stmts_of, node_of}
use Rattle.c_parser.specs.Lists.{IsListTaken}
use Rattle.c_parser.specs.FunctionHeads.{IsFunctionHeadTaken, IsMainHeadTaken}
use Rattle.c_parser.specs.Items.{item_of, IsItemTaken, IsLastTaken}
use Rattle.c_parser.proofs.ItemsKept.{keep_function, keep_main}
use Rattle.c_parser.proofs.SimpleTaken.{fails_by}
use Rattle.std.proofs.Common.{Bool, true, false}

pub function_taken : (a last w : Span) (h : FunctionHead) (ts us vs : List Token) (body : code.Kept (List Stmt)) (r : code.Kept Item)
    → IsFunctionHeadTaken ts (Ok h) us → IsListTaken false us (Ok (body, last)) vs → w ≡ spanning a last → item_of r ≡ node_of w.start (one (λ ss. function h.name h.name_span (map placed_param h.params) ss w) (stmts_of body))
    → IsItemTaken (function_goal a) ts (Ok r) vs
function_taken a last w h ts us vs body r i b e q = (
  started a.start (function h.name h.name_span (map placed_param h.params) b.0 (spanning a last)),
  q ∙ ap (λ s. node_of s.start (one (λ ss. function h.name h.name_span (map placed_param h.params) ss s) (stmts_of body))) e
      ∙ ap (λ k. node_of a.start (one (λ ss. function h.name h.name_span (map placed_param h.params) ss (spanning a last)) k)) b.1
      ∙ sym (keep_function h.name h.name_span (map placed_param h.params) b.0 (spanning a last) a.start),
  λ f o g. i a f o (b.2 (λ ss z. tops (λ more. f (started a.start (function h.name h.name_span (map placed_param h.params) ss (spanning a z)) ∷ more))) o g),
)

pub no_function_body : (a : Span) (h : FunctionHead) (ts us vs : List Token) (fault : ParseFault) → IsFunctionHeadTaken ts (Ok h) us → IsListTaken false us (Err fault) vs → IsItemTaken (function_goal a) ts (Err fault) vs
no_function_body a h ts us vs fault i b = λ f. fails_by (function_goal a f) _ ts us fault (i a f) (b _)

pub main_taken : (a last w : Span) (z : Unit {0}) (ts us vs : List Token) (body : code.Kept (List Stmt)) (r : code.Kept Item)
    → IsMainHeadTaken ts (Ok z) us → IsListTaken true us (Ok (body, last)) vs → w ≡ spanning a last → item_of r ≡ node_of w.start (one (λ ss. main ss w) (stmts_of body)) → IsLastTaken (main_goal a) ts (Ok r) vs
main_taken a last w z ts us vs body r i b e q = (
  started a.start (main b.0 (spanning a last)),
  q ∙ ap (λ s. node_of s.start (one (λ ss. main ss s) (stmts_of body))) e
      ∙ ap (λ k. node_of a.start (one (λ ss. main ss (spanning a last)) k)) b.1
      ∙ sym (keep_main b.0 (spanning a last) a.start),
  λ f o g. i a f o (b.2 (λ ss z. f (started a.start (main ss (spanning a z)) ∷ [])) o g),
)

pub no_main_body : (a : Span) (z : Unit {0}) (ts us vs : List Token) (fault : ParseFault) → IsMainHeadTaken ts (Ok z) us → IsListTaken true us (Err fault) vs → IsLastTaken (main_goal a) ts (Err fault) vs
no_main_body a z ts us vs fault i b = λ f. fails_by (main_goal a f) _ ts us fault (i a f) (b _)
