use Rattle.std.proofs.Common.{ap, ◌∙◌}
use Rattle.c_lexer.specs.declared.token.TokenKind.TheVariants.{Word}
use Rattle.c_lexer.specs.Cut.{after}
use Rattle.c_lexer.specs.Machine.{closes_token}
use Rattle.c_lexer.proofs.Endings.{closed_token, closed_pair, mode_ends}
use Rattle.c_lexer.proofs.machine.Machine.end_piece.Goals as goal

pub returns-in_ok-push_token-in-Word-clause-ok : goal.returns-in_ok-push_token-in-Word-clause-ok
returns-in_ok-push_token-in-Word-clause-ok c =
    let m = c.args.self.now in
    closed_token _ m.tokens.1 m.piece.line _ _ c.in-Word.start c.args.at c.in_ok-push_token-in-Word.ensures.ok c.with_token.ensures ∙
    ap (λ x. after m.tokens.1 (closes_token m.piece.line (Word x) c.in-Word.start c.args.at)) (c.in_ok-name-in-Word.ensures ∙ c.bytes.ensures) ∙
    ap (after m.tokens.1) (mode_ends m _ c.args.at c.in-Word.is)

pub returns-in_ok-push_token-in-Punct-clause-ok : goal.returns-in_ok-push_token-in-Punct-clause-ok
returns-in_ok-push_token-in-Punct-clause-ok c =
    let m = c.args.self.now in
    closed_token _ m.tokens.1 m.piece.line _ _ c.in-Punct.start c.args.at c.in_ok-push_token-in-Punct.ensures.ok c.with_token-in-Punct.ensures ∙
    ap (after m.tokens.1) (mode_ends m _ c.args.at c.in-Punct.is)

pub returns-in_ok-push_token-in-TwoDots-2-clause-ok : goal.returns-in_ok-push_token-in-TwoDots-2-clause-ok
returns-in_ok-push_token-in-TwoDots-2-clause-ok c =
    let m = c.args.self.now in
    closed_pair _ _ m.tokens.1 _ m.piece.line _ _ _ c.in-TwoDots.second c.args.at c.in_ok-push_token-in-TwoDots.ensures.ok c.in_ok-push_token-in-TwoDots-2.ensures.ok
    c.with_token-in-TwoDots.ensures c.with_token-in-TwoDots-2.ensures ∙
    ap (after m.tokens.1) (mode_ends m _ c.args.at c.in-TwoDots.is)
