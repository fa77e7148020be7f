use Rattle.c_lexer.proofs.lexer.lex.Goals as goal

pub returns-clause-cut : goal.returns-clause-cut
returns-clause-cut c = c.finish.ensures.cut _ (c.in_ok-feed.ensures.stands _ c.new-lexer.ensures)

pub returns-clause-fault : goal.returns-clause-fault
returns-clause-fault c = c.finish.ensures.fault _ (c.in_ok-feed.ensures.stands _ c.new-lexer.ensures)
