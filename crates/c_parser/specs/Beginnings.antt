-- What may begin a statement or a declaration, by its terminal, and what a goal then does.
use Rattle.c_lexer.specs.declared.token.Punct.TheVariants as p
use Rattle.c_lexer.specs.declared.words.Keyword.{Keyword}
use Rattle.c_lexer.specs.declared.words.Keyword.TheVariants as k
use Rattle.pragma_grammar.specs.declared.terminal.Terminal.{Terminal}
use Rattle.pragma_grammar.specs.declared.terminal.Terminal.TheVariants as t
use Rattle.c_parser.specs.declared.beginnings.Beginning.{Beginning}
use Rattle.c_parser.specs.declared.beginnings.Beginning.TheVariants as b

abbrev pub keyword_begins : Keyword → Beginning
keyword_begins k.Print = b.Print
keyword_begins k.If = b.If
keyword_begins k.While = b.While
keyword_begins k.Do = b.Do
keyword_begins k.For = b.For
keyword_begins k.Break = b.Break
keyword_begins k.Continue = b.Continue
keyword_begins k.Return = b.Return
keyword_begins k.Int = b.Int
keyword_begins k.Long = b.Long
keyword_begins _ = b.Other

abbrev pub beginning_of : Terminal → Beginning
beginning_of t.Name = b.Name
beginning_of t.Hash = b.Pragma
beginning_of (t.Punct p.Semicolon) = b.Empty
beginning_of (t.Punct p.CurlyOpen) = b.CurlyOpen
beginning_of (t.Punct p.CurlyClose) = b.CurlyClose
beginning_of (t.Keyword k) = keyword_begins k
beginning_of _ = b.Other
