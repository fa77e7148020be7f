-- The printed form of a program, item by item (C11 6.9, 6.10.3).
use Rattle.std.specs.Prelude.{ℕ, Bool, true, false, List, [], ◌∷◌, Option, codes}
use Rattle.c_tree.specs.Bare.{Param, Top, define, extern_, global, function, main, Program}
use Rattle.c_tree.specs.declared.tree.Ty.{Ty}
use Rattle.c_tree.specs.declared.tree.Ty.TheVariants.{Int, Long}
use Rattle.c_tree.specs.declared.tree.Port.{Port}
use Rattle.c_tree.specs.declared.tree.Port.TheVariants.{Print, Input}
use Rattle.c_lexer.specs.declared.token.Punct.TheVariants.{Minus}
use Rattle.c_lexer.specs.declared.words.Keyword.TheVariants as k
use Rattle.c_printer.specs.Layout.{Layout, nothing, mark, static, hash, line_end, ◌&◌, word, key, sign, number, gap, type_name, parens, line, braces, semicolon, comma, text}
use Rattle.c_printer.specs.Expressions.{subscripts}
use Rattle.c_printer.specs.Statements.{initial, stmts_form}

-- the value of a define
abbrev pub define_value : Bool → ℕ → Ty → Layout
define_value false value t = mark (number value t)
define_value true value t = parens (sign Minus & mark (number value t))

abbrev pub extern_form : Port → Layout
extern_form Print = key k.Void & gap & key k.Print & parens (type_name Long)
extern_form Input = type_name Long & gap & key k.Input & parens (key k.Void)

abbrev pub param_form : Param → Layout
param_form p = type_name p.ty & gap & word p.name

abbrev pub further_params : List Param → Layout
further_params [] = nothing
further_params (p ∷ ps) = comma & param_form p & further_params ps

abbrev pub params_form : List Param → Layout
params_form [] = key k.Void
params_form (p ∷ ps) = param_form p & further_params ps

-- the last statement of `main`
abbrev pub return_line : Layout
return_line = line 1 (key k.Return & gap & mark (number 0 Int) & semicolon)

abbrev pub top_form : Top → Layout
top_form (define x negative value t) = mark hash & word (codes "define") & gap & word x & gap & define_value negative value t & mark line_end
top_form (extern_ port) = line 0 (key k.Extern & gap & extern_form port & semicolon)
top_form (global t x dims init) = line 0 (type_name t & gap & word x & subscripts dims & initial init & semicolon)
top_form (function x params body) = line 0 (mark static & gap & key k.Void & gap & word x & parens (params_form params) & gap & braces 0 (stmts_form 1 body))
top_form (main body) = line 0 (key k.Int & gap & key k.Main & parens (key k.Void) & gap & braces 0 (stmts_form 1 body & return_line))

abbrev pub program_form : Program → Layout
program_form [] = nothing
program_form (t ∷ ts) = top_form t & program_form ts

-- the printed form
abbrev pub printed : Program → List ℕ
printed p = text (program_form p)
