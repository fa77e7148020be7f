-- The line of a refusal: the line and the column of its place, its code, and what it says. And the line of a trap.
use Rattle.std.specs.Prelude.{ℕ, List, [], ◌∷◌, ◌++◌, codes, decimal}
use Rattle.c_tree.specs.Place.{line_at, column_at}
use Rattle.c_tree.specs.declared.arithmetic.Trap.{Trap}
use Rattle.c_tree.specs.declared.arithmetic.Trap.TheVariants.{Overflow, DivideByZero, Index, Unset, Narrow, InputEnd}
use Rattle.c_tree.specs.declared.name_rule.NameRule.{NameRule}
use Rattle.c_tree.specs.declared.name_rule.NameRule.TheVariants.{N1, N2, N3, N4, N5, N6, N7, N8, N9, N10, N11, N12}
use Rattle.c_lexer.specs.declared.token.LexKind.{LexKind}
use Rattle.c_lexer.specs.declared.token.LexKind.TheVariants.{BadByte, OpenComment, BadNumber, SplitToken}
use Rattle.pragma_grammar.specs.declared.phrase.ParseKind.{ParseKind}
use Rattle.pragma_grammar.specs.declared.phrase.ParseKind.TheVariants.{Syntax, Outside, TooDeep}
use Rattle.canonical_nests.specs.declared.rules.LoopRule.{LoopRule}
use Rattle.canonical_nests.specs.declared.rules.LoopRule.TheVariants.{L1, L2, L3, L4, L5, L6, L7, L8, L9, L10, L11, L12, L13, L14, L15, L16, L17, L18, L19, L20, L21, L22, L23, L24, L25, L26, L27, L28}
use Rattle.translator.specs.declared.refusal.Refusal.{Refusal}
use Rattle.translator.specs.declared.refusal.Refusal.TheVariants.{Lex, Parse, Names, Loops, NotBuilt, Memory}

abbrev pub lexical_text : LexKind → List ℕ
lexical_text BadByte = codes "BadByte byte not allowed here"
lexical_text OpenComment = codes "OpenComment comment without an end"
lexical_text BadNumber = codes "BadNumber not a number of this profile"
lexical_text SplitToken = codes "SplitToken line join without white space"

abbrev pub syntax_text : ParseKind → List ℕ
syntax_text Syntax = codes "Syntax unexpected token"
syntax_text Outside = codes "Outside not in this profile"
syntax_text TooDeep = codes "TooDeep nested too deeply"

abbrev pub name_text : NameRule → List ℕ
name_text N1 = codes "N1 undeclared name"
name_text N2 = codes "N2 name declared twice"
name_text N3 = codes "N3 wrong number of subscripts"
name_text N4 = codes "N4 constant assigned"
name_text N5 = codes "N5 bad dimension"
name_text N6 = codes "N6 break outside a loop"
name_text N7 = codes "N7 continue outside a loop"
name_text N8 = codes "N8 arrays too large"
name_text N9 = codes "N9 bad initial value"
name_text N10 = codes "N10 function name misused"
name_text N11 = codes "N11 wrong number of arguments"
name_text N12 = codes "N12 calls nested too deeply"

abbrev pub loop_text : LoopRule → List ℕ
loop_text L1 = codes "L1 not a loop"
loop_text L2 = codes "L2 init is not canonical"
loop_text L3 = codes "L3 test is not canonical"
loop_text L4 = codes "L4 increment is not canonical"
loop_text L5 = codes "L5 loop variable changed"
loop_text L6 = codes "L6 bound is not invariant"
loop_text L7 = codes "L7 too few perfectly nested loops"
loop_text L8 = codes "L8 bounds depend on another affected loop"
loop_text L9 = codes "L9 break leaves an affected loop"
loop_text L10 = codes "L10 size is not a positive constant"
loop_text L11 = codes "L11 clause is missing"
loop_text L12 = codes "L12 clause repeated or excluded"
loop_text L13 = codes "L13 clause does not belong here"
loop_text L14 = codes "L14 not a permutation"
loop_text L15 = codes "L15 factor is not a positive constant"
loop_text L16 = codes "L16 full without a constant count"
loop_text L17 = codes "L17 omp_fill must stand once"
loop_text L18 = codes "L18 count is not a constant of at least 0"
loop_text L19 = codes "L19 range outside the sequence"
loop_text L20 = codes "L20 sequence member is not a loop"
loop_text L21 = codes "L21 more than one loop"
loop_text L22 = codes "L22 no loop left"
loop_text L23 = codes "L23 wrong apply modifier or item"
loop_text L24 = codes "L24 more items than loops"
loop_text L25 = codes "L25 bad apply index"
loop_text L26 = codes "L26 result too deep"
loop_text L27 = codes "L27 result too large"
loop_text L28 = codes "L28 function not allowed here"

abbrev pub refusal_text : Refusal → List ℕ
refusal_text (Lex kind place) = lexical_text kind
refusal_text (Parse kind place) = syntax_text kind
refusal_text (Names rule place) = name_text rule
refusal_text (Loops rule place) = loop_text rule
refusal_text (NotBuilt place) = codes "NotBuilt not built yet"
refusal_text Memory = []

abbrev pub refusal_place : Refusal → ℕ
refusal_place (Lex kind place) = place
refusal_place (Parse kind place) = place
refusal_place (Names rule place) = place
refusal_place (Loops rule place) = place
refusal_place (NotBuilt place) = place
refusal_place Memory = 0

-- a line with a position
abbrev pub position_line : ℕ → ℕ → List ℕ → List ℕ
position_line line column text = decimal line ++ 58 ∷ (decimal column ++ 58 ∷ 32 ∷ (text ++ 10 ∷ []))

abbrev pub refusal_line : List ℕ → Refusal → List ℕ
refusal_line text refusal = position_line (line_at text (refusal_place refusal)) (column_at text (refusal_place refusal)) (refusal_text refusal)

abbrev pub trap_line : Trap → List ℕ
trap_line Overflow = codes "trap Overflow\n"
trap_line DivideByZero = codes "trap DivideByZero\n"
trap_line Index = codes "trap Index\n"
trap_line Unset = codes "trap Unset\n"
trap_line Narrow = codes "trap Narrow\n"
trap_line InputEnd = codes "trap InputEnd\n"
