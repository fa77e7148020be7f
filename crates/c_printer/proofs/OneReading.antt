-- A text reads as at most one program, so the printed form of a well-formed program reads as that program alone.
use Rattle.std.proofs.Common.{◌≡◌, ℕ, List, refl, sym, ap, ◌∙◌, subst}
use Rattle.c_tree.specs.Bare as b
use Rattle.c_tree.specs.Forget.{forget_program}
use Rattle.c_tree.specs.Placed as p
use Rattle.c_tree.specs.WellFormed.{WellFormed}
use Rattle.c_lexer.specs.Cut.{Cut}
use Rattle.c_lexer.specs.declared.token.Token.{Token}
use Rattle.c_lexer.proofs.Standing.{cut_once}
use Rattle.c_grammar.specs.Programs.{Spells}
use Rattle.c_grammar.proofs.OneProgram.{one_program}
use Rattle.c_printer.specs.Programs.{printed}
use Rattle.c_printer.specs.ReadsBack.{Reads}
use Rattle.c_printer.proofs.ReadsBack.{reads_back}

pub one_reading : (text : List ℕ) (this that : b.Program) → Reads text this → Reads text that → this ≡ that
one_reading text this that r s =
    let spelled : Spells s.program r.tokens = subst (λ ts. Spells s.program ts) (sym (cut_once text r.tokens s.tokens r.cut s.cut)) s.spelled in
    sym r.same ∙ ap forget_program (one_program r.program s.program r.tokens r.spelled spelled) ∙ s.same

pub same_program : (program : b.Program) (tokens : List Token) (again : p.Program) → WellFormed program → Cut (printed program) tokens → Spells again tokens → forget_program again ≡ program
same_program program tokens again well cut spelled =
    let reads : Reads (printed program) (forget_program again) = record { tokens = tokens; cut = cut; program = again; spelled = spelled; same = refl } in
    one_reading (printed program) (forget_program again) program reads (reads_back program well)

pub same_bytes : (program : b.Program) (tokens : List Token) (again : p.Program) → WellFormed program → Cut (printed program) tokens → Spells again tokens → printed (forget_program again) ≡ printed program
same_bytes program tokens again well cut spelled = ap printed (same_program program tokens again well cut spelled)
