-- The printed form of a well-formed program reads back as that program.
use Rattle.std.proofs.Common.{◌≡◌, ℕ, List, [], ◌∷◌, ◌++◌, length, refl, sym, ap, ◌∙◌, subst}
use Rattle.c_tree.specs.Bare as b
use Rattle.c_tree.specs.WellFormed.{WellFormed}
use Rattle.c_lexer.specs.declared.context.Before.TheVariants.{Free}
use Rattle.c_lexer.specs.declared.context.Line.TheVariants.{Fresh}
use Rattle.c_lexer.specs.Cut.{Lexes, side, tokens}
use Rattle.pragma_grammar.specs.Symbols.{Symbol, symbols}
use Rattle.c_grammar.specs.Programs.{SpellsSymbols, spells, Spells, tops_of}
use Rattle.c_printer.specs.Layout.{Mark, text}
use Rattle.c_printer.specs.Programs.{program_form, printed}
use Rattle.c_printer.specs.ReadsBack.{Reads}
use Rattle.c_printer.proofs.Marks.{marks, bytes, bytes_of, fresh, Stand}
use Rattle.c_printer.proofs.Cutting.{tokens_at, cut}
use Rattle.c_printer.proofs.Standing.{program_stands}
use Rattle.c_printer.proofs.Symbols.{symbols_at, symbols_of}
use Rattle.c_printer.proofs.SpelledPrograms.{program_spelled}

append_none : (xs : List ℕ) → xs ++ [] ≡ xs
append_none [] = refl
append_none (x ∷ xs) = ap (λ ys. x ∷ ys) (append_none xs)

pub reads_back : (q : b.Program) → WellFormed q → Reads (printed q) q
reads_back q w =
    let ms : List Mark = marks (program_form q) [] in
    let same : printed q ≡ bytes ms = sym (append_none (printed q)) ∙ bytes_of (program_form q) [] in
    let total : ℕ = length (printed q) in
    let stands : Stand fresh ms = program_stands q w.0 [] tt in
    let x = program_spelled total q w.0 w.1 in
    let P : List Symbol → Type 0 = SpellsSymbols x.tree in
    let C : List ℕ → Type 0 = λ z. Lexes total (side Fresh Free) z (tokens (tokens_at total ms)) in
    record {
      tokens = tokens_at total ms;
      cut = subst C (sym same) (cut total fresh Free ms stands);
      program = tops_of x.tree;
      spelled = record { items = x.tree; spelled = subst P (sym (symbols_of total fresh ms stands)) (spells x.phrase); same = refl };
      same = x.bare;
    }
