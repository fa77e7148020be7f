use Rattle.c_grammar.specs.Goals.{extern_goal, printer_goal}
use Rattle.c_parser.specs.Items.{extern_reader_goal}
use Rattle.c_parser.proofs.ItemsTaken.{item_led}
use Rattle.c_parser.proofs.items.external.Goals as goal

pub returns-in-Some : goal.returns-in-Some
returns-in-Some c = item_led (extern_goal c.args.at) (printer_goal c.args.at.start) c.args.cursor.now c.may.new.self c.printer.new.cursor c.printer.result (λ f o h. c.in-Some.ensures.taken _ _ o h) c.printer.ensures

pub returns-in-None : goal.returns-in-None
returns-in-None c = item_led (extern_goal c.args.at) (extern_reader_goal c.args.at.start) c.args.cursor.now c.may.new.self c.extern_reader.new.cursor c.extern_reader.result (λ f o h. c.in-None.ensures.taken (λ z. printer_goal c.args.at.start f) _ o h) c.extern_reader.ensures
