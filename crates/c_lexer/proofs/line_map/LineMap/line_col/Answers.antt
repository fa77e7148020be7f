use Rattle.std.proofs.Common.{ℕ, ◌≤◌, ◌-◌, sym, ap, subst, arith}
use Rattle.std.specs.Prelude.{EachIndex, slice_index}
use Rattle.c_lexer.specs.Lines.{Lines, Splits}
use Rattle.c_lexer.proofs.LineLemmas.{rises_sorted, map_line, map_first_column, map_column, own_default}
use Rattle.c_lexer.proofs.line_map.LineMap.line_col.Goals as goal

pub places_below-before-requires : goal.places_below-before-requires
places_below-before-requires c =
    subst (λ z. EachIndex z (λ j. (i : ℕ) → i ≤ j → slice_index z i ≤ slice_index z j)) (sym c.deref.ensures.value)
    (λ j h i l. rises_sorted 0 c.self.inside.count c.self.inside.feeds.items c.self.invariant.0 i j l h)

pub overflow_sub-result : goal.overflow_sub-result
overflow_sub-result c =
    let places = c.self.inside.feeds.items in
    let k = c.places_below-before.result in
    let split = subst (λ z. Splits z c.args.place k) c.deref.ensures.value c.places_below-before.ensures in
    let own = own_default places (k - 1) c.index.result.now (omega (arith, split.0)) c.index.ensures in
    let below = split.1 (k - 1) (omega arith) in
    omega (arith, own, below)

pub returns-then-before-eq0-clause-line : goal.returns-then-before-eq0-clause-line
returns-then-before-eq0-clause-line c = λ bytes h.
    let count = ap (λ (l : Lines). l.count) (sym c.self.view_is) in
    map_line c.args.self.now bytes c.self.inside.feeds.items c.self.inside.count c.args.place c.places_below-before.result h (ap (λ (l : Lines). l.feeds) c.self.view_is) count (omega (arith, count))
    (subst (λ z. Splits z c.args.place c.places_below-before.result) c.deref.ensures.value c.places_below-before.ensures)

pub returns-then-before-eq0-clause-column : goal.returns-then-before-eq0-clause-column
returns-then-before-eq0-clause-column c = λ bytes h.
    let count = ap (λ (l : Lines). l.count) (sym c.self.view_is) in
    map_first_column c.args.self.now bytes c.self.inside.feeds.items c.self.inside.count c.args.place c.places_below-before.result h (ap (λ (l : Lines). l.feeds) c.self.view_is) count (omega (arith, count))
    (subst (λ z. Splits z c.args.place c.places_below-before.result) c.deref.ensures.value c.places_below-before.ensures) (omega arith)

pub returns-else-before-eq0-clause-line : goal.returns-else-before-eq0-clause-line
returns-else-before-eq0-clause-line c = λ bytes h.
    let count = ap (λ (l : Lines). l.count) (sym c.self.view_is) in
    map_line c.args.self.now bytes c.self.inside.feeds.items c.self.inside.count c.args.place c.places_below-before.result h (ap (λ (l : Lines). l.feeds) c.self.view_is) count (omega (arith, count))
    (subst (λ z. Splits z c.args.place c.places_below-before.result) c.deref.ensures.value c.places_below-before.ensures)

pub returns-else-before-eq0-clause-column : goal.returns-else-before-eq0-clause-column
returns-else-before-eq0-clause-column c = λ bytes h.
    let places = c.self.inside.feeds.items in
    let k = c.places_below-before.result in
    let count = ap (λ (l : Lines). l.count) (sym c.self.view_is) in
    let split = subst (λ z. Splits z c.args.place k) c.deref.ensures.value c.places_below-before.ensures in
    map_column c.args.self.now bytes places c.self.inside.count c.args.place k h (ap (λ (l : Lines). l.feeds) c.self.view_is) count (omega (arith, count)) split
    c.index.result.now (omega arith) (own_default places (k - 1) c.index.result.now (omega (arith, split.0)) c.index.ensures)
