use Rattle.std.proofs.Common.{refl, sym, ap, subst, arith}
use Rattle.c_lexer.specs.Lines.{Lines, MapsLines}
use Rattle.c_lexer.proofs.LineLemmas.{maps_fed, fed_rises}
use Rattle.c_lexer.proofs.line_map.LineMap.feed.Goals as goal

pub invariant_of-self : goal.invariant_of-self
invariant_of-self c = (
  fed_rises c.self.inside.feeds.items _ c.args.piece.now c.self.inside.count c.push_places.ensures.items c.self.invariant.0,
  omega (arith, ap (λ (l : Lines). l.count) c.self.view_is),
)

pub returns-clause-stands : goal.returns-clause-stands
returns-clause-stands c = λ bytes h. maps_fed _ _ bytes c.args.piece.now refl c.push_places.ensures.items (subst (λ l. MapsLines l bytes) (sym c.self.view_is) h)
