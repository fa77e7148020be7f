-- What the reader does where an `apply` clause is opened within its list, or closed.
use Rattle.std.proofs.Common.{◌≡◌, Bool, true, false, List, [], ◌∷◌, ◌++◌, Option, Some, None, refl, sym, ap, ◌∙◌}
use Rattle.std.specs.Prelude.{option_to_list, Result, Ok, Err, IfOk}
use Rattle.c_tree.specs.Placed as placed
use Rattle.c_tree.specs.declared.tree.Kind.{Kind}
use Rattle.c_tree.specs.declared.tree.Span.{Span}
use Rattle.pragma_grammar.specs.declared.directive_state.Open.{Open}
use Rattle.pragma_grammar.specs.declared.directive_state.Move.{Move}
use Rattle.pragma_grammar.specs.Symbols.{Symbol}
use Rattle.pragma_grammar.specs.DirectiveMachine as machine
use Rattle.pragma_grammar.specs.DirectiveMachine.{leads, item, stuck}
use Rattle.pragma_grammar.specs.DirectiveTrees.{add_item}
use Rattle.pragma_grammar.specs.DirectiveKept.{Kept, keeps, one, both}
use Rattle.pragma_grammar.specs.DirectiveStands.{KeptPart, KeptOpen, KeptMove, open_of, opens, came}
use Rattle.pragma_grammar.proofs.DirectivePushes.{opens_pushed, opens_popped}

named : (b : Bool) (o : Option Kind) (kind : Kind) (a : Span) (outer : KeptOpen) (k : List KeptOpen) → b ≡ false → o ≡ Some kind → machine.named_item keeps b o a outer k ≡ machine.begin_directive keeps (Some kind) a (outer ∷ k)
named b o kind a outer k e f = ap (λ z. machine.named_item keeps z o a outer k) e ∙ ap (λ z. machine.named_item keeps false z a outer k) f

-- a directive's name within `apply`
pub named_pushes : (b : Bool) (o : Option Kind) (kind : Kind) (a : Span) (old new : List Open) (outer : Open) (m : Move) → new ≡ old ++ outer ∷ [] → b ≡ false → o ≡ Some kind → ((k : List KeptOpen) → came m k ≡ machine.begin_directive keeps (Some kind) a k) → came m (opens new) ≡ machine.named_item keeps b o a (open_of outer) (opens old)
named_pushes b o kind a old new outer m q e f g = g (opens new) ∙ ap (machine.begin_directive keeps (Some kind) a) (opens_pushed old new outer q) ∙ sym (named b o kind a (open_of outer) (opens old) e f)

pub first_pushes : (b : Bool) (o : Option Kind) (kind : Kind) (a : Span) (old new : List Open) (outer : Open) (part : KeptPart) (t : Symbol) → new ≡ old ++ outer ∷ [] → b ≡ false → o ≡ Some kind → part ≡ machine.new_part keeps kind a → machine.after_clause keeps part a (opens new) t ≡ machine.after_name keeps (machine.named_item keeps b o a (open_of outer) (opens old)) t
first_pushes b o kind a old new outer part t q e f g =
    ap (λ p. machine.after_clause keeps p a (opens new) t) g ∙ ap (λ k. machine.after_clause keeps (machine.new_part keeps kind a) a k t) (opens_pushed old new outer q) ∙ sym (ap (λ m. machine.after_name keeps m t) (named b o kind a (open_of outer) (opens old) e f))

-- a directive within `apply`, when it is whole
with_directive : (o : KeptOpen) (p : KeptPart) (z : Span) (w : KeptOpen) (i : Kept placed.Item) (d : Kept placed.Directive) → w ≡ machine.with_items keeps o (both add_item o.items i) → i ≡ one placed.acts d → d ≡ machine.made keeps p z → w ≡ machine.with_items keeps o (keeps.add_directive o.items (machine.made keeps p z))
with_directive o p z w i d a b e = a ∙ ap (λ y. machine.with_items keeps o (both add_item o.items y)) (b ∙ ap (one placed.acts) e)

pub comma_pops : (old new : List Open) (r : Option Open) (o : Open) (p : KeptPart) (z : Span) (w : KeptOpen) (i : Kept placed.Item) (d : Kept placed.Directive)
    → old ≡ new ++ option_to_list r → r ≡ Some o → w ≡ machine.with_items keeps (open_of o) (both add_item (open_of o).items i) → i ≡ one placed.acts d → d ≡ machine.made keeps p z → leads (item w (opens new)) ≡ machine.comma_step keeps p z (opens old)
comma_pops old new r o p z w i d q s a b e = ap (λ y. leads (item y (opens new))) (with_directive (open_of o) p z w i d a b e) ∙ ap (machine.comma_step keeps p z) (sym (opens_popped old new r o q s))

close_came : {E : Type 0} (m : Result Move E) (x : List KeptOpen) (w : KeptOpen) (y : Span) (n : KeptMove) → machine.close_apply keeps w y x ≡ n → IfOk m (λ v. (k : List KeptOpen) → came v k ≡ machine.close_apply keeps w y k) → IfOk m (λ v. came v x ≡ n)
close_came (Ok v) x w y n e h = h x ∙ e
close_came (Err f) x w y n e h = h

pub close_pops : {E : Type 0} (m : Result Move E) (old new : List Open) (r : Option Open) (o : Open) (p : KeptPart) (z y : Span) (w : KeptOpen) (i : Kept placed.Item) (d : Kept placed.Directive)
    → old ≡ new ++ option_to_list r → r ≡ Some o → w ≡ machine.with_items keeps (open_of o) (both add_item (open_of o).items i) → i ≡ one placed.acts d → d ≡ machine.made keeps p z → IfOk m (λ v. (k : List KeptOpen) → came v k ≡ machine.close_apply keeps w y k) → IfOk m (λ v. came v (opens new) ≡ machine.close_step keeps p z y (opens old))
close_pops m old new r o p z y w i d q s a b e h =
    close_came m (opens new) w y (machine.close_step keeps p z y (opens old)) (ap (λ x. machine.close_apply keeps x y (opens new)) (with_directive (open_of o) p z w i d a b e) ∙ ap (machine.close_step keeps p z y) (sym (opens_popped old new r o q s))) h

-- the end of the line within `apply`
pub end_pops : (old new : List Open) (r : Option Open) (o : Open) (p : KeptPart) (z : Span) → old ≡ new ++ option_to_list r → r ≡ Some o → stuck ≡ machine.end_step keeps p z (opens old)
end_pops old new r o p z q s = ap (machine.end_step keeps p z) (sym (opens_popped old new r o q s))
