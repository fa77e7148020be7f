-- Item by item: what is known before an item of the source and of the carried-out program differs only in the names that
-- were declared inside functions.
use Rattle.std.proofs.Common.{◌≡◌, refl, sym, ap, ◌∙◌, subst, ℕ, ◌+◌, min, List, [], ◌∷◌, length, map, Option, Some, None, Bool, true, false, lit≤}
use Rattle.std.specs.Prelude.{bytes_eq, is_some, if◌then◌else◌}
use Rattle.std.proofs.lemmas.Bool.{both_ways, and_parts}
use Rattle.c_tree.specs.Bare as b
use Rattle.c_tree.specs.Bare.{Name, define, extern_, global, function, main, Program}
use Rattle.c_tree.specs.WellFormed.{WellFormedTops}
use Rattle.c_tree.specs.declared.tree.Ty.{Ty}
use Rattle.c_tree.specs.declared.tree.Port.{Port}
use Rattle.c_tree.specs.declared.tree.Port.TheVariants.{Print, Input}
use Rattle.c_tree.specs.declared.name_rule.NameRule.TheVariants.{N2}
use Rattle.c_tree.specs.declared.name_rule.Entity.{Entity}
use Rattle.c_tree.specs.declared.name_rule.Entity.TheVariants.{Define, Function}
use Rattle.c_tree.specs.NameRules.BreachSets.{HasNone}
use Rattle.c_tree.specs.NameRules.Scopes.{Scope, find, or_else, is_taken, add, declare, a_scalar, inner}
use Rattle.c_tree.specs.NameRules.Scopes as scopes
use Rattle.c_tree.specs.NameRules.DeclaredNames.{is_among, with_name}
use Rattle.c_tree.specs.NameRules.DeclaredNames as names
use Rattle.c_tree.specs.NameRules.CallDepth.{deepest_calls}
use Rattle.c_tree.specs.NameRules.Breaches.{breach_if}
use Rattle.c_tree.specs.NameRules.Programs.{Known, with_port, with_global, more_elements, breaches_from, nothing_known}
use Rattle.c_tree.specs.Constants.{defined_as}
use Rattle.c_semantics.specs.Meaning.State.{Cell, scalar, State, with_globals, nowhere}
use Rattle.c_semantics.specs.Meaning.State as state
use Rattle.c_semantics.specs.Meaning.Expressions as values
use Rattle.c_semantics.specs.Meaning.FileVariables.{defines_with}
use Rattle.c_scopes.specs.Types.{type_held, type_filed}
use Rattle.c_scopes.specs.Types as types
use Rattle.c_scopes.specs.Laws.{scope_with}
use Rattle.c_soundness.specs.Unplaced.{unplaced_exprs, unplaced_stmts, unplaced_param, unplaced}
use Rattle.c_soundness.proofs.Fits.{none_if}
use Rattle.c_soundness.proofs.Files.{one_name, stays_in, stmts_keep, params_keep}
use Rattle.loop_normal.specs.DrawnNames.{FreshNames, AreDigits}
use Rattle.loop_normal.specs.SourceNames.{beside_program}
use Rattle.carried_out.specs.CarriedOut.{carried_all, carried_items}
use Rattle.carried_out.specs.Reversible.{are_reversible, are_reversible_items}
use Rattle.carried_names.specs.BoundsApart.{ItemsHaveBoundsApart}
use Rattle.carried_names.specs.Laws.{CarriedOutBreaksNone}
use Rattle.carried_names.proofs.Fresh.{Source, Reached, reached_start}
use Rattle.carried_names.proofs.Scopes.{Clean, clean_inner, alike_self, fresh_apart}
use Rattle.carried_names.proofs.SourceNames.{ParamsDeclare, ItemsDeclare, declares_source}
use Rattle.carried_names.proofs.Walk.{stmts_kept}
use Rattle.carried_names.proofs.Declared.{Within, within_same, within_params, SeenAmong, seen_params, stmts_within, own_in}

params_seen : (ps : List b.Param) (ns : List Name) (x : Name) → is_among x ns ≡ true → is_among x (names.with_params ns (map unplaced_param ps)) ≡ true
params_seen ps ns x h = params_keep x ns (map unplaced_param ps) h

module _ (start : FreshNames) (digits : AreDigits start.digits) where
  -- ---- scopes without fresh names

  clean_added : (s : Scope) (x : Name) (e : Entity) → Source start x → Clean start s → Clean start (add x e s)
  clean_added s x e source c y f = ap (λ t. or_else (if t then Some e else find y s.here) (find y s.outside)) (fresh_apart start x y source f) ∙ c y f

  clean_declared : (s : Scope) (x : Name) (e : Entity) → Source start x → Clean start s → Clean start (declare x e s)
  clean_declared s x e source c = by (is_taken s x)
    where
      by : (t : Bool) → Clean start (if t then s else add x e s)
      by true = c
      by false = clean_added s x e source c

  clean_params : (ps : List b.Param) (s : Scope) → ParamsDeclare (Source start) ps → Clean start s → Clean start (scopes.with_params s (map unplaced_param ps))
  clean_params [] s d c = c
  clean_params (p ∷ ps) s d c = clean_params ps (declare p.name a_scalar s) d.1 (clean_declared s p.name a_scalar d.0 c)

  clean_port : (port : Port) (s : Scope) → Clean start s → Clean start (with_port port s)
  clean_port Print s c = c
  clean_port Input s c = c

  -- a variable of the file more
  seen_global : (u : State) (t : Ty) (x : Name) (dims : b.Exprs) (e : Option b.Expr) (ns : List Name) → SeenAmong start u ns → SeenAmong start (scope_with u (global t x dims e)) (with_name x ns)
  seen_global u t x dims e ns h = by (is_some (type_filed u x))
    where
      own : (y : Name) (b : Bool) → bytes_eq y x ≡ b → (o : Option Cell) → ((is_some (type_held (state.or_else o (state.find y u.globals))) ≡ true → is_among y (with_name x ns) ≡ true)) →
          is_some (type_held (state.or_else o (if b then Some (scalar t None) else state.find y u.globals))) ≡ true → is_among y (with_name x ns) ≡ true
      own y true q o go k = subst (λ z. is_among z (with_name x ns) ≡ true) (sym (one_name y x q)) (own_in x ns)
      own y false q o go k = go k

      by : (b : Bool) → SeenAmong start (if b then u else with_globals (record { name = x; cell = scalar t None } ∷ u.globals) u) (with_name x ns)
      by true y k = stays_in y x ns (h y k)
      by false y k = own y (bytes_eq y x) refl (state.find y u.frame) (λ j. stays_in y x ns (h y j)) k

  -- ---- items

  not_among : (ns ms : List Name) (x : Name) → Source start x → Within start ns ms → is_among x ns ≡ false → is_among x ms ≡ false
  not_among ns ms x source h e = by (is_among x ms) refl
    where
      by : (t : Bool) → is_among x ms ≡ t → t ≡ false
      by false q = refl
      by true q = absurd (both_ways (is_among x ns) e (h x source q))

  abbrev known : Scope → List Name → ℕ → Known
  known s ns n = record { scope = s; names = ns; elements = n }

  items_kept : (p : Program) (ds : List values.Define) (u : State) → are_reversible_items ds u p ≡ true → WellFormedTops p → ItemsHaveBoundsApart ds p → ItemsDeclare (Source start) p → (f : FreshNames) → Reached start f →
      (s : Scope) (ns ms : List Name) (n : ℕ) → Clean start s → Within start ns ms → SeenAmong start u ns → HasNone (breaches_from (known s ns n) (unplaced p)) → HasNone (breaches_from (known s ms n) (unplaced (carried_items ds u p f).tree))
  items_kept [] ds u r w o d f q s ns ms n c k seen h = tt
  items_kept (define x minus v t ∷ is) ds u r w o d f q s ns ms n c k seen h =
      let new = Define (defined_as minus v t) in
      let absent : is_among x ns ≡ false = none_if (is_among x ns) N2 0 h.0 in
      let absent' = not_among ns ms x d.0 k absent in
      let js = (carried_items (defines_with ds (define x minus v t)) u is f).tree in
      let before = subst (λ b. HasNone (breaches_from (known (if b then s else add x new s) (with_name x ns) n) (unplaced is))) absent h.1 in
      let rest = items_kept is (defines_with ds (define x minus v t)) u r w.1 o.1 d.1 f q (add x new s) (with_name x ns) (with_name x ms) n (clean_added s x new d.0 c) (within_same start x ns ms k) (λ y j. stays_in y x ns (seen y j)) before in
      (subst (λ b. HasNone (breach_if b N2 0)) (sym absent') tt, subst (λ b. HasNone (breaches_from (known (if b then s else add x new s) (with_name x ms) n) (unplaced js))) (sym absent') rest)
  items_kept (extern_ port ∷ is) ds u r w o d f q s ns ms n c k seen h =
      (tt, items_kept is ds u r w.1 o.1 d.1 f q (with_port port s) ns ms n (clean_port port s c) k seen h.1)
  items_kept (global t x dims e ∷ is) ds u r w o d f q s ns ms n c k seen h = (
    h.0,
    items_kept is ds (scope_with u (global t x dims e)) r w.1 o.1 d.1 f q (with_global s x (unplaced_exprs dims)) (with_name x ns) (with_name x ms) (more_elements (known s ns n) x (unplaced_exprs dims))
        (clean_declared s x _ d.0 c) (within_same start x ns ms k) (seen_global u t x dims e ns seen) h.1,
  )
  items_kept (function x ps a ∷ is) ds u r w o d f q s ns ms n c k seen h =
      let here = types.with_params ps u in
      let qs = map unplaced_param ps in
      let z = scopes.with_params (inner s) qs in
      let reversible = (and_parts _ _ r).0 in
      let body = stmts_kept start digits true ds here a reversible w.0.2 o.0 d.0.2 f q false z z (alike_self start z (clean_params ps (inner s) d.0.1 (clean_inner start s c))) h.0.1.1 in
      let declared = stmts_within start ds here a reversible w.0.2 f q in
      let m = carried_all ds here a f in
      let js = (carried_items ds u is m.left).tree in
      let in_ns = names.with_params ns qs in
      let in_ms = names.with_params ms qs in
      let after_ns = with_name x (names.with_stmts in_ns (unplaced_stmts a)) in
      let after_ms = with_name x (names.with_stmts in_ms (unplaced_stmts m.tree)) in
      let new = λ (depth : ℕ). Function (length qs) (min (1 + depth) 16) in
      let depth = deepest_calls z (unplaced_stmts a) in
      let within = within_same start x _ _ (declared.within in_ns in_ms (seen_params start ps u ns seen) (within_params start qs ns ms k)) in
      let rest = items_kept is ds u (and_parts (are_reversible ds here a) _ r).1 w.1 o.1 d.1 m.left body.reached (declare x (new depth) s) after_ns after_ms n (clean_declared s x (new depth) d.0.0 c) within
      (λ y j. stays_in y x _ (stmts_keep y in_ns (unplaced_stmts a) (params_seen ps ns y (seen y j)))) h.1 in
      ((h.0.0, (h.0.1.0, body.fine.none)), subst (λ g. HasNone (breaches_from (known (declare x (new g) s) after_ms n) (unplaced js))) (sym body.fine.depth) rest)
  items_kept (main a ∷ is) ds u r w o d f q s ns ms n c k seen h =
      let reversible = (and_parts _ _ r).0 in
      let body = stmts_kept start digits false ds u a reversible w.0 o.0 d.0 f q false (inner s) (inner s) (alike_self start (inner s) (clean_inner start s c)) h.0 in
      let declared = stmts_within start ds u a reversible w.0 f q in
      let m = carried_all ds u a f in (
        body.fine.none,
        items_kept is ds u (and_parts (are_reversible ds u a) _ r).1 w.1 o.1 d.1 m.left body.reached s (names.with_stmts ns (unplaced_stmts a)) (names.with_stmts ms (unplaced_stmts m.tree)) n c
            (declared.within ns ms seen k) (λ y j. stmts_keep y ns (unplaced_stmts a) (seen y j)) h.1,
      )

pub breaks_none : CarriedOutBreaksNone
breaks_none p well h reversible own =
    let start = beside_program p in
    let digits : AreDigits start.digits = (lit≤ tt, tt) in
    items_kept start digits p [] nowhere reversible well.0 own (declares_source p digits) start (reached_start start) nothing_known.scope [] [] 0 (λ x f. refl) (λ x d e. e) (λ x e. absurd (both_ways false refl e)) h
