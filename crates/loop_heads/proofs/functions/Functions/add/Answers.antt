-- The table after an entry is put in knows of the function what the entry says, and of each other what it knew.
use Rattle.std.proofs.Common.{◌≡◌, ◌∙◌, refl, sym, ap, subst, Bool, true, false, true≢false, List, [], ◌∷◌, map}
use Rattle.std.specs.Prelude.{bytes_eq, if◌then◌else◌}
use Rattle.std.specs.Cmp.Lexicographic.{bytes_decides}
use Rattle.indexmap.specs.IndexMap.{insert_entry}
use Rattle.c_tree.specs.Bare.{Name}
use Rattle.c_semantics.specs.Meaning.FileVariables.{Access, FunctionAccess, access_of}
use Rattle.loop_heads.specs.Touching.{IsSame, AreSame}
use Rattle.loop_heads.proofs.functions.Functions.add.Goals as goal

abbrev known : List (Name × Access) → List FunctionAccess
known es = map (λ e. record { name = e.0; access = e.1 }) es

module _ (x : Name) (a : Access) (f : Name) where
  abbrev now_known : Access → Access
  now_known old = if bytes_eq f x then a else old

  put_in : (es : List (Name × Access)) → access_of (known (insert_entry bytes_eq es x a)) f ≡ now_known (access_of (known es) f)
  put_in [] = refl
  put_in (e ∷ es) = by (bytes_eq x e.0) refl (put_in es)
    where
      own : (b : Bool) → (if b then a else access_of (known es) f) ≡ (if b then a else if b then e.1 else access_of (known es) f)
      own true = refl
      own false = refl

      other : (b c : Bool) → bytes_eq f e.0 ≡ b → bytes_eq f x ≡ c → bytes_eq x e.0 ≡ false → access_of (known (insert_entry bytes_eq es x a)) f ≡ (if c then a else access_of (known es) f)
          → (if b then e.1 else access_of (known (insert_entry bytes_eq es x a)) f) ≡ (if c then a else if b then e.1 else access_of (known es) f)
      other false c _ _ _ rest = rest
      other true false _ _ _ rest = refl
      other true true is_e is_x not rest =
          absurd (true≢false (sym is_e ∙ (ap (λ g. bytes_eq g e.0) ((bytes_decides f x).0 is_x) ∙ not)))

      by : (b : Bool) → bytes_eq x e.0 ≡ b → access_of (known (insert_entry bytes_eq es x a)) f ≡ now_known (access_of (known es) f)
          → access_of (known (if b then (e.0, a) ∷ es else e ∷ insert_entry bytes_eq es x a)) f ≡ now_known (if bytes_eq f e.0 then e.1 else access_of (known es) f)
      by true is rest =
          own (bytes_eq f e.0)
          ∙ ap (λ y. if bytes_eq f y then a else if bytes_eq f e.0 then e.1 else access_of (known es) f) (sym ((bytes_decides x e.0).0 is))
      by false is rest = other (bytes_eq f e.0) (bytes_eq f x) refl refl is rest

same_by : (a b : Access) → b ≡ a → IsSame a b
same_by a b e = subst (IsSame a) (sym e) (record { reads = λ x. refl; assigns = λ x. refl })

put_table : (x key : Name) (a : Access) (es new : List (Name × Access)) → key ≡ x → new ≡ insert_entry bytes_eq es key a → AreSame (record { name = x; access = a } ∷ known es) (known new)
put_table x key a es new key_is is = record {
  each = λ f. same_by (now_known x a f (access_of (known es) f)) (access_of (known new) f)
      (ap (λ t. access_of (known t) f) (is ∙ ap (λ k. insert_entry bytes_eq es k a) key_is) ∙ put_in x a f es);
}

pub returns : goal.returns
returns c =
    let es = c.self.inside.table.entries in
    let new = c.insert.new.self.entries in
    subst (λ (fs : List FunctionAccess). AreSame (record { name = c.args.function.now; access = c.args.touched } ∷ fs) (known new)) c.self.view_is
    (put_table c.args.function.now c.in_ok-key.key c.args.touched es new c.in_ok-key.ensures c.in_ok-insert.ensures.entries)
