-- Runs one after another, and what they answer.
use Rattle.std.proofs.Common.{◌≡◌, ◌⊎◌, ℕ, suc, ◌+◌, List, [], ◌∷◌, ◌++◌, length, refl, sym, ap, ◌∙◌, subst, arith, length-append, inl, inr}
use Rattle.std.specs.Prelude.{Result, Ok, Err, IfOk, IfErr}
use Rattle.c_lexer.specs.declared.token.Token.{Token}
use Rattle.c_lexer.specs.declared.token.LexKind.{LexKind}
use Rattle.c_lexer.specs.declared.token.LexFault.{LexFault}
use Rattle.c_lexer.specs.declared.token.LexFault.TheVariants.{At, Memory}
use Rattle.c_lexer.specs.declared.context.Line.TheVariants.{Fresh}
use Rattle.c_lexer.specs.declared.context.Before.TheVariants.{Free}
use Rattle.c_lexer.specs.Cut.{side, Answer, tokens, fault, after, with_first, Lexes, Cut, FirstFault, IsFault}
use Rattle.c_lexer.specs.Machine.{State, gives, step, end, answer, start}
use Rattle.c_lexer.specs.Running.{run}
use Rattle.c_lexer.specs.Lexing.{Lexing, StandsFor, fed, FaultIs}
use Rattle.c_lexer.proofs.Lexed.{lexed}
use Rattle.c_lexer.proofs.Unique.{one_answer}
use Rattle.c_lexer.proofs.Followed.{gives_gives}
use Rattle.c_lexer.proofs.Endings.{after_append}

run_append : (s : State) (at : ℕ) (xs ys : List ℕ) → run s at (xs ++ ys) ≡ gives (run s at xs).whole (run (run s at xs).next (at + length xs) ys)
run_append s at [] ys = ap (λ n. run s n ys) (omega arith)
run_append s at (x ∷ xs) ys =
    let m = step s at x in
    let r = run m.next (at + 1) xs in
    let place : (at + 1) + length xs ≡ at + suc (length xs) = omega arith in
    ap (gives m.whole) (run_append m.next (at + 1) xs ys) ∙ gives_gives m.whole r.whole (run r.next ((at + 1) + length xs) ys) ∙
    ap (λ n. gives (m.whole ++ r.whole) (run r.next n ys)) place

pub stands_fed : (l : Lexing) (bytes piece : List ℕ) → StandsFor l bytes → StandsFor (fed l piece) (bytes ++ piece)
stands_fed l bytes piece h = record {
  count = omega (arith, length-append bytes piece, h.count);
  ran = run_append start 0 bytes piece ∙ ap (λ m. gives m.whole (run m.next (0 + length bytes) piece)) h.ran ∙ ap (λ n. gives l.tokens (run l.state n piece)) place;
}
  where
    place : 0 + length bytes ≡ l.count
    place = omega (arith, h.count)

answer_run : (s : State) (at : ℕ) (bs : List ℕ) → answer s at bs ≡ after (run s at bs).whole (end (run s at bs).next (at + length bs))
answer_run s at [] = ap (end s) (omega arith)
answer_run s at (b ∷ bs) =
    let m = step s at b in
    let r = run m.next (at + 1) bs in
    let place : (at + 1) + length bs ≡ at + suc (length bs) = omega arith in
    ap (after m.whole) (answer_run m.next (at + 1) bs) ∙ sym (after_append m.whole r.whole (end r.next ((at + 1) + length bs))) ∙
    ap (λ n. after (m.whole ++ r.whole) (end r.next n)) place

-- the end of a lexing is the answer to the bytes that it stands for
pub finished : (l : Lexing) (bytes : List ℕ) → StandsFor l bytes → after l.tokens (end l.state l.count) ≡ answer start 0 bytes
finished l bytes h =
    sym (answer_run start 0 bytes ∙ ap (λ m. after m.whole (end m.next (0 + length bytes))) h.ran ∙ ap (λ n. after l.tokens (end l.state n)) place)
  where
    place : 0 + length bytes ≡ l.count
    place = omega (arith, h.count)

append_end : (ts : List Token) → ts ++ [] ≡ ts
append_end [] = refl
append_end (t ∷ ts) = ap (λ us. t ∷ us) (append_end ts)

-- an answer of the machine is one of the definition
answer_is : (bytes : List ℕ) (a : Answer) → a ≡ answer start 0 bytes → Lexes (length bytes) (side Fresh Free) bytes a
answer_is bytes a e = subst (Lexes (length bytes) (side Fresh Free) bytes) (sym e) (lexed bytes)

module _ (l : Lexing) (bytes : List ℕ) (kept since : List Token) (stands : StandsFor l bytes) (none : since ≡ []) (same : kept ≡ l.tokens) where
  answered : after (kept ++ since) (end l.state l.count) ≡ answer start 0 bytes
  answered = ap (λ z. after (kept ++ z) (end l.state l.count)) none ∙ ap (λ z. after z (end l.state l.count)) (append_end kept ∙ same) ∙ finished l bytes stands

  pub found_cut : {X : Type 0} (items : X → List Token) (r : Result X LexFault) → IfOk r (λ found. tokens (items found) ≡ after (kept ++ since) (end l.state l.count)) → IfOk r (λ found. Cut bytes (items found))
  found_cut items (Ok found) h = answer_is bytes (tokens (items found)) (h ∙ answered)
  found_cut items (Err f) h = tt

  pub found_fault : {X : Type 0} (r : Result X LexFault) → IfErr r (λ f. FaultIs f (end l.state l.count)) → IfErr r (λ f. IsFault bytes f)
  found_fault (Ok found) h = tt
  found_fault (Err Memory) h = tt
  found_fault (Err (At kind place)) h = answer_is bytes (fault kind place) (sym (sym answered ∙ ap (after (kept ++ since)) h ∙ after_fault (kept ++ since) kind place))
    where
      after_fault : (ts : List Token) (k : LexKind) (p : ℕ) → after ts (fault k p) ≡ fault k p
      after_fault [] k p = refl
      after_fault (t ∷ ts) k p = ap (λ z. with_first t z) (after_fault ts k p)

-- the laws of the definition
pub cut_once : (text : List ℕ) (these those : List Token) → Cut text these → Cut text those → these ≡ those
cut_once text these those h k = same_tokens these those (one_answer h k)
  where
    same_tokens : (ts us : List Token) → tokens ts ≡ tokens us → ts ≡ us
    same_tokens ts us e = cc

pub fault_once : (text : List ℕ) (k l : LexKind) (p q : ℕ) → FirstFault text k p → FirstFault text l q → (k ≡ l) × (p ≡ q)
fault_once text k l p q h i = same_fault (one_answer h i)
  where
    same_fault : fault k p ≡ fault l q → (k ≡ l) × (p ≡ q)
    same_fault e = (cc, cc)

pub not_both : (text : List ℕ) (ts : List Token) (k : LexKind) (p : ℕ) → Cut text ts → FirstFault text k p → ⊥
not_both text ts k p h i = no_fault (one_answer h i)
  where
    no_fault : tokens ts ≡ fault k p → ⊥
    no_fault e = cc

pub some_answer : (text : List ℕ) → ((ts : List Token) × Cut text ts) ⊎ ((k : LexKind) × (p : ℕ) × FirstFault text k p)
some_answer text = by (answer start 0 text) (lexed text)
  where
    by : (a : Answer) → Lexes (length text) (side Fresh Free) text a → ((ts : List Token) × Cut text ts) ⊎ ((k : LexKind) × (p : ℕ) × FirstFault text k p)
    by (tokens ts) h = inl (ts, h)
    by (fault k p) h = inr (k, p, h)
