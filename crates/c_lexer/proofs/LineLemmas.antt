-- The line feeds of a text: where they are, that their places rise, and what they tell of a place.
use Rattle.std.proofs.Common.{◌≡◌, ◌⊎◌, ℕ, zero, suc, ◌+◌, ◌-◌, ◌<◌, ◌≤◌, Bool, true, false, cond, not, List, [], ◌∷◌, ◌++◌, length, take, get_or, refl, sym, ap, ◌∙◌, subst, arith, inl, inr}
use Rattle.std.specs.Prelude.{IsTrue, nat_le, count_by}
use Rattle.std.proofs.lemmas.Bool.{cond_both, and_parts, and_from, leb-true, le-leb, eqb-true, eq-eqb, cases_lt, cond-true, not_from_true, not_from_false, false_from_ne_true}
use Rattle.std.proofs.lemmas.List.Sums.{suffix_len_is, sum_by-cons}
use Rattle.std.proofs.lemmas.List.{get_or-take, length-append, length-take-le}
use Rattle.c_tree.specs.Place.{is_line_feed, line_at, column_at}
use Rattle.std.proofs.lemmas.Grind.{get_or_default_zero}
use Rattle.c_lexer.specs.Lines.{feed_places, rises, Splits, Lines, MapsLines}

rises_lower : (a b c : ℕ) (ys : List ℕ) → a ≤ b → IsTrue (rises b ys c) → IsTrue (rises a ys c)
rises_lower a b c [] h k = let l = leb-true b c k in le-leb a c (omega arith)
rises_lower a b c (y ∷ ys) h k = let p = and_parts _ _ k in let l = leb-true b y p.0 in and_from _ _ (le-leb a y (omega arith)) p.1

pub rises_append : (a b c : ℕ) (xs ys : List ℕ) → IsTrue (rises a xs b) → IsTrue (rises b ys c) → IsTrue (rises a (xs ++ ys) c)
rises_append a b c [] ys h k = rises_lower a b c ys (leb-true a b h) k
rises_append a b c (x ∷ xs) ys h k = let p = and_parts _ _ h in and_from _ _ p.0 (rises_append (x + 1) b c xs ys p.1 k)

rises_within : (least top : ℕ) (ps : List ℕ) → IsTrue (rises least ps top) → least ≤ top
rises_within least top [] h = leb-true least top h
rises_within least top (p ∷ ps) h = let q = and_parts _ _ h in let l = leb-true least p q.0 in let m = rises_within (p + 1) top ps q.1 in omega arith

pub rises_bounds : (least top : ℕ) (ps : List ℕ) → IsTrue (rises least ps top) → (i : ℕ) → i < length ps → (least ≤ get_or ps i 0) × (get_or ps i 0 < top)
rises_bounds least top [] h i l = absurd (omega arith)
rises_bounds least top (p ∷ ps) h zero l = let q = and_parts _ _ h in let m = rises_within (p + 1) top ps q.1 in (leb-true least p q.0, omega arith)
rises_bounds least top (p ∷ ps) h (suc i) l = let q = and_parts _ _ h in let k = leb-true least p q.0 in let r = rises_bounds (p + 1) top ps q.1 i (omega arith) in (omega arith, r.1)

pub rises_sorted : (least top : ℕ) (ps : List ℕ) → IsTrue (rises least ps top) → (i j : ℕ) → i ≤ j → j < length ps → get_or ps i 0 ≤ get_or ps j 0
rises_sorted least top [] h i j l m = absurd (omega arith)
rises_sorted least top (p ∷ ps) h zero zero l m = omega arith
rises_sorted least top (p ∷ ps) h zero (suc j) l m = let q : (nat_le least p ≡ true) × (rises (p + 1) ps top ≡ true) = and_parts _ _ h in let r = rises_bounds (p + 1) top ps q.1 j (omega arith) in omega arith
rises_sorted least top (p ∷ ps) h (suc i) zero l m = absurd (omega arith)
rises_sorted least top (p ∷ ps) h (suc i) (suc j) l m = let q : (nat_le least p ≡ true) × (rises (p + 1) ps top ≡ true) = and_parts _ _ h in rises_sorted (p + 1) top ps q.1 i j (omega arith) (omega arith)

pub places_rise : (at : ℕ) (bs : List ℕ) → IsTrue (rises at (feed_places at bs) (at + length bs))
places_rise at [] = le-leb at (at + 0) (omega arith)
places_rise at (b ∷ bs) =
    let top : (at + 1) + length bs ≡ at + suc (length bs) = omega arith in
    let rest = subst (λ n. IsTrue (rises (at + 1) (feed_places (at + 1) bs) n)) top (places_rise (at + 1) bs) in
    cond_both (is_line_feed b) _ _ (λ ps. IsTrue (rises at ps (at + suc (length bs)))) (λ e. and_from _ _ (le-leb at at (omega arith)) rest)
    (λ e. rises_lower at (at + 1) _ (feed_places (at + 1) bs) (omega arith) rest)

append_either : (t : Bool) (at : ℕ) (us vs ws : List ℕ) → us ≡ vs ++ ws → cond t (at ∷ us) us ≡ cond t (at ∷ vs) vs ++ ws
append_either true at us vs ws e = ap (λ z. at ∷ z) e
append_either false at us vs ws e = e

pub places_append : (at : ℕ) (xs ys : List ℕ) → feed_places at (xs ++ ys) ≡ feed_places at xs ++ feed_places (at + length xs) ys
places_append at [] ys = ap (λ n. feed_places n ys) (omega arith)
places_append at (x ∷ xs) ys =
    let top : (at + 1) + length xs ≡ at + suc (length xs) = omega arith in
    append_either (is_line_feed x) at _ (feed_places (at + 1) xs) (feed_places (at + suc (length xs)) ys)
    (places_append (at + 1) xs ys ∙ ap (λ n. feed_places (at + 1) xs ++ feed_places n ys) top)

-- each of the places is that of a line feed
abbrev AtFeeds : ℕ → List ℕ → List ℕ → Type 0
AtFeeds at bs ps = (m : ℕ) → m < length ps → (i : ℕ) × (i < length bs) × (get_or ps m 0 ≡ at + i) × (get_or bs i 0 ≡ 10)

feeds_more : (at b : ℕ) (bs ps : List ℕ) → AtFeeds (at + 1) bs ps → AtFeeds at (b ∷ bs) ps
feeds_more at b bs ps h m l = let r = h m l in (suc r.0, omega arith, omega (arith, r.2), r.3)

feeds_here : (at b : ℕ) (bs ps : List ℕ) → b ≡ 10 → AtFeeds (at + 1) bs ps → AtFeeds at (b ∷ bs) (at ∷ ps)
feeds_here at b bs ps e h zero l = (0, omega arith, omega arith, e)
feeds_here at b bs ps e h (suc m) l = feeds_more at b bs ps h m (omega arith)

pub place_feeds : (at : ℕ) (bs : List ℕ) → AtFeeds at bs (feed_places at bs)
place_feeds at [] = λ m l. absurd (omega arith)
place_feeds at (b ∷ bs) =
    let rest = place_feeds (at + 1) bs in
    cond_both (is_line_feed b) _ _ (AtFeeds at (b ∷ bs)) (λ e. feeds_here at b bs (feed_places (at + 1) bs) (eqb-true b 10 e) rest) (λ e. feeds_more at b bs (feed_places (at + 1) bs) rest)

-- each line feed has a place
pub feed_placed : (at : ℕ) (bs : List ℕ) (i : ℕ) → i < length bs → get_or bs i 0 ≡ 10 → (m : ℕ) × (m < length (feed_places at bs)) × (get_or (feed_places at bs) m 0 ≡ at + i)
feed_placed at [] i l e = absurd (omega arith)
feed_placed at (b ∷ bs) zero l e =
    subst (λ ps. (m : ℕ) × (m < length ps) × (get_or ps m 0 ≡ at + 0)) (sym (cond-true (is_line_feed b) (at ∷ feed_places (at + 1) bs) (feed_places (at + 1) bs) (eq-eqb b 10 e))) (0, omega arith, omega arith)
feed_placed at (b ∷ bs) (suc i) l e =
    let r = feed_placed (at + 1) bs i (omega arith) e in
    cond_both (is_line_feed b) (at ∷ feed_places (at + 1) bs) (feed_places (at + 1) bs) (λ ps. (m : ℕ) × (m < length ps) × (get_or ps m 0 ≡ at + suc i))
    (λ f. (suc r.0, omega (arith, r.1), omega (arith, r.2))) (λ f. (r.0, r.1, omega (arith, r.2)))

count_here : (at n c : ℕ) (ps : List ℕ) (k : ℕ) → ((j : ℕ) → Splits ps ((at + 1) + n) j → c ≡ j) → Splits (at ∷ ps) (at + suc n) k → 1 + c ≡ k
count_here at n c ps zero h s = let g = s.2 0 (omega arith) (omega arith) in absurd (omega arith)
count_here at n c ps (suc k) h s =
    let r = h k (omega (arith, s.0), (λ i l. let g = s.1 (suc i) (omega arith) in omega arith), (λ i l m. let g = s.2 (suc i) (omega arith) (omega arith) in omega arith)) in
    omega (arith, r)

count_past : (at n c : ℕ) (ps : List ℕ) (k : ℕ) → ((j : ℕ) → Splits ps ((at + 1) + n) j → c ≡ j) → Splits ps (at + suc n) k → 0 + c ≡ k
count_past at n c ps k h s =
    let r = h k (s.0, (λ i l. let g = s.1 i l in omega arith), (λ i l m. let g = s.2 i l m in omega arith)) in
    omega (arith, r)

count_either : (t : Bool) (at n c : ℕ) (ps : List ℕ) (k : ℕ) → ((j : ℕ) → Splits ps ((at + 1) + n) j → c ≡ j) → Splits (cond t (at ∷ ps) ps) (at + suc n) k → cond t 1 0 + c ≡ k
count_either true at n c ps k h s = count_here at n c ps k h s
count_either false at n c ps k h s = count_past at n c ps k h s

-- the number of line feeds before a place is that of the places below it
pub feeds_before : (at : ℕ) (bs : List ℕ) (n k : ℕ) → n ≤ length bs → Splits (feed_places at bs) (at + n) k → count_by is_line_feed (take n bs) ≡ k
feeds_before at bs zero zero l s = refl
feeds_before at bs zero (suc k) l s =
    let r = rises_bounds at (at + length bs) (feed_places at bs) (places_rise at bs) 0 (omega (arith, s.0)) in
    let h = s.1 0 (omega arith) in absurd (omega arith)
feeds_before at [] (suc n) k l s = absurd (omega arith)
feeds_before at (b ∷ bs) (suc n) k l s = sum_by-cons (λ x. cond (is_line_feed x) 1 0) b (take n bs) ∙ count_either (is_line_feed b) at n _ (feed_places (at + 1) bs) k (λ j t. feeds_before (at + 1) bs n j (omega arith) t) s

module _ (bytes : List ℕ) (place k : ℕ) (within : place ≤ length bytes) (few : k ≤ length (feed_places 0 bytes))
    (below : (i : ℕ) → i < k → get_or (feed_places 0 bytes) i 0 < place) (above : (i : ℕ) → k ≤ i → i < length (feed_places 0 bytes) → place ≤ get_or (feed_places 0 bytes) i 0) where
  pub line_is : k + 1 ≡ line_at bytes place
  line_is = let r = feeds_before 0 bytes place k within (few, (λ i h. let g = below i h in omega arith), (λ i h g. let f = above i h g in omega arith)) in omega (arith, r)

  cut_length : length (take place bytes) ≡ place
  cut_length = length-take-le place bytes within

  -- no line feed stands between the last one before the place and the place
  feed_apart : (least : ℕ) → ((m : ℕ) → m < k → get_or (feed_places 0 bytes) m 0 < least) → (i m : ℕ) → least ≤ i → i < place → m < length (feed_places 0 bytes) → get_or (feed_places 0 bytes) m 0 ≡ 0 + i → (m < k) ⊎ (k ≤ m) → ⊥
  feed_apart least low i m l h f g (inl j) = let n = low m j in omega arith
  feed_apart least low i m l h f g (inr j) = let n = above m j f in omega arith

  none_between : (least : ℕ) → ((m : ℕ) → m < k → get_or (feed_places 0 bytes) m 0 < least) → (i : ℕ) → least ≤ i → i < place → not (is_line_feed (get_or (take place bytes) i 0)) ≡ true
  none_between least low i l h =
      not_from_false _ (false_from_ne_true _ (λ e.
      let r = feed_placed 0 bytes i (omega arith) (sym (get_or-take place bytes i 0 h) ∙ eqb-true _ 10 e) in
      feed_apart least low i r.0 l h r.1 r.2 (cases_lt r.0 k)))

  pub column_is_first : k ≡ 0 → place + 1 ≡ column_at bytes place
  column_is_first e =
      let r = suffix_len_is (λ byte. not (is_line_feed byte)) (take place bytes) 0 0 (omega arith) (λ i l h. none_between 0 (λ m g. omega arith) i l (omega (arith, cut_length))) (λ h. absurd (omega arith)) in
      omega (arith, r, cut_length)

  pub column_is : (feed : ℕ) → 0 < k → feed ≡ get_or (feed_places 0 bytes) (k - 1) 0 → place - feed ≡ column_at bytes place
  column_is feed pos e =
      let f = place_feeds 0 bytes (k - 1) (omega arith) in
      let low = below (k - 1) (omega arith) in
      let at_feed : feed ≡ f.0 = omega (arith, e, f.2) in
      let is_feed : get_or (take place bytes) feed 0 ≡ 10 = get_or-take place bytes feed 0 (omega arith) ∙ ap (λ z. get_or bytes z 0) at_feed ∙ f.3 in
      let r = suffix_len_is (λ byte. not (is_line_feed byte)) (take place bytes) (feed + 1) 0 (omega (arith, cut_length))
      (λ i l h. none_between (feed + 1) (λ m g. let s = rises_sorted 0 (0 + length bytes) (feed_places 0 bytes) (places_rise 0 bytes) m (k - 1) (omega arith) (omega arith) in omega arith) i l (omega (arith, cut_length)))
      (λ h. let back : (feed + 1) - 1 ≡ feed = omega arith in not_from_true _ (eq-eqb _ 10 (ap (λ z. get_or (take place bytes) z 0) back ∙ is_feed))) in
      omega (arith, r, cut_length)

-- a map that stands for bytes
module _ (l : Lines) (bytes feeds : List ℕ) (count place k : ℕ) (stands : MapsLines l bytes) (same_feeds : feeds ≡ l.feeds) (same_count : l.count ≡ count) (within : place ≤ count) (split : Splits feeds place k) where
  split_bytes : Splits (feed_places 0 bytes) place k
  split_bytes = subst (λ z. Splits z place k) (same_feeds ∙ stands.feeds) split

  place_within : place ≤ length bytes
  place_within = omega (arith, stands.count, same_count)

  pub map_line : k + 1 ≡ line_at bytes place
  map_line = let s = split_bytes in line_is bytes place k place_within s.0 s.1 s.2

  pub map_first_column : k ≡ 0 → place + 1 ≡ column_at bytes place
  map_first_column e = let s = split_bytes in column_is_first bytes place k place_within s.0 s.1 s.2 e

  pub map_column : (feed : ℕ) → 0 < k → feed ≡ get_or feeds (k - 1) 0 → place - feed ≡ column_at bytes place
  map_column feed pos e = let s = split_bytes in column_is bytes place k place_within s.0 s.1 s.2 feed pos (e ∙ ap (λ z. get_or z (k - 1) 0) (same_feeds ∙ stands.feeds))

-- an element of a list, with a default of its own
pub own_default : (xs : List ℕ) (i x : ℕ) → i < length xs → x ≡ get_or xs i x → x ≡ get_or xs i 0
own_default xs i x h e = e ∙ get_or_default_zero xs i x h

-- a map after one more piece
pub maps_fed : (old new : Lines) (bytes piece : List ℕ) → new.count ≡ old.count + length piece → new.feeds ≡ old.feeds ++ feed_places old.count piece → MapsLines old bytes → MapsLines new (bytes ++ piece)
maps_fed old new bytes piece c f h = record {
  count = omega (arith, c, h.count, length-append bytes piece);
  feeds = f ∙ ap (λ z. z ++ feed_places old.count piece) h.feeds ∙ ap (λ n. feed_places 0 bytes ++ feed_places n piece) place ∙ sym (places_append 0 bytes piece);
}
  where
    place : old.count ≡ 0 + length bytes
    place = omega (arith, h.count)

pub fed_rises : (feeds new piece : List ℕ) (count : ℕ) → new ≡ feeds ++ feed_places count piece → IsTrue (rises 0 feeds count) → IsTrue (rises 0 new (count + length piece))
fed_rises feeds new piece count e h = subst (λ z. IsTrue (rises 0 z (count + length piece))) (sym e) (rises_append 0 count (count + length piece) feeds (feed_places count piece) h (places_rise count piece))
