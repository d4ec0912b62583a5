-- The last moves, the newest first, as they lie in a log.
use Rattle.course.proofs.Common.{[], Amends, ap, append_assoc, arith, Buffer, buffer, drop, get_or, HandsOn, inl, inr, keep_last, last_item, length, length-append, length-drop, length-reverse, length-take, List, Log, logged, min, Move, moves_of, None, Option, put_last, Puts, refl, reverse, reverse-append, reverse-reverse, set, slice_get, Some, subst, suc, sym, take, take-append-drop, take-append-le, take-take, take_all, TakesBack, with_move, ℕ, ◌++◌, ◌+◌, ◌-◌, ◌<◌, ◌∙◌, ◌∷◌, ◌≡◌, ◌≤◌, ◌⊎◌}
use Rattle.std.proofs.Math.Nat.{min_comm}
use Rattle.std.proofs.lemmas.List.{append-nil}
use Rattle.std.proofs.lemmas.Bool.{cases_lt}
use Rattle.circular_buffer.proofs.Places.{slice_get-last}
use Rattle.std.proofs.Math.Seq.{get_or-append_seam, set-append_seam, take-append_seam}

module _ {X : Type 0} where
  -- what is put behind all others comes first
  reverse_behind : (l : List X) (x : X) → reverse (l ++ x ∷ []) ≡ x ∷ reverse l
  reverse_behind l x = reverse-append l (x ∷ [])

  pub put_behind : (n : ℕ) (l : List X) (x : X) → take (suc n) (reverse (l ++ x ∷ [])) ≡ take (suc n) (x ∷ take (suc n) (reverse l))
  put_behind n l x =
      ap (take (suc n)) (reverse_behind l x)
      ∙ ap (λ (r : List X). x ∷ r) (sym (take-take n (suc n) (reverse l) (omega arith)))

  -- the last ones are the first ones the other way round
  pub last_reversed : (n : ℕ) (l : List X) → take n (reverse (keep_last n l)) ≡ take n (reverse l)
  last_reversed n l = by (cases_lt (length l) n) where
    by : (length l < n) ⊎ (n ≤ length l) → take n (reverse (keep_last n l)) ≡ take n (reverse l)
    by (inl less) = ap (λ (k : ℕ). take n (reverse (drop k l))) (let none : length l - n ≡ 0 = omega (arith, less) in none)
    by (inr more) =
        let k : ℕ = length l - n in
        let long : n ≤ length (reverse (drop k l)) = omega (arith, more, length-reverse (drop k l), length-drop k l) in
        sym (take-append-le n (reverse (drop k l)) (reverse (take k l)) long)
        ∙ ap (take n) (sym (reverse-append (take k l) (drop k l)) ∙ ap reverse (take-append-drop k l))

  -- as many are kept as may be
  pub kept_few : (n : ℕ) (l : List X) → length (keep_last n l) ≤ n
  kept_few n l = omega (arith, length-drop (length l - n) l)

  -- a list without its last, and the last one
  record Last (l : List X) (rest : List X) (last : Option X) : Type 0 where
    rest_is : take (length l - 1) l ≡ reverse rest
    last_is : last_item l ≡ last

  last_of : (l r : List X) → l ≡ reverse r → Last l (drop 1 r) (slice_get r 0)
  last_of l [] e = subst (λ (m : List X). Last m [] None) (sym e) (record { rest_is = refl; last_is = refl })
  last_of l (x ∷ r) e =
      let behind : reverse (x ∷ r) ≡ reverse r ++ x ∷ [] = reverse-append (x ∷ []) r in
      let long : length (reverse r ++ x ∷ []) - 1 ≡ length (reverse r) = omega (arith, length-append (reverse r) (x ∷ [])) in
      subst (λ (m : List X). Last m r (Some x)) (sym (e ∙ behind)) (record {
        rest_is = ap (λ (k : ℕ). take k (reverse r ++ x ∷ [])) long ∙ take-append_seam (reverse r) (x ∷ []);
        last_is = slice_get-last (reverse r) x (length (reverse r ++ x ∷ []) - 1) long;
      })

  take_less : (n : ℕ) (r : List X) → length r ≤ n → take n (drop 1 r) ≡ drop 1 (take n r)
  take_less n r few = take_all n (drop 1 r) (omega (arith, few, length-drop 1 r)) ∙ ap (drop 1) (sym (take_all n r few))

  pub without_last : (n : ℕ) (l : List X) → length l ≤ n → take n (reverse (take (length l - 1) l)) ≡ drop 1 (take n (reverse l))
  without_last n l few =
      let last = last_of l (reverse l) (sym (reverse-reverse l)) in
      ap (λ (m : List X). take n (reverse m)) last.rest_is
      ∙ ap (take n) (reverse-reverse (drop 1 (reverse l)))
      ∙ take_less n (reverse l) (omega (arith, few, length-reverse l))

  pub last_first : (n : ℕ) (l : List X) → last_item l ≡ slice_get (take (suc n) (reverse l)) 0
  last_first n l = (last_of l (reverse l) (sym (reverse-reverse l))).last_is ∙ first (reverse l) where
    first : (r : List X) → slice_get r 0 ≡ slice_get (take (suc n) r) 0
    first [] = refl
    first (x ∷ r) = refl

-- ---- of moves

-- where all were handed on
pub logged_alone : (l : List Move) → logged l [] ≡ take 65536 (reverse l)
logged_alone l = ap (λ (m : List Move). take 65536 (reverse m)) (append-nil l)

-- the newest ones are handed on
pub handed_on : (ring to : Buffer Move) (newest after : List Move) → ring.capacity ≡ 65536
    → to ≡ buffer (keep_last ring.capacity (ring.items ++ newest)) ring.capacity → after ≡ [] → HandsOn ring newest to after
handed_on ring to newest after size is none =
    let items : to.items ≡ keep_last 65536 (ring.items ++ newest) = ap (λ (b : Buffer Move). b.items) is
    ∙ ap (λ (n : ℕ). keep_last n (ring.items ++ newest)) size in
    record {
      same = (λ j. logged (items j) (none j)) ∙ logged_alone (keep_last 65536 (ring.items ++ newest)) ∙ last_reversed 65536 (ring.items ++ newest);
      capacity = ap (λ (b : Buffer Move). b.capacity) is ∙ size;
      few = λ _. subst (λ (l : List Move). length l ≤ 65536) (sym items) (kept_few 65536 (ring.items ++ newest));
    }

-- where there is nothing to hand on
pub nothing_handed_on : (ring : Buffer Move) (newest : List Move) → ring.capacity ≡ 65536 → HandsOn ring newest ring newest
nothing_handed_on ring newest size = record { same = refl; capacity = size; few = λ few. few }

-- a move more is put behind all
pub one_more : (ring newest : List Move) (made : Move) → logged ring (newest ++ made ∷ []) ≡ with_move made (logged ring newest)
one_more ring newest made =
    ap (λ (l : List Move). take 65536 (reverse l)) (sym (append_assoc ring newest (made ∷ [])))
    ∙ put_behind 65535 (ring ++ newest) made

-- what was put down last is amended
pub amended : (log : Log) (ring items : List Move) (n : ℕ) (made was now : Move) (more : Move → Move)
    → record { ring = ring; newest = items } ≡ put_last made log → n ≡ length items → was ≡ get_or items (n - 1) was → now ≡ more was
    → record { ring = ring; newest = set items (n - 1) now } ≡ put_last (more made) log
amended log ring items n made was now more e long there is =
    let behind : items ≡ log.newest ++ made ∷ [] = ap (λ (l : Log). l.newest) e in
    let last : n - 1 ≡ length log.newest = omega (arith, long, ap length behind, length-append log.newest (made ∷ [])) in
    let same : was ≡ made = there ∙ (λ j. get_or (behind j) (last j) was) ∙ get_or-append_seam log.newest made [] was in
    let put : set items (n - 1) now ≡ log.newest ++ more made ∷ [] = (λ j. set (behind j) (last j) ((is ∙ ap more same) j))
    ∙ set-append_seam log.newest made [] (more made) in
    λ j. record { ring = (e j).ring; newest = put j }

-- there is one that was put down last
pub room_behind : (made : Move) (before after : Log) → Puts made before after → 1 ≤ length after.newest
room_behind made before after p =
    omega (arith, ap (λ (l : Log). length l.newest) p.is, length-append p.roomy.newest (made ∷ []))

-- which is taken back
pub taken_back : (made : Move) (before put after : Log) → Puts made before put → TakesBack put after → moves_of after ≡ moves_of before
taken_back made before put after p back = ap moves_of (back made p.roomy p.is) ∙ p.same

-- or with more recorded of it
pub amended_moves : (made : Move) (before put after : Log) (more : Move → Move) → Puts made before put → Amends more put after
    → moves_of after ≡ with_move (more made) (moves_of before)
amended_moves made before put after more p amends =
    ap moves_of (amends made p.roomy p.is)
    ∙ one_more p.roomy.ring p.roomy.newest (more made)
    ∙ ap (with_move (more made)) p.same

-- how many there are
length_kept : (k n m : ℕ) (l : List Move) → length l ≡ m → n ≡ min m k → n ≡ length (take k (reverse l))
length_kept k n m l long e =
    let kept : length (take k (reverse l)) ≡ min k (length (reverse l)) = length-take k (reverse l) in
    let same : length (reverse l) ≡ m = length-reverse l ∙ long in
    e ∙ min_comm m k ∙ ap (min k) (sym same) ∙ sym kept

pub length_logged : (ring newest : List Move) (n : ℕ) → n ≡ min (length ring + length newest) 65536 → n ≡ length (logged ring newest)
length_logged ring newest n e = length_kept 65536 n (length ring + length newest) (ring ++ newest) (length-append ring newest) e

-- the newest one is forgotten
pub forgets : (ring rest : Buffer Move) (newest log : List Move) → newest ≡ []
    → rest ≡ buffer (take (length ring.items - 1) ring.items) ring.capacity → length ring.items ≤ 65536
    → logged ring.items newest ≡ log → logged rest.items newest ≡ drop 1 log
forgets ring rest newest log none is few so =
    let l : List Move = ring.items in
    let less : List Move = take (length l - 1) l in
    let left : logged rest.items newest ≡ logged less [] = λ j. logged (is j).items (none j) in
    let all : logged l newest ≡ take 65536 (reverse l) = ap (logged l) none ∙ logged_alone l in
    left ∙ logged_alone less ∙ without_last 65536 l few ∙ ap (drop 1) (sym all ∙ so)
