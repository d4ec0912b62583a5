-- Pages that are made, copied, and written from a place on.
use Rattle.image.proofs.Common.{[], ap, append_assoc, AreMade, ArePages, AreWhole, arith, Bool, drop, drop-drop, Err, false, flat, get_or, Global, HaveBytes, inr, IsPage, LacksOne, leb, length, length-append, length-drop, length-set, length-take-le, length_push, List, nat_tests, NeedsPage, Ok, OnErr, page_bytes, put, refl, Result, slice_set, subst, suc, sym, take, true, Vec, zero, ℕ, ◌%◌, ◌*◌, ◌++◌, ◌+◌, ◌-◌, ◌/◌, ◌<◌, ◌∙◌, ◌∷◌, ◌≡◌, ◌≤◌}
use Rattle.std.proofs.lemmas.Slice.{take-put_mid}
use borrow.Rule.Slice.PartMut.{put_mid, post_of}
use Rattle.std.proofs.Math.Seq.{take-append_seam, drop-append-add}
use Rattle.image.proofs.Flat.{Pages, each_push, flat_push, page_at, page_length, pages_set, part}
use Rattle.image.proofs.Places.{Lies}
use Rattle.image.proofs.Reading.{no_fault}
use Rattle.image.proofs.Writing.{blank, made_bytes, new_length, set_in_page}

-- ---- parts of lists

pub take_more : (l : List ℕ) (d n : ℕ) → take d l ++ take n (drop d l) ≡ take (d + n) l
take_more l zero n = let e : 0 + n ≡ n = omega arith in ap (λ k. take k l) (sym e)
take_more [] (suc d) zero = let e : suc d + 0 ≡ suc (d + 0) = omega arith in ap (λ k. take {A = ℕ} k []) (sym e)
take_more [] (suc d) (suc n) = let e : suc d + suc n ≡ suc (d + suc n) = omega arith in ap (λ k. take {A = ℕ} k []) (sym e)
take_more (x ∷ l) (suc d) n =
    let e : suc d + n ≡ suc (d + n) = omega arith in ap (λ t. x ∷ t) (take_more l d n) ∙ ap (λ k. take k (x ∷ l)) (sym e)

pub put_put : (l a b : List ℕ) (k : ℕ) → k + length a + length b ≤ length l → put (put l k a) (k + length a) b ≡ put l k (a ++ b)
put_put l a b k h =
    let w : k ≤ length l = omega (arith, h) in
    let e : length (take k l ++ a) ≡ k + length a = omega (arith, length-append (take k l) a, length-take-le k l w) in
    let f : k + length a + length b ≡ k + length (a ++ b) = omega (arith, length-append a b) in
    let x : take (k + length a) (put l k a) ≡ take k l ++ a =
    ap (λ n. take n (put l k a)) (sym e) ∙ take-append_seam (take k l ++ a) (drop (k + length a) l) in
    let y : drop (k + length a + length b) (put l k a) ≡ drop (k + length (a ++ b)) l =
    ap (λ n. drop (n + length b) (put l k a)) (sym e) ∙ drop-append-add (take k l ++ a) (drop (k + length a) l) (length b)
    ∙ drop-drop (length b) (k + length a) l ∙ ap (λ n. drop n l) f in
    ap (λ t. t ++ b ++ drop (k + length a + length b) (put l k a)) x
    ∙ ap (λ t. take k l ++ a ++ b ++ t) y
    ∙ ap (λ t. t ++ drop (k + length (a ++ b)) l) (append_assoc (take k l) a b)

-- more of some bytes that are put from a place on
pub put_more : (l b : List ℕ) (k d n : ℕ) → k + length b ≤ length l → d + n ≤ length b
    → put (put l k (take d b)) (k + d) (take n (drop d b)) ≡ put l k (take (d + n) b)
put_more l b k d n h w =
    let x : d ≤ length b = omega (arith, w) in
    let y : n ≤ length (drop d b) = omega (arith, w, length-drop d b) in
    let e : length (take d b) ≡ d = length-take-le d b x in
    let f : length (take n (drop d b)) ≡ n = length-take-le n (drop d b) y in
    ap (λ j. put (put l k (take d b)) (k + j) (take n (drop d b))) (sym e)
    ∙ put_put l (take d b) (take n (drop d b)) k (omega (arith, e, f, h, w))
    ∙ ap (put l k) (take_more b d n)

-- ---- one page

at_set : (ps : Pages) (i j : ℕ) (q d : Vec ℕ Global) → length (get_or ps j d).items ≡ 4096 → length q.items ≡ 4096
    → length (get_or (slice_set ps i q) j d).items ≡ 4096
at_set [] i j q d h n = h
at_set (p ∷ ps) zero zero q d h n = n
at_set (p ∷ ps) zero (suc j) q d h n = h
at_set (p ∷ ps) (suc i) zero q d h n = h
at_set (p ∷ ps) (suc i) (suc j) q d h n = at_set ps i j q d h n

pub made_set : (ps : Pages) (i first last : ℕ) (q : Vec ℕ Global) → length q.items ≡ 4096 → AreMade ps first last
    → AreMade (slice_set ps i q) first last
made_set ps i first last q n m j d from below = at_set ps i j q d (m j d from below) n

pub set_at : (ps : Pages) (i : ℕ) (q d : Vec ℕ Global) → i < length ps → get_or (slice_set ps i q) i d ≡ q
set_at [] i q d h = absurd (omega arith)
set_at (p ∷ ps) zero q d h = refl
set_at (p ∷ ps) (suc i) q d h = set_at ps i q d (omega arith)

flat_same : (ps : Pages) (i : ℕ) (d q : Vec ℕ Global) → page_bytes q.items ≡ page_bytes (get_or ps i d).items
    → flat (slice_set ps i q) ≡ flat ps
flat_same [] i d q e = refl
flat_same (p ∷ ps) zero d q e = ap (λ t. t ++ flat ps) e
flat_same (p ∷ ps) (suc i) d q e = ap (λ t. page_bytes p.items ++ t) (flat_same ps i d q e)

-- ---- a page is made

pub page_made : (ps : Pages) (i first : ℕ) (p q : Vec ℕ Global) → ArePages ps → i < length ps → p ≡ get_or ps i p
    → q.items ≡ page_bytes p.items
    → AreMade ps first i → AreMade (slice_set ps i q) first (i + 1)
page_made ps i first p q each h at e m j d from below = by (leb i j) refl where
  by : (b : Bool) → leb i j ≡ b → length (get_or (slice_set ps i q) j d).items ≡ 4096
  by true t =
      let is : IsPage p.items = subst (λ (v : Vec ℕ Global). IsPage v.items) (sym at) (page_at ps i p each h) in
      let n : length q.items ≡ 4096 = ap length e ∙ page_length p.items is in
      let same : j ≡ i = (let x : i ≤ j = grind (arith, nat_tests) in omega (arith, x, below)) in
      ap (λ k. length (get_or (slice_set ps i q) k d).items) same ∙ ap (λ (v : Vec ℕ Global). length v.items) (set_at ps i q d h) ∙ n
  by false t =
      let is : IsPage p.items = subst (λ (v : Vec ℕ Global). IsPage v.items) (sym at) (page_at ps i p each h) in
      let n : length q.items ≡ 4096 = ap length e ∙ page_length p.items is in
      let less : j < i = grind (arith, nat_tests) in
      at_set ps i j q d (m j d from less) n

pub page_kept : (before ps : Pages) (i : ℕ) (p q : Vec ℕ Global) → HaveBytes before (flat before) ps → i < length ps → p ≡ get_or ps i p
    → q.items ≡ page_bytes p.items → HaveBytes before (flat before) (slice_set ps i q)
page_kept before ps i p q k h at e =
    let is : IsPage p.items = subst (λ (v : Vec ℕ Global). IsPage v.items) (sym at) (page_at ps i p k.each h) in
    let n : length q.items ≡ 4096 = ap length e ∙ page_length p.items is in
    let same : page_bytes q.items ≡ page_bytes (get_or ps i p).items = made_bytes q.items n ∙ e
    ∙ ap (λ (v : Vec ℕ Global). page_bytes v.items) at in
    record {
      each = pages_set ps i q k.each (inr n);
      many = length-set ps i q ∙ k.many;
      same = flat_same ps i p q same ∙ k.same;
    }

-- ---- a page that was not made keeps bytes from being written

pub lacks : (ps : Pages) (addr place n : ℕ) → AreWhole ps → 1 ≤ n → 65536 ≤ addr → addr - 65536 ≡ place → place + n ≤ 4096 * length ps
    → LacksOne ps (place / 4096) ((place + n + 4095) / 4096) → NeedsPage 1 (flat ps) addr n
lacks ps addr place n w some low is h l = by (leb place (4096 * l.at)) refl where
  by : (b : Bool) → leb place (4096 * l.at) ≡ b → NeedsPage 1 (flat ps) addr n
  by true t =
      let past : place ≤ 4096 * l.at = grind (arith, nat_tests) in
      let some_page : l.at < length ps = omega (arith, l.below, h) in
      let x : Lies (65536 + 4096 * l.at) l.at 0 = record { low = omega arith; place = omega arith; within = omega arith } in
      record {
        no_fault = no_fault ps addr 1 n w some low (omega (arith, low, is, h)) (omega arith);
        at = 65536 + 4096 * l.at;
        from = omega (arith, low, is, past);
        below = omega (arith, low, is, l.below);
        blank = blank ps (65536 + 4096 * l.at) l.at 0 l.page w x some_page l.there l.none;
      }
  by false t =
      let past : 4096 * l.at < place = grind (arith, nat_tests) in
      let some_page : l.at < length ps = omega (arith, l.below, h) in
      let x : Lies addr l.at
      (place - 4096 * l.at) = record { low = low; place = omega (arith, is, past); within = omega (arith, l.from) } in
      record {
        no_fault = no_fault ps addr 1 n w some low (omega (arith, low, is, h)) (omega arith);
        at = addr;
        from = omega arith;
        below = omega (arith, some);
        blank = blank ps addr l.at (place - 4096 * l.at) l.page w x some_page l.there l.none;
      }

-- ---- pages are copied

take_next : (ps : Pages) (i : ℕ) (p : Vec ℕ Global) → i < length ps → p ≡ get_or ps i p → take (i + 1) ps ≡ take i ps ++ p ∷ []
take_next [] i p h at = absurd (omega arith)
take_next (x ∷ ps) zero p h at = ap (λ y. y ∷ []) (sym at)
take_next (x ∷ ps) (suc i) p h at =
    let e : suc i + 1 ≡ suc (i + 1) = omega arith in ap (λ k. take k (x ∷ ps)) e ∙ ap (λ t. x ∷ t) (take_next ps i p (omega arith) at)

taken_each : (ps : Pages) (i : ℕ) → ArePages ps → ArePages (take i ps)
taken_each ps zero each = tt
taken_each [] (suc i) each = tt
taken_each (p ∷ ps) (suc i) each = (each.0, taken_each ps i each.1)

pub copied : (ps cs rs : Pages) (i : ℕ) (p q : Vec ℕ Global) → ArePages ps → i < length ps → p ≡ get_or ps i p → q.items ≡ p.items
    → HaveBytes (take i ps) (flat (take i ps)) cs → rs ≡ cs ++ q ∷ [] → HaveBytes (take (i + 1) ps) (flat (take (i + 1) ps)) rs
copied ps cs rs i p q each h at e k r =
    let next = take_next ps i p h at in
    let is : IsPage q.items = subst IsPage (sym e) (subst (λ (v : Vec ℕ Global). IsPage v.items) (sym at) (page_at ps i p each h)) in
    record {
      each = subst ArePages (sym r) (each_push cs q k.each is);
      many = ap length r ∙ length_push cs q ∙ ap (λ n. n + 1) k.many ∙ sym (ap length next ∙ length_push (take i ps) p);
      same = ap flat r ∙ flat_push cs q ∙ ap (λ t. t ++ page_bytes q.items) k.same ∙ ap (λ b. flat (take i ps) ++ page_bytes b) e
          ∙ sym (ap flat next ∙ flat_push (take i ps) p);
    }

-- ---- bytes within a page

pub put_here : (ps : Pages) (place : ℕ) (b : List ℕ) (p q : Vec ℕ Global) → ArePages ps → place / 4096 < length ps
    → place % 4096 + length b ≤ 4096
    → p ≡ get_or ps (place / 4096) p → length p.items ≡ 4096 → q.items ≡ put p.items (place % 4096) b
    → HaveBytes ps (put (flat ps) place b) (slice_set ps (place / 4096) q)
put_here ps place b p q each h fits at n e =
    let same : q.items ≡ put (page_bytes p.items) (place % 4096) b = e ∙ ap (λ x. put x (place % 4096) b) (sym (made_bytes p.items n)) in
    let is : IsPage p.items = inr n in
    let m : length q.items ≡ 4096 = new_length p.items q.items b (place % 4096) is fits same in
    let whole : 4096 * (place / 4096) + place % 4096 ≡ place = omega arith in
    record {
      each = pages_set ps (place / 4096) q each (inr m);
      many = length-set ps (place / 4096) q;
      same = set_in_page ps (place / 4096) (place % 4096) b p q each h fits at same m ∙ ap (λ k. put (flat ps) k b) whole;
    }

-- the bytes of a page from a place on, as those of all pages
pub read_here : (ps : Pages) (place done n : ℕ) (d : Vec ℕ Global) → ArePages ps → (place + done) / 4096 < length ps
    → (place + done) % 4096 + n ≤ 4096
    → take n (drop ((place + done) % 4096) (page_bytes (get_or ps ((place + done) / 4096) d).items))
    ≡ take n (drop done (drop place (flat ps)))
read_here ps place done n d each h fits =
    let whole : 4096 * ((place + done) / 4096) + (place + done) % 4096 ≡ place + done = omega arith in
    sym (part ps ((place + done) / 4096) ((place + done) % 4096) n d each h fits) ∙ ap (λ k. take n (drop k (flat ps))) whole
    ∙ sym (ap (take n) (drop-drop done place (flat ps)))

-- more of a list that is read into another
pub read_more : (into part whole : List ℕ) (done n k : ℕ) → done + n ≤ length into → length part ≡ n → take done into ≡ take done whole
    → part ≡ take n (drop done whole) → take (done + n) (put_mid done k into part) ≡ take (done + n) whole
read_more into part whole done n k h l e f =
    let w : done ≤ length into = omega (arith, h) in
    take-put_mid done k into part (done + n) (omega (arith, l)) w
    ∙ ap (λ t. t ++ part) e ∙ ap (λ t. take done whole ++ t) f ∙ take_more whole done n

pub read_long : (into part : List ℕ) (done n k : ℕ) → done + n ≤ length into → length part ≡ n → k ≡ n
    → length (put_mid done k into part) ≡ length into
read_long into part done n k h l m =
    let w : done ≤ length into = omega (arith, h) in
    omega (
      arith,
      length-append (take done into) (part ++ post_of done k into),
      length-append part (post_of done k into),
      length-take-le done into w,
      length-drop k (drop done into),
      length-drop done into,
      l,
      m,
      h,
    )

-- ---- answers

pub on_err : {T E P : Type 0} (answer : Result T E) → P → OnErr answer P
on_err (Ok value) p = tt
on_err (Err error) p = p

-- pages that hold what others did are as whole as these
pub still_whole : (ps qs : Pages) (bytes : List ℕ) → AreWhole ps → HaveBytes ps bytes qs → AreWhole qs
still_whole ps qs bytes w k = record { each = k.each; few = omega (arith, k.many, w.few) }
