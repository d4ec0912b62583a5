-- Pages one after the other, as one list of bytes.
use Rattle.image.proofs.Common.{[], ap, append-nil, append_assoc, AreBlank, ArePages, arith, drop, drop-append-le, flat, get_or, Global, inl, inr, IsPage, length, length-append, length-drop, length-replicate, length_push, List, page_bytes, put, refl, replicate, replicate-append-replicate, slice_get, slice_set, suc, sym, take, take-append-le, Vec, zero, ℕ, ◌*◌, ◌++◌, ◌+◌, ◌<◌, ◌∙◌, ◌∷◌, ◌≡◌, ◌≤◌}
use Rattle.std.specs.Prelude.{None, Some}
use Rattle.image.proofs.Maps.{copy_at, get_first, get_later}
use Rattle.image.specs.Private.Pages.{zeros}

abbrev pub Pages : Type 0
Pages = List (Vec ℕ Global)

zeros_length : length zeros ≡ 4096
unfolding zeros
zeros_length = length-replicate {A = ℕ} 4096 0

pub page_length : (p : List ℕ) → IsPage p → length (page_bytes p) ≡ 4096
page_length [] is = zeros_length
page_length (b ∷ bs) (inl h) = absurd (omega (arith, h))
page_length (b ∷ bs) (inr h) = h

pub flat_length : (ps : Pages) → ArePages ps → length (flat ps) ≡ 4096 * length ps
flat_length [] each = refl
flat_length (p ∷ ps) each =
    let one = page_length p.items each.0 in
    let rest = flat_length ps each.1 in
    omega (arith, length-append (page_bytes p.items) (flat ps), one, rest)

pub page_at : (ps : Pages) (i : ℕ) (d : Vec ℕ Global) → ArePages ps → i < length ps → IsPage (get_or ps i d).items
page_at [] i d each h = absurd (omega arith)
page_at (p ∷ ps) zero d each h = each.0
page_at (p ∷ ps) (suc i) d each h = page_at ps i d each.1 (omega arith)

-- a list of this length is dropped, and `k` bytes of the list after it
skip : (a b : List ℕ) (k : ℕ) → drop (length a + k) (a ++ b) ≡ drop k b
skip [] b k = let e : 0 + k ≡ k = omega arith in ap (λ j. drop j b) e
skip (x ∷ a) b k = let e : suc (length a) + k ≡ suc (length a + k) = omega arith in rw e (skip a b k)

-- bytes within one page
pub part : (ps : Pages) (i o n : ℕ) (d : Vec ℕ Global) → ArePages ps → i < length ps → o + n ≤ 4096
    → take n (drop (4096 * i + o) (flat ps)) ≡ take n (drop o (page_bytes (get_or ps i d).items))
part [] i o n d each h w = absurd (omega arith)
part (p ∷ ps) zero o n d each h w =
    let one : length (page_bytes p.items) ≡ 4096 = page_length p.items each.0 in
    let e : 4096 * 0 + o ≡ o = omega arith in
    let b : o ≤ length (page_bytes p.items) = omega (arith, one, w) in
    let l : n ≤ length (drop o (page_bytes p.items)) = omega (arith, one, w, length-drop o (page_bytes p.items)) in
    ap (λ k. take n (drop k (page_bytes p.items ++ flat ps))) e
    ∙ ap (take n) (drop-append-le o (page_bytes p.items) (flat ps) b)
    ∙ take-append-le n (drop o (page_bytes p.items)) (flat ps) l
part (p ∷ ps) (suc i) o n d each h w =
    let one : length (page_bytes p.items) ≡ 4096 = page_length p.items each.0 in
    let e : 4096 * suc i + o ≡ length (page_bytes p.items) + (4096 * i + o) = omega (arith, one) in
    ap (λ k. take n (drop k (page_bytes p.items ++ flat ps))) e
    ∙ ap (take n) (skip (page_bytes p.items) (flat ps) (4096 * i + o))
    ∙ part ps i o n d each.1 (omega arith) w

put_first : (a b l : List ℕ) (k : ℕ) → k + length b ≤ length a → put a k b ++ l ≡ put (a ++ l) k b
put_first a b l k h =
    let w : k ≤ length a = omega (arith, h) in
    rw (take-append-le k a l w, drop-append-le (k + length b) a l h) (append_assoc (take k a ++ b) (drop (k + length b) a) l)

put_later : (a b l : List ℕ) (k : ℕ) → a ++ put l k b ≡ put (a ++ l) (length a + k) b
put_later [] b l k = let e : k ≡ 0 + k = omega arith in ap (λ j. put l j b) e
put_later (x ∷ a) b l k =
    let e : suc (length a) + k ≡ suc (length a + k) = omega arith in
    let f : suc (length a + k) + length b ≡ suc (length a + k + length b) = omega arith in
    let g : put (x ∷ (a ++ l)) (suc (length a + k)) b ≡ x ∷ put (a ++ l) (length a + k) b = ap
    (λ j. take (suc (length a + k)) (x ∷ (a ++ l)) ++ b ++ drop j (x ∷ (a ++ l))) f in
    ap (λ t. x ∷ t) (put_later a b l k) ∙ sym g ∙ ap (λ j. put (x ∷ (a ++ l)) j b) (sym e)

-- one page with other bytes
pub flat_set : (ps : Pages) (i o : ℕ) (b : List ℕ) (d q : Vec ℕ Global) → ArePages ps → i < length ps → o + length b ≤ 4096
    → page_bytes q.items ≡ put (page_bytes (get_or ps i d).items) o b
    → flat (slice_set ps i q) ≡ put (flat ps) (4096 * i + o) b
flat_set [] i o b d q each h w e = absurd (omega arith)
flat_set (p ∷ ps) zero o b d q each h w e =
    let one : length (page_bytes p.items) ≡ 4096 = page_length p.items each.0 in
    let z : 4096 * 0 + o ≡ o = omega arith in
    let fits : o + length b ≤ length (page_bytes p.items) = omega (arith, one, w) in
    ap (λ t. t ++ flat ps) e ∙ put_first (page_bytes p.items) b (flat ps) o fits ∙ ap (λ k. put (page_bytes p.items ++ flat ps) k b) (sym z)
flat_set (p ∷ ps) (suc i) o b d q each h w e =
    let one : length (page_bytes p.items) ≡ 4096 = page_length p.items each.0 in
    let z : length (page_bytes p.items) + (4096 * i + o) ≡ 4096 * suc i + o = omega (arith, one) in
    ap (λ t. page_bytes p.items ++ t) (flat_set ps i o b d q each.1 (omega arith) w e)
    ∙ put_later (page_bytes p.items) b (flat ps) (4096 * i + o)
    ∙ ap (λ k. put (page_bytes p.items ++ flat ps) k b) z

pub pages_set : (ps : Pages) (i : ℕ) (q : Vec ℕ Global) → ArePages ps → IsPage q.items → ArePages (slice_set ps i q)
pages_set [] i q each is = each
pages_set (p ∷ ps) zero q each is = (is, each.1)
pages_set (p ∷ ps) (suc i) q each is = (each.0, pages_set ps i q each.1 is)

-- ---- pages that are not made

pub flat_push : (ps : Pages) (p : Vec ℕ Global) → flat (ps ++ p ∷ []) ≡ flat ps ++ page_bytes p.items
flat_push [] p = append-nil (page_bytes p.items)
flat_push (q ∷ ps) p =
    ap (λ t. page_bytes q.items ++ t) (flat_push ps p) ∙ sym (append_assoc (page_bytes q.items) (flat ps) (page_bytes p.items))

pub each_push : (ps : Pages) (p : Vec ℕ Global) → ArePages ps → IsPage p.items → ArePages (ps ++ p ∷ [])
each_push [] p each is = (is, tt)
each_push (q ∷ ps) p each is = (each.0, each_push ps p each.1 is)

pub none_blank : (ps : Pages) → ps ≡ [] → AreBlank ps 0
none_blank [] e = record { each = tt; many = refl; bytes = refl }
none_blank (p ∷ ps) e = absurd (cc)

pub more_blank : (ps qs : Pages) (p : Vec ℕ Global) (count : ℕ) → AreBlank ps count → qs ≡ ps ++ p ∷ [] → p.items ≡ []
    → AreBlank qs (count + 1)
unfolding zeros
more_blank ps qs p count b e none =
    let zero_one : page_bytes p.items ≡ replicate 4096 0 = ap page_bytes none in
    let sum : 4096 * count + 4096 ≡ 4096 * (count + 1) = omega arith in
    record {
      each = rw e (each_push ps p b.each (inl (ap length none)));
      many = ap length e ∙ length_push ps p ∙ ap (λ n. n + 1) b.many;
      bytes = ap flat e ∙ flat_push ps p ∙ ap (λ t. t ++ page_bytes p.items) b.bytes ∙ ap (λ t. replicate (4096 * count) 0 ++ t) zero_one
          ∙ replicate-append-replicate {A = ℕ} (4096 * count) 4096 0 ∙ ap (λ n. replicate n 0) sum;
    }

-- ---- one byte

pub one : (ps : Pages) (i o : ℕ) (d : Vec ℕ Global) → ArePages ps → i < length ps → o < 4096
    → slice_get (flat ps) (4096 * i + o) ≡ slice_get (page_bytes (get_or ps i d).items) o
one [] i o d each h w = absurd (omega arith)
one (p ∷ ps) zero o d each h w =
    let all : length (page_bytes p.items) ≡ 4096 = page_length p.items each.0 in
    let e : 4096 * 0 + o ≡ o = omega arith in
    let b : o < length (page_bytes p.items) = omega (arith, all, w) in
    ap (slice_get (page_bytes p.items ++ flat ps)) e ∙ get_first (page_bytes p.items) (flat ps) o b
one (p ∷ ps) (suc i) o d each h w =
    let all : length (page_bytes p.items) ≡ 4096 = page_length p.items each.0 in
    let e : 4096 * suc i + o ≡ length (page_bytes p.items) + (4096 * i + o) = omega (arith, all) in
    ap (slice_get (page_bytes p.items ++ flat ps)) e
    ∙ get_later (page_bytes p.items) (flat ps) (4096 * i + o) (length (page_bytes p.items) + (4096 * i + o)) refl
    ∙ one ps i o d each.1 (omega arith) w

pub none_past : (l : List ℕ) (k : ℕ) → length l ≤ k → slice_get l k ≡ None
none_past [] k h = refl
none_past (x ∷ l) zero h = absurd (omega arith)
none_past (x ∷ l) (suc k) h = none_past l k (omega arith)

pub get_there : (l : List ℕ) (k d : ℕ) → k < length l → slice_get l k ≡ Some (get_or l k d)
get_there [] k d h = absurd (omega arith)
get_there (x ∷ l) zero d h = refl
get_there (x ∷ l) (suc k) d h = get_there l k d (omega arith)

pub zero_at : (k : ℕ) → k < 4096 → slice_get zeros k ≡ Some 0
unfolding zeros
zero_at k h = copy_at 0 4096 k h
