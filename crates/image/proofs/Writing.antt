-- What is written to pages.
use Rattle.image.proofs.Common.{[], ap, ArePages, AreWhole, arith, drop, Err, fault_at, flat, get_or, Global, inr, IsBlank, IsPage, length, length-append, length-drop, length-set, length-take-le, List, memory_after, NeedsPage, None, Ok, page_bytes, put, refl, set-get_or, slice_get, slice_set, Some, subst, suc, sym, take, unless_fault, Vec, with_bytes, WritesOrLacks, ℕ, ◌%◌, ◌*◌, ◌++◌, ◌+◌, ◌-◌, ◌<◌, ◌∙◌, ◌∷◌, ◌≡◌, ◌≤◌}
use Rattle.image.specs.declared.fault.MemFault.TheVariants.{Outside}
use Rattle.image.proofs.Flat.{Pages, flat_set, page_at, page_length, pages_set, zero_at}
use Rattle.image.proofs.Places.{Lies}
use Rattle.image.proofs.Reading.{byte_inside, no_fault_in_page}

pub put_length : (l b : List ℕ) (k : ℕ) → k + length b ≤ length l → length (put l k b) ≡ length l
put_length l b k h =
    let w : k ≤ length l = omega (arith, h) in
    omega (
      arith,
      length-append (take k l ++ b) (drop (k + length b) l),
      length-append (take k l) b,
      length-take-le k l w,
      length-drop
          (k + length b) l,
      h,
    )

-- a page with other bytes
pub new_length : (p q b : List ℕ) (o : ℕ) → IsPage p → o + length b ≤ 4096 → q ≡ put (page_bytes p) o b → length q ≡ 4096
new_length p q b o is h e =
    let all : length (page_bytes p) ≡ 4096 = page_length p is in
    let w : o + length b ≤ length (page_bytes p) = omega (arith, all, h) in
    ap length e ∙ put_length (page_bytes p) b o w ∙ all

same_bytes : (q : List ℕ) (n : ℕ) → length q ≡ suc n → page_bytes q ≡ q
same_bytes [] n e = absurd (omega (arith, e))
same_bytes (x ∷ q) n e = refl

pub made_bytes : (q : List ℕ) → length q ≡ 4096 → page_bytes q ≡ q
made_bytes q e = same_bytes q 4095 e

pub whole_set : (ps : Pages) (i : ℕ) (q : Vec ℕ Global) → AreWhole ps → length q.items ≡ 4096 → AreWhole (slice_set ps i q)
whole_set ps i q w e = record { each = pages_set ps i q w.each (inr e); few = omega (arith, w.few, length-set ps i q) }

-- bytes put into one page
pub set_in_page : (ps : Pages) (index offset : ℕ) (b : List ℕ) (p q : Vec ℕ Global) → ArePages ps → index < length ps
    → offset + length b ≤ 4096
    → p ≡ get_or ps index p → q.items ≡ put (page_bytes p.items) offset b → length q.items ≡ 4096
    → flat (slice_set ps index q) ≡ put (flat ps) (4096 * index + offset) b
set_in_page ps index offset b p q each h fits at e n =
    let is : page_bytes q.items ≡ put (page_bytes (get_or ps index p).items) offset b =
    made_bytes q.items n ∙ e ∙ ap (λ (v : Vec ℕ Global). put (page_bytes v.items) offset b) at in
    flat_set ps index offset b p q each h fits is

pub put_back : (ps : Pages) (i : ℕ) (p q : Vec ℕ Global) → p ≡ get_or ps i p → q ≡ p → slice_set ps i q ≡ ps
put_back ps i p q at e = ap (slice_set ps i) (e ∙ at) ∙ set-get_or ps i p

-- ---- an answer, and what it leaves

pub faults : (m : List ℕ) (aligned addr : ℕ) (b : List ℕ) → fault_at m aligned addr (length b) ≡ Some Outside
    → WritesOrLacks aligned m addr b (Err Outside) m
faults m aligned addr b f = record {
  answers = sym (ap (λ x. unless_fault x (tt {0})) f);
  leaves = sym (ap (λ x. memory_after x (with_bytes m addr b) m) f);
}

pub wrote : (m after : List ℕ) (aligned addr : ℕ) (b : List ℕ) → fault_at m aligned addr (length b) ≡ None → after ≡ with_bytes m addr b
    → WritesOrLacks aligned m addr b (Ok tt) after
wrote m after aligned addr b f e = record {
  answers = sym (ap (λ x. unless_fault x (tt {0})) f);
  leaves = e ∙ sym (ap (λ x. memory_after x (with_bytes m addr b) m) f);
}

-- a page that was not made
pub blank : (ps : Pages) (addr index offset : ℕ) (p : Vec ℕ Global) → AreWhole ps → Lies addr index offset → index < length ps
    → p ≡ get_or ps index p → p.items ≡ [] → IsBlank (flat ps) addr
blank ps addr index offset p w l h at none other same =
    let low : 65536 ≤ other = omega (arith, l.low, l.place, l.within, same) in
    let o : ℕ = other - 65536 - 4096 * index in
    let place : other - 65536 ≡ 4096 * index + (other - 65536 - 4096 * index) = omega (arith, l.low, l.place, l.within, same) in
    let within : other - 65536 - 4096 * index < 4096 = omega (arith, l.low, l.place, l.within, same) in
    let lo : Lies other index (other - 65536 - 4096 * index) = record { low = low; place = place; within = within } in
    byte_inside ps other index (other - 65536 - 4096 * index) p w lo h
    ∙ ap (λ (v : Vec ℕ Global). slice_get (page_bytes v.items) (other - 65536 - 4096 * index)) (sym at)
    ∙ ap (λ b. slice_get (page_bytes b) (other - 65536 - 4096 * index)) none
    ∙ zero_at (other - 65536 - 4096 * index) within

-- ---- within one page

pub in_page : (addr index offset n : ℕ) → Lies addr index offset → addr % 4096 + n ≤ 4096 → offset + n ≤ 4096
in_page addr index offset n l h = omega (arith, l.low, l.place, l.within, h)

pub lacks_in_page : (ps : Pages) (addr index offset aligned n : ℕ) (p : Vec ℕ Global) → AreWhole ps → Lies addr index offset
    → index < length ps
    → 1 ≤ n → addr % 4096 + n ≤ 4096 → addr % aligned ≡ 0 → p ≡ get_or ps index p → p.items ≡ [] → NeedsPage aligned (flat ps) addr n
lacks_in_page ps addr index offset aligned n p w l h some within a at none = record {
  no_fault = no_fault_in_page ps addr index offset aligned n w l h some (in_page addr index offset n l within) a;
  at = addr;
  from = omega arith;
  below = omega (arith, some);
  blank = blank ps addr index offset p w l h at none;
}

pub wrote_in_page : (ps : Pages) (addr index offset aligned : ℕ) (b : List ℕ) (p q : Vec ℕ Global) → AreWhole ps → Lies addr index offset
    → index < length ps
    → 1 ≤ length b → addr % 4096 + length b ≤ 4096 → addr % aligned ≡ 0 → p ≡ get_or ps index p
    → q.items ≡ put (page_bytes p.items) offset b
    → WritesOrLacks aligned (flat ps) addr b (Ok tt) (flat (slice_set ps index q))
wrote_in_page ps addr index offset aligned b p q w l h some within a at e =
    let fits = in_page addr index offset (length b) l within in
    let is : IsPage p.items = subst (λ (v : Vec ℕ Global). IsPage v.items) (sym at) (page_at ps index p w.each h) in
    let n = new_length p.items q.items b offset is fits e in
    let set = set_in_page ps index offset b p q w.each h fits at e n in
    wrote (flat ps) (flat (slice_set ps index q)) aligned addr b
    (no_fault_in_page ps addr index offset aligned (length b) w l h some fits a)
    (set ∙ ap (λ k. put (flat ps) k b) (sym l.place))
