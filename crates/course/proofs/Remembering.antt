-- Words that are remembered.
use Rattle.course.proofs.Common.{[], ap, AreKnown, arith, Bool, Decides, Decides-eqb, elsewhere, Entry, eqb, Err, false, fault_at, forgotten, get_or, get_or-set_other, get_or-set_same, get_or_default, inl, inr, Knows, length, length-set, List, ltb, MemFault, memory_after, Misaligned, nat_tests, NoMemory, None, not_from_Decides, nothing_at, Ok, Option, Outside, place_of, refl, slice_set, Some, Spares, subst, sym, true, unless_fault, with_bytes, WritesOrLacks, ℕ, ◌%◌, ◌*◌, ◌+◌, ◌/◌, ◌<◌, ◌∙◌, ◌∷◌, ◌≡◌, ◌≢◌, ◌≤◌, ◌⊎◌}
use Rattle.course.proofs.Others.{aligned_there, fetched, lies_there, no_bytes, other_word}

-- ---- places

-- an address of the next place is none of this one
not_elsewhere : (k : ℕ) → k < 16384 → place_of (elsewhere k) ≢ k
not_elsewhere k h e = omega (arith, h, e)

-- ---- what is known

pub known_none : (m : List ℕ) (from to : ℕ) → AreKnown m from to []
known_none m from to = record { knows = λ k d h. absurd (omega (arith, h)); spares = λ k d h. absurd (omega (arith, h)) }

spares_none : (from at : ℕ) → Spares from from at
spares_none from at = by (ltb at from) refl where
  by : (b : Bool) → ltb at from ≡ b → Spares from from at
  by true e = inl (grind (arith, nat_tests))
  by false e = inr (grind (arith, nat_tests))

-- of no address is a word forgotten
pub known_from : (m : List ℕ) (from to at : ℕ) (es : List Entry) → AreKnown m from to es → AreKnown m at at es
known_from m from to at es c = record { knows = c.knows; spares = λ k d h p. spares_none at (get_or es k d).pc }

-- the entry of an address that names it
pub knows_of : (m : List ℕ) (at : ℕ) (es : List Entry) (e : Entry) → AreKnown m 0 0 es → place_of at < length es
    → e ≡ get_or es (place_of at) e → e.pc ≡ at → Knows m e
knows_of m at es e c fits is named =
    subst (λ (x : Entry). Knows m x) (sym is)
    (c.knows (place_of at) e fits (ap (λ (x : Entry). place_of x.pc) (sym is) ∙ ap place_of named))

-- of fewer addresses
pub known_fewer : (m : List ℕ) (from to less : ℕ) (es : List Entry) → AreKnown m from to es → less ≤ to → AreKnown m from less es
known_fewer m from to less es c h = record { knows = c.knows; spares = λ k d l p. by (get_or es k d).pc (c.spares k d l p) } where
  by : (at : ℕ) → Spares from to at → Spares from less at
  by at (inl below) = inl below
  by at (inr above) = inr (omega (arith, above, h))

-- ---- a word is forgotten

-- the words after it are others
spares_more : (m : List ℕ) (from at : ℕ) (e : Entry) → Knows m e → at % 4 ≡ 0 → Spares from at e.pc → e.pc ≢ at → Spares from (at + 4) e.pc
spares_more m from at e n al (inl below) differs = inl below
spares_more m from at e n al (inr above) differs =
    let al_e : e.pc % 4 ≡ 0 = aligned_there m 4 e.pc 4 (fetched m e.pc n.word n.there) in
    inr (omega (arith, al, al_e, above, differs))

-- each entry that is kept is of another address
known_more : (m : List ℕ) (from at : ℕ) (es kept : List Entry) → AreKnown m from at es → at % 4 ≡ 0
    → ((k : ℕ) (d : Entry) → k < length kept → place_of (get_or kept k d).pc ≡ k
    → (k < length es) × ((get_or kept k d ≡ get_or es k d) × ((get_or kept k d).pc ≢ at)))
    → AreKnown m from (at + 4) kept
known_more m from at es kept c al others = record {
  knows = λ k d h p. (let o = others k d h p in
      subst (λ (x : Entry). Knows m x) (sym o.1.0) (c.knows k d o.0 (ap (λ (x : Entry). place_of x.pc) (sym o.1.0) ∙ p)));
  spares =
      λ k d h p. (let o = others k d h p in let q : place_of (get_or es k d).pc ≡ k = ap (λ (x : Entry). place_of x.pc) (sym o.1.0) ∙ p in
      spares_more m from at (get_or kept k d) (subst (λ (x : Entry). Knows m x) (sym o.1.0) (c.knows k d o.0 q)) al
      (subst (λ (x : Entry). Spares from at x.pc) (sym o.1.0) (c.spares k d o.0 q)) o.1.1);
}

pub known_forgotten : (m : List ℕ) (from at : ℕ) (es : List Entry) → AreKnown m from at es → at % 4 ≡ 0
    → AreKnown m from (at + 4) (forgotten at es)
known_forgotten m from at es c al = by (ltb place (length es)) refl (eqb was.pc at) refl where
  place : ℕ
  place = place_of at

  was : Entry
  was = get_or es place (nothing_at 0)

  now : Entry
  now = record was { pc = elsewhere place }

  by : (s : Bool) → ltb place (length es) ≡ s → (t : Bool) → eqb was.pc at ≡ t → AreKnown m from (at + 4) (forgotten at es)
  by false e t f = rw e (known_more m from at es es c al (λ k d h p. (
    h,
    (
      refl,
      λ q. absurd (
          let more : length es ≤ place = grind (arith, nat_tests) in
          let same : place ≡ k = ap place_of (sym q) ∙ p in
          omega (arith, more, same, h)),
    ),
  )))
  by true e false f = rw (e, f) (known_more m from at es es c al (λ k d h p. (
    h,
    (
      refl,
      λ q. absurd (
          let less : place < length es = grind (arith, nat_tests) in
          let same : k ≡ place = sym p ∙ ap place_of q in
          let is : was ≡ get_or es k d = get_or_default es place (nothing_at 0) d less ∙ ap (λ j. get_or es j d) (sym same) in
          let named : was.pc ≡ at = ap (λ (x : Entry). x.pc) is ∙ q in
          let yes : eqb was.pc at ≡ true = grind (arith, nat_tests) in
          let never : true ≡ false = sym yes ∙ f in cc),
    ),
  )))
  by true e true f =
      rw (e, f) (known_more m from at es (slice_set es place now) c al
      (λ k d h p. others k d h p (eqb k place) (Decides-eqb k place))) where
        others : (k : ℕ) (d : Entry) → k < length (slice_set es place now) → place_of (get_or (slice_set es place now) k d).pc ≡ k
            → (b : Bool) → Decides b (k ≡ place)
            → (k < length es) × ((get_or (slice_set es place now) k d ≡ get_or es k d) × ((get_or (slice_set es place now) k d).pc ≢ at))
        others k d h p true same = absurd (
            let is : k ≡ place = same.0 refl in
            let less : place < length es = grind (arith, nat_tests) in
            let here : get_or (slice_set es place now) k d ≡ now = ap (λ j. get_or (slice_set es place now) j d) is
            ∙ get_or-set_same es place now d less in
            let small : place < 16384 = omega arith in
            not_elsewhere place small (ap (λ (x : Entry). place_of x.pc) (sym here) ∙ p ∙ is))
        others k d h p false other =
            let differs = not_from_Decides false other refl in
            let less : k < length es = omega (arith, h, length-set es place now) in
            (less, (get_or-set_other es place k now d differs, λ q. differs (sym p ∙ ap place_of q)))

-- ---- bytes are written

-- where none of the words that they touch is remembered
pub known_written : (m : List ℕ) (al at from to : ℕ) (bytes : List ℕ) (es : List Entry) → AreKnown m from to es
    → fault_at m al at (length bytes) ≡ None → from ≤ at → at + length bytes ≤ to → 1 ≤ length bytes → from % 4 ≡ 0
    → AreKnown (with_bytes m at bytes) 0 0 es
known_written m al at from to bytes es c none low high some whole = record {
  knows = λ k d h p. still (get_or es k d) (c.knows k d h p) (c.spares k d h p);
  spares = λ k d h p. spares_none 0 (get_or es k d).pc;
} where
  still : (e : Entry) → Knows m e → Spares from to e.pc → Knows (with_bytes m at bytes) e
  still e n s = record {
    word = n.word;
    there = other_word m at bytes e.pc n.word (lies_there m al at (length bytes) some none) n.there (apart s);
    encodes = n.encodes;
    plain = n.plain;
    stores = n.stores;
    pops = n.pops;
    pushes = n.pushes;
    deed_is = n.deed_is;
  } where
    al_e : e.pc % 4 ≡ 0
    al_e = aligned_there m 4 e.pc 4 (fetched m e.pc n.word n.there)

    apart : Spares from to e.pc → (e.pc + 4 ≤ at) ⊎ (at + length bytes ≤ e.pc)
    apart (inl below) = inl (omega (arith, below, low, al_e, whole))
    apart (inr above) = inr (omega (arith, above, high))

-- the same where no bytes are written
pub known_write : (m : List ℕ) (al at : ℕ) (bytes : List ℕ) (es : List Entry) → AreKnown m (at / 4 * 4) (at + length bytes) es
    → fault_at m al at (length bytes) ≡ None → AreKnown (with_bytes m at bytes) 0 0 es
known_write m al at [] es c none = subst (λ (l : List ℕ). AreKnown l 0 0 es) (sym (no_bytes m at)) (known_from m _ _ 0 es c)
known_write m al at (b ∷ bs) es c none =
    let low : at / 4 * 4 ≤ at = omega arith in
    let high : at + length (b ∷ bs) ≤ at + length (b ∷ bs) = omega arith in
    let some : 1 ≤ length (b ∷ bs) = omega arith in
    let whole : at / 4 * 4 % 4 ≡ 0 = omega arith in
    known_written m al at (at / 4 * 4) (at + length (b ∷ bs)) (b ∷ bs) es c none low high some whole

-- ---- what a write answers

-- it was written
pub written : (al : ℕ) (before : List ℕ) (at : ℕ) (bytes after : List ℕ) → WritesOrLacks al before at bytes (Ok (tt {0})) after
    → (fault_at before al at (length bytes) ≡ None) × (after ≡ with_bytes before at bytes)
written al before at bytes after w = by (fault_at before al at (length bytes)) w.answers w.leaves where
  by : (f : Option MemFault) → Ok (tt {0}) ≡ unless_fault f (tt {0}) → after ≡ memory_after f (with_bytes before at bytes) before
      → (f ≡ None) × (after ≡ with_bytes before at bytes)
  by None e h = (refl, h)
  by (Some fault) e h = absurd (cc)

-- or nothing was
pub unwritten : (al : ℕ) (before : List ℕ) (at : ℕ) (bytes : List ℕ) (fault : MemFault) (after : List ℕ)
    → WritesOrLacks al before at bytes (Err fault) after → after ≡ before
unwritten al before at bytes fault after w = by fault w where
  plain : (f : Option MemFault) (x : MemFault) → Err x ≡ unless_fault f (tt {0})
      → after ≡ memory_after f (with_bytes before at bytes) before
      → after ≡ before
  plain None x e h = absurd (cc)
  plain (Some y) x e h = h

  by : (x : MemFault) → WritesOrLacks al before at bytes (Err x) after → after ≡ before
  by Misaligned w = plain (fault_at before al at (length bytes)) Misaligned w.answers w.leaves
  by Outside w = plain (fault_at before al at (length bytes)) Outside w.answers w.leaves
  by NoMemory w = w.1
