-- Where a header part ends: where CR LF CR LF stands.
use Rattle.framing.proofs.Common.{[], ap, arith, begins_with_end, cases_Bool, cases_lt, drop, drop-append-le, drop_more, end_of, EndsPast, eqb, get_or, inl, inr, length, length-drop, List, nat_tests, None, Option, option_map, refl, size_of, Some, suc, sym, take, take-add, true, zero, ℕ, ◌&&◌, ◌++◌, ◌+◌, ◌-◌, ◌<◌, ◌∙◌, ◌∷◌, ◌≡◌, ◌≤◌, ◌⊎◌}

abbrev pub end_mark : List ℕ
end_mark = 13 ∷ 10 ∷ 13 ∷ 10 ∷ []

-- CR LF CR LF, byte by byte
four : (a b c d : ℕ) → ((eqb a 13 && eqb b 10) && eqb c 13) && eqb d 10 ≡ true → (a ≡ 13) × (b ≡ 10) × (c ≡ 13) × (d ≡ 10)
four a b c d h = grind (arith, nat_tests)

begins_room : (bytes : List ℕ) → begins_with_end bytes ≡ true → 4 ≤ length bytes
begins_room bytes h = grind arith

begins_so : (bytes : List ℕ) → begins_with_end bytes ≡ true → take 4 bytes ≡ end_mark
begins_so bytes h = grind (arith, nat_tests)

begins-append : (a b : List ℕ) → 4 ≤ length a → begins_with_end (a ++ b) ≡ begins_with_end a
begins-append a b h = grind arith

some_suc : (o : Option ℕ) (size : ℕ) → option_map suc o ≡ Some size → (n : ℕ) × (o ≡ Some n) × (size ≡ suc n)
some_suc o size h = grind arith

-- where the first end is, CR LF CR LF stands
mark_at : (bytes : List ℕ) (size : ℕ) → end_of bytes ≡ Some size
    → (at : ℕ) × (size ≡ at + 4) × (begins_with_end (drop at bytes) ≡ true)
mark_at [] size h = cc
mark_at (b ∷ bytes) size h = elim (cases_Bool (begins_with_end (b ∷ bytes))) [
  | inl t ↦ (let e : Some 4 ≡ Some size = rw t at h in (0, cc, t))
  | inr t ↦
      let n = some_suc (end_of bytes) size (rw t at h) in
      let m = mark_at bytes n.0 n.1 in
      (suc m.0, omega (arith, n.2, m.1), m.2)
]

pub end_room : (bytes : List ℕ) (size : ℕ) → end_of bytes ≡ Some size → (4 ≤ size) × (size ≤ length bytes)
end_room bytes size e =
    let m = mark_at bytes size e in
    let room : 4 ≤ length bytes - m.0 = rw length-drop at (begins_room (drop m.0 bytes) m.2) in
    (omega (arith, m.1), omega (arith, m.1, room))

pub mark_is : (bytes : List ℕ) (size : ℕ) → end_of bytes ≡ Some size → take (size - 4) bytes ++ end_mark ≡ take size bytes
mark_is bytes size e =
    let m = mark_at bytes size e in
    let n : size - 4 ≡ m.0 = omega (arith, m.1) in
    ap (λ k. take k bytes ++ end_mark) n ∙ ap (λ (l : List ℕ). take m.0 bytes ++ l) (sym (begins_so (drop m.0 bytes) m.2))
    ∙ sym (take-add m.0 4 bytes) ∙ ap (λ k. take k bytes) (sym m.1)

-- where it stands, the first end is no later
end_by : (bytes : List ℕ) (at : ℕ) → begins_with_end (drop at bytes) ≡ true
    → (size : ℕ) × (end_of bytes ≡ Some size) × (size ≤ at + 4)
end_by [] at m = absurd (omega (arith, rw length-drop at (begins_room (drop at []) m)))
end_by (b ∷ bytes) zero m = (4, rw m refl, omega arith)
end_by (b ∷ bytes) (suc at) m =
    let r = end_by bytes at m in
    elim (cases_Bool (begins_with_end (b ∷ bytes))) [
      | inl t ↦ (4, rw t refl, omega arith)
      | inr t ↦ (suc r.0, rw t (ap (option_map suc) r.1), omega (arith, r.2))
    ]

-- more bytes after these: an end stays, and another is past them
keeps_next : (x : ℕ) (a b : List ℕ) (size : ℕ) → ((n : ℕ) → end_of a ≡ Some n → end_of (a ++ b) ≡ Some n)
    → end_of (x ∷ a) ≡ Some size → end_of (x ∷ (a ++ b)) ≡ Some size
keeps_next x a b size keeps h = grind (arith, begins-append (x ∷ a) b, begins_room (x ∷ a), end_room a)

pub end_keeps : (a b : List ℕ) (size : ℕ) → end_of a ≡ Some size → end_of (a ++ b) ≡ Some size
end_keeps [] b size h = cc
end_keeps (x ∷ a) b size h = keeps_next x a b size (end_keeps a b) h

pub end-append : (a b : List ℕ) (size : ℕ) → end_of (a ++ b) ≡ Some size → (end_of a ≡ Some size) ⊎ (length a < size)
end-append a b size e =
    let m = mark_at (a ++ b) size e in
    elim (cases_lt (length a) (m.0 + 4)) [
      | inl past ↦ inr (omega (arith, m.1, past))
      | inr within ↦
          let room : 4 ≤ length (drop m.0 a) = rw length-drop (omega (arith, within)) in
          let here : begins_with_end (drop m.0 a) ≡ true = sym (begins-append (drop m.0 a) b room)
          ∙ ap begins_with_end (sym (drop-append-le m.0 a b (omega (arith, within)))) ∙ m.2 in
          let k = end_by a m.0 here in
          inl (k.1 ∙ sym (end_keeps a b k.0 k.1) ∙ e)
    ]

-- the size of a header part, or none where no end is among the first 4,096 bytes
pub size_of_end : (bytes : List ℕ) (size : ℕ) → end_of bytes ≡ Some size → size ≤ 4096 → size_of bytes ≡ Some size
size_of_end bytes size e small = grind (arith, nat_tests)

pub no_size : (bytes : List ℕ) → ((size : ℕ) → end_of bytes ≡ Some size → 4096 < size) → size_of bytes ≡ None
no_size bytes past = grind (arith, nat_tests)

pub end_long : (bytes : List ℕ) (size : ℕ) → size_of bytes ≡ None → end_of bytes ≡ Some size → 4096 < size
end_long bytes size none e = grind (arith, nat_tests)

-- the search: no end is found at i, none is found at all, or one ends at i
pub past_start : (bytes : List ℕ) (i searched : ℕ) → EndsPast searched bytes → (i ≤ 3) ⊎ (i ≤ searched) → EndsPast i bytes
past_start bytes i searched past h size e = omega (arith, end_room bytes size e, past size e, h)

pub past_more : (bytes : List ℕ) (i : ℕ) → EndsPast i bytes → (begins_with_end (drop (i - 3) bytes) ≡ true → ⊥) → EndsPast (i + 1) bytes
past_more bytes i past none size e = grind (arith, mark_at bytes size e, past size e)

pub size_here : (bytes : List ℕ) (i : ℕ) → EndsPast i bytes → 3 ≤ i → i < 4096 → begins_with_end (drop (i - 3) bytes) ≡ true
    → size_of bytes ≡ Some (i + 1)
size_here bytes i past from small m = grind (arith, nat_tests, end_by bytes (i - 3) m)

pub size_nowhere : (bytes : List ℕ) (i : ℕ) → EndsPast i bytes → (4096 ≤ i) ⊎ (length bytes ≤ i) → size_of bytes ≡ None
size_nowhere bytes i past h = grind (arith, nat_tests, end_room bytes)

-- the bytes round i, as the code reads them
pub next_byte : (bytes : List ℕ) (i j : ℕ) → j ≡ i + 1 → i < length bytes → drop i bytes ≡ get_or bytes i 0 ∷ drop j bytes
next_byte bytes i j e l = rw e (drop_more bytes i 0 l)

pub mark_read : (bytes : List ℕ) (i : ℕ) → 3 ≤ i → i < length bytes
    → begins_with_end (drop (i - 3) bytes) ≡ (((eqb (get_or bytes (i - 3) 0) 13 && eqb (get_or bytes (i - 2) 0) 10)
    && eqb (get_or bytes (i - 1) 0) 13) && eqb (get_or bytes i 0) 10)
mark_read bytes i from room =
    grind (arith, next_byte bytes (i - 3) (i - 2), next_byte bytes (i - 2) (i - 1), next_byte bytes (i - 1) i, next_byte bytes i (i + 1))

pub mark_bytes : (bytes : List ℕ) (i : ℕ) → 3 ≤ i → i < length bytes → begins_with_end (drop (i - 3) bytes) ≡ true
    → (get_or bytes (i - 3) 0 ≡ 13) × (get_or bytes (i - 2) 0 ≡ 10) × (get_or bytes (i - 1) 0 ≡ 13) × (get_or bytes i 0 ≡ 10)
mark_bytes bytes i from room m = four _ _ _ _ (sym (mark_read bytes i from room) ∙ m)

-- no header part ends among no bytes
pub past_nothing : (bytes : List ℕ) → EndsPast 0 bytes
past_nothing bytes size e = omega (arith, end_room bytes size e)
