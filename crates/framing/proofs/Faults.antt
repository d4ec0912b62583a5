-- How a frame starts, as a statement and as it is read: a whole header part, or the fault of a stream.
use Rattle.framing.proofs.Common.{[], ap, arith, BadLength, Begins, Breaks, cases_Bool, Err, Fault, Field, fields_in, FrameError, HasFields, HasHeader, Head, Header, header_of, HeaderTooLong, inl, inr, is_field, le-ltb, leb, leb-false, leb-true, length, length_among, length_by, length_fields, length_or_fault, lines_of, List, list_all, lt-leb, ltb, ltb-false, NoLength, NoMemory, None, number_in, Option, refl, SaysLength, size_of, Some, Start, start_at, start_by, subst, sym, take, take_at, TooLong, trimmed, true, TwoLengths, Waits, ℕ, ◌-◌, ◌<◌, ◌∙◌, ◌∷◌, ◌≡◌}
use Rattle.framing.specs.Reading.{start_of}
use Rattle.framing.proofs.Digits.{says_from_number, number_from_says}
use Rattle.framing.proofs.Ends.{end_long, no_size, size_of_end}
use Rattle.framing.proofs.Fields.{header_from_text}
use Rattle.framing.proofs.Heads.{found_header, parsed, read_fields, read_once, spelled_is}
use Rattle.framing.proofs.Readings.{size_of_is}

-- From the statement to the reading.
no_fields : (limit : ℕ) (bytes header : List ℕ) → HasHeader bytes header
    → ((fields : List Field) → list_all is_field fields ≡ true → header ≡ header_of fields → ⊥)
    → (o : Option (List Field)) → fields_in (lines_of (take (length header - 4) bytes)) ≡ o → length_by limit o ≡ Err Header
no_fields limit bytes header h none None e = refl
no_fields limit bytes header h none (Some fields) e =
    let taken : take (length header) bytes ≡ header = ap (take (length header)) h.whole ∙ take_at header h.after (length header) refl in
    absurd (none fields (header_from_text (take (length header - 4) bytes) fields e).1
    (sym taken ∙ spelled_is bytes (length header) fields h.ends e))

two_are : (limit : ℕ) (fields : List Field) → 1 < length fields → length_among limit fields ≡ Err TwoLengths
two_are limit fields h = grind arith

bad_is : (limit : ℕ) (value : List ℕ) → ((n : ℕ) → SaysLength value n → ⊥) → (o : Option ℕ) → number_in (trimmed value) ≡ o
    → length_or_fault limit o ≡ Err BadLength
bad_is limit value none None e = refl
bad_is limit value none (Some n) e = absurd (none n (says_from_number value n e))

pub fault_read : (limit : ℕ) (bytes : List ℕ) (fault : FrameError) → Fault limit bytes fault → start_of limit bytes ≡ Breaks fault
unfolding start_of
fault_read limit bytes Header h =
    ap (start_at limit bytes) (size_of_end bytes (length h.0) h.1.ends h.1.short)
    ∙ ap (start_by (length h.0)) (no_fields limit bytes h.0 h.1 h.2 (fields_in (lines_of (take (length h.0 - 4) bytes))) refl)
fault_read limit bytes NoLength h =
    read_fields limit bytes h.0 h.1 ∙ ap (λ (fs : List Field). start_by (length (header_of h.0)) (length_among limit fs)) h.2
fault_read limit bytes TwoLengths h =
    read_fields limit bytes h.0 h.1 ∙ ap (start_by (length (header_of h.0))) (two_are limit (length_fields h.0) h.2)
fault_read limit bytes BadLength h =
    read_once limit bytes h.0 h.1 h.2 h.3
    ∙ ap (start_by (length (header_of h.0))) (bad_is limit h.1.value h.4 (number_in (trimmed h.1.value)) refl)
fault_read limit bytes TooLong h =
    read_once limit bytes h.0 h.1 h.3 h.4
    ∙ ap (λ (o : Option ℕ). start_by (length (header_of h.0)) (length_or_fault limit o)) (number_from_says h.1.value h.2 h.5)
    ∙ rw (lt-leb h.2 limit h.6) refl
fault_read limit bytes HeaderTooLong h = ap (start_at limit bytes) (no_size bytes h.1) ∙ rw (le-ltb (length bytes) 4096 h.0) refl
fault_read limit bytes NoMemory h = absurd h

-- From the reading to the statement: what is so where a frame starts in this way.
abbrev Right : ℕ → List ℕ → Start → Type 0
Right limit bytes Waits = Unit {0}
Right limit bytes (Breaks fault) = Fault limit bytes fault
Right limit bytes (Begins size n) = Head limit (take size bytes) n

by_number : (limit : ℕ) (bytes : List ℕ) (size : ℕ) (fields : List Field) (field : Field) → take size bytes ≡ header_of fields
    → HasFields bytes fields → length_fields fields ≡ field ∷ [] → (o : Option ℕ) → number_in (trimmed field.value) ≡ o
    → Right limit bytes (start_by size (length_or_fault limit o))
by_number limit bytes size fields field spelled has once None e =
    (fields, field, has, once, λ n says. (let number = number_from_says field.value n says in cc))
by_number limit bytes size fields field spelled has once (Some n) e = elim (cases_Bool (leb n limit)) [
  | inl t ↦ rw t (record {
    fields = fields;
    field = field;
    spelled = spelled;
    each = has.each;
    short = rw spelled has.header.short;
    once = once;
    says = says_from_number field.value n e;
    within = leb-true n limit t;
  })
  | inr t ↦ rw t (fields, field, n, has, once, says_from_number field.value n e, leb-false n limit t)
]

by_among : (limit : ℕ) (bytes : List ℕ) (size : ℕ) (fields : List Field) → take size bytes ≡ header_of fields → HasFields bytes fields
    → (among : List Field) → length_fields fields ≡ among → Right limit bytes (start_by size (length_among limit among))
by_among limit bytes size fields spelled has [] e = (fields, has, e)
by_among limit bytes size fields spelled has (f ∷ []) e =
    by_number limit bytes size fields f spelled has e (number_in (trimmed f.value)) refl
by_among limit bytes size fields spelled has (f ∷ g ∷ more) e = (fields, has, rw e (omega arith))

by_fields : (limit : ℕ) (bytes : List ℕ) (size : ℕ) → size_of bytes ≡ Some size
    → (o : Option (List Field)) → fields_in (lines_of (take (size - 4) bytes)) ≡ o → Right limit bytes (start_by size (length_by limit o))
by_fields limit bytes size h (Some fields) e =
    let spelled = spelled_is bytes size fields (size_of_is bytes size h).0 e in
    by_among limit bytes size fields spelled (record {
      header = subst (HasHeader bytes) spelled (found_header bytes size h);
      each = (header_from_text (take (size - 4) bytes) fields e).1;
    }) (length_fields fields) refl
by_fields limit bytes size h None e =
    let header = found_header bytes size h in (
      take size bytes,
      header,
      λ fields each spelled.
          (let p = parsed bytes fields (record { header = subst (HasHeader bytes) spelled header; each = each }) in cc),
    )

by_size : (limit : ℕ) (bytes : List ℕ) (o : Option ℕ) → size_of bytes ≡ o → Right limit bytes (start_at limit bytes o)
by_size limit bytes (Some size) e = by_fields limit bytes size e (fields_in (lines_of (take (size - 4) bytes))) refl
by_size limit bytes None e = elim (cases_Bool (ltb (length bytes) 4096)) [
  | inl t ↦ rw t tt
  | inr t ↦ rw t (ltb-false (length bytes) 4096 t, λ size q. end_long bytes size e q)
]

start_right : (limit : ℕ) (bytes : List ℕ) → Right limit bytes (start_of limit bytes)
unfolding start_of
start_right limit bytes = by_size limit bytes (size_of bytes) refl

pub fault_from_start : (limit : ℕ) (bytes : List ℕ) (fault : FrameError) → start_of limit bytes ≡ Breaks fault → Fault limit bytes fault
fault_from_start limit bytes fault h = subst (Right limit bytes) h (start_right limit bytes)

pub head_from_start : (limit : ℕ) (bytes : List ℕ) (size n : ℕ) → start_of limit bytes ≡ Begins size n → Head limit (take size bytes) n
head_from_start limit bytes size n h = subst (Right limit bytes) h (start_right limit bytes)
