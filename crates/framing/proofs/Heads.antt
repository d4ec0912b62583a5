-- How a frame starts whose header part is made of fields.
use Rattle.framing.proofs.Common.{[], ap, append_assoc, arith, Begins, drop, end_of, Field, fields_in, HasFields, HasHeader, Head, header_of, le-leb, length, length-append, length-take-le, length_among, length_by, length_fields, length_or_fault, lines_of, List, number_in, Option, size_of, Some, start_at, start_by, subst, sym, take, take-append-drop, take_at, trimmed, ℕ, ◌++◌, ◌-◌, ◌∙◌, ◌∷◌, ◌≡◌, ◌≤◌}
use Rattle.framing.specs.Reading.{start_of}
use Rattle.framing.proofs.Digits.{number_from_says}
use Rattle.framing.proofs.Ends.{end_mark, end_room, mark_is, size_of_end}
use Rattle.framing.proofs.Fields.{text_of_fields, header_is, lines_are, fields_are, end_is, header_from_text}
use Rattle.framing.proofs.Readings.{size_of_is}

-- The header part that some bytes begin with is made of these fields: then it is read as these.
text_taken : (f : Field) (fs : List Field) (after : List ℕ)
    → take (length (header_of (f ∷ fs)) - 4) (header_of (f ∷ fs) ++ after) ≡ text_of_fields f fs
text_taken f fs after =
    let text = text_of_fields f fs in
    grind (arith, header_is f fs, append_assoc text end_mark after, length-append text end_mark, take_at text (end_mark ++ after))

pub parsed : (bytes : List ℕ) (fields : List Field) → HasFields bytes fields
    → (size_of bytes ≡ Some (length (header_of fields))) × (fields_in (lines_of (take (length (header_of fields) - 4) bytes)) ≡ Some fields)
parsed bytes [] h = absurd (omega (arith, end_room bytes 2 h.header.ends))
parsed bytes (f ∷ fs) h =
    let text = ap (take (length (header_of (f ∷ fs)) - 4)) h.header.whole ∙ text_taken f fs h.header.after in (
      size_of_end bytes (length (header_of (f ∷ fs))) h.header.ends h.header.short,
      ap (λ (t : List ℕ). fields_in (lines_of t)) text ∙ ap fields_in (lines_are f fs h.each) ∙ fields_are (f ∷ fs) h.each,
    )

pub read_fields : (limit : ℕ) (bytes : List ℕ) (fields : List Field) → HasFields bytes fields
    → start_of limit bytes ≡ start_by (length (header_of fields)) (length_among limit (length_fields fields))
unfolding start_of
read_fields limit bytes fields h =
    let p = parsed bytes fields h in
    ap (start_at limit bytes) p.0 ∙ ap (λ (o : Option (List Field)). start_by (length (header_of fields)) (length_by limit o)) p.1

pub read_once : (limit : ℕ) (bytes : List ℕ) (fields : List Field) (field : Field) → HasFields bytes fields
    → length_fields fields ≡ field ∷ []
    → start_of limit bytes ≡ start_by (length (header_of fields)) (length_or_fault limit (number_in (trimmed field.value)))
read_once limit bytes fields field h once =
    read_fields limit bytes fields h ∙ ap (λ (fs : List Field). start_by (length (header_of fields)) (length_among limit fs)) once

-- a header part before more bytes
head_fields : (limit : ℕ) (h : List ℕ) (n : ℕ) (more : List ℕ) → (head : Head limit h n) → HasFields (h ++ more) head.fields
head_fields limit h n more head = record {
  header = record {
    after = more;
    whole = ap (λ (x : List ℕ). x ++ more) head.spelled;
    ends = ap (λ (x : List ℕ). end_of (x ++ more)) head.spelled ∙ end_is head.fields head.field more head.each head.once;
    short = subst (λ (x : List ℕ). length x ≤ 4096) head.spelled head.short;
  };
  each = head.each;
}

pub head_starts : (limit : ℕ) (h : List ℕ) (n : ℕ) (more : List ℕ) → Head limit h n → start_of limit (h ++ more) ≡ Begins (length h) n
head_starts limit h n more head =
    read_once limit (h ++ more) head.fields head.field (head_fields limit h n more head) head.once
    ∙ ap (λ (o : Option ℕ). start_by (length (header_of head.fields)) (length_or_fault limit o))
    (number_from_says head.field.value n head.says)
    ∙ rw (le-leb n limit head.within) (ap (λ (x : List ℕ). Begins (length x) n) (sym head.spelled))

-- The other way: the header part that was found, and what its lines spell.
pub found_header : (bytes : List ℕ) (size : ℕ) → size_of bytes ≡ Some size → HasHeader bytes (take size bytes)
found_header bytes size h =
    let r = size_of_is bytes size h in
    let n : length (take size bytes) ≡ size = length-take-le size bytes (end_room bytes size r.0).1 in
    record { after = drop size bytes; whole = sym (take-append-drop size bytes); ends = rw n r.0; short = rw n r.1 }

pub spelled_is : (bytes : List ℕ) (size : ℕ) (fields : List Field) → end_of bytes ≡ Some size
    → fields_in (lines_of (take (size - 4) bytes)) ≡ Some fields → take size bytes ≡ header_of fields
spelled_is bytes size fields e h = sym (mark_is bytes size e) ∙ (header_from_text (take (size - 4) bytes) fields h).0
