-- Each line in error is told.
use Rattle.diagnostics.proofs.Common.{[], All, All-head, All-tail, ap, append-nil, append_assoc, arith, AsmError, AsmErrorKind, at, Bool, bytes_eq, cond, Contains, Contains-append_left, Contains-append_right, Contains-push, content_at, content_errors, defines_twice, EachIsTold, end_of, end_of_line, Err, error_if, error_in, errors_by, errors_read, false, first_address, if◌then◌else◌, is_aligned, is_some, Label, labels_at, labels_in, length, Line, line_then, LineError, lines, List, listed, map, memory_limit, misplaced_at, misplaced_so, named, nat_le, next_address, None, not, of_line, Ok, Option, or_next, Place, place, place_errors, placed, places, program_errors, read, read_by, read_lines, reading_errors, refl, Result, Some, Source, stands, subst, sym, true, unread, unwrap_or, value_in, whole_error, with_label, with_labels, wrong_in, ℕ, ◌%◌, ◌&&◌, ◌++◌, ◌+◌, ◌==◌, ◌||◌, ◌∙◌, ◌∷◌, ◌≡◌}
use Rattle.std.proofs.lemmas.Slice.Eq.{bytes_eq-Decides}
use Rattle.assembler.specs.Program.{read_text}
use Rattle.assembler.specs.declared.error.AsmErrorKind.TheVariants as k
use Rattle.diagnostics.specs.Errors.{errors_of}
use Rattle.diagnostics.proofs.Finding.{misplaced_same}
use Rattle.diagnostics.proofs.Reported.{first_place, no_first}

first : (error : AsmError) (rest : List AsmError) → Contains (listed (Some error) ++ rest) error
first error rest = Contains-append_left (error ∷ []) rest error (Contains-push [] error)

-- ---- reading

reading_contains : (number : ℕ) (before others : List (List ℕ)) (line : List ℕ) (error : LineError) → read line ≡ Err error
    → Contains (reading_errors number (before ++ line ∷ others)) (of_line (number + length before) error)
reading_contains number [] others line error h =
    let here : unread number (read line) ≡ Some (of_line number error) = ap (unread number) h in
    let n : number ≡ number + 0 = omega arith in
    subst (λ m. Contains (reading_errors number (line ∷ others)) (of_line m error)) n
    (subst (λ o. Contains (listed o ++ reading_errors (number + 1) others) (of_line number error)) (sym here)
    (first (of_line number error) (reading_errors (number + 1) others)))
reading_contains number (text ∷ before) others line error h =
    let n : number + 1 + length before ≡ number + length (text ∷ before) = omega arith in
    subst (λ m. Contains (reading_errors number (text ∷ before ++ line ∷ others)) (of_line m error)) n
    (Contains-append_right (listed (unread number (read text))) (reading_errors (number + 1) (before ++ line ∷ others))
    (of_line (number + 1 + length before) error) (reading_contains (number + 1) before others line error h))

then_none : (number : ℕ) (line : Result Line LineError) (rest : Result (List Source) AsmError) → value_in rest ≡ None
    → value_in (line_then number line rest) ≡ None
then_none number (Err error) rest h = refl
then_none number (Ok line) (Err error) h = refl
then_none number (Ok line) (Ok others) h = cc

read_none : (number : ℕ) (before others : List (List ℕ)) (line : List ℕ) (error : LineError) → read line ≡ Err error
    → value_in (read_lines number (before ++ line ∷ others)) ≡ None
read_none number [] others line error h = ap (λ r. value_in (line_then number r (read_lines (number + 1) others))) h
read_none number (text ∷ before) others line error h =
    then_none number (read text) (read_lines (number + 1) (before ++ line ∷ others)) (read_none (number + 1) before others line error h)

-- ---- labels: what of two lists has the same names

abbrev Same : List Label → List Label → Type 0
Same labels others = (name : List ℕ) → is_some (named labels name) ≡ is_some (named others name)

named_push : (labels : List Label) (name : List ℕ) (address : ℕ) (text : List ℕ)
    → is_some (named (labels ++ (name, address) ∷ []) text) ≡ (is_some (named labels text) || bytes_eq text name)
named_push [] name address text = by (bytes_eq text name)
  where
    by : (t : Bool) → is_some (cond t (Some address) None) ≡ (false || t)
    by true = refl
    by false = refl
named_push ((first_name, place) ∷ labels) name address text =
    by (bytes_eq text first_name) (named (labels ++ (name, address) ∷ []) text) (named labels text) (named_push labels name address text)
  where
    by : (t : Bool) (o p : Option ℕ) → is_some o ≡ (is_some p || bytes_eq text name)
        → is_some (cond t (Some place) o) ≡ (is_some (cond t (Some place) p) || bytes_eq text name)
    by true o p h = refl
    by false o p h = h

-- a label that is there adds no name
push_there : (labels : List Label) (name : List ℕ) (text : List ℕ) → is_some (named labels name) ≡ true
    → is_some (named labels text) ≡ (is_some (named labels text) || bytes_eq text name)
push_there labels name text h =
    let P : Bool → Type 0 = λ t. bytes_eq text name ≡ t → is_some (named labels text) ≡ (is_some (named labels text) || t) in
    let go : P (bytes_eq text name) = elim (bytes_eq text name) as P [
      | true ↦ λ t.
          let e : text ≡ name = (bytes_eq-Decides text name).0 t in
          let there : is_some (named labels text) ≡ true = ap (λ n. is_some (named labels n)) e ∙ h in
          rw there refl
      | false ↦ λ t. or_no (is_some (named labels text))
    ] in go refl
  where
    or_no : (b : Bool) → b ≡ (b || false)
    or_no true = refl
    or_no false = refl

-- a label that is added where it is not, and one that is added in any case
one_same : (labels others : List Label) (address place : ℕ) (name : List ℕ) → Same labels others
    → Same (with_label labels address name) (others ++ (name, place) ∷ [])
one_same labels others address place name h text =
    let goal_is = named_push others name place text ∙ ap (λ b. b || bytes_eq text name) (sym (h text)) in
    let P : Bool → Type 0 = λ t. is_some (named labels name) ≡ t → is_some (named (with_label labels address name) text)
    ≡ (is_some (named labels text) || bytes_eq text name) in
    let go : P (is_some (named labels name)) = elim (is_some (named labels name)) as P [
      | true ↦ λ t. rw t (push_there labels name text t)
      | false ↦ λ t. rw t (named_push labels name address text)
    ] in
    go refl ∙ sym goal_is

all_same : (labels others : List Label) (address place : ℕ) (names : List (List ℕ)) → Same labels others
    → Same (with_labels labels address names) (others ++ map (λ name. (name, place)) names)
all_same labels others address place [] h text = h text ∙ ap (λ (l : List Label). is_some (named l text)) (sym (append-nil others))
all_same labels others address place (name ∷ names) h text =
    all_same (with_label labels address name) (others ++ (name, place) ∷ []) address place names
    (one_same labels others address place name h) text
    ∙ ap (λ (l : List Label). is_some (named l text)) (append_assoc others ((name, place) ∷ []) (map (λ n. (n, place)) names))

-- whether a label is defined again depends on the names before it alone
push_same : (labels others : List Label) (address place : ℕ) (name : List ℕ) → Same labels others
    → Same (labels ++ (name, address) ∷ []) (others ++ (name, place) ∷ [])
push_same labels others address place name h text =
    named_push labels name address text ∙ ap (λ b. b || bytes_eq text name) (h text) ∙ sym (named_push others name place text)

twice_same : (labels others : List Label) (address place : ℕ) (names : List (List ℕ)) → Same labels others
    → defines_twice address labels names ≡ defines_twice place others names
twice_same labels others address place [] h = refl
twice_same labels others address place (name ∷ names) h =
    ap (λ b. b || defines_twice address (labels ++ (name, address) ∷ []) names) (h name)
    ∙ ap (λ b. is_some (named others name) || b)
    (twice_same (labels ++ (name, address) ∷ []) (others ++ (name, place) ∷ []) address place names
    (push_same labels others address place name h))

again_is : (limit : ℕ) (before : List Label) (address : Option ℕ) (source : Source)
    → ((place : ℕ) → defines_twice place before source.line.labels ≡ true)
    → misplaced_at limit before address source ≡ Some k.TwiceDefined
again_is limit before None source h = let t = h 0 in rw t refl
again_is limit before (Some address) source h = let t = h address in rw t refl

place_contains : (limit : ℕ) (labels others : List Label) (address : Option ℕ) (at_place : ℕ) (before after : List Source) (source : Source)
    → Same labels others → defines_twice 0 (others ++ labels_in (places at_place before)) source.line.labels ≡ true
    → Contains (place_errors limit labels address (before ++ source ∷ after)) (at source.number k.TwiceDefined)
place_contains limit labels others address at_place [] after source h again =
    let end : others ++ [] ≡ others = append-nil others in
    let kind = again_is limit labels address source
    (λ place. twice_same labels others place 0 source.line.labels h
    ∙ ap (λ (l : List Label). defines_twice 0 l source.line.labels) (sym end) ∙ again) in
    let rest = place_errors limit (with_labels labels (unwrap_or address 0) source.line.labels) (next_address limit address source) after in
    subst (λ o. Contains (listed (error_if source.number o) ++ rest) (at source.number k.TwiceDefined)) (sym kind)
    (first (at source.number k.TwiceDefined) rest)
place_contains limit labels others address at_place (earlier ∷ before) after source h again =
    let more = place_contains limit (with_labels labels (unwrap_or address 0) earlier.line.labels)
    (others ++ labels_at (place at_place earlier)) (next_address limit address earlier) (end_of_line earlier at_place) before after source
    (all_same labels others (unwrap_or address 0) at_place earlier.line.labels h)
    (ap (λ (l : List Label). defines_twice 0 l source.line.labels)
    (append_assoc others (labels_at (place at_place earlier)) (labels_in (places (end_of_line earlier at_place) before))) ∙ again) in
    Contains-append_right (listed (error_if earlier.number (misplaced_at limit labels address earlier)))
    (place_errors limit (with_labels labels (unwrap_or address 0) earlier.line.labels) (next_address limit address earlier)
    (before ++ source ∷ after))
    (at source.number k.TwiceDefined) more

-- ---- addresses

stands_is : (limit : ℕ) (p : Place) → is_some (value_in (stands limit p)) ≡ true → stands limit p ≡ Ok (end_of_line p.source p.address)
stands_is limit p h =
    by (is_aligned p.source.line && not (p.address % 4 == 0)) (nat_le (end_of_line p.source p.address) limit)
    (end_of_line p.source p.address) h
  where
    by : (m f : Bool) (end : ℕ)
        → is_some (value_in (if m then Err k.OutOfRange else if f then Ok end else Err k.TooLarge)) ≡ true
        → (if m then Err k.OutOfRange else if f then Ok end else Err k.TooLarge) ≡ Ok end
    by true f end h = cc
    by false true end h = refl
    by false false end h = cc

address_contains : (limit : ℕ) (labels others : List Label) (address : ℕ) (before after : List Source) (source : Source) (kind : AsmErrorKind)
    → Same labels others → All (λ earlier. is_some (value_in (stands limit earlier)) ≡ true) (places address before)
    → defines_twice 0 (others ++ labels_in (places address before)) source.line.labels ≡ false
    → stands limit (place (end_of address before) source) ≡ Err kind
    → Contains (place_errors limit labels (Some address) (before ++ source ∷ after)) (at source.number kind)
address_contains limit labels others address [] after source kind h right once wrong =
    let twice : defines_twice address labels source.line.labels ≡ false = twice_same labels others address 0 source.line.labels h
    ∙ ap (λ (l : List Label). defines_twice 0 l source.line.labels) (sym (append-nil others)) ∙ once in
    let found : misplaced_at limit labels (Some address) source ≡ Some kind = sym (misplaced_same limit labels (Some address) source)
    ∙ ap (λ t. misplaced_so limit t (Some address) source) twice ∙ ap error_in wrong in
    let rest = place_errors limit (with_labels labels address source.line.labels) (next_address limit (Some address) source) after in
    subst (λ o. Contains (listed (error_if source.number o) ++ rest) (at source.number kind)) (sym found)
    (first (at source.number kind) rest)
address_contains limit labels others address (earlier ∷ before) after source kind h right once wrong =
    let now = with_labels labels address earlier.line.labels in
    let end = end_of_line earlier address in
    let stood = stands_is limit (place address earlier)
    (All-head (λ p. is_some (value_in (stands limit p)) ≡ true) (place address earlier) (places end before) right) in
    let more = address_contains limit now (others ++ labels_at (place address earlier)) end before after source kind
    (all_same labels others address address earlier.line.labels h)
    (All-tail (λ p. is_some (value_in (stands limit p)) ≡ true) (place address earlier) (places end before) right)
    (ap (λ (l : List Label). defines_twice 0 l source.line.labels)
    (append_assoc others (labels_at (place address earlier)) (labels_in (places end before))) ∙ once) wrong in
    Contains-append_right (listed (error_if earlier.number (misplaced_at limit labels (Some address) earlier)))
    (place_errors limit now (next_address limit (Some address) earlier) (before ++ source ∷ after)) (at source.number kind)
    (subst (λ o. Contains (place_errors limit now o (before ++ source ∷ after)) (at source.number kind)) (sym (ap value_in stood)) more)

-- ---- contents

content_contains : (labels : List Label) (before after : List Place) (p : Place) (kind : AsmErrorKind)
    → wrong_in (content_at labels p.address p.source.line.statement) ≡ Some kind
    → Contains (content_errors labels (before ++ p ∷ after)) (at p.source.number kind)
content_contains labels [] after p kind h =
    subst (λ o. Contains (listed (error_if p.source.number o) ++ content_errors labels after) (at p.source.number kind)) (sym h)
    (first (at p.source.number kind) (content_errors labels after))
content_contains labels (q ∷ before) after p kind h =
    Contains-append_right (listed (error_if q.source.number (wrong_in (content_at labels q.address q.source.line.statement))))
    (content_errors labels (before ++ p ∷ after)) (at p.source.number kind) (content_contains labels before after p kind h)

-- ---- all

or_contains : (found next : List AsmError) (error : AsmError) → Contains found error → Contains (or_next found next) error
or_contains [] next error (i, within, is) = absurd (omega (arith, within))
or_contains (e ∷ found) next error h = h

-- the errors of a text that is read so
by_lines : (text : List ℕ) (found : Option (List Source)) → whole_error text ≡ None → value_in (read_lines 1 (lines text)) ≡ found
    → errors_of text ≡ errors_read (lines text) found
unfolding errors_of
by_lines text found h e = ap (λ o. errors_by o text) h ∙ ap (errors_read (lines text)) e

by_text : (text : List ℕ) (program : List Source) (whole : Option AsmError) → whole ≡ whole_error text → read_by whole text ≡ Ok program
    → errors_of text ≡ program_errors program
by_text text program None h e = by_lines text (Some program) (sym h) (ap value_in e)
by_text text program (Some error) h e = cc

read_as : (text : List ℕ) (program : List Source) → read_text text ≡ Ok program → errors_of text ≡ program_errors program
unfolding read_text
read_as text program h = by_text text program (whole_error text) refl h

pub each : (text : List ℕ) → EachIsTold text
each text = record {
  reading = λ before others line error whole is wrong.
      let none : value_in (read_lines 1 (lines text)) ≡ None = ap (λ l. value_in (read_lines 1 l)) is
      ∙ read_none 1 before others line error wrong in
      let n : 1 + length before ≡ length before + 1 = omega arith in
      subst (λ l. Contains l (of_line (length before + 1) error)) (sym (by_lines text None whole none))
      (subst (λ l. Contains (reading_errors 1 l) (of_line (length before + 1) error)) (sym is)
      (subst (λ m. Contains (reading_errors 1 (before ++ line ∷ others)) (of_line m error)) n
      (reading_contains 1 before others line error wrong)));
  labels = λ before others source is again.
      let program = before ++ source ∷ others in
      subst (λ l. Contains l (at source.number k.TwiceDefined)) (sym (read_as text program is))
      (or_contains (place_errors memory_limit [] (Some first_address) program)
      (content_errors (labels_in (placed program)) (placed program))
      (at source.number k.TwiceDefined)
      (place_contains memory_limit [] [] (Some first_address) first_address before others source (λ name. refl) again));
  addresses = λ before others source kind is right once wrong.
      let program = before ++ source ∷ others in
      subst (λ l. Contains l (at source.number kind)) (sym (read_as text program is))
      (or_contains (place_errors memory_limit [] (Some first_address) program)
      (content_errors (labels_in (placed program)) (placed program))
      (at source.number kind)
      (address_contains memory_limit [] [] first_address before others source kind (λ name. refl) right once wrong));
  contents = λ program before others p kind is right split wrong.
      let names = labels_in (placed program) in
      let none : place_errors memory_limit [] (Some first_address) program ≡ []
      = no_first (place_errors memory_limit [] (Some first_address) program) (first_place memory_limit [] first_address program ∙ right) in
      let found = subst (λ l. Contains (content_errors names l) (at p.source.number kind)) (sym split)
      (content_contains names before others p kind wrong) in
      subst (λ l. Contains l (at p.source.number kind)) (sym (read_as text program is))
      (subst (λ l. Contains (or_next l (content_errors names (placed program))) (at p.source.number kind)) (sym none) found);
}
