-- Whatever is read of a line is all that stands on it.
use Rattle.std.proofs.Common.{◌≡◌, ℕ, ◌==◌, Bool, true, false, cond, List, [], ◌∷◌, ◌++◌, length, drop, Option, Some, None, Result, Ok, Err, inl, inr, refl, sym, ap, ◌∙◌, subst, arith, append-nil, append_assoc}
use Rattle.std.proofs.lemmas.Bool.Decides.{nat_tests}
use Rattle.std.specs.Prelude.{codes, nat_le, ◌&&◌}
use Rattle.std.specs.Str.{is_utf8}
use Rattle.numerals.specs.Numerals.{numeral}
use Rattle.numerals.specs.declared.NumeralError.{NumeralError}
use Rattle.prompt.proofs.Ink.{at_first, empty, in_counted, in_parts, InCounted, InParts, ink_trimmed}
use Rattle.prompt.specs.Arguments.{address_in, and_then, digits_in, label_in, line_in, missing, number_in, place_by, place_in, text_if_utf8, text_in, utf8_in, wrong}
use Rattle.prompt.specs.Laws.{AsksFor, ink, IsSaid, IsWhole, NothingIsLost, Writes, WritesBoth, WritesIf, WritesNumber, WritesPlace, WritesText, WritesTimes}
use Rattle.prompt.specs.Lines.{alone, assigning, breaking_at, condition_in, counted, hits_in, if_any, in_part, line_by, line_of, meaning, meaning_of, number_if, place_if, printing_parts, said, setting_parts, times, word_if, word_in}
use Rattle.prompt.specs.Parts.{Placed, after_first, bare, first_word, suffix, whole}
use Rattle.prompt.specs.Separators.{parted}
use Rattle.prompt.specs.Words.{word_of}
use Rattle.prompt.specs.declared.error.Argument.{Argument}
use Rattle.prompt.specs.declared.error.Argument.TheVariants as a
use Rattle.prompt.specs.declared.error.LineError.{LineError}
use Rattle.prompt.specs.declared.error.LineFault.TheVariants as f
use Rattle.prompt.specs.declared.line.Line.{Line}
use Rattle.prompt.specs.declared.line.Line.TheVariants as l
use Rattle.prompt.specs.declared.line.Stop.{Stop}
use Rattle.prompt.specs.declared.words.Plain.{Plain}
use Rattle.prompt.specs.declared.place.Place.{Place}
use Rattle.prompt.specs.declared.place.Place.TheVariants as place
use Rattle.prompt.specs.declared.separator.Separator.TheVariants.{If, Hit, Assignment}
use Rattle.prompt.specs.declared.words.Word.{Word}
use Rattle.prompt.specs.declared.words.Word.TheVariants as w

-- ---- what was read without an error

-- what comes of a step, and of the next one
record Made {A B : Type 0} (r : Result A LineError) (next : A → Result B LineError) (b : B) : Type 0 where
  value : A
  is : r ≡ Ok value
  then_is : next value ≡ Ok b

made : {A B : Type 0} (r : Result A LineError) (next : A → Result B LineError) (b : B) → and_then r next ≡ Ok b → Made r next b
made (Ok a) next b e = record { value = a; is = refl; then_is = e }
made (Err x) next b e = absurd (let no : Err x ≡ Ok b = e in cc)

not_ok : {A : Type 0} (x : LineError) (b : A) → (let r : Result A LineError = Err x in r) ≡ Ok b → ⊥
not_ok x b e = cc

same_ok : {A : Type 0} (x y : A) → (let r : Result A LineError = Ok x in r) ≡ Ok y → x ≡ y
same_ok x y e = cc

text_is : (argument : Argument) (p t : Placed) → text_in argument p ≡ Ok t → t.text ≡ p.text
text_is argument p t e = by (length p.text == 0) e where
  by_utf8 : (u : Bool) → text_if_utf8 p (cond u (Some p.text) None) ≡ Ok t → t.text ≡ p.text
  by_utf8 true e = sym (ap (λ (q : Placed). q.text) (same_ok _ t e))
  by_utf8 false e = absurd (not_ok _ t e)

  by : (none : Bool) → cond none (Err (missing argument p)) (text_if_utf8 p (utf8_in p.text)) ≡ Ok t → t.text ≡ p.text
  by true e = absurd (not_ok _ t e)
  by false e = by_utf8 (is_utf8 p.text) e

number_is : (p : Placed) (n : ℕ) → number_in p ≡ Ok n → numeral 10 p.text ≡ Ok n
number_is p n e = by (length p.text == 0) e where
  by_digits : (r : Result ℕ NumeralError) → digits_in p r ≡ Ok n → r ≡ Ok n
  by_digits (Ok m) e = ap (λ (x : ℕ). Ok x) (same_ok m n e)
  by_digits (Err x) e = absurd (not_ok _ n e)

  by : (none : Bool) → cond none (Err (missing a.Number p)) (digits_in p (numeral 10 p.text)) ≡ Ok n → numeral 10 p.text ≡ Ok n
  by true e = absurd (not_ok _ n e)
  by false e = by_digits (numeral 10 p.text) e

text_writes : (argument : Argument) (p t : Placed) → text_in argument p ≡ Ok t → WritesText t (ink p.text)
text_writes argument p t e = ap ink (sym (text_is argument p t e))

number_writes : (p : Placed) (n : ℕ) → number_in p ≡ Ok n → WritesNumber n (ink p.text)
number_writes p n e = (p.text, (number_is p n e, refl))

-- ---- places

module _ (p : Placed) (pl : Place) where
  line_writes : line_in p ≡ Ok pl → WritesPlace pl (ink p.text)
  line_writes e =
      let m = made (number_in p) (λ n. Ok (place.Line n)) pl e in
      subst (λ (x : Place). WritesPlace x (ink p.text)) (same_ok _ pl m.then_is) (number_writes p m.value m.is)

  none_after : length (after_first p).text ≡ 0 → ink p.text ≡ ink (first_word p).text
  none_after none =
      at_first p ∙ ap (λ (l : List ℕ). ink (first_word p).text ++ ink l) (empty (after_first p).text none) ∙ append-nil (ink (first_word p).text)

  label_writes : label_in p ≡ Ok pl → WritesPlace pl (ink p.text)
  label_writes e = by (length (after_first p).text == 0) refl e where
    by : (none : Bool) → (length (after_first p).text == 0) ≡ none
        → cond none (and_then (text_in a.Place (first_word p)) (λ text. Ok (place.Label text))) (Err (wrong f.Unexpected (after_first p))) ≡ Ok pl
        → WritesPlace pl (ink p.text)
    by true none e =
        let m = made (text_in a.Place (first_word p)) (λ text. Ok (place.Label text)) pl e in
        let no : length (after_first p).text ≡ 0 = grind (arith, nat_tests) in
        subst (λ (x : Place). WritesPlace x (ink p.text)) (same_ok _ pl m.then_is)
        (none_after no ∙ text_writes a.Place (first_word p) m.value m.is)
    by false none e = absurd (not_ok _ pl e)

  address_writes : (bytes : List ℕ) → p.text ≡ 42 ∷ bytes → address_in (bare (suffix 1 p)) ≡ Ok pl → WritesPlace pl (ink p.text)
  address_writes bytes is e =
      let q = bare (suffix 1 p) in
      let m = made (text_in a.Expression q) (λ text. Ok (place.Address text)) pl e in
      let inked : ink p.text ≡ codes "*" ++ ink m.value.text =
      ap ink is ∙ ap (λ (l : List ℕ). 42 ∷ l) (ap (λ (l : List ℕ). ink (drop 1 l)) (sym is) ∙ sym (ink_trimmed (drop 1 p.text)) ∙ text_writes a.Expression q m.value m.is) in
      subst (λ (x : Place). WritesPlace x (ink p.text)) (same_ok _ pl m.then_is) inked

  by_first : (bytes : List ℕ) → p.text ≡ bytes → place_by p bytes ≡ Ok pl → WritesPlace pl (ink p.text)
  by_first [] is e = label_writes e
  by_first (b ∷ bytes) is e = by (b == 42) refl e where
    by_digit : (d : Bool) → cond d (line_in p) (label_in p) ≡ Ok pl → WritesPlace pl (ink p.text)
    by_digit true e = line_writes e
    by_digit false e = label_writes e

    by : (star : Bool) → (b == 42) ≡ star → cond star (address_in (bare (suffix 1 p))) (cond (nat_le 48 b && nat_le b 57) (line_in p) (label_in p)) ≡ Ok pl
        → WritesPlace pl (ink p.text)
    by true star e =
        let same : b ≡ 42 = grind (arith, nat_tests) in
        address_writes bytes (is ∙ ap (λ (c : ℕ). c ∷ bytes) same) e
    by false star e = by_digit (nat_le 48 b && nat_le b 57) e

place_writes : (p : Placed) (pl : Place) → place_in p ≡ Ok pl → WritesPlace pl (ink p.text)
place_writes p pl e = by_first p pl p.text refl e

-- ---- what may be absent

module _ {A : Type 0} (reads : Placed → Result A LineError) (P : A → List ℕ → Type 0)
    (each : (p : Placed) (x : A) → reads p ≡ Ok x → P x (ink p.text)) where
  any_writes : (p : Placed) (o : Option A) → if_any reads p ≡ Ok o → WritesIf P [] o (ink p.text)
  any_writes p o e = by (length p.text == 0) refl e where
    by : (none : Bool) → (length p.text == 0) ≡ none → cond none (Ok None) (and_then (reads p) (λ x. Ok (Some x))) ≡ Ok o
        → WritesIf P [] o (ink p.text)
    by true none e =
        let no : length p.text ≡ 0 = grind (arith, nat_tests) in
        subst (λ (x : Option A). WritesIf P [] x (ink p.text)) (same_ok None o e) (ap ink (empty p.text no))
    by false none e =
        let m = made (reads p) (λ x. Ok (Some x)) o e in
        subst (λ (x : Option A). WritesIf P [] x (ink p.text)) (same_ok _ o m.then_is) (ink p.text, (each p m.value m.is, refl))

  -- with this before it
  abbrev bytes_of : List ℕ → Option Placed → List ℕ
  bytes_of sign None = []
  bytes_of sign (Some v) = sign ++ ink v.text

  part_writes : (sign : List ℕ) (part : Option Placed) (o : Option A) → in_part reads part ≡ Ok o → WritesIf P sign o (bytes_of sign part)
  part_writes sign None o e = subst (λ (x : Option A). WritesIf P sign x []) (same_ok None o e) refl
  part_writes sign (Some v) o e =
      let m = made (reads v) (λ x. Ok (Some x)) o e in
      subst (λ (x : Option A). WritesIf P sign x (sign ++ ink v.text)) (same_ok _ o m.then_is) (ink v.text, (each v m.value m.is, refl))

-- ---- each word

abbrev Good : Word → List ℕ → Line → Type 0
Good word bytes line = AsksFor word line × Writes line bytes

module _ (rest : Placed) (line : Line) where
  good : (word : Word) (x : Line) → (let r : Result Line LineError = Ok x in r) ≡ Ok line → Good word (ink rest.text) x
      → Good word (ink rest.text) line
  good word x e h = subst (Good word (ink rest.text)) (same_ok x line e) h

  nothing : length rest.text ≡ 0 → ink rest.text ≡ []
  nothing none = ap ink (empty rest.text none)

  assigning_good : (word : Word) (target value : Placed) → ((t v : Placed) → AsksFor word (l.Set t v))
      → ink rest.text ≡ ink target.text ++ (codes "=" ++ ink value.text) → assigning target value ≡ Ok line → Good word (ink rest.text) line
  assigning_good word target value asks parts e =
      let t = made (text_in a.Expression target) (λ t. and_then (text_in a.Value value) (λ v. Ok (l.Set t v))) line e in
      let v = made (text_in a.Value value) (λ v. Ok (l.Set t.value v)) line t.then_is in
      let first = text_writes a.Expression target t.value t.is in
      let second = text_writes a.Value value v.value v.is in
      good word (l.Set t.value v.value) v.then_is (
        asks t.value v.value,
        parts ∙ ap (λ (x : List ℕ). x ++ (codes "=" ++ ink value.text)) first
            ∙ ap (λ (x : List ℕ). ink t.value.text ++ (codes "=" ++ x)) second ∙ sym (append_assoc (ink t.value.text) (codes "=") (ink v.value.text)),
      )

  printing_good : (parts : Placed × Option Placed) → InParts Assignment rest.text parts → printing_parts parts ≡ Ok line
      → Good w.Print (ink rest.text) line
  printing_good (q, Some v) h e = assigning_good w.Print q v (λ t v. inl refl) h e
  printing_good (q, None) h e =
      let m = made (text_in a.Expression q) (λ x. Ok (l.Print x)) line e in
      good w.Print (l.Print m.value) m.then_is (refl, h ∙ text_writes a.Expression q m.value m.is)

  setting_good : (parts : Placed × Option Placed) → InParts Assignment rest.text parts → setting_parts parts ≡ Ok line
      → Good w.Set (ink rest.text) line
  setting_good (q, Some v) h e = assigning_good w.Set q v (λ t v. inr refl) h e
  setting_good (q, None) h e = absurd (not_ok _ line e)

  -- one, or as many as are written
  times_are : (o : Option ℕ) → number_if rest ≡ Ok o → WritesTimes (times o) (ink rest.text)
  times_are None e = inl (any_writes number_in WritesNumber number_writes rest None e, refl)
  times_are (Some n) e =
      let h = any_writes number_in WritesNumber number_writes rest (Some n) e in
      inr (h.1.0.0, (h.1.0.1.0, h.1.1 ∙ h.1.0.1.1))

  stop_good : (is_temporary : Bool) (word : Word) → ((x : Stop) → x.is_temporary ≡ is_temporary → AsksFor word (l.Break x))
      → (hit cond : Placed × Option Placed) → InParts Hit rest.text hit → InParts If hit.0.text cond
      → breaking_at is_temporary cond.0 cond.1 hit.1 ≡ Ok line → Good word (ink rest.text) line
  stop_good is_temporary word asks hit cond parts inner e =
      let p = made (place_in cond.0) _ line e in
      let c = made (condition_in cond.1) _ line p.then_is in
      let h = made (hits_in hit.1) _ line c.then_is in
      let stop : Stop = record { place = p.value; condition = c.value; hits = h.value; is_temporary = is_temporary } in
      let before = bytes_of (text_in a.Expression) WritesText (text_writes a.Expression) (codes "if") cond.1 in
      let last = bytes_of number_in WritesNumber number_writes (codes "hit") hit.1 in
      good word (l.Break stop) h.then_is (
        asks stop refl,
        record {
          place = ink cond.0.text;
          condition = before;
          hits = last;
          written_place = place_writes cond.0 p.value p.is;
          written_condition = part_writes (text_in a.Expression) WritesText (text_writes a.Expression) (codes "if") cond.1 c.value c.is;
          written_hits = part_writes number_in WritesNumber number_writes (codes "hit") hit.1 h.value h.is;
          all = joins hit parts ∙ ap (λ (x : List ℕ). x ++ last) (joins_if cond inner);
        },
      ) where
        joins : (q : Placed × Option Placed) → InParts Hit rest.text q
            → ink rest.text ≡ ink q.0.text ++ bytes_of number_in WritesNumber number_writes (codes "hit") q.1
        joins (q, None) h = h ∙ sym (append-nil (ink q.text))
        joins (q, Some v) h = h

        joins_if : (q : Placed × Option Placed) → InParts If hit.0.text q
            → ink hit.0.text ≡ ink q.0.text ++ bytes_of (text_in a.Expression) WritesText (text_writes a.Expression) (codes "if") q.1
        joins_if (q, None) h = h ∙ sym (append-nil (ink q.text))
        joins_if (q, Some v) h = h

  counted_good : {A : Type 0} (word : Word) (first : Placed → Result A LineError) (P : A → List ℕ → Type 0) (says : A → Option ℕ → Line)
      → ((p : Placed) (x : A) → first p ≡ Ok x → P x (ink p.text)) → ((x : A) (n : Option ℕ) → AsksFor word (says x n))
      → ((x : A) (n : Option ℕ) (bytes : List ℕ) → WritesBoth (P x) (WritesIf WritesNumber [] n) bytes → Writes (says x n) bytes)
      → (parts : Placed × Option Placed) → InCounted rest.text parts
      → and_then (first parts.0) (λ x. and_then (hits_in parts.1) (λ n. Ok (says x n))) ≡ Ok line → Good word (ink rest.text) line
  counted_good word first P says each asks writes parts h e =
      let x = made (first parts.0) _ line e in
      let n = made (hits_in parts.1) _ line x.then_is in
      let last = bytes_of number_in WritesNumber number_writes [] parts.1 in
      good word (says x.value n.value) n.then_is (
        asks x.value n.value,
        writes x.value n.value (ink rest.text)
            (ink parts.0.text, (last, (each parts.0 x.value x.is, (part_writes number_in WritesNumber number_writes [] parts.1 n.value n.is, joins parts h)))),
      ) where
        joins : (q : Placed × Option Placed) → InCounted rest.text q
            → ink rest.text ≡ ink q.0.text ++ bytes_of number_in WritesNumber number_writes [] q.1
        joins (q, None) h = h ∙ sym (append-nil (ink q.text))
        joins (q, Some v) h = h

  any_good : {A : Type 0} (word : Word) (reads : Placed → Result A LineError) (P : A → List ℕ → Type 0) (says : Option A → Line)
      → ((p : Placed) (x : A) → reads p ≡ Ok x → P x (ink p.text)) → ((o : Option A) → AsksFor word (says o))
      → ((o : Option A) (bytes : List ℕ) → WritesIf P [] o bytes → Writes (says o) bytes)
      → and_then (if_any reads rest) (λ o. Ok (says o)) ≡ Ok line → Good word (ink rest.text) line
  any_good word reads P says each asks writes e =
      let o = made (if_any reads rest) _ line e in
      good word (says o.value) o.then_is (asks o.value, writes o.value (ink rest.text) (any_writes reads P each rest o.value o.is))

  text_good : (word : Word) (says : Placed → Line) → ((t : Placed) → AsksFor word (says t))
      → ((t : Placed) (bytes : List ℕ) → WritesText t bytes → Writes (says t) bytes)
      → and_then (text_in a.Expression rest) (λ t. Ok (says t)) ≡ Ok line → Good word (ink rest.text) line
  text_good word says asks writes e =
      let t = made (text_in a.Expression rest) _ line e in
      good word (says t.value) t.then_is (asks t.value, writes t.value (ink rest.text) (text_writes a.Expression rest t.value t.is))

  alone_good : (plain : Plain) → alone plain rest ≡ Ok line → Good (w.Plain plain) (ink rest.text) line
  alone_good plain e = by (length rest.text == 0) refl e where
    by : (none : Bool) → (length rest.text == 0) ≡ none → cond none (Ok (l.Plain plain)) (Err (wrong f.Unexpected rest)) ≡ Ok line
        → Good (w.Plain plain) (ink rest.text) line
    by true none e =
        let no : length rest.text ≡ 0 = grind (arith, nat_tests) in good (w.Plain plain) (l.Plain plain) e (refl, nothing no)
    by false none e = absurd (not_ok _ line e)

  meaning_good : (word : Word) → meaning word rest ≡ Ok line → Good word (ink rest.text) line
  meaning_good (w.Plain plain) e = alone_good plain e
  meaning_good (w.Motion motion) e =
      let o = made (number_if rest) _ line e in
      good (w.Motion motion) (l.Move motion (times o.value)) o.then_is (refl, times_are o.value o.is)
  meaning_good w.Help e = any_good w.Help (text_in a.Text) WritesText l.Help (text_writes a.Text) (λ o. refl) (λ o b h. h) e
  meaning_good w.Break e =
      stop_good false w.Break (λ x is. inl (refl, is)) (parted Hit rest) (parted If (parted Hit rest).0) (in_parts Hit rest) (in_parts If (parted Hit rest).0) e
  meaning_good w.Tbreak e =
      stop_good true w.Tbreak (λ x is. inr (refl, is)) (parted Hit rest) (parted If (parted Hit rest).0) (in_parts Hit rest) (in_parts If (parted Hit rest).0) e
  meaning_good w.Log e =
      let p = made (place_in (first_word rest)) _ line e in
      let t = made (text_in a.Text (after_first rest)) _ line p.then_is in
      good w.Log (l.Log p.value t.value) t.then_is (
        refl,
        (
          ink (first_word rest).text,
          (
            ink (after_first rest).text,
            (place_writes (first_word rest) p.value p.is, (text_writes a.Text (after_first rest) t.value t.is, at_first rest)),
          ),
        ),
      )
  meaning_good w.Delete e = any_good w.Delete number_in WritesNumber l.Delete number_writes (λ o. refl) (λ o b h. h) e
  meaning_good (w.Change direction) e = text_good (w.Change direction) (l.Change direction) (λ t. refl) (λ t b h. h) e
  meaning_good w.Print e = printing_good (parted Assignment rest) (in_parts Assignment rest) e
  meaning_good w.Display e = text_good w.Display l.Display (λ t. refl) (λ t b h. h) e
  meaning_good w.Undisplay e = any_good w.Undisplay number_in WritesNumber l.Undisplay number_writes (λ o. refl) (λ o b h. h) e
  meaning_good w.Set e = setting_good (parted Assignment rest) (in_parts Assignment rest) e
  meaning_good w.Registers e = any_good w.Registers (text_in a.Text) WritesText l.Registers (text_writes a.Text) (λ o. refl) (λ o b h. h) e
  meaning_good (w.Examine unit) e =
      counted_good (w.Examine unit) (text_in a.Expression) WritesText (l.Examine unit) (text_writes a.Expression) (λ x n. refl) (λ x n b h. h)
      (counted rest) (in_counted rest) e
  meaning_good w.Disassemble e =
      counted_good w.Disassemble place_if (WritesIf WritesPlace []) l.Disassemble (any_writes place_in WritesPlace place_writes) (λ x n. refl)
      (λ x n b h. h) (counted rest) (in_counted rest) e
  meaning_good w.List e = any_good w.List place_in WritesPlace l.List place_writes (λ o. refl) (λ o b h. h) e

-- ---- a line

is_whole : (line : Line) (bytes : List ℕ) → IsSaid line bytes → IsWhole line bytes
is_whole l.Again bytes s = absurd s.asks
is_whole l.Comment bytes s = absurd s.asks
is_whole line bytes s = s

module _ (p : Placed) (line : Line) where
  name_is : (word : Word) → word_in (first_word p) ≡ Some word → word_of (first_word p).text ≡ Some word
  name_is word e = by (is_utf8 (first_word p).text) e where
    by : (u : Bool) → word_if (cond u (Some (first_word p).text) None) ≡ Some word → word_of (first_word p).text ≡ Some word
    by true e = e
    by false e = absurd (let no : None ≡ Some word = e in cc)

  said_whole : said p ≡ Ok line → IsWhole line (ink p.text)
  said_whole e = by (word_in (first_word p)) refl e where
    by : (o : Option Word) → word_in (first_word p) ≡ o → meaning_of o p ≡ Ok line → IsWhole line (ink p.text)
    by None is e = absurd (not_ok _ line e)
    by (Some word) is e =
        let g = meaning_good (after_first p) line word e in
        is_whole line (ink p.text) (record {
          name = (first_word p).text;
          word = word;
          rest = ink (after_first p).text;
          named = name_is word is;
          asks = g.0;
          writes = g.1;
          all = at_first p;
        })

  line_whole : (bytes : List ℕ) → p.text ≡ bytes → line_by p bytes ≡ Ok line → IsWhole line (ink p.text)
  line_whole [] is e = subst (λ (x : Line). IsWhole x (ink p.text)) (same_ok l.Again line e) (ap ink is)
  line_whole (b ∷ bytes) is e = by (b == 35) refl e where
    by : (sign : Bool) → (b == 35) ≡ sign → cond sign (Ok l.Comment) (said p) ≡ Ok line → IsWhole line (ink p.text)
    by true sign e =
        let same : b ≡ 35 = grind (arith, nat_tests) in
        subst (λ (x : Line). IsWhole x (ink p.text)) (same_ok l.Comment line e)
        (ink bytes, ap ink (is ∙ ap (λ (c : ℕ). c ∷ bytes) same))
    by false sign e = said_whole e

pub nothing_is_lost : NothingIsLost
unfolding line_of
nothing_is_lost text line e =
    let p = bare (whole text) in
    subst (λ (x : List ℕ). IsWhole line x) (ink_trimmed text) (line_whole p line p.text refl e)
