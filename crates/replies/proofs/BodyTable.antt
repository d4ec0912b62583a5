-- The table of bodies: each is plain JSON, and a message that has one is taken for it.
use Rattle.replies.proofs.Common.{[], all_taken, AllByRecursion, and_parts, AreTexts, arith, body_data, body_in, Bool, bytes_eq, Data, depth, false, Form, formed, get, has_float, has_numbers, IfSome, if◌then◌else◌, is_ordered, IsBodyOf, IsPlain, IsPlain-is_simple, IsTrue, Lawful, List, list_all, list_any, member_if, None, not, object, Option, option_and_then, option_map, refl, ResponseBody, Row, shared_members, Some, subst, surely, sym, Taken, texts_in, true, without_body, ℕ, ◌||◌, ◌∙◌, ◌∷◌, ◌≡◌, ◌≤◌}
use Rattle.std.proofs.Common.{codes}
use Rattle.std.proofs.lemmas.Slice.Eq.{bytes_eq-Decides}
use Rattle.replies.specs.declared.response.ResponseBody.TheVariants as kind
use Rattle.replies.specs.Bodies.{taken_among}
use Rattle.replies.proofs.ByBody.{by_body, by_taken}
use Rattle.replies.proofs.HasForm.{HasForm, IsAlways}

-- what a response needs to know of its body
pub record IsGood (d : Data) : Type 0 where
  pub shallow : depth d ≤ 100
  pub no_float : has_float d ≡ false
  pub ordered : is_ordered d ≡ true

pub good : {n : ℕ} {A : Type 0} (form : Form A) → Lawful n form → n ≤ 100 → (x : A) → IsGood (form.value x)
good {n} form h small x =
    let most : depth (form.value x) ≤ n = h.shallow x in
    record { shallow = omega (arith, most, small); no_float = h.no_float x; ordered = h.ordered x }

abbrev HasGoodValue : Row → Type 0
HasGoodValue r = IfSome r.value IsGood

good_always : {command : List ℕ} {value : Data} (body : ResponseBody) → IsAlways command value body → IfSome (body_data body) IsGood
good_always body h = subst HasGoodValue (sym h.is_row) (record { shallow = h.shallow; no_float = h.no_float; ordered = h.ordered })

good_in_form : {n : ℕ} {command : List ℕ} {A : Type 0} {form : Form A} {make : A → ResponseBody} → HasForm n command form make → (x : A)
    → IfSome (body_data (make x)) IsGood
good_in_form {form = form} h x = subst HasGoodValue (sym (h.is_row x)) (good form h.lawful h.shallow x)

pub IsGood-body_data : (body : ResponseBody) → IfSome (body_data body) IsGood
IsGood-body_data body =
    by_body (λ b. IfSome (body_data b) IsGood) (record { always = good_always; in_form = good_in_form; empty = tt }) body

abbrev HasPlainValue : Row → Type 0
HasPlainValue r = r.has_numbers ≡ true → AreTexts r.texts → IfSome r.value IsPlain

abbrev HasPlainBody : ResponseBody → Type 0
HasPlainBody body = has_numbers body ≡ true → AreTexts (texts_in body) → IfSome (body_data body) IsPlain

plain_always : {command : List ℕ} {value : Data} (body : ResponseBody) → IsAlways command value body → HasPlainBody body
plain_always {value = value} body h = subst HasPlainValue (sym h.is_row) (λ numbers texts. IsPlain-is_simple value h.simple)

plain_in_form : {n : ℕ} {command : List ℕ} {A : Type 0} {form : Form A} {make : A → ResponseBody} → HasForm n command form make → (x : A)
    → HasPlainBody (make x)
plain_in_form h x = subst HasPlainValue (sym (h.is_row x)) (λ numbers texts. h.lawful.plain x numbers texts)

pub IsPlain-body_data : (body : ResponseBody) → has_numbers body ≡ true → AreTexts (texts_in body) → IfSome (body_data body) IsPlain
IsPlain-body_data body = by_body HasPlainBody (record { always = plain_always; in_form = plain_in_form; empty = λ numbers texts. tt }) body

-- ---- a success that has the body

-- it is written in that form
abbrev with_body : ℕ → ℕ → List ℕ → Option Data → Data
with_body seq request_seq command body = object (member_if (codes "body") (λ d. d) body (shared_members seq request_seq command true))

formed_back : {n : ℕ} {A : Type 0} (command name : List ℕ) (form : Form A) (make : A → ResponseBody) → Lawful n form
    → (seq request_seq : ℕ) (x : A) → form.is_in x ≡ true
    → (formed command form make).found (with_body seq request_seq name (Some (form.value x))) ≡ Some (make x)
formed_back command name form make h seq request_seq x e = rw (h.back x e) refl

-- texts that are not one
other : (c d : List ℕ) → (c ≡ d → ⊥) → bytes_eq c d ≡ false
other c d n = by_test (bytes_eq c d) refl where
  by_test : (b : Bool) → bytes_eq c d ≡ b → b ≡ false
  by_test true e = absurd (n ((bytes_eq-Decides c d).0 e))
  by_test false e = refl

itself : (c : List ℕ) → list_any (bytes_eq c) (c ∷ []) ≡ true
itself c = rw ((bytes_eq-Decides c c).1 refl) refl

one_of : (c d : List ℕ) → list_any (bytes_eq c) (d ∷ []) ≡ true → c ≡ d
one_of c d h = by_first (bytes_eq c d) refl h where
  by_first : (b : Bool) → bytes_eq c d ≡ b → (b || false) ≡ true → c ≡ d
  by_first true e h = (bytes_eq-Decides c d).0 e
  by_first false e h = absurd cc

-- a command whose success has no body is none of those whose success has one
no_other : (t : Taken) → list_any (bytes_eq t.command) without_body ≡ false → (command : List ℕ)
    → list_any (bytes_eq command) without_body ≡ true → bytes_eq command t.command ≡ false
no_other t none command h = by_test (bytes_eq command t.command) refl where
  by_test : (b : Bool) → bytes_eq command t.command ≡ b → b ≡ false
  by_test false e = refl
  by_test true e =
      let same : command ≡ t.command = (bytes_eq-Decides command t.command).0 e in
      let there : list_any (bytes_eq t.command) without_body ≡ true = rw same at h in cc

-- no success that has a body is of a command without one
abbrev has_body : Taken → Bool
has_body t = not (list_any (bytes_eq t.command) without_body)

no : (b : Bool) → not b ≡ true → b ≡ false
no true e = absurd cc
no false e = refl

empty_among : (ts : List Taken) → list_all has_body ts ≡ true → (command : List ℕ) → list_any (bytes_eq command) without_body ≡ true
    → (message : Data) → taken_among ts command message ≡ Some kind.Empty
empty_among [] all command h message = rw h refl
empty_among (t ∷ ts) all command h message =
    let p = and_parts (has_body t) (list_all has_body ts) all in
    rw (no_other t (no (list_any (bytes_eq t.command) without_body) p.0) command h) (empty_among ts p.1 command h message)

-- what is no command of a body, and none without, is unknown
others_passed : (ts : List Taken) (command : List ℕ) (message : Data) → AllByRecursion (λ t. command ≡ t.command → ⊥) ts
    → taken_among ts command message ≡ taken_among [] command message
others_passed [] command message others = refl
others_passed (t ∷ ts) command message others = rw (other command t.command others.0) (others_passed ts command message others.1)

pub unknown_has_none : (ts : List Taken) (command : List ℕ) (message : Data) → AllByRecursion (λ t. command ≡ t.command → ⊥) ts
    → list_any (bytes_eq command) without_body ≡ false → taken_among ts command message ≡ None
unknown_has_none ts command message others none = others_passed ts command message others ∙ empty_is_none where
  empty_is_none : taken_among [] command message ≡ None
  empty_is_none = rw none refl

-- a success of the command whose body has that row is taken for the body
abbrev IsTakenBack : Row → ResponseBody → Type 0
IsTakenBack r body = (seq request_seq : ℕ) (name : List ℕ) → IsTrue (list_any (bytes_eq name) r.commands) → r.has_numbers ≡ true
    → body_in name (with_body seq request_seq name r.value) ≡ Some body

abbrev TakenBack : ResponseBody → Type 0
TakenBack body = (seq request_seq : ℕ) (name : List ℕ) → IsBodyOf name body → has_numbers body ≡ true
    → body_in name (with_body seq request_seq name (body_data body)) ≡ Some body

back_always : {command : List ℕ} {value : Data} (body : ResponseBody) → IsAlways command value body → TakenBack body
back_always {command} {value} body h =
    subst (λ r. IsTakenBack r body) (sym h.is_row)
    (λ seq request_seq name is e. rw (one_of name command is) (h.is_taken (with_body seq request_seq command (Some value))))

back_in_form : {n : ℕ} {command : List ℕ} {A : Type 0} {form : Form A} {make : A → ResponseBody} → HasForm n command form make → (x : A)
    → TakenBack (make x)
back_in_form {command = command} {form = form} {make = make} h x =
    subst (λ r. IsTakenBack r (make x)) (sym (h.is_row x))
    (λ seq request_seq name is e. rw (one_of name command is)
    (h.is_taken (with_body seq request_seq command (Some (form.value x)))
    ∙ formed_back command command form make h.lawful seq request_seq x e))

pub body_in-done : (seq request_seq : ℕ) (command : List ℕ) (body : ResponseBody) → IsBodyOf command body → has_numbers body ≡ true
    → body_in command (with_body seq request_seq command (body_data body)) ≡ Some body
body_in-done seq request_seq command body = by_body TakenBack (record {
  always = back_always;
  in_form = back_in_form;
  empty = λ s r name is e. empty_among all_taken refl name is (with_body s r name None);
}) body seq request_seq command

-- ---- what is taken for a body is one

-- what is found is of the command, and its numbers are in range
abbrev AreProper : Taken → Type 0
AreProper t = (message : Data) → IfSome (t.found message) (λ body. IsBodyOf t.command body × (has_numbers body ≡ true))

proper_in_form : {n : ℕ} {command : List ℕ} {A : Type 0} {form : Form A} {make : A → ResponseBody} → HasForm n command form make
    → AreProper (formed command form make)
proper_in_form {command = command} {A = A} {form = form} {make = make} h message = there (get (codes "body") message) where
  proper : (x : A) → form.is_in x ≡ true → IsBodyOf command (make x) × (has_numbers (make x) ≡ true)
  proper x e =
      subst (λ (r : Row). IsTrue (list_any (bytes_eq command) r.commands) × (r.has_numbers ≡ true)) (sym (h.is_row x)) (itself command, e)

  made : (o : Option A) → IfSome o (λ x. form.is_in x ≡ true)
      → IfSome (option_map make o) (λ body. IsBodyOf command body × (has_numbers body ≡ true))
  made None k = tt
  made (Some x) k = proper x k

  there : (o : Option Data)
      → IfSome (option_map make (option_and_then form.found o)) (λ body. IsBodyOf command body × (has_numbers body ≡ true))
  there None = tt
  there (Some d) = made (form.found d) (h.lawful.kept d)

proper_always : {command : List ℕ} {value : Data} {body : ResponseBody} → IsAlways command value body → AreProper (surely body command)
proper_always {command} h message =
    subst (λ (r : Row). IsTrue (list_any (bytes_eq command) r.commands) × (r.has_numbers ≡ true)) (sym h.is_row) (itself command, refl)

all_proper : AllByRecursion AreProper all_taken
all_proper = by_taken AreProper (record { always = proper_always; in_form = proper_in_form })

taken_proper : (ts : List Taken) → AllByRecursion AreProper ts → (command : List ℕ) (message : Data)
    → IfSome (taken_among ts command message) (λ body. IsBodyOf command body × (has_numbers body ≡ true))
taken_proper [] h command message = no_body (list_any (bytes_eq command) without_body) refl where
  no_body : (b : Bool) → list_any (bytes_eq command) without_body ≡ b
      → IfSome (if b then Some kind.Empty else None) (λ body. IsBodyOf command body × (has_numbers body ≡ true))
  no_body true e = (e, refl)
  no_body false e = tt
taken_proper (t ∷ ts) h command message = by_name (bytes_eq command t.command) refl (taken_proper ts h.1 command message) where
  by_name : (b : Bool) → bytes_eq command t.command ≡ b
      → IfSome (taken_among ts command message) (λ body. IsBodyOf command body × (has_numbers body ≡ true))
      → IfSome (if b then t.found message else taken_among ts command message) (λ body. IsBodyOf command body × (has_numbers body ≡ true))
  by_name true e rest = rw ((bytes_eq-Decides command t.command).0 e) (h.0 message)
  by_name false e rest = rest

pub body_in-proper : (command : List ℕ) (message : Data)
    → IfSome (body_in command message) (λ body. IsBodyOf command body × (has_numbers body ≡ true))
body_in-proper command message = taken_proper all_taken all_proper command message
