-- A reference is answered in its stop and on its connection, and is stale after that.
use Rattle.session_laws.proofs.Common.{[], All, All-head, All-tail, answer_by, ap, arith, Beginning, Bool, Command, Debugged, demand, demand_of, Done, eqb, eqb-false, eqb-true, Err, Evaluate, false, first_refusal, found_among, found_in, given_of, Happened, if_keeps, IfSome, inl, InOrder, inr, is_of_other_kind, IsStale, IsUnknown, Link, List, looks_on, map, MatchBool, negsuc, next_after, None, Now, Ok, Option, outcome_next, Phase, pos, Program, Reached, Reference, reference_in, ReferencesAreGood, ReferencesLast, refl, Refusal, refusals, Refused, Replied as Outcome, Request, ResponseBody, Result, result_err, Run, run_of, same_Some, Scopes, Session, set_in, SetVariable, SetVariableArguments, shows_by, slice_get, Some, subst, suc, success_of, sym, Target, Terms, true, unless_refused, valued, Variables, WasIssued, without_connection, zero, ℕ, ℤ, ⊤, ◌+◌, ◌↔◌, ◌∙◌, ◌∷◌, ◌≡◌}
use Rattle.answers.specs.Expressions.{expression_of}
use Rattle.answers.specs.Targets.{if_frame, refused, target_of}
use Rattle.protocol.specs.declared.evaluate.EvaluateArguments.{EvaluateArguments}
use Rattle.protocol.specs.declared.refusal.Refusal.TheVariants as refusal
use Rattle.protocol.specs.declared.request.Request.{Request as ARequest}
use Rattle.queues.specs.declared.pending.Fate.{Fate}
use Rattle.handlers.specs.SetVariable.{sets_by, sets_on}
use Rattle.session_laws.proofs.Issuing.{IsMade, Refers, always_refers}
use Rattle.variables.specs.declared.error.FindError.{FindError}
use Rattle.variables.specs.declared.error.FindError.TheVariants.{Unknown, Stale}

-- ---- what is found of all that were issued

-- a reference among some, by its place
abbrev At : List Reference → (Reference → Type 0) → Type 0
At issued P = (r : Reference) × (place : ℕ) × ((slice_get issued place ≡ Some r) × P r)

later : (P : Reference → Type 0) (r : Reference) (issued : List Reference) → At issued P → At (r ∷ issued) P
later P r issued a = (a.0, suc a.1, a.2)

-- what a find says
abbrev Says : ℕ → ℕ → List Reference → Result Target FindError → Type 0
Says stop number issued (Ok t) = At issued (λ r. (r.number ≡ number) × ((r.stop ≡ stop) × (r.target ≡ t)))
Says stop number issued (Err Stale) = At issued (λ r. (r.number ≡ number) × (r.stop ≡ stop → ⊥))
Says stop number issued (Err Unknown) = At issued (λ r. r.number ≡ number) → ⊥

says_more : (stop number : ℕ) (r : Reference) (issued : List Reference) (x : Result Target FindError) → (r.number ≡ number → ⊥)
    → Says stop number issued x → Says stop number (r ∷ issued) x
says_more stop number r issued (Ok t) other h = later (λ r. (r.number ≡ number) × ((r.stop ≡ stop) × (r.target ≡ t))) r issued h
says_more stop number r issued (Err Stale) other h = later (λ r. (r.number ≡ number) × (r.stop ≡ stop → ⊥)) r issued h
says_more stop number r issued (Err Unknown) other h = not_here where
  not_here : At (r ∷ issued) (λ r. r.number ≡ number) → ⊥
  not_here (q, zero, (there, is)) = other (subst (λ (x : Reference). x.number ≡ number) (sym (same_Some r q there)) is)
  not_here (q, suc place, rest) = h (q, place, rest)

finds_so : (stop number : ℕ) (issued : List Reference) → Says stop number issued (found_among stop number (map without_connection issued))
finds_so stop number [] = λ a. absurd (let no : None ≡ Some a.0 = a.2.0 in cc)
finds_so stop number (r ∷ issued) =
    if_keeps (Says stop number (r ∷ issued)) (eqb r.number number) _ _
    (λ e. let is : r.number ≡ number = eqb-true r.number number e in
    if_keeps (Says stop number (r ∷ issued)) (eqb r.stop stop) _ _
    (λ f. (r, 0, (refl, (is, (eqb-true r.stop stop f, refl))))) (λ f. (r, 0, (refl, (is, eqb-false r.stop stop f)))))
    (λ e. says_more stop number r issued (found_among stop number (map without_connection issued)) (eqb-false r.number number e)
    (finds_so stop number issued))

-- ---- no two references have one number

number_at : (stop : ℕ) (issued : List Reference) → InOrder stop (map without_connection issued) → (place : ℕ) (r : Reference)
    → slice_get issued place ≡ Some r → r.number + suc place ≡ next_after (map without_connection issued)
number_at stop [] o place r e = cc
number_at stop (i ∷ issued) o zero r e = grind arith
number_at stop (i ∷ issued) o (suc place) r e = grind (arith, number_at i.stop issued o.1.1 place r e)

same_reference : (stop : ℕ) (issued : List Reference) → InOrder stop (map without_connection issued) → (j k : ℕ) (q r : Reference)
    → slice_get issued j ≡ Some q → slice_get issued k ≡ Some r → q.number ≡ r.number → q ≡ r
same_reference stop issued o j k q r e f same =
    let first = number_at stop issued o j q e in
    let second = number_at stop issued o k r f in
    let place : j ≡ k = omega (arith, first, second, same) in
    same_Some q r (sym e ∙ ap (slice_get issued) place ∙ f)

-- ---- what a number refers to in a session

all_at : {A : Type 0} (P : A → Type 0) (xs : List A) → All P xs → (k : ℕ) (x : A) → slice_get xs k ≡ Some x → P x
all_at P [] h k x e = absurd (cc)
all_at P (y ∷ xs) h zero x e = subst P (same_Some y x e) (All-head P y xs h)
all_at P (y ∷ xs) h (suc k) x e = all_at P xs (All-tail P y xs h) k x e

-- it was issued, and this is so of it too
weaker : {s : Session} {P Q : Reference → Type 0} (w : WasIssued s P) → Q w.reference → WasIssued s Q
weaker w so = record { reference = w.reference; place = w.place; there = w.there; so = so }

-- what is known of a number that refers so
abbrev Knows : Session → ℤ → Result Target Refusal → Type 0
Knows s number (Ok t) = WasIssued s (λ r. (number ≡ pos r.number) × ((r.stop ≡ s.references.stop) × (r.target ≡ t)))
Knows s number (Err refusal.StaleReference) = IsStale s number
Knows s number (Err refusal.UnknownReference) = WasIssued s (λ r. number ≡ pos r.number) → ⊥
Knows s number (Err other) = ⊥

same_pos : (m n : ℕ) → pos m ≡ pos n → m ≡ n
same_pos m n e = cc

known : (s : Session) → Refers s → (number : ℕ) (x : Result Target FindError) → Says s.references.stop number s.references.issued x
    → Knows s (pos number) (refused x)
known s h number (Ok t) a = record { reference = a.0; place = a.1; there = a.2.0; so = (ap pos (sym a.2.1.0), a.2.1.1) }
known s h number (Err Stale) a =
    let least = (all_at (IsMade s.now.link s.now.connections s.references.stop) s.references.issued h.made a.1 a.0 a.2.0).0 in
    let differ = a.2.1.1 in
    record { reference = a.0; place = a.1; there = a.2.0; so = (ap pos (sym a.2.1.0), omega (arith, least, differ)) }
known s h number (Err Unknown) a = λ w. a (w.reference, w.place, (w.there, sym (same_pos number w.reference.number w.so)))

knows : (s : Session) → Refers s → (number : ℤ) → Knows s number (target_of s.now.numbers number)
knows s h (pos number) =
    known s h number (found_in s.now.numbers number)
    (rw (h.stands.finds number) (finds_so s.references.stop number s.references.issued))
knows s h (negsuc number) = λ w. absurd (let no : negsuc number ≡ pos w.reference.number = w.so in cc)

-- two that were issued under one number are one
one_reference : (s : Session) → Refers s → (number : ℤ) (P Q : Reference → Type 0) (a : WasIssued s P) (b : WasIssued s Q)
    → number ≡ pos a.reference.number → number ≡ pos b.reference.number → a.reference ≡ b.reference
one_reference s h number P Q a b e f =
    same_reference s.references.stop s.references.issued h.stands.order a.place b.place a.reference b.reference a.there b.there
    (same_pos a.reference.number b.reference.number (sym e ∙ f))

not_both : (s : Session) → Refers s → (number : ℤ) (P : Reference → Type 0) (good : WasIssued s P) → number ≡ pos good.reference.number
    → good.reference.stop ≡ s.references.stop → IsStale s number → ⊥
not_both s h number P good is now stale =
    let same : good.reference.stop ≡ stale.reference.stop =
    ap (λ (r : Reference). r.stop) (one_reference s h number P _ good stale is stale.so.0) in
    let before = stale.so.1 in
    absurd (omega (arith, same, now, before))

-- ---- what is answered

abbrev is_about : Refusal → Bool
is_about refusal.StaleReference = true
is_about refusal.UnknownReference = true
is_about other = false

-- it says nothing of a reference
abbrev IsOther : Outcome → Type 0
IsOther (Done body) = ⊤
IsOther (Refused why text) = is_about why ≡ false

-- an outcome says of a reference what it refers to
abbrev Speaks : Command → Result Target Refusal → Outcome → Type 0
Speaks command (Err why) outcome = outcome ≡ Refused why None
Speaks command (Ok t) outcome = MatchBool (is_of_other_kind command t) (outcome ≡ Refused refusal.UnknownReference None) (IsOther outcome)

-- nor does a refusal, where there is one
abbrev IsOtherIf : {X : Type 0} → Result X Refusal → Type 0
IsOtherIf (Ok x) = ⊤
IsOtherIf (Err why) = is_about why ≡ false

module _ (now : Now) (terms : Terms) where
  evaluate_speaks : (arguments : EvaluateArguments) (answer : Result ResponseBody Refusal) (found : Result Target Refusal) → IsOtherIf answer
      → Speaks (Evaluate arguments) found (shows_by (given_of now) terms (unless_refused (result_err (if_frame found)) answer) []).outcome
  evaluate_speaks arguments answer found h = grind arith

  set_speaks : (machine : Debugged) (arguments : SetVariableArguments) (found : Result Target Refusal)
      → Speaks (SetVariable arguments) found (sets_by (given_of now) terms (set_in arguments machine found)).outcome
  set_speaks machine arguments found = grind arith

  -- ---- every such request

  -- it wants the program to stand still, and says what its number refers to
  Answers : Option (List ℕ) → Command → ℤ → Type 0
  Answers file c number = (demand_of c ≡ demand) × ((p : Program) → now.debuggee.program ≡ Some p
      → Speaks c (target_of now.numbers number) (success_of (given_of now) terms file c).outcome)

  looked : (c : Command) (found : Result Target Refusal) (p : Program) → now.debuggee.program ≡ Some p
      → Speaks c found (looks_on (Some p) (given_of now) terms c).outcome
      → Speaks c found (looks_on now.debuggee.program (given_of now) terms c).outcome
  looked c found p is h = subst (λ (x : Option Program). Speaks c found (looks_on x (given_of now) terms c).outcome) (sym is) h

  evaluated : (file : Option (List ℕ)) (arguments : EvaluateArguments) (id : Option ℤ) → arguments.frame_id ≡ id
      → IfSome id (Answers file (Evaluate arguments))
  unfolding Answers
  evaluated file arguments None e = tt
  evaluated file arguments (Some number) e = (
    refl,
    λ p is.
        let answer = valued (expression_of arguments.expression) p.machine.hart p.machine.memory in
        looked (Evaluate arguments) (target_of now.numbers number) p is
        (rw e (evaluate_speaks arguments answer (target_of now.numbers number)
        (grind arith))),
  )

  answers : (file : Option (List ℕ)) (c : Command) → IfSome (reference_in c) (Answers file c)
  unfolding Answers
  answers file (Scopes arguments) =
      let found = target_of now.numbers arguments.frame_id in
      (refl, λ p is. looked (Scopes arguments) found p is (grind arith))
  answers file (Variables arguments) =
      let found = target_of now.numbers arguments.variables_reference in
      (refl, λ p is. looked (Variables arguments) found p is (grind arith))
  answers file (SetVariable arguments) =
      let found = target_of now.numbers arguments.variables_reference in (
        refl,
        λ p is. subst (λ (x : Option Program). Speaks (SetVariable arguments) found (sets_on x (given_of now) terms arguments).outcome)
            (sym is) (set_speaks p.machine arguments found),
      )
  answers file (Evaluate arguments) = evaluated file arguments arguments.frame_id refl
  answers file other = tt

-- ---- reasons that come before

abbrev FirstIsOther : Option Refusal → Type 0
FirstIsOther None = ⊤
FirstIsOther (Some why) = is_about why ≡ false

before_is_other : (run : Option Run) (phase : Phase) (r : ARequest) (fate : Fate)
    → FirstIsOther (first_refusal (refusals run phase (record { ask = Request r; fate = fate })))
before_is_other run phase r fate = grind arith

-- where none applies, there is a program
has_program : (program : Option Program) (phase : Phase) (r : ARequest) (fate : Fate) → demand_of r.command ≡ demand
    → first_refusal (refusals (run_of program) phase (record { ask = Request r; fate = fate })) ≡ None → (p : Program) × (program ≡ Some p)
has_program (Some p) phase r fate stops e = (p, refl)
has_program None phase r fate stops e = absurd (grind arith)

-- ---- the law

same_refusal : (x y : Refusal) → Refused x None ≡ Refused y None → x ≡ y
same_refusal x y e = cc

module _ (s : Session) (h : Refers s) (link : Link) (file : Option (List ℕ)) (r : ARequest) (fate : Fate) (number : ℤ) where
  abbrev before : Option Refusal
  before = first_refusal (refusals (run_of s.now.debuggee.program) link.terms.phase (record { ask = Request r; fate = fate }))

  -- where it is refused, by what the refusal says
  good_refusal : (why : Refusal) → outcome_next s link file r fate ≡ Refused why None
      → (why ≡ refusal.StaleReference) ↔ ((before ≡ None) × IsStale s number)
      → (why ≡ refusal.UnknownReference) ↔ ((before ≡ None) × IsUnknown s r.command number) → ReferencesAreGood s link file r fate number
  good_refusal why out stale unknown = record {
    good = λ body e. absurd (let no : Refused why None ≡ Done body = sym out ∙ e in cc);
    stale = (
      λ e. stale.0 (same_refusal why refusal.StaleReference (sym out ∙ e)),
      λ both. out ∙ ap (λ (w : Refusal). Refused w None) (stale.1 both),
    );
    unknown = (
      λ e. unknown.0 (same_refusal why refusal.UnknownReference (sym out ∙ e)),
      λ both. out ∙ ap (λ (w : Refusal). Refused w None) (unknown.1 both),
    );
  }

  -- where none comes before, by what the number refers to
  good_of : (other_kind : Bool) (t : Target) → is_of_other_kind r.command t ≡ other_kind → before ≡ None → Knows s number (Ok t)
      → MatchBool other_kind (outcome_next s link file r fate ≡ Refused refusal.UnknownReference None) (IsOther (outcome_next s link file r fate))
      → ReferencesAreGood s link file r fate number
  good_of true t kind first good out =
      good_refusal refusal.UnknownReference out
      (λ e. absurd (cc), λ both. absurd (not_both s h number _ good good.so.0 good.so.1.0 both.1))
      (λ e. (first, inr (weaker good (good.so.0, (good.so.1.0, ap (is_of_other_kind r.command) good.so.1.1 ∙ kind)))), λ both. refl)
  good_of false t kind first good out = record {
    good = λ body e. weaker good (
      good.so.0,
      (
        good.so.1.0,
        ((all_at (IsMade s.now.link s.now.connections s.references.stop) s.references.issued h.made good.place good.reference good.there).1 good.so.1.0).1,
      ),
    );
    stale = (
      λ e. absurd (let no : true ≡ false = subst IsOther e out in cc),
      λ both. absurd (not_both s h number _ good good.so.0 good.so.1.0 both.1),
    );
    unknown = (
      λ e. absurd (let no : true ≡ false = subst IsOther e out in cc),
      λ both. absurd (unknown_not both.1),
    );
  } where
    unknown_not : IsUnknown s r.command number → ⊥
    unknown_not (inl never) = never (weaker good good.so.0)
    unknown_not (inr other) =
        let one = one_reference s h number _ _ good other good.so.0 other.so.0 in
        let no : false ≡ true = sym kind ∙ ap (is_of_other_kind r.command) (sym good.so.1.1 ∙ ap (λ (x : Reference). x.target) one)
        ∙ other.so.1.1 in
        cc

  good_by : (found : Result Target Refusal) → Knows s number found → before ≡ None
      → Speaks r.command found (outcome_next s link file r fate) → ReferencesAreGood s link file r fate number
  good_by (Ok t) k first out = good_of (is_of_other_kind r.command t) t refl first k out
  good_by (Err refusal.StaleReference) k first out =
      good_refusal refusal.StaleReference out (λ e. (first, k), λ both. refl) (λ e. absurd (cc), λ both. absurd (unknown_not both.1)) where
        unknown_not : IsUnknown s r.command number → ⊥
        unknown_not (inl never) = never (weaker k k.so.0)
        unknown_not (inr other) = not_both s h number _ other other.so.0 other.so.1.0 k
  good_by (Err refusal.UnknownReference) k first out =
      good_refusal refusal.UnknownReference out (λ e. absurd (cc), λ both. absurd (k (weaker both.1 both.1.so.0)))
      (λ e. (first, inl k), λ both. refl)
  good_by (Err other) k first out = absurd k

  good_next : Answers s.now link.terms file r.command number → (x : Option Refusal) → before ≡ x → ReferencesAreGood s link file r fate number
  unfolding Answers
  good_next says (Some why) e =
      good_refusal why (ap
      (λ (x : Option Refusal). (answer_by (record { given = given_of s.now; terms = link.terms; file = file }) x (Request r)).outcome) e)
      (λ same. absurd (not_about refusal.StaleReference same refl), λ both. absurd (let no : Some why ≡ None = sym e ∙ both.0 in cc))
      (λ same. absurd (not_about refusal.UnknownReference same refl), λ both. absurd (let no : Some why ≡ None = sym e ∙ both.0 in cc)) where
        not_about : (w : Refusal) → why ≡ w → is_about w ≡ true → ⊥
        not_about w same about =
            let other : is_about why ≡ false = subst FirstIsOther e (before_is_other (run_of s.now.debuggee.program) link.terms.phase r fate) in
            let no : true ≡ false = sym (ap is_about same ∙ about) ∙ other in
            cc
  good_next says None e =
      let there = has_program s.now.debuggee.program link.terms.phase r fate says.0 e in
      good_by (target_of s.now.numbers number) (knows s h number) e
      (subst (Speaks r.command (target_of s.now.numbers number)) (sym (ap
      (λ (x : Option Refusal). (answer_by (record { given = given_of s.now; terms = link.terms; file = file }) x (Request r)).outcome) e))
      (says.1 there.0 there.1))

pub references_last : (from : Beginning) (events : List Happened) → ReferencesLast (Reached from events)
references_last from events link file r fate number is_link named =
    let s = Reached from events in
    good_next s (always_refers from events) link file r fate number
    (subst (λ (x : Option ℤ). IfSome x (Answers s.now link.terms file r.command)) named (answers s.now link.terms file r.command)) _ refl
