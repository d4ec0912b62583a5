-- What is kept of references represents all that were ever issued, each on its connection.
use Rattle.session_laws.proofs.Common.{[], All, All-cons, All-nil, All-weaker, ap, arith, Beginning, Call, Close, down_from, Happened, issued_all, issued_one, length-map, Link, List, map, None, Numbers, Open, Option, past_of, past_referred, performed_on, Reached, reached_by_acts, Refer, Reference, References, references_ended as ended, ReferencesRise, ReferencesStand, referred, refl, Session, Some, StandsFor, subst, sym, Target, unless_issued, without_connection, ℕ, ⊤, ◌+◌, ◌∙◌, ◌∷◌, ◌≡◌, ◌≤◌}
use Rattle.session_laws.proofs.ByForms.{KeptByAnswers, KeptByOthers, by_forms, on}
use Rattle.variables.specs.Laws.Call.{EndStop, Issue}
use Rattle.variables.specs.References as variables
use Rattle.variables.specs.References.{Issued, Past, next_number, number_of}
use Rattle.variables.proofs.Calls.{Falls, falls}
use Rattle.variables.proofs.Standing.{all_stand, ended_stands, nothing_stands}

-- none is of a later stop, and what is of this one came on this connection
abbrev pub Here : Option Link → Type 0
Here None = ⊥
Here (Some link) = ⊤

abbrev pub IsMade : Option Link → ℕ → ℕ → Reference → Type 0
IsMade link connection stop r = (r.stop ≤ stop) × (r.stop ≡ stop → Here link × (r.connection ≡ connection))

abbrev pub AreMade : Option Link → ℕ → References → Type 0
AreMade link connection all = All (IsMade link connection all.stop) all.issued

-- ---- what is issued: without the connections it is the same, and it is issued on its connection

issued_one_so : (number : Option ℕ) (link : Link) (connection : ℕ) (all : References) (target : Target) → AreMade (Some link) connection all
    → let after = unless_issued number connection all target in
    (past_of after ≡ variables.unless_issued number (past_of all) target) × AreMade (Some link) connection after
issued_one_so None link connection all target h =
    let made : Reference → Type 0 = IsMade (Some link) connection all.stop in (
      refl,
      All-cons made (record { number = next_number (past_of all); target = target; stop = all.stop; connection = connection }) all.issued
          (let same : all.stop ≤ all.stop = omega arith in same, λ same. (tt, refl)) h,
    )
issued_one_so (Some number) link connection all target h = (refl, h)

issued_so : (link : Link) (connection : ℕ) (all : References) (targets : List Target) → AreMade (Some link) connection all
    → let after = issued_all connection all targets in
    (past_of after ≡ variables.issued_all (past_of all) targets) × AreMade (Some link) connection after
issued_so link connection all [] h = (refl, h)
issued_so link connection all (target ∷ others) h =
    let one = issued_one_so (number_of (past_of all) target) link connection all target h in
    let rest = issued_so link connection (issued_one connection all target) others one.1 in
    (rest.0 ∙ ap (λ (past : Past). variables.issued_all past others) one.0, rest.1)

made_ended : (link other : Option Link) (connection : ℕ) (all : References) → AreMade link connection all
    → AreMade other connection (ended all)
made_ended link other connection all h =
    All-weaker (IsMade link connection all.stop) (IsMade other connection (all.stop + 1))
    (λ r made. let least = made.0 in (omega (arith, least), λ same. absurd (omega (arith, least, same)))) all.issued h

referred_so : (call : Option Call) (link : Link) (connection : ℕ) (numbers : Numbers) (all : References) → StandsFor numbers (past_of all)
    → AreMade (Some link) connection all → let after = past_referred connection call all in
    StandsFor (referred call numbers) (past_of after) × AreMade (Some link) connection after
referred_so None link connection numbers all stands made = (stands, made)
referred_so (Some (Issue targets)) link connection numbers all stands made =
    let so = issued_so link connection all targets made in
    (subst (StandsFor _) (sym so.0) (all_stand numbers (past_of all) targets stands), so.1)
referred_so (Some EndStop) link connection numbers all stands made =
    (ended_stands numbers (past_of all) stands, made_ended (Some link) (Some link) connection all made)

-- on a connection that begins, nothing was issued
made_opened : (here : Type 0) (connection other : ℕ) (all : References) → AreMade None connection all
    → All (λ (r : Reference). (r.stop ≤ all.stop) × (r.stop ≡ all.stop → here × (r.connection ≡ other))) all.issued
made_opened here connection other all h =
    All-weaker (IsMade None connection all.stop)
    (λ (r : Reference). (r.stop ≤ all.stop) × (r.stop ≡ all.stop → here × (r.connection ≡ other)))
    (λ r made. (made.0, λ same. absurd (made.1 same).0)) all.issued h

-- ---- every session

pub record Refers (s : Session) : Type 0 where
  pub stands : StandsFor s.now.numbers (past_of s.references)
  pub made : AreMade s.now.link s.now.connections s.references

opens : (s : Session) → Refers (on None s) → Refers (performed_on Open (on None s))
opens s h = assumption (made_opened ⊤ s.now.connections (s.now.connections + 1) s.references h.made)

closes : (s : Session) → Refers s → Refers (performed_on Close s)
closes s h =
    assumption (
      ended_stands s.now.numbers (past_of s.references) h.stands,
      made_ended s.now.link None s.now.connections s.references h.made,
    )

issues : (l : Link) (call : Option Call) (s : Session) → Refers (on (Some l) s) → Refers (performed_on (Refer call) (on (Some l) s))
issues l call s h = assumption (referred_so call l s.now.connections s.now.numbers s.references h.stands h.made)

-- the other acts change neither
refers : KeptByOthers Refers
refers = assumption (opens, closes, issues)

refers_answers : KeptByAnswers Refers
refers_answers = assumption

pub always_refers : (from : Beginning) (events : List Happened) → Refers (Reached from events)
always_refers from events =
    reached_by_acts Refers (by_forms Refers refers refers_answers) from
    (record { stands = nothing_stands from.limits.last_ref; made = All-nil (IsMade None 0 0) }) events

-- ---- numbers rise

same_numbers : (issued : List Reference)
    → map (λ (i : Issued). i.number) (map without_connection issued) ≡ map (λ (r : Reference). r.number) issued
same_numbers [] = refl
same_numbers (r ∷ issued) = ap (λ (l : List ℕ). r.number ∷ l) (same_numbers issued)

pub references_rise : (from : Beginning) (events : List Happened) → ReferencesRise (Reached from events)
references_rise from events =
    let s = Reached from events in
    let issued = s.references.issued in
    let h : Falls (map without_connection issued) = falls s.references.stop (map without_connection issued)
    (always_refers from events).stands.order in
    sym (same_numbers issued) ∙ h.numbers ∙ ap down_from (length-map issued without_connection)

pub references_stand : (from : Beginning) (events : List Happened) → ReferencesStand (Reached from events)
references_stand from events = (always_refers from events).stands
