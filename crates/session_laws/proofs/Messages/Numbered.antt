-- Each message has a number that the protocol can have.
use Rattle.session_laws.proofs.Messages.Common.{All, All-nil, All-push, arith, Beginning, each_life, Event, Happened, Life, life_of, Link, List, Message, nat_tests, None, Open, Pending, performed_on, Reached, reached_by_acts, refl, Response, response_to, Said, said_next, saying, Session, Some, Told, ℕ, ◌<◌, ◌∷◌, ◌≡◌, ◌≤◌}
use Rattle.session_laws.proofs.ByForms.{KeptByAnswers, KeptByOthers, by_forms, on, on_with}

abbrev pub IsIn : ℕ → Said → Type 0
IsIn last m = (1 ≤ m.seq) × (m.seq ≤ last)

abbrev pub AllIn : ℕ → Life → Type 0
AllIn last life = All (IsIn last) life.said

record Numbered (last : ℕ) (s : Session) : Type 0 where
  limit : s.now.limits.last_seq ≡ last
  before : All (AllIn last) s.before
  present : AllIn last s.life

module _ (last : ℕ) where
  says : (l : Link) (m : Message) (rest : List Pending) (s : Session) → l.seq < s.now.limits.last_seq → Numbered last s
      → Numbered last (saying l m rest (on (Some l) s))
  says l m rest s few h =
      assumption (All-push (IsIn last) s.life.said (said_next s.now l m) h.present (omega arith, omega (arith, h.limit, few)))

  opens : (s : Session) → Numbered last (on None s) → Numbered last (performed_on Open (on None s))
  opens s h = assumption (All-push (AllIn last) s.before s.life h.before h.present, All-nil (IsIn last))

  tells : (l : Link) (event : Told) (s : Session) → l.seq < s.now.limits.last_seq → Numbered last (on (Some l) s)
      → Numbered last (saying l (Event event) s.now.arrivals.pending (on (Some l) s))
  tells l event s few h = says l (Event event) s.now.arrivals.pending (on (Some l) s) few h

  others : KeptByOthers (Numbered last)
  others = assumption (opens, tells)

  answers : KeptByAnswers (Numbered last)
  answers l p rest outcome s few h = says l (Response (response_to p.ask outcome)) rest (on_with (Some l) (p ∷ rest) s) few h

pub record InRange (last : ℕ) (life : Life) : Type 0 where
  pub few : last ≤ 2147483647
  pub all : AllIn last life

pub in_range : (from : Beginning) (events : List Happened) (c : ℕ) → InRange from.limits.last_seq (life_of c (Reached from events))
in_range from events c =
    let last = from.limits.last_seq in
    let s = Reached from events in
    let h : Numbered last s = reached_by_acts (Numbered last) (by_forms (Numbered last) (others last) (answers last)) from
    (record { limit = refl; before = All-nil (AllIn last); present = All-nil (IsIn last) }) events in
    record { few = grind (arith, nat_tests, from.numbers); all = each_life (AllIn last) s (All-nil (IsIn last)) h.before h.present c }
