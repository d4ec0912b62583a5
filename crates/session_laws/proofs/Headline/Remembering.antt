-- What was so at each message was so at the last one of any prefix; and what is known stays, whatever is asked later.
use Rattle.session_laws.proofs.Headline.Common.{[], All, All-cons, All-head, All-nil, All-tail, answered, ap, arith, Ask, Asked, asked_of, Facts, first_asked, folded, frame_said, Holds, if_keeps, is_success, IsKnownIn, known_after, last_seen, length, List, Message, nat_le, Option, option_map, PrintsRunning, refl, Refused, remembered, Replied as Outcome, Request as ARequest, Said, shown, Snapshot, Some, told_within, true, WasSo, ℕ, ⊤, ◌++◌, ◌-◌, ◌∙◌, ◌∷◌, ◌≡◌}
use Rattle.session_laws.proofs.Headline.Knowing.{first_more}

-- ---- messages one after the other

-- what is known after a message was so when it was queued; and output was told of a program that ran
abbrev pub HoldsAfter : Facts → Message → Snapshot → Type 0
HoldsAfter f m seen = Holds f (shown seen) × PrintsRunning m seen.debuggee

-- so it is of each of these messages
abbrev pub AllHold : (ℕ → Option Asked) → Facts → List Said → Type 0
AllHold asked f [] = ⊤
AllHold asked f (m ∷ said) = HoldsAfter (folded asked f m.message) m.message m.snapshot × AllHold asked (folded asked f m.message) said

pub within_was_so : (asked : ℕ → Option Asked) (f : Facts) (said : List Said) (count : ℕ) (before : Option Snapshot) → WasSo f before
    → AllHold asked f said
    → WasSo (known_after asked f (told_within count said)) (last_seen before (told_within count said))
within_was_so asked f [] count before so h = so
within_was_so asked f (m ∷ said) count before so h =
    if_keeps (λ (told : List Said). WasSo (known_after asked f told) (last_seen before told)) (nat_le (length (frame_said m)) count) _ _
    (λ _. within_was_so asked (folded asked f m.message) said (count - length (frame_said m)) (Some m.snapshot) h.0.0 h.1)
    (λ _. so)

-- messages more
pub known_append : (asked : ℕ → Option Asked) (f : Facts) (xs ys : List Said)
    → known_after asked f (xs ++ ys) ≡ known_after asked (known_after asked f xs) ys
known_append asked f [] ys = refl
known_append asked f (m ∷ xs) ys = known_append asked (folded asked f m.message) xs ys

pub all_hold_more : (asked : ℕ → Option Asked) (f : Facts) (said : List Said) (m : Said) → AllHold asked f said
    → HoldsAfter (folded asked (known_after asked f said) m.message) m.message m.snapshot
    → AllHold asked f (said ++ m ∷ [])
all_hold_more asked f [] m h so = (so, tt)
all_hold_more asked f (x ∷ said) m h so = (h.0, all_hold_more asked (folded asked f x.message) said m h.1 so)

pub all_print : (asked : ℕ → Option Asked) (f : Facts) (said : List Said) → AllHold asked f said
    → All (λ (m : Said). PrintsRunning m.message m.snapshot.debuggee) said
all_print asked f [] h = All-nil (λ (m : Said). PrintsRunning m.message m.snapshot.debuggee)
all_print asked f (m ∷ said) h =
    All-cons (λ (m : Said). PrintsRunning m.message m.snapshot.debuggee) m said h.0.1 (all_print asked (folded asked f m.message) said h.1)

-- ---- whatever is asked later

-- what is remembered of a request that is the first of its number
pub remembers : (asks : List Ask) (number : ℕ) (r : ARequest) → first_asked asks number ≡ Some r
    → remembered asks number ≡ Some (asked_of r.command)
remembers asks number r e = ap (λ (x : Option ARequest). option_map (λ (q : ARequest). asked_of q.command) x) e

-- a refusal tells nothing
pub refused_tells : (asked : Option Asked) (refusal : _) (text : _) (f : Facts) → answered asked (Refused refusal text) f ≡ f
refused_tells _ refusal text f = grind arith

-- only what a success answers matters
pub answers_same : (a b : Option Asked) (outcome : Outcome) (f : Facts) → (is_success outcome ≡ true → a ≡ b)
    → answered a outcome f ≡ answered b outcome f
answers_same a b outcome f same = grind (arith, refused_tells)

folded_same : (asks more : List Ask) (f : Facts) (m : Message) → IsKnownIn asks m
    → folded (remembered (asks ++ more)) f m ≡ folded (remembered asks) f m
folded_same asks more f m k = grind (arith, first_more, refused_tells)

abbrev AllKnownBy : List Ask → List Said → Type 0
AllKnownBy asks said = All (λ (m : Said). IsKnownIn asks m.message) said

pub known_same : (asks more : List Ask) (f : Facts) (said : List Said) → AllKnownBy asks said
    → known_after (remembered (asks ++ more)) f said ≡ known_after (remembered asks) f said
known_same asks more f [] k = refl
known_same asks more f (m ∷ said) k =
    ap (λ (g : Facts). known_after (remembered (asks ++ more)) g said)
    (folded_same asks more f m.message (All-head (λ (m : Said). IsKnownIn asks m.message) m said k))
    ∙ known_same asks more (folded (remembered asks) f m.message) said (All-tail (λ (m : Said). IsKnownIn asks m.message) m said k)

pub all_hold_same : (asks more : List Ask) (f : Facts) (said : List Said) → AllKnownBy asks said → AllHold (remembered asks) f said
    → AllHold (remembered (asks ++ more)) f said
all_hold_same asks more f [] k h = tt
all_hold_same asks more f (m ∷ said) k h =
    let rest = All-tail (λ (m : Said). IsKnownIn asks m.message) m said k in
    rw (folded_same asks more f m.message (All-head (λ (m : Said). IsKnownIn asks m.message) m said k))
    (h.0, all_hold_same asks more (folded (remembered asks) f m.message) said rest h.1)
