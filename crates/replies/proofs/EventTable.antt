-- The table of events: each body is plain JSON, and a message that is an event is taken for it.
use Rattle.replies.proofs.Common.{[], AreTexts, arith, Bool, bytes_eq, Data, event_body, event_data, event_members, event_name, event_named, event_texts, false, Form, get, IfSome, if◌then◌else◌, IsPlain, IsPlain-is_simple, IsProperEvent, IsUtf8, IsUtf8-are_ascii, Lawful, List, member_if, None, object, Option, option_and_then, option_map, refl, Some, taken_among, true, ℕ, ◌∷◌, ◌≡◌}
use Rattle.std.proofs.Common.{codes}
use Rattle.replies.specs.declared.event.Event.{Event}
use Rattle.replies.specs.declared.event.Event.TheVariants.{Initialized, Stopped, Continued, Output, Exited, Terminated}
use Rattle.message_parts.specs.Stopped.{stopped}
use Rattle.message_parts.specs.Continued.{continued_body}
use Rattle.message_parts.specs.Output.{output}
use Rattle.message_parts.specs.Exited.{exited}
use Rattle.replies.specs.Events.{Taken, all_taken, formed}
use Rattle.replies.proofs.BodyTable.{IsGood, good}
use Rattle.replies.proofs.LawfulEvents.{lawful_stopped, lawful_output, lawful_exited}

pub IsGood-event_body : (event : Event) → IfSome (event_body event) IsGood
IsGood-event_body Initialized = tt
IsGood-event_body (Stopped body) = good stopped lawful_stopped (omega arith) body
IsGood-event_body Continued = record { shallow = omega arith; no_float = refl; ordered = refl }
IsGood-event_body (Output body) = good output lawful_output (omega arith) body
IsGood-event_body (Exited body) = good exited lawful_exited (omega arith) body
IsGood-event_body Terminated = tt

pub IsPlain-event_body : (event : Event) → IsProperEvent event → AreTexts (event_texts event) → IfSome (event_body event) IsPlain
IsPlain-event_body Initialized h texts = tt
IsPlain-event_body (Stopped body) h texts = lawful_stopped.plain body h texts
IsPlain-event_body Continued h texts = IsPlain-is_simple continued_body refl
IsPlain-event_body (Output body) h texts = lawful_output.plain body h texts
IsPlain-event_body (Exited body) h texts = lawful_exited.plain body h texts
IsPlain-event_body Terminated h texts = tt

-- the names are ASCII
pub text-event_name : (event : Event) → IsUtf8 (event_name event)
text-event_name Initialized = IsUtf8-are_ascii (codes "initialized") refl
text-event_name (Stopped body) = IsUtf8-are_ascii (codes "stopped") refl
text-event_name Continued = IsUtf8-are_ascii (codes "continued") refl
text-event_name (Output body) = IsUtf8-are_ascii (codes "output") refl
text-event_name (Exited body) = IsUtf8-are_ascii (codes "exited") refl
text-event_name Terminated = IsUtf8-are_ascii (codes "terminated") refl

-- ---- a message that is the event

-- an event with this body, if it has one
abbrev pub with_body : ℕ → List ℕ → Option Data → Data
with_body seq name body = object (member_if (codes "body") (λ d. d) body (event_members seq name))

formed_back : {n : ℕ} {A : Type 0} (name : List ℕ) (form : Form A) (make : A → Event) → Lawful n form → (seq : ℕ) (x : A)
    → form.is_in x ≡ true
    → (formed name form make).found (with_body seq name (Some (form.value x))) ≡ Some (make x)
formed_back name form make h seq x e = rw (h.back x e) refl

pub event_named-event_data : (seq : ℕ) (event : Event) → IsProperEvent event
    → event_named (event_name event) (event_data seq event) ≡ Some event
event_named-event_data seq Initialized e = refl
event_named-event_data seq (Stopped body) e = formed_back (codes "stopped") stopped (λ x. Stopped x) lawful_stopped seq body e
event_named-event_data seq Continued e = refl
event_named-event_data seq (Output body) e = formed_back (codes "output") output (λ x. Output x) lawful_output seq body e
event_named-event_data seq (Exited body) e = formed_back (codes "exited") exited (λ x. Exited x) lawful_exited seq body e
event_named-event_data seq Terminated e = refl

-- ---- what is taken for an event is one

-- the numbers of what is found are in their ranges
abbrev AreProper : Taken → Type 0
AreProper t = (message : Data) → IfSome (t.found message) IsProperEvent

abbrev AllProper : List Taken → Type 0
AllProper [] = Unit {0}
AllProper (t ∷ ts) = AreProper t × AllProper ts

formed_proper : {n : ℕ} {A : Type 0} (name : List ℕ) (form : Form A) (make : A → Event) → Lawful n form
    → ((x : A) → form.is_in x ≡ true → IsProperEvent (make x)) → AreProper (formed name form make)
formed_proper {n} {A} name form make h proper message = there (get (codes "body") message) where
  made : (o : Option A) → IfSome o (λ x. form.is_in x ≡ true) → IfSome (option_map make o) IsProperEvent
  made None k = tt
  made (Some x) k = proper x k

  there : (o : Option Data) → IfSome (option_map make (option_and_then form.found o)) IsProperEvent
  there None = tt
  there (Some d) = made (form.found d) (h.kept d)

all_proper : AllProper all_taken
all_proper = (
  λ message. refl,
  (
    formed_proper (codes "stopped") stopped (λ x. Stopped x) lawful_stopped (λ x h. h),
    (
      λ message. refl,
      (
        formed_proper (codes "output") output (λ x. Output x) lawful_output (λ x h. h),
        (formed_proper (codes "exited") exited (λ x. Exited x) lawful_exited (λ x h. h), (λ message. refl, tt)),
      ),
    ),
  ),
)

taken_proper : (ts : List Taken) → AllProper ts → (name : List ℕ) (message : Data) → IfSome (taken_among ts name message) IsProperEvent
taken_proper [] h name message = tt
taken_proper (t ∷ ts) h name message = by_name (bytes_eq name t.name) (taken_proper ts h.1 name message) where
  by_name : (b : Bool) → IfSome (taken_among ts name message) IsProperEvent
      → IfSome (if b then t.found message else taken_among ts name message) IsProperEvent
  by_name true rest = h.0 message
  by_name false rest = rest

pub event_named-proper : (name : List ℕ) (message : Data) → IfSome (event_named name message) IsProperEvent
event_named-proper name message = taken_proper all_taken all_proper name message
