-- The events of the adapter, in one table.
--
-- An event tells the editor what no request asked for (DAP specification, `Event`): that the adapter is ready for the
-- editor's settings (`initialized`), that the machine stopped or continues, what the program printed or a logpoint
-- writes, that the program exited and with which code, and that it has ended (`terminated`). It has a name, and a body
-- or none. How each body is written stands in the file of its name.
--
-- The members of each object stand in byte order of their names.
use Rattle.std.specs.Prelude.{◌≡◌, ℕ, List, [], ◌∷◌, Bool, true, Option, Some, None, codes, if◌then◌else◌, bytes_eq}
use Rattle.std.specs.Prelude.{option_map}
use Rattle.serde_json.specs.Data.{Data, number, unsigned, string, object, Members, no_members, member}
use Rattle.serde_json.specs.Find.{get}
use Rattle.message_parts.specs.Forms.{Form, member_if}
use Rattle.message_parts.specs.Stopped.{stopped}
use Rattle.message_parts.specs.Continued.{continued_body}
use Rattle.message_parts.specs.Output.{output}
use Rattle.message_parts.specs.Exited.{exited}
use Rattle.protocol.specs.Properties.{◌>>=◌}
use Rattle.replies.specs.declared.event.Event.{Event}
use Rattle.replies.specs.declared.event.Event.TheVariants.{Initialized, Stopped, Continued, Output, Exited, Terminated}

-- an event: its name, the JSON value of its body if it has one, whether its numbers are in their ranges, and its texts
pub record Row : Type 0 where
  pub name : List ℕ
  pub value : Option Data
  pub has_numbers : Bool
  pub texts : List (List ℕ)

-- one without a body
abbrev pub bare : List ℕ → Row
bare name = record { name = name; value = None; has_numbers = true; texts = [] }

-- one whose body is always the same
abbrev pub always : List ℕ → Data → Row
always name value = record { name = name; value = Some value; has_numbers = true; texts = [] }

-- one with a body of this form
abbrev pub in_form : {A : Type 0} → List ℕ → Form A → A → Row
in_form name form x =
    record { name = name; value = Some (form.value x); has_numbers = form.is_in x; texts = form.texts x }

-- the table
abbrev pub row : Event → Row
row Initialized = bare (codes "initialized")
row (Stopped body) = in_form (codes "stopped") stopped body
row Continued = always (codes "continued") continued_body
row (Output body) = in_form (codes "output") output body
row (Exited body) = in_form (codes "exited") exited body
row Terminated = bare (codes "terminated")

-- the name of an event
abbrev pub event_name : Event → List ℕ
event_name event = (row event).name

-- its body, if it has one
abbrev pub event_body : Event → Option Data
event_body event = (row event).value

-- its texts
abbrev pub event_texts : Event → List (List ℕ)
event_texts event = (row event).texts

-- the members of every event
abbrev pub event_members : ℕ → List ℕ → Members
event_members seq name =
    member (codes "event") (string name)
    (member (codes "seq") (number (unsigned seq))
    (member (codes "type") (string (codes "event"))
    no_members))

-- an event with this number
abbrev pub event_data : ℕ → Event → Data
event_data seq event =
    object (member_if (codes "body") (λ d. d) (event_body event) (event_members seq (event_name event)))

-- an event of the adapter: its numbers are values of their types
abbrev pub IsProperEvent : Event → Type 0
IsProperEvent event = (row event).has_numbers ≡ true

-- ---- for `exact` of `read_message` and private clauses: which event a message claims to be

-- a message that names this event: what it is taken for
pub record Taken : Type 0 where
  pub name : List ℕ
  pub found : Data → Option Event

-- an event that has always the same body, or none
abbrev pub surely : Event → Taken
surely event = record { name = event_name event; found = λ _. Some event }

-- one with a body of this form
abbrev pub formed : {A : Type 0} → List ℕ → Form A → (A → Event) → Taken
formed name form event =
    record { name = name; found = λ message. option_map event (get (codes "body") message >>= form.found) }

abbrev pub all_taken : List Taken
all_taken =
    surely Initialized
    ∷ formed (codes "stopped") stopped (λ body. Stopped body)
    ∷ surely Continued
    ∷ formed (codes "output") output (λ body. Output body)
    ∷ formed (codes "exited") exited (λ body. Exited body)
    ∷ surely Terminated
    ∷ []

-- the first of them that has the name
abbrev pub taken_among : List Taken → List ℕ → Data → Option Event
taken_among [] name message = None
taken_among (t ∷ ts) name message = if bytes_eq name t.name then t.found message else taken_among ts name message

-- the event of this name that a message claims to be
abbrev pub event_named : List ℕ → Data → Option Event
event_named name message = taken_among all_taken name message
