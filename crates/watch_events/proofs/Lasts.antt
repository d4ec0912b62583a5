-- The last message in some bytes, where they have no fault.
use Rattle.watch_events.proofs.Common.{[], ap, body_limit, Bool, Err, error_in, error_more, error_of, first_fault, last_from, List, map, Message, message_of, messages_more, messages_of, messages_so_far, None, Ok, Option, option_map, reading_of, refl, Result, SaidBy, says_output, Some, stream_fault, subst, sym, waits_by, ℕ, ◌∙◌, ◌∷◌, ◌≡◌}
use Rattle.framing.specs.Streams.{Unframed, fault_of, first_of, lent_from, others_of}
use Rattle.framing.specs.declared.error.FrameError.{FrameError}
use Rattle.mirror.specs.declared.error.MirrorError.{MirrorError}
use Rattle.protocol.specs.declared.request.MessageError.{MessageError}

last_of_map : {A B : Type 0} (f : A → B) (before : Option A) (xs : List A)
    → last_from (option_map f before) (map f xs) ≡ option_map f (last_from before xs)
last_of_map f before [] = refl
last_of_map f before (x ∷ xs) = last_of_map f (Some x) xs

-- whether those that are left say what was printed, after those before them
abbrev pub said_last : Option Bool → List (List ℕ) → Option Bool
said_last last bodies = last_from last (map says_output (messages_of bodies))

-- the bodies that still wait are messages, and the last of them is the last of all
pub record IsLeft (so_far : Option Bool) (waiting : List (List ℕ)) (bytes : List ℕ) : Type 0 where
  pub last : said_last so_far waiting ≡ said_last None (reading_of body_limit bytes).bodies
  pub error : error_of waiting ≡ None

no_error : (m : Option MessageError) (f : Option FrameError) → first_fault m f ≡ None → m ≡ None
no_error None f e = refl
no_error (Some x) f e = absurd (apart e) where
  apart : (let o : Option MirrorError = first_fault (Some x) f in o) ≡ None → ⊥
  apart e = cc

-- at first all of them wait
pub all_left : (waiting : List (List ℕ)) (bytes : List ℕ) → waiting ≡ (reading_of body_limit bytes).bodies → stream_fault bytes ≡ None
    → IsLeft None waiting bytes
all_left waiting bytes is none = record {
  last = ap (said_last None) is;
  error = ap error_of is ∙ no_error (error_of (reading_of body_limit bytes).bodies) (fault_of (reading_of body_limit bytes).tail) none;
}

-- the first of them is a message
IsMessageOf : List ℕ → Result Message MessageError → Type 0
IsMessageOf body read = (m : Message) × (read ≡ Ok m)

message_by : (body : List ℕ) (read : Result Message MessageError) (others : List (Result Message MessageError)) → error_in (read ∷ others) ≡ None
    → IsMessageOf body read
unfolding IsMessageOf
message_by body (Ok m) others e = (m, refl)
message_by body (Err why) others e = absurd (apart e) where
  apart : (let o : Option MessageError = Some why in o) ≡ None → ⊥
  apart e = cc

first_message : (waiting : List (List ℕ)) (body : List ℕ) → Some body ≡ first_of waiting → error_of waiting ≡ None
    → IsMessageOf body (message_of body)
first_message waiting body first none =
    message_by body (message_of body) (map message_of (others_of waiting)) (sym (ap error_of (waits_by waiting body first)) ∙ none)

says_so : (read : Result Message MessageError) (m : Message) (says : Bool) → read ≡ Ok m → SaidBy read says → says ≡ says_output m
says_so read m says is said = subst (λ (r : Result Message MessageError). SaidBy r says) is said

-- one is taken
pub one_less : (u v : Unframed) (body bytes : List ℕ) (says : Bool) (last : Option Bool) → v ≡ lent_from u → Some body ≡ first_of u.waiting
    → SaidBy (message_of body) says → IsLeft last u.waiting bytes → IsLeft (Some says) v.waiting bytes
unfolding IsMessageOf
one_less u v body bytes says last lent first said h =
    let m = first_message u.waiting body first h.error in
    let more : m.0 ∷ messages_of v.waiting ≡ messages_of u.waiting = messages_more u v body m.0 [] (m.0 ∷ [])
    (messages_of u.waiting) lent first m.1 refl refl in
    record {
      last =
          ap (λ (s : Bool). last_from (Some s) (map says_output (messages_of v.waiting))) (says_so (message_of body) m.0 says m.1 said) ∙ ap
          (λ (l : List Message). last_from last (map says_output l)) more ∙ h.last;
      error = error_more u v body m.0 None lent first m.1 h.error;
    }

none_left : (bodies : List (List ℕ)) → None ≡ first_of bodies → bodies ≡ []
none_left [] e = refl
none_left (b ∷ bs) e = absurd (apart e) where
  apart : (let o : Option (List ℕ) = None in o) ≡ Some b → ⊥
  apart e = cc

pub at_last : (bytes : List ℕ) (waiting : List (List ℕ)) (last : Option Bool) → None ≡ first_of waiting → IsLeft last waiting bytes
    → last ≡ option_map says_output (last_from None (messages_so_far bytes))
at_last bytes waiting last none h =
    ap (λ (l : List (List ℕ)). said_last last l) (sym (none_left waiting none)) ∙ h.last ∙ last_of_map says_output None
    (messages_so_far bytes)
