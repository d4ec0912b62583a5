-- What an editor did, with one more thing after it.
use Rattle.std.proofs.Common.{◌≡◌, ℕ, ◌-◌, ◌≤◌, ◌<◌, Bool, true, false, cond, List, [], ◌∷◌, ◌++◌, length, get_or, Some, None, refl, sym, ap, ◌∙◌, subst, eqb, leb, arith, append_assoc, append-nil, length-append}
use Rattle.std.proofs.lemmas.Bool.Decides.{nat_tests}
use Rattle.std.proofs.lemmas.List.Concat.{flat_map-append}
use Rattle.std.specs.Prelude.{All}
use Rattle.std.specs.List.{flat_map}
use Rattle.mirror.specs.Streams.{Input}
use Rattle.mirror.specs.Streams.Input.{Sent, Fed}
use Rattle.protocol.specs.declared.request.Request.{Request}
use Rattle.queues.specs.declared.pending.Ask.{Ask}
use Rattle.replies.specs.declared.message.Message.{Message}
use Rattle.replies.specs.declared.message.Message.TheVariants.{Response as IsResponse, Event as IsEvent}
use Rattle.replies.specs.declared.response.Outcome.{Outcome}
use Rattle.replies.specs.declared.response.Outcome.TheVariants.{Done, Refused}
use Rattle.session.specs.Kinds.{is_success}
use Rattle.session.specs.Prefixes.{IsPrefixOf}
use Rattle.session.specs.Sessions.{Life, Said, bytes_of, frame_said}
use Rattle.session_laws.proofs.Headline.Readable.{framed_some, told_hold}
use Rattle.session_laws.specs.Concluding.{told_within}
use Rattle.session_laws.specs.Editors.{AreTold, IsEditor, IsTold, fed_in, first_told, sent_in}
use Rattle.session_laws.specs.Known.{AllKnown, IsKnownBy, IsKnownIn, first_asked}
use Rattle.client.specs.Following.{AreUpTo, WereTold}

-- ---- lists of inputs

pub fed_more : (xs ys : List Input) → fed_in (xs ++ ys) ≡ fed_in xs ++ fed_in ys
fed_more [] ys = refl
fed_more (Sent r ∷ xs) ys = fed_more xs ys
fed_more (Fed piece ∷ xs) ys = ap (λ (l : List ℕ). piece ++ l) (fed_more xs ys) ∙ sym (append_assoc piece (fed_in xs) (fed_in ys))

pub sent_more : (xs ys : List Input) → sent_in (xs ++ ys) ≡ sent_in xs ++ sent_in ys
sent_more [] ys = refl
sent_more (Sent r ∷ xs) ys = ap (λ (l : List Request). r ∷ l) (sent_more xs ys)
sent_more (Fed piece ∷ xs) ys = sent_more xs ys

pub fed_piece : (inputs : List Input) (piece : List ℕ) → fed_in (inputs ++ Fed piece ∷ []) ≡ fed_in inputs ++ piece
fed_piece inputs piece = fed_more inputs (Fed piece ∷ []) ∙ ap (λ (l : List ℕ). fed_in inputs ++ l) (append-nil piece)

pub sent_piece : (inputs : List Input) (piece : List ℕ) → sent_in (inputs ++ Fed piece ∷ []) ≡ sent_in inputs
sent_piece inputs piece = sent_more inputs (Fed piece ∷ []) ∙ append-nil (sent_in inputs)

pub fed_request : (inputs : List Input) (r : Request) → fed_in (inputs ++ Sent r ∷ []) ≡ fed_in inputs
fed_request inputs r = fed_more inputs (Sent r ∷ []) ∙ append-nil (fed_in inputs)

pub sent_request : (inputs : List Input) (r : Request) → sent_in (inputs ++ Sent r ∷ []) ≡ sent_in inputs ++ r ∷ []
sent_request inputs r = sent_more inputs (Sent r ∷ [])

-- the first inputs, of some and one more, are first ones of those, or all
by_last : (P : List Input → Type 0) (inputs : List Input) (x : Input)
    → ((before rest : List Input) → before ++ rest ≡ inputs → P before) → P (inputs ++ x ∷ [])
    → (before rest : List Input) → before ++ rest ≡ inputs ++ x ∷ [] → P before
by_last P inputs x old new before [] is = subst P (sym (sym (append-nil before) ∙ is)) new
by_last P inputs x old new [] (y ∷ rest) is = old [] inputs refl
by_last P [] x old new (b ∷ []) (y ∷ rest) is = absurd (let no : y ∷ rest ≡ [] = cc in cc)
by_last P [] x old new (b ∷ c ∷ before) (y ∷ rest) is = absurd (let no : c ∷ (before ++ y ∷ rest) ≡ [] = cc in cc)
by_last P (i ∷ inputs) x old new (b ∷ before) (y ∷ rest) is =
    let same : b ≡ i = cc in
    let others : before ++ y ∷ rest ≡ inputs ++ x ∷ [] = cc in
    subst (λ (z : Input). P (z ∷ before)) (sym same)
    (by_last (λ (l : List Input). P (i ∷ l)) inputs x (λ b r e. old (i ∷ b) r (ap (λ (l : List Input). i ∷ l) e)) new before (y ∷ rest) others)

-- ---- requests that were told

found_still : (told more : List Request) (n : ℕ) (r : Request) → first_told told n ≡ Some r → first_told (told ++ more) n ≡ Some r
found_still [] more n r e = absurd (let no : None ≡ Some r = e in cc)
found_still (x ∷ told) more n r e = grind (arith, found_still told more n r)

none_still : (told : List Request) (x : Request) (n : ℕ) → first_told told n ≡ None → first_told (told ++ x ∷ []) n ≡ first_told (x ∷ []) n
none_still [] x n e = refl
none_still (y ∷ told) x n e = grind (arith, none_still told x n)

-- one more, with the next number
pub told_next : (told : List Request) (heard : List Ask) (r : Request) → WereTold told heard → WereTold (told ++ r ∷ []) heard
told_next told heard r h = λ n q e. found_still told (r ∷ []) n q (h n q e)

pub up_to_next : (last : ℕ) (told : List Request) (r : Request) → last < r.seq → AreUpTo last told → AreUpTo r.seq (told ++ r ∷ [])
up_to_next last told r above h =
    λ n more. none_still told r n (h n (omega (arith, above, more)))
    ∙ (let other : eqb r.seq n ≡ false = grind (arith, nat_tests, more) in ap (λ (b : Bool). cond b (Some r) None) other)

pub up_to_more : (a b : ℕ) (told : List Request) → a ≤ b → AreUpTo a told → AreUpTo b told
up_to_more a b told few h = λ n more. h n (omega (arith, few, more))

pub first_next : (last : ℕ) (told : List Request) (r : Request) → last < r.seq → AreUpTo last told
    → first_told (told ++ r ∷ []) r.seq ≡ Some r
first_next last told r above h =
    none_still told r r.seq (h r.seq above)
    ∙ (let same : eqb r.seq r.seq ≡ true = grind (arith, nat_tests) in ap (λ (b : Bool). cond b (Some r) None) same)

-- ---- what messages answer was told

by_outcome : (told : List Request) (heard : List Ask) (n : ℕ) (name : List ℕ) (o : Outcome) → WereTold told heard
    → IsKnownBy heard n name o → is_success o ≡ true → first_told told n ≡ first_asked heard n
by_outcome told heard n name (Done body) h known success = h n known.request known.first ∙ sym known.first
by_outcome told heard n name (Refused refusal text) h known success = absurd (let no : false ≡ true = success in cc)

is_told : (told : List Request) (heard : List Ask) (m : Message) → WereTold told heard → IsKnownIn heard m → IsTold told heard m
is_told told heard (IsResponse r) h known = by_outcome told heard r.request_seq r.command r.outcome h known
is_told told heard (IsEvent e) h known = tt

-- all that has come, by all that was told
pub all_told : (life : Life) (inputs : List Input) → AllKnown life → WereTold (sent_in inputs) life.heard → AreTold life inputs
all_told life inputs known told =
    told_hold (λ (m : Said). IsTold (sent_in inputs) life.heard m.message) life.said (length (fed_in inputs))
    (λ k d below. is_told (sent_in inputs) life.heard (get_or life.said k d).message told (known k d below))

-- ---- a life goes on

none_within_0 : (said : List Said) → told_within 0 said ≡ []
none_within_0 [] = refl
none_within_0 (m ∷ said) =
    let some = framed_some m in
    let no : leb (length (frame_said m)) 0 ≡ false = grind (arith, nat_tests, some) in
    ap (λ (b : Bool). cond b (m ∷ told_within (0 - length (frame_said m)) said) []) no

-- no more messages lie in as many bytes as before
same_within : (said news : List Said) (count : ℕ) → count ≤ length (flat_map frame_said said)
    → told_within count (said ++ news) ≡ told_within count said
same_within [] news count few = let none : count ≡ 0 = omega (arith, few) in ap (λ (n : ℕ). told_within n news) none ∙ none_within_0 news
same_within (m ∷ said) news count few =
    let n = length (frame_said m) in
    let sum = length-append (frame_said m) (flat_map frame_said said) in
    let rest = same_within said news (count - n) (omega (arith, few, sum)) in
    ap (λ (l : List Said). cond (leb n count) (m ∷ l) []) rest

fed_first : (before rest inputs : List Input) (bytes : List ℕ) → before ++ rest ≡ inputs → IsPrefixOf (fed_in inputs) bytes
    → length (fed_in before) ≤ length bytes
fed_first before rest inputs bytes is prefix =
    let parts : fed_in inputs ≡ fed_in before ++ fed_in rest = ap fed_in (sym is) ∙ fed_more before rest in
    let all = ap length prefix.1 ∙ length-append (fed_in inputs) prefix.0 in
    let some = ap length parts ∙ length-append (fed_in before) (fed_in rest) in
    omega (arith, all, some)

-- what was asked is found as before
abbrev pub StillFirst : List Ask → List Ask → Type 0
StillFirst heard later = (n : ℕ) (r : Request) → first_asked heard n ≡ Some r → first_asked later n ≡ Some r

told_still : (told : List Request) (heard later : List Ask) (m : Message) → StillFirst heard later → IsKnownIn heard m
    → IsTold told heard m → IsTold told later m
told_still told heard later (IsResponse r) still known h = by r.outcome known h where
  by : (o : Outcome) → IsKnownBy heard r.request_seq r.command o
      → (is_success o ≡ true → first_told told r.request_seq ≡ first_asked heard r.request_seq)
      → is_success o ≡ true → first_told told r.request_seq ≡ first_asked later r.request_seq
  by (Done body) known h success = h success ∙ known.first ∙ sym (still r.request_seq known.request known.first)
  by (Refused refusal text) known h success = absurd (let no : false ≡ true = success in cc)
told_still told heard later (IsEvent e) still known h = tt

-- an editor is one of a life in which more was said, and more was asked
module _ (life later : Life) (news : List Said) (said : later.said ≡ life.said ++ news) (still : StillFirst life.heard later.heard)
    (known : AllKnown life) where
  bytes_more : bytes_of later ≡ bytes_of life ++ flat_map frame_said news
  bytes_more = ap (flat_map frame_said) said ∙ flat_map-append frame_said life.said news

  told_later : (inputs before rest : List Input) → before ++ rest ≡ inputs → IsPrefixOf (fed_in inputs) (bytes_of life) → AreTold life before
      → AreTold later before
  told_later inputs before rest is prefix h =
      let T = λ (l : List Said). All (λ (m : Said). IsTold (sent_in before) later.heard m.message) l in
      let count = length (fed_in before) in
      let same : told_within count later.said ≡ told_within count life.said =
      ap (told_within count) said ∙ same_within life.said news count (fed_first before rest inputs (bytes_of life) is prefix) in
      let knows = told_hold (λ (m : Said). IsKnownIn life.heard m.message) life.said count known in
      subst T (sym same)
      (λ k d below. told_still (sent_in before) life.heard later.heard (get_or (told_within count life.said) k d).message still (knows k d below) (h k d below))

  pub editor_later : (inputs : List Input) → IsEditor life inputs → IsEditor later inputs
  editor_later inputs e = record {
    bytes = (
      e.bytes.0 ++ flat_map frame_said news,
      bytes_more ∙ ap (λ (l : List ℕ). l ++ flat_map frame_said news) e.bytes.1
          ∙ append_assoc (fed_in inputs) e.bytes.0 (flat_map frame_said news),
    );
    in_time = λ before rest is. told_later inputs before rest is e.bytes (e.in_time before rest is);
  }

-- and does one thing more, by which all that has come was told
pub editor_next : (life : Life) (inputs : List Input) (x : Input) → IsEditor life inputs → AllKnown life
    → IsPrefixOf (fed_in (inputs ++ x ∷ [])) (bytes_of life) → WereTold (sent_in (inputs ++ x ∷ [])) life.heard → IsEditor life (inputs ++ x ∷ [])
editor_next life inputs x e known prefix told = record {
  bytes = prefix;
  in_time = by_last (AreTold life) inputs x e.in_time (all_told life (inputs ++ x ∷ []) known told);
}
