-- An editor tells its mirror requests and feeds it bytes, in turn: the facts are those of the whole messages among these bytes.
use Rattle.session_laws.proofs.Headline.Common.{[], All, All-head, All-nil, All-tail, ap, append-nil, append_assoc, AreTold, arith, Ask, Asked, asked_of, Bad, bytes_of, cond, cond-false, cond-true, drop, drop-append_seam, eqb, Facts, fed_in, first_asked, first_told, fold, folded, frame_said, get_or, if_keeps, inl, inr, IsEditor, IsEvent, IsPrefixOf, IsTold, known_after, known_within, le-leb, leb, leb-true, length, length-append, Life, List, lt-leb, map, map-append, Message, None, nothing_known, Option, option_map, option_or, refl, remembered, Request as ARequest, requests_in, Response as IsResponse, Said, sent_in, Some, subst, sym, take, take-append-drop, take-append_seam, told, told_first, told_of, told_within, ℕ, ◌++◌, ◌-◌, ◌∙◌, ◌∷◌, ◌≡◌, ◌≤◌, ◌⊎◌}
use Rattle.mirror.specs.Streams.{Input, Past, after, after_input, messages_so_far, newly_whole, nothing_past, stream_fault, with_piece, with_request}
use Rattle.mirror.specs.Streams.Input.{Sent, Fed}
use Rattle.queues.specs.declared.pending.Ask.TheVariants.{Request}
use Rattle.session_laws.proofs.Headline.Remembering.{answers_same, known_append}
use Rattle.session_laws.proofs.Headline.Readable.{framed_some, has_no_fault, IsReadable, messages_within}

-- ---- lists

pub later_hold : {A : Type 0} (P : A → Type 0) (xs ys : List A) → All P (xs ++ ys) → All P ys
later_hold P [] ys h = h
later_hold P (x ∷ xs) ys h = later_hold P xs ys (All-tail P x (xs ++ ys) h)

-- ---- what is asked

asked_by : Option ARequest → Option Asked
asked_by found = option_map (λ (r : ARequest). asked_of r.command) found

told_append : (xs ys : List ARequest) (n : ℕ) → first_told (xs ++ ys) n ≡ option_or (first_told xs n) (first_told ys n)
told_append [] ys n = refl
told_append (r ∷ xs) ys n = grind (arith, told_append xs ys n)

told_then : (asked : ℕ → Option Asked) (told : List ARequest) (r : ARequest) (n : ℕ) → asked n ≡ asked_by (first_told told n)
    → told_of asked r.seq (asked_of r.command) n ≡ asked_by (first_told (told ++ r ∷ []) n)
unfolding asked_by
told_then asked told r n e = grind (arith, told_append told (r ∷ []) n)

-- ---- messages that come

-- a message changes what is known as it should, where it was told what a success answers
module _ (asked : ℕ → Option Asked) (told : List ARequest) (heard : List Ask)
    (is : (n : ℕ) → asked n ≡ asked_by (first_told told n)) where
  message_folds : (m : Message) (f : Facts) → IsTold told heard m → folded asked f m ≡ folded (remembered heard) f m
  unfolding asked_by
  message_folds (IsResponse r) f h =
      answers_same (asked r.request_seq) (remembered heard r.request_seq) r.outcome f (λ success. is r.request_seq ∙ ap asked_by (h success))
  message_folds (IsEvent e) f h = refl

  abbrev Told : Said → Type 0
  Told m = IsTold told heard m.message

  all_fold : (said : List Said) (f : Facts) → All Told said
      → fold (folded asked) f (map (λ (m : Said). m.message) said) ≡ known_after (remembered heard) f said
  all_fold [] f h = refl
  all_fold (m ∷ said) f h =
      all_fold said (folded asked f m.message) (All-tail Told m said h)
      ∙ ap (λ (g : Facts). known_after (remembered heard) g said) (message_folds m.message f (All-head Told m said h))

-- with more bytes more messages have come
more_told : (said : List Said) (count most : ℕ) → count ≤ most → (news : List Said) × (told_within most said ≡ told_within count said ++ news)
more_told [] count most few = ([], refl)
more_told (m ∷ said) count most few =
    let n = length (frame_said m) in
    if_keeps (λ (l : List Said). (news : List Said) × (told_within most (m ∷ said) ≡ l ++ news)) (leb n count) _ _
    (λ e.
    let fits = leb-true n count e in
    let rest = more_told said (count - n) (most - n) (omega (arith, few)) in
    (rest.0, cond-true (leb n most) _ _ (le-leb n most (omega (arith, few, fits))) ∙ ap (λ (l : List Said). m ∷ l) rest.1))
    (λ _. (told_within most (m ∷ said), refl))

none_within_0 : (said : List Said) → told_within 0 said ≡ []
none_within_0 [] = refl
none_within_0 (m ∷ said) = cond-false _ _ _ (lt-leb (length (frame_said m)) 0 (framed_some m))

-- ---- all that an editor did

module _ (life : Life) (readable : All IsReadable life.said) where
  -- the bytes that were fed are the first of the connection
  are_first : (fed : List ℕ) → IsPrefixOf fed (bytes_of life) → fed ≡ take (length fed) (bytes_of life)
  are_first fed prefix = sym (ap (take (length fed)) prefix.1 ∙ take-append_seam fed prefix.0)

  messages_fed : (fed : List ℕ) → IsPrefixOf fed (bytes_of life)
      → messages_so_far fed ≡ map (λ (m : Said). m.message) (told_within (length fed) life.said)
  messages_fed fed prefix = ap messages_so_far (are_first fed prefix) ∙ messages_within life.said (length fed) readable

  sooner : (fed piece : List ℕ) → IsPrefixOf (fed ++ piece) (bytes_of life) → IsPrefixOf fed (bytes_of life)
  sooner fed piece prefix = (piece ++ prefix.0, prefix.1 ∙ append_assoc fed piece prefix.0)

  -- what was told, of the messages in these bytes
  abbrev AllTold : List ARequest → List ℕ → Type 0
  AllTold sent fed = All (λ (m : Said). IsTold sent life.heard m.message) (told_within (length fed) life.said)

  -- so it is at each time, after these requests and these bytes
  abbrev InTime : List ARequest → List ℕ → List Input → Type 0
  InTime sent fed inputs = (before rest : List Input) → before ++ rest ≡ inputs → AllTold (sent ++ sent_in before) (fed ++ fed_in before)

  -- a past that these requests and its bytes made
  record Made (sent : List ARequest) (past : Past) : Type 0 where
    asked : (n : ℕ) → past.asked n ≡ asked_by (first_told sent n)
    facts : past.facts ≡ known_within (length past.bytes) life

  piece_makes : (sent : List ARequest) (past : Past) (piece : List ℕ) → IsPrefixOf (past.bytes ++ piece) (bytes_of life)
      → AllTold sent (past.bytes ++ piece) → Made sent past → Made sent (with_piece past piece)
  piece_makes sent past piece prefix told h =
      let fed = past.bytes in
      let text = λ (m : Said). m.message in
      let old = told_within (length fed) life.said in
      let more = more_told life.said (length fed) (length (fed ++ piece)) (omega (arith, length-append fed piece)) in
      let all : messages_so_far (fed ++ piece) ≡ map text old ++ map text more.0 =
      messages_fed (fed ++ piece) prefix ∙ ap (map text) more.1 ∙ map-append text old more.0 in
      let new : newly_whole fed piece ≡ map text more.0 =
      ap (λ (l : List Message). drop (length l) (messages_so_far (fed ++ piece))) (messages_fed fed (sooner fed piece prefix))
      ∙ ap (drop (length (map text old))) all ∙ drop-append_seam (map text old) (map text more.0) in
      let T = λ (m : Said). IsTold sent life.heard m.message in
      record {
        asked = h.asked;
        facts =
            ap (fold (folded past.asked) past.facts) new
            ∙ all_fold past.asked sent life.heard h.asked more.0 past.facts (later_hold T old more.0 (subst (All T) more.1 told))
            ∙ ap (λ (f : Facts). known_after (remembered life.heard) f more.0) h.facts
            ∙ sym (known_append (remembered life.heard) nothing_known old more.0)
            ∙ ap (known_after (remembered life.heard) nothing_known) (sym more.1);
      }

  makes : (inputs : List Input) (sent : List ARequest) (past : Past) → IsPrefixOf (past.bytes ++ fed_in inputs) (bytes_of life)
      → InTime sent past.bytes inputs → Made sent past
      → (fold after_input past inputs).facts ≡ known_within (length (past.bytes ++ fed_in inputs)) life
  makes [] sent past prefix time h = h.facts ∙ ap (λ (l : List ℕ). known_within (length l) life) (sym (append-nil past.bytes))
  makes (Sent r ∷ inputs) sent past prefix time h =
      makes inputs (sent ++ r ∷ []) (with_request past r) prefix
      (λ before rest is. rw (append_assoc sent (r ∷ []) (sent_in before))
      (time (Sent r ∷ before) rest (ap (λ (l : List Input). Sent r ∷ l) is)))
      (record { asked = λ n. told_then past.asked sent r n (h.asked n); facts = h.facts })
  makes (Fed piece ∷ inputs) sent past prefix time h =
      let fed = past.bytes ++ piece in
      let same = append_assoc past.bytes piece (fed_in inputs) in
      let first = subst (λ (l : List ℕ). IsPrefixOf l (bytes_of life)) (sym same) prefix in
      let later : InTime sent fed inputs =
      λ before rest is. rw (append_assoc past.bytes piece (fed_in before))
      (time (Fed piece ∷ before) rest (ap (λ (l : List Input). Fed piece ∷ l) is)) in
      let told = rw (append-nil sent, append-nil fed) at (later [] inputs refl) in
      makes inputs sent (with_piece past piece) first later (piece_makes sent past piece (sooner fed (fed_in inputs) first) told h)
      ∙ ap (λ (l : List ℕ). known_within (length l) life) same

  pub facts_made : (inputs : List Input) → IsEditor life inputs → (after inputs).facts ≡ known_within (length (fed_in inputs)) life
  unfolding asked_by
  facts_made inputs editor =
      makes inputs [] nothing_past editor.bytes editor.in_time
      (record { asked = λ n. refl; facts = sym (ap (known_after (remembered life.heard) nothing_known) (none_within_0 life.said)) })

  pub no_fault : (inputs : List Input) → IsEditor life inputs → stream_fault (fed_in inputs) ≡ None
  no_fault inputs editor =
      ap stream_fault (are_first (fed_in inputs) editor.bytes)
      ∙ has_no_fault life.said (length (fed_in inputs)) readable

-- ---- an editor that told all its requests first

requests_first : (asks : List Ask) (n : ℕ) → first_told (requests_in asks) n ≡ first_asked asks n
requests_first [] n = refl
requests_first (Request r ∷ asks) n = ap (λ (x : Option ARequest). cond (eqb r.seq n) (Some r) x) (requests_first asks n)
requests_first (Bad seq command refusal ∷ asks) n = requests_first asks n

was_told : (heard : List Ask) (m : Message) → IsTold (requests_in heard) heard m
was_told heard (IsResponse r) = λ _. requests_first heard r.request_seq
was_told heard (IsEvent e) = tt

-- at each time it has fed nothing, or told all
nothing_or_all : (rs : List ARequest) (piece : List ℕ) (before rest : List Input) → before ++ rest ≡ map Sent rs ++ Fed piece ∷ []
    → (fed_in before ≡ []) ⊎ (sent_in before ≡ rs)
nothing_or_all rs piece [] rest is = inl refl
nothing_or_all [] piece (Fed x ∷ []) rest is = inr refl
nothing_or_all [] piece (Fed x ∷ y ∷ before) rest is = absurd (let no : y ∷ (before ++ rest) ≡ [] = cc in cc)
nothing_or_all [] piece (Sent q ∷ before) rest is = absurd (let no : Sent q ≡ Fed piece = cc in cc)
nothing_or_all (r ∷ rs) piece (Fed x ∷ before) rest is = absurd (let no : Fed x ≡ Sent r = cc in cc)
nothing_or_all (r ∷ rs) piece (Sent q ∷ before) rest is =
    let same : q ≡ r = cc in
    let others : before ++ rest ≡ map Sent rs ++ Fed piece ∷ [] = cc in
    grind (arith, nothing_or_all rs piece before rest others)

pub fed_first : (rs : List ARequest) (piece : List ℕ) → fed_in (map Sent rs ++ Fed piece ∷ []) ≡ piece
fed_first [] piece = append-nil piece
fed_first (r ∷ rs) piece = fed_first rs piece

pub is_editor : (life : Life) (count : ℕ) → IsEditor life (told_first life count)
is_editor life count = record {
  bytes = rw (fed_first (requests_in life.heard) (take count (bytes_of life)))
      (drop count (bytes_of life), sym (take-append-drop count (bytes_of life)));
  in_time =
      λ before rest is. in_time before (nothing_or_all (requests_in life.heard) (take count (bytes_of life)) before rest is);
} where
  in_time : (before : List Input) → (fed_in before ≡ []) ⊎ (sent_in before ≡ requests_in life.heard) → AreTold life before
  in_time before (inl none) =
      rw (none, none_within_0 life.said) (All-nil (λ (m : Said). IsTold (sent_in before) life.heard m.message))
  in_time before (inr all) =
      rw all (λ k d _. was_told life.heard (get_or (told_within (length (fed_in before)) life.said) k d).message)
