-- What a client follows, it follows on.
use Rattle.std.proofs.lemmas.List.Elements.{All-nil}
use Rattle.std.specs.Prelude.{OnErr}
use Rattle.std.proofs.Common.{◌≡◌, ℕ, ◌≤◌, ◌<◌, Bool, true, false, cond, List, [], ◌∷◌, ◌++◌, length, take_all, fold, Option, Some, None, is_some, Result, Ok, Err, refl, sym, ap, ◌∙◌, subst, leb, ltb, eqb, arith, append-nil, length-append}
use Rattle.std.proofs.lemmas.Bool.Decides.{nat_tests}
use Rattle.std.specs.Prelude.{⊤, codes, decimal}
use Rattle.framing.proofs.Minimal.{minimal_is_read}
use Rattle.framing.specs.Reading.{Reading}
use Rattle.framing.specs.Reading.Tail.{Partial}
use Rattle.mirror.specs.Kept.{Kept as Mirrored}
use Rattle.mirror.specs.Streams.{Input, Past as Told, StandsFor, after, after_input, nothing_past, with_piece, with_request}
use Rattle.mirror.specs.Streams.Input.{Sent, Fed}
use Rattle.protocol.specs.declared.request.Request.{Request}
use Rattle.queues.specs.Arrivals.{asks_in, asks_of}
use Rattle.queues.specs.declared.pending.Ask.{Ask}
use Rattle.queues.specs.declared.pending.Ask.TheVariants.{Request as Asks, Bad}
use Rattle.session.proofs.Reaching.{if_keeps}
use Rattle.session.specs.Acts.{Accept, Now, fault_of_reading, fault_or, read_on, tail_kept}
use Rattle.session.specs.declared.event.LinkFault.{LinkFault}
use Rattle.requests.specs.Requests.{request_text}
use Rattle.framing.specs.Frames.{minimal_frame}
use Rattle.framing.specs.Headers.{end_of_line}
use Rattle.framing.specs.Reading.{Tail, reading_of}
use Rattle.framing.specs.Streams.{reading_after}
use Rattle.session.specs.declared.TheConstants.{BODY_LIMIT}
use Rattle.queues.specs.Arrivals.{fault_in}
use Rattle.mirror.specs.Kept.{facts_of}
use Rattle.session_laws.specs.Headline.{WereSo}
use Rattle.session.specs.Effects.{enough, Ends, EndsWell, performed, ran_out}
use Rattle.session.specs.Kept.{Happens, Kept as Session, Stands, answered}
use Rattle.session.specs.Outcomes.{Outcome, done, outcome_at, refused}
use Rattle.session.specs.Reached.{Happened, Reached, Whole, led_to}
use Rattle.session.specs.Sessions.{Beginning, Effect, Life, Said, Session as Past, bytes_of, histories, life_of, no_life, start}
use Rattle.session.specs.declared.event.Applied.{Applied}
use Rattle.session.specs.declared.event.Applied.TheVariants as applied
use Rattle.session.specs.declared.event.Event.{Event}
use Rattle.session.specs.declared.event.Event.TheVariants as event
use Rattle.session.specs.declared.event.EventError.{EventError}
use Rattle.session.specs.declared.event.EventError.TheVariants as error
use Rattle.session.specs.declared.link.Link.{Link}
use Rattle.session.specs.declared.state.TheConstants.{MOST_PENDING, MOST_PIECE}
use Rattle.session_laws.proofs.ByForms.{on}
use Rattle.session_laws.proofs.Calls.{calls_lead, leads_on}
use Rattle.session_laws.proofs.Headline.Knowing.{first_more, successes_are_known}
use Rattle.session_laws.proofs.Headline.Mirrored.{mirrors_hold}
use Rattle.session_laws.proofs.Messages.Readable.{messages_are_readable}
use Rattle.session_laws.proofs.Waiting.{every_byte_is_taken_or_waits, lives_are_numbered}
use Rattle.session_laws.specs.Calls.{Adds, AddsDone}
use Rattle.session_laws.specs.Editors.{AreTold, IsTold, fed_in, first_told, sent_in}
use Rattle.session_laws.specs.Known.{AllKnown, first_asked}
use Rattle.session_laws.specs.Messages.{HasPath, IsPath}
use Rattle.client.specs.Following.{AreUpTo, Calls, Follows, GoesOn, IsNext, IsPiece, Kept, KnowsWhatWasSo, Pushes, Receives, Sends, WereTold, life, sending, taking}
use Rattle.client.specs.declared.error.SendError.{SendError}
use Rattle.client.specs.declared.error.SendError.TheVariants as send
use Rattle.client.proofs.Inputs.{editor_later, editor_next, fed_piece, fed_request, first_next, sent_piece, sent_request, told_next, up_to_next}
use Rattle.client.proofs.Later.{Later, beats_later, nothing_later, turn_later}

-- ---- the life that is followed

-- it is the last one
own : (from : Beginning) (happened : List Happened) → (Reached from happened).now.connections ≡ 1
    → life from happened ≡ (Reached from happened).life
own from happened one =
    ap (λ (c : ℕ). life_of c (Reached from happened)) (sym one) ∙ lives_are_numbered from happened

known : (from : Beginning) (happened : List Happened) → AllKnown (life from happened)
known from happened = successes_are_known from happened 1

-- more was said in a life, and nothing else happened
record Grows (x y : Life) (news : List Said) : Type 0 where
  said : y.said ≡ x.said ++ news
  heard : y.heard ≡ x.heard
  taken : y.taken ≡ x.taken

-- ---- turns and slices

module _ (from : Beginning) (happened more : List Happened) (c : Kept) (k : Session) (f : Follows from happened c) where
  abbrev s : Past
  s = Reached from happened

  abbrev t : Past
  t = Reached from (happened ++ more)

  grows : (h : Later s t) → Grows (life from happened) (life from (happened ++ more)) h.news
  grows h =
      let x = own from happened f.one in
      let y = own from (happened ++ more) (h.connections ∙ f.one) in
      record {
        said = ap (λ (l : Life). l.said) y ∙ ap (λ (l : Life). l.said) h.life ∙ ap (λ (l : Life). l.said ++ h.news) (sym x);
        heard = ap (λ (l : Life). l.heard) y ∙ ap (λ (l : Life). l.heard) h.life ∙ ap (λ (l : Life). l.heard) (sym x);
        taken = ap (λ (l : Life). l.taken) y ∙ ap (λ (l : Life). l.taken) h.life ∙ ap (λ (l : Life). l.taken) (sym x);
      }

  follows_later : Later s t → Stands k t → Follows from (happened ++ more) (record c { session = k })
  follows_later h stands =
      let g = grows h in record {
        none = f.none;
        stands = stands;
        one = h.connections ∙ f.one;
        linked = h.linked ∙ f.linked;
        whole = h.tail ∙ f.whole;
        inputs = f.inputs;
        editor = editor_later (life from happened) (life from (happened ++ more)) h.news g.said
            (λ n r e. ap (λ (l : List Ask). first_asked l n) g.heard ∙ e) (known from happened) f.inputs f.editor;
        mirror = f.mirror;
        taken = f.taken ∙ sym g.taken;
        told = λ n r e. f.told n r (ap (λ (l : List Ask). first_asked l n) (sym g.heard) ∙ e);
        numbers = f.numbers;
      }

abbrev Goes : Event → Type 0
Goes (event.Turn file) = ⊤
Goes (event.Slice n) = ⊤
Goes other = ⊥

effect_later : (s : Past) (e : Event) → Goes e → Later s (Effect s e)
effect_later s (event.Turn file) so = turn_later s file
effect_later s (event.Slice n) so = beats_later s n (enough n)
effect_later s event.Connect bad = absurd bad
effect_later s (event.Recv piece) bad = absurd bad
effect_later s event.Hold bad = absurd bad
effect_later s (event.Sent n) bad = absurd bad
effect_later s event.DropConnection bad = absurd bad

whole_later : (s : Past) (e : Event) (more : List Happened) → Goes e → more ≡ Whole e ∷ [] → Later s (led_to more s)
whole_later s e more so is = subst (λ (l : List Happened). Later s (led_to l s)) (sym is) (effect_later s e so)

done_later : (s : Past) (e : Event) (out : Option ℕ) (more : List Happened) → Goes e → AddsDone s e out more → Later s (led_to more s)
done_later s e None more so is = whole_later s e more so is
done_later s e (Some moved) more so cut =
    subst (λ (l : List Happened). Later s (led_to l s)) (sym cut.is) (beats_later s _ cut.count)

adds_later : (s : Past) (e : Event) (result : Result Applied EventError) (more : List Happened) → Goes e → Adds s e result more
    → Later s (led_to more s)
adds_later s e (Ok x) more so adds = done_later s e (ran_out x) more so adds
adds_later s e (Err error.NoMemory) more so is = subst (λ (l : List Happened). Later s (led_to l s)) (sym is) (nothing_later s)
adds_later s e (Err why) more so is = whole_later s e more so is

pub calls_follow : (old : Kept) (k : Session) (e : Event) (result : Result Applied EventError) → Goes e → Happens old.session e result k
    → Calls e result old (record old { session = k })
calls_follow old k e result so h = (
  h,
  λ from happened f.
      let s = Reached from happened in
      let l = calls_lead s old.session k e result f.stands h in
      let on = leads_on from happened l.more in
      (l.more, (l.adds, follows_later from happened l.more old k f (subst (Later s) on (adds_later s e result l.more so l.adds)) (subst (Stands k) on l.stands))),
)

-- ---- a request is told

after_last : (inputs : List Input) (past : Told) (x : Input) → fold after_input past (inputs ++ x ∷ []) ≡ after_input (fold after_input past inputs) x
after_last [] past x = refl
after_last (i ∷ inputs) past x = after_last inputs (after_input past i) x

module _ (from : Beginning) (happened : List Happened) (old : Kept) (r : Request) (next : IsNext r old.last) (m : Mirrored)
    (tells : (past : Told) → StandsFor old.mirror past → StandsFor m (with_request past r)) (f : Follows from happened old) where
  abbrev told : Kept
  told = record old { mirror = m; last = r.seq }

  -- what was asked in it is told, and so is what will be asked next
  pub request_told : Follows from happened told
  request_told =
      let sent = sent_request f.inputs r in
      let were : WereTold (sent_in (f.inputs ++ Sent r ∷ [])) (life from happened).heard =
      subst (λ (l : List Request). WereTold l (life from happened).heard) (sym sent) (told_next (sent_in f.inputs) (life from happened).heard r f.told) in
      record {
        none = f.none;
        stands = f.stands;
        one = f.one;
        linked = f.linked;
        whole = f.whole;
        inputs = f.inputs ++ Sent r ∷ [];
        editor = editor_next (life from happened) f.inputs (Sent r) f.editor (known from happened)
            (f.editor.bytes.0, f.editor.bytes.1 ∙ ap (λ (l : List ℕ). l ++ f.editor.bytes.0) (sym (fed_request f.inputs r))) were;
        mirror = subst (StandsFor m) (sym (after_last f.inputs nothing_past (Sent r))) (tells (after f.inputs) f.mirror);
        taken = fed_request f.inputs r ∙ f.taken;
        told = were;
        numbers = subst (AreUpTo r.seq) (sym sent) (up_to_next old.last (sent_in f.inputs) r next.above f.numbers);
      }

  pub first_is : first_told (sent_in request_told.inputs) r.seq ≡ Some r
  unfolding request_told
  first_is = ap (λ (l : List Request). first_told l r.seq) (sent_request f.inputs r) ∙ first_next old.last (sent_in f.inputs) r next.above f.numbers

-- ---- and comes

pub record Accepted (s t : Past) (piece : List ℕ) : Type 0 where
  said : t.life.said ≡ s.life.said
  taken : t.life.taken ≡ s.life.taken
  heard : t.life.heard ≡ s.life.heard ++ asks_of (read_on s.now piece).bodies
  connections : t.now.connections ≡ s.now.connections
  tail : fault_of_reading (read_on s.now piece) ≡ None → t.now.tail ≡ (read_on s.now piece).tail
  linked : is_some t.now.link ≡ true
  short : length piece ≤ 65536

pub accepted_by : (l : Option Link) (piece : List ℕ) (s : Past)
    → (outcome_at (histories.see (on l s)) l (event.Recv piece)).answer ≡ Ok applied.Recv
    → Accepted (on l s) (performed histories (outcome_at (histories.see (on l s)) l (event.Recv piece)).acts (on l s)) piece
accepted_by None piece s e = absurd (let no : (let r : Result Applied EventError = Err error.NotConnected in r) ≡ Ok applied.Recv = e in cc)
accepted_by (Some l) piece s e =
    by l.is_closing refl (ltb MOST_PIECE (length piece)) refl (leb MOST_PENDING (length s.now.arrivals.pending)) e where
      t : Past
      t = on (Some l) s

      O : Bool → Bool → Bool → Outcome
      O a b c =
          cond a (refused error.Closing)
          (cond b (refused error.PieceTooLong) (cond c (refused error.Busy) (done applied.Recv (Accept piece ∷ []))))

      by : (a : Bool) → l.is_closing ≡ a → (b : Bool) → ltb MOST_PIECE (length piece) ≡ b → (c : Bool) → (O a b c).answer ≡ Ok applied.Recv
          → Accepted t (performed histories (O a b c).acts t) piece
      by true closing b long c e = absurd (let no : (let r : Result Applied EventError = Err error.Closing in r) ≡ Ok applied.Recv = e in cc)
      by false closing true long c e =
          absurd (let no : (let r : Result Applied EventError = Err error.PieceTooLong in r) ≡ Ok applied.Recv = e in cc)
      by false closing false long true e =
          absurd (let no : (let r : Result Applied EventError = Err error.Busy in r) ≡ Ok applied.Recv = e in cc)
      by false closing false long false e =
          let few : length piece ≤ 65536 = grind (arith, nat_tests) in
          if_keeps (λ (x : Past). Accepted t x piece) l.is_closing t _ (λ is. absurd (let no : true ≡ false = sym is ∙ closing in cc))
          (λ _. record {
            said = refl;
            taken = refl;
            heard = refl;
            connections = refl;
            tail = λ none. ap (λ (o : Option LinkFault). tail_kept o (read_on s.now piece).tail) none;
            linked = refl;
            short = few;
          })

-- what is read of the frame of a request, where nothing of a frame has come
reads_one : (now : Now) (r : Request) (piece : List ℕ) → now.tail ≡ Partial [] → IsPiece r piece → length piece ≤ 65536
    → read_on now piece ≡ record { bodies = request_text r.seq r.command ∷ []; tail = Partial [] }
unfolding reading_of
reads_one now r piece whole is few =
    let body = request_text r.seq r.command in
    let frame = minimal_frame body in
    let size = length-append (codes "Content-Length: " ++ decimal (length body) ++ end_of_line ++ end_of_line) body in
    let small : length body ≤ 1048576 = omega (arith, size, few, ap length is.is) in
    ap (λ (t : Tail). reading_after BODY_LIMIT t piece) whole ∙ ap (reading_of BODY_LIMIT) (is.is ∙ sym (append-nil frame))
    ∙ minimal_is_read BODY_LIMIT body [] (omega arith) small

none_more : (xs ys : List Ask) (n : ℕ) → first_asked xs n ≡ None → first_asked (xs ++ ys) n ≡ first_asked ys n
none_more [] ys n e = refl
none_more (Asks r ∷ xs) ys n e = grind (arith, none_more xs ys n)
none_more (Bad seq command refusal ∷ xs) ys n e = none_more xs ys n e

module _ (from : Beginning) (happened : List Happened) (c : Kept) (r : Request) (piece : List ℕ) (k : Session) (f : Follows from happened c)
    (is : IsPiece r piece) (first : first_told (sent_in f.inputs) r.seq ≡ Some r) where
  abbrev s' : Past
  s' = Reached from happened

  abbrev t' : Past
  t' = Reached from (happened ++ Whole (event.Recv piece) ∷ [])

  -- what was found among what came before, or is the last
  was_told : (n : ℕ) (q : Request) → first_asked ((life from happened).heard ++ Asks r ∷ []) n ≡ Some q → first_told (sent_in f.inputs) n ≡ Some q
  was_told n q e = by (first_asked (life from happened).heard n) refl where
    by : (o : Option Request) → first_asked (life from happened).heard n ≡ o → first_told (sent_in f.inputs) n ≡ Some q
    by (Some x) h =
        f.told n x h ∙ (sym (first_more (life from happened).heard (Asks r ∷ []) n x h) ∙ e)
    by None h = by_number (eqb r.seq n) refl where
      last : first_asked (Asks r ∷ []) n ≡ Some q
      last = sym (none_more (life from happened).heard (Asks r ∷ []) n h) ∙ e

      by_number : (b : Bool) → eqb r.seq n ≡ b → first_told (sent_in f.inputs) n ≡ Some q
      by_number true t =
          let same : r.seq ≡ n = grind (arith, nat_tests) in
          ap (first_told (sent_in f.inputs)) (sym same) ∙ first ∙ sym (ap (λ (b : Bool). cond b (Some r) None) t) ∙ last
      by_number false t = absurd (let no : None ≡ Some q = sym (ap (λ (b : Bool). cond b (Some r) None) t) ∙ last in cc)

  pub comes : Accepted s' t' piece → Stands k t' → Follows from (happened ++ Whole (event.Recv piece) ∷ []) (record c { session = k })
  comes a stands =
      let x = own from happened f.one in
      let y = own from (happened ++ Whole (event.Recv piece) ∷ []) (a.connections ∙ f.one) in
      let read = reads_one s'.now r piece f.whole is a.short in
      let asks : asks_of (read_on s'.now piece).bodies ≡ Asks r ∷ [] =
      ap (λ (x : Reading). asks_of x.bodies) read ∙ ap (λ (i : _). asks_in (i ∷ [])) is.read in
      let none : fault_of_reading (read_on s'.now piece) ≡ None =
      ap fault_of_reading read ∙ ap (λ (i : _). fault_or (fault_in (i ∷ [])) None) is.read in
      let heard : (life from (happened ++ Whole (event.Recv piece) ∷ [])).heard ≡ (life from happened).heard ++ Asks r ∷ [] =
      ap (λ (l : Life). l.heard) y ∙ a.heard ∙ ap (λ (l : List Ask). s'.life.heard ++ l) asks ∙ ap (λ (l : Life). l.heard ++ Asks r ∷ []) (sym x) in
      let said : (life from (happened ++ Whole (event.Recv piece) ∷ [])).said ≡ (life from happened).said ++ [] =
      ap (λ (l : Life). l.said) y ∙ a.said ∙ ap (λ (l : Life). l.said) (sym x) ∙ sym (append-nil (life from happened).said) in
      record {
        none = f.none;
        stands = stands;
        one = a.connections ∙ f.one;
        linked = a.linked;
        whole = a.tail none ∙ ap (λ (x : Reading). x.tail) read;
        inputs = f.inputs;
        editor = editor_later (life from happened) (life from (happened ++ Whole (event.Recv piece) ∷ [])) [] said
            (λ n q e. ap (λ (l : List Ask). first_asked l n) heard ∙ first_more (life from happened).heard (Asks r ∷ []) n q e)
            (known from happened) f.inputs f.editor;
        mirror = f.mirror;
        taken = f.taken ∙ ap (λ (l : Life). l.taken) x ∙ sym a.taken ∙ ap (λ (l : Life). l.taken) (sym y);
        told = λ n q e. was_told n q (ap (λ (l : List Ask). first_asked l n) (sym heard) ∙ e);
        numbers = f.numbers;
      }

-- ---- what waits is taken

pub record Took (s t : Past) : Type 0 where
  said : t.life.said ≡ s.life.said
  heard : t.life.heard ≡ s.life.heard
  taken : t.life.taken ≡ s.life.taken ++ s.waiting
  connections : t.now.connections ≡ s.now.connections
  tail : t.now.tail ≡ s.now.tail
  linked : is_some t.now.link ≡ true

pub took_by : (l : Option Link) (s : Past) → is_some l ≡ true
    → Took (on l s) (performed histories (outcome_at (histories.see (on l s)) l (event.Sent (length s.waiting))).acts (on l s))
took_by None s h = absurd (let no : false ≡ true = h in cc)
took_by (Some l) s h =
    if_keeps (λ (o : Outcome). Took (on (Some l) s) (performed histories o.acts (on (Some l) s))) (ltb (length s.waiting) (length s.waiting)) _ _
    (λ e. absurd (let no : length s.waiting < length s.waiting = grind (arith, nat_tests) in omega (arith, no)))
    (λ _. record {
      said = refl;
      heard = refl;
      taken = ap (λ (x : List ℕ). s.life.taken ++ x) (take_all (length s.waiting) s.waiting (omega arith));
      connections = refl;
      tail = refl;
      linked = refl;
    })

module _ (from : Beginning) (happened : List Happened) (c : Kept) (m : Mirrored) (k : Session) (f : Follows from happened c)
    (feeds : (past : Told) → StandsFor c.mirror past → StandsFor m (with_piece past c.session.waiting)) where
  abbrev now : Past
  now = Reached from happened

  abbrev then : Past
  then = Reached from (happened ++ taking c)

  waits : c.session.waiting ≡ now.waiting
  waits = ap (λ (x : Session). x.waiting) f.stands

  pub taken_follows : Took now then → Stands k then → Follows from (happened ++ taking c) (record c { session = k; mirror = m })
  taken_follows t stands =
      let x = own from happened f.one in
      let y = own from (happened ++ taking c) (t.connections ∙ f.one) in
      let w = c.session.waiting in
      let fed : fed_in (f.inputs ++ Fed w ∷ []) ≡ (life from happened).taken ++ w = fed_piece f.inputs w ∙ ap (λ (l : List ℕ). l ++ w) f.taken in
      let bytes : fed_in (f.inputs ++ Fed w ∷ []) ≡ bytes_of (life from happened) =
      fed ∙ ap (λ (l : Life). l.taken ++ w) x ∙ ap (λ (l : List ℕ). now.life.taken ++ l) waits ∙ sym (all_bytes now.now.link refl f.linked)
      ∙ ap bytes_of (sym x) in
      let were = subst (λ (l : List Request). WereTold l (life from happened).heard) (sym (sent_piece f.inputs w)) f.told in
      let heard : (life from (happened ++ taking c)).heard ≡ (life from happened).heard =
      ap (λ (l : Life). l.heard) y ∙ t.heard ∙ ap (λ (l : Life). l.heard) (sym x) in
      let said : (life from (happened ++ taking c)).said ≡ (life from happened).said ++ [] =
      ap (λ (l : Life). l.said) y ∙ t.said ∙ ap (λ (l : Life). l.said) (sym x) ∙ sym (append-nil (life from happened).said) in
      record {
        none = f.none;
        stands = stands;
        one = t.connections ∙ f.one;
        linked = t.linked;
        whole = t.tail ∙ f.whole;
        inputs = f.inputs ++ Fed w ∷ [];
        editor = editor_later (life from happened) (life from (happened ++ taking c)) [] said
            (λ n q e. ap (λ (l : List Ask). first_asked l n) heard ∙ e) (known from happened) (f.inputs ++ Fed w ∷ [])
            (editor_next (life from happened) f.inputs (Fed w) f.editor (known from happened)
            ([], sym bytes ∙ sym (append-nil (fed_in (f.inputs ++ Fed w ∷ [])))) were);
        mirror = subst (StandsFor m) (sym (after_last f.inputs nothing_past (Fed w))) (feeds (after f.inputs) f.mirror);
        taken = fed ∙ ap (λ (l : Life). l.taken ++ w) x ∙ ap (λ (l : List ℕ). now.life.taken ++ l) waits ∙ sym t.taken
            ∙ ap (λ (l : Life). l.taken) (sym y);
        told = λ n q e. were n q (ap (λ (l : List Ask). first_asked l n) (sym heard) ∙ e);
        numbers = subst (AreUpTo c.last) (sym (sent_piece f.inputs w)) f.numbers;
      } where
        all_bytes : (l : Option Link) → now.now.link ≡ l → is_some l ≡ true → bytes_of now.life ≡ now.life.taken ++ now.waiting
        all_bytes None e h = absurd (let no : false ≡ true = h in cc)
        all_bytes (Some link) e h = (every_byte_is_taken_or_waits from happened).rest link e

-- ---- the calls, of what stands inside of a client

-- what an event that was given leaves, unless no memory was left
ends_at : {X : Type 0} (s : Past) (e : Event) (f : X → Applied) (result : Result X EventError) (P : Past → Type 0)
    → ((x : X) → ran_out (f x) ≡ None) → (result ≡ Err error.NoMemory → ⊥) → Ends histories s e (answered f result) P → P (Effect s e)
ends_at s e f (Ok x) P plain never h = (subst (λ (o : Option ℕ). EndsWell histories s e (f x) o P) (plain x) h).1
ends_at s e f (Err error.NoMemory) P plain never h = absurd (never refl)
ends_at s e f (Err why) P plain never h = h.1

module _ (inner old : Kept) (is : inner ≡ old) where
  inside : (from : Beginning) (happened : List Happened) → Follows from happened old → Follows from happened inner
  inside from happened f = subst (Follows from happened) (sym is) f

  pub calls_inside : (k : Session) (e : Event) (result : Result Applied EventError) → Goes e → Happens inner.session e result k
      → Calls e result old (record inner { session = k })
  calls_inside k e result so h = (
    subst (λ (c : Kept). Happens c.session e result k) is h,
    λ from happened f. (calls_follow inner k e result so h).1 from happened (inside from happened f),
  )

  pub feeds_inside : (m : Mirrored) (k : Session) (piece counted : List ℕ) (result : Result (Unit {0}) EventError)
      → piece ≡ inner.session.waiting → counted ≡ inner.session.waiting
      → ((past : Told) → StandsFor inner.mirror past → StandsFor m (with_piece past piece))
      → (result ≡ Err error.NoMemory → ⊥)
      → Happens inner.session (event.Sent (length counted)) (answered (λ _. applied.Sent) result) k
      → GoesOn (taking old) old (record inner { session = k; mirror = m })
  feeds_inside m k piece counted result same count feeds never h from happened f =
      let s = Reached from happened in
      let g = inside from happened f in
      let n = length inner.session.waiting in
      let e = event.Sent n in
      let sent = subst (λ (l : List ℕ). Happens inner.session (event.Sent (length l)) (answered (λ _. applied.Sent) result) k) count h in
      let stands = ends_at s e (λ _. applied.Sent) result (λ t. Stands k t) (λ _. refl) never (sent.to_each s g.stands) in
      let on = leads_on from happened (taking inner) in
      let waits : n ≡ length s.waiting = ap (λ (x : Session). length x.waiting) g.stands in
      let took : Took s (Effect s e) = subst (λ (i : ℕ). Took s (Effect s (event.Sent i))) (sym waits) (took_by s.now.link s g.linked) in
      let all = taken_follows from happened inner m k g
      (subst (λ (l : List ℕ). (past : Told) → StandsFor inner.mirror past → StandsFor m (with_piece past l)) same feeds)
      (subst (Took s) on took) (subst (Stands k) on stands) in
      subst (λ (c : Kept). Follows from (happened ++ taking c) (record inner { session = k; mirror = m })) is all

  module _ (r : Request) (piece : List ℕ) (next : IsNext r old.last) (piece_is : IsPiece r piece) (m : Mirrored) (k : Session)
      (tells : (past : Told) → StandsFor inner.mirror past → StandsFor m (with_request past r)) where
    pub pushes_inside : (answer : Result (Unit {0}) EventError) → Happens inner.session (event.Recv piece) (answered (λ _. applied.Recv) answer) k
        → OnErr answer (k ≡ inner.session) → Pushes r piece old (sending answer) (record inner { session = k; mirror = m; last = r.seq })
    pushes_inside (Ok done) h same = (
      λ from happened f.
          (let s = Reached from happened in
          let g = inside from happened f in
          let above : IsNext r inner.last = subst (λ (c : Kept). IsNext r c.last) (sym is) next in
          let told = request_told from happened inner r above m tells g in
          let ended = h.to_each s g.stands in
          let on = leads_on from happened (Whole (event.Recv piece) ∷ []) in
          comes from happened (record inner { mirror = m; last = r.seq }) r piece k told piece_is (first_is from happened inner r above m tells g)
          (subst (λ (t : Past). Accepted s t piece) on (accepted_by s.now.link piece s ended.0)) (subst (Stands k) on ended.1)),
      (refl, subst (λ (c : Kept). Receives piece c (Ok applied.Recv) (record inner { session = k; mirror = m; last = r.seq })) is h),
    )
    pushes_inside (Err why) h same = (
      λ from happened f.
          (let g = inside from happened f in
          let above : IsNext r inner.last = subst (λ (c : Kept). IsNext r c.last) (sym is) next in
          let told = request_told from happened inner r above m tells g in
          subst (λ (l : List Happened). Follows from l (record inner { session = k; mirror = m; last = r.seq })) (sym (append-nil happened))
          (subst (λ (x : Session). Follows from happened (record inner { session = x; mirror = m; last = r.seq })) (sym same) told)),
      (
        same ∙ ap (λ (c : Kept). c.session) is,
        subst (λ (c : Kept). Receives piece c (Err why) (record inner { session = k; mirror = m; last = r.seq })) is h,
      ),
    )

pub sends_by : (r : Request) (piece : List ℕ) (old new : Kept) (result : Result (Unit {0}) SendError) → IsPiece r piece
    → Pushes r piece old result new → Sends r old result new
sends_by r piece old new (Ok done) is h = (
  subst (λ (l : List ℕ). GoesOn (Whole (event.Recv l) ∷ []) old new) is.is h.0,
  (h.1.0, subst (λ (l : List ℕ). Receives l old (Ok applied.Recv) new) is.is h.1.1),
)
sends_by r piece old new (Err (send.Session why)) is h =
    (h.0, (h.1.0, subst (λ (l : List ℕ). Receives l old (Err why) new) is.is h.1.1))
sends_by r piece old new (Err send.NoMemory) is h = h
sends_by r piece old new (Err send.Number) is h = absurd h
sends_by r piece old new (Err send.Range) is h = absurd h

-- ---- the beginning

pub begins : (from : Beginning) (k new : Session) (m : Mirrored) (result : Result ℕ EventError) → from.program ≡ None
    → Stands k (start from) → Happens k event.Connect (answered applied.Connect result) new → (result ≡ Err error.NoMemory → ⊥)
    → StandsFor m nothing_past → Follows from (Whole event.Connect ∷ []) (record { session = new; mirror = m; last = 0 })
begins from k new m result none stands h never mirror = record {
  none = none;
  stands = ends_at (start from) event.Connect applied.Connect result (λ t. Stands new t) (λ _. refl) never (h.to_each (start from) stands);
  one = refl;
  linked = refl;
  whole = refl;
  inputs = [];
  editor = record { bytes = ([], refl); in_time = λ before rest is. nothing_yet before rest is };
  mirror = mirror;
  taken = refl;
  told = λ n r e. absurd (let no : None ≡ Some r = e in cc);
  numbers = λ n more. refl;
} where
  nothing_yet : (before rest : List Input) → before ++ rest ≡ [] → AreTold no_life before
  nothing_yet [] rest is = All-nil (λ (x : Said). IsTold [] [] x.message)
  nothing_yet (x ∷ before) rest is = absurd (let no : x ∷ (before ++ rest) ≡ [] = is in cc)

-- ---- the claim

pub what_a_client_knows_was_so : KnowsWhatWasSo
what_a_client_knows_was_so from happened c f =
    let path : HasPath from = subst IsPath (sym f.none) tt in
    let held = mirrors_hold from happened (messages_are_readable from happened path) 1 f.inputs f.editor in
    subst (λ (l : List ℕ). WereSo (length l) (life from happened) (facts_of c.mirror.known)) f.taken (held.mirror c.mirror f.mirror)
