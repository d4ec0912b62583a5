-- What a slice and another event leave of a program.
use Rattle.history_laws.proofs.Common.{[], Accept, after_next, and_next, Beat, beat_of, beats, Bool, by_effect, by_program, by_running, ByBeat, Connect, DropConnection, Effect, Event, false, histories, Hold, inl, inr, is_running, left, List, ltb, Mark, marked, next_by, None, OfProgram, on_program, Open, Option, performed, Program, program_of, Recv, refl, Retired, retired_in, Sent, Session, Slice, sliced, SliceEnd, Slicing, Some, still_holds, subst, suc, sym, true, Turn, zero, ℕ, ◌∙◌, ◌∷◌, ◌≡◌, ◌⊎◌}
use Rattle.session_laws.proofs.Joined.{NoneBecome}

-- ---- a slice

-- a program that stands still so, or goes on so, once these have retired
abbrev pub StandsOrGoes : (List Retired → Program → Type 0) → (List Retired → Program → Type 0) → List Retired → Option Program → Type 0
StandsOrGoes Stands Goes retired program = OfProgram (λ p. Stands retired p ⊎ Goes retired p) program

-- what each beat keeps of one that goes on, a slice keeps of both
module _ (Stands Goes : List Retired → Program → Type 0)
    (still : (retired : List Retired) (p : Program) → Stands retired p → (p.owed ≡ None) × (is_running p.run ≡ false))
    (goes : (s : Session) (p : Program) (more : Bool) (retired : List Retired) → program_of s ≡ Some p → Goes retired p
    → ByBeat (histories.see s) p more
    (λ b. StandsOrGoes Stands Goes (and_next b.moved (program_of s) retired) (program_of (performed histories b.acts s)))) where
  Leaves : List Retired → Session → Beat → Type 0
  Leaves retired s b = StandsOrGoes Stands Goes (and_next b.moved (program_of s) retired) (program_of (performed histories b.acts s))

  beat_keeps : (program : Option Program) (s : Session) (more : Bool) (retired : List Retired) → program_of s ≡ program
      → StandsOrGoes Stands Goes retired program → Leaves retired s (beat_of program (histories.see s) more)
  unfolding Leaves
  beat_keeps None s more retired is h = absurd h
  beat_keeps (Some p) s more retired is (inl h) =
      let rests = still retired p h in
      by_running (histories.see s) p more (Leaves retired s) (subst (StandsOrGoes Stands Goes retired) (sym is) (inl h))
      (λ runs. absurd (let no : true ≡ false = sym (runs rests.0) ∙ rests.1 in cc))
  beat_keeps (Some p) s more retired is (inr h) = by_program (histories.see s) p more (Leaves retired s) (goes s p more retired is h)

  next_keeps : (n : ℕ) (d : Slicing Session) (e : Option SliceEnd) (retired : List Retired)
      → StandsOrGoes Stands Goes retired (program_of d.state)
      → StandsOrGoes Stands Goes (after_next n e d retired) (program_of (next_by histories n e d).state)
  unfolding Leaves
  next_keeps n d (Some e) retired h = h
  next_keeps n d None retired h = beat_keeps (program_of d.state) d.state (ltb d.moved n) retired refl h

  pub slice_keeps : (n k : ℕ) (s : Session) (retired : List Retired) → StandsOrGoes Stands Goes retired (program_of s)
      → StandsOrGoes Stands Goes (retired_in n k s retired) (program_of (beats histories n k s).state)
  slice_keeps n zero s retired h = h
  slice_keeps n (suc k) s retired h =
      next_keeps n (beats histories n k s) (beats histories n k s).ending (retired_in n k s retired) (slice_keeps n k s retired h)

-- ---- another event

-- what holds of the program, of one that is held and of one that was left, as after a turn and after a slice, holds after an event
pub on_event : (s : Session) (P : Event → Option Program → Type 0) → ((e : Event) → P e (program_of s))
    → ((file : Option (List ℕ)) → P (Turn file) (program_of (Effect s (Turn file))))
    → ((n : ℕ) → P (Slice n) (program_of (sliced histories n s).state)) → P Hold (on_program (marked Mark.Hold) (program_of s))
    → P DropConnection (on_program left (program_of s)) → (e : Event) → P e (program_of (Effect s e))
unfolding NoneBecome
on_event s P same turns slices holds drops e = by_effect s (λ e t. P e (program_of t)) (record {
  refuses = λ e _. same e;
  opens = still_holds (P Connect) (Open ∷ []) s tt (same Connect);
  accepts = λ piece. still_holds (P (Recv piece)) (Accept piece ∷ []) s tt (same (Recv piece));
  turns = turns;
  slices = λ n. same (Slice n);
  holds = holds;
  takes = λ n. same (Sent n);
  drops = λ _ _. drops;
}) slices e
