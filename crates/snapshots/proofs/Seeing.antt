-- What a snapshot keeps is what an editor could see.
use mathlib.Core.Path.{fun_ext}
use Rattle.std.proofs.Common.{◌≡◌, ℕ, ◌+◌, ◌<◌, ◌++◌, length, drop, slice_index, List, [], ◌∷◌, Option, Some, None, refl, sym, ap, ◌∙◌, arith, zero, suc, subst}
use Rattle.std.proofs.Math.Seq.{drop-cons}
use Rattle.std.proofs.lemmas.List.{append_assoc}
use Rattle.std.specs.Prelude.{slice_get, option_map, Result, Ok, Err, IfOk}
use Rattle.std.specs.declared.alloc.AllocError.{AllocError}
use Rattle.answers.specs.StackTrace.{addresses}
use Rattle.debuggee.specs.Programs.{Program}
use Rattle.facts.specs.declared.frame.FrameInfo.{FrameInfo}
use Rattle.image.specs.Lines.{Table}
use Rattle.snapshots.specs.Shown.{Snapshot, frame_at, frame_in, shown_by, shown_of}
use Rattle.snapshots.specs.Snapshots.{Captured, IsTaken, captured, captured_of, frames_from, path_of, seen_of}
use Rattle.variables.specs.Numbers.{Numbers}

-- the frame of an index is there where its address is
frames_at : (table : Table) (numbers : Numbers) (places : List ℕ) (first index : ℕ)
    → slice_get (frames_from table numbers first places) index ≡ frame_at table numbers (first + index) (slice_get places index)
frames_at table numbers [] first index = refl
frames_at table numbers (place ∷ places) first zero =
    let e : first ≡ first + zero = omega arith in ap (λ (n : ℕ). Some (frame_in table numbers n place)) e
frames_at table numbers (place ∷ places) first (suc index) =
    let e : first + 1 + index ≡ first + suc index = omega arith in
    frames_at table numbers places (first + 1) index ∙ ap (λ (n : ℕ). frame_at table numbers n (slice_get places index)) e

-- one frame more is kept
pub one_more : (table : Table) (numbers : Numbers) (places : List ℕ) (index : ℕ) (kept all : List FrameInfo) → index < length places
    → kept ++ frames_from table numbers index (drop index places) ≡ all
    → (kept ++ frame_in table numbers index (slice_index places index) ∷ []) ++ frames_from table numbers (index + 1) (drop (index + 1) places) ≡ all
one_more table numbers places index kept all within e =
    let next : suc index ≡ index + 1 = omega arith in
    let rest : drop index places ≡ slice_index places index ∷ drop (index + 1) places =
    drop-cons places index 0 within ∙ ap (λ (n : ℕ). slice_index places index ∷ drop n places) next in
    append_assoc kept (frame_in table numbers index (slice_index places index) ∷ [])
    (frames_from table numbers (index + 1) (drop (index + 1) places))
    ∙ ap (λ (l : List ℕ). kept ++ frames_from table numbers index l) (sym rest)
    ∙ e

frame_as_shown : (p : Program) (numbers : Numbers) (index : ℕ)
    → slice_get (frames_from p.image.lines numbers 0 (addresses p.machine)) index ≡ frame_at p.image.lines numbers index (slice_get (addresses p.machine) index)
frame_as_shown p numbers index =
    let e : 0 + index ≡ index = omega arith in
    frames_at p.image.lines numbers (addresses p.machine) 0 index ∙ ap
    (λ (n : ℕ). frame_at p.image.lines numbers n (slice_get (addresses p.machine) index)) e

seen_by : (program : Option Program) (numbers : Numbers)
    → seen_of (option_map (λ p. captured_of p numbers) program) ≡ shown_by program numbers
seen_by None numbers = refl
seen_by (Some p) numbers = ap (λ (f : ℕ → Option FrameInfo). record (shown_of p numbers) { frame = f }) (fun_ext (frame_as_shown p numbers))

path_by : (program : Option Program) (numbers : Numbers)
    → path_of (option_map (λ p. captured_of p numbers) program) ≡ option_map (λ p. p.path) program
path_by None numbers = refl
path_by (Some p) numbers = refl

pub captured_is_taken : (seen : Snapshot) → IsTaken (captured seen) seen
captured_is_taken seen = record { facts = seen_by seen.debuggee.program seen.numbers; path = path_by seen.debuggee.program seen.numbers }

pub is_taken : (seen : Snapshot) (result : Result (Option Captured) AllocError) → IfOk result (λ taken. taken ≡ captured seen)
    → IfOk result (λ taken. IsTaken taken seen)
is_taken seen (Err e) h = tt
is_taken seen (Ok taken) h = subst (λ (t : Option Captured). IsTaken t seen) (sym h) (captured_is_taken seen)
