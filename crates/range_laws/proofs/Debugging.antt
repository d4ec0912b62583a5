-- What a debugger does to a machine leaves it in range.
use Rattle.range_laws.proofs.Common.{[], All, All-cons, All-drop, All-head, All-nil, All-replicate, All-tail, All-take, ap, AreBytes, arith, Bool, CallsInRange, cond, DebuggedInRange, drop, eqb, false, fault_at, first_address, HartInRange, HartsStayInRange, Instr, IsByte, IsWord, length, length-drop, length-take, List, lit<, LoadedIsInRange, machine_of, memory_after, None, Ok, Option, PositionInRange, refl, ReloadedIsInRange, replicate, Some, subst, suc, sym, take, TicksStayInRange, true, unless_fault, with_bytes, WritesStayInRange, ℕ, ◌+◌, ◌∷◌, ◌≡◌, ◌≤◌}
use Rattle.breakpoints.specs.Stops.{Lists}
use Rattle.image.specs.declared.fault.MemFault.{MemFault}
use Rattle.rv32i.specs.declared.instr.Instr.TheVariants.{Jal, Jalr}
use Rattle.rv32i.specs.declared.stepped.Stepped.{Stepped}
use Rattle.rv32i.specs.declared.stepped.Stepped.TheVariants.{Retired, Printed, Break, Exit, Trap}
use Rattle.course.specs.Calls.{Kept, with_mark, with_marks}
use Rattle.stepping.specs.Loading.{not_hit}
use Rattle.course.specs.Marks.{Mark, is_link, jalr_marks, marks_at}
use Rattle.course.specs.Marks.Mark.{Push, Pop}
use Rattle.course.specs.Positions.{Position, noted_if, past_left}
use Rattle.stepping.proofs.Cases.{Enters, GoesBack, by_tick}
use Rattle.stepping.proofs.Leading.{ticks_lead}
use Rattle.stepping.specs.Goals.{turns_back}
use Rattle.stepping.specs.Leading.{LeadTo}
use Rattle.stepping.specs.Ticks.{Debugged, Moves, gone_on, looked_at, moved_as, position_of, settled, stayed, undone_by}
use Rattle.stepping.specs.declared.goal.Goal.{Goal}
use Rattle.stepping.specs.declared.goal.Goal.TheVariants.{Go, In, Over, Out, Back, ReverseGo}
use Rattle.range_laws.proofs.Hart.{moves_stay_in_range}
use Rattle.range_laws.proofs.Words.{bytes_in_range, started_in_range}

-- ---- calls

-- each push among these marks names a word
abbrev ArePlaced : List Mark → Type 0
ArePlaced [] = Unit {0}
ArePlaced (Push pc ∷ marks) = IsWord pc × ArePlaced marks
ArePlaced (Pop ∷ marks) = ArePlaced marks

jalr_placed : (rd rs1 same : Bool) (pc : ℕ) → IsWord pc → ArePlaced (jalr_marks rd rs1 same pc)
jalr_placed false false same pc w = tt
jalr_placed false true same pc w = tt
jalr_placed true false same pc w = (w, tt)
jalr_placed true true false pc w = (w, tt)
jalr_placed true true true pc w = (w, tt)

jal_placed : (links : Bool) (pc : ℕ) → IsWord pc → ArePlaced (cond links (Push pc ∷ []) [])
jal_placed true pc w = (w, tt)
jal_placed false pc w = tt

placed : (instr : Instr) (pc : ℕ) → IsWord pc → ArePlaced (marks_at instr pc)
placed (Jal rd offset) pc w = jal_placed (is_link rd) pc w
placed (Jalr rd rs1 imm) pc w = jalr_placed (is_link rd) (is_link rs1) (eqb rd rs1) pc w
placed other pc w = tt

pushed_calls : (pc : ℕ) (calls : List ℕ) → IsWord pc → CallsInRange calls → CallsInRange (take 256 (pc ∷ calls))
pushed_calls pc calls w h = record {
  words = All-take IsWord 256 (pc ∷ calls) (All-cons IsWord pc calls w h.words);
  few = let long = length-take 256 (pc ∷ calls) in omega (arith, long);
}

popped_calls : (calls : List ℕ) → CallsInRange calls → CallsInRange (drop 1 calls)
popped_calls calls h = record {
  words = All-drop IsWord 1 calls h.words;
  few = let long = length-drop 1 calls in let few = h.few in omega (arith, long, few);
}

marked_calls : (kept : Kept) (marks : List Mark) → ArePlaced marks → CallsInRange kept.calls → CallsInRange (with_marks kept marks).calls
marked_calls kept [] p h = h
marked_calls kept (Push pc ∷ marks) p h = marked_calls (with_mark kept (Push pc)) marks p.1 (pushed_calls pc kept.calls p.0 h)
marked_calls kept (Pop ∷ marks) p h = marked_calls (with_mark kept Pop) marks p (popped_calls kept.calls h)

noted_calls : (kept : Kept) (instr : Option Instr) (pc : ℕ) → IsWord pc → CallsInRange kept.calls
    → CallsInRange (noted_if kept instr pc).calls
noted_calls kept None pc w h = h
noted_calls kept (Some instr) pc w h = marked_calls kept (marks_at instr pc) (placed instr pc w) h

-- neither the goal of a run nor breakpoints are numbers of the machine
pub begun_in_range : (goal : Goal) (start : ℕ) (check_due : Bool) (d : Debugged) → DebuggedInRange d
    → DebuggedInRange (record d { goal = goal; start = start; check_due = check_due })
begun_in_range goal start check_due d h =
    record { machine = h.machine; calls = h.calls; end = h.end; past = h.past; leads = h.leads; few = h.few }

pub lists_in_range : (lists : Lists) (d : Debugged) → DebuggedInRange d → DebuggedInRange (record d { lists = lists })
lists_in_range lists d h =
    record { machine = h.machine; calls = h.calls; end = h.end; past = h.past; leads = h.leads; few = h.few }

-- ---- ticks

-- what of a machine is neither hart nor memory, nor how it came here
record RestInRange (d : Debugged) : Type 0 where
  calls : CallsInRange d.calls.calls
  end : IsWord (first_address + d.size)
  past : All PositionInRange d.past
  few : length d.past ≤ 65536

here_in_range : (d : Debugged) → DebuggedInRange d → PositionInRange (position_of d)
here_in_range d h = record { machine = h.machine; calls = h.calls }

-- after a move that retired
gone_rest : (instr : Option Instr) (before d : Debugged) → DebuggedInRange before → d.calls ≡ before.calls → d.size ≡ before.size
    → RestInRange (gone_on instr before d)
gone_rest instr before d h calls size =
    let here = here_in_range before h in
    let long = length-take 65536 (position_of before ∷ before.past) in
    record {
      calls =
          noted_calls d.calls instr before.hart.pc h.machine.pc
          (subst (λ (kept : Kept). CallsInRange kept.calls) (sym calls) h.calls);
      end = subst (λ (n : ℕ). IsWord (first_address + n)) (sym size) h.end;
      past =
          All-take PositionInRange 65536 (position_of before ∷ before.past)
          (All-cons PositionInRange (position_of before) before.past here h.past);
      few = omega (arith, long);
    }

still_rest : (before after : Debugged) → DebuggedInRange before → RestInRange (stayed (moved_as before after))
still_rest before after h = record { calls = h.calls; end = h.end; past = h.past; few = h.few }

settled_rest : (s : Stepped) (instr : Option Instr) (before after : Debugged) → DebuggedInRange before
    → RestInRange (settled s instr before (moved_as before after))
settled_rest (Exit code) instr before after h = still_rest before after h
settled_rest (Trap cause) instr before after h = still_rest before after h
settled_rest _ instr before after h = gone_rest instr before (moved_as before after) h refl refl

-- after a move that was undone
undone_in : (past : List Position) (d : Debugged) → d.past ≡ past → DebuggedInRange d → DebuggedInRange (undone_by past d)
undone_in [] d e h = h
undone_in (p ∷ past) d e h =
    let all : All PositionInRange (p ∷ past) = subst (λ (l : List Position). All PositionInRange l) e h.past in
    let leads : LeadTo (p ∷ past) (position_of d) = subst (λ (l : List Position). LeadTo l (position_of d)) e h.leads in
    let here : PositionInRange p = All-head PositionInRange p past all in
    let long : length d.past ≡ suc (length past) = ap length e in
    let few = h.few in
    record {
      machine = here.machine;
      calls = here.calls;
      end = h.end;
      past = All-tail PositionInRange p past all;
      leads = leads.1;
      few = omega (arith, long, few);
    }

looked_in : (g : Goal) (d : Debugged) → DebuggedInRange d → DebuggedInRange (looked_at g d)
looked_in ReverseGo d h = lists_in_range _ d h
looked_in _ d h = lists_in_range _ d h

pub ticks_stay_in_range : TicksStayInRange
ticks_stay_in_range before after answer t h = by_tick before after answer t entered undone moved where
  entered : before.check_due ≡ true → Enters before answer after → DebuggedInRange after
  entered due x =
      subst DebuggedInRange (sym x.1) (lists_in_range _ _ (begun_in_range before.goal before.start false before h))

  undone : before.check_due ≡ false → turns_back before.goal ≡ true → GoesBack before answer after → DebuggedInRange after
  undone due turns x =
      subst DebuggedInRange (sym x.1)
      (looked_in before.goal (undone_by before.past before) (undone_in before.past before refl h))

  moved : before.check_due ≡ false → turns_back before.goal ≡ false → Moves before answer after → DebuggedInRange after
  moved due forward m =
      let rest : RestInRange after = subst RestInRange (sym m.settles.1) (settled_rest m.stepped m.instr before after h) in
      record {
        machine =
            moves_stay_in_range (machine_of before.hart before.memory)
            (record { answer = Ok m.stepped; machine = machine_of after.hart after.memory }) m.moved h.machine;
        calls = rest.calls;
        end = rest.end;
        past = rest.past;
        leads = ticks_lead before after answer h.leads t;
        few = rest.few;
      }

-- ---- loading

pub loaded_is_in_range : LoadedIsInRange
loaded_is_in_range image size lists h w = record {
  machine = record {
    pc = h.entry;
    x = started_in_range (first_address + size) w;
    memory = bytes_in_range (replicate size 0) first_address image.bytes (All-replicate IsByte size 0 (lit< tt)) h.bytes;
  };
  calls = record { words = All-nil IsWord; few = omega arith };
  end = w;
  past = All-nil PositionInRange;
  leads = tt;
  few = omega arith;
}

pub reloaded_is_in_range : ReloadedIsInRange
reloaded_is_in_range image d h k = loaded_is_in_range image d.size (not_hit d.lists) h k.end

-- ---- writing

written_by : (fault : Option MemFault) (after before : List ℕ) → AreBytes after → AreBytes before
    → AreBytes (memory_after fault after before)
written_by None after before h k = h
written_by (Some fault) after before h k = k

pub writes_stay_in_range : WritesStayInRange
writes_stay_in_range d address bytes w h = record {
  machine = record {
    pc = h.machine.pc;
    x = h.machine.x;
    memory =
        written_by (fault_at d.memory 1 address (length bytes)) (with_bytes d.memory address bytes) d.memory
        (bytes_in_range d.memory address bytes h.machine.memory w) h.machine.memory;
  };
  calls = h.calls;
  end = h.end;
  past = past_in (fault_at d.memory 1 address (length bytes)) h.past;
  leads = leads_in (fault_at d.memory 1 address (length bytes)) refl;
  few = few_in (fault_at d.memory 1 address (length bytes)) h.few;
} where
  past_in : (fault : Option MemFault) → All PositionInRange d.past → All PositionInRange (past_left (unless_fault fault (tt {0})) d.past)
  past_in None all = All-nil PositionInRange
  past_in (Some fault) all = all

  few_in : (fault : Option MemFault) → length d.past ≤ 65536 → length (past_left (unless_fault fault (tt {0})) d.past) ≤ 65536
  few_in None few = omega arith
  few_in (Some fault) few = few

  leads_in : (fault : Option MemFault) → fault_at d.memory 1 address (length bytes) ≡ fault
      → LeadTo (past_left (unless_fault fault (tt {0})) d.past)
      (record {
        hart = d.hart;
        memory = memory_after fault (with_bytes d.memory address bytes) d.memory;
        calls = d.calls;
      })
  leads_in None e = tt
  leads_in (Some fault) e = h.leads

pub harts_stay_in_range : HartsStayInRange
harts_stay_in_range d hart w h = record {
  machine = record { pc = w.pc; x = w.x; memory = h.machine.memory };
  calls = h.calls;
  end = h.end;
  past = All-nil PositionInRange;
  leads = tt;
  few = omega arith;
}

-- the hart of a machine in range
pub hart_in_range : (d : Debugged) → DebuggedInRange d → HartInRange d.hart
hart_in_range d h = record { pc = h.machine.pc; x = h.machine.x }
