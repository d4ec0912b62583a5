use Rattle.course.proofs.Common.{ap, AreKnown, arith, CanBeKept, Entry, forgotten, Halts, Kept, kept as kept_move, List, machine_at, moves_of, placed, Position, refl, stored_at, subst, sym, with_called, with_move, ℕ, ◌*◌, ◌-◌, ◌/◌, ◌<◌, ◌^◌, ◌∙◌, ◌≡◌}
use Rattle.rv32i.specs.declared.performing.Halt.TheVariants.{Stopped}
use Rattle.course.proofs.Moving.{found, halts, kept, known_stored, marked, plain, same_position, stored, traps, unmarked_store}
use Rattle.course.proofs.Calling.{marks_fit}
use Rattle.course.proofs.Logging.{amended_moves, room_behind, taken_back}
use Rattle.course.proofs.Making.{jumps, makes, plain_keeps, store_keeps}
use Rattle.course.proofs.machine.Machine.quick.Goals as goal

pub returns-in-Err : goal.returns-in-Err
returns-in-Err c =
    let p : Position = record { hart = c.self.inside.hart; memory = c.self.inside.memory; calls = c.self.inside.calls } in
    let t = traps p c.args.pc c.in-Err.cause c.in-Err.ensures.ready.0 in
    (subst (λ (q : Position). Halts c.args.pc (Stopped c.in-Err.cause) q) c.self.view_is t, (c.self.view_is, refl))

pub invariant_of-self-in-Err-perform : goal.invariant_of-self-in-Err-perform
invariant_of-self-in-Err-perform c =
    let p : Position = record { hart = c.self.inside.hart; memory = c.self.inside.memory; calls = c.self.inside.calls } in
    let e : Entry = c.index-entry.result.now in
    let f = found p c.args.pc _ c.ready.new.entries.items e c.self.invariant.0.known c.in-Ok.ensures.ready c.index-entry.ensures in
    let s = halts p c.args.pc e c.in-Err-perform.halt _ _ f.knows f.named c.in-Err-perform.ensures.performs in (
      record {
        known = subst (λ (m : List ℕ). AreKnown m 0 0 c.ready.new.entries.items) (sym s.1.bytes) f.known;
        roomy = omega (arith, c.in-Ok.ensures.room, c.self.invariant.0.roomy);
      },
      c.self.invariant.1,
    )

pub returns-in-Err-perform : goal.returns-in-Err-perform
returns-in-Err-perform c =
    let p : Position = record { hart = c.self.inside.hart; memory = c.self.inside.memory; calls = c.self.inside.calls } in
    let e : Entry = c.index-entry.result.now in
    let f = found p c.args.pc _ c.ready.new.entries.items e c.self.invariant.0.known c.in-Ok.ensures.ready c.index-entry.ensures in
    let s = halts p c.args.pc e c.in-Err-perform.halt _ _ f.knows f.named c.in-Err-perform.ensures.performs in (
      subst (λ (q : Position). Halts c.args.pc c.in-Err-perform.halt q) c.self.view_is s.0,
      (
        same_position p c.args.self.now _ c.perform.new.memory c.self.view_is refl s.1.registers s.1.bytes,
        taken_back _ c.args.log.now c.push.new.self c.take_back.new.self c.push.ensures.puts c.take_back.ensures,
      ),
    )

-- a plain instruction
pub invariant_of-self-then-entry : goal.invariant_of-self-then-entry
invariant_of-self-then-entry c =
    let p : Position = record { hart = c.self.inside.hart; memory = c.self.inside.memory; calls = c.self.inside.calls } in
    let e : Entry = c.index-entry.result.now in
    let f = found p c.args.pc _ c.ready.new.entries.items e c.self.invariant.0.known c.in-Ok.ensures.ready c.index-entry.ensures in
    let n = plain p.calls e.instr c.args.pc (sym f.knows.plain ∙ c.if-entry.true) in
    let same = kept e.instr (machine_at c.args.pc p) _ _ _ n.stores c.in-Ok-perform.ensures.performs in (
      record {
        known = subst (λ (m : List ℕ). AreKnown m 0 0 c.ready.new.entries.items) (sym same) f.known;
        roomy = omega (arith, c.in-Ok.ensures.room, c.self.invariant.0.roomy);
      },
      c.self.invariant.1,
    )

pub returns-then-entry : goal.returns-then-entry
returns-then-entry c =
    let p : Position = record { hart = c.self.inside.hart; memory = c.self.inside.memory; calls = c.self.inside.calls } in
    let e : Entry = c.index-entry.result.now in
    let f = found p c.args.pc _ c.ready.new.entries.items e c.self.invariant.0.known c.in-Ok.ensures.ready c.index-entry.ensures in
    let n = plain p.calls e.instr c.args.pc (sym f.knows.plain ∙ c.if-entry.true) in (
      kept_move c.args.pc c.overwritten-was.result e.deed,
      (
        makes p c.args.self.now _ c.args.pc _ e _ c.self.view_is c.self.invariant.1 f.knows f.named
            (plain_keeps e p c.args.pc c.overwritten-was.result c.overwritten-was.ensures f.knows n.stores)
            c.in-Ok-perform.ensures.performs n.calls refl refl,
        c.push.ensures.moves,
      ),
    )

-- a store
pub invariant_of-self-then-entry-2 : goal.invariant_of-self-then-entry-2
invariant_of-self-then-entry-2 c =
    let p : Position = record { hart = c.self.inside.hart; memory = c.self.inside.memory; calls = c.self.inside.calls } in
    let e : Entry = c.index-entry.result.now in
    let f = found p c.args.pc _ c.ready.new.entries.items e c.self.invariant.0.known c.in-Ok.ensures.ready c.index-entry.ensures in
    let s = stored e.instr (machine_at c.args.pc p) _ _ _ (sym f.knows.stores ∙ c.if-entry-2.true) c.in-Ok-perform.ensures.performs in
    let at : c.stored_at-at.result ≡ stored_at e.instr p.hart.x = c.stored_at-at.ensures ∙ ap (stored_at e.instr) s.same in
    let forgets = c.forget.ensures.forgets ∙ ap (λ (a : ℕ). forgotten (a / 4 * 4) c.ready.new.entries.items) at in (
      record {
        known = subst (λ (es : List Entry). AreKnown c.perform.new.memory 0 0 es) (sym forgets)
            (known_stored _ p.hart.x c.perform.new.x p.memory c.perform.new.memory c.ready.new.entries.items s f.known);
        roomy = omega (arith, c.forget.ensures.room, c.in-Ok.ensures.room, c.self.invariant.0.roomy);
      },
      c.self.invariant.1,
    )

pub returns-then-entry-2 : goal.returns-then-entry-2
returns-then-entry-2 c =
    let p : Position = record { hart = c.self.inside.hart; memory = c.self.inside.memory; calls = c.self.inside.calls } in
    let e : Entry = c.index-entry.result.now in
    let f = found p c.args.pc _ c.ready.new.entries.items e c.self.invariant.0.known c.in-Ok.ensures.ready c.index-entry.ensures in
    let stores = sym f.knows.stores ∙ c.if-entry-2.true in
    let s = stored e.instr (machine_at c.args.pc p) _ _ _ stores c.in-Ok-perform.ensures.performs in
    let at : c.stored_at-at.result ≡ stored_at e.instr p.hart.x = c.stored_at-at.ensures ∙ ap (stored_at e.instr) s.same in
    let was : ℕ = c.overwritten-was.result in (
      placed (stored_at e.instr p.hart.x) (kept_move c.args.pc was e.deed),
      (
        makes p c.args.self.now _ c.args.pc _ e _ c.self.view_is c.self.invariant.1 f.knows f.named
            (store_keeps e p c.args.pc was c.overwritten-was.ensures f.knows stores) c.in-Ok-perform.ensures.performs
            (unmarked_store p.calls e.instr c.args.pc stores) refl refl,
        amended_moves _ c.args.log.now c.push.new.self c.place.new.self (placed c.stored_at-at.result) c.push.ensures.puts c.place.ensures
            ∙ ap (λ (a : ℕ). with_move (placed a (kept_move c.args.pc was e.deed)) (moves_of c.args.log.now)) at,
      ),
    )

-- a jump
pub invariant_of-self-2 : goal.invariant_of-self-2
invariant_of-self-2 c =
    let p : Position = record { hart = c.self.inside.hart; memory = c.self.inside.memory; calls = c.self.inside.calls } in
    let e : Entry = c.index-entry.result.now in
    let f = found p c.args.pc _ c.ready.new.entries.items e c.self.invariant.0.known c.in-Ok.ensures.ready c.index-entry.ensures in
    let none = sym f.knows.stores ∙ c.if-entry-2.false in
    let same = kept e.instr (machine_at c.args.pc p) _ _ _ none c.in-Ok-perform.ensures.performs in
    let fit = marks_fit e.pops e.pushes p.calls c.args.pc c.self.invariant.1
    (subst (λ (q : Position). q.calls.depth < 2 ^ 64 - 1) (sym c.self.view_is) c.requires) in (
      record {
        known = subst (λ (m : List ℕ). AreKnown m 0 0 c.ready.new.entries.items) (sym same) f.known;
        roomy = omega (arith, c.in-Ok.ensures.room, c.self.invariant.0.roomy);
      },
      subst (λ (k : Kept). CanBeKept k) (sym c.note_jump.ensures.marks) fit,
    )

pub returns : goal.returns
returns c =
    let p : Position = record { hart = c.self.inside.hart; memory = c.self.inside.memory; calls = c.self.inside.calls } in
    let e : Entry = c.index-entry.result.now in
    let f = found p c.args.pc _ c.ready.new.entries.items e c.self.invariant.0.known c.in-Ok.ensures.ready c.index-entry.ensures in
    let none = sym f.knows.stores ∙ c.if-entry-2.false in
    let n = marked p.calls _ e p.memory c.args.pc f.knows c.note_jump.ensures.marks in
    let r = c.note_jump.ensures.notes in (
      with_called r.called (kept_move c.args.pc c.overwritten-was.result e.deed),
      (
        jumps p c.args.self.now _ c.args.pc _ e _ r.called none c.self.view_is c.self.invariant.1 f.knows f.named
            (plain_keeps e p c.args.pc c.overwritten-was.result c.overwritten-was.ensures f.knows none)
            c.in-Ok-perform.ensures.performs n refl r.back,
        amended_moves _ c.args.log.now c.push.new.self c.note_jump.new.log (with_called r.called) c.push.ensures.puts r.notes,
      ),
    )

pub place-requires : goal.place-requires
place-requires c = room_behind _ c.args.log.now c.push.new.self c.push.ensures.puts

pub note_jump-requires-clause-some : goal.note_jump-requires-clause-some
note_jump-requires-clause-some c = room_behind _ c.args.log.now c.push.new.self c.push.ensures.puts

pub note_jump-requires-clause-deep : goal.note_jump-requires-clause-deep
note_jump-requires-clause-deep c = subst (λ (q : Position). q.calls.depth < 2 ^ 64 - 1) (sym c.self.view_is) c.requires
