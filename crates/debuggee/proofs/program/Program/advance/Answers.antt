use Rattle.debuggee.proofs.Common.{Advances, ap, GoesQuietly, None, Program, Some, subst, sym, ◌+◌, ◌∙◌, ◌≡◌}
use Rattle.debuggee.specs.declared.program.Advanced.TheVariants.{HasOutput, Stops, OutOfMemory}
use Rattle.debuggee.proofs.Advancing.{lacking_names_none, run_lacks, run_meets, run_owes, run_spends, spent_names_none}
use Rattle.debuggee.proofs.Loading.{still_loadable}
use Rattle.debuggee.proofs.program.Program.advance.Goals as goal

pub invariant_of-self : goal.invariant_of-self
invariant_of-self c = (
  λ none. spent_names_none c.args.most _ c.run-ran.result c.run-ran.new.self (c.self.invariant.0 none) c.in-Spent.is c.run-ran.ensures.run,
  still_loadable c.self.inside.image c.args.most _ c.run-ran.result c.run-ran.new.self c.run-ran.ensures.run c.self.invariant.1,
)

pub invariant_of-self-then-stays : goal.invariant_of-self-then-stays
invariant_of-self-then-stays c =
    let p : Program = record {
      image = c.self.inside.image;
      path = c.self.inside.path;
      stop_on_entry = c.self.inside.stop_on_entry;
      run = c.self.inside.run;
      mark = c.self.inside.mark;
      machine = c.self.inside.runner;
      owed = c.self.inside.owed;
    } in (
      λ none. (run_meets c.args.most p c.run-ran.result c.in-Ticked.tick c.run-ran.new.self none (c.self.invariant.0 none)
          (ap (λ (x : Program). x.machine.check_due) c.self.view_is ∙ c.requires.due) c.in-Ticked.is
          (sym c.stays.ensures ∙ c.if-stays.true) c.run-ran.ensures.run).1,
      still_loadable c.self.inside.image c.args.most _ c.run-ran.result c.run-ran.new.self c.run-ran.ensures.run c.self.invariant.1,
    )

pub returns-in-Spent : goal.returns-in-Spent
returns-in-Spent c =
    let p : Program = record {
      image = c.self.inside.image;
      path = c.self.inside.path;
      stop_on_entry = c.self.inside.stop_on_entry;
      run = c.self.inside.run;
      mark = c.self.inside.mark;
      machine = c.self.inside.runner;
      owed = c.self.inside.owed;
    } in
    let none = ap (λ (x : Program). x.owed) c.self.view_is ∙ c.requires.owed in
    subst (λ (x : Program). GoesQuietly c.args.most x (record p { machine = c.run-ran.new.self })) c.self.view_is
    (run_spends c.args.most p c.run-ran.result c.run-ran.new.self none c.in-Spent.is c.run-ran.ensures.run)

pub returns-then-stays : goal.returns-then-stays
returns-then-stays c =
    let p : Program = record {
      image = c.self.inside.image;
      path = c.self.inside.path;
      stop_on_entry = c.self.inside.stop_on_entry;
      run = c.self.inside.run;
      mark = c.self.inside.mark;
      machine = c.self.inside.runner;
      owed = c.self.inside.owed;
    } in
    let none = ap (λ (x : Program). x.owed) c.self.view_is ∙ c.requires.owed in
    let due = ap (λ (x : Program). x.machine.check_due) c.self.view_is ∙ c.requires.due in
    let stays = sym c.stays.ensures ∙ c.if-stays.true in
    subst (λ (x : Program). Advances c.args.most x (Stops c.run-ran.result.went c.in-Ticked.tick)
    (record p { machine = c.run-ran.new.self })) c.self.view_is
    (run_meets c.args.most p c.run-ran.result c.in-Ticked.tick c.run-ran.new.self none
    (c.self.invariant.0 none) due c.in-Ticked.is stays c.run-ran.ensures.run).0

pub returns-else-stays : goal.returns-else-stays
returns-else-stays c =
    let p : Program = record {
      image = c.self.inside.image;
      path = c.self.inside.path;
      stop_on_entry = c.self.inside.stop_on_entry;
      run = c.self.inside.run;
      mark = c.self.inside.mark;
      machine = c.self.inside.runner;
      owed = c.self.inside.owed;
    } in
    let none = ap (λ (x : Program). x.owed) c.self.view_is ∙ c.requires.owed in
    let goes = sym c.stays.ensures ∙ c.if-stays.false in
    subst (λ (x : Program). Advances c.args.most x (HasOutput (c.run-ran.result.went + 1))
    (record p { machine = c.run-ran.new.self; owed = Some c.in-Ticked.tick })) c.self.view_is
    (run_owes c.args.most p c.run-ran.result c.in-Ticked.tick c.run-ran.new.self none c.in-Ticked.is goes c.run-ran.ensures.run)

pub invariant_of-self-else-stays : goal.invariant_of-self-else-stays
invariant_of-self-else-stays c = (
  λ none. absurd (let never : Some c.in-Ticked.tick ≡ None = none in cc),
  still_loadable c.self.inside.image c.args.most _ c.run-ran.result c.run-ran.new.self c.run-ran.ensures.run c.self.invariant.1,
)

pub invariant_of-self-in-NoMemory : goal.invariant_of-self-in-NoMemory
invariant_of-self-in-NoMemory c = (
  λ none. lacking_names_none c.args.most _ c.run-ran.result c.run-ran.new.self
      (c.self.invariant.0 none) c.in-NoMemory.is c.run-ran.ensures.run,
  still_loadable c.self.inside.image c.args.most _ c.run-ran.result c.run-ran.new.self c.run-ran.ensures.run c.self.invariant.1,
)

pub returns-in-NoMemory : goal.returns-in-NoMemory
returns-in-NoMemory c =
    let p : Program = record {
      image = c.self.inside.image;
      path = c.self.inside.path;
      stop_on_entry = c.self.inside.stop_on_entry;
      run = c.self.inside.run;
      mark = c.self.inside.mark;
      machine = c.self.inside.runner;
      owed = c.self.inside.owed;
    } in
    let none = ap (λ (x : Program). x.owed) c.self.view_is ∙ c.requires.owed in
    subst (λ (x : Program). Advances c.args.most x (OutOfMemory c.run-ran.result.went) (record p { machine = c.run-ran.new.self })) c.self.view_is
    (run_lacks c.args.most p c.run-ran.result c.run-ran.new.self none c.in-NoMemory.is c.run-ran.ensures.run)
