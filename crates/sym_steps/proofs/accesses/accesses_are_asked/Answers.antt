use Rattle.sym_laws.proofs.path_laws.of_events.Lists.{in_contains, contains_in}
use Rattle.sym_steps.proofs.of_accesses.Asked.{access_asked, asked_access}
use Rattle.sym_steps.proofs.accesses.accesses_are_asked.Goals as goal

pub returns-clause-done : goal.returns-clause-done
returns-clause-done g c = λ setting nodes loads h t a among.
    access_asked setting nodes loads h t a (in_contains a t.course.accesses among)

pub returns-clause-found : goal.returns-clause-found
returns-clause-found g c = λ setting nodes loads h t k asked done.
    let a = asked_access setting nodes loads h t k asked done in
    (a.0, contains_in a.0 t.course.accesses a.1, a.2, a.3)
