-- Helpers for proofs, in no public contract: states as stored data, so that they can be compared.
use Rattle.std.specs.Prelude.{◌≡◌, ℕ, ℤ, Bool, true, false, List, Option, Some, None, refl}
use Rattle.std.specs.Ordering.{nat_cmp}
use Rattle.std.specs.Cmp.Lexicographic.{slice_cmp}
use Rattle.std.specs.FinMap as map
use Rattle.std.specs.FinSet as set
use Rattle.std.specs.Coded.{Coded, code_by, coded×, coded_ℕ, coded_ℤ, coded_bool, coded_list, coded_option}
use Rattle.tc_base.specs.Names.{Name, ByName}
use Rattle.tc_base.specs.States.{Local, Thread, State}
use Rattle.tc_base.specs.declared.handle.Handle.{Handle}
use Rattle.tc_base.specs.declared.handle.Handle.TheVariants.{Unset, Child, Joined}

abbrev pub coded_name : Coded Name
coded_name = coded_list coded_ℕ

abbrev parted : Handle → Option (ℕ × Bool)
parted Unset = None
parted (Child n) = Some (n, false)
parted (Joined n) = Some (n, true)

abbrev joined : Option (ℕ × Bool) → Handle
joined None = Unset
joined (Some (n, false)) = Child n
joined (Some (n, true)) = Joined n

pub joined-parted : (h : Handle) → joined (parted h) ≡ h
joined-parted Unset = refl
joined-parted (Child n) = refl
joined-parted (Joined n) = refl

abbrev coded_handle : Coded Handle
coded_handle =
    code_by (Option (ℕ × Bool))
    (coded_option (coded× coded_ℕ coded_bool)) parted joined joined-parted

abbrev Position : Type 0
Position = (ℕ × ℕ) × (ℕ × ℕ)

abbrev Variables : Type 0
Variables = (List ℤ × List Handle) × (List Bool × List Bool)

abbrev pub coded_local : Coded Local
coded_local =
    code_by (Position × (Variables × Bool))
    (coded×
    (coded× (coded× coded_ℕ coded_ℕ) (coded× coded_ℕ coded_ℕ))
    (coded×
    (coded× (coded× (coded_list coded_ℤ) (coded_list coded_handle))
    (coded× (coded_list coded_bool) (coded_list coded_bool)))
    coded_bool))
    (λ t. (
      ((t.function, t.instruction), (t.children, t.steps)),
      (((t.slots, t.handles), (t.held, t.outcomes)), t.has_exited),
    ))
    (λ p. record {
      function = p.0.0.0;
      instruction = p.0.0.1;
      slots = p.1.0.0.0;
      handles = p.1.0.0.1;
      held = p.1.0.1.0;
      children = p.0.1.0;
      has_exited = p.1.1;
      outcomes = p.1.0.1.1;
      steps = p.0.1.1;
    })
    (λ _. refl)

abbrev pub coded_thread : {B : Type 0} → Coded B → Coded (Thread B)
coded_thread {B} b =
    code_by (Local × B)
    (coded× coded_local b)
    (λ t. (t.local, t.buffer))
    (λ p. record { local = p.0; buffer = p.1 })
    (λ _. refl)

abbrev Shared : Type 0
Shared = List ℤ × (List (Option Name) × List (set.FinSet (slice_cmp nat_cmp)))

abbrev pub coded_state : {B : Type 0} → Coded B → Coded (State B)
coded_state {B} b =
    code_by (Shared × (ByName (Thread B) × Option Name))
    (coded×
    (coded× (coded_list coded_ℤ)
    (coded× (coded_list (coded_option coded_name)) (coded_list (set.code coded_name))))
    (coded× (map.code coded_name (coded_thread b)) (coded_option coded_name)))
    (λ s. ((s.memory, (s.owners, s.waiters)), (s.threads, s.failed)))
    (λ p. record
    { memory = p.0.0; owners = p.0.1.0; waiters = p.0.1.1; threads = p.1.0; failed = p.1.1 })
    (λ _. refl)
