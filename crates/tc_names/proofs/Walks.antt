-- The steps of the walks.
use Rattle.std.proofs.Common.{
  ◌≡◌,
  ℕ,
  ◌+◌,
  ◌≤◌,
  List,
  [],
  ◌∷◌,
  ◌++◌,
  ◌-◌,
  length,
  map,
  take,
  drop,
  get_or,
  Option,
  Some,
  None,
  refl,
  sym,
  ap,
  subst,
  ◌∙◌,
  arith,
}
use Rattle.std.proofs.Math.Seq.{take-length}
use Rattle.tc_names.specs.declared.fault.NameFault.{NameFault}
use Rattle.tc_names.specs.declared.scope.Declaration.{Declaration}
use Rattle.tc_tree.specs.declared.program.Global.{Global}
use Rattle.tc_tree.specs.Grammar.{Thread}
use Rattle.tc_names.specs.Names.{
  ◌then◌,
  twice_fault,
  size_fault,
  global_name,
  global_declaration,
  globals_fault,
  declarations_fault,
  thread_declaration,
  threads_fault,
  body_fault,
}
use Rattle.tc_tree.specs.declared.program.Thread.{Thread as TreeThread}
use Rattle.tc_tree.specs.Seen.{thread_of, body_of}
use Rattle.tc_names.proofs.Lists.{next}

pub then-assoc : (a b c : Option NameFault) → ((a then b) then c) ≡ (a then (b then c))
then-assoc None b c = refl
then-assoc (Some f) b c = refl

-- ---- a body's own declarations

pub record OwnSoFar (source : List ℕ) (own : List Declaration) (count : ℕ) (rest : List Declaration) : Type 0 where
  pub same : declarations_fault source [] own ≡ declarations_fault source (take count own) rest
  pub left : drop count own ≡ rest

-- the rest of a list after its first element
pub later_is : {A : Type 0} (x : A) (xs : List A) → take (length (x ∷ xs) - 1) (drop 1 (x ∷ xs)) ≡ xs
later_is x xs = let e : length (x ∷ xs) - 1 ≡ length xs = omega arith in rw e (take-length xs)

-- ---- global declarations

pub record GlobalsSoFar (source : List ℕ) (all : List Declaration) (globals : List Global) (count : ℕ) (rest : List Global) : Type 0 where
  pub same : globals_fault source [] globals ≡ globals_fault source (take count all) rest
  pub left : drop count all ≡ map global_declaration rest ++ drop (length globals) all

pub globals_step : (source : List ℕ) (all : List Declaration) (globals : List Global) (count : ℕ) (rest : List Global) (g : Global)
    (later : List Global) → GlobalsSoFar source all globals count rest → rest ≡ g ∷ later
    → (twice_fault source (take count all) (global_name g) then size_fault g) ≡ None → GlobalsSoFar source all globals (count + 1) later
globals_step source all globals count rest g later o e clear =
    let n = next all count (global_declaration g) (map global_declaration later ++ drop (length globals) all) (o.left
    ∙ ap (λ (gs : List Global). map global_declaration gs ++ drop (length globals) all) e) in
    let more = globals_fault source (take count all ++ global_declaration g ∷ []) later in
    record {
      same = o.same ∙ ap (λ (gs : List Global). globals_fault source (take count all) gs) e
          ∙ sym (then-assoc (twice_fault source (take count all) (global_name g)) (size_fault g) more)
          ∙ ap (λ (f : Option NameFault). f then more) clear
          ∙ ap (λ (ds : List Declaration). globals_fault source ds later) (sym n.taken);
      left = n.left;
    }

pub globals_on : (source : List ℕ) (all : List Declaration) (globals : List Global) (count : ℕ) (rest : List Global) (d : Global)
    → GlobalsSoFar source all globals count rest → 1 ≤ length rest
    → (twice_fault source (take count all) (global_name (get_or rest 0 d)) then size_fault (get_or rest 0 d)) ≡ None
    → GlobalsSoFar source all globals (count + 1) (take (length rest - 1) (drop 1 rest))
globals_on source all globals count [] d o h clear = absurd (omega (arith, h))
globals_on source all globals count (g ∷ gs) d o h clear = subst (λ (ts : List Global). GlobalsSoFar source all globals (count + 1) ts)
    (sym (later_is g gs)) (globals_step source all globals count (g ∷ gs) g gs o refl clear)

-- ---- threads

pub record ThreadsSoFar (source : List ℕ) (all earlier : List Declaration) (threads : List Thread) (count : ℕ) (rest : List Thread) : Type 0 where
  pub same : threads_fault source all earlier threads ≡ threads_fault source all (take count all) rest
  pub left : drop count all ≡ map thread_declaration rest

pub threads_step : (source : List ℕ) (all earlier : List Declaration) (threads : List Thread) (count : ℕ) (rest : List Thread) (t : Thread)
    (later : List Thread) → ThreadsSoFar source all earlier threads count rest → rest ≡ t ∷ later → twice_fault source (take count all) t.name ≡ None
    → body_fault source all t.parameters t.body ≡ None → ThreadsSoFar source all earlier threads (count + 1) later
threads_step source all earlier threads count rest t later o e clear good =
    let n = next all count (thread_declaration t) (map thread_declaration later) (o.left ∙ ap (λ (ts : List Thread). map thread_declaration ts) e) in
    let more = threads_fault source all (take count all ++ thread_declaration t ∷ []) later in
    record {
      same = o.same ∙ ap (λ (ts : List Thread). threads_fault source all (take count all) ts) e
          ∙ ap (λ (f : Option NameFault). f then (body_fault source all t.parameters t.body then more)) clear
          ∙ ap (λ (f : Option NameFault). f then more) good
          ∙ ap (λ (ds : List Declaration). threads_fault source all ds later) (sym n.taken);
      left = n.left;
    }

pub threads_on : (source : List ℕ) (all earlier : List Declaration) (threads : List Thread) (count : ℕ) (rest : List TreeThread) (d : TreeThread)
    → ThreadsSoFar source all earlier threads count (map thread_of rest) → 1 ≤ length rest → d ≡ get_or rest 0 d
    → twice_fault source (take count all) d.name ≡ None → body_fault source all d.parameters.items (body_of d.body) ≡ None
    → ThreadsSoFar source all earlier threads (count + 1) (map thread_of (take (length rest - 1) (drop 1 rest)))
threads_on source all earlier threads count [] d o h is clear good = absurd (omega (arith, h))
threads_on source all earlier threads count (t ∷ ts) d o h is clear good =
    let clear' = subst (λ (u : TreeThread). twice_fault source (take count all) u.name ≡ None) is clear in
    let good' = subst (λ (u : TreeThread). body_fault source all u.parameters.items (body_of u.body) ≡ None) is good in
    subst (λ (us : List TreeThread). ThreadsSoFar source all earlier threads (count + 1) (map thread_of us)) (sym (later_is t ts))
    (threads_step source all earlier threads count (thread_of t ∷ map thread_of ts) (thread_of t) (map thread_of ts) o refl clear' good')
