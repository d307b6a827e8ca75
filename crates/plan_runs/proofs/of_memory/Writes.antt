-- Where the stores of a history are: in memory or in a buffer.
use Rattle.std.proofs.Common.{◌≡◌, ◌∙◌, ◌⊎◌, inl, inr, ℕ, ◌==◌, ◌&&◌, ℤ, Bool, true, false, not, cond, List, [], ◌∷◌, ◌++◌}
use Rattle.std.proofs.Common.{Option, Some, None, refl, ap, ap₂, sym, subst}
use Rattle.std.specs.Prelude.{option_and_then}
use Rattle.std.proofs.lemmas.Bool.{and_parts, and_from, eqb-true, eq-eqb, not_from_false, cases_Bool}
use Rattle.std.proofs.lemmas.Option.{none-some, same_Some, cond_some}
use Rattle.condition_order.specs.tc_base.Buffers.{Entry}
use Rattle.condition_order.specs.tc_base.Names.{Name}
use Rattle.condition_order.specs.tc_base.declared.request.Request.{Request}
use Rattle.condition_order.specs.tc_base.declared.request.Request.TheVariants.{Silent, Read, Write, Exchange}
use Rattle.condition_order.specs.tc_code.int_ops.Updates.{updated}
use Rattle.condition_order.proofs.run_laws.Names.{is_same, same_self}
use Rattle.sym_steps.specs.run_history.History.{Deed, Did, Drained, has_drained, same}
use Rattle.sym_steps.specs.run_history.Last.{brings}
use Rattle.sym_steps.specs.run_history.Told.{reaches}
use Rattle.sym_steps.specs.run_history.pending.Deeds.{IsIssuedIn, own_value}
use Rattle.condition_order.specs.path_walk.Paths.{Walk, paths_of}
use Rattle.sym_steps.specs.path_laws.Setting.{Setting}
use Rattle.sym_steps.specs.path_laws.history.Along.{IsThread, IsNameOfThread, HistoryAlong}
use Rattle.condition_order.specs.sym_exec.Alone.{Asked, asked_by}
use Rattle.sym_steps.specs.accesses.Asked.{IsAskedIn}
use Rattle.world_plan.specs.Sights.{Sight, sight_of, Shows}
use Rattle.plan_runs.proofs.of_memory.Accesses.{written, issue_asks}
use Rattle.plan_runs.proofs.of_memory.Issued.{IsDrainedIn, step_named, issuer_named, drain_issued, issue_drained}
use Rattle.plan_runs.proofs.of_memory.Shown.{the_sight}

abbrev the_asked : Asked → Asked
the_asked y = y

abbrev an_entry : Entry → Entry
an_entry e = e

-- an event other than a store is seen at once
at_once : (b : Bool) (s : Sight) → cond (b && false) None (Some s) ≡ Some s
at_once true s = refl
at_once false s = refl

-- a store goes into its thread's buffer, or reaches memory at once and is seen
abbrev GoesTo : Bool → Name → ℕ → Request → ℤ → Option Name → Asked → ℤ → Type 0
GoesTo b n k r took other y v =
    ((b ≡ true) × (r ≡ Write y.cell v))
    ⊎ ((reaches b (Did n k r took other) ≡ Some (an_entry (record { cell = y.cell; value = v })))
    × (sight_of b (Did n k r took other) ≡ Some (the_sight (record { thread = n; step = k }))))

exchanged : (c : ℕ) (u : ℤ) (y x : Asked) (v : ℤ) → y ∷ [] ≡ x ∷ [] → y.cell ≡ c → y.writes ≡ Some u → x.writes ≡ Some v
    → Some (an_entry (record { cell = c; value = u })) ≡ Some (an_entry (record { cell = x.cell; value = v }))
exchanged c u y x v asks cell writes written =
    let one : y ≡ x = cc in
    ap₂ (λ d z. Some (an_entry (record { cell = d; value = z }))) (sym cell ∙ ap (λ (z : Asked). z.cell) one)
    (same_Some u v (sym writes ∙ ap (λ (z : Asked). z.writes) one ∙ written))

goes_to : (b : Bool) (n : Name) (k : ℕ) (r : Request) (took : ℤ) (other : Option Name) (y : Asked) (v : ℤ) → asked_by took r ≡ y ∷ [] → y.writes ≡ Some v
    → GoesTo b n k r took other y v
goes_to true n k (Write c u) took other y v asks writes =
    let one : the_asked (record { cell = c; takes = None; writes = Some u }) ≡ y = cc in
    inl (refl, ap₂ Write (ap (λ (z : Asked). z.cell) one) (same_Some u v (ap (λ (z : Asked). z.writes) one ∙ writes)))
goes_to false n k (Write c u) took other y v asks writes = inr (exchanged c u _ y v asks refl refl writes, refl)
goes_to b n k (Exchange c u) took other y v asks writes = inr (exchanged c (updated u took) _ y v asks refl refl writes, at_once b _)
goes_to b n k (Read c) took other y v asks writes =
    let one : the_asked (record { cell = c; takes = Some took; writes = None }) ≡ y = cc in
    absurd (none-some v (ap (λ (z : Asked). z.writes) one ∙ writes))
goes_to b n k Silent took other y v asks writes = absurd cc
goes_to b n k r took other y v asks writes = absurd cc

-- a store that reaches a cell in memory brings its value there
brings_it : (b : Bool) (c : ℕ) (d : Deed) (v : ℤ) → reaches b d ≡ Some (an_entry (record { cell = c; value = v })) → brings b c d ≡ Some v
brings_it b c d v is = by (reaches b d) is
  where
    by : (o : Option Entry) → o ≡ Some (an_entry (record { cell = c; value = v }))
        → option_and_then (λ (e : Entry). cond (e.cell == c) (Some e.value) None) o ≡ Some v
    by o is =
        ap (option_and_then (λ (e : Entry). cond (e.cell == c) (Some e.value) None)) is ∙ ap (λ t. cond t (Some v) None) (eq-eqb c c refl)

-- a step that brings a value to a cell has a request for that, and is seen
record IsStepOf (b : Bool) (c : ℕ) (v : ℤ) (d : Deed) : Type 0 where
  name : Name
  number : ℕ
  request : Request
  took : ℤ
  other : Option Name
  is : d ≡ Did name number request took other
  asked : Asked
  asks : asked_by took request ≡ asked ∷ []
  cell : asked.cell ≡ c
  writes : asked.writes ≡ Some v
  sight : sight_of b d ≡ Some (the_sight (record { thread = name; step = number }))

step_brings : (b : Bool) (n : Name) (k : ℕ) (r : Request) (took : ℤ) (other : Option Name) (x c : ℕ) (u v : ℤ) (y : Asked) → asked_by took r ≡ y ∷ []
    → y.cell ≡ x → y.writes ≡ Some u → sight_of b (Did n k r took other) ≡ Some (the_sight (record { thread = n; step = k }))
    → cond (x == c) (Some u) None ≡ Some v → IsStepOf b c v (Did n k r took other)
step_brings b n k r took other x c u v y asks cell writes sight gives =
    let s = cond_some (x == c) u v gives in
    record {
      name = n;
      number = k;
      request = r;
      took = took;
      other = other;
      is = refl;
      asked = y;
      asks = asks;
      cell = cell ∙ eqb-true x c s.0;
      writes = writes ∙ ap (λ z. Some z) s.1;
      sight = sight;
    }

-- a drain that brings a value to a cell
record IsDrainTo (c : ℕ) (v : ℤ) (d : Deed) : Type 0 where
  name : Name
  number : ℕ
  is : d ≡ Drained name number c v

who_brings : (b : Bool) (c : ℕ) (d : Deed) (v : ℤ) → brings b c d ≡ Some v → IsStepOf b c v d ⊎ IsDrainTo c v d
who_brings b c (Drained n k x u) v gives =
    let s = cond_some (x == c) u v gives in
    inr (record { name = n; number = k; is = ap₂ (λ z y. Drained n k z y) (eqb-true x c s.0) s.1 })
who_brings true c (Did n k (Write x u) took other) v gives = absurd (none-some v gives)
who_brings false c (Did n k (Write x u) took other) v gives = inl (step_brings false n k (Write x u) took other x c u v _ refl refl refl refl gives)
who_brings b c (Did n k (Exchange x u) took other) v gives =
    inl (step_brings b n k (Exchange x u) took other x c (updated u took) v _ refl refl refl (at_once b _) gives)
who_brings b c (Did n k Silent took other) v gives = absurd (none-some v gives)
who_brings b c (Did n k r took other) v gives = absurd (none-some v gives)

-- a store of the thread itself that hasn't drained
pub record IsOwnStore (b : Bool) (h : List Deed) (n : Name) (c : ℕ) (v : ℤ) (d : Deed) : Type 0 where
  pub number : ℕ
  pub took : ℤ
  pub other : Option Name
  pub is : d ≡ Did n number (Write c v) took other
  pub buffered : b ≡ true
  pub waits : has_drained h n number ≡ false

pub own_store : (b : Bool) (h : List Deed) (n : Name) (c : ℕ) (d : Deed) (v : ℤ) → own_value b h n c d ≡ Some v → IsOwnStore b h n c v d
own_store b h n c (Did q k (Write x u) took other) v gives =
    let s = cond_some ((b && same n q) && ((x == c) && not (has_drained h n k))) u v gives in
    let both = and_parts (b && same n q) ((x == c) && not (has_drained h n k)) s.0 in
    let first = and_parts b (same n q) both.0 in
    let second = and_parts (x == c) (not (has_drained h n k)) both.1 in
    record {
      number = k;
      took = took;
      other = other;
      is = ap₂ (λ m z. Did m k (Write z u) took other) (sym (is_same n q first.1)) (eqb-true x c second.0) ∙ ap (λ z. Did n k (Write c z) took other) s.1;
      buffered = first.0;
      waits = false_of (has_drained h n k) second.1;
    }
  where
    false_of : (a : Bool) → not a ≡ true → a ≡ false
    false_of true e = sym e
    false_of false e = refl
own_store b h n c (Did q k Silent took other) v gives = absurd (none-some v gives)
own_store b h n c (Did q k r took other) v gives = absurd (none-some v gives)
own_store b h n c (Drained q k x u) v gives = absurd (none-some v gives)

pub own_gives : (b : Bool) (h : List Deed) (n : Name) (k c : ℕ) (v : ℤ) (took : ℤ) (other : Option Name) → b ≡ true → has_drained h n k ≡ false
    → own_value b h n c (Did n k (Write c v) took other) ≡ Some v
own_gives b h n k c v took other has waits =
    ap (λ t. cond t (Some v) None)
    (and_from (b && same n n) ((c == c) && not (has_drained h n k)) (and_from b (same n n) has (same_self n n refl))
    (and_from (c == c) (not (has_drained h n k)) (eq-eqb c c refl) (not_from_false (has_drained h n k) waits)))

module _ {B : Type 0} (setting : Setting B) (history : HistoryAlong setting) where
  open setting use {ops, code, log}
  open history use {deeds as h, along}

  -- the store of a thread's step is in memory or in the thread's buffer
  pub record IsInMemory (u k c : ℕ) (v : ℤ) : Type 0 where
    pub older : List Deed
    pub deed : Deed
    pub newer : List Deed
    pub there : h ≡ older ++ deed ∷ newer
    pub shows : Shows ops.buffered (paths_of code log) deed u k
    pub gives : brings ops.buffered c deed ≡ Some v

  pub record IsInBuffer (n : Name) (k c : ℕ) (v : ℤ) : Type 0 where
    pub buffered : ops.buffered ≡ true
    pub issued : IsIssuedIn h n k c v
    pub waits : has_drained h n k ≡ false

  pub where_written : (u : ℕ) (q : Walk) → IsThread code log u q → (k : ℕ) (y : Asked) (v : ℤ) → IsAskedIn h q.name k y → y.writes ≡ Some v
      → IsInMemory u k y.cell v ⊎ IsInBuffer q.name k y.cell v
  where_written u q there k y v d writes =
      elim (goes_to ops.buffered q.name k d.request d.took d.other y v d.asks writes) [
        | inl b ↦ of_issue b.0 (record {
          before = d.older;
          after = d.newer;
          took = d.took;
          other = d.other;
          issued = d.there ∙ ap (λ r. d.older ++ Did q.name k r d.took d.other ∷ d.newer) b.1;
        })
        | inr m ↦ inl (record {
          older = d.older;
          deed = Did q.name k d.request d.took d.other;
          newer = d.newer;
          there = d.there;
          shows = record { walk = q; there = there; sight = m.1 };
          gives = brings_it ops.buffered y.cell (Did q.name k d.request d.took d.other) v m.0;
        })
      ]
    where
      of_issue : ops.buffered ≡ true → IsIssuedIn h q.name k y.cell v → IsInMemory u k y.cell v ⊎ IsInBuffer q.name k y.cell v
      of_issue has i =
          elim (cases_Bool (has_drained h q.name k)) [
            | inl done ↦
                let z = issue_drained setting history q.name k y.cell v i done in
                inl (record {
                  older = z.older;
                  deed = Drained q.name k y.cell v;
                  newer = z.newer;
                  there = z.there;
                  shows = record { walk = q; there = there; sight = refl };
                  gives = ap (λ t. cond t (Some v) None) (eq-eqb y.cell y.cell refl);
                })
            | inr waits ↦ inr (record { buffered = has; issued = i; waits = waits })
          ]

  -- a deed that brings a value to memory has the store of a thread's step
  pub record IsStoreOf (c : ℕ) (v : ℤ) (d : Deed) : Type 0 where
    pub place : ℕ
    pub walk : Walk
    pub thread : IsThread code log place walk
    pub number : ℕ
    pub asked : Asked
    pub done : IsAskedIn h walk.name number asked
    pub cell : asked.cell ≡ c
    pub writes : asked.writes ≡ Some v
    pub shows : Shows ops.buffered (paths_of code log) d place number

  pub store_of : (older newer : List Deed) (d : Deed) (c : ℕ) (v : ℤ) → h ≡ older ++ d ∷ newer → brings ops.buffered c d ≡ Some v → IsStoreOf c v d
  store_of older newer d c v there gives =
      elim (who_brings ops.buffered c d v gives) [
        | inl s ↦ of_step s (step_named setting history older newer s.name s.number s.request s.took s.other (at_step s))
        | inr s ↦
            let z : IsDrainedIn h s.name s.number c v = record { older = older; newer = newer; there = there ∙ ap (λ x. older ++ x ∷ newer) s.is } in
            let i = (drain_issued setting history s.name s.number c v z).0 in
            of_drain s i (issuer_named setting history s.name s.number c v i)
      ]
    where
      at_step : (s : IsStepOf ops.buffered c v d) → h ≡ older ++ Did s.name s.number s.request s.took s.other ∷ newer
      at_step s = there ∙ ap (λ x. older ++ x ∷ newer) s.is

      of_step : (s : IsStepOf ops.buffered c v d) → IsNameOfThread code log s.name → IsStoreOf c v d
      of_step s t = record {
        place = t.index;
        walk = t.walk;
        thread = t.there;
        number = s.number;
        asked = s.asked;
        done = record {
          older = older;
          newer = newer;
          request = s.request;
          took = s.took;
          other = s.other;
          there = at_step s ∙ ap (λ m. older ++ Did m s.number s.request s.took s.other ∷ newer) (sym t.name_is);
          asks = s.asks;
        };
        cell = s.cell;
        writes = s.writes;
        shows = record { walk = t.walk; there = t.there; sight = s.sight ∙ ap (λ m. Some (the_sight (record { thread = m; step = s.number }))) (sym t.name_is) };
      }

      of_drain : (s : IsDrainTo c v d) → IsIssuedIn h s.name s.number c v → IsNameOfThread code log s.name → IsStoreOf c v d
      of_drain s i t = record {
        place = t.index;
        walk = t.walk;
        thread = t.there;
        number = s.number;
        asked = written c v;
        done = issue_asks h t.walk.name s.number c v (subst (λ m. IsIssuedIn h m s.number c v) (sym t.name_is) i);
        cell = refl;
        writes = refl;
        shows = record {
          walk = t.walk;
          there = t.there;
          sight = ap (sight_of ops.buffered) s.is ∙ ap (λ m. Some (the_sight (record { thread = m; step = s.number }))) (sym t.name_is);
        };
      }
