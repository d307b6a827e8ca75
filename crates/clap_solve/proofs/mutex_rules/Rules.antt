-- The conjuncts of a system say that a mutex's regions don't overlap and that loads are right.
use Rattle.std.proofs.Common.{◌≡◌, ◌∙◌, ℕ, Bool, true, List, ◌++◌, Some, refl, ap, subst}
use Rattle.std.specs.Prelude.{slice_get}
use Rattle.std.specs.List.{All, Contains}
use Rattle.std.proofs.lemmas.Bool.{eq-eqb, eqb-true, false≢true}
use Rattle.std.proofs.lemmas.List.Elements.{Contains-append_left, Contains-append_right}
use Rattle.std.proofs.lemmas.List.Sums.{passes_at_first}
use Rattle.std.proofs.lemmas.Option.{get_or_from_slice_get, slice_get_within}
use Rattle.mutex_states.specs.mutex_regions.order_events.sym_exec.path_walk.tc_code.Code.{Code}
use Rattle.mutex_states.specs.mutex_regions.order_events.sym_exec.path_walk.Paths.{Paths}
use Rattle.mutex_states.specs.mutex_regions.order_events.store_buffers.Pending.{Binding}
use Rattle.mutex_states.specs.bit_blast.order_formula.sym_terms.declared.node.Node.{Node}
use Rattle.mutex_states.specs.mutex_regions.order_events.sym_exec.Executed.{Symbolic}
use Rattle.mutex_states.specs.mutex_regions.order_events.sym_exec.declared.symbolic.Access.{Access}
use Rattle.mutex_states.specs.bit_blast.order_formula.Reads.{Read}
use Rattle.mutex_states.specs.bit_blast.order_formula.Truth.{body_at, read_at}
use Rattle.mutex_states.specs.bit_blast.order_formula.Worlds.{World}
use Rattle.mutex_states.specs.bit_blast.order_formula.declared.formula.Body.{Body}
use Rattle.mutex_states.specs.bit_blast.order_formula.declared.formula.Body.TheVariants as body
use Rattle.mutex_states.specs.bit_blast.order_formula.declared.formula.Conjunct.{Conjunct}
use Rattle.mutex_states.specs.bit_blast.order_formula.declared.group.Group.TheVariants.{Mutex}
use Rattle.mutex_states.specs.mutex_regions.order_events.lawful_order.Events.{Placed, all_events, number_of}
use Rattle.mutex_states.specs.mutex_regions.order_events.lawful_order.Reads.{HasAccess}
use Rattle.mutex_states.specs.mutex_regions.order_events.lawful_order.Whole.{HasStep}
use Rattle.mutex_states.proofs.mutex_regions.order_events.Lists.{at_in}
use Rattle.mutex_states.proofs.mutex_regions.order_events.Numbers.{one_step}
use Rattle.clap_system.specs.memory_order.Own.{own_formula}
use Rattle.clap_system.specs.sync_order.Sync.{sync_formula}
use Rattle.clap_system.proofs.sync_order.Whole.{exactly}
use Rattle.mutex_states.specs.mutex_regions.read_write.Accesses.{all_accesses}
use Rattle.mutex_states.specs.mutex_regions.read_write.Reading.{read_formula, read_needs, read_of}
use Rattle.mutex_states.proofs.mutex_regions.read_write.Exact.{IsAbout, takes_from_read}
use Rattle.mutex_states.proofs.mutex_regions.read_write.Formulas.{load_from, needed}
use Rattle.mutex_states.proofs.mutex_regions.read_write.Numbers.{access_of, one_access}
use Rattle.clap_system.specs.Systems.{rules_of}
use Rattle.clap_system.specs.Tests.{test_formula}
use Rattle.clap_system.proofs.Ready.{of_load}
use Rattle.mutex_states.specs.mutex_regions.InOrder.{IsRight}
use Rattle.mutex_states.specs.InOrder.{RulesFollow, is_of_mutex, is_read_of, read_number}

module _ (buffered : Bool) (bound : Binding) (code : Code) (paths : Paths) (symbolic : Symbolic) (nodes : List Node) where
  abbrev own : List Conjunct
  own = own_formula buffered bound paths symbolic nodes

  abbrev sync : List Conjunct
  sync = sync_formula paths

  abbrev read : List Conjunct
  read = read_formula code paths symbolic nodes

  abbrev test : List Conjunct
  test = test_formula symbolic

  abbrev rules : List Conjunct
  rules = rules_of buffered bound code paths symbolic nodes

  in_sync : (c : Conjunct) → Contains sync c → Contains rules c
  in_sync c i = Contains-append_left (own ++ sync ++ read) test c (Contains-append_left (own ++ sync) read c (Contains-append_right own sync c i))

  module _ (w : World) (about : IsAbout paths symbolic nodes w) (needs : All (Contains nodes) (read_needs code symbolic nodes)) (m : ℕ) where
    -- the conjunct at a load's index is that of the load
    right : (a : Placed Access) (c : Conjunct) → Contains (all_accesses symbolic) a → slice_get rules (read_number paths rules a) ≡ Some c
        → body_at nodes w c.body ≡ true → IsRight code paths symbolic nodes w m a
    right a c i at holds = by c.body refl found holds
      where
        n : ℕ
        n = number_of paths a.thread a.it.step

        k : ℕ
        k = read_number paths rules a

        found : is_read_of n c.body ≡ true
        found =
            subst (λ (d : Conjunct). is_read_of n d.body ≡ true) (get_or_from_slice_get rules k c c at)
            (passes_at_first (λ (d : Conjunct). is_read_of n d.body) rules c (slice_get_within rules k c at))

        by : (b : Body) → c.body ≡ b → is_read_of n b ≡ true → body_at nodes w b ≡ true → IsRight code paths symbolic nodes w m a
        by (body.Any cases) is hit true_there = absurd (false≢true hit)
        by (body.Read r) is hit true_there =
            let l = load_from code paths symbolic nodes c (of_load buffered bound code paths symbolic nodes c r (at_in rules k c at) is) in
            let b = l.load in
            let own_read : Read = read_of code (all_events paths) (all_accesses symbolic) nodes b l.number in
            let same_body : body.Read own_read ≡ body.Read r = ap (λ (d : Conjunct). d.body) l.is ∙ is in
            let same_read : own_read ≡ r = cc in
            let same : number_of paths b.thread b.it.step ≡ n = ap (λ (x : Read). x.event) same_read ∙ eqb-true r.event n hit in
            let has : HasAccess symbolic b.thread b.it = access_of symbolic b l.among in
            let e = about.executed.accesses b.thread b.it has in
            let there : HasStep paths b.thread b.it.step = (e.0, e.1, e.2) in
            let one = one_step paths b.thread b.it.step a.thread a.it.step there same in
            let it : b.it ≡ a.it =
            one_access paths symbolic a.thread b.it a.it about.executed (subst (λ t. HasAccess symbolic t b.it) one.0 has) (access_of symbolic a i) one.1 in
            let whole : b ≡ a =
            ap (λ t. record { thread = t; it = b.it }) one.0 ∙ ap (λ (x : Access). record { thread = a.thread; it = x }) it in
            subst (IsRight code paths symbolic nodes w m) whole
            (takes_from_read code paths symbolic nodes w about b.thread b.it l.number has l.takes
            (needed code symbolic nodes needs b l.number l.among l.takes)
            (ap (read_at nodes w) same_read ∙ true_there))

    pub rules_follow : RulesFollow code paths symbolic nodes rules w m
    rules_follow = record {
      apart = λ all. (exactly paths buffered bound code symbolic nodes w about.of (Mutex m) refl).to (λ c i of.
          all c (in_sync c i) (ap (is_of_mutex m) of ∙ eq-eqb m m refl));
      right = λ a c i takes at holds. right a c i at holds;
    }
