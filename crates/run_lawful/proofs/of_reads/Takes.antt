-- Each load of a run takes the value of the last store that it sees.
use Rattle.std.proofs.Common.{◌≡◌, ◌∙◌, ◌⊎◌, inl, inr, ℕ, ◌<◌, ℤ, pos, Bool, true, false, List, [], ◌∷◌, ◌++◌, Option, Some, None}
use Rattle.std.proofs.Common.{refl, sym, ap, subst, arith, append_assoc}
use Rattle.std.specs.Prelude.{is_some, unwrap_or, option_map, slice_index_or, IsSome}
use Rattle.std.specs.List.{filter_map}
use Rattle.std.proofs.lemmas.Bool.{true≢false, eq-eqb, eqb-true, cases_order}
use Rattle.std.proofs.lemmas.List.{append_cancel_left}
use Rattle.std.proofs.lemmas.Option.{same_Some}
use Rattle.sym_events.specs.tc_base.Names.{Name}
use Rattle.sym_events.specs.tc_base.declared.moves.Move.{Move}
use Rattle.sym_events.specs.tc_base.declared.request.Request.{Request}
use Rattle.sym_events.specs.tc_base.declared.request.Request.TheVariants.{Write}
use Rattle.sym_events.specs.tc_code.Run.{Reproduces}
use Rattle.sym_events.proofs.run_laws.Basics.{some_value}
use Rattle.sym_steps.specs.run_history.History.{Deed, Did, Drained, has_drained, history}
use Rattle.sym_steps.specs.run_history.Last.{IsLast, brings}
use Rattle.sym_steps.specs.run_history.Told.{reaches, value_in}
use Rattle.sym_steps.proofs.run_history.Last.{cells_have_last, cells_begin}
use Rattle.sym_steps.specs.run_history.pending.Deeds.{own_value}
use Rattle.sym_steps.proofs.run_history.of_pending.In.{In, in_append, in_at, in_left, in_split}
use Rattle.sym_steps.proofs.run_history.of_pending.Own.{own_has_last, own_has_none}
use Rattle.sym_steps.specs.run_follows.Follow.{IsNextStep, seen_in}
use Rattle.sym_events.specs.path_walk.Paths.{Walk, Paths, paths_of}
use Rattle.sym_steps.specs.path_laws.Setting.{Setting}
use Rattle.sym_steps.specs.path_laws.history.Along.{IsThread, IsNameOfThread, HistoryAlong}
use Rattle.sym_steps.proofs.path_laws.of_history.Walks.{thread_named}
use Rattle.sym_events.specs.sym_terms.Terms.{AreTerms}
use Rattle.sym_events.specs.sym_terms.declared.node.Node.{Node}
use Rattle.sym_events.specs.sym_exec.Alone.{Asked, asked_by, asked_in, cell_by}
use Rattle.sym_events.specs.sym_exec.Executed.{Symbolic}
use Rattle.sym_events.specs.sym_exec.declared.symbolic.Access.{Access}
use Rattle.sym_steps.specs.sym_laws.Valued.{AgreesWith, found}
use Rattle.sym_events.specs.order_formula.Worlds.{World}
use Rattle.sym_events.specs.lawful_order.Events.{IsBefore}
use Rattle.sym_events.specs.lawful_order.Reads.{HasAccess, Sees, TakesFrom, TakesFirst, ReadRule}
use Rattle.sym_events.specs.lawful_order.Whole.{HasStep}
use Rattle.world_plan.specs.Sights.{Sight, sight_of, Shows}
use Rattle.world_plan.proofs.Threads.{one_thread}
use Rattle.run_lawful.specs.world.Order.{IsOrderOf}
use Rattle.run_lawful.proofs.of_world.Run.{told}
use Rattle.run_lawful.proofs.of_world.Seen.{SeenBy, Done, Drain, AreTold, the_sight, seen_by, shown_by, shows_step, shows_drain}
use Rattle.run_lawful.proofs.of_world.Steps.{steps_ordered}
use Rattle.run_lawful.proofs.of_reads.Accesses.{access_step, same_cell, starts_so, HasDeed, deed_of, access_of, one_access}
use Rattle.run_lawful.proofs.of_reads.Loads.{load_is, load_takes}
use Rattle.run_lawful.proofs.of_reads.Order.{IsShownIn, first_before, shown_before, comes_after}
use Rattle.run_lawful.proofs.of_reads.Own.{own_in_order}
use Rattle.run_lawful.proofs.of_reads.Writes.{last_or_none, none_gives, drain_in, in_drain, asking, entry, reached, brings_so, seen_or_waits, by_its_drain, shown_reaches}
use Rattle.run_lawful.proofs.of_reads.Writes.{IsOfStep, of_step, writes_asked, asks_written, IsPendingStore, own_is, own_so}
use Rattle.sym_steps.proofs.path_laws.of_history.Told.{its_run, up_to}
use Rattle.sym_steps.proofs.path_laws.of_history.Logged.{history_again}

then_before : (i j k : ℕ) → i < j → j < k → i < k
then_before i j k first second = omega (arith, first, second)

module _ {B : Type 0} (setting : Setting B) (nodes : List Node) (terms : AreTerms nodes) (moves : List Move)
    (again : Reproduces setting.ops setting.code setting.log moves) (w : World)
    (agrees : AgreesWith (found setting.code setting.log nodes).symbolic w.loads (history setting.ops setting.code moves))
    (order : IsOrderOf setting.ops.buffered (paths_of setting.code setting.log) (history setting.ops setting.code moves) w) where
  open setting use {ops, model, bound, laws, code, log, log_is as is}

  abbrev buffered : Bool
  buffered = ops.buffered

  abbrev h : List Deed
  h = history ops code moves

  abbrev paths : Paths
  paths = paths_of code log

  abbrev symbolic : Symbolic
  symbolic = (found code log nodes).symbolic

  abbrev later : List Node
  later = (found code log nodes).nodes

  abbrev all : HistoryAlong setting
  all = history_again setting moves again

  abbrev apart : AreTold buffered h
  apart = told setting moves again

  abbrev asks : Access → Asked
  asks y = asked_in later w.loads y

  abbrev cell : Access → ℕ
  cell y = cell_by later w.loads y.cell

  abbrev SeesOf : (t : ℕ) (a : Access) (u : ℕ) (y : Access) → Type 0
  SeesOf t a u y = Sees code paths symbolic later w t a u y

  shows_so : (t k : ℕ) (q : Walk) (d : Deed) → IsThread code log t q → SeenBy buffered q.name k d → Shows buffered paths d t k
  shows_so t k q d there (Done r took other asked is_it kind kept) =
      subst (λ e. Shows buffered paths e t k) (sym is_it) (shows_step buffered paths t k q r took other asked there kind kept)
  shows_so t k q d there (Drain c v is_it) = subst (λ e. Shows buffered paths e t k) (sym is_it) (shows_drain buffered paths t k q c v there)

  -- the deed of an access that writes
  record IsWriter (p : Walk) (y : Access) : Type 0 where
    request : Request
    took : ℤ
    other : Option Name
    there : In (Did p.name y.step request took other) h
    value : ℤ
    writes : reaches false (Did p.name y.step request took other) ≡ Some (entry (cell y) value)

  writer : (u : ℕ) (p : Walk) (y : Access) → IsThread code log u p → HasAccess symbolic u y → IsSome (asks y).writes → IsWriter p y
  writer u p y there has some =
      let d = deed_of setting nodes terms moves again w agrees u y has in
      let v = some_value (asks y).writes some in
      let deed = Did d.walk.name y.step d.asked.request d.asked.took d.asked.other in
      subst (λ (x : Walk). IsWriter x y) (same_Some d.walk p (sym d.thread ∙ there)) (record {
        request = d.asked.request;
        took = d.asked.took;
        other = d.asked.other;
        there = subst (In deed) (sym d.asked.there) (in_at d.asked.older deed d.asked.newer);
        value = v.0;
        writes = writes_asked d.walk.name y.step d.asked.request d.asked.took d.asked.other (asks y) v.0 d.asked.asks v.1;
      })

  -- A load, or an exchange.
  module _ (t : ℕ) (a : Access) (has : HasAccess symbolic t a) (loads : IsSome a.takes) where
    abbrev d : HasDeed setting nodes terms moves again w agrees t a
    d = deed_of setting nodes terms moves again w agrees t a has

    abbrev q : Walk
    q = d.walk

    abbrev n : Name
    n = q.name

    abbrev k : ℕ
    k = a.step

    abbrev c : ℕ
    c = cell a

    abbrev older : List Deed
    older = d.asked.older

    abbrev newer : List Deed
    newer = d.asked.newer

    abbrev deed : Deed
    deed = Did n k d.asked.request d.asked.took d.asked.other

    at : h ≡ older ++ deed ∷ newer
    at = d.asked.there

    next : IsNextStep buffered code older n k d.asked.request d.asked.took d.asked.other
    next = (all.along.follow older newer deed at).1

    takes_some : is_some (asks a).takes ≡ true
    takes_some = let m = some_value a.takes loads in ap (λ o. is_some (option_map (λ i. slice_index_or w.loads i (pos 0)) o)) m.1

    takes_so : (asks a).takes ≡ Some (seen_in buffered code older n c)
    takes_so = load_takes buffered code older n k d.asked.request d.asked.took d.asked.other (asks a) next d.asked.asks takes_some

    shows : Shows buffered paths deed t k
    shows =
        let l = load_is buffered d.asked.request d.asked.took d.asked.other (asks a) d.asked.asks takes_some in
        shows_step buffered paths t k q d.asked.request d.asked.took d.asked.other l.asked d.thread l.asks l.kept

    in_history : (e : Deed) → In e older → In e h
    in_history e i = subst (In e) (sym at) (in_left e older (deed ∷ newer) i)

    -- a store of the same thread that waits when the load is done
    record IsWaiting (y : Access) : Type 0 where
      buffers : buffered ≡ true
      value : ℤ
      took : ℤ
      other : Option Name
      there : In (Did n y.step (Write c value) took other) older
      waits : has_drained older n y.step ≡ false

    module _ (y : Access) (owns : HasAccess symbolic t y) (writes : IsSome (asks y).writes) (same : cell y ≡ c) (less : y.step < k) where
      writing : IsWriter q y
      writing = writer t q y d.thread owns writes

      abbrev step : Deed
      step = Did n y.step writing.request writing.took writing.other

      in_older : In step older
      in_older =
          let s = in_split step h writing.there in
          let b = steps_ordered buffered bound code h all.along.follow n y.step k s.older s.newer older newer writing.request d.asked.request writing.took d.asked.took
          writing.other d.asked.other s.there at less in
          subst (In step) (sym b.1) (in_at s.older step b.0)

      waiting : buffered ≡ true → writing.request ≡ Write (cell y) writing.value → (b : Bool) → has_drained older n y.step ≡ b
          → IsShownIn buffered paths older t y.step ⊎ IsWaiting y
      waiting buffers store true e =
          let f = drain_in older n y.step e in
          inl (record { deed = Drained n y.step f.0 f.1; there = f.2; shows = shows_drain buffered paths t y.step q f.0 f.1 d.thread })
      waiting buffers store false e =
          inr (record {
            buffers = buffers;
            value = writing.value;
            took = writing.took;
            other = writing.other;
            there = subst (λ r. In (Did n y.step r writing.took writing.other) older) (store ∙ ap (λ i. Write i writing.value) same) in_older;
            waits = e;
          })

      own_seen : IsShownIn buffered paths older t y.step ⊎ IsWaiting y
      own_seen = elim (seen_or_waits buffered n y.step writing.request writing.took writing.other (entry (cell y) writing.value) writing.writes) [
        | inl at_once ↦ inl (record { deed = step; there = in_older; shows = shows_so t y.step q step d.thread at_once.0 })
        | inr store ↦ waiting store.0 store.1 (has_drained older n y.step) refl
      ]

    same_so : (u : ℕ) (y : Access) → SeesOf t a u y → cell y ≡ c
    same_so u y s =
        eqb-true (cell y) c
        (sym (same_cell setting nodes terms moves again w agrees u y t a s.there has) ∙ s.cell)

    -- each store that the load sees has taken place before it, or waits in the thread's own buffer
    how_seen : (u : ℕ) (y : Access) → SeesOf t a u y → IsShownIn buffered paths older u y.step ⊎ ((u ≡ t) × IsWaiting y)
    how_seen u y s = elim s.before [
      | inl before ↦
          inl (shown_before buffered paths h w order older newer deed t k at shows u y.step
          (access_step setting nodes terms moves again w agrees u y s.there) before)
      | inr own ↦
          elim (own_seen y (subst (λ i. HasAccess symbolic i y) own.0 s.there) s.writes (same_so u y s) own.1) [
            | inl shown ↦ inl (subst (λ i. IsShownIn buffered paths older i y.step) (sym own.0) shown)
            | inr waits ↦ inr (own.0, waits)
          ]
    ]

    first_so : (u j : ℕ) → IsShownIn buffered paths older u j → IsBefore paths w u j t k
    first_so u j shown = first_before buffered paths h w order older newer deed t k at shows u j shown

    -- If the thread has waiting stores to the cell, the load takes the last of them.
    module _ (v : ℤ) (l : IsLast (own_value buffered older n c) older v) where
      own : IsPendingStore buffered older n c v l.deed
      own = own_is buffered older n c v l.deed l.gives

      abbrev j : ℕ
      j = own.step

      abbrev store : Deed
      store = Did n j (Write c v) own.took own.other

      older_is : older ≡ l.older ++ store ∷ l.newer
      older_is = l.there ∙ ap (λ e. l.older ++ e ∷ l.newer) own.is

      store_in : In store h
      store_in = in_history store (subst (In store) (sym older_is) (in_at l.older store l.newer))

      written : (y : Access) × HasAccess symbolic t y × (y.step ≡ j) × (asks y ≡ asking c None (Some v))
      written =
          access_of setting nodes terms moves again w agrees t q j (Write c v) own.took own.other (asking c None (Some v))
          d.thread store_in refl

      abbrev newest : Access
      newest = written.0

      earlier : j < k
      earlier =
          let r = its_run setting (up_to setting all older (deed ∷ newer) at) in
          let below = r.told.tells.deeds.named.below l.older l.newer n j (Write c v) own.took own.other older_is in
          omega (arith, below, next.number)

      has_step : HasStep paths t j
      has_step = subst (HasStep paths t) written.2 (access_step setting nodes terms moves again w agrees t newest written.1)

      -- the waiting store doesn't take place before the load
      not_shown : IsShownIn buffered paths older t j → ⊥
      not_shown s =
          let seen = shown_by buffered paths t j q s.deed d.thread s.shows in
          let e = by_its_drain buffered h apart n j c v own.took own.other s.deed own.buffers store_in (in_history s.deed s.there) seen in
          true≢false (sym (in_drain older n j c e.0 (subst (λ x. In x older) e.1 s.there)) ∙ own.waits)

      other_deed : Shows buffered paths deed t j → ⊥
      other_deed s =
          let one : the_sight shows.walk.name k ≡ the_sight s.walk.name j =
          same_Some (the_sight shows.walk.name k) (the_sight s.walk.name j) (sym shows.sight ∙ s.sight) in
          let same : k ≡ j = ap (λ (x : Sight). x.step) one in
          absurd (omega (arith, same, earlier))

      after : IsBefore paths w t k t j
      after = comes_after buffered paths h w order older newer deed t k at shows t j has_step not_shown other_deed

      -- no later store of the thread to the cell waits
      none_newer : (z : Access) → IsWaiting z → j < z.step → ⊥
      none_newer z x more =
          let step = Did n z.step (Write c x.value) x.took x.other in
          let s = in_split step older x.there in
          let follow = (up_to setting all older (deed ∷ newer) at).along.follow in
          let b = steps_ordered buffered bound code older follow n j z.step l.older l.newer s.older s.newer (Write c v) (Write c x.value) own.took x.took
          own.other x.other older_is s.there more in
          let both : l.older ++ store ∷ l.newer ≡ l.older ++ store ∷ (b.0 ++ step ∷ s.newer) =
          sym older_is ∙ s.there ∙ ap (λ g. g ++ step ∷ s.newer) b.1 ∙ append_assoc l.older (store ∷ b.0) (step ∷ s.newer) in
          let tails = append_cancel_left l.older (store ∷ l.newer) (store ∷ (b.0 ++ step ∷ s.newer)) both in
          let rest : l.newer ≡ b.0 ++ step ∷ s.newer = cc in
          none_gives (own_value buffered older n c) l.newer step x.value l.last (subst (In step) (sym rest) (in_at b.0 step s.newer))
          (own_so buffered older n c x.value z.step x.took x.other x.buffers x.waits)

      before_newest : (u i : ℕ) → IsBefore paths w u i t j → IsBefore paths w u i t newest.step
      before_newest u i less = subst (λ m. IsBefore paths w u i t m) (sym written.2) less

      own_later : (z : Access) → HasAccess symbolic t z → IsWaiting z → ((z ≡ newest) ⊎ IsBefore paths w t z.step t newest.step)
      own_later z and x = elim (cases_order z.step j) [
        | inl same ↦ inl (one_access setting nodes terms moves again w agrees t z newest and written.1 (same ∙ sym written.2))
        | inr (inl less) ↦
            inr (before_newest t z.step (own_in_order ops model bound laws code h all.along.follow apart paths w order t q z.step j c x.value v x.took own.took x.other
            own.other d.thread own.buffers (in_history (Did n z.step (Write c x.value) x.took x.other) x.there) store_in less
            (access_step setting nodes terms moves again w agrees t z and) has_step))
        | inr (inr more) ↦ absurd (none_newer z x more)
      ]

      newest_last : (u : ℕ) (z : Access) → SeesOf t a u z → ((u ≡ t) × (z ≡ newest)) ⊎ IsBefore paths w u z.step t newest.step
      newest_last u z s = elim (how_seen u z s) [
        | inl shown ↦ inr (before_newest u z.step (then_before _ _ _ (first_so u z.step shown) after))
        | inr waits ↦
            elim (own_later z (subst (λ i. HasAccess symbolic i z) waits.0 s.there) waits.1) [
              | inl same ↦ inl (waits.0, same)
              | inr less ↦ inr (subst (λ i. IsBefore paths w i z.step t newest.step) (sym waits.0) less)
            ]
      ]

      from_store : TakesFrom code paths symbolic later w t a t newest
      from_store = record {
        sees = record {
          there = written.1;
          writes = ap (λ (x : Asked). is_some x.writes) written.3;
          cell = same_cell setting nodes terms moves again w agrees t newest t a written.1 has
              ∙ eq-eqb (cell newest) c (ap (λ (x : Asked). x.cell) written.3);
          before = inr (refl, omega (arith, earlier, written.2));
        };
        last = newest_last;
        takes = takes_so
            ∙ ap (λ o. Some (unwrap_or o (value_in buffered code older c))) (own_has_last buffered older n c v l)
            ∙ sym (ap (λ (x : Asked). x.writes) written.3);
      }

    -- If the thread has no waiting store to the cell, the load takes the value in memory.
    module _ (none : filter_map (own_value buffered older n c) older ≡ []) where
      in_memory : (asks a).takes ≡ Some (value_in buffered code older c)
      in_memory = takes_so ∙ ap (λ o. Some (unwrap_or o (value_in buffered code older c))) (own_has_none buffered older n c none)

      shown : (u : ℕ) (z : Access) → SeesOf t a u z → IsShownIn buffered paths older u z.step
      shown u z s = elim (how_seen u z s) [
        | inl it ↦ it
        | inr waits ↦
            let x = waits.1 in
            absurd (none_gives (own_value buffered older n c) older (Did n z.step (Write c x.value) x.took x.other) x.value none x.there
            (own_so buffered older n c x.value z.step x.took x.other x.buffers x.waits))
      ]

      -- each store that the load sees has brought a value to the cell
      brought : (u : ℕ) (z : Access) → SeesOf t a u z → (x : IsShownIn buffered paths older u z.step) → (v : ℤ) × (brings buffered c x.deed ≡ Some v)
      brought u z s x =
          let p = x.shows.walk in
          let y = writer u p z x.shows.there s.there s.writes in
          let reach = shown_reaches buffered h apart p.name z.step y.request y.took y.other (entry (cell z) y.value) x.deed y.there y.writes
          (in_history x.deed x.there) (seen_by buffered p.name z.step x.deed x.shows.sight) in
          (y.value, brings_so buffered c y.value x.deed (reach ∙ ap (λ i. Some (entry i y.value)) (same_so u z s)))

      -- the load takes the value of the last store that reached the cell
      module _ (v : ℤ) (l : IsLast (brings buffered c) older v) where
        deed_in : In l.deed older
        deed_in = subst (In l.deed) (sym l.there) (in_at l.older l.deed l.newer)

        bringer : IsOfStep buffered h apart l.deed (entry c v)
        bringer = of_step buffered h apart l.deed (entry c v) (in_history l.deed deed_in) (reached buffered c v l.deed l.gives)

        abbrev writing_deed : Deed
        writing_deed = Did bringer.thread bringer.step bringer.request bringer.took bringer.other

        thread : IsNameOfThread code log bringer.thread
        thread =
            let s = in_split writing_deed h bringer.there in
            let left = (its_run setting all).told.threads s.older s.newer bringer.thread bringer.step bringer.request bringer.took bringer.other s.there in
            thread_named setting (up_to setting all s.older (writing_deed ∷ s.newer) s.there) bringer.thread left.there

        abbrev u : ℕ
        u = thread.index

        abbrev p : Walk
        p = thread.walk

        abbrev i : ℕ
        i = bringer.step

        writes_it : (y : Asked) × (asked_by bringer.took bringer.request ≡ y ∷ []) × (y.cell ≡ c) × (y.writes ≡ Some v)
        writes_it = asks_written bringer.thread bringer.step bringer.request bringer.took bringer.other (entry c v) bringer.writes

        source : (y : Access) × HasAccess symbolic u y × (y.step ≡ i) × (asks y ≡ writes_it.0)
        source =
            access_of setting nodes terms moves again w agrees u p i bringer.request bringer.took bringer.other writes_it.0
            thread.there (subst (λ m. In (Did m i bringer.request bringer.took bringer.other) h) (sym thread.name_is) bringer.there) writes_it.1

        abbrev latest : Access
        latest = source.0

        last_shows : Shows buffered paths l.deed u i
        last_shows = shows_so u i p l.deed thread.there (subst (λ m. SeenBy buffered m i l.deed) (sym thread.name_is) bringer.seen)

        at_last : h ≡ l.older ++ l.deed ∷ (l.newer ++ deed ∷ newer)
        at_last = at ∙ ap (λ g. g ++ deed ∷ newer) l.there ∙ append_assoc l.older (l.deed ∷ l.newer) (deed ∷ newer)

        before_latest : (s m : ℕ) → IsBefore paths w s m u i → IsBefore paths w s m u latest.step
        before_latest s m less = subst (λ e. IsBefore paths w s m u e) (sym source.2) less

        same_source : (s : ℕ) (z : Access) → SeesOf t a s z → (e : IsShownIn buffered paths older s z.step) → l.deed ≡ e.deed → (s ≡ u) × (z ≡ latest)
        same_source s z sees e same =
            let one : the_sight e.shows.walk.name z.step ≡ the_sight last_shows.walk.name i =
            same_Some (the_sight e.shows.walk.name z.step) (the_sight last_shows.walk.name i)
            (sym e.shows.sight ∙ ap (sight_of buffered) (sym same) ∙ last_shows.sight) in
            let place : s ≡ u = one_thread code log is s u e.shows.walk last_shows.walk e.shows.there last_shows.there (ap (λ (g : Sight). g.thread) one) in
            let step : z.step ≡ latest.step = ap (λ (g : Sight). g.step) one ∙ sym source.2 in
            let and = subst (λ m. HasAccess symbolic m z) place sees.there in
            (place, one_access setting nodes terms moves again w agrees u z latest and source.1 step)

        latest_last : (s : ℕ) (z : Access) → SeesOf t a s z → ((s ≡ u) × (z ≡ latest)) ⊎ IsBefore paths w s z.step u latest.step
        latest_last s z sees = by (in_append e.deed l.older (l.deed ∷ l.newer) (subst (In e.deed) l.there e.there))
          where
            e : IsShownIn buffered paths older s z.step
            e = shown s z sees

            by : In e.deed l.older ⊎ In e.deed (l.deed ∷ l.newer) → ((s ≡ u) × (z ≡ latest)) ⊎ IsBefore paths w s z.step u latest.step
            by (inl front) =
                inr (before_latest s z.step (first_before buffered paths h w order l.older (l.newer ++ deed ∷ newer) l.deed u i at_last last_shows s z.step
                (record { deed = e.deed; there = front; shows = e.shows })))
            by (inr (inl same)) = inl (same_source s z sees e same)
            by (inr (inr back)) =
                let v = brought s z sees e in absurd (none_gives (brings buffered c) l.newer e.deed v.0 l.last back v.1)

        from_memory : TakesFrom code paths symbolic later w t a u latest
        from_memory = record {
          sees = record {
            there = source.1;
            writes = ap (λ (g : Asked). is_some g.writes) source.3 ∙ ap is_some writes_it.3;
            cell = same_cell setting nodes terms moves again w agrees u latest t a source.1 has
                ∙ eq-eqb (cell latest) c (ap (λ (g : Asked). g.cell) source.3 ∙ writes_it.2);
            before = inl (subst (λ e. IsBefore paths w u e t k) (sym source.2) (first_so u i (record { deed = l.deed; there = deed_in; shows = last_shows })));
          };
          last = latest_last;
          takes = in_memory
              ∙ ap (λ g. Some g) (cells_have_last buffered code older c v l)
              ∙ sym (ap (λ (g : Asked). g.writes) source.3 ∙ writes_it.3);
        }

      -- if no store reached the cell, the load takes its initial value
      from_start : filter_map (brings buffered c) older ≡ [] → TakesFirst code paths symbolic later w t a
      from_start nothing = record {
        sees = λ u z s. let e = shown u z s in let v = brought u z s e in none_gives (brings buffered c) older e.deed v.0 nothing e.there v.1;
        takes = in_memory
            ∙ ap (λ g. Some g) (cells_begin buffered code older c nothing
            ∙ sym (starts_so setting nodes terms moves again w agrees t a has));
      }

    pub takes_last : ((u : ℕ) × (y : Access) × TakesFrom code paths symbolic later w t a u y) ⊎ TakesFirst code paths symbolic later w t a
    takes_last = elim (last_or_none (own_value buffered older n c) older) [
      | inl none ↦
          elim (last_or_none (brings buffered c) older) [
            | inl nothing ↦ inr (from_start none nothing)
            | inr l ↦ inl ((thread none l.0 l.1).index, (source none l.0 l.1).0, from_memory none l.0 l.1)
          ]
      | inr l ↦ inl (t, (written l.0 l.1).0, from_store l.0 l.1)
    ]

  -- each load meets its rule
  pub read_rule : (t line : ℕ) → ReadRule code paths symbolic later w t line
  read_rule t line = record { loads = λ a x has loads event step at_line. takes_last t a has loads }
