-- A thread's regions begin one after another.
use Rattle.std.proofs.Common.{◌≡◌, ℕ, zero, suc, ◌<◌, List, [], ◌∷◌, map, Option, Some, None, inl, inr, refl, ap, sym, subst, ◌∙◌, arith}
use Rattle.std.specs.Prelude.{option_map, slice_get, ◌==◌}
use Rattle.std.specs.List.{Contains, cons_option}
use Rattle.std.proofs.lemmas.Bool.{eqb-true}
use Rattle.std.proofs.lemmas.Option.{none-some, same_Some}
use Rattle.tc_code.specs.Code.{Code}
use Rattle.path_walk.specs.Events.{acquired_mutex, region_of, regions_of as regions_in, release_step}
use Rattle.path_walk.specs.Paths.{ArePaths, Paths, Walk, walk_of}
use Rattle.path_walk.specs.declared.event.Event.{Event}
use Rattle.path_walk.specs.declared.event.Region.{Region}
use Rattle.path_walk.specs.run_log.Logs.{Log}
use Rattle.path_walk.specs.tc_base.Paths.{ThreadPath}
use Rattle.order_events.specs.lawful_order.Events.{HasRegion, Placed}
use Rattle.order_events.proofs.Lists.{at_in, in_at, in_back, in_front, of_cons, of_filter, of_nil}
use Rattle.order_events.proofs.Numbers.{of_all_from}
use Rattle.order_events.proofs.Whole.{whole}
use Rattle.mutex_regions.specs.Regions.{all_regions, regions_of}
use Rattle.mutex_regions.proofs.Rises.{Rises, StepsRise, one_of_step, rises_filtered, rises_from}

abbrev pub begin_of : Region → ℕ
begin_of r = r.«from»

abbrev step_of : Event → ℕ
step_of e = e.step

-- the region that an event begins has its step
begin_is : (e : Event) (es : List Event) (r : Region) → region_of e es ≡ Some r → r.«from» ≡ e.step
begin_is e es r h = by (acquired_mutex e.kind) h
  where
    by : (o : Option ℕ) → option_map (λ m. record { mutex = m; «from» = e.step; to = release_step m es }) o ≡ Some r → r.«from» ≡ e.step
    by None none = absurd (none-some r none)
    by (Some m) some = sym (ap (λ (s : Region). s.«from») (same_Some (record { mutex = m; «from» = e.step; to = release_step m es }) r some))

-- a region is that of one of the events
begins_with : (es : List Event) (r : Region) → Contains (regions_in es) r → (x : Event) × Contains es x × (r.«from» ≡ x.step)
begins_with [] r i = absurd (of_nil r i)
begins_with (e ∷ es) r i = by (region_of e es) refl i (begins_with es r)
  where
    by : (o : Option Region) → region_of e es ≡ o → Contains (cons_option o (regions_in es)) r
        → (Contains (regions_in es) r → (x : Event) × Contains es x × (r.«from» ≡ x.step)) → (x : Event) × Contains (e ∷ es) x × (r.«from» ≡ x.step)
    by None is j later = let o = later j in (o.0, in_back o.0 e es o.1, o.2)
    by (Some s) is j later = elim (of_cons r s (regions_in es) j) [
      | inl same ↦ (e, in_front e es, begin_is e es r (is ∙ ap (λ x. Some x) same))
      | inr rest ↦ let o = later rest in (o.0, in_back o.0 e es o.1, o.2)
    ]

-- a later event begins a later region
regions_rise : (es : List Event) → StepsRise step_of es → StepsRise begin_of (regions_in es)
regions_rise [] rise j k a b at there less = absurd (none-some a at)
regions_rise (e ∷ es) rise j k a b at there less =
    by (region_of e es) refl (regions_rise es (λ i n x y p q low. rise (suc i) (suc n) x y p q (omega (arith, low))))
    j k at there less
  where
    by : (o : Option Region) → region_of e es ≡ o → StepsRise begin_of (regions_in es) → (j k : ℕ) → slice_get (cons_option o (regions_in es)) j ≡ Some a
        → slice_get (cons_option o (regions_in es)) k ≡ Some b → j < k → a.«from» < b.«from»
    by None is rest j k at there less = rest j k a b at there less
    by (Some x) is rest zero zero at there less = absurd (omega (arith, less))
    by (Some x) is rest zero (suc k) at there less =
        let o = begins_with es b (at_in (regions_in es) k b there) in
        let p = in_at es o.0 o.1 in
        omega (arith, rise 0 (suc p.0) e o.0 refl p.1 (omega arith), begin_is e es x is, o.2, ap begin_of (same_Some x a at))
    by (Some x) is rest (suc j) zero at there less = absurd (omega (arith, less))
    by (Some x) is rest (suc j) (suc k) at there less = rest j k a b at there (omega (arith, less))

mapped : (code : Code) (log : Log) (ts : List ThreadPath) (k : ℕ) (q : Walk) → slice_get (map (walk_of code log) ts) k ≡ Some q → q.regions ≡ regions_in q.events
mapped code log [] k q at = absurd (none-some q at)
mapped code log (t ∷ ts) zero q at = subst (λ (x : Walk). x.regions ≡ regions_in x.events) (same_Some (walk_of code log t) q at) refl
mapped code log (t ∷ ts) (suc k) q at = mapped code log ts k q at

pub begins_rise : (code : Code) (paths : Paths) (m : ℕ) → ArePaths code paths → Rises begin_of (regions_of paths m)
begins_rise code paths m are =
    rises_filtered begin_of (λ (r : Placed Region). r.it.mutex == m) (all_regions paths)
    (rises_from begin_of (λ (q : Walk). q.regions) 0 paths.threads (λ t q at.
    subst (StepsRise begin_of) (sym (regions_are t q at))
    (regions_rise q.events (λ a b x y e f less. (whole code paths are).rise t a b q x y at e f less))))
  where
    regions_are : (u : ℕ) (q : Walk) → slice_get paths.threads u ≡ Some q → q.regions ≡ regions_in q.events
    regions_are u q at = mapped code are.log are.log.threads u q (subst (λ (p : Paths). slice_get p.threads u ≡ Some q) are.are at)

pub one_region : (code : Code) (paths : Paths) (m : ℕ) → ArePaths code paths → (r s : Placed Region) → Contains (regions_of paths m) r → Contains (regions_of paths m) s
    → r.thread ≡ s.thread → r.it.«from» ≡ s.it.«from» → r ≡ s
one_region code paths m are r s i j same equal = one_of_step begin_of (regions_of paths m) r s (begins_rise code paths m are) i j same equal

-- a region of the list belongs to a thread
pub has_region : (paths : Paths) (m : ℕ) (r : Placed Region) → Contains (regions_of paths m) r → HasRegion paths r.thread r.it × (r.it.mutex ≡ m)
has_region paths m r i =
    let f = of_filter (λ (x : Placed Region). x.it.mutex == m) r (all_regions paths) i in
    let o = of_all_from (λ (q : Walk). q.regions) 0 paths.threads r f.0 in
    ((o.owner, subst (λ t. slice_get paths.threads t ≡ Some o.owner) (omega (arith, o.thread)) o.at, o.among), eqb-true r.it.mutex m f.1)
