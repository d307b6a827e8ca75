-- A run without a step that nothing needs is still a run.
use Rattle.std.proofs.Common.{◌≡◌, ◌≢◌, ◌∙◌, inl, inr, ℕ, ◌+◌, ◌<◌, ◌≤◌, ℤ, Bool, true, false, not, ◌&&◌, ◌||◌, cond, nat_lt, List, [], ◌∷◌, ◌++◌}
use Rattle.std.proofs.Common.{Option, Some, None, refl, sym, ap, ap₂, subst, arith, append_assoc}
use Rattle.std.specs.Prelude.{is_none, option_map, option_and_then, unwrap_or, ◌==◌}
use Rattle.std.specs.FinMap as fin
use Rattle.std.specs.FinSet as set
use Rattle.std.proofs.lemmas.Bool.{false≢true, and_parts, and_from, le-ltb}
use Rattle.std.proofs.lemmas.Option.{none-some}
use Rattle.std.proofs.lemmas.List.Sums.{sum_by-append}
use Rattle.run_follows.specs.store_buffers.Buffers.{newest}
use Rattle.run_follows.specs.list_laws.Lists.{is_nil}
use Rattle.run_follows.specs.tc_base.Names.{Name, child}
use Rattle.run_follows.specs.tc_base.States.{Local}
use Rattle.run_follows.specs.tc_base.declared.request.Request.{Request}
use Rattle.run_follows.specs.tc_base.declared.request.Request.TheVariants.{Silent, Read, Write, Exchange, Bar, Acquire, EndWait}
use Rattle.run_follows.specs.tc_base.declared.request.Request.TheVariants.{WakeOne, Start, Await, Finish}
use Rattle.run_follows.specs.tc_code.Step.{request, instr_of, drains_first}
use Rattle.run_follows.specs.store_buffers.Pending.{stores}
use Rattle.run_follows.proofs.run_laws.Names.{tells_names, same_self}
use Rattle.run_follows.specs.run_history.History.{Deed, Did, Drained, same, drains, has_drained, pending}
use Rattle.run_follows.specs.run_history.Locals.{locals_in}
use Rattle.run_follows.specs.run_history.Told.{owner_in, waiting_in, is_step_of, steps_in, failed_in}
use Rattle.run_follows.specs.run_history.pending.Deeds.{IsIssuedIn, is_bar_between, MayDrainNext}
use Rattle.run_follows.proofs.run_history.of_pending.Apart.{Named}
use Rattle.run_follows.proofs.run_history.of_pending.In.{In, in_append, in_left, in_right, in_at, in_split}
use Rattle.run_follows.specs.Machine.{Machine}
use Rattle.run_follows.specs.Follow.{seen_in, is_let_in, is_allowed_in, may_do_in, taken_in, OtherIs, IsNextStep, MayFollow, AllFollow}
use Rattle.run_follows.specs.Logged.{path_by, path_told}
use Rattle.least_runs.proofs.Reached.{reaches}
use Rattle.run_follows.proofs.of_deeds.Follow.{first_follow}
use Rattle.least_runs.proofs.Used.{IsUnused}
use Rattle.least_runs.proofs.Skips.{skip_any, seam}
use Rattle.least_runs.proofs.Unseen.{value_still, waiting_still, failed_still, owner_still, steps_still, children_still, pending_still, exited_still}
use Rattle.least_runs.proofs.Locals.{StepsApart, children_told, locals_agree}

-- a thread that does a step in a list has done one
done_first : (h : List Deed) (x : Deed) (q : Name) → steps_in (x ∷ h) q ≡ cond (is_step_of q x) 1 0 + steps_in h q
done_first h x q = sum_by-append (λ d. cond (is_step_of q d) 1 0) (x ∷ []) h ∙ omega arith

pub done_in : (h : List Deed) (q : Name) (j : ℕ) (s : Request) (v : ℤ) (o : Option Name) → In (Did q j s v o) h → 0 < steps_in h q
done_in [] q j s v o i = absurd i
done_in (x ∷ h) q j s v o (inl e) =
    let passes : is_step_of q x ≡ true = ap (is_step_of q) e ∙ same_self q q refl in
    let count = done_first h x q ∙ ap (λ b. cond b 1 0 + steps_in h q) passes in
    omega (arith, count)
done_in (x ∷ h) q j s v o (inr i) =
    let less = done_in h q j s v o i in
    let count = done_first h x q in
    omega (arith, count, less)

module _ {B : Type 0} (machine : Machine B) (older later : List Deed) (n : Name) (k : ℕ) (r : Request) (took : ℤ) (other : Option Name)
    (all : AllFollow machine.ops.buffered machine.bound machine.code (older ++ Did n k r took other ∷ later)) (last : steps_in later n ≡ 0)
    (unused : IsUnused n r other later) where
  open machine use {ops, bound, code}

  step : Deed
  step = Did n k r took other

  pub next_step : IsNextStep ops.buffered code older n k r took other
  next_step = (all older later (Did n k r took other) refl).1

  before : AllFollow ops.buffered bound code older
  before = first_follow ops.buffered bound code older (Did n k r took other ∷ later) all

  -- the later steps belong neither to its own thread nor to the one that it creates
  child_idle : (s : Request) → OtherIs older n s other → IsUnused n s other later → (q : Name) → other ≡ Some q → steps_in later q ≡ 0
  child_idle (Start f) is idle q e = idle q e
  child_idle (WakeOne c) is idle q e = absurd idle
  child_idle Silent is idle q e = absurd (none-some q (sym is ∙ e))
  child_idle s is idle q e = absurd (none-some q (sym is ∙ e))

  apart : StepsApart code n other later
  apart q j s v o i =
      let done = done_in later q j s v o i in (
        λ e. let none : steps_in later q ≡ 0 = subst (λ m. steps_in later m ≡ 0) (sym e) last in omega (arith, done, none),
        λ e. let none = child_idle r next_step.other_is unused q e in omega (arith, done, none),
      )

  made : (t : Local) → fin.get (locals_in code older) n ≡ Some t → (f : ℕ) → r ≡ Start f → other ≡ Some (child n (t.children + 1))
  made t here f is =
      subst (λ s. OtherIs older n s other) is next_step.other_is
      ∙ ap (λ c. Some (child n (c + 1))) (sym (children_told machine older n t before here))

  module _ (front rest : List Deed) where
    whole : List Deed
    whole = older ++ Did n k r took other ∷ front

    left : List Deed
    left = older ++ front

    -- a free mutex is still free
    owner_free : (m : ℕ) → is_none (owner_in (older ++ Did n k r took other ∷ front) m) ≡ true → is_none (owner_in (older ++ front) m) ≡ true
    owner_free m may = elim (owner_still n k took other later older front r unused m) [
      | inl e ↦ ap is_none (sym e) ∙ may
      | inr e ↦ absurd (false≢true (ap is_none (sym e) ∙ may))
    ]

    let_still : (q : Name) (s : Request) → ((c : ℕ) → s ≡ Await c → r ≡ Finish → child q c ≢ n)
        → is_let_in (older ++ Did n k r took other ∷ front) q s ≡ true → is_let_in (older ++ front) q s ≡ true
    let_still q (Acquire m) free may = owner_free m may
    let_still q (EndWait c m) free may =
        let both = and_parts (not (set.contains (waiting_in (older ++ Did n k r took other ∷ front) c) q))
        (is_none (owner_in (older ++ Did n k r took other ∷ front) m)) may in
        and_from (not (set.contains (waiting_in (older ++ front) c) q)) (is_none (owner_in (older ++ front) m))
        (ap (λ ns. not (set.contains ns q)) (sym (waiting_still n k took other later older front r unused c)) ∙ both.0) (owner_free m both.1)
    let_still q (WakeOne c) free may = ap (λ ns. set.len ns == 0) (sym (waiting_still n k took other later older front r unused c)) ∙ may
    let_still q (Await c) free may = sym (exited_still n k took other later older front r (child q c) (free c refl)) ∙ may
    let_still q Silent free may = refl
    let_still q s free may = refl

    module _ (q : Name) (other_thread : q ≢ n) where
      empty_still : is_nil (stores (pending ops.buffered (older ++ Did n k r took other ∷ front) q)) ≡ is_nil (stores (pending ops.buffered (older ++ front) q))
      empty_still = ap (λ ps. is_nil (stores ps)) (pending_still n k took other later older front r q other_thread ops.buffered)

      allowed_still : (s : Request) → ((c : ℕ) → s ≡ Await c → r ≡ Finish → child q c ≢ n)
          → is_allowed_in ops.buffered (older ++ Did n k r took other ∷ front) q s ≡ true → is_allowed_in ops.buffered (older ++ front) q s ≡ true
      allowed_still s free may =
          let both = and_parts (not (drains_first s) || is_nil (stores (pending ops.buffered (older ++ Did n k r took other ∷ front) q)))
          (is_let_in (older ++ Did n k r took other ∷ front) q s) may in
          and_from (not (drains_first s) || is_nil (stores (pending ops.buffered (older ++ front) q))) (is_let_in (older ++ front) q s)
          (ap (λ b. not (drains_first s) || b) (sym empty_still) ∙ both.0) (let_still q s free both.1)

      may_still : (s : Request) (o : Option Name) → ((c : ℕ) → s ≡ Await c → r ≡ Finish → child q c ≢ n)
          → may_do_in ops.buffered (older ++ Did n k r took other ∷ front) q s o ≡ true → may_do_in ops.buffered (older ++ front) q s o ≡ true
      may_still (WakeOne c) (Some u) free may =
          ap₂ (λ b ns. b && set.contains ns u) (sym empty_still) (sym (waiting_still n k took other later older front r unused c)) ∙ may
      may_still (WakeOne c) None free may = allowed_still (WakeOne c) free may
      may_still Silent o free may = allowed_still Silent free may
      may_still s o free may = allowed_still s free may

      seen_still : (c : ℕ) → seen_in ops.buffered code (older ++ Did n k r took other ∷ front) q c ≡ seen_in ops.buffered code (older ++ front) q c
      seen_still c =
          ap₂ (λ ps v. unwrap_or (newest (stores ps) c) v) (pending_still n k took other later older front r q other_thread ops.buffered)
          (value_still n k took other later older front r unused ops.buffered code c)

      taken_still : (s : Request)
          → taken_in ops.buffered code (older ++ Did n k r took other ∷ front) q s ≡ taken_in ops.buffered code (older ++ front) q s
      taken_still (Read c) = seen_still c
      taken_still (Exchange c v) = value_still n k took other later older front r unused ops.buffered code c
      taken_still Silent = refl
      taken_still s = refl

      other_still : (s : Request) (o : Option Name) → OtherIs (older ++ Did n k r took other ∷ front) q s o → OtherIs (older ++ front) q s o
      other_still (Start f) o is = is ∙ ap (λ c. Some (child q (c + 1))) (children_still n k took other later older front r q other_thread)
      other_still (WakeOne c) o is = tt
      other_still Silent o is = is
      other_still s o is = is

    -- the step isn't the issue of a store
    not_store : (q : Name) (j c : ℕ) (v w : ℤ) (o : Option Name) → Did n k r took other ≡ Did q j (Write c v) w o → ⊥
    not_store q j c v w o e = subst (λ s. IsUnused n s other later) (asked e) unused
      where
        asked : Did n k r took other ≡ Did q j (Write c v) w o → r ≡ Write c v
        asked is = cc

    issued_still : (q : Name) (j c : ℕ) (v : ℤ) → IsIssuedIn (older ++ Did n k r took other ∷ front) q j c v → IsIssuedIn (older ++ front) q j c v
    issued_still q j c v i =
        let deed = Did q j (Write c v) i.took i.other in
        let there : In deed (older ++ Did n k r took other ∷ front) = subst (In deed) (sym i.issued) (in_at i.before deed i.after) in
        let stays : In deed (older ++ front) = elim (in_append deed older (Did n k r took other ∷ front) there) [
          | inl a ↦ in_left deed older front a
          | inr (inl e) ↦ absurd (not_store q j c v i.took i.other e)
          | inr (inr b) ↦ in_right deed older front b
        ] in
        let at = in_split deed (older ++ front) stays in
        record { before = at.older; after = at.newer; took = i.took; other = i.other; issued = at.there }

    issued_more : (q : Name) (j c : ℕ) (v : ℤ) → IsIssuedIn (older ++ front) q j c v → IsIssuedIn (older ++ Did n k r took other ∷ front) q j c v
    issued_more q j c v i =
        let deed = Did q j (Write c v) i.took i.other in
        let there : In deed (older ++ front) = subst (In deed) (sym i.issued) (in_at i.before deed i.after) in
        let stays : In deed (older ++ Did n k r took other ∷ front) = elim (in_append deed older front there) [
          | inl a ↦ in_left deed older (Did n k r took other ∷ front) a
          | inr b ↦ in_right deed older (Did n k r took other ∷ front) (inr b)
        ] in
        let at = in_split deed (older ++ Did n k r took other ∷ front) stays in
        record { before = at.older; after = at.newer; took = i.took; other = i.other; issued = at.there }

    drained_still : (q : Name) (j : ℕ) → has_drained (older ++ Did n k r took other ∷ front) q j ≡ has_drained (older ++ front) q j
    drained_still q j = skip_any (drains q j) older (Did n k r took other) front refl

    -- the stores of the step's own thread were issued before it
    named : Named older
    named = (reaches machine older before).tells.deeds.named

    module _ (apart_here : StepsApart code n other front) where
      own_older : (j c : ℕ) (v : ℤ) → IsIssuedIn (older ++ Did n k r took other ∷ front) n j c v → j ≤ k
      own_older j c v i =
          let deed = Did n j (Write c v) i.took i.other in
          let there : In deed (older ++ Did n k r took other ∷ front) = subst (In deed) (sym i.issued) (in_at i.before deed i.after) in
          elim (in_append deed older (Did n k r took other ∷ front) there) [
            | inl a ↦
                let at = in_split deed older a in
                let less = named.below at.older at.newer n j (Write c v) i.took i.other at.there in
                let number = next_step.number in
                omega (arith, less, number)
            | inr (inl e) ↦ absurd (not_store n j c v i.took i.other e)
            | inr (inr b) ↦ absurd ((apart_here n j (Write c v) i.took i.other b).0 refl)
          ]

      no_bar : (q : Name) (i j : ℕ) (s : Request) → (q ≡ n → j ≤ k) → is_bar_between q i j (Did n k s took other) ≡ false
      no_bar q i j Bar older_own =
          elim (tells_names q n) [
            | inl e ↦ ap (λ b. (same q n && nat_lt i k) && b) (le-ltb k j (older_own e.1)) ∙ and_no (same q n && nat_lt i k)
            | inr e ↦ ap (λ b. (b && nat_lt i k) && nat_lt k j) e.0
          ]
        where
          and_no : (b : Bool) → b && false ≡ false
          and_no true = refl
          and_no false = refl
      no_bar q i j Silent older_own = refl
      no_bar q i j s older_own = refl

      drain_still : (q : Name) (j c : ℕ) (v : ℤ) → MayDrainNext bound (older ++ Did n k r took other ∷ front) q j c v
          → MayDrainNext bound (older ++ front) q j c v
      drain_still q j c v m = record {
        issued = issued_still q j c v m.issued;
        pending = sym (drained_still q j) ∙ m.pending;
        is_free = λ i d w issued not_drained less.
            let own : q ≡ n → j ≤ k = λ e. own_older j c v (subst (λ p. IsIssuedIn (older ++ Did n k r took other ∷ front) p j c v) e m.issued) in
            ap (bound (d == c)) (sym (skip_any (is_bar_between q i j) older (Did n k r took other) front (no_bar q i j r own)))
            ∙ m.is_free i d w (issued_more q i d w issued) (drained_still q i ∙ not_drained) less;
      }

      step_still : (q : Name) (j : ℕ) (s : Request) (v : ℤ) (o : Option Name) → q ≢ n → other ≢ Some q
          → ((c : ℕ) → s ≡ Await c → r ≡ Finish → child q c ≢ n)
          → IsNextStep ops.buffered code (older ++ Did n k r took other ∷ front) q j s v o → IsNextStep ops.buffered code (older ++ front) q j s v o
      step_still q j s v o own fresh free m = record {
        asks =
            ap (option_and_then (λ (t : Local). option_map (request t) (instr_of code t)))
            (sym (locals_agree code n other older front k r took apart_here made q own fresh)) ∙ m.asks;
        number = m.number ∙ steps_still n k took other later older front r q own;
        may = may_still q own s o free m.may;
        takes = m.takes ∙ taken_still q own s;
        other_is = other_still q own s o m.other_is;
      }

  unawaited : (front rest : List Deed) (q : Name) (j c : ℕ) (v : ℤ) (o : Option Name) → later ≡ front ++ Did q j (Await c) v o ∷ rest → r ≡ Finish
      → child q c ≢ n
  unawaited front rest q j c v o there is = subst (λ s. IsUnused n s other later) is unused front rest q j c v o there

  still : (front rest : List Deed) (d : Deed) → later ≡ front ++ d ∷ rest → MayFollow ops.buffered bound code (older ++ Did n k r took other ∷ front) d
      → MayFollow ops.buffered bound code (older ++ front) d
  still front rest (Did q j s v o) there m =
      let here : In (Did q j s v o) later = subst (In (Did q j s v o)) (sym there) (in_at front (Did q j s v o) rest) in
      let is = apart q j s v o here in
      let fronts : StepsApart code n other front = λ p i x w y a.
      apart p i x w y (subst (In (Did p i x w y)) (sym there) (in_left (Did p i x w y) front (Did q j s v o ∷ rest) a)) in
      step_still front rest fronts q j s v o is.0 is.1
      (λ c asks exits. unawaited front rest q j c v o (there ∙ ap (λ x. front ++ Did q j x v o ∷ rest) asks) exits) m
  still front rest (Drained q j c v) there m =
      let fronts : StepsApart code n other front = λ p i x w y a.
      apart p i x w y (subst (In (Did p i x w y)) (sym there) (in_left (Did p i x w y) front (Drained q j c v ∷ rest) a)) in
      record { buffers = m.buffers; next = drain_still front rest fronts q j c v m.next }

  pub left_follows : AllFollow ops.buffered bound code (older ++ later)
  left_follows first rest d is =
      elim (seam older later first rest d is) [
        | inl s ↦
            all first (s.0 ++ Did n k r took other ∷ later) d
            (ap (λ h. h ++ Did n k r took other ∷ later) s.1 ∙ append_assoc first (d ∷ s.0) (Did n k r took other ∷ later))
        | inr s ↦
            let front = s.0 in
            let m = all (older ++ Did n k r took other ∷ front) rest d
            (ap (λ h. older ++ Did n k r took other ∷ h) s.2 ∙ sym (append_assoc older (Did n k r took other ∷ front) (d ∷ rest))) in
            subst (λ g. (failed_in g ≡ None) × MayFollow ops.buffered bound code g d) (sym s.1)
            (sym (failed_still n k took other later older front r unused) ∙ m.0, still front rest d s.2 m.1)
      ]

  pub paths_stay : (q : Name) → q ≢ n → other ≢ Some q → path_told code (older ++ later) q ≡ path_told code (older ++ Did n k r took other ∷ later) q
  paths_stay q own fresh = ap (option_map path_by) (sym (locals_agree code n other older later k r took apart made q own fresh))
