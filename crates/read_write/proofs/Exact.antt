-- A load's conjunct is true exactly if the load takes the value of the rule.
use Rattle.std.proofs.Common.{◌≡◌, ◌⊎◌, ℕ, ℤ, pos, ◌<◌, ◌≤◌, true, List, ◌∷◌, length, get_or, Option, Some, None, inl, inr, refl, ap, sym, subst, ◌∙◌, arith}
use Rattle.std.specs.Prelude.{IsSome, is_some, option_map}
use Rattle.std.specs.List.{Contains, filter_map}
use Rattle.std.specs.Option.{option_map_or}
use Rattle.std.specs.Ordering.{int_eq}
use Rattle.std.proofs.lemmas.Bool.{false≢true}
use Rattle.std.specs.Bool.{Decides}
use Rattle.std.proofs.lemmas.Bool.Decides.{Decides-int_eq}
use Rattle.std.proofs.Math.Nat.{eq-or-lt_of_le}
use Rattle.std.proofs.lemmas.Option.{same_Some}
use Rattle.tc_code.specs.Code.{Code}
use Rattle.path_walk.specs.Paths.{Paths}
use Rattle.path_walk.specs.declared.event.Event.{Event}
use Rattle.sym_terms.specs.Terms.{AreTerms}
use Rattle.sym_terms.specs.Values.{value_of}
use Rattle.sym_terms.specs.declared.node.Node.{Node}
use Rattle.sym_terms.specs.declared.node.Node.TheVariants.{Constant, Symbol}
use Rattle.sym_exec.specs.Executed.{Symbolic}
use Rattle.sym_exec.specs.declared.symbolic.Access.{Access}
use Rattle.order_formula.specs.declared.read.Candidate.{Candidate}
use Rattle.order_formula.specs.Reads as plain
use Rattle.order_formula.specs.Truth.{is_read, read_at, source_at, value_at}
use Rattle.order_formula.specs.Worlds.{World, IsWorld, position}
use Rattle.order_formula.proofs.Last.{IsGreatest, Picks, picks}
use Rattle.order_cells.specs.lawful_order.Cells.{value_at_start}
use Rattle.order_cells.specs.lawful_order.Events.{Placed, IsBefore, all_events, number_of}
use Rattle.order_cells.specs.lawful_order.Lawful.{IsWorldOf}
use Rattle.order_cells.specs.lawful_order.Reads.{HasAccess, Sees, TakesFrom, TakesFirst, asks}
use Rattle.order_cells.specs.lawful_order.Whole.{AreWhole, HasStep, IsExecutedBy}
use Rattle.read_write.specs.Accesses.{all_accesses}
use Rattle.read_write.specs.Reading.{candidate_of, candidate_with, needs_of, read_of, test_of}
use Rattle.order_cells.proofs.Needs.{value_there}
use Rattle.order_events.proofs.Lists.{in_front, in_back, in_filter_map, of_filter_map}
use Rattle.order_events.proofs.Numbers.{has_number, one_step}
use Rattle.read_write.proofs.Numbers.{access_in, access_of, one_access, one_position}
use Rattle.read_write.proofs.Candidates.{IsCandidate, after_from_read, candidate_parts, candidate_there, may_from, read_from_after}

-- the setting: a world of whole paths
pub record IsAbout (paths : Paths) (symbolic : Symbolic) (nodes : List Node) (w : World) : Type 0 where
  pub world : IsWorld w
  pub of : IsWorldOf paths symbolic w
  pub whole : AreWhole paths
  pub executed : IsExecutedBy paths symbolic
  pub terms : AreTerms nodes

some_mapped : {X Y : Type 0} (f : X → Y) (o : Option X) → IsSome (option_map f o) → (x : X) × (o ≡ Some x)
some_mapped f None is = absurd (false≢true is)
some_mapped f (Some x) is = (x, refl)

module _ (code : Code) (paths : Paths) (symbolic : Symbolic) (nodes : List Node) (w : World) (about : IsAbout paths symbolic nodes w)
    (t : ℕ) (a : Access) (number : ℕ) (has : HasAccess symbolic t a) (takes : a.takes ≡ Some number)
    (needs : (n : Node) → Contains (needs_of code (all_accesses symbolic) nodes (record { thread = t; it = a }) number) n → Contains nodes n) where
  abbrev events : List (Placed Event)
  events = all_events paths

  abbrev load : Placed Access
  load = record { thread = t; it = a }

  abbrev read : plain.Read
  read = read_of code events (all_accesses symbolic) nodes load number

  abbrev of_thread : ℕ → Access → Placed Access
  of_thread u b = record { thread = u; it = b }

  abbrev start : Node
  start = Constant (value_at_start code a.cell)

  abbrev tests : List Node
  tests = filter_map (test_of nodes load) (all_accesses symbolic)

  -- the tests of indexes exist
  tests_are : (b : Placed Access) → Contains (all_accesses symbolic) b → (n : Node) → test_of nodes load b ≡ Some n → Contains nodes n
  tests_are b i n is =
      let among : Contains tests n = in_filter_map (test_of nodes load) b n (all_accesses symbolic) i is in
      needs n (in_back n (Symbol number) (start ∷ tests) (in_back n start tests among))

  -- a candidate that is read is an access that the load sees
  record IsSeen (c : Candidate) : Type 0 where
    thread : ℕ
    access : Access
    of : IsCandidate events nodes load (of_thread thread access) c
    sees : Sees code paths symbolic nodes w t a thread access

  seen_from : (c : Candidate) → Contains read.candidates c → is_read nodes w read c ≡ true → IsSeen c
  seen_from c i hit =
      let o = of_filter_map (candidate_of events nodes load) c (all_accesses symbolic) i in
      let b = o.0 in
      let of = candidate_parts events nodes load b c o.2 in
      let h = after_from_read paths nodes w about.terms load read refl b c of (tests_are b o.1) hit in
      record {
        thread = b.thread;
        access = b.it;
        of = of;
        sees = record {
          there = access_of symbolic b o.1;
          writes = ap (λ x. is_some (option_map (value_of nodes w.loads) x)) of.writes;
          cell = h.0;
          before = h.1;
        };
      }

  -- an access that the load sees is a candidate that is read
  record IsRead (u : ℕ) (b : Access) : Type 0 where
    candidate : Candidate
    among : Contains read.candidates candidate
    hit : is_read nodes w read candidate ≡ true
    of : IsCandidate events nodes load (of_thread u b) candidate

  read_from : (u : ℕ) (b : Access) → Sees code paths symbolic nodes w t a u b → IsRead u b
  read_from u b sees =
      let x = of_thread u b in
      let i = access_in symbolic u b sees.there in
      let v = some_mapped (value_of nodes w.loads) b.writes sees.writes in
      let c = candidate_with events nodes load x v.0 in
      let may = may_from paths nodes w about.terms load x sees.cell sees.before in
      let of : IsCandidate events nodes load x c = record { may = may; value = v.0; writes = v.1; is = refl } in
      record {
        candidate = c;
        among = in_filter_map (candidate_of events nodes load) x c (all_accesses symbolic) i (candidate_there events nodes load x v.0 may v.1);
        hit = read_from_after paths nodes w about.terms load read refl x c of (tests_are x i) sees.cell sees.before;
        of = of;
      }

  -- the place of an access among the events
  abbrev place : ℕ → Access → ℕ
  place u b = position w (number_of paths u b.step)

  stands : (u : ℕ) (b : Access) (c : Candidate) → IsCandidate events nodes load (of_thread u b) c → position w c.event ≡ place u b
  stands u b c of = ap (λ (d : Candidate). position w d.event) of.is

  -- two accesses at one place are the same
  step_of : (u : ℕ) (b : Access) → HasAccess symbolic u b → HasStep paths u b.step
  step_of u b there = let e = about.executed.accesses u b there in (e.0, e.1, e.2)

  within : (u : ℕ) (b : Access) → HasAccess symbolic u b → number_of paths u b.step < length w.positions
  within u b there = omega (arith, has_number paths u b.step (step_of u b there), about.of.events)

  one_place : (u v : ℕ) (b x : Access) → HasAccess symbolic u b → HasAccess symbolic v x → place v x ≡ place u b → (v ≡ u) × (x ≡ b)
  one_place u v b x there here same =
      let number = one_position w (number_of paths v x.step) (number_of paths u b.step) about.world (within v x here) (within u b there) same in
      let h = one_step paths v x.step u b.step (step_of v x here) number in
      (h.0, one_access paths symbolic u x b about.executed (subst (λ n. HasAccess symbolic n x) h.0 here) there h.1)

  -- the values of terms
  taken : value_at nodes w read.takes ≡ get_or w.loads number (pos 0)
  taken = value_there nodes w.loads about.terms (Symbol number) (needs (Symbol number) (in_front (Symbol number) (start ∷ tests)))

  at_start : value_at nodes w read.start ≡ value_at_start code a.cell
  at_start = value_there nodes w.loads about.terms start (needs start (in_back start (Symbol number) (start ∷ tests) (in_front start tests)))

  written : (u : ℕ) (b : Access) (c : Candidate) → IsCandidate events nodes load (of_thread u b) c
      → (asks code paths symbolic nodes w b).writes ≡ Some (value_at nodes w c.value)
  written u b c of =
      ap (option_map (value_of nodes w.loads)) of.writes ∙ ap (λ (d : Candidate). Some (value_at nodes w d.value)) (sym of.is)

  takes_value : (asks code paths symbolic nodes w a).takes ≡ Some (value_at nodes w read.takes)
  takes_value = ap (option_map (λ k. get_or w.loads k (pos 0))) takes ∙ ap Some (sym taken)

  -- the meaning of the conjunct, by the write whose value it takes
  abbrev value_from : Option Candidate → ℤ
  value_from o = option_map_or (λ c. value_at nodes w c.value) o (value_at nodes w read.start)

  reads : (o : Option Candidate) → source_at nodes w read ≡ o → Decides (read_at nodes w read) (value_at nodes w read.takes ≡ value_from o)
  reads o is = subst (λ x. Decides (int_eq (value_at nodes w read.takes) (value_from x)) (value_at nodes w read.takes ≡ value_from o)) (sym is)
      (Decides-int_eq (value_at nodes w read.takes) (value_from o))

  abbrev Takes : Type 0
  Takes = ((u : ℕ) × (b : Access) × TakesFrom code paths symbolic nodes w t a u b) ⊎ TakesFirst code paths symbolic nodes w t a

  abbrev Picked : Option Candidate → Type 0
  Picked o = Picks (λ c. position w c.event) (is_read nodes w read) read.candidates o

  last : (c : Candidate) → IsGreatest (λ d. position w d.event) (is_read nodes w read) read.candidates c → (s : IsSeen c) → (v : ℕ) (x : Access)
      → Sees code paths symbolic nodes w t a v x → ((v ≡ s.thread) × (x ≡ s.access)) ⊎ IsBefore paths w v x.step s.thread s.access.step
  last c g s v x sees =
      let r = read_from v x sees in
      let up = g.greatest r.candidate r.among r.hit in
      let no_later : place v x ≤ place s.thread s.access =
      omega (arith, up, stands v x r.candidate r.of, stands s.thread s.access c s.of) in
      elim (eq-or-lt_of_le no_later) [
        | inl same ↦ inl (one_place s.thread v s.access x s.sees.there sees.there same)
        | inr less ↦ inr less
      ]

  pub takes_from_read : read_at nodes w read ≡ true → Takes
  takes_from_read right = by (source_at nodes w read) refl (picks (λ c. position w c.event) (is_read nodes w read) read.candidates)
    where
      by : (o : Option Candidate) → source_at nodes w read ≡ o → Picked o → Takes
      by None is none =
          inr (record {
            sees = λ u b sees. let r = read_from u b sees in false≢true (sym (none r.candidate r.among) ∙ r.hit);
            takes = takes_value ∙ ap Some ((reads None is).0 right ∙ at_start);
          })
      by (Some c) is g =
          let s = seen_from c g.among g.passes in
          inl (
            s.thread,
            s.access,
            record {
              sees = s.sees;
              last = last c g s;
              takes = takes_value ∙ ap Some ((reads (Some c) is).0 right) ∙ sym (written s.thread s.access c s.of);
            },
          )

  pub read_from_takes : Takes → read_at nodes w read ≡ true
  read_from_takes does = by (source_at nodes w read) refl (picks (λ c. position w c.event) (is_read nodes w read) read.candidates) does
    where
      by : (o : Option Candidate) → source_at nodes w read ≡ o → Picked o → Takes → read_at nodes w read ≡ true
      by None is none (inl (u, b, from)) = let r = read_from u b from.sees in absurd (false≢true (sym (none r.candidate r.among) ∙ r.hit))
      by None is none (inr first) =
          let same = same_Some (value_at nodes w read.takes) (value_at_start code a.cell) (sym takes_value ∙ first.takes) in
          (reads None is).1 (same ∙ sym at_start)
      by (Some c) is g (inl (u, b, from)) =
          let s = seen_from c g.among g.passes in
          let r = read_from u b from.sees in
          let up = g.greatest r.candidate r.among r.hit in
          let no_later : place u b ≤ place s.thread s.access =
          omega (arith, up, stands u b r.candidate r.of, stands s.thread s.access c s.of) in
          let same : s.access ≡ b = elim (from.last s.thread s.access s.sees) [
            | inl one ↦ one.1
            | inr less ↦ absurd (omega (arith, less, no_later))
          ] in
          let brings = ap (λ x. (asks code paths symbolic nodes w x).writes) (sym same) ∙ written s.thread s.access c s.of in
          (reads (Some c) is).1 (same_Some (value_at nodes w read.takes) (value_at nodes w c.value) (sym takes_value ∙ from.takes ∙ brings))
      by (Some c) is g (inr first) = let s = seen_from c g.among g.passes in absurd (first.sees s.thread s.access s.sees)
