-- The threads are main and the children that threads have created.
use Rattle.std.proofs.Common.{◌≡◌, ◌≢◌, ◌↔◌, ◌∙◌, inl, inr, ℕ, ◌+◌, ◌≤◌, IsSome, Option, Some, None, refl, ap, sym, subst, arith}
use Rattle.std.specs.Option.{option_map_or}
use Rattle.std.specs.FinMap as fin
use Rattle.std.proofs.lemmas.List.{same_from_push}
use Rattle.std.proofs.lemmas.Option.{none-some}
use Rattle.tc_code.specs.tc_base.Names.{Name, ByName, main, child, by_name}
use Rattle.tc_code.proofs.tc_base.Names.{HasParent, parent_of}
use Rattle.tc_code.specs.tc_base.Buffers.{BufferOps}
use Rattle.tc_code.specs.tc_base.States.{Thread, State}
use Rattle.tc_code.specs.tc_base.declared.moves.Move.{Move}
use Rattle.tc_code.specs.declared.instr.Instr.{Instr}
use Rattle.tc_code.specs.declared.instr.Instr.TheVariants.{Branch, Create}
use Rattle.tc_code.specs.Code.{Code}
use Rattle.tc_code.specs.Step.{opening, step}
use Rattle.tc_code.specs.Run.{IsReached}
use Rattle.run_laws.specs.Laws.{IsCreated, ThreadsAreCreated}
use Rattle.run_laws.proofs.Basics.{some_is, some_value, none_unless}
use Rattle.run_laws.proofs.After.{branch_is}
use Rattle.run_laws.proofs.Names.{same_or_apart, get_put, get_put_apart, stays_after_put, there_before_put, child_apart, child_not_main}
use Rattle.run_laws.proofs.Steps.{holds_in_reached}
use Rattle.run_laws.proofs.Changes.{Goes, Went_on, Stayed, step_changes}

-- each name except main is that of a child
has_parent : (n : Name) → n ≢ main → HasParent n
has_parent n other =
    elim (parent_of n) [
      | inl e ↦ absurd (other e)
      | inr h ↦ h
    ]

module _ {B : Type 0} where
  -- the number of children that a thread has created, or 0 if there is no thread
  abbrev count : Option (Thread B) → ℕ
  count o = option_map_or (λ t. t.local.children) o 0

  -- the number of children that the named thread has created
  abbrev children_of : ByName (Thread B) → Name → ℕ
  children_of threads n = count (fin.get threads n)

  -- the children in the state are exactly those that their parents have created
  abbrev IsTree : ByName (Thread B) → Type 0
  IsTree threads = (n : Name) (k : ℕ) → IsSome (fin.get threads (child n k)) ↔ ((1 ≤ k) × (k ≤ children_of threads n))

  -- the next child of a thread isn't in the state
  next_is_new : (threads : ByName (Thread B)) (n : Name) (k : ℕ) → IsTree threads → children_of threads n ≡ k → fin.get threads (child n (k + 1)) ≡ None
  next_is_new threads n k tree count = none_unless _ (λ some. omega (arith, ((tree n (k + 1)).0 some).1, count))

  -- replacing a thread by one with as many children keeps all counts
  same_children : (threads : ByName (Thread B)) (n : Name) (t : Thread B) → t.local.children ≡ children_of threads n → (q : Name)
      → children_of (fin.insert threads n t) q ≡ children_of threads q
  same_children threads n t same q =
      elim (same_or_apart q n) [
        | inl e ↦ ap (children_of (fin.insert threads n t)) e ∙ ap count (get_put threads n t) ∙ same ∙ ap (children_of threads) (sym e)
        | inr apart ↦ ap count (get_put_apart threads n t q apart)
      ]

  -- replacing a thread by one with as many children keeps the tree
  kept_tree : (threads : ByName (Thread B)) (n : Name) (t new : Thread B) → fin.get threads n ≡ Some t → new.local.children ≡ t.local.children
      → IsTree threads → IsTree (fin.insert threads n new)
  kept_tree threads n t new there same tree q k =
      let counts = same_children threads n new (same ∙ sym (ap count there)) q in (
        λ some. let is = (tree q k).0 (there_before_put threads n new (child q k) (some_is _ t there) some) in (is.0, omega (arith, is.1, counts)),
        λ is. stays_after_put threads n new (child q k) ((tree q k).1 (is.0, omega (arith, is.1, counts))),
      )

  module _ (threads : ByName (Thread B)) (n : Name) (t new baby : Thread B) (there : fin.get threads n ≡ Some t)
      (more : new.local.children ≡ t.local.children + 1) (none : baby.local.children ≡ 0) (tree : IsTree threads) where
    -- the name of the new child
    abbrev child_name : Name
    child_name = child n (t.local.children + 1)

    -- the threads after a create
    abbrev grown : ByName (Thread B)
    grown = fin.insert (fin.insert threads n new) child_name baby

    -- the child changes no count of children
    grown_counts : (q : Name) → children_of grown q ≡ children_of (fin.insert threads n new) q
    grown_counts q =
        same_children (fin.insert threads n new) child_name baby
        (none ∙ sym (ap count (get_put_apart threads n new child_name (child_apart n _) ∙ next_is_new threads n _ tree (ap count there)))) q

    -- the parent has one child more
    parent_counts : (q : Name) → q ≡ n → children_of grown q ≡ t.local.children + 1
    parent_counts q same = grown_counts q ∙ ap (children_of (fin.insert threads n new)) same ∙ ap count (get_put threads n new) ∙ more

    -- the new child is in the state, and its parent has created it
    new_child : (q : Name) (k : ℕ) → child q k ≡ child_name → IsSome (fin.get grown (child q k)) ↔ ((1 ≤ k) × (k ≤ children_of grown q))
    new_child q k same =
        let parts = same_from_push q n k (t.local.children + 1) same in (
          λ some. (omega (arith, parts.1), omega (arith, parts.1, parent_counts q parts.0)),
          λ is. some_is _ baby (ap (fin.get grown) same ∙ get_put (fin.insert threads n new) child_name baby),
        )

    -- a create adds no other child
    other_numbers : (q : Name) (k : ℕ) → child q k ≢ child_name → (k ≤ children_of grown q) ↔ (k ≤ children_of threads q)
    other_numbers q k old =
        elim (same_or_apart q n) [
          | inl same ↦
              let now = parent_counts q same in
              let was : children_of threads q ≡ t.local.children = ap (children_of threads) same ∙ ap count there in
              let other : k ≢ t.local.children + 1 = λ e. old (ap (λ m. child m k) same ∙ ap (child n) e) in
              (λ few. grind (arith, few, now, was, other), λ few. omega (arith, few, now, was))
          | inr apart ↦
              let counts = grown_counts q ∙ ap count (get_put_apart threads n new q apart) in
              (λ few. omega (arith, few, counts), λ few. omega (arith, few, counts))
        ]

    -- a create keeps the tree
    grown_tree : IsTree grown
    grown_tree q k =
        elim (same_or_apart (child q k) child_name) [
          | inl same ↦ new_child q k same
          | inr old ↦
              let was = get_put_apart (fin.insert threads n new) child_name baby (child q k) old in (
                λ some. let is =
                    (tree q k).0 (there_before_put threads n new (child q k) (some_is _ t there) (subst IsSome was some)) in
                    (is.0, (other_numbers q k old).1 is.1),
                λ is. subst IsSome (sym was) (stays_after_put threads n new (child q k) ((tree q k).1 (is.0, (other_numbers q k old).0 is.1))),
              )
        ]

module _ {B : Type 0} (ops : BufferOps B) (code : Code) where
  -- an instruction keeps the tree
  tree_goes : (s u : State B) (n : Name) (i : Instr) → Goes ops code s u n i → IsTree s.threads → IsTree u.threads
  tree_goes s u n (Create h f es) g tree =
      subst IsTree (sym g.threads) (grown_tree s.threads n g.before g.after _ g.there (ap (λ t. t.children) g.local) refl tree)
  tree_goes s u n (Branch e to) g tree =
      subst IsTree (sym g.threads) (kept_tree s.threads n g.before g.after g.there (ap (λ t. t.children) (g.local ∙ branch_is g.before.local _ to)) tree)
  tree_goes s u n _ g tree = subst IsTree (sym g.threads) (kept_tree s.threads n g.before g.after g.there (ap (λ t. t.children) g.local) tree)

  -- each move keeps the tree
  tree_after_step : (s u : State B) (m : Move) → step ops code s m ≡ Some u → IsTree s.threads → IsTree u.threads
  tree_after_step s u m one tree =
      elim (step_changes ops code s u m one) [
        | Went_on n i g ↦ tree_goes s u n i g tree
        | Stayed n g ↦ subst IsTree (sym g.threads) (kept_tree s.threads n g.before g.after g.there (ap (λ t. t.children) g.local) tree)
      ]

  -- main is alone at the start
  alone_at_opening : (q : Name) → q ≢ main → fin.get (opening ops code).threads q ≡ None
  alone_at_opening q apart = get_put_apart fin.empty main _ q apart ∙ fin.get-empty by_name q

  -- main has no child at the start
  no_children_at_opening : (q : Name) → children_of (opening ops code).threads q ≡ 0
  no_children_at_opening q =
      elim (same_or_apart q main) [
        | inl same ↦ ap (children_of (opening ops code).threads) same ∙ ap count (get_put fin.empty main _)
        | inr apart ↦ ap count (alone_at_opening q apart)
      ]

  -- the threads at the start are a tree
  opening_tree : IsTree (opening ops code).threads
  opening_tree q k = (
    λ some. let is = some_value _ some in absurd (none-some is.0 (sym (alone_at_opening (child q k) (child_not_main q k)) ∙ is.1)),
    λ is. absurd (omega (arith, is.0, is.1, no_children_at_opening q)),
  )

  -- the threads of each reached state are a tree
  reached_tree : (s : State B) → IsReached ops code s → IsTree s.threads
  reached_tree = holds_in_reached ops code (λ s. IsTree s.threads) opening_tree (λ s u m r one tree. tree_after_step s u m one tree)

  -- a thread that has created `k` children exists
  thread_of : (o : Option (Thread B)) (k : ℕ) → 1 ≤ k → k ≤ count o → (t : Thread B) × (o ≡ Some t) × (k ≤ t.local.children)
  thread_of None k first last = absurd (omega (arith, first, last))
  thread_of (Some t) k first last = (t, refl, last)

  -- a child in the state was created
  created_child : (s : State B) (n : Name) → IsTree s.threads → IsSome (fin.get s.threads n) → HasParent n → IsCreated s n
  created_child s n tree there h =
      let is = (tree h.parent h.number).0 (subst (λ m. IsSome (fin.get s.threads m)) h.name there) in
      let parent = thread_of (fin.get s.threads h.parent) h.number is.0 is.1 in
      record { parent = h.parent; number = h.number; name = h.name; thread = parent.0; there = parent.1; created = record { first = is.0; last = parent.2 } }

  -- in each reached state all created children exist, and each thread except main is one
  pub reached_is_created : (s : State B) → IsReached ops code s → ThreadsAreCreated s
  reached_is_created s r =
      let tree = reached_tree s r in
      record {
        child_is_there = λ n t k there is. (tree n k).1 (is.first, omega (arith, is.last, ap count there));
        is_created = λ n there other. created_child s n tree there (has_parent n other);
      }

  -- the next child of a thread isn't in the state
  pub child_is_new : (s : State B) (n : Name) (t : Thread B) → IsReached ops code s → fin.get s.threads n ≡ Some t
      → fin.get s.threads (child n (t.local.children + 1)) ≡ None
  child_is_new s n t r there = next_is_new s.threads n t.local.children (reached_tree s r) (ap count there)

  -- no thread of the state has the name of another thread's next child
  pub not_next_child : (s : State B) (n q : Name) (t x : Thread B) → IsReached ops code s → fin.get s.threads n ≡ Some t
      → fin.get s.threads q ≡ Some x → q ≢ child n (t.local.children + 1)
  not_next_child s n q t x r there here same = none-some x (sym (child_is_new s n t r there) ∙ ap (fin.get s.threads) (sym same) ∙ here)
