-- No world of a log's paths meets the rules of all groups that a closed derivation reaches: with those enders of sleeps alone that may be, it would
-- make all their conjuncts true.
use Rattle.std.proofs.Common.{◌≡◌, ◌≢◌, ◌∙◌, ◌⊎◌, inl, inr, ℕ, Bool, true, false, List, [], Some, ap, length, map, refl, sym, subst}
use Rattle.std.specs.Prelude.{if◌then◌else◌, option_map, slice_get}
use Rattle.std.specs.Bool.{IsTrue}
use Rattle.std.specs.List.{All, AllPairs, Contains}
use Rattle.std.proofs.lemmas.List.Elements.{All-contains}
use Rattle.std.proofs.lemmas.Option.{same_Some, slice_get-map}
use Rattle.tc_base.specs.Buffers.{BufferOps}
use Rattle.run_log.specs.Logs.{Log}
use Rattle.tc_base.specs.Names.{Name}
use Rattle.run_log.specs.memory_models.declared.model.Model.{Model}
use Rattle.tc_code.specs.Code.{Code}
use Rattle.store_buffers.specs.Laws.{Laws}
use Rattle.store_buffers.specs.Pending.{Binding}
use Rattle.path_walk.specs.Paths.{Paths, Walk, paths_of, walk_of}
use Rattle.clap_solve.proofs.sym_laws.Names.{one_place}
use Rattle.clap_solve.specs.schedule_file.Schedules.{is_name}
use Rattle.clap_solve.specs.schedule_decode.Decodable.{HaveRoom}
use Rattle.clap_solve.specs.sym_exec.Executed.{Executed, executed}
use Rattle.order_formula.specs.Groups.{HoldsIn}
use Rattle.order_formula.specs.Worlds.{IsWorld, World}
use Rattle.order_formula.specs.declared.group.Group.{Group}
use Rattle.order_formula.specs.declared.group.Group.TheVariants as group
use Rattle.why_impossible.specs.reached_groups.lawful_order.Lawful.{IsWorldOf, MeetsRule}
use Rattle.why_impossible.proofs.reached_groups.order_events.Lists.{at_in, in_map, of_map}
use Rattle.why_impossible.proofs.reached_groups.order_events.Parts.{each_in}
use Rattle.clap_solve.proofs.read_write.Formulas.{mapped}
use Rattle.clap_solve.specs.clap_system.Systems.{System, system_of, with_needs}
use Rattle.clap_solve.proofs.clap_system.Choices.{choices_are_enders}
use Rattle.clap_solve.proofs.clap_system.Exact.{group_exact}
use Rattle.clap_solve.proofs.clap_system.Needs.{parts_exact}
use Rattle.clap_solve.proofs.orders_are_runs.Terms.{system_terms}
use Rattle.dead_paths.specs.Causes.{cause_of}
use Rattle.why_impossible.specs.reached_groups.bit_blast.Blasted.{Blasted, impossible}
use Rattle.refute_check.specs.Refutations.{IsClosed}
use Rattle.refute_check.specs.declared.line.Line.{Line}
use Rattle.clap_solve.specs.Clauses.{blasted_by, blasted_of}
use Rattle.clap_solve.specs.Posed.{IsGiven, Posed, posed_of}
use Rattle.clap_solve.proofs.Drafted.{system_roots}
use Rattle.clap_solve.proofs.Meaning as meaning
use Rattle.clap_solve.proofs.Room.{have_room}
use Rattle.why_impossible.specs.reached_groups.Groups.{AreReachedGroups}
use Rattle.why_impossible.specs.reached_groups.Laws.{IsWorldIn}
use Rattle.why_impossible.proofs.reached_groups.Binds.{groups_bind}
use Rattle.why_impossible.specs.Explained.{IsClosedFor, IsExplained, MeetsRules, RestsOn, TellsCause}
use Rattle.why_impossible.specs.declared.explained.Explained.{Explained}
use Rattle.why_impossible.specs.declared.explained.Explained.TheVariants.{Closed, Open}
use Rattle.why_impossible.specs.Reasons.{cause_reason, name_at, reason_line, reason_of}
use Rattle.why_impossible.specs.declared.reason.Reason.{Reason}
use Rattle.why_impossible.specs.declared.reason.Reason.TheVariants.{Own, Child, Read, Mutex, Condition, Test, Stuck}
use Rattle.why_impossible.specs.helpers.Posed.{AreReasonsOn, Cause, Groups, IsExplainedOn}
use Rattle.why_impossible.specs.helpers.There.{IsSmall}
use Rattle.why_impossible.proofs.Kept.{is_of, kept, meets}
use Rattle.why_impossible.proofs.Lines.{IsPlain, name_of}
use Rattle.why_impossible.proofs.Once.{alone, once}
use Rattle.why_impossible.proofs.There.{There, are_there}

module _ {B : Type 0} (ops : BufferOps B) (model : Model) (bound : Binding) (code : Code) (log : Log) (laws : Laws ops model bound) (given : IsGiven code log)
    (lines : List Line) where
  abbrev paths : Paths
  paths = paths_of code log

  abbrev s : System
  s = system_of ops.buffered bound code log

  -- a world of the paths, with those enders alone, is one of the system's order
  kept_of : (w : World) (groups : List Group) → MeetsRules ops bound code log groups w → IsWorldOf paths s.symbolic (kept paths w)
  kept_of w groups m = is_of paths w s.symbolic m.events m.loads m.sleeps

  kept_is : (w : World) (groups : List Group) → MeetsRules ops bound code log groups w → IsWorld (kept paths w)
  kept_is w groups m = record { distinct = m.is.distinct }

  world_in : (w : World) (groups : List Group) → MeetsRules ops bound code log groups w → IsWorldIn s.order s.symbolic.loads (kept paths w)
  world_in w groups m =
      let of = kept_of w groups m in record {
        is = kept_is w groups m;
        events = of.events ∙ sym (meaning.events ops.buffered bound code log given.lawful given.within);
        loads = of.loads;
        ints = m.ints;
        sleeps = of.sleeps ∙ sym (meaning.sleeps ops.buffered bound code log given.lawful given.within);
        chosen = (choices_are_enders ops.buffered bound code paths (kept paths w) of.events of.loads of.sleeps).0 of;
      }

  -- the conjuncts of groups whose rules it meets are true
  holds_in : (w : World) (groups : List Group) → MeetsRules ops bound code log groups w → All (HoldsIn s.nodes (kept paths w) s.formula) groups
  holds_in w groups m =
      let x : Executed = executed code paths [] in
      let are = meaning.are ops.buffered bound code log given.lawful given.within in
      let v = kept paths w in
      let parts = parts_exact ops.buffered bound code paths v laws.same_cell given.lawful are
      (system_terms ops.buffered bound code paths given.lawful) (kept_is w groups m) (kept_of w groups m) in
      each_in (HoldsIn s.nodes v s.formula) groups (λ g i.
      (group_exact ops.buffered bound code paths x.symbolic (with_needs ops.buffered bound code paths x.symbolic x.nodes) v parts g).back
      (meets paths w ops.buffered bound code s.symbolic s.nodes g
      (All-contains (MeetsRule ops.buffered bound code paths s.symbolic s.nodes w) groups g m.rules i)
      (λ c is. m.enders c (subst (Contains groups) (sym is) i))))

  -- paths that aren't dead have the clauses of their system
  own_clauses : paths.dead ≡ false → blasted_of ops.buffered bound code log ≡ blasted_by code s
  own_clauses lives = ap (λ (d : Bool). if d then impossible else blasted_by code s) lives

  never : IsClosed (blasted_of ops.buffered bound code log).clauses lines → paths.dead ≡ false → (groups : List Group)
      → AreReachedGroups s.formula (blasted_of ops.buffered bound code log) lines groups → (w : World) → MeetsRules ops bound code log groups w → ⊥
  never closed lives groups are w m =
      groups_bind s.nodes s.formula s.order s.symbolic.loads (blasted_by code s) lines groups
      (meaning.posed ops.buffered bound code log given.lawful given.within) (meaning.means ops.buffered bound code log given.lawful given.within).tells
      (system_roots code s)
      (subst (λ (b : Blasted). IsClosed b.clauses lines) (own_clauses lives) closed)
      (subst (λ (b : Blasted). AreReachedGroups s.formula b lines groups) (own_clauses lives) are) (kept paths w) (world_in w groups m)
      (holds_in w groups m)

  -- what holds for the posed clauses holds for the log
  told : (reasons : List Reason) → IsClosed (blasted_of ops.buffered bound code log).clauses lines
      → AreReasonsOn code log (posed_of ops.buffered bound code log) lines reasons
      → RestsOn ops bound code log lines reasons ⊎ TellsCause code log (posed_of ops.buffered bound code log) reasons
  told reasons closed (Groups tells small) = inl (record { tells = tells; never = never closed tells.lives tells.groups tells.reached })
  told reasons closed (Cause tells) = inr tells

  room : HaveRoom paths
  room = have_room code log given.is_log given.within given.steps

  -- the names of threads differ, and are of the form that a log has
  apart : (j k : ℕ) (p q : Walk) → slice_get paths.threads j ≡ Some p → slice_get paths.threads k ≡ Some q → p.name ≡ q.name → j ≡ k
  apart j k p q at there same =
      let a = mapped (walk_of code log) (slice_get log.threads j) p (sym (slice_get-map (walk_of code log) log.threads j) ∙ at) in
      let b = mapped (walk_of code log) (slice_get log.threads k) q (sym (slice_get-map (walk_of code log) log.threads k) ∙ there) in
      one_place log given.is_log j k a.0 b.0 a.1 b.1
      (ap (λ (v : Walk). v.name) a.2 ∙ same ∙ sym (ap (λ (v : Walk). v.name) b.2))

  is_named : (make : Name → Reason) → ((n : Name) → name_of (make n) ≡ n) → (t : ℕ) (r : Reason) → option_map make (name_at paths t) ≡ Some r
      → is_name (name_of r) ≡ true
  is_named make made t r e =
      let n = mapped make (name_at paths t) r e in
      let q = mapped (λ (v : Walk). v.name) (slice_get paths.threads t) n.0 n.1 in
      ap (λ k. is_name (name_of k)) (sym n.2) ∙ ap is_name (made n.0 ∙ sym q.2)
      ∙ All-contains (λ (v : Walk). IsTrue (is_name v.name)) paths.threads q.0 room.names (at_in paths.threads t q.0 q.1)

  named : (g : Group) (r : Reason) → reason_of paths g ≡ Some r → is_name (name_of r) ≡ true
  named (group.Own t) r e = is_named Own (λ n. refl) t r e
  named (group.Child t) r e = is_named Child (λ n. refl) t r e
  named (group.Read t line) r e = is_named (λ n. Read n line) (λ n. refl) t r e
  named (group.Mutex m) r e = ap (λ k. is_name (name_of k)) (sym (same_Some (Mutex m) r e))
  named (group.Condition c) r e = ap (λ k. is_name (name_of k)) (sym (same_Some (Condition c) r e))
  named (group.Test t line) r e = is_named (λ n. Test n line) (λ n. refl) t r e
  named (group.Stuck t) r e = is_named Stuck (λ n. refl) t r e

  -- so the lines of reasons do
  plain : (groups : List Group) (reasons : List Reason) → map (reason_of paths) groups ≡ map Some reasons → All IsSmall reasons → All IsPlain reasons
  plain groups reasons told small =
      each_in IsPlain reasons (λ r i.
      let g = of_map (reason_of paths) (Some r) groups (subst (λ os. Contains os (Some r)) (sym told) (in_map (λ (x : Reason). Some x) r reasons i)) in
      record { name = named g.0 r g.2; small = All-contains IsSmall reasons r small i })

  differ : (reasons : List Reason) → AreReasonsOn code log (posed_of ops.buffered bound code log) lines reasons
      → AllPairs (λ (one other : List ℕ). one ≢ other) (map reason_line reasons)
  differ reasons (Groups tells small) =
      once paths apart tells.groups reasons tells.reached.rise tells.told (plain tells.groups reasons tells.told small)
  differ reasons (Cause tells) = subst (λ rs. AllPairs (λ (one other : List ℕ). one ≢ other) (map reason_line rs)) (sym tells.told)
      (alone (cause_reason (cause_of code log)))

  is_closed_for : (reasons : List Reason) → IsClosed (blasted_of ops.buffered bound code log).clauses lines
      → AreReasonsOn code log (posed_of ops.buffered bound code log) lines reasons → IsClosedFor ops bound code log lines reasons
  is_closed_for reasons closed are = record {
    closed = closed;
    rests = told reasons closed are;
    once = differ reasons are;
    impossible = meaning.closed_is_impossible ops model bound code log laws given.lawful given.is_log given.within lines closed;
  }

  pub is_explained : (p : Posed) (e : Explained) → p ≡ posed_of ops.buffered bound code log → IsExplainedOn code log p lines e
      → IsExplained ops bound code log lines e
  is_explained p (Closed reasons) by on =
      is_closed_for reasons (subst (λ (q : Posed). IsClosed q.blasted.clauses lines) by on.closed)
      (subst (λ (q : Posed). AreReasonsOn code log q lines reasons) by on.rests)
  is_explained p Open by on = subst (λ (q : Posed). IsExplainedOn code log q lines Open) by on

-- the group of each conjunct of the formula that is posed names a thread of the paths, if it names one
pub formula_there : (buffered : Bool) (bound : Binding) (code : Code) (log : Log) → IsGiven code log → (p : Posed) → p ≡ posed_of buffered bound code log
    → All (There p.paths) p.formula
formula_there buffered bound code log given p by =
    subst (λ (q : Posed). All (There q.paths) q.formula) (sym by)
    (are_there (paths_of code log) buffered bound code (meaning.are buffered bound code log given.lawful given.within))

-- paths that aren't dead have a clause for each conjunct
pub conjuncts_are : (buffered : Bool) (bound : Binding) (code : Code) (log : Log) (p : Posed) → p ≡ posed_of buffered bound code log → p.paths.dead ≡ false
    → p.blasted.conjuncts ≡ length p.formula
conjuncts_are buffered bound code log p by =
    subst (λ (q : Posed). q.paths.dead ≡ false → q.blasted.conjuncts ≡ length q.formula) (sym by)
    (λ lives.
    let s : System = system_of buffered bound code log in
    ap (λ (d : Bool). (if d then impossible else blasted_by code s).conjuncts) lives ∙ system_roots code s)
