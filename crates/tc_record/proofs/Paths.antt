-- The paths of a state's threads are those of its log.
use Rattle.std.proofs.Common.{◌≡◌, ◌∙◌, ◌&&◌, ◌||◌, ℕ, suc, Bool, true, false, cond, T, List, [], ◌∷◌, map, Option, Some, None, refl, ap, sym, subst}
use Rattle.std.proofs.Common.{◌<◌, ◌≤◌, IsSome, inl, inr, length, true≢false, arith}
use Rattle.std.proofs.lemmas.Bool.{lt-ltb, ltb-true, and_from, and_parts}
use Rattle.std.proofs.lemmas.List.{length-map}
use Rattle.std.proofs.lemmas.Option.{slice_get-map, slice_get_cases, slice_get_within, slice_get_read}
use Rattle.std.proofs.lemmas.Cmp.{nat_list_cmp_total}
use Rattle.std.specs.Cmp.{eq_by_cmp_equiv}
use Rattle.std.specs.Option.{option_map_or, option_and_then, IsSomeAnd}
use Rattle.std.specs.Prelude.{slice_get, slice_index_or, option_map, is_some, bytes_eq, nat_lt}
use Rattle.std.specs.List.{list_any}
use Rattle.std.specs.Ordering.{nat_cmp, is_lt}
use Rattle.std.specs.Cmp.Lexicographic.{slice_cmp}
use Rattle.std.specs.FinMap as fin
use Rattle.std.specs.FinMap.Entries.{below_all}
use Rattle.std.proofs.lemmas.Map.Text.{is_eq-slice_cmp}
use Rattle.store_buffers.proofs.list_laws.Bools.{first_T, second_T}
use Rattle.tc_base.specs.Names.{Name}
use Rattle.tc_base.specs.States.{Thread, State}
use Rattle.tc_base.specs.Paths.{Path, ThreadPath, place_in, path_under}
use Rattle.run_log.specs.Logs.{failing_of}
use Rattle.tc_base.specs.declared.failing.Failing.{Failing}
use Rattle.tc_base.specs.declared.failing.Failing.TheVariants as failing
use Rattle.run_log.specs.memory_models.declared.model.Model.{Model}
use Rattle.tc_base.specs.Buffers.{BufferOps}
use Rattle.tc_base.specs.declared.moves.Move.{Move}
use Rattle.tc_code.specs.Code.{Code}
use Rattle.tc_code.specs.Run.{path_of, path_in, run, IsStuck, EndsAs, Reproduces}
use Rattle.run_log.specs.Logs.{StoredLog, is_above, rises_from, is_there, is_log}
use Rattle.tc_machine.specs.run_laws.Alone.{same}
use Rattle.tc_machine.proofs.run_laws.Basics.{some_is}
use Rattle.tc_machine.proofs.run_laws.Names.{tells_names}
use Rattle.tc_base.proofs.Names.{same_true}
use Rattle.tc_record.specs.Logged.{IsLogOf}
use Rattle.tc_record.specs.helpers.Paths.{path_at, named_path, EndsBy, HasThreads}

both_true : (a b : Bool) → T a → b ≡ true → (a && b) ≡ true
both_true true b h e = e
both_true false b h e = absurd h

module _ {X : Type 0} (f : Name → ThreadPath) (named : (n : Name) → (f n).name ≡ n) where
  abbrev names_of : List (Name × X) → List Name
  names_of es = map (λ e. e.0) es

  -- the paths of names that rise above one rise above it
  rise_above : (last : Name) (es : List (Name × X)) → T (below_all (slice_cmp nat_cmp) last es) → T (fin.is_sorted (slice_cmp nat_cmp) es)
      → rises_from (Some last) (map f (names_of es)) ≡ true
  rise_above last [] below sorted = refl
  rise_above last (e ∷ es) below sorted =
      both_true (is_above (Some last) (f e.0).name) _
      (subst (λ n. T (is_lt (slice_cmp nat_cmp last n))) (sym (named e.0)) (first_T _ _ below))
      (subst (λ n. rises_from (Some n) (map f (names_of es)) ≡ true) (sym (named e.0)) (rise_above e.0 es (first_T _ _ sorted) (second_T _ _ sorted)))

  rise : (es : List (Name × X)) → T (fin.is_sorted (slice_cmp nat_cmp) es) → rises_from None (map f (names_of es)) ≡ true
  rise [] sorted = refl
  rise (e ∷ es) sorted =
      subst (λ n. rises_from (Some n) (map f (names_of es)) ≡ true) (sym (named e.0)) (rise_above e.0 es (first_T _ _ sorted) (second_T _ _ sorted))

-- each of these names has its path, and no other name has one
under_names : (p : Name → Path) (n : Name) (names : List Name)
    → path_under n (map (λ k. let t : ThreadPath = record { name = k; path = p k } in t) names) ≡ cond (list_any (same n) names) (Some (p n)) None
under_names p n [] = refl
under_names p n (k ∷ names) =
    let rest = path_under n (map (λ k. let t : ThreadPath = record { name = k; path = p k } in t) names) in
    let any = list_any (same n) names in
    ap (λ b. cond b (Some (p k)) rest) (sym (is_eq-slice_cmp n k)) ∙ elim (tells_names n k) [
      | inl e ↦ ap (λ b. cond b (Some (p k)) rest) e.0 ∙ ap (λ m. Some (p m)) (sym e.1) ∙ sym (ap (λ b. cond (b || any) (Some (p n)) None) e.0)
      | inr e ↦ ap (λ b. cond b (Some (p k)) rest) e.0 ∙ under_names p n names ∙ sym (ap (λ b. cond (b || any) (Some (p n)) None) e.0)
    ]

-- an existing thread has its own path
own_path : {B : Type 0} (o : Option (Thread B)) (d : Path) → option_map path_of o ≡ cond (is_some o) (Some (option_map_or path_of o d)) None
own_path None d = refl
own_path (Some t) d = refl

-- a place with an element is below the length
below : {X : Type 0} (xs : List X) (i : ℕ) (o : Option X) → slice_get xs i ≡ o → IsSome o → nat_lt i (length xs) ≡ true
below xs i None e some = absurd (true≢false (sym some))
below xs i (Some x) e some = lt-ltb i (length xs) (slice_get_within xs i x e)

other_numbers : (m n : Name) → bytes_eq m n ≡ false → same n m ≡ false
other_numbers m n h = elim (tells_names n m) [
  | inl e ↦ absurd (true≢false (sym ((eq_by_cmp_equiv nat_list_cmp_total).refl m) ∙ is_eq-slice_cmp m m ∙ subst (λ k. bytes_eq m k ≡ false) e.1 h))
  | inr e ↦ e.0
]

-- a name that was found is at its place
pub found_at : (names : List Name) (i : ℕ) (n item : Name) → i < length names → item ≡ slice_index_or names i item → bytes_eq item n ≡ true
    → slice_get names i ≡ Some n
found_at names i n item lt is same =
    slice_get_read names (length names) i item refl lt is ∙ ap (λ m. Some m) (same_true item n same)

none_same : (n : Name) (names : List Name) → ((k : ℕ) → k < length names → bytes_eq (slice_index_or names k []) n ≡ false) →
    list_any (same n) names ≡ false
none_same n [] h = refl
none_same n (m ∷ names) h =
    ap (λ b. b || list_any (same n) names) (other_numbers m n (h 0 (omega arith))) ∙ none_same n names (λ k lt. h (suc k) (omega (arith, lt)))

-- an existing thread is found
pub is_found : {B : Type 0} (s : State B) (n : Name) (names : List Name) (i : ℕ) → IsSome (fin.get s.threads n) → names ≡ fin.keys s.threads
    → length names ≤ i → ((k : ℕ) → k < i → bytes_eq (slice_index_or names k []) n ≡ false) → ⊥
is_found s n names i there are all none =
    true≢false (sym there ∙ fin.contains_key-keys s.threads n ∙ ap (list_any (same n)) (sym are)
    ∙ none_same n names (λ k lt. none k (omega (arith, lt, all))))

module _ {B : Type 0} (s : State B) where
  -- the paths rise by their names
  pub paths_rise : rises_from None (map (named_path s) (fin.keys s.threads)) ≡ true
  paths_rise = rise (named_path s) (λ n. refl) (fin.entries s.threads) (fin.entries_sorted s.threads)

  -- each path is that of its name
  pub paths_same : (n : Name) → path_in s n ≡ path_under n (map (named_path s) (fin.keys s.threads))
  paths_same n =
      own_path (fin.get s.threads n) _
      ∙ ap (λ b. cond b (Some (path_at s n)) None) (fin.contains_key-keys s.threads n)
      ∙ sym (under_names (path_at s) n (fin.keys s.threads))

  own_name : (o : Option Name) → option_map (λ (t : ThreadPath). t.name) (option_map (named_path s) o) ≡ o
  own_name None = refl
  own_name (Some n) = refl

  own_path_there : (o : Option Name) → IsSome o → IsSome (option_map (named_path s) o)
  own_path_there None h = h
  own_path_there (Some n) h = refl

  -- the failing thread of the log is the thread that failed
  failing_same : (model : Model) (f : Failing) → EndsBy s f
      → failing_of (record { model = model; failing = f; threads = map (named_path s) (fin.keys s.threads) }) ≡ s.failed
  failing_same model (failing.Thread i) e =
      ap (option_map (λ (t : ThreadPath). t.name)) (slice_get-map (named_path s) (fin.keys s.threads) i)
      ∙ own_name (slice_get (fin.keys s.threads) i) ∙ e.1
  failing_same model failing.Deadlock e = sym e

  failing_there : (f : Failing) → EndsBy s f → 0 < length (fin.keys s.threads) → is_there f (length (map (named_path s) (fin.keys s.threads))) ≡ true
  failing_there (failing.Thread i) e some =
      let there = slice_get-map (named_path s) (fin.keys s.threads) i ∙ ap (option_map (named_path s)) e.1 in
      below _ i _ there (own_path_there s.failed e.0)
  failing_there failing.Deadlock e some = lt-ltb 0 _ (omega (arith, some, length-map (fin.keys s.threads) (named_path s)))

  -- the log is a log
  pub is_log_there : (model : Model) (f : Failing) (threads : List ThreadPath) → HasThreads s → EndsBy s f
      → threads ≡ map (named_path s) (fin.keys s.threads) → is_log (record { model = model; failing = f; threads = threads }) ≡ true
  is_log_there model f threads has e is =
      subst (λ (ts : List ThreadPath). is_log (record { model = model; failing = f; threads = ts }) ≡ true) (sym is)
      (and_from _ _ paths_rise (failing_there f e has.some))

  -- the log is the state's
  pub log_there : (under : Model) (stored : StoredLog) (model : Model) (f : Failing) (threads : List ThreadPath)
      → stored ≡ record { digest = None; log = record { model = model; failing = f; threads = threads } } → model ≡ under
      → HasThreads s → EndsBy s f → threads ≡ map (named_path s) (fin.keys s.threads) → IsLogOf under s stored
  log_there under stored model f threads e same has ends is =
      subst (IsLogOf under s) (sym e) (record {
        digest = refl;
        model = same;
        is_log = is_log_there model f threads has ends is;
        failing =
            ap (λ (ts : List ThreadPath). failing_of (record { model = model; failing = f; threads = ts })) is
            ∙ failing_same model f ends;
        paths = λ n. paths_same n ∙ sym (ap (path_under n) is);
      })

module _ {B : Type 0} (ops : BufferOps B) (code : Code) (s : State B) where
  named : (o : Option ThreadPath) → IsSome o → option_map (λ (t : ThreadPath). t.name) o ≡ s.failed → IsSomeAnd o (λ t. s.failed ≡ Some t.name)
  named None some e = absurd (true≢false (sym some))
  named (Some t) some e = sym e

  -- the run ended as its log says
  ends_as : (f : Failing) (ts : List ThreadPath) → option_and_then (λ k. option_map (λ (t : ThreadPath). t.name) (slice_get ts k)) (place_in f) ≡ s.failed
      → is_there f (length ts) ≡ true → (s.failed ≡ None → IsStuck ops code s) → EndsAs ops code f ts s
  ends_as (failing.Thread k) ts same there stuck =
      elim ((slice_get_cases ts k).1) [
        | inl at ↦ named (slice_get ts k) (some_is _ at.0 at.2) same
        | inr past ↦ absurd (omega (arith, ltb-true k (length ts) there, past.0))
      ]
  ends_as failing.Deadlock ts same there stuck = stuck (sym same)

  -- moves that lead to a state with a failed thread, or to a stuck one, reproduce its log
  pub reproduced : (under : Model) (stored : StoredLog) (moves : List Move) → run ops code moves ≡ Some s → (s.failed ≡ None → IsStuck ops code s)
      → IsLogOf under s stored → Reproduces ops code stored.log moves
  reproduced under stored moves leads stuck is = record {
    state = s;
    leads = leads;
    ends = ends_as stored.log.failing stored.log.threads is.failing
        (and_parts (rises_from None stored.log.threads) (is_there stored.log.failing (length stored.log.threads)) is.is_log).1 stuck;
    paths = is.paths;
  }
