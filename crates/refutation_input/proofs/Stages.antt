-- A refutation that is read line by line.
use Rattle.std.proofs.Common.{◌≡◌, ◌≢◌, ◌+◌, ◌≤◌, ◌<◌, ◌∙◌, ℕ, List, [], ◌∷◌, ◌++◌, length, Option, Some, None, IfSome, Result, Ok, Err, Bool, true, false}
use Rattle.std.proofs.Common.{take, drop, take-add, take-append-drop, refl, ap, sym, subst, arith, append-nil, append_assoc}
use Rattle.std.proofs.lemmas.List.{take_all}
use Rattle.std.proofs.lemmas.Bool.{false≢true}
use Rattle.std.specs.Prelude.{fold, is_some, nat_eq, not, ◌||◌, if◌then◌else◌}
use Rattle.std.specs.Option.{option_map_or}
use Rattle.refute_check.specs.list_laws.Lists.{is_nil}
use Rattle.command_inputs.specs.path_log.Texts.{IsLog, IsOfOther}
use Rattle.refute_check.specs.Broken.{BreaksAt}
use Rattle.refute_check.specs.Laws.{IsWhole, whole_lines}
use Rattle.refute_check.specs.Reading.{Reading, Reads, beginning, bodies, fault_of, first_breach, lines_of}
use Rattle.refute_check.specs.Refutations.{Checking, check, state_after_line, state_after_verdict, line_fault, opening, start, verdict}
use Rattle.refute_check.specs.Texts.{refutation_text}
use Rattle.refute_check.specs.declared.head.Head.{Head}
use Rattle.refute_check.specs.declared.line.Line.{Line}
use Rattle.refute_check.specs.declared.line.Line.TheVariants.{Add, Delete}
use Rattle.refute_check.specs.declared.text.Taken.{Taken}
use Rattle.refute_check.specs.declared.text.Taken.TheVariants.{More, Header, Line as Body, Form}
use Rattle.refute_check.specs.declared.verdict.CheckFault.{CheckFault}
use Rattle.refute_check.proofs.Checkings.{start-line}
use Rattle.refute_check.proofs.Cuts.{cuts-agree}
use Rattle.refute_check.proofs.Pieces.{first-taken, line-fits, read-count, reads-taken}
use Rattle.refute_check.proofs.ReadTexts.{read-is-text}
use Rattle.refute_check.proofs.Wholes.{whole-one}
use Rattle.run_log.specs.Logs.{StoredLog}
use Rattle.tc_code.specs.Code.{Code}
use Rattle.command_inputs.specs.tc_compile.Programs.{IsCodeOf}
use Rattle.command_inputs.specs.declared.refusal.Fault.TheVariants as fault
use Rattle.command_inputs.specs.declared.refusal.Refusal.{Refusal}
use Rattle.command_inputs.specs.declared.refusal.Refusal.TheVariants as refusal
use Rattle.refutation_input.specs.Checked.{IsChecked}
use Rattle.refutation_verdicts.specs.Refutations.{Refutation, head_clauses}
use Rattle.refutation_verdicts.specs.Verdicts.{IsVerdict}
use Rattle.refutation_input.specs.declared.incoming.Incoming.{Incoming}
use Rattle.refutation_input.specs.declared.incoming.Stage.{Stage}
use Rattle.refutation_input.specs.declared.incoming.Stage.TheVariants.{Begins, Refuses, Checks}
use Rattle.refutation_verdicts.specs.declared.verdict.Verdict.{Verdict}
use Rattle.refutation_input.specs.helpers.Incoming.{HasRoom, IsBegun, IsEndOf, IsFirst, IsRead, IsStage, begins, stage_after}
use Rattle.log_tasks.proofs.Refused.{foreign, unsearched}
use Rattle.log_tasks.specs.Refused.{HasNoClauses}
use Rattle.log_tasks.specs.Texts.{IsRefutation}
use Rattle.refutation_verdicts.proofs.Judged.{stays, unsearched_unjudged}
use Rattle.refutation_verdicts.proofs.Verdicts.{verdict_for}

-- the bytes taken, and some of those after them
pub taken_on : (front bytes : List ℕ) (m n : ℕ) → (front ++ take m bytes) ++ take n (drop m bytes) ≡ front ++ take (m + n) bytes
taken_on front bytes m n = append_assoc front (take m bytes) (take n (drop m bytes)) ∙ ap (λ bs. front ++ bs) (sym (take-add m n bytes))

pub taken_all : (front bytes : List ℕ) (m : ℕ) → length bytes ≤ m → front ++ take m bytes ≡ front ++ bytes
taken_all front bytes m most = ap (λ bs. front ++ bs) (take_all m bytes most)

-- the line of a first breach
at_fault : (t : Reading) (k : ℕ) → t.fault ≡ Some k → first_breach t ≡ Some k
at_fault t k e = ap (λ o. option_map_or (λ j. Some j) o (if nat_eq t.line 1 || not (is_nil t.unfinished) then Some t.line else None)) e

at_first : (t : Reading) → t.fault ≡ None → t.line ≡ 1 → first_breach t ≡ Some 1
at_first t e line =
    ap (λ o. option_map_or (λ k. Some k) o (if nat_eq t.line 1 || not (is_nil t.unfinished) then Some t.line else None)) e
    ∙ ap (λ k. if nat_eq k 1 || not (is_nil t.unfinished) then Some k else None) line

unbroken_free : (t : Reading) → first_breach t ≡ None → t.fault ≡ None
unbroken_free t e = by t.fault refl
  where
    by : (o : Option ℕ) → t.fault ≡ o → t.fault ≡ None
    by None is = is
    by (Some k) is = absurd (let bad : Some k ≡ None = sym (at_fault t k is) ∙ e in cc)

-- a checker counts the lines that it takes until the first that doesn't pass
fold_line : (ls : List Line) (s : Checking) → (fold state_after_line s ls).line ≤ s.line + length ls
fold_line [] s = omega arith
fold_line (l ∷ ls) s = let more = fold_line ls (state_after_line s l) in let one : (state_after_line s l).line ≤ s.line + 1 = by (is_some s.fault) in omega (arith, more, one)
  where
    judge : (o : Option CheckFault) (m : Line) → (state_after_verdict o s m).line ≤ s.line + 1
    judge None (Add lits hints) = omega arith
    judge None (Delete ns) = omega arith
    judge (Some f) m = omega arith

    by : (b : Bool) → (if b then s else state_after_verdict (line_fault (s.line + 1) s.vars s.kept l) s l).line ≤ s.line + 1
    by true = omega arith
    by false = judge (line_fault (s.line + 1) s.vars s.kept l) l

bodies_length : (ls : List Line) → length (bodies ls) ≡ length ls
bodies_length [] = refl
bodies_length (l ∷ ls) = omega (arith, bodies_length ls)

bodies_more : (ls : List Line) (l : Line) → bodies ls ++ Body l ∷ [] ≡ bodies (ls ++ l ∷ [])
bodies_more [] l = refl
bodies_more (m ∷ ls) l = ap (λ ts. Body m ∷ ts) (bodies_more ls l)

fold_more : (ls : List Line) (s : Checking) (l : Line) → state_after_line (fold state_after_line s ls) l ≡ fold state_after_line s (ls ++ l ∷ [])
fold_more [] s l = refl
fold_more (m ∷ ls) s l = fold_more ls (state_after_line s m) l

no_lines : (xs : List Taken) → length xs ≡ 0 → xs ≡ []
no_lines [] e = refl
no_lines (x ∷ xs) e = absurd (omega (arith, e))

module _ (program log : List ℕ) where
  module _ (run : StoredLog) (front : List ℕ) (s : Reading) (ts : List Taken) (reads : Reads beginning front ts s) (free : s.fault ≡ None) (bytes : List ℕ) (t : Reading) where
    abbrev Before : Stage → Type 0
    Before stage = IsStage program log run s ts stage

    abbrev After : List Taken → Stage → Type 0
    After more stage = IsStage program log run t (ts ++ more) stage

    place : s.line ≡ 1 + length ts
    place = read-count front beginning ts s reads free

    some_lines : (m : Head) (ls : List Line) → ts ≡ whole_lines m ls → s.line ≡ 2 + length ls
    some_lines m ls e = omega (arith, place, ap length e, bodies_length ls)

    -- no line has ended
    after_more : (stage : Stage) → Before stage → Reads s bytes [] t → t.fault ≡ None → After [] stage
    after_more stage is r e = subst (λ z. IsStage program log run t z stage) (sym (append-nil ts)) (by stage is)
      where
        by : (st : Stage) → Before st → IsStage program log run t ts st
        by Begins h =
            let line : t.line ≡ 1 = omega (arith, read-count bytes s [] t r e, place, ap length (h.2 free)) in
            (h.0, at_first t e line, λ _. h.2 free)
        by (Refuses why) h = h
        by (Checks most c) h = λ _. h free

    -- the header has ended
    module _ (h : Head) (r : Reads s bytes (Header h ∷ []) t) where
      none : ts ≡ []
      none = let at = first-taken bytes s t (Header h) [] r in no_lines ts (omega (arith, place, at.1.0))

      after_header : (next : Stage) → IsBegun program log h next → After (Header h ∷ []) next
      after_header next begun = subst (λ z. IsStage program log run t (z ++ Header h ∷ []) next) (sym none) (by next begun)
        where
          by : (st : Stage) → IsBegun program log h st → IsStage program log run t (Header h ∷ []) st
          by Begins b = absurd b
          by (Refuses why) b = b
          by (Checks most c) b = λ _. (h, [], refl, b)

      later_header : (stage : Stage) → Before stage → begins stage ≡ false → After (Header h ∷ []) stage
      later_header Begins is later = absurd (false≢true (sym later))
      later_header (Refuses why) is later = is
      later_header (Checks most c) is later = let w = is free in absurd (omega (arith, ap length none, ap length w.2))

    -- another line has ended
    module _ (l : Line) (r : Reads s bytes (Body l ∷ []) t) where
      has_room : (stage : Stage) → Before stage → HasRoom stage
      has_room Begins is = tt
      has_room (Refuses why) is = tt
      has_room (Checks most c) is =
          let w = is free in
          let fits = (line-fits bytes s t l r).1 in
          let f = head_clauses w.0 w.3.0.pair.code w.3.0.pair.run.log in
          let count = fold_line w.1 (start f) in
          let first = start-line (opening f.vars) f.clauses in
          omega (arith, some_lines w.0 w.1 w.2, fits, count, first, ap (λ (x : Checking). x.line) w.3.2)

      after_line : (stage : Stage) → Before stage → After (Body l ∷ []) (stage_after stage l)
      after_line Begins is = let at = first-taken bytes s t (Body l) [] r in absurd (omega (arith, at.1.0, place, ap length (is.2 free)))
      after_line (Refuses why) is = is
      after_line (Checks most c) is =
          let w = is free in
          let e : ts ++ Body l ∷ [] ≡ whole_lines w.0 (w.1 ++ l ∷ []) =
          ap (λ z. z ++ Body l ∷ []) w.2 ∙ ap (λ z. Header w.0 ∷ z) (bodies_more w.1 l) in
          let f = head_clauses w.0 w.3.0.pair.code w.3.0.pair.run.log in
          λ _. (w.0, w.1 ++ l ∷ [], e, (w.3.0, w.3.1, ap (λ x. state_after_line x l) w.3.2 ∙ fold_more w.1 (start f) l))

    -- a line broke the form
    after_form : (stage : Stage) → Before stage → (k : ℕ) → Reads s bytes (Form k ∷ []) t → t.fault ≡ Some k → After (Form k ∷ []) stage
    after_form stage is k r broke = by stage is
      where
        not_free : t.fault ≡ None → ⊥
        not_free e = let bad : Some k ≡ None = sym broke ∙ e in cc

        by : (st : Stage) → Before st → After (Form k ∷ []) st
        by Begins h =
            let at = first-taken bytes s t (Form k) [] r in
            let first : k ≡ 1 = omega (arith, at.1.0, place, ap length (h.2 free)) in
            (h.0, at_fault t k broke ∙ ap (λ n. Some n) first, λ e. absurd (not_free e))
        by (Refuses why) h = h
        by (Checks most c) h = λ e. absurd (not_free e)

  -- what was read of some bytes
  module _ (old : Incoming) (bytes : List ℕ) (n : ℕ) (x : Taken) (t : Reading) (some : 0 < length bytes) (all : x ≡ More → n ≡ length bytes)
      (reads : Reads old.text (take n bytes) (if nat_eq n 0 then [] else lines_of x) t)
      (stuck : IfSome old.text.fault (λ k. (n ≡ 0) × (x ≡ Form k))) (moves : old.text.fault ≡ None → x ≢ More → 0 < n) (told : t.fault ≡ fault_of x)
      (front : List ℕ) (read : IsRead program log old front) where
    free : ((k : ℕ) → x ≡ Form k → ⊥) → old.text.fault ≡ None
    free not = by old.text.fault refl stuck
      where
        by : (o : Option ℕ) → old.text.fault ≡ o → IfSome o (λ k. (n ≡ 0) × (x ≡ Form k)) → old.text.fault ≡ None
        by None e h = e
        by (Some k) e h = absurd (not k h.1)

    so_taken : (y : Taken) → x ≡ y → 0 < n → Reads old.text (take n bytes) (lines_of y) t
    so_taken y e positive = reads-taken n bytes old.text t x y e positive reads

    abbrev Read : Stage → List ℕ → Type 0
    Read stage more = IsRead program log (record { code = old.code; log = old.log; text = t; stage = stage }) (front ++ more)

    -- more lines, and the stage after them
    then_read : (stage : Stage) (more : List ℕ) (ts : List Taken) → Reads beginning (front ++ more) ts t → IsStage program log old.log t ts stage
        → Read stage more
    then_read stage more ts all is = record { programs = read.programs; logs = read.logs; lines = ts; reads = all; stage = is }

    pub more_on : x ≡ More → Read old.stage (take n bytes)
    more_on e =
        let none = free (λ k f. let bad : More ≡ Form k = sym e ∙ f in cc) in
        let r = so_taken More e (omega (arith, some, all e)) in
        then_read old.stage (take n bytes) (read.lines ++ []) (cuts-agree front (take n bytes) beginning old.text t read.lines [] read.reads r)
        (after_more old.log front old.text read.lines read.reads none (take n bytes) t old.stage read.stage r (told ∙ ap fault_of e))

    module _ (h : Head) (e : x ≡ Header h) where
      header_free : old.text.fault ≡ None
      header_free = free (λ k f. let bad : Header h ≡ Form k = sym e ∙ f in cc)

      header_taken : Reads old.text (take n bytes) (Header h ∷ []) t
      header_taken = so_taken (Header h) e (moves header_free (λ m. let bad : Header h ≡ More = sym e ∙ m in cc))

      header_read : (next : Stage) → IsStage program log old.log t (read.lines ++ Header h ∷ []) next → Read next (take n bytes)
      header_read next is =
          then_read next (take n bytes) (read.lines ++ Header h ∷ [])
          (cuts-agree front (take n bytes) beginning old.text t read.lines (Header h ∷ []) read.reads header_taken) is

      begins_so : (stage : Stage) → begins stage ≡ true → IsStage program log old.log old.text read.lines stage → IsOfOther program old.log → ⊥
      begins_so Begins b is = is.0
      begins_so (Refuses why) b is = absurd (false≢true b)
      begins_so (Checks most c) b is = absurd (false≢true b)

      pub header_on : begins old.stage ≡ true → (next : Stage)
          → ((p l : List ℕ) → IsCodeOf p old.code → IsLog l old.log → (IsOfOther p old.log → ⊥) → IsBegun p l h next) → Read next (take n bytes)
      header_on b next begun =
          header_read next
          (after_header old.log front old.text read.lines read.reads header_free (take n bytes) t h header_taken next
          (begun program log read.programs read.logs (begins_so old.stage b read.stage)))

      pub header_kept : begins old.stage ≡ false → Read old.stage (take n bytes)
      header_kept b =
          header_read old.stage
          (later_header old.log front old.text read.lines read.reads header_free (take n bytes) t h header_taken old.stage read.stage b)

    module _ (l : Line) (e : x ≡ Body l) where
      line_free : old.text.fault ≡ None
      line_free = free (λ k f. let bad : Body l ≡ Form k = sym e ∙ f in cc)

      line_taken : Reads old.text (take n bytes) (Body l ∷ []) t
      line_taken = so_taken (Body l) e (moves line_free (λ m. let bad : Body l ≡ More = sym e ∙ m in cc))

      pub line_room : HasRoom old.stage
      line_room = has_room old.log front old.text read.lines read.reads line_free (take n bytes) t l line_taken old.stage read.stage

      pub line_on : (next : Stage) → next ≡ stage_after old.stage l → Read next (take n bytes)
      line_on next is =
          subst (λ st. Read st (take n bytes)) (sym is)
          (then_read (stage_after old.stage l) (take n bytes) (read.lines ++ Body l ∷ [])
          (cuts-agree front (take n bytes) beginning old.text t read.lines (Body l ∷ []) read.reads line_taken)
          (after_line old.log front old.text read.lines read.reads line_free (take n bytes) t l line_taken old.stage read.stage))

    pub form_on : (k : ℕ) → x ≡ Form k → Read old.stage (take (length bytes) bytes)
    form_on k e = subst (Read old.stage) (sym (take_all (length bytes) bytes (omega arith))) (by old.text.fault refl stuck)
      where
        by : (o : Option ℕ) → old.text.fault ≡ o → IfSome o (λ j. (n ≡ 0) × (x ≡ Form j)) → Read old.stage bytes
        by (Some j) f h =
            let r = subst (λ m. Reads old.text (take m bytes) (if nat_eq m 0 then [] else lines_of x) t) h.0 reads in
            let same : t ≡ old.text = r.1 in
            let on = stays bytes old.text (ap is_some f) in
            then_read old.stage bytes (read.lines ++ [])
            (subst (Reads beginning (front ++ bytes) (read.lines ++ [])) (sym same)
            (cuts-agree front bytes beginning old.text old.text read.lines [] read.reads on))
            (subst (λ u. IsStage program log old.log u (read.lines ++ []) old.stage) (sym same)
            (subst (λ ts. IsStage program log old.log old.text ts old.stage) (sym (append-nil read.lines)) read.stage))
        by None f h =
            let r = so_taken (Form k) e (moves f (λ m. let bad : Form k ≡ More = sym e ∙ m in cc)) in
            let broke : t.fault ≡ Some k = told ∙ ap fault_of e in
            let whole = subst (λ bs. Reads old.text bs (Form k ∷ []) t) (take-append-drop n bytes)
            (cuts-agree (take n bytes) (drop n bytes) old.text t t (Form k ∷ []) [] r (stays (drop n bytes) t (ap is_some broke))) in
            then_read old.stage bytes (read.lines ++ Form k ∷ [])
            (cuts-agree front bytes beginning old.text t read.lines (Form k ∷ []) read.reads whole)
            (after_form old.log front old.text read.lines read.reads f bytes t old.stage read.stage k whole broke)

  -- a refutation that was read to its end
  module _ (s : Incoming) (bytes : List ℕ) (read : IsRead program log s bytes) where
    abbrev Outcome : Result (Verdict (Option ℕ)) Refusal → Type 0
    Outcome = IsChecked program log bytes

    at_stage : (stage : Stage) → s.stage ≡ stage → IsStage program log s.log s.text read.lines stage
    at_stage stage e = subst (IsStage program log s.log s.text read.lines) e read.stage

    pub broken_so : (line : ℕ) → first_breach s.text ≡ Some line → Outcome (Err (refusal.Refutation line))
    broken_so line e = (
      record { code = s.code; run = s.log; programs = read.programs; logs = read.logs },
      (read.lines, (s.text, read.reads, e)),
    )

    pub begins_so_far : s.stage ≡ Begins → Outcome (Err (refusal.Refutation 1))
    begins_so_far e = broken_so 1 (at_stage Begins e).1

    module _ (none : first_breach s.text ≡ None) where
      read_whole : Refutation bytes
      read_whole =
          let w = read-is-text bytes read.lines s.text read.reads none in
          record { head = w.0; lines = w.1; text = record { whole = w.3; text = sym w.4 } }

      pub refused_so : (why : Refusal) → s.stage ≡ Refuses why → Outcome (Err why)
      refused_so why e = unsearched_unjudged program log (Refutation bytes) (BreaksAt bytes) read_whole why (at_stage (Refuses why) e)

      pub checked_so : (most : Option ℕ) (c : Checking) → s.stage ≡ Checks most c → (v : Verdict (Option ℕ))
          → IsVerdict (λ named. named ≡ most) (verdict c) v → Outcome (Ok v)
      checked_so most c e v is =
          let w = at_stage (Checks most c) e (unbroken_free s.text none) in
          let r : Refutation bytes = record { head = w.0; lines = w.1; text = text_of w.0 w.1 w.2 } in
          let found = check (head_clauses w.0 w.3.0.pair.code w.3.0.pair.run.log) w.1 in (
            w.3.0,
            r,
            verdict_for (λ named. named ≡ most) (λ named. named ≡ w.0.switches) (verdict c) found (ap verdict w.3.2)
                (λ named same. same ∙ w.3.1) v is,
          )
        where
          -- the bytes are the text of the lines that were read
          text_of : (h : Head) (ls : List Line) → read.lines ≡ whole_lines h ls → IsRefutation bytes h ls
          text_of h ls e =
              let w = read-is-text bytes read.lines s.text read.reads none in
              let same = whole-one w.0 h w.1 ls (sym w.2 ∙ e) in
              record {
                whole = subst (λ k. IsWhole k ls) same.0 (subst (λ xs. IsWhole w.0 xs) same.1 w.3);
                text = sym w.4 ∙ ap (λ k. refutation_text k w.1) same.0 ∙ ap (λ xs. refutation_text h xs) same.1;
              }

      pub ended_so : (stage : Stage) → s.stage ≡ stage → (x : Result (Verdict (Option ℕ)) Refusal) → IsEndOf stage x → Outcome x
      ended_so Begins e x is = subst Outcome (sym is) (begins_so_far e)
      ended_so (Refuses why) e x is = subst Outcome (sym is) (refused_so why e)
      ended_so (Checks most c) e (Ok v) is = checked_so most c e v is
      ended_so (Checks most c) e (Err why) is = absurd is

-- before any byte
pub first_read : (program log : List ℕ) (code : Code) (run : StoredLog) (text : Reading) (stage : Stage) → text ≡ beginning → IsCodeOf program code
    → IsLog log run → IsFirst program run stage → IsRead program log (record { code = code; log = run; text = text; stage = stage }) []
first_read program log code run text stage e programs logs is =
    record { programs = programs; logs = logs; lines = []; reads = (refl, e); stage = subst (λ t. IsStage program log run t [] stage) (sym e) (by stage is) }
  where
    by : (st : Stage) → IsFirst program run st → IsStage program log run beginning [] st
    by Begins h = (h, refl, λ _. refl)
    by (Refuses why) h = foreign (record { code = code; run = run; programs = programs; logs = logs }) why h
    by (Checks most c) h = absurd h

-- from a fault over clauses to the stage after the header
pub refused_begun : (program log : List ℕ) (code : Code) (run : StoredLog) (head : Head) → IsCodeOf program code → IsLog log run
    → (IsOfOther program run → ⊥) → (why : Refusal) → HasNoClauses code run.log why → IsBegun program log head (Refuses why)
refused_begun program log code run head programs logs own why h =
    unsearched (record { code = code; run = run; programs = programs; logs = logs }) own {A = Unit {0}} (Err (fault.Refused why)) h

-- the result of reading a text that has already broken its form
pub stuck_so : {E : Type 0} (o : Option ℕ) (result : Result (ℕ × Taken) E) (n : ℕ) (x : Taken) → result ≡ Ok (n, x)
    → IfSome o (λ k. result ≡ Ok (0, Form k)) → IfSome o (λ k. (n ≡ 0) × (x ≡ Form k))
stuck_so None result n x is h = tt
stuck_so {E} (Some k) result n x is h =
    let e : Ok (n, x) ≡ Ok (0, Form k) = sym is ∙ h in
    let same : (n, x) ≡ (0, Form k) = ap had e in
    (ap (λ (p : ℕ × Taken). p.0) same, ap (λ (p : ℕ × Taken). p.1) same)
  where
    had : Result (ℕ × Taken) E → ℕ × Taken
    had (Ok p) = p
    had (Err f) = (n, x)
