-- The execution of all threads: those before one, and those after it.
use Rattle.std.proofs.Common.{◌≡◌, ◌∙◌, ℕ, suc, pos, List, [], ◌∷◌, ◌++◌, length, take, drop, fold, Option, Some}
use Rattle.std.proofs.Common.{refl, sym, ap, subst, arith, append-nil, append_assoc, length-append}
use Rattle.std.specs.Prelude.{slice_get}
use Rattle.std.specs.List.{All}
use Rattle.std.proofs.lemmas.List.Elements.{All-nil}
use Rattle.std.proofs.lemmas.List.Sums.{fold-append}
use Rattle.sym_exec.specs.tc_code.Code.{Code}
use Rattle.sym_exec.specs.tc_code.Lawful.{IsLawful}
use Rattle.sym_exec.specs.tc_code.Step.{ints_of}
use Rattle.sym_exec.specs.path_walk.Paths.{Walk, Paths}
use Rattle.sym_exec.specs.sym_terms.Terms.{AreTerms}
use Rattle.sym_exec.specs.sym_terms.declared.node.Node.{Node}
use Rattle.sym_exec.specs.sym_terms.declared.node.Node.TheVariants.{Constant}
use Rattle.sym_exec.specs.Making.{Grows}
use Rattle.sym_exec.specs.Thread.{Doing, HandsOf, route_of}
use Rattle.sym_exec.specs.Executed.{Course, Executed, arguments_for, fails_at, thread_started, thread_done, with_thread, nothing}
use Rattle.sym_exec.specs.helpers.Threads.{HaveTerms}
use Rattle.sym_exec.proofs.Grown.{grows_none, grows_both, grows_made}
use Rattle.sym_exec.proofs.Sound.{start_sound, start_has, arguments_sound, thread_sound}
use Rattle.sym_exec.proofs.Values.{constant_value}
use Rattle.sym_exec.proofs.list_laws.Lists.{get_seam, split_at}
use Rattle.sym_laws.proofs.Lists.{long_front}
use Rattle.sym_laws.proofs.Steps.{IsFine, IsNext, all_on}

-- all terms of an execution are its nodes
pub record IsWell (x : Executed) : Type 0 where
  pub terms : AreTerms x.nodes
  pub sound : HaveTerms x

-- one execution extends another by `number` threads
pub record GoesOn (x y : Executed) (number : ℕ) : Type 0 where
  pub well : IsWell y
  pub grows : Grows x.nodes y.nodes
  pub more : List Course
  pub threads : y.symbolic.threads ≡ x.symbolic.threads ++ more
  pub count : length more ≡ number

-- the course of a thread
abbrev pub course_of : Walk → Doing → Course
course_of w d = record { name = w.name; tests = d.tests; accesses = d.accesses; creates = d.creates }

module _ (code : Code) (lawful : IsLawful code) (paths : Paths) where
  -- a thread at its start
  pub start_fine : (x : Executed) (w : Walk) → IsWell x
      → IsFine code w.function (thread_started code x w)
  start_fine x w well =
      let arguments = arguments_for x.symbolic.threads w.name in
      record {
        terms = (constant_value x.nodes (pos 0) [] well.terms).terms;
        sound = start_sound (ints_of code w.function) arguments x.symbolic.loads x.nodes (arguments_sound x w.name well.sound);
        ints = start_has (ints_of code w.function) arguments x.symbolic.loads x.nodes;
      }

  start_grows : (x : Executed) (w : Walk) → Grows x.nodes (thread_started code x w).nodes
  start_grows x w = let none : Node = Constant (pos 0) in grows_made x.nodes none

  abbrev fails_there : Executed → Walk → Option ℕ
  fails_there x w = fails_at paths (length x.symbolic.threads) w

  done_next : (x : Executed) (w : Walk) → IsWell x
      → IsNext code w.function (thread_started code x w) (thread_done code paths x w)
  done_next x w well =
      all_on (route_of code w (fails_there x w)) lawful w.places (thread_started code x w) (start_fine x w well)

  pub one_on : (x : Executed) (w : Walk) → IsWell x → GoesOn x (with_thread code paths x w) 1
  one_on x w well =
      let done = done_next x w well in
      record {
        well = record { terms = done.fine.terms; sound = thread_sound code paths x w lawful well.sound };
        grows = grows_both x.nodes (thread_started code x w).nodes (thread_done code paths x w).nodes (start_grows x w) done.begins.grows;
        more = course_of w (thread_done code paths x w) ∷ [];
        threads = refl;
        count = refl;
      }

  pub threads_on : (ws : List Walk) (x : Executed) → IsWell x → GoesOn x (fold (with_thread code paths) x ws) (length ws)
  threads_on [] x well = record { well = well; grows = grows_none x.nodes; more = []; threads = sym (append-nil x.symbolic.threads); count = refl }
  threads_on (w ∷ ws) x well =
      let one = one_on x w well in
      let next = with_thread code paths x w in
      let all = fold (with_thread code paths) next ws in
      let rest = threads_on ws next one.well in
      record {
        well = rest.well;
        grows = grows_both x.nodes next.nodes all.nodes one.grows rest.grows;
        more = one.more ++ rest.more;
        threads = rest.threads ∙ ap (λ xs. xs ++ rest.more) one.threads ∙ append_assoc x.symbolic.threads one.more rest.more;
        count = omega (arith, length-append one.more rest.more, one.count, rest.count);
      }

  module _ (nodes : List Node) (terms : AreTerms nodes) where
    -- the execution of a list of threads
    abbrev pub whole : List Walk → Executed
    whole ws = fold (with_thread code paths) (nothing nodes) ws

    at_start : IsWell (nothing nodes)
    at_start = record { terms = terms; sound = All-nil (λ (c : Course). All (HandsOf nodes) c.creates) }

    pub whole_on : (ws : List Walk) → GoesOn (nothing nodes) (whole ws) (length ws)
    whole_on ws = threads_on ws (nothing nodes) at_start

    pub counted : (ws : List Walk) → length (whole ws).symbolic.threads ≡ length ws
    counted ws = let all = whole_on ws in ap length all.threads ∙ all.count

    -- the course of the thread at a place, after those before it
    pub record IsFoundAt (ws : List Walk) (j : ℕ) (w : Walk) : Type 0 where
      pub well : IsWell (whole (take j ws))
      pub count : length (whole (take j ws)).symbolic.threads ≡ j
      pub course : slice_get (whole ws).symbolic.threads j ≡ Some (course_of w (thread_done code paths (whole (take j ws)) w))
      pub grows : Grows (thread_done code paths (whole (take j ws)) w).nodes (whole ws).nodes

    pub found_at_place : (ws : List Walk) (j : ℕ) (w : Walk) → slice_get ws j ≡ Some w → IsFoundAt ws j w
    found_at_place ws j w at =
        let front = whole_on (take j ws) in
        let x = whole (take j ws) in
        let y = with_thread code paths x w in
        let c = course_of w (thread_done code paths x w) in
        let one = one_on x w front.well in
        let rest = threads_on (drop (suc j) ws) y one.well in
        let count : length x.symbolic.threads ≡ j = counted (take j ws) ∙ long_front ws j w at in
        let is : whole ws ≡ fold (with_thread code paths) y (drop (suc j) ws) =
        ap whole (split_at ws j w at) ∙ fold-append (with_thread code paths) (nothing nodes) (take j ws) (w ∷ drop (suc j) ws) in
        let threads : (whole ws).symbolic.threads ≡ x.symbolic.threads ++ c ∷ rest.more =
        ap (λ (z : Executed). z.symbolic.threads) is ∙ rest.threads ∙ append_assoc x.symbolic.threads (c ∷ []) rest.more in
        record {
          well = front.well;
          count = count;
          course = ap (λ xs. slice_get xs j) threads ∙ ap (slice_get (x.symbolic.threads ++ c ∷ rest.more)) (sym count)
              ∙ get_seam x.symbolic.threads c rest.more;
          grows = subst (λ (z : Executed). Grows y.nodes z.nodes) (sym is) rest.grows;
        }
